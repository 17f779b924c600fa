-- Sizes by rounds: what is known after a round, of rows and of structs.
use Rattle.mv_linker.proofs.Common.{[], ℕ, ◌&&◌, ◌++◌, ◌+◌, ◌<◌, ◌>>=◌, ◌∙◌, ◌∷◌, ◌≡◌, ◌≤◌, AreDefined, AreSizes, AreSmall, Bool, Bundled, Defined, Field, IsDefined, IsSized, List, Module}
use Rattle.mv_linker.proofs.Common.{MutableReference, None, OfLeaf, OfStruct, Option, Plain, Published, Reference, Size, Some, StructDefinition, StructName, Token, Total, add-one, ap, ap₂}
use Rattle.mv_linker.proofs.Common.{arith, both_ways, cond, cond_some, definition_of, false, greater, is_some, le-leb, leaves_of, leaves_within, leb, leb-false, leb-true, length}
use Rattle.mv_linker.proofs.Common.{length-map, list_all, lt-leb, lt-ltb, ltb, ltb-true, map, name_at, name_of_struct, nat_tests, next_rows, none-some, on_bind, option_map, refl, row_of}
use Rattle.mv_linker.proofs.Common.{rows_after, same_Some, size_at, size_of_struct, size_of_token, slice_get, slice_get-map, slice_get_past, slice_get_within, small_size, struct_is_small}
use Rattle.mv_linker.proofs.Common.{struct_name, subst, suc, sum_of_fields, sym, take, total_of, true, unwrap_or, zero}
use Rattle.mv_linker.proofs.Lemmas.{all_from, all_at, name_parts, passing, past_from, element_at}
use Rattle.mv_bound_rules.proofs.Found.{some_fails}

-- the rows of the first modules, and of one more
pub rows_more : (rows : List (List (Option Size))) (ms : List Module) (ds : List (List Defined)) (i : ℕ) (m : Module) (d : List Defined) → slice_get ms i ≡ Some m → slice_get ds i ≡ Some d
    → next_rows rows (take (i + 1) ms) (take (i + 1) ds) ≡ next_rows rows (take i ms) (take i ds) ++ row_of rows m d ∷ []
rows_more rows ms ds i m d e f = ap (λ n. next_rows rows (take n ms) (take n ds)) (add-one i) ∙ more ms ds i e f
  where
    more : (ms : List Module) (ds : List (List Defined)) (i : ℕ) → slice_get ms i ≡ Some m → slice_get ds i ≡ Some d
        → next_rows rows (take (suc i) ms) (take (suc i) ds) ≡ next_rows rows (take i ms) (take i ds) ++ row_of rows m d ∷ []
    more [] ds i e f = absurd (none-some m e)
    more (x ∷ xs) [] i e f = absurd (none-some d f)
    more (x ∷ xs) (y ∷ ys) zero e f = ap₂ (λ a b. row_of rows a b ∷ []) (same_Some x m e) (same_Some y d f)
    more (x ∷ xs) (y ∷ ys) (suc i) e f = ap (λ l. row_of rows x y ∷ l) (more xs ys i e f)

pub rows_all : (rows : List (List (Option Size))) (ms : List Module) (ds : List (List Defined)) (n : ℕ) → length ms ≤ n → next_rows rows (take n ms) (take n ds) ≡ next_rows rows ms ds
rows_all rows [] ds zero h = refl
rows_all rows [] ds (suc n) h = refl
rows_all rows (m ∷ ms) ds zero h = absurd (omega (arith, h))
rows_all rows (m ∷ ms) [] (suc n) h = refl
rows_all rows (m ∷ ms) (d ∷ ds) (suc n) h = ap (λ l. row_of rows m d ∷ l) (rows_all rows ms ds n (omega (arith, h)))

-- a row by its module's place
row_at : (rows : List (List (Option Size))) (ms : List Module) (ds : List (List Defined)) (i : ℕ) (m : Module) (d : List Defined) → slice_get ms i ≡ Some m → slice_get ds i ≡ Some d
    → slice_get (next_rows rows ms ds) i ≡ Some (row_of rows m d)
row_at rows [] ds i m d e f = absurd (none-some m e)
row_at rows (x ∷ xs) [] i m d e f = absurd (none-some d f)
row_at rows (x ∷ xs) (y ∷ ys) zero m d e f = ap₂ (λ a b. Some (row_of rows a b)) (same_Some x m e) (same_Some y d f)
row_at rows (x ∷ xs) (y ∷ ys) (suc i) m d e f = row_at rows xs ys i m d e f

length-rows : (rows : List (List (Option Size))) (ms : List Module) (ds : List (List Defined)) → length ds ≡ length ms → length (next_rows rows ms ds) ≡ length ms
length-rows rows [] ds h = refl
length-rows rows (x ∷ xs) [] h = absurd (omega (arith, h))
length-rows rows (x ∷ xs) (y ∷ ys) h = (let r = length-rows rows xs ys (omega (arith, h)) in omega (arith, r))

-- what is known of a struct within a nesting: its size, which is small, or that it has more leaves if it has any
abbrev KnownWithin : List Module → ℕ → StructName → Option Size → Type 0
KnownWithin modules k name None = (n : ℕ) → leaves_within k modules name ≡ Some n → 256 < n
KnownWithin modules k name (Some s) = IsSized modules name s × (s.leaves ≤ 256) × (s.nesting ≤ 8)

abbrev at_place : List (List (Option Size)) → ℕ → ℕ → Option Size
at_place rows i j = slice_get rows i >>= λ row. unwrap_or (slice_get row j) None

-- what is known of fields within a nesting
abbrev HasLeaves : (ℕ → Option ℕ) → ℕ → ℕ → Type 0
HasLeaves leaves n nesting = (q : ℕ) → leaves q ≡ cond (leb nesting q) (Some n) None

-- two sums
sum_two : (a b n m q : ℕ) → (cond (leb a q) (Some n) None >>= λ x. cond (leb b q) (Some m) None >>= λ y. Some (x + y)) ≡ cond (leb (greater a b) q) (Some (n + m)) None
sum_two a b n m q = grind (arith, nat_tests)

module _ (modules bundle : List Module) (handles : List (List Defined)) (a : AreDefined modules bundle handles) where
  -- what is known of each struct of the bundle
  abbrev Knows : ℕ → List (List (Option Size)) → Type 0
  Knows k rows = (i j : ℕ) (name : StructName) → name_at bundle i j ≡ Some name → KnownWithin modules k name (at_place rows i j)

  abbrev leaves_at : ℕ → Module → Token → Option ℕ
  leaves_at q m t = leaves_of (leaves_within q modules) m t

  abbrev TokenKnown : ℕ → Module → Token → Option Size → Type 0
  TokenKnown k m t None = (n : ℕ) → leaves_at k m t ≡ Some n → 256 < n
  TokenKnown k m t (Some s) = HasLeaves (λ q. leaves_at q m t) s.leaves s.nesting

  -- a struct that a field holds
  struct_known : (k : ℕ) (m : Module) (h : ℕ) (name : StructName) (o : Option Size) → struct_name m h ≡ Some name → KnownWithin modules k name o → TokenKnown k m (Plain (OfStruct h)) o
  struct_known k m h name None e known = λ n f. known n (sym (ap (λ o. o >>= leaves_within k modules) e) ∙ f)
  struct_known k m h name (Some s) e known = λ q. ap (λ o. o >>= leaves_within q modules) e ∙ known.0 q

  defined_known : (k : ℕ) (rows : List (List (Option Size))) → Knows k rows → (m : Module) (h : ℕ) (d : Defined) → IsDefined modules bundle m h d → TokenKnown k m (Plain (OfStruct h)) (size_at rows d)
  defined_known k rows knows m h (Published size) is = λ q. ap (λ o. o >>= leaves_within q modules) is.1 ∙ is.2 q
  defined_known k rows knows m h (Bundled i j) is = struct_known k m h is.0 (at_place rows i j) is.1 (knows i j is.0 is.2)

  token_known : (k : ℕ) (rows : List (List (Option Size))) → Knows k rows → (i : ℕ) (m : Module) (ds : List Defined) → slice_get bundle i ≡ Some m → slice_get handles i ≡ Some ds → (t : Token)
      → TokenKnown k m t (size_of_token rows ds t)
  token_known k rows knows i m ds e f (Plain (OfLeaf kind)) = λ q. sym (ap (λ b. cond b (Some 1) None) (le-leb 0 q (omega arith)))
  token_known k rows knows i m ds e f (Reference t) = λ n g. absurd (none-some n g)
  token_known k rows knows i m ds e f (MutableReference t) = λ n g. absurd (none-some n g)
  token_known k rows knows i m ds e f (Plain (OfStruct h)) = by_defined (slice_get ds h) refl
    where
      by_defined : (o : Option Defined) → slice_get ds h ≡ o → TokenKnown k m (Plain (OfStruct h)) (o >>= size_at rows)
      by_defined (Some d) g = defined_known k rows knows m h d (a.each i h m ds d e f g)
      by_defined None g = λ n l. struct_at n l (slice_get_past m.struct_handles h (past_from ds m.struct_handles h (sym (a.count i m ds e f)) g))
        where
          struct_at : (n : ℕ) → leaves_at k m (Plain (OfStruct h)) ≡ Some n → slice_get m.struct_handles h ≡ None → 256 < n
          struct_at n l none = absurd (none-some n (rw none at l))

  abbrev fields_at : ℕ → Module → List Field → Option ℕ
  fields_at q m fs = sum_of_fields (leaves_at q m) fs

  abbrev FieldsKnown : ℕ → Module → List Field → Option Total → Type 0
  FieldsKnown k m fs None = (n : ℕ) → fields_at k m fs ≡ Some n → 256 < n
  FieldsKnown k m fs (Some t) = HasLeaves (λ q. fields_at q m fs) t.leaves t.nesting

  -- one more field before the others
  field_more : (k : ℕ) (m : Module) (f : Field) (fs : List Field) (s : Option Size) (r : Option Total) → TokenKnown k m f.token s → FieldsKnown k m fs r
      → FieldsKnown k m (f ∷ fs) (s >>= λ s. r >>= λ r. Some (record { leaves = s.leaves + r.leaves; nesting = greater s.nesting r.nesting }))
  field_more k m f fs None r token rest = λ n e.
      on_bind (leaves_at k m f.token) _ n e (λ x is e1. on_bind (fields_at k m fs) _ n e1 (λ y is2 e2. omega (arith, token x is, same_Some (x + y) n e2)))
  field_more k m f fs (Some s) None token rest = λ n e.
      on_bind (leaves_at k m f.token) _ n e (λ x is e1. on_bind (fields_at k m fs) _ n e1 (λ y is2 e2. omega (arith, rest y is2, same_Some (x + y) n e2)))
  field_more k m f fs (Some s) (Some r) token rest = λ q.
      ap₂ (λ x y. x >>= λ a. y >>= λ b. Some (a + b)) (token q) (rest q) ∙ sum_two s.nesting r.nesting s.leaves r.leaves q

  fields_known : (k : ℕ) (rows : List (List (Option Size))) → Knows k rows → (i : ℕ) (m : Module) (ds : List Defined) → slice_get bundle i ≡ Some m → slice_get handles i ≡ Some ds → (fs : List Field)
      → FieldsKnown k m fs (total_of (size_of_token rows ds) fs)
  fields_known k rows knows i m ds e f [] = λ q. sym (ap (λ b. cond b (Some 0) None) (le-leb 0 q (omega arith)))
  fields_known k rows knows i m ds e f (g ∷ gs) =
      field_more k m g gs (size_of_token rows ds g.token) (total_of (size_of_token rows ds) gs) (token_known k rows knows i m ds e f g.token) (fields_known k rows knows i m ds e f gs)

  -- a struct of fields
  abbrev sized_as : Total → Size
  sized_as t = record { leaves = t.leaves; nesting = t.nesting + 1 }

  struct_of_fields : (k : ℕ) (m : Module) (name : StructName) (fs : List Field) (o : Option Total) → definition_of modules name ≡ Some (m, fs) → k < 8 → FieldsKnown k m fs o
      → KnownWithin modules (suc k) name (o >>= small_size)
  struct_of_fields k m name fs None e low known = λ n g. known n (sym (ap (λ o. o >>= λ d. sum_of_fields (leaves_of (leaves_within k modules) d.0) d.1) e) ∙ g)
  struct_of_fields k m name fs (Some t) e low known = by_leaves (leb t.leaves 256) (ltb t.nesting 8) refl refl
    where
      within : (q : ℕ) → leaves_within (suc q) modules name ≡ cond (leb t.nesting q) (Some t.leaves) None
      within q = ap (λ o. o >>= λ d. sum_of_fields (leaves_of (leaves_within q modules) d.0) d.1) e ∙ known q

      exact : IsSized modules name (sized_as t)
      exact zero = sym (ap (λ b. cond b (Some t.leaves) None) (lt-leb (t.nesting + 1) 0 (omega arith)))
      exact (suc q) = within q ∙ deeper t.nesting t.leaves q
        where
          deeper : (a n q : ℕ) → cond (leb a q) (Some n) None ≡ cond (leb (a + 1) (suc q)) (Some n) None
          deeper a n q = grind (arith, nat_tests)

      by_leaves : (b c : Bool) → leb t.leaves 256 ≡ b → ltb t.nesting 8 ≡ c → KnownWithin modules (suc k) name (cond (b && c) (Some (sized_as t)) None)
      by_leaves true true p q = (exact, leb-true t.leaves 256 p, omega (arith, ltb-true t.nesting 8 q))
      by_leaves true false p q = λ n g.
          let had = cond_some (leb t.nesting k) t.leaves n (sym (within k) ∙ g) in
          let shallow = leb-true t.nesting k had.0 in
          absurd (both_ways (ltb t.nesting 8) q (lt-ltb t.nesting 8 (omega (arith, shallow, low))))
      by_leaves false c p q = λ n g.
          let had = cond_some (leb t.nesting k) t.leaves n (sym (within k) ∙ g) in
          omega (arith, had.1, leb-false t.leaves 256 p)

  -- a struct of the bundle, and where it stands
  record IsAt (i j : ℕ) (name : StructName) : Type 0 where
    pub home : Module
    pub definition : StructDefinition
    pub handles_there : List Defined
    pub at_home : slice_get bundle i ≡ Some home
    pub at_index : slice_get home.structs j ≡ Some definition
    pub at_handles : slice_get handles i ≡ Some handles_there
    pub named : name_of_struct home definition ≡ Some name

  is_at : (i j : ℕ) (name : StructName) → name_at bundle i j ≡ Some name → IsAt i j name
  is_at i j name e = name_parts bundle i j name e (λ m d is is2 e2.
      let there = element_at handles i (omega (arith, slice_get_within bundle i m is, a.len)) in
      record { home = m; definition = d; handles_there = there.0; at_home = is; at_index = is2; at_handles = there.1; named = e2 })

  -- the entry of a row
  entry_is : (rows : List (List (Option Size))) (i j : ℕ) (name : StructName) (s : IsAt i j name)
      → at_place (next_rows rows bundle handles) i j ≡ size_of_struct rows s.handles_there s.definition.fields
  entry_is rows i j name s =
      rw (row_at rows bundle handles i s.home s.handles_there s.at_home s.at_handles, slice_get-map, s.at_index) refl

  round_knows : (k : ℕ) (rows : List (List (Option Size))) → k < 8 → Knows k rows → Knows (suc k) (next_rows rows bundle handles)
  round_knows k rows low knows i j name e =
      let s = is_at i j name e in
      let own = a.own i j s.home s.definition s.at_home s.at_index in
      let same : own.0 ≡ name = same_Some own.0 name (sym own.1 ∙ s.named) in
      let defined : definition_of modules name ≡ Some (s.home, s.definition.fields) = ap (definition_of modules) (sym same) ∙ own.2 in
      subst (λ (o : Option Size). KnownWithin modules (suc k) name o) (sym (entry_is rows i j name s))
      (struct_of_fields k s.home name s.definition.fields (total_of (size_of_token rows s.handles_there) s.definition.fields) defined low (fields_known k rows knows i s.home s.handles_there s.at_home s.at_handles s.definition.fields))

  rows_know : (k : ℕ) → k ≤ 8 → Knows k (rows_after k bundle handles)
  rows_know zero low = λ i j name e n g. absurd (none-some n g)
  rows_know (suc k) low = round_knows k (rows_after k bundle handles) (omega (arith, low)) (rows_know k (omega (arith, low)))

  abbrev after : ℕ → List (List (Option Size))
  after rounds = rows_after rounds bundle handles

  length_after : (j : ℕ) → length (after (suc j)) ≡ length bundle
  length_after j = length-rows (after j) bundle handles a.len

  row_after : (j i : ℕ) (m : Module) → slice_get bundle i ≡ Some m → (row : List (Option Size)) × (slice_get (after (suc j)) i ≡ Some row) × (length row ≡ length m.structs)
  row_after j i m e =
      let low = slice_get_within bundle i m e in
      let there = element_at handles i (omega (arith, low, a.len)) in
      let rows = after j in
      (row_of rows m there.0, row_at rows bundle handles i m there.0 e there.1, length-map m.structs (λ (d : StructDefinition). size_of_struct rows there.0 d.fields))

  -- a struct is small exactly where its size is known
  small_from : (m : Module) (d : StructDefinition) (name : StructName) (s : Size) → name_of_struct m d ≡ Some name → KnownWithin modules 8 name (Some s) → struct_is_small modules m d ≡ true
  small_from m d name s e known = rw (e, known.0 8, le-leb s.nesting 8 known.2) (le-leb s.leaves 256 known.1)

  not_small : (m : Module) (d : StructDefinition) (name : StructName) → name_of_struct m d ≡ Some name → KnownWithin modules 8 name None → struct_is_small modules m d ≡ true → ⊥
  not_small m d name e known small =
      let n = passing (λ n. leb n 256) (leaves_within 8 modules name) (rw e at small) in
      omega (arith, leb-true n.0 256 n.2, known n.0 n.1)

  pub not_known : (rows : List (List (Option Size))) → rows ≡ after 8 → list_all (list_all is_some) rows ≡ false → AreSmall modules bundle → ⊥
  not_known rows is fails small =
      let r = some_fails (list_all is_some) rows fails in
      let entry = some_fails is_some r.1 r.3 in
      let i = r.0 in
      let j = entry.0 in
      let at : slice_get (after 8) i ≡ Some r.1 = sym (ap (λ l. slice_get l i) is) ∙ r.2 in
      let low = slice_get_within (after 8) i r.1 at in
      let m = element_at bundle i (omega (arith, low, length_after 7)) in
      let row = row_after 7 i m.0 m.1 in
      let same : row.0 ≡ r.1 = same_Some row.0 r.1 (sym row.1 ∙ at) in
      let inside = slice_get_within r.1 j entry.1 entry.2 in
      let long : length r.1 ≡ length m.0.structs = sym (ap length same) ∙ row.2 in
      let d = element_at m.0.structs j (omega (arith, inside, long)) in
      let own = a.own i j m.0 d.0 m.1 d.1 in
      let named : name_at bundle i j ≡ Some own.0 = rw (m.1, d.1) own.1 in
      let unknown : at_place (after 8) i j ≡ None = rw (at, entry.2) (none_is entry.1 entry.3) in
      not_small m.0 d.0 own.0 own.1 (subst (λ (o : Option Size). KnownWithin modules 8 own.0 o) unknown (rows_know 8 (omega arith) i j own.0 named))
      (all_at (struct_is_small modules m.0) m.0.structs j d.0 (all_at (λ m. list_all (struct_is_small modules m) m.structs) bundle i m.0 small m.1) d.1)
    where
      none_is : (o : Option Size) → is_some o ≡ false → o ≡ None
      none_is o h = grind (arith, h)

  -- where each is known
  size_at_after : (rounds : ℕ) (sizes : List (List Size)) → after rounds ≡ map (map (λ (s : Size). Some s)) sizes → (i j : ℕ) (row : List Size) (s : Size) → slice_get sizes i ≡ Some row
      → slice_get row j ≡ Some s
      → at_place (after rounds) i j ≡ Some s
  size_at_after rounds sizes is i j row s e f =
      rw (is, slice_get-map, e, slice_get-map, f) refl

  pub sizes_known : (rounds : ℕ) → 0 < rounds → rounds ≤ 8 → (sizes : List (List Size)) → after rounds ≡ map (map (λ (s : Size). Some s)) sizes
      → AreSizes modules bundle sizes × AreSmall modules bundle
  sizes_known zero some few sizes is = absurd (omega (arith, some))
  sizes_known (suc q) some few sizes is = (
    record {
      len = long;
      count = λ i m row e f.
          let r = row_after q i m e in
          let same : r.0 ≡ map (λ (s : Size). Some s) row =
          same_Some r.0 (map (λ (s : Size). Some s) row) (sym r.1 ∙ ap (λ l. slice_get l i) is ∙ slice_get-map (map (λ (s : Size). Some s)) sizes i ∙ ap (option_map (map (λ (s : Size). Some s))) f) in
          sym (length-map row (λ (s : Size). Some s)) ∙ sym (ap length same) ∙ r.2;
      each = λ i j name row s e f g.
          subst (λ (o : Option Size). KnownWithin modules (suc q) name o) (size_at_after (suc q) sizes is i j row s f g) (rows_know (suc q) few i j name e);
    },
    all_from (λ m. list_all (struct_is_small modules m) m.structs) bundle
        (λ i m e. all_from (struct_is_small modules m) m.structs
        (λ j d f.
        let own = a.own i j m d e f in
        let named : name_at bundle i j ≡ Some own.0 = rw (e, f) own.1 in
        let low = slice_get_within bundle i m e in
        let row = element_at sizes i (omega (arith, low, long)) in
        let r = row_after q i m e in
        let same : r.0 ≡ map (λ (s : Size). Some s) row.0 =
        same_Some r.0 (map (λ (s : Size). Some s) row.0) (sym r.1 ∙ ap (λ l. slice_get l i) is ∙ slice_get-map (map (λ (s : Size). Some s)) sizes i ∙ ap (option_map (map (λ (s : Size). Some s))) row.1) in
        let inside = slice_get_within m.structs j d f in
        let wide : length row.0 ≡ length m.structs = sym (length-map row.0 (λ (s : Size). Some s)) ∙ sym (ap length same) ∙ r.2 in
        let s = element_at row.0 j (omega (arith, inside, wide)) in
        small_from m d own.0 s.0 own.1 (subst (λ (o : Option Size). KnownWithin modules (suc q) own.0 o) (size_at_after (suc q) sizes is i j row.0 s.0 row.1 s.1) (rows_know (suc q) few i j own.0 named)))),
  )
    where
      long : length sizes ≡ length bundle
      long = sym (length-map sizes (map (λ (s : Size). Some s))) ∙ sym (ap length is) ∙ length_after q
