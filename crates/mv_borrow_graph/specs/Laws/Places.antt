-- What stands where on the stack before and after some of its types are exchanged for others.
--   taken ++ rest       the types before, the topmost first
--   given ++ rest       the types after
use Rattle.std.proofs.Common.{◌≡◌, ℕ, ◌+◌, ◌-◌, ◌<◌, ◌≤◌, Bool, true, false, not, List, [], ◌∷◌, ◌++◌, length, reverse, Option, Some, None, slice_get}
use Rattle.std.proofs.Common.{refl, sym, ap, ◌∙◌, arith, true≢false, ⊎_elim, inl, inr, ◌⊎◌, eq-eqb}
use Rattle.std.specs.Prelude.{nat_lt}
use Rattle.std.specs.List.{list_all}
use Rattle.std.specs.Option.{option_map_or}
use Rattle.std.proofs.lemmas.Bool.{and_parts, and_from, ltb-true, lt-ltb, false≢true, cases_lt, ne_eqb}
use Rattle.std.proofs.lemmas.List.{reverse-append, length-reverse}
use Rattle.std.proofs.lemmas.List.Folds.{list_all-append}
use Rattle.mv_bound_rules.proofs.PlaceLemmas.{slice_get-first, slice_get-second}
use Rattle.mv_move_types.specs.declared.borrow.Node.{Node}
use Rattle.mv_move_types.specs.declared.borrow.Node.TheVariants.{Slot, Own, Glob, Temp}
use Rattle.mv_move_types.specs.declared.token.Token.{Token}
use Rattle.mv_move_types.specs.declared.token.Token.TheVariants.{Plain, Reference, MutableReference}
use Rattle.mv_move_types.specs.Module.{Module, FunctionDefinition}
use Rattle.mv_type_rules.specs.TypeRules.{Types}
use Rattle.mv_type_rules.specs.TypesHold.{Point, point_at}
use Rattle.mv_edges.specs.Edges.{same_node}
use Rattle.mv_certificate_rules.specs.BorrowRules.{is_mutable_token, is_reference_token}
use Rattle.mv_certificate_rules.specs.Nodes.{has_place, leads_out, leads_in}
use Rattle.mv_bound_rules.proofs.Entries.{all_at}

-- the node is no operand from this place on
abbrev pub is_under : ℕ → Node → Bool
is_under b (Slot l) = true
is_under b (Own l) = true
is_under b (Glob t) = true
is_under b (Temp k) = nat_lt k b

-- a mutable reference is a reference
pub mutable_is_reference : (t : Token) → is_mutable_token t ≡ true → is_reference_token t ≡ true
mutable_is_reference (Plain t) h = absurd (false≢true h)
mutable_is_reference (Reference t) h = refl
mutable_is_reference (MutableReference t) h = refl

there_weaker : {A : Type 0} (p q : A → Bool) → ((x : A) → p x ≡ true → q x ≡ true)
    → (o : Option A) → option_map_or p o false ≡ true → option_map_or q o false ≡ true
there_weaker p q f None h = absurd (false≢true h)
there_weaker p q f (Some x) h = f x h

pub place_weaker : (types : Types) (k : ℕ) → has_place is_mutable_token types k ≡ true → has_place is_reference_token types k ≡ true
place_weaker types k = there_weaker is_mutable_token is_reference_token mutable_is_reference (slice_get (reverse types) k)

-- what is true of each is true of each of the list the other way round
pub all_reverse : {A : Type 0} (p : A → Bool) (xs : List A) → list_all p xs ≡ true → list_all p (reverse xs) ≡ true
all_reverse p [] h = refl
all_reverse p (x ∷ xs) h =
    let parts = and_parts (p x) (list_all p xs) h in
    ap (list_all p) (reverse-append (x ∷ []) xs) ∙ list_all-append p (reverse xs) (x ∷ [])
    ∙ and_from (list_all p (reverse xs)) (list_all p (x ∷ [])) (all_reverse p xs parts.1) (and_from (p x) true parts.0 refl)

-- no type of a list of plain ones is a reference
pub plain_none : (types : Types) → list_all (λ t. not (is_reference_token t)) types ≡ true → (k : ℕ) → has_place is_reference_token types k ≡ true → ⊥
plain_none types h k = by_read (slice_get (reverse types) k) refl
  where
    by_read : (o : Option Token) → slice_get (reverse types) k ≡ o → option_map_or is_reference_token o false ≡ true → ⊥
    by_read None e t = false≢true t
    by_read (Some x) e t =
        let plain = all_at (λ t. not (is_reference_token t)) (reverse types) k x (all_reverse (λ t. not (is_reference_token t)) types h) e in
        false≢true (sym (ap not t) ∙ plain)

module _ (taken rest : Types) where
  place_under : (k : ℕ) → k < length rest → slice_get (reverse (taken ++ rest)) k ≡ slice_get (reverse rest) k
  place_under k h =
      let long : length (reverse rest) ≡ length rest = length-reverse rest in
      ap (λ xs. slice_get xs k) (reverse-append taken rest) ∙ slice_get-first (reverse rest) (reverse taken) k (omega (arith, h, long))

  -- under the exchange the stack is as below it
  pub has_under : (test : Token → Bool) (k : ℕ) → k < length rest → has_place test (taken ++ rest) k ≡ has_place test rest k
  has_under test k h = ap (λ o. option_map_or test o false) (place_under k h)

  -- from there on it is what is exchanged
  pub has_over : (test : Token → Bool) (j : ℕ) → has_place test (taken ++ rest) (length rest + j) ≡ has_place test taken j
  has_over test j =
      let long : length (reverse rest) ≡ length rest = length-reverse rest in
      ap (λ o. option_map_or test o false) (ap (λ xs. slice_get xs (length rest + j)) (reverse-append taken rest)
      ∙ slice_get-second (reverse rest) (reverse taken) (length rest + j) j (omega (arith, long)))

  -- a place is under the exchange, or is one of what is exchanged
  pub either_place : (test : Token → Bool) (k : ℕ) → has_place test (taken ++ rest) k ≡ true
      → (nat_lt k (length rest) ≡ true) ⊎ ((j : ℕ) × ((k ≡ length rest + j) × (has_place test taken j ≡ true)))
  either_place test k h =
      ⊎_elim
      (λ (low : k < length rest). inl (lt-ltb k (length rest) low))
      (λ (high : length rest ≤ k).
      let is : k ≡ length rest + (k - length rest) = omega arith in
      inr (k - length rest, (is, sym (has_over test (k - length rest)) ∙ ap (has_place test (taken ++ rest)) (sym is) ∙ h)))
      (cases_lt k (length rest))

-- two nodes that differ
pub under_apart : (b j : ℕ) (n : Node) → is_under b n ≡ true → same_node n (Temp (b + j)) ≡ false
under_apart b j (Slot l) h = refl
under_apart b j (Own l) h = refl
under_apart b j (Glob t) h = refl
under_apart b j (Temp k) h = let low : k < b = ltb-true k b h in ne_eqb k (b + j) (λ e. omega arith)

module _ (m : Module) (d : FunctionDefinition) (taken given rest : Types) where
  abbrev pub old : Point
  old = point_at m d (taken ++ rest)

  abbrev pub new : Point
  new = point_at m d (given ++ rest)

  -- what is under the exchange stays
  pub out_stays : (n : Node) → leads_out old n ≡ true → is_under (length rest) n ≡ true → leads_out new n ≡ true
  out_stays (Slot l) h u = h
  out_stays (Own l) h u = h
  out_stays (Glob t) h u = h
  out_stays (Temp k) h u =
      let low = ltb-true k (length rest) u in has_under given rest is_mutable_token k low ∙ sym (has_under taken rest is_mutable_token k low) ∙ h

  pub in_stays : (n : Node) → leads_in old n ≡ true → is_under (length rest) n ≡ true → leads_in new n ≡ true
  in_stays (Slot l) h u = h
  in_stays (Own l) h u = h
  in_stays (Glob t) h u = h
  in_stays (Temp k) h u =
      let low = ltb-true k (length rest) u in has_under given rest is_reference_token k low ∙ sym (has_under taken rest is_reference_token k low) ∙ h

  -- one place of what is taken, at most, is a reference
  abbrev pub OnlyAt : ℕ → Type 0
  OnlyAt j = (i : ℕ) → has_place is_reference_token taken i ≡ true → i ≡ j

  -- a node that isn't there is under the exchange
  pub out_under : (j : ℕ) → OnlyAt j → (n : Node) → leads_out old n ≡ true → same_node n (Temp (length rest + j)) ≡ false → is_under (length rest) n ≡ true
  out_under j only (Slot l) h ne = refl
  out_under j only (Own l) h ne = refl
  out_under j only (Glob t) h ne = refl
  out_under j only (Temp k) h ne =
      ⊎_elim (λ u. u)
      (λ at.
      let same : at.0 ≡ j = only at.0 (place_weaker taken at.0 at.1.1) in
      let is : k ≡ length rest + j = omega (arith, at.1.0, same) in
      absurd (true≢false (sym (eq-eqb k (length rest + j) is) ∙ ne)))
      (either_place taken rest is_mutable_token k h)

  pub in_under : (j : ℕ) → OnlyAt j → (n : Node) → leads_in old n ≡ true → same_node n (Temp (length rest + j)) ≡ false → is_under (length rest) n ≡ true
  in_under j only (Slot l) h ne = refl
  in_under j only (Own l) h ne = refl
  in_under j only (Glob t) h ne = refl
  in_under j only (Temp k) h ne =
      ⊎_elim (λ u. u)
      (λ at.
      let same : at.0 ≡ j = only at.0 at.1.1 in
      let is : k ≡ length rest + j = omega (arith, at.1.0, same) in
      absurd (true≢false (sym (eq-eqb k (length rest + j) is) ∙ ne)))
      (either_place taken rest is_reference_token k h)

  -- where none is a reference, every node is
  pub out_free : ((i : ℕ) → has_place is_reference_token taken i ≡ true → ⊥) → (n : Node) → leads_out old n ≡ true → is_under (length rest) n ≡ true
  out_free none (Slot l) h = refl
  out_free none (Own l) h = refl
  out_free none (Glob t) h = refl
  out_free none (Temp k) h = ⊎_elim (λ u. u) (λ at. absurd (none at.0 (place_weaker taken at.0 at.1.1))) (either_place taken rest is_mutable_token k h)

  pub in_free : ((i : ℕ) → has_place is_reference_token taken i ≡ true → ⊥) → (n : Node) → leads_in old n ≡ true → is_under (length rest) n ≡ true
  in_free none (Slot l) h = refl
  in_free none (Own l) h = refl
  in_free none (Glob t) h = refl
  in_free none (Temp k) h = ⊎_elim (λ u. u) (λ at. absurd (none at.0 at.1.1)) (either_place taken rest is_reference_token k h)
