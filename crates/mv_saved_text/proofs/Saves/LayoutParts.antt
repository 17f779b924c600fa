-- Of what the fields of structs are made, and the kinds of their leaves.
use Rattle.mv_saved_text.proofs.Common.{[], ◌++◌, ◌+◌, ◌-◌, ◌<◌, ◌∙◌, ◌∷◌, ◌≡◌, ◌≢◌, Bool, List, None, Option, Some, add-one, ap, append-nil, append_assoc, ap₂, arith, cond, drop, false, get_or}
use Rattle.mv_saved_text.proofs.Common.{length, refl, subst, suc, sym, take, true, ℕ, drop-cons, length-take-le, take_more, get_or_from_slice_get, none-some, slice_get_within, list_all}
use Rattle.mv_saved_text.proofs.Common.{option_map_or, is_some, nat_le, slice_get, leaves_within, Module, StructDefinition, name_at, name_of_struct, struct_abilities, struct_name}
use Rattle.mv_saved_text.proofs.Common.{StructName, same_struct, ◌>>=◌, PublishedModule, Definition, Field, Abilities, LeafKind, Token, Plain, OfLeaf, OfStruct, on_bind}
use Rattle.mv_saved_text.proofs.Common.{map-is, abilities_at, all_at, name-found, IsStore, tables_in, AreParts, IsMadeOf, IsPart, keyed_in, is_of_value}
use Rattle.mv_saved_text.proofs.Common.{struct_is_small, Part, Nothing, on_found, structs_in_fields, structs_in_part, structs_in_parts, structs_in_token, structs_within, is_keyed, kinds_of_fields}
use Rattle.mv_saved_text.proofs.Common.{kinds_of_token, kinds_within, leaf_kinds, IsOfStore, PutsKinds, keyed_at, kinds_at, kinds_of_part, kinds_of_parts, keyed_from}
use Rattle.mv_saved_text.proofs.Common.{IsSome, definition_at, some-of}
use Rattle.mv_interface.specs.Handles.{IsStructAt}
use Rattle.mv_interface.specs.Shapes.{has_key}
use Rattle.mv_interface.specs.declared.shapes.Part.TheVariants.{Leaf, Struct}
use Rattle.mv_saved_text.proofs.Loads.LeafKinds.{kinds-count}
use Rattle.mv_linker.proofs.Named.{defined, named}

-- ---- the kinds of the leaves of parts, as they are put one after the other

-- these kinds before others, if there are any
abbrev before : List LeafKind → Option (List LeafKind) → Option (List LeafKind)
before ks o = o >>= λ rest. Some (ks ++ rest)

before-both : (ks ls : List LeafKind) (o : Option (List LeafKind)) → before ks (before ls o) ≡ before (ks ++ ls) o
before-both ks ls None = refl
before-both ks ls (Some ms) = ap Some (sym (append_assoc ks ls ms))

-- what was put of a part
put-true : (o : Option (List LeafKind)) (old new : List LeafKind) → PutsKinds o true old new → (ks : List LeafKind) × (o ≡ Some ks) × (new ≡ old ++ ks)
put-true None old new h = cc
put-true (Some ks) old new h = (ks, refl, h.1)

pub put-false : (o : Option (List LeafKind)) (old new : List LeafKind) → PutsKinds o false old new → o ≡ None
put-false None old new h = refl
put-false (Some ks) old new h = cc

module _ (modules : List Module) (depth : ℕ) (parts : List Part) where
  -- those of so many parts were put
  abbrev pub ArePut : ℕ → List LeafKind → List LeafKind → Type 0
  ArePut i old new = (ks : List LeafKind) × (new ≡ old ++ ks) × (kinds_of_parts modules depth parts ≡ before ks (kinds_of_parts modules depth (drop i parts)))

  module _ (i : ℕ) (d : Part) (lt : i < length parts) (old new : List LeafKind) (h : ArePut i old new) where
    abbrev part : Part
    part = get_or parts i d

    split : drop i parts ≡ part ∷ drop (i + 1) parts
    split = drop-cons parts i d lt ∙ ap (λ n. part ∷ drop n parts) (sym (add-one i))

    -- the kinds from this part on
    following : (o : Option (List LeafKind)) → kinds_of_part modules depth part ≡ o
        → kinds_of_parts modules depth parts ≡ before h.0 (o >>= λ first. before first (kinds_of_parts modules depth (drop (i + 1) parts)))
    following o e =
        h.2 ∙ ap (λ l. before h.0 (kinds_of_parts modules depth l)) split
        ∙ ap (λ x. before h.0 (x >>= λ first. before first (kinds_of_parts modules depth (drop (i + 1) parts)))) e

    pub put-more : (there : Bool) (after : List LeafKind) → there ≡ true → PutsKinds (kinds_of_part modules depth part) there new after → ArePut (i + 1) old after
    put-more there after holds put =
        let one = put-true (kinds_of_part modules depth part) new after (subst (λ (b : Bool). PutsKinds (kinds_of_part modules depth part) b new after) holds put) in (
          h.0 ++ one.0,
          one.2 ∙ ap (λ l. l ++ one.0) h.1 ∙ append_assoc old h.0 one.0,
          following (Some one.0) one.1 ∙ before-both h.0 one.0 (kinds_of_parts modules depth (drop (i + 1) parts)),
        )

-- ---- of what a field is made

module _ (modules : List Module) where
  named-part : (m : Module) (h : ℕ) (d : Definition) → IsStructAt modules m h d → struct_name m h ≡ name_at modules d.place d.index
  named-part m h d at = at.named ∙ sym (name-found modules d.place d.index at.home at.name at.there at.index)

  no_kinds : (depth : ℕ) (o : Option StructName) → is_some o ≡ false → (o >>= kinds_within depth modules) ≡ None
  no_kinds depth o e = grind arith

  kindless : (m : Module) (depth : ℕ) (t : Token) → is_of_value m t ≡ false → kinds_of_token (kinds_within depth modules) m t ≡ None
  kindless m depth (Plain (OfLeaf kind)) e = absurd (cc)
  kindless m depth (Plain (OfStruct h)) e = no_kinds depth (struct_name m h) e
  kindless _ _ _ _ = refl

  no_structs : (depth : ℕ) (s : StructName) (o : Option StructName) → is_some o ≡ false → option_map_or (structs_within depth modules s) o 0 ≡ 0
  no_structs depth s o e = grind arith

  structless : (m : Module) (depth : ℕ) (s : StructName) (t : Token) → is_of_value m t ≡ false → structs_in_token (structs_within depth modules s) m t ≡ 0
  structless m depth s (Plain (OfStruct h)) e = no_structs depth s (struct_name m h) e
  structless _ _ _ _ _ = refl

  -- a field of a type has the leaves of its part
  part-kinds : (m : Module) (depth : ℕ) (t : Token) (part : Part) → IsPart modules m t part → kinds_of_token (kinds_within depth modules) m t ≡ kinds_of_part modules depth part
  part-kinds m depth t (Leaf kind) is = ap (kinds_of_token (kinds_within depth modules) m) is
  part-kinds m depth t (Struct d) is = ap (kinds_of_token (kinds_within depth modules) m) is.1 ∙ ap (λ o. o >>= kinds_within depth modules) (named-part m is.0 d is.2)
  part-kinds m depth t Nothing is = kindless m depth t is

  -- and as many values of each struct
  part-structs : (m : Module) (depth : ℕ) (s : StructName) (t : Token) (part : Part) → IsPart modules m t part
      → structs_in_token (structs_within depth modules s) m t ≡ structs_in_part depth modules s part
  part-structs m depth s t (Leaf kind) is = ap (structs_in_token (structs_within depth modules s) m) is
  part-structs m depth s t (Struct d) is = ap (structs_in_token (structs_within depth modules s) m) is.1 ∙ ap (λ o. option_map_or (structs_within depth modules s) o 0) (named-part m is.0 d is.2)
  part-structs m depth s t Nothing is = structless m depth s t is

  -- fields have the kinds of their parts
  parts-kinds : (m : Module) (k : ℕ) (fs : List Field) (parts : List Part) → AreParts modules m fs parts
      → kinds_of_fields (kinds_of_token (kinds_within k modules) m) fs ≡ kinds_of_parts modules k parts
  parts-kinds m k [] [] h = refl
  parts-kinds m k (f ∷ fs) (p ∷ parts) h =
      ap₂ (λ (a b : Option (List LeafKind)). a >>= λ first. b >>= λ rest. Some (first ++ rest)) (part-kinds m k f.token p h.0) (parts-kinds m k fs parts h.1)
  parts-kinds _ _ _ _ h = absurd h

  -- and as many values of each struct
  parts-structs : (m : Module) (k : ℕ) (s : StructName) (fs : List Field) (parts : List Part) → AreParts modules m fs parts
      → structs_in_fields (structs_in_token (structs_within k modules s) m) fs ≡ structs_in_parts k modules s parts
  parts-structs m k s [] [] h = refl
  parts-structs m k s (f ∷ fs) (p ∷ parts) h = ap₂ (λ (a b : ℕ). a + b) (part-structs m k s f.token p h.0) (parts-structs m k s fs parts h.1)
  parts-structs _ _ _ _ _ h = absurd h

  -- ---- whether a struct has key

  key-of : (m : Module) (o : Option StructDefinition) → option_map_or (has_key m) o false ≡ option_map_or (λ (a : Abilities). a.key) (o >>= struct_abilities m) false
  key-of m o = grind arith

  key-at : (d : Definition) (o : Option Module) → option_map_or (λ m. option_map_or (has_key m) (slice_get m.structs d.index) false) o false ≡ option_map_or (λ (a : Abilities). a.key)
      (o >>= λ m. slice_get m.structs d.index >>= struct_abilities m) false
  key-at d None = refl
  key-at d (Some m) = key-of m (slice_get m.structs d.index)

  pub keyed-same : (d : Definition) → keyed_in modules d ≡ is_keyed modules d
  keyed-same d = key-at d (slice_get modules d.place)
  -- ---- kinds that were put

-- a struct that is there is one of its own, with those of its parts
pub record HasStructs (modules : List Module) (k : ℕ) (d : Definition) (parts : List Part) : Type 0 where
  pub name : StructName
  pub named : name_at modules d.place d.index ≡ Some name
  pub each : (s : StructName) → structs_within (suc k) modules s name ≡ cond (same_struct name s) 1 0 + structs_in_parts k modules s parts

-- ---- over a store

module _ (published : List PublishedModule) (is : IsStore published) where
  abbrev modules : List Module
  modules = tables_in published

  -- the kinds of a struct are those of its parts
  pub made-kinds : (k : ℕ) (d : Definition) (parts : List Part) → IsMadeOf modules d parts → (name_at modules d.place d.index >>= kinds_within (suc k) modules) ≡ kinds_of_parts modules k parts
  made-kinds k d parts h =
      let own = defined published is d h.home h.definition h.there h.defined in
      ap (λ o. o >>= kinds_within (suc k) modules) (named published is d h.home h.definition own.0 h.there h.defined own.1)
      ∙ ap (λ o. o >>= λ x. kinds_of_fields (kinds_of_token (kinds_within k modules) x.0) x.1) own.2
      ∙ parts-kinds modules h.home k h.definition.fields parts h.fields

  -- a struct has as many values of another one as its parts say
  pub made-structs : (k : ℕ) (d : Definition) (parts : List Part) → IsMadeOf modules d parts → HasStructs modules k d parts
  made-structs k d parts h =
      let own = defined published is d h.home h.definition h.there h.defined in
      record {
        name = own.0;
        named = named published is d h.home h.definition own.0 h.there h.defined own.1;
        each = λ s.
            ap (λ o. option_map_or (λ (x : Module × List Field). cond (same_struct own.0 s) 1 0 + structs_in_fields (structs_in_token (structs_within k modules s) x.0) x.1) o 0) own.2
            ∙ ap (λ n. cond (same_struct own.0 s) 1 0 + n) (parts-structs modules h.home k s h.definition.fields parts h.fields);
      }

  -- so many were put
  pub puts-made : (depth : ℕ) (d : Definition) (parts : List Part) (there : Bool) (old new : List LeafKind) → depth ≢ 0 → IsMadeOf modules d parts
      → PutsKinds (kinds_of_parts modules (depth - 1) parts) there old new → PutsKinds (name_at modules d.place d.index >>= kinds_within depth modules) there old new
  puts-made depth d parts there old new deep h put =
      let P : Option (List LeafKind) → Type 0 = λ o. PutsKinds o there old new in
      let deeper : depth ≡ suc (depth - 1) = omega arith in
      subst P (sym (ap (λ n. name_at modules d.place d.index >>= kinds_within n modules) deeper ∙ made-kinds (depth - 1) d parts h)) put

  -- a struct with key has leaves
  pub keyed-kinds : (d : Definition) → is_keyed modules d ≡ true → (ks : List LeafKind) × ((name_at modules d.place d.index >>= leaf_kinds modules) ≡ Some ks)
  keyed-kinds d keyed =
      on_found (λ (a : Abilities). a.key) (abilities_at modules d.place d.index) keyed (λ a a_is has.
      on_bind (slice_get modules d.place) _ a a_is (λ m m_is e1.
      on_bind (slice_get m.structs d.index) _ a e1 (λ x x_is e2.
      let own = defined published is d m x m_is x_is in
      let small = all_at (struct_is_small modules m) m.structs d.index x (all_at (λ m. list_all (struct_is_small modules m) m.structs) modules d.place m is.links.small m_is) x_is in
      on_found (λ n. nat_le n 256) (name_of_struct m x >>= leaves_within 8 modules) small (λ n n_is le.
      let leaves : leaves_within 8 modules own.0 ≡ Some n = sym (ap (λ o. o >>= leaves_within 8 modules) own.1) ∙ n_is in
      let ks = map-is length (kinds_within 8 modules own.0) n (kinds-count modules 8 own.0 ∙ leaves) in
      (ks.0, ap (λ o. o >>= leaf_kinds modules) (named published is d m x own.0 m_is x_is own.1) ∙ ks.1)))))

  -- a struct that is there has a name
  pub defined-name : (d : Definition) → IsSome (definition_at modules d) → (name : StructName) × (name_at modules d.place d.index ≡ Some name)
  defined-name d there =
      let x = some-of (definition_at modules d) there in
      on_bind (slice_get modules d.place) _ x.0 x.1 (λ m m_is e.
      let own = defined published is d m x.0 m_is e in
      (own.0, named published is d m x.0 own.0 m_is e own.1))

-- the same where the modules are known to be those of a store
pub puts-struct : (ms : List Module) → IsOfStore ms → (depth : ℕ) (d : Definition) (parts : List Part) (there : Bool) (old new : List LeafKind) → depth ≢ 0 → IsMadeOf ms d parts
    → PutsKinds (kinds_of_parts ms (depth - 1) parts) there old new → PutsKinds (kinds_at depth ms d) there old new
puts-struct ms of depth d parts there old new deep h put =
    subst (λ (l : List Module). PutsKinds (kinds_at depth l d) there old new) of.2
    (puts-made of.0 of.1 depth d parts there old new deep (subst (λ (l : List Module). IsMadeOf l d parts) (sym of.2) h)
    (subst (λ (l : List Module). PutsKinds (kinds_of_parts l (depth - 1) parts) there old new) (sym of.2) put))

pub structs-there : (ms : List Module) → IsOfStore ms → (k : ℕ) (d : Definition) (parts : List Part) → IsMadeOf ms d parts → HasStructs ms k d parts
structs-there ms of k d parts = subst (λ (l : List Module). IsMadeOf l d parts → HasStructs l k d parts) of.2 (made-structs of.0 of.1 k d parts)

pub keyed-there : (ms : List Module) → IsOfStore ms → (d : Definition) → is_keyed ms d ≡ true → kinds_at 8 ms d ≡ None → ⊥
keyed-there ms of d keyed none =
    let ks = keyed-kinds of.0 of.1 d (subst (λ (l : List Module). is_keyed l d ≡ true) (sym of.2) keyed) in
    none-some ks.0 (sym none ∙ sym (subst (λ (l : List Module). Some ks.0 ≡ kinds_at 8 l d) of.2 (sym ks.1)))

pub name-there : (ms : List Module) → IsOfStore ms → (d : Definition) → IsSome (definition_at ms d) → (name : StructName) × (name_at ms d.place d.index ≡ Some name)
name-there ms of d = subst (λ (l : List Module). IsSome (definition_at l d) → (name : StructName) × (name_at l d.place d.index ≡ Some name)) of.2 (defined-name of.0 of.1 d)

-- ---- the structs with key

keyed-append : (k : ℕ) (ms : List Module) (m : Module) → keyed_from k (ms ++ m ∷ []) ≡ keyed_from k ms ++ keyed_at (k + length ms) m
keyed-append k [] m = append-nil (keyed_at k m) ∙ ap (λ n. keyed_at n m) (let e : k ≡ k + 0 = omega arith in e)
keyed-append k (n ∷ ms) m =
    ap (λ l. keyed_at k n ++ l) (keyed-append (k + 1) ms m ∙ ap (λ i. keyed_from (k + 1) ms ++ keyed_at i m) (let e : k + 1 + length ms ≡ k + suc (length ms) = omega arith in e))
    ∙ sym (append_assoc (keyed_at k n) (keyed_from (k + 1) ms) (keyed_at (k + suc (length ms)) m))

-- with those of one module more
pub keyed-more : (ms : List Module) (i : ℕ) (m : Module) (old new : List Definition) → slice_get ms i ≡ Some m → old ≡ keyed_from 0 (take i ms) → new ≡ old ++ keyed_at i m
    → new ≡ keyed_from 0 (take (i + 1) ms)
keyed-more ms i m old new at so_far added =
    let lt : i < length ms = slice_get_within ms i m at in
    let front : length (take i ms) ≡ i = length-take-le i ms (omega (arith, lt)) in
    let one : take (i + 1) ms ≡ take i ms ++ m ∷ [] = take_more ms i m lt ∙ ap (λ x. take i ms ++ x ∷ []) (get_or_from_slice_get ms i m m at) in
    added ∙ ap (λ l. l ++ keyed_at i m) so_far ∙ ap (λ n. keyed_from 0 (take i ms) ++ keyed_at n m) (let e : i ≡ 0 + length (take i ms) = omega (arith, front) in e)
    ∙ sym (keyed-append 0 (take i ms) m) ∙ sym (ap (keyed_from 0) one)
