-- What the old modules name stays there once a bundle joins that replaces what it may.
use Rattle.mv_linker.proofs.Common.{[], ℕ, ◌&&◌, ◌<◌, ◌∙◌, ◌∷◌, ◌≡◌, Abilities, Bool, List, Module, None, Option, Some, StructDefinition, StructName, and_parts}
use Rattle.mv_linker.proofs.Common.{ap, ap₂, arith, beq, booleans_Decides, both_there, bytes_eq, bytes_eq-Decides, declared_in, false, find_index, first_so, is_struct, name_of_struct}
use Rattle.mv_linker.proofs.Common.{option_map_or, own_name, refl, same_abilities, same_fields, same_Some, same_struct, same_struct_definition, second_so, slice_get, struct_abilities}
use Rattle.mv_linker.proofs.Common.{structs_stay, subst, suc, sym, true, zero}
use Rattle.std.proofs.lemmas.Option.{option_and_then_some}
use Rattle.mv_linker.proofs.Lemmas.{found_at, map_as_bind, struct_named_so}
use Rattle.mv_bound_rules.proofs.NameLemmas.{same_struct-same, named_in}
use Rattle.mv_bound_rules.proofs.Found.{find_first, found_first}
use Rattle.mv_interface.proofs.OwnDefinitions.{OwnsStructs}

-- ---- tests of two parts that are there

pub both-there : {A B : Type 0} (same : A → B → Bool) (a : Option A) (b : Option B) → both_there same a b ≡ true → (x : A) × (y : B) × (a ≡ Some x) × (b ≡ Some y) × (same x y ≡ true)
both-there same None b e = absurd cc
both-there same (Some x) None e = absurd cc
both-there same (Some x) (Some y) e = (x, y, refl, refl, e)

abbrev abilities_of : Bool → Bool → Bool → Bool → Abilities
abilities_of copy drop store key = record { copy = copy; drop = drop; store = store; key = key }

-- abilities that are one by the test are one
pub same_abilities-is : (a b : Abilities) → same_abilities a b ≡ true → a ≡ b
same_abilities-is a b h =
    let one = and_parts (beq a.copy b.copy && beq a.drop b.drop && beq a.store b.store) (beq a.key b.key) h in
    let two = and_parts (beq a.copy b.copy && beq a.drop b.drop) (beq a.store b.store) one.0 in
    let three = and_parts (beq a.copy b.copy) (beq a.drop b.drop) two.0 in
    let copy : a.copy ≡ b.copy = (booleans_Decides a.copy b.copy).0 three.0 in
    let drop : a.drop ≡ b.drop = (booleans_Decides a.drop b.drop).0 three.1 in
    let store : a.store ≡ b.store = (booleans_Decides a.store b.store).0 two.1 in
    let key : a.key ≡ b.key = (booleans_Decides a.key b.key).0 one.1 in
    ap (λ x. abilities_of x a.drop a.store a.key) copy ∙ ap (λ x. abilities_of b.copy x a.store a.key) drop
    ∙ ap (λ x. abilities_of b.copy b.drop x a.key) store ∙ ap (λ x. abilities_of b.copy b.drop b.store x) key

-- ---- structs of a replaced module

-- the definition at a place stays there
pub stays-at : (m n : Module) (ds es : List StructDefinition) (k : ℕ) (d : StructDefinition) → structs_stay m ds n es ≡ true → slice_get ds k ≡ Some d
    → (e : StructDefinition) × (slice_get es k ≡ Some e) × (same_struct_definition m d n e ≡ true)
stays-at m n [] es k d h p = absurd cc
stays-at m n (x ∷ ds) [] k d h p = absurd cc
stays-at m n (x ∷ ds) (y ∷ es) zero d h p = (y, refl, subst (λ z. same_struct_definition m z n y ≡ true) (same_Some x d p) (first_so (same_struct_definition m x n y) (structs_stay m ds n es) h))
stays-at m n (x ∷ ds) (y ∷ es) (suc k) d h p = stays-at m n ds es k d (second_so (same_struct_definition m x n y) (structs_stay m ds n es) h) p

-- and those before were there before
stayed-at : (m n : Module) (ds es : List StructDefinition) (j k : ℕ) (d e : StructDefinition) → structs_stay m ds n es ≡ true → slice_get ds k ≡ Some d → j < k → slice_get es j ≡ Some e
    → (c : StructDefinition) × (slice_get ds j ≡ Some c) × (same_struct_definition m c n e ≡ true)
stayed-at m n [] es j k d e h p l q = absurd cc
stayed-at m n (x ∷ ds) [] j k d e h p l q = absurd cc
stayed-at m n (x ∷ ds) (y ∷ es) j zero d e h p l q = absurd (omega (arith, l))
stayed-at m n (x ∷ ds) (y ∷ es) zero (suc k) d e h p l q = (x, refl, subst (λ z. same_struct_definition m x n z ≡ true) (same_Some y e q) (first_so (same_struct_definition m x n y) (structs_stay m ds n es) h))
stayed-at m n (x ∷ ds) (y ∷ es) (suc j) (suc k) d e h p l q = stayed-at m n ds es j k d e (second_so (same_struct_definition m x n y) (structs_stay m ds n es) h) p (omega (arith, l)) q

pub so-struct : (m : Module) (name : StructName) (d : StructDefinition) → name_of_struct m d ≡ Some name → is_struct m name d ≡ true
so-struct m name d e = subst (λ (x : Option StructName). option_map_or (λ own. same_struct own name) x false ≡ true) (sym e) (same_struct-same name)

-- a module that takes another's place, both of one name and with their own structs
pub record Replaces (m n : Module) : Type 0 where
  pub owns : OwnsStructs m
  pub new_owns : OwnsStructs n
  pub named : own_name m ≡ own_name n
  pub stays : structs_stay m m.structs n n.structs ≡ true

module _ (m n : Module) (r : Replaces m n) where
  -- the parts of a definition that stays
  pub parts-stay : (d e : StructDefinition) → same_struct_definition m d n e ≡ true
      → (both_there (λ (a b : StructName). bytes_eq a.name b.name) (name_of_struct m d) (name_of_struct n e) ≡ true)
      × (both_there same_abilities (struct_abilities m d) (struct_abilities n e) ≡ true) × (same_fields m d.fields n e.fields ≡ true)
  parts-stay d e h =
      let one = and_parts (both_there (λ (a b : StructName). bytes_eq a.name b.name) (name_of_struct m d) (name_of_struct n e) && both_there same_abilities (struct_abilities m d) (struct_abilities n e)) (same_fields m d.fields n e.fields) h in
      let two = and_parts (both_there (λ (a b : StructName). bytes_eq a.name b.name) (name_of_struct m d) (name_of_struct n e)) (both_there same_abilities (struct_abilities m d) (struct_abilities n e)) one.0 in
      (two.0, two.1, one.1)

  -- definitions that are one have one name
  one_name : (j : ℕ) (d e : StructDefinition) → slice_get m.structs j ≡ Some d → slice_get n.structs j ≡ Some e → same_struct_definition m d n e ≡ true
      → (name : StructName) × (name_of_struct m d ≡ Some name) × (name_of_struct n e ≡ Some name)
  one_name j d e p q h =
      let b = both-there (λ (a b : StructName). bytes_eq a.name b.name) (name_of_struct m d) (name_of_struct n e) (parts-stay d e h).0 in
      let homes : b.0.home ≡ b.1.home = same_Some b.0.home b.1.home (sym (r.owns j d b.0 p b.2) ∙ r.named ∙ r.new_owns j e b.1 q b.3) in
      let names : b.0.name ≡ b.1.name = (bytes_eq-Decides b.0.name b.1.name).0 b.4 in
      (b.0, b.2, b.3 ∙ ap Some (sym (ap₂ named_in homes names)))

  -- an old struct is found at its place
  pub struct-stays : (name : StructName) (k : ℕ) → find_index (is_struct m name) m.structs ≡ Some k → find_index (is_struct n name) n.structs ≡ Some k
  struct-stays name k e =
      let f = found_at (is_struct m name) m.structs k e in
      let s = stays-at m n m.structs n.structs k f.entry r.stays f.at in
      let o = one_name k f.entry s.0 f.at s.1 s.2 in
      let same : o.0 ≡ name = same_Some o.0 name (sym o.1 ∙ struct_named_so (name_of_struct m f.entry) name f.passes) in
      find_first (is_struct n name) n.structs k s.0 s.1 (so-struct n name s.0 (o.2 ∙ ap Some same)) (λ j y l at passes.
      let b = stayed-at m n m.structs n.structs j k f.entry y r.stays f.at l at in
      let p = one_name j b.0 y b.1 at b.2 in
      let again : p.0 ≡ name = same_Some p.0 name (sym p.2 ∙ struct_named_so (name_of_struct n y) name passes) in
      found_first (is_struct m name) m.structs k e j b.0 l b.1 (so-struct m name b.0 (p.1 ∙ ap Some again)))

  -- with its abilities
  pub declared-stays : (name : StructName) (a : Abilities) → declared_in name m ≡ Some a → declared_in name n ≡ Some a
  declared-stays name a e = option_and_then_some _ (find_index (is_struct m name) m.structs) a e (λ k p g.
      let f = found_at (is_struct m name) m.structs k p in
      let s = stays-at m n m.structs n.structs k f.entry r.stays f.at in
      let b = both-there same_abilities (struct_abilities m f.entry) (struct_abilities n s.0) (parts-stay f.entry s.0 s.2).1 in
      let old = rw (f.at, map_as_bind) at g in
      let is : b.0 ≡ a = same_Some b.0 a (sym b.2 ∙ old) in
      rw (struct-stays name k p, s.1, map_as_bind) (b.3 ∙ ap Some (sym (same_abilities-is b.0 b.1 b.4) ∙ is)))
