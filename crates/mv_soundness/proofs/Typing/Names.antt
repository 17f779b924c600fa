-- Types that an accepted module names are there in the store.
use Rattle.mv_soundness.proofs.Typing.Common.{◌≡◌, ℕ, zero, suc, ◌+◌, true, List, [], ◌∷◌, refl, ap, subst, ◌∙◌, arith, Option, Some, None, Result, Ok, Bool, false, sym, and_from}
use Rattle.mv_soundness.proofs.Typing.Common.{same_Some, beq, first_so, second_so, booleans_Decides, list_all, option_map_or, ◌&&◌, slice_get, Module, struct_name, StructName, ◌>>=◌}
use Rattle.mv_soundness.proofs.Typing.Common.{◌>>=ᵣ◌, Tag, LeafTag, StructTag, ReferenceTag, StructHandle, Abilities, Token, Plain, ReferenceTo, MutableReferenceTo, ValueType, OfLeaf}
use Rattle.mv_soundness.proofs.Typing.Common.{OfStruct, tag_named, Failure, below, token_in, on_bind, all_at, there_below, structs_are_there, token_named, tokens_named, value_type_named}
use Rattle.mv_soundness.proofs.Typing.Common.{Named}
use Rattle.mv_machine.specs.Typing.{struct_tag, value_type_tag}
use Rattle.mv_move_types.specs.{Named.declared, AbilitySets.same_abilities}
use Rattle.mv_bound_rules.specs.Bounds.{InBounds, value_type_in, struct_handle_in}
use Rattle.mv_link_rules.specs.StoreRules.{struct_is_there}
use Rattle.mv_interface.proofs.OwnDefinitions.{module_there, struct_name_by}

module _ (m : Module) (bounds : InBounds m) where
  pub struct_there : (h : ℕ) → below h m.struct_handles ≡ true → (name : StructName) × (struct_name m h ≡ Some name)
  struct_there h e =
      let handle = there_below m.struct_handles h e in
      let fine = all_at (struct_handle_in m) m.struct_handles h handle.0 bounds.struct_handles handle.1 in
      let home = module_there m bounds handle.0.module (first_so (below handle.0.module m.module_handles) (below handle.0.name m.identifiers) fine) in
      let name = there_below m.identifiers handle.0.name (second_so (below handle.0.module m.module_handles) (below handle.0.name m.identifiers) fine) in
      (record { home = home.0; name = name.0 }, struct_name_by m bounds h handle.0 home.0 name.0 handle.1 home.1 name.1)

  -- a type whose handle is there has a tag
  pub value_type_there : (t : ValueType) → value_type_in m t ≡ true → (tag : Tag) × (value_type_named m t ≡ Some tag)
  value_type_there (OfLeaf k) e = (LeafTag k, refl)
  value_type_there (OfStruct h) e = let s = struct_there h e in (StructTag s.0, ap (λ (x : Option StructName). x >>= λ name. Some (StructTag name)) s.1)

  pub token_there : (t : Token) → token_in m t ≡ true → Named m t
  token_there (Plain t) e = let s = value_type_there t e in record { tag = s.0; names = s.1 }
  token_there (ReferenceTo t) e = let s = value_type_there t e in record { tag = ReferenceTag false s.0; names = ap (λ (x : Option Tag). x >>= λ tag. Some (ReferenceTag false tag)) s.1 }
  token_there (MutableReferenceTo t) e = let s = value_type_there t e in record { tag = ReferenceTag true s.0; names = ap (λ (x : Option Tag). x >>= λ tag. Some (ReferenceTag true tag)) s.1 }

  pub tokens_there : (ts : List Token) → list_all (token_in m) ts ≡ true → (tags : List Tag) × (tokens_named m ts ≡ Some tags)
  tokens_there [] e = ([], refl)
  tokens_there (t ∷ ts) e =
      let first = token_there t (first_so (token_in m t) (list_all (token_in m) ts) e) in
      let rest = tokens_there ts (second_so (token_in m t) (list_all (token_in m) ts) e) in
      (first.tag ∷ rest.0, rw (first.names, rest.1) refl)

same_abilities-turned : (a b : Abilities) → same_abilities a b ≡ true → same_abilities b a ≡ true
same_abilities-turned a b h =
    let h3 : (beq a.copy b.copy && beq a.drop b.drop && beq a.store b.store) ≡ true = first_so (beq a.copy b.copy && beq a.drop b.drop && beq a.store b.store) (beq a.key b.key) h in
    let h2 : (beq a.copy b.copy && beq a.drop b.drop) ≡ true = first_so (beq a.copy b.copy && beq a.drop b.drop) (beq a.store b.store) h3 in
    and_from _ _ (and_from _ _ (and_from _ _ (turn a.copy b.copy (first_so (beq a.copy b.copy) (beq a.drop b.drop) h2)) (turn a.drop b.drop (second_so (beq a.copy b.copy) (beq a.drop b.drop) h2)))
    (turn a.store b.store (second_so (beq a.copy b.copy && beq a.drop b.drop) (beq a.store b.store) h3)))
    (turn a.key b.key (second_so (beq a.copy b.copy && beq a.drop b.drop && beq a.store b.store) (beq a.key b.key) h))
  where
    turn : (x y : Bool) → beq x y ≡ true → beq y x ≡ true
    turn x y e = (booleans_Decides y x).1 (sym ((booleans_Decides x y).0 e))

module _ (modules : List Module) (m : Module) (links : structs_are_there modules m 0 m.struct_handles ≡ true) where
  pub handle_there : (base k : ℕ) (ss : List StructHandle) (s : StructHandle) (h : ℕ) → structs_are_there modules m base ss ≡ true
      → slice_get ss k ≡ Some s → h ≡ base + k → struct_is_there modules m h s ≡ true
  handle_there base k [] s h e g at = absurd cc
  handle_there base zero (x ∷ ss) s h e g at =
      let same : base ≡ h = omega (arith, at) in
      subst (λ (n : ℕ). struct_is_there modules m n s ≡ true) same
      (subst (λ (y : StructHandle). struct_is_there modules m base y ≡ true) (same_Some x s g) (first_so (struct_is_there modules m base x) (structs_are_there modules m (base + 1) ss) e))
  handle_there base (suc k) (x ∷ ss) s h e g at =
      handle_there (base + 1) k ss s h (second_so (struct_is_there modules m base x) (structs_are_there modules m (base + 1) ss) e) g (omega (arith, at))

  struct_tag_is : (h : ℕ) (name : StructName) → struct_name m h ≡ Some name → struct_tag modules m h ≡ Ok (StructTag name)
  struct_tag_is h name e =
      on_bind (slice_get m.struct_handles h) _ name e (λ handle handle_is e1.
      let fine = handle_there 0 h m.struct_handles handle h links handle_is (omega arith) in
      let known : option_map_or (same_abilities handle.abilities) (declared modules name) false ≡ true =
      subst (λ (x : Option StructName). option_map_or (λ name. option_map_or (same_abilities handle.abilities) (declared modules name) false) x false ≡ true) e fine in
      by_case handle handle_is (declared modules name) refl known)
    where
      by_case : (handle : StructHandle) → slice_get m.struct_handles h ≡ Some handle → (a : Option Abilities) → declared modules name ≡ a
          → option_map_or (same_abilities handle.abilities) a false ≡ true → struct_tag modules m h ≡ Ok (StructTag name)
      by_case handle handle_is None p q = let z : false ≡ true = q in absurd cc
      by_case handle handle_is (Some a) p q = rw (e, handle_is, p, same_abilities-turned handle.abilities a q) refl

  value_tag_is : (t : ValueType) (tag : Tag) → value_type_named m t ≡ Some tag → value_type_tag modules m t ≡ Ok tag
  value_tag_is (OfLeaf k) tag e = ap Ok (same_Some (LeafTag k) tag e)
  value_tag_is (OfStruct h) tag e =
      on_bind (struct_name m h) (λ name. Some (StructTag name)) tag e (λ name name_is e1.
      struct_tag_is h name name_is ∙ ap Ok (same_Some (StructTag name) tag e1))

  pub tag_is_found : (t : Token) (tag : Tag) → token_named m t ≡ Some tag → tag_named modules m t ≡ Ok tag
  tag_is_found (Plain t) tag e = value_tag_is t tag e
  tag_is_found (ReferenceTo t) tag e =
      on_bind (value_type_named m t) (λ to. Some (ReferenceTag false to)) tag e (λ to to_is e1.
      ap (λ (r : Result Tag Failure). r >>=ᵣ λ to. Ok (ReferenceTag false to)) (value_tag_is t to to_is) ∙ ap Ok (same_Some (ReferenceTag false to) tag e1))
  tag_is_found (MutableReferenceTo t) tag e =
      on_bind (value_type_named m t) (λ to. Some (ReferenceTag true to)) tag e (λ to to_is e1.
      ap (λ (r : Result Tag Failure). r >>=ᵣ λ to. Ok (ReferenceTag true to)) (value_tag_is t to to_is) ∙ ap Ok (same_Some (ReferenceTag true to) tag e1))
