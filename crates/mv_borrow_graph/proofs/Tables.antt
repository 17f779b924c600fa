-- How large the entries of a module's tables are.
use Rattle.std.specs.Prelude.{IfSome, nat_le}
use Rattle.std.proofs.Common.{◌≡◌, ℕ, ◌≤◌, ◌<◌, true, false, ◌&&◌, List, length, slice_get, Option, Some, None, refl, sym, ap, ◌∙◌, subst, arith, option_map, true≢false}
use Rattle.std.specs.List.{list_all}
use Rattle.std.specs.Option.{option_map_or}
use Rattle.std.proofs.lemmas.Bool.{and_parts, ltb-true, leb-true}
use Rattle.mv_move_types.specs.declared.token.Token.{Token}
use Rattle.mv_move_types.specs.declared.tables.FieldHandle.{FieldHandle}
use Rattle.mv_move_types.specs.Module.{Module, StructDefinition}
use Rattle.mv_module_text.specs.Fits.{is_index, field_fits, struct_definition_fits, signature_fits, token_fits}
use Rattle.mv_type_rules.specs.TypesHold.{Point}
use Rattle.mv_bound_rules.specs.Bounds.{below, InBounds, field_handle_in}
use Rattle.mv_bound_rules.proofs.Entries.{all_at}

-- the position of a field handle fits a byte, since a struct has at most 32 fields
pub small_position : (p : Point) (m n : Module) (i : ℕ) (found : Option FieldHandle) (h : FieldHandle) → m ≡ p.home → n ≡ m → InBounds m → list_all (struct_definition_fits n.version) n.structs ≡ true
    → found ≡ slice_get p.home.field_handles i → found ≡ Some h → h.position < 256
small_position p m n i found h home same bounds fits at some =
    let inside : InBounds n = subst InBounds (sym same) bounds in
    let there : slice_get n.field_handles i ≡ Some h = ap (λ (x : Module). slice_get x.field_handles i) (same ∙ home) ∙ sym at ∙ some in
    by_definition (slice_get n.structs h.definition) refl (all_at (field_handle_in n) n.field_handles i h inside.field_handles there)
  where
    by_definition : (o : Option StructDefinition) → slice_get n.structs h.definition ≡ o → option_map_or (λ (d : StructDefinition). below h.position d.fields) o false ≡ true → h.position < 256
    by_definition None e b = absurd (true≢false (sym b))
    by_definition (Some d) e b =
        let parts = and_parts (is_index d.handle && nat_le (length d.fields) 32) (list_all (field_fits n.version) d.fields) (all_at (struct_definition_fits n.version) n.structs h.definition d fits e) in
        let few = leb-true (length d.fields) 32 (and_parts (is_index d.handle) (nat_le (length d.fields) 32) parts.0).1 in
        let low = ltb-true h.position (length d.fields) b in
        omega (arith, few, low)

-- a signature has at most 64 types
pub short_signature : {R : Type 0} (now : R → List Token) (found : Option R) (version : ℕ) (all : List (List Token)) (i : ℕ)
    → option_map now found ≡ slice_get all i → list_all (signature_fits version) all ≡ true → IfSome found (λ r. length (now r) ≤ 64)
short_signature now None version all i at fits = tt
short_signature now (Some r) version all i at fits =
    leb-true (length (now r)) 64 (and_parts (nat_le (length (now r)) 64) (list_all (token_fits version) (now r)) (all_at (signature_fits version) all i (now r) fits (sym at))).0
