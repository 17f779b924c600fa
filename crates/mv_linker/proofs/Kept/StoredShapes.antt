-- Of what the structs of a store's modules are made, as its codes say.
use Rattle.mv_linker.proofs.Common.{ℕ, ◌<◌, ◌>>=◌, ◌≡◌, AreCodesOf, AreEach, AreFieldsAt, AreParts, Code, Definition, IsStructOutline, List, Module, None, Option, Part, Some, StructDefinition, StructOutline, ap}
use Rattle.mv_linker.proofs.Common.{arith, false, has_key, is_keyed, length, option_map_or, refl, slice_get, slice_get_past, slice_get_within}
use Rattle.mv_linker.proofs.Common.{structs_in, sym}
use Rattle.mv_linker.proofs.Lemmas.{past_from, element_at}
use Rattle.mv_linker.proofs.LinkedCode.StoredCodes.{module-there}

module _ (modules : List Module) (codes : List Code) (are : AreCodesOf modules codes) where
  -- a place without a code has no module
  no_module : (place : ℕ) → slice_get codes place ≡ None → slice_get modules place ≡ None
  no_module place none = slice_get_past modules place (past_from codes modules place (sym are.len) none)

  -- ---- at a place that has none

  pub no_fields : (d : Definition) → slice_get codes d.place ≡ None → AreFieldsAt modules d None
  no_fields d none = ap (λ (o : Option Module). o >>= λ m. slice_get m.structs d.index) (no_module d.place none)

  pub no_key : (d : Definition) → slice_get codes d.place ≡ None → false ≡ is_keyed modules d
  no_key d none = sym (ap (λ (o : Option Module). option_map_or (λ m. option_map_or (has_key m) (slice_get m.structs d.index) false) o false) (no_module d.place none))

  pub no_structs : (place : ℕ) → slice_get codes place ≡ None → 0 ≡ structs_in modules place
  no_structs place none = sym (ap (λ (o : Option Module). option_map_or (λ m. length m.structs) o 0) (no_module place none))

  -- ---- at one that has a code

  pub fields-known : (d : Definition) (code : Code) → slice_get codes d.place ≡ Some code → AreFieldsAt modules d (slice_get code.interface.parts d.index)
  fields-known d code at =
      let m = module-there modules codes d.place code are at in
      by_parts m.0 m.1 (are.each d.place m.0 code m.1 at).interface.parts (slice_get code.interface.parts d.index) refl
    where
      by_parts : (m : Module) → slice_get modules d.place ≡ Some m → AreEach (λ (d : StructDefinition) parts. AreParts modules m d.fields parts) m.structs code.interface.parts → (o : Option (List Part))
          → slice_get code.interface.parts d.index ≡ o → AreFieldsAt modules d o
      by_parts m m_at are None e = rw m_at (slice_get_past m.structs d.index (past_from code.interface.parts m.structs d.index (sym are.len) e))
      by_parts m m_at are (Some parts) e =
          let low : d.index < length code.interface.parts = slice_get_within code.interface.parts d.index parts e in
          let x = element_at m.structs d.index (omega (arith, low, are.len)) in
          record { home = m; definition = x.0; there = m_at; defined = x.1; fields = are.each d.index x.0 parts x.1 e }

  pub key-known : (d : Definition) (code : Code) → slice_get codes d.place ≡ Some code
      → option_map_or (λ (s : StructOutline). s.abilities.key) (slice_get code.interface.outline.structs d.index) false ≡ is_keyed modules d
  key-known d code at =
      let m = module-there modules codes d.place code are at in
      rw m.1 (by_struct m.0 code.interface.outline.structs (are.each d.place m.0 code m.1 at).interface.outline.structs (slice_get code.interface.outline.structs d.index) refl)
    where
      by_struct : (m : Module) (ss : List StructOutline) → AreEach (IsStructOutline m) m.structs ss → (o : Option StructOutline) → slice_get ss d.index ≡ o
          → option_map_or (λ (s : StructOutline). s.abilities.key) o false ≡ option_map_or (has_key m) (slice_get m.structs d.index) false
      by_struct m ss are None e = rw (slice_get_past m.structs d.index (past_from ss m.structs d.index (sym are.len) e)) refl
      by_struct m ss are (Some s) e =
          let low : d.index < length ss = slice_get_within ss d.index s e in
          let x = element_at m.structs d.index (omega (arith, low, are.len)) in
          rw (x.1, (are.each d.index x.0 s x.1 e).abilities) refl

  pub structs-known : (place : ℕ) (code : Code) → slice_get codes place ≡ Some code → length code.interface.outline.structs ≡ structs_in modules place
  structs-known place code at =
      let m = module-there modules codes place code are at in
      rw m.1 ((are.each place m.0 code m.1 at).interface.outline.structs.len)
