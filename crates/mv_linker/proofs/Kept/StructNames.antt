-- The names of a store's structs, by the name of their module and their identifiers there.
--   unnamed-there    no struct stands where there is no identifier
--   named-there      the name of a struct, by the key of its module and its identifier
use Rattle.mv_linker.proofs.Common.{ℕ, ◌∙◌, ◌≡◌, AreCodesOf, AreKeyed, Code, IsSound, IsStore, List, Module, Name, None, Some, StructDefinition, StructName, StructOutline, Texts, ap, ap₂}
use Rattle.mv_linker.proofs.Common.{arith, name_at, name_in, name_of_struct, own_name, published_as, published_under, refl, same_Some, slice_get, slice_get_past, slice_get_within, struct_identifier}
use Rattle.mv_linker.proofs.Common.{slice_get-map, subst, sym, tables_in}
use Rattle.mv_linker.proofs.Lemmas.{among-at, element_at, own-definition, owns-structs, past_from, struct_parts}
use Rattle.mv_linker.proofs.Joining.Assembling.{passed-among}
use Rattle.mv_bound_rules.proofs.Found.{at-all}
use Rattle.mv_linker.proofs.LinkedCode.StoredCodes.{module-there}
use Rattle.mv_bound_rules.proofs.NameLemmas.{named_in}

-- no struct stands where there is no identifier
pub unnamed-there : (modules : List Module) (codes : List Code) (place index : ℕ) (code : Code) → AreCodesOf modules codes → slice_get codes place ≡ Some code
    → slice_get code.interface.outline.structs index ≡ None → name_at modules place index ≡ None
unnamed-there modules codes place index code are code_at none =
    let m = module-there modules codes place code are code_at in
    let len = (are.each place m.0 code m.1 code_at).interface.outline.structs.len in
    rw (m.1, slice_get_past m.0.structs index (past_from code.interface.outline.structs m.0.structs index (sym len) none)) refl

-- the identifier in a struct's name
pub identifier-in : (m : Module) (d : StructDefinition) (name : StructName) (identifier : List ℕ) → name_of_struct m d ≡ Some name → struct_identifier m d ≡ Some identifier → name.name ≡ identifier
identifier-in m d name identifier named is =
    struct_parts m d.handle name named (λ handle at home_is name_is.
    let same : struct_identifier m d ≡ Some name.name = rw at name_is in
    same_Some name.name identifier (sym same ∙ is))

-- the key of a module is its name
key-named : (entries : List (Name × Texts)) (place : ℕ) (m : Module) (key : Name) (texts : Texts) → AreKeyed entries → slice_get entries place ≡ Some (key, texts)
    → slice_get (tables_in (published_under entries)) place ≡ Some m → own_name m ≡ Some (name_in key)
key-named entries place m key texts keyed at m_at =
    let there : slice_get (tables_in (published_under entries)) place ≡ Some (published_as texts).tables = simp (slice_get-map, at) in
    ap own_name (same_Some m (published_as texts).tables (sym m_at ∙ there)) ∙ at-all (λ (e : Name × Texts). own_name (published_as e.1).tables ≡ Some (name_in e.0)) entries place (key, texts) keyed at

-- the name of a struct, by the key of its module and its identifier
pub named-there : (entries : List (Name × Texts)) (codes : List Code) (place index : ℕ) (code : Code) (key : Name) (texts : Texts) (o : StructOutline) → IsStore (published_under entries)
    → AreKeyed entries
    → AreCodesOf (tables_in (published_under entries)) codes → slice_get codes place ≡ Some code → slice_get entries place ≡ Some (key, texts) → slice_get code.interface.outline.structs index ≡ Some o
    → name_at (tables_in (published_under entries)) place index ≡ Some (record { home = name_in key; name = o.identifier })
named-there entries codes place index code key texts o s keyed are code_at key_at found =
    let store = published_under entries in
    let m = module-there (tables_in store) codes place code are code_at in
    let structs = (are.each place m.0 code m.1 code_at).interface.outline.structs in
    let d = element_at m.0.structs index (omega (arith, slice_get_within code.interface.outline.structs index o found, structs.len)) in
    let passed = passed-among store m.0 s.passed (among-at (tables_in store) place m.0 m.1) in
    let sound = subst IsSound passed.2 passed.1.sound in
    let own = own-definition (tables_in store) place m.0 s.once m.1 sound.bounds sound.defined index d.0 d.1 in
    let home : own.0.home ≡ name_in key =
    same_Some own.0.home (name_in key) (sym (owns-structs m.0 sound.defined index d.0 own.0 d.1 own.1) ∙ key-named entries place m.0 key texts keyed key_at m.1) in
    let name : own.0.name ≡ o.identifier = identifier-in m.0 d.0 own.0 o.identifier own.1 (structs.each index d.0 o d.1 found).identifier in
    rw (m.1, d.1) (own.1 ∙ ap₂ (λ h n. Some (named_in h n)) home name)
