-- Where the structs of a store are defined, by their names.
--   place-of-struct    what stands at a place and an index is where its name says
--   struct-of-place    what stands where a name says has that name
--   struct-found       a struct with an identifier is the one of that name in its module
--   no-struct-found    there is none of a name where none has its identifier
use Rattle.mv_linker.proofs.Common.{ℕ, ◌∙◌, ◌≡◌, AreEach, Definition, IsStore, IsStructOutline, List, Module, ModuleName, None, Option, PublishedModule, Some}
use Rattle.mv_linker.proofs.Common.{StructName, StructOutline, ap₂, arith, find_index, is_struct, module_place, name_at, name_of_struct, own_name, refl, same_Some, slice_get}
use Rattle.mv_linker.proofs.Common.{slice_get_within, subst, sym, tables_in}
use Rattle.mv_linker.proofs.Lemmas.{among-at, element_at, found_at, module_place-from, name_parts, own-definition, owns-structs, struct_named_so}
use Rattle.mv_linker.proofs.Joining.Assembling.{passed-among}
use Rattle.mv_linker.proofs.Kept.StructNames.{identifier-in}
use Rattle.mv_linker.specs.Questions.{struct_place}
use Rattle.mv_type_rules.specs.Sound.{IsSound}
use Rattle.mv_bound_rules.proofs.Found.{then_found}
use Rattle.mv_bound_rules.proofs.NameLemmas.{named_in}
use Rattle.mv_module_text.proofs.Texts.{on_bind}

module _ (published : List PublishedModule) (is : IsStore published) where
  abbrev modules : List Module
  modules = tables_in published

  pub sound-at : (place : ℕ) (m : Module) → slice_get modules place ≡ Some m → IsSound m
  sound-at place m at = let p = passed-among published m is.passed (among-at modules place m at) in subst IsSound p.2 p.1.sound

  -- what stands at a place and an index is where its name says
  pub place-of-struct : (place index : ℕ) (name : StructName) → name_at modules place index ≡ Some name → struct_place modules name ≡ Some (record { place = place; index = index })
  place-of-struct place index name e = name_parts modules place index name e (λ m d at d_at named.
      let sound = sound-at place m at in
      let own = own-definition modules place m is.once at sound.bounds sound.defined index d d_at in
      let same : own.0 ≡ name = same_Some own.0 name (sym own.1 ∙ named) in
      let home : own_name m ≡ Some name.home = owns-structs m sound.defined index d name d_at named in
      let found : find_index (is_struct m name) m.structs ≡ Some index = subst (λ (n : StructName). find_index (is_struct m n) m.structs ≡ Some index) same own.3 in
      then_found (module_place modules name.home) _ place _ (module_place-from modules name.home place m is.once at home)
      (then_found (slice_get modules place) _ m _ at (then_found (find_index (is_struct m name) m.structs) _ index _ found refl)))

  -- what stands where a name says has that name
  pub struct-of-place : (name : StructName) (d : Definition) → struct_place modules name ≡ Some d → name_at modules d.place d.index ≡ Some name
  struct-of-place name d e =
      on_bind (module_place modules name.home) _ d e (λ place place_is e1.
      on_bind (slice_get modules place) _ d e1 (λ m at e2.
      on_bind (find_index (is_struct m name) m.structs) _ d e2 (λ index index_is e3.
      let f = found_at (is_struct m name) m.structs index index_is in
      let named : name_of_struct m f.entry ≡ Some name = struct_named_so (name_of_struct m f.entry) name f.passes in
      subst (λ (x : Definition). name_at modules x.place x.index ≡ Some name) (same_Some _ d e3)
      (then_found (slice_get modules place) _ m _ at (then_found (slice_get m.structs index) _ f.entry _ f.at named)))))

-- a struct with an identifier is the one of that name in its module
pub struct-found : (published : List PublishedModule) → IsStore published → (place index : ℕ) (m : Module) (home : ModuleName) (structs : List StructOutline) (s : StructOutline)
    → slice_get (tables_in published) place ≡ Some m → own_name m ≡ Some home → AreEach (IsStructOutline m) m.structs structs → slice_get structs index ≡ Some s
    → find_index (is_struct m (named_in home s.identifier)) m.structs ≡ Some index
struct-found published is place index m home structs s at own are s_at =
    let sound = sound-at published is place m at in
    let d = element_at m.structs index (omega (arith, slice_get_within structs index s s_at, are.len)) in
    let def = own-definition (tables_in published) place m is.once at sound.bounds sound.defined index d.0 d.1 in
    let home_is : def.0.home ≡ home = same_Some def.0.home home (sym (owns-structs m sound.defined index d.0 def.0 d.1 def.1) ∙ own) in
    let name_is : def.0.name ≡ s.identifier = identifier-in m d.0 def.0 s.identifier def.1 (are.each index d.0 s d.1 s_at).identifier in
    subst (λ (n : StructName). find_index (is_struct m n) m.structs ≡ Some index) (ap₂ named_in home_is name_is) def.3

-- there is none of a name where none has its identifier
pub no-struct-found : (m : Module) (name : StructName) (structs : List StructOutline) → AreEach (IsStructOutline m) m.structs structs
    → ((k : ℕ) (s : StructOutline) → slice_get structs k ≡ Some s → s.identifier ≡ name.name → ⊥) → find_index (is_struct m name) m.structs ≡ None
no-struct-found m name structs are none = by_place (find_index (is_struct m name) m.structs) refl
  where
    by_place : (o : Option ℕ) → find_index (is_struct m name) m.structs ≡ o → o ≡ None
    by_place None e = refl
    by_place (Some k) e =
        let f = found_at (is_struct m name) m.structs k e in
        let named : name_of_struct m f.entry ≡ Some name = struct_named_so (name_of_struct m f.entry) name f.passes in
        let s = element_at structs k (omega (arith, slice_get_within m.structs k f.entry f.at, are.len)) in
        let same : name.name ≡ s.0.identifier = identifier-in m f.entry name s.0.identifier named (are.each k f.entry s.0 f.at s.1).identifier in
        absurd (none k s.0 s.1 (sym same))
