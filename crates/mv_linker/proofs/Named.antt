-- Structs by where they are defined, among the modules of a store.
use Rattle.mv_linker.proofs.Common.{◌≡◌, List, Option, None, Some, ap, refl, subst, ℕ, slice_get, ◌>>=◌, Definition, Module, PublishedModule, StructDefinition, StructName, name_at, name_of_struct, IsStore, tables_in}
use Rattle.mv_move_types.specs.Named.{definition_of, is_struct}
use Rattle.mv_move_types.specs.Options.{find_index}
use Rattle.mv_type_rules.specs.Sound.{IsSound}
use Rattle.mv_bound_rules.proofs.Found.{then_found}
use Rattle.mv_interface.proofs.OwnDefinitions.{own-definition}
use Rattle.mv_linker.proofs.Joining.Assembling.{passed-among}
use Rattle.mv_linker.proofs.Members.{among-at}

-- the first part of a chain that leads to nothing
pub no_definition : {B : Type 0} (d : Definition) (f : Module → StructDefinition → Option B) (o : Option Module) → (o >>= λ m. slice_get m.structs d.index) ≡ None
    → (o >>= λ m. slice_get m.structs d.index >>= f m) ≡ None
no_definition d f None e = refl
no_definition d f (Some m) e = ap (λ o. o >>= f m) e

module _ (published : List PublishedModule) (is : IsStore published) where
  abbrev modules : List Module
  modules = tables_in published

  -- its modules are sound
  sound : (place : ℕ) (m : Module) → slice_get modules place ≡ Some m → IsSound m
  sound place m at = let p = passed-among published m is.passed (among-at modules place m at) in subst IsSound p.2 p.1.sound

  -- what stands at a place and an index has a name, and is what the name stands for
  pub defined : (d : Definition) (m : Module) (x : StructDefinition) → slice_get modules d.place ≡ Some m → slice_get m.structs d.index ≡ Some x
      → (name : StructName) × (name_of_struct m x ≡ Some name) × (definition_of modules name ≡ Some (m, x.fields)) × (find_index (is_struct m name) m.structs ≡ Some d.index)
  defined d m x at x_at = own-definition modules d.place m is.once at (sound d.place m at).bounds (sound d.place m at).defined d.index x x_at

  pub named : (d : Definition) (m : Module) (x : StructDefinition) (name : StructName) → slice_get modules d.place ≡ Some m → slice_get m.structs d.index ≡ Some x → name_of_struct m x ≡ Some name
      → name_at modules d.place d.index ≡ Some name
  named d m x name at x_at e = then_found (slice_get modules d.place) _ m (Some name) at (then_found (slice_get m.structs d.index) _ x (Some name) x_at e)
