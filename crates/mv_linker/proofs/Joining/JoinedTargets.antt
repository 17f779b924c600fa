-- What is kept of the old modules, and what their handles lead to, once a bundle joins: for the sizes of structs.
use Rattle.mv_linker.proofs.Common.{ℕ, ◌∙◌, ◌≡◌, AreHandlePlaces, AreTargets, IsSized, Links, List, Module, Size, Some, StructName, Target}
use Rattle.mv_linker.proofs.Common.{ap, definition_of, length-map, map, name_at, on_bind, same_Some, slice_get, slice_get-map, sym}
use Rattle.mv_linker.proofs.Common.{with_tables}
use Rattle.mv_linker.proofs.Lemmas.{among-at, map_as_bind, name_parts, own-definition}
use Rattle.mv_linker.proofs.StructSizes.JoinedSizes.{keeps-joined}
use Rattle.mv_linker.proofs.StructSizes.SizesStay.{size-stays}
use Rattle.mv_linker.proofs.Joining.StillThere.{Joining}

-- the places of what a module's handles lead to
pub places_of_targets : (modules : List Module) (m : Module) (targets : List Target) → AreTargets modules m targets → AreHandlePlaces modules m (map (λ (t : Target). t.place) targets)
places_of_targets modules m targets a =
    record {
      len = length-map targets (λ (t : Target). t.place) ∙ a.len;
      each = λ h p e. on_bind (slice_get targets h) (λ t. Some t.place) p (rw (slice_get-map, map_as_bind) at e) (λ t at placed. let is = a.each h t at in rw is.named (is.place ∙ placed));
    }

module _ (old ns : List Module) (j : Joining old ns) where
  abbrev result : List Module
  result = with_tables old ns

  -- the size of an old struct stays
  pub kept-size : Links old → (p k : ℕ) (name : StructName) (size : Size) → name_at old p k ≡ Some name → IsSized old name size → IsSized result name size
  kept-size links p k name size e sized =
      name_parts old p k name e (λ m d at d_at named.
      let a = among-at old p m at in
      let o = own-definition old p m j.once at (j.bounds m a) (j.defined m a) k d d_at in
      let same : o.0 ≡ name = same_Some o.0 name (sym o.1 ∙ named) in
      size-stays old result (keeps-joined old ns j) links.structs name m d.fields size (ap (definition_of old) (sym same) ∙ o.2) sized)
