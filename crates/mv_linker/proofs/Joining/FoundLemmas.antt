-- What stands at a place of a scope: a module of the bundle, or one of which the store keeps the interface.
--   new-found    a module of the bundle, with its outline
--   kept-found   what the store keeps of a module is right among those of the scope
--   no-outlines, more-outlines    the outlines of the first modules
use Rattle.mv_linker.proofs.Common.{[], ℕ, ◌++◌, ◌+◌, ◌==◌, ◌∙◌, ◌∷◌, ◌≡◌, AreOutlines, IfSome, Interface, IsInterface, IsOutline, List, Module, New, None, Option, Scope, Some, ap, modules_in}
use Rattle.mv_linker.proofs.Common.{offered, position, refl, same_Some, slice_get, subst, sym, tables_in, take, none-some}
use Rattle.mv_interface.specs.Outline.{OutlineView}
use Rattle.mv_linker.specs.Relinked.{IsFitting}
use Rattle.mv_interface.proofs.Each.{each-more}
use Rattle.mv_linker.proofs.Joining.Assembling.{offered-at}
use Rattle.mv_linker.proofs.Joining.Bundled.{bundle-at, old-at, place-at}
use Rattle.mv_linker.proofs.Joining.Joins.{fitting}
use Rattle.mv_linker.proofs.Joining.Scopes.{offered-push}
use Rattle.mv_linker.proofs.LinkedCode.JoinedCodes.{interface-kept}

module _ (s : Scope) (fits : IsFitting s) (place : ℕ) (n : Module) (at : slice_get (modules_in s) place ≡ Some n) where
  -- a module of the bundle, with its outline
  pub new-found : (outlines : List OutlineView) (k : ℕ) (x : New) (o : OutlineView) → AreOutlines (offered s.new.now) outlines → position (λ p. p == place) s.places.items ≡ Some k
      → slice_get s.new.now k ≡ Some x → slice_get outlines k ≡ Some o → (x.module ≡ n) × IsOutline n o
  new-found outlines k x o are placed x_at o_at =
      let here : slice_get (offered s.new.now) k ≡ Some x.module = offered-at s.new.now k x x_at in
      let there = bundle-at (tables_in s.store.now) (offered s.new.now) k place x.module fits.once here (ap (λ l. slice_get l k) (sym s.placed) ∙ place-at place k s.places.items placed) in
      let same : x.module ≡ n = same_Some x.module n (sym there ∙ at) in
      (same, subst (λ (m : Module). IsOutline m o) same (are.each k x.module o here o_at))

  -- a module that the bundle leaves
  pub old-found : position (λ p. p == place) s.places.items ≡ None → slice_get (tables_in s.store.now) place ≡ Some n
  old-found none = sym (old-at (tables_in s.store.now) (offered s.new.now) place (sym (ap (position (λ p. p == place)) s.placed) ∙ none)) ∙ at

  -- what is kept of it
  pub kept-found : (i : Interface) → position (λ p. p == place) s.places.items ≡ None → IfSome (slice_get (tables_in s.store.now) place) (λ m. IsInterface (tables_in s.store.now) m i)
      → IsInterface (modules_in s) n i
  kept-found i none is =
      interface-kept (tables_in s.store.now) (offered s.new.now) (fitting s fits) fits.store.links n i
      (subst (λ (o : Option Module). IfSome o (λ m. IsInterface (tables_in s.store.now) m i)) (old-found none) is)

-- ---- the outlines of the first modules

pub no-outlines : (news : List New) (outlines : List OutlineView) → outlines ≡ [] → AreOutlines (offered (take 0 news)) outlines
no-outlines news outlines e = subst (λ (l : List OutlineView). AreOutlines [] l) (sym e) (record { len = refl; each = λ k m o at. absurd (none-some m at) })

pub more-outlines : (news : List New) (outlines more : List OutlineView) (i : ℕ) (x : New) (o : OutlineView) → AreOutlines (offered (take i news)) outlines → take (i + 1) news ≡ take i news ++ x ∷ []
    → more ≡ outlines ++ o ∷ [] → IsOutline x.module o → AreOutlines (offered (take (i + 1) news)) more
more-outlines news outlines more i x o are taken pushed is =
    subst (λ (l : List OutlineView). AreOutlines (offered (take (i + 1) news)) l) (sym pushed)
    (subst (λ (ms : List Module). AreOutlines ms (outlines ++ o ∷ [])) (sym (ap offered taken ∙ offered-push (take i news) x)) (each-more IsOutline (offered (take i news)) outlines x.module o are is))
