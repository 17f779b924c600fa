use Rattle.mv_linker.proofs.Common.{[], ℕ, ◌∙◌, ◌∷◌, ◌≡◌, IfSome, List, Name, Option, PublishedModule, Some, Texts, ap, map, option_map, published_as, published_under, refl, slice_get}
use Rattle.mv_linker.proofs.Common.{slice_get-map, subst, sym, values_of}
use Rattle.mv_linker.proofs.store.Store.texts.Goals as goal

published-values : (es : List (Name × Texts)) → published_under es ≡ map published_as (values_of es)
published-values [] = refl
published-values (e ∷ es) = ap (λ l. published_as e.1 ∷ l) (published-values es)

-- the module at an index has the texts that stand there
texts-at : (es : List (Name × Texts)) (i : ℕ) (texts : Texts) → slice_get (values_of es) i ≡ Some texts → slice_get (published_under es) i ≡ Some (published_as texts)
texts-at es i texts at = ap (λ l. slice_get l i) (published-values es) ∙ slice_get-map published_as (values_of es) i ∙ ap (option_map published_as) at

pub returns : goal.returns
returns c =
    let at : slice_get c.args.self.now c.args.place ≡ Some (published_as c.index-texts.result.now) =
    subst (λ (s : List PublishedModule). slice_get s c.args.place ≡ Some (published_as c.index-texts.result.now)) c.self.view_is (texts-at c.self.inside.modules.entries c.args.place c.index-texts.result.now c.index-texts.ensures) in
    record {
      text = subst (λ (o : Option PublishedModule). IfSome o (λ p. c.as_slice.result.now ≡ p.text)) (sym at) c.as_slice.ensures.value;
      certificate = subst (λ (o : Option PublishedModule). IfSome o (λ p. c.as_slice-2.result.now ≡ p.certificate)) (sym at) c.as_slice-2.ensures.value;
    }
