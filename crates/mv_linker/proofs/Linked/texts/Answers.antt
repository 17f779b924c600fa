use Rattle.mv_linker.proofs.Common.{◌<◌, ◌∙◌, ◌≡◌, IfSome, Kept, List, Option, PublishedModule, Some, ap, arith, length, length-map, option_map, refl, slice_get, slice_get-map, subst, sym}
use Rattle.std.proofs.lemmas.Option.{slice_get_read}
use Rattle.mv_linker.specs.Stored.{LinkedBundle}
use Rattle.mv_linker.proofs.Linked.texts.Goals as goal

pub returns : goal.returns
returns c =
    let added : List Kept = c.self.inside.added.items in
    let low : c.args.index < length added =
    omega (arith, c.requires, ap (λ (b : LinkedBundle). length b.published) c.self.view_is, length-map added (λ (k : Kept). k.published)) in
    let at : slice_get c.args.self.now.published c.args.index ≡ Some c.index.result.now.published =
    ap (λ (b : LinkedBundle). slice_get b.published c.args.index) (sym c.self.view_is) ∙ slice_get-map (λ (k : Kept). k.published) added c.args.index
    ∙ ap (option_map (λ (k : Kept). k.published)) (slice_get_read added (length added) c.args.index c.index.result.now refl low c.index.ensures) in
    record {
      text = subst (λ (o : Option PublishedModule). IfSome o (λ p. c.texts.result.0.now ≡ p.text)) (sym at) c.texts.ensures.text;
      certificate = subst (λ (o : Option PublishedModule). IfSome o (λ p. c.texts.result.1.now ≡ p.certificate)) (sym at) c.texts.ensures.certificate;
    }
