use Rattle.mv_interface.proofs.Common.{ℕ, ◌∙◌, ◌≡◌, List, None, Option, OutlineView, Some, ap, false, identifier_at, map, option_map, option_map_or, slice_get, slice_get-map, sym}
use Rattle.mv_interface.specs.Outline.{are_names}
use Rattle.mv_interface.proofs.outline.Outline.has_fields.Goals as goal

-- the names of a struct's fields, by the indices that are kept
names-at : (identifiers : List (List ℕ)) (fields : List (List ℕ)) (o : OutlineView) (index : ℕ) (found : Option (List ℕ)) → o.fields ≡ map (map (identifier_at identifiers)) fields → found ≡ slice_get fields index
    → slice_get o.fields index ≡ option_map (map (identifier_at identifiers)) found
names-at identifiers fields o index found is at =
    ap (λ l. slice_get l index) is ∙ slice_get-map (map (identifier_at identifiers)) fields index ∙ ap (option_map (map (identifier_at identifiers))) (sym at)

pub returns-in-None : goal.returns-in-None
returns-in-None c =
    sym (ap (λ o. option_map_or (λ names. are_names names c.args.n.now c.args.fields.now) o false)
    (names-at c.self.inside.identifiers c.self.inside.fields c.args.self.now c.args.index None (ap (λ (o : OutlineView). o.fields) (sym c.self.view_is)) c.in-None.ensures))

pub returns-in-Some : goal.returns-in-Some
returns-in-Some c =
    c.have_names.ensures
    ∙ sym (ap (λ o. option_map_or (λ names. are_names names c.args.n.now c.args.fields.now) o false)
    (names-at c.self.inside.identifiers c.self.inside.fields c.args.self.now c.args.index (Some c.in-Some.names.now) (ap (λ (o : OutlineView). o.fields) (sym c.self.view_is)) c.in-Some.ensures))
