use Rattle.mv_linker.proofs.Common.{[], ◌++◌, ◌+◌, ◌∙◌, ◌∷◌, ◌≡◌, Option, ap, arith, cond, length, subst, sym, take, unwrap_or, eq-eqb, ne_eqb, length-map, take_all, take_more, lookup, option_or}
use Rattle.mv_linker.proofs.Common.{is_some, module_place, PublishedModule, ArePlacesOf, has_name_of, name_in, tables_in, all_named, found_among, offered, place_for, places_in, with_tables}
use Rattle.mv_linker.proofs.Cycles.DependencyLemmas.{length-places}
use Rattle.mv_linker.proofs.Kept.IndexLemmas.{found-before, places-put}
use Rattle.mv_linker.proofs.Joining.Scopes.{no-places, more-places, find-with_tables, place-for, offered-push}
use Rattle.mv_linker.proofs.rules.scope.places_of.Goals as goal
use Rattle.mv_linker.proofs.rules.scope.places_of.Goals.{then-place-count, else-place-count}

pub loop-i-init : goal.loop-i-init
loop-i-init c = (
  no-places _ _ _ _ c.in_ok-places.ensures.items (c.len-count.ensures.count ∙ sym (length-map c.args.store.now (λ (p : PublishedModule). p.tables))),
  λ q. ap (lookup (has_name_of q)) c.new-names.ensures,
)

pub overflow_add-count : goal.overflow_add-count
overflow_add-count c = omega (arith, c.loop-i.invariant.0.small, length-map c.args.store.now (λ (p : PublishedModule). p.tables), c.requires)

pub loop-i-preserved : goal.loop-i-preserved
loop-i-preserved c =
    let n = c.index-new-i.result in
    let so = c.loop-i.invariant.0 in
    let old = tables_in c.args.store.now in
    let before = offered (take c.loop-i.i c.args.new.now) in
    let own = c.own_name-name.result in
    let stored = module_place old (name_in own) in
    let taken : take (c.loop-i.i + 1) c.args.new.now ≡ take c.loop-i.i c.args.new.now ++ n ∷ [] =
    take_more c.args.new.now c.loop-i.i n c.loop-i-test.true ∙ ap (λ x. take c.loop-i.i c.args.new.now ++ x ∷ []) (sym c.index-new-i.is) in
    let found : c.place_of.result ≡ module_place (with_tables old before) (name_in own) =
    c.place_of.ensures ∙ ap (λ (o : Option _). option_or o stored) (c.loop-i.invariant.1 own)
    ∙ sym (found-before (name_in own) before c.loop-i.places.items stored)
    ∙ ap (λ places. found_among (name_in own) before places stored) so.placed
    ∙ sym (find-with_tables old before (name_in own) so.named) in
    let at : c.unwrap_or-place.result ≡ place_for (with_tables old before) n.module =
    c.unwrap_or-place.ensures ∙ ap (λ (o : Option _). unwrap_or o c.loop-i.count) found ∙ ap (unwrap_or (module_place (with_tables old before) (name_in own))) so.counted
    ∙ sym (place-for (with_tables old before) n.module (name_in own) c.own_name-name.ensures) in
    let all : offered (take (c.loop-i.i + 1) c.args.new.now) ≡ before ++ n.module ∷ [] = ap offered taken ∙ offered-push (take c.loop-i.i c.args.new.now) n in (
      more-places _ _ _ _ c.loop-i.count _ c.unwrap_or-place.result _ n so taken c.in_ok-push.ensures.items at (ap is_some c.own_name-name.ensures)
          (elim c.if-place-count.branch [
            | then-place-count w ↦ w.count-is ∙ sym (ap (λ b. cond b (c.loop-i.count + 1) c.loop-i.count) (eq-eqb c.unwrap_or-place.result c.loop-i.count w.if-place-count.true))
            | else-place-count w ↦ w.count-is ∙ sym (ap (λ b. cond b (c.loop-i.count + 1) c.loop-i.count) (ne_eqb c.unwrap_or-place.result c.loop-i.count w.if-place-count.false))
          ]),
      subst (λ l. ArePlacesOf c.put.new.self l c.push.new.self.items) (sym all)
          (subst (λ l. ArePlacesOf c.put.new.self (before ++ n.module ∷ []) l) (sym c.in_ok-push.ensures.items)
          (places-put c.loop-i.names c.put.new.self before c.loop-i.places.items n.module own c.unwrap_or-place.result c.loop-i.invariant.1 c.in_ok-put.ensures c.own_name-name.ensures
          (ap length so.placed ∙ length-places old before))),
    )

pub returns-clause-places : goal.returns-clause-places
returns-clause-places c =
    c.loop-i.invariant.0.placed ∙ ap (λ l. places_in (tables_in c.args.store.now) (offered l)) (take_all c.loop-i.i c.args.new.now c.loop-i-test.false)

pub returns-clause-names : goal.returns-clause-names
returns-clause-names c =
    subst (λ l. ArePlacesOf c.loop-i.names (offered l) c.loop-i.places.items) (take_all c.loop-i.i c.args.new.now c.loop-i-test.false) c.loop-i.invariant.1

pub returns-clause-named : goal.returns-clause-named
returns-clause-named c =
    sym (ap (λ l. all_named (offered l)) (take_all c.loop-i.i c.args.new.now c.loop-i-test.false)) ∙ c.loop-i.invariant.0.named
