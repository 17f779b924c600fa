use Rattle.mv_linker.proofs.Common.{◌∙◌, ◌≡◌, FunctionDefinition, IsInterface, Module, Some, ap, arith, cases_eq, function_stays, inl, inr, same_Some, slice_get, slice_get_within, sym, tables_in}
use Rattle.mv_linker.proofs.Joining.KeptTypes.{function-is, one-fails}
use Rattle.mv_linker.proofs.Lemmas.{all_from, element_at}
use Rattle.mv_linker.proofs.rules.upgrades.Replaced.functions_stay.Goals.{After-function_stays}
use Rattle.mv_linker.proofs.rules.upgrades.Replaced.functions_stay.Goals as goal

-- what was found of the function of this turn
found : (c : After-function_stays) (m : Module) → slice_get (tables_in c.args.self.now.store.now) c.args.self.now.place ≡ Some m
    → IsInterface (tables_in c.args.self.now.store.now) m c.args.self.now.interface.now
    → (d : FunctionDefinition) × (slice_get m.functions c.each.k ≡ Some d) × (c.function_stays.result ≡ function_stays m c.args.n.now d)
found c m at kept =
    let old = c.args.self.now in
    let d = element_at m.functions c.each.k (omega (arith, c.each-test.true, c.function_count-k-end.ensures.count, kept.outline.functions.len)) in
    (d.0, d.1, c.function_stays.ensures ∙ function-is (tables_in old.store.now) m c.args.n.now old.interface.now kept c.each.k d.0 d.1)

pub each-init : goal.each-init
each-init c = λ m at kept sound j d low. absurd (omega (arith, low))

pub returns-then-not-function_stays : goal.returns-then-not-function_stays
returns-then-not-function_stays c = λ m at kept sound.
    let f = found (goal.at.returns-then-not-function_stays c).After-function_stays m at kept in
    sym (one-fails (function_stays m c.args.n.now) m.functions c.each.k f.0 f.1 (sym f.2 ∙ c.if-not-function_stays.true))

pub each-preserved : goal.each-preserved
each-preserved c = λ m at kept sound j d low d_at.
    let f = found (goal.at.each-preserved c).After-function_stays m at kept in
    elim (cases_eq j c.each.k) [
      | inl same ↦
          let one : f.0 ≡ d = same_Some f.0 d (sym f.1 ∙ ap (slice_get m.functions) (sym same) ∙ d_at) in
          ap (function_stays m c.args.n.now) (sym one) ∙ sym f.2 ∙ c.if-not-function_stays.false
      | inr less ↦ c.each.invariant m at kept sound j d (omega (arith, low, less)) d_at
    ]

pub returns : goal.returns
returns c = λ m at kept sound.
    sym (all_from (function_stays m c.args.n.now) m.functions
    (λ k d d_at. c.each.invariant m at kept sound k d (let low = slice_get_within m.functions k d d_at in omega (arith, low, c.each-test.false, c.function_count-k-end.ensures.count, kept.outline.functions.len)) d_at))
