use Rattle.mv_linker.proofs.Common.{◌∙◌, ◌≡◌, false, refl, subst, sym, true, IsFunctionAt, function_matches, modules_in}
use Rattle.mv_linker.proofs.Joining.Resolving.{function_at, function_nowhere, function_there_is, target-of, target_below}
use Rattle.mv_linker.proofs.Orders.{below-most}
use Rattle.mv_linker.proofs.rules.scope.Scope.function.Goals as goal

pub returns-in_default-clause-refused : goal.returns-in_default-clause-refused
returns-in_default-clause-refused c = (refl, function_nowhere (modules_in c.args.self.now) c.args.m.now c.args.targets.now c.requires.named c.args.handle c.in_default.ensures.none)

pub returns-in-None-clause-refused : goal.returns-in-None-clause-refused
returns-in-None-clause-refused c = (
  refl,
  λ e.
      let modules = modules_in c.args.self.now in
      let t = c.in-Some.target.now in
      let is = c.requires.named.each c.args.handle.module t c.in-Some.ensures.there in
      let there = function_there_is modules c.args.m.now c.args.targets.now c.requires.named c.args.handle t c.in-Some.ensures.there in
      let none : function_matches c.args.m.now c.args.handle is.home ≡ false =
      c.in-None.ensures.found modules is.home is.name (target-of modules c.args.m.now c.args.handle.module t is) is.found c.requires.structs in
      let bad : true ≡ false = sym e ∙ there ∙ none in
      cc,
)

pub definition-requires-clause-place : goal.definition-requires-clause-place
definition-requires-clause-place c =
    below-most _ _ _ (target_below (modules_in c.args.self.now) c.args.m.now c.args.targets.now c.requires.named c.args.handle.module c.in-Some.target.now c.in-Some.ensures.there) c.args.self.now.few

pub returns-in-Some-function_in-clause-ok : goal.returns-in-Some-function_in-clause-ok
returns-in-Some-function_in-clause-ok c =
    let modules = modules_in c.args.self.now in
    let t = c.in-Some.target.now in
    let is = c.requires.named.each c.args.handle.module t c.in-Some.ensures.there in
    let found = c.in-Some-function_in.ensures.found modules is.home is.name (target-of modules c.args.m.now c.args.handle.module t is) is.found c.requires.structs in
    subst (IsFunctionAt modules c.args.m.now c.args.h) (sym c.definition.ensures)
    (function_at modules c.args.m.now c.args.targets.now c.requires.named c.args.h c.args.handle t c.in-Some-function_in.index c.requires.handle c.in-Some.ensures.there found.1)

pub returns-in-Some-function_in-clause-there : goal.returns-in-Some-function_in-clause-there
returns-in-Some-function_in-clause-there c =
    let modules = modules_in c.args.self.now in
    let t = c.in-Some.target.now in
    let is = c.requires.named.each c.args.handle.module t c.in-Some.ensures.there in
    let found = c.in-Some-function_in.ensures.found modules is.home is.name (target-of modules c.args.m.now c.args.handle.module t is) is.found c.requires.structs in
    function_there_is modules c.args.m.now c.args.targets.now c.requires.named c.args.handle t c.in-Some.ensures.there ∙ found.0
