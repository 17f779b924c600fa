use Rattle.mv_linker.proofs.Common.{◌∙◌, ◌≡◌, false, refl, subst, sym, true, IsStructAt, modules_in, struct_matches}
use Rattle.mv_linker.proofs.Joining.Resolving.{struct_at, struct_nowhere, struct_there_is, target-of, target_below}
use Rattle.mv_linker.proofs.Orders.{below-most}
use Rattle.mv_linker.proofs.rules.scope.Scope.structure.Goals as goal

pub returns-in_default-clause-refused : goal.returns-in_default-clause-refused
returns-in_default-clause-refused c = (refl, struct_nowhere (modules_in c.args.self.now) c.args.m.now c.args.targets.now c.requires.named c.args.h c.args.handle c.requires.handle c.in_default.ensures.none)

pub returns-in-None-clause-refused : goal.returns-in-None-clause-refused
returns-in-None-clause-refused c = (
  refl,
  λ e.
      let modules = modules_in c.args.self.now in
      let t = c.in-Some.target.now in
      let is = c.requires.named.each c.args.handle.module t c.in-Some.ensures.there in
      let there = struct_there_is modules c.args.m.now c.args.targets.now c.requires.named c.args.h c.args.handle t c.requires.handle c.in-Some.ensures.there in
      let none : struct_matches c.args.m.now c.args.handle is.home is.name ≡ false =
      c.in-None.ensures.found is.home is.name (target-of modules c.args.m.now c.args.handle.module t is) (c.outline.ensures modules is.home is.found) in
      let bad : true ≡ false = sym e ∙ there ∙ none in
      cc,
)

pub definition-requires-clause-place : goal.definition-requires-clause-place
definition-requires-clause-place c =
    below-most _ _ _ (target_below (modules_in c.args.self.now) c.args.m.now c.args.targets.now c.requires.named c.args.handle.module c.in-Some.target.now c.in-Some.ensures.there) c.args.self.now.few

pub returns-in-Some-struct_in-clause-ok : goal.returns-in-Some-struct_in-clause-ok
returns-in-Some-struct_in-clause-ok c =
    let modules = modules_in c.args.self.now in
    let t = c.in-Some.target.now in
    let is = c.requires.named.each c.args.handle.module t c.in-Some.ensures.there in
    let found = c.in-Some-struct_in.ensures.found is.home is.name (target-of modules c.args.m.now c.args.handle.module t is) (c.outline.ensures modules is.home is.found) in
    subst (IsStructAt modules c.args.m.now c.args.h) (sym c.definition.ensures)
    (struct_at modules c.args.m.now c.args.targets.now c.requires.named c.args.h c.args.handle t c.in-Some-struct_in.index c.requires.handle c.in-Some.ensures.there found.1)

pub returns-in-Some-struct_in-clause-there : goal.returns-in-Some-struct_in-clause-there
returns-in-Some-struct_in-clause-there c =
    let modules = modules_in c.args.self.now in
    let t = c.in-Some.target.now in
    let is = c.requires.named.each c.args.handle.module t c.in-Some.ensures.there in
    let found = c.in-Some-struct_in.ensures.found is.home is.name (target-of modules c.args.m.now c.args.handle.module t is) (c.outline.ensures modules is.home is.found) in
    struct_there_is modules c.args.m.now c.args.targets.now c.requires.named c.args.h c.args.handle t c.requires.handle c.in-Some.ensures.there ∙ found.0
