use Rattle.mv_linker.proofs.Common.{◌∙◌, ap, follows, list_all, offered, sym, tables_in, take_all}
use Rattle.mv_linker.proofs.Joining.Assembling.{named-more, offered-at}
use Rattle.mv_linker.proofs.Lemmas.{element_at}
use Rattle.mv_linker.proofs.rules.scope.Scope.all_follow.Goals as goal
use Rattle.mv_bound_rules.proofs.Entries.{all_pass_not}
use Rattle.mv_bound_rules.proofs.Found.{taken-more}

pub returns-then-not-follows : goal.returns-then-not-follows
returns-then-not-follows c =
    let s = c.args.self.now in
    let n = element_at s.new.now c.each.k c.each-test.true in
    let at = offered-at s.new.now c.each.k n.0 n.1 in
    sym (all_pass_not (follows (tables_in s.store.now)) (offered s.new.now) c.each.k n.0.module (sym at) (sym (c.follows.ensures n.0.module at) ∙ c.if-not-follows.true))

pub each-preserved : goal.each-preserved
each-preserved c =
    let s = c.args.self.now in
    let n = element_at s.new.now c.each.k c.each-test.true in
    let at = offered-at s.new.now c.each.k n.0 n.1 in
    named-more (follows (tables_in s.store.now)) s.new.now c.each.k n.0 c.each.invariant (taken-more s.new.now c.each.k n.0 n.1)
    (sym (c.follows.ensures n.0.module at) ∙ c.if-not-follows.false)

pub returns : goal.returns
returns c =
    sym (sym (ap (λ l. list_all (follows (tables_in c.args.self.now.store.now)) (offered l)) (take_all c.each.k c.args.self.now.new.now c.each-test.false)) ∙ c.each.invariant)
