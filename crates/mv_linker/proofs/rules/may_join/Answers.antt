use Rattle.mv_linker.proofs.Common.{◌∙◌, ◌≡◌, AreSentBy, Links, List, MayJoin, Module, PublishedModule, all_differ, ap, are_compatible, false, have_one_name, IfErr-weaker}
use Rattle.mv_linker.proofs.Common.{offered, published_of, refl, subst, sym, tables_in, true, with_modules, with_tables}
use Rattle.mv_linker.proofs.Joining.Scopes.{offered-tables, scope-tables}
use Rattle.mv_linker.proofs.Outcomes.{on_ok_both}
use Rattle.mv_move_types.proofs.Refusals.{refused-wider}
use Rattle.mv_linker.proofs.rules.may_join.Goals as goal

pub returns-then-not-are_sent_by-clause-refused : goal.returns-then-not-are_sent_by-clause-refused
returns-then-not-are_sent_by-clause-refused c = (
  refl,
  λ j.
      let yes : c.are_sent_by.result ≡ true = c.are_sent_by.ensures.1 (subst (λ (l : List PublishedModule). AreSentBy c.args.sender (tables_in l)) (sym c.requires.same) j.sent) in
      let no : c.are_sent_by.result ≡ false = c.if-not-are_sent_by.true in
      cc,
)

pub returns-then-not-differ-clause-refused : goal.returns-then-not-differ-clause-refused
returns-then-not-differ-clause-refused c = (
  refl,
  λ j.
      let yes : c.in_ok-differ.differ ≡ true = c.in_ok-differ.ensures ∙ ap (λ (l : List PublishedModule). all_differ have_one_name (tables_in l)) c.requires.same ∙ j.once in
      let no : c.in_ok-differ.differ ≡ false = c.if-not-differ.true in
      cc,
)

pub of-requires-clause-once : goal.of-requires-clause-once
of-requires-clause-once c =
    subst (λ (l : List Module). all_differ have_one_name l ≡ true) (offered-tables c.args.new.now)
    (sym (ap (λ (l : List PublishedModule). all_differ have_one_name (tables_in l)) c.requires.same) ∙ sym c.in_ok-differ.ensures ∙ c.if-not-differ.false)

pub joins-requires-clause-store : goal.joins-requires-clause-store
joins-requires-clause-store c = rw c.in_ok-scope.ensures.store c.in_ok-scope.ensures.sound

pub joins-requires-clause-passed : goal.joins-requires-clause-passed
joins-requires-clause-passed c = rw c.in_ok-scope.ensures.new c.requires.passed

pub returns-clause-ok : goal.returns-clause-ok
returns-clause-ok c =
    on_ok_both c.joins.result (λ (fits : are_compatible (tables_in c.args.s.now) (offered c.args.new.now) ≡ true) (links : Links (with_tables (tables_in c.args.s.now) (offered c.args.new.now))). record {
      sent = subst (λ (l : List PublishedModule). AreSentBy c.args.sender (tables_in l)) c.requires.same (c.are_sent_by.ensures.0 c.if-not-are_sent_by.false);
      once = sym (ap (λ (l : List PublishedModule). all_differ have_one_name (tables_in l)) c.requires.same) ∙ sym c.in_ok-differ.ensures ∙ c.if-not-differ.false;
      compatible = subst (λ (l : List Module). are_compatible (tables_in c.args.s.now) l ≡ true) (sym (offered-tables c.args.new.now)) fits;
      links = subst Links (sym (scope-tables c.args.s.now c.args.new.now)) links;
    })
    (rw (c.in_ok-scope.ensures.store, c.in_ok-scope.ensures.new) at c.joins.ensures.compatible) (rw (c.in_ok-scope.ensures.store, c.in_ok-scope.ensures.new) at c.joins.ensures.ok)

pub returns-clause-lowered : goal.returns-clause-lowered
returns-clause-lowered c =
    rw (scope-tables c.args.s.now c.args.new.now, offered-tables c.args.new.now) (rw (c.in_ok-scope.ensures.store, c.in_ok-scope.ensures.new) at c.joins.ensures.lowered)

pub returns-clause-refused : goal.returns-clause-refused
returns-clause-refused c =
    let whole = MayJoin c.args.sender (tables_in c.args.s.now) (tables_in (published_of c.args.new.now)) (tables_in (with_modules c.args.s.now (published_of c.args.new.now))) in
    IfErr-weaker c.joins.result _ _ (λ e. refused-wider 13 _ whole e (λ j.
    rw (c.in_ok-scope.ensures.store, c.in_ok-scope.ensures.new) (
      subst (λ (l : List Module). are_compatible (tables_in c.args.s.now) l ≡ true) (offered-tables c.args.new.now) j.compatible,
      subst Links (scope-tables c.args.s.now c.args.new.now) j.links,
    ))) c.joins.ensures.refused
