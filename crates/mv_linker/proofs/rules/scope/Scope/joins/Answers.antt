use Rattle.mv_linker.proofs.Common.{◌∙◌, ◌≡◌, Links, are_compatible, false, modules_in, offered, refl, sym, tables_in, true, IfErr-weaker}
use Rattle.mv_linker.proofs.Joining.Compatible.{compatible-follow, follow-compatible}
use Rattle.mv_move_types.proofs.Refusals.{refused-wider}
use Rattle.std.proofs.lemmas.Result.{on_ok_weaker}
use Rattle.mv_linker.proofs.rules.scope.Scope.joins.Goals as goal
use Rattle.mv_linker.proofs.rules.scope.Scope.joins.Goals.{Else-not-all_follow}

pub returns-then-not-all_follow-clause-refused : goal.returns-then-not-all_follow-clause-refused
returns-then-not-all_follow-clause-refused c = (
  refl,
  λ j.
      let s = c.args.self.now in
      let yes : c.all_follow.result ≡ true = c.all_follow.ensures ∙ compatible-follow (tables_in s.store.now) (offered s.new.now) j.0 in
      let no : c.all_follow.result ≡ false = c.if-not-all_follow.true in
      cc,
)

compatible : (c : Else-not-all_follow) → are_compatible (tables_in c.args.self.now.store.now) (offered c.args.self.now.new.now) ≡ true
compatible c =
    let s = c.args.self.now in
    follow-compatible (tables_in s.store.now) (offered s.new.now) c.requires.store.once (sym c.all_follow.ensures ∙ c.if-not-all_follow.false)

pub links-requires : goal.links-requires
links-requires c = record {
  fits = record {
    store = c.requires.store;
    passed = c.requires.passed;
    once = c.args.self.now.once;
    compatible = compatible (goal.at.links-requires c).Else-not-all_follow;
  };
}

pub returns-clause-compatible : goal.returns-clause-compatible
returns-clause-compatible c =
    let s = c.args.self.now in
    let fits = compatible (goal.at.returns-clause-compatible c).Else-not-all_follow in
    on_ok_weaker c.links.result (λ (links : Links (modules_in s)). fits) c.links.ensures.ok

pub returns-clause-refused : goal.returns-clause-refused
returns-clause-refused c =
    let s = c.args.self.now in
    IfErr-weaker c.links.result _ _ (λ e. refused-wider 13 _ ((are_compatible (tables_in s.store.now) (offered s.new.now) ≡ true) × Links (modules_in s)) e (λ j. j.1)) c.links.ensures.refused
