use Rattle.mv_linker.proofs.Common.{[], ◌++◌, ◌+◌, ◌∙◌, ◌∷◌, ◌≡◌, Some, ap, arith, length, refl, slice_get, subst, sym, take, take_all, take_more, same_Some, slice_get_read, list_all, IsTrue, Module}
use Rattle.mv_linker.proofs.Common.{tables_in, err_from_is_err_and, Links, names_hold, offered, AreNames, modules_in, New}
use Rattle.mv_move_types.proofs.Refusals.{refused-wider}
use Rattle.mv_linker.proofs.Joining.Assembling.{bundle-links, named-more, offered-among, offered-at, no-names, more-names, all-names}
use Rattle.mv_linker.proofs.Members.{all-among}
use Rattle.mv_linker.proofs.rules.scope.Scope.named.Goals as goal

pub loop-i-init : goal.loop-i-init
loop-i-init c = record { hold = refl; names = no-names (modules_in c.args.self.now) (offered c.args.self.now.new.now) c.in_ok-all.all.items c.in_ok-all.ensures.items }

pub returns-in_err-names-clause-refused : goal.returns-in_err-names-clause-refused
returns-in_err-names-clause-refused c =
    let p = err_from_is_err_and c.from_residual-in_err-names.result c.from_residual-in_err-names.ensures.1 in
    let s = c.args.self.now in
    let n = c.index-self-i.result in
    let among = offered-among s.new.now c.loop-i.i n (slice_get_read s.new.now (length s.new.now) c.loop-i.i n refl c.loop-i-test.true c.index-self-i.is) in
    rw (p.1, p.2) (refused-wider 13 (IsTrue (names_hold (modules_in s) c.module.result.now)) (Links (modules_in s)) _
    (λ (links : Links (modules_in s)). ap (names_hold (modules_in s)) c.module.ensures.value ∙ ap (λ (x : New). names_hold (modules_in s) x.module) (sym c.index-self-i.is)
    ∙ all-among (names_hold (modules_in s)) (offered s.new.now) n.module (bundle-links (tables_in s.store.now) (offered s.new.now) c.requires.fits.once links).named among) c.in_err-names.ensures.refused)

pub loop-i-preserved : goal.loop-i-preserved
loop-i-preserved c =
    let n = c.index-self-i.result in
    let new = c.args.self.now.new.now in
    let taken : take (c.loop-i.i + 1) new ≡ take c.loop-i.i new ++ n ∷ [] = take_more new c.loop-i.i n c.loop-i-test.true ∙ ap (λ x. take c.loop-i.i new ++ x ∷ []) (sym c.index-self-i.is) in
    let here : slice_get new c.loop-i.i ≡ Some n = slice_get_read new (length new) c.loop-i.i n refl c.loop-i-test.true c.index-self-i.is in
    record {
      hold =
          named-more (names_hold (modules_in c.args.self.now)) new c.loop-i.i n c.loop-i.invariant.hold taken
          (ap (λ (x : New). names_hold (modules_in c.args.self.now) x.module) c.index-self-i.is ∙ sym (ap (names_hold (modules_in c.args.self.now)) c.module.ensures.value) ∙ c.in_ok-names.ensures.there);
      names =
          more-names (modules_in c.args.self.now) (offered new) c.loop-i.all.items c.pushed.new.v.items c.loop-i.i c.in_ok-names.names c.loop-i.invariant.names c.in_ok-pushed.ensures.ok
          (λ m at.
          let same : c.module.result.now ≡ m = c.module.ensures.value ∙ ap (λ (x : New). x.module) (sym c.index-self-i.is) ∙ same_Some n.module m (sym (offered-at new c.loop-i.i n here) ∙ at) in
          subst (λ (x : Module). AreNames (modules_in c.args.self.now) x c.in_ok-names.names) same c.in_ok-names.ensures.names);
    }

pub returns-clause-ok : goal.returns-clause-ok
returns-clause-ok c =
    sym (ap (λ l. list_all (names_hold (modules_in c.args.self.now)) (offered l)) (take_all c.loop-i.i c.args.self.now.new.now c.loop-i-test.false)) ∙ c.loop-i.invariant.hold

pub returns-clause-names : goal.returns-clause-names
returns-clause-names c = all-names (modules_in c.args.self.now) c.args.self.now.new.now c.loop-i.all.items c.loop-i.i c.loop-i.invariant.names (omega arith)
