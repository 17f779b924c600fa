use Rattle.mv_linker.proofs.Common.{err_from_is_err_and, tables_in, Links, offered, modules_in}
use Rattle.mv_move_types.proofs.Refusals.{refused-wider}
use Rattle.mv_linker.proofs.Joining.Assembling.{bundle-links, links-all}
use Rattle.mv_linker.proofs.Joining.Joins.{fitting}
use Rattle.mv_linker.proofs.rules.scope.Scope.linked.Goals as goal
use Rattle.mv_linker.proofs.rules.scope.Scope.linked.Goals.{In_ok-sizes}

-- the rules hold of all the modules
all-linked : (c : In_ok-sizes) → Links (modules_in c.args.self.now)
all-linked c =
    let s = c.args.self.now in
    links-all (tables_in s.store.now) (offered s.new.now) (fitting s c.requires.fits) c.requires.fits.store.links (record { named = c.requires.hold; ordered = c.in_ok-needed.ensures.ok; small = c.in_ok-sizes.ensures.small })

pub lowered-requires-clause-joins : goal.lowered-requires-clause-joins
lowered-requires-clause-joins c = record {
  fits = c.requires.fits;
  links = all-linked (goal.at.lowered-requires-clause-joins c).In_ok-sizes;
}

pub returns-clause-ok : goal.returns-clause-ok
returns-clause-ok c = all-linked (goal.at.returns-clause-ok c).In_ok-sizes

pub returns-in_err-needed-clause-refused : goal.returns-in_err-needed-clause-refused
returns-in_err-needed-clause-refused c =
    let p = err_from_is_err_and c.from_residual.result c.from_residual.ensures.1 in
    rw (p.1, p.2) (refused-wider 13 _ _ _ (λ (links : Links (modules_in c.args.self.now)). links.ordered) c.in_err-needed.ensures.refused)

pub returns-in_err-sizes-clause-refused : goal.returns-in_err-sizes-clause-refused
returns-in_err-sizes-clause-refused c =
    let s = c.args.self.now in
    let p = err_from_is_err_and c.from_residual-in_err-sizes.result c.from_residual-in_err-sizes.ensures.1 in
    rw (p.1, p.2) (refused-wider 13 _ _ _ (λ (links : Links (modules_in s)). (bundle-links (tables_in s.store.now) (offered s.new.now) c.requires.fits.once links).small) c.in_err-sizes.ensures.refused)
