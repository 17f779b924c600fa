use Rattle.std.proofs.Common.{ℕ, ◌≤◌, ◌≡◌, All, List, get_or, min, take, subst, arith}
use Rattle.std.proofs.lemmas.List.{take_all}
use Rattle.std.proofs.lemmas.List.Elements.{All-more}
use Rattle.mv_lattice.proofs.search.least_of.Goals as goal

-- what is at most each of some is still so where it gets less
lower : (xs : List ℕ) (most least : ℕ) → least ≤ most → All (λ m. most ≤ m) xs → All (λ m. least ≤ m) xs
lower xs most least less all i d within = let h = all i d within in omega (arith, less, h)

pub loop-n-preserved : goal.loop-n-preserved
loop-n-preserved c =
    let xs = c.args.successors.now in
    let new = c.min-least.result in
    let is : new ≡ min c.loop-n.least (get_or xs c.loop-n.n-index 0) = c.min-least.ensures in
    record {
      own = omega (arith, is, c.loop-n.invariant.own);
      each = All-more (λ m. new ≤ m) xs c.loop-n.n-index 0 c.loop-n-test.true (lower (take c.loop-n.n-index xs) c.loop-n.least new (omega (arith, is)) c.loop-n.invariant.each) (omega (arith, is));
    }

pub returns-clause-each : goal.returns-clause-each
returns-clause-each c = subst (All (λ m. c.loop-n.least ≤ m)) (take_all c.loop-n.n-index c.args.successors.now c.loop-n-test.false) c.loop-n.invariant.each
