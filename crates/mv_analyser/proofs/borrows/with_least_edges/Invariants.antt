use Rattle.std.proofs.Common.{map}
use Rattle.mv_certificate.specs.Functions.{LocalsHoldAt, EdgesHoldAt}
use Rattle.mv_certificate.specs.Reads.{FitsAt}
use Rattle.mv_analyser.specs.Least.{HasLeastLocals, HasLeastEdges}
use Rattle.mv_analyser.specs.Principal.{AllBefore, FindsEdges}
use Rattle.mv_analyser.proofs.Modules.{UpTo}
use Rattle.mv_analyser.proofs.borrows.with_least_edges.Given as goal

abbrev pub invariant-loop-f : goal.invariant-loop-f
invariant-loop-f l = record {
  states : UpTo (λ k s. FitsAt l.m k s × (LocalsHoldAt l.m k s × (EdgesHoldAt l.m k s × (HasLeastLocals l.m k s × HasLeastEdges l.m k s)))) l.f (map (λ stated. stated.items) l.functions.items);
  found : AllBefore (FindsEdges l.m) l.f;
}
