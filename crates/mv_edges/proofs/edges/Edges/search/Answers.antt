use Rattle.mv_edges.proofs.Common.{IfErr, subst, take, list_all, edge_before}
use Rattle.std.proofs.Common.{IsTrue}
use Rattle.mv_edges.proofs.edges.Edges.search.Goals as goal

pub returns-clause-before : goal.returns-clause-before
returns-clause-before c =
    subst (λ es. IfErr c.place_of.result (λ place. IsTrue (list_all (λ x. edge_before x c.args.e.now) (take place es)))) c.as_slice.ensures.value c.place_of.ensures.before
