-- The lemmas of Laws/There.antt, on edges between nodes that are there, that other proofs cite.
pub use Rattle.mv_borrow_graph.specs.Laws.There.{each_append, each_sorted, node_itself}
