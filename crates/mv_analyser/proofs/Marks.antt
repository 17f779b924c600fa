-- A flow states something exactly where a block is marked as reached.
use Rattle.std.proofs.Common.{◌≡◌, ℕ, true, List, map, is_some, Option, Some, None, refl, sym, ap, ◌∙◌, true≢false}
use Rattle.std.proofs.lemmas.Option.{same_Some}
use Rattle.mv_cfg.specs.declared.Block.{Block}
use Rattle.mv_cfg.specs.declared.Cfg.{Cfg}
use Rattle.mv_cfg.specs.Graph.{IsGraph}
use Rattle.mv_lattice.specs.Flow.{IsFlow}
use Rattle.mv_lattice.specs.Order.{Order}
use Rattle.mv_certificate.proofs.Whole.{same_marks}
use Rattle.mv_edges.proofs.AsSets.{same_truth}

there : {S : Type 0} (o : Option S) → is_some o ≡ true → (s : S) × (o ≡ Some s)
there None h = absurd (true≢false (sym h))
there (Some s) h = (s, refl)

pub flow-marks : {S : Type 0} (o : Order S) (g : Cfg) (size : ℕ) (v : List (Option S)) → IsGraph g size → IsFlow o g v → map is_some v ≡ map (λ (b : Block). b.reached) g.blocks.items
flow-marks o g size v graph flow =
    same_marks is_some (λ (b : Block). b.reached) v g.blocks.items flow.entries (λ i x b vi bi.
    let marks = graph.marks i b bi in
    same_truth (is_some x) b.reached
    (λ h. let s = there x h in marks.1 (flow.reached i s.0 (vi ∙ ap Some s.1)))
    (λ h. let s = flow.stated i (marks.0 h) in ap is_some (same_Some x (Some s.0) (sym vi ∙ s.1))))
