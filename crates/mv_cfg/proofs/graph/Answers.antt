use Rattle.std.proofs.Common.{◌≡◌, ◌<◌, ℕ, Bool, List, length, All, sym, ◌∙◌, subst}
use Rattle.std.specs.Vec.{with_items}
use Rattle.std.proofs.lemmas.List.{with_items_is}
use Rattle.mv_cfg.specs.declared.Block.{Block}
use Rattle.mv_cfg.specs.Steps.{starts, IsPlaced, IsSplit, IsMarkedAs}
use Rattle.mv_cfg.proofs.Leads.{starts-inside}
use Rattle.mv_cfg.proofs.Graphs.{linked}
use Rattle.mv_cfg.proofs.Marks.{IsFlowGraph-marked}
use Rattle.mv_cfg.proofs.graph.Goals as goal

-- the tables by the code's first instructions
placed_by : (size : ℕ) (firsts other places : List ℕ) → firsts ≡ other → IsPlaced size firsts places → IsPlaced size other places
placed_by size firsts other places same p = subst (λ (xs : List ℕ). IsPlaced size xs places) same p

pub places-requires : goal.places-requires
places-requires c = subst (λ (xs : List ℕ). All (λ i. i < length c.args.code.now) xs) (sym (c.deref-2.ensures.value ∙ c.in_ok-firsts.ensures)) (starts-inside c.args.code.now)

pub reached-requires : goal.reached-requires
reached-requires c =
    let code = c.args.code.now in
    let places = c.in_ok-places.places.items in
    let bs = c.in_ok-split.field-0 in
    let placed : IsPlaced (length code) (starts code) places = placed_by (length code) c.deref-2.result.now (starts code) places (c.deref-2.ensures.value ∙ c.in_ok-firsts.ensures) c.in_ok-places.ensures in
    let split : IsSplit code (starts code) places bs.items =
    subst (λ (xs : List ℕ). IsSplit code (starts code) xs bs.items) c.deref-4.ensures.value (subst (λ (xs : List ℕ). IsSplit code xs c.deref-4.result.now bs.items) (c.deref-3.ensures.value ∙ c.in_ok-firsts.ensures) c.in_ok-split.ensures) in
    linked code places (record { blocks = bs }) c.requires.ends c.requires.inside placed split

pub returns : goal.returns
returns c =
    let code = c.args.code.now in
    let places = c.in_ok-places.places.items in
    let bs = c.in_ok-split.field-0 in
    let placed : IsPlaced (length code) (starts code) places = placed_by (length code) c.deref-2.result.now (starts code) places (c.deref-2.ensures.value ∙ c.in_ok-firsts.ensures) c.in_ok-places.ensures in
    let split : IsSplit code (starts code) places bs.items =
    subst (λ (xs : List ℕ). IsSplit code (starts code) xs bs.items) c.deref-4.ensures.value (subst (λ (xs : List ℕ). IsSplit code xs c.deref-4.result.now bs.items) (c.deref-3.ensures.value ∙ c.in_ok-firsts.ensures) c.in_ok-split.ensures) in
    let marked : IsMarkedAs bs.items c.in_ok-marks.marks.items c.mark.new.blocks =
    subst (λ (xs : List Block). IsMarkedAs xs c.in_ok-marks.marks.items c.mark.new.blocks) c.deref_mut.ensures.value (subst (λ (ms : List Bool). IsMarkedAs c.deref_mut.result.now ms c.mark.new.blocks) c.deref-5.ensures.value c.mark.ensures) in
    let whole : (with_items bs c.mark.new.blocks).items ≡ c.mark.new.blocks = with_items_is bs c.mark.new.blocks (marked.count ∙ sym bs.ok.0) in
    IsFlowGraph-marked (record { blocks = bs }) (record { blocks = with_items bs c.mark.new.blocks }) c.in_ok-marks.marks.items
    (subst (λ (xs : List Block). IsMarkedAs bs.items c.in_ok-marks.marks.items xs) (sym whole) marked) code places c.requires.ends c.requires.inside placed split c.in_ok-marks.ensures
