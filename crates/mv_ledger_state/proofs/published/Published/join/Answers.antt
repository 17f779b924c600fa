use Rattle.mv_ledger_state.proofs.Common.{◌∙◌, ◌≡◌, ◌≤◌, List, ap, arith, inl, inr, length, refl, subst, sym, length-map, err_from_is_err_and, PublishedModule, with_modules, IsStore, tables_in, published_of, published_one, lists_of}
use Rattle.mv_ledger_state.proofs.Common.{New, Phase, AddsTallies, ArePlacedFor, AreWithin, IsKeptOut, MayFollow, with_placed, ArePlaced, PublishedView, all_of, Tally}
use Rattle.mv_move_types.proofs.Refusals.{refused-weaker}
use Rattle.mv_ledger_state.proofs.Bundles.Joining.{IsPlacedBundle, joined-within, placed-length, room-for, no-room-for, after-held, after-tallied}
use Rattle.mv_ledger_state.proofs.Marks.{held-after}
use Rattle.mv_ledger_state.specs.Blocks.{held_in, CanNote}
use Rattle.mv_ledger_state.specs.declared.blocks.Blocks.{Blocks}
use Rattle.mv_ledger_state.proofs.TalliedStores.{tallied-long}
use Rattle.mv_ledger_state.proofs.published.Published.join.Goals as goal
use Rattle.mv_ledger_state.proofs.published.Published.join.Goals.{In_ok-linked, In_ok-reserve, In_ok-add}

pub placed-requires : goal.placed-requires
placed-requires c = record { few = omega (arith, ap length c.deref.ensures.value, c.requires.few, c.self.invariant.0.few); all = tallied-long _ _ c.self.invariant.0 }

pub is_too_much-requires : goal.is_too_much-requires
is_too_much-requires c =
    let ps = published_of c.deref.result.now in
    let long = placed-length (tables_in c.self.inside.store) c.self.inside.tallies (length c.self.inside.store) (tables_in ps) c.in_ok-placed.placed.items c.in_ok-placed.ensures.placed in
    let many = long ∙ length-map ps (λ (p : PublishedModule). p.tables) ∙ length-map c.deref.result.now published_one ∙ ap length c.deref.ensures.value in
    omega (arith, many, ap length c.deref-2.ensures.value, c.requires.few, c.self.invariant.0.few, c.len.ensures.count)

-- the bundle, with where each of its modules is to stand
bundle-of : (c : In_ok-linked) → IsPlacedBundle c.self.inside.store (published_of c.args.news.items) c.self.inside.tallies c.in_ok-placed.placed.items c.args.sender
bundle-of c = record {
  held = c.self.invariant.0;
  whole = subst (λ (l : List PublishedModule). IsStore (with_modules c.self.inside.store l)) c.in_ok-linked.ensures.ok c.in_ok-linked.ensures.linked.whole;
  join = c.in_ok-linked.ensures.joins;
  at =
      subst (λ (ns : List New). ArePlacedFor (tables_in c.self.inside.store) c.self.inside.tallies (length c.self.inside.store) (tables_in (published_of ns)) c.in_ok-placed.placed.items)
      c.deref.ensures.value c.in_ok-placed.ensures.placed;
}

-- the lists that there is room in
lists-here : (c : In_ok-reserve) → lists_of c.reserve.new.self.items ≡ c.self.inside.tallies
lists-here c = ap lists_of c.in_ok-reserve.ensures.items ∙ c.tallies.view_is

pub put_all-requires-clause-within : goal.put_all-requires-clause-within
put_all-requires-clause-within c =
    let here = lists-here (goal.at.put_all-requires-clause-within c).In_ok-reserve in
    let bundle = bundle-of (goal.at.put_all-requires-clause-within c).In_ok-linked in
    subst (λ (tss : List (List Tally)). AreWithin (length tss) c.in_ok-placed.placed.items) (sym here) (joined-within _ _ _ _ _ bundle)

pub put_all-requires-clause-placed : goal.put_all-requires-clause-placed
put_all-requires-clause-placed c = subst (λ (tss : List (List Tally)). ArePlaced 0 tss) (sym (ap lists_of c.in_ok-reserve.ensures.items)) c.tallies.invariant

pub put_all-requires-clause-fits : goal.put_all-requires-clause-fits
put_all-requires-clause-fits c = omega (arith, c.len-2.ensures, c.in_ok-placed.placed.ok.0, c.in_ok-reserve.ensures.ok, c.in_ok-reserve.ensures.len)

pub put_all-requires-clause-notes : goal.put_all-requires-clause-notes
put_all-requires-clause-notes c = subst (λ n. CanNote n c.prepare.new.self) (c.len-3.ensures ∙ c.in_ok-placed.placed.ok.0) c.in_ok-prepare.ensures.can

pub put_all-requires-clause-ascend : goal.put_all-requires-clause-ascend
put_all-requires-clause-ascend c = c.prepare.ensures.ascend c.self.invariant.1.ascend

-- what the store and the tallies are then
store-of : (c : In_ok-add) → c.add.new.s ≡ with_modules c.self.inside.store (published_of c.args.news.items)
store-of c = c.in_ok-add.ensures.ok ∙ ap (with_modules c.self.inside.store) c.in_ok-linked.ensures.ok

lists-of : (c : In_ok-add) (lists : List (List Tally)) → lists ≡ with_placed (lists_of c.reserve.new.self.items) c.in_ok-placed.placed.items
    → lists ≡ with_placed c.self.inside.tallies c.in_ok-placed.placed.items
lists-of c lists is = is ∙ ap (λ (tss : List (List Tally)). with_placed tss c.in_ok-placed.placed.items) (ap lists_of c.in_ok-reserve.ensures.items ∙ c.tallies.view_is)

room-of : (c : In_ok-add) → IsPlacedBundle c.self.inside.store (published_of c.args.news.items) c.self.inside.tallies c.in_ok-placed.placed.items c.args.sender
    → length (with_modules c.self.inside.store (published_of c.args.news.items)) ≤ 4096
room-of c bundle =
    room-for _ _ _ _ _ bundle c.len.result c.deref-2.result.now c.len.ensures.count c.deref-2.ensures.value (sym c.is_too_much.ensures ∙ c.if-is_too_much.false)

-- what is held at each mark stays
marks-of : (c : In_ok-add) (b : Blocks) (lists : List (List Tally)) → held_in b c.add.new.s lists ≡ held_in c.prepare.new.self c.add.new.s (lists_of c.reserve.new.self.items)
    → held_in b c.add.new.s lists ≡ held_in c.self.inside.blocks c.self.inside.store c.self.inside.tallies
marks-of c b lists is =
    is ∙ ap (held_in c.prepare.new.self c.add.new.s) (ap lists_of c.in_ok-reserve.ensures.items ∙ c.tallies.view_is) ∙ c.in_ok-prepare.ensures.held c.add.new.s c.self.inside.tallies

pub invariant_of-self-2 : goal.invariant_of-self-2
invariant_of-self-2 c =
    let here = (goal.at.invariant_of-self-2 c).In_ok-add in
    let bundle = bundle-of (goal.at.invariant_of-self-2 c).In_ok-linked in
    let b = c.put_all.new.blocks in
    let lists = lists_of c.put_all.new.modules.items in (
      after-held _ _ _ _ _ bundle _ _ (store-of here) (lists-of here lists c.put_all.ensures.lists) (room-of here bundle) c.put_all.ensures.placed,
      held-after c.self.inside.blocks (record b { room = 0 }) c.self.inside.store c.add.new.s c.self.inside.tallies lists c.self.invariant.1 c.put_all.ensures.ascend (omega (arith, b.noted.ok.1))
          (marks-of here b lists (c.put_all.ensures.held c.add.new.s)),
    )

pub returns-clause-joins : goal.returns-clause-joins
returns-clause-joins c = subst (λ (p : PublishedView). MayFollow c.args.sender p.modules (published_of c.args.news.items)) c.self.view_is c.in_ok-linked.ensures.joins

pub returns-clause-modules : goal.returns-clause-modules
returns-clause-modules c = store-of (goal.at.returns-clause-modules c).In_ok-add ∙ ap (λ (p : PublishedView). with_modules p.modules (published_of c.args.news.items)) c.self.view_is

pub returns-clause-marks : goal.returns-clause-marks
returns-clause-marks c =
    marks-of (goal.at.returns-clause-marks c).In_ok-add c.put_all.new.blocks (lists_of c.put_all.new.modules.items) (c.put_all.ensures.held c.add.new.s)
    ∙ ap (λ (p : PublishedView). p.marks) c.self.view_is

pub returns-clause-tallied : goal.returns-clause-tallied
returns-clause-tallied c =
    let here = (goal.at.returns-clause-tallied c).In_ok-add in
    let lists = lists_of c.put_all.new.modules.items in
    subst (λ (p : PublishedView). AddsTallies p.modules c.add.new.s (all_of p.tallies) (all_of lists)) c.self.view_is
    (after-tallied _ _ _ _ _ (bundle-of (goal.at.returns-clause-tallied c).In_ok-linked) _ _ (store-of here) (lists-of here lists c.put_all.ensures.lists))

pub returns-clause-held : goal.returns-clause-held
returns-clause-held c =
    let here = (goal.at.returns-clause-held c).In_ok-add in
    let bundle = bundle-of (goal.at.returns-clause-held c).In_ok-linked in
    let lists = lists_of c.put_all.new.modules.items in
    after-held _ _ _ _ _ bundle _ _ (store-of here) (lists-of here lists c.put_all.ensures.lists) (room-of here bundle) c.put_all.ensures.placed

pub returns-in_err-linked-clause-refused : goal.returns-in_err-linked-clause-refused
returns-in_err-linked-clause-refused c =
    let p = err_from_is_err_and c.from_residual-in_err-linked.result c.from_residual-in_err-linked.ensures.1 in
    rw (p.1, p.2)
    (subst (λ (v : PublishedView). IsKeptOut c.args.sender v.modules (published_of c.args.news.items) c.in_err-linked.field-0.0) c.self.view_is
    (refused-weaker _ _ c.in_err-linked.field-0.0 (λ p out. inl out) c.in_err-linked.ensures.refused))

pub returns-then-is_too_much-clause-refused : goal.returns-then-is_too_much-clause-refused
returns-then-is_too_much-clause-refused c =
    subst (λ (v : PublishedView). IsKeptOut c.args.sender v.modules (published_of c.args.news.items) (Phase 14)) c.self.view_is
    (inr (
      refl,
      c.in_ok-linked.ensures.joins,
      no-room-for _ _ _ _ _ (bundle-of (goal.at.returns-then-is_too_much-clause-refused c).In_ok-linked)
          c.len.result c.deref-2.result.now c.len.ensures.count c.deref-2.ensures.value (sym c.is_too_much.ensures ∙ c.if-is_too_much.true),
    ))
