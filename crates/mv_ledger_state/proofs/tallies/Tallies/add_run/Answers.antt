use Rattle.mv_ledger_state.proofs.Common.{[], ◌+◌, ◌∙◌, ◌∷◌, ◌≡◌, ◌≤◌, List, ap, arith, get_or, length, length-map, map-set, refl, slice_set, subst, sym, take, true, vec_capacity, vec_len, with_items, with_items_is, All, Global, Some, StructTally}
use Rattle.mv_ledger_state.proofs.Common.{AreInOrder, HasRoomLeft, IsRoomFor, ArePlaced, all_of, tally_after, Tally, Vec, lists_of}
use Rattle.mv_ledger_state.specs.Blocks.{held_in, is_open, Ascend}
use Rattle.mv_ledger_state.specs.declared.blocks.Blocks.{Blocks}
use Rattle.mv_ledger_state.proofs.Marks.{notes-more, there-is}
use Rattle.mv_ledger_state.proofs.Runs.TalliesByModule.{all-first, placed-after, step-after, step-at, placed-at, ordered-at, room-at, written}
use Rattle.mv_ledger_state.proofs.tallies.Tallies.add_run.Goals as goal
use Rattle.mv_ledger_state.proofs.tallies.Tallies.add_run.Goals.{in-Some, in_default}

-- no entry
abbrev none : StructTally
none = record { place = 0; index = 0; packs = 0; unpacks = 0 }

pub loop-entry-init : goal.loop-entry-init
loop-entry-init c = record {
  after = all-first (lists_of c.self.inside.modules.items);
  notes = λ here. omega (arith, c.requires.notes here);
  ascend = c.requires.ascend;
  held = λ modules. refl;
}

pub invariant_of-self : goal.invariant_of-self
invariant_of-self c =
    subst (λ (tss : List (List Tally)). ArePlaced 0 tss) (sym c.loop-entry.invariant.after)
    (placed-after (take c.loop-entry.entry-index c.args.run.now) 0 (lists_of c.self.inside.modules.items) c.self.invariant)

pub add_noted-requires-clause-placed : goal.add_noted-requires-clause-placed
add_noted-requires-clause-placed c =
    subst (λ (ts : List Tally). All (λ t. t.place ≡ (get_or c.args.run.now c.loop-entry.entry-index none).place) ts) (sym c.deref_mut.ensures.value)
    (placed-at c.args.run.now c.loop-entry.entry-index none _ (lists_of c.self.inside.modules.items) c.loop-entry.self-inside.modules.items c.loop-entry-test.true refl c.self.invariant
    c.loop-entry.invariant.after c.in-Some.tallies.now c.in-Some.ensures.item.3.0 c.in-Some.ensures.value)

pub add_noted-requires-clause-ordered : goal.add_noted-requires-clause-ordered
add_noted-requires-clause-ordered c =
    subst AreInOrder (sym c.deref_mut.ensures.value)
    (ordered-at c.args.run.now c.loop-entry.entry-index none _ (lists_of c.self.inside.modules.items) c.loop-entry.self-inside.modules.items c.loop-entry-test.true refl c.self.invariant
    c.loop-entry.invariant.after
    (subst (λ (tss : List (List Tally)). All AreInOrder tss) (sym c.self.view_is) c.requires.ordered) c.in-Some.tallies.now c.in-Some.ensures.item.3.0 c.in-Some.ensures.value)

pub add_noted-requires-clause-room : goal.add_noted-requires-clause-room
add_noted-requires-clause-room c =
    subst (λ (ts : List Tally). All (IsRoomFor (get_or c.args.run.now c.loop-entry.entry-index none)) ts) (sym c.deref_mut.ensures.value)
    (room-at c.args.run.now c.loop-entry.entry-index none _ (lists_of c.self.inside.modules.items) c.loop-entry.self-inside.modules.items c.loop-entry-test.true refl c.self.invariant
    c.loop-entry.invariant.after
    (subst (λ (tss : List (List Tally)). All HasRoomLeft (all_of tss)) (sym c.self.view_is) c.requires.room) c.requires.few c.in-Some.tallies.now c.in-Some.ensures.item.3.0 c.in-Some.ensures.value)

pub add_noted-requires-clause-notes : goal.add_noted-requires-clause-notes
add_noted-requires-clause-notes c = λ here. omega (arith, c.loop-entry-test.true, c.loop-entry.invariant.notes here)

pub loop-entry-preserved : goal.loop-entry-preserved
loop-entry-preserved c =
    elim c.match-get_mut.branch [
      | in-Some w ↦
          let vs = c.loop-entry.self-inside.modules.items in
          let v = w.in-Some.tallies.now in
          let there = there-is (λ (v : Vec Tally Global). v.items) vs _ v w.in-Some.ensures.item.3.0 w.in-Some.ensures.value ∙ ap Some (sym w.deref_mut.ensures.value) in
          let long = ap length w.add_noted.ensures.after ∙ length-map w.deref_mut.result.now (tally_after (get_or c.args.run.now c.loop-entry.entry-index none ∷ [])) ∙ w.deref_mut.ensures.len in
          let lists = map-set (λ (v : Vec Tally Global). v.items) vs _ (with_items v w.add_noted.new.tallies) ∙ ap (slice_set (lists_of vs) _) (with_items_is v w.add_noted.new.tallies long) in
          record {
            after =
                ap (λ t. lists_of t.modules.items) w.self-inside-is
                ∙ step-at c.args.run.now c.loop-entry.entry-index none _ (lists_of c.self.inside.modules.items) vs c.loop-entry-test.true refl c.self.invariant
                c.loop-entry.invariant.after v _ w.in-Some.ensures.item.3.0 w.in-Some.ensures.value
                (written _ v w.deref_mut.result.now w.add_noted.new.tallies w.add_noted.ensures.after w.deref_mut.ensures.value (w.deref_mut.ensures.len));
            notes =
                subst (λ (b : Blocks). is_open b.marks.items ≡ true → vec_len b.noted + length c.args.run.now ≤ vec_capacity b.noted + (c.loop-entry.entry-index + 1)) (sym w.blocks-is)
                (notes-more c.loop-entry.blocks w.add_noted.new.blocks (length c.args.run.now) c.loop-entry.entry-index w.add_noted.ensures.marks w.add_noted.ensures.len w.add_noted.ensures.capacity
                c.loop-entry.invariant.notes);
            ascend = subst Ascend (sym w.blocks-is) (w.add_noted.ensures.ascend c.loop-entry.invariant.ascend);
            held = λ modules.
                ap (λ (b : Blocks). held_in b modules (lists_of c.match-get_mut.self-inside.modules.items)) w.blocks-is
                ∙ ap (λ t. held_in w.add_noted.new.blocks modules (lists_of t.modules.items)) w.self-inside-is
                ∙ ap (held_in w.add_noted.new.blocks modules) lists
                ∙ w.add_noted.ensures.held c.loop-entry.invariant.ascend modules (lists_of vs) there
                ∙ c.loop-entry.invariant.held modules;
          }
      | in_default w ↦
          record {
            after =
                ap (λ t. lists_of t.modules.items) w.self-inside-is
                ∙ step-after c.args.run.now c.loop-entry.entry-index none _ (lists_of c.self.inside.modules.items) c.loop-entry.self-inside.modules.items c.loop-entry-test.true refl c.self.invariant
                c.loop-entry.invariant.after w.in_default.ensures.item.3;
            notes =
                subst (λ (b : Blocks). is_open b.marks.items ≡ true → vec_len b.noted + length c.args.run.now ≤ vec_capacity b.noted + (c.loop-entry.entry-index + 1)) (sym w.blocks-is)
                (λ here. omega (arith, c.loop-entry.invariant.notes here));
            ascend = subst Ascend (sym w.blocks-is) c.loop-entry.invariant.ascend;
            held = λ modules.
                ap (λ (b : Blocks). held_in b modules (lists_of c.match-get_mut.self-inside.modules.items)) w.blocks-is
                ∙ ap (λ t. held_in c.loop-entry.blocks modules (lists_of t.modules.items)) w.self-inside-is
                ∙ c.loop-entry.invariant.held modules;
          }
    ]
