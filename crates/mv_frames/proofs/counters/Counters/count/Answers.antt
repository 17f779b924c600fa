use Rattle.std.proofs.Common.{◌-◌, ◌^◌, map, List, sym, subst}
use Rattle.mv_machine.specs.declared.StructTally.{StructTally}
use Rattle.mv_frames.specs.Counters.{counts_in, placed_in, struct_of, AreBelow, IsAt, IsNowhere}
use Rattle.mv_frames.proofs.Counts.{at-below, at-indexed, at-counted, nowhere-first}
use Rattle.mv_frames.proofs.counters.Counters.count.Goals as goal

pub add-requires : goal.add-requires
add-requires c =
    let ts = c.self.inside.tallies.items in
    let at : IsAt (map struct_of ts) c.args.d c.in-Some.place = subst (λ (xs : List StructTally). IsAt (map struct_of xs) c.args.d c.in-Some.place) c.deref.ensures.value c.in-Some.ensures in
    at-below ts c.in-Some.place c.index_mut.result.now c.args.d at c.index_mut.ensures.value (2 ^ 64 - 1)
    (subst (λ (xs : List StructTally). AreBelow (2 ^ 64 - 1) (counts_in xs)) (sym c.self.view_is) c.requires)

pub invariant_of-self : goal.invariant_of-self
invariant_of-self c =
    let ts = c.self.inside.tallies.items in
    let at : IsAt (map struct_of ts) c.args.d c.in-Some.place = subst (λ (xs : List StructTally). IsAt (map struct_of xs) c.args.d c.in-Some.place) c.deref.ensures.value c.in-Some.ensures in
    at-indexed ts c.in-Some.place c.index_mut.result.now c.args.d at c.index_mut.ensures.value c.add.new.tally c.args.is_pack c.add.ensures (placed_in c.self.inside.places.entries) c.self.invariant

pub returns-in-Some-clause-counted : goal.returns-in-Some-clause-counted
returns-in-Some-clause-counted c =
    let ts = c.self.inside.tallies.items in
    let at : IsAt (map struct_of ts) c.args.d c.in-Some.place = subst (λ (xs : List StructTally). IsAt (map struct_of xs) c.args.d c.in-Some.place) c.deref.ensures.value c.in-Some.ensures in
    at-counted ts c.in-Some.place c.index_mut.result.now c.args.d at c.index_mut.ensures.value c.add.new.tally c.args.is_pack c.add.ensures c.args.self.now c.self.view_is

pub returns-in-None-clause-again : goal.returns-in-None-clause-again
returns-in-None-clause-again c = λ some.
    let ts = c.self.inside.tallies.items in
    let none : IsNowhere (map struct_of ts) c.args.d = subst (λ (xs : List StructTally). IsNowhere (map struct_of xs) c.args.d) c.deref.ensures.value c.in-None.ensures in
    absurd (nowhere-first ts c.args.self.now c.args.d c.self.view_is none some)
