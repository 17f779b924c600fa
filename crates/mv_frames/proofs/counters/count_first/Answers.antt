use Rattle.std.proofs.Common.{◌≡◌, ◌++◌, ◌∷◌, [], length, List, ℕ, sym, ap, ◌∙◌, subst}
use Rattle.mv_machine.specs.declared.StructTally.{StructTally}
use Rattle.mv_frames.specs.Counters.{placed_in, IsIndexed, IsPlaced}
use Rattle.mv_frames.proofs.Counts.{indexed-push, first}
use Rattle.mv_frames.proofs.counters.count_first.Goals as goal

pub returns-clause-indexed : goal.returns-clause-indexed
returns-clause-indexed c =
    let ts = c.args.tallies.now.items in
    let more : c.push_reserved.new.self.items ≡ ts ++ first ts c.args.d c.args.is_pack ∷ [] =
    c.push_reserved.ensures.items ∙ ap (λ (xs : List StructTally). xs ++ c.first.result ∷ []) c.reserve.ensures.items ∙ ap (λ (t : StructTally). ts ++ t ∷ []) c.first.ensures in
    let place : c.len-place.result ≡ length ts = c.len-place.ensures ∙ c.args.tallies.now.ok.0 in
    let placed : IsPlaced c.args.d (length ts) (placed_in c.args.places.now.entries) (placed_in c.note_place.new.places.entries) =
    subst (λ (n : ℕ). IsPlaced c.args.d n (placed_in c.args.places.now.entries) (placed_in c.note_place.new.places.entries)) place c.in_ok-note_place.ensures.placed in
    subst (λ (xs : List StructTally). IsIndexed xs (placed_in c.note_place.new.places.entries)) (sym more)
    (indexed-push ts c.args.d c.args.is_pack (placed_in c.args.places.now.entries) (placed_in c.note_place.new.places.entries) c.requires.new c.requires.indexed placed)
