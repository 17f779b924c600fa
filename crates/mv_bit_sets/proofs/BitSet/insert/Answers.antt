use Rattle.std.proofs.Common.{◌≡◌, ◌∙◌, ◌/◌, ◌<◌, ap, arith, sym, length, get_or}
use Rattle.std.specs.Prelude.{◌||◌, ◌==◌}
use Rattle.std.proofs.lemmas.Option.{get_or_from_slice_get, slice_get-get_or}
use Rattle.mv_bit_sets.specs.BitSets.{has}
use Rattle.mv_bit_sets.proofs.Bits.{has-put}
use Rattle.mv_bit_sets.proofs.BitSet.insert.Goals as goal

pub returns-clause-members : goal.returns-clause-members
returns-clause-members c = λ p.
    let ws = c.self.inside.words.items in
    let low : c.args.number / 64 < length ws = omega (arith, c.in_ok-grow.ensures.long, ap length c.self.view_is) in
    let word : c.index.result.now ≡ get_or ws (c.args.number / 64) 0 =
    c.index.ensures ∙ sym (get_or_from_slice_get ws (c.args.number / 64) (get_or ws (c.args.number / 64) c.index.result.now) 0 (slice_get-get_or ws (c.args.number / 64) c.index.result.now low)) in
    rw word (has-put ws c.args.number low p) ∙ ap (λ b. p == c.args.number || b) (ap (λ l. has l p) c.self.view_is ∙ c.in_ok-grow.ensures.same p)
