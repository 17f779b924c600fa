use Rattle.mv_saved_text.proofs.Common.{arith}
use Rattle.mv_saved_text.proofs.Saves.Written.{tallies-at, tallies-more}
use Rattle.mv_saved_text.proofs.saving.put_tallies.Goals as goal

pub put_tallies_of-requires : goal.put_tallies_of-requires
put_tallies_of-requires c = tallies-at c.args.tallies.now c.each.place (omega arith) c.at.result.now c.at.ensures c.requires

pub each-preserved : goal.each-preserved
each-preserved c =
    tallies-more c.args.tallies.now c.each.place (omega arith) c.at.result.now c.args.text.now.items c.each.text.items c.put_tallies_of.new.text.items c.at.ensures c.each.invariant
    c.in_ok-put_tallies_of.ensures
