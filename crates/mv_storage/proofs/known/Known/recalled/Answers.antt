use Rattle.mv_storage.proofs.Common.{sym}
use Rattle.mv_storage.proofs.KnownLemmas.{recalled-at}
use Rattle.mv_storage.proofs.known.Known.recalled.Goals as goal

pub returns-in-Some : goal.returns-in-Some
returns-in-Some c = recalled-at c.args.tree.now c.args.self.now.lines c.line_of.result c.in-Some.line.now c.args.key.now c.place_in.result c.requires (sym c.in-Some.ensures) c.place_in.ensures
