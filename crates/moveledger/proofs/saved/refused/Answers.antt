use Rattle.std.proofs.Common.{string_bytes}
use Rattle.moveledger.proofs.Unloaded.{refused-printed}
use Rattle.moveledger.proofs.saved.refused.Goals as goal

pub returns : goal.returns
returns g c = λ bytes h.
    refused-printed string_bytes bytes c.args.number c.load_refused_line-line.result (g.W.Write.contents c.args.writer.now) (g.W.Write.contents c.printed.new.writer) c.printed.result h
    c.load_refused_line-line.ensures c.printed.ensures
