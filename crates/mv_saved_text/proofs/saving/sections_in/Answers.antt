use Rattle.mv_saved_text.proofs.Common.{Definition}
use Rattle.mv_saved_text.proofs.Saves.Batches.{sections-so}
use Rattle.mv_saved_text.proofs.saving.sections_in.Goals as goal

-- no struct
abbrev none : Definition
none = record { place = 0; index = 0 }

pub returns : goal.returns
returns c =
    sections-so c.args.layouts.now c.keyed-keyed.result.now c.keyed-keyed.ensures c.args.i c.args.j none c.sections_between.result c.args.storage.now.committed c.requires.within
    c.sections_between.ensures
