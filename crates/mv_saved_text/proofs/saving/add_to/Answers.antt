use Rattle.mv_saved_text.proofs.Common.{refl}
use Rattle.mv_saved_text.proofs.Saves.Sections.{adds-value}
use Rattle.mv_saved_text.proofs.saving.add_to.Goals as goal

pub returns : goal.returns
returns c =
    adds-value c.add.result c.args.layouts.now c.args.rows.now.items c.args.key c.from.result c.from-2.result c.index_mut-row.result.now _ c.index_mut-section.result.now c.prepare.new.section
    c.add.new.section c.args.words.now
    c.from.ensures c.from-2.ensures c.requires.there c.index_mut-row.ensures.value c.index_mut-section.ensures.value refl c.in_ok-prepare.ensures.kinds c.prepare.ensures.count c.prepare.ensures.text
    c.add.ensures.count c.add.ensures.kinds c.add.ensures.text
