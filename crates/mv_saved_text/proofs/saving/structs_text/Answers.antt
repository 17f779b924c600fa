use Rattle.mv_saved_text.proofs.Common.{refl}
use Rattle.std.specs.Prelude.{slice_range}
use Rattle.mv_saved_text.proofs.Saves.Written.{structs-from}
use Rattle.mv_saved_text.proofs.saving.structs_text.Goals as goal

pub returns : goal.returns
returns c =
    structs-from c.args.layouts.now c.args.storage.now.committed c.args.i c.args.j c.keyed.result.now (slice_range c.keyed.result.now c.args.i c.args.j) c.in_ok-rows.rows.items c.deref.result.now
    c.new-text.result.items c.put_sections.new.text.items c.keyed.ensures refl c.in_ok-rows.ensures c.deref.ensures.value c.new-text.ensures.items c.in_ok-put_sections.ensures
