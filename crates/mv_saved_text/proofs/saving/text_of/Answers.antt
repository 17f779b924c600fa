use Rattle.mv_saved_text.proofs.Common.{List, length, refl, subst, sym, All, Module, IsFineWords, all_of}
use Rattle.mv_saved_text.proofs.Saves.Written.{written-from}
use Rattle.mv_saved_text.proofs.saving.text_of.Goals as goal

pub sections_in-requires-clause-fine : goal.sections_in-requires-clause-fine
sections_in-requires-clause-fine c = subst (λ (ms : List Module). All (IsFineWords ms) c.args.storage.now.committed) (sym c.in_ok-layouts.ensures) c.requires.fine

pub returns : goal.returns
returns c =
    written-from c.args.runs c.args.store.now c.args.storage.now.committed (all_of c.args.tallies.now) c.in_ok-layouts.layouts c.keyed-keyed.result.now (length c.keyed-keyed.result.now) c.in_ok-rows.rows.items c.deref-2.result.now
    c.in_ok-text.text.items c.put_head.new.text.items c.put_tallies.new.text.items c.put_sections.new.text.items
    c.in_ok-layouts.ensures c.keyed-keyed.ensures refl c.in_ok-rows.ensures c.deref-2.ensures.value c.in_ok-text.ensures.items c.in_ok-put_head.ensures c.in_ok-put_tallies.ensures
    c.in_ok-put_sections.ensures
