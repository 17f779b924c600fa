use Rattle.mv_saved_text.proofs.Common.{◌∙◌, ap, sym, ℕ, Global, Vec, Definition, sections_of}
use Rattle.mv_saved_text.proofs.Saves.Written.{sections-next, sections-there}
use Rattle.mv_saved_text.proofs.saving.put_sections.Goals as goal
use Rattle.mv_saved_text.proofs.saving.put_sections.Goals.{in-Some+in_ok-put_section, in_default}

-- no struct
abbrev none : Definition
none = record { place = 0; index = 0 }

pub each-preserved : goal.each-preserved
each-preserved c = λ modules entries have.
    elim c.match-section_of.branch [
      | in-Some+in_ok-put_section w ↦
          ap (λ (v : Vec ℕ Global). v.items) w.text-is
          ∙ sections-next modules entries (sections_of c.args.rows.now) c.args.structs.now have c.each.d-index none c.each-test.true w.in-Some.section.now
          c.args.text.now.items c.each.text.items w.put_section.new.text.items (sym w.in-Some.ensures) (c.each.invariant modules entries have) w.in_ok-put_section.ensures
      | in_default w ↦ absurd (sections-there modules entries (sections_of c.args.rows.now) c.args.structs.now have c.each.d-index none c.each-test.true (sym w.in_default.ensures))
    ]
