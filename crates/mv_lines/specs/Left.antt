-- Which lines of a report are left. The first of them may be begun: then it is the rest of one.
--   lines_from is_json modules opening told items   those of these entries, behind what is left of the opening or after so many lines
--   lines_left                                      those of a report, and its format
use Rattle.std.specs.Prelude.{ℕ, ◌+◌, Bool, true, false, List, [], ◌∷◌, ◌++◌, codes, cond, length, map}
use Rattle.mv_move_types.specs.Module.{Module}
use Rattle.mv_link_rules.specs.Link.{tables_in}
use Rattle.mv_machine.specs.Ledger.{AsJson, AsText}
use Rattle.mv_machine.specs.Lines.{end_line, with_commas}
use Rattle.mv_lines.specs.declared.walk.Walk.{Walk}
use Rattle.mv_lines.specs.LinesView.{LinesView}
use Rattle.mv_lines.specs.Sources.{Item, line_of, object_of}

-- those of these entries: one of JSON, behind what is left of its opening; or those of text, after so many others
abbrev pub lines_from : Bool → List Module → List ℕ → ℕ → List Item → List (List ℕ)
lines_from true modules opening told items = (opening ++ (with_commas (map (object_of modules) items) ++ codes "]}")) ∷ []
lines_from false modules opening told items = map (line_of modules) items ++ end_line (told + length items) ∷ []

-- those of a report
abbrev pub lines_left : Walk → LinesView
lines_left w = record {
  format = cond w.is_json AsJson AsText;
  left = cond w.is_ended [] (lines_from w.is_json (tables_in w.store.now) w.opening.now w.told w.entries);
}
