use Rattle.mv_saved_text.proofs.Common.{◌++◌, ◌≡◌, List, flat_map, take, Module, FlatEntry, storage_of, sections_of, struct_text}
use Rattle.mv_saved_text.specs.Parts.Saving.{HaveSections}
use Rattle.mv_saved_text.proofs.saving.put_sections.Given as goal

abbrev pub invariant-each : goal.invariant-each
invariant-each l =
    (modules : List Module) (entries : List FlatEntry) → HaveSections modules entries (sections_of l.rows) l.structs
    → l.text.items ≡ l.fn.text.items ++ flat_map (struct_text (storage_of modules entries)) (take l.d-index l.structs)
