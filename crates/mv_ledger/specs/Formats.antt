-- How a report is asked for.
use Rattle.std.specs.Prelude.{◌≢◌, ℕ, List}
use Rattle.mv_machine.specs.Ledger.{AsText, AsJson, Format as Wanted}
use Rattle.mv_ledger.specs.declared.format.Format.{Format}
use Rattle.mv_ledger.specs.declared.format.Format.TheVariants.{Text, Json}
use Rattle.mv_ledger_state.specs.RecordText.{format_text}

-- the format that is wanted
abbrev pub format_of : Format → Wanted
format_of Text = AsText
format_of Json = AsJson

-- a payload asks for no format
abbrev pub IsNoFormat : List ℕ → Type 0
IsNoFormat payload = (format : Wanted) → payload ≢ format_text format
