-- What the calls of C that tell of a block's changes come to, by their status. With no ledger nothing is told.
--   IsChangesText l side text           the values of changed keys on a side, as a show of them alone in JSON
--   AreChanges, AreChangesOf            those of both sides
--   changed_text changes                modules that were published or replaced, each in a line
--   IsChangedText l text                those of the newest block
--   IsChangedModules, IsChangedModulesOf   the same, by status
-- change_word and change_line are parts of these.
use Rattle.std.specs.Prelude.{◌≡◌, ℕ, ℤ, Bool, cond, List, [], ◌∷◌, ◌++◌, codes, map, Option, Some, None, ◌⊎◌}
use Rattle.std.specs.Option.{option_map_or}
use Rattle.mv_move_types.specs.Module.{own_name}
use Rattle.mv_lines.specs.LinesView.{LinesView, ended}
use Rattle.mv_lines.specs.declared.changed.Side.{Side}
use Rattle.mv_lines.specs.declared.changed.Side.TheVariants.{Before, Now}
use Rattle.mv_ledger.specs.Changed.{ModuleChange, ShowsChanges, module_changes}
use Rattle.mv_ledger_state.specs.View.{HeldView, LedgerView}
use Rattle.moveledger_c.specs.Questions.{name_line}
use Rattle.moveledger_c.specs.Statuses.{done, memory, arguments, no_block}

-- the values of changed keys on a side, told as a show of them alone in JSON
abbrev pub IsChangesText : LedgerView → Side → List ℕ → Type 0
IsChangesText l side text = (lines : LinesView) × ShowsChanges l side lines × (text ≡ ended lines.left)

-- both are given; or no block is open; or memory ran out, and neither is
abbrev pub AreChanges : LedgerView → ℤ → (before now : List ℕ) → Type 0
AreChanges l status before now =
    ((status ≡ done) × ¬ (l.marks ≡ []) × IsChangesText l Before before × IsChangesText l Now now)
    ⊎ (((status ≡ no_block) × (l.marks ≡ []) × (before ≡ []) × (now ≡ [])) ⊎ ((status ≡ memory) × (before ≡ []) × (now ≡ [])))

abbrev pub AreChangesOf : Option LedgerView → ℤ → (before now : List ℕ) → Type 0
AreChangesOf None status before now = (status ≡ arguments) × (before ≡ []) × (now ≡ [])
AreChangesOf (Some l) status before now = AreChanges l status before now

-- what is told of a module: whether it took the place of another one, and its name
abbrev pub change_word : Bool → List ℕ
change_word is_replaced = cond is_replaced (codes "replaced ") (codes "published ")

abbrev pub change_line : ModuleChange → List ℕ
change_line c = change_word c.is_replaced ++ option_map_or name_line (own_name c.published.tables) []

-- modules that were published or replaced, each in a line
abbrev pub changed_text : List ModuleChange → List ℕ
changed_text changes = ended (map change_line changes)

-- those that the newest block has changed are told
abbrev pub IsChangedText : LedgerView → List ℕ → Type 0
IsChangedText l text = (older : List HeldView) (old : HeldView) → l.marks ≡ older ++ old ∷ [] → text ≡ changed_text (module_changes old.published l.published)

-- they are given; or no block is open; or memory ran out
abbrev pub IsChangedModules : LedgerView → ℤ → List ℕ → Type 0
IsChangedModules l status text =
    ((status ≡ done) × ¬ (l.marks ≡ []) × IsChangedText l text)
    ⊎ (((status ≡ no_block) × (l.marks ≡ []) × (text ≡ [])) ⊎ ((status ≡ memory) × (text ≡ [])))

abbrev pub IsChangedModulesOf : Option LedgerView → ℤ → List ℕ → Type 0
IsChangedModulesOf None status text = (status ≡ arguments) × (text ≡ [])
IsChangedModulesOf (Some l) status text = IsChangedModules l status text
