-- What the newest block has changed.
--   ShowsChanges held side lines   the values of changed keys are told, as a show of them alone
--   same_texts                     whether two modules came in the same texts
--   replaced old n                 whether a module took the place of another one; None where that had the same texts
--   ModuleChange                   a module that was published, or that took the place of another one
--   module_changes before now      what is told of the modules, where others were published before
-- told_module is a part of the last.
use Rattle.std.specs.Prelude.{◌≡◌, ◌&&◌, Bool, false, true, cond, List, [], ◌∷◌, ◌++◌, drop, slice_get, Option, Some, None}
use Rattle.std.specs.Str.{bytes_eq}
use Rattle.mv_move_types.specs.Published.{PublishedModule}
use Rattle.mv_machine.specs.Ledger.{AsJson}
use Rattle.mv_storage.specs.Difference.{Change, IsDifference}
use Rattle.mv_lines.specs.Changed.{values_of}
use Rattle.mv_lines.specs.LinesView.{LinesView}
use Rattle.mv_lines.specs.declared.changed.Side.{Side}
use Rattle.mv_ledger_state.specs.View.{HeldView, LedgerView}
use Rattle.mv_ledger.specs.Questions.{shows}

-- The lines tell the values of changed keys on a side, by the modules of now. The keys are those of which the value differs from the
-- one where the newest block was opened.
abbrev pub ShowsChanges : LedgerView → Side → LinesView → Type 0
ShowsChanges held side lines = (older : List HeldView) (old : HeldView) → held.marks ≡ older ++ old ∷ []
    → (changes : List Change) × IsDifference old.stored held.stored changes × (lines ≡ shows held (values_of side changes) AsJson)

-- whether two modules came in the same texts
abbrev pub same_texts : PublishedModule → PublishedModule → Bool
same_texts p q = bytes_eq p.text q.text && bytes_eq p.certificate q.certificate

-- whether a module took the place of another one; None where the one that was there has the same texts
abbrev pub replaced : Option PublishedModule → PublishedModule → Option Bool
replaced None n = Some false
replaced (Some p) n = cond (same_texts p n) None (Some true)

-- a module that was published, or that took the place of another one
pub record ModuleChange : Type 0 where
  pub published : PublishedModule
  pub is_replaced : Bool

-- what is told of one module
abbrev pub told_module : PublishedModule → Option Bool → List ModuleChange
told_module n None = []
told_module n (Some is_replaced) = record { published = n; is_replaced = is_replaced } ∷ []

-- what is told of the modules, in order of publication: a module whose place had none before, or one of other texts
abbrev pub module_changes : (before now : List PublishedModule) → List ModuleChange
module_changes before [] = []
module_changes before (n ∷ ns) = told_module n (replaced (slice_get before 0) n) ++ module_changes (drop 1 before) ns
