-- Which bytes are loaded, as which ledger, and otherwise the first reason against them.
--   HasHead bytes form runs offers         how the bytes begin: a form, a number of runs, and modules with their certificates
--   AreLinked ps                           no two modules have one name, and they name each other as they are
--   AreTallied s                           the tallies are those of what is stored, and no more than the runs can have made
--   IsLoaded bytes s                       the bytes are loaded as this ledger (why all is verified anew: decision 45)
--   FailsLoad bytes number                 the first of five reasons against the bytes
--   LongerFail front number                each text that begins with these bytes and has more fails for this reason
--   load_number e, IsLoadRefusal bytes e   a reason's number, and that the reason answered is the first one
use Rattle.std.specs.Prelude.{◌≡◌, ℕ, ◌+◌, ◌*◌, ◌≤◌, IsTrue, List, ◌∷◌, ◌++◌, map, Option, Some, None, ⊤}
use Rattle.std.specs.List.{AllByRecursion}
use Rattle.mv_move_types.specs.Limits.{most_steps}
use Rattle.mv_move_types.specs.Published.{PublishedModule}
use Rattle.mv_bound_rules.specs.Definitions.{all_differ}
use Rattle.mv_machine.specs.Count.{count}
use Rattle.mv_machine.specs.Ledger.{Offer, LedgerState}
use Rattle.mv_link_rules.specs.Link.{have_one_name, tables_in}
use Rattle.mv_link_rules.specs.StoreRules.{Links}
use Rattle.mv_ledger_state.specs.Publishing.{AllPass, FailsAmong, offered}
use Rattle.mv_saved_text.specs.SavedText.{Form, head_text, HeadFits, IsSavedText}
use Rattle.mv_saved_text.specs.declared.loading.LoadError.{LoadError}
use Rattle.mv_saved_text.specs.declared.loading.LoadError.TheVariants.{Head, Module, Link, Body, Tally, Memory}

-- the bytes begin with a form, so many runs, and these modules with their certificates
pub record HasHead (bytes : List ℕ) (form : Form) (runs : ℕ) (offers : List Offer) : Type 0 where
  pub rest : List ℕ
  pub text : bytes ≡ head_text form runs offers ++ rest
  pub fits : HeadFits runs offers

-- no name stands twice, and the modules name each other as they are
pub record AreLinked (ps : List PublishedModule) : Type 0 where
  pub once : IsTrue (all_differ have_one_name (tables_in ps))
  pub links : Links (tables_in ps)

-- Of each struct no more values were made than the runs can have made, and as many are stored, at any depth, as were made and
-- not taken apart.
abbrev pub AreTallied : LedgerState → Type 0
AreTallied s = AllByRecursion (λ t. (t.packs ≤ most_steps * s.runs) × (count s.storage t.struct + t.unpacks ≡ t.packs)) s.tallies

-- The bytes are loaded as this ledger: they are its text in one of the forms, its modules pass phases 2 to 12 with their
-- certificates, they are linked, and its tallies are those of what is stored.
pub record IsLoaded (bytes : List ℕ) (s : LedgerState) : Type 0 where
  pub form : Form
  pub text : IsSavedText form bytes s
  pub passed : AllPass (map offered s.published) s.published
  pub linked : AreLinked s.published
  pub tallied : AreTallied s

-- The first reason against bytes:
--   1  they begin with no head and list of modules
--   2  a module or its certificate fails one of phases 2 to 12
--   3  the modules are not linked
--   4  they are no text of a ledger with these modules
--   5  its tallies are not those of what is stored
pub data FailsLoad (bytes : List ℕ) : ℕ → Type 0 where
  no_head : ((form : Form) (runs : ℕ) (offers : List Offer) → HasHead bytes form runs offers → ⊥) → FailsLoad bytes 1
  no_module : (form : Form) (runs : ℕ) (offers : List Offer) (phase : ℕ) → HasHead bytes form runs offers → FailsAmong offers phase → FailsLoad bytes 2
  no_links : (form : Form) (runs : ℕ) (offers : List Offer) (ps : List PublishedModule)
      → HasHead bytes form runs offers → AllPass offers ps → ¬ AreLinked ps → FailsLoad bytes 3
  no_body : (form : Form) (runs : ℕ) (offers : List Offer) (ps : List PublishedModule) → HasHead bytes form runs offers → AllPass offers ps → AreLinked ps
      → ((s : LedgerState) → s.published ≡ ps → IsSavedText form bytes s → ⊥) → FailsLoad bytes 4
  no_tallies : (form : Form) (s : LedgerState) → IsSavedText form bytes s
      → AllPass (map offered s.published) s.published → AreLinked s.published → ¬ AreTallied s → FailsLoad bytes 5

-- each text that begins with these bytes, and has at least one more, fails for this reason
abbrev pub LongerFail : List ℕ → ℕ → Type 0
LongerFail front number = (byte : ℕ) (more : List ℕ) → FailsLoad (front ++ byte ∷ more) number

-- the number of a reason; want of memory has none
abbrev pub load_number : LoadError → Option ℕ
load_number Head = Some 1
load_number Module = Some 2
load_number Link = Some 3
load_number Body = Some 4
load_number Tally = Some 5
load_number Memory = None

-- the reason that is answered is the first against the bytes, or memory ran out
abbrev pub IsLoadRefusal : List ℕ → LoadError → Type 0
IsLoadRefusal bytes Head = FailsLoad bytes 1
IsLoadRefusal bytes Module = FailsLoad bytes 2
IsLoadRefusal bytes Link = FailsLoad bytes 3
IsLoadRefusal bytes Body = FailsLoad bytes 4
IsLoadRefusal bytes Tally = FailsLoad bytes 5
IsLoadRefusal bytes Memory = ⊤
