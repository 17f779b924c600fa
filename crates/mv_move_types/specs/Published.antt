-- A published module with its texts.
use Rattle.std.specs.Prelude.{ℕ, Bool, cond, List, [], ◌∷◌, fold}
use Rattle.mv_move_types.specs.Module.{Module}
use Rattle.mv_move_types.specs.Named.{have_one_name}

-- a published module, with the texts that it came in
pub record PublishedModule : Type 0 where
  pub text : List ℕ
  pub certificate : List ℕ
  pub tables : Module

-- whether a published module has this module's name
abbrev pub has_name_of : Module → PublishedModule → Bool
has_name_of m p = have_one_name m p.tables

-- the modules with one more, which takes the place of the module of its name, or the last place
abbrev pub with_module : List PublishedModule → PublishedModule → List PublishedModule
with_module [] new = new ∷ []
with_module (p ∷ ps) new = cond (has_name_of new.tables p) (new ∷ ps) (p ∷ with_module ps new)

-- the modules with those of a bundle, one after the other
abbrev pub with_modules : List PublishedModule → List PublishedModule → List PublishedModule
with_modules published bundle = fold with_module published bundle
