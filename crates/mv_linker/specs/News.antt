-- What a bundle that is to be published holds.
use Rattle.std.specs.Prelude.{◌≡◌, List, Some, All, map}
use Rattle.mv_move_types.specs.Published.{PublishedModule}
use Rattle.mv_binary_format.specs.Parsing.{module_of}
use Rattle.mv_certificate_rules.specs.Verified.{IsCertifiedBy}
use Rattle.mv_linker.specs.declared.New.{New}

-- a new module's bytes are the text that it was read from, and its certificate's are the text of one that it was checked with
pub record HasItsTexts (n : New) : Type 0 where
  pub text : module_of n.text.now ≡ Some n.module
  pub certificate : IsCertifiedBy n.module n.certificate.now

-- each has its texts
abbrev pub AreTexts : List New → Type 0
AreTexts news = All HasItsTexts news

-- a module with its texts
abbrev pub published_one : New → PublishedModule
published_one n = record { text = n.text.now; certificate = n.certificate.now; tables = n.module }

-- the modules with their texts
abbrev pub published_of : List New → List PublishedModule
published_of news = map published_one news
