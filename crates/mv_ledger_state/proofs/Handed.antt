-- What the proofs of saved ledgers take of the crates below this one, which their crate then needs not name.
pub use Rattle.mv_soundness.proofs.Words.FineWords.{fine_words-typed}
pub use Rattle.mv_soundness.proofs.Typing.Tests.{same_kind-same}
pub use Rattle.mv_type_rules.proofs.Functions.{if_found}
pub use Rattle.mv_soundness.proofs.Words.Decoding.{storage_decoded}
pub use Rattle.mv_soundness.proofs.Words.Sizes.{sizes}
pub use Rattle.mv_soundness.specs.Words.{flat_entry}
pub use Rattle.mv_soundness.proofs.Borrows.Premises.{Among}
