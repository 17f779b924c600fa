-- What is printed where a saved ledger is not loaded.
use Rattle.std.proofs.Common.{◌≡◌, ℕ, List, Option, Some, None, Result, Ok, Err, IfOk, IfSome, inl, inr, subst, sym}
use Rattle.std.proofs.lemmas.Option.{same_Some}
use Rattle.std.specs.Io.KnownBytes.{Appends}
use Rattle.mv_saved_text.specs.Loading.{FailsLoad, IsLoadRefusal, load_number}
use Rattle.mv_saved_text.specs.declared.loading.LoadError.{LoadError}
use Rattle.mv_saved_text.specs.declared.loading.LoadError.TheVariants.{Head, Module, Link, Body, Tally, Memory}
use Rattle.moveledger.specs.Authoring.{Prints}
use Rattle.moveledger.specs.Printing.{line, load_refused_text}
use Rattle.moveledger.specs.Saved.{IsNotLoaded}
use Rattle.moveledger.specs.Writing.{BreaksOff}
use Rattle.moveledger.specs.declared.ending.End.{End}
use Rattle.moveledger.specs.declared.ending.End.TheVariants.{LoadRefused}

-- a reason fails by its number
pub by-number : (bytes : List ℕ) (error : LoadError) (number : ℕ) → load_number error ≡ Some number → IsLoadRefusal bytes error → FailsLoad bytes number
by-number bytes Head number n h = subst (FailsLoad bytes) (same_Some _ _ n) h
by-number bytes Module number n h = subst (FailsLoad bytes) (same_Some _ _ n) h
by-number bytes Link number n h = subst (FailsLoad bytes) (same_Some _ _ n) h
by-number bytes Body number n h = subst (FailsLoad bytes) (same_Some _ _ n) h
by-number bytes Tally number n h = subst (FailsLoad bytes) (same_Some _ _ n) h
by-number bytes Memory number n h = cc

-- want of memory has no number
pub no_number : (error : LoadError) (number : ℕ) → load_number error ≡ Some number → error ≡ Memory → ⊥
no_number Head number n e = cc
no_number Module number n e = cc
no_number Link number n e = cc
no_number Body number n e = cc
no_number Tally number n e = cc
no_number Memory number n e = cc

-- what is printed of the reason of a number
pub refused-printed : {S A : Type 0} (bytes_of : S → List ℕ) (bytes : List ℕ) (number : ℕ) (made : Result S A)
    (held holds : Option (List ℕ)) (result : End) → FailsLoad bytes number
    → IfOk made (λ s. bytes_of s ≡ line (load_refused_text number)) → Prints bytes_of made (LoadRefused number) held holds result
    → IsNotLoaded bytes held holds result
refused-printed bytes_of bytes number (Err e) held holds result h said p = subst (IsNotLoaded bytes held holds) (sym p.0) p.1
refused-printed bytes_of bytes number (Ok s) held holds result h said (inl p) =
    subst (IsNotLoaded bytes held holds) (sym p.0) (number, h, subst (λ l. BreaksOff l held holds) said p.1)
refused-printed bytes_of bytes number (Ok s) held holds result h said (inr p) =
    subst (IsNotLoaded bytes held holds) (sym p.0) (h, subst (Appends held holds) said p.1)

-- the same of a reader that may not tell what it gives
pub not_loaded-some : (given : Option (List ℕ)) (bytes : List ℕ) (error : LoadError) (held holds : Option (List ℕ)) (result : End)
    → IfSome given (λ xs. bytes ≡ xs) → IsLoadRefusal bytes error
    → ((xs : List ℕ) → IsLoadRefusal xs error → IsNotLoaded xs held holds result) → IfSome given (λ xs. IsNotLoaded xs held holds result)
not_loaded-some None bytes error held holds result read refused said = tt
not_loaded-some (Some xs) bytes error held holds result read refused said = said xs (subst (λ (l : List ℕ). IsLoadRefusal l error) read refused)

-- the same of one whose first bytes tell the number
pub refused-some : (given : Option (List ℕ)) (number : ℕ) (held holds : Option (List ℕ)) (result : End) → IfSome given (λ xs. FailsLoad xs number)
    → ((xs : List ℕ) → FailsLoad xs number → IsNotLoaded xs held holds result) → IfSome given (λ xs. IsNotLoaded xs held holds result)
refused-some None number held holds result fails said = tt
refused-some (Some xs) number held holds result fails said = said xs fails
