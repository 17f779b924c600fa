-- The first bytes of a module and of a certificate's text are enough to say what comes of them.
use Rattle.std.proofs.Common.{◌≡◌, ℕ, ◌≤◌, ◌<◌, ◌+◌, ◌-◌, ◌==◌, if◌then◌else◌, ◌⊎◌, List, length, take, slice_index, Option, Some, None}
use Rattle.std.proofs.Common.{Result, Ok, Err, Bool, true, false, IfSome, IfOk, IfErr, OnOk, MatchResult, inl, inr, arith, sym, codes}
use Rattle.std.proofs.Common.{subst}
use Rattle.std.proofs.lemmas.Bool.{cases_order}
use Rattle.std.proofs.lemmas.List.{take_all, length-take-le}
use Rattle.std.proofs.lemmas.Option.{same_Some}
use Rattle.std.specs.Io.KnownBytes.{Appends}
use Rattle.mv_analyser.specs.declared.LimitError.{LimitError}
use Rattle.mv_analyser.specs.declared.LimitError.TheVariants as limit
use Rattle.mv_analyser.specs.declared.ProveError.TheVariants as proof
use Rattle.mv_move_types.specs.Refusals.{IsRefusedBy}
use Rattle.mv_move_types.specs.declared.refusal.Refusal.{Refusal}
use Rattle.mv_move_types.specs.declared.refusal.Refusal.TheVariants.{Phase, Memory as OutOfMemory}
use Rattle.moveledger.specs.Authoring.{ChecksTo, Prints, ProvesTo}
use Rattle.moveledger.specs.Checking.{AreShort, FailsCheck, IsAccepted, before_line_end, failing, too_long as texts_too_long}
use Rattle.moveledger.specs.Printing.{checked_line, line, no_proof_line, refused_text}
use Rattle.moveledger.specs.Proving.{FailsProof, HasNoProofWithin, IsComplexText, IsProvedBy, IsShort, in_each, in_module, too_long}
use Rattle.moveledger.specs.Status.{end_after_check, end_after_proof}
use Rattle.moveledger.specs.Writing.{BreaksOff}
use Rattle.moveledger.specs.declared.ending.End.{End}
use Rattle.moveledger.specs.declared.ending.End.TheVariants.{Done, Refused, TooComplex, TooLong, Write}

-- fewer bytes than were asked for are all
few-taken : (n : ℕ) (l : List ℕ) → length (take n l) < n → take n l ≡ l
few-taken n l few = by_order (cases_order (length l) n)
  where
    by_order : (length l ≡ n) ⊎ ((length l < n) ⊎ (n < length l)) → take n l ≡ l
    by_order (inl same) = take_all n l (omega (arith, same))
    by_order (inr (inl less)) = take_all n l (omega (arith, less))
    by_order (inr (inr more)) = let all = length-take-le n l (omega (arith, more)) in absurd (omega (arith, few, all))

-- a text is at most one byte longer than what stands before its line end
text-length : (t : List ℕ) → length t ≤ length (before_line_end t) + 1
text-length t = by_end (slice_index t (length t - 1) == 10)
  where
    by_end : (b : Bool) → length t ≤ length (if b then take (length t - 1) t else t) + 1
    by_end true = let shorter = length-take-le (length t - 1) t (omega arith) in omega (arith, shorter)
    by_end false = omega arith

module _ (m : List ℕ) where
  same-module : IsShort (take 65537 m) → take 65537 m ≡ m
  same-module short = few-taken 65537 m (omega (arith, short))

  short-module : IsShort m → take 65537 m ≡ m
  short-module short = take_all 65537 m (omega (arith, short))

  proved-by : (text : List ℕ) → IsProvedBy (take 65537 m) text → IsProvedBy m text
  proved-by text h = subst (λ x. IsProvedBy x text) (same-module h.short) h

  complex-text : IsComplexText (take 65537 m) → IsComplexText m
  complex-text h = subst IsComplexText (same-module h.short) h

  fails-proof : (phase : ℕ) → FailsProof (take 65537 m) phase → FailsProof m phase
  fails-proof _ (too_long long) = too_long (λ short. long (subst IsShort (sym (short-module short)) short))
  fails-proof _ (in_module phase short fails) = subst (λ x. FailsProof x phase) (same-module short) (in_module phase short fails)
  fails-proof _ (in_each tables phase short text sound fails) = subst (λ x. FailsProof x phase) (same-module short) (in_each tables phase short text sound fails)

  module _ (t : List ℕ) where
    same-text : length (before_line_end (take 2097154 t)) ≤ 2097152 → take 2097154 t ≡ t
    same-text short = let most = text-length (take 2097154 t) in few-taken 2097154 t (omega (arith, short, most))

    short-text : length (before_line_end t) ≤ 2097152 → take 2097154 t ≡ t
    short-text short = let most = text-length t in take_all 2097154 t (omega (arith, short, most))

    accepted : IsAccepted (take 65537 m) (take 2097154 t) → IsAccepted m t
    accepted h = subst (λ x. IsAccepted x t) (same-module h.0.0) (subst (IsAccepted (take 65537 m)) (same-text h.0.1) h)

    fails-check : (phase : ℕ) → FailsCheck (take 65537 m) (take 2097154 t) phase → FailsCheck m t phase
    fails-check _ (texts_too_long long) = texts_too_long (λ short.
        let text = subst (λ x. AreShort m (before_line_end x)) (sym (short-text short.1)) short in
        long (subst (λ x. AreShort x (before_line_end (take 2097154 t))) (sym (short-module short.0)) text))
    fails-check _ (failing phase short fails) = subst (λ x. FailsCheck x t phase) (same-module short.0)
        (subst (λ x. FailsCheck (take 65537 m) x phase) (same-text short.1) (failing phase short fails))

-- what was written of a line that is printed: all of it, or a beginning
printed-so : (held holds : Option (List ℕ)) (result : End) (EndsBy : End → Type 0) (end : End) (text printed : List ℕ) → text ≡ printed → (BreaksOff printed held holds → EndsBy Write)
    → (Appends held holds printed → EndsBy end) → ((result ≡ Write) × BreaksOff text held holds) ⊎ ((result ≡ end) × Appends held holds text) → EndsBy result
printed-so held holds result EndsBy end text printed is broken written (inl h) = subst EndsBy (sym h.0) (broken (subst (λ (l : List ℕ). BreaksOff l held holds) is h.1))
printed-so held holds result EndsBy end text printed is broken written (inr h) = subst EndsBy (sym h.0) (written (subst (Appends held holds) is h.1))

module _ {S A : Type 0} (bytes_of : S → List ℕ) (m : List ℕ) (held holds : Option (List ℕ)) (result : End) where
  -- what is printed of a module that was checked
  pub checks-to : (t bytes text : List ℕ) (checked : Result (Unit {0}) Refusal) (made : Result S A) → bytes ≡ take 65537 m → text ≡ take 2097154 t
      → OnOk checked (IsAccepted bytes text) → IfErr checked (IsRefusedBy (FailsCheck bytes text)) → IfOk made (λ s. Some (bytes_of s) ≡ checked_line checked)
      → Prints bytes_of made (end_after_check checked) held holds result → ChecksTo m t held holds result
  checks-to t bytes text checked (Err e) module_is text_is ok err said h = subst (ChecksTo m t held holds) (sym h.0) h.1
  checks-to t bytes text (Ok done) (Ok s) module_is text_is ok err said h =
      let whole = accepted m t (subst (IsAccepted (take 65537 m)) text_is (subst (λ x. IsAccepted x text) module_is ok)) in
      printed-so held holds result (ChecksTo m t held holds) Done (bytes_of s) (line (codes "accepted")) (same_Some _ _ said) (λ b. inl (whole, b)) (λ a. (whole, a)) h
  checks-to t bytes text (Err (Phase phase)) (Ok s) module_is text_is ok err said h =
      let P : List ℕ → List ℕ → Type 0 = λ x y. FailsCheck x y phase in
      let whole = fails-check m t phase (subst (P (take 65537 m)) text_is (subst (λ x. P x text) module_is err)) in
      printed-so held holds result (ChecksTo m t held holds) (Refused phase) (bytes_of s) (line (refused_text phase)) (same_Some _ _ said) (λ b. inr (phase, whole, b)) (λ a. (whole, a)) h
  checks-to t bytes text (Err OutOfMemory) (Ok s) module_is text_is ok err said h = cc

  -- what is printed of a module that a certificate was to be made for
  pub proves-to : (steps : Option ℕ) (bytes : List ℕ) (proved : Result S LimitError) (made : Result S A) → bytes ≡ take 65537 m
      → IfOk proved (λ s. IsProvedBy bytes (bytes_of s)) → IfErr proved (HasNoProofWithin steps bytes)
      → IfOk made (λ s. MatchResult proved (λ digits. bytes_of s ≡ line (bytes_of digits)) (λ e. Some (bytes_of s) ≡ no_proof_line e))
      → Prints bytes_of made (end_after_proof proved) held holds result → ProvesTo steps m held holds result
  proves-to steps bytes proved (Err e) module_is ok err said h = subst (ProvesTo steps m held holds) (sym h.0) h.1
  proves-to steps bytes (Ok digits) (Ok s) module_is ok err said h =
      let whole = proved-by m (bytes_of digits) (subst (λ x. IsProvedBy x (bytes_of digits)) module_is ok) in
      printed-so held holds result (ProvesTo steps m held holds) Done (bytes_of s) (line (bytes_of digits)) said (λ b. inl (bytes_of digits, whole, b)) (λ a. (bytes_of digits, whole, a)) h
  proves-to steps bytes (Err (limit.Unproved (proof.Refused phase))) (Ok s) module_is ok err said h =
      let whole = fails-proof m phase (subst (λ x. FailsProof x phase) module_is err) in
      printed-so held holds result (ProvesTo steps m held holds) (Refused phase) (bytes_of s) (line (refused_text phase)) (same_Some _ _ said) (λ b. inr (inl (phase, whole, b))) (λ a. (whole, a)) h
  proves-to steps bytes (Err (limit.Unproved proof.TooComplex)) (Ok s) module_is ok err said h =
      let whole = complex-text m (subst IsComplexText module_is err) in
      printed-so held holds result (ProvesTo steps m held holds) TooComplex (bytes_of s) (line (codes "too complex")) (same_Some _ _ said) (λ b. inr (inr (inl (whole, b)))) (λ a. (whole, a)) h
  proves-to steps bytes (Err (limit.Unproved proof.Memory)) (Ok s) module_is ok err said h = cc
  proves-to steps bytes (Err limit.TooLong) (Ok s) module_is ok err said h =
      printed-so held holds result (ProvesTo steps m held holds) TooLong (bytes_of s) (line (codes "too long")) (same_Some _ _ said) (λ b. inr (inr (inr (err, b)))) (λ a. (err, a)) h

module _ {S A : Type 0} (bytes_of : S → List ℕ) (held holds : Option (List ℕ)) (result : End) where
  -- the same, of readers that may not tell what they give
  pub proves-some : (steps : Option ℕ) (m : Option (List ℕ)) (bytes : List ℕ) (proved : Result S LimitError) (made : Result S A) → IfSome m (λ xs. bytes ≡ take 65537 xs)
      → IfOk proved (λ s. IsProvedBy bytes (bytes_of s)) → IfErr proved (HasNoProofWithin steps bytes)
      → IfOk made (λ s. MatchResult proved (λ digits. bytes_of s ≡ line (bytes_of digits)) (λ e. Some (bytes_of s) ≡ no_proof_line e))
      → Prints bytes_of made (end_after_proof proved) held holds result → IfSome m (λ m. ProvesTo steps m held holds result)
  proves-some steps None bytes proved made module_is ok err said is = tt
  proves-some steps (Some m) bytes proved made module_is ok err said is = proves-to bytes_of m held holds result steps bytes proved made module_is ok err said is

  pub checks-some : (m t : Option (List ℕ)) (bytes text : List ℕ) (checked : Result (Unit {0}) Refusal) (made : Result S A)
      → IfSome m (λ xs. bytes ≡ take 65537 xs) → IfSome t (λ xs. text ≡ take 2097154 xs)
      → OnOk checked (IsAccepted bytes text) → IfErr checked (IsRefusedBy (FailsCheck bytes text)) → IfOk made (λ s. Some (bytes_of s) ≡ checked_line checked)
      → Prints bytes_of made (end_after_check checked) held holds result → IfSome m (λ m. IfSome t (λ t. ChecksTo m t held holds result))
  checks-some None t bytes text checked made module_is text_is ok err said is = tt
  checks-some (Some m) None bytes text checked made module_is text_is ok err said is = tt
  checks-some (Some m) (Some t) bytes text checked made module_is text_is ok err said is = checks-to bytes_of m held holds result t bytes text checked made module_is text_is ok err said is
