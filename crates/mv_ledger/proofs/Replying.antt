-- What the ledger's calls reply, from what their parts say.
use Rattle.mv_ledger.proofs.Common.{[], ◌+◌, ◌∙◌, ◌∷◌, ◌≡◌, Err, List, None, Ok, Option, Result, Some, ap, arith, false, map, refl, subst, sym, true, ℕ, is_some, PublishedModule, with_modules}
use Rattle.mv_ledger.proofs.Common.{Phase, FlatEntry, storage_of, Answers, AreRead, Bad, BadRun, LedgerState, Offer, Publish, Run, RunRequest, admitted, attempted, modules_of, scarce_structs}
use Rattle.mv_ledger.proofs.Common.{applied, tally_of, with_bundle, RanToAbort, RanOut, ToldPublished, ToldRefused, ToldRejected, Told, RanToEnd, Tallied, FunctionCall, run, Storage}
use Rattle.mv_ledger.proofs.Common.{IsStore, tables_in, call_of, IsSoundLedger, AnswersRecord, Replies, Leaves, RunsTo, IsAccepted, IsRefused, failing, no_bundle, IsAcceptedBy, IsRefusedOver}
use Rattle.mv_ledger.proofs.Common.{AllPass, Spells, IsShaped, IsShapeless, IsAdmission, IsAdmitted, IsApplied, AddsTallies, LedgerView, state_of, tallied, view_of, Rejected, BarredRejected, Call}
use Rattle.mv_ledger.proofs.Common.{Tally}
use Rattle.mv_ledger.specs.Changes.{IsKept}
use Rattle.mv_ledger_state.proofs.Bundles.Verifying.{as-many}
use Rattle.mv_ledger_state.proofs.Accepted.Sound.{published_sound, attempted_sound}
use Rattle.mv_ledger.proofs.Records.{asked_fits, answers_record}

-- ---- what the machine's ledger answers to a run record: a rejection, or the reply to the admitted call's outcome

module _ (published : List PublishedModule) (stored new : List FlatEntry) (before after : List Tally) (runs : ℕ) (r : RunRequest) where
  -- the ledger before a run, and after it
  abbrev old_state : LedgerState
  old_state = state_of (view_of published stored before runs)

  abbrev new_state : LedgerState
  new_state = state_of (view_of published new after (runs + 1))

  -- a run that is not admitted is rejected for that reason, and nothing changes
  pub answered-rejected : (reason : ℕ) → IsAdmitted published runs r (Err (Rejected reason)) → Answers Spells old_state (Run r) (ToldRejected reason) old_state
  answered-rejected reason h = by_admission (admitted old_state r) (h old_state refl refl)
    where
      by_admission : (a : Result FunctionCall ℕ) → IsAdmission r.budget a (Err (Rejected reason)) → attempted old_state r.budget a ≡ Some (ToldRejected reason, old_state)
      by_admission (Ok call) e = absurd e
      by_admission (Err own) e = ap (λ (n : ℕ). Some (ToldRejected n, old_state)) (sym e)

  -- a call that is admitted is answered by its outcome, applied to the ledger
  pub answered-run : (call : Call) (reply : Told) → IsAdmitted published runs r (Ok call) → IsApplied published call (Some reply) stored new before after
      → Answers Spells old_state (Run r) reply new_state
  answered-run call reply h applies = by_admission (admitted old_state r) (h old_state refl refl)
    where
      by_admission : (a : Result FunctionCall ℕ) → IsAdmission r.budget a (Ok call) → attempted old_state r.budget a ≡ Some (reply, new_state)
      by_admission (Ok asked) e =
          subst (λ (f : FunctionCall). applied old_state (run (modules_of old_state) old_state.storage f r.budget) ≡ Some (reply, new_state)) e.0
          (subst (λ (b : ℕ). applied old_state (run (modules_of old_state) old_state.storage (call_of call.function call.arguments.items) b) ≡ Some (reply, new_state)) e.1 (applies runs))
      by_admission (Err reason) e = absurd e

-- what passed was read from its text, one module for each offer
read_as : (offers : List Offer) (bundle : List PublishedModule) → AllPass offers bundle → AreRead Spells offers bundle
read_as [] [] h = tt
read_as (o ∷ os) (p ∷ ps) h = (h.0, h.1, h.2.1.text, read_as os ps h.3)
read_as _ _ h = h

same_state : (a b : List PublishedModule) (c d : Storage) (e f : List Tallied) (n : ℕ) → a ≡ b → c ≡ d → e ≡ f
    → (let s : LedgerState = record { published = a; storage = c; tallies = e; runs = n } in s) ≡ record { published = b; storage = d; tallies = f; runs = n }
same_state a b c d e f n p q r = rw (p, q, r) refl

module _ (old new : List PublishedModule) (payload : List ℕ) (stored : List FlatEntry) (before after : List Tally) (runs : ℕ) where
  abbrev first : LedgerView
  first = view_of old stored before runs

  abbrev second : LedgerView
  second = view_of new stored after runs

  -- the ledger with the bundle
  with_it : (bundle : List PublishedModule) → new ≡ with_modules old bundle → storage_of (tables_in new) stored ≡ storage_of (tables_in old) stored → AddsTallies old new before after
      → state_of second ≡ with_bundle (state_of first) bundle
  with_it bundle added same tallies =
      same_state new (with_modules old bundle) (storage_of (tables_in new) stored) (storage_of (tables_in old) stored) _ _ runs added same
      (tallies ∙ ap (λ (l : List PublishedModule). map (tally_of (map (tallied (tables_in old)) before)) (scarce_structs (tables_in l))) added)

  -- which is sound
  pub sound_with : (count : ℕ) → IsAcceptedBy count old payload new → storage_of (tables_in new) stored ≡ storage_of (tables_in old) stored → AddsTallies old new before after → IsStore new
      → IsSoundLedger (state_of first) → IsSoundLedger (state_of second)
  sound_with count accepted same tallies whole sound =
      let b = accepted (state_of first) refl in
      let a : IsAccepted (state_of first) payload b.0 = b.1.0 in
      subst IsSoundLedger (sym (with_it b.0 b.1.2 same tallies)) (published_sound (state_of first) a.sender a.offers b.0 sound (subst IsStore b.1.2 whole) a.published)

  pub published_replies : (count : ℕ) → IsAcceptedBy count old payload new → storage_of (tables_in new) stored ≡ storage_of (tables_in old) stored → AddsTallies old new before after → IsStore new
      → IsSoundLedger (state_of first) → Replies 1 payload (Some (ToldPublished count)) first second
  published_replies count accepted same tallies whole sound =
      let b = accepted (state_of first) refl in
      let a : IsAccepted (state_of first) payload b.0 = b.1.0 in
      let all : AllPass a.offers b.0 = a.published.0 in
      let state : state_of second ≡ with_bundle (state_of first) b.0 = with_it b.0 b.1.2 same tallies in
      record {
        answers = answers_record 1 payload (Publish a.sender a.offers) (ToldPublished count) (state_of first) (state_of second) a.asked
            (b.0, read_as a.offers b.0 all, b.1.1 ∙ as-many a.offers b.0 all, state) (sound_with count accepted same tallies whole sound);
        leaves = (refl, refl, refl);
        rightly = λ kind. (b.0, (a, b.1.1, state));
      }

  same_view : new ≡ old → after ≡ before → second ≡ first
  same_view p q = rw (p, q) refl

  pub refused_replies : (phase : ℕ) → new ≡ old → after ≡ before → IsRefusedOver old payload (Phase phase) → IsSoundLedger (state_of first) → Replies 1 payload (Some (ToldRefused phase)) first second
  refused_replies phase p q refused sound =
      let why : IsRefused (state_of first) payload phase = refused (state_of first) refl in
      let same : second ≡ first = same_view p q in
      record { answers = answers_for phase why (ap state_of same); leaves = same; rightly = λ kind. (why, ap state_of same) }
    where
      answers_for : (phase : ℕ) → IsRefused (state_of first) payload phase → state_of second ≡ state_of first → AnswersRecord 1 payload (ToldRefused phase) (state_of first) (state_of second)
      answers_for phase (no_bundle none) same =
          answers_record 1 payload Bad (ToldRefused 1) (state_of first) (state_of second) ((λ kind. absurd (omega (arith, kind))), none) (refl, same) (subst IsSoundLedger (sym same) sound)
      answers_for phase (failing sender offers k asked at) same =
          answers_record 1 payload (Publish sender offers) (ToldRefused k) (state_of first) (state_of second) asked same (subst IsSoundLedger (sym same) sound)

  pub nothing_replies : (kind : ℕ) → new ≡ old → after ≡ before → Replies kind payload None first second
  nothing_replies kind p q = same_view p q

-- ---- runs

-- a run that isn't begun
pub bad_run_replies : (payload : List ℕ) (v : LedgerView) → IsShapeless 2 payload → IsSoundLedger (state_of v) → Replies 2 payload (Some (ToldRejected 1)) v v
bad_run_replies payload v none sound = record {
  answers = answers_record 2 payload BadRun (ToldRejected 1) (state_of v) (state_of v) (refl, none) (refl, refl) sound;
  leaves = refl;
  rightly = λ kind. absurd (omega (arith, kind));
}

module _ (published : List PublishedModule) (payload : List ℕ) (stored : List FlatEntry) (tallies : List Tally) (runs : ℕ) (r : RunRequest) (asked : IsShaped 2 payload (Run r))
    (sound : IsSoundLedger (state_of (view_of published stored tallies runs))) where
  abbrev held : LedgerView
  held = view_of published stored tallies runs

  pub rejected_replies : (reason : ℕ) → IsAdmitted published runs r (Err (BarredRejected reason)) → Replies 2 payload (Some (ToldRejected reason)) held held
  rejected_replies reason is =
      record {
        answers = answers_record 2 payload (Run r) (ToldRejected reason) (state_of held) (state_of held) asked (answered-rejected published stored stored tallies tallies runs r reason is) sound;
        leaves = refl;
        rightly = λ kind. absurd (omega (arith, kind));
      }

  module _ (call : Call) (is : IsAdmitted published runs r (Ok call)) (new : List FlatEntry) (after : List Tally) where
    abbrev holds : LedgerView
    holds = view_of published new after (runs + 1)

    same_had : new ≡ stored → after ≡ tallies → holds ≡ record held { runs = runs + 1 }
    same_had p q = rw (p, q) refl

    leaves_for : (t : Told) → RunsTo (Some t) stored new tallies after → Leaves t held holds
    leaves_for (RanToEnd steps) h = refl
    leaves_for (RanToAbort kind n steps) h = same_had h.0 h.1
    leaves_for (RanOut stop steps) h = same_had h.0 h.1
    leaves_for _ h = absurd h

    -- a run that was had leaves a sound ledger
    sound_had : (t : Told) → IsApplied published call (Some t) stored new tallies after → IsSoundLedger (state_of holds)
    sound_had t applied =
        attempted_sound (state_of held) (state_of holds) t r sound (asked_fits 2 payload (Run r) asked) (answered-run published stored new tallies after runs r call t is applied)

    run_replies : (t : Told) → IsApplied published call (Some t) stored new tallies after → RunsTo (Some t) stored new tallies after → Replies 2 payload (Some t) held holds
    run_replies t applied kept = record {
      answers = answers_record 2 payload (Run r) t (state_of held) (state_of holds) asked (answered-run published stored new tallies after runs r call t is applied) (sound_had t applied);
      leaves = leaves_for t kept;
      rightly = λ kind. absurd (omega (arith, kind));
    }

    -- what is answered to a run that was admitted; it is counted where something is told of it
    pub had_sound : (reply : Option Told) → is_some reply ≡ true → IsApplied published call reply stored new tallies after → IsSoundLedger (state_of holds)
    had_sound None told applied = cc
    had_sound (Some t) told applied = sound_had t applied

    pub had_replies : (reply : Option Told) → is_some reply ≡ true → IsApplied published call reply stored new tallies after → RunsTo reply stored new tallies after
        → Replies 2 payload reply held holds
    had_replies None told applied kept = cc
    had_replies (Some t) told applied kept = run_replies t applied kept

-- where nothing is told nothing changed
pub unchanged : (reply : Option Told) (old new : List FlatEntry) (before after : List Tally) → is_some reply ≡ false → RunsTo reply old new before after → IsKept old new before after
unchanged None old new before after none kept = kept
unchanged (Some t) old new before after none kept = cc

pub untold_replies : (published : List PublishedModule) (payload : List ℕ) (stored new : List FlatEntry) (tallies after : List Tally) (runs : ℕ) (reply : Option Told) → is_some reply ≡ false
    → RunsTo reply stored new tallies after → Replies 2 payload reply (view_of published stored tallies runs) (view_of published new after runs)
untold_replies published payload stored new tallies after runs None none kept = rw (kept.0, kept.1) refl
untold_replies published payload stored new tallies after runs (Some t) none kept = cc
