-- From the functions of a module to the module.
use Rattle.std.proofs.Common.{◌≡◌, ℕ, suc, Bool, List, [], ◌∷◌, ◌++◌, length, ◌<◌, ◌+◌, Some, slice_get, IsTrue, refl, sym, ◌∙◌, subst, arith, ⊎_elim}
use Rattle.std.proofs.lemmas.Bool.{and_parts, and_from, cases_eq}
use Rattle.std.proofs.lemmas.List.{length-append}
use Rattle.std.proofs.lemmas.Option.{slice_get_within}
use Rattle.mv_move_types.specs.Module.{Module, FunctionDefinition}
use Rattle.mv_move_types.specs.declared.refusal.Refusal.TheVariants.{Phase, Memory as OutOfMemory}
use Rattle.mv_acquires.specs.Acquires.{AcquiresHold}
use Rattle.mv_certificate.specs.Answers.{FailsCertificate, bad_locals, bad_borrows, bad_acquires}
use Rattle.mv_certificate_rules.specs.Certificate.{Stated, Certificate, locals_hold, edges_hold, all_locals_hold, all_edges_hold, certificate_holds}
use Rattle.mv_certificate.specs.Functions.{LocalsHoldAt, EdgesHoldAt}
use Rattle.mv_certificate.specs.Reads.{FitsAt}
use Rattle.mv_certificate_rules.specs.Shape.{StatedFits, AllStatedFit}
use Rattle.mv_certificate.proofs.States.{fit-length, fit-at}
use Rattle.mv_certificate.proofs.Holds.{each-passes, passes-each}
use Rattle.mv_analyser.specs.Principal.{FailsEach, no_locals, no_edges, no_lists, IsUnproved, IsUnprovedWithin, IsOfLimits, IsOfLimitsWithin, IsProvable, IsTold, PassesCheck}
use Rattle.mv_analyser.specs.Principal.{FindsLocals, FindsEdges, AllBefore}
use Rattle.mv_analyser.specs.States.{EndsLocals, EndsEdges, IsErrorAt, IsComplexAt}
use Rattle.mv_analyser.specs.declared.ProveError.{ProveError}
use Rattle.mv_analyser.specs.declared.ProveError.TheVariants.{Refused, TooComplex, Memory}
use Rattle.mv_analyser.specs.declared.LimitError.{LimitError}
use Rattle.mv_analyser.specs.declared.LimitError.TheVariants.{Unproved, TooLong}
use Rattle.mv_bound_rules.proofs.Entries.{last_or_before, element_at}

-- what is stated of the first functions
pub record UpTo (P : ℕ → Stated → Type 0) (n : ℕ) (cs : List Stated) : Type 0 where
  pub long : length cs ≡ n
  pub each : (k : ℕ) (s : Stated) → slice_get cs k ≡ Some s → P k s

pub up_to_none : (P : ℕ → Stated → Type 0) (cs : List Stated) → cs ≡ [] → UpTo P 0 cs
up_to_none P cs is =
    subst (UpTo P 0) (sym is) (record { long = refl; each = λ k s e. absurd (let low = slice_get_within [] k s e in let no : ⊥ = omega (arith, low) in no) })

pub up_to_more : (P : ℕ → Stated → Type 0) (n : ℕ) (cs new : List Stated) (s : Stated) → new ≡ cs ++ s ∷ [] → P n s → UpTo P n cs → UpTo P (n + 1) new
up_to_more P n cs new s is p before =
    subst (UpTo P (n + 1)) (sym is) (record {
      long = let sum = length-append cs (s ∷ []) in let was = before.long in omega (arith, sum, was);
      each = λ k z e. ⊎_elim (λ old. before.each k z old) (λ last. subst (λ i. P i z) (sym (last.0 ∙ before.long)) (subst (P n) last.1 p)) (last_or_before cs s k z e);
    })

fit_each : (m : Module) (ds : List FunctionDefinition) (cs : List Stated) → length ds ≡ length cs
    → ((f : ℕ) (d : FunctionDefinition) (c : Stated) → slice_get ds f ≡ Some d → slice_get cs f ≡ Some c → StatedFits m d c) → AllStatedFit m ds cs
fit_each m [] [] long each = tt
fit_each m [] (c ∷ cs) long each = absurd (omega arith)
fit_each m (d ∷ ds) [] long each = absurd (omega arith)
fit_each m (d ∷ ds) (c ∷ cs) long each = (each 0 d c refl refl, fit_each m ds cs (omega arith) (λ f x y e1 e2. each (suc f) x y e1 e2))

module _ (m : Module) (P : ℕ → Stated → Type 0) (n : ℕ) (cs : List Stated) (all : UpTo P n cs) (count : n ≡ length m.functions) where
  pub all_fit : ((k : ℕ) (s : Stated) → P k s → FitsAt m k s) → AllStatedFit m m.functions cs
  all_fit fits = fit_each m m.functions cs (sym (all.long ∙ count)) (λ f d c e1 e2. fits f c (all.each f c e2) d e1)

  pub all_hold : ((k : ℕ) (s : Stated) → P k s → LocalsHoldAt m k s) → IsTrue (all_locals_hold m cs)
  all_hold holds = each-passes (locals_hold m) m.functions cs (sym (all.long ∙ count)) (λ f d c e1 e2. holds f c (all.each f c e2) d e1)

  pub all_edges : ((k : ℕ) (s : Stated) → P k s → EdgesHoldAt m k s) → IsTrue (all_edges_hold m cs)
  all_edges holds = each-passes (edges_hold m) m.functions cs (sym (all.long ∙ count)) (λ f d c e1 e2. holds f c (all.each f c e2) d e1)

pub both_hold : (m : Module) (c : Certificate) → IsTrue (all_locals_hold m c) → IsTrue (all_edges_hold m c) → IsTrue (certificate_holds m c)
both_hold m c a b = and_from (all_locals_hold m c) (all_edges_hold m c) a b

-- what is stated of the function at a place
module _ (m : Module) (f : ℕ) (inside : f < length m.functions) (c : Certificate) (fits : AllStatedFit m m.functions c) where
  stated_there : (s : Stated) × (slice_get c f ≡ Some s)
  stated_there = let long = fit-length m m.functions c fits in element_at c f (omega (arith, inside, long))

  pub locals_there : IsTrue (all_locals_hold m c) → (s : Stated) × (FitsAt m f s × LocalsHoldAt m f s)
  locals_there holds =
      (stated_there.0, (λ d e. fit-at m m.functions c f d stated_there.0 fits e stated_there.1, λ d e. passes-each (locals_hold m) m.functions c holds f d stated_there.0 e stated_there.1))

  pub edges_there : IsTrue (all_edges_hold m c) → (s : Stated) × (FitsAt m f s × EdgesHoldAt m f s)
  edges_there holds =
      (stated_there.0, (λ d e. fit-at m m.functions c f d stated_there.0 fits e stated_there.1, λ d e. passes-each (edges_hold m) m.functions c holds f d stated_there.0 e stated_there.1))

-- one function more
pub before_none : (P : ℕ → Type 0) → AllBefore P 0
before_none P k low = absurd (omega (arith, low))

pub before_more : (P : ℕ → Type 0) (f : ℕ) → AllBefore P f → P f → AllBefore P (f + 1)
before_more P f before p k low = ⊎_elim (λ (is : k ≡ f). subst P (sym is) p) (λ (other : k ≡ f → ⊥). before k (omega (arith, low, other))) (cases_eq k f)

pub before_all : (P : ℕ → Type 0) (f n : ℕ) → f ≡ n → AllBefore P f → AllBefore P n
before_all P f n is before = subst (AllBefore P) is before

-- what the error at a function says of the module
pub unproved_locals : (m : Module) (f : ℕ) → f < length m.functions → (e : ProveError) → IsErrorAt m f 10 (LocalsHoldAt m f) ⊥ e → EndsLocals m f e → AllBefore (FindsLocals m) f → IsUnproved m e
unproved_locals m f inside (Refused p) h ends before =
    subst (FailsEach m) (sym h.0) (no_locals f ends.1 before (λ c fits holds. let s = locals_there m f inside c fits holds in h.1 s.0 s.1.0 s.1.1))
unproved_locals m f inside TooComplex h ends before = absurd h
unproved_locals m f inside Memory h ends before = tt

pub unproved_edges : (m : Module) (f : ℕ) → f < length m.functions → (c : Certificate) → AllStatedFit m m.functions c → IsTrue (all_locals_hold m c)
    → AllBefore (FindsLocals m) (length m.functions) → (e : ProveError) → IsErrorAt m f 11 (EdgesHoldAt m f) (IsComplexAt m f) e → EndsEdges m f e → AllBefore (FindsEdges m) f → IsUnproved m e
unproved_edges m f inside c fits holds locals (Refused p) h ends before =
    subst (FailsEach m) (sym h.0) (no_edges f ends.1 before c fits holds (λ c fits holds. let s = edges_there m f inside c fits holds in h.1 s.0 s.1.0 s.1.1))
unproved_edges m f inside c fits holds locals TooComplex h ends before = (λ plain. h.0 (λ d e. plain f d e), record { locals = locals; function = f; before = before; limit = h.1 })
unproved_edges m f inside c fits holds locals Memory h ends before = tt

pub unproved_lists : (m : Module) (c : Certificate) → AllStatedFit m m.functions c → IsTrue (certificate_holds m c) → (p : ℕ) → p ≡ 12 → (AcquiresHold m → ⊥) → FailsEach m p
unproved_lists m c fits holds p is none = subst (FailsEach m) (sym is) (no_lists (c, (fits, holds)) none)

-- a certificate that holds, of a module whose acquires lists are right, passes
never_fails : (m : Module) (c : Certificate) → IsTrue (certificate_holds m c) → AcquiresHold m → (p : ℕ) → FailsCertificate m c p → ⊥
never_fails m c holds lists _ (bad_locals none) = none (and_parts (all_locals_hold m c) (all_edges_hold m c) holds).0
never_fails m c holds lists _ (bad_borrows locals none) = none (and_parts (all_locals_hold m c) (all_edges_hold m c) holds).1
never_fails m c holds lists _ (bad_acquires whole none) = none lists

pub passes_check : (m : Module) (c : Certificate) → IsTrue (certificate_holds m c) → AcquiresHold m → PassesCheck m c
passes_check m c holds lists (Phase p) h = absurd (never_fails m c holds lists p h)
passes_check m c holds lists OutOfMemory h = refl

-- where some certificate passes, none is refused
never_refused : (m : Module) → IsProvable m → (p : ℕ) → FailsEach m p → ⊥
never_refused m provable _ (no_locals f fails before none) =
    let c = provable.0 in none c.0 c.1.0 (and_parts (all_locals_hold m c.0) (all_edges_hold m c.0) c.1.1).0
never_refused m provable _ (no_edges f fails before other fits holds none) =
    let c = provable.0 in none c.0 c.1.0 (and_parts (all_locals_hold m c.0) (all_edges_hold m c.0) c.1.1).1
never_refused m provable _ (no_lists whole none) = none provable.1

pub only_limits : (m : Module) → IsProvable m → (e : ProveError) → IsUnproved m e → IsOfLimits e
only_limits m provable (Refused p) h = never_refused m provable p h
only_limits m provable TooComplex h = tt
only_limits m provable Memory h = tt

-- what is told of a search's error says why no certificate is made, as that error does
pub told_unproved : (m : Module) (limited : Bool) (why : ProveError) (e : LimitError) → IsTold limited why e → IsUnproved m why → IsUnprovedWithin m e
told_unproved m limited why (Unproved e) told h = subst (IsUnproved m) (sym told) h
told_unproved m limited why TooLong told h = tt

pub told_of_limits : (limited : Bool) (why : ProveError) (e : LimitError) → IsTold limited why e → IsOfLimits why → IsOfLimitsWithin e
told_of_limits limited why (Unproved e) told h = subst IsOfLimits (sym told) h
told_of_limits limited why TooLong told h = tt

pub told_limited : (limited : Bool) (why : ProveError) (e : LimitError) → IsTold limited why e → e ≡ TooLong → IsTrue limited
told_limited limited why (Unproved e) told is = cc
told_limited limited why TooLong told is = told.1
