-- A bundle is published with one list of modules, or refused in one phase: the first that it fails.
use Rattle.std.proofs.Common.{◌≡◌, ℕ, List, [], ◌∷◌, ◌++◌, refl, sym, ◌∙◌, subst}
use Rattle.mv_move_types.specs.Published.{PublishedModule}
use Rattle.mv_binary_format.specs.Laws.{IsReadByText}
use Rattle.mv_certificate_rules.specs.Certificate.{Certificate}
use Rattle.mv_machine.specs.Ledger.{Offer, LedgerState}
use Rattle.mv_ledger_state.specs.Publishing.{Passes, FailsAt, phases, AllPass, IsLinked, HasRoom, IsPublished, IsRefusedAt, in_offer, in_linking, in_room}
use Rattle.mv_ledger_state.proofs.Phases.{never-fails, one-first}
use Rattle.mv_saved_text.proofs.SavedFails.{none_fails, passed-one}
use Rattle.mv_ledger_state.proofs.Spelling.{OffersAreBytes}

-- an offer fails one phase first
fails-one : (o : Offer) (p q : ℕ) → FailsAt o p → FailsAt o q → p ≡ q
fails-one o = one-first (phases o)

-- and none if it passes
passes_or_fails : (o : Offer) (p : PublishedModule) (phase : ℕ) → (c : Certificate) × Passes o p.tables c → FailsAt o phase → ⊥
passes_or_fails o p phase passes fails = never-fails o p.tables passes.0 passes.1 phase fails

-- the first of some offers that fails is one
first-one : (before : List Offer) (o : Offer) (after : List Offer) (ps : List PublishedModule) (m : ℕ)
    (others : List Offer) (other : Offer) (more : List Offer) (qs : List PublishedModule) (n : ℕ)
    → before ++ o ∷ after ≡ others ++ other ∷ more → AllPass before ps → AllPass others qs → FailsAt o m → FailsAt other n → m ≡ n
first-one [] o after ps m [] other more qs n e a b f g =
    let same : o ≡ other = cc in fails-one o m n f (subst (λ (x : Offer). FailsAt x n) (sym same) g)
first-one [] o after ps m (x ∷ others) other more [] n e a b f g = absurd b
first-one [] o after ps m (x ∷ others) other more (q ∷ qs) n e a b f g =
    let same : o ≡ x = cc in absurd (passes_or_fails x q m b.2 (subst (λ (z : Offer). FailsAt z m) same f))
first-one (y ∷ before) o after [] m others other more qs n e a b f g = absurd a
first-one (y ∷ before) o after (p ∷ ps) m [] other more qs n e a b f g =
    let same : y ≡ other = cc in absurd (passes_or_fails y p n a.2 (subst (λ (z : Offer). FailsAt z n) (sym same) g))
first-one (y ∷ before) o after (p ∷ ps) m (x ∷ others) other more [] n e a b f g = absurd b
first-one (y ∷ before) o after (p ∷ ps) m (x ∷ others) other more (q ∷ qs) n e a b f g =
    let rest : before ++ o ∷ after ≡ others ++ other ∷ more = cc in
    first-one before o after ps m others other more qs n rest a.3 b.3 f g

module _ (reads : IsReadByText) (s : LedgerState) (sender : ℕ) (offers : List Offer) (has : OffersAreBytes offers) where
  -- what is published isn't refused
  pub published_or_refused : (ps : List PublishedModule) {phase : ℕ} → IsPublished s sender offers ps → IsRefusedAt s sender offers phase → ⊥
  published_or_refused ps a (in_offer phase x) = none_fails offers ps phase a.0 x
  published_or_refused ps a (in_linking qs all out) = out (subst (IsLinked sender s) (passed-one reads offers ps qs has a.0 all) a.1)
  published_or_refused ps a (in_room qs all linked out) = out (subst (HasRoom s) (passed-one reads offers ps qs has a.0 all) a.2)

  -- what is refused is refused in one phase
  pub refused-one : {m n : ℕ} → IsRefusedAt s sender offers m → IsRefusedAt s sender offers n → m ≡ n
  refused-one (in_offer m x) (in_offer n y) =
      first-one x.before x.offer x.after x.bundle m y.before y.offer y.after y.bundle n (sym x.are ∙ y.are) x.passed y.passed x.fails y.fails
  refused-one (in_offer m x) (in_linking qs all out) = absurd (none_fails offers qs m all x)
  refused-one (in_offer m x) (in_room qs all linked out) = absurd (none_fails offers qs m all x)
  refused-one (in_linking ps all out) (in_offer n y) = absurd (none_fails offers ps n all y)
  refused-one (in_linking ps all out) (in_linking qs also none) = refl
  refused-one (in_linking ps all out) (in_room qs also linked none) = absurd (out (subst (IsLinked sender s) (passed-one reads offers qs ps has also all) linked))
  refused-one (in_room ps all linked out) (in_offer n y) = absurd (none_fails offers ps n all y)
  refused-one (in_room ps all linked out) (in_linking qs also none) = absurd (none (subst (IsLinked sender s) (passed-one reads offers ps qs has all also) linked))
  refused-one (in_room ps all linked out) (in_room qs also there none) = refl
