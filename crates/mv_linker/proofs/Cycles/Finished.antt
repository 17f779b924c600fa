-- Modules that are in order by themselves, and when all modules are that result when a bundle joins.
--   none-next, some-next    whether a module depends on others, by its set of places
--   no-loop, one-finished   a module that depends on finished ones alone is finished
--   ordered-by              all are in order where each module of the bundle depends on finished ones alone
--   gains-at, gains-nothing, gained    which dependencies the modules gain that take others' places
--   finished-first          where they gain none, those in old places are in order by themselves
use Rattle.mv_linker.proofs.Common.{[], ℕ, ◌<◌, ◌+◌, ◌==◌, ◌∙◌, ◌≡◌, ◌≤◌, ◌⊎◌, ◌||◌, Contains, IsOrdered, Links, List, Module, None, Option, Reaches, Some}
use Rattle.mv_linker.proofs.Common.{all_differ, ap, arith, both_ways, cases_eq, cases_lt, depends_on, directly, eqb-true, false, further, have_one_name, inl, inr, is_some, length, or_cases, or_right, places_in, position}
use Rattle.mv_linker.proofs.Common.{refl, same_Some, slice_get, slice_get_within, subst, sym, true, with_tables}
use Rattle.std.specs.Prelude.{◌%◌, MatchOption}
use Rattle.std.proofs.lemmas.Nat.Bits.{bit_at-zero}
use Rattle.mv_bit_sets.specs.BitSets.{has, IsOutside, IsWithin}
use Rattle.mv_linker.specs.ScopeDependencies.{AreNeedsAt}
use Rattle.mv_linker.specs.Finished.{AreFinished, GainsNothing, IsNext, IsFinished, LeadsTo, LeadsToFinished}
use Rattle.mv_linker.proofs.Lemmas.{Contains-at, among-at, among-result, at-Contains, at-among, element_at}
use Rattle.mv_linker.proofs.Joining.Bundled.{old-at, place-at}
use Rattle.mv_linker.proofs.Cycles.DependenciesStay.{placed-there, was-needed}

-- an empty set has no places
pub has-nil : (p : ℕ) → has [] p ≡ false
has-nil p = ap (λ n. n == 1) (bit_at-zero (p % 64))

-- ---- where a module leads, by its set of places

-- a place that needs a set tells where the module leads
pub needs-lead : (modules : List Module) (p q : ℕ) (needs : List ℕ) → p < length modules → AreNeedsAt modules p needs → has needs q ≡ true → LeadsTo modules p q
needs-lead modules p q needs low are is =
    let m = element_at modules p low in
    let n = element_at modules q ((are m.0 m.1).there q is) in
    record { from = m.0; to = n.0; from_at = m.1; to_at = n.1; depends = ((are m.0 m.1).each q n.0 n.1).0 is }

pub leads-needs : (modules : List Module) (p q : ℕ) (needs : List ℕ) → AreNeedsAt modules p needs → LeadsTo modules p q → has needs q ≡ true
leads-needs modules p q needs are e = ((are e.from e.from_at).each q e.to e.to_at).1 e.depends

-- whether a place has a dependency that isn't finished
pub none-next : (modules : List Module) (base p : ℕ) (needs done : List ℕ) → AreNeedsAt modules p needs → IsWithin base needs done → LeadsToFinished modules base done p
none-next modules base p needs done are within q e = elim (cases_lt q base) [ inl low ↦ inl low | inr high ↦ inr (within q high (leads-needs modules p q needs are e)) ]

pub some-next : (modules : List Module) (base p q : ℕ) (needs done : List ℕ) → p < length modules → AreNeedsAt modules p needs → IsOutside base needs done q → IsNext modules base done p q
some-next modules base p q needs done low are out = record {
  leads = needs-lead modules p q needs low are out.is;
  unfinished = λ finished. elim finished [ inl below ↦ omega (arith, below, out.high) | inr is ↦ both_ways (has done q) out.is_not is ];
}

pub next-after : (modules : List Module) (base p : ℕ) (needs done : List ℕ) (next : Option ℕ) → p < length modules → AreNeedsAt modules p needs
    → MatchOption next (IsWithin base needs done) (IsOutside base needs done) → MatchOption next (LeadsToFinished modules base done p) (IsNext modules base done p)
next-after modules base p needs done None low are within = none-next modules base p needs done are within
next-after modules base p needs done (Some q) low are out = some-next modules base p q needs done low are out

pub next-none : (A : Type 0) (B : ℕ → Type 0) (next : Option ℕ) → is_some next ≡ false → MatchOption next A B → A
next-none A B None e a = a
next-none A B (Some q) e b = absurd (both_ways true e refl)

pub next-some : (A : Type 0) (B : ℕ → Type 0) (next : Option ℕ) → is_some next ≡ true → MatchOption next A B → (q : ℕ) × B q
next-some A B None e a = absurd (both_ways false refl e)
next-some A B (Some q) e b = (q, b)

-- ---- what holds of the first entries of a list, and of all

pub each-more : {P : ℕ → Type 0} (xs : List ℕ) (n p : ℕ) → ((k q : ℕ) → k < n → slice_get xs k ≡ Some q → P q) → slice_get xs n ≡ Some p → P p
    → (k q : ℕ) → k < n + 1 → slice_get xs k ≡ Some q → P q
each-more {P} xs n p each at is k q low q_at = elim (cases_eq k n) [
  | inl same ↦ subst P (same_Some p q (sym at ∙ sym (ap (slice_get xs) same) ∙ q_at)) is
  | inr other ↦ each k q (omega (arith, low, other)) q_at
]

pub each-all : {P : ℕ → Type 0} (xs : List ℕ) (n : ℕ) → ((k q : ℕ) → k < n → slice_get xs k ≡ Some q → P q) → length xs ≤ n → (k q : ℕ) → slice_get xs k ≡ Some q → P q
each-all xs n each most k q at = let low = slice_get_within xs k q at in each k q (omega (arith, low, most)) at

-- ---- finished modules

ends-there : (modules : List Module) (m n : Module) → Reaches modules m n → Contains modules n
ends-there modules m n (directly a b has_a has_b d) = has_b
ends-there modules m n (further a b c first second) = ends-there modules b c second

module _ (modules : List Module) (base : ℕ) (done : List ℕ) (s : AreFinished modules base done) where
  -- a chain from a finished module ends at one
  stays-finished : (m n : Module) → Reaches modules m n → (p q : ℕ) → IsFinished base done p → slice_get modules p ≡ Some m → slice_get modules q ≡ Some n → IsFinished base done q
  stays-finished m n (directly a b has_a has_b d) p q finished at end = s.closed p q finished (record { from = a; to = b; from_at = at; to_at = end; depends = d })
  stays-finished m n (further a b c first second) p q finished at end =
      let k = Contains-at modules b (ends-there modules a b first) in
      stays-finished b c second k.0 q (stays-finished a b first p k.0 finished at k.1) k.1 end

  -- and so does one from a module that depends on such alone
  leads-finished : (p : ℕ) → LeadsToFinished modules base done p → (m n : Module) → Reaches modules m n → (q : ℕ) → slice_get modules p ≡ Some m → slice_get modules q ≡ Some n → IsFinished base done q
  leads-finished p all m n (directly a b has_a has_b d) q at end = all q (record { from = a; to = b; from_at = at; to_at = end; depends = d })
  leads-finished p all m n (further a b c first second) q at end =
      let k = Contains-at modules b (ends-there modules a b first) in
      stays-finished b c second k.0 q (leads-finished p all a b first k.0 at k.1) k.1 end

  -- which therefore doesn't depend on itself
  pub no-loop : (p : ℕ) (m : Module) → LeadsToFinished modules base done p → slice_get modules p ≡ Some m → Reaches modules m m → ⊥
  no-loop p m all at chain = s.ordered p m (leads-finished p all m m chain p at at) at chain

  -- and is finished with them
  pub one-finished : (more : List ℕ) (p : ℕ) → LeadsToFinished modules base done p → ((q : ℕ) → has more q ≡ (q == p || has done q)) → AreFinished modules base more
  one-finished more p all put = record {
    closed = λ i j finished e. grows j (elim (was i finished) [ inl same ↦ all j (subst (λ k. LeadsTo modules k j) same e) | inr before ↦ s.closed i j before e ]);
    ordered = λ i m finished at chain. elim (was i finished) [
      | inl same ↦ no-loop p m all (sym (ap (slice_get modules) same) ∙ at) chain
      | inr before ↦ s.ordered i m before at chain
    ];
  }
    where
      grows : (j : ℕ) → IsFinished base done j → IsFinished base more j
      grows j (inl low) = inl low
      grows j (inr is) = inr (put j ∙ or_right (j == p) (has done j) is)

      was : (i : ℕ) → IsFinished base more i → (i ≡ p) ⊎ IsFinished base done i
      was i (inl low) = inr (inl low)
      was i (inr is) = elim (or_cases (i == p) (has done i) (sym (put i) ∙ is)) [ inl here ↦ inl (eqb-true i p here) | inr before ↦ inr (inr before) ]

-- ---- a bundle joins

-- a chain passes a module of a bundle
record Passes (result ns : List Module) (m n : Module) : Type 0 where
  by : Module
  of : Contains ns by
  first : (m ≡ by) ⊎ Reaches result m by
  last : (by ≡ n) ⊎ Reaches result by n

-- what the module at a place gains is nothing
abbrev pub GainsNothingAt : List Module → List Module → ℕ → Type 0
GainsNothingAt old result p = (q : ℕ) (x : Module) → slice_get old p ≡ Some x → LeadsTo result p q → LeadsTo old p q

module _ (old ns : List Module) (once : all_differ have_one_name old ≡ true) where
  abbrev result : List Module
  result = with_tables old ns

  either : (m : Module) → Contains result m → Contains ns m ⊎ Contains old m
  either m there = let k = Contains-at result m there in elim (among-result old ns m once (among-at result k.0 m k.1)) [
    | inl new ↦ let at = at-among ns m new in inl (at-Contains ns at.0 m at.1)
    | inr kept ↦ let at = at-among old m kept.0 in inr (at-Contains old at.0 m at.1)
  ]

  -- a chain after the way to its beginning
  after : (m b n : Module) → (m ≡ b) ⊎ Reaches result m b → Reaches result b n → Reaches result m n
  after m b n (inl same) chain = subst (λ x. Reaches result x n) (sym same) chain
  after m b n (inr way) chain = further m b n way chain

  before : (m b n : Module) → Reaches result m b → (b ≡ n) ⊎ Reaches result b n → Reaches result m n
  before m b n chain (inl same) = subst (λ x. Reaches result m x) same chain
  before m b n chain (inr way) = further m b n chain way

  -- a chain is one of the old store, or passes a module of the bundle
  old-or-passes : (m n : Module) → Reaches result m n → Reaches old m n ⊎ Passes result ns m n
  old-or-passes m n (directly a b has_a has_b d) = elim (either a has_a) [
    | inl new ↦ inr (record { by = a; of = new; first = inl refl; last = inr (directly a b has_a has_b d) })
    | inr was_a ↦ elim (either b has_b) [
      | inl new ↦ inr (record { by = b; of = new; first = inr (directly a b has_a has_b d); last = inl refl })
      | inr was_b ↦ inl (directly a b was_a was_b d)
    ]
  ]
  old-or-passes m n (further a b c first second) = elim (old-or-passes a b first) [
    | inr p ↦ inr (record { by = p.by; of = p.of; first = p.first; last = inr (after p.by b c p.last second) })
    | inl early ↦ elim (old-or-passes b c second) [
      | inr p ↦ inr (record { by = p.by; of = p.of; first = inr (before a b p.by first p.first); last = p.last })
      | inl late ↦ inl (further a b c early late)
    ]
  ]

  -- one that leads back leads from that module back to it
  back : (m : Module) → Reaches result m m → (p : Passes result ns m m) → Reaches result p.by p.by
  back m chain p = after p.by m p.by p.last (turn p.first)
    where
      turn : (m ≡ p.by) ⊎ Reaches result m p.by → Reaches result m p.by
      turn (inl same) = subst (λ x. Reaches result m x) same chain
      turn (inr way) = way

  -- a chain that leads back to its module is one of the bundle's
  pub bundles-loop : IsOrdered old → ((n : Module) → Contains ns n → Reaches result n n → ⊥) → IsOrdered result
  bundles-loop ordered never m chain = elim (old-or-passes m m chain) [
    | inl was ↦ ordered m was
    | inr p ↦ never p.by p.of (back m chain p)
  ]

  -- all are in order where each module of the bundle depends on finished ones alone
  pub ordered-by : all_differ have_one_name ns ≡ true → IsOrdered old → (base : ℕ) (done : List ℕ) → AreFinished result base done
      → ((k p : ℕ) → slice_get (places_in old ns) k ≡ Some p → LeadsToFinished result base done p) → IsOrdered result
  ordered-by apart ordered base done s all = bundles-loop ordered (λ n there chain.
      let x = placed-there old ns apart n there in
      let k = Contains-at (places_in old ns) x.0 x.1 in
      no-loop result base done s x.0 n (all k.0 x.0 k.1) x.2 chain)

  -- ---- what is gained

  pub gains-past : (p : ℕ) → length old ≤ p → GainsNothingAt old result p
  gains-past p high q x x_at e = let low = slice_get_within old p x x_at in absurd (omega (arith, low, high))

  pub gains-none : (p : ℕ) (needs new : List ℕ) → p < length old → AreNeedsAt old p needs → AreNeedsAt result p new → IsWithin 0 new needs → GainsNothingAt old result p
  gains-none p needs new low was are within q x x_at e = needs-lead old p q needs low was (within q (omega arith) (leads-needs result p q new are e))

  -- all modules do where those of the bundle do
  pub gains-nothing : Links old → ((k p : ℕ) → slice_get (places_in old ns) k ≡ Some p → GainsNothingAt old result p) → GainsNothing old result
  gains-nothing links each p q x x_at e = by_place (position (λ r. r == p) (places_in old ns)) refl
    where
      by_place : (o : Option ℕ) → position (λ r. r == p) (places_in old ns) ≡ o → LeadsTo old p q
      by_place (Some k) f = each k p (place-at p k (places_in old ns) f) q x x_at e
      by_place None f =
          let here : e.from ≡ x = same_Some e.from x (sym e.from_at ∙ old-at old ns p f ∙ x_at) in
          let w = was-needed old ns once links p x x_at q e.to e.to_at (subst (λ (m : Module). depends_on m e.to ≡ true) here e.depends) in
          record { from = x; to = w.0; from_at = x_at; to_at = w.1; depends = w.2 }

  -- a place that is needed now and wasn't before is gained
  pub gained : (p q : ℕ) (needs new : List ℕ) → p < length old → p < length result → AreNeedsAt old p needs → AreNeedsAt result p new → IsOutside 0 new needs q → GainsNothing old result → ⊥
  gained p q needs new low there was are out nothing =
      let x = element_at old p low in
      both_ways (has needs q) out.is_not (leads-needs old p q needs was (nothing p q x.0 x.1 (needs-lead result p q new there are out.is)))

  -- where nothing is gained, a chain from an old place is one of the old store
  was-chain : GainsNothing old result → (m n : Module) → Reaches result m n → (p q : ℕ) (x : Module) → slice_get result p ≡ Some m → slice_get result q ≡ Some n → slice_get old p ≡ Some x
      → (y : Module) × (slice_get old q ≡ Some y) × Reaches old x y
  was-chain nothing m n (directly a b has_a has_b d) p q x at end x_at =
      let e = nothing p q x x_at (record { from = a; to = b; from_at = at; to_at = end; depends = d }) in
      let same : e.from ≡ x = same_Some e.from x (sym e.from_at ∙ x_at) in
      (e.to, e.to_at, subst (λ (z : Module). Reaches old z e.to) same (directly e.from e.to (at-Contains old p e.from e.from_at) (at-Contains old q e.to e.to_at) e.depends))
  was-chain nothing m n (further a b c first second) p q x at end x_at =
      let k = Contains-at result b (ends-there result a b first) in
      let early = was-chain nothing a b first p k.0 x at k.1 x_at in
      let late = was-chain nothing b c second k.0 q early.0 k.1 end early.1 in
      (late.0, late.1, further x early.0 late.0 early.2 late.2)

  -- those in old places are in order by themselves
  pub finished-first : IsOrdered old → GainsNothing old result → AreFinished result (length old) []
  finished-first ordered nothing = record {
    closed = λ p q finished e. elim finished [
      | inl low ↦ inl (let x = element_at old p low in let was = nothing p q x.0 x.1 e in slice_get_within old q was.to was.to_at)
      | inr is ↦ absurd (both_ways (has [] p) (has-nil p) is)
    ];
    ordered = λ p m finished at chain. elim finished [
      | inl low ↦
          let x = element_at old p low in
          let was = was-chain nothing m m chain p p x.0 at at x.1 in
          ordered x.0 (subst (λ (z : Module). Reaches old x.0 z) (same_Some was.0 x.0 (sym was.1 ∙ x.1)) was.2)
      | inr is ↦ absurd (both_ways (has [] p) (has-nil p) is)
    ];
  }
