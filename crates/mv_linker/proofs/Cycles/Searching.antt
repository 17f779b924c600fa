-- The search for a chain of dependencies that leads back to its module.
--   IsSearch    how far it came
--   search-begins, search-goes-on, search-goes-back     its steps
--   search-loops, search-ends                           and what it then found
--   left, less-left                                     how much is left
--   IsSearchOfAll ..                                    the searches from several places
use Rattle.mv_linker.proofs.Common.{[], ℕ, zero, suc, ◌++◌, ◌+◌, ◌-◌, ◌<◌, ◌==◌, ◌∙◌, ◌∷◌, ◌≡◌, ◌⊎◌, ◌||◌, Contains, IsOrdered, List, Module, Reaches, Some, ap, arith, both_ways}
use Rattle.mv_linker.proofs.Common.{cases_eq, cond, directly, eq-eqb, eqb-true, false, false_from_ne_true, further, inl, inr, length, ne_eqb, or_cases, or_left, or_right, refl, same_Some, slice_get}
use Rattle.mv_linker.proofs.Common.{slice_get-first, slice_get_within, subst, sym, take, true}
use Rattle.mv_bit_sets.specs.BitSets.{has, IsWithin}
use Rattle.mv_linker.specs.Finished.{AreFinished, IsNext, IsFinished, LeadsTo, LeadsToFinished}
use Rattle.mv_linker.proofs.Lemmas.{Contains-at, at-Contains, element_at}
use Rattle.mv_bound_rules.proofs.Found.{slice_get-take}
use Rattle.mv_linker.proofs.Cycles.Finished.{one-finished}
use Rattle.mv_bound_rules.proofs.Entries.{last_or_before}

-- a place of the chain that the search is on
pub record IsOpen (modules : List Module) (base : ℕ) (met done : List ℕ) (p : ℕ) : Type 0 where
  pub low : p < length modules
  pub came_to : has met p ≡ true
  pub unfinished : IsFinished base done p → ⊥

-- how far the search from a place came: the chain that it is on, the places that it met, and those that it is done with
pub record IsSearch (modules : List Module) (base start : ℕ) (was chain met done : List ℕ) : Type 0 where
  pub finished : AreFinished modules base done
  pub stays : IsWithin 0 was done
  pub steps : (i p q : ℕ) → slice_get chain i ≡ Some p → slice_get chain (i + 1) ≡ Some q → LeadsTo modules p q
  pub once : (i j p : ℕ) → slice_get chain i ≡ Some p → slice_get chain j ≡ Some p → i ≡ j
  pub open_at : (i p : ℕ) → slice_get chain i ≡ Some p → IsOpen modules base met done p
  pub open_or_done : (q : ℕ) → has met q ≡ true → (has done q ≡ true) ⊎ Contains chain q
  pub begun : (has done start ≡ true) ⊎ (slice_get chain 0 ≡ Some start)

-- ---- entries of a chain

-- the entry that was pushed, or one before
pushed-or : (chain : List ℕ) (x : ℕ) (i p : ℕ) → slice_get (chain ++ x ∷ []) i ≡ Some p → (slice_get chain i ≡ Some p) ⊎ ((i ≡ length chain) × (p ≡ x))
pushed-or chain x i p at = elim (last_or_before chain x i p at) [ inl before ↦ inl before | inr end ↦ inr (end.0, sym end.1) ]

-- one of the first entries
first-at : (chain : List ℕ) (n i p : ℕ) → slice_get (take n chain) i ≡ Some p → (i < n) × (slice_get chain i ≡ Some p)
first-at [] zero i p e = absurd (none i p e)
  where
    none : (i p : ℕ) → slice_get {X = ℕ} [] i ≡ Some p → ⊥
    none i p e = let low = slice_get_within [] i p e in omega (arith, low)
first-at [] (suc n) i p e = let low = slice_get_within [] i p e in absurd (omega (arith, low))
first-at (y ∷ chain) zero i p e = let low = slice_get_within [] i p e in absurd (omega (arith, low))
first-at (y ∷ chain) (suc n) zero p e = (omega arith, e)
first-at (y ∷ chain) (suc n) (suc i) p e = let r = first-at chain n i p e in (omega (arith, r.0), r.1)

end-at : (chain : List ℕ) (x : ℕ) → slice_get (chain ++ x ∷ []) (length chain) ≡ Some x
end-at [] x = refl
end-at (y ∷ chain) x = end-at chain x

module _ (modules : List Module) (base start : ℕ) (was : List ℕ) where
  module _ (chain met done : List ℕ) (s : IsSearch modules base start was chain met done) (p : ℕ) (last : slice_get chain (length chain - 1) ≡ Some p) where
    long : 0 < length chain
    long = let low = slice_get_within chain (length chain - 1) p last in omega (arith, low)

    -- the places after one of the chain are reached from it
    record IsChain (a b : ℕ) : Type 0 where
      from : Module
      to : Module
      from_at : slice_get modules a ≡ Some from
      to_at : slice_get modules b ≡ Some to
      reaches : Reaches modules from to

    edge : (a b : ℕ) → LeadsTo modules a b → IsChain a b
    edge a b e = record {
      from = e.from;
      to = e.to;
      from_at = e.from_at;
      to_at = e.to_at;
      reaches = directly e.from e.to (at-Contains modules a e.from e.from_at) (at-Contains modules b e.to e.to_at) e.depends;
    }

    join : (a b c : ℕ) → IsChain a b → IsChain b c → IsChain a c
    join a b c x y =
        let same : y.from ≡ x.to = same_Some y.from x.to (sym y.from_at ∙ x.to_at) in
        record { from = x.from; to = y.to; from_at = x.from_at; to_at = y.to_at; reaches = further x.from x.to y.to x.reaches (subst (λ (m : Module). Reaches modules m y.to) same y.reaches) }

    along : (k i a b : ℕ) → slice_get chain i ≡ Some a → slice_get chain (i + k) ≡ Some b → (a ≡ b) ⊎ IsChain a b
    along zero i a b at end = inl (same_Some a b (sym at ∙ sym (ap (slice_get chain) (plus-zero i)) ∙ end))
      where
        plus-zero : (i : ℕ) → i + 0 ≡ i
        plus-zero i = omega arith
    along (suc k) i a b at end =
        let low = slice_get_within chain (i + suc k) b end in
        let mid = element_at chain (i + k) (omega (arith, low)) in
        let next : slice_get chain (i + k + 1) ≡ Some b = ap (slice_get chain) (one-more i k) ∙ end in
        let step = edge mid.0 b (s.steps (i + k) mid.0 b mid.1 next) in
        elim (along k i a mid.0 at mid.1) [
          | inl same ↦ inr (subst (λ x. IsChain x b) (sym same) step)
          | inr way ↦ inr (join a mid.0 b way step)
        ]
      where
        one-more : (i k : ℕ) → i + k + 1 ≡ i + suc k
        one-more i k = omega arith

    -- a place that was met and isn't finished closes a chain
    pub search-loops : (next : ℕ) → IsNext modules base done p next → has met next ≡ true → IsOrdered modules → ⊥
    search-loops next n is ordered = elim (s.open_or_done next is) [
      | inl before ↦ n.unfinished (inr before)
      | inr there ↦
          let at = Contains-at chain next there in
          let low = slice_get_within chain at.0 next at.1 in
          let end : slice_get chain (at.0 + (length chain - 1 - at.0)) ≡ Some p = ap (slice_get chain) (between at.0 (length chain) low) ∙ last in
          let whole : IsChain next next = elim (along (length chain - 1 - at.0) at.0 next p at.1 end) [
            | inl same ↦ subst (λ x. IsChain x next) (sym same) (edge p next n.leads)
            | inr way ↦ join next p next way (edge p next n.leads)
          ] in
          let same : whole.to ≡ whole.from = same_Some whole.to whole.from (sym whole.to_at ∙ whole.from_at) in
          ordered whole.from (subst (λ (m : Module). Reaches modules whole.from m) same whole.reaches)
    ]
      where
        between : (i n : ℕ) → i < n → i + (n - 1 - i) ≡ n - 1
        between i n low = omega (arith, low)

    -- it goes on to a place that it has not met
    pub search-goes-on : (next : ℕ) (longer later : List ℕ) → IsNext modules base done p next → has met next ≡ false → longer ≡ chain ++ next ∷ []
        → ((q : ℕ) → has later q ≡ (q == next || has met q)) → IsSearch modules base start was longer later done
    search-goes-on next longer later n new pushed put = rw pushed (record {
      finished = s.finished;
      stays = s.stays;
      steps = λ i a b at end. elim (pushed-or chain next (i + 1) b end) [
        | inl before ↦
            let low = slice_get_within chain (i + 1) b before in
            let i_low : i < length chain = omega (arith, low) in
            s.steps i a b (sym (slice_get-first chain (next ∷ []) i i_low) ∙ at) before
        | inr new ↦
            let is_last : i ≡ length chain - 1 = (let e = new.0 in omega (arith, e)) in
            let i_low : i < length chain = (let e = new.0 in omega (arith, e)) in
            let same : a ≡ p = same_Some a p (sym at ∙ slice_get-first chain (next ∷ []) i i_low ∙ ap (slice_get chain) is_last ∙ last) in
            rw (same, new.1) n.leads
      ];
      once = λ i j a at same. elim (pushed-or chain next i a at) [
        | inl i_before ↦ elim (pushed-or chain next j a same) [
          | inl j_before ↦ s.once i j a i_before j_before
          | inr j_new ↦ absurd (both_ways (has met next) new (subst (λ x. has met x ≡ true) j_new.1 (s.open_at i a i_before).came_to))
        ]
        | inr i_new ↦ elim (pushed-or chain next j a same) [
          | inl j_before ↦ absurd (both_ways (has met next) new (subst (λ x. has met x ≡ true) i_new.1 (s.open_at j a j_before).came_to))
          | inr j_new ↦ i_new.0 ∙ sym j_new.0
        ]
      ];
      open_at = λ i a at. elim (pushed-or chain next i a at) [
        | inl before ↦
            let o = s.open_at i a before in
            record { low = o.low; came_to = put a ∙ or_right (a == next) (has met a) o.came_to; unfinished = o.unfinished }
        | inr end ↦ record {
          low = rw end.1 (slice_get_within modules next n.leads.to n.leads.to_at);
          came_to = put a ∙ or_left (a == next) (has met a) (eq-eqb a next end.1);
          unfinished = λ finished. n.unfinished (subst (λ x. IsFinished base done x) end.1 finished);
        }
      ];
      open_or_done = λ q is. elim (or_cases (q == next) (has met q) (sym (put q) ∙ is)) [
        | inl here ↦ inr (at-Contains (chain ++ next ∷ []) (length chain) q (end-at chain next ∙ ap Some (sym (eqb-true q next here))))
        | inr before ↦ elim (s.open_or_done q before) [
          | inl finished ↦ inl finished
          | inr there ↦
              let at = Contains-at chain q there in
              inr (at-Contains (chain ++ next ∷ []) at.0 q (slice_get-first chain (next ∷ []) at.0 (slice_get_within chain at.0 q at.1) ∙ at.1))
        ]
      ];
      begun = elim s.begun [ inl finished ↦ inl finished | inr first ↦ inr (slice_get-first chain (next ∷ []) 0 long ∙ first) ];
    })

    -- it goes back from a place that leads to finished ones alone
    pub search-goes-back : (shorter more : List ℕ) → LeadsToFinished modules base done p → shorter ≡ take (length chain - 1) chain → ((q : ℕ) → has more q ≡ (q == p || has done q))
        → IsSearch modules base start was shorter met more
    search-goes-back shorter more all popped put = rw popped (record {
      finished = one-finished modules base done s.finished more p all put;
      stays = λ q high is. grows q (s.stays q high is);
      steps = λ i a b at end. s.steps i a b (first-at chain (length chain - 1) i a at).1 (first-at chain (length chain - 1) (i + 1) b end).1;
      once = λ i j a at same. s.once i j a (first-at chain (length chain - 1) i a at).1 (first-at chain (length chain - 1) j a same).1;
      open_at = λ i a at.
          let f = first-at chain (length chain - 1) i a at in
          let o = s.open_at i a f.1 in
          record {
            low = o.low;
            came_to = o.came_to;
            unfinished = λ finished. elim finished [
              | inl below ↦ o.unfinished (inl below)
              | inr is ↦ elim (or_cases (a == p) (has done a) (sym (put a) ∙ is)) [
                | inl here ↦ (let same = s.once i (length chain - 1) a f.1 (last ∙ ap Some (sym (eqb-true a p here))) in let low = f.0 in omega (arith, same, low))
                | inr before ↦ o.unfinished (inr before)
              ]
            ];
          };
      open_or_done = λ q is. elim (s.open_or_done q is) [
        | inl finished ↦ inl (grows q finished)
        | inr there ↦
            let at = Contains-at chain q there in
            elim (cases_eq at.0 (length chain - 1)) [
              | inl end ↦ inl (here q (same_Some q p (sym at.1 ∙ ap (slice_get chain) end ∙ last)))
              | inr other ↦
                  let low = slice_get_within chain at.0 q at.1 in
                  inr (at-Contains (take (length chain - 1) chain) at.0 q (slice_get-take chain (length chain - 1) at.0 (omega (arith, low, other)) ∙ at.1))
            ]
      ];
      begun = elim s.begun [
        | inl finished ↦ inl (grows start finished)
        | inr first ↦ elim (cases_eq (length chain - 1) 0) [
          | inl only ↦ inl (here start (same_Some start p (sym first ∙ sym (ap (slice_get chain) only) ∙ last)))
          | inr other ↦ inr (slice_get-take chain (length chain - 1) 0 (omega (arith, other)) ∙ first)
        ]
      ];
    })
      where
        grows : (q : ℕ) → has done q ≡ true → has more q ≡ true
        grows q is = put q ∙ or_right (q == p) (has done q) is

        here : (q : ℕ) → q ≡ p → has more q ≡ true
        here q same = put q ∙ or_left (q == p) (has done q) (eq-eqb q p same)

-- ---- searches from several places

-- the first of them are finished
pub record IsSearchOfFirst (modules : List Module) (base : ℕ) (places met done : List ℕ) (i : ℕ) : Type 0 where
  pub finished : AreFinished modules base done
  pub all_done : IsWithin 0 met done
  pub each : (k p : ℕ) → k < i → slice_get places k ≡ Some p → IsFinished base done p

-- ---- how much is left

-- what isn't finished isn't done
pub not-done : (base : ℕ) (done : List ℕ) (p : ℕ) → (IsFinished base done p → ⊥) → has done p ≡ false
not-done base done p unfinished = false_from_ne_true (has done p) (λ is. unfinished (inr is))

-- the places below a number that are not of a set
abbrev pub left : List ℕ → ℕ → ℕ
left set zero = 0
left set (suc n) = cond (has set n) 0 1 + left set n

same-left : (set later : List ℕ) (n : ℕ) → ((q : ℕ) → q < n → has later q ≡ has set q) → left later n ≡ left set n
same-left set later zero same = refl
same-left set later (suc n) same = ap (λ b. cond b 0 1 + left later n) (same n (omega arith)) ∙ ap (λ k. cond (has set n) 0 1 + k) (same-left set later n (λ q low. same q (omega (arith, low))))

pub less-left : (set later : List ℕ) (next n : ℕ) → next < n → has set next ≡ false → ((q : ℕ) → has later q ≡ (q == next || has set q)) → left later n + 1 ≡ left set n
less-left set later next zero low nay put = absurd (omega (arith, low))
less-left set later next (suc n) low nay put = elim (cases_eq n next) [
  | inl same ↦
      let here : has later n ≡ true = put n ∙ ap (λ b. b || has set n) (eq-eqb n next same) in
      let was : has set n ≡ false = ap (has set) same ∙ nay in
      let rest : left later n ≡ left set n = same-left set later n (λ q q_low. put q ∙ ap (λ b. b || has set q) (ne_eqb q next (λ e. omega (arith, q_low, e, same)))) in
      rw (here, was, rest) (omega arith)
  | inr other ↦
      let here : has later n ≡ has set n = put n ∙ ap (λ b. b || has set n) (ne_eqb n next other) in
      let rest = less-left set later next n (omega (arith, low, other)) nay put in
      rw here (omega (arith, rest))
]
