-- What a state raises, what flows into blocks one after the other, and how the code's search goes on.
use Rattle.std.proofs.Common.{◌≡◌, ℕ, ◌+◌, ◌-◌, ◌<◌, ◌≤◌, Bool, true, false, List, [], ◌∷◌, ◌++◌, length, get_or, set, replicate, Option, Some, None, Contains, All}
use Rattle.std.proofs.Common.{⊎_elim, refl, sym, ap, ◌∙◌, subst, arith, slice_get}
use Rattle.std.proofs.lemmas.Bool.{cases_eq}
use Rattle.std.proofs.lemmas.List.Elements.{All-contains, Contains-push, Contains-push_cases, Contains-append_left, Contains-append_right, Contains-append_cases}
use Rattle.std.proofs.lemmas.Option.{slice_get_read, slice_get_within}
use Rattle.mv_bound_rules.specs.Times.{times}
use Rattle.mv_bound_rules.proofs.TimesLemmas.{is_one, is_none}
use Rattle.mv_cfg.specs.declared.Block.{Block}
use Rattle.mv_cfg.specs.declared.Cfg.{Cfg}
use Rattle.mv_cfg.specs.Graph.{IsBlock, HasEdge}
use Rattle.mv_lattice.specs.Flow.{IsAt, IsStated, through}
use Rattle.mv_lattice.specs.Laws.{IsLawful}
use Rattle.mv_lattice.specs.Order.{Order}
use Rattle.mv_lattice.specs.Search.{NoneBefore, Search, resting, IsSameAt, Raises, nothing, lower, FlowsInto, stays, rises, FlowsIntoEach, ExceedsAt, Makes, IsVisit}
use Rattle.mv_lattice.specs.Search.{Exceeds, Reaches, begins, goes_on, IsTurn, EndsWith, MeetsLimit, too_often, too_large, MeetsNeed, need}
use Rattle.mv_lattice.specs.Work.{AllStated, search_of, IsSearch}
use Rattle.mv_lattice.proofs.Rises.{set_same, set_other, replicate_at, contains_or_not}

one_alone : (m n : ℕ) → Contains (m ∷ []) n → m ≡ n
one_alone m n h = ⊎_elim
    (λ (none : Contains [] n). let low : none.0 < 0 = none.1 in absurd (omega (arith, low)))
    (λ is. is)
    (Contains-push_cases [] m n h)

-- the block at a place
pub block_there : (g : Cfg) (k : ℕ) (b : Block) → k < length g.blocks.items → b ≡ get_or g.blocks.items k b → IsBlock g k b
block_there g k b inside is = slice_get_read g.blocks.items (length g.blocks.items) k b refl inside is

-- where no block before k waited, none waits before k and its successors once k was visited
pub rests_before : {S : Type 0} (o : Order S) (g : Cfg) (k least : ℕ) (b : Block) → IsBlock g k b → least ≤ k → All (λ n. least ≤ n) b.successors.items
    → (x y : Search S) → NoneBefore x.waiting k → IsVisit o g k (resting k x) y → NoneBefore y.waiting least
rests_before o g k least b at own each x y rest visit j low =
    (visit.flows.outside j outside).1 ∙ set_other x.waiting k j false (λ same. let n : j ≡ k = same in absurd (omega (arith, n, low, own))) ∙ rest j (omega (arith, low, own))
  where
    outside : HasEdge g k j → ⊥
    outside (c, is, there) =
        let same : c ≡ b = cc (is, at) in
        let over : least ≤ j = All-contains (λ n. least ≤ n) b.successors.items j each (subst (λ (z : Block). Contains z.successors.items j) same there) in
        absurd (omega (arith, over, low))

module _ {S : Type 0} {o : Order S} (laws : IsLawful o) (t : S) (valid : o.is_state t) where
  -- what t raises a state to: it is a state, and above t
  pub raised_state : (old : Option S) (u : S) → ((s : S) → old ≡ Some s → o.is_state s) → Raises o t old u → o.is_state u
  raised_state _ _ states nothing = valid
  raised_state _ _ states (lower {s} above) = (laws.joins s t (states s refl) valid).valid

  pub raised_above : (old : Option S) (u : S) → ((s : S) → old ≡ Some s → o.is_state s) → Raises o t old u → o.below t u
  raised_above _ _ states nothing = laws.reflexive t valid
  raised_above _ _ states (lower {s} above) = (laws.joins s t (states s refl) valid).right

  -- a block may begin with it, where one may with both
  pub raised_begins : (old : Option S) (u : S) → ((s : S) → old ≡ Some s → o.is_state s × o.may_begin s) → o.may_begin t → Raises o t old u → o.may_begin u
  raised_begins _ _ states begin nothing = begin
  raised_begins _ _ states begin (lower {s} above) = let known = states s refl in laws.joins_begin s t known.0 valid known.1 begin

  -- it is above the state that is raised, which isn't above it
  pub raised_over : (old : Option S) (r u : S) → old ≡ Some r → o.is_state r → Raises o t old u → o.below r u × (o.below u r → ⊥)
  raised_over _ r _ is state nothing = cc
  raised_over _ r _ is state (lower {s} above) =
      let same : s ≡ r = cc in
      let there : o.is_state s = subst o.is_state (sym same) state in
      let up = laws.joins s t there valid in
      subst (λ z. o.below z (o.joined s t) × (o.below (o.joined s t) z → ⊥)) same (up.left, λ under. above (laws.transitive t (o.joined s t) s valid up.valid there up.right under))

  -- it is below each state that is above both
  pub raised_least : (old : Option S) (u v : S) → ((s : S) → old ≡ Some s → o.is_state s × o.below s v) → o.is_state v → o.below t v → Raises o t old u → o.below u v
  raised_least _ _ v states high over nothing = over
  raised_least _ _ v states high over (lower {s} above) = let known = states s refl in (laws.joins s t known.0 valid).least v high known.1 over

  -- nothing is raised that is above t
  not_raised : (old : Option S) (s u : S) → old ≡ Some s → o.below t s → Raises o t old u → ⊥
  not_raised _ s _ is above nothing = cc
  not_raised _ s _ is above (lower {s = r} not_above) = not_above (let same : s ≡ r = cc in subst (o.below t) same above)

  flows_first : (n : ℕ) (x y z : Search S) → IsSameAt n x y → FlowsInto o t n y z → FlowsInto o t n x z
  flows_first n x y z same (stays s is above after) = stays s (sym same.0 ∙ is) above (after.0 ∙ same.0, after.1 ∙ same.1)
  flows_first n x y z same (rises old u at raised small is waits) = rises old u (sym same.0 ∙ at) raised small is waits

  flows_last : (n : ℕ) (x y z : Search S) → FlowsInto o t n x y → IsSameAt n y z → FlowsInto o t n x z
  flows_last n x y z (stays s is above before) same = stays s is above (same.0 ∙ before.0, same.1 ∙ before.1)
  flows_last n x y z (rises old u at raised small is waits) same = rises old u at raised small (same.0 ∙ is) (same.1 ∙ waits)

  -- a second time changes nothing
  flows_twice : (n : ℕ) (x y z : Search S) → AllStated o.is_state x.flow → FlowsInto o t n x y → FlowsInto o t n y z → FlowsInto o t n x z
  flows_twice n x y z all first (stays s is above after) = flows_last n x y z first after
  flows_twice n x y z all (stays s is above before) (rises old u at raised small there waits) = flows_first n x y z before (rises old u at raised small there waits)
  flows_twice n x y z all (rises old u at raised small is waits) (rises old' u' at' raised' small' is' waits') =
      let same : old' ≡ Some u = cc (at', is) in
      absurd (not_raised old' u u' same (raised_above old u (λ s e. all n s (at ∙ ap Some e)) raised) raised')

  pub flows_none : (x : Search S) → FlowsIntoEach o (Contains []) t x x
  flows_none x = record {
    inside = λ n h. let low : h.0 < 0 = h.1 in absurd (omega (arith, low));
    outside = λ n no. (refl, refl);
  }

  -- t has flowed into some blocks, and then into one more
  pub flows_more : (xs : List ℕ) (m : ℕ) (x y z : Search S) → AllStated o.is_state x.flow → FlowsIntoEach o (Contains xs) t x y
      → FlowsIntoEach o (Contains (m ∷ [])) t y z
      → FlowsIntoEach o (Contains (xs ++ m ∷ [])) t x z
  flows_more xs m x y z all p q = record {
    inside = λ n h. ⊎_elim
        (λ (is : m ≡ n).
        let here : FlowsInto o t n y z = q.inside n (0, omega arith, is) in
        ⊎_elim (λ old. flows_twice n x y z all (p.inside n old) here) (λ new. flows_first n x y z (p.outside n new) here) (contains_or_not xs n))
        (λ (other : m ≡ n → ⊥).
        let old : Contains xs n = ⊎_elim (λ o. o) (λ is. absurd (other is)) (Contains-push_cases xs m n h) in
        flows_last n x y z (p.inside n old) (q.outside n (λ k. other (one_alone m n k))))
        (cases_eq m n);
    outside = λ n no.
        let first = p.outside n (λ h. no (Contains-append_left xs (m ∷ []) n h)) in
        let last = q.outside n (λ h. no (subst (Contains (xs ++ m ∷ [])) (one_alone m n h) (Contains-push xs m))) in
        (last.0 ∙ first.0, last.1 ∙ first.1);
  }

  -- what is stated afterwards are states
  pub flows_valid : (xs : List ℕ) (x y : Search S) → AllStated o.is_state x.flow → FlowsIntoEach o (Contains xs) t x y → AllStated o.is_state y.flow
  flows_valid xs x y all flows n u e = ⊎_elim
      (λ inside. by_flow (flows.inside n inside))
      (λ outside. all n u (sym (flows.outside n outside).0 ∙ e))
      (contains_or_not xs n)
    where
      by_flow : FlowsInto o t n x y → o.is_state u
      by_flow (stays s is above same) = all n u (sym same.0 ∙ e)
      by_flow (rises old v at raised small is waits) =
          let same : v ≡ u = cc (is, e) in
          subst o.is_state same (raised_state old v (λ s h. all n s (at ∙ ap Some h)) raised)

  -- t has flowed into the blocks after some that have a state above it, and so into all of them
  pub flows_after : (xs ys all : List ℕ) (x y : Search S) → xs ++ ys ≡ all → All (λ n. (s : S) × (IsStated x.flow n s × o.below t s)) xs → FlowsIntoEach o (Contains ys) t x y
      → FlowsIntoEach o (Contains all) t x y
  flows_after xs ys all x y whole above flows = subst (λ ns. FlowsIntoEach o (Contains ns) t x y) whole (record {
    inside = λ n h. ⊎_elim
        (λ after. flows.inside n after)
        (λ no.
        let before : Contains xs n = ⊎_elim (λ here. here) (λ after. absurd (no after)) (Contains-append_cases xs ys n h) in
        let s = All-contains (λ n. (s : S) × (IsStated x.flow n s × o.below t s)) xs n above before in
        stays s.0 s.1.0 s.1.1 (flows.outside n no))
        (contains_or_not ys n);
    outside = λ n no. flows.outside n (λ h. no (Contains-append_right xs ys n h));
  })

  -- what t would raise too high was so before t flowed into other blocks
  pub exceeds_before : (xs : List ℕ) (n : ℕ) (x y : Search S) → AllStated o.is_state x.flow → FlowsIntoEach o (Contains xs) t x y
      → ExceedsAt o t n y.flow → ExceedsAt o t n x.flow
  exceeds_before xs n x y all p e = ⊎_elim
      (λ old. by_flow (p.inside n old))
      (λ new. unchanged (p.outside n new))
      (contains_or_not xs n)
    where
      unchanged : IsSameAt n x y → ExceedsAt o t n x.flow
      unchanged same = record { old = e.old; new = e.new; at = sym same.0 ∙ e.at; raises = e.raises; large = e.large }

      by_flow : FlowsInto o t n x y → ExceedsAt o t n x.flow
      by_flow (stays s is above same) = unchanged same
      by_flow (rises old u at raised small is waits) =
          let at' : slice_get y.flow n ≡ Some e.old = e.at in
          let same : e.old ≡ Some u = cc (at', is) in
          absurd (not_raised e.old u e.new same (raised_above old u (λ s h. all n s (at ∙ ap Some h)) raised) e.raises)

module _ {S : Type 0} (o : Order S) where
  -- what the code joins is a state that t raises the old one to
  pub nothing_raised : (t : S) (old : Option S) (u : S) → old ≡ None → u ≡ t → Raises o t old u
  nothing_raised t old u none same = subst (λ z. Raises o t z u) (sym none) (subst (λ z. Raises o t None z) (sym same) nothing)

  pub state_raised : (s t : S) (old : Option S) (u : S) → old ≡ Some s → (o.below t s → ⊥) → u ≡ o.joined s t → Raises o t old u
  state_raised s t old u some above is = subst (λ z. Raises o t z u) (sym some) (subst (λ z. Raises o t (Some s) z) (sym is) (lower above))

  pub exceeds_at : (t : S) (n : ℕ) (old : Option S) (flow : List (Option S)) → IsAt flow n old → (u : S) × (Raises o t old u × (o.is_small u → ⊥)) → ExceedsAt o t n flow
  exceeds_at t n old flow at h = record { old = old; new = h.0; at = at; raises = h.1.0; large = h.1.1 }

  -- one block: its state stays, or it gets another
  pub flows_stays : (t : S) (n : ℕ) (s : S) (states : List (Option S)) (waiting : List Bool) → IsStated states n s → o.below t s
      → FlowsIntoEach o (Contains (n ∷ [])) t (search_of states waiting) (search_of states waiting)
  flows_stays t n s states waiting is above = record {
    inside = λ k h. stays s (subst (λ i. IsStated states i s) (one_alone n k h) is) above (refl, refl);
    outside = λ k no. (refl, refl);
  }

  pub flows_rises : (t : S) (n : ℕ) (old : Option S) (u : S) (states : List (Option S)) (waiting : List Bool) → n < length states → n < length waiting
      → IsAt states n old → Raises o t old u → o.is_small u
      → FlowsIntoEach o (Contains (n ∷ [])) t (search_of states waiting) (search_of (set states n (Some u)) (set waiting n true))
  flows_rises t n old u states waiting inside marked at raised small = record {
    inside = λ k h. subst (λ i. FlowsInto o t i (search_of states waiting) (search_of (set states n (Some u)) (set waiting n true))) (one_alone n k h)
        (rises old u at raised small (set_same states n (Some u) inside) (set_same waiting n true marked));
    outside = λ k no.
        let other : k ≡ n → ⊥ = λ is. no (0, omega arith, sym is) in
        (set_other states n k (Some u) other, set_other waiting n k true other);
  }

  module _ (g : Cfg) (k : ℕ) (b : Block) (s : S) (block : IsBlock g k b) where
    makes : (flow : List (Option S)) → IsStated flow k s → (made : Option S) → through o.steps b s ≡ made → Makes o g k flow made
    makes flow stated made is = record { block = b; is_block = block; state = s; stated = stated; comes_out = is }

    successor : (n : ℕ) → Contains b.successors.items n → HasEdge g k n
    successor n h = (b, block, h)

    of_successor : (n : ℕ) → HasEdge g k n → Contains b.successors.items n
    of_successor n h =
        let there = h.1 in
        let same : h.0 ≡ b = cc (there, block) in
        subst (λ (z : Block). Contains z.successors.items n) same h.2

    -- the block's visit, by its list of successors
    pub visit_made : (t : S) (x y : Search S) → IsStated x.flow k s → through o.steps b s ≡ Some t
        → FlowsIntoEach o (Contains b.successors.items) t x y → IsVisit o g k x y
    visit_made t x y stated out flows = record {
      out = t;
      makes = makes x.flow stated (Some t) out;
      flows = record {
        inside = λ n h. flows.inside n (of_successor n h);
        outside = λ n no. flows.outside n (λ h. no (successor n h));
      };
    }

    pub visit_exceeds : (t : S) (flow : List (Option S)) → IsStated flow k s → through o.steps b s ≡ Some t → (n : ℕ) → Contains b.successors.items n
        → ExceedsAt o t n flow → Exceeds o g k flow
    visit_exceeds t flow stated out n h e = record { out = t; makes = makes flow stated (Some t) out; successor = n; edge = successor n h; exceeds = e }

    pub visit_fails : (flow : List (Option S)) → IsStated flow k s → through o.steps b s ≡ None → Makes o g k flow None
    visit_fails flow stated out = makes flow stated None out

  module _ (g : Cfg) (start : S) where
    -- the code's search at its start, by what its lists were made of
    pub search_begins : (s : S) (n : ℕ) (states : List (Option S)) (waiting : List Bool) (left : List ℕ) → n ≡ length g.blocks.items → s ≡ start → o.is_small start
        → states ≡ set (replicate n None) 0 (Some s) → waiting ≡ set (replicate n false) 0 true → left ≡ replicate n 256 → IsSearch o g start left states waiting
    search_begins s n states waiting left long same small is marks full =
        let states_are : states ≡ set (replicate (length g.blocks.items) None) 0 (Some start) =
        is ∙ ap (λ m. set (replicate m None) 0 (Some s)) long ∙ ap (λ x. set (replicate (length g.blocks.items) None) 0 (Some x)) same in
        let waiting_is : waiting ≡ set (replicate (length g.blocks.items) false) 0 true = marks ∙ ap (λ m. set (replicate m false) 0 true) long in
        record {
          visited = [];
          reached = subst (λ xs. Reaches o g start [] (search_of xs waiting)) (sym states_are)
              (subst (λ ws. Reaches o g start [] (search_of (set (replicate (length g.blocks.items) None) 0 (Some start)) ws)) (sym waiting_is) (begins small));
          count = λ k l at.
              let l_is : 256 ≡ l = replicate_at n k 256 l (subst (λ ls. IsAt ls k l) full at) in
              omega (arith, l_is);
        }

    module _ (left : List ℕ) (states : List (Option S)) (waiting : List Bool) (has : IsSearch o g start left states waiting)
        (k l : ℕ) (waits : IsAt waiting k true) (first : NoneBefore waiting k) (at : IsAt left k l) where
      next : IsTurn o g start has.visited k (search_of states waiting)
      next = record { reached = has.reached; next = record { waits = waits; first = first } }

      few : 0 < l → times k has.visited < 256
      few some = let all = has.count k l at in omega (arith, all)

      pub turn_over : l ≡ 0 → MeetsLimit o g start
      turn_over none = too_often next (let all = has.count k l at in omega (arith, all))

      module _ (some : 0 < l) where
        pub turn_exceeds : Exceeds o g k states → MeetsLimit o g start
        turn_exceeds e = too_large next (few some) e

        pub turn_fails : Makes o g k states None → MeetsNeed o g start
        turn_fails e = need next (few some) e

        pub turn_done : (new : List (Option S)) (new_waiting : List Bool) → IsVisit o g k (search_of states (set waiting k false)) (search_of new new_waiting)
            → IsSearch o g start (set left k (l - 1)) new new_waiting
        turn_done new new_waiting visit = record {
          visited = k ∷ has.visited;
          reached = goes_on has.reached (next.next) (few some) visit;
          count = λ j m e. ⊎_elim
              (λ (is : j ≡ k).
              let here : slice_get (set left k (l - 1)) k ≡ Some m = subst (λ i. slice_get (set left k (l - 1)) i ≡ Some m) is e in
              let there = set_same left k (l - 1) (slice_get_within left k l at) in
              let m_is : l - 1 ≡ m = cc (here, there) in
              let all = has.count k l at in
              let one = is_one k k refl in
              subst (λ i. times i (k ∷ has.visited) + m ≡ 256) (sym is) (omega (arith, m_is, all, one)))
              (λ (other : j ≡ k → ⊥).
              let all = has.count j m (sym (set_other left k j (l - 1) other) ∙ e) in
              let zero = is_none k j (λ is. other (sym is)) in
              omega (arith, all, zero))
              (cases_eq j k);
        }

    -- the code's search, when nothing waits
    pub search_ends : (left : List ℕ) (states : List (Option S)) (waiting : List Bool)
        → IsSearch o g start left states waiting → NoneBefore waiting (length waiting)
        → EndsWith o g start states
    search_ends left states waiting has rests = record {
      visited = has.visited;
      last = search_of states waiting;
      reached = has.reached;
      stated = refl;
      rests = λ k waits. let rest = rests k (slice_get_within waiting k true waits) in cc (waits, rest);
    }
