-- What follows of a search by the laws of its domain: its flow is the least closed one, where a need ends it there is none, and where a limit does, a state is
-- too large or 257 rise.
use Rattle.std.proofs.Common.{◌≡◌, ℕ, suc, ◌<◌, Bool, true, false, List, [], ◌∷◌, length, get_or, set, replicate, Option, Some, None, Contains, All}
use Rattle.std.proofs.Common.{◌⊎◌, ⊎_elim, inl, inr, refl, sym, ap, ◌∙◌, subst, arith, slice_get}
use Rattle.std.proofs.lemmas.Bool.{cases_eq}
use Rattle.std.proofs.lemmas.List.{length-set, length-replicate}
use Rattle.std.proofs.lemmas.List.Elements.{Contains-get_or}
use Rattle.std.proofs.lemmas.Option.{slice_get_within}
use Rattle.mv_bound_rules.specs.Times.{times}
use Rattle.mv_bound_rules.proofs.TimesLemmas.{is_one, is_none}
use Rattle.mv_cfg.specs.declared.Block.{Block}
use Rattle.mv_cfg.specs.declared.Cfg.{Cfg}
use Rattle.mv_cfg.specs.Graph.{IsBlock, HasEdge, IsReached, at_entry, along, IsGraph}
use Rattle.mv_lattice.specs.Laws.{IsLawful}
use Rattle.mv_lattice.specs.Order.{Order}
use Rattle.mv_lattice.specs.Flow.{IsAt, IsStated, IsFlow, IsClosed, IsFlowBelow, IsRisen, through}
use Rattle.mv_lattice.specs.Search.{Search, resting, IsSameAt, Raises, FlowsInto, stays, rises, IsNext, IsVisit}
use Rattle.mv_lattice.specs.Search.{Reaches, begins, goes_on, EndsWith, MeetsLimit, large_start, too_often, too_large, MeetsNeed, need}
use Rattle.mv_lattice.specs.Work.{HasLarge, HasChain, AllStated, IsLeastFlow, search_of}
use Rattle.mv_lattice.proofs.Rises.{set_same, set_other, replicate_at, no_longer, contains_or_not, waits_or_not, through_keeps, through_monotone, risen_start, risen_more, risen_higher}
use Rattle.mv_lattice.proofs.Searches.{raised_state, raised_above, raised_begins, raised_over, raised_least}

module _ {S : Type 0} (o : Order S) (g : Cfg) (start : S) where
  abbrev Begins : S → Type 0
  Begins s = o.is_state s × o.may_begin s

  -- the block carries s to a state which what is stated of each successor is above
  abbrev IsStable : List (Option S) → Block → S → Type 0
  IsStable flow b s = (t : S) × ((through o.steps b s ≡ Some t) × ((n : ℕ) → Contains b.successors.items n → (u : S) × (IsStated flow n u × o.below t u)))

  -- what holds wherever a search comes to, after these visits
  record Holds (visited : List ℕ) (x : Search S) : Type 0 where
    entries : length x.flow ≡ length g.blocks.items
    states : AllStated o.is_state x.flow
    may_begin : AllStated o.may_begin x.flow
    small : AllStated o.is_small x.flow
    reached : (k : ℕ) (s : S) → IsStated x.flow k s → IsReached g k
    entry : (s : S) × (IsStated x.flow 0 s × o.below start s)
    stable : (k : ℕ) (b : Block) (s : S) → IsBlock g k b → IsStated x.flow k s → (IsAt x.waiting k true → ⊥) → IsStable x.flow b s
    active : (k : ℕ) → IsAt x.waiting k true → (s : S) × IsStated x.flow k s
    unseen : (k : ℕ) → IsAt x.flow k None → times k visited ≡ 0
    waits : (k : ℕ) (s : S) → IsStated x.flow k s → IsAt x.waiting k true → IsRisen Begins o.below (times k visited) s
    rests : (k : ℕ) (s : S) → IsStated x.flow k s → (IsAt x.waiting k true → ⊥) → (m : ℕ) × ((times k visited ≡ suc m) × IsRisen Begins o.below m s)
    least : (flow : List (Option S)) → IsFlow o g flow → IsClosed o g start flow → IsFlowBelow o.below x.flow flow

-- a list in which the first alone is another
first_is : {A : Type 0} (n : ℕ) (x y : A) → 0 < n → slice_get (set (replicate n x) 0 y) 0 ≡ Some y
first_is n x y some = set_same (replicate n x) 0 y (omega (arith, length-replicate n x, some))

first_alone : {A : Type 0} (n k : ℕ) (x y z : A) → (x ≡ z → ⊥) → slice_get (set (replicate n x) 0 y) k ≡ Some z → k ≡ 0
first_alone n k x y z other e = ⊎_elim (λ is. is) (λ no. absurd (other (replicate_at n k x z (sym (set_other (replicate n x) 0 k y no) ∙ e)))) (cases_eq k 0)

module _ {S : Type 0} {o : Order S} (laws : IsLawful o) (g : Cfg) (graph : IsGraph g o.size) (known : o.is_graph g)
    (start : S) (valid : o.is_state start) (may : o.may_begin start) where
  abbrev P : S → Type 0
  P s = o.is_state s × o.may_begin s

  abbrev At : List ℕ → Search S → Type 0
  At visited x = Holds o g start visited x

  -- ---- where the search begins

  abbrev flow0 : List (Option S)
  flow0 = set (replicate (length g.blocks.items) None) 0 (Some start)

  abbrev waiting0 : List Bool
  waiting0 = set (replicate (length g.blocks.items) false) 0 true

  start_at : (k : ℕ) (s : S) → IsStated flow0 k s → (k ≡ 0) × (start ≡ s)
  start_at k s e =
      let is : k ≡ 0 = first_alone (length g.blocks.items) k None (Some start) (Some s) (λ no. cc) e in
      let here : slice_get flow0 0 ≡ Some (Some s) = subst (λ i. slice_get flow0 i ≡ Some (Some s)) is e in
      let there = first_is (length g.blocks.items) None (Some start) graph.has_entry in
      (is, cc (here, there))

  start_waits : (k : ℕ) (s : S) → IsStated flow0 k s → IsAt waiting0 k true
  start_waits k s e = subst (λ i. IsAt waiting0 i true) (sym (start_at k s e).0) (first_is (length g.blocks.items) false true graph.has_entry)

  at_first : o.is_small start → At [] (search_of flow0 waiting0)
  at_first little = record {
    entries = length-set (replicate (length g.blocks.items) None) 0 (Some start) ∙ length-replicate (length g.blocks.items) None;
    states = λ k s e. subst o.is_state (start_at k s e).1 valid;
    may_begin = λ k s e. subst o.may_begin (start_at k s e).1 may;
    small = λ k s e. subst o.is_small (start_at k s e).1 little;
    reached = λ k s e. subst (IsReached g) (sym (start_at k s e).0) at_entry;
    entry = (start, (first_is (length g.blocks.items) None (Some start) graph.has_entry, laws.reflexive start valid));
    stable = λ k b s block e rest. absurd (rest (start_waits k s e));
    active = λ k w.
        let is : k ≡ 0 = first_alone (length g.blocks.items) k false true true (λ no. cc) w in
        (start, subst (λ i. IsStated flow0 i start) (sym is) (first_is (length g.blocks.items) None (Some start) graph.has_entry));
    unseen = λ k e. refl;
    waits = λ k s e w. risen_start P o.below s (subst o.is_state (start_at k s e).1 valid, subst o.may_begin (start_at k s e).1 may);
    rests = λ k s e rest. absurd (rest (start_waits k s e));
    least = λ flow is closed k s u e eu.
        let at = start_at k s e in
        subst (λ z. o.below z u) at.1 (closed.entry u (subst (λ i. IsStated flow i u) at.0 eu));
  }

  -- ---- a need that fails

  -- in a closed flow above the states so far the block carries its state on, and what it makes of theirs is below what it makes of that
  carried_below : (visited : List ℕ) (x : Search S) → At visited x → (flow : List (Option S)) → IsFlow o g flow → IsClosed o g start flow
      → (k : ℕ) (b : Block) (s : S) → IsBlock g k b → IsStated x.flow k s
      → (t w : S) × ((through o.steps b s ≡ Some t) × (o.is_state w × (o.below t w × All (λ n. (u : S) → IsStated flow n u → o.below w u) b.successors.items)))
  carried_below visited x at flow is closed k b s block stated =
      let high = is.stated k (at.reached k s stated) in
      let high_state = is.states k high.0 high.1 in
      let out = closed.closed k b high.0 block high.1 in
      let low = through_monotone laws b s high.0 out.0 (graph.starts k b block) (graph.ends k b block) (at.states k s stated) high_state (at.least flow is closed k s high.0 stated high.1) out.1.0 in
      (low.0, out.0, (low.1.0, (through_keeps laws b high.0 out.0 (graph.starts k b block) (graph.ends k b block) high_state out.1.0, (low.1.1, out.1.1))))

  -- ---- one visit more

  module _ (visited : List ℕ) (k : ℕ) (x y : Search S) (at : At visited x) (next : IsNext x k) (visit : IsVisit o g k (resting k x) y) where
    abbrev b : Block
    b = visit.makes.block

    abbrev s : S
    s = visit.makes.state

    abbrev t : S
    t = visit.out

    block : IsBlock g k b
    block = visit.makes.is_block

    here : IsStated x.flow k s
    here = visit.makes.stated

    out : through o.steps b s ≡ Some t
    out = visit.makes.comes_out

    t_state : o.is_state t
    t_state = through_keeps laws b s t (graph.starts k b block) (graph.ends k b block) (at.states k s here) out

    successor : (n : ℕ) → HasEdge g k n → Contains b.successors.items n
    successor n edge =
        let there = edge.1 in
        let is = block in
        let same : edge.0 ≡ b = cc (there, is) in
        subst (λ (z : Block). Contains z.successors.items n) same edge.2

    t_begins : (n : ℕ) → HasEdge g k n → o.may_begin t
    t_begins n edge = laws.begins g k n b s t known block (successor n edge) (at.states k s here) (at.may_begin k s here) out

    -- at block n nothing has changed, or t has raised its state
    data Turns (n : ℕ) : Type 0 where
      same_as : IsSameAt n (resting k x) y → Turns n
      raised : (old : Option S) (u : S) → HasEdge g k n → IsAt x.flow n old → Raises o t old u → o.is_small u → IsStated y.flow n u → IsAt y.waiting n true → Turns n

    flowed : (n : ℕ) → HasEdge g k n → FlowsInto o t n (resting k x) y → Turns n
    flowed n edge (stays r is above same) = same_as same
    flowed n edge (rises old u is raises little now waits) = raised old u edge is raises little now waits

    turns : (n : ℕ) → Turns n
    turns n = ⊎_elim
        (λ h. let edge : HasEdge g k n = (b, block, h) in flowed n edge (visit.flows.inside n edge))
        (λ no. same_as (visit.flows.outside n (λ edge. no (successor n edge))))
        (contains_or_not b.successors.items n)

    -- the old state at block n
    old_states : (n : ℕ) (old : Option S) → IsAt x.flow n old → (r : S) → old ≡ Some r → o.is_state r
    old_states n old is r e = at.states n r (is ∙ ap Some e)

    higher : (n : ℕ) (r : S) → IsStated x.flow n r → (u : S) × (IsStated y.flow n u × o.below r u)
    higher n r e = by_turn (turns n)
      where
        by_turn : Turns n → (u : S) × (IsStated y.flow n u × o.below r u)
        by_turn (same_as same) = (r, (same.0 ∙ e, laws.reflexive r (at.states n r e)))
        by_turn (raised old u edge is raises little now waits) =
            let old_is : old ≡ Some r = cc (is, e) in
            (u, (now, (raised_over laws t t_state old r u old_is (at.states n r e) raises).0))

    above : (n : ℕ) → Contains b.successors.items n → (u : S) × (IsStated y.flow n u × o.below t u)
    above n h = by_flow (visit.flows.inside n (b, block, h))
      where
        by_flow : FlowsInto o t n (resting k x) y → (u : S) × (IsStated y.flow n u × o.below t u)
        by_flow (stays r is up same) = (r, (same.0 ∙ is, up))
        by_flow (rises old u is raises little now waits) = (u, (now, raised_above laws t t_state old u (old_states n old is) raises))

    -- what each stated state has and each that is raised gets, each has that is stated then
    kept : (Q : ℕ → S → Type 0) → ((n : ℕ) (r : S) → IsStated x.flow n r → Q n r)
        → ((n : ℕ) (old : Option S) (u : S) → HasEdge g k n → IsAt x.flow n old → Raises o t old u → o.is_small u → Q n u) → (n : ℕ) (r : S) → IsStated y.flow n r → Q n r
    kept Q before new n r e = by_turn (turns n)
      where
        by_turn : Turns n → Q n r
        by_turn (same_as same) = before n r (sym same.0 ∙ e)
        by_turn (raised old u edge is raises little now waits) = let u_is : u ≡ r = cc (now, e) in subst (Q n) u_is (new n old u edge is raises little)

    new_states : AllStated o.is_state y.flow
    new_states = kept (λ n r. o.is_state r) at.states (λ n old u edge is raises little. raised_state laws t t_state old u (old_states n old is) raises)

    new_may_begin : AllStated o.may_begin y.flow
    new_may_begin = kept (λ n r. o.may_begin r) at.may_begin
        (λ n old u edge is raises little. raised_begins laws t t_state old u (λ q old_is. (old_states n old is q old_is, at.may_begin n q (is ∙ ap Some old_is))) (t_begins n edge) raises)

    new_small : AllStated o.is_small y.flow
    new_small = kept (λ n r. o.is_small r) at.small (λ n old u edge is raises little. little)

    new_reached : (n : ℕ) (r : S) → IsStated y.flow n r → IsReached g n
    new_reached = kept (λ n r. IsReached g n) at.reached (λ n old u edge is raises little. along (at.reached k s here) edge)

    new_entries : length y.flow ≡ length g.blocks.items
    new_entries =
        let more = no_longer y.flow x.flow (λ n o e. still n o e (turns n)) in
        let fewer = no_longer x.flow y.flow (λ n o e. was n o e (turns n)) in
        omega (arith, more, fewer, at.entries)
      where
        still : (n : ℕ) (o : Option S) → IsAt x.flow n o → Turns n → (p : Option S) × IsAt y.flow n p
        still n o e (same_as same) = (o, same.0 ∙ e)
        still n o e (raised old u edge is raises little now waits) = (Some u, now)

        was : (n : ℕ) (o : Option S) → IsAt y.flow n o → Turns n → (p : Option S) × IsAt x.flow n p
        was n o e (same_as same) = (o, sym same.0 ∙ e)
        was n o e (raised old u edge is raises little now waits) = (old, is)

    -- the marks, and how often a block was visited
    marked : slice_get (set x.waiting k false) k ≡ Some false
    marked = set_same x.waiting k false (slice_get_within x.waiting k true next.waits)

    waited : (n : ℕ) → IsSameAt n (resting k x) y → IsAt y.waiting n true → (n ≡ k → ⊥) × IsAt x.waiting n true
    waited n same w =
        let before : slice_get (set x.waiting k false) n ≡ Some true = sym same.1 ∙ w in
        let other : n ≡ k → ⊥ = λ is.
        let there : slice_get (set x.waiting k false) k ≡ Some true = subst (λ i. slice_get (set x.waiting k false) i ≡ Some true) is before in
        let mark = marked in
        cc (there, mark) in
        (other, sym (set_other x.waiting k n false other) ∙ before)

    rested : (n : ℕ) → (n ≡ k → ⊥) → IsSameAt n (resting k x) y → (IsAt y.waiting n true → ⊥) → IsAt x.waiting n true → ⊥
    rested n other same rest w = rest (same.1 ∙ (set_other x.waiting k n false other ∙ w))

    times_here : times k (k ∷ visited) ≡ suc (times k visited)
    times_here = let one = is_one k k refl in omega (arith, one)

    times_there : (n : ℕ) → (n ≡ k → ⊥) → times n (k ∷ visited) ≡ times n visited
    times_there n other = let none = is_none k n (λ is. other (sym is)) in omega (arith, none)

    new_stable : (n : ℕ) (c : Block) (r : S) → IsBlock g n c → IsStated y.flow n r → (IsAt y.waiting n true → ⊥) → IsStable o g start y.flow c r
    new_stable n c r is_c e rest = by_turn (turns n)
      where
        by_turn : Turns n → IsStable o g start y.flow c r
        by_turn (raised old u edge is raises little now waits) = absurd (rest waits)
        by_turn (same_as same) = ⊎_elim
            (λ (is : n ≡ k).
            let block' : IsBlock g k c = subst (λ i. IsBlock g i c) is is_c in
            let here' : IsStated x.flow k r = subst (λ i. IsStated x.flow i r) is (sym same.0 ∙ e) in
            let is_block = block in
            let is_here = here in
            let c_is : b ≡ c = cc (is_block, block') in
            let r_is : s ≡ r = cc (is_here, here') in
            subst (λ z. IsStable o g start y.flow z r) c_is
            (subst (λ z. IsStable o g start y.flow b z) r_is (t, (out, above))))
            (λ (other : n ≡ k → ⊥).
            let stated : IsStated x.flow n r = sym same.0 ∙ e in
            let was = at.stable n c r is_c stated (rested n other same rest) in
            let o_state : o.is_state was.0 = through_keeps laws c r was.0 (graph.starts n c is_c) (graph.ends n c is_c) (at.states n r stated) was.1.0 in (
              was.0,
              (
                was.1.0,
                λ i h.
                    let low = was.1.1 i h in
                    let up = higher i low.0 low.1.0 in
                    (up.0, (up.1.0, laws.transitive was.0 low.0 up.0 o_state (at.states i low.0 low.1.0) (new_states i up.0 up.1.0) low.1.1 up.1.1)),
              ),
            ))
            (cases_eq n k)

    new_active : (n : ℕ) → IsAt y.waiting n true → (r : S) × IsStated y.flow n r
    new_active n w = by_turn (turns n)
      where
        by_turn : Turns n → (r : S) × IsStated y.flow n r
        by_turn (same_as same) = let was = at.active n (waited n same w).1 in (was.0, same.0 ∙ was.1)
        by_turn (raised old u edge is raises little now waits) = (u, now)

    new_unseen : (n : ℕ) → IsAt y.flow n None → times n (k ∷ visited) ≡ 0
    new_unseen n e = by_turn (turns n)
      where
        by_turn : Turns n → times n (k ∷ visited) ≡ 0
        by_turn (same_as same) =
            let none : IsAt x.flow n None = sym same.0 ∙ e in
            let other : n ≡ k → ⊥ = λ is. let there : IsAt x.flow k None = subst (λ i. IsAt x.flow i None) is none in let some = here in cc (there, some) in
            times_there n other ∙ at.unseen n none
        by_turn (raised old u edge is raises little now waits) = cc (now, e)

    abbrev Risen : ℕ → S → Type 0
    Risen n r = IsRisen P o.below (times n (k ∷ visited)) r

    -- how often what t raised has risen
    raised_risen : (n : ℕ) (old : Option S) (u : S) → IsAt x.flow n old → Raises o t old u → P u → Risen n u
    raised_risen n None u is raises p =
        let other : n ≡ k → ⊥ = λ same. let there : IsAt x.flow k None = subst (λ i. IsAt x.flow i None) same is in let some = here in cc (there, some) in
        subst (λ m. IsRisen P o.below m u) (sym (times_there n other ∙ at.unseen n is)) (risen_start P o.below u p)
    raised_risen n (Some q) u is raises p =
        let q_state = at.states n q is in
        let over = raised_over laws t t_state (Some q) q u refl q_state raises in
        let begin = at.may_begin n q is in
        ⊎_elim
        (λ (same : n ≡ k).
        let risen : IsRisen P o.below (times k visited) q = at.waits k q (subst (λ i. IsStated x.flow i q) same is) next.waits in
        subst (λ i. Risen i u) (sym same) (subst (λ m. IsRisen P o.below m u) (sym times_here) (risen_more P o.below (times k visited) q u p risen over.0 over.1)))
        (λ (other : n ≡ k → ⊥). ⊎_elim
        (λ (w : IsAt x.waiting n true).
        subst (λ m. IsRisen P o.below m u) (sym (times_there n other))
        (risen_higher P o.below (λ a c d pa pc pd. laws.transitive a c d pa.0 pc.0 pd.0) (times n visited) q u (q_state, begin) p (at.waits n q is w) over.0))
        (λ (rest : IsAt x.waiting n true → ⊥).
        let was = at.rests n q is rest in
        subst (λ m. IsRisen P o.below m u) (sym (times_there n other ∙ was.1.0)) (risen_more P o.below was.0 q u p was.1.1 over.0 over.1))
        (waits_or_not x.waiting n))
        (cases_eq n k)

    new_waits : (n : ℕ) (r : S) → IsStated y.flow n r → IsAt y.waiting n true → Risen n r
    new_waits n r e w = by_turn (turns n)
      where
        by_turn : Turns n → Risen n r
        by_turn (same_as same) =
            let was = waited n same w in
            subst (λ m. IsRisen P o.below m r) (sym (times_there n was.0)) (at.waits n r (sym same.0 ∙ e) was.1)
        by_turn (raised old u edge is raises little now waits) =
            let u_is : u ≡ r = cc (now, e) in
            subst (Risen n) u_is (raised_risen n old u is raises (new_states n u now, new_may_begin n u now))

    new_rests : (n : ℕ) (r : S) → IsStated y.flow n r → (IsAt y.waiting n true → ⊥) → (m : ℕ) × ((times n (k ∷ visited) ≡ suc m) × IsRisen P o.below m r)
    new_rests n r e rest = by_turn (turns n)
      where
        by_turn : Turns n → (m : ℕ) × ((times n (k ∷ visited) ≡ suc m) × IsRisen P o.below m r)
        by_turn (raised old u edge is raises little now waits) = absurd (rest waits)
        by_turn (same_as same) = ⊎_elim
            (λ (is : n ≡ k).
            let here' : IsStated x.flow k r = subst (λ i. IsStated x.flow i r) is (sym same.0 ∙ e) in
            subst (λ i. (m : ℕ) × ((times i (k ∷ visited) ≡ suc m) × IsRisen P o.below m r)) (sym is) (times k visited, (times_here, at.waits k r here' next.waits)))
            (λ (other : n ≡ k → ⊥). let was = at.rests n r (sym same.0 ∙ e) (rested n other same rest) in (was.0, (times_there n other ∙ was.1.0, was.1.1)))
            (cases_eq n k)

    new_least : (flow : List (Option S)) → IsFlow o g flow → IsClosed o g start flow → IsFlowBelow o.below y.flow flow
    new_least flow is closed n r v e ev = kept (λ i z. (w : S) → IsStated flow i w → o.below z w) (λ i z ez w ew. at.least flow is closed i z w ez ew) new n r e v ev
      where
        new : (i : ℕ) (old : Option S) (u : S) → HasEdge g k i → IsAt x.flow i old → Raises o t old u → o.is_small u → (w : S) → IsStated flow i w → o.below u w
        new i old u edge was raises little w ew =
            let on = carried_below visited x at flow is closed k b s block here in
            let now_out = out in
            let carried = on.2.0 in
            let t_is : on.0 ≡ t = cc (carried, now_out) in
            let w_state = is.states i w ew in
            let to = successor i edge in
            let under = subst (λ j. (z : S) → IsStated flow j z → o.below on.1 z) to.2 (on.2.1.1.1 to.0 i to.1) w ew in
            let t_under : o.below t w = laws.transitive t on.1 w t_state on.2.1.0 w_state (subst (λ z. o.below z on.1) t_is on.2.1.1.0) under in
            raised_least laws t t_state old u w (λ q old_is. (old_states i old was q old_is, at.least flow is closed i q w (was ∙ ap Some old_is) ew)) w_state t_under raises

    at_next : At (k ∷ visited) y
    at_next = record {
      entries = new_entries;
      states = new_states;
      may_begin = new_may_begin;
      small = new_small;
      reached = new_reached;
      entry =
          let was = at.entry in
          let up = higher 0 was.0 was.1.0 in
          (up.0, (up.1.0, laws.transitive start was.0 up.0 valid (at.states 0 was.0 was.1.0) (new_states 0 up.0 up.1.0) was.1.1 up.1.1));
      stable = new_stable;
      active = new_active;
      unseen = new_unseen;
      waits = new_waits;
      rests = new_rests;
      least = new_least;
    }

  -- ---- what holds where a search comes to

  holds : {visited : List ℕ} {x : Search S} → Reaches o g start visited x → At visited x
  holds (begins little) = at_first little
  holds (goes_on {visited} {k} {x} {y} before next few visit) = at_next visited k x y (holds before) next visit

  pub reached_states : (visited : List ℕ) (x : Search S) → Reaches o g start visited x → AllStated o.is_state x.flow
  reached_states visited x reached = (holds reached).states

  pub reached_active : (visited : List ℕ) (x : Search S) → Reaches o g start visited x → (k : ℕ) → IsAt x.waiting k true → (s : S) × IsStated x.flow k s
  reached_active visited x reached = (holds reached).active

  pub reached_entries : (visited : List ℕ) (x : Search S) → Reaches o g start visited x → length x.flow ≡ length g.blocks.items
  reached_entries visited x reached = (holds reached).entries

  -- ---- what a search ends with

  module _ (flow : List (Option S)) (at : (visited : List ℕ) × ((waiting : List Bool) × (At visited (search_of flow waiting) × ((k : ℕ) → IsAt waiting k true → ⊥)))) where
    abbrev last : At at.0 (search_of flow at.1.0)
    last = at.1.1.0

    stated_there : (k : ℕ) → IsReached g k → (s : S) × IsStated flow k s
    stated_there _ at_entry = (last.entry.0, last.entry.1.0)
    stated_there _ (along {k} {n} before edge) =
        let s = stated_there k before in
        let out = last.stable k edge.0 s.0 edge.1 s.1 (at.1.1.1 k) in
        let up = out.1.1 n edge.2 in
        (up.0, up.1.0)

    ended : IsLeastFlow o g start flow
    ended = record {
      flow_is = record { entries = last.entries; states = last.states; stated = stated_there; reached = last.reached };
      closed = record {
        entry = λ s e. let there = last.entry.1.0 in let same : last.entry.0 ≡ s = cc (there, e) in subst (o.below start) same last.entry.1.1;
        closed = λ k b s block e.
            let out = last.stable k b s block e (at.1.1.1 k) in (
              out.0,
              (
                out.1.0,
                λ i d h u eu.
                    let up = out.1.1 (get_or b.successors.items i d) (Contains-get_or b.successors.items i d h) in
                    let there = up.1.0 in
                    let same : up.0 ≡ u = cc (there, eu) in
                    subst (o.below out.0) same up.1.1,
              ),
            );
      };
      starts = last.may_begin;
      small = last.small;
      least = last.least;
    }

  pub found_is_least : (flow : List (Option S)) → EndsWith o g start flow → IsLeastFlow o g start flow
  found_is_least flow ends =
      subst (IsLeastFlow o g start) ends.stated (ended ends.last.flow (ends.visited, (ends.last.waiting, (holds ends.reached, ends.rests))))

  pub need_refuses : MeetsNeed o g start → (flow : List (Option S)) → IsFlow o g flow → IsClosed o g start flow → ⊥
  need_refuses (need {visited} {k} {x} turn few fails) flow is closed =
      let on = carried_below visited x (holds turn.reached) flow is closed k fails.block fails.state fails.is_block fails.stated in
      let some = on.2.0 in
      let none = fails.comes_out in
      cc (some, none)

  pub limit_is_large : MeetsLimit o g start → HasLarge o ⊎ HasChain o
  limit_is_large (large_start large) = inl (start, (valid, (may, large)))
  limit_is_large (too_often {visited} {k} {x} turn often) =
      let at = holds turn.reached in
      let s = at.active k turn.next.waits in
      inr (s.0, subst (λ m. IsRisen P o.below m s.0) often (at.waits k s.0 s.1 turn.next.waits))
  limit_is_large (too_large {visited} {k} {x} turn few exceeds) =
      let at = holds turn.reached in
      let b = exceeds.makes.block in
      let s = exceeds.makes.state in
      let t = exceeds.out in
      let block = exceeds.makes.is_block in
      let here = exceeds.makes.stated in
      let out = exceeds.makes.comes_out in
      let there = exceeds.edge.1 in
      let same : exceeds.edge.0 ≡ b = cc (there, block) in
      let t_state : o.is_state t = through_keeps laws b s t (graph.starts k b block) (graph.ends k b block) (at.states k s here) out in
      let t_begins : o.may_begin t =
      laws.begins g k exceeds.successor b s t known block (subst (λ (z : Block). Contains z.successors.items exceeds.successor) same exceeds.edge.2) (at.states k s here) (at.may_begin k s here) out in
      let e = exceeds.exceeds in
      let old_states : (q : S) → e.old ≡ Some q → o.is_state q = λ q is. at.states exceeds.successor q (e.at ∙ ap Some is) in
      inl (
        e.new,
        (
          raised_state laws t t_state e.old e.new old_states e.raises,
          (raised_begins laws t t_state e.old e.new (λ q is. (old_states q is, at.may_begin exceeds.successor q (e.at ∙ ap Some is))) t_begins e.raises, e.large),
        ),
      )
