-- A typed instruction leads to typed instructions.
use Rattle.mv_soundness.proofs.Typing.Common.{◌≡◌, ℕ, zero, suc, ◌+◌, ◌-◌, ◌<◌, ◌≤◌, true, List, [], ◌∷◌, length, refl, ap, subst, ◌∙◌, arith, ◌++◌, Some, false, take}
use Rattle.mv_soundness.proofs.Typing.Common.{drop, sym, ◌⊎◌, inl, inr, ltb-true, lt-ltb, and_from, eq-eqb, false_from_ne_true, same_Some, list_all, list_any}
use Rattle.mv_soundness.proofs.Typing.Common.{IsTrue, ◌==◌, slice_get, nat_le, nat_lt, ◌||◌, slice_range, ends_block, successors, Module, FunctionDefinition, Instruction, Ret, BrTrue}
use Rattle.mv_soundness.proofs.Typing.Common.{BrFalse, Branch, Abort, instruction_in, local_count, IsAscending, ends_well, BasicBlock, starts_from, instruction_fits, all_at, Types}
use Rattle.mv_soundness.proofs.Typing.Common.{TypesAt, function_is_typed, types_through, Advance}
use Rattle.mv_cfg.proofs.Beginnings.{starts_from-ascending}
use Rattle.mv_cfg.specs.Blocks.{blocks, may_be_last}
use Rattle.mv_move_types.specs.Flow.{targets}
use Rattle.mv_type_rules.specs.{TypeRules.types_after, TypesHold.block_is_typed}
use Rattle.mv_soundness.proofs.Typing.Facts.{AllAt}
use Rattle.mv_soundness.proofs.Typing.FlowFacts.{range_split, through_step, through_apart, through_join, through_one, Among, rising_bounds, targets_begin, ended_begin, BlockFacts}
use Rattle.mv_soundness.proofs.Typing.FlowFacts.{block_facts, begins_block, next_inside}
use Rattle.mv_soundness.proofs.Lists.{below-or-at}
use Rattle.mv_bound_rules.proofs.Entries.{element_at}
use Rattle.mv_borrow_graph.specs.Laws.BlocksThere.{empty_end}
use Rattle.std.proofs.lemmas.Map.Keys.{any_passes_from_place}

-- the last instruction
last_is : (code : List Instruction) (k : ℕ) (c : Instruction) → ends_well code ≡ true → slice_get code k ≡ Some c → k + 1 ≡ length code → may_be_last c ≡ true
last_is (x ∷ []) zero c h e l = subst (λ (z : Instruction). may_be_last z ≡ true) (same_Some x c e) h
last_is (x ∷ y ∷ code) (suc k) c h e l = last_is (y ∷ code) k c h e (omega (arith, l))
last_is code k c h e l = absurd (grind arith)

module _ (m : Module) (d : FunctionDefinition) (typed : IsTrue (function_is_typed m d)) (ends : IsTrue (ends_well d.code))
    (inside : IsTrue (list_all (instruction_in m (local_count m d) (length d.code)) d.code))
    (fits : IsTrue (list_all (instruction_fits m.version) d.code)) where
  abbrev starts : List ℕ
  starts = starts_from d.code 0 true d.code

  rising : IsAscending 0 (length d.code) starts
  rising = starts_from-ascending d.code 0 (length d.code) true d.code (omega arith)

  -- places in the code at which blocks begin
  abbrev AllBegin : List ℕ → Type 0
  AllBegin [] = Unit {0}
  AllBegin (t ∷ ts) = Among t starts × AllBegin ts

  -- a block's beginning is typed by no operands
  begin_typed : (t : ℕ) → Among t starts → TypesAt m d t []
  begin_typed t a =
      let b = begins_block d.code starts t a in
      let f = block_facts d.code starts 0 b.0 b.1 rising b.2 in
      record {
        block = b.1;
        place = b.0;
        is_block = b.2;
        not_before = omega (arith, b.3);
        not_behind = omega (arith, f.in_order, b.3);
        carried = let none : t - b.1.first ≡ 0 = omega (arith, b.3) in subst (λ (n : ℕ). types_through m d (take n (drop b.1.first d.code)) [] ≡ Some []) (sym none) refl;
      }

  all_begin : (ts : List ℕ) → AllBegin ts → AllAt m d [] ts × (list_all (λ t. nat_lt t (length d.code)) ts ≡ true)
  all_begin [] a = (tt, refl)
  all_begin (t ∷ ts) a =
      let rest = all_begin ts a.1 in
      let bounds = rising_bounds 0 (length d.code) t starts rising a.0 in
      ((begin_typed t a.0, rest.0), and_from _ _ (lt-ltb t (length d.code) bounds.1) rest.1)

  -- where a block's last instruction leads
  last_leads : (at : ℕ) (c : Instruction) → slice_get d.code at ≡ Some c → (at + 1 ≡ length d.code) ⊎ Among (at + 1) starts → AllBegin (successors at c)
  last_leads at c e next = by_case c (all_at (instruction_in m (local_count m d) (length d.code)) d.code at c inside e) (λ t p. target t p) beyond
    where
      target : (t : ℕ) → list_any (λ x. x == t) (targets c) ≡ true → t < length d.code → Among t starts
      target t p l = targets_begin d.code 0 t true d.code (any_passes_from_place (λ x. list_any (λ y. y == t) (targets x)) d.code at c e p) (omega arith) (omega (arith, l))

      beyond : may_be_last c ≡ false → Among (at + 1) starts
      beyond not_last = elim next [ inl p ↦ let last = last_is d.code at c ends e p in absurd cc | inr a ↦ a ]

      first_or_rest : (t : ℕ) → ((t == t) || false) ≡ true
      first_or_rest t = ap (λ b. b || false) (eq-eqb t t refl)

      by_case : (c : Instruction) → instruction_in m (local_count m d) (length d.code) c ≡ true → ((t : ℕ) → list_any (λ x. x == t) (targets c) ≡ true → t < length d.code → Among t starts) →
          (may_be_last c ≡ false → Among (at + 1) starts) → AllBegin (successors at c)
      by_case (BrTrue t) i to_target beyond = (to_target t (first_or_rest t) (ltb-true t (length d.code) i), (beyond refl, tt))
      by_case (BrFalse t) i to_target beyond = (to_target t (first_or_rest t) (ltb-true t (length d.code) i), (beyond refl, tt))
      by_case (Branch t) i to_target beyond = (to_target t (first_or_rest t) (ltb-true t (length d.code) i), tt)
      by_case Ret i to_target beyond = tt
      by_case Abort i to_target beyond = tt
      by_case _ i to_target beyond = (beyond refl, tt)

  -- the function's beginning
  pub start_typed : TypesAt m d 0 []
  unfolding Among
  start_typed = begin_typed 0 (first_start d.code ends)
    where
      first_start : (code : List Instruction) → ends_well code ≡ true → Among 0 (starts_from d.code 0 true code)
      first_start [] h = absurd cc
      first_start (c ∷ code) h = inl refl

  -- a typed instruction and what comes after it
  pub advances : (at : ℕ) (types : Types) → TypesAt m d at types → Advance m d at types
  advances at types t =
      let b : BasicBlock = t.block in
      let f = block_facts d.code starts 0 t.place b rising t.is_block in
      let low : b.first ≤ at = t.not_before in
      let high : at ≤ b.last = t.not_behind in
      let short : b.last < length d.code = f.inside in
      let c = element_at d.code at (omega (arith, high, short)) in
      let whole = range_split d.code b.first at (b.last + 1) c.0 low (omega (arith, high)) c.1 in
      let front = range_split d.code b.first at (at + 1) c.0 low (omega arith) c.1 in
      let front_is : slice_range d.code b.first (at + 1) ≡ slice_range d.code b.first at ++ c.0 ∷ [] =
      front.1 ∙ ap (λ (xs : List Instruction). slice_range d.code b.first at ++ c.0 ∷ xs) (front.2 refl) in
      let block_typed : block_is_typed m d b ≡ true = all_at (block_is_typed m d) (blocks d.code) t.place b typed t.is_block in
      let all = empty_end (types_through m d (slice_range d.code b.first (b.last + 1)) []) block_typed in
      let all_parts : types_through m d (slice_range d.code b.first at ++ c.0 ∷ whole.0) [] ≡ Some [] = subst (λ (xs : List Instruction). types_through m d xs [] ≡ Some []) whole.1 all in
      let parts = through_apart m d (slice_range d.code b.first at) (c.0 ∷ whole.0) [] [] all_parts in
      let same : parts.0 ≡ types = same_Some parts.0 types (sym parts.1 ∙ t.carried) in
      let step = through_step m d c.0 whole.0 types [] (subst (λ (x : Types). types_through m d (c.0 ∷ whole.0) x ≡ Some []) same parts.2) in
      let fit : instruction_fits m.version c.0 ≡ true = all_at (instruction_fits m.version) d.code at c.0 fits c.1 in
      by_place b f c.0 step.0 c.1 step.1 step.2 fit
      (λ inner. record {
        block = b;
        place = t.place;
        is_block = t.is_block;
        not_before = omega (arith, low);
        not_behind = omega (arith, inner);
        carried = subst (λ (xs : List Instruction). types_through m d xs [] ≡ Some step.0) (sym front_is)
            (through_join m d (slice_range d.code b.first at) (c.0 ∷ []) [] types step.0 t.carried (through_one m d c.0 types step.0 step.1 step.2));
      })
      (λ last. let none : whole.0 ≡ [] = whole.2 (omega (arith, last)) in
      same_Some step.0 [] (subst (λ (xs : List Instruction). types_through m d xs step.0 ≡ Some []) none step.3))
      (λ inner h. f.alone (at + 1) (omega (arith, low)) (omega (arith, inner)) (ended_begin d.code 0 at (at + 1) true c.0 d.code c.1 h (omega (arith, inner, short)) (omega arith)))
      (below-or-at at b.last high)
    where
      by_place : (b : BasicBlock) → BlockFacts d.code starts 0 b → (c : Instruction) (after : Types) → slice_get d.code at ≡ Some c
          → types_after m d c types ≡ Some after → nat_le (length after) 128 ≡ true → instruction_fits m.version c ≡ true
          → (at < b.last → TypesAt m d (at + 1) after) → (at ≡ b.last → after ≡ []) → (at < b.last → ends_block c ≡ true → ⊥)
          → (at < b.last) ⊎ (at ≡ b.last) → Advance m d at types
      by_place b f c after e rule small fit inner last within (inl p) =
          let shut : ends_block c ≡ false = false_from_ne_true (ends_block c) (within p) in
          let one : successors at c ≡ (at + 1) ∷ [] = next_inside at c shut in
          let short : at + 1 < length d.code = omega (arith, p, f.inside) in
          record {
            instruction = c;
            after = after;
            is_there = e;
            rule = rule;
            leads = subst (λ (ts : List ℕ). AllAt m d after ts) (sym one) (inner p, tt);
            inside = subst (λ (ts : List ℕ). list_all (λ t. nat_lt t (length d.code)) ts ≡ true) (sym one) (and_from _ _ (lt-ltb (at + 1) (length d.code) short) refl);
            fits = fit;
          }
      by_place b f c after e rule small fit inner last within (inr p) =
          let ends_here : (at + 1 ≡ length d.code) ⊎ Among (at + 1) starts = subst (λ (n : ℕ). (n + 1 ≡ length d.code) ⊎ Among (n + 1) starts) (sym p) f.ends in
          let all = all_begin (successors at c) (last_leads at c e ends_here) in
          record {
            instruction = c;
            after = after;
            is_there = e;
            rule = rule;
            leads = subst (λ (ts : Types). AllAt m d ts (successors at c)) (sym (last p)) all.0;
            inside = all.1;
            fits = fit;
          }
