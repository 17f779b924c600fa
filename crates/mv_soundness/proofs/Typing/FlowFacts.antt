-- Blocks: where they begin and end, and how types are carried through them.
use Rattle.mv_soundness.proofs.Typing.Common.{◌≡◌, ℕ, zero, suc, ◌+◌, ◌-◌, ◌<◌, ◌≤◌, true, List, [], ◌∷◌, length, refl, ap, subst, arith, ◌++◌, Some, None, Bool, false, take, drop, sym}
use Rattle.mv_soundness.proofs.Typing.Common.{◌⊎◌, inl, inr, cond, eqb, eqb-true, eqb-false, or_right, same_Some, slice_get, nat_le, ◌||◌, slice_range, ends_block, Module}
use Rattle.mv_soundness.proofs.Typing.Common.{FunctionDefinition, Instruction, IsAscending, BasicBlock, starts_from, on_bind, Types, types_through}
use Rattle.mv_move_types.specs.declared.instruction.Exit.{Exit}
use Rattle.mv_move_types.specs.declared.instruction.Exit.TheVariants.{Next, Fork, Jump, Leave}
use Rattle.mv_move_types.specs.Instructions.{exit_of}
use Rattle.mv_move_types.specs.Flow.{exit_ends_block, exit_successors, successors}
use Rattle.mv_cfg.specs.Blocks.{blocks_at, block_between, is_target}
use Rattle.mv_type_rules.specs.TypeRules.{types_after}

-- ---- lists

-- a list up to an element, the element, and the rest
take_split : {A : Type 0} (ys : List A) (n r k : ℕ) (c : A) → k ≡ n + suc r → slice_get ys n ≡ Some c → (rest : List A) × (take k ys ≡ take n ys ++ c ∷ rest) × (r ≡ 0 → rest ≡ [])
take_split (y ∷ ys) zero r (suc k) c e g = (take k ys, ap (λ z. z ∷ take k ys) (same_Some y c g), λ z. let none : k ≡ 0 = omega (arith, e, z) in ap (λ n. take n ys) none)
take_split (y ∷ ys) (suc n) r (suc k) c e g =
    let lower : k ≡ n + suc r = omega (arith, e) in
    let rest = take_split ys n r k c lower g in
    (rest.0, ap (λ zs. y ∷ zs) rest.1, rest.2)
take_split ys n r k c e g = absurd (grind arith)

get_drop : {A : Type 0} (xs : List A) (a n k : ℕ) (c : A) → k ≡ a + n → slice_get xs k ≡ Some c → slice_get (drop a xs) n ≡ Some c
get_drop xs zero n k c e g = let same : k ≡ n = omega (arith, e) in subst (λ m. slice_get xs m ≡ Some c) same g
get_drop (x ∷ xs) (suc a) n (suc k) c e g = let lower : k ≡ a + n = omega (arith, e) in get_drop xs a n k c lower g
get_drop xs a n k c e g = absurd (grind arith)

pub range_split : {A : Type 0} (xs : List A) (a at b : ℕ) (c : A) → a ≤ at → at < b → slice_get xs at ≡ Some c
    → (rest : List A) × (slice_range xs a b ≡ slice_range xs a at ++ c ∷ rest) × (b ≡ at + 1 → rest ≡ [])
range_split xs a at b c low high e =
    let whole : b - a ≡ (at - a) + suc (b - at - 1) = omega (arith, low, high) in
    let place : at ≡ a + (at - a) = omega (arith, low) in
    let parts = take_split (drop a xs) (at - a) (b - at - 1) (b - a) c whole (get_drop xs a (at - a) at c place e) in
    (parts.0, parts.1, λ z. parts.2 (let none : b - at - 1 ≡ 0 = omega (arith, z) in none))

-- ---- types through instructions

pub through_step : (m : Module) (d : FunctionDefinition) (i : Instruction) (is' : List Instruction) (ts r : Types) → types_through m d (i ∷ is') ts ≡ Some r →
    (after : Types) × (types_after m d i ts ≡ Some after) × (nat_le (length after) 128 ≡ true) × (types_through m d is' after ≡ Some r)
through_step m d i is' ts r e =
    on_bind (types_after m d i ts) (λ after. cond (nat_le (length after) 128) (types_through m d is' after) None) r e (λ after after_is e1.
    by_case after after_is (nat_le (length after) 128) refl e1)
  where
    by_case : (after : Types) → types_after m d i ts ≡ Some after → (b : Bool) → nat_le (length after) 128 ≡ b → cond b (types_through m d is' after) None ≡ Some r →
        (after : Types) × (types_after m d i ts ≡ Some after) × (nat_le (length after) 128 ≡ true) × (types_through m d is' after ≡ Some r)
    by_case after after_is true p e1 = (after, after_is, p, e1)
    by_case after after_is false p e1 = absurd cc

pub through_apart : (m : Module) (d : FunctionDefinition) (xs ys : List Instruction) (ts r : Types) → types_through m d (xs ++ ys) ts ≡ Some r
    → (mid : Types) × (types_through m d xs ts ≡ Some mid) × (types_through m d ys mid ≡ Some r)
through_apart m d [] ys ts r e = (ts, refl, e)
through_apart m d (x ∷ xs) ys ts r e =
    let s = through_step m d x (xs ++ ys) ts r e in
    let rest = through_apart m d xs ys s.0 r s.3 in
    (rest.0, rw (s.1, s.2) rest.1, rest.2)

pub through_join : (m : Module) (d : FunctionDefinition) (xs ys : List Instruction) (ts mid r : Types) → types_through m d xs ts ≡ Some mid
    → types_through m d ys mid ≡ Some r → types_through m d (xs ++ ys) ts ≡ Some r
through_join m d [] ys ts mid r e g = subst (λ (x : Types). types_through m d ys x ≡ Some r) (sym (same_Some ts mid e)) g
through_join m d (x ∷ xs) ys ts mid r e g =
    let s = through_step m d x xs ts mid e in
    let rest = through_join m d xs ys s.0 mid r s.3 g in
    rw (s.1, s.2) rest

pub through_one : (m : Module) (d : FunctionDefinition) (i : Instruction) (ts after : Types) → types_after m d i ts ≡ Some after
    → nat_le (length after) 128 ≡ true → types_through m d (i ∷ []) ts ≡ Some after
through_one m d i ts after e g = rw (e, g) refl

-- ---- where blocks begin

-- where nothing ends the block control goes on to the next instruction
pub next_inside : (i : ℕ) (c : Instruction) → ends_block c ≡ false → successors i c ≡ (i + 1) ∷ []
next_inside i c e = only_next (exit_of c) e
  where
    only_next : (x : Exit) → exit_ends_block x ≡ false → exit_successors i x ≡ (i + 1) ∷ []
    only_next Next e = refl
    only_next (Fork t) e = cc
    only_next (Jump t) e = cc
    only_next Leave e = cc

unfoldable pub Among : ℕ → List ℕ → Type 0
Among x [] = ⊥
Among x (y ∷ ys) = (y ≡ x) ⊎ Among x ys

pub rising_bounds : (low high x : ℕ) (xs : List ℕ) → IsAscending low high xs → Among x xs → (low ≤ x) × (x < high)
unfolding Among
rising_bounds low high x [] r a = absurd a
rising_bounds low high x (y ∷ ys) r (inl e) = (omega (arith, r.0, e), omega (arith, r.1.0, e))
rising_bounds low high x (y ∷ ys) r (inr a) =
    let rest = rising_bounds (y + 1) high x ys r.1.1 a in
    (omega (arith, r.0, rest.0), rest.1)

later : (f : Bool) (i x : ℕ) (xs : List ℕ) → Among x xs → Among x (cond f (i ∷ []) [] ++ xs)
unfolding Among
later true i x xs a = inr a
later false i x xs a = a

pub targets_begin : (code : List Instruction) (i j : ℕ) (b : Bool) (cs : List Instruction) → is_target code j ≡ true → i ≤ j → j < i + length cs → Among j (starts_from code i b cs)
unfolding Among
targets_begin code i j b [] h low high = absurd (omega (arith, low, high))
targets_begin code i j b (c ∷ cs) h low high = by_case (eqb i j) refl (λ l g. targets_begin code (i + 1) j (ends_block c) cs h l g)
  where
    by_case : (f : Bool) → eqb i j ≡ f → (i + 1 ≤ j → j < (i + 1) + length cs → Among j (starts_from code (i + 1) (ends_block c) cs)) → Among j (starts_from code i b (c ∷ cs))
    by_case true e ih =
        let same : i ≡ j = eqb-true i j e in
        let flag : (b || is_target code i) ≡ true = or_right b (is_target code i) (subst (λ (x : ℕ). is_target code x ≡ true) (sym same) h) in
        rw flag (inl same)
    by_case false e ih =
        let far : i ≡ j → ⊥ = eqb-false i j e in
        later (b || is_target code i) i j (starts_from code (i + 1) (ends_block c) cs) (ih (omega (arith, low, far)) (omega (arith, high)))

pub ended_begin : (code : List Instruction) (i k j : ℕ) (b : Bool) (c : Instruction) (cs : List Instruction) → slice_get cs k ≡ Some c
    → ends_block c ≡ true → suc k < length cs → j ≡ i + suc k → Among j (starts_from code i b cs)
unfolding Among
ended_begin code i zero j b c (x ∷ y ∷ cs) e h l at =
    let ends : ends_block x ≡ true = subst (λ (z : Instruction). ends_block z ≡ true) (sym (same_Some x c e)) h in
    let here : i + 1 ≡ j = omega (arith, at) in
    let found : Among j (starts_from code (i + 1) (ends_block x) (y ∷ cs)) = rw ends (inl here) in
    later (b || is_target code i) i j (starts_from code (i + 1) (ends_block x) (y ∷ cs)) found
ended_begin code i (suc k) j b c (x ∷ cs) e h l at =
    let there : j ≡ (i + 1) + suc k = omega (arith, at) in
    later (b || is_target code i) i j (starts_from code (i + 1) (ends_block x) cs) (ended_begin code (i + 1) k j (ends_block x) c cs e h (omega (arith, l)) there)
ended_begin code i k j b c cs e h l at = absurd (grind arith)

-- ---- blocks

pub record BlockFacts (code : List Instruction) (starts : List ℕ) (low : ℕ) (b : BasicBlock) : Type 0 where
  pub at_least : low ≤ b.first
  pub in_order : b.first ≤ b.last
  pub inside : b.last < length code
  pub alone : (j : ℕ) → b.first < j → j ≤ b.last → Among j starts → ⊥
  pub ends : (b.last + 1 ≡ length code) ⊎ Among (b.last + 1) starts

pub block_facts : (code : List Instruction) (starts : List ℕ) (low k : ℕ) (b : BasicBlock) → IsAscending low (length code) starts
    → slice_get (blocks_at code starts) k ≡ Some b → BlockFacts code starts low b
unfolding Among
block_facts code (i ∷ []) low zero b r e =
    subst (λ (x : BasicBlock). BlockFacts code (i ∷ []) low x) (same_Some (block_between code i (length code)) b e) (record {
      at_least = r.0;
      in_order = omega (arith, r.1.0);
      inside = omega (arith, r.1.0);
      alone = λ j l h a. elim a [ inl p ↦ absurd (omega (arith, l, p)) | inr p ↦ absurd p ];
      ends = inl (omega (arith, r.1.0));
    })
block_facts code (i ∷ j ∷ starts) low zero b r e =
    subst (λ (x : BasicBlock). BlockFacts code (i ∷ j ∷ starts) low x) (same_Some (block_between code i j) b e) (record {
      at_least = r.0;
      in_order = omega (arith, r.1.1.0);
      inside = omega (arith, r.1.1.0, r.1.1.1.0);
      alone = never;
      ends = inr (inr (inl (omega (arith, r.1.1.0))));
    })
  where
    never : (x : ℕ) → i < x → x ≤ j - 1 → Among x (i ∷ j ∷ starts) → ⊥
    never x l h (inl p) = absurd (omega (arith, l, p))
    never x l h (inr (inl p)) = absurd (omega (arith, l, h, p))
    never x l h (inr (inr a)) = let beyond = rising_bounds (j + 1) (length code) x starts r.1.1.1.1 a in absurd (omega (arith, h, beyond.0))
block_facts code (i ∷ j ∷ starts) low (suc k) b r e =
    let f = block_facts code (j ∷ starts) (i + 1) k b r.1.1 e in
    record {
      at_least = omega (arith, r.0, f.at_least);
      in_order = f.in_order;
      inside = f.inside;
      alone = λ x l h a. elim a [ inl p ↦ absurd (omega (arith, l, p, f.at_least)) | inr p ↦ f.alone x l h p ];
      ends = elim f.ends [ inl p ↦ inl p | inr p ↦ inr (inr p) ];
    }
block_facts code starts low k b r e = absurd cc

pub begins_block : (code : List Instruction) (starts : List ℕ) (j : ℕ) → Among j starts → (k : ℕ) × (b : BasicBlock) × (slice_get (blocks_at code starts) k ≡ Some b) × (b.first ≡ j)
unfolding Among
begins_block code [] j a = absurd a
begins_block code (i ∷ []) j (inl p) = (0, block_between code i (length code), refl, p)
begins_block code (i ∷ []) j (inr p) = absurd p
begins_block code (i ∷ x ∷ starts) j (inl p) = (0, block_between code i x, refl, p)
begins_block code (i ∷ x ∷ starts) j (inr p) =
    let rest = begins_block code (x ∷ starts) j p in
    (suc rest.0, rest.1, rest.2, rest.3)
