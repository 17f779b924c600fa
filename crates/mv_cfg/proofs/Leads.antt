-- Where blocks lead: to blocks.
use Rattle.std.proofs.Common.{◌≡◌, ℕ, ◌+◌, ◌-◌, ◌<◌, ◌≤◌, Bool, true, not, nat_eq, List, [], ◌∷◌, length, get_or, slice_get, Some, All, Contains}
use Rattle.std.proofs.Common.{IsTrue, refl, sym, ap, ◌∙◌, subst, arith, suc, ⊎_elim, eq-eqb}
use Rattle.std.specs.List.{list_any}
use Rattle.std.specs.Option.{option_map_or}
use Rattle.std.proofs.lemmas.Bool.{cases_lt, false≢true}
use Rattle.std.proofs.lemmas.List.Elements.{All-nil, All-cons, All-head, Contains-get_or, All-same, All-weaker, All-contains_itself}
use Rattle.std.proofs.lemmas.List.{get_or_default, get_or_past}
use Rattle.std.proofs.lemmas.List.Folds.{list_any_at}
use Rattle.std.proofs.lemmas.Option.{slice_get-get_or}
use Rattle.mv_move_types.specs.declared.instruction.Instruction.{Instruction}
use Rattle.mv_move_types.specs.declared.instruction.Instruction.TheVariants.{Pop}
use Rattle.mv_move_types.specs.declared.instruction.Exit.{Exit}
use Rattle.mv_move_types.specs.declared.instruction.Exit.TheVariants.{Next, Fork, Jump, Leave}
use Rattle.mv_move_types.specs.Instructions.{exit_of}
use Rattle.mv_move_types.specs.Flow.{targets, exit_targets, exit_successors, exit_falls_through, successors}
use Rattle.mv_cfg.specs.Blocks.{is_target, leads_to, ends_well}
use Rattle.mv_cfg.specs.Steps.{starts, BranchesInside}
use Rattle.mv_cfg.proofs.Ends.{ends_well-last}
use Rattle.mv_cfg.proofs.Beginnings.{IsAscending, starts_from-ascending, ascending-at, starts_from-target}

-- where an exit goes on holds of its targets, and of the next instruction where it may come there
exit_successors-all : (P : ℕ → Type 0) (last : ℕ) (e : Exit) → All P (exit_targets e) → (exit_falls_through e ≡ true → P (last + 1)) → All P (exit_successors last e)
exit_successors-all P last Next to next = All-cons P (last + 1) [] (next refl) (All-nil P)
exit_successors-all P last (Fork t) to next = All-cons P t ((last + 1) ∷ []) (All-head P t [] to) (All-cons P (last + 1) [] (next refl) (All-nil P))
exit_successors-all P last (Jump t) to next = to
exit_successors-all P last Leave to next = All-nil P

pub starts-ascending : (code : List Instruction) → IsAscending 0 (length code) (starts code)
starts-ascending code = starts_from-ascending code 0 (length code) true code (omega arith)

-- a branch leads to the beginning of a block
targets-begin : (code : List Instruction) → BranchesInside code → (i : ℕ) → i < length code → All (Contains (starts code)) (targets (get_or code i Pop))
targets-begin code inside i h j d within =
    let t : ℕ = get_or (targets (get_or code i Pop)) j d in
    let small : t < length code = inside i Pop h j d within in
    let is : is_target code t ≡ true =
    list_any_at (λ c. list_any (λ u. nat_eq u t) (targets c)) code i Pop h
    (list_any_at (λ u. nat_eq u t) (targets (get_or code i Pop)) j d within (eq-eqb t t refl)) in starts_from-target code 0 true code t (omega arith) (omega arith) is

falls-not : (e : Exit) → not (exit_falls_through e) ≡ true → exit_falls_through e ≡ true → ⊥
falls-not e a b = false≢true (subst (λ (f : Bool). not f ≡ true) b a)

-- the last instruction of a block leads to beginnings of blocks
pub leads-begin : (code : List Instruction) → IsTrue (ends_well code) → BranchesInside code → (k : ℕ) → k < length (starts code) → (end : ℕ) → end ≡ get_or (starts code) (suc k) (length code)
    → All (Contains (starts code)) (leads_to code (end - 1))
leads-begin code well inside k h end is =
    let up = ascending-at 0 (length code) (starts code) k (starts-ascending code) h in
    let low : get_or (starts code) k 0 < get_or (starts code) (suc k) (length code) = up.1.0 in
    let high : get_or (starts code) (suc k) (length code) ≤ length code = up.1.1 in
    let last : end - 1 < length code = omega arith in
    let c : Instruction = get_or code (end - 1) Pop in
    let read : slice_get code (end - 1) ≡ Some c = slice_get-get_or code (end - 1) Pop last in
    let goes : leads_to code (end - 1) ≡ successors (end - 1) c = ap (λ o. option_map_or (successors (end - 1)) o []) read in
    let again : end ≡ end - 1 + 1 = omega arith in
    let next : exit_falls_through (exit_of c) ≡ true → Contains (starts code) (end - 1 + 1) = λ falls.
    ⊎_elim
    (λ (more : suc k < length (starts code)).
    let at : get_or (starts code) (suc k) 0 ≡ end - 1 + 1 = get_or_default (starts code) (suc k) 0 (length code) more ∙ sym is ∙ again in
    subst (Contains (starts code)) at (Contains-get_or (starts code) (suc k) 0 more))
    (λ (over : length (starts code) ≤ suc k).
    let whole : end ≡ length code = is ∙ get_or_past (starts code) (suc k) (length code) over in
    absurd (falls-not (exit_of c) (sym (ends_well-last code (end - 1) c (omega arith) read) ∙ well) falls))
    (cases_lt (suc k) (length (starts code))) in
    All-same (Contains (starts code)) (leads_to code (end - 1)) (successors (end - 1) c) goes
    (exit_successors-all (Contains (starts code)) (end - 1) (exit_of c) (targets-begin code inside (end - 1) last) next)

-- a block begins at an instruction
pub start-within : (code : List Instruction) (n : ℕ) → Contains (starts code) n → n < length code
start-within code n (k, h, e) =
    let up = ascending-at 0 (length code) (starts code) k (starts-ascending code) h in
    let low : get_or (starts code) k 0 < get_or (starts code) (suc k) (length code) = up.1.0 in
    let high : get_or (starts code) (suc k) (length code) ≤ length code = up.1.1 in
    let is : get_or (starts code) k 0 ≡ n = get_or_default (starts code) k 0 n h ∙ e in omega arith

pub starts-inside : (code : List Instruction) → All (λ i. i < length code) (starts code)
starts-inside code = All-weaker (Contains (starts code)) (λ i. i < length code) (start-within code) (starts code) (All-contains_itself (starts code))

end_at : (code : List Instruction) (firsts : List ℕ) (k end : ℕ) → firsts ≡ starts code → end ≡ get_or firsts (k + 1) (length code) → end ≡ get_or (starts code) (suc k) (length code)
end_at code firsts k end same is =
    is ∙ ap (λ (xs : List ℕ). get_or xs (k + 1) (length code)) same ∙ ap (λ j. get_or (starts code) j (length code)) (let e : k + 1 ≡ suc k = omega arith in e)

-- a block ends with an instruction
pub block-ends : (code : List Instruction) (firsts : List ℕ) (k end : ℕ) → firsts ≡ starts code → k < length firsts → end ≡ get_or firsts (k + 1) (length code) → (1 ≤ end) × (end - 1 < length code)
block-ends code firsts k end same h is =
    let short : k < length (starts code) = subst (λ (xs : List ℕ). k < length xs) same h in
    let up = ascending-at 0 (length code) (starts code) k (starts-ascending code) short in
    let low : get_or (starts code) k 0 < get_or (starts code) (suc k) (length code) = up.1.0 in
    let high : get_or (starts code) (suc k) (length code) ≤ length code = up.1.1 in
    let e : end ≡ get_or (starts code) (suc k) (length code) = end_at code firsts k end same is in (omega arith, omega arith)

-- and leads to instructions
pub leads-inside : (code : List Instruction) (firsts places : List ℕ) (k end : ℕ) → IsTrue (ends_well code) → BranchesInside code
    → firsts ≡ starts code → length places ≡ length code → k < length firsts → end ≡ get_or firsts (k + 1) (length code)
    → All (λ n. n < length places) (leads_to code (end - 1))
leads-inside code firsts places k end well inside same size h is =
    All-weaker (Contains (starts code)) (λ n. n < length places) (λ n there. let small : n < length code = start-within code n there in omega arith) (leads_to code (end - 1))
    (leads-begin code well inside k (subst (λ (xs : List ℕ). k < length xs) same h) end (end_at code firsts k end same is))
