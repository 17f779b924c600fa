-- First laws of the machine: how its rules are taken apart, and what a whole run keeps.
use Rattle.mv_machine.proofs.Common.{[], ℕ, ◌++◌, ◌+◌, ◌∷◌, ◌≡◌, Bool, Err, List, Ok, Result, ap₂, false, refl, subst, suc, sym, true, zero, eqb-true, first_so, second_so, Module, ◌>>=◌}
use Rattle.mv_machine.proofs.Common.{◌>>◌, need, Aborted, Exhausted, Faulted, Returned, RunOutcome, follows, goes_with, turns, State, Goes, OwnStruct, Returns, step, Failure, Faults}
use Rattle.mv_machine.proofs.Common.{Aborts, LinkageFault, entry, linked}
use Rattle.std.proofs.Common.{◌≤◌, eqb, arith}
use Rattle.mv_move_types.specs.Names.{same_module}
use Rattle.mv_move_types.specs.Module.{own_name, struct_name}
use Rattle.mv_move_types.specs.Paths.{begins}
use Rattle.mv_machine.specs.Step.{Here, Turn, own_struct}

-- a part that did not fail gave its value to the next part
pub on_ok : {A B E P : Type 0} (r : Result A E) (f : A → Result B E) (y : B) → (r >>= f) ≡ Ok y → ((x : A) → r ≡ Ok x → f x ≡ Ok y → P) → P
on_ok (Ok x) f y e go = go x refl e
on_ok (Err d) f y e go = absurd cc

-- a need that did not fail was met
pub on_need : {B E P : Type 0} (b : Bool) (d : E) (r : Result B E) (y : B) → (need b d >> r) ≡ Ok y → (b ≡ true → r ≡ Ok y → P) → P
on_need true d r y e go = go refl e
on_need false d r y e go = absurd cc

-- the struct that was found is of the module at work
abbrev IsOfOwn : Result OwnStruct Failure → Type 0
IsOfOwn (Ok s) = same_module s.name.home s.own ≡ true
IsOfOwn (Err f) = Unit {0}

-- a struct that an instruction names is of the module at work
pub own_struct-own : (h : Here) (i : ℕ) (s : OwnStruct) → own_struct h i ≡ Ok s → same_module s.name.home s.own ≡ true
unfolding own_struct
own_struct-own h i s e =
    on_ok (entry h.home.structs i) _ s e (λ d d_is e1.
    on_ok (entry h.home.struct_handles d.handle) _ s e1 (λ handle handle_is e2.
    on_ok (linked (struct_name h.home d.handle)) _ s e2 (λ name name_is e3.
    on_ok (linked (own_name h.home)) _ s e3 (λ own own_is e4.
    on_need (same_module name.home own) (Faults LinkageFault) _ s e4 (λ met e5. subst IsOfOwn e5 met)))))

-- how many steps a run took
abbrev pub steps_taken : RunOutcome → ℕ
steps_taken (Returned steps storage events) = steps
steps_taken (Aborted kind number steps) = steps
steps_taken (Exhausted stop steps) = steps
steps_taken (Faulted fault steps) = steps

goes_with-bound : (full : Bool) (go : State → RunOutcome) (s : State) (steps n : ℕ) → ((t : State) → steps_taken (go t) ≤ n + t.steps) → steps_taken (goes_with full go s steps) ≤ n + steps
goes_with-bound true go s steps n h = omega arith
goes_with-bound false go s steps n h = h (record s { steps = steps })

follows-bound : (go : State → RunOutcome) (steps n : ℕ) (r : Result Turn Failure) → ((t : State) → steps_taken (go t) ≤ n + t.steps) → steps_taken (follows go steps r) ≤ n + steps
follows-bound go steps n (Ok (Goes s)) h = goes_with-bound _ go s steps n h
follows-bound go steps n (Ok (Returns s)) h = omega arith
follows-bound go steps n (Err (Aborts kind number)) h = omega arith
follows-bound go steps n (Err (Faults fault)) h = omega arith

-- a run stays in its budget
pub turns-bound : (modules : List Module) (n : ℕ) (s : State) → steps_taken (turns modules n s) ≤ n + s.steps
unfolding turns
turns-bound modules zero s = omega arith
turns-bound modules (suc n) s =
    let h : steps_taken (turns modules (suc n) s) ≤ n + (s.steps + 1) = follows-bound (turns modules n) (s.steps + 1) n (step modules s) (turns-bound modules n) in
    omega (arith, h)

-- a list that begins another goes on with something
pub begins-more : (xs ys : List ℕ) → begins xs ys ≡ true → (more : List ℕ) × (ys ≡ xs ++ more)
begins-more [] ys h = (ys, refl)
begins-more (x ∷ xs) [] h = absurd cc
begins-more (x ∷ xs) (y ∷ ys) h =
    let rest = begins-more xs ys (second_so (eqb x y) (begins xs ys) h) in
    (rest.0, ap₂ (λ (a : ℕ) (as' : List ℕ). a ∷ as') (sym (eqb-true x y (first_so (eqb x y) (begins xs ys) h))) rest.1)
