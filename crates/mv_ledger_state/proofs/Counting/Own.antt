-- Each struct value is made and taken apart by code of the struct's own module.
use Rattle.mv_ledger_state.proofs.Common.{◌≡◌, List, Ok, Some, refl, subst, sym, ℕ, Module, place-written, Effect, Ends, Left, Packed}
use Rattle.mv_ledger_state.proofs.Common.{Unpacked, Went, Written, own_struct-own, run-keeps, step-stepped, AtReturn, FunctionCall, run, State, Storage, with_place, with_root, Goes, Here}
use Rattle.mv_ledger_state.proofs.Common.{OwnStruct, Returns, Turn, with_stack, Local, Place, Root, Stored, Value, same_module-is, IsOwnWork}
use Rattle.mv_machine.specs.StepStructs.{own_struct}

-- the struct that an instruction names is of the module at work
own_is : (h : Here) (i : ℕ) (s : OwnStruct) → own_struct h i ≡ Ok s → s.own ≡ s.name.home
own_is h i s e = sym (same_module-is s.name.home s.own (own_struct-own h i s e))

-- a write at a root adds no event
pub with_root-events : (s : State) (r : Root) (v : Value) → (with_root s r v).events ≡ s.events
with_root-events s (Local n l) v = refl
with_root-events s (Stored key) v = refl

-- a write adds no event
pub with_place-events : (s next : State) (p : Place) (v : Value) → with_place s p v ≡ Some next → next.events ≡ s.events
with_place-events s next p v e =
    let w = place-written s p v next e in
    subst (λ (t : State). t.events ≡ s.events) w.next_is (with_root-events s p.root w.new)

effect-own : (h : Here) (next : State) → Effect h next → IsOwnWork h.state.events → IsOwnWork next.events
effect-own h _ (Packed i struct taken rest tags struct_is s tags_are typed) own = (own_is h i struct struct_is, own)
effect-own h _ (Unpacked i struct name fields below struct_is s same) own = (own_is h i struct struct_is, own)
effect-own h _ (Written r new old below tag next s old_is tag_is typed d next_is) own =
    subst IsOwnWork (sym (with_place-events (with_stack h.state below) next r.place new next_is)) own
effect-own _ _ _ own = own

-- the state after a turn
abbrev pub state_of : Turn → State
state_of (Goes s) = s
state_of (Returns s) = s

ends-own : (h : Here) (t : Turn) → Ends h t → IsOwnWork h.state.events → IsOwnWork (state_of t).events
ends-own h _ (Went at next effect) own = effect-own h next effect own
ends-own h _ (Left handle tags results handle_is tags_are n s d below) own = own

-- of the events of a run that returned
pub run-own : (modules : List Module) (storage : Storage) (call : FunctionCall) (budget : ℕ) → AtReturn (λ storage' events. IsOwnWork events) (run modules storage call budget)
run-own modules storage call budget =
    run-keeps (λ storage' events. IsOwnWork events) (λ s. IsOwnWork s.events) modules storage call (λ others. tt)
    (λ s t n own e. ends-own _ (Goes t) (step-stepped modules s (Goes t) e).ends own)
    (λ s t own e. ends-own _ (Returns t) (step-stepped modules s (Returns t) e).ends own) budget
