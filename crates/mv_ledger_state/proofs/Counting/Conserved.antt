-- Along a run what is held and unmade stays what was stored at first and made; at the return all of it is stored.
use Rattle.mv_ledger_state.proofs.Common.{[], ◌+◌, ◌∙◌, ◌∷◌, ◌≡◌, Bool, IsTrue, List, Ok, Some, ap, arith, cond, false, length, map, refl, subst, sym, true, ℕ, eqb-true, sum_by-cons}
use Rattle.mv_ledger_state.proofs.Common.{same_Some, AllByRecursion, list_all, option_map_or, ◌&&◌, ◌==◌, ◌||◌, not, reverse, slice_get, FunctionDefinition, Module, parameter_tokens}
use Rattle.mv_ledger_state.proofs.Common.{StructName, same_struct, for_each, Tag, Definition, Token, are_entry_parameters, entry_fits, has_no_results, WhereOk, entry-is, on_some, place-written, Effect}
use Rattle.mv_ledger_state.proofs.Common.{Ends, Left, Resumed, Went, Written, arrived, begun, run-keeps, step-stepped, count, AtReturn, FunctionCall, packs, run, unpacks, Event, Frame, State, Storage}
use Rattle.mv_ledger_state.proofs.Common.{with_local, with_root, Goes, Here, Returns, Turn, may_drop, with_stack, entry, tag_named, Leaf, Local, Root, Stored, Value, all_at, Conserves, IsEntryCall}
use Rattle.mv_ledger_state.proofs.Common.{IsFineStorage, IsLeaf, IsAbleStore, IsFine, held, held_in_frames, held_in_locals, held_in_stack, made, unmade, IsScarce, StackIsKept}
use Rattle.mv_move_types.specs.declared.tables.FunctionHandle.{FunctionHandle}
use Rattle.mv_machine.specs.StepControl.{signature_tags}
use Rattle.mv_ledger_state.proofs.Counting.Counts.{held-entered, held-reverse, kept-entered}
use Rattle.mv_ledger_state.proofs.Counting.Keeps.{effect-fine, effect-balances, left-none}
use Rattle.mv_ledger_state.proofs.Counting.Packs.{each-get}
use Rattle.mv_bound_rules.proofs.Found.{passing}

-- ---- the function of the first frame

abbrev first_function : Frame → List Frame → Definition
first_function f [] = f.function
first_function f (g ∷ gs) = first_function g gs

first-same : (f g : Frame) (fs : List Frame) → f.function ≡ g.function → first_function f fs ≡ first_function g fs
first-same f g [] e = e
first-same f g (k ∷ ks) e = refl

function-with_local : (n l : ℕ) (v : Value) (f : Frame) → (with_local n l v f).function ≡ f.function
function-with_local n l v f = grind arith

first-with_local : (n l : ℕ) (v : Value) (f : Frame) (fs : List Frame) → first_function (with_local n l v f) (map (with_local n l v) fs) ≡ first_function f fs
first-with_local n l v f [] = function-with_local n l v f
first-with_local n l v f (g ∷ gs) = first-with_local n l v g gs

first-with_root : (s : State) (root : Root) (v : Value) → first_function (with_root s root v).top (with_root s root v).below ≡ first_function s.top s.below
first-with_root s (Local n l) v = first-with_local n l v s.top s.below
first-with_root s (Stored key) v = refl

effect-first : (h : Here) (next : State) → Effect h next → first_function next.top next.below ≡ first_function h.state.top h.state.below
effect-first h _ (Written r new old below tag next s old_is tag_is typed d next_is) =
    let w = place-written (with_stack h.state below) r.place new next next_is in
    subst (λ (t : State). first_function t.top t.below ≡ first_function h.state.top h.state.below) w.next_is
    (first-with_root (with_stack h.state below) r.place.root w.new ∙ first-same _ _ h.state.below refl)
effect-first h _ (Resumed results f fs s d e) = first-same _ _ fs refl ∙ sym (ap (first_function h.state.top) e)
effect-first h _ _ = first-same _ _ h.state.below refl

-- ---- what a run keeps

record Along (modules : List Module) (storage : Storage) (function : Definition) (s : State) : Type 0 where
  fine : IsFine modules s
  balanced : (name : StructName) → IsScarce modules name → held name s + unmade name s.events ≡ count storage name + made name s.events
  first : first_function s.top s.below ≡ function

fine-arrived : (modules : List Module) (at : ℕ) (s : State) → IsFine modules s → IsFine modules (arrived at s)
fine-arrived modules at s fine = record {
  framed = (record { locals = fine.framed.0.locals; stack = fine.framed.0.stack }, fine.framed.1);
  stored = fine.stored;
  ascending = fine.ascending;
  numbered = fine.numbered;
}

went-along : (h : Here) (place at n : ℕ) (next : State) (storage : Storage) (function : Definition) → IsAbleStore h.modules → slice_get h.modules place ≡ Some h.home → Effect h next →
    Along h.modules storage function h.state → Along h.modules storage function (record (arrived at next) { steps = n })
went-along h place at n next storage function store home_is effect along =
    let fine : IsFine h.modules (arrived at next) = fine-arrived h.modules at next (effect-fine h place next store home_is along.fine effect) in
    record {
      fine = record { framed = fine.framed; stored = fine.stored; ascending = fine.ascending; numbered = fine.numbered };
      balanced = λ name scarce.
          omega (arith, along.balanced name scarce, effect-balances h name next scarce along.fine effect);
      first = first-same _ _ next.below refl ∙ (effect-first h next effect ∙ along.first);
    }

-- what holds of the state that a turn goes on with, or returns with
abbrev WhereGoes : (State → Type 0) → Turn → Type 0
WhereGoes P (Goes s) = P s
WhereGoes P (Returns s) = Unit {0}

abbrev WhereReturns : (State → Type 0) → Turn → Type 0
WhereReturns P (Goes s) = Unit {0}
WhereReturns P (Returns s) = P s

goes-along : (h : Here) (place n : ℕ) (t : Turn) (storage : Storage) (function : Definition) → IsAbleStore h.modules → slice_get h.modules place ≡ Some h.home → Ends h t →
    Along h.modules storage function h.state → WhereGoes (λ s. Along h.modules storage function (record s { steps = n })) t
goes-along h place n _ storage function store home_is (Went at next effect) along = went-along h place at n next storage function store home_is effect along
goes-along h place n _ storage function store home_is (Left handle tags results handle_is tags_are k stack d below) along = tt

-- ---- the beginning

leaves-kept : (modules : List Module) (vs : List Value) → AllByRecursion IsLeaf vs → StackIsKept modules vs
leaves-kept modules [] a = tt
leaves-kept modules (Leaf kind n ∷ vs) a = (tt, leaves-kept modules vs a.1)
leaves-kept _ _ a = absurd a.0

leaves-none : (name : StructName) (vs : List Value) → AllByRecursion IsLeaf vs → held_in_stack name vs ≡ 0
leaves-none name [] a = refl
leaves-none name (Leaf kind n ∷ vs) a = let ih : held_in_stack name vs ≡ 0 = leaves-none name vs a.1 in omega (arith, ih)
leaves-none _ _ a = absurd a.0

begins-along : (modules : List Module) (storage : Storage) (call : FunctionCall) (others : ℕ) → IsFineStorage modules storage → AllByRecursion IsLeaf call.arguments →
    Along modules storage call.function (begun storage call others)
begins-along modules storage call others fine leaves = record {
  fine = record {
    framed = (record { locals = kept-entered modules call.arguments others (leaves-kept modules call.arguments leaves); stack = tt }, tt);
    stored = fine.kept;
    ascending = fine.ascending;
    numbered = (omega arith, tt);
  };
  balanced = λ name scarce.
      omega (arith, held-entered name call.arguments others, leaves-none name call.arguments leaves);
  first = refl;
}

-- ---- the return

entry-none : (e r p : Bool) → (not e || r && p) ≡ true → e ≡ true → r ≡ true
entry-none true true p h e = refl
entry-none _ _ p h e = absurd cc

for_each-none : (modules : List Module) (m : Module) (ts : List Token) (tags : List Tag) → length ts ≡ 0 → for_each (tag_named modules m) ts ≡ Ok tags → length tags ≡ 0
for_each-none modules m [] tags n e = subst (WhereOk (λ (x : List Tag). length x ≡ 0)) e refl
for_each-none modules m (t ∷ ts) tags n e = absurd cc

-- a function without results has no result tags
no_results-tags : (modules : List Module) (m : Module) (d : FunctionDefinition) (handle : FunctionHandle) (tags : List Tag) → has_no_results m d ≡ true
    → entry m.function_handles d.handle ≡ Ok handle → signature_tags modules m handle.results ≡ Ok tags → length tags ≡ 0
unfolding signature_tags
no_results-tags modules m d handle tags none handle_is tags_are =
    let named = passing (λ (h : FunctionHandle). option_map_or (λ ts. length ts == 0) (slice_get m.signatures h.results) false) (slice_get m.function_handles d.handle) none in
    let same : named.0 ≡ handle = same_Some named.0 handle (sym named.1 ∙ entry-is m.function_handles d.handle handle handle_is) in
    let listed = passing (λ (ts : List Token). length ts == 0) (slice_get m.signatures (named.0).results) named.2 in
    on_some (slice_get m.signatures handle.results) _ _ tags tags_are (λ ts ts_are e1.
    let one : listed.0 ≡ ts = same_Some listed.0 ts (sym listed.1 ∙ (ap (λ (h : FunctionHandle). slice_get m.signatures h.results) same ∙ ts_are)) in
    for_each-none modules m ts tags (subst (λ (x : List Token). length x ≡ 0) one (eqb-true (length listed.0) 0 listed.2)) e1)

held-empty : (name : StructName) (vs : List Value) → length vs ≡ 0 → held_in_stack name vs ≡ 0
held-empty name [] e = refl
held-empty name (v ∷ vs) e = absurd cc

pub packs-made : (name : StructName) (es : List Event) → packs name es ≡ made name es
packs-made name [] = refl
packs-made name (e ∷ es) = sum_by-cons (λ (x : Event). cond (x.is_pack && same_struct x.struct name) 1 0) e es ∙ ap (λ n. cond (e.is_pack && same_struct e.struct name) 1 0 + n) (packs-made name es)

pub unpacks-unmade : (name : StructName) (es : List Event) → unpacks name es ≡ unmade name es
unpacks-unmade name [] = refl
unpacks-unmade name (e ∷ es) = sum_by-cons (λ (x : Event). cond (not x.is_pack && same_struct x.struct name) 1 0) e es
    ∙ ap (λ n. cond (not e.is_pack && same_struct e.struct name) 1 0 + n) (unpacks-unmade name es)

-- the entry function's module and definition are those at work in the first frame
entry-results : (h : Here) (call : FunctionCall) → IsAbleStore h.modules → IsEntryCall h.modules call → h.state.top.function ≡ call.function →
    slice_get h.modules h.state.top.function.place ≡ Some h.home → slice_get h.home.functions h.state.top.function.index ≡ Some h.function → has_no_results h.home h.function ≡ true
entry-results h call store entered same home_is function_is =
    let there : slice_get h.modules call.function.place ≡ Some h.home = subst (λ (d : Definition). slice_get h.modules d.place ≡ Some h.home) same home_is in
    let home : entered.home ≡ h.home = same_Some entered.home h.home (sym entered.home_is ∙ there) in
    let at : slice_get h.home.functions call.function.index ≡ Some entered.function = subst (λ (m : Module). slice_get m.functions call.function.index ≡ Some entered.function) home
    entered.function_is in
    let at2 : slice_get h.home.functions call.function.index ≡ Some h.function = subst (λ (d : Definition). slice_get h.home.functions d.index ≡ Some h.function) same function_is in
    let function : entered.function ≡ h.function = same_Some entered.function h.function (sym at ∙ at2) in
    let fits : entry_fits h.home h.function ≡ true = all_at (entry_fits h.home) h.home.functions h.state.top.function.index h.function
    (each-get (λ m. IsTrue (list_all (entry_fits m) m.functions)) h.modules h.state.top.function.place h.home store.entries home_is) function_is in
    let is_entry : h.function.is_entry ≡ true = subst (λ (d : FunctionDefinition). d.is_entry ≡ true) function entered.is_entry in
    entry-none h.function.is_entry (has_no_results h.home h.function) (option_map_or are_entry_parameters (parameter_tokens h.home h.function) false) fits is_entry

left-conserves : (h : Here) (call : FunctionCall) (storage : Storage) (handle : FunctionHandle) (tags : List Tag) (results : List Value) → IsAbleStore h.modules → IsEntryCall h.modules call →
    slice_get h.modules h.state.top.function.place ≡ Some h.home → slice_get h.home.functions h.state.top.function.index ≡ Some h.function → Along h.modules storage call.function h.state →
    entry h.home.function_handles h.function.handle ≡ Ok handle → signature_tags h.modules h.home handle.results ≡ Ok tags → length results ≡ length tags → h.state.top.stack ≡ reverse results →
    list_all (may_drop h) h.state.top.locals ≡ true → h.state.below ≡ [] → Conserves h.modules storage h.state.storage h.state.events
left-conserves h call storage handle tags results store entered home_is function_is along handle_is tags_are n stack d below =
    let same : h.state.top.function ≡ call.function = ap (first_function h.state.top) (sym below) ∙ along.first in
    let none : length tags ≡ 0 = no_results-tags h.modules h.home h.function handle tags (entry-results h call store entered same home_is function_is) handle_is tags_are in
    record {
      fine = record { kept = along.fine.stored; ascending = along.fine.ascending };
      balanced = λ name scarce.
          let before : held name h.state + unmade name h.state.events ≡ count storage name + made name h.state.events = along.balanced name scarce in
          let under : held_in_frames name h.state.below ≡ 0 = ap (held_in_frames name) below in
          let gone : held_in_locals name h.state.top.locals ≡ 0 = left-none h name h.state.top.locals scarce along.fine.framed.0.locals d in
          let empty : held_in_stack name h.state.top.stack ≡ 0 = ap (held_in_stack name) stack ∙ (held-reverse name results ∙ held-empty name results (n ∙ none)) in
          let up : packs name h.state.events ≡ made name h.state.events = packs-made name h.state.events in
          let down : unpacks name h.state.events ≡ unmade name h.state.events = unpacks-unmade name h.state.events in
          rw (up, down) (omega (arith, before, under, gone, empty));
    }

returns-conserves : (h : Here) (call : FunctionCall) (storage : Storage) (t : Turn) → IsAbleStore h.modules → IsEntryCall h.modules call →
    slice_get h.modules h.state.top.function.place ≡ Some h.home → slice_get h.home.functions h.state.top.function.index ≡ Some h.function → Along h.modules storage call.function h.state →
    Ends h t → WhereReturns (λ s. Conserves h.modules storage s.storage s.events) t
returns-conserves h call storage _ store entered home_is function_is along (Went at next effect) = tt
returns-conserves h call storage _ store entered home_is function_is along (Left handle tags results handle_is tags_are n stack d below) =
    left-conserves h call storage handle tags results store entered home_is function_is along handle_is tags_are n stack d below

-- ---- the run

-- a run of an entry function over a fine storage
pub run-conserves : (modules : List Module) (storage : Storage) (call : FunctionCall) (budget : ℕ) → IsAbleStore modules → IsFineStorage modules storage → IsEntryCall modules call →
    AtReturn (Conserves modules storage) (run modules storage call budget)
run-conserves modules storage call budget store fine entered =
    run-keeps (Conserves modules storage) (Along modules storage call.function) modules storage call
    (λ others. begins-along modules storage call others fine entered.leaves)
    (λ s t n along e.
    let stepped = step-stepped modules s (Goes t) e in
    goes-along _ s.top.function.place n (Goes t) storage call.function store stepped.home_is stepped.ends along)
    (λ s t along e.
    let stepped = step-stepped modules s (Returns t) e in
    returns-conserves _ call storage (Returns t) store entered stepped.home_is stepped.function_is along stepped.ends)
    budget
