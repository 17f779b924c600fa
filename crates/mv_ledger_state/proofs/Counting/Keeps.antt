-- Each effect keeps a state fine, and balances what is held against what is made and unmade.
use Rattle.mv_ledger_state.proofs.Common.{[], ◌++◌, ◌+◌, ◌∙◌, ◌∷◌, ◌≡◌, Bool, List, None, Option, Some, ap, arith, cond, false, map, refl, subst, sym, true, ℕ, cond_both, eqb-true, reverse-reverse}
use Rattle.mv_ledger_state.proofs.Common.{same_Some, first_so, second_so, AllByRecursion, list_all, ◌==◌, reverse, slice_get, slice_set, Module, StructName, same_struct, Address, place-written, then-is}
use Rattle.mv_ledger_state.proofs.Common.{Appears, Called, Effect, MovedFrom, MovedLocal, MovedTo, Packed, Restacked, Resumed, Stands, StoredLocal, Unpacked, Written, a_copy, at_place, in_local}
use Rattle.mv_ledger_state.proofs.Common.{count_in, count_in_fields, Event, Frame, State, frames, local_in, local_value, place_value, root_value, with_local, with_place, with_root, Here, may_drop}
use Rattle.mv_ledger_state.proofs.Common.{with_stack, abilities_of, Leaf, Local, Place, Ref, Root, Stored, Struct, Value, list_of, value_at, same_struct-is, Numbered, Balances, IsAbleStore, IsFine, held}
use Rattle.mv_ledger_state.proofs.Common.{held_in_frame, held_in_frames, held_in_local, held_in_locals, held_in_stack, made, unmade, FrameIsKept, FramesAreKept, IsKept, IsScarce, LocalIsKept}
use Rattle.mv_ledger_state.proofs.Common.{LocalsAreKept, StackIsKept}
use Rattle.mv_soundness.proofs.Typing.Frames.{held_entry, written_below}
use Rattle.mv_soundness.proofs.Typing.Write.{numbers_stay, root-stack}
use Rattle.mv_ledger_state.proofs.Counting.Counts.{held-set, kept-set, kept-get, none_in, lacks_copy, lacks_drop, held-append, held-reverse, held-list_of, held-fields_of, held-entered, kept-append}
use Rattle.mv_ledger_state.proofs.Counting.Counts.{kept-first, kept-rest, kept-reverse, kept-list_of, kept-entered, kept-value_at, Replaces, replaces-at}
use Rattle.mv_ledger_state.proofs.Counting.Stored.{count-over, kept-stored_at, kept-with, ascending-with, count-without, count-new, kept-without, ascending-without}
use Rattle.mv_machine.specs.StepParts.{can_drop}
use Rattle.mv_ledger_state.proofs.Counting.Own.{with_root-events}
use Rattle.mv_ledger_state.proofs.Counting.Packs.{packed-kept, tag_of-abilities, has_tag-abilities}

-- ---- counts in frames and states, and what a write at a root does to them

-- a write to a local counts the old value out and the new one in
pub held-frames : (name : StructName) (n l : ℕ) (old new : Value) (m : ℕ) (fs : List Frame) → Numbered m fs → local_in fs n l ≡ Some old →
    held_in_frames name (map (with_local n l new) fs) + count_in name old ≡ held_in_frames name fs + count_in name new
held-frames name n l old new m [] numbered e = absurd cc
held-frames name n l old new m (f ∷ fs) numbered e = by_case (f.number == n) refl e (held-frames name n l old new f.number fs numbered.1)
  where
    by_case : (b : Bool) → (f.number == n) ≡ b → cond b (local_value f l) (local_in fs n l) ≡ Some old →
        (local_in fs n l ≡ Some old → held_in_frames name (map (with_local n l new) fs) + count_in name old ≡ held_in_frames name fs + count_in name new) →
        (held_in_frame name (cond b (record f { locals = slice_set f.locals l (Some new) }) f) + held_in_frames name (map (with_local n l new) fs)) + count_in name old
        ≡ (held_in_frame name f + held_in_frames name fs) + count_in name new
    by_case false s g ih = let i : held_in_frames name (map (with_local n l new) fs) + count_in name old ≡ held_in_frames name fs + count_in name new = ih g in omega (arith, i)
    by_case true s g ih =
        let rest : held_in_frames name (map (with_local n l new) fs) ≡ held_in_frames name fs = ap (held_in_frames name)
        (written_below n l new f.number fs numbered.1 (let same : f.number ≡ n = eqb-true f.number n s in omega (arith, same))) in
        let here : held_in_locals name (slice_set f.locals l (Some new)) + count_in name old ≡ held_in_locals name f.locals + count_in name new = held-set name f.locals l (Some old) (Some new)
        (held_entry f l old g) in
        omega (arith, rest, here)

pub kept-local_in : (modules : List Module) (n l : ℕ) (v : Value) (fs : List Frame) → FramesAreKept modules fs → local_in fs n l ≡ Some v → IsKept modules v
kept-local_in modules n l v [] kept e = absurd cc
kept-local_in modules n l v (f ∷ fs) kept e =
    let here : local_value f l ≡ Some v → IsKept modules v = λ g. kept-get modules f.locals l (Some v) kept.0.locals (held_entry f l v g) in
    grind (arith, here, kept-local_in modules n l v fs kept.1)

kept-with_local : (modules : List Module) (n l : ℕ) (v : Value) (f : Frame) → FrameIsKept modules f → IsKept modules v → FrameIsKept modules (with_local n l v f)
kept-with_local modules n l v f kept new = cond_both (f.number == n) (record f { locals = slice_set f.locals l (Some v) }) f (FrameIsKept modules)
    (λ e. record { locals = kept-set modules f.locals l (Some v) kept.locals new; stack = kept.stack }) (λ e. kept)

pub kept-frames : (modules : List Module) (n l : ℕ) (v : Value) (fs : List Frame) → FramesAreKept modules fs → IsKept modules v → FramesAreKept modules (map (with_local n l v) fs)
kept-frames modules n l v [] kept new = tt
kept-frames modules n l v (f ∷ fs) kept new = (kept-with_local modules n l v f kept.0 new, kept-frames modules n l v fs kept.1 new)

-- ---- a state with other operands, and a write at a root

-- other locals and operands of the frame on top, and other events
pub fine-top : (modules : List Module) (s : State) (locals : List (Option Value)) (stack : List Value) (events : List Event) → IsFine modules s → LocalsAreKept modules locals
    → StackIsKept modules stack
    → IsFine modules (record s { top = record s.top { locals = locals; stack = stack }; events = events })
fine-top modules s locals stack events fine kept also = record {
  framed = (record { locals = kept; stack = also }, fine.framed.1);
  stored = fine.stored;
  ascending = fine.ascending;
  numbered = fine.numbered;
}

pub fine-stack : (modules : List Module) (s : State) (stack : List Value) → IsFine modules s → StackIsKept modules stack → IsFine modules (with_stack s stack)
fine-stack modules s stack fine kept = fine-top modules s s.top.locals stack s.events fine fine.framed.0.locals kept

pub kept-root : (modules : List Module) (s : State) (root : Root) (v : Value) → IsFine modules s → root_value s root ≡ Some v → IsKept modules v
kept-root modules s (Local n l) v fine e = kept-local_in modules n l v (frames s) fine.framed e
kept-root modules s (Stored key) v fine e = kept-stored_at modules s.storage key v fine.stored e

pub fine-root : (modules : List Module) (s : State) (root : Root) (v : Value) → IsFine modules s → IsKept modules v → IsFine modules (with_root s root v)
fine-root modules s (Local n l) v fine kept = record {
  framed = kept-frames modules n l v (frames s) fine.framed kept;
  stored = fine.stored;
  ascending = fine.ascending;
  numbered = numbers_stay n l v s.entered (frames s) fine.numbered;
}
fine-root modules s (Stored key) v fine kept = record {
  framed = fine.framed;
  stored = kept-with modules s.storage key v fine.stored kept;
  ascending = ascending-with s.storage key v fine.ascending;
  numbered = fine.numbered;
}

-- the old value is counted out, the new one in
pub held-root : (modules : List Module) (name : StructName) (s : State) (root : Root) (old new : Value) → IsFine modules s → root_value s root ≡ Some old →
    held name (with_root s root new) + count_in name old ≡ held name s + count_in name new
held-root modules name s (Local n l) old new fine e =
    let h : held_in_frames name (map (with_local n l new) (frames s)) + count_in name old ≡ held_in_frames name (frames s) + count_in name new = held-frames name n l old new s.entered (frames s)
    fine.numbered e in
    omega (arith, h)
held-root modules name s (Stored key) old new fine e = let h = count-over name s.storage key old new fine.ascending e in omega (arith, h)

-- ---- what is dropped or copied holds none

dropped-none : (h : Here) (name : StructName) (vs : List Value) → IsScarce h.modules name → StackIsKept h.modules vs → AllByRecursion (λ v. can_drop h v ≡ true) vs → held_in_stack name vs ≡ 0
dropped-none h name [] scarce kept d = refl
dropped-none h name (v ∷ vs) scarce kept d =
    omega (arith, none_in h.modules name (λ a. a.drop) (lacks_drop h.modules name scarce) v kept.0 d.0, dropped-none h name vs scarce kept.1 d.1)

lost-none : (h : Here) (name : StructName) (x : Option Value) → IsScarce h.modules name → LocalIsKept h.modules x → may_drop h x ≡ true → held_in_local name x ≡ 0
lost-none h name None scarce kept d = refl
lost-none h name (Some v) scarce kept d = none_in h.modules name (λ a. a.drop) (lacks_drop h.modules name scarce) v kept d

pub left-none : (h : Here) (name : StructName) (xs : List (Option Value)) → IsScarce h.modules name → LocalsAreKept h.modules xs → list_all (may_drop h) xs ≡ true → held_in_locals name xs ≡ 0
left-none h name [] scarce kept d = refl
left-none h name (x ∷ xs) scarce kept d =
    let first : held_in_local name x ≡ 0 = lost-none h name x scarce kept.0 (first_so (may_drop h x) (list_all (may_drop h) xs) d) in
    omega (arith, first, left-none h name xs scarce kept.1 (second_so (may_drop h x) (list_all (may_drop h) xs) d))

stands-kept : (modules : List Module) (s : State) (v : Value) → IsFine modules s → Stands s v → IsKept modules v
stands-kept modules s _ fine (in_local l v e) = kept-get modules s.top.locals l (Some v) fine.framed.0.locals e
stands-kept modules s _ fine (at_place p v e) =
    let found = then-is (λ x. value_at x p.path) (root_value s p.root) v e in
    kept-value_at modules p.path found.0 v (kept-root modules s p.root found.0 fine found.1) found.2

appears-kept : (h : Here) (v : Value) → IsFine h.modules h.state → Appears h v → IsKept h.modules v
appears-kept h _ fine (a_copy v c stands) = stands-kept h.modules h.state v fine stands
appears-kept _ _ _ _ = tt

appear-kept : (h : Here) (vs : List Value) → IsFine h.modules h.state → AllByRecursion (Appears h) vs → StackIsKept h.modules vs
appear-kept h [] fine a = tt
appear-kept h (v ∷ vs) fine a = (appears-kept h v fine a.0, appear-kept h vs fine a.1)

appears-none : (h : Here) (name : StructName) (v : Value) → IsScarce h.modules name → IsFine h.modules h.state → Appears h v → count_in name v ≡ 0
appears-none h name _ scarce fine (a_copy v c stands) = none_in h.modules name (λ a. a.copy) (lacks_copy h.modules name scarce) v (stands-kept h.modules h.state v fine stands) c
appears-none _ _ _ _ _ _ = refl

appear-none : (h : Here) (name : StructName) (vs : List Value) → IsScarce h.modules name → IsFine h.modules h.state → AllByRecursion (Appears h) vs → held_in_stack name vs ≡ 0
appear-none h name [] scarce fine a = refl
appear-none h name (v ∷ vs) scarce fine a = omega (arith, appears-none h name v scarce fine a.0, appear-none h name vs scarce fine a.1)

-- ---- a write at a place

-- a write through a reference, and what it replaces
record Wrote (modules : List Module) (s : State) (root : Root) (next : State) (gone new : Value) : Type 0 where
  old_root : Value
  new_root : Value
  old_is : root_value s root ≡ Some old_root
  next_is : with_root s root new_root ≡ next
  replaces : Replaces modules old_root new_root gone new

-- the write of a value of the old one's abilities, on a state with fewer operands
wrote : (modules : List Module) (s : State) (below : List Value) (p : Place) (old new : Value) (next : State) → IsFine modules s → IsKept modules new →
    abilities_of modules new ≡ abilities_of modules old → place_value s p ≡ Some old → with_place (with_stack s below) p new ≡ Some next → Wrote modules (with_stack s below) p.root next old new
wrote modules s below p old new next fine kept same old_is next_is =
    let w = place-written (with_stack s below) p new next next_is in
    let found = then-is (λ x. value_at x p.path) (root_value s p.root) old old_is in
    let one : found.0 ≡ w.old = same_Some found.0 w.old (sym found.1 ∙ (sym (root-stack s below p.root) ∙ w.old_is)) in
    let at : value_at w.old p.path ≡ Some old = subst (λ x. value_at x p.path ≡ Some old) one found.2 in
    let root_kept : IsKept modules w.old = subst (IsKept modules) one (kept-root modules s p.root found.0 fine found.1) in
    record {
      old_root = w.old;
      new_root = w.new;
      old_is = w.old_is;
      next_is = w.next_is;
      replaces = replaces-at modules p.path w.old w.new old new root_kept kept same at w.new_is;
    }

kept-unreverse : (modules : List Module) (vs : List Value) → StackIsKept modules (reverse vs) → StackIsKept modules vs
kept-unreverse modules vs kept = subst (StackIsKept modules) (reverse-reverse vs) (kept-reverse modules (reverse vs) kept)

-- ---- states stay fine

pub effect-fine : (h : Here) (place : ℕ) (next : State) → IsAbleStore h.modules → slice_get h.modules place ≡ Some h.home → IsFine h.modules h.state → Effect h next → IsFine h.modules next
effect-fine h place _ store home_is fine (Restacked taken given rest s d a) =
    fine-stack h.modules h.state (given ++ rest) fine
    (kept-append h.modules given rest (appear-kept h given fine a) (kept-rest h.modules taken rest (subst (StackIsKept h.modules) s fine.framed.0.stack)))
effect-fine h place _ store home_is fine (MovedLocal l v e) =
    fine-top h.modules h.state (slice_set h.state.top.locals l None) (v ∷ h.state.top.stack) h.state.events fine (kept-set h.modules h.state.top.locals l None fine.framed.0.locals tt)
    (kept-get h.modules h.state.top.locals l (Some v) fine.framed.0.locals e, fine.framed.0.stack)
effect-fine h place _ store home_is fine (StoredLocal l old v below s e d) =
    let kept : StackIsKept h.modules (v ∷ below) = subst (StackIsKept h.modules) s fine.framed.0.stack in
    fine-top h.modules h.state (slice_set h.state.top.locals l (Some v)) below h.state.events fine (kept-set h.modules h.state.top.locals l (Some v) fine.framed.0.locals kept.0) kept.1
effect-fine h place _ store home_is fine (Packed i struct taken rest tags struct_is s named typed) =
    let kept : StackIsKept h.modules (reverse taken ++ rest) = subst (StackIsKept h.modules) s fine.framed.0.stack in
    let fields : StackIsKept h.modules taken = kept-unreverse h.modules taken (kept-first h.modules (reverse taken) rest kept) in
    fine-top h.modules h.state h.state.top.locals _ _ fine fine.framed.0.locals
    (packed-kept h place i struct tags taken store home_is struct_is named typed fields, kept-rest h.modules (reverse taken) rest kept)
effect-fine h place _ store home_is fine (Unpacked i struct own fields below struct_is s same) =
    let kept : StackIsKept h.modules (Struct own fields ∷ below) = subst (StackIsKept h.modules) s fine.framed.0.stack in
    let inner : StackIsKept h.modules (list_of fields) = kept-list_of h.modules (kept.0).0 fields (kept.0).2 in
    fine-top h.modules h.state h.state.top.locals _ _ fine fine.framed.0.locals (kept-append h.modules (reverse (list_of fields)) below (kept-reverse h.modules (list_of fields) inner) kept.1)
effect-fine h place _ store home_is fine (Written r new old below tag next s old_is tag_is typed d next_is) =
    let kept : StackIsKept h.modules (Ref r ∷ new ∷ below) = subst (StackIsKept h.modules) s fine.framed.0.stack in
    let same : abilities_of h.modules new ≡ abilities_of h.modules old = has_tag-abilities h.modules h.state new tag typed ∙ sym (tag_of-abilities h.modules h.state old tag tag_is) in
    let w = wrote h.modules h.state below r.place old new next fine kept.1.0 same old_is next_is in
    subst (IsFine h.modules) w.next_is (fine-root h.modules (with_stack h.state below) r.place.root w.new_root (fine-stack h.modules h.state below fine kept.1.1) w.replaces.kept)
effect-fine h place _ store home_is fine (MovedFrom key a v below s e) =
    let kept : StackIsKept h.modules (Leaf Address a ∷ below) = subst (StackIsKept h.modules) s fine.framed.0.stack in
    record {
      framed = (record { locals = fine.framed.0.locals; stack = (kept-stored_at h.modules h.state.storage key v fine.stored e, kept.1) }, fine.framed.1);
      stored = kept-without h.modules h.state.storage key fine.stored;
      ascending = ascending-without h.state.storage key fine.ascending;
      numbered = fine.numbered;
    }
effect-fine h place _ store home_is fine (MovedTo key r v below s e) =
    let kept : StackIsKept h.modules (v ∷ Ref r ∷ below) = subst (StackIsKept h.modules) s fine.framed.0.stack in
    record {
      framed = (record { locals = fine.framed.0.locals; stack = kept.1.1 }, fine.framed.1);
      stored = kept-with h.modules h.state.storage key v fine.stored kept.0;
      ascending = ascending-with h.state.storage key v fine.ascending;
      numbered = fine.numbered;
    }
effect-fine h place _ store home_is fine (Called function others taken rest s) =
    let kept : StackIsKept h.modules (reverse taken ++ rest) = subst (StackIsKept h.modules) s fine.framed.0.stack in
    record {
      framed = (
        record { locals = kept-entered h.modules taken others (kept-unreverse h.modules taken (kept-first h.modules (reverse taken) rest kept)); stack = tt },
        (record { locals = fine.framed.0.locals; stack = kept-rest h.modules (reverse taken) rest kept }, fine.framed.1),
      );
      stored = fine.stored;
      ascending = fine.ascending;
      numbered = (omega arith, fine.numbered);
    }
effect-fine h place _ store home_is fine (Resumed results f fs s d e) =
    let kept : StackIsKept h.modules (reverse results) = subst (StackIsKept h.modules) s fine.framed.0.stack in
    let under : FramesAreKept h.modules (f ∷ fs) = subst (FramesAreKept h.modules) e fine.framed.1 in
    let numbers : Numbered h.state.top.number (f ∷ fs) = subst (Numbered h.state.top.number) e fine.numbered.1 in
    record {
      framed = (record { locals = under.0.locals; stack = kept-append h.modules (reverse results) f.stack kept under.0.stack }, under.1);
      stored = fine.stored;
      ascending = fine.ascending;
      numbered = (omega (arith, fine.numbered.0, numbers.0), numbers.1);
    }

-- ---- what is held is balanced

-- a state that differs in its operands alone
stack-balances : (name : StructName) (s : State) (stack : List Value) → held_in_stack name stack ≡ held_in_stack name s.top.stack → Balances name s (with_stack s stack)
stack-balances name s stack e = omega (arith, e)

written-balances : (modules : List Module) (name : StructName) (s : State) (below : List Value) (root : Root) (old_root new_root old new : Value) → IsFine modules s → StackIsKept modules below →
    root_value (with_stack s below) root ≡ Some old_root → count_in name new_root + count_in name old ≡ count_in name old_root + count_in name new →
    held_in_stack name s.top.stack ≡ 0 + (count_in name new + held_in_stack name below) → count_in name old ≡ 0 → Balances name s (with_root (with_stack s below) root new_root)
written-balances modules name s below root old_root new_root old new fine kept old_is counts before out =
    let moved : held name (with_root (with_stack s below) root new_root) + count_in name old_root ≡ held name (with_stack s below) + count_in name new_root =
    held-root modules name (with_stack s below) root old_root new_root (fine-stack modules s below fine kept) old_is in
    let ups : made name (with_root (with_stack s below) root new_root).events ≡ made name s.events = ap (made name) (with_root-events (with_stack s below) root new_root) in
    let downs : unmade name (with_root (with_stack s below) root new_root).events ≡ unmade name s.events = ap (unmade name) (with_root-events (with_stack s below) root new_root) in
    omega (arith, counts, before, out, moved, ups, downs)

pub effect-balances : (h : Here) (name : StructName) (next : State) → IsScarce h.modules name → IsFine h.modules h.state → Effect h next → Balances name h.state next
effect-balances h name _ scarce fine (Restacked taken given rest s d a) =
    let kept : StackIsKept h.modules (taken ++ rest) = subst (StackIsKept h.modules) s fine.framed.0.stack in
    let out : held_in_stack name taken ≡ 0 = dropped-none h name taken scarce (kept-first h.modules taken rest kept) d in
    let into : held_in_stack name given ≡ 0 = appear-none h name given scarce fine a in
    let before : held_in_stack name h.state.top.stack ≡ held_in_stack name taken + held_in_stack name rest = ap (held_in_stack name) s ∙ held-append name taken rest in
    let after : held_in_stack name (given ++ rest) ≡ held_in_stack name given + held_in_stack name rest = held-append name given rest in
    stack-balances name h.state (given ++ rest) (omega (arith, out, into, before, after))
effect-balances h name _ scarce fine (MovedLocal l v e) = omega (arith, held-set name h.state.top.locals l (Some v) None e)
effect-balances h name _ scarce fine (StoredLocal l old v below s e d) =
    let before : held_in_stack name h.state.top.stack ≡ count_in name v + held_in_stack name below = ap (held_in_stack name) s in
    let out : held_in_local name old ≡ 0 = lost-none h name old scarce (kept-get h.modules h.state.top.locals l old fine.framed.0.locals e) d in
    let set : held_in_locals name (slice_set h.state.top.locals l (Some v)) + held_in_local name old ≡ held_in_locals name h.state.top.locals + count_in name v = held-set name h.state.top.locals l old
    (Some v) e in
    omega (arith, before, out, set)
effect-balances h name _ scarce fine (Packed i struct taken rest tags struct_is s named typed) =
    let before : held_in_stack name h.state.top.stack ≡ held_in_stack name taken + held_in_stack name rest =
    ap (held_in_stack name) s ∙ (held-append name (reverse taken) rest ∙ ap (λ n. n + held_in_stack name rest) (held-reverse name taken)) in
    omega (arith, before, held-fields_of name taken)
effect-balances h name _ scarce fine (Unpacked i struct own fields below struct_is s same) =
    let own_stack : h.state.top.stack ≡ Struct struct.name fields ∷ below = s ∙ ap (λ (n : StructName). Struct n fields ∷ below) (same_struct-is own struct.name same) in
    let before : held_in_stack name h.state.top.stack ≡ (cond (same_struct struct.name name) 1 0 + count_in_fields name fields) + held_in_stack name below = ap (held_in_stack name) own_stack in
    let after : held_in_stack name (reverse (list_of fields) ++ below) ≡ count_in_fields name fields + held_in_stack name below =
    held-append name (reverse (list_of fields)) below ∙ ap (λ n. n + held_in_stack name below) (held-reverse name (list_of fields) ∙ held-list_of name fields) in
    omega (arith, before, after)
effect-balances h name _ scarce fine (Written r new old below tag next s old_is tag_is typed d next_is) =
    let kept : StackIsKept h.modules (Ref r ∷ new ∷ below) = subst (StackIsKept h.modules) s fine.framed.0.stack in
    let same : abilities_of h.modules new ≡ abilities_of h.modules old = has_tag-abilities h.modules h.state new tag typed ∙ sym (tag_of-abilities h.modules h.state old tag tag_is) in
    let w = wrote h.modules h.state below r.place old new next fine kept.1.0 same old_is next_is in
    let before : held_in_stack name h.state.top.stack ≡ 0 + (count_in name new + held_in_stack name below) = ap (held_in_stack name) s in
    let out : count_in name old ≡ 0 = none_in h.modules name (λ a. a.drop) (lacks_drop h.modules name scarce) old (stands-kept h.modules h.state old fine (at_place r.place old old_is)) d in
    subst (Balances name h.state) w.next_is
    (written-balances h.modules name h.state below r.place.root w.old_root w.new_root old new fine kept.1.1 w.old_is (w.replaces.counts name) before out)
effect-balances h name _ scarce fine (MovedFrom key a v below s e) =
    let before : held_in_stack name h.state.top.stack ≡ 0 + held_in_stack name below = ap (held_in_stack name) s in
    omega (arith, before, count-without name h.state.storage key v e)
effect-balances h name _ scarce fine (MovedTo key r v below s e) =
    let before : held_in_stack name h.state.top.stack ≡ count_in name v + (0 + held_in_stack name below) = ap (held_in_stack name) s in
    omega (arith, before, count-new name h.state.storage key v e)
effect-balances h name _ scarce fine (Called function others taken rest s) =
    let before : held_in_stack name h.state.top.stack ≡ held_in_stack name taken + held_in_stack name rest =
    ap (held_in_stack name) s ∙ (held-append name (reverse taken) rest ∙ ap (λ n. n + held_in_stack name rest) (held-reverse name taken)) in
    omega (arith, before, held-entered name taken others)
effect-balances h name _ scarce fine (Resumed results f fs s d e) =
    let before : held_in_stack name h.state.top.stack ≡ held_in_stack name (reverse results) = ap (held_in_stack name) s in
    let under : held_in_frames name h.state.below ≡ held_in_frame name f + held_in_frames name fs = ap (held_in_frames name) e in
    omega (arith, before, left-none h name h.state.top.locals scarce fine.framed.0.locals d, under, held-append name (reverse results) f.stack)
