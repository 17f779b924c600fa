-- The first state of a run, whose arguments are no references.
use Rattle.mv_soundness.proofs.Borrows.Common.{refl, sym, ◌≡◌, ℕ, List, [], ◌∷◌, ap, subst, zero, suc, ◌++◌, map, Some, None, reverse, ◌∙◌, ◌<◌, same_Some, none-some, slice_get}
use Rattle.mv_soundness.proofs.Borrows.Common.{replicate, Module, FunctionDefinition, reference_of, State, Value, TheNode, AtTemp, TheRef, Live, AtSlot, seen_frame, stack_ref}
use Rattle.mv_soundness.proofs.Borrows.Common.{refs_among, Edge, Types, map-turned, NoneOf, StoodOn, Descending, Sound, held_as, activation, alone}
use Rattle.mv_borrow_graph.proofs.Abstract.Terms.Stack.{Bottom}
use Rattle.mv_soundness.proofs.{Borrows.Lists.local-back, Borrows.Operands.none-reverse, Borrows.Calls.homed}

none-given : (args : List Value) (n l : ℕ) (v : Value) → NoneOf args → slice_get (map Some args ++ replicate n None) l ≡ Some (Some v) → reference_of v ≡ None
none-given [] (suc n) (suc l) v h e = none-given [] n l v h e
none-given (a ∷ args) n zero v h e = ap reference_of (sym (same_Some a v (same_Some (Some a) (Some v) e))) ∙ h.0
none-given (a ∷ args) n (suc l) v h e = none-given args n l v h.1 e
none-given [] n l v h e = absurd cc

none-among : (args : List Value) → NoneOf args → refs_among (map held_as (map reference_of args)) ≡ []
none-among [] h = refl
none-among (a ∷ args) h = rw h.0 (none-among args h.1)

pub sound-start : (depends : ℕ → ℕ → Type 0) (s : State) (home : Module) (function : FunctionDefinition) (types : Types) (edges : List Edge) (args : List Value) (n : ℕ) → s.below ≡ []
    → s.top.entered_with ≡ map reference_of args → s.top.locals ≡ map Some args ++ replicate n None → s.top.stack ≡ [] → NoneOf args → s.top.number < s.entered
    → Sound depends s (record { home = home; function = function; frame = s.top; lent = []; types = types; edges = edges }) []
sound-start depends s home function types edges args n below entered locals stack none next = record {
  stood = (refl, refl, subst (λ fs. StoodOn s.top.entered_with fs []) (sym below) tt);
  chain = Bottom (record {
    own = λ m r l h k. absurd (none-live m r h);
    glob = λ m r a t h k q. absurd (none-live m r h);
    pairs = λ m k q r d h g o u. absurd (none-live m q h);
    origin = λ m r h. absurd (none-live m r h);
  }) (homed function.acquires (alone s.top))
      (ap (λ l. refs_among (map held_as (reverse l))) entered ∙ ap (λ l. refs_among (map held_as l)) (sym (map-turned reference_of args)) ∙ none-among (reverse args) (none-reverse args none));
  links = tt;
  ordered = subst (λ fs. Descending (s.top ∷ fs)) (sym below) (tt, tt);
  next = next;
}
  where
    none-live : (m : TheNode) (r : TheRef) → Live (seen_frame (activation function.acquires (alone s.top))) m r → ⊥
    none-live (AtSlot l) r h =
        let t = local-back s.top.locals l r h in
        absurd (none-some t.1 (sym (none-given args n l t.0 none (ap (λ xs. slice_get xs l) (sym locals) ∙ t.2)) ∙ t.3))
    none-live (AtTemp k) r h = none-some r (ap (λ (xs : List Value). stack_ref (map held_as (map reference_of xs)) k) (sym stack) ∙ h)
    none-live m r h = cc
