-- The invariant gives what the rules of types need of borrows at each step.
use Rattle.mv_soundness.proofs.Guided.Common.{◌≡◌, ℕ, List, sym, ◌∙◌, ap, subst, Option, Some, None, same_Some, slice_get, option_and_then, Module, FunctionDefinition, local_type, Glob}
use Rattle.mv_soundness.proofs.Guided.Common.{Instruction, Ret, StLoc, MoveFrom, MoveLoc, Token, reference_of, State, Value, no_edge_out, Certificate, on_bind, Point, token_kind}
use Rattle.mv_soundness.proofs.Guided.Common.{operand_kind, Reaches, Stood, StoreFacts, TypeFacts, Guided}
use Rattle.mv_certificate_rules.specs.BorrowRules.{edges_after}
use Rattle.mv_soundness.proofs.{Borrows.Edges.then-some, Guided.Before.Onward, Guided.Before.goes-on, Guided.Working.Working, Guided.Working.worked, Guided.Working.working}
use Rattle.mv_soundness.proofs.{Guided.Unfrozen.moved-free, Guided.Unfrozen.stored-free, Guided.Avoids.local-unreached, Guided.Avoids.struct-unreached, Guided.Avoids.leaving}
use Rattle.mv_soundness.proofs.{Guided.Accepted.flows-at}
use Rattle.mv_soundness.specs.Typing.Unreached.{Guarded, StepGuarded}

module _ (depends : ℕ → ℕ → Type 0) (modules : List Module) (certificates : List Certificate) (store : StoreFacts depends modules certificates)
    (s : State) (w : Working depends modules certificates s) (facts : TypeFacts modules s) where
  abbrev p : Point
  p = record { home = w.home; function = w.function; types = w.types }

  abbrev x : Stood
  x = worked s w.home w.function w.types w.known.edges

  -- what a local holds that is no reference is of no reference's type
  plain-at : (l : ℕ) (t : Token) (v : Value) → local_type w.home w.function l ≡ Some t → slice_get s.top.locals l ≡ Some (Some v) → reference_of v ≡ None → token_kind t ≡ None
  plain-at l t v t_is at none =
      let u = w.fits.locals l v (ap (λ (o : Option (Option Value)). option_and_then (λ y. y) o) at) in
      ap token_kind (same_Some t u.0 (sym t_is ∙ u.1)) ∙ u.2 ∙ ap operand_kind none

  guarded : (i : Instruction) → Reaches w.function.acquires i → Onward w.home w.function w.stated s.top.at i w.known w.types → Guarded i s
  unfolding edges_after
  guarded (MoveLoc l) q o = λ v at none.
      on_bind (local_type w.home w.function l) _ o.next.edges o.edges (λ t t_is g.
      local-unreached depends store.through store.no_cycle s x w.waiting w.sound.stood w.sound.chain l
      (moved-free p l t w.known.edges o.next.edges g (plain-at l t v t_is at none)))
  guarded (StLoc l) q o = λ v at none.
      on_bind (local_type w.home w.function l) _ o.next.edges o.edges (λ t t_is g.
      local-unreached depends store.through store.no_cycle s x w.waiting w.sound.stood w.sound.chain l
      (stored-free p l t w.known.edges o.next.edges g (plain-at l t v t_is at none)))
  guarded (MoveFrom k) q o = λ a rest e.
      struct-unreached depends store.through store.no_cycle s x w.waiting w.sound.stood w.sound.chain k a q (then-some (no_edge_out (Glob k) w.known.edges) w.known.edges o.next.edges o.edges).0
  guarded Ret q o = leaving depends store.through store.no_cycle s x w.waiting w.sound.stood w.sound.chain p (o.edges ∙ ap Some (then-some _ w.known.edges o.next.edges o.edges).1)
  guarded i q o = tt

-- at the instruction that comes next no live reference leads into what it empties, overwrites or leaves behind
pub guards : (depends : ℕ → ℕ → Type 0) (modules : List Module) (certificates : List Certificate) → StoreFacts depends modules certificates
    → (s : State) → Guided depends modules certificates s → TypeFacts modules s → StepGuarded modules s
guards depends modules certificates store s g facts home function i is_home is_function is_next =
    let w = working depends modules certificates s g facts.fit in
    let one : home ≡ w.home = same_Some home w.home (sym is_home ∙ w.is_home) in
    let same : function ≡ w.function = same_Some function w.function (sym (subst (λ (m : Module). slice_get m.functions s.top.function.index ≡ Some function) one is_function) ∙ w.is_function) in
    let at : slice_get w.function.code s.top.at ≡ Some i = subst (λ (d : FunctionDefinition). slice_get d.code s.top.at ≡ Some i) same is_next in
    let fl = flows-at depends modules certificates store s.top.function.place s.top.function.index w.home w.function w.certificate w.stated w.is_home w.is_function w.is_certificate w.is_stated in
    guarded depends modules certificates store s w facts i (store.reaches s.top.function.place s.top.function.index s.top.at w.home w.function i w.is_home w.is_function at)
    (goes-on w.home w.function w.stated fl.start fl.locals fl.edges s.top.at w.known w.types i w.is_known at)
