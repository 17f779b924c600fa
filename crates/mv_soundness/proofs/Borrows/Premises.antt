-- The frame at work stands on the chain of frames: what its next step may be proved from, and how a step ends that keeps the chain.
use Rattle.mv_soundness.proofs.Borrows.Common.{refl, sym, ◌≡◌, ℕ, List, [], ◌∷◌, ◌⊎◌, ap, subst, suc, map, length, Option, Some, None, Ok, ◌+◌, ◌-◌, ◌∙◌, arith, Result, Err, same_Some}
use Rattle.mv_soundness.proofs.Borrows.Common.{⊤, slice_get, option_and_then, successors, local_type, Temp, Instruction, Call, Ret, Token, ok-is, GivesLeaf, reference_of, Frame, State}
use Rattle.mv_soundness.proofs.Borrows.Common.{Here, Turn, gives, with_top, Goes, Reference, Value, Kinds, Chain, Layer, Edge, without, Types, Point, token_kind, operand_kind, Fits}
use Rattle.mv_soundness.proofs.Borrows.Common.{NoneInside, home_of, activation, layer_of, kind_at, alone}
use Rattle.mv_machine.specs.{Typing.Failure, StepParts.Returns, StepParts.pushes, StepParts.operands}
use Rattle.mv_soundness.proofs.{Borrows.Same.SameFrames, Borrows.Same.same-all, Borrows.Mutability.kinds, Borrows.Mutability.kinds-length, Borrows.Operands.on_result}
use Rattle.mv_soundness.proofs.{Borrows.Operands.leaf-falls}
use Rattle.mv_soundness.proofs.Borrows.Kept.{Falls, falls-pushed, falls-same, below-from, kept-falls, kept-drop, Stand}

-- a number is in a list
abbrev pub Among : ℕ → List ℕ → Type 0
Among n [] = ⊥
Among n (x ∷ xs) = (n ≡ x) ⊎ Among n xs

abbrev goes_with_result : State → Result Turn Failure
goes_with_result t = Ok (Goes t)

-- what a step of the frame at work leaves as it was, and where it goes on
abbrev pub Stays : Instruction → State → State → Type 0
Stays i s t =
    (t.top.number ≡ s.top.number) × (t.top.function ≡ s.top.function) × (t.top.entered_with ≡ s.top.entered_with) × SameFrames s.below t.below × (t.entered ≡ s.entered)
    × Among t.top.at (successors s.top.at i)

-- an instruction that ends a frame or begins one
abbrev pub IsTransfer : Instruction → Type 0
IsTransfer (Call i) = ⊤
IsTransfer Ret = ⊤
IsTransfer _ = ⊥

-- a state whose frames are a chain, as the edges of the frame at work say, with what the rules on types say of its locals and operands
pub record Premises : Type 1 where
  pub depends : ℕ → ℕ → Type 0
  pub through : (a b c : ℕ) → depends a b → depends b c → depends a c
  pub no_cycle : (a : ℕ) → depends a a → ⊥
  pub rest : List Layer
  pub h : Here
  pub types : Types
  pub es : List Edge
  pub stands : Chain depends home_of (layer_of h.function.acquires (alone h.state.top) es ∷ rest)
  pub fits : Fits (record { home = h.home; function = h.function; types = types }) (alone h.state.top)
  pub inside : NoneInside h.state

-- the references on its stack, the topmost first, where its types are stated, and its module's place
pub record View : Type 0 where
  pub os : List (Option Reference)
  pub p : Point
  pub place : ℕ

abbrev pub view : Premises → View
view this = record {
  os = map reference_of this.h.state.top.stack;
  p = record { home = this.h.home; function = this.h.function; types = this.types };
  place = this.h.state.top.function.place;
}

module _ (this : Premises) where
  open this use {depends, through, no_cycle, rest, h, types, es, stands, fits, inside}
  open view this use {os, p, place}

  -- the chain with a frame of this function on top
  abbrev pub StandTop : Frame → List Edge → Type 1
  StandTop f edges = Chain depends home_of (layer_of h.function.acquires (alone f) edges ∷ rest)

  -- what a step that went on leaves
  abbrev pub Kept : Instruction → List Edge → Result Turn Failure → Type 1
  Kept i edges (Ok (Goes t)) = StandTop t.top edges × Stays i h.state t
  Kept i edges (Ok (Returns t)) = Unit {1}
  Kept i edges (Err e) = Unit {1}

  pub size : length types ≡ length os
  size = kinds-length types os fits.stack

  pub typed : Kinds (activation h.function.acquires (alone h.state.top)) (kind_at p)
  typed = kinds p h.function.acquires (alone h.state.top) fits

  abbrev pub StandList : List (Option Value) → List (Option Reference) → List Edge → Type 1
  StandList locals operands edges = Stand depends through no_cycle h.function.acquires h.state.top rest locals operands edges

  -- a place of the stack, as the rules on types count it
  pub under : (s : List (Option Reference)) (x : Option Reference) → os ≡ x ∷ s → length types - 1 ≡ length s
  under s x e = let n : length os ≡ suc (length s) = ap length e in let m : length types ≡ length os = size in omega arith

  pub at_next : (g : ℕ → List Edge) (locals : List (Option Value)) (operands : List (Option Reference)) → StandList locals operands (g (length os)) → StandList locals operands (g (length types))
  at_next g locals operands s = subst (λ n. StandList locals operands (g n)) (sym size) s

  pub at_top : (g : ℕ → List Edge) (locals : List (Option Value)) (operands s : List (Option Reference)) (x : Option Reference) → os ≡ x ∷ s
      → StandList locals operands (g (length s)) → StandList locals operands (g (length types - 1))
  at_top g locals operands s x e z = subst (λ n. StandList locals operands (g n)) (sym (under s x e)) z

  -- what the types say of a local's value
  pub local-kind : (l : ℕ) (v : Value) (t : Token) → slice_get h.state.top.locals l ≡ Some (Some v) → local_type h.home h.function l ≡ Some t → token_kind t ≡ operand_kind (reference_of v)
  local-kind l v t at is =
      let u = fits.locals l v (ap (λ (x : Option (Option Value)). option_and_then (λ y. y) x) at) in
      ap token_kind (same_Some t u.0 (sym is ∙ u.1)) ∙ u.2

  -- ---- how a step ends
  pub ends : (i : Instruction) (t : State) (y : Turn) (edges edges' : List Edge) → goes_with_result t ≡ Ok y → edges ≡ edges' → StandTop t.top edges × Stays i h.state t → Kept i edges' (Ok y)
  ends i t y edges edges' e g x = subst (λ u. Kept i u (Ok y)) g (subst (λ u. Kept i edges (Ok u)) (ok-is (Goes t) y e) x)

  -- no reference comes, and the edges stay
  pub calm : (s : List Value) (at : ℕ) → Falls os (map reference_of s) → StandTop (record (h.state.top) { stack = s; at = at }) es
  calm s at falls =
      kept-falls depends through no_cycle h.function.acquires h.state.top rest h.state.top.locals os es stands h.state.top.locals (map reference_of s) es
      (λ l v r at is. at) falls (below-from _ _ (λ q x c e. e))

  pub calm-gives : (i : Instruction) (r : Result (List Value) Failure) (y : Turn) (es' : List Edge) → Among (h.state.top.at + 1) (successors h.state.top.at i)
      → gives h r ≡ Ok y → Some es ≡ Some es' → ((s : List Value) → r ≡ Ok s → Falls os (map reference_of s)) → Kept i es' (Ok y)
  calm-gives i r y es' next e g falls =
      on_result r _ y e (λ s s_is e1.
      ends i (with_top h.state (record (h.state.top) { stack = s; at = h.state.top.at + 1 })) y es es' e1 (same_Some es es' g)
      (calm s (h.state.top.at + 1) (falls s s_is), (refl, refl, refl, same-all h.state.below, refl, next)))

  pub calm-leaf : (i : Instruction) (r : Result (List Value) Failure) (y : Turn) (es' : List Edge)
      → ((s : List Value) → r ≡ Ok s → GivesLeaf h h.state.top.stack s) → Among (h.state.top.at + 1) (successors h.state.top.at i) → gives h r ≡ Ok y
      → Some es ≡ Some es' → Kept i es' (Ok y)
  calm-leaf i r y es' leaf next e g = calm-gives i r y es' next e g (λ s s_is. leaf-falls h h.state.top.stack s (leaf s s_is))

  pub calm-pushes : (i : Instruction) (v : Value) (y : Turn) (es' : List Edge) → Among (h.state.top.at + 1) (successors h.state.top.at i)
      → pushes h v ≡ Ok y → Some es ≡ Some es' → reference_of v ≡ None → Kept i es' (Ok y)
  calm-pushes i v y es' next e g none =
      ends i (with_top h.state (record (h.state.top) { stack = v ∷ h.state.top.stack; at = h.state.top.at + 1 })) y es es' e (same_Some es es' g)
      (calm (v ∷ h.state.top.stack) (h.state.top.at + 1) (falls-pushed os os (reference_of v) none (falls-same os)), (refl, refl, refl, same-all h.state.below, refl, next))

  -- the operand on top goes, with its edges
  pub dropped : (v : Value) (s : List Value) → h.state.top.stack ≡ v ∷ s → StandList h.state.top.locals (map reference_of s) (without (Temp (length types - 1)) es)
  dropped v s is =
      at_top (λ n. without (Temp n) es) h.state.top.locals (map reference_of s) (map reference_of s) (reference_of v) (ap (map reference_of) is)
      (kept-drop depends through no_cycle h.function.acquires h.state.top rest h.state.top.locals os es stands (reference_of v) (map reference_of s) (kind_at p) typed (ap (map reference_of) is))

  -- and then no reference comes
  pub dropped-calm : (v : Value) (s t : List Value) (at : ℕ) → h.state.top.stack ≡ v ∷ s → Falls (map reference_of s) (map reference_of t)
      → StandTop (record (h.state.top) { stack = t; at = at }) (without (Temp (length types - 1)) es)
  dropped-calm v s t at is falls =
      kept-falls depends through no_cycle h.function.acquires h.state.top rest h.state.top.locals (map reference_of s) (without (Temp (length types - 1)) es) (dropped v s is)
      h.state.top.locals (map reference_of t) (without (Temp (length types - 1)) es) (λ l v r at is. at) falls (below-from _ _ (λ q x c e. e))
