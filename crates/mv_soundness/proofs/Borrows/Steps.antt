-- One step of the machine keeps the chain of frames: every instruction but Call and Ret, in one table over the families.
use Rattle.mv_soundness.proofs.Borrows.Common.{refl, sym, ◌≡◌, ℕ, List, ◌∷◌, true, false, inl, inr, ap, subst, ◌++◌, map, length, Some, None, Ok, ◌+◌, ◌-◌, reverse, Bool, not, cond}
use Rattle.mv_soundness.proofs.Borrows.Common.{same_Some, beq, ◌==◌, ◌&&◌, ◌||◌, successors, Temp, Instruction, Exists, MutBorrowGlobal, ImmBorrowGlobal, MoveFrom, MoveTo, CopyLoc}
use Rattle.mv_soundness.proofs.Borrows.Common.{MoveLoc, StLoc, MutBorrowLoc, ImmBorrowLoc, MutBorrowField, ImmBorrowField, ReadRef, WriteRef, FreezeRef, reference_of, Turn, gives}
use Rattle.mv_soundness.proofs.Borrows.Common.{with_top, with_stack, truth, Value, Leaf, Struct, Edge, without, Reaches, Descending}
use Rattle.std.specs.Prelude.{nat_le, bit_or, bit_and, bit_xor, nat_lt}
use Rattle.mv_move_types.specs.declared.token.Width.TheVariants.{U8, U16, U32, U64, U128}
use Rattle.mv_move_types.specs.declared.instruction.Instruction.TheVariants.{Pop, BrTrue, BrFalse, Branch, LdU64, LdConst, LdTrue, LdFalse, Pack, Unpack, Add, Sub, Mul, Mod, Div, BitOr}
use Rattle.mv_move_types.specs.declared.instruction.Instruction.TheVariants.{BitAnd, Xor, Or, And, Not, Eq, Neq, Lt, Gt, Le, Ge, Abort, Nop, Shl, Shr, LdU8, LdU128, CastU8, CastU64}
use Rattle.mv_move_types.specs.declared.instruction.Instruction.TheVariants.{CastU128, LdU16, LdU32, CastU16, CastU32}
use Rattle.mv_move_types.specs.declared.token.LeafKind.TheVariants.{Number}
use Rattle.mv_machine.specs.{Value.fields_of, Value.list_of, StepParts.goes_to, StepStructs.pack, StepStructs.unpack, StepStructs.noted, Step.rule, StepLocals.pop, StepNumbers.constant}
use Rattle.mv_machine.specs.{StepControl.branch_if}
use Rattle.mv_machine.specs.Numbers.{sum_of, difference_of, product_of, remainder_of, quotient_of, shifted_left, shifted_right}
use Rattle.mv_certificate_rules.specs.BorrowRules.{edges_after}
use Rattle.mv_soundness.proofs.Borrows.Same.{same-all}
use Rattle.mv_soundness.proofs.Borrows.Kept.{Falls, falls-popped, falls-pushed, falls-same}
use Rattle.mv_soundness.proofs.Borrows.Operands.{on_result, taken-falls, none-more, none-reverse}
use Rattle.mv_soundness.proofs.Borrows.Premises.{Premises, view, Among, IsTransfer, ends, calm, calm-leaf, calm-pushes, Kept, dropped-calm}
use Rattle.mv_soundness.proofs.Borrows.StepLocals.{step-copy, step-move, step-store, step-borrow-mutable, step-borrow-immutable}
use Rattle.mv_soundness.proofs.Borrows.StepReferences.{step-field-mutable, step-field-immutable, step-freeze, step-read, step-write}
use Rattle.mv_soundness.proofs.Borrows.StepGlobals.{step-global-mutable, step-global-immutable, step-move-from, step-move-to, step-exists}
use Rattle.mv_machine.proofs.{LocalRules.pop-is, StructRules.pack-is, StructRules.unpack-is, Transfers.branch-is, Transfers.no-abort}
use Rattle.mv_machine.proofs.Operations.{binary-gives, comparison-gives, shift-gives, cast-gives, logic-gives, negation-gives, equality-gives, constant-is}

module _ (this : Premises) where
  open this use {depends, through, no_cycle, rest, h, types, es, stands, fits, inside}
  open view this use {os, p, place}

  pub step-pop : (y : Turn) (es' : List Edge) → gives h (pop h h.state.top.stack) ≡ Ok y → edges_after p Pop es ≡ Some es' → Kept this Pop es' (Ok y)
  unfolding edges_after
  step-pop y es' e g =
      on_result (pop h h.state.top.stack) _ y e (λ s s_is e0.
      let x = pop-is h h.state.top.stack s s_is in
      ends this Pop (with_top h.state (record (h.state.top) { stack = s; at = h.state.top.at + 1 })) y
      (without (Temp (length types - 1)) es) es' e0 (same_Some (without (Temp (length types - 1)) es) es' g)
      (dropped-calm this x.top s s (h.state.top.at + 1) x.taken (falls-same (map reference_of s)), (refl, refl, refl, same-all h.state.below, refl, inl refl)))

  pub step-pack : (i : ℕ) (y : Turn) (es' : List Edge) → pack h i ≡ Ok y → edges_after p (Pack i) es ≡ Some es' → Kept this (Pack i) es' (Ok y)
  unfolding edges_after
  step-pack i y es' e g =
      let x = pack-is h i y e in
      let made : Value = Struct x.struct.name (fields_of x.taken) in
      ends this (Pack i) (noted true x.struct (with_top h.state (record (h.state.top) { stack = made ∷ x.rest; at = h.state.top.at + 1 }))) y es es' x.left (same_Some es es' g) (
        calm this (made ∷ x.rest) (h.state.top.at + 1)
            (falls-pushed os (map reference_of x.rest) None refl
            (subst (λ (s : List Value). Falls (map reference_of s) (map reference_of x.rest)) (sym x.before) (taken-falls (reverse x.taken) x.rest))),
        (refl, refl, refl, same-all h.state.below, refl, inl refl),
      )

  pub step-unpack : (i : ℕ) (y : Turn) (es' : List Edge) → unpack h i ≡ Ok y → edges_after p (Unpack i) es ≡ Some es' → Kept this (Unpack i) es' (Ok y)
  unfolding edges_after
  step-unpack i y es' e g =
      let x = unpack-is h i y e in
      let parts : List Value = reverse (list_of x.fields) in
      ends this (Unpack i) (noted false x.struct (with_top h.state (record (h.state.top) { stack = parts ++ x.below; at = h.state.top.at + 1 }))) y es es' x.left (same_Some es es' g) (
        calm this (parts ++ x.below) (h.state.top.at + 1)
            (none-more parts h.state.top.stack x.below (none-reverse (list_of x.fields) (inside.fields (Struct x.name x.fields) x.below x.taken))
            (falls-popped os (map reference_of x.below) None (ap (map reference_of) x.taken))),
        (refl, refl, refl, same-all h.state.below, refl, inl refl),
      )

  pub step-constant : (i : ℕ) (y : Turn) (es' : List Edge) → constant h i ≡ Ok y → edges_after p (LdConst i) es ≡ Some es' → Kept this (LdConst i) es' (Ok y)
  unfolding edges_after
  step-constant i y es' e g = let x = constant-is h i y e in calm-pushes this (LdConst i) (Leaf x.kind x.number) y es' (inl refl) x.left g refl

  branch-by : (i : Instruction) (b : Bool) (target : ℕ) (s : List Value) (y : Turn) (es' : List Edge) → Among target (successors h.state.top.at i)
      → Among (h.state.top.at + 1) (successors h.state.top.at i) → goes_to (cond b target (h.state.top.at + 1)) (with_stack h.state s) ≡ Ok y
      → Some es ≡ Some es' → Falls os (map reference_of s) → Kept this i es' (Ok y)
  branch-by i true target s y es' there next e g falls =
      ends this i (with_top h.state (record (h.state.top) { stack = s; at = target })) y es es' e
      (same_Some es es' g) (calm this s target falls, (refl, refl, refl, same-all h.state.below, refl, there))
  branch-by i false target s y es' there next e g falls =
      ends this i (with_top h.state (record (h.state.top) { stack = s; at = h.state.top.at + 1 })) y es es' e
      (same_Some es es' g) (calm this s (h.state.top.at + 1) falls, (refl, refl, refl, same-all h.state.below, refl, next))

  branch-kept : (wanted : Bool) (i : Instruction) (target : ℕ) (y : Turn) (es' : List Edge) → Among target (successors h.state.top.at i) → Among (h.state.top.at + 1) (successors h.state.top.at i)
      → branch_if wanted h target ≡ Ok y → Some es ≡ Some es' → Kept this i es' (Ok y)
  branch-kept wanted i target y es' there next e g =
      let x = branch-is wanted h target y e in
      branch-by i (beq (not (x.number == 0)) wanted) target x.below y es' there next x.left g (falls-popped os (map reference_of x.below) None (ap (map reference_of) x.taken))

  stays-here : (i : Instruction) (target : ℕ) (y : Turn) (es' : List Edge) → Among target (successors h.state.top.at i) → goes_to target h.state ≡ Ok y → Some es ≡ Some es' → Kept this i es' (Ok y)
  stays-here i target y es' there e g =
      ends this i (with_top h.state (record (h.state.top) { at = target })) y es es' e (same_Some es es' g)
      (calm this h.state.top.stack target (falls-same os), (refl, refl, refl, same-all h.state.below, refl, there))

  -- every instruction but Call and Ret
  pub step-kept : (i : Instruction) (y : Turn) (es' : List Edge) → (IsTransfer i → ⊥) → Reaches h.function.acquires i
      → Descending (h.state.top ∷ h.state.below) → rule i h ≡ Ok y → edges_after p i es ≡ Some es' → Kept this i es' (Ok y)
  unfolding rule edges_after
  step-kept Pop y es' n q o e g = step-pop y es' e g
  step-kept (BrTrue t) y es' n q o e g = branch-kept true (BrTrue t) t y es' (inl refl) (inr (inl refl)) e g
  step-kept (BrFalse t) y es' n q o e g = branch-kept false (BrFalse t) t y es' (inl refl) (inr (inl refl)) e g
  step-kept (Branch t) y es' n q o e g = stays-here (Branch t) t y es' (inl refl) e g
  step-kept (LdU64 k) y es' n q o e g = calm-pushes this (LdU64 k) (Leaf (Number U64) k) y es' (inl refl) e g refl
  step-kept (LdConst i) y es' n q o e g = step-constant i y es' e g
  step-kept LdTrue y es' n q o e g = calm-pushes this LdTrue (truth true) y es' (inl refl) e g refl
  step-kept LdFalse y es' n q o e g = calm-pushes this LdFalse (truth false) y es' (inl refl) e g refl
  step-kept (CopyLoc l) y es' n q o e g = step-copy this l y es' e g
  step-kept (MoveLoc l) y es' n q o e g = step-move this l y es' e g
  step-kept (StLoc l) y es' n q o e g = step-store this l y es' e g
  step-kept (MutBorrowLoc l) y es' n q o e g = step-borrow-mutable this l y es' e g
  step-kept (ImmBorrowLoc l) y es' n q o e g = step-borrow-immutable this l y es' e g
  step-kept (MutBorrowField i) y es' n q o e g = step-field-mutable this i y es' e g
  step-kept (ImmBorrowField i) y es' n q o e g = step-field-immutable this i y es' e g
  step-kept (Pack i) y es' n q o e g = step-pack i y es' e g
  step-kept (Unpack i) y es' n q o e g = step-unpack i y es' e g
  step-kept ReadRef y es' n q o e g = step-read this y es' e g
  step-kept WriteRef y es' n q o e g = step-write this y es' o e g
  step-kept Add y es' n q o e g = calm-leaf this Add _ y es' (binary-gives h sum_of h.state.top.stack) (inl refl) e g
  step-kept Sub y es' n q o e g = calm-leaf this Sub _ y es' (binary-gives h difference_of h.state.top.stack) (inl refl) e g
  step-kept Mul y es' n q o e g = calm-leaf this Mul _ y es' (binary-gives h product_of h.state.top.stack) (inl refl) e g
  step-kept Mod y es' n q o e g = calm-leaf this Mod _ y es' (binary-gives h remainder_of h.state.top.stack) (inl refl) e g
  step-kept Div y es' n q o e g = calm-leaf this Div _ y es' (binary-gives h quotient_of h.state.top.stack) (inl refl) e g
  step-kept BitOr y es' n q o e g = calm-leaf this BitOr _ y es' (binary-gives h (λ w x y. Ok (bit_or x y)) h.state.top.stack) (inl refl) e g
  step-kept BitAnd y es' n q o e g = calm-leaf this BitAnd _ y es' (binary-gives h (λ w x y. Ok (bit_and x y)) h.state.top.stack) (inl refl) e g
  step-kept Xor y es' n q o e g = calm-leaf this Xor _ y es' (binary-gives h (λ w x y. Ok (bit_xor x y)) h.state.top.stack) (inl refl) e g
  step-kept Or y es' n q o e g = calm-leaf this Or _ y es' (logic-gives h ◌||◌ h.state.top.stack) (inl refl) e g
  step-kept And y es' n q o e g = calm-leaf this And _ y es' (logic-gives h ◌&&◌ h.state.top.stack) (inl refl) e g
  step-kept Not y es' n q o e g = calm-leaf this Not _ y es' (negation-gives h h.state.top.stack) (inl refl) e g
  step-kept Eq y es' n q o e g = calm-leaf this Eq _ y es' (equality-gives h (λ same. same) h.state.top.stack) (inl refl) e g
  step-kept Neq y es' n q o e g = calm-leaf this Neq _ y es' (equality-gives h not h.state.top.stack) (inl refl) e g
  step-kept Lt y es' n q o e g = calm-leaf this Lt _ y es' (comparison-gives h nat_lt h.state.top.stack) (inl refl) e g
  step-kept Gt y es' n q o e g = calm-leaf this Gt _ y es' (comparison-gives h (λ x y. nat_lt y x) h.state.top.stack) (inl refl) e g
  step-kept Le y es' n q o e g = calm-leaf this Le _ y es' (comparison-gives h nat_le h.state.top.stack) (inl refl) e g
  step-kept Ge y es' n q o e g = calm-leaf this Ge _ y es' (comparison-gives h (λ x y. nat_le y x) h.state.top.stack) (inl refl) e g
  step-kept Abort y es' n q o e g = absurd (no-abort h y e)
  step-kept Nop y es' n q o e g = stays-here Nop (h.state.top.at + 1) y es' (inl refl) e g
  step-kept (Exists i) y es' n q o e g = step-exists this i y es' e g
  step-kept (MutBorrowGlobal i) y es' n q o e g = step-global-mutable this i y es' e q g
  step-kept (ImmBorrowGlobal i) y es' n q o e g = step-global-immutable this i y es' e q g
  step-kept (MoveFrom i) y es' n q o e g = step-move-from this i y es' e g
  step-kept (MoveTo i) y es' n q o e g = step-move-to this i y es' e g
  step-kept FreezeRef y es' n q o e g = step-freeze this y es' e g
  step-kept Shl y es' n q o e g = calm-leaf this Shl _ y es' (shift-gives h shifted_left h.state.top.stack) (inl refl) e g
  step-kept Shr y es' n q o e g = calm-leaf this Shr _ y es' (shift-gives h shifted_right h.state.top.stack) (inl refl) e g
  step-kept (LdU8 k) y es' n q o e g = calm-pushes this (LdU8 k) (Leaf (Number U8) k) y es' (inl refl) e g refl
  step-kept (LdU128 k) y es' n q o e g = calm-pushes this (LdU128 k) (Leaf (Number U128) k) y es' (inl refl) e g refl
  step-kept CastU8 y es' n q o e g = calm-leaf this CastU8 _ y es' (cast-gives h U8 h.state.top.stack) (inl refl) e g
  step-kept CastU64 y es' n q o e g = calm-leaf this CastU64 _ y es' (cast-gives h U64 h.state.top.stack) (inl refl) e g
  step-kept CastU128 y es' n q o e g = calm-leaf this CastU128 _ y es' (cast-gives h U128 h.state.top.stack) (inl refl) e g
  step-kept (LdU16 k) y es' n q o e g = calm-pushes this (LdU16 k) (Leaf (Number U16) k) y es' (inl refl) e g refl
  step-kept (LdU32 k) y es' n q o e g = calm-pushes this (LdU32 k) (Leaf (Number U32) k) y es' (inl refl) e g refl
  step-kept CastU16 y es' n q o e g = calm-leaf this CastU16 _ y es' (cast-gives h U16 h.state.top.stack) (inl refl) e g
  step-kept CastU32 y es' n q o e g = calm-leaf this CastU32 _ y es' (cast-gives h U32 h.state.top.stack) (inl refl) e g
  step-kept i y es' n q o e g = absurd (n tt)
