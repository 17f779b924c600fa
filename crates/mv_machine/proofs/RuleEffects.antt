-- Each instruction's rule, as one of the kinds of effect.
use Rattle.mv_machine.proofs.Common.{[], ℕ, ◌++◌, ◌+◌, ◌∷◌, ◌≡◌, Bool, List, Ok, Option, Result, ap, false, length, not, refl, subst, sym, true, AllByRecursion, ◌&&◌, ◌||◌, nat_le, nat_lt}
use Rattle.mv_machine.proofs.Common.{ok_or, Instruction, Abort, Add, And, BitAnd, BitOr, BrFalse, BrTrue, Branch, Call, CastU128, CastU16, CastU32, CastU64, CastU8, CopyLoc, Div, Eq, Exists}
use Rattle.mv_machine.proofs.Common.{FreezeRef, Ge, Gt, ImmBorrowField, ImmBorrowGlobal, ImmBorrowLoc, LdConst, LdFalse, LdTrue, LdU128, LdU16, LdU32, LdU64, LdU8, Le, Lt, Mod, MoveFrom}
use Rattle.mv_machine.proofs.Common.{MoveLoc, MoveTo, Mul, MutBorrowField, MutBorrowGlobal, MutBorrowLoc, Neq, Nop, Not, Or, Pack, Pop, ReadRef, Ret, Shl, Shr, StLoc, Sub, Unpack, WriteRef}
use Rattle.mv_machine.proofs.Common.{Xor, FunctionHandle, Boolean, Number, U64, U8, Frame, State, rule, branch_if, call, return_results, borrow_global, exists, key_at, move_from, move_to}
use Rattle.mv_machine.proofs.Common.{borrow_local, copy_local, move_local, pop, store_local, constant, can_drop, gives, goes_on, goes_to, pushes, borrow_field, freeze, read_reference}
use Rattle.mv_machine.proofs.Common.{write_reference, pack, unpack, Failure, Faults, LinkageFault, Leaf, Value}
use Rattle.std.specs.Prelude.{bit_and, bit_or, bit_xor}
use Rattle.mv_move_types.specs.declared.token.Width.TheVariants.{U16, U32, U128}
use Rattle.mv_machine.specs.Numbers.{sum_of, difference_of, product_of, remainder_of, quotient_of, shifted_left, shifted_right}
use Rattle.mv_machine.specs.Step.{Here, Turn, with_stack, leaves}
use Rattle.mv_machine.proofs.Laws.{on_ok}
use Rattle.mv_machine.proofs.Binds.{WhereOk}
use Rattle.mv_machine.proofs.Effects.{Appears, a_leaf, a_reference, a_copy, in_local, at_place, Effect, Restacked, MovedLocal, StoredLocal, Packed, Unpacked, Written, MovedFrom, MovedTo}
use Rattle.mv_machine.proofs.Effects.{Called, Resumed, Ends, Went, Left}
use Rattle.mv_machine.proofs.Operations.{GivesLeaf, binary-gives, comparison-gives, shift-gives, cast-gives, logic-gives, negation-gives, equality-gives, constant-is}
use Rattle.mv_machine.proofs.LocalRules.{pop-is, copy-is, move-is, store-is, borrow-is}
use Rattle.mv_machine.proofs.StructRules.{pack-is, unpack-is}
use Rattle.mv_machine.proofs.ReferenceRules.{borrow_field-is, read-is, write-is, freeze-is}
use Rattle.mv_machine.proofs.GlobalRules.{exists-is, borrow_global-is, move_from-is, move_to-is}
use Rattle.mv_machine.proofs.Transfers.{ReturnIs, branch-is, no-abort, call-is, return-is}

-- operands are given for operands
pub record Trades (h : Here) (stack after : List Value) : Type 0 where
  pub taken : List Value
  pub given : List Value
  pub rest : List Value
  pub before : stack ≡ taken ++ rest
  pub dropped : AllByRecursion (λ v. can_drop h v ≡ true) taken
  pub appears : AllByRecursion (Appears h) given
  pub afterwards : after ≡ given ++ rest

-- an operand for none, or for one
pushed : (h : Here) (stack : List Value) (x : Value) → Appears h x → Trades h stack (x ∷ stack)
pushed h stack x a = record { taken = []; given = x ∷ []; rest = stack; before = refl; dropped = tt; appears = (a, tt); afterwards = refl }

one : (h : Here) (stack rest : List Value) (v x : Value) → stack ≡ v ∷ rest → can_drop h v ≡ true → Appears h x → Trades h stack (x ∷ rest)
one h stack rest v x s d a = record { taken = v ∷ []; given = x ∷ []; rest = rest; before = s; dropped = (d, tt); appears = (a, tt); afterwards = refl }

popped : (h : Here) (stack rest : List Value) (v : Value) → stack ≡ v ∷ rest → can_drop h v ≡ true → Trades h stack rest
popped h stack rest v s d = record { taken = v ∷ []; given = []; rest = rest; before = s; dropped = (d, tt); appears = tt; afterwards = refl }

-- ---- operands

pop-trades : (h : Here) (stack after : List Value) → pop h stack ≡ Ok after → Trades h stack after
pop-trades h stack after e =
    let p = pop-is h stack after e in
    popped h stack after p.top p.taken p.drops

read-trades : (h : Here) (stack after : List Value) → read_reference h stack ≡ Ok after → Trades h stack after
read-trades h stack after e =
    let r = read-is h stack after e in
    subst (Trades h stack) (sym r.afterwards) (one h stack r.below _ r.value r.taken refl (a_copy r.value r.copies (at_place r.reference.place r.value r.found)))

freeze-trades : (h : Here) (stack after : List Value) → freeze h stack ≡ Ok after → Trades h stack after
freeze-trades h stack after e =
    let f = freeze-is h stack after e in
    subst (Trades h stack) (sym f.afterwards) (one h stack f.below _ _ f.taken refl (a_reference _))

-- ---- whole rules

-- a trade, and then going on at some instruction
trade-ends : (h : Here) (at : ℕ) (after : List Value) (t : Turn) → Trades h h.state.top.stack after → goes_to at (with_stack h.state after) ≡ Ok t → Ends h t
trade-ends h at after t trade e =
    let effect : Effect h (with_stack h.state after) = subst (λ x. Effect h (with_stack h.state x)) (sym trade.afterwards)
    (Restacked trade.taken trade.given trade.rest trade.before trade.dropped trade.appears) in
    subst (WhereOk (Ends h)) e (Went at (with_stack h.state after) effect)

gives-ends : (h : Here) (r : Result (List Value) Failure) (t : Turn) → ((after : List Value) → r ≡ Ok after → Trades h h.state.top.stack after) → gives h r ≡ Ok t → Ends h t
gives-ends h r t trades e = on_ok r _ t e (λ after is e1. trade-ends h (h.state.top.at + 1) after t (trades after is) e1)

-- an operator
leaf-ends : (h : Here) (r : Result (List Value) Failure) (t : Turn) → ((after : List Value) → r ≡ Ok after → GivesLeaf h h.state.top.stack after) → gives h r ≡ Ok t → Ends h t
leaf-ends h r t leaf e = gives-ends h r t (λ after is. of_leaf after (leaf after is)) e
  where
    of_leaf : (after : List Value) → GivesLeaf h h.state.top.stack after → Trades h h.state.top.stack after
    of_leaf after g = record {
      taken = g.taken;
      given = Leaf g.kind g.number ∷ [];
      rest = g.rest;
      before = g.before;
      dropped = g.dropped;
      appears = (a_leaf g.kind g.number, tt);
      afterwards = g.afterwards;
    }

pushes-ends : (h : Here) (v : Value) (t : Turn) → Appears h v → pushes h v ≡ Ok t → Ends h t
pushes-ends h v t a e = trade-ends h (h.state.top.at + 1) (v ∷ h.state.top.stack) t (pushed h h.state.top.stack v a) e

-- the topmost operand is traded for another
one-ends : (h : Here) (v x : Value) (below : List Value) (t : Turn) → h.state.top.stack ≡ v ∷ below → can_drop h v ≡ true → Appears h x → gives h (Ok (x ∷ below)) ≡ Ok t → Ends h t
one-ends h v x below t taken drops a e = trade-ends h (h.state.top.at + 1) (x ∷ below) t (one h h.state.top.stack below v x taken drops a) e

stays-ends : (h : Here) (at : ℕ) (t : Turn) → goes_to at h.state ≡ Ok t → Ends h t
stays-ends h at t e = trade-ends h at h.state.top.stack t (record { taken = []; given = []; rest = h.state.top.stack; before = refl; dropped = tt; appears = tt; afterwards = refl }) e

-- an effect, and then going on at the next instruction
goes-ends : (h : Here) (next : State) (t : Turn) → Effect h next → goes_on next ≡ Ok t → Ends h t
goes-ends h next t effect e = subst (WhereOk (Ends h)) e (Went (next.top.at + 1) next effect)

copy_local-ends : (h : Here) (l : ℕ) (t : Turn) → copy_local h l ≡ Ok t → Ends h t
copy_local-ends h l t e =
    let c = copy-is h l t e in
    pushes-ends h c.value t (a_copy c.value c.copies (in_local l c.value c.stands)) c.left

move_local-ends : (h : Here) (l : ℕ) (t : Turn) → move_local h l ≡ Ok t → Ends h t
move_local-ends h l t e = let m = move-is h l t e in goes-ends h _ t (MovedLocal l m.value m.stands) m.left

store_local-ends : (h : Here) (l : ℕ) (t : Turn) → store_local h l ≡ Ok t → Ends h t
store_local-ends h l t e = let s = store-is h l t e in goes-ends h _ t (StoredLocal l s.old s.value s.below s.taken s.stood s.drops) s.left

borrow_local-ends : (is_mutable : Bool) (h : Here) (l : ℕ) (t : Turn) → borrow_local is_mutable h l ≡ Ok t → Ends h t
borrow_local-ends is_mutable h l t e = let b = borrow-is is_mutable h l t e in pushes-ends h _ t (a_reference _) b.left

-- a constant is a leaf
constant-ends : (h : Here) (i : ℕ) (t : Turn) → constant h i ≡ Ok t → Ends h t
constant-ends h i t e = let c = constant-is h i t e in pushes-ends h _ t (a_leaf c.kind c.number) c.left

pack-ends : (h : Here) (i : ℕ) (t : Turn) → pack h i ≡ Ok t → Ends h t
pack-ends h i t e = let p = pack-is h i t e in goes-ends h _ t (Packed i p.struct p.taken p.rest p.tags p.struct_is p.before p.tags_are p.typed) p.left

unpack-ends : (h : Here) (i : ℕ) (t : Turn) → unpack h i ≡ Ok t → Ends h t
unpack-ends h i t e = let u = unpack-is h i t e in goes-ends h _ t (Unpacked i u.struct u.name u.fields u.below u.struct_is u.taken u.same) u.left

write-ends : (h : Here) (t : Turn) → write_reference h ≡ Ok t → Ends h t
write-ends h t e =
    let w = write-is h t e in
    goes-ends h w.next t (Written w.reference w.new w.old w.below w.tag w.next w.taken w.found w.tag_is w.typed w.drops w.next_is) w.left

exists-ends : (h : Here) (i : ℕ) (t : Turn) → exists h i ≡ Ok t → Ends h t
exists-ends h i t e = let x = exists-is h i t e in one-ends h _ _ x.below t x.taken refl (a_leaf _ _) x.left

borrow_global-ends : (is_mutable : Bool) (h : Here) (i : ℕ) (t : Turn) → borrow_global is_mutable h i ≡ Ok t → Ends h t
borrow_global-ends is_mutable h i t e = let b = borrow_global-is is_mutable h i t e in one-ends h _ _ b.below t b.taken refl (a_reference _) b.left

move_from-ends : (h : Here) (i : ℕ) (t : Turn) → move_from h i ≡ Ok t → Ends h t
move_from-ends h i t e = let m = move_from-is h i t e in goes-ends h _ t (MovedFrom (key_at h i m.address) m.address m.value m.below m.taken m.stored) m.left

move_to-ends : (h : Here) (i : ℕ) (t : Turn) → move_to h i ≡ Ok t → Ends h t
move_to-ends h i t e = let m = move_to-is h i t e in goes-ends h _ t (MovedTo (key_at h i m.address) m.reference m.value m.below m.taken m.free) m.left

borrow_field-ends : (is_mutable : Bool) (h : Here) (i : ℕ) (t : Turn) → borrow_field is_mutable h i ≡ Ok t → Ends h t
borrow_field-ends is_mutable h i t e = let b = borrow_field-is is_mutable h i t e in one-ends h _ _ b.below t b.taken refl (a_reference _) b.left

call-ends : (h : Here) (i : ℕ) (t : Turn) → call h i ≡ Ok t → Ends h t
call-ends h i t e =
    let x = call-is h i t e in
    subst (WhereOk (Ends h)) x.left (Went 0 _ (Called x.c.function (length x.others) x.arguments x.rest x.before))

leaves-ends : (h : Here) (t : Turn) (r : ReturnIs h t) (fs : List Frame) → h.state.below ≡ fs → leaves h r.results fs ≡ Ok t → Ends h t
leaves-ends h t r [] below e =
    subst (WhereOk (Ends h)) e (Left r.own r.tags r.results (ap (λ (o : Option FunctionHandle). ok_or o (Faults LinkageFault)) r.is_own) r.are_tags r.long (sym r.are_all) r.drops below)
leaves-ends h t r (f ∷ fs) below e = subst (WhereOk (Ends h)) e (Went _ _ (Resumed r.results f fs (sym r.are_all) r.drops below))

return-ends : (h : Here) (t : Turn) → return_results h ≡ Ok t → Ends h t
return-ends h t e = let r = return-is h t e in leaves-ends h t r h.state.below refl r.left

branch_if-ends : (wanted : Bool) (h : Here) (target : ℕ) (t : Turn) → branch_if wanted h target ≡ Ok t → Ends h t
branch_if-ends wanted h target t e =
    let b = branch-is wanted h target t e in
    trade-ends h _ b.below t (popped h h.state.top.stack b.below _ b.taken refl) b.left

-- what each instruction does
pub rule-ends : (i : Instruction) (h : Here) (t : Turn) → rule i h ≡ Ok t → Ends h t
unfolding rule
rule-ends Pop h t e = gives-ends h _ t (pop-trades h h.state.top.stack) e
rule-ends Ret h t e = return-ends h t e
rule-ends (BrTrue target) h t e = branch_if-ends true h target t e
rule-ends (BrFalse target) h t e = branch_if-ends false h target t e
rule-ends (Branch target) h t e = stays-ends h target t e
rule-ends (LdU64 n) h t e = pushes-ends h _ t (a_leaf (Number U64) n) e
rule-ends (LdConst i) h t e = constant-ends h i t e
rule-ends LdTrue h t e = pushes-ends h _ t (a_leaf Boolean 1) e
rule-ends LdFalse h t e = pushes-ends h _ t (a_leaf Boolean 0) e
rule-ends (CopyLoc l) h t e = copy_local-ends h l t e
rule-ends (MoveLoc l) h t e = move_local-ends h l t e
rule-ends (StLoc l) h t e = store_local-ends h l t e
rule-ends (MutBorrowLoc l) h t e = borrow_local-ends true h l t e
rule-ends (ImmBorrowLoc l) h t e = borrow_local-ends false h l t e
rule-ends (MutBorrowField i) h t e = borrow_field-ends true h i t e
rule-ends (ImmBorrowField i) h t e = borrow_field-ends false h i t e
rule-ends (Call i) h t e = call-ends h i t e
rule-ends (Pack i) h t e = pack-ends h i t e
rule-ends (Unpack i) h t e = unpack-ends h i t e
rule-ends ReadRef h t e = gives-ends h _ t (read-trades h h.state.top.stack) e
rule-ends WriteRef h t e = write-ends h t e
rule-ends Add h t e = leaf-ends h _ t (binary-gives h sum_of h.state.top.stack) e
rule-ends Sub h t e = leaf-ends h _ t (binary-gives h difference_of h.state.top.stack) e
rule-ends Mul h t e = leaf-ends h _ t (binary-gives h product_of h.state.top.stack) e
rule-ends Mod h t e = leaf-ends h _ t (binary-gives h remainder_of h.state.top.stack) e
rule-ends Div h t e = leaf-ends h _ t (binary-gives h quotient_of h.state.top.stack) e
rule-ends BitOr h t e = leaf-ends h _ t (binary-gives h (λ w x y. Ok (bit_or x y)) h.state.top.stack) e
rule-ends BitAnd h t e = leaf-ends h _ t (binary-gives h (λ w x y. Ok (bit_and x y)) h.state.top.stack) e
rule-ends Xor h t e = leaf-ends h _ t (binary-gives h (λ w x y. Ok (bit_xor x y)) h.state.top.stack) e
rule-ends Or h t e = leaf-ends h _ t (logic-gives h ◌||◌ h.state.top.stack) e
rule-ends And h t e = leaf-ends h _ t (logic-gives h ◌&&◌ h.state.top.stack) e
rule-ends Not h t e = leaf-ends h _ t (negation-gives h h.state.top.stack) e
rule-ends Eq h t e = leaf-ends h _ t (equality-gives h (λ same. same) h.state.top.stack) e
rule-ends Neq h t e = leaf-ends h _ t (equality-gives h not h.state.top.stack) e
rule-ends Lt h t e = leaf-ends h _ t (comparison-gives h nat_lt h.state.top.stack) e
rule-ends Gt h t e = leaf-ends h _ t (comparison-gives h (λ x y. nat_lt y x) h.state.top.stack) e
rule-ends Le h t e = leaf-ends h _ t (comparison-gives h nat_le h.state.top.stack) e
rule-ends Ge h t e = leaf-ends h _ t (comparison-gives h (λ x y. nat_le y x) h.state.top.stack) e
rule-ends Abort h t e = absurd (no-abort h t e)
rule-ends Nop h t e = stays-ends h _ t e
rule-ends (Exists i) h t e = exists-ends h i t e
rule-ends (MutBorrowGlobal i) h t e = borrow_global-ends true h i t e
rule-ends (ImmBorrowGlobal i) h t e = borrow_global-ends false h i t e
rule-ends (MoveFrom i) h t e = move_from-ends h i t e
rule-ends (MoveTo i) h t e = move_to-ends h i t e
rule-ends FreezeRef h t e = gives-ends h _ t (freeze-trades h h.state.top.stack) e
rule-ends Shl h t e = leaf-ends h _ t (shift-gives h shifted_left h.state.top.stack) e
rule-ends Shr h t e = leaf-ends h _ t (shift-gives h shifted_right h.state.top.stack) e
rule-ends (LdU8 n) h t e = pushes-ends h _ t (a_leaf (Number U8) n) e
rule-ends CastU8 h t e = leaf-ends h _ t (cast-gives h U8 h.state.top.stack) e
rule-ends CastU64 h t e = leaf-ends h _ t (cast-gives h U64 h.state.top.stack) e
rule-ends (LdU128 n) h t e = pushes-ends h _ t (a_leaf (Number U128) n) e
rule-ends CastU128 h t e = leaf-ends h _ t (cast-gives h U128 h.state.top.stack) e
rule-ends (LdU16 n) h t e = pushes-ends h _ t (a_leaf (Number U16) n) e
rule-ends CastU16 h t e = leaf-ends h _ t (cast-gives h U16 h.state.top.stack) e
rule-ends (LdU32 n) h t e = pushes-ends h _ t (a_leaf (Number U32) n) e
rule-ends CastU32 h t e = leaf-ends h _ t (cast-gives h U32 h.state.top.stack) e
