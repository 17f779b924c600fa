-- Every rule but those of Call and Ret leaves the locals as they are known then, and none meets what is lost or frozen.
use Rattle.mv_soundness.proofs.Guided.Common.{◌≡◌, ℕ, suc, ◌-◌, List, [], ◌∷◌, ◌++◌, map, length, true, false, refl, sym, ◌∙◌, ap, subst, arith, Bool, Option, Some, None, Ok, Result}
use Rattle.mv_soundness.proofs.Guided.Common.{same_Some, list_any, list_all, slice_get, ◌==◌, nat_le, ok_or, ⊤, ◌&&◌, ◌||◌, flat_map, nat_lt, Module, FunctionDefinition, local_tokens}
use Rattle.mv_soundness.proofs.Guided.Common.{local_type, StructTag, Availability, Available, Unavailable, Glob, Temp, Instruction, Ret, StLoc, MoveFrom, Call, MoveLoc, MutBorrowGlobal}
use Rattle.mv_soundness.proofs.Guided.Common.{ImmBorrowGlobal, Pop, CopyLoc, ReadRef, WriteRef, Eq, Neq, U8, found-is, reference_of, references, frame_references, live, is_frozen_by}
use Rattle.mv_soundness.proofs.Guided.Common.{Frame, State, stored_at, place_value, leaves, local_tag, local_place, Here, operand, operands, as_reference, Goes, as_address, as_signer}
use Rattle.mv_soundness.proofs.Guided.Common.{follow, Turn, Returns, with_stack, can_drop, Failure, Aborts, Faults, TypeFault, LostFault, DanglingFault, FrozenFault, entry, have_tags}
use Rattle.mv_soundness.proofs.Guided.Common.{Value, Stored, Reference, Ref, no_edge_out, Known, Edge, on_bind, Types, Point, InRefs, Fits, NoneInside, Reaches, AsKnown, Stood, Sound}
use Rattle.mv_soundness.proofs.Guided.Common.{alone, Rooted, Able}
use Rattle.mv_soundness.proofs.Guided.GoesWell.{parts_well, tag-well, own-struct-well, keyed-well, own-field-well, local-tag-well, held-well, signature-well, choice-well, other-well, binary-well}
use Rattle.mv_soundness.proofs.Guided.GoesWell.{comparison-well, shift-well, cast-well, logic-well, negation-well, freeze-well, constant-well, call-well}
use Rattle.mv_soundness.proofs.{Borrows.Edges.then-some, Borrows.Mutability.kinds-length, Borrows.Same.write-same, Borrows.Same.plain-tagged, Borrows.Free.struct-unfrozen}
use Rattle.mv_soundness.proofs.{Borrows.Free.write-unfrozen, Borrows.Free.return-unfrozen, Guided.Working.worked}
use Rattle.mv_soundness.proofs.Borrows.Available.{known-at, known-set, known-same, needed-holds, overwritten-drops, left-drops}
use Rattle.mv_soundness.proofs.Guided.Ends.{Ends, Goes_well, after, tests, passes, found-well, operand-well, operands-well, address-well, signer-well, reference-well, fields-well}
use Rattle.mv_soundness.proofs.Guided.Unfrozen.{fewer-live, from-taken, local-not-frozen, nothing-frozen, moved-free, stored-free}
use Rattle.std.proofs.lemmas.Bool.{not_from_false}
use Rattle.std.specs.Prelude.{slice_set, bit_or, bit_and, bit_xor, is_some}
use Rattle.mv_move_types.specs.declared.token.Width.TheVariants.{U16, U32, U64, U128}
use Rattle.mv_move_types.specs.declared.instruction.Instruction.TheVariants.{BrTrue, BrFalse, LdConst, MutBorrowLoc, ImmBorrowLoc, MutBorrowField, ImmBorrowField, Pack, Unpack, Add, Sub}
use Rattle.mv_move_types.specs.declared.instruction.Instruction.TheVariants.{Mul, Mod, Div, BitOr, BitAnd, Xor, Or, And, Not, Lt, Gt, Le, Ge, Abort, Exists, MoveTo, FreezeRef, Shl, Shr}
use Rattle.mv_move_types.specs.declared.instruction.Instruction.TheVariants.{CastU8, CastU64, CastU128, CastU16, CastU32}
use Rattle.mv_machine.specs.{State.with_place, Typing.has_tag, Typing.tag_of, declared.Kind.TheVariants.Exists as AlreadyThere, declared.Kind.TheVariants.Missing, Step.rule}
use Rattle.mv_machine.specs.{StepStructs.pack, StepStructs.unpack}
use Rattle.mv_machine.specs.Numbers.{sum_of, difference_of, product_of, remainder_of, quotient_of, shifted_left, shifted_right}
use Rattle.mv_machine.specs.StepParts.{gives, can_copy, may_drop, is_reference_tag}
use Rattle.mv_machine.specs.StepLocals.{copy_local, move_local, store_local, borrow_local, pop, held}
use Rattle.mv_machine.specs.StepReferences.{borrow_field, write_reference, read_reference, freeze}
use Rattle.mv_machine.specs.StepGlobals.{borrow_global, move_from, move_to, exists, keyed_struct, key_at}
use Rattle.mv_machine.specs.StepNumbers.{constant, binary, comparison, shift, cast, logic, negation, equality}
use Rattle.mv_machine.specs.StepControl.{branch_if, abort, call, signature_tags, return_results, holds_frame}
use Rattle.mv_certificate_rules.specs.LocalsRules.{locals_after, needs_available, may_overwrite, may_leave}
use Rattle.mv_certificate_rules.specs.BorrowRules.{edges_after, top_temp}
use Rattle.mv_machine.proofs.Binds.{held-is, operand-is, operands-is, reference-is, none-is}
use Rattle.std.proofs.Common.{not}

-- the locals of a state are as known
abbrev pub LocalsKnown : List Availability → Turn → Type 0
LocalsKnown ls (Goes t) = AsKnown ls t.top.locals
LocalsKnown ls (Returns t) = ⊤

module _ (depends : ℕ → ℕ → Type 0) (through : (a b c : ℕ) → depends a b → depends b c → depends a c) (no_cycle : (a : ℕ) → depends a a → ⊥)
    (modules : List Module) (s : State) (home : Module) (function : FunctionDefinition) (known : Known) (types : Types) (xs : List Stood)
    (sound : Sound depends s (worked s home function types known.edges) xs)
    (fits : Fits (record { home = home; function = function; types = types }) (alone s.top)) (as_known : AsKnown known.locals s.top.locals) (inside : NoneInside s) (rooted : Rooted s)
  where
    abbrev pub h : Here
    h = record { modules = modules; home = home; function = function; state = s }

    abbrev pub p : Point
    p = record { home = home; function = function; types = types }

    abbrev x : Stood
    x = worked s home function types known.edges

    -- ---- rows that leave the locals
    module _ (ls : List Availability) (same : Some known.locals ≡ Some ls) where
      stay : AsKnown ls s.top.locals
      stay = subst (λ z. AsKnown z s.top.locals) (same_Some known.locals ls same) as_known

      gives-ends : (r : Result (List Value) Failure) → Goes_well r → Ends (LocalsKnown ls) (gives h r)
      gives-ends r ok = after (LocalsKnown ls) r _ ok (λ stack e. stay)

      pop-ends : Able h types Pop → Ends (LocalsKnown ls) (gives h (pop h s.top.stack))
      unfolding pop
      pop-ends able =
          gives-ends (pop h s.top.stack)
          (after _ (operand s.top.stack) _ (operand-well s.top.stack) (λ top e1.
          tests _ (is_some (tag_of s top.0)) (Faults TypeFault) _ tt (λ tagged.
          passes _ (can_drop h top.0) (Faults LostFault) _ (able top.0 top.1 (operand-is s.top.stack top e1)) tt)))

      equality-ends : (answer : Bool → Bool) → Able h types Eq → Ends (LocalsKnown ls) (gives h (equality h answer s.top.stack))
      unfolding equality
      equality-ends answer able =
          gives-ends (equality h answer s.top.stack)
          (after _ (operand s.top.stack) _ (operand-well s.top.stack) (λ right e1.
          after _ (operand right.1) _ (operand-well right.1) (λ left e2.
          after _ (ok_or (tag_of s left.0) (Faults TypeFault)) _ (found-well _ _ tt) (λ tag e3.
          tests _ (has_tag s right.0 tag) (Faults TypeFault) _ tt (λ fit.
          tests _ (not (is_reference_tag tag)) (Faults TypeFault) _ tt (λ plain.
          passes _ (can_drop h left.0 && can_drop h right.0) (Faults LostFault) _
          (able right.0 left.0 left.1 (operand-is s.top.stack right e1 ∙ ap (λ (l : List Value). right.0 ∷ l) (operand-is right.1 left e2))) tt))))))

      read-ends : Able h types ReadRef → Ends (LocalsKnown ls) (gives h (read_reference h s.top.stack))
      unfolding read_reference
      read-ends able =
          gives-ends (read_reference h s.top.stack)
          (after _ (operand s.top.stack) _ (operand-well s.top.stack) (λ top e1.
          after _ (as_reference top.0) _ (reference-well top.0) (λ r e2.
          after _ (follow s r) _ (found-well _ _ tt) (λ v e3.
          passes _ (can_copy h v) (Faults LostFault) _
          (able r top.1 v (operand-is s.top.stack top e1 ∙ ap (λ (u : Value). u ∷ top.1) (reference-is top.0 r e2)) (found-is (place_value s r.place) _ v e3)) tt))))

      move-to-ends : (i : ℕ) → Ends (LocalsKnown ls) (move_to h i)
      unfolding move_to
      move-to-ends i =
          after _ (keyed_struct h i) _ (keyed-well h i) (λ struct e1.
          after _ (operand s.top.stack) _ (operand-well s.top.stack) (λ top e2.
          after _ (operand top.1) _ (operand-well top.1) (λ lower e3.
          tests _ (has_tag s top.0 (StructTag struct.name)) (Faults TypeFault) _ tt (λ fit.
          after _ (as_reference lower.0) _ (reference-well lower.0) (λ r e4.
          tests _ (not r.is_mutable) (Faults TypeFault) _ tt (λ imm.
          after _ (follow s r) _ (found-well _ _ tt) (λ v e5.
          after _ (as_signer v) _ (signer-well v) (λ a e6.
          tests _ (not (is_some (stored_at s.storage (key_at h i a)))) (Aborts AlreadyThere 0) _ tt (λ free.
          passes _ (not (is_frozen_by (live s) (record { root = Stored (key_at h i a); path = [] }))) (Faults FrozenFault) _
          (not_from_false _ (nothing-frozen s rooted (key_at h i a) (none-is (stored_at s.storage (key_at h i a)) free))) stay)))))))))

      move-from-ends : (i : ℕ) (es : List Edge) → Reaches function.acquires (MoveFrom i) → edges_after p (MoveFrom i) known.edges ≡ Some es → Ends (LocalsKnown ls) (move_from h i)
      unfolding move_from edges_after
      move-from-ends i es acquired g =
          let free = (then-some (no_edge_out (Glob i) known.edges) known.edges es g).0 in
          after _ (keyed_struct h i) _ (keyed-well h i) (λ struct e1.
          after _ (operand s.top.stack) _ (operand-well s.top.stack) (λ top e2.
          after _ (as_address top.0) _ (address-well top.0) (λ a e3.
          passes _ (not (is_frozen_by (live s) (record { root = Stored (key_at h i a); path = [] }))) (Faults FrozenFault) _
          (not_from_false _ (struct-unfrozen depends through no_cycle s x xs sound.stood sound.chain (key_at h i a) refl acquired free))
          (after _ (ok_or (stored_at s.storage (key_at h i a)) (Aborts Missing 0)) _ (found-well _ _ tt) (λ v e4. stay)))))

      write-ends : (es : List Edge) → Able h types WriteRef → edges_after p WriteRef known.edges ≡ Some es → Ends (LocalsKnown ls) (write_reference h)
      unfolding write_reference edges_after
      write-ends es able g =
          let free = (then-some (no_edge_out (top_temp p) known.edges) _ es g).0 in
          after _ (operand s.top.stack) _ (operand-well s.top.stack) (λ top top_is.
          after _ (operand top.1) _ (operand-well top.1) (λ lower lower_is.
          after _ (as_reference top.0) _ (reference-well top.0) (λ r r_is.
          tests _ r.is_mutable (Faults TypeFault) _ tt (λ mutable.
          after _ (follow s r) _ (found-well _ _ tt) (λ old old_is.
          after _ (ok_or (tag_of s old) (Faults TypeFault)) _ (found-well _ _ tt) (λ tag tag_is.
          tests _ (has_tag s lower.0 tag) (Faults TypeFault) _ tt (λ fit.
          let stack_is : s.top.stack ≡ Ref r ∷ top.1 = operand-is s.top.stack top top_is ∙ ap (λ (u : Value). u ∷ top.1) (reference-is top.0 r r_is) in
          let followed : place_value s r.place ≡ Some old = found-is (place_value s r.place) _ old old_is in
          let old_none : reference_of old ≡ None = inside.led_to r top.1 old stack_is followed in
          let operands_are : map reference_of s.top.stack ≡ Some r ∷ map reference_of top.1 = ap (map reference_of) stack_is in
          passes _ (can_drop h old) (Faults LostFault) _ (able r top.1 old stack_is followed)
          (passes _ (not (is_frozen_by (live (with_stack s lower.1)) r.place)) (Faults FrozenFault) _
          (not_from_false _ (write-unfrozen depends through no_cycle s x xs sound.stood sound.chain r (map reference_of top.1) operands_are mutable
          (subst (λ n. no_edge_out (Temp n) known.edges ≡ true) (height types (map reference_of s.top.stack) (Some r)
          (map reference_of top.1) (kinds-length types (map reference_of s.top.stack) fits.stack) operands_are) free)
          (live (with_stack s lower.1)) (λ q i. fewer-live s top.0 top.1 q (operand-is s.top.stack top top_is)
          (fewer-live (with_stack s top.1) lower.0 lower.1 q (operand-is top.1 lower lower_is) i))))
          (after _ (ok_or (with_place (with_stack s lower.1) r.place lower.0) (Faults DanglingFault)) _ (found-well _ _ tt) (λ t t_is.
          let w = write-same (with_stack s lower.1) r.place old lower.0 t sound.ordered followed old_none
          (plain-tagged s old lower.0 tag old_none (found-is (tag_of s old) _ tag tag_is) fit) (found-is (with_place (with_stack s lower.1) r.place lower.0) _ t t_is) in
          known-same ls s.top.locals t.top.locals (sym w.0.locals) stay))))))))))
        where
          height : (ts : Types) (os : List (Option Reference)) (o : Option Reference) (rest : List (Option Reference)) → length ts ≡ length os → os ≡ o ∷ rest → length ts - 1 ≡ length rest
          height ts os o rest e f = let m : length os ≡ suc (length rest) = ap length f in omega (arith, e, m)

    -- ---- locals
    copy-ends : (l : ℕ) (ls : List Availability) → Able h types (CopyLoc l) → locals_after p (CopyLoc l) known.locals ≡ Some ls → Ends (LocalsKnown ls) (copy_local h l)
    unfolding copy_local locals_after
    copy-ends l ls able e =
        let found = needed-holds l known.locals ls s.top.locals as_known e in
        after _ (held h l) _ (held-well h l found.1.0 found.1.1) (λ v v_is.
        passes _ (can_copy h v) (Faults LostFault) _ (able v (held-is h l v v_is))
        (stay ls (ap Some (sym found.0))))

    borrow-ends : (m : Bool) (l : ℕ) (ls : List Availability) → needs_available l known.locals ≡ Some ls → Ends (LocalsKnown ls) (borrow_local m h l)
    unfolding borrow_local
    borrow-ends m l ls e =
        let found = needed-holds l known.locals ls s.top.locals as_known e in
        after _ (held h l) _ (held-well h l found.1.0 found.1.1) (λ v v_is.
        after _ (local_tag h l) _ (local-tag-well h l) (λ tag e1.
        tests _ (not (is_reference_tag tag)) (Faults TypeFault) _ tt (λ ok. stay ls (ap Some (sym found.0)))))

    move-ends : (l : ℕ) (ls : List Availability) (es : List Edge) → locals_after p (MoveLoc l) known.locals ≡ Some ls
        → edges_after p (MoveLoc l) known.edges ≡ Some es → Ends (LocalsKnown ls) (move_local h l)
    unfolding move_local locals_after edges_after
    move-ends l ls es e g =
        on_bind (needs_available l known.locals) _ ls e (λ before before_is e1.
        on_bind (local_type home function l) _ es g (λ t t_is g1.
        let found = needed-holds l known.locals before s.top.locals as_known before_is in
        after _ (held h l) _ (held-well h l found.1.0 found.1.1) (λ v v_is.
        passes _ (not (is_frozen_by (live s) (local_place h l))) (Faults FrozenFault) _
        (not_from_false _ (local-not-frozen depends through no_cycle h types known.edges xs sound fits rooted l t t_is (moved-free p l t known.edges es g1) (live s) (λ r i. i)))
        (subst (λ z. AsKnown z (slice_set s.top.locals l None)) (ap (λ z. slice_set z l Unavailable) (sym found.0) ∙ same_Some _ ls e1)
        (known-set known.locals s.top.locals l Unavailable None as_known refl)))))

    store-ends : (l : ℕ) (ls : List Availability) (es : List Edge) → Able h types (StLoc l) → locals_after p (StLoc l) known.locals ≡ Some ls
        → edges_after p (StLoc l) known.edges ≡ Some es → Ends (LocalsKnown ls) (store_local h l)
    unfolding store_local locals_after edges_after
    store-ends l ls es able e g =
        on_bind (local_type home function l) _ ls e (λ t t_is e1.
        on_bind (slice_get known.locals l) _ ls e1 (λ a a_is e2.
        on_bind (local_type home function l) _ es g (λ u u_is g1.
        let drops = then-some (may_overwrite p t a) (slice_set known.locals l Available) ls e2 in
        after _ (operand s.top.stack) _ (operand-well s.top.stack) (λ top top_is.
        after _ (entry s.top.locals l) _ (found-well _ _ tt) (λ old old_is.
        after _ (local_tag h l) _ (local-tag-well h l) (λ tag tag_is.
        tests _ (has_tag s top.0 tag) (Faults TypeFault) _ tt (λ fit.
        let there = found-is (slice_get s.top.locals l) _ old old_is in
        passes _ (may_drop h old) (Faults LostFault) _
        (overwritten-drops h p t a old (λ v is d. able v t (there ∙ ap Some is) t_is d) (known-at known.locals s.top.locals l a old as_known a_is there) drops.0)
        (passes _ (not (is_frozen_by (live (with_stack s top.1)) (local_place h l))) (Faults FrozenFault) _
        (not_from_false _ (local-not-frozen depends through no_cycle h types known.edges xs sound fits rooted l u u_is (stored-free p l u known.edges es g1)
        (live (with_stack s top.1)) (λ r i. fewer-live s top.0 top.1 r (operand-is s.top.stack top top_is) i)))
        (subst (λ z. AsKnown z (slice_set s.top.locals l (Some top.0))) (sym drops.1) (known-set known.locals s.top.locals l Available (Some top.0) as_known refl))))))))))

    -- ---- Ret
    return-ends : (ls : List Availability) (es : List Edge) → Able h types Ret → locals_after p Ret known.locals ≡ Some ls → edges_after p Ret known.edges ≡ Some es → Goes_well (return_results h)
    unfolding return_results locals_after edges_after
    return-ends ls es able e g =
        on_bind (local_tokens home function) _ ls e (λ ts ts_are e1.
        let leave = (then-some (may_leave p ts known.locals) known.locals ls e1).0 in
        let stays = (then-some _ known.edges es g).1 in
        after _ (entry home.function_handles function.handle) _ (found-well _ _ tt) (λ handle handle_is.
        after _ (signature_tags modules home handle.results) _ (signature-well modules home handle.results) (λ tags tags_are.
        after _ (operands (length tags) s.top.stack) _ (operands-well (length tags) s.top.stack) (λ taken taken_is.
        tests _ (length taken.1 == 0) (Faults TypeFault) _ tt (λ alone_there.
        tests _ (have_tags s taken.0 tags) (Faults TypeFault) _ tt (λ fit.
        passes _ (list_all (may_drop h) s.top.locals) (Faults LostFault) _ (left-drops h p ts known.locals s.top.locals (able ts ts_are) as_known leave)
        (passes _ (not (list_any (holds_frame s.top.number) (references taken.0 ++ flat_map frame_references s.below))) (Faults FrozenFault) _
        (not_from_false _ (return-unfrozen depends through no_cycle s x xs sound.stood sound.chain p (g ∙ ap Some stays) taken.0
        (λ r i. from-taken r (length tags) s.top.stack (subst (λ (z : List Value). InRefs r (references z))
        (ap (λ (z : List Value × List Value). z.0) (operands-is (length tags) s.top.stack taken taken_is).1) i))))
        (ends-well s.below taken.0))))))))
      where
        ends-well : (below : List Frame) (results : List Value) → Goes_well (leaves h results below)
        ends-well [] results = tt
        ends-well (f ∷ fs) results = tt

    abbrev pub RowEnds : Instruction → List Availability → Type 0
    RowEnds (Call i) ls = Goes_well (call h i)
    RowEnds Ret ls = Goes_well (return_results h)
    RowEnds i ls = Ends (LocalsKnown ls) (rule i h)

    -- every rule
    pub rule-ends : (i : Instruction) (ls : List Availability) (es : List Edge) → Reaches function.acquires i → Able h types i
        → locals_after p i known.locals ≡ Some ls → edges_after p i known.edges ≡ Some es → RowEnds i ls
    unfolding rule locals_after constant branch_if abort pack unpack borrow_field exists borrow_global
    rule-ends Pop ls es q able e g = pop-ends ls e able
    rule-ends Ret ls es q able e g = return-ends ls es able e g
    rule-ends (BrTrue t) ls es q able e g = let now = stay ls e in let r : Ends (LocalsKnown ls) (branch_if true h t) = search (parts_well, now) depth 20 in r
    rule-ends (BrFalse t) ls es q able e g = let now = stay ls e in let r : Ends (LocalsKnown ls) (branch_if false h t) = search (parts_well, now) depth 20 in r
    rule-ends (LdConst i) ls es q able e g = let now = stay ls e in let r : Ends (LocalsKnown ls) (constant h i) = search (parts_well, constant-well, now) depth 20 in r
    rule-ends (CopyLoc l) ls es q able e g = copy-ends l ls able e
    rule-ends (MoveLoc l) ls es q able e g = move-ends l ls es e g
    rule-ends (StLoc l) ls es q able e g = store-ends l ls es able e g
    rule-ends (MutBorrowLoc l) ls es q able e g = borrow-ends true l ls e
    rule-ends (ImmBorrowLoc l) ls es q able e g = borrow-ends false l ls e
    rule-ends (MutBorrowField i) ls es q able e g = let now = stay ls e in let r : Ends (LocalsKnown ls) (borrow_field true h i) = search (parts_well, own-field-well, fields-well, now) depth 20 in r
    rule-ends (ImmBorrowField i) ls es q able e g = let now = stay ls e in let r : Ends (LocalsKnown ls) (borrow_field false h i) = search (parts_well, own-field-well, fields-well, now) depth 20 in r
    rule-ends (Call i) ls es q able e g = call-well h i
    rule-ends (Pack i) ls es q able e g = let now = stay ls e in let r : Ends (LocalsKnown ls) (pack h i) = search (parts_well, own-struct-well, tag-well, now) depth 20 in r
    rule-ends (Unpack i) ls es q able e g = let now = stay ls e in let r : Ends (LocalsKnown ls) (unpack h i) = search (parts_well, own-struct-well, fields-well, now) depth 20 in r
    rule-ends ReadRef ls es q able e g = read-ends ls e able
    rule-ends WriteRef ls es q able e g = write-ends ls e es able g
    rule-ends Add ls es q able e g = gives-ends ls e (binary sum_of s.top.stack) (binary-well sum_of (λ w x y. choice-well _ _ _ tt) s.top.stack)
    rule-ends Sub ls es q able e g = gives-ends ls e (binary difference_of s.top.stack) (binary-well difference_of (λ w x y. choice-well _ _ _ tt) s.top.stack)
    rule-ends Mul ls es q able e g = gives-ends ls e (binary product_of s.top.stack) (binary-well product_of (λ w x y. choice-well _ _ _ tt) s.top.stack)
    rule-ends Mod ls es q able e g = gives-ends ls e (binary remainder_of s.top.stack) (binary-well remainder_of (λ w x y. other-well _ _ _ tt) s.top.stack)
    rule-ends Div ls es q able e g = gives-ends ls e (binary quotient_of s.top.stack) (binary-well quotient_of (λ w x y. other-well _ _ _ tt) s.top.stack)
    rule-ends BitOr ls es q able e g = gives-ends ls e (binary (λ w x y. Ok (bit_or x y)) s.top.stack) (binary-well (λ w x y. Ok (bit_or x y)) (λ w x y. tt) s.top.stack)
    rule-ends BitAnd ls es q able e g = gives-ends ls e (binary (λ w x y. Ok (bit_and x y)) s.top.stack) (binary-well (λ w x y. Ok (bit_and x y)) (λ w x y. tt) s.top.stack)
    rule-ends Xor ls es q able e g = gives-ends ls e (binary (λ w x y. Ok (bit_xor x y)) s.top.stack) (binary-well (λ w x y. Ok (bit_xor x y)) (λ w x y. tt) s.top.stack)
    rule-ends Or ls es q able e g = gives-ends ls e (logic ◌||◌ s.top.stack) (logic-well ◌||◌ s.top.stack)
    rule-ends And ls es q able e g = gives-ends ls e (logic ◌&&◌ s.top.stack) (logic-well ◌&&◌ s.top.stack)
    rule-ends Not ls es q able e g = gives-ends ls e (negation s.top.stack) (negation-well s.top.stack)
    rule-ends Eq ls es q able e g = equality-ends ls e (λ same. same) able
    rule-ends Neq ls es q able e g = equality-ends ls e not able
    rule-ends Lt ls es q able e g = gives-ends ls e (comparison nat_lt s.top.stack) (comparison-well nat_lt s.top.stack)
    rule-ends Gt ls es q able e g = gives-ends ls e (comparison (λ x y. nat_lt y x) s.top.stack) (comparison-well (λ x y. nat_lt y x) s.top.stack)
    rule-ends Le ls es q able e g = gives-ends ls e (comparison nat_le s.top.stack) (comparison-well nat_le s.top.stack)
    rule-ends Ge ls es q able e g = gives-ends ls e (comparison (λ x y. nat_le y x) s.top.stack) (comparison-well (λ x y. nat_le y x) s.top.stack)
    rule-ends Abort ls es q able e g = let r : Ends (LocalsKnown ls) (abort h) = search parts_well depth 20 in r
    rule-ends (Exists i) ls es q able e g = let now = stay ls e in let r : Ends (LocalsKnown ls) (exists h i) = search (parts_well, keyed-well, address-well, now) depth 20 in r
    rule-ends (MutBorrowGlobal i) ls es q able e g = let now = stay ls e in let r : Ends (LocalsKnown ls) (borrow_global true h i) = search (parts_well, keyed-well, address-well, now) depth 20 in r
    rule-ends (ImmBorrowGlobal i) ls es q able e g = let now = stay ls e in let r : Ends (LocalsKnown ls) (borrow_global false h i) = search (parts_well, keyed-well, address-well, now) depth 20 in r
    rule-ends (MoveFrom i) ls es q able e g = move-from-ends ls e i es q g
    rule-ends (MoveTo i) ls es q able e g = move-to-ends ls e i
    rule-ends FreezeRef ls es q able e g = gives-ends ls e (freeze h s.top.stack) (freeze-well h s.top.stack)
    rule-ends Shl ls es q able e g = gives-ends ls e (shift shifted_left s.top.stack) (shift-well shifted_left (λ w x y. choice-well _ _ _ tt) s.top.stack)
    rule-ends Shr ls es q able e g = gives-ends ls e (shift shifted_right s.top.stack) (shift-well shifted_right (λ w x y. choice-well _ _ _ tt) s.top.stack)
    rule-ends CastU8 ls es q able e g = gives-ends ls e (cast U8 s.top.stack) (cast-well U8 s.top.stack)
    rule-ends CastU64 ls es q able e g = gives-ends ls e (cast U64 s.top.stack) (cast-well U64 s.top.stack)
    rule-ends CastU128 ls es q able e g = gives-ends ls e (cast U128 s.top.stack) (cast-well U128 s.top.stack)
    rule-ends CastU16 ls es q able e g = gives-ends ls e (cast U16 s.top.stack) (cast-well U16 s.top.stack)
    rule-ends CastU32 ls es q able e g = gives-ends ls e (cast U32 s.top.stack) (cast-well U32 s.top.stack)
    rule-ends i ls es q able e g = stay ls e
