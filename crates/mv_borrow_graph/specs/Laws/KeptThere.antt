-- An instruction that finds the types that it needs leaves edges between nodes that are there.
use Rattle.std.proofs.Common.{◌≡◌, ℕ, ◌-◌, Bool, true, not, ◌&&◌, List, [], ◌∷◌, ◌++◌, length, filter, slice_get, Option, Some}
use Rattle.std.proofs.Common.{refl, sym, ap, ◌∙◌, subst, arith}
use Rattle.std.specs.Prelude.{nat_lt, nat_le}
use Rattle.std.specs.Bool.{then_some}
use Rattle.std.specs.List.{list_all, list_any}
use Rattle.std.proofs.lemmas.Bool.{and_parts, lt-ltb, leb-true}
use Rattle.std.proofs.lemmas.Option.{same_Some, slice_get_within}
use Rattle.mv_move_types.specs.declared.borrow.Node.{Node}
use Rattle.mv_move_types.specs.declared.borrow.Node.TheVariants.{Slot, Own, Glob, Temp}
use Rattle.mv_move_types.specs.declared.token.Width.TheVariants.{U8, U16, U32, U64, U128}
use Rattle.mv_move_types.specs.declared.token.ValueType.{ValueType}
use Rattle.mv_move_types.specs.declared.token.Token.{Token}
use Rattle.mv_move_types.specs.declared.token.Token.TheVariants.{Plain, Reference, MutableReference}
use Rattle.mv_move_types.specs.declared.instruction.Instruction.{Instruction}
use Rattle.mv_move_types.specs.declared.instruction.Instruction.TheVariants.{Pop, Ret, BrTrue, BrFalse, Branch, LdU64, LdConst, LdTrue, LdFalse}
use Rattle.mv_move_types.specs.declared.instruction.Instruction.TheVariants.{CopyLoc, MoveLoc, StLoc, MutBorrowLoc, ImmBorrowLoc, MutBorrowField}
use Rattle.mv_move_types.specs.declared.instruction.Instruction.TheVariants.{ImmBorrowField, Call, Pack, Unpack, ReadRef, WriteRef, Or, And, Not, Eq}
use Rattle.mv_move_types.specs.declared.instruction.Instruction.TheVariants.{Neq, Abort, Nop, Exists, MutBorrowGlobal, ImmBorrowGlobal, MoveFrom}
use Rattle.mv_move_types.specs.declared.instruction.Instruction.TheVariants.{MoveTo, FreezeRef, Shl, Shr, LdU8, LdU128, CastU8, CastU64, CastU128}
use Rattle.mv_move_types.specs.declared.instruction.Instruction.TheVariants.{LdU16, LdU32, CastU16, CastU32}
use Rattle.mv_move_types.specs.declared.tables.FieldHandle.{FieldHandle}
use Rattle.mv_move_types.specs.declared.tables.FunctionHandle.{FunctionHandle}
use Rattle.mv_move_types.specs.Options.{◌>>=◌}
use Rattle.mv_move_types.specs.Module.{Module, FunctionDefinition, StructDefinition, local_type, own_acquires}
use Rattle.mv_binary_format.proofs.Binds.{then_some_parts}
use Rattle.mv_type_rules.specs.TypeRules.{Types, types_after, boolean, number, address, keyed_type, field_types}
use Rattle.mv_type_rules.specs.TypesHold.{Point, point_at}
use Rattle.mv_edges.specs.Edges.{Edge, same_node, here, inherited, agrees, out_of, without, renamed, an_edge, without_each}
use Rattle.mv_type_rules.proofs.Steps.{bind_some}
use Rattle.mv_certificate_rules.specs.BorrowRules.{edges_after, is_mutable_token, is_reference_token, is_mutable, next_temp, top_temp, no_edge_out}
use Rattle.mv_certificate_rules.specs.BorrowRules.{no_mutable_from, copy_edges, move_edges, store_edges, field_edges, position_of, global_edges}
use Rattle.mv_certificate_rules.specs.BorrowRules.{reference_nodes, result_edges, call_edges}
use Rattle.mv_certificate_rules.specs.Nodes.{are_there}
use Rattle.mv_borrow_graph.specs.Laws.Shifts.{Shift, PlainShift, is_plain, exchanged, plain_exchanged, plain_taken, plain_pushed, unchanged}
use Rattle.mv_borrow_graph.specs.Laws.Shifts.{constant_shift, two_numbers_shift, equality_shift, shift_shift, cast_shift, pack_shift, unpack_shift}
use Rattle.mv_borrow_graph.specs.Laws.Shifts.{global_shift, plain_global, move_to_shift, pop_shift, copy_shift, move_shift, store_shift, borrow_shift}
use Rattle.mv_borrow_graph.specs.Laws.Shifts.{mutable_field_shift, immutable_field_shift, read_shift, write_shift, freeze_shift}
use Rattle.mv_borrow_graph.specs.Laws.RowsThere.{plain_row, top_row, write_row, second_row, freeze_row, field_row, global_row}
use Rattle.mv_borrow_graph.specs.Laws.RowsThere.{lent_at, copied_at, child_at, moved_at, stored_at, local_is}
use Rattle.mv_borrow_graph.specs.Laws.CallThere.{call_row}
use Rattle.mv_bound_rules.proofs.Entries.{all_at}

-- no field is a reference, and none is the 33rd
pub record HasPlainFields (m : Module) : Type 0 where
  pub plain : list_all (λ (x : StructDefinition). list_all (λ f. is_plain f.token) x.fields) m.structs ≡ true
  pub few : list_all (λ (x : StructDefinition). nat_le (length x.fields) 32) m.structs ≡ true

-- a call's edges, by what its handle names
call_known : (p : Point) (i : ℕ) (es fs : List Edge) (handle : FunctionHandle) (params results : List Token) → slice_get p.home.function_handles i ≡ Some handle
    → slice_get p.home.signatures handle.parameters ≡ Some params
    → slice_get p.home.signatures handle.results ≡ Some results → call_edges p i es ≡ Some fs
    → then_some (list_all (λ n. no_edge_out n es) (reference_nodes is_mutable_token (length p.types - length params) params)
    && list_all (λ g. no_edge_out (Glob g) es) (own_acquires p.home i))
    (without_each (reference_nodes is_reference_token (length p.types - length params) params) es
    ++ result_edges (reference_nodes is_mutable_token (length p.types - length params) params)
    (reference_nodes is_reference_token (length p.types - length params) params) (length p.types - length params) results es) ≡ Some fs
call_known p i es fs handle params results a b c e = rw (a, b, c) at e

module _ (m : Module) (d : FunctionDefinition) (ok : HasPlainFields m) (s t : Types) (es fs : List Edge) (there : are_there (point_at m d s) es ≡ true) where
  abbrev p : Point
  p = point_at m d s

  abbrev q : Point
  q = point_at m d t

  -- an instruction that leaves the edges
  kept : PlainShift s t → Some es ≡ Some fs → are_there q fs ≡ true
  kept h e = subst (λ xs. are_there q xs ≡ true) (same_Some es fs e) (plain_row m d s t h es there)

  kept_if : (b : Bool) → PlainShift s t → then_some b es ≡ Some fs → are_there q fs ≡ true
  kept_if b h e = subst (λ xs. are_there q xs ≡ true) (then_some_parts b es fs e).1 (plain_row m d s t h es there)

  -- the position of a field that the types know
  low_position : (i f : ℕ) (v : ValueType × ValueType) → field_types m i ≡ Some v → position_of p i ≡ Some f → nat_lt f 32 ≡ true
  low_position i f v e1 e2 =
      let h = bind_some (slice_get m.field_handles i) _ v e1 in
      let x = bind_some (slice_get m.structs h.0.definition) _ v h.1.1 in
      let field = bind_some (slice_get x.0.fields h.0.position) _ v x.1.1 in
      let in_fields = slice_get_within x.0.fields h.0.position field.0 field.1.0 in
      let few = leb-true (length x.0.fields) 32 (all_at (λ (y : StructDefinition). nat_le (length y.fields) 32) m.structs h.0.definition x.0 ok.few x.1.0) in
      let same : h.0.position ≡ f = same_Some h.0.position f (sym (ap (λ o. o >>= λ (y : FieldHandle). Some y.position) h.1.0) ∙ e2) in
      lt-ltb f 32 (omega (arith, in_fields, few, same))

  -- a struct that the types know
  low_struct : (i : ℕ) (v : ValueType) → keyed_type m i ≡ Some v → nat_lt i (length m.structs) ≡ true
  low_struct i v e = let x = bind_some (slice_get m.structs i) _ v e in lt-ltb i (length m.structs) (slice_get_within m.structs i x.0 x.1.0)

  copied : (l : ℕ) (x : Token) → local_type m d l ≡ Some x → Shift s t [] (x ∷ []) → copy_edges p l x es ≡ Some fs → are_there q fs ≡ true
  copied l (Plain v) typed h e = kept_if (no_mutable_from p (Own l) es) (record { taken = []; given = Plain v ∷ []; shift = h; plain = refl }) e
  copied l (Reference v) typed h e =
      subst (λ xs. are_there q xs ≡ true) (same_Some _ fs e)
      (subst (λ y. are_there (point_at m d y) (es ++ inherited (λ label. label) (Slot l) (next_temp p) es) ≡ true)
      (sym (h.after ∙ ap (λ r. Reference v ∷ r) (sym h.before)))
      (copied_at m d (Reference v) refl s l es there))
  copied l (MutableReference v) typed h e =
      subst (λ xs. are_there q xs ≡ true) (then_some_parts (no_edge_out (Slot l) es) _ fs e).1
      (subst (λ y. are_there (point_at m d y) (es ++ inherited (λ label. label) (Slot l) (next_temp p) es ++ an_edge (Slot l) here (next_temp p) ∷ []) ≡ true)
      (sym (h.after ∙ ap (λ r. MutableReference v ∷ r) (sym h.before)))
      (child_at m d (MutableReference v) refl s l (local_is is_mutable_token p l (MutableReference v) typed refl) es there))

  -- the types with one more on top
  one_more : (x : Token) → Shift s t [] (x ∷ []) → x ∷ s ≡ t
  one_more x h = ap (λ r. x ∷ r) h.before ∙ sym h.after

  moved_ref : (l : ℕ) (x : Token) → is_reference_token x ≡ true → local_type m d l ≡ Some x → Shift s t [] (x ∷ [])
      → Some (renamed (Slot l) (next_temp p) es) ≡ Some fs → are_there q fs ≡ true
  moved_ref l x r typed h e =
      subst (λ xs. are_there q xs ≡ true) (same_Some (renamed (Slot l) (next_temp p) es) fs e)
      (subst (λ y. are_there (point_at m d y) (renamed (Slot l) (next_temp p) es) ≡ true) (one_more x h) (moved_at m d x r s l typed es there))

  moved : (l : ℕ) (x : Token) → local_type m d l ≡ Some x → Shift s t [] (x ∷ []) → move_edges p l x es ≡ Some fs → are_there q fs ≡ true
  moved l (Plain v) typed h e = kept_if (no_edge_out (Own l) es) (record { taken = []; given = Plain v ∷ []; shift = h; plain = refl }) e
  moved l (Reference v) typed h e = moved_ref l (Reference v) refl typed h e
  moved l (MutableReference v) typed h e = moved_ref l (MutableReference v) refl typed h e

  stored_ref : (l : ℕ) (x : Token) → is_reference_token x ≡ true → local_type m d l ≡ Some x → Shift s t (x ∷ []) []
      → Some (renamed (top_temp p) (Slot l) (without (Slot l) es)) ≡ Some fs → are_there q fs ≡ true
  stored_ref l x r typed h e =
      let was : s ≡ x ∷ t = h.before ∙ ap (λ y. x ∷ y) (sym h.after) in
      subst (λ xs. are_there q xs ≡ true) (same_Some (renamed (top_temp p) (Slot l) (without (Slot l) es)) fs e)
      (subst (λ y. are_there q (renamed (top_temp (point_at m d y)) (Slot l) (without (Slot l) es)) ≡ true) (sym was)
      (stored_at m d x r t l typed es (subst (λ y. are_there (point_at m d y) es ≡ true) was there)))

  stored : (l : ℕ) (x : Token) → local_type m d l ≡ Some x → Shift s t (x ∷ []) [] → store_edges p l x es ≡ Some fs → are_there q fs ≡ true
  stored l (Plain v) typed h e = kept_if (no_edge_out (Own l) es) (record { taken = Plain v ∷ []; given = []; shift = h; plain = refl }) e
  stored l (Reference v) typed h e = stored_ref l (Reference v) refl typed h e
  stored l (MutableReference v) typed h e = stored_ref l (MutableReference v) refl typed h e

  -- the rule's edges, of the local's type
  by_local : (l : ℕ) (x : Token) (f : Token → Option (List Edge)) → local_type m d l ≡ Some x → (local_type p.home p.function l >>= f) ≡ Some fs → f x ≡ Some fs
  by_local l x f typed e = sym (ap (λ o. o >>= f) typed) ∙ e

  lent : (l : ℕ) (b : Bool) (x y : Token) → local_type m d l ≡ Some x → is_plain x ≡ true → is_reference_token y ≡ true → Shift s t [] (y ∷ [])
      → then_some b (es ++ an_edge (Own l) here (next_temp p) ∷ []) ≡ Some fs → are_there q fs ≡ true
  lent l b x y typed plain r h e =
      subst (λ xs. are_there q xs ≡ true) (then_some_parts b (es ++ an_edge (Own l) here (next_temp p) ∷ []) fs e).1
      (subst (λ z. are_there (point_at m d z) (es ++ an_edge (Own l) here (next_temp p) ∷ []) ≡ true) (one_more y h)
      (lent_at m d y r s (Own l) (local_is is_plain p l x typed plain) es there))

  field : (i f : ℕ) (b : Bool) (v : ValueType × ValueType) (x y : Token)
      → field_types m i ≡ Some v → is_reference_token y ≡ true → Shift s t (x ∷ []) (y ∷ []) → position_of p i ≡ Some f
      → then_some b (field_edges p f es) ≡ Some fs → are_there q fs ≡ true
  field i f b v x y known r h at e =
      subst (λ xs. are_there q xs ≡ true) (then_some_parts b (field_edges p f es) fs e).1 (field_row m d s t x y r h f (low_position i f v known at) es there)

  global : (i : ℕ) (b : Bool) (v : ValueType) (y : Token) → keyed_type m i ≡ Some v → is_reference_token y ≡ true → Shift s t (address ∷ []) (y ∷ [])
      → then_some b (global_edges p i es) ≡ Some fs → are_there q fs ≡ true
  global i b v y known r h e =
      subst (λ xs. are_there q xs ≡ true) (then_some_parts b (global_edges p i es) fs e).1
      (global_row m d s t address y refl r h i (low_struct i v known) es there)

  gone : (b : Bool) (n : Node) → are_there q (without n es) ≡ true → then_some b (without n es) ≡ Some fs → are_there q fs ≡ true
  gone b n h e = subst (λ xs. are_there q xs ≡ true) (then_some_parts b (without n es) fs e).1 h

  called : (i : ℕ) → types_after m d (Call i) s ≡ Some t → call_edges p i es ≡ Some fs → are_there q fs ≡ true
  unfolding types_after
  called i e1 e2 =
      let handle = bind_some (slice_get m.function_handles i) _ t e1 in
      let params = bind_some (slice_get m.signatures handle.0.parameters) _ t handle.1.1 in
      let results = bind_some (slice_get m.signatures handle.0.results) _ t params.1.1 in
      let base : ℕ = length s - length params.0 in
      let h = exchanged params.0 results.0 s t results.1.1 in
      let parts = then_some_parts _ _ fs (call_known p i es fs handle.0 params.0 results.0 handle.1.0 params.1.0 results.1.0 e2) in
      let needed = and_parts (list_all (λ n. no_edge_out n es) (reference_nodes is_mutable_token base params.0))
      (list_all (λ g. no_edge_out (Glob g) es) (own_acquires m i)) parts.0 in
      subst (λ xs. are_there q xs ≡ true) parts.1 (call_row m d params.0 results.0 s t h base refl es needed.0 there)

  pub after_there : (i : Instruction) → (i ≡ Ret → ⊥) → types_after m d i s ≡ Some t → edges_after p i es ≡ Some fs → are_there q fs ≡ true
  unfolding types_after edges_after
  after_there Pop go e f =
      let h = pop_shift m s t e in subst (λ xs. are_there q xs ≡ true) (same_Some (without (top_temp p) es) fs f) (top_row m d s t h.0 [] h.1 es there)
  after_there Ret go e f = absurd (go refl)
  after_there (BrTrue x) go e f = kept (plain_taken (boolean ∷ []) s t refl e) f
  after_there (BrFalse x) go e f = kept (plain_taken (boolean ∷ []) s t refl e) f
  after_there (Branch x) go e f = kept (unchanged s t e) f
  after_there (LdU64 x) go e f = kept (plain_pushed (number U64) s t e) f
  after_there (LdConst x) go e f = kept (constant_shift m x s t e) f
  after_there LdTrue go e f = kept (plain_pushed boolean s t e) f
  after_there LdFalse go e f = kept (plain_pushed boolean s t e) f
  after_there (CopyLoc x) go e f = let h = copy_shift m d x s t e in copied x h.0 h.1.0 h.1.1 (by_local x h.0 (λ y. copy_edges p x y es) h.1.0 f)
  after_there (MoveLoc x) go e f = let h = move_shift m d x s t e in moved x h.0 h.1.0 h.1.1 (by_local x h.0 (λ y. move_edges p x y es) h.1.0 f)
  after_there (StLoc x) go e f = let h = store_shift m d x s t e in stored x h.0 h.1.0 h.1.1 (by_local x h.0 (λ y. store_edges p x y es) h.1.0 f)
  after_there (MutBorrowLoc x) go e f =
      let h = borrow_shift MutableReference m d x s t e in lent x (no_edge_out (Own x) es) h.0 (MutableReference h.1.1.1.0) h.1.0 h.1.1.0 refl h.1.1.1.1 f
  after_there (ImmBorrowLoc x) go e f =
      let h = borrow_shift Reference m d x s t e in lent x (no_mutable_from p (Own x) es) h.0 (Reference h.1.1.1.0) h.1.0 h.1.1.0 refl h.1.1.1.1 f
  after_there (MutBorrowField x) go e f =
      let h = mutable_field_shift m x s t e in
      let at = bind_some (position_of p x) _ fs f in
      field x at.0 (not (list_any (λ g. agrees at.0 g.label) (out_of (top_temp p) es)))
      h.0 (MutableReference h.0.0) (MutableReference h.0.1) h.1.0 refl h.1.1 at.1.0 at.1.1
  after_there (ImmBorrowField x) go e f =
      let h = immutable_field_shift m x s t e in
      let at = bind_some (position_of p x) _ fs f in
      field x at.0 (not (list_any (λ g. is_mutable p g.to && agrees at.0 g.label) (out_of (top_temp p) es)))
      h.0 h.1.1.0 (Reference h.0.1) h.1.0 refl h.1.1.1 at.1.0 at.1.1
  after_there (Call x) go e f = called x e f
  after_there (Pack x) go e f = kept (pack_shift m x s t ok.plain e) f
  after_there (Unpack x) go e f = kept (unpack_shift m x s t e) f
  after_there ReadRef go e f =
      let h = read_shift m s t e in gone (no_mutable_from p (top_temp p) es) (top_temp p) (top_row m d s t h.0 (Plain h.1.0 ∷ []) h.1.1 es there) f
  after_there WriteRef go e f = let h = write_shift m s t e in gone (no_edge_out (top_temp p) es) (top_temp p) (write_row m d s t h.0 h.1.0 h.1.1 es there) f
  after_there Or go e f = kept (plain_exchanged (boolean ∷ boolean ∷ []) (boolean ∷ []) s t refl e) f
  after_there And go e f = kept (plain_exchanged (boolean ∷ boolean ∷ []) (boolean ∷ []) s t refl e) f
  after_there Not go e f = kept (plain_exchanged (boolean ∷ []) (boolean ∷ []) s t refl e) f
  after_there Eq go e f = kept (equality_shift m s t e) f
  after_there Neq go e f = kept (equality_shift m s t e) f
  after_there Abort go e f = kept (plain_taken (number U64 ∷ []) s t refl e) f
  after_there Nop go e f = kept (unchanged s t e) f
  after_there (Exists x) go e f = kept (plain_global (λ v. boolean) m x s t e) f
  after_there (MutBorrowGlobal x) go e f =
      let h = global_shift MutableReference m x s t e in global x (no_edge_out (Glob x) es) h.0 (MutableReference h.0) h.1.0 refl h.1.1 f
  after_there (ImmBorrowGlobal x) go e f =
      let h = global_shift Reference m x s t e in global x (no_mutable_from p (Glob x) es) h.0 (Reference h.0) h.1.0 refl h.1.1 f
  after_there (MoveFrom x) go e f = kept_if (no_edge_out (Glob x) es) (plain_global Plain m x s t e) f
  after_there (MoveTo x) go e f =
      let h = move_to_shift m x s t e in
      subst (λ xs. are_there q xs ≡ true) (same_Some (without (Temp (length s - 2)) es) fs f) (second_row m d s t _ h.0 h.1 es there)
  after_there FreezeRef go e f =
      let h = freeze_shift s t e in
      subst (λ xs. are_there q xs ≡ true) (then_some_parts (no_mutable_from p (top_temp p) es) (filter (λ g. not (same_node g.from (top_temp p))) es) fs f).1
      (freeze_row m d s t h.0 (Reference h.1.0) refl h.1.1 es there)
  after_there Shl go e f = kept (shift_shift s t e) f
  after_there Shr go e f = kept (shift_shift s t e) f
  after_there (LdU8 x) go e f = kept (plain_pushed (number U8) s t e) f
  after_there (LdU128 x) go e f = kept (plain_pushed (number U128) s t e) f
  after_there CastU8 go e f = kept (cast_shift U8 s t e) f
  after_there CastU64 go e f = kept (cast_shift U64 s t e) f
  after_there CastU128 go e f = kept (cast_shift U128 s t e) f
  after_there (LdU16 x) go e f = kept (plain_pushed (number U16) s t e) f
  after_there (LdU32 x) go e f = kept (plain_pushed (number U32) s t e) f
  after_there CastU16 go e f = kept (cast_shift U16 s t e) f
  after_there CastU32 go e f = kept (cast_shift U32 s t e) f
  -- an operator on two numbers of one width, or a comparison of them
  after_there _ go e f = kept (two_numbers_shift _ s t e) f
