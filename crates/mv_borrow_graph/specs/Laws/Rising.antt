-- Where a step is defined on a state, it is defined on each state that is related to it, by a relation of labels that the rules
-- keep, with a related result: on each one below, and on each one that looks alike.
--   Below low high      where the second is there, the first is there, and related to it
use Rattle.std.proofs.Common.{◌≡◌, ℕ, ◌+◌, ◌-◌, Bool, true, false, not, ◌&&◌, ◌||◌, List, [], ◌∷◌, ◌++◌, length, Option, Some, None, slice_get}
use Rattle.std.proofs.Common.{refl, sym, ap, subst, true≢false}
use Rattle.std.specs.Bool.{then_some}
use Rattle.std.specs.List.{list_all, list_any}
use Rattle.std.proofs.lemmas.Bool.{and_parts, and_from, not-true}
use Rattle.mv_move_types.specs.declared.borrow.Node.{Node}
use Rattle.mv_move_types.specs.declared.borrow.Node.TheVariants.{Slot, Own, Glob, Temp}
use Rattle.mv_move_types.specs.declared.token.Token.{Token}
use Rattle.mv_move_types.specs.declared.token.Token.TheVariants.{Plain, Reference, MutableReference}
use Rattle.mv_move_types.specs.declared.instruction.Instruction.{Instruction}
use Rattle.mv_move_types.specs.declared.instruction.Instruction.TheVariants.{Pop, Ret, CopyLoc, MoveLoc, StLoc, MutBorrowLoc, ImmBorrowLoc}
use Rattle.mv_move_types.specs.declared.instruction.Instruction.TheVariants.{MutBorrowField, ImmBorrowField, Call, ReadRef, WriteRef, MutBorrowGlobal}
use Rattle.mv_move_types.specs.declared.instruction.Instruction.TheVariants.{ImmBorrowGlobal, MoveFrom, MoveTo, FreezeRef}
use Rattle.mv_move_types.specs.Options.{◌>>=◌}
use Rattle.mv_move_types.specs.Module.{Module, FunctionDefinition, local_type, own_acquires}
use Rattle.mv_type_rules.specs.TypesHold.{Point, point_at}
use Rattle.mv_type_rules.specs.Sound.{types_before}
use Rattle.mv_edges.specs.Edges.{Edge, Label, here, extended, opened, agrees, out_of, but_out_of, inherited, without, renamed, an_edge}
use Rattle.mv_edges.specs.Edges.{edges_leq, label_leq, without_each}
use Rattle.mv_edges.specs.Related.{edges_related}
use Rattle.mv_edges.specs.Sorted.{sorted}
use Rattle.mv_edges.proofs.Insertion.{all_weaker}
use Rattle.mv_edges.proofs.Related.{related_from_contains}
use Rattle.mv_edges.proofs.Changes.{IsRising, IsKept, order_kept, nodes_rise, label_rises, both_rise, none_passes_below, none_out_below}
use Rattle.mv_edges.proofs.Changes.{none_out_passes_below, related-append, related-flat_map, related-sorted, related-without}
use Rattle.mv_edges.proofs.Changes.{related-but_out_of, related-renamed, related-inherited}
use Rattle.mv_certificate_rules.specs.BorrowRules.{next_temp, top_temp, is_mutable, is_reference_token, is_mutable_token, is_root_node, is_temp}
use Rattle.mv_certificate_rules.specs.BorrowRules.{no_edge_out, no_mutable_from, copy_edges, move_edges, store_edges, field_edges, mutable_field_edges}
use Rattle.mv_certificate_rules.specs.BorrowRules.{immutable_field_edges, position_of, reference_nodes, opened_edges, result_edges}
use Rattle.mv_certificate_rules.specs.BorrowRules.{call_edges, return_edges, edges_after}
use Rattle.mv_borrow_graph.specs.Domain.{ordered, edges_step}

module _ (le : Label → Label → Bool) (kept : IsKept le) where
  abbrev pub Below : Option (List Edge) → Option (List Edge) → Type 0
  Below low high = (v : List Edge) → high ≡ Some v → (u : List Edge) × ((low ≡ Some u) × (edges_related le u v ≡ true))

  some_below : (a b : List Edge) → edges_related le a b ≡ true → Below (Some a) (Some b)
  some_below a b h v e = let same : b ≡ v = cc in (a, (refl, subst (λ x. edges_related le a x ≡ true) same h))

  tested_below : (low high : Bool) (a b : List Edge) → (high ≡ true → low ≡ true) → edges_related le a b ≡ true → Below (then_some low a) (then_some high b)
  tested_below low false a b f h v e = cc
  tested_below true true a b f h v e = some_below a b h v e
  tested_below false true a b f h v e = absurd (true≢false (sym (f refl)))

  found_below : {A : Type 0} (o : Option A) (f g : A → Option (List Edge)) → ((x : A) → Below (f x) (g x)) → Below (o >>= f) (o >>= g)
  found_below None f g h v e = cc
  found_below (Some x) f g h v e = h x v e

  ordered_below : (low high : Option (List Edge)) → Below low high → Below (ordered low) (ordered high)
  ordered_below low None f v e = cc
  ordered_below low (Some b) f v e =
      let below = f b refl in
      let same : sorted b ≡ v = cc in
      (sorted below.0, (ap ordered below.1.0, subst (λ x. edges_related le (sorted below.0) x ≡ true) same (related-sorted le below.0 b below.1.1)))

  self : (e : Edge) → edges_related le (e ∷ []) (e ∷ []) ≡ true
  self e = related_from_contains le kept.itself (e ∷ []) (e ∷ []) (λ x c. c)

  module _ (a b : List Edge) (below : edges_related le a b ≡ true) where
    -- ---- tests

    free_below : (n : Node) → no_edge_out n b ≡ true → no_edge_out n a ≡ true
    free_below n = none_out_below le n a b below

    unpassed_below : (n : Node) (q : Edge → Bool) → IsRising le q → not (list_any q (out_of n b)) ≡ true → not (list_any q (out_of n a)) ≡ true
    unpassed_below n q rises t = ap not (none_out_passes_below le n q rises a b below (not-true (list_any q (out_of n b)) t))

    readable_below : (p : Point) (n : Node) → no_mutable_from p n b ≡ true → no_mutable_from p n a ≡ true
    readable_below p n = unpassed_below n (λ e. is_mutable p e.to) (nodes_rise le (λ _ to. is_mutable p to))

    -- ---- changes

    kept_below : (low high : Bool) → (high ≡ true → low ≡ true) → Below (then_some low a) (then_some high b)
    kept_below low high f = tested_below low high a b f below

    lent_below : (low high : Bool) (e : Edge) → (high ≡ true → low ≡ true) → Below (then_some low (a ++ e ∷ [])) (then_some high (b ++ e ∷ []))
    lent_below low high e f = tested_below low high (a ++ e ∷ []) (b ++ e ∷ []) f (related-append le a b (e ∷ []) (e ∷ []) below (self e))

    copies_below : (l : ℕ) (n : Node) → edges_related le (a ++ inherited (λ label. label) (Slot l) n a) (b ++ inherited (λ label. label) (Slot l) n b) ≡ true
    copies_below l n =
        related-append le a b (inherited (λ label. label) (Slot l) n a) (inherited (λ label. label) (Slot l) n b) below
        (related-inherited le (λ label. label) (λ x y g. g) (Slot l) n a b below)

    field_below : (p : Point) (f : ℕ) → edges_related le (field_edges p f a) (field_edges p f b) ≡ true
    field_below p f =
        let n = top_temp p in
        related-append le (without n a) (without n b) (inherited (extended f) n n a) (inherited (extended f) n n b) (related-without le n a b below)
        (related-inherited le (extended f) (kept.extending f) n n a b below)

    opened_below : (ns : List Node) (n : Node) → edges_related le (opened_edges ns n a) (opened_edges ns n b) ≡ true
    opened_below ns n =
        related-flat_map le (λ m. inherited opened m n a) (λ m. inherited opened m n b) (λ m. related-inherited le opened kept.opening m n a b below) ns

    results_below : (m al : List Node) (k : ℕ) (ts : List Token) → edges_related le (result_edges m al k ts a) (result_edges m al k ts b) ≡ true
    results_below m al k [] = refl
    results_below m al k (Plain t ∷ ts) = results_below m al (k + 1) ts
    results_below m al k (Reference t ∷ ts) =
        related-append le (opened_edges al (Temp k) a) (opened_edges al (Temp k) b)
        (result_edges m al (k + 1) ts a) (result_edges m al (k + 1) ts b) (opened_below al (Temp k)) (results_below m al (k + 1) ts)
    results_below m al k (MutableReference t ∷ ts) =
        related-append le (opened_edges m (Temp k) a) (opened_edges m (Temp k) b)
        (result_edges m al (k + 1) ts a) (result_edges m al (k + 1) ts b) (opened_below m (Temp k)) (results_below m al (k + 1) ts)

    -- ---- rows

    copy_below : (p : Point) (l : ℕ) (t : Token) → Below (copy_edges p l t a) (copy_edges p l t b)
    copy_below p l (Plain t) = kept_below (no_mutable_from p (Own l) a) (no_mutable_from p (Own l) b) (readable_below p (Own l))
    copy_below p l (Reference t) =
        some_below (a ++ inherited (λ label. label) (Slot l) (next_temp p) a) (b ++ inherited (λ label. label) (Slot l) (next_temp p) b)
        (copies_below l (next_temp p))
    copy_below p l (MutableReference t) =
        let e = an_edge (Slot l) here (next_temp p) in
        let low = a ++ inherited (λ label. label) (Slot l) (next_temp p) a in
        let high = b ++ inherited (λ label. label) (Slot l) (next_temp p) b in
        tested_below (no_edge_out (Slot l) a) (no_edge_out (Slot l) b) (low ++ e ∷ []) (high ++ e ∷ []) (free_below (Slot l))
        (related-append le low high (e ∷ []) (e ∷ []) (copies_below l (next_temp p)) (self e))

    moved_below : (p : Point) (l : ℕ) (n : Node) → Below (Some (renamed (Slot l) n a)) (Some (renamed (Slot l) n b))
    moved_below p l n = some_below (renamed (Slot l) n a) (renamed (Slot l) n b) (related-renamed le (Slot l) n a b below)

    move_below : (p : Point) (l : ℕ) (t : Token) → Below (move_edges p l t a) (move_edges p l t b)
    move_below p l (Plain t) = kept_below (no_edge_out (Own l) a) (no_edge_out (Own l) b) (free_below (Own l))
    move_below p l (Reference t) = moved_below p l (next_temp p)
    move_below p l (MutableReference t) = moved_below p l (next_temp p)

    stored_below : (p : Point) (l : ℕ)
        → Below (Some (renamed (top_temp p) (Slot l) (without (Slot l) a))) (Some (renamed (top_temp p) (Slot l) (without (Slot l) b)))
    stored_below p l =
        some_below (renamed (top_temp p) (Slot l) (without (Slot l) a)) (renamed (top_temp p) (Slot l) (without (Slot l) b))
        (related-renamed le (top_temp p) (Slot l) (without (Slot l) a) (without (Slot l) b) (related-without le (Slot l) a b below))

    store_below : (p : Point) (l : ℕ) (t : Token) → Below (store_edges p l t a) (store_edges p l t b)
    store_below p l (Plain t) = kept_below (no_edge_out (Own l) a) (no_edge_out (Own l) b) (free_below (Own l))
    store_below p l (Reference t) = stored_below p l
    store_below p l (MutableReference t) = stored_below p l

    mutable_field_below : (p : Point) (f : ℕ) → Below (mutable_field_edges p f a) (mutable_field_edges p f b)
    mutable_field_below p f =
        tested_below (not (list_any (λ e. agrees f e.label) (out_of (top_temp p) a))) (not (list_any (λ e. agrees f e.label) (out_of (top_temp p) b)))
        (field_edges p f a) (field_edges p f b)
        (unpassed_below (top_temp p) (λ e. agrees f e.label) (label_rises le (agrees f) (kept.agreeing f))) (field_below p f)

    immutable_field_below : (p : Point) (f : ℕ) → Below (immutable_field_edges p f a) (immutable_field_edges p f b)
    immutable_field_below p f =
        let q : Edge → Bool = λ e. is_mutable p e.to && agrees f e.label in
        tested_below (not (list_any q (out_of (top_temp p) a))) (not (list_any q (out_of (top_temp p) b))) (field_edges p f a) (field_edges p f b)
        (unpassed_below (top_temp p) q (both_rise le (λ e. is_mutable p e.to) (λ e. agrees f e.label)
        (nodes_rise le (λ _ to. is_mutable p to)) (label_rises le (agrees f) (kept.agreeing f)))) (field_below p f)

    without_below : (low high : Bool) (n : Node) → (high ≡ true → low ≡ true) → Below (then_some low (without n a)) (then_some high (without n b))
    without_below low high n f = tested_below low high (without n a) (without n b) f (related-without le n a b below)

    return_below : (p : Point) → Below (return_edges p a) (return_edges p b)
    return_below p =
        let q : Edge → Bool = λ e. is_temp e.to && (is_root_node e.from || is_temp e.from && is_mutable p e.from) in
        kept_below (not (list_any q a)) (not (list_any q b))
        (λ t. ap not (none_passes_below le q (nodes_rise le (λ from to. is_temp to && (is_root_node from || is_temp from && is_mutable p from)))
        a b below (not-true (list_any q b) t)))

  all_without_below : (ns : List Node) (a b : List Edge) → edges_related le a b ≡ true → edges_related le (without_each ns a) (without_each ns b) ≡ true
  all_without_below [] a b h = h
  all_without_below (n ∷ ns) a b h = all_without_below ns (without n a) (without n b) (related-without le n a b h)

  -- a call of a function with these types
  tied_below : (a b : List Edge) → edges_related le a b ≡ true → (mutable al : List Node) (acquired : List ℕ) (base : ℕ) (results : List Token)
      → Below (then_some (list_all (λ n. no_edge_out n a) mutable && list_all (λ t. no_edge_out (Glob t) a) acquired)
      (without_each al a ++ result_edges mutable al base results a))
      (then_some (list_all (λ n. no_edge_out n b) mutable && list_all (λ t. no_edge_out (Glob t) b) acquired)
      (without_each al b ++ result_edges mutable al base results b))
  tied_below a b h mutable al acquired base results =
      tested_below (list_all (λ n. no_edge_out n a) mutable && list_all (λ t. no_edge_out (Glob t) a) acquired)
      (list_all (λ n. no_edge_out n b) mutable && list_all (λ t. no_edge_out (Glob t) b) acquired)
      (without_each al a ++ result_edges mutable al base results a) (without_each al b ++ result_edges mutable al base results b)
      (λ t.
      let parts = and_parts (list_all (λ n. no_edge_out n b) mutable) (list_all (λ t. no_edge_out (Glob t) b) acquired) t in
      and_from (list_all (λ n. no_edge_out n a) mutable) (list_all (λ t. no_edge_out (Glob t) a) acquired)
      (all_weaker (λ n. no_edge_out n b) (λ n. no_edge_out n a) (free_below a b h) mutable parts.0)
      (all_weaker (λ t. no_edge_out (Glob t) b) (λ t. no_edge_out (Glob t) a) (λ t. free_below a b h (Glob t)) acquired parts.1))
      (related-append le (without_each al a) (without_each al b) (result_edges mutable al base results a) (result_edges mutable al base results b)
      (all_without_below al a b h) (results_below a b h mutable al base results))

  call_below : (a b : List Edge) → edges_related le a b ≡ true → (p : Point) (i : ℕ) → Below (call_edges p i a) (call_edges p i b)
  call_below a b h p i =
      found_below (slice_get p.home.function_handles i) _ _ (λ handle.
      found_below (slice_get p.home.signatures handle.parameters) _ _ (λ parameters.
      found_below (slice_get p.home.signatures handle.results) _ _ (λ results.
      let base = length p.types - length parameters in
      tied_below a b h (reference_nodes is_mutable_token base parameters) (reference_nodes is_reference_token base parameters)
      (own_acquires p.home i) base results)))

  -- each row
  pub after_below : (p : Point) (i : Instruction) (a b : List Edge) → edges_related le a b ≡ true → Below (edges_after p i a) (edges_after p i b)
  unfolding edges_after
  after_below p Pop a b h = some_below (without (top_temp p) a) (without (top_temp p) b) (related-without le (top_temp p) a b h)
  after_below p Ret a b h = return_below a b h p
  after_below p (CopyLoc x) a b h = found_below (local_type p.home p.function x) (λ t. copy_edges p x t a) (λ t. copy_edges p x t b) (copy_below a b h p x)
  after_below p (MoveLoc x) a b h = found_below (local_type p.home p.function x) (λ t. move_edges p x t a) (λ t. move_edges p x t b) (move_below a b h p x)
  after_below p (StLoc x) a b h = found_below (local_type p.home p.function x) (λ t. store_edges p x t a) (λ t. store_edges p x t b) (store_below a b h p x)
  after_below p (MutBorrowLoc x) a b h =
      lent_below a b h (no_edge_out (Own x) a) (no_edge_out (Own x) b) (an_edge (Own x) here (next_temp p)) (free_below a b h (Own x))
  after_below p (ImmBorrowLoc x) a b h =
      lent_below a b h (no_mutable_from p (Own x) a) (no_mutable_from p (Own x) b) (an_edge (Own x) here (next_temp p)) (readable_below a b h p (Own x))
  after_below p (MutBorrowField x) a b h =
      found_below (position_of p x) (λ f. mutable_field_edges p f a) (λ f. mutable_field_edges p f b) (mutable_field_below a b h p)
  after_below p (ImmBorrowField x) a b h =
      found_below (position_of p x) (λ f. immutable_field_edges p f a) (λ f. immutable_field_edges p f b) (immutable_field_below a b h p)
  after_below p (Call x) a b h = call_below a b h p x
  after_below p ReadRef a b h =
      without_below a b h (no_mutable_from p (top_temp p) a) (no_mutable_from p (top_temp p) b) (top_temp p) (readable_below a b h p (top_temp p))
  after_below p WriteRef a b h = without_below a b h (no_edge_out (top_temp p) a) (no_edge_out (top_temp p) b) (top_temp p) (free_below a b h (top_temp p))
  after_below p (MutBorrowGlobal x) a b h =
      lent_below a b h (no_edge_out (Glob x) a) (no_edge_out (Glob x) b) (an_edge (Glob x) here (top_temp p)) (free_below a b h (Glob x))
  after_below p (ImmBorrowGlobal x) a b h =
      lent_below a b h (no_mutable_from p (Glob x) a) (no_mutable_from p (Glob x) b) (an_edge (Glob x) here (top_temp p)) (readable_below a b h p (Glob x))
  after_below p (MoveFrom x) a b h = kept_below a b h (no_edge_out (Glob x) a) (no_edge_out (Glob x) b) (free_below a b h (Glob x))
  after_below p (MoveTo x) a b h =
      some_below (without (Temp (length p.types - 2)) a) (without (Temp (length p.types - 2)) b) (related-without le (Temp (length p.types - 2)) a b h)
  after_below p FreezeRef a b h =
      tested_below (no_mutable_from p (top_temp p) a) (no_mutable_from p (top_temp p) b) (but_out_of (top_temp p) a) (but_out_of (top_temp p) b)
      (readable_below a b h p (top_temp p)) (related-but_out_of le (top_temp p) a b h)
  after_below p _ a b h = some_below a b h

  -- the step at a place is defined where it is on a related state, and its result is related
  pub step_related : (m : Module) (d : FunctionDefinition) (at : ℕ) (a b : List Edge) → edges_related le a b ≡ true
      → Below (edges_step m d at a) (edges_step m d at b)
  step_related m d at a b h =
      found_below (slice_get d.code at) _ _ (λ i.
      found_below (slice_get (types_before m d) at) _ _ (λ types.
      ordered_below (edges_after (point_at m d types) i a) (edges_after (point_at m d types) i b) (after_below (point_at m d types) i a b h)))

-- the step at a place is defined where it is on a larger state, and its result is below
pub step_below : (m : Module) (d : FunctionDefinition) (at : ℕ) (a b : List Edge) → edges_leq a b ≡ true
    → Below label_leq order_kept (edges_step m d at a) (edges_step m d at b)
step_below m d at a b h = step_related label_leq order_kept m d at a b h
