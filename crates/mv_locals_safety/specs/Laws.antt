-- The order is a preorder, a join is a least state above both, and a step leaves one availability per local and keeps the order.
-- It stands in specs/, since a trait's laws may cite nothing of their own crate but its specs/.
use Rattle.std.specs.Prelude.{◌≡◌, ℕ, List, [], ◌∷◌, Bool, true, false, Option, Some, None, length, slice_get, slice_set}
use Rattle.std.specs.Bool.{then_some}
use Rattle.std.proofs.Common.{refl, sym, ap, ◌∙◌}
use Rattle.std.proofs.lemmas.Bool.{and_parts}
use Rattle.std.proofs.lemmas.List.{length-set}
use Rattle.mv_move_types.specs.declared.borrow.Availability.{Availability}
use Rattle.mv_move_types.specs.declared.borrow.Availability.TheVariants.{Unavailable, Available, Maybe}
use Rattle.mv_move_types.specs.declared.instruction.Instruction.{Instruction}
use Rattle.mv_move_types.specs.declared.instruction.Instruction.TheVariants.{Ret, CopyLoc, MoveLoc, StLoc, MutBorrowLoc, ImmBorrowLoc}
use Rattle.mv_move_types.specs.Options.{◌>>=◌}
use Rattle.mv_move_types.specs.Module.{Module, FunctionDefinition, local_tokens, local_type}
use Rattle.mv_type_rules.specs.TypesHold.{Point, point_at}
use Rattle.mv_lattice.specs.Laws.{IsLawful}
use Rattle.mv_certificate_rules.specs.LocalsRules.{availability_leq, locals_leq, locals_after, is_available, needs_available, may_overwrite, may_leave}
use Rattle.mv_locals_safety.specs.Domain.{locals_order}
use Rattle.mv_locals_safety.specs.Joins.{joined_left, joined_right, joined_least, joined_length}
use Rattle.mv_certificate_rules.proofs.LocalsOrder.{leq_reflexive}
use Rattle.mv_locals_safety.specs.Rising.{step_below}
use Rattle.mv_binary_format.proofs.Binds.{bind_some}

then_some_is : {A : Type 0} (b : Bool) (x y : A) → then_some b x ≡ Some y → x ≡ y
then_some_is true x y e = cc
then_some_is false x y e = cc

then_some_at : {A : Type 0} (b : Bool) (x y : A) (n : ℕ) (measure : A → ℕ) → measure x ≡ n → then_some b x ≡ Some y → measure y ≡ n
then_some_at b x y n measure h e = ap measure (sym (then_some_is b x y e)) ∙ h

needed_keeps : (l : ℕ) (a b : List Availability) → needs_available l a ≡ Some b → length b ≡ length a
needed_keeps l a b e = bind_some (slice_get a l) (λ x. then_some (is_available x) a) b e (λ x _ h. then_some_at (is_available x) a b (length a) length refl h)

locals_after_keeps : (p : Point) (i : Instruction) (a b : List Availability) → locals_after p i a ≡ Some b → length b ≡ length a
unfolding locals_after
locals_after_keeps p (CopyLoc l) a b e = needed_keeps l a b e
locals_after_keeps p (MoveLoc l) a b e =
    bind_some (needs_available l a) (λ before. Some (slice_set before l Unavailable)) b e (λ before needed is.
    let same : slice_set before l Unavailable ≡ b = cc in
    ap length (sym same) ∙ length-set before l Unavailable ∙ needed_keeps l a before needed)
locals_after_keeps p (StLoc l) a b e =
    bind_some (local_type p.home p.function l) (λ t. slice_get a l >>= λ x. then_some (may_overwrite p t x) (slice_set a l Available)) b e (λ t _ e2.
    bind_some (slice_get a l) (λ x. then_some (may_overwrite p t x) (slice_set a l Available)) b e2 (λ x _ h.
    then_some_at (may_overwrite p t x) (slice_set a l Available) b (length a) length (length-set a l Available) h))
locals_after_keeps p (MutBorrowLoc l) a b e = needed_keeps l a b e
locals_after_keeps p (ImmBorrowLoc l) a b e = needed_keeps l a b e
locals_after_keeps p Ret a b e =
    bind_some (local_tokens p.home p.function) (λ ts. then_some (may_leave p ts a) a) b e
    (λ ts _ h. then_some_at (may_leave p ts a) a b (length a) length refl h)
locals_after_keeps p _ a b e = let same : a ≡ b = cc in ap length (sym same)

transitive_one : (x y z : Availability) → availability_leq x y ≡ true → availability_leq y z ≡ true → availability_leq x z ≡ true
transitive_one x y Maybe p q = refl
transitive_one x Unavailable Unavailable p q = p
transitive_one x Available Available p q = p
transitive_one x Unavailable Available p q = cc
transitive_one x Available Unavailable p q = cc
transitive_one x Maybe Unavailable p q = cc
transitive_one x Maybe Available p q = cc

leq_transitive : (a b c : List Availability) → locals_leq a b ≡ true → locals_leq b c ≡ true → locals_leq a c ≡ true
leq_transitive [] [] c p q = q
leq_transitive [] (y ∷ b) c p q = cc
leq_transitive (x ∷ a) [] c p q = cc
leq_transitive (x ∷ a) (y ∷ b) [] p q = cc
leq_transitive (x ∷ a) (y ∷ b) (z ∷ c) p q =
    let ps = and_parts (availability_leq x y) (locals_leq a b) p in
    let qs = and_parts (availability_leq y z) (locals_leq b c) q in
    rw (transitive_one x y z ps.0 qs.0) (leq_transitive a b c ps.1 qs.1)

pub locals_lawful : (m : Module) (d : FunctionDefinition) → IsLawful (locals_order m d)
locals_lawful m d = record {
  reflexive = λ a h. leq_reflexive a;
  transitive = λ a b c ha hb hc p q. leq_transitive a b c p q;
  joins = λ a b ha hb.
      let same : length a ≡ length b = ha ∙ sym hb in
      record {
        valid = joined_length a b same ∙ ha;
        left = joined_left a b same;
        right = joined_right a b same;
        least = λ u _ p q. joined_least a b u same p q;
      };
  joins_begin = λ a b _ _ _ _. tt;
  keeps = λ at a b within h e.
      bind_some (slice_get d.code at) (λ i. locals_after (point_at m d []) i a) b e (λ i _ after. locals_after_keeps (point_at m d []) i a b after ∙ h);
  monotone = λ at a b v within ha hb le e. step_below m d at a b le v e;
  begins = λ g k n b a t graph block next ha begin e. tt;
}
