-- The small rows: loads, constants, Pop, Eq, branches, Abort, Nop.
use Rattle.mv_soundness.proofs.Typing.Common.{◌≡◌, ℕ, ◌+◌, true, List, [], ◌∷◌, refl, ap, subst, ◌∙◌, Option, Some, Ok, Bool, false, sym, cond, eqb, same_Some, beq, IsTrue, ◌&&◌}
use Rattle.mv_soundness.proofs.Typing.Common.{slice_get, ok_or, not, Constant, leaf_number, need, Tag, Instruction, LeafKind, Boolean, Number, Token, Plain, OfLeaf, U64, root_value}
use Rattle.mv_soundness.proofs.Typing.Common.{Here, operand, is_reference_tag, truth, can_drop, Faults, LinkageFault, entry, LostFault, has_tag, tag_of, TypeFault, Value, Leaf, on_bind}
use Rattle.mv_soundness.proofs.Typing.Common.{token_named, Types, boolean, taken, top_type, plain_of, number, TypesAt, Row, ConstantFacts, in_range, HasType, HasToken, HaveTokens}
use Rattle.mv_soundness.proofs.Typing.Common.{TurnTyped, token_abilities}
use Rattle.mv_machine.specs.{Value.same_value, StepLocals.pop, StepNumbers.equality, StepNumbers.constant, StepNumbers.constant_value, StepControl.branch_if, StepControl.abort}
use Rattle.std.specs.Prelude.{is_some}
use Rattle.mv_machine.specs.{StepParts.pushes, StepParts.goes_to}
use Rattle.mv_type_rules.specs.TypeRules.{of_pop, of_equality, of_constant}
use Rattle.mv_soundness.specs.Typing.HasType.{fields_by_name}
use Rattle.mv_soundness.proofs.Typing.Parts.{Part, known, passes, tested, lost}
use Rattle.mv_soundness.proofs.Typing.Operands.{on_test, taken-is, top_type-is, one_operand, leaf, of_leaf}
use Rattle.mv_soundness.proofs.{Typing.Roots.named_plain, Typing.Roots.typed_tag, Typing.Roots.typed_has_tag, Typing.Stays.stays_at, Typing.Stays.top_typed}
use Rattle.mv_soundness.proofs.{Typing.Families.of_truth}
use Rattle.mv_borrow_graph.specs.Laws.Shifts.{plain_of-is}

pub constant_is : (t : Token) (kind : LeafKind) (bytes : List ℕ) (n : ℕ) → t ≡ Plain (OfLeaf kind) → leaf_number kind bytes ≡ Some n → constant_value t bytes ≡ Ok (Leaf kind n)
constant_is t kind bytes n e g = subst (λ (x : Token). constant_value x bytes ≡ Ok (Leaf kind n)) (sym e) (rw g refl)

module _ (h : Here) (i : Instruction) (types after : Types) (row : Row h i types after) where
  -- one more operand
  pub pushes_typed : (v : Value) (t : Token) → TypesAt h.home h.function (h.state.top.at + 1) after → Some (t ∷ types) ≡ Some after
      → HasToken h.modules (root_value h.state) h.home v t → Part (TurnTyped h.modules) (pushes h v)
  pushes_typed v t next e typed =
      stays_at h i types after (v ∷ h.state.top.stack) (h.state.top.at + 1) row
      (subst (λ (ts : Types). HaveTokens h.modules (root_value h.state) h.home (v ∷ h.state.top.stack) ts) (same_Some (t ∷ types) after e) (typed, row.stands.stack)) next

  pub loads : (k : LeafKind) (n : ℕ) → TypesAt h.home h.function (h.state.top.at + 1) after → Some (Plain (OfLeaf k) ∷ types) ≡ Some after
      → IsTrue (in_range k n) → Part (TurnTyped h.modules) (pushes h (Leaf k n))
  loads k n next e fits = pushes_typed (Leaf k n) (Plain (OfLeaf k)) next e (of_leaf h.modules (root_value h.state) h.home k n fits)

  pub constants : (c : ℕ) → TypesAt h.home h.function (h.state.top.at + 1) after → of_constant h.home c types ≡ Some after → Part (TurnTyped h.modules) (constant h c)
  unfolding constant
  constants c next e =
      on_bind (slice_get h.home.constants c) _ after e (λ x x_is e1.
      let f : ConstantFacts x = row.facts.constant c x x_is in
      let value : constant_value x.token x.bytes ≡ Ok (Leaf f.kind f.number) = constant_is x.token f.kind x.bytes f.number f.is_leaf f.is_number in
      known (TurnTyped h.modules) (entry h.home.constants c) _ x (ap (λ (y : Option Constant). ok_or y (Faults LinkageFault)) x_is)
      (known (TurnTyped h.modules) (constant_value x.token x.bytes) _ (Leaf f.kind f.number) value
      (loads f.kind f.number next (ap (λ (t : Token). Some (t ∷ types)) (sym f.is_leaf) ∙ e1) f.fits)))

  pub pops : of_pop h.home types ≡ Some after → Part (λ (stack : List Value). HaveTokens h.modules (root_value h.state) h.home stack after) (pop h h.state.top.stack)
  unfolding pop
  pops e =
      on_bind (top_type types) _ after e (λ t t_is e1.
      on_bind (token_abilities h.home t.0) _ after e1 (λ a a_is e2.
      on_test a.drop t.1 after e2 (λ able given.
      let P : List Value → Type 0 = λ stack. HaveTokens h.modules (root_value h.state) h.home stack after in
      let top = top_typed h i types after row t.0 t.1 (top_type-is types t t_is) in
      known P (operand h.state.top.stack) _ (top.0, top.1) (ap operand top.2)
      (passes P _ _ _ (ap (λ (x : Option Tag). is_some x) (typed_tag (fields_by_name h.modules) h.state top.0 top.3.tag top.3.typed))
      (tested P (need (can_drop h top.0) (Faults LostFault)) _ (lost (can_drop h top.0))
      (subst (λ (ts : Types). HaveTokens h.modules (root_value h.state) h.home top.1 ts) given top.4))))))

  pub equalities : (answer : Bool → Bool) → of_equality h.home types ≡ Some after
      → Part (λ (stack : List Value). HaveTokens h.modules (root_value h.state) h.home stack after) (equality h answer h.state.top.stack)
  unfolding equality
  equalities answer e =
      on_bind (top_type types) _ after e (λ t t_is e1.
      on_bind (plain_of t.0) _ after e1 (λ u u_is e2.
      on_bind (token_abilities h.home t.0) _ after e2 (λ a a_is e3.
      on_bind (taken (t.0 ∷ []) t.1) _ after e3 (λ below below_is e4.
      on_test a.drop (boolean ∷ below) after e4 (λ able given.
      let P : List Value → Type 0 = λ stack. HaveTokens h.modules (root_value h.state) h.home stack after in
      let table = fields_by_name h.modules in
      let top = top_typed h i types after row t.0 t.1 (top_type-is types t t_is) in
      let under = one_operand h.modules (root_value h.state) h.home top.1 t.0 below
      (subst (λ (ts : Types). HaveTokens h.modules (root_value h.state) h.home top.1 ts) (taken-is (t.0 ∷ []) t.1 below below_is) top.4) in
      let tag : Tag = under.3.tag in
      let same : top.3.tag ≡ tag = same_Some top.3.tag tag (sym top.3.names ∙ under.3.names) in
      let right : HasType table (root_value h.state) top.0 tag = subst (λ (x : Tag). HasType table (root_value h.state) top.0 x) same top.3.typed in
      let plain : is_reference_tag tag ≡ false = named_plain h.home u tag (subst (λ (x : Token). token_named h.home x ≡ Some tag) (plain_of-is t.0 u u_is) under.3.names) in
      known P (operand h.state.top.stack) _ (top.0, top.1) (ap operand top.2)
      (known P (operand top.1) _ (under.0, under.1) (ap operand under.2)
      (known P (ok_or (tag_of h.state under.0) (Faults TypeFault)) _ tag (ap (λ (x : Option Tag). ok_or x (Faults TypeFault)) (typed_tag table h.state under.0 tag under.3.typed))
      (passes P (has_tag h.state top.0 tag) _ _ (typed_has_tag table h.state top.0 tag right)
      (passes P (not (is_reference_tag tag)) _ _ (ap not plain)
      (tested P (need (can_drop h under.0 && can_drop h top.0) (Faults LostFault)) _ (lost (can_drop h under.0 && can_drop h top.0))
      (subst (λ (ts : Types). HaveTokens h.modules (root_value h.state) h.home (truth (answer (same_value under.0 top.0)) ∷ under.1) ts) given
      (of_truth h.modules (root_value h.state) h.home (answer (same_value under.0 top.0)), under.4))))))))))))

  pub branches : (wanted : Bool) (target : ℕ) → taken (boolean ∷ []) types ≡ Some after → TypesAt h.home h.function target after
      → TypesAt h.home h.function (h.state.top.at + 1) after → Part (TurnTyped h.modules) (branch_if wanted h target)
  unfolding branch_if
  branches wanted target e there next =
      let top = top_typed h i types after row boolean after (taken-is (boolean ∷ []) types after e) in
      let x = leaf h.modules (root_value h.state) h.home top.0 Boolean top.3 in
      known (TurnTyped h.modules) (operand h.state.top.stack) _ (Leaf Boolean x.number, top.1) (ap operand (top.2 ∙ ap (λ (v : Value). v ∷ top.1) x.is_leaf))
      (stays_at h i types after top.1 (cond (beq (not (eqb x.number 0)) wanted) target (h.state.top.at + 1)) row top.4 (by_case (beq (not (eqb x.number 0)) wanted)))
    where
      by_case : (b : Bool) → TypesAt h.home h.function (cond b target (h.state.top.at + 1)) after
      by_case true = there
      by_case false = next

  pub goes : (target : ℕ) → Some types ≡ Some after → TypesAt h.home h.function target after → Part (TurnTyped h.modules) (goes_to target h.state)
  goes target e there =
      stays_at h i types after h.state.top.stack target row (subst
      (λ (ts : Types). HaveTokens h.modules (root_value h.state) h.home h.state.top.stack ts) (same_Some types after e) row.stands.stack) there

  pub aborts : taken (number U64 ∷ []) types ≡ Some after → Part (TurnTyped h.modules) (abort h)
  unfolding abort
  aborts e =
      let top = top_typed h i types after row (number U64) after (taken-is (number U64 ∷ []) types after e) in
      let x = leaf h.modules (root_value h.state) h.home top.0 (Number U64) top.3 in
      known (TurnTyped h.modules) (operand h.state.top.stack) _ (Leaf (Number U64) x.number, top.1) (ap operand (top.2 ∙ ap (λ (v : Value). v ∷ top.1) x.is_leaf)) tt
