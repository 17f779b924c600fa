-- What a load of a constant and an operator give: a leaf.
use Rattle.mv_machine.proofs.Common.{[], ℕ, ◌++◌, ◌∙◌, ◌∷◌, ◌≡◌, Bool, List, Ok, ap, not, refl, subst, sym, true, first_so, second_so, AllByRecursion, ◌&&◌, slice_get, same_width, LeafKind}
use Rattle.mv_machine.proofs.Common.{Boolean, Number, Token, Plain, OfLeaf, Width, U8, binary, cast, comparison, constant, equality, logic}
use Rattle.mv_machine.proofs.Common.{negation, shift, Here, Turn, can_drop, is_reference_tag, pushes, has_tag, tag_of, Leaf, Value}
use Rattle.mv_move_types.specs.Numbers.{leaf_number}
use Rattle.mv_machine.specs.Numbers.{Operator, fitting}
use Rattle.mv_machine.specs.StepNumbers.{constant_value}
use Rattle.mv_machine.proofs.Laws.{on_ok, on_need}
use Rattle.mv_machine.proofs.Binds.{ok-is, on_some, on_operand, on_number, on_boolean, WhereOk}

-- an operator gave a leaf for operands that may be dropped
pub record GivesLeaf (h : Here) (stack after : List Value) : Type 0 where
  pub taken : List Value
  pub rest : List Value
  pub kind : LeafKind
  pub number : ℕ
  pub before : stack ≡ taken ++ rest
  pub dropped : AllByRecursion (λ v. can_drop h v ≡ true) taken
  pub afterwards : after ≡ Leaf kind number ∷ rest

leaf_drops : (h : Here) (kind : LeafKind) (n : ℕ) → can_drop h (Leaf kind n) ≡ true
leaf_drops h Boolean n = refl
leaf_drops h kind n = refl

-- a leaf may be dropped
pub drops_leaf : (h : Here) (v : Value) (kind : LeafKind) (n : ℕ) → v ≡ Leaf kind n → can_drop h v ≡ true
drops_leaf h v kind n e = subst (λ x. can_drop h x ≡ true) (sym e) (leaf_drops h kind n)

-- for one operand, and for two
one : (h : Here) (stack rest : List Value) (v : Value) (kind : LeafKind) (n : ℕ) → stack ≡ v ∷ rest → can_drop h v ≡ true → GivesLeaf h stack (Leaf kind n ∷ rest)
one h stack rest v kind n s d = record { taken = v ∷ []; rest = rest; kind = kind; number = n; before = s; dropped = (d, tt); afterwards = refl }

two : (h : Here) (stack below rest : List Value) (v w : Value) (kind : LeafKind) (n : ℕ) → stack ≡ v ∷ below → below ≡ w ∷ rest → can_drop h v ≡ true → can_drop h w ≡ true
    → GivesLeaf h stack (Leaf kind n ∷ rest)
two h stack below rest v w kind n s s2 d d2 = record {
  taken = v ∷ w ∷ [];
  rest = rest;
  kind = kind;
  number = n;
  before = s ∙ ap (λ (b : List Value). v ∷ b) s2;
  dropped = (d, (d2, tt));
  afterwards = refl;
}

pub binary-gives : (h : Here) (op : Operator) (stack after : List Value) → binary op stack ≡ Ok after → GivesLeaf h stack after
unfolding binary
binary-gives h op stack after e =
    on_operand stack _ after e (λ v below s e1.
    on_operand below _ after e1 (λ w rest s2 e2.
    on_number v _ after e2 (λ wy y v_is e3.
    on_number w _ after e3 (λ wx x w_is e4.
    on_need (same_width wx wy) _ _ after e4 (λ met e5.
    on_ok (op wx x y) _ after e5 (λ n n_is e6.
    subst (WhereOk (GivesLeaf h stack)) e6 (two h stack below rest v w (Number wx) n s s2 (drops_leaf h v _ y v_is) (drops_leaf h w _ x w_is))))))))

pub comparison-gives : (h : Here) (test : ℕ → ℕ → Bool) (stack after : List Value) → comparison test stack ≡ Ok after → GivesLeaf h stack after
unfolding comparison
comparison-gives h test stack after e =
    on_operand stack _ after e (λ v below s e1.
    on_operand below _ after e1 (λ w rest s2 e2.
    on_number v _ after e2 (λ wy y v_is e3.
    on_number w _ after e3 (λ wx x w_is e4.
    on_need (same_width wx wy) _ _ after e4 (λ met e5.
    subst (WhereOk (GivesLeaf h stack)) e5 (two h stack below rest v w _ _ s s2 (drops_leaf h v _ y v_is) (drops_leaf h w _ x w_is)))))))

pub shift-gives : (h : Here) (op : Operator) (stack after : List Value) → shift op stack ≡ Ok after → GivesLeaf h stack after
unfolding shift
shift-gives h op stack after e =
    on_operand stack _ after e (λ v below s e1.
    on_operand below _ after e1 (λ w rest s2 e2.
    on_number v _ after e2 (λ wy y v_is e3.
    on_number w _ after e3 (λ wx x w_is e4.
    on_need (same_width wy U8) _ _ after e4 (λ met e5.
    on_ok (op wx x y) _ after e5 (λ n n_is e6.
    subst (WhereOk (GivesLeaf h stack)) e6 (two h stack below rest v w _ n s s2 (drops_leaf h v _ y v_is) (drops_leaf h w _ x w_is))))))))

pub cast-gives : (h : Here) (to : Width) (stack after : List Value) → cast to stack ≡ Ok after → GivesLeaf h stack after
unfolding cast
cast-gives h to stack after e =
    on_operand stack _ after e (λ v rest s e1.
    on_number v _ after e1 (λ w x v_is e2.
    on_ok (fitting to x) _ after e2 (λ n n_is e3.
    subst (WhereOk (GivesLeaf h stack)) e3 (one h stack rest v _ n s (drops_leaf h v _ x v_is)))))

pub logic-gives : (h : Here) (op : Bool → Bool → Bool) (stack after : List Value) → logic op stack ≡ Ok after → GivesLeaf h stack after
unfolding logic
logic-gives h op stack after e =
    on_operand stack _ after e (λ v below s e1.
    on_operand below _ after e1 (λ w rest s2 e2.
    on_boolean v _ after e2 (λ y v_is e3.
    on_boolean w _ after e3 (λ x w_is e4.
    subst (WhereOk (GivesLeaf h stack)) e4 (two h stack below rest v w _ _ s s2 (drops_leaf h v _ y v_is) (drops_leaf h w _ x w_is))))))

pub negation-gives : (h : Here) (stack after : List Value) → negation stack ≡ Ok after → GivesLeaf h stack after
unfolding negation
negation-gives h stack after e =
    on_operand stack _ after e (λ v rest s e1.
    on_boolean v _ after e1 (λ x v_is e2.
    subst (WhereOk (GivesLeaf h stack)) e2 (one h stack rest v _ _ s (drops_leaf h v _ x v_is))))

pub equality-gives : (h : Here) (answer : Bool → Bool) (stack after : List Value) → equality h answer stack ≡ Ok after → GivesLeaf h stack after
unfolding equality
equality-gives h answer stack after e =
    on_operand stack _ after e (λ v below s e1.
    on_operand below _ after e1 (λ w rest s2 e2.
    on_some (tag_of h.state w) _ _ after e2 (λ tag tag_is e3.
    on_need (has_tag h.state v tag) _ _ after e3 (λ same e4.
    on_need (not (is_reference_tag tag)) _ _ after e4 (λ plain e5.
    on_need (can_drop h w && can_drop h v) _ _ after e5 (λ d e6.
    subst (WhereOk (GivesLeaf h stack)) e6 (two h stack below rest v w _ _ s s2 (second_so (can_drop h w) (can_drop h v) d) (first_so (can_drop h w) (can_drop h v) d))))))))

-- a LdConst
pub record ConstantIs (h : Here) (t : Turn) : Type 0 where
  pub kind : LeafKind
  pub number : ℕ
  pub left : pushes h (Leaf kind number) ≡ Ok t

constant_value-leaf : (token : Token) (bytes : List ℕ) (v : Value) → constant_value token bytes ≡ Ok v → (kind : LeafKind) × (n : ℕ) × (v ≡ Leaf kind n)
constant_value-leaf (Plain (OfLeaf kind)) bytes v e = on_some (leaf_number kind bytes) _ _ v e (λ n n_is e1. (kind, n, sym (ok-is (Leaf kind n) v e1)))
constant_value-leaf token bytes v e = absurd cc

pub constant-is : (h : Here) (i : ℕ) (t : Turn) → constant h i ≡ Ok t → ConstantIs h t
unfolding constant
constant-is h i t e =
    on_some (slice_get h.home.constants i) _ _ t e (λ c c_is e1.
    on_ok (constant_value c.token c.bytes) _ t e1 (λ v v_is e2.
    let l = constant_value-leaf c.token c.bytes v v_is in
    record { kind = l.0; number = l.1; left = subst (λ x. pushes h x ≡ Ok t) l.2 e2 }))
