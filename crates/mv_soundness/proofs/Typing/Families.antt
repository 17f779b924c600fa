-- Rows of operands alone: numbers, bools, constants.
use Rattle.mv_soundness.proofs.Typing.Common.{◌≡◌, ℕ, ◌+◌, ◌-◌, ◌*◌, ◌^◌, ◌<◌, ◌≤◌, true, List, [], ◌∷◌, refl, ap, subst, ◌∙◌, arith, Some, Ok, Bool, false, sym, cond, Err, eqb}
use Rattle.mv_soundness.proofs.Typing.Common.{ltb-true, lt-ltb, same_Some, IsTrue, nat_le, nat_lt, not, bit_and, bit_or, bit_xor, Module, width_bits, same_width, LeafKind, Boolean}
use Rattle.mv_soundness.proofs.Typing.Common.{Number, Token, Plain, OfLeaf, Width, U8, sum_of, difference_of, product_of, remainder_of, quotient_of, shifted_left, shifted_right, truth}
use Rattle.mv_soundness.proofs.Typing.Common.{Aborts, Value, Leaf, on_bind, Types, boolean, takes_gives, taken, top_type, number, in_range, Roots, HasToken, HaveTokens}
use Rattle.std.proofs.Common.{◌/◌, ◌%◌}
use Rattle.std.proofs.{Math.Nat.div-le_self, Math.Pow.pow_pos, lemmas.Nat.or_lt, lemmas.Nat.xor_lt, lemmas.Nat.and_le_l}
use Rattle.mv_type_rules.specs.TypeRules.{top_width, of_two_numbers, of_shift, of_cast, width_of}
use Rattle.mv_machine.specs.{Numbers.Operator, Numbers.fitting, declared.Kind.TheVariants.Arith}
use Rattle.mv_machine.specs.StepNumbers.{binary, comparison, shift, cast, logic, negation}
use Rattle.mv_soundness.proofs.{Typing.Tests.same_width-same, Typing.Parts.Part, Typing.Parts.some, Typing.Parts.passes}
use Rattle.mv_soundness.proofs.Typing.Operands.{takes_gives-is, taken-is, top_type-is, leaf, of_leaf}

-- ---- operators keep their width

-- a number fits a width
abbrev pub Fits : Width → ℕ → Type 0
Fits w n = IsTrue (nat_lt n (2 ^ width_bits w))

-- an operator on numbers of a width gives one, or aborts
abbrev pub Keeps : Operator → Type 0
Keeps operator = (w : Width) (x y : ℕ) → Fits w x → Fits w y → Part (Fits w) (operator w x y)

fits-lt : (w : Width) (n : ℕ) → Fits w n → n < 2 ^ width_bits w
fits-lt w n h = ltb-true n (2 ^ width_bits w) h

pub lt-fits : (w : Width) (n : ℕ) → n < 2 ^ width_bits w → Fits w n
lt-fits w n h = lt-ltb n (2 ^ width_bits w) h

-- a number that fits where a test passes, or an abort
kept : (w : Width) (b : Bool) (n : ℕ) → (b ≡ true → n < 2 ^ width_bits w) → Part (Fits w) (cond b (Ok n) (Err (Aborts Arith 0)))
kept w true n h = lt-fits w n (h refl)
kept w false n h = tt

-- and where a test fails
kept_past : (w : Width) (b : Bool) (n : ℕ) → (b ≡ false → n < 2 ^ width_bits w) → Part (Fits w) (cond b (Err (Aborts Arith 0)) (Ok n))
kept_past w true n h = tt
kept_past w false n h = lt-fits w n (h refl)

pub fitting_fits : (w : Width) (n : ℕ) → Part (Fits w) (fitting w n)
fitting_fits w n = kept w (nat_lt n (2 ^ width_bits w)) n (ltb-true n (2 ^ width_bits w))

pub sum_keeps : Keeps sum_of
sum_keeps w x y h k = fitting_fits w (x + y)

pub product_keeps : Keeps product_of
product_keeps w x y h k = fitting_fits w (x * y)

pub difference_keeps : Keeps difference_of
difference_keeps w x y h k = kept w (nat_le y x) (x - y) (λ e. let l : x < 2 ^ width_bits w = fits-lt w x h in omega (arith, l))

pub remainder_keeps : Keeps remainder_of
remainder_keeps w x y h k = kept_past w (eqb y 0) (x % y) (λ e. let l : x < 2 ^ width_bits w = fits-lt w x h in omega (arith, l))

pub quotient_keeps : Keeps quotient_of
quotient_keeps w x y h k = kept_past w (eqb y 0) (x / y) (λ e. let l : x < 2 ^ width_bits w = fits-lt w x h in omega (arith, l))

pub or_keeps : Keeps (λ w x y. Ok (bit_or x y))
or_keeps w x y h k = lt-fits w (bit_or x y) (or_lt (width_bits w) x y (fits-lt w x h) (fits-lt w y k))

pub and_keeps : Keeps (λ w x y. Ok (bit_and x y))
and_keeps w x y h k =
    let l : x < 2 ^ width_bits w = fits-lt w x h in
    let m : bit_and x y ≤ x = and_le_l x y in
    lt-fits w (bit_and x y) (omega (arith, l, m))

pub xor_keeps : Keeps (λ w x y. Ok (bit_xor x y))
xor_keeps w x y h k = lt-fits w (bit_xor x y) (xor_lt (width_bits w) x y (fits-lt w x h) (fits-lt w y k))

-- a shift keeps the width of what is shifted
abbrev pub KeepsLeft : Operator → Type 0
KeepsLeft operator = (w : Width) (x y : ℕ) → Fits w x → Part (Fits w) (operator w x y)

below_divisor : (m n : ℕ) → 0 < m → n % m < m
below_divisor m n p = omega arith

pub left_keeps : KeepsLeft shifted_left
left_keeps w x y h = kept w (nat_lt y (width_bits w)) (x * 2 ^ y % 2 ^ width_bits w) (λ e. below_divisor (2 ^ width_bits w) (x * 2 ^ y) (pow_pos (width_bits w)))

pub right_keeps : KeepsLeft shifted_right
right_keeps w x y h =
    let l : x < 2 ^ width_bits w = fits-lt w x h in
    let m : x / 2 ^ y ≤ x = div-le_self x (2 ^ y) in
    kept w (nat_lt y (width_bits w)) (x / 2 ^ y) (λ e. omega (arith, l, m))

-- a type whose number has a width
pub top_width-is : (types : Types) (w : Width) → top_width types ≡ Some w → (below : Types) × (types ≡ number w ∷ below)
top_width-is (Plain (OfLeaf (Number v)) ∷ below) w e = (below, ap (λ (u : Width). number u ∷ below) (same_Some v w e))
top_width-is types w e = absurd cc

pub width_of-is : (t : Token) (w : Width) → width_of t ≡ Some w → t ≡ number w
width_of-is (Plain (OfLeaf (Number v))) w e = ap number (same_Some v w e)
width_of-is t w e = absurd cc

-- ---- the rules
module _ (modules : List Module) (look : Roots) (home : Module) where
  -- a leaf on top
  record OneLeaf (stack : List Value) (k : LeafKind) (below : Types) : Type 0 where
    n : ℕ
    rest : List Value
    are : stack ≡ Leaf k n ∷ rest
    fits : IsTrue (in_range k n)
    typed : HaveTokens modules look home rest below

  one_leaf : (stack : List Value) (k : LeafKind) (below : Types) → HaveTokens modules look home stack (Plain (OfLeaf k) ∷ below) → OneLeaf stack k below
  one_leaf [] k below h = absurd h
  one_leaf (v ∷ rest) k below h = let x = leaf modules look home v k h.0 in record { n = x.number; rest = rest; are = ap (λ (c : Value). c ∷ rest) x.is_leaf; fits = x.fits; typed = h.1 }

  -- two leaves on top
  record TwoLeaves (stack : List Value) (j k : LeafKind) (below : Types) : Type 0 where
    right : ℕ
    left : ℕ
    rest : List Value
    are : stack ≡ Leaf j right ∷ Leaf k left ∷ rest
    right_fits : IsTrue (in_range j right)
    left_fits : IsTrue (in_range k left)
    typed : HaveTokens modules look home rest below

  two_leaves : (stack : List Value) (j k : LeafKind) (below : Types) → HaveTokens modules look home stack (Plain (OfLeaf j) ∷ Plain (OfLeaf k) ∷ below) → TwoLeaves stack j k below
  two_leaves stack j k below h =
      let y = one_leaf stack j (Plain (OfLeaf k) ∷ below) h in
      let x = one_leaf y.rest k below y.typed in
      record { right = y.n; left = x.n; rest = x.rest; are = y.are ∙ ap (λ (c : List Value). Leaf j y.n ∷ c) x.are; right_fits = y.fits; left_fits = x.fits; typed = x.typed }

  pub of_two_numbers-is : (given : Width → Token) (types after : Types) → of_two_numbers given types ≡ Some after
      → (w : Width) × (below : Types) × (types ≡ number w ∷ number w ∷ below) × (after ≡ given w ∷ below)
  of_two_numbers-is given types after e =
      on_bind (top_width types) (λ w. takes_gives (number w ∷ number w ∷ []) (given w ∷ []) types) after e (λ w w_is e1.
      let parts = takes_gives-is (number w ∷ number w ∷ []) (given w ∷ []) types after e1 in
      (w, parts.0, parts.1, parts.2))

  pub binary_typed : (operator : Operator) → Keeps operator → (stack : List Value) (types after : Types) → HaveTokens modules look home stack types → of_two_numbers number types ≡ Some after →
      Part (λ (s : List Value). HaveTokens modules look home s after) (binary operator stack)
  unfolding binary
  binary_typed operator keeps stack types after h e =
      let parts = of_two_numbers-is number types after e in
      let w : Width = parts.0 in
      let n = two_leaves stack (Number w) (Number w) parts.1 (subst (λ (ts : Types). HaveTokens modules look home stack ts) parts.2 h) in
      subst (λ (s : List Value). Part (λ (s : List Value). HaveTokens modules look home s after) (binary operator s)) (sym n.are)
      (passes (λ (s : List Value). HaveTokens modules look home s after) (same_width w w) _ _ (same_width-same w)
      (some (λ (s : List Value). HaveTokens modules look home s after) (Fits w) (operator w n.left n.right) _ (keeps w n.left n.right n.left_fits n.right_fits) (λ m fits.
      subst (λ (ts : Types). HaveTokens modules look home (Leaf (Number w) m ∷ n.rest) ts) (sym parts.3) (of_leaf modules look home (Number w) m fits, n.typed))))

  abbrev Typed : Types → List Value → Type 0
  Typed after s = HaveTokens modules look home s after

  -- a bool is a value of its type
  pub of_truth : (b : Bool) → HasToken modules look home (truth b) boolean
  of_truth true = of_leaf modules look home Boolean 1 refl
  of_truth false = of_leaf modules look home Boolean 0 refl

  pub comparison_typed : (test : ℕ → ℕ → Bool) (stack : List Value) (types after : Types) → HaveTokens modules look home stack types → of_two_numbers (λ w. boolean) types ≡ Some after →
      Part (λ (s : List Value). HaveTokens modules look home s after) (comparison test stack)
  unfolding comparison
  comparison_typed test stack types after h e =
      let parts = of_two_numbers-is (λ w. boolean) types after e in
      let w : Width = parts.0 in
      let n = two_leaves stack (Number w) (Number w) parts.1 (subst (λ (ts : Types). HaveTokens modules look home stack ts) parts.2 h) in
      subst (λ (s : List Value). Part (Typed after) (comparison test s)) (sym n.are)
      (passes (Typed after) (same_width w w) _ _ (same_width-same w)
      (subst (λ (ts : Types). HaveTokens modules look home (truth (test n.left n.right) ∷ n.rest) ts) (sym parts.3) (of_truth (test n.left n.right), n.typed)))

  pub shift_typed : (operator : Operator) → KeepsLeft operator → (stack : List Value) (types after : Types) → HaveTokens modules look home stack types → of_shift types ≡ Some after →
      Part (λ (s : List Value). HaveTokens modules look home s after) (shift operator stack)
  unfolding shift
  shift_typed operator keeps stack types after h e =
      on_bind (taken (number U8 ∷ []) types) _ after e (λ below below_is e1.
      on_bind (top_width below) _ after e1 (λ w w_is e2.
      let wide = top_width-is below w w_is in
      let all : types ≡ number U8 ∷ number w ∷ wide.0 = taken-is (number U8 ∷ []) types below below_is ∙ ap (λ (ts : Types). number U8 ∷ ts) wide.1 in
      let same : after ≡ number w ∷ wide.0 = sym (same_Some below after e2) ∙ wide.1 in
      let n = two_leaves stack (Number U8) (Number w) wide.0 (subst (λ (ts : Types). HaveTokens modules look home stack ts) all h) in
      subst (λ (s : List Value). Part (Typed after) (shift operator s)) (sym n.are)
      (some (Typed after) (Fits w) (operator w n.left n.right) _ (keeps w n.left n.right n.left_fits) (λ m fits.
      subst (λ (ts : Types). HaveTokens modules look home (Leaf (Number w) m ∷ n.rest) ts) (sym same) (of_leaf modules look home (Number w) m fits, n.typed)))))

  pub cast_typed : (w : Width) (stack : List Value) (types after : Types) → HaveTokens modules look home stack types → of_cast w types ≡ Some after →
      Part (λ (s : List Value). HaveTokens modules look home s after) (cast w stack)
  unfolding cast
  cast_typed w stack types after h e =
      on_bind (top_type types) _ after e (λ top top_is e1.
      on_bind (width_of top.0) _ after e1 (λ v v_is e2.
      let all : types ≡ number v ∷ top.1 = top_type-is types top top_is ∙ ap (λ (t : Token). t ∷ top.1) (width_of-is top.0 v v_is) in
      let x = one_leaf stack (Number v) top.1 (subst (λ (ts : Types). HaveTokens modules look home stack ts) all h) in
      subst (λ (s : List Value). Part (Typed after) (cast w s)) (sym x.are)
      (some (Typed after) (Fits w) (fitting w x.n) _ (fitting_fits w x.n) (λ m fits.
      subst (λ (ts : Types). HaveTokens modules look home (Leaf (Number w) m ∷ x.rest) ts) (same_Some (number w ∷ top.1) after e2) (of_leaf modules look home (Number w) m fits, x.typed)))))

  pub logic_typed : (operator : Bool → Bool → Bool) (stack : List Value) (types after : Types) → HaveTokens modules look home stack types
      → takes_gives (boolean ∷ boolean ∷ []) (boolean ∷ []) types ≡ Some after
      → Part (λ (s : List Value). HaveTokens modules look home s after) (logic operator stack)
  unfolding logic
  logic_typed operator stack types after h e =
      let parts = takes_gives-is (boolean ∷ boolean ∷ []) (boolean ∷ []) types after e in
      let n = two_leaves stack Boolean Boolean parts.0 (subst (λ (ts : Types). HaveTokens modules look home stack ts) parts.1 h) in
      let said : Bool = operator (not (eqb n.left 0)) (not (eqb n.right 0)) in
      subst (λ (s : List Value). Part (Typed after) (logic operator s)) (sym n.are)
      (subst (λ (ts : Types). HaveTokens modules look home (truth said ∷ n.rest) ts) (sym parts.2) (of_truth said, n.typed))

  pub negation_typed : (stack : List Value) (types after : Types) → HaveTokens modules look home stack types → takes_gives (boolean ∷ []) (boolean ∷ []) types ≡ Some after →
      Part (λ (s : List Value). HaveTokens modules look home s after) (negation stack)
  unfolding negation
  negation_typed stack types after h e =
      let parts = takes_gives-is (boolean ∷ []) (boolean ∷ []) types after e in
      let x = one_leaf stack Boolean parts.0 (subst (λ (ts : Types). HaveTokens modules look home stack ts) parts.1 h) in
      subst (λ (s : List Value). Part (Typed after) (negation s)) (sym x.are)
      (subst (λ (ts : Types). HaveTokens modules look home (truth (not (not (eqb x.n 0))) ∷ x.rest) ts) (sym parts.2) (of_truth (not (not (eqb x.n 0))), x.typed))
