-- How the parts of a rule are taken apart.
use Rattle.mv_machine.proofs.Common.{[], ℕ, ◌++◌, ◌∙◌, ◌∷◌, ◌≡◌, Bool, Err, List, None, Ok, Option, Result, Some, ap, cond, false, length, not, refl, reverse, subst, sym, true, ◌==◌}
use Rattle.mv_machine.proofs.Common.{is_some, nat_le, ok_or, slice_get, StructName, same_struct, ◌>>=◌, ◌>>◌, need, Address, Boolean, Number, Width, State, with_place, held, Failure}
use Rattle.mv_machine.proofs.Common.{Faults, TypeFault, entry, has_tag, Leaf, Place, Ref, Reference, Struct, Value, Values, list_of}
use Rattle.std.proofs.Common.{take, drop}
use Rattle.std.specs.Prelude.{option_map, option_and_then}
use Rattle.std.proofs.lemmas.List.{reverse-reverse, take-append-drop, length-reverse, length-take-le}
use Rattle.std.proofs.lemmas.Bool.{leb-true}
use Rattle.mv_machine.specs.Value.{with_value_at}
use Rattle.mv_machine.specs.State.{root_value, with_root}
use Rattle.mv_machine.specs.Step.{Here, operand, operands, as_reference}
use Rattle.mv_machine.specs.StepParts.{as_number, as_boolean, as_address, as_fields}
use Rattle.mv_machine.specs.Typing.{LostFault}
use Rattle.mv_machine.specs.StepLocals.{local_tag}
use Rattle.mv_machine.proofs.Laws.{on_ok, on_need}

-- a part that gave a value gave this one
pub ok-is : {A E : Type 0} (x y : A) → (let r : Result A E = Ok x in r) ≡ Ok y → x ≡ y
ok-is x y h = cc

-- what was found was there
pub found-is : {A E : Type 0} (o : Option A) (d : E) (x : A) → ok_or o d ≡ Ok x → o ≡ Some x
found-is None d x h = absurd cc
found-is (Some y) d x h = ap Some (ok-is y x h)

-- an operand was on top
pub operand-is : (s : List Value) (x : Value × List Value) → operand s ≡ Ok x → s ≡ x.0 ∷ x.1
operand-is [] x h = absurd cc
operand-is (v ∷ s) x h = ap (λ (y : Value × List Value). y.0 ∷ y.1) (ok-is (v, s) x h)

-- operands that were taken were on top, the last of them topmost
pub operands-is : (n : ℕ) (s : List Value) (x : List Value × List Value) → operands n s ≡ Ok x → (nat_le n (length s) ≡ true) × (x ≡ (reverse (take n s), drop n s))
operands-is n s x h = by_case (nat_le n (length s)) h
  where
    by_case : (b : Bool) → cond b (Ok (reverse (take n s), drop n s)) (Err (Faults TypeFault)) ≡ Ok x → (b ≡ true) × (x ≡ (reverse (take n s), drop n s))
    by_case true e = (refl, sym (ok-is (reverse (take n s), drop n s) x e))
    by_case false e = absurd cc

-- a local that was read holds the value
pub held-is : (h : Here) (l : ℕ) (v : Value) → held h l ≡ Ok v → slice_get h.state.top.locals l ≡ Some (Some v)
unfolding held
held-is h l v e =
    on_ok (entry h.state.top.locals l) _ v e (λ local at e1.
    on_ok (ok_or local (Faults LostFault)) _ v e1 (λ w w_is e2.
    on_ok (local_tag h l) _ v e2 (λ tag tag_is e3.
    on_need (has_tag h.state w tag) _ _ v e3 (λ typed e4.
    found-is (slice_get h.state.top.locals l) _ local at ∙ ap Some (found-is local _ w w_is ∙ ap Some (ok-is w v e4))))))

-- an operand that was a reference
pub reference-is : (v : Value) (r : Reference) → as_reference v ≡ Ok r → v ≡ Ref r
reference-is (Ref q) r h = ap Ref (ok-is q r h)
reference-is v r h = absurd cc

-- an option that is there
pub on_some : {A B E P : Type 0} (o : Option A) (d : E) (f : A → Result B E) (y : B) → (ok_or o d >>= f) ≡ Ok y → ((x : A) → o ≡ Some x → f x ≡ Ok y → P) → P
on_some (Some x) d f y e go = go x refl e
on_some None d f y e go = absurd cc

pub on_operand : {B P : Type 0} (stack : List Value) (f : (Value × List Value) → Result B Failure) (y : B) → (operand stack >>= f) ≡ Ok y →
    ((v : Value) (below : List Value) → stack ≡ v ∷ below → f (v, below) ≡ Ok y → P) → P
on_operand [] f y e go = absurd cc
on_operand (v ∷ below) f y e go = go v below refl e

pub on_number : {B P : Type 0} (v : Value) (f : (Width × ℕ) → Result B Failure) (y : B) → (as_number v >>= f) ≡ Ok y →
    ((w : Width) (n : ℕ) → v ≡ Leaf (Number w) n → f (w, n) ≡ Ok y → P) → P
on_number (Leaf (Number w) n) f y e go = go w n refl e
on_number v f y e go = absurd cc

pub on_boolean : {B P : Type 0} (v : Value) (f : Bool → Result B Failure) (y : B) → (as_boolean v >>= f) ≡ Ok y →
    ((n : ℕ) → v ≡ Leaf Boolean n → f (not (n == 0)) ≡ Ok y → P) → P
on_boolean (Leaf Boolean n) f y e go = go n refl e
on_boolean v f y e go = absurd cc

pub on_address : {B P : Type 0} (v : Value) (f : ℕ → Result B Failure) (y : B) → (as_address v >>= f) ≡ Ok y →
    ((n : ℕ) → v ≡ Leaf Address n → f n ≡ Ok y → P) → P
on_address (Leaf Address n) f y e go = go n refl e
on_address v f y e go = absurd cc

pub on_reference : {B P : Type 0} (v : Value) (f : Reference → Result B Failure) (y : B) → (as_reference v >>= f) ≡ Ok y →
    ((r : Reference) → v ≡ Ref r → f r ≡ Ok y → P) → P
on_reference (Ref r) f y e go = go r refl e
on_reference v f y e go = absurd cc

pub on_fields : {B P : Type 0} (name : StructName) (v : Value) (f : List Value → Result B Failure) (y : B) → (as_fields name v >>= f) ≡ Ok y →
    ((own : StructName) (fields : Values) → v ≡ Struct own fields → same_struct own name ≡ true → f (list_of fields) ≡ Ok y → P) → P
on_fields {P = P} name (Struct own fields) f y e go = by_case (same_struct own name) refl e
  where
    by_case : (b : Bool) → same_struct own name ≡ b → ((need b (Faults TypeFault) >> Ok (list_of fields)) >>= f) ≡ Ok y → P
    by_case true s g = go own fields refl s g
    by_case false s g = absurd cc
on_fields name (Leaf kind n) f y e go = absurd cc
on_fields name (Ref r) f y e go = absurd cc

-- operands that are taken lie on those below them, the last of them topmost
pub on_operands : {B P : Type 0} (n : ℕ) (stack : List Value) (f : (List Value × List Value) → Result B Failure) (y : B) → (operands n stack >>= f) ≡ Ok y →
    ((taken rest : List Value) → stack ≡ reverse taken ++ rest → length taken ≡ n → f (taken, rest) ≡ Ok y → P) → P
on_operands {P = P} n stack f y e go = by_case (nat_le n (length stack)) refl e
  where
    by_case : (b : Bool) → nat_le n (length stack) ≡ b → (cond b (Ok (reverse (take n stack), drop n stack)) (Err (Faults TypeFault)) >>= f) ≡ Ok y → P
    by_case true s g =
        let lies : stack ≡ reverse (reverse (take n stack)) ++ drop n stack = rw (reverse-reverse (take n stack)) (sym (take-append-drop n stack)) in
        go (reverse (take n stack)) (drop n stack) lies (length-reverse (take n stack) ∙ length-take-le n stack (leb-true n (length stack) s)) g
    by_case false s g = absurd cc

-- what holds of a result that is there
abbrev pub WhereOk : {A E : Type 0} → (A → Type 0) → Result A E → Type 0
WhereOk P (Ok x) = P x
WhereOk P (Err e) = Unit {0}

-- an entry that is there
pub entry-is : {A : Type 0} (xs : List A) (i : ℕ) (x : A) → entry xs i ≡ Ok x → slice_get xs i ≡ Some x
entry-is xs i x e = found-is (slice_get xs i) _ x e

-- what isn't there is none
pub none-is : {A : Type 0} (o : Option A) → not (is_some o) ≡ true → o ≡ None
none-is (Some x) e = absurd cc
none-is None e = refl

-- what holds of an option's value, if there is one
abbrev pub WhereSome : {A : Type 0} → (A → Type 0) → Option A → Type 0
WhereSome P (Some x) = P x
WhereSome P None = Unit {0}

-- an option that a function was mapped over
pub map-is : {A B : Type 0} (f : A → B) (o : Option A) (y : B) → option_map f o ≡ Some y → (x : A) × (o ≡ Some x) × (f x ≡ y)
map-is f (Some x) y e = (x, refl, subst (WhereSome (λ z. f x ≡ z)) e refl)
map-is f None y e = absurd cc

-- an option that goes on with another
pub then-is : {A B : Type 0} (f : A → Option B) (o : Option A) (y : B) → option_and_then f o ≡ Some y → (x : A) × (o ≡ Some x) × (f x ≡ Some y)
then-is f (Some x) y e = (x, refl, e)
then-is f None y e = absurd cc

-- a write at a place, taken apart
pub record PlaceWritten (s : State) (p : Place) (v : Value) (next : State) : Type 0 where
  pub old : Value
  pub new : Value
  pub old_is : root_value s p.root ≡ Some old
  pub new_is : with_value_at old p.path v ≡ Some new
  pub next_is : with_root s p.root new ≡ next

pub place-written : (s : State) (p : Place) (v : Value) (next : State) → with_place s p v ≡ Some next → PlaceWritten s p v next
place-written s p v next e =
    let mapped = map-is (with_root s p.root) (option_and_then (λ old. with_value_at old p.path v) (root_value s p.root)) next e in
    let found = then-is (λ old. with_value_at old p.path v) (root_value s p.root) mapped.0 mapped.1 in
    record { old = found.0; new = mapped.0; old_is = found.1; new_is = found.2; next_is = mapped.2 }
