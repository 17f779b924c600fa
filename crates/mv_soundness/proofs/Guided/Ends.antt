-- The parts of a rule, one after the other: each gives a value of which something holds, or fails otherwise than by what is lost or frozen.
use Rattle.mv_soundness.proofs.Guided.Common.{◌≡◌, ℕ, List, [], ◌∷◌, true, false, refl, sym, subst, Bool, Option, Some, None, Ok, Result, Err, nat_le, ok_or, ⊤, StructName, for_each}
use Rattle.mv_soundness.proofs.Guided.Common.{same_tag, StructTag, operand, operands, as_number, as_boolean, as_reference, as_address, as_signer, as_fields, Failure, Aborts, Faults}
use Rattle.mv_soundness.proofs.Guided.Common.{TypeFault, LinkageFault, LostFault, DanglingFault, FrozenFault, Value, Ref, Leaf, Struct, list_of}
use Rattle.std.specs.Prelude.{length, reverse, take, drop}
use Rattle.std.proofs.lemmas.Bool.{cond_both}
use Rattle.mv_move_types.specs.declared.token.LeafKind.TheVariants.{Boolean, Number, Address, Signer}
use Rattle.mv_move_types.specs.Results.{◌>>=◌, ◌>>◌, need}

-- a failure other than by what is lost or frozen
abbrev pub Fine : Failure → Type 0
Fine (Aborts kind n) = ⊤
Fine (Faults TypeFault) = ⊤
Fine (Faults LinkageFault) = ⊤
Fine (Faults DanglingFault) = ⊤
Fine (Faults LostFault) = ⊥
Fine (Faults FrozenFault) = ⊥

-- a part gives a value of which P holds, or fails so
abbrev pub Ends : {A : Type 0} → (A → Type 0) → Result A Failure → Type 0
Ends P (Ok x) = P x
Ends P (Err e) = Fine e

-- a part gives any value, or fails so
abbrev pub Goes_well : {A : Type 0} → Result A Failure → Type 0
Goes_well r = Ends (λ x. ⊤) r

module _ {A B : Type 0} (P : B → Type 0) where
  -- this part goes well, and what follows holds of what it gives
  pub after : (r : Result A Failure) (f : A → Result B Failure) → Goes_well r → ((x : A) → r ≡ Ok x → Ends P (f x)) → Ends P (r >>= f)
  after (Ok x) f h go = go x refl
  after (Err e) f h go = h

module _ {B : Type 0} (P : B → Type 0) where
  -- a test that fails well
  pub tests : (b : Bool) (e : Failure) (r : Result B Failure) → Fine e → (b ≡ true → Ends P r) → Ends P (need b e >> r)
  tests true e r h go = go refl
  tests false e r h go = h

  -- a test that passes
  pub passes : (b : Bool) (e : Failure) (r : Result B Failure) → b ≡ true → Ends P r → Ends P (need b e >> r)
  passes b e r h go = subst (λ c. Ends P (need c e >> r)) (sym h) go

pub found-well : {A : Type 0} (o : Option A) (e : Failure) → Fine e → Goes_well (ok_or o e)
found-well (Some x) e h = tt
found-well None e h = h

pub operand-well : (s : List Value) → Goes_well (operand s)
operand-well [] = tt
operand-well (v ∷ s) = tt

pub operands-well : (n : ℕ) (s : List Value) → Goes_well (operands n s)
operands-well n s = cond_both (nat_le n (length s)) (Ok (reverse (take n s), drop n s)) (Err (Faults TypeFault)) (Goes_well {A = List Value × List Value}) (λ e. tt) (λ e. tt)

pub number-well : (v : Value) → Goes_well (as_number v)
number-well (Leaf (Number w) n) = tt
number-well v = tt

pub boolean-well : (v : Value) → Goes_well (as_boolean v)
boolean-well (Leaf Boolean n) = tt
boolean-well v = tt

pub address-well : (v : Value) → Goes_well (as_address v)
address-well (Leaf Address n) = tt
address-well v = tt

pub signer-well : (v : Value) → Goes_well (as_signer v)
signer-well (Leaf Signer n) = tt
signer-well v = tt

pub reference-well : (v : Value) → Goes_well (as_reference v)
reference-well (Ref r) = tt
reference-well v = tt

pub fields-well : (name : StructName) (v : Value) → Goes_well (as_fields name v)
fields-well name (Struct own fs) = tests (λ x. ⊤) (same_tag (StructTag own) (StructTag name)) (Faults TypeFault) (Ok (list_of fs)) tt (λ h. tt)
fields-well name v = tt

pub each-well : {A B : Type 0} (f : A → Result B Failure) (xs : List A) → ((x : A) → Goes_well (f x)) → Goes_well (for_each f xs)
each-well f [] h = tt
each-well f (x ∷ xs) h = after (λ x. ⊤) (f x) _ (h x) (λ y y_is. after (λ x. ⊤) (for_each f xs) _ (each-well f xs h) (λ ys ys_are. tt))

module _ {A B : Type 0} (P : B → Type 0) where
  -- this part gives this value
  pub given : (r : Result A Failure) (f : A → Result B Failure) (x : A) → r ≡ Ok x → Ends P (f x) → Ends P (r >>= f)
  given r f x e go = subst (λ s. Ends P (s >>= f)) (sym e) go
