-- Counts in values, operands and locals, and what copies and losses do not count.
use Rattle.mv_ledger_state.proofs.Common.{[], ◌++◌, ◌+◌, ◌∙◌, ◌∷◌, ◌≡◌, Bool, List, None, Option, Some, ap, arith, cond, false, map, refl, subst, suc, sym, true, zero, ℕ, reverse-append, same_Some}
use Rattle.mv_ledger_state.proofs.Common.{option_and_then, replicate, reverse, slice_get, slice_set, unwrap_or, no_abilities, Module, declared, StructName, same_struct, Abilities, map-is, then-is}
use Rattle.mv_ledger_state.proofs.Common.{count_in, count_in_fields, abilities_of, More, NoMore, Struct, Value, Values, field, field_of, fields_of, list_of, value_at, with_field}
use Rattle.mv_ledger_state.proofs.Common.{with_field_of, with_value_at, same_struct-is, held_in_local, held_in_locals, held_in_stack, Allows, AreKept, IsKept, IsScarce, LocalIsKept, LocalsAreKept}
use Rattle.mv_ledger_state.proofs.Common.{StackIsKept}

-- the abilities of a struct that is declared
pub declared-abilities : (modules : List Module) (name : StructName) (fields : Values) (a : Abilities) → declared modules name ≡ Some a → abilities_of modules (Struct name fields) ≡ a
declared-abilities modules name fields a e = ap (λ (o : Option Abilities). unwrap_or o no_abilities) e

-- ---- what may be copied or dropped has no scarce value

-- an ability that fields have where their struct has, and that the struct of this name lacks
pub record Lacks (modules : List Module) (name : StructName) (ability : Abilities → Bool) : Type 0 where
  pub abilities : Abilities
  pub is_declared : declared modules name ≡ Some abilities
  pub lacks : ability abilities ≡ false
  pub passes : (outer inner : Abilities) → Allows outer inner → ability outer ≡ true → ability inner ≡ true

pub lacks_copy : (modules : List Module) (name : StructName) → IsScarce modules name → Lacks modules name (λ a. a.copy)
lacks_copy modules name s = record { abilities = s.abilities; is_declared = s.is_declared; lacks = s.copy; passes = λ outer inner allows h. allows.copy h }

pub lacks_drop : (modules : List Module) (name : StructName) → IsScarce modules name → Lacks modules name (λ a. a.drop)
lacks_drop modules name s = record { abilities = s.abilities; is_declared = s.is_declared; lacks = s.drop; passes = λ outer inner allows h. allows.drop h }

-- a struct that has what the other lacks is another one
other_name : (modules : List Module) (name : StructName) (ability : Abilities → Bool) (own : StructName) (a : Abilities) → Lacks modules name ability →
    declared modules own ≡ Some a → ability a ≡ true → ◌≡◌ {A = ℕ} (cond (same_struct own name) 1 0) 0
other_name modules name ability own a lacks own_is has =
    let apart : same_struct own name ≡ true → ⊥ = λ e.
    let same : Some a ≡ Some lacks.abilities = sym own_is ∙ (ap (declared modules) (same_struct-is own name e) ∙ lacks.is_declared) in
    let clash : true ≡ false = sym has ∙ (ap ability (same_Some a lacks.abilities same) ∙ lacks.lacks) in
    cc in
    grind (arith, apart)

mutual
  pub none_in : (modules : List Module) (name : StructName) (ability : Abilities → Bool) → Lacks modules name ability → (v : Value) → IsKept modules v →
      ability (abilities_of modules v) ≡ true → count_in name v ≡ 0
  none_in modules name ability lacks (Struct own fields) kept has =
      let has2 : ability kept.0 ≡ true = subst (λ a. ability a ≡ true) (declared-abilities modules own fields kept.0 kept.1) has in
      let first : ◌≡◌ {A = ℕ} (cond (same_struct own name) 1 0) 0 = other_name modules name ability own kept.0 lacks kept.1 has2 in
      omega (arith, first, none_in_fields modules name ability lacks kept.0 has2 fields kept.2)
  none_in _ _ _ _ _ _ _ = refl

  none_in_fields : (modules : List Module) (name : StructName) (ability : Abilities → Bool) → Lacks modules name ability → (outer : Abilities) → ability outer ≡ true →
      (fields : Values) → AreKept modules outer fields → count_in_fields name fields ≡ 0
  none_in_fields modules name ability lacks outer has NoMore kept = refl
  none_in_fields modules name ability lacks outer has (More v vs) kept =
      omega (arith, none_in modules name ability lacks v kept.1 (lacks.passes outer (abilities_of modules v) kept.0 has), none_in_fields modules name ability lacks outer has vs kept.2)

-- ---- operands

pub held-append : (name : StructName) (xs ys : List Value) → held_in_stack name (xs ++ ys) ≡ held_in_stack name xs + held_in_stack name ys
held-append name [] ys = omega arith
held-append name (x ∷ xs) ys = omega (arith, held-append name xs ys)

pub held-reverse : (name : StructName) (xs : List Value) → held_in_stack name (reverse xs) ≡ held_in_stack name xs
held-reverse name [] = refl
held-reverse name (x ∷ xs) =
    let turned : held_in_stack name (reverse (x ∷ xs)) ≡ held_in_stack name (reverse xs ++ x ∷ []) = ap (held_in_stack name) (reverse-append (x ∷ []) xs) in
    omega (arith, held-reverse name xs, turned, held-append name (reverse xs) (x ∷ []))

pub held-list_of : (name : StructName) (fs : Values) → held_in_stack name (list_of fs) ≡ count_in_fields name fs
held-list_of name NoMore = refl
held-list_of name (More v vs) = ap (λ n. count_in name v + n) (held-list_of name vs)

pub held-fields_of : (name : StructName) (vs : List Value) → count_in_fields name (fields_of vs) ≡ held_in_stack name vs
held-fields_of name [] = refl
held-fields_of name (v ∷ vs) = ap (λ n. count_in name v + n) (held-fields_of name vs)

pub kept-append : (modules : List Module) (xs ys : List Value) → StackIsKept modules xs → StackIsKept modules ys → StackIsKept modules (xs ++ ys)
kept-append modules [] ys a b = b
kept-append modules (x ∷ xs) ys a b = (a.0, kept-append modules xs ys a.1 b)

pub kept-first : (modules : List Module) (xs ys : List Value) → StackIsKept modules (xs ++ ys) → StackIsKept modules xs
kept-first modules [] ys a = tt
kept-first modules (x ∷ xs) ys a = (a.0, kept-first modules xs ys a.1)

pub kept-rest : (modules : List Module) (xs ys : List Value) → StackIsKept modules (xs ++ ys) → StackIsKept modules ys
kept-rest modules [] ys a = a
kept-rest modules (x ∷ xs) ys a = kept-rest modules xs ys a.1

pub kept-reverse : (modules : List Module) (xs : List Value) → StackIsKept modules xs → StackIsKept modules (reverse xs)
kept-reverse modules [] a = tt
kept-reverse modules (x ∷ xs) a = subst (StackIsKept modules) (sym (reverse-append (x ∷ []) xs)) (kept-append modules (reverse xs) (x ∷ []) (kept-reverse modules xs a.1) (a.0, tt))

pub kept-list_of : (modules : List Module) (outer : Abilities) (fs : Values) → AreKept modules outer fs → StackIsKept modules (list_of fs)
kept-list_of modules outer NoMore a = tt
kept-list_of modules outer (More v vs) a = (a.1, kept-list_of modules outer vs a.2)

-- ---- locals

-- a write to a local counts the old value out and the new one in
pub held-set : (name : StructName) (xs : List (Option Value)) (l : ℕ) (old new : Option Value) → slice_get xs l ≡ Some old →
    held_in_locals name (slice_set xs l new) + held_in_local name old ≡ held_in_locals name xs + held_in_local name new
held-set name [] l old new e = absurd cc
held-set name (x ∷ xs) zero old new e =
    let same : held_in_local name x ≡ held_in_local name old = ap (held_in_local name) (same_Some x old e) in
    omega (arith, same)
held-set name (x ∷ xs) (suc l) old new e = omega (arith, held-set name xs l old new e)

pub kept-set : (modules : List Module) (xs : List (Option Value)) (l : ℕ) (new : Option Value) → LocalsAreKept modules xs → LocalIsKept modules new → LocalsAreKept modules (slice_set xs l new)
kept-set modules [] l new a b = tt
kept-set modules (x ∷ xs) zero new a b = (b, a.1)
kept-set modules (x ∷ xs) (suc l) new a b = (a.0, kept-set modules xs l new a.1 b)

pub kept-get : (modules : List Module) (xs : List (Option Value)) (l : ℕ) (old : Option Value) → LocalsAreKept modules xs → slice_get xs l ≡ Some old → LocalIsKept modules old
kept-get modules [] l old a e = absurd cc
kept-get modules (x ∷ xs) zero old a e = subst (LocalIsKept modules) (same_Some x old e) a.0
kept-get modules (x ∷ xs) (suc l) old a e = kept-get modules xs l old a.1 e

-- a new frame's locals are its arguments
pub held-entered : (name : StructName) (vs : List Value) (others : ℕ) → held_in_locals name (map Some vs ++ replicate others None) ≡ held_in_stack name vs
held-entered name [] zero = refl
held-entered name [] (suc others) = let ih : held_in_locals name (replicate others None) ≡ 0 = held-entered name [] others in omega (arith, ih)
held-entered name (v ∷ vs) others = ap (λ n. count_in name v + n) (held-entered name vs others)

pub kept-entered : (modules : List Module) (vs : List Value) (others : ℕ) → StackIsKept modules vs → LocalsAreKept modules (map Some vs ++ replicate others None)
kept-entered modules [] zero a = tt
kept-entered modules [] (suc others) a = (tt, kept-entered modules [] others tt)
kept-entered modules (v ∷ vs) others a = (a.0, kept-entered modules vs others a.1)

-- ---- a write where a path leads

-- a write to a field counts the old value out and the new one in
pub held-with_field : (name : StructName) (fs : Values) (i : ℕ) (old new : Value) → field fs i ≡ Some old →
    count_in_fields name (with_field fs i new) + count_in name old ≡ count_in_fields name fs + count_in name new
held-with_field name NoMore i old new e = absurd cc
held-with_field name (More v vs) zero old new e =
    let same : count_in name v ≡ count_in name old = ap (count_in name) (same_Some v old e) in
    omega (arith, same)
held-with_field name (More v vs) (suc i) old new e = omega (arith, held-with_field name vs i old new e)

pub kept-with_field : (modules : List Module) (outer : Abilities) (fs : Values) (i : ℕ) (old new : Value) → AreKept modules outer fs → field fs i ≡ Some old →
    abilities_of modules new ≡ abilities_of modules old → IsKept modules new → AreKept modules outer (with_field fs i new)
kept-with_field modules outer NoMore i old new a e same kept = tt
kept-with_field modules outer (More v vs) zero old new a e same kept =
    let at : abilities_of modules v ≡ abilities_of modules new = ap (abilities_of modules) (same_Some v old e) ∙ sym same in
    (subst (Allows outer) at a.0, kept, a.2)
kept-with_field modules outer (More v vs) (suc i) old new a e same kept = (a.0, a.1, kept-with_field modules outer vs i old new a.2 e same kept)

pub kept-field : (modules : List Module) (outer : Abilities) (fs : Values) (i : ℕ) (old : Value) → AreKept modules outer fs → field fs i ≡ Some old → IsKept modules old
kept-field modules outer NoMore i old a e = absurd cc
kept-field modules outer (More v vs) zero old a e = subst (IsKept modules) (same_Some v old e) a.1
kept-field modules outer (More v vs) (suc i) old a e = kept-field modules outer vs i old a.2 e

kept-field_of : (modules : List Module) (v : Value) (i : ℕ) (old : Value) → IsKept modules v → field_of v i ≡ Some old → IsKept modules old
kept-field_of modules (Struct name fs) i old a e = kept-field modules a.0 fs i old a.2 e
kept-field_of modules _ i old a e = absurd cc

-- what a path leads to is kept
pub kept-value_at : (modules : List Module) (path : List ℕ) (v old : Value) → IsKept modules v → value_at v path ≡ Some old → IsKept modules old
kept-value_at modules [] v old a e = subst (IsKept modules) (same_Some v old e) a
kept-value_at modules (i ∷ path) v old a e =
    let found = then-is (λ w. value_at w path) (field_of v i) old e in
    kept-value_at modules path found.0 old (kept-field_of modules v i found.0 a found.1) found.2

-- a value in place of another: it is kept, has the other's abilities, and counts what was put in but not what was taken out
pub record Replaces (modules : List Module) (v w old new : Value) : Type 0 where
  pub kept : IsKept modules w
  pub same : abilities_of modules w ≡ abilities_of modules v
  pub counts : (name : StructName) → count_in name w + count_in name old ≡ count_in name v + count_in name new

replaces-field : (modules : List Module) (v : Value) (i : ℕ) (a b old new : Value) → IsKept modules v → field_of v i ≡ Some a → Replaces modules a b old new →
    Replaces modules v (with_field_of v i b) old new
replaces-field modules (Struct own fs) i a b old new kept e r = record {
  kept = (kept.0, kept.1, kept-with_field modules kept.0 fs i a b kept.2 e r.same r.kept);
  same = refl;
  counts = λ name.
      omega (arith, r.counts name, held-with_field name fs i a b e);
}
replaces-field modules _ i a b old new kept e r = absurd cc

-- a write where a path leads
pub replaces-at : (modules : List Module) (path : List ℕ) (v w old new : Value) → IsKept modules v → IsKept modules new → abilities_of modules new ≡ abilities_of modules old →
    value_at v path ≡ Some old → with_value_at v path new ≡ Some w → Replaces modules v w old new
replaces-at modules [] v w old new kept kept_new same at written =
    let was : v ≡ old = same_Some v old at in
    subst (λ x. Replaces modules v x old new) (same_Some new w written) (record {
      kept = kept_new;
      same = same ∙ ap (abilities_of modules) (sym was);
      counts = λ name. let e : count_in name v ≡ count_in name old = ap (count_in name) was in omega (arith, e);
    })
replaces-at modules (i ∷ path) v w old new kept kept_new same at written =
    let found = then-is (λ x. value_at x path) (field_of v i) old at in
    let mapped = map-is (with_field_of v i) (option_and_then (λ x. with_value_at x path new) (field_of v i)) w written in
    let inner = then-is (λ x. with_value_at x path new) (field_of v i) mapped.0 mapped.1 in
    let one : inner.0 ≡ found.0 = same_Some inner.0 found.0 (sym inner.1 ∙ found.1) in
    let put : with_value_at found.0 path new ≡ Some mapped.0 = subst (λ x. with_value_at x path new ≡ Some mapped.0) one inner.2 in
    let below : Replaces modules found.0 mapped.0 old new = replaces-at modules path found.0 mapped.0 old new (kept-field_of modules v i found.0 kept found.1) kept_new same found.2 put in
    subst (λ x. Replaces modules v x old new) mapped.2 (replaces-field modules v i found.0 mapped.0 old new kept found.1 below)
