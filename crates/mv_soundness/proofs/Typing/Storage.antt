-- Look-ups in a storage that was changed.
use Rattle.mv_soundness.proofs.Typing.Common.{◌≡◌, true, List, [], ◌∷◌, refl, subst, Some, Bool, false, sym, cond, same_Some, Module, Key, Storage, stored_at, with_stored, same_key}
use Rattle.mv_soundness.proofs.Typing.Common.{Entry, without_stored, Value, same_key-to, EntryTyped, StorageTyped}
use Rattle.mv_machine.specs.State.{key_before}
use Rattle.mv_storage.proofs.Keys.{same_key-refl}

-- an entry of this key and value
abbrev pub entry_of : Key → Value → Entry
entry_of key v = record { key = key; value = v }

-- at the key itself
pub stored_same : (es : Storage) (key : Key) (v : Value) → stored_at (with_stored es key v) key ≡ Some v
stored_same [] key v = rw (same_key-refl key) refl
stored_same (e ∷ es) key v = by_case (stored_same es key v) (same_key e.key key) (key_before key e.key) refl refl
  where
    by_case : stored_at (with_stored es key v) key ≡ Some v → (a b : Bool) → same_key e.key key ≡ a → key_before key e.key ≡ b → stored_at (with_stored (e ∷ es) key v) key ≡ Some v
    by_case ih true b p q = rw (p, same_key-refl key) refl
    by_case ih false true p q = rw (p, q, same_key-refl key) refl
    by_case ih false false p q = rw (p, q, p) ih

-- a key that is like one that is unlike another
unlike : (own key other : Key) → same_key key other ≡ false → same_key own key ≡ true → same_key own other ≡ false
unlike own key other far p = subst (λ (k : Key). same_key k other ≡ false) (sym (same_key-to own key p)) far

-- at another key
pub stored_other : (es : Storage) (key other : Key) (v : Value) → same_key key other ≡ false → stored_at (with_stored es key v) other ≡ stored_at es other
stored_other [] key other v far = rw far refl
stored_other (e ∷ es) key other v far = by_case (stored_other es key other v far) (same_key e.key key) (key_before key e.key) refl refl
  where
    by_case : stored_at (with_stored es key v) other ≡ stored_at es other → (a b : Bool) → same_key e.key key ≡ a → key_before key e.key ≡ b
        → stored_at (with_stored (e ∷ es) key v) other ≡ stored_at (e ∷ es) other
    by_case ih true b p q = rw (p, far, unlike e.key key other far p) refl
    by_case ih false true p q = rw (p, q, far) refl
    by_case ih false false p q = rw (p, q, ih) refl

pub unstored_other : (es : Storage) (key other : Key) → same_key key other ≡ false → stored_at (without_stored es key) other ≡ stored_at es other
unstored_other [] key other far = refl
unstored_other (e ∷ es) key other far = by_case (unstored_other es key other far) (same_key e.key key) refl
  where
    by_case : stored_at (without_stored es key) other ≡ stored_at es other → (a : Bool) → same_key e.key key ≡ a → stored_at (without_stored (e ∷ es) key) other ≡ stored_at (e ∷ es) other
    by_case ih true p = rw (p, unlike e.key key other far p) refl
    by_case ih false p = rw (p, ih) refl

module _ (modules : List Module) where
  -- what is stored is typed
  pub stored_typed : (es : Storage) (key : Key) (v : Value) → StorageTyped modules es → stored_at es key ≡ Some v → EntryTyped modules (entry_of key v)
  stored_typed [] key v h e = absurd cc
  stored_typed (x ∷ es) key v h e = by_case (stored_typed es key v h.1) (same_key x.key key) refl
    where
      by_case : (stored_at es key ≡ Some v → EntryTyped modules (entry_of key v)) → (a : Bool) → same_key x.key key ≡ a → EntryTyped modules (entry_of key v)
      by_case ih true p =
          let value : x.value ≡ v = same_Some x.value v (subst (λ (a : Bool). cond a (Some x.value) (stored_at es key) ≡ Some v) p e) in
          subst (λ (k : Key). EntryTyped modules (entry_of k v)) (same_key-to x.key key p) (subst (λ (w : Value). EntryTyped modules (entry_of x.key w)) value h.0)
      by_case ih false p = ih (subst (λ (a : Bool). cond a (Some x.value) (stored_at es key) ≡ Some v) p e)

  pub typed_with : (es : Storage) (key : Key) (v : Value) → StorageTyped modules es → EntryTyped modules (entry_of key v) → StorageTyped modules (with_stored es key v)
  typed_with [] key v h k = (k, tt)
  typed_with (x ∷ es) key v h k = by_case (typed_with es key v h.1 k) (same_key x.key key) (key_before key x.key) refl refl
    where
      by_case : StorageTyped modules (with_stored es key v) → (a b : Bool) → same_key x.key key ≡ a → key_before key x.key ≡ b → StorageTyped modules (with_stored (x ∷ es) key v)
      by_case ih true b p q = rw p (k, h.1)
      by_case ih false true p q = rw (p, q) (k, h)
      by_case ih false false p q = rw (p, q) (h.0, ih)

  pub typed_without : (es : Storage) (key : Key) → StorageTyped modules es → StorageTyped modules (without_stored es key)
  typed_without [] key h = h
  typed_without (x ∷ es) key h = by_case (typed_without es key h.1) (same_key x.key key) refl
    where
      by_case : StorageTyped modules (without_stored es key) → (a : Bool) → same_key x.key key ≡ a → StorageTyped modules (without_stored (x ∷ es) key)
      by_case ih true p = rw p h.1
      by_case ih false p = rw p (h.0, ih)
