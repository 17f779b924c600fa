-- Counts in the storage, whose keys ascend.
use Rattle.mv_ledger_state.proofs.Common.{[], ◌+◌, ◌∷◌, ◌≡◌, List, None, Some, arith, false, refl, subst, true, both_ways, Module, StructName, Key, before-apart, before-trans}
use Rattle.mv_ledger_state.proofs.Common.{same_key-refl, same_key-to, count, count_in, Storage, key_before, same_key, stored_at, with_stored, without_stored, Value, AreAbove}
use Rattle.mv_ledger_state.proofs.Common.{IsAscending, IsKept, StorageIsKept}
use Rattle.mv_storage.proofs.Maps.{behind}

-- ---- the order of keys

-- of two keys at most one is before the other
pub before-clash : (a b : Key) → key_before a b ≡ true → key_before b a ≡ true → ⊥
before-clash a b h g = both_ways (same_key a a) (before-apart a a (before-trans a b a h g)) (same_key-refl a)

-- ---- what is stored

-- a value that is taken out counts no more
pub count-without : (name : StructName) (es : Storage) (key : Key) (v : Value) → stored_at es key ≡ Some v → count (without_stored es key) name + count_in name v ≡ count es name
count-without name [] key v e = absurd cc
count-without name (f ∷ es) key v e = grind (arith, count-without name es key v)

-- a value put where there is none counts
pub count-new : (name : StructName) (es : Storage) (key : Key) (v : Value) → stored_at es key ≡ None → count (with_stored es key v) name ≡ count_in name v + count es name
count-new name [] key v h = omega arith
count-new name (e ∷ es) key v h = grind (arith, count-new name es key v)

-- nothing is stored at a key below all
none-below : (es : Storage) (key : Key) → AreAbove key es → stored_at es key ≡ None
none-below [] key above = refl
none-below (e ∷ es) key above =
    let apart : same_key e.key key ≡ true → ⊥ = λ s. let before : key_before key key ≡ true = subst (λ k. key_before key k ≡ true) (same_key-to e.key key s) above.0 in
    before-clash key key before before in
    grind (arith, apart, none-below es key above.1)

pub above-below : (a b : Key) (es : Storage) → key_before a b ≡ true → AreAbove b es → AreAbove a es
above-below a b [] h above = tt
above-below a b (e ∷ es) h above = (before-trans a b e.key h above.0, above-below a b es h above.1)

-- a value put in place of another counts in its place
pub count-over : (name : StructName) (es : Storage) (key : Key) (old new : Value) → IsAscending es → stored_at es key ≡ Some old →
    count (with_stored es key new) name + count_in name old ≡ count es name + count_in name new
count-over name [] key old new up e = absurd cc
count-over name (f ∷ es) key old new up e =
    let none : key_before key f.key ≡ true → stored_at es key ≡ None = λ b. none-below es key (above-below key f.key es b up.0) in
    grind (arith, none, count-over name es key old new up.1)

pub kept-stored_at : (modules : List Module) (es : Storage) (key : Key) (v : Value) → StorageIsKept modules es → stored_at es key ≡ Some v → IsKept modules v
kept-stored_at modules [] key v kept e = absurd cc
kept-stored_at modules (f ∷ es) key v kept e = grind (arith, kept-stored_at modules es key v kept.1)

pub kept-without : (modules : List Module) (es : Storage) (key : Key) → StorageIsKept modules es → StorageIsKept modules (without_stored es key)
kept-without modules [] key kept = tt
kept-without modules (f ∷ es) key kept = grind (arith, kept-without modules es key kept.1)

pub kept-with : (modules : List Module) (es : Storage) (key : Key) (v : Value) → StorageIsKept modules es → IsKept modules v → StorageIsKept modules (with_stored es key v)
kept-with modules [] key v kept new = (new, tt)
kept-with modules (f ∷ es) key v kept new = grind (arith, kept-with modules es key v kept.1 new)

-- ---- keys go on ascending

above-without : (low : Key) (es : Storage) (key : Key) → AreAbove low es → AreAbove low (without_stored es key)
above-without low [] key above = tt
above-without low (f ∷ es) key above = grind (arith, above-without low es key above.1)

pub ascending-without : (es : Storage) (key : Key) → IsAscending es → IsAscending (without_stored es key)
ascending-without [] key up = tt
ascending-without (f ∷ es) key up = grind (arith, above-without f.key es key up.0, ascending-without es key up.1)

above-with : (low : Key) (es : Storage) (key : Key) (v : Value) → AreAbove low es → key_before low key ≡ true → AreAbove low (with_stored es key v)
above-with low [] key v above h = (h, tt)
above-with low (f ∷ es) key v above h = grind (arith, above-with low es key v above.1 h)

pub ascending-with : (es : Storage) (key : Key) (v : Value) → IsAscending es → IsAscending (with_stored es key v)
ascending-with [] key v up = (tt, tt)
ascending-with (f ∷ es) key v up =
    let same : same_key f.key key ≡ true → AreAbove key es = λ s. subst (λ k. AreAbove k es) (same_key-to f.key key s) up.0 in
    let below : key_before key f.key ≡ true → AreAbove key es = λ b. above-below key f.key es b up.0 in
    let apart : same_key f.key key ≡ false → key_before key f.key ≡ false → AreAbove f.key (with_stored es key v) = λ s b. above-with f.key es key v up.0 (behind f.key key s b) in
    grind (arith, same, below, apart, ascending-with es key v up.1)
