-- The structs with key, by place of their module and index: each stands once among them.
use Rattle.mv_saved_text.proofs.Common.{[], ◌++◌, ◌+◌, ◌<◌, ◌∙◌, ◌∷◌, ◌≡◌, ◌≤◌, List, Option, Some, ap, arith, cond, false, inl, inr, map, subst, suc, true, zero, zero-add, ℕ, AllByRecursion}
use Rattle.mv_saved_text.proofs.Common.{enumerate_from, filter, option_map_or, slice_get, Module, StructDefinition, Definition, Abilities, on_bind, abilities_at, on_found, is_keyed, has_key}
use Rattle.mv_saved_text.proofs.Common.{keyed_from, keyed_indices}
use Rattle.mv_ledger_state.proofs.Handed.{Among as IsIn}
use Rattle.mv_saved_text.proofs.Loads.BodyGroups.{Among, IsApart, Distinct}
use Rattle.mv_ledger_state.proofs.Lists.{all-weaker, all-append}

-- ---- of one module

-- the indices of structs with key among those from an index on
abbrev pub keyed_after : Module → ℕ → List StructDefinition → List ℕ
keyed_after m k ds = map (λ (p : ℕ × StructDefinition). p.0) (filter (λ p. has_key m p.1) (enumerate_from k ds))

-- indices ascend
abbrev pub IsUp : List ℕ → Type 0
IsUp [] = Unit {0}
IsUp (i ∷ is) = AllByRecursion (λ j. i < j) is × IsUp is

least : (m : Module) (k : ℕ) (ds : List StructDefinition) → AllByRecursion (λ j. k ≤ j) (keyed_after m k ds)
least m k [] = tt
least m k (d ∷ ds) = grind (arith, all-weaker (λ j. k + 1 ≤ j) (λ j. k ≤ j) (λ j h. omega (arith, h)) (keyed_after m (k + 1) ds) (least m (k + 1) ds))

pub keyed-up : (m : Module) (k : ℕ) (ds : List StructDefinition) → IsUp (keyed_after m k ds)
keyed-up m k [] = tt
keyed-up m k (d ∷ ds) = grind (arith, all-weaker (λ j. k + 1 ≤ j) (λ j. k < j) (λ j h. omega (arith, h)) (keyed_after m (k + 1) ds) (least m (k + 1) ds), keyed-up m (k + 1) ds)

-- they are those of the module at a place
abbrev pub placed : ℕ → List ℕ → List Definition
placed place is = map (λ i. record { place = place; index = i }) is

row-apart : (place i : ℕ) (is : List ℕ) → AllByRecursion (λ j. i < j) is → IsApart (record { place = place; index = i }) (placed place is)
row-apart place i [] h = tt
row-apart place i (j ∷ is) h = (λ same. omega (arith, h.0, ap (λ (d : Definition). d.index) same), row-apart place i is h.1)

-- ---- of all modules

row-low : (place : ℕ) (is : List ℕ) → AllByRecursion (λ (d : Definition). place ≤ d.place) (placed place is)
row-low place [] = tt
row-low place (i ∷ is) = (omega arith, row-low place is)

pub keyed-low : (place : ℕ) (ms : List Module) → AllByRecursion (λ (d : Definition). place ≤ d.place) (keyed_from place ms)
keyed-low place [] = tt
keyed-low place (m ∷ ms) =
    all-append (λ (d : Definition). place ≤ d.place) (placed place (keyed_indices m)) (keyed_from (place + 1) ms) (row-low place (keyed_indices m))
    (all-weaker (λ (d : Definition). place + 1 ≤ d.place) (λ (d : Definition). place ≤ d.place) (λ d h. omega (arith, h)) (keyed_from (place + 1) ms) (keyed-low (place + 1) ms))

above-apart : (place i : ℕ) (ds : List Definition) → AllByRecursion (λ (d : Definition). place + 1 ≤ d.place) ds → IsApart (record { place = place; index = i }) ds
above-apart place i [] h = tt
above-apart place i (d ∷ ds) h = (λ same. omega (arith, h.0, ap (λ (d : Definition). d.place) same), above-apart place i ds h.1)

distinct-append : (place : ℕ) (is : List ℕ) (ds : List Definition) → IsUp is → AllByRecursion (λ (d : Definition). place + 1 ≤ d.place) ds → Distinct ds → Distinct (placed place is ++ ds)
distinct-append place [] ds up above h = h
distinct-append place (i ∷ is) ds up above h =
    (all-append (λ e. record { place = place; index = i } ≡ e → ⊥) (placed place is) ds (row-apart place i is up.0) (above-apart place i ds above), distinct-append place is ds up.1 above h)

-- none stands twice
pub keyed-distinct : (place : ℕ) (ms : List Module) → Distinct (keyed_from place ms)
keyed-distinct place [] = tt
keyed-distinct place (m ∷ ms) = distinct-append place (keyed_indices m) (keyed_from (place + 1) ms) (keyed-up m 0 m.structs) (keyed-low (place + 1) ms) (keyed-distinct (place + 1) ms)

-- ---- each struct with key is among them

index-in : (m : Module) (k i : ℕ) (ds : List StructDefinition) (d : StructDefinition) → slice_get ds i ≡ Some d → has_key m d ≡ true → IsIn (k + i) (keyed_after m k ds)
index-in m k i [] d e h = absurd cc
index-in m k zero (x ∷ ds) d e h =
    let same : x ≡ d = cc in
    let key : has_key m x ≡ true = ap (has_key m) same ∙ h in
    rw key (inl (omega arith))
index-in m k (suc i) (x ∷ ds) d e h =
    let more = filter (λ (p : ℕ × StructDefinition). has_key m p.1) (enumerate_from (k + 1) ds) in
    let rest : IsIn (k + suc i) (keyed_after m (k + 1) ds) = subst (λ (n : ℕ). IsIn n (keyed_after m (k + 1) ds)) (omega arith) (index-in m (k + 1) i ds d e h) in
    elim (has_key m x) as (λ b. IsIn (k + suc i) (map (λ (p : ℕ × StructDefinition). p.0) (cond b ((k, x) ∷ more) more))) [ true ↦ inr rest | false ↦ rest ]

row-among : (place i : ℕ) (is : List ℕ) (ds : List Definition) → IsIn i is → Among (record { place = place; index = i }) (placed place is ++ ds)
row-among place i [] ds h = absurd h
row-among place i (j ∷ is) ds (inl h) = inl (ap (λ n. record { place = place; index = n }) h)
row-among place i (j ∷ is) ds (inr h) = inr (row-among place i is ds h)

among-after : (d : Definition) (place : ℕ) (is : List ℕ) (ds : List Definition) → Among d ds → Among d (placed place is ++ ds)
among-after d place [] ds h = h
among-after d place (i ∷ is) ds h = inr (among-after d place is ds h)

keyed-among-from : (place q i : ℕ) (ms : List Module) (m : Module) (d : StructDefinition) → slice_get ms q ≡ Some m → slice_get m.structs i ≡ Some d → has_key m d ≡ true
    → Among (record { place = place + q; index = i }) (keyed_from place ms)
keyed-among-from place q i [] m d e f h = absurd cc
keyed-among-from place zero i (x ∷ ms) m d e f h =
    let same : m ≡ x = cc in
    let zero-place : place ≡ place + 0 = omega arith in
    let here : IsIn (0 + i) (keyed_indices m) = index-in m 0 i m.structs d f h in
    let own : IsIn i (keyed_indices x) = subst (λ (z : Module). IsIn i (keyed_indices z)) same (subst (λ (n : ℕ). IsIn n (keyed_indices m)) (zero-add i) here) in
    subst (λ (n : ℕ). Among (record { place = n; index = i }) (keyed_from place (x ∷ ms))) zero-place (row-among place i (keyed_indices x) (keyed_from (place + 1) ms) own)
keyed-among-from place (suc q) i (x ∷ ms) m d e f h =
    let more : place + 1 + q ≡ place + suc q = omega arith in
    subst (λ (n : ℕ). Among (record { place = n; index = i }) (keyed_from place (x ∷ ms))) more
    (among-after (record { place = place + 1 + q; index = i }) place (keyed_indices x) (keyed_from (place + 1) ms) (keyed-among-from (place + 1) q i ms m d e f h))

pub keyed-among : (ms : List Module) (d : Definition) → is_keyed ms d ≡ true → Among d (keyed_from 0 ms)
keyed-among ms d h =
    on_found (λ (a : Abilities). a.key) (abilities_at ms d.place d.index) h (λ a a_is key.
    on_bind (slice_get ms d.place) _ a a_is (λ m m_is e1.
    on_bind (slice_get m.structs d.index) _ a e1 (λ s s_is e2.
    subst (λ (n : ℕ). Among (record { place = n; index = d.index }) (keyed_from 0 ms)) (zero-add d.place)
    (keyed-among-from 0 d.place d.index ms m s m_is s_is (ap (λ (o : Option Abilities). option_map_or (λ a. a.key) o false) e2 ∙ key)))))
