-- Comparisons that a search by halves takes.
use Rattle.mv_edges.proofs.Common.{ℕ, ◌+◌, ◌-◌, ◌/◌, ◌<◌, ◌≡◌, ◌≤◌, arith, suc, zero, IsCounted, IsWithin, counted}
use Rattle.std.proofs.Common.{◌^◌}

-- what is left fits fewer halvings, by those that are counted already
abbrev pub Spends : ℕ → ℕ → ℕ → ℕ → Type 0
Spends left edges old new = (r : ℕ) → edges < 2 ^ r → (s : ℕ) × ((left < 2 ^ s) × (new + s ≤ old + r))

twice : (t : ℕ) → 2 ^ suc t ≡ 2 ^ t + 2 ^ t
twice t = grind arith

halved : (left half s count next old r : ℕ) → half + half ≤ left → 0 < left → next ≤ count + 1 → left < 2 ^ s → count + s ≤ old + r → (t : ℕ) × ((half < 2 ^ t) × (next + t ≤ old + r))
halved left half zero count next old r h p n a b = absurd (omega (arith, a, p))
halved left half (suc t) count next old r h p n a b = let e = twice t in (t, (omega (arith, e, a, h), omega (arith, b, n)))

pub spends_half : (left half edges old count next : ℕ) → half + half ≤ left → 0 < left → next ≤ count + 1 → Spends left edges old count → Spends half edges old next
spends_half left half edges old count next h p n f r g = let s = f r g in halved left half s.0 count next old r h p n s.1.0 s.1.1

pub spends_end : (left edges old count : ℕ) → Spends left edges old count → IsWithin edges 1 old count
spends_end left edges old count f r g = let h = (f r g).1.1 in omega (arith, h)

pub spends_found : (left edges old count next : ℕ) → 0 < left → next ≤ count + 1 → Spends left edges old count → IsWithin edges 1 old next
spends_found left edges old count next p n f = spends_end 0 edges old next (spends_half left 0 edges old count next (omega arith) p n f)

pub middle_below : (low high : ℕ) → low < high → low + (high - low) / 2 < high
middle_below low high h = omega (arith, h)

pub lower_half : (low high : ℕ) → low < high → ((low + (high - low) / 2) - low) + ((low + (high - low) / 2) - low) ≤ high - low
lower_half low high h = omega (arith, h)

pub upper_half : (low high : ℕ) → low < high → (high - (low + (high - low) / 2 + 1)) + (high - (low + (high - low) / 2 + 1)) ≤ high - low
upper_half low high h = omega (arith, h)

-- fewer searches than allowed
pub within_fewer : (edges n m old new : ℕ) → n ≤ m → IsWithin edges n old new → IsWithin edges m old new
within_fewer edges n m old new k f r h = let a = f r h in grind (arith, a, k)

-- at most ten searches, of at most eleven comparisons
pub within_110 : (edges depth old new : ℕ) → IsWithin edges (depth + 2) old new → edges ≤ 1024 → depth ≤ 8 → new ≤ old + 110
within_110 edges depth old new f h g = let a = within_fewer edges (depth + 2) 10 old new (omega (arith, g)) f 11 (omega (arith, h)) in omega (arith, a)

-- one comparison more
pub counted_more : (old count next : ℕ) → old ≤ count → count ≤ next → next ≡ counted 1 count → (counted 1 old ≤ next) × (old ≤ next)
counted_more old count next kept more h = (omega (arith, kept, h), omega (arith, kept, more))

-- so many comparisons, and at least one more
pub counted_on : (edges k old count next : ℕ) → (0 < edges → counted k old ≤ count) → IsCounted edges count next → 0 < edges → counted (k + 1) old ≤ next
counted_on edges k old count next each one some =
    let before = each some in
    let more = one.least some in
    omega (arith, before, more)
