-- An address of 16 bytes is in its range.
use Rattle.mv_soundness.proofs.Typing.Common.{◌≡◌, ℕ, zero, suc, ◌+◌, ◌-◌, ◌*◌, ◌^◌, ◌<◌, ◌≤◌, true, List, [], ◌∷◌, length, refl, ap, subst, ◌∙◌, arith, ltb-true, lt-ltb, pow-add}
use Rattle.mv_soundness.proofs.Typing.Common.{first_so, second_so, list_all, IsTrue, ◌==◌, ◌&&◌, slice_index, Module, Address, is_byte, is_index, constant_fits, token_fits, all_at}
use Rattle.mv_soundness.proofs.Typing.Common.{StoreAccepted, SoundStore, in_range}
use Rattle.std.specs.Int.{sum_through, byte_worth}
use Rattle.std.proofs.Math.Nat.{mul-le-mul_right}
use Rattle.mv_move_types.specs.Numbers.{big_endian}
use Rattle.mv_soundness.proofs.{Typing.Operands.on_test, Typing.Store.AddressesFit, Typing.Store.sound_store}

worth : (i b : ℕ) → byte_worth i b ≡ b * 256 ^ i
worth zero b = omega arith
worth (suc i) b = refl

scaled : (b p : ℕ) → b < 256 → b * p + p ≤ 256 * p
scaled b p h =
    let more : suc b * p ≤ 256 * p = mul-le-mul_right p h in
    let same : suc b * p ≡ b * p + p = omega arith in
    subst (λ (x : ℕ). x ≤ 256 * p) same more

one_more : (n : ℕ) → 256 ^ suc n ≡ 256 * 256 ^ n
one_more n =
    let sum : suc n ≡ 1 + n = omega arith in
    ap (λ (x : ℕ). 256 ^ x) sum ∙ pow-add 256 1 n

joined : (s a b p r q : ℕ) → s + r ≤ q → r ≡ 256 * p → a ≡ b → b + p ≤ 256 * p → (s + a) + p ≤ q
joined s a b p r q h e f g = omega (arith, h, e, f, g)

-- the sum of the first bytes leaves room for the others
room : (g : ℕ → ℕ) → ((i : ℕ) → g i < 256) → (n k : ℕ) → k ≤ n → sum_through (λ i. byte_worth (n - i) (g i)) k + 256 ^ (n - k) ≤ 256 ^ suc n
room g small n zero h =
    let power : 256 ^ suc n ≡ 256 * 256 ^ n = one_more n in
    let first : byte_worth n (g 0) ≡ g 0 * 256 ^ n = worth n (g 0) in
    let fits : g 0 * 256 ^ n + 256 ^ n ≤ 256 * 256 ^ n = scaled (g 0) (256 ^ n) (small 0) in
    let whole : n ≡ n - 0 = omega arith in
    subst (λ (x : ℕ). byte_worth x (g 0) + 256 ^ x ≤ 256 ^ suc n) whole
    (omega (arith, joined 0 (byte_worth n (g 0)) (g 0 * 256 ^ n) (256 ^ n) (256 ^ suc n) (256 ^ suc n) (omega arith) power first fits))
room g small n (suc k) h =
    let before = room g small n k (omega (arith, h)) in
    let exponent : n - k ≡ suc (n - suc k) = omega (arith, h) in
    let power : 256 ^ (n - k) ≡ 256 * 256 ^ (n - suc k) = ap (λ (x : ℕ). 256 ^ x) exponent ∙ one_more (n - suc k) in
    let next : byte_worth (n - suc k) (g (suc k)) ≡ g (suc k) * 256 ^ (n - suc k) = worth (n - suc k) (g (suc k)) in
    let fits : g (suc k) * 256 ^ (n - suc k) + 256 ^ (n - suc k) ≤ 256 * 256 ^ (n - suc k) = scaled (g (suc k)) (256 ^ (n - suc k)) (small (suc k)) in
    joined (sum_through (λ i. byte_worth (n - i) (g i)) k) (byte_worth (n - suc k) (g (suc k))) (g (suc k) * 256 ^ (n - suc k)) (256 ^ (n - suc k)) (256 ^ (n - k)) (256 ^ suc n) before power next fits

small_bytes : (bs : List ℕ) → list_all is_byte bs ≡ true → (i : ℕ) → slice_index bs i < 256
small_bytes [] h i = omega arith
small_bytes (b ∷ bs) h zero = ltb-true b 256 (first_so (is_byte b) (list_all is_byte bs) h)
small_bytes (b ∷ bs) h (suc i) = small_bytes bs (second_so (is_byte b) (list_all is_byte bs) h) i

big_bound : (bs : List ℕ) → list_all is_byte bs ≡ true → big_endian bs < 2 ^ 128
big_bound bs h =
    let all : sum_through (λ i. byte_worth (15 - i) (slice_index bs i)) 15 + 256 ^ (15 - 15) ≤ 256 ^ 16 = room (slice_index bs) (small_bytes bs h) 15 15 (omega arith) in
    omega (arith, all)

pub addresses_fit : (modules : List Module) → StoreAccepted modules → AddressesFit modules
addresses_fit modules store place i m c n m_at c_at e =
    let written : constant_fits m.version c ≡ true = all_at (constant_fits m.version) m.constants i c (store.each place m m_at).text.constants c_at in
    let bytes : list_all is_byte c.bytes ≡ true = second_so (token_fits m.version c.token && is_index (length c.bytes)) (list_all is_byte c.bytes) written in
    on_test (length c.bytes == 16) (big_endian c.bytes) n e (λ test same.
    subst (λ (x : ℕ). IsTrue (in_range Address x)) same (lt-ltb (big_endian c.bytes) (2 ^ 128) (big_bound c.bytes bytes)))

-- what the phases and the link rules accept is sound for types
pub accepted_is_sound : (modules : List Module) → StoreAccepted modules → SoundStore modules
accepted_is_sound modules store = sound_store modules store (addresses_fit modules store)
