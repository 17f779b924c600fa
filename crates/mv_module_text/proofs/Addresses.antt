-- What is read is what was written: addresses.
use Rattle.std.proofs.Common.{◌≡◌, ℕ, ◌+◌, ◌*◌, ◌/◌, ◌^◌, ◌<◌, List, [], ◌∷◌, length, get_or, arith, refl, ap, suc, zero, sym, ◌∙◌, subst, Some, lt-ltb, ltb-true}
use Rattle.std.specs.List.{list_all}
use Rattle.std.specs.Int.{w128, to_be_bytes, from_be_bytes, byte_at, bytes_high_first}
use Rattle.std.proofs.lemmas.Bool.{and_parts, and_from}
use Rattle.std.proofs.lemmas.Nat.{div-mul-add}
use Rattle.byteorder.specs.Endian.{big_from}
use Rattle.byteorder.specs.Numbers.{big_from-cons, big_from-lt, big_number-reads_back}
use Rattle.mv_move_types.specs.Options.{◌>>=◌}
use Rattle.mv_module_text.specs.Entries.{address_text}
use Rattle.mv_module_text.specs.Fits.{address_fits, is_byte}
use Rattle.mv_module_text.specs.Parsing.{bytes_from, address_from}
use Rattle.mv_module_text.specs.Laws.{AreBytes}
use Rattle.mv_module_text.proofs.Numbers.{byte_small}
use Rattle.mv_module_text.proofs.Texts.{Front, Parts, Whole, on_bind, Front-as, bytes-front, bytes-whole, bytes_after}

-- each of bytes is small
small_at : (xs : List ℕ) → AreBytes xs → (k : ℕ) → get_or xs k 0 < 256
small_at [] ok k = omega arith
small_at (x ∷ xs) ok zero = ltb-true x 256 (and_parts (is_byte x) (list_all is_byte xs) ok).0
small_at (x ∷ xs) ok (suc k) = small_at xs (and_parts (is_byte x) (list_all is_byte xs) ok).1 k

-- the bytes of a number are bytes
are_bytes : (k x : ℕ) → AreBytes (bytes_high_first k x)
are_bytes zero x = refl
are_bytes (suc k) x = and_from (is_byte (byte_at k x)) (list_all is_byte (bytes_high_first k x)) (lt-ltb (byte_at k x) 256 (byte_small k x)) (are_bytes k x)

-- bytes of one number are the same bytes
one_number : (n : ℕ) (xs ys : List ℕ) → length xs ≡ n → length ys ≡ n → AreBytes xs → AreBytes ys → big_from 0 n xs ≡ big_from 0 n ys → xs ≡ ys
one_number zero [] [] m l ok well e = refl
one_number (suc n) (x ∷ xs) (y ∷ ys) m l ok well e =
    let p = and_parts (is_byte x) (list_all is_byte xs) ok in
    let q = and_parts (is_byte y) (list_all is_byte ys) well in
    let small : big_from 0 n xs < 256 ^ n = big_from-lt 0 n xs (small_at xs p.1) in
    let few : big_from 0 n ys < 256 ^ n = big_from-lt 0 n ys (small_at ys q.1) in
    let left : big_from 1 n (x ∷ xs) ≡ big_from 0 n xs = big_from-cons 0 n x xs in
    let right : big_from 1 n (y ∷ ys) ≡ big_from 0 n ys = big_from-cons 0 n y ys in
    let both : x * 256 ^ n + big_from 0 n xs ≡ y * 256 ^ n + big_from 0 n ys =
    ap (λ z. x * 256 ^ n + z) (sym left) ∙ e ∙ ap (λ z. y * 256 ^ n + z) right in
    let first : x ≡ y = sym (div-mul-add x (256 ^ n) (big_from 0 n xs) small) ∙ ap (λ z. z / 256 ^ n) both ∙ div-mul-add y (256 ^ n) (big_from 0 n ys) few in
    let product : x * 256 ^ n ≡ y * 256 ^ n = ap (λ z. z * 256 ^ n) first in
    let others : big_from 0 n xs ≡ big_from 0 n ys = omega arith in
    ap (λ z. z ∷ xs) first ∙ ap (λ z. y ∷ z) (one_number n xs ys (omega arith) (omega arith) p.1 q.1 others)
one_number n xs ys m l ok well e = absurd (omega arith)

-- two ways to say the number of 16 bytes
big_is : (xs : List ℕ) → from_be_bytes w128 xs ≡ big_from 0 16 xs
big_is xs = omega arith

-- the number of a number's bytes
number_back : (x : ℕ) → x < 2 ^ 128 → from_be_bytes w128 (to_be_bytes w128 x) ≡ x
number_back x lt = big_is (to_be_bytes w128 x) ∙ big_number-reads_back 16 x [] lt

-- the bytes of the number of 16 bytes
bytes_back : (xs : List ℕ) → length xs ≡ 16 → AreBytes xs → to_be_bytes w128 (from_be_bytes w128 xs) ≡ xs
bytes_back xs len ok =
    let lt : from_be_bytes w128 xs < 2 ^ 128 = subst (λ z. z < 2 ^ 128) (sym (big_is xs)) (big_from-lt 0 16 xs (small_at xs ok)) in
    one_number 16 (to_be_bytes w128 (from_be_bytes w128 xs)) xs refl len (are_bytes 16 (from_be_bytes w128 xs)) ok
    (big_number-reads_back 16 (from_be_bytes w128 xs) [] lt ∙ big_is xs)

pub address-parts : Parts address_from address_text address_fits
address-parts bytes rest v ok e =
    on_bind (bytes_from 16 bytes) _ (v, rest) e (λ x x_is e1.
    let p = bytes-front 16 x.0 bytes x.1 ok x_is in
    let well : AreBytes x.0 = (bytes_after x.0 x.1 (subst AreBytes p.0.text ok)).0 in
    let lt : from_be_bytes w128 x.0 < 2 ^ 128 = subst (λ z. z < 2 ^ 128) (sym (big_is x.0)) (big_from-lt 0 16 x.0 (small_at x.0 well)) in
    Front-as address_text address_fits bytes x.1 rest (from_be_bytes w128 x.0) v e1
    (subst (λ z. Front z bytes x.1) (sym (bytes_back x.0 p.1 well)) p.0)
    (lt-ltb (from_be_bytes w128 x.0) (2 ^ 128) lt))

pub address-whole : Whole address_from address_text address_fits
address-whole rest v ok =
    ap (λ r. r >>= λ a. Some (from_be_bytes w128 a.0, a.1)) (bytes-whole 16 (to_be_bytes w128 v) rest refl)
    ∙ ap (λ z. Some (z, rest)) (number_back v (ltb-true v (2 ^ 128) ok))
