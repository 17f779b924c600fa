-- What is read is what was written: numbers of a width, the lowest byte first.
use Rattle.std.proofs.Common.{◌≡◌, ℕ, ◌+◌, ◌*◌, ◌/◌, ◌%◌, ◌^◌, ◌<◌, List, [], ◌∷◌, ◌++◌, length, arith, refl, ap, suc, zero, sym, ◌∙◌, subst, Some, lt-ltb, ltb-true, append-nil, ltb}
use Rattle.std.specs.List.{list_all}
use Rattle.std.specs.Int.{byte_at, bytes_low_first}
use Rattle.std.proofs.lemmas.Bool.{and_parts, and_from}
use Rattle.byteorder.specs.Endian.{little_from}
use Rattle.byteorder.specs.Numbers.{little_from-cons, little_number-reads_back, length-bytes_low_first}
use Rattle.mv_move_types.specs.Numbers.{little_endian}
use Rattle.mv_move_types.specs.Options.{◌>>=◌}
use Rattle.mv_move_types.specs.Tokens.{width_bits, width_bytes}
use Rattle.mv_move_types.specs.declared.token.Width.{Width}
use Rattle.mv_move_types.specs.declared.token.Width.TheVariants.{U8}
use Rattle.mv_module_text.specs.Entries.{number_text}
use Rattle.mv_module_text.specs.Fits.{is_byte}
use Rattle.mv_module_text.specs.Parsing.{bytes_from, number_of_from}
use Rattle.mv_module_text.specs.Laws.{AreBytes}
use Rattle.mv_module_text.proofs.Texts.{Front, on_bind, Front-as, bytes-front, bytes-whole, bytes_after}

-- a byte of a number is small
pub byte_small : (k x : ℕ) → byte_at k x < 256
byte_small zero x = omega arith
byte_small (suc k) x = let y : ℕ = x / 256 ^ suc k in let lt : y % 256 < 256 = omega arith in lt

-- the bytes of a number are bytes
are_bytes : (i k x : ℕ) → AreBytes (bytes_low_first i k x)
are_bytes i zero x = refl
are_bytes i (suc k) x =
    and_from (is_byte (byte_at i x)) (list_all is_byte (bytes_low_first (suc i) k x)) (lt-ltb (byte_at i x) 256 (byte_small i x)) (are_bytes (suc i) k x)

-- two ways to say the number of bytes
little_is : (xs : List ℕ) → little_endian xs ≡ little_from 0 (length xs) xs
little_is [] = refl
little_is (x ∷ xs) = ap (λ z. x + 256 * z) (little_is xs ∙ sym (little_from-cons 0 (length xs) x xs))

-- no number of so many bytes reaches this power
little_lt : (xs : List ℕ) → AreBytes xs → little_endian xs < 256 ^ length xs
little_lt [] ok = omega arith
little_lt (x ∷ xs) ok =
    let p = and_parts (is_byte x) (list_all is_byte xs) ok in
    let small : x < 256 = ltb-true x 256 p.0 in
    let lt : little_endian xs < 256 ^ length xs = little_lt xs p.1 in
    let power : 256 ^ suc (length xs) ≡ 256 * 256 ^ length xs = omega arith in
    omega arith

-- bytes of one number are the same bytes
one_number : (xs ys : List ℕ) → length xs ≡ length ys → AreBytes xs → AreBytes ys → little_endian xs ≡ little_endian ys → xs ≡ ys
one_number [] [] len ok well e = refl
one_number [] (y ∷ ys) len ok well e = absurd (omega arith)
one_number (x ∷ xs) [] len ok well e = absurd (omega arith)
one_number (x ∷ xs) (y ∷ ys) len ok well e =
    let p = and_parts (is_byte x) (list_all is_byte xs) ok in
    let q = and_parts (is_byte y) (list_all is_byte ys) well in
    let low : x < 256 = ltb-true x 256 p.0 in
    let small : y < 256 = ltb-true y 256 q.0 in
    let first : x ≡ y = omega arith in
    let others : little_endian xs ≡ little_endian ys = omega arith in
    ap (λ z. z ∷ xs) first ∙ ap (λ z. y ∷ z) (one_number xs ys (omega arith) p.1 q.1 others)

-- the number of a number's bytes
number_back : (k n : ℕ) → n < 256 ^ k → little_endian (bytes_low_first 0 k n) ≡ n
number_back k n lt =
    little_is (bytes_low_first 0 k n) ∙ ap (λ z. little_from 0 z (bytes_low_first 0 k n)) (length-bytes_low_first 0 k n)
    ∙ ap (little_from 0 k) (sym (append-nil (bytes_low_first 0 k n))) ∙ little_number-reads_back k n [] lt

-- the bytes of the number of bytes
bytes_back : (k : ℕ) (xs : List ℕ) → length xs ≡ k → AreBytes xs → bytes_low_first 0 k (little_endian xs) ≡ xs
bytes_back k xs len ok =
    let lt : little_endian xs < 256 ^ k = subst (λ z. little_endian xs < 256 ^ z) len (little_lt xs ok) in
    one_number (bytes_low_first 0 k (little_endian xs)) xs (length-bytes_low_first 0 k (little_endian xs) ∙ sym len)
    (are_bytes 0 k (little_endian xs)) ok (number_back k (little_endian xs) lt)

-- a number's text is its bytes
text_is : (w : Width) (n : ℕ) → n < 2 ^ width_bits w → number_text w n ≡ bytes_low_first 0 (width_bytes w) n
text_is U8 n lt = ap (λ z. z ∷ []) (let small : n ≡ n % 256 = omega arith in small)
text_is w n lt = refl

-- as many numbers have a width's bits as its bytes
bits_bytes : (w : Width) → 256 ^ width_bytes w ≡ 2 ^ width_bits w
bits_bytes U8 = refl
bits_bytes w = refl

-- a number of a width at the front
pub number_of-front : (w : Width) (n : ℕ) (bytes rest : List ℕ) → AreBytes bytes → number_of_from w bytes ≡ Some (n, rest)
    → Front (number_text w n) bytes rest × (n < 2 ^ width_bits w)
number_of-front w n bytes rest ok e =
    on_bind (bytes_from (width_bytes w) bytes) _ (n, rest) e (λ x x_is e1.
    let p = bytes-front (width_bytes w) x.0 bytes x.1 ok x_is in
    let well : AreBytes x.0 = (bytes_after x.0 x.1 (subst AreBytes p.0.text ok)).0 in
    let low : little_endian x.0 < 256 ^ width_bytes w = subst (λ z. little_endian x.0 < 256 ^ z) p.1 (little_lt x.0 well) in
    let lt : little_endian x.0 < 2 ^ width_bits w = subst (λ z. little_endian x.0 < z) (bits_bytes w) low in
    let text : number_text w (little_endian x.0) ≡ x.0 = text_is w (little_endian x.0) lt ∙ bytes_back (width_bytes w) x.0 p.1 well in
    let q = Front-as (number_text w) (λ m. ltb m (2 ^ width_bits w)) bytes x.1 rest (little_endian x.0) n e1
    (subst (λ z. Front z bytes x.1) (sym text) p.0) (lt-ltb (little_endian x.0) (2 ^ width_bits w) lt) in
    (q.0, ltb-true n (2 ^ width_bits w) q.1))

-- it is read
pub number_of-whole : (w : Width) (n : ℕ) (rest : List ℕ) → n < 2 ^ width_bits w → number_of_from w (number_text w n ++ rest) ≡ Some (n, rest)
number_of-whole w n rest lt =
    let low : n < 256 ^ width_bytes w = subst (λ z. n < z) (sym (bits_bytes w)) lt in
    ap (λ t. number_of_from w (t ++ rest)) (text_is w n lt)
    ∙ ap (λ r. r >>= λ x. Some (little_endian x.0, x.1))
    (bytes-whole (width_bytes w) (bytes_low_first 0 (width_bytes w) n) rest (length-bytes_low_first 0 (width_bytes w) n))
    ∙ ap (λ z. Some (z, rest)) (number_back (width_bytes w) n low)
