-- The version, in its four bytes.
use Rattle.mv_binary_format.proofs.Common.{[], ℕ, ◌++◌, ◌<◌, ◌==◌, ◌||◌, ◌∙◌, ◌∷◌, ◌≡◌, List, Some, ap, arith, inl, inr, length, subst, sym, true, cases_Bool, eqb-true, some_pair_parts}
use Rattle.mv_binary_format.proofs.Common.{then_some, to_le_bytes, w32, ◌>>=◌, Read, bytes_from, version_from}
use Rattle.mv_move_types.specs.Numbers.{little_endian}
use Rattle.mv_move_types.specs.declared.token.Width.TheVariants.{U32}
use Rattle.mv_module_text.specs.Parsing.{number_of_from}
use Rattle.mv_binary_format.proofs.Binds.{bind_some, then_some_parts}
use Rattle.mv_binary_format.proofs.Sound.{bytes-sound}
use Rattle.mv_binary_format.proofs.Complete.{bytes-complete}

-- four bytes of a number below 256
four : (k : ℕ) → k < 256 → (xs : List ℕ) → length xs ≡ 4 → little_endian xs ≡ k → xs ≡ k ∷ 0 ∷ 0 ∷ 0 ∷ []
four k lt (a ∷ b ∷ c ∷ d ∷ []) l e =
    let ha : a ≡ k = omega arith in
    let hb : b ≡ 0 = omega arith in
    let hc : c ≡ 0 = omega arith in
    let hd : d ≡ 0 = omega arith in
    ap (λ z. z ∷ b ∷ c ∷ d ∷ []) ha ∙ ap (λ z. k ∷ z ∷ c ∷ d ∷ []) hb ∙ ap (λ z. k ∷ 0 ∷ z ∷ d ∷ []) hc ∙ ap (λ z. k ∷ 0 ∷ 0 ∷ z ∷ []) hd
four k lt xs l e = absurd (omega arith)

-- the bytes of each version
text-by : (v : ℕ) (xs : List ℕ) → (v == 5) || (v == 6) ≡ true → length xs ≡ 4 → little_endian xs ≡ v → xs ≡ to_le_bytes w32 v
text-by v xs known l e =
    elim (cases_Bool (v == 5)) [
      | inl y ↦
          let f : v ≡ 5 = eqb-true v 5 y in
          let lt : 5 < 256 = omega arith in
          four 5 lt xs l (e ∙ f) ∙ ap (to_le_bytes w32) (sym f)
      | inr n ↦
          let f : v ≡ 6 = eqb-true v 6 (rw n at known) in
          let lt : 6 < 256 = omega arith in
          four 6 lt xs l (e ∙ f) ∙ ap (to_le_bytes w32) (sym f)
    ]

-- a version that is read stands in its bytes
pub version-sound : (bytes : List ℕ) (v : ℕ) (rest : List ℕ) → version_from bytes ≡ Some (v, rest) → (bytes ≡ to_le_bytes w32 v ++ rest) × ((v == 5) || (v == 6) ≡ true)
version-sound bytes v rest e =
    bind_some (number_of_from U32 bytes) _ (v, rest) e (λ n n_is e1.
    bind_some (bytes_from 4 bytes) _ n n_is (λ taken taken_is e2.
    let p = then_some_parts ((n.0 == 5) || (n.0 == 6)) n (v, rest) e1 in
    let v_is : n.0 ≡ v = ap (λ (z : ℕ × List ℕ). z.0) p.1 in
    let rest_is : n.1 ≡ rest = ap (λ (z : ℕ × List ℕ). z.1) p.1 in
    let q = some_pair_parts (little_endian taken.0) n.0 taken.1 n.1 e2 in
    let t = bytes-sound 4 bytes taken.0 taken.1 taken_is in
    let known : (v == 5) || (v == 6) ≡ true = subst (λ z. (z == 5) || (z == 6) ≡ true) v_is p.0 in
    let text : taken.0 ≡ to_le_bytes w32 v = text-by v taken.0 known t.1 (q.0 ∙ v_is) in
    (t.0 ∙ ap (λ z. z ++ taken.1) text ∙ ap (λ z. to_le_bytes w32 v ++ z) (q.1 ∙ rest_is), known)))

-- what is read of the number of four bytes
abbrev by_bytes : Read (List ℕ) → Read ℕ
by_bytes o = (o >>= λ n. Some (little_endian n.0, n.1)) >>= λ v. then_some ((v.0 == 5) || (v.0 == 6)) v

-- a version in its bytes is read
pub version-complete : (v : ℕ) (rest : List ℕ) → (v == 5) || (v == 6) ≡ true → version_from (to_le_bytes w32 v ++ rest) ≡ Some (v, rest)
version-complete v rest known =
    elim (cases_Bool (v == 5)) [
      | inl y ↦
          let f : v ≡ 5 = eqb-true v 5 y in
          let one : version_from (to_le_bytes w32 5 ++ rest) ≡ Some (5, rest) = ap by_bytes (bytes-complete (5 ∷ 0 ∷ 0 ∷ 0 ∷ []) rest) in
          subst (λ z. version_from (to_le_bytes w32 z ++ rest) ≡ Some (z, rest)) (sym f) one
      | inr n ↦
          let f : v ≡ 6 = eqb-true v 6 (rw n at known) in
          let one : version_from (to_le_bytes w32 6 ++ rest) ≡ Some (6, rest) = ap by_bytes (bytes-complete (6 ∷ 0 ∷ 0 ∷ 0 ∷ []) rest) in
          subst (λ z. version_from (to_le_bytes w32 z ++ rest) ≡ Some (z, rest)) (sym f) one
    ]
