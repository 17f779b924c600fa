-- What a turn of the loops over a flow adds.
use Rattle.std.proofs.Common.{◌≡◌, All, ℕ, suc, ◌+◌, ◌-◌, ◌<◌, ◌≤◌, List, length, get_or, take, Option, Some, None, refl, sym, subst, arith, slice_get, ◌≢◌, ⊎_elim}
use Rattle.std.proofs.lemmas.Bool.{cases_eq}
use Rattle.std.proofs.lemmas.List.Elements.{All-more}
use Rattle.std.proofs.lemmas.Option.{slice_get_read}
use Rattle.mv_lattice.specs.Flow.{carried, IsStated}

module _ {S : Type 0} (step : ℕ → S → Option S) where
  -- one instruction more
  pub carried_some : (at last : ℕ) (s t : S) → at ≤ last → step at s ≡ Some t → carried step (at + 1) (last + 1 - (at + 1)) t ≡ carried step at (last + 1 - at) s
  carried_some at last s t h e =
      let n : last + 1 - at ≡ suc (last + 1 - (at + 1)) = omega arith in
      let a : at + 1 ≡ suc at = omega arith in
      rw (n, e, a) refl

  pub carried_none : (at last : ℕ) (s : S) → at ≤ last → step at s ≡ None → carried step at (last + 1 - at) s ≡ None
  carried_none at last s h e =
      let n : last + 1 - at ≡ suc (last + 1 - (at + 1)) = omega arith in
      rw (n, e) refl

-- of the states that are stated for these blocks, one block more
module _ {S : Type 0} (P : S → Type 0) (flow : List (Option S)) (blocks : List ℕ) where
  -- each state that is stated for one of some blocks has P
  abbrev Each : List ℕ → Type 0
  Each some = All (λ n. (u : S) → IsStated flow n u → P u) some

  pub each_some : (i n : ℕ) (v : S) → i < length blocks → n ≡ get_or blocks i 0 → IsStated flow n v → P v → Each (take i blocks) → Each (take (i + 1) blocks)
  each_some i n v h at is p before =
      All-more (λ m. (u : S) → IsStated flow m u → P u) blocks i 0 h before
      (λ u st.
      let st' : IsStated flow n u = subst (λ x. IsStated flow x u) (sym at) st in
      let same : v ≡ u = cc in
      subst P same p)

  pub each_none : (i n : ℕ) → i < length blocks → n ≡ get_or blocks i 0 → slice_get flow n ≡ Some None → Each (take i blocks) → Each (take (i + 1) blocks)
  each_none i n h at none before =
      All-more (λ m. (u : S) → IsStated flow m u → P u) blocks i 0 h before
      (λ u st. let st' : IsStated flow n u = subst (λ x. IsStated flow x u) (sym at) st in cc)

-- what a read of a list gives
pub block_read : {B : Type 0} (xs ys : List B) (k : ℕ) (r : B) → xs ≡ ys → k < length xs → r ≡ get_or xs k r → slice_get ys k ≡ Some r
block_read xs ys k r same h e = subst (λ zs. slice_get zs k ≡ Some r) same (slice_get_read xs (length xs) k r refl h e)

module _ {S B : Type 0} (blocks : List B) (flow : List (Option S)) (P : B → S → Type 0) where
  abbrev pub HoldsBelow : ℕ → Type 0
  HoldsBelow i = (k : ℕ) (b : B) (s : S) → k < i → slice_get blocks k ≡ Some b → slice_get flow k ≡ Some (Some s) → P b s

  pub holds_some : (i : ℕ) (b : B) (s : S) → slice_get blocks i ≡ Some b → slice_get flow i ≡ Some (Some s) → P b s → HoldsBelow i → HoldsBelow (i + 1)
  holds_some i b s eb es p before k b' s' h eb' es' =
      ⊎_elim
      (λ (e : k ≡ i).
      let b_is : b ≡ b' = cc in
      let s_is : s ≡ s' = cc in
      subst (λ x. P x s') b_is (subst (λ x. P b x) s_is p))
      (λ (ne : k ≢ i). before k b' s' (omega arith) eb' es')
      (cases_eq k i)

  pub holds_none : (i : ℕ) → slice_get flow i ≡ Some None → HoldsBelow i → HoldsBelow (i + 1)
  holds_none i en before k b' s' h eb' es' =
      ⊎_elim
      (λ (e : k ≡ i). let n : slice_get flow i ≡ Some (Some s') = subst (λ x. slice_get flow x ≡ Some (Some s')) e es' in cc)
      (λ (ne : k ≢ i). before k b' s' (omega arith) eb' es')
      (cases_eq k i)
