-- Leaves that are coded one after the other.
use Rattle.mv_saved_text.proofs.Common.{[], ◌++◌, ◌+◌, ◌<◌, ◌∙◌, ◌∷◌, ◌≡◌, List, add-one, ap, ap₂, drop, get_or, length, refl, suc, sym, ℕ, drop-cons}
use Rattle.mv_saved_text.proofs.Common.{LeafKind, AreLeaves, coded}

pub leaves-length : (ks : List LeafKind) (ns : List ℕ) → AreLeaves ks ns → length ks ≡ length ns
leaves-length [] [] h = refl
leaves-length (k ∷ ks) (n ∷ ns) h = ap suc (leaves-length ks ns h.1)
leaves-length _ _ h = absurd h

-- those from a place on
pub dropped : {A : Type 0} (xs : List A) (i : ℕ) (x : A) → i < length xs → x ≡ get_or xs i x → drop i xs ≡ x ∷ drop (i + 1) xs
dropped xs i x lt at = drop-cons xs i x lt ∙ ap₂ (λ y n. y ∷ drop n xs) (sym at) (sym (add-one i))

-- so many are coded, and these are left
pub record AreCoded (ks : List LeafKind) (ns : List ℕ) (i : ℕ) (old text : List ℕ) : Type 0 where
  pub left : AreLeaves (drop i ks) (drop i ns)
  pub same : length ks ≡ length ns
  pub text_is : text ++ coded (drop i ks) (drop i ns) ≡ old ++ coded ks ns

-- none yet
pub coded-start : (ks : List LeafKind) (ns : List ℕ) (text : List ℕ) → AreLeaves ks ns → AreCoded ks ns 0 text text
coded-start ks ns text h = record { left = h; same = leaves-length ks ns h; text_is = refl }
