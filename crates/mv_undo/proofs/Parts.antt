-- What holds at each mark is carried over, and read at the newest.
use Rattle.std.proofs.Common.{[], ◌++◌, ◌∷◌, List}
use Rattle.mv_undo.specs.Parts.{AreAll}

-- a block is begun: what holds now holds at the new mark
pub all-begun : {A B C : Type 0} (P : A → B → C → Type 0) (ps : List A) (ss : List B) (rs : List C) (p : A) (s : B) (r : C)
    → AreAll P ps ss rs → P p s r → AreAll P (ps ++ p ∷ []) (ss ++ s ∷ []) (rs ++ r ∷ [])
all-begun P [] [] [] p s r a h = (h, tt)
all-begun P [] [] (z ∷ rs) p s r a h = absurd a
all-begun P [] (y ∷ ss) rs p s r a h = absurd a
all-begun P (x ∷ ps) [] rs p s r a h = absurd a
all-begun P (x ∷ ps) (y ∷ ss) [] p s r a h = absurd a
all-begun P (x ∷ ps) (y ∷ ss) (z ∷ rs) p s r a h = (a.0, all-begun P ps ss rs p s r a.1 h)

-- a block is taken back: what held at the newest mark holds now, and the older marks are as they were
pub all-back : {A B C : Type 0} (P : A → B → C → Type 0) (ps : List A) (ss : List B) (rs : List C) (p : A) (s : B) (r : C)
    → AreAll P (ps ++ p ∷ []) (ss ++ s ∷ []) (rs ++ r ∷ []) → P p s r × AreAll P ps ss rs
all-back P [] [] [] p s r a = (a.0, tt)
all-back P [] [] (z ∷ []) p s r a = absurd a.1
all-back P [] [] (z ∷ w ∷ rs) p s r a = absurd a.1
all-back P [] (y ∷ []) [] p s r a = absurd a.1
all-back P [] (y ∷ []) (z ∷ rs) p s r a = absurd a.1
all-back P [] (y ∷ v ∷ ss) [] p s r a = absurd a.1
all-back P [] (y ∷ v ∷ ss) (z ∷ rs) p s r a = absurd a.1
all-back P (x ∷ []) [] [] p s r a = absurd a.1
all-back P (x ∷ []) [] (z ∷ rs) p s r a = absurd a.1
all-back P (x ∷ u ∷ ps) [] [] p s r a = absurd a.1
all-back P (x ∷ u ∷ ps) [] (z ∷ rs) p s r a = absurd a.1
all-back P (x ∷ []) (y ∷ []) [] p s r a = absurd a.1
all-back P (x ∷ []) (y ∷ v ∷ ss) [] p s r a = absurd a.1
all-back P (x ∷ u ∷ ps) (y ∷ []) [] p s r a = absurd a.1
all-back P (x ∷ u ∷ ps) (y ∷ v ∷ ss) [] p s r a = absurd a.1
all-back P (x ∷ ps) (y ∷ ss) (z ∷ rs) p s r a = let rest = all-back P ps ss rs p s r a.1 in (rest.0, (a.0, rest.1))
