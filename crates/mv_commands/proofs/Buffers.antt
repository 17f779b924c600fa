-- What a buffer begins with after several reads into it.
use Rattle.std.proofs.Common.{◌≡◌, ℕ, ◌+◌, ◌≤◌, List, ◌++◌, length, take, sym, ap, ◌∙◌, length-take-le}
use Rattle.std.proofs.Math.Seq.{take-append-add, take-append-le}
use borrow.Rule.Slice.PartMut.{put_mid, post_of}

-- what a buffer begins with after a read after its first bytes
pub take-put_mid_more : (a k n : ℕ) (xs ys : List ℕ) → a ≤ length xs → n ≤ length ys → take (a + n) (put_mid a k xs ys) ≡ take a xs ++ take n ys
take-put_mid_more a k n xs ys within fits =
    let same : length (take a xs) ≡ a = length-take-le a xs within in
    ap (λ m. take (m + n) (take a xs ++ (ys ++ post_of a k xs))) (sym same)
    ∙ take-append-add (take a xs) (ys ++ post_of a k xs) n
    ∙ ap (λ l. take a xs ++ l) (take-append-le n ys (post_of a k xs) fits)
