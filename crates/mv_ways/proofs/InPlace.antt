-- Lists that a loop changes in place.
use Rattle.mv_edges.proofs.Common.{ℕ, ◌++◌, ◌+◌, ◌<◌, ◌∙◌, ◌≡◌, List, ap, arith, drop, get_or, get_or_default, length, map, set, sym, take, with_items}
use Rattle.std.proofs.Common.{Vec}
use Rattle.std.proofs.lemmas.List.{length-map, with_items_is}
use Rattle.std.proofs.lemmas.List.Edits.{map_over_more}

-- a loop that changes a list in place
pub in_place : {X : Type 0} (f : X → X) (xs ys : List X) (i : ℕ) (d y : X) → i < length xs → length ys ≡ length xs → ys ≡ map f (take i xs) ++ drop i xs → y ≡ f (get_or ys i d)
    → set ys i y ≡ map f (take (i + 1) xs) ++ drop (i + 1) xs
in_place f xs ys i d y lt long h g =
    ap (set ys i) g ∙ map_over_more f xs ys i (get_or ys i d) lt h (get_or_default ys i d (get_or ys i d) (omega (arith, long, lt)))

-- the vector that such a loop leaves
pub changed_in_place : {X Z : Type 0} (f : X → X) (v : Vec X Z) (before after : List X) → after ≡ map f before → before ≡ v.items → (with_items v after).items ≡ map f v.items
changed_in_place f v before after e g = with_items_is v after (ap length e ∙ length-map before f ∙ ap length g ∙ sym v.ok.0) ∙ e ∙ ap (map f) g
