-- Positions that begin others, place by place, and what follows for labels.
use Rattle.mv_edges.proofs.Common.{[], ℕ, zero, suc, ◌&&◌, ◌++◌, ◌||◌, ◌+◌, ◌<◌, ◌==◌, ◌∙◌, ◌∷◌, ◌≡◌, Bool, List, Some, ap, arith, false, length, not, refl, slice_get, sym, take, true, true≢false}
use Rattle.mv_edges.proofs.Common.{Edge, and_from, and_parts, eq-eqb, eqb-true, false_from_ne_true, get_or_from_slice_get, set, slice_get_within, take_more}
use Rattle.std.proofs.lemmas.Grind.{take-set_at}
use Rattle.std.specs.Bool.{beq}
use Rattle.std.specs.Str.{bytes_eq}
use Rattle.std.specs.Cmp.Lexicographic.{bytes_decides}
use Rattle.mv_edges.proofs.AsSets.{same_truth}
use Rattle.mv_move_types.specs.Paths.{begins}
use Rattle.mv_edges.specs.Edges.{edge_leq}
use Rattle.mv_ways.specs.Told.{is_beside, same_position}

-- one position more
pub begins_more : (xs ys : List ℕ) (i : ℕ) → i < length xs → begins (take i xs) ys ≡ true → same_position (slice_get xs i) (slice_get ys i) ≡ true → begins (take (i + 1) xs) ys ≡ true
begins_more [] ys i h b e = absurd (omega (arith, h))
begins_more (x ∷ xs) [] zero h b e = absurd (true≢false (sym e))
begins_more (x ∷ xs) [] (suc i) h b e = absurd (true≢false (sym b))
begins_more (x ∷ xs) (y ∷ ys) zero h b e = and_from (x == y) true e refl
begins_more (x ∷ xs) (y ∷ ys) (suc i) h b e =
    let parts = and_parts (x == y) (begins (take i xs) ys) b in
    let next : suc i + 1 ≡ suc (i + 1) = omega arith in
    ap (λ n. begins (take n (x ∷ xs)) (y ∷ ys)) next ∙ and_from (x == y) (begins (take (i + 1) xs) ys) parts.0 (begins_more xs ys i (omega (arith, h)) parts.1 e)

-- and each is the same where they do
begins_at : (xs ys : List ℕ) (i : ℕ) → i < length xs → begins xs ys ≡ true → same_position (slice_get xs i) (slice_get ys i) ≡ true
begins_at [] ys i h b = absurd (omega (arith, h))
begins_at (x ∷ xs) [] i h b = absurd (true≢false (sym b))
begins_at (x ∷ xs) (y ∷ ys) zero h b = (and_parts (x == y) (begins xs ys) b).0
begins_at (x ∷ xs) (y ∷ ys) (suc i) h b = begins_at xs ys i (omega (arith, h)) (and_parts (x == y) (begins xs ys) b).1

pub not_begins : (xs ys : List ℕ) (i : ℕ) → i < length xs → same_position (slice_get xs i) (slice_get ys i) ≡ false → begins xs ys ≡ false
not_begins xs ys i h e = false_from_ne_true (begins xs ys) (λ b. true≢false (sym (begins_at xs ys i h b) ∙ e))

-- ---- labels

begins_itself : (xs : List ℕ) → begins xs xs ≡ true
begins_itself [] = refl
begins_itself (x ∷ xs) = and_from (x == x) (begins xs xs) (eq-eqb x x refl) (begins_itself xs)

begun_same : (xs ys : List ℕ) → begins xs ys ≡ true → length xs ≡ length ys → xs ≡ ys
begun_same [] [] b h = refl
begun_same [] (y ∷ ys) b h = absurd (omega (arith, h))
begun_same (x ∷ xs) [] b h = absurd (omega (arith, h))
begun_same (x ∷ xs) (y ∷ ys) b h =
    let parts = and_parts (x == y) (begins xs ys) b in
    ap (λ z. z ∷ xs) (eqb-true x y parts.0) ∙ ap (λ r. y ∷ r) (begun_same xs ys parts.1 (omega (arith, h)))

-- lists of which one begins the other are the same if they are equally long
pub same_by_begins : (xs ys : List ℕ) → bytes_eq xs ys ≡ (begins ys xs && (length xs == length ys))
same_by_begins xs ys =
    same_truth (bytes_eq xs ys) (begins ys xs && (length xs == length ys))
    (λ h. let same = (bytes_decides xs ys).0 h in rw same (and_from (begins ys ys) (length ys == length ys) (begins_itself ys) (eq-eqb (length ys) (length ys) refl)))
    (λ h. let parts = and_parts (begins ys xs) (length xs == length ys) h in (bytes_decides xs ys).1 (sym (begun_same ys xs parts.0 (sym (eqb-true (length xs) (length ys) parts.1)))))

-- ---- edges

-- an edge is below another one by what both are beside, by positions, by whether they are open, and by how many positions they have
abbrev by_parts : Bool → Bool → Bool → Bool → Bool → Bool
by_parts beside begun above_open own_open long = beside && (begun && (above_open || (not own_open && long)))

leq_is : (a b : Edge) → edge_leq a b ≡ by_parts (is_beside a b) (begins b.label.path a.label.path) b.label.is_open a.label.is_open (length a.label.path == length b.label.path)
leq_is a b =
    ap (λ c. is_beside a b && ((c && beq a.label.is_open b.label.is_open) || b.label.is_open && begins b.label.path a.label.path)) (same_by_begins a.label.path b.label.path)
    ∙ ap (λ c. is_beside a b && c) (by_open (begins b.label.path a.label.path) (length a.label.path == length b.label.path) a.label.is_open b.label.is_open)
  where
    by_open : (s l x y : Bool) → (((s && l) && beq x y) || y && s) ≡ (s && (y || (not x && l)))
    by_open true true true true = refl
    by_open true true true false = refl
    by_open true true false true = refl
    by_open true true false false = refl
    by_open true false true true = refl
    by_open true false true false = refl
    by_open true false false true = refl
    by_open true false false false = refl
    by_open false l x true = refl
    by_open false l x false = refl

module _ (a b : Edge) where
  pub not_beside : is_beside a b ≡ false → edge_leq a b ≡ false
  not_beside h = leq_is a b ∙ ap (λ c. by_parts c (begins b.label.path a.label.path) b.label.is_open a.label.is_open (length a.label.path == length b.label.path)) h

  pub not_begun : is_beside a b ≡ true → begins b.label.path a.label.path ≡ false → edge_leq a b ≡ false
  not_begun h g = leq_is a b ∙ ap (λ c. by_parts c (begins b.label.path a.label.path) b.label.is_open a.label.is_open (length a.label.path == length b.label.path)) h
      ∙ ap (λ c. by_parts true c b.label.is_open a.label.is_open (length a.label.path == length b.label.path)) g

  begun : is_beside a b ≡ true → begins b.label.path a.label.path ≡ true → edge_leq a b ≡ (b.label.is_open || (not a.label.is_open && (length a.label.path == length b.label.path)))
  begun h g = leq_is a b ∙ ap (λ c. by_parts c (begins b.label.path a.label.path) b.label.is_open a.label.is_open (length a.label.path == length b.label.path)) h
      ∙ ap (λ c. by_parts true c b.label.is_open a.label.is_open (length a.label.path == length b.label.path)) g

  pub below_open : is_beside a b ≡ true → begins b.label.path a.label.path ≡ true → b.label.is_open ≡ true → edge_leq a b ≡ true
  below_open h g o = begun h g ∙ ap (λ c. c || (not a.label.is_open && (length a.label.path == length b.label.path))) o

  pub open_not_below : is_beside a b ≡ true → begins b.label.path a.label.path ≡ true → b.label.is_open ≡ false → a.label.is_open ≡ true → edge_leq a b ≡ false
  open_not_below h g o p = begun h g ∙ ap (λ c. c || (not a.label.is_open && (length a.label.path == length b.label.path))) o ∙ ap (λ c. not c && (length a.label.path == length b.label.path)) p

  pub below_exact : is_beside a b ≡ true → begins b.label.path a.label.path ≡ true → b.label.is_open ≡ false → a.label.is_open ≡ false → edge_leq a b ≡ (length a.label.path == length b.label.path)
  below_exact h g o p = begun h g ∙ ap (λ c. c || (not a.label.is_open && (length a.label.path == length b.label.path))) o ∙ ap (λ c. not c && (length a.label.path == length b.label.path)) p

-- ---- positions that are copied

-- one position more
pub positions_more : (room path : List ℕ) (i v : ℕ) → i < length room → take i room ≡ take i path → Some v ≡ slice_get path i → take (i + 1) (set room i v) ≡ take (i + 1) path
positions_more room path i v inside same at =
    let there : i < length path = slice_get_within path i v (sym at) in
    take-set_at room i (i + 1) v refl inside ∙ ap (λ xs. xs ++ v ∷ []) same ∙ ap (λ x. take i path ++ x ∷ []) (sym (get_or_from_slice_get path i v v (sym at))) ∙ sym (take_more path i v there)
