-- Reading the tallies of all modules: how far it has come, and what stays.
use Rattle.mv_saved_text.proofs.Common.{[], ◌++◌, ◌+◌, ◌<◌, ◌∙◌, ◌∷◌, ◌≡◌, List, None, Some, ap, append-nil, append_assoc, arith, drop, get_or, length, length-append, map, option_map, refl, subst, lists_of}
use Rattle.mv_saved_text.proofs.Common.{suc, sym, take, zero, zero-add, ℕ, map-set_same, drop-set-lt, drop_more, get_or-map, length-map, map-append, map-set, take_more_set}
use Rattle.mv_saved_text.proofs.Common.{with_items_is, All-cons, All-head, All-nil, All-tail, All, slice_set, with_items, Global, Vec, ◌>>=◌, Definition, after, Read, entries_from, counts_of}
use Rattle.mv_saved_text.proofs.Common.{struct_of, ArePlaced, all_of, Tally}
use Rattle.mv_module_text.proofs.Entries.{after-nil}

-- ---- so many entries, and then others

after-two : {A : Type 0} (xs ys : List A) (o : Read (List A)) → option_map (after xs) (option_map (after ys) o) ≡ option_map (after (xs ++ ys)) o
after-two xs ys None = refl
after-two xs ys (Some r) = ap (λ z. Some (z, r.1)) (sym (append_assoc xs ys r.0))

-- one in front of others
abbrev pushed : {A : Type 0} → A → Read (List A) → Read (List A)
pushed x o = o >>= λ xs. Some (x ∷ xs.0, xs.1)

-- so many others after those that were read
abbrev pub with_more : {A : Type 0} → (List ℕ → Read A) → ℕ → Read (List A) → Read (List A)
with_more each n o = o >>= λ r. option_map (after r.0) (entries_from each n r.1)

after-push : {A : Type 0} (x : A) (xs : List A) (o : Read (List A)) → pushed x (option_map (after xs) o) ≡ option_map (after (x ∷ xs)) o
after-push x xs o = grind arith

-- what one more in front makes of them
push-both : {A : Type 0} (each : List ℕ → Read A) (n : ℕ) (x : A) (o : Read (List A)) → pushed x (with_more each n o) ≡ with_more each n (pushed x o)
push-both each n x None = refl
push-both each n x (Some r) = after-push x r.0 (entries_from each n r.1)

step-both : {A : Type 0} (each : List ℕ → Read A) (m n : ℕ) → ((bytes : List ℕ) → entries_from each (m + n) bytes ≡ with_more each n (entries_from each m bytes))
    → (o : Read A) → (o >>= λ x. pushed x.0 (entries_from each (m + n) x.1)) ≡ with_more each n (o >>= λ x. pushed x.0 (entries_from each m x.1))
step-both each m n both None = refl
step-both each m n both (Some x) = ap (pushed x.0) (both x.1) ∙ push-both each n x.0 (entries_from each m x.1)

-- the first entries, if they can be read, and the others after them
entries-both : {A : Type 0} (each : List ℕ → Read A) (m n : ℕ) (bytes : List ℕ) → entries_from each (m + n) bytes ≡ with_more each n (entries_from each m bytes)
entries-both each zero n bytes = ap (λ k. entries_from each k bytes) (zero-add n) ∙ after-nil (entries_from each n bytes)
entries-both each (suc m) n bytes =
    let more : suc m + n ≡ suc (m + n) = omega arith in
    ap (λ k. entries_from each k bytes) more ∙ step-both each m n (λ b. entries-both each m n b) (each bytes)

-- ---- the tallies of modules

-- what was read of the tallies of the first i modules, of so many tallies in all
pub record TalliesOn (each : List ℕ → Read (ℕ × ℕ)) (n i : ℕ) (start : List ℕ) (tss : List (List Tally)) (cur : List ℕ) : Type 0 where
  pub goes : entries_from each n start ≡ option_map (after (map counts_of (all_of (take i tss)))) (entries_from each (length (all_of (drop i tss))) cur)

-- none are read yet
pub TalliesOn-start : (each : List ℕ → Read (ℕ × ℕ)) (start : List ℕ) (tss : List (List Tally)) → TalliesOn each (length (all_of tss)) 0 start tss start
TalliesOn-start each start tss = record { goes = after-nil (entries_from each (length (all_of tss)) start) }

all-split : (xs ys : List (List Tally)) → all_of (xs ++ ys) ≡ all_of xs ++ all_of ys
all-split [] ys = refl
all-split (x ∷ xs) ys = ap (λ z. x ++ z) (all-split xs ys) ∙ sym (append_assoc x (all_of xs) (all_of ys))

-- those of the next module, and those after it
pub left-is : (each : List ℕ → Read (ℕ × ℕ)) (i : ℕ) (tss : List (List Tally)) (cur : List ℕ) (d : List Tally) → i < length tss
    → entries_from each (length (all_of (drop i tss))) cur ≡ with_more each (length (all_of (drop (i + 1) tss))) (entries_from each (length (get_or tss i d)) cur)
left-is each i tss cur d lt =
    let front : all_of (drop i tss) ≡ get_or tss i d ++ all_of (drop (i + 1) tss) = ap all_of (drop_more tss i d lt) in
    ap (λ k. entries_from each k cur) (ap length front ∙ length-append (get_or tss i d) (all_of (drop (i + 1) tss)))
    ∙ entries-both each (length (get_or tss i d)) (length (all_of (drop (i + 1) tss))) cur

-- one more module's are read
pub TalliesOn-next : (each : List ℕ → Read (ℕ × ℕ)) (n i : ℕ) (start : List ℕ) (tss : List (List Tally)) (cur next : List ℕ) (d ts : List Tally) → i < length tss
    → entries_from each (length (get_or tss i d)) cur ≡ Some (map counts_of ts, next) → TalliesOn each n i start tss cur → TalliesOn each n (i + 1) start (slice_set tss i ts) next
TalliesOn-next each n i start tss cur next d ts lt e g =
    let done : List (ℕ × ℕ) = map counts_of (all_of (take i tss)) in
    let left : ℕ = length (all_of (drop (i + 1) tss)) in
    let front : map counts_of (all_of (take (i + 1) (slice_set tss i ts))) ≡ done ++ map counts_of ts =
    ap (λ z. map counts_of (all_of z)) (take_more_set tss i ts lt)
    ∙ ap (map counts_of) (all-split (take i tss) (ts ∷ []) ∙ ap (λ z. all_of (take i tss) ++ z) (append-nil ts))
    ∙ map-append counts_of (all_of (take i tss)) ts in
    let back : drop (i + 1) (slice_set tss i ts) ≡ drop (i + 1) tss = drop-set-lt (i + 1) tss i ts (omega arith) in
    record {
      goes = g.goes ∙ ap (option_map (after done)) (left-is each i tss cur d lt ∙ ap (with_more each left) e)
          ∙ after-two done (map counts_of ts) (entries_from each left next)
          ∙ ap (λ z. option_map (after z) (entries_from each left next)) (sym front)
          ∙ ap (λ z. option_map (after (map counts_of (all_of (take (i + 1) (slice_set tss i ts))))) (entries_from each (length (all_of z)) next)) (sym back);
    }

-- ---- what stays

-- which struct each tally is of
abbrev pub structs_in : List (List Tally) → List (List Definition)
structs_in tss = map (map struct_of) tss

-- tallies whose counts were read are of the structs that they were
pub kept-set : (tss start : List (List Tally)) (i : ℕ) (ts d : List Tally) → map struct_of ts ≡ map struct_of (get_or tss i d) → structs_in tss ≡ structs_in start
    → structs_in (slice_set tss i ts) ≡ structs_in start
kept-set tss start i ts d e kept = map-set_same (map struct_of) tss i ts d e ∙ kept

kept-length : (xs ys : List Tally) → map struct_of xs ≡ map struct_of ys → length xs ≡ length ys
kept-length xs ys e = sym (length-map xs struct_of) ∙ ap length e ∙ length-map ys struct_of

placed-row : (place : ℕ) (xs ys : List Tally) → map struct_of xs ≡ map struct_of ys → All (λ t. t.place ≡ place) ys → All (λ t. t.place ≡ place) xs
placed-row place [] ys e all = All-nil (λ t. t.place ≡ place)
placed-row place (x ∷ xs) [] e all = absurd cc
placed-row place (x ∷ xs) (y ∷ ys) e all =
    let first : struct_of x ≡ struct_of y = cc in
    let others : map struct_of xs ≡ map struct_of ys = cc in
    All-cons (λ t. t.place ≡ place) x xs (ap (λ (d : Definition). d.place) first ∙ All-head (λ (t : Tally). t.place ≡ place) y ys all)
    (placed-row place xs ys others (All-tail (λ (t : Tally). t.place ≡ place) y ys all))

-- they stand with their modules
pub placed-kept : (place : ℕ) (xs ys : List (List Tally)) → structs_in xs ≡ structs_in ys → ArePlaced place ys → ArePlaced place xs
placed-kept place [] [] e placed = tt
placed-kept place (x ∷ xs) (y ∷ ys) e placed =
    let first : map struct_of x ≡ map struct_of y = cc in
    let others : structs_in xs ≡ structs_in ys = cc in
    (placed-row place x y first placed.0, placed-kept (place + 1) xs ys others placed.1)
placed-kept place _ _ e placed = absurd cc

-- ---- a module's tallies in their vector

-- a vector with the tallies that were read
module _ (vs : List (Vec Tally Global)) (i : ℕ) (v : Vec Tally Global) (before ts : List Tally) (short : i < length vs) (value : before ≡ (get_or vs i v).items)
    (len : length before ≡ (get_or vs i v).len) (kept : map struct_of ts ≡ map struct_of before) where
  pub lists-set : lists_of (slice_set vs i (with_items (get_or vs i v) ts)) ≡ slice_set (lists_of vs) i ts
  lists-set = map-set (λ v. v.items) vs i (with_items (get_or vs i v) ts) ∙ ap (λ z. slice_set (lists_of vs) i z) (with_items_is (get_or vs i v) ts (kept-length ts before kept ∙ len))

  pub here-is : get_or (lists_of vs) i [] ≡ before
  here-is = get_or-map (λ v. v.items) vs i v [] short ∙ sym value

  pub short-lists : i < length (lists_of vs)
  short-lists = omega (arith, length-map vs (λ v. v.items))

  pub structs-set : (start : List (List Tally)) → structs_in (lists_of vs) ≡ structs_in start → structs_in (lists_of (slice_set vs i (with_items (get_or vs i v) ts))) ≡ structs_in start
  structs-set start e = ap structs_in lists-set ∙ kept-set (lists_of vs) start i ts [] (kept ∙ ap (map struct_of) (sym here-is)) e

  pub reads-next : (each : List ℕ → Read (ℕ × ℕ)) (n : ℕ) (start cur next : List ℕ) → entries_from each (length before) cur ≡ Some (map counts_of ts, next) → TalliesOn each n i start (lists_of vs) cur
      → TalliesOn each n (i + 1) start (lists_of (slice_set vs i (with_items (get_or vs i v) ts))) next
  reads-next each n start cur next e g =
      subst (λ z. TalliesOn each n (i + 1) start z next) (sym lists-set)
      (TalliesOn-next each n i start (lists_of vs) cur next [] ts short-lists (ap (λ z. entries_from each (length z) cur) here-is ∙ e) g)

-- whatever counts were read, they stand with their modules
pub whole-placed : (own : Vec (Vec Tally Global) Global) (vs : List (Vec Tally Global)) (start : List (List Tally)) → length vs ≡ own.len → structs_in (lists_of vs) ≡ structs_in start → ArePlaced 0 start
    → ArePlaced 0 (lists_of (with_items own vs).items)
whole-placed own vs start len kept placed = subst (λ (xs : List (Vec Tally Global)). ArePlaced 0 (lists_of xs)) (sym (with_items_is own vs len)) (placed-kept 0 (lists_of vs) start kept placed)

-- and are of the structs that they were
pub whole-kept : (own : Vec (Vec Tally Global) Global) (vs : List (Vec Tally Global)) (start : List (List Tally)) → length vs ≡ own.len → structs_in (lists_of vs) ≡ structs_in start
    → structs_in (lists_of (with_items own vs).items) ≡ structs_in start
whole-kept own vs start len kept = ap (λ xs. structs_in (lists_of xs)) (with_items_is own vs len) ∙ kept
