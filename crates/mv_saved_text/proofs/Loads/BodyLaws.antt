-- What follows the modules in the text of a saved ledger is read as its tallies' counts and its storage, and nothing else is.
use Rattle.mv_saved_text.proofs.Common.{[], ◌++◌, ◌-◌, ◌<◌, ◌^◌, ◌∙◌, ◌∷◌, ◌≡◌, ◌≤◌, Bool, List, Option, Some, ap, append-nil, append_assoc, ap₂, arith, flat_map, le-leb, leb-true, length, map, refl}
use Rattle.mv_saved_text.proofs.Common.{sym, ℕ, and_from, and_parts, length-map, list_all-map, some_pair_parts, to_le_bytes, w128, list_all, ◌&&◌, nat_le, ◌>>=◌, U128, uleb, number_of-front}
use Rattle.mv_saved_text.proofs.Common.{number_of-whole, Front-as, Front-join, Parts, Whole, entries-front, entries-whole, number-front, number-whole, on_bind, Read, entries_from, FlatStorage}
use Rattle.mv_saved_text.proofs.Common.{flat_storage, Tallied, Storage, tables_in, count_from, storage_into, tally_from, EachBodyIsRead, EachReadIsBody, counted_by, First, Form, Second, greatest_count}
use Rattle.mv_saved_text.proofs.Common.{storage_text, tally_fits, tally_text}
use Rattle.mv_saved_text.proofs.Loads.BodyValues.{valued}
use Rattle.mv_saved_text.proofs.Loads.BodyStorage.{storage-parts, storage-whole}

-- ---- tallies

-- a count of a tally
abbrev count_text : Form → ℕ → List ℕ
count_text First n = to_le_bytes w128 n
count_text Second n = uleb n

-- whether a form can write it
abbrev count_fits : Form → ℕ → Bool
count_fits form n = nat_le n (greatest_count form)

count-parts : (form : Form) → Parts (count_from form) (count_text form) (count_fits form)
count-parts First bytes rest n ok e =
    let p = number_of-front U128 n bytes rest ok e in
    let lt : n < 2 ^ 128 = p.1 in
    (p.0, le-leb n (2 ^ 128 - 1) (omega arith))
count-parts Second bytes rest n ok e =
    let p = number-front 42949672960000000 n bytes rest (omega arith) ok e in
    (p.0, le-leb n 42949672960000000 p.1)

count-whole : (form : Form) → Whole (count_from form) (count_text form) (count_fits form)
count-whole First rest n ok =
    let le : n ≤ 2 ^ 128 - 1 = leb-true n (2 ^ 128 - 1) ok in
    let lt : n < 2 ^ 128 = omega arith in
    number_of-whole U128 n rest lt
count-whole Second rest n ok = number-whole 42949672960000000 n rest (omega arith) (leb-true n 42949672960000000 ok)

-- both counts of a tally
abbrev pair_text : Form → ℕ × ℕ → List ℕ
pair_text form p = count_text form p.0 ++ count_text form p.1

abbrev pair_fits : Form → ℕ × ℕ → Bool
pair_fits form p = nat_le p.0 (greatest_count form) && nat_le p.1 (greatest_count form)

abbrev with_unpacks : ℕ → Read ℕ → Read (ℕ × ℕ)
with_unpacks packs o = o >>= λ unpacks. Some ((packs, unpacks.0), unpacks.1)

abbrev with_packs : Form → Read ℕ → Read (ℕ × ℕ)
with_packs form o = o >>= λ packs. with_unpacks packs.0 (count_from form packs.1)

pair-parts : (form : Form) → Parts (tally_from form) (pair_text form) (pair_fits form)
pair-parts form bytes rest v ok e =
    on_bind (count_from form bytes) _ (v, rest) e (λ a a_is e1.
    on_bind (count_from form a.1) _ (v, rest) e1 (λ b b_is e2.
    let p = count-parts form bytes a.1 a.0 ok a_is in
    let q = count-parts form a.1 b.1 b.0 p.0.left b_is in
    Front-as (pair_text form) (pair_fits form) bytes b.1 rest (a.0, b.0) v e2
    (Front-join (count_text form a.0) (count_text form b.0) bytes a.1 b.1 p.0 q.0)
    (and_from (nat_le a.0 (greatest_count form)) (nat_le b.0 (greatest_count form)) p.1 q.1)))

pair-whole : (form : Form) → Whole (tally_from form) (pair_text form) (pair_fits form)
pair-whole form rest v ok =
    let p = and_parts (nat_le v.0 (greatest_count form)) (nat_le v.1 (greatest_count form)) ok in
    ap (tally_from form) (append_assoc (count_text form v.0) (count_text form v.1) rest)
    ∙ ap (with_packs form) (count-whole form (count_text form v.1 ++ rest) v.0 p.0)
    ∙ ap (with_unpacks v.0) (count-whole form rest v.1 p.1)

-- a tally's text is that of its counts
tally-pair : (form : Form) (t : Tallied) → tally_text form t ≡ pair_text form (counted_by t)
tally-pair First t = refl
tally-pair Second t = refl

tallies-pairs : (form : Form) (ts : List Tallied) → flat_map (tally_text form) ts ≡ flat_map (pair_text form) (map counted_by ts)
tallies-pairs form [] = refl
tallies-pairs form (t ∷ ts) = ap₂ (λ (x y : List ℕ). x ++ y) (tally-pair form t) (tallies-pairs form ts)

tallies-fit : (form : Form) (ts : List Tallied) → list_all (pair_fits form) (map counted_by ts) ≡ list_all (tally_fits form) ts
tallies-fit form ts = list_all-map (pair_fits form) counted_by ts

-- ---- the laws

abbrev with_stored : List (ℕ × ℕ) → Option (FlatStorage × List ℕ) → Read (List (ℕ × ℕ) × FlatStorage)
with_stored counts o = o >>= λ stored. Some ((counts, stored.0), stored.1)

pub each_body_is_read : EachBodyIsRead
each_body_is_read form published bytes tallies storage store short body =
    let counts : List (ℕ × ℕ) = map counted_by tallies in
    let left : List ℕ = storage_text form (tables_in published) storage in
    let text : bytes ≡ flat_map (pair_text form) counts ++ left = body.text ∙ ap (λ z. z ++ left) (tallies-pairs form tallies) in
    let first : entries_from (tally_from form) (length tallies) bytes ≡ Some (counts, left) =
    ap₂ (λ (n : ℕ) (z : List ℕ). entries_from (tally_from form) n z) (sym (length-map tallies counted_by)) text
    ∙ entries-whole (tally_from form) (pair_text form) (pair_fits form) (pair-whole form) left counts (tallies-fit form tallies ∙ body.counts) in
    let second : storage_into (tables_in published) form [] left ≡ Some (flat_storage storage, []) =
    ap (storage_into (tables_in published) form []) (sym (append-nil left)) ∙ storage-whole published store short form storage body.typed body.ascending body.few [] in
    ap (λ (o : Read (List (ℕ × ℕ))). o >>= λ counts. with_stored counts.0 (storage_into (tables_in published) form [] counts.1)) first
    ∙ ap (with_stored counts) second

pub each_read_is_body : EachReadIsBody
each_read_is_body form published bytes tallies stored store ok few h =
    on_bind (entries_from (tally_from form) (length tallies) bytes) _ ((map counted_by tallies, stored), []) h (λ counts counts_is h1.
    on_bind (storage_into (tables_in published) form [] counts.1) _ ((map counted_by tallies, stored), []) h1 (λ s s_is h2.
    let p = entries-front (tally_from form) (pair_text form) (pair_fits form) (pair-parts form) (length tallies) bytes counts.1 counts.0 ok counts_is in
    let q = storage-parts (tables_in published) form counts.1 s.1 s.0 p.0.left s_is in
    let same = some_pair_parts (counts.0, s.0) (map counted_by tallies, stored) s.1 [] h2 in
    let own : counts.0 ≡ map counted_by tallies = ap (λ z. z.0) same.0 in
    let is : s.0 ≡ stored = ap (λ z. z.1) same.0 in
    let storage : Storage = map (valued (tables_in published)) s.0 in
    let text : bytes ≡ flat_map (tally_text form) tallies ++ storage_text form (tables_in published) storage =
    p.0.text ∙ ap₂ (λ (x y : List ℕ). x ++ y) (ap (flat_map (pair_text form)) own ∙ sym (tallies-pairs form tallies))
    (q.front.text ∙ ap (λ z. storage_text form (tables_in published) storage ++ z) same.1 ∙ append-nil (storage_text form (tables_in published) storage)) in (
      storage,
      (
        sym is ∙ sym q.same,
        record {
          text = text;
          counts = sym (tallies-fit form tallies) ∙ ap (list_all (pair_fits form)) (sym own) ∙ p.1;
          ascending = q.ascending;
          typed = q.fine;
          few = omega (arith, length-map s.0 (valued (tables_in published)), ap length is, few);
        },
      ),
    )))
