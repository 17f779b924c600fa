-- Instructions that are read one by one.
use Rattle.mv_binary_format.proofs.Common.{[], ℕ, ◌++◌, ◌+◌, ◌-◌, ◌<◌, ◌≤◌, ◌∙◌, ◌∷◌, ◌≡◌, List, None, Some, ap, arith, refl, suc, sym, true, ◌>>=◌}
use Rattle.mv_binary_format.proofs.Common.{Err, Result, Phase, Read, counted_from, entries_from, number_from, subst, zero}
use Rattle.std.proofs.lemmas.Bool.{false≢true}
use Rattle.std.proofs.Common.{is_some, length}
use Rattle.std.specs.Option.{option_map_or}
use Rattle.mv_move_types.specs.declared.instruction.Instruction.{Instruction}
use Rattle.mv_move_types.specs.declared.refusal.Refusal.{Refusal}
use Rattle.mv_module_text.specs.Parsing.{instruction_from}
use Rattle.mv_module_text.specs.Reads.{Reads}
use Rattle.mv_module_text.proofs.Entries.{ReadsOn, ReadsOn-next, ReadsOn-stops, ReadsOn-end}
unfoldable use Rattle.mv_binary_format.specs.Code.{instructions_in, instructions_stand}

-- the first i of n entries were read and passed over
pub record Passes {A : Type 0} (each : List ℕ → Read A) (n i : ℕ) (start cur : List ℕ) : Type 0 where
  pub items : List A
  pub goes : ReadsOn each n i start items cur

-- one more
pub Passes-next : {A : Type 0} (each : List ℕ → Read A) (n i : ℕ) (start cur next : List ℕ) (x : A) → i < n → each cur ≡ Some (x, next)
    → Passes each n i start cur → Passes each n (i + 1) start next
Passes-next each n i start cur next x lt e p = record { items = p.items ++ x ∷ []; goes = ReadsOn-next each n i start p.items cur next x lt e p.goes }

-- one can't be read
pub Passes-stops : {A : Type 0} (each : List ℕ → Read A) (most n i : ℕ) (bytes start cur : List ℕ) → number_from most bytes ≡ Some (n, start) → i < n → each cur ≡ None
    → Passes each n i start cur → counted_from most each bytes ≡ None
Passes-stops each most n i bytes start cur e lt none p = ReadsOn-stops each most n i bytes start p.items cur e lt none p.goes

-- the entries after a count
counted-at : {A : Type 0} (most : ℕ) (each : List ℕ → Read A) (n : ℕ) (bytes start : List ℕ) → number_from most bytes ≡ Some (n, start)
    → counted_from most each bytes ≡ entries_from each n start
counted-at most each n bytes start e = ap (λ r. r >>= λ c. entries_from each c.0 c.1) e

-- all were read
pub Passes-end : (version most n i : ℕ) (bytes start cur : List ℕ) → number_from most bytes ≡ Some (n, start) → n ≤ i → Passes (instruction_from version) n i start cur
    → (counted_from most (instruction_from version) bytes ≡ Some (instructions_in version n start, cur)) × (instructions_stand version n start ≡ true)
unfolding instructions_in instructions_stand
Passes-end version most n i bytes start cur e le p =
    let all = ReadsOn-end (instruction_from version) most n i bytes start p.items cur e le p.goes in
    let here = sym (counted-at most (instruction_from version) n bytes start e) ∙ all in
    (rw here all, rw here refl)

-- none are left
pub none-left : (version : ℕ) (bytes : List ℕ) → instructions_in version 0 bytes ≡ []
unfolding instructions_in
none-left version bytes = refl

-- an entry before others
abbrev before : {A : Type 0} → A → Read (List A) → Read (List A)
before x o = o >>= λ xs. Some (x ∷ xs.0, xs.1)

-- the entries that were read
abbrev listed : {A : Type 0} → Read (List A) → List A
listed o = option_map_or (λ r. r.0) o []

first-of : {A : Type 0} (x : A) (o : Read (List A)) → is_some (before x o) ≡ true → (is_some o ≡ true) × (listed (before x o) ≡ x ∷ listed o)
first-of x None e = absurd (false≢true e)
first-of x (Some r) e = (refl, refl)

before-short : {A : Type 0} (x : A) (o : Read (List A)) (n : ℕ) → length (listed o) ≤ n → length (listed (before x o)) ≤ suc n
before-short x None n h = omega arith
before-short x (Some r) n h = omega (arith, h)

first-short : {A : Type 0} (each : List ℕ → Read A) (n : ℕ) → ((bytes : List ℕ) → length (listed (entries_from each n bytes)) ≤ n)
    → (o : Read A) → length (listed (o >>= λ x. before x.0 (entries_from each n x.1))) ≤ suc n
first-short each n short None = omega arith
first-short each n short (Some x) = before-short x.0 (entries_from each n x.1) n (short x.1)

entries-short : {A : Type 0} (each : List ℕ → Read A) (n : ℕ) (bytes : List ℕ) → length (listed (entries_from each n bytes)) ≤ n
entries-short each zero bytes = omega arith
entries-short each (suc n) bytes = first-short each n (entries-short each n) (each bytes)

-- there are no more of them than were asked for
pub few-instructions : (version n : ℕ) (bytes : List ℕ) → length (instructions_in version n bytes) ≤ n
unfolding instructions_in
few-instructions version n bytes = entries-short (instruction_from version) n bytes

-- the next one, and those after it
pub next-read : (version n : ℕ) (bytes rest : List ℕ) (i : Instruction) → instruction_from version bytes ≡ Some (i, rest) → instructions_stand version (suc n) bytes ≡ true
    → (instructions_stand version n rest ≡ true) × (instructions_in version (suc n) bytes ≡ i ∷ instructions_in version n rest)
unfolding instructions_in instructions_stand
next-read version n bytes rest i e there =
    let next : entries_from (instruction_from version) (suc n) bytes ≡ before i (entries_from (instruction_from version) n rest) = rw e refl in
    let both = first-of i (entries_from (instruction_from version) n rest) (sym (ap is_some next) ∙ there) in
    (both.0, ap listed next ∙ both.1)

-- there is a next one
pub next-stands : (version n : ℕ) (bytes : List ℕ) → instructions_stand version (suc n) bytes ≡ true → instruction_from version bytes ≡ None → ⊥
unfolding instructions_stand
next-stands version n bytes there e =
    let none : entries_from (instruction_from version) (suc n) bytes ≡ None = rw e refl in
    false≢true (sym (ap is_some none) ∙ there)

-- one is read of those that are left
pub advances : (version left : ℕ) (bytes rest : List ℕ) (i : Instruction) → (left ≡ 0 → ⊥) → instruction_from version bytes ≡ Some (i, rest) → instructions_stand version left bytes ≡ true
    → (instructions_stand version (left - 1) rest ≡ true) × (instructions_in version left bytes ≡ i ∷ instructions_in version (left - 1) rest)
advances version zero bytes rest i some e there = absurd (some refl)
advances version (suc n) bytes rest i some e there = let less : suc n - 1 ≡ n = omega arith in rw less (next-read version n bytes rest i e there)

-- one can be read where some are left
pub stands : (version left : ℕ) (bytes : List ℕ) → (left ≡ 0 → ⊥) → instructions_stand version left bytes ≡ true → instruction_from version bytes ≡ None → ⊥
stands version zero bytes some there e = some refl
stands version (suc n) bytes some there e = next-stands version n bytes there e

-- what is refused in phase 2
pub Reads-refused : {A : Type 0} (from : List ℕ → Read A) (old new : List ℕ) (r : Result A Refusal) → r ≡ Err (Phase 2) → from old ≡ None → Reads from old r new
Reads-refused from old new r r_is none = subst (λ z. Reads from old z new) (sym r_is) (refl, none)
