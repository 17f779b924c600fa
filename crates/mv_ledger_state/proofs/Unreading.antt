-- What is not read at the front of bytes, nor at that of longer ones where they are malformed: from the parts to the whole.
use Rattle.mv_ledger_state.proofs.Common.{[], ◌++◌, ◌+◌, ◌*◌, ◌-◌, ◌/◌, ◌<◌, ◌∙◌, ◌∷◌, ◌≡◌, ◌≤◌, List, None, Option, Some, ap, append-nil, arith, eq-eqb, length, refl, subst, suc, sym, ℕ}
use Rattle.mv_ledger_state.proofs.Common.{none-some, some_pair_parts, then_some, nat_le, option_and_then, ◌>>=◌, number_from, Read, byte_from, entries_from, address_from, Offer, Phase}
use Rattle.mv_ledger_state.proofs.Common.{bytes_from, bundle_from, counted_from, offer_from, sized_from}
use Rattle.std.proofs.Common.{ne_eqb}
use Rattle.std.proofs.lemmas.Bool.{lt-leb}
use Rattle.mv_uleb.specs.Parsing.{spelled, with_low}
use Rattle.mv_uleb.proofs.Spelled.{spelled-further}
use Rattle.mv_ledger_state.specs.Unread.{IsUnread, refusal_by}
use Rattle.mv_ledger_state.specs.declared.unread.Unread.{Unread}
use Rattle.mv_ledger_state.specs.declared.unread.Unread.TheVariants.{Cut, Malformed, Memory}
use Rattle.mv_ledger_state.proofs.Extending.{Extends, number-extends, number-kept, extends-bind, extends-shown, bytes-extends}

-- what isn't read isn't there
pub unread-none : {A : Type 0} (from : List ℕ → Option A) (bytes : List ℕ) (e : Unread) → IsUnread from bytes e → refusal_by e ≡ Phase 2 → from bytes ≡ None
unread-none from bytes Cut none is = none
unread-none from bytes Malformed none is = ap from (sym (append-nil bytes)) ∙ none []
unread-none from bytes Memory none is = absurd cc

-- ---- something, and then something else

-- the first isn't read
pub unread-first : {A B : Type 0} (from : List ℕ → Option A) (next : A → Option B) (bytes : List ℕ) (e : Unread) → IsUnread from bytes e → IsUnread (λ z. from z >>= next) bytes e
unread-first from next bytes Cut none = ap (λ o. o >>= next) none
unread-first from next bytes Malformed none = λ more. ap (λ o. o >>= next) (none more)
unread-first from next bytes Memory none = tt

-- the second isn't
pub unread-next : {A B : Type 0} (from : List ℕ → Read A) (next : A × List ℕ → Option B) (bytes rest : List ℕ) (x : A) (e : Unread) → Extends from → from bytes ≡ Some (x, rest)
    → IsUnread (λ z. next (x, z)) rest e → IsUnread (λ z. from z >>= next) bytes e
unread-next from next bytes rest x Cut extends is none = ap (λ o. o >>= next) is ∙ none
unread-next from next bytes rest x Malformed extends is none = λ more. ap (λ o. o >>= next) (extends bytes rest more x is) ∙ none more
unread-next from next bytes rest x Memory extends is none = tt

-- ---- one after another

-- where what is left isn't read, whatever follows, all isn't
pub record Onward {A B : Type 0} (all : List ℕ → Option A) (start : List ℕ) (left : List ℕ → Option B) (cur : List ℕ) : Type 0 where
  pub goes : (more : List ℕ) → left (cur ++ more) ≡ None → all (start ++ more) ≡ None

-- nothing is read yet
pub onward-start : {A : Type 0} (all : List ℕ → Option A) (start : List ℕ) → Onward all start all start
onward-start all start = record { goes = λ more none. none }

-- what is left isn't read
pub onward-unread : {A B : Type 0} (all : List ℕ → Option A) (start : List ℕ) (left : List ℕ → Option B) (cur : List ℕ) (e : Unread) → Onward all start left cur → IsUnread left cur e → IsUnread all start e
onward-unread all start left cur Cut on none = ap all (sym (append-nil start)) ∙ on.goes [] (ap left (append-nil cur) ∙ none)
onward-unread all start left cur Malformed on none = λ more. on.goes more (none more)
onward-unread all start left cur Memory on none = tt

-- one more is read of what is left
pub onward-next : {A B C : Type 0} (all : List ℕ → Option A) (start : List ℕ) (left : List ℕ → Option B) (cur : List ℕ) (less : List ℕ → Option C) (next : List ℕ)
    → ((more : List ℕ) → less (next ++ more) ≡ None → left (cur ++ more) ≡ None) → Onward all start left cur → Onward all start less next
onward-next all start left cur less next step on = record { goes = λ more none. on.goes more (step more none) }

-- ---- so many entries

entries-at : {A : Type 0} (each : List ℕ → Read A) (k n : ℕ) (bytes rest : List ℕ) (x : A) → k ≡ suc n → each bytes ≡ Some (x, rest)
    → entries_from each k bytes ≡ (entries_from each n rest >>= λ xs. Some (x ∷ xs.0, xs.1))
entries-at each k n bytes rest x is e = ap (λ z. entries_from each z bytes) is ∙ ap (λ o. o >>= λ x. entries_from each n x.1 >>= λ xs. Some (x.0 ∷ xs.0, xs.1)) e

pub entries-onward : {A B : Type 0} (all : List ℕ → Option B) (start : List ℕ) (each : List ℕ → Read A) (n i : ℕ) (cur next : List ℕ) (x : A) → Extends each → i < n → each cur ≡ Some (x, next)
    → Onward all start (entries_from each (n - i)) cur → Onward all start (entries_from each (n - (i + 1))) next
entries-onward all start each n i cur next x extends lt is =
    let k : n - i ≡ suc (n - (i + 1)) = omega arith in
    onward-next all start (entries_from each (n - i)) cur (entries_from each (n - (i + 1))) next (λ more none.
    entries-at each (n - i) (n - (i + 1)) (cur ++ more) (next ++ more) x k (extends cur next more x is) ∙ ap (λ o. o >>= λ xs. Some (x ∷ xs.0, xs.1)) none)

pub entries-unread : {A : Type 0} (each : List ℕ → Read A) (n i : ℕ) (cur : List ℕ) (e : Unread) → i < n → IsUnread each cur e → IsUnread (entries_from each (n - i)) cur e
entries-unread each n i cur e lt none =
    let k : n - i ≡ suc (n - (i + 1)) = omega arith in
    subst (λ z. IsUnread (entries_from each z) cur e) (sym k) (unread-first each (λ x. entries_from each (n - (i + 1)) x.1 >>= λ xs. Some (x.0 ∷ xs.0, xs.1)) cur e none)

-- ---- a number, byte by byte

-- the number after a further byte, up to a greatest one
behind : ℕ → ℕ → Option (ℕ × List ℕ) → Option (ℕ × List ℕ)
behind most b high = option_and_then (λ r. then_some (nat_le r.0 most) r) (option_and_then (with_low b) high)

number-behind : (most b : ℕ) (bs : List ℕ) → 128 ≤ b → number_from most (b ∷ bs) ≡ behind most b (spelled bs)
unfolding behind
number-behind most b bs ge = ap (option_and_then (λ r. then_some (nat_le r.0 most) r)) (spelled-further b bs ge)

-- a further byte before 0
pub number-behind-zero : (most b high : ℕ) (bs rest : List ℕ) → 128 ≤ b → high ≡ 0 → number_from (most / 128) bs ≡ Some (high, rest) → number_from most (b ∷ bs) ≡ None
unfolding behind
number-behind-zero most b high bs rest ge z is =
    let p = number-kept (most / 128) high rest (spelled bs) is in
    number-behind most b bs ge ∙ ap (behind most b) p.0 ∙ by high z
  where
    by : (high : ℕ) → high ≡ 0 → behind most b (Some (high, rest)) ≡ None
    by high z = rw (eq-eqb high 0 z) refl

pub number-behind-above : (most b high : ℕ) (bs rest : List ℕ) → 128 ≤ b → 0 < high → most < b - 128 + 128 * high → number_from (most / 128) bs ≡ Some (high, rest)
    → number_from most (b ∷ bs) ≡ None
unfolding behind
number-behind-above most b high bs rest ge pos above is =
    let p = number-kept (most / 128) high rest (spelled bs) is in
    number-behind most b bs ge ∙ ap (behind most b) p.0 ∙ by (λ z. omega arith)
  where
    by : (high ≡ 0 → ⊥) → behind most b (Some (high, rest)) ≡ None
    by ne = rw (ne_eqb high 0 ne, lt-leb (b - 128 + 128 * high) most above) refl

-- ---- the same of bytes whose first was read

byte-parts : (bytes rest : List ℕ) (b : ℕ) → byte_from bytes ≡ Some (b, rest) → bytes ≡ b ∷ rest
byte-parts [] rest b is = absurd (none-some (b, rest) is)
byte-parts (c ∷ bytes) rest b is = let p = some_pair_parts c b bytes rest is in ap (λ z. z ∷ bytes) p.0 ∙ ap (λ z. b ∷ z) p.1

module _ (most low high b : ℕ) (bytes bs rest : List ℕ) (first : byte_from bytes ≡ Some (b, bs)) (same : low ≡ b) (further : 128 ≤ low) (behind : number_from (most / 128) bs ≡ Some (high, rest)) where
  first-is : (more : List ℕ) → bytes ++ more ≡ low ∷ bs ++ more
  first-is more = ap (λ z. z ++ more) (byte-parts bytes bs b first) ∙ ap (λ z. z ∷ bs ++ more) (sym same)

  pub zero-stays : high ≡ 0 → (more : List ℕ) → number_from most (bytes ++ more) ≡ None
  zero-stays zero more =
      ap (number_from most) (first-is more)
      ∙ number-behind-zero most low high (bs ++ more) (rest ++ more) further zero (number-extends (most / 128) bs rest more high behind)

  pub above-stays : 0 < high → most < low - 128 + 128 * high → (more : List ℕ) → number_from most (bytes ++ more) ≡ None
  above-stays some above more =
      ap (number_from most) (first-is more)
      ∙ number-behind-above most low high (bs ++ more) (rest ++ more) further some above (number-extends (most / 128) bs rest more high behind)

-- ---- modules with their certificates

sized-extends : (most : ℕ) → Extends (sized_from most)
sized-extends most = extends-bind (number_from most) (λ n. bytes_from n.0 n.1) (number-extends most) bytes-extends

abbrev certified : List ℕ → List ℕ → Read Offer
certified text bytes = sized_from 1048576 bytes >>= λ certificate. Some (record { text = text; certificate = certificate.0 }, certificate.1)

pub offer-extends : Extends offer_from
offer-extends =
    extends-bind (sized_from 65536) (λ text. certified text.0 text.1) (sized-extends 65536)
    (λ text. extends-shown (sized_from 1048576) (λ certificate. record { text = text; certificate = certificate }) (sized-extends 1048576))

-- the certificate isn't read
pub certificate-unread : (bytes rest text : List ℕ) (e : Unread) → sized_from 65536 bytes ≡ Some (text, rest) → IsUnread (sized_from 1048576) rest e → IsUnread offer_from bytes e
certificate-unread bytes rest text e is none =
    unread-next (sized_from 65536) (λ text. certified text.0 text.1) bytes rest text e (sized-extends 65536) is
    (unread-first (sized_from 1048576) (λ certificate. Some (record { text = text; certificate = certificate.0 }, certificate.1)) rest e none)

-- so many entries aren't, after their number
pub counted-unread : {A : Type 0} (each : List ℕ → Read A) (most n : ℕ) (bytes rest : List ℕ) (e : Unread) → number_from most bytes ≡ Some (n, rest) → IsUnread (entries_from each n) rest e
    → IsUnread (counted_from most each) bytes e
counted-unread each most n bytes rest e is none = unread-next (number_from most) (λ n. entries_from each n.0 n.1) bytes rest n e (number-extends most) is none

-- a bundle whose modules aren't there
pub bundle-none : (sender : ℕ) (bytes rest : List ℕ) → address_from bytes ≡ Some (sender, rest) → counted_from 16 offer_from rest ≡ None → bundle_from bytes ≡ None
bundle-none sender bytes rest is none =
    ap (λ o. o >>= λ s. (counted_from 16 offer_from s.1 >>= λ os. then_some (nat_le 1 (length os.0)) os) >>= λ os. Some ((s.0, os.0), os.1)) is
    ∙ ap (λ o. (o >>= λ os. then_some (nat_le 1 (length os.0)) os) >>= λ os. Some ((sender, os.0), os.1)) none
