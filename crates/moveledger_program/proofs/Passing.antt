-- From one place among records to the next.
use Rattle.std.proofs.Common.{◌≡◌, ◌≢◌, ℕ, ◌+◌, ◌-◌, ◌≤◌, ◌<◌, List, [], ◌∷◌, ◌++◌, length, take, drop, set, get_or, arith, refl, sym, ap, ◌∙◌, subst, inl, inr, ◌⊎◌}
use Rattle.std.proofs.Common.{None, append_assoc, append-nil, length-append, length-drop, length-take-le, take_all, nat_eq, ne_eqb}
use Rattle.std.proofs.Math.Seq.{take-add}
use Rattle.std.proofs.lemmas.Bool.{cases_eq}
use Rattle.std.proofs.lemmas.List.{take_more_set, length-set}
use Rattle.mv_uleb.specs.Uleb.{IsUleb, AreHigh}
use Rattle.mv_uleb.specs.Parsing.{number_from}
use Rattle.mv_move_types.specs.Limits.{most_payload_bytes}
use Rattle.moveledger.specs.Reading.{LengthFails, has_no_end, at_length}
use Rattle.moveledger.specs.Records.{Record, Whole, IsText, Begins, AreRecords, NoWhole}
use Rattle.moveledger.proofs.Lengths.{AreHigh-push, IsUleb-whole, NoLength-high, none_from}
use Rattle.moveledger.proofs.Unfinished.{NoWhole-cut, length-fails}
use Rattle.moveledger.proofs.Whole.{IsText-from, NoWhole-length, NoWhole-payload}
use Rattle.moveledger_program.specs.Following.{EndsCut, EndsWhole, IsBehind, Lacks, Leads, SaysWhole, StandsAt}
use Rattle.moveledger_program.specs.declared.following.LengthBytes.{LengthBytes}
use Rattle.moveledger_program.specs.declared.following.ParseState.{ParseState}
use Rattle.moveledger_program.specs.declared.following.ParseState.TheVariants as state

AreRecords-push : (rs : List Record) (xs rest more : List ℕ) (r : Record) → AreRecords xs rs rest → Begins rest r more → AreRecords xs (rs ++ r ∷ []) more
AreRecords-push [] xs rest more r e b = (more, subst (λ z. Begins z r more) (sym e) b, refl)
AreRecords-push (r1 ∷ rs) xs rest more r h b = (h.0, h.1, AreRecords-push rs h.0 rest more r h.2 b)

-- one more whole record
whole-more : (whole text payload : List ℕ) (kind : ℕ) → EndsWhole whole → IsText text kind payload → EndsWhole (whole ++ text)
whole-more whole text payload kind w is =
    let r : Record = Whole kind payload in
    let read : (more : List ℕ) → AreRecords ((whole ++ text) ++ more) (w.0 ++ r ∷ []) more =
    λ more. subst (λ z. AreRecords z (w.0 ++ r ∷ []) more) (sym (append_assoc whole text more))
    (AreRecords-push w.0 (whole ++ (text ++ more)) (text ++ more) more r (w.1 (text ++ more)) (text, is, refl)) in
    (w.0 ++ r ∷ [], read)

-- these bytes more
more-bytes : (given whole part bytes : List ℕ) → given ≡ whole ++ part → given ++ bytes ≡ whole ++ (part ++ bytes)
more-bytes given whole part bytes e = ap (λ z. z ++ bytes) e ∙ append_assoc whole part bytes

-- where none are missing there is no part
nothing-behind : (part : List ℕ) → IsBehind (state.Record 0) part → part ≡ []
nothing-behind part (inl h) = h.1
nothing-behind part (inr lacks) = absurd (omega (arith, lacks.some))

lacking : (missing : ℕ) (part : List ℕ) → 0 < missing → IsBehind (state.Record missing) part → Lacks missing part
lacking missing part some (inl h) = absurd (omega (arith, some, h.0))
lacking missing part some (inr lacks) = lacks

-- a kind
leads-kind : (new : LengthBytes) (kind : ℕ) → length new.bytes ≡ 10 → new.count ≡ 0 → Leads (state.Record 0) (kind ∷ []) (state.Length new)
leads-kind new kind ten none given h =
    let nil : h.1 ≡ [] = nothing-behind h.1 h.4 in
    let all : given ++ kind ∷ [] ≡ h.0 ++ kind ∷ [] = more-bytes given h.0 h.1 (kind ∷ []) h.3 ∙ ap (λ z. h.0 ++ (z ++ kind ∷ [])) nil in
    let high : AreHigh (take new.count new.bytes) = subst (λ n. AreHigh (take n new.bytes)) (sym none) tt in
    let text : kind ∷ [] ≡ kind ∷ take new.count new.bytes = ap (λ n. kind ∷ take n new.bytes) (sym none) in
    (h.0, kind ∷ [], h.2, all, (kind, ten, omega (arith, none), high, text))

-- a part of a payload
part-more : (missing : ℕ) (part bytes : List ℕ) (lacks : Lacks missing part) → part ++ bytes ≡ lacks.kind ∷ (lacks.len ++ (lacks.took ++ bytes))
part-more missing part bytes lacks = ap (λ z. z ++ bytes) lacks.text ∙ ap (λ z. lacks.kind ∷ z) (append_assoc lacks.len lacks.took bytes)

part-whole : (missing : ℕ) (part bytes : List ℕ) (lacks : Lacks missing part) → length bytes ≡ missing → IsText (part ++ bytes) lacks.kind (lacks.took ++ bytes)
part-whole missing part bytes lacks all =
    let size : length (lacks.took ++ bytes) ≡ lacks.size = omega (arith, length-append lacks.took bytes, lacks.counted, all) in
    subst (λ z. IsText z lacks.kind (lacks.took ++ bytes)) (sym (part-more missing part bytes lacks))
    (IsText-from lacks.kind lacks.size lacks.len (lacks.took ++ bytes) (lacks.took ++ bytes) lacks.spelled lacks.small refl size)

part-lacks : (missing left : ℕ) (part bytes : List ℕ) → Lacks missing part → length bytes + left ≡ missing → 0 < left → Lacks left (part ++ bytes)
part-lacks missing left part bytes lacks count some = record {
  kind = lacks.kind;
  size = lacks.size;
  len = lacks.len;
  took = lacks.took ++ bytes;
  spelled = lacks.spelled;
  small = lacks.small;
  counted = omega (arith, length-append lacks.took bytes, lacks.counted, count);
  some = some;
  text = part-more missing part bytes lacks;
}

leads-payload : (missing left : ℕ) (bytes : List ℕ) → 0 < missing → length bytes + left ≡ missing → Leads (state.Record missing) bytes (state.Record left)
leads-payload missing left bytes some count given h =
    let lacks : Lacks missing h.1 = lacking missing h.1 some h.4 in
    let all = more-bytes given h.0 h.1 bytes h.3 in
    elim (cases_eq left 0) [
      | inl none ↦
          let is = part-whole missing h.1 bytes lacks (omega (arith, count, none)) in
          (h.0 ++ (h.1 ++ bytes), [], whole-more h.0 (h.1 ++ bytes) (lacks.took ++ bytes) lacks.kind h.2 is, all ∙ sym (append-nil (h.0 ++ (h.1 ++ bytes))), inl (none, refl))
      | inr more ↦ (h.0, h.1 ++ bytes, h.2, all, inr (part-lacks missing left h.1 bytes lacks count (omega (arith, more))))
    ]

-- one more byte of a length
module _ (old : LengthBytes) (byte : ℕ) where
  one-more : length old.bytes ≡ 10 → old.count < 10 → take (old.count + 1) (set old.bytes old.count byte) ≡ take old.count old.bytes ++ byte ∷ []
  one-more ten room =
      let within : old.count < length old.bytes = omega (arith, ten, room) in
      take_more_set old.bytes old.count byte within

  text-more : (part : List ℕ) (kind : ℕ) → part ≡ kind ∷ take old.count old.bytes → part ++ byte ∷ [] ≡ kind ∷ (take old.count old.bytes ++ byte ∷ [])
  text-more part kind e = ap (λ z. z ++ byte ∷ []) e

  pub leads-high : (new : LengthBytes) → old.count < 10 → new.count ≡ old.count + 1 → new.bytes ≡ set old.bytes old.count byte → 128 ≤ byte
      → Leads (state.Length old) (byte ∷ []) (state.Length new)
  leads-high new room count bytes ge given h =
      let b = h.4 in
      let taken : take new.count new.bytes ≡ take old.count old.bytes ++ byte ∷ [] =
      ap (λ n. take n new.bytes) count ∙ ap (take (old.count + 1)) bytes ∙ one-more b.1 room in
      let ten : length new.bytes ≡ 10 = ap length bytes ∙ length-set old.bytes old.count byte ∙ b.1 in
      let high : AreHigh (take new.count new.bytes) = subst AreHigh (sym taken) (AreHigh-push (take old.count old.bytes) byte b.3 ge) in
      let text : h.1 ++ byte ∷ [] ≡ b.0 ∷ take new.count new.bytes = text-more h.1 b.0 b.4 ∙ ap (λ z. b.0 ∷ z) (sym taken) in
      (h.0, h.1 ++ byte ∷ [], h.2, more-bytes given h.0 h.1 (byte ∷ []) h.3, (b.0, ten, omega (arith, count, room), high, text))

  -- it is the last, and the length is known
  pub leads-found : (size used : ℕ) → old.count < 10 → byte < 128 → IsUleb (take used (take (old.count + 1) (set old.bytes old.count byte))) size
      → size ≤ most_payload_bytes → Leads (state.Length old) (byte ∷ []) (state.Record size)
  leads-found size used room lt u small given h =
      let b = h.4 in
      let len : List ℕ = take old.count old.bytes ++ byte ∷ [] in
      let u2 : IsUleb (take used len) size = subst (λ z. IsUleb (take used z) size) (one-more b.1 room) u in
      let spelled : IsUleb len size = IsUleb-whole (take old.count old.bytes) byte size used b.3 lt u2 in
      let text : h.1 ++ byte ∷ [] ≡ b.0 ∷ (len ++ []) = text-more h.1 b.0 b.4 ∙ ap (λ z. b.0 ∷ z) (sym (append-nil len)) in
      let all = more-bytes given h.0 h.1 (byte ∷ []) h.3 in
      elim (cases_eq size 0) [
        | inl none ↦
            let is : IsText (h.1 ++ byte ∷ []) b.0 [] = subst (λ z. IsText z b.0 []) (sym text) (IsText-from b.0 size len [] [] spelled small refl (sym none)) in
            (h.0 ++ (h.1 ++ byte ∷ []), [], whole-more h.0 (h.1 ++ byte ∷ []) [] b.0 h.2 is, all ∙ sym (append-nil (h.0 ++ (h.1 ++ byte ∷ []))), inl (none, refl))
        | inr some ↦
            let lacks : Lacks size (h.1 ++ byte ∷ []) = record {
              kind = b.0;
              size = size;
              len = len;
              took = [];
              spelled = spelled;
              small = small;
              counted = omega arith;
              some = omega (arith, some);
              text = text;
            } in
            (h.0, h.1 ++ byte ∷ [], h.2, all, inr lacks)
      ]

  -- it is the last, and there is no length
  pub leads-refused : old.count < 10 → byte < 128 → number_from most_payload_bytes (take (old.count + 1) (set old.bytes old.count byte)) ≡ None
      → Leads (state.Length old) (byte ∷ []) state.NoLength
  leads-refused room lt refused given h =
      let b = h.4 in
      let none : number_from most_payload_bytes (take old.count old.bytes ++ byte ∷ []) ≡ None =
      subst (λ z. number_from most_payload_bytes z ≡ None) (one-more b.1 room) refused in
      let size : length (take old.count old.bytes) ≡ old.count = length-take-le old.count old.bytes (omega (arith, b.1, room)) in
      let len : List ℕ = take old.count old.bytes ++ byte ∷ [] in
      let fails : LengthFails len = length-fails (take old.count old.bytes) byte (b.3, omega (arith, size, room)) lt (none_from most_payload_bytes len none) in
      let text : h.1 ++ byte ∷ [] ≡ b.0 ∷ (len ++ []) = text-more h.1 b.0 b.4 ∙ ap (λ z. b.0 ∷ z) (sym (append-nil len)) in
      (h.0, h.1 ++ byte ∷ [], h.2, more-bytes given h.0 h.1 (byte ∷ []) h.3, (b.0, len, [], fails, text))

  -- there were ten before it
  pub leads-beyond : 10 ≤ old.count → Leads (state.Length old) (byte ∷ []) state.NoLength
  leads-beyond many given h =
      let b = h.4 in
      let size : length (take old.count old.bytes) ≡ old.count = length-take-le old.count old.bytes (omega (arith, b.1, b.2)) in
      let fails : LengthFails (take old.count old.bytes) = has_no_end (take old.count old.bytes) b.3 (omega (arith, size, b.2, many)) in
      (h.0, h.1 ++ byte ∷ [], h.2, more-bytes given h.0 h.1 (byte ∷ []) h.3, (b.0, take old.count old.bytes, byte ∷ [], fails, text-more h.1 b.0 b.4))

-- where there is no length
leads-nowhere : (bytes : List ℕ) → Leads state.NoLength bytes state.NoLength
leads-nowhere bytes given h =
    let b = h.4 in
    let text : h.1 ++ bytes ≡ b.0 ∷ (b.1 ++ (b.2 ++ bytes)) = ap (λ z. z ++ bytes) b.4 ∙ ap (λ z. b.0 ∷ z) (append_assoc b.1 b.2 bytes) in
    (h.0, h.1 ++ bytes, h.2, more-bytes given h.0 h.1 bytes h.3, (b.0, b.1, b.2 ++ bytes, b.3, text))

-- by some bytes, and then by more
leads-on : (a b c : ParseState) (xs ys : List ℕ) → Leads a xs b → Leads b ys c → Leads a (xs ++ ys) c
leads-on a b c xs ys p q given h = subst (StandsAt c) (append_assoc given xs ys) (q (given ++ xs) (p given h))

-- the first of some bytes
first-byte : (bytes : List ℕ) → 0 < length bytes → take 1 bytes ≡ get_or bytes 0 0 ∷ []
first-byte [] some = absurd (omega (arith, some))
first-byte (b ∷ bytes) some = refl

by-first : (old new : ParseState) (bytes : List ℕ) → 0 < length bytes → Leads old (get_or bytes 0 0 ∷ []) new → Leads old (take 1 bytes) new
by-first old new bytes some leads = subst (λ z. Leads old z new) (sym (first-byte bytes some)) leads

-- a kind, and a length of one byte
leads-short : (begun : LengthBytes) (kind byte : ℕ) → length begun.bytes ≡ 10 → begun.count ≡ 0 → byte < 128
    → Leads (state.Record 0) (kind ∷ byte ∷ []) (state.Record byte)
leads-short begun kind byte ten none lt =
    let room : begun.count < 10 = omega (arith, none) in
    let within : 0 < length begun.bytes = omega (arith, ten) in
    let one : take 1 (set begun.bytes 0 byte) ≡ byte ∷ [] = take_more_set begun.bytes 0 byte within in
    let here : take 1 (take (begun.count + 1) (set begun.bytes begun.count byte)) ≡ byte ∷ [] =
    ap (λ n. take 1 (take (n + 1) (set begun.bytes n byte))) none ∙ ap (take 1) one in
    let spelled : IsUleb (take 1 (take (begun.count + 1) (set begun.bytes begun.count byte))) byte = subst (λ z. IsUleb z byte) (sym here) (lt, refl) in
    leads-on (state.Record 0) (state.Length begun) (state.Record byte) (kind ∷ []) (byte ∷ []) (leads-kind begun kind ten none)
    (leads-found begun byte byte 1 room lt spelled (omega (arith, lt)))

-- where an old place is known to be one of the three
from : (old same new : ParseState) (bytes : List ℕ) → old ≡ same → Leads same bytes new → Leads old bytes new
from old same new bytes is leads = subst (λ s. Leads s bytes new) (sym is) leads

pub from-between : (old : ParseState) (new : LengthBytes) (bytes : List ℕ) → old ≡ state.Record 0 → length new.bytes ≡ 10 → new.count ≡ 0 → 0 < length bytes
    → Leads old (take 1 bytes) (state.Length new)
from-between old new bytes is ten none some =
    from old (state.Record 0) (state.Length new) (take 1 bytes) is
    (by-first (state.Record 0) (state.Length new) bytes some (leads-kind new (get_or bytes 0 0) ten none))

-- no byte of a length
abbrev no-length : LengthBytes
no-length = record { bytes = 0 ∷ 0 ∷ 0 ∷ 0 ∷ 0 ∷ 0 ∷ 0 ∷ 0 ∷ 0 ∷ 0 ∷ []; count = 0 }

pub from-short : (old : ParseState) (bytes : List ℕ) (size : ℕ) → old ≡ state.Record 0 → 2 ≤ length bytes → get_or bytes 1 0 < 128 → size ≡ get_or bytes 1 0
    → Leads old (take 2 bytes) (state.Record size)
from-short old [] size is some lt at = absurd (omega (arith, some))
from-short old (kind ∷ []) size is some lt at = absurd (omega (arith, some))
from-short old (kind ∷ byte ∷ bytes) size is some lt at =
    subst (λ n. Leads old (kind ∷ byte ∷ []) (state.Record n)) (sym at)
    (from old (state.Record 0) (state.Record byte) (kind ∷ byte ∷ []) is (leads-short no-length kind byte refl refl lt))

pub from-payload : (old : ParseState) (missing count : ℕ) (bytes : List ℕ) → old ≡ state.Record missing → 0 < missing → count ≤ missing → count ≤ length bytes
    → Leads old (take count bytes) (state.Record (missing - count))
from-payload old missing count bytes is some few within =
    let size : length (take count bytes) ≡ count = length-take-le count bytes within in
    from old (state.Record missing) (state.Record (missing - count)) (take count bytes) is
    (leads-payload missing (missing - count) (take count bytes) some (omega (arith, size, few)))

pub from-length : (old new : ParseState) (begun : LengthBytes) (bytes : List ℕ) → old ≡ state.Length begun → 0 < length bytes
    → Leads (state.Length begun) (get_or bytes 0 0 ∷ []) new → Leads old (take 1 bytes) new
from-length old new begun bytes is some leads = from old (state.Length begun) new (take 1 bytes) is (by-first (state.Length begun) new bytes some leads)

pub from-nowhere : (old : ParseState) (bytes : List ℕ) → old ≡ state.NoLength → Leads old bytes state.NoLength
from-nowhere old bytes is = from old state.NoLength state.NoLength bytes is (leads-nowhere bytes)

-- by the first bytes of some, and then by further ones
pub leads-further : (a b c : ParseState) (bytes : List ℕ) (passed count : ℕ) → Leads a (take passed bytes) b
    → Leads b (take count (take (length bytes - passed) (drop passed bytes))) c → Leads a (take (passed + count) bytes) c
leads-further a b c bytes passed count p q =
    let rest : take (length bytes - passed) (drop passed bytes) ≡ drop passed bytes = take_all (length bytes - passed) (drop passed bytes) (omega (arith, length-drop passed bytes)) in
    let q2 : Leads b (take count (drop passed bytes)) c = subst (λ z. Leads b (take count z) c) rest q in
    subst (λ z. Leads a z c) (sym (take-add passed count bytes)) (leads-on a b c (take passed bytes) (take count (drop passed bytes)) p q2)

pub leads-all : (a b : ParseState) (bytes : List ℕ) (passed : ℕ) → length bytes ≤ passed → Leads a (take passed bytes) b → Leads a bytes b
leads-all a b bytes passed end leads = subst (λ z. Leads a z b) (take_all passed bytes end) leads

-- what was read is whole records where none are missing
is-whole : (given : List ℕ) → StandsAt (state.Record 0) given → EndsWhole given
is-whole given h =
    let nil : h.1 ≡ [] = nothing-behind h.1 h.4 in
    subst EndsWhole (sym (h.3 ∙ ap (λ z. h.0 ++ z) nil ∙ append-nil h.0)) h.2

-- otherwise it ends in a cut one
cut-by : (given whole part more : List ℕ) (kind : ℕ) → EndsWhole whole → given ≡ whole ++ part → part ≡ kind ∷ more → NoWhole (kind ∷ more) → EndsCut given
cut-by given whole part more kind w e text none =
    let some : part ≢ [] = λ bad. cc in
    (whole, part, w, e, some, subst NoWhole (sym text) none)

is-cut-in-payload : (given : List ℕ) (missing : ℕ) → 0 < missing → StandsAt (state.Record missing) given → EndsCut given
is-cut-in-payload given missing some h =
    let lacks : Lacks missing h.1 = lacking missing h.1 some h.4 in
    let less : length lacks.took < lacks.size = omega (arith, lacks.counted, some) in
    cut-by given h.0 h.1 (lacks.len ++ lacks.took) lacks.kind h.2 h.3 lacks.text (NoWhole-payload lacks.kind lacks.size lacks.len lacks.took lacks.spelled less)

is-cut-in-length : (given : List ℕ) (begun : LengthBytes) → StandsAt (state.Length begun) given → EndsCut given
is-cut-in-length given begun h =
    let b = h.4 in
    cut-by given h.0 h.1 (take begun.count begun.bytes) b.0 h.2 h.3 b.4 (NoWhole-length b.0 (take begun.count begun.bytes) (NoLength-high (take begun.count begun.bytes) b.3))

is-cut-behind : (given : List ℕ) → StandsAt state.NoLength given → EndsCut given
is-cut-behind given h =
    let b = h.4 in
    cut-by given h.0 h.1 (b.1 ++ b.2) b.0 h.2 h.3 b.4 (NoWhole-cut (b.0 ∷ b.1) b.2 (at_length b.0 b.1 b.2 b.3))

pub tells-record : (old : ParseState) (missing : ℕ) (given : List ℕ) → old ≡ state.Record missing → StandsAt old given → SaysWhole given (nat_eq missing 0)
tells-record old missing given is at =
    let h : StandsAt (state.Record missing) given = subst (λ s. StandsAt s given) is at in
    elim (cases_eq missing 0) [
      | inl none ↦ subst (λ m. StandsAt (state.Record m) given → SaysWhole given (nat_eq m 0)) (sym none) (is-whole given) h
      | inr some ↦ subst (SaysWhole given) (sym (ne_eqb missing 0 some)) (is-cut-in-payload given missing (omega (arith, some)) h)
    ]

pub tells-cut : (old : ParseState) (given : List ℕ) → ((begun : LengthBytes) × (old ≡ state.Length begun)) ⊎ (old ≡ state.NoLength) → StandsAt old given → EndsCut given
tells-cut old given (inl is) at = is-cut-in-length given is.0 (subst (λ s. StandsAt s given) is.1 at)
tells-cut old given (inr is) at = is-cut-behind given (subst (λ s. StandsAt s given) is at)
