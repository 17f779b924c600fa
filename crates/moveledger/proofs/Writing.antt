-- Lines that are written piece by piece.
use Rattle.std.proofs.Common.{◌≡◌, ◌⊎◌, ◌<◌, ℕ, List, [], ◌∷◌, ◌++◌, length, drop, refl, sym, ap, ◌∙◌, subst, append_assoc, Bool, true, false, codes, decimal, Option, flat_map}
use Rattle.std.proofs.Common.{arith, length-append, length-drop, inl, inr}
use Rattle.std.specs.Prelude.{not}
use Rattle.std.specs.Io.KnownBytes.{Appends}
use Rattle.std.proofs.KnownBytes.{Appends-nil, Appends-trans, starts_with_rest}
use Rattle.std.proofs.lemmas.List.{flat_map_more}
use Rattle.mv_machine.specs.Lines.{numbered}
use Rattle.mv_lines.specs.LinesView.{ended}
use Rattle.mv_lines.specs.Pieces.{TakesPiece, piece_text}
use Rattle.mv_machine.specs.Ledger.{Format, AsText, AsJson}
use Rattle.moveledger.specs.Answered.{FailsLines, WritesPart, WritesSome, WritesWholeLines, number_at}
use Rattle.moveledger.specs.Writing.{BreaksOff}
use Rattle.moveledger.specs.declared.streaming.EngineError.{EngineError}
use Rattle.moveledger.specs.declared.streaming.EngineError.TheVariants.{Write, Memory}
use Rattle.std.proofs.Transfers.{starts_with_of_append}

-- what is to be written of lines, of which the first may be begun
abbrev pub text_left : ℕ → Bool → List (List ℕ) → List ℕ
text_left n true [] = []
text_left n true (line ∷ lines) = (line ++ 10 ∷ []) ++ flat_map (numbered n) lines
text_left n false lines = flat_map (numbered n) lines

-- a piece, and what stands before and behind it
abbrev pub written_piece : ℕ → Bool → Bool → List ℕ → List ℕ
written_piece n begun last piece = number_at n begun ++ piece_text last piece

-- a piece is the front of it
left-last : (n : ℕ) (begun : Bool) (piece : List ℕ) (lines : List (List ℕ)) → text_left n begun (piece ∷ lines) ≡ written_piece n begun true piece ++ text_left n false lines
left-last n true piece lines = refl
left-last n false piece lines = ap (λ (l : List ℕ). l ++ flat_map (numbered n) lines) (append_assoc (decimal n ++ codes " ") piece (10 ∷ []))

left-open : (n : ℕ) (begun : Bool) (piece rest : List ℕ) (lines : List (List ℕ))
    → text_left n begun ((piece ++ rest) ∷ lines) ≡ written_piece n begun false piece ++ text_left n true (rest ∷ lines)
left-open n true piece rest lines = simp append_assoc
left-open n false piece rest lines = simp append_assoc

pub left-piece : (n : ℕ) (begun last : Bool) (piece : List ℕ) (old new : List (List ℕ)) → TakesPiece last piece old new
    → text_left n begun old ≡ written_piece n begun last piece ++ text_left n (not last) new
left-piece n begun true piece old new takes = ap (text_left n begun) takes ∙ left-last n begun piece new
left-piece n begun false piece old new takes =
    ap (text_left n begun) takes.3 ∙ left-open n begun piece takes.0 takes.1 ∙ sym (ap (λ ls. written_piece n begun false piece ++ text_left n true ls) takes.4)

-- fewer bytes are left behind a piece

ended-piece : (last : Bool) (piece : List ℕ) (old new : List (List ℕ)) → TakesPiece last piece old new → ended old ≡ piece_text last piece ++ ended new
ended-piece true piece old new takes = ap ended takes
ended-piece false piece old new takes =
    let rest : List ℕ = takes.0 in
    let lines : List (List ℕ) = takes.1 in
    ap ended takes.3
    ∙ ap (λ (l : List ℕ). l ++ ended lines) (append_assoc piece rest (10 ∷ []))
    ∙ append_assoc piece (rest ++ 10 ∷ []) (ended lines)
    ∙ sym (ap (λ ls. piece ++ ended ls) takes.4)

some-piece : (last : Bool) (piece : List ℕ) (old new : List (List ℕ)) → TakesPiece last piece old new → 0 < length (piece_text last piece)
some-piece true piece old new takes = omega (arith, length-append piece (10 ∷ []))
some-piece false piece old new takes = takes.2

pub fewer-left : (last : Bool) (piece : List ℕ) (old new : List (List ℕ)) → TakesPiece last piece old new → length (ended new) < length (ended old)
fewer-left last piece old new takes =
    omega (arith, ap length (ended-piece last piece old new takes), length-append (piece_text last piece) (ended new), some-piece last piece old new takes)

-- ---- what is written so far

-- a writer took what isn't left of all these lines
abbrev pub HasWritten : ℕ → Bool → List (List ℕ) → List (List ℕ) → Option (List ℕ) → Option (List ℕ) → Type 0
HasWritten n begun all left held holds = (done : List ℕ) × ((flat_map (numbered n) all ≡ done ++ text_left n begun left) × Appends held holds done)

pub HasWritten-start : (n : ℕ) (all : List (List ℕ)) (held : Option (List ℕ)) → HasWritten n false all all held held
HasWritten-start n all held = ([], (refl, Appends-nil held))

pub HasWritten-next : (n : ℕ) (begun last : Bool) (piece : List ℕ) (all old new : List (List ℕ)) (a b c : Option (List ℕ)) → HasWritten n begun all old a b → TakesPiece last piece old new
    → Appends b c (written_piece n begun last piece) → HasWritten n (not last) all new a c
HasWritten-next n begun last piece all old new a b c h takes w =
    let text : List ℕ = written_piece n begun last piece in
    let more : List ℕ = text_left n (not last) new in
    (h.0 ++ text, (h.1.0 ∙ ap (λ l. h.0 ++ l) (left-piece n begun last piece old new takes) ∙ sym (append_assoc h.0 text more), Appends-trans a b c h.0 text h.1.1 w))

pub HasWritten-part : (n : ℕ) (begun : Bool) (all left : List (List ℕ)) (a b : Option (List ℕ)) → HasWritten n begun all left a b → WritesPart n all a b
HasWritten-part n begun all left a b h = (h.0, starts_with_of_append (flat_map (numbered n) all) h.0 (text_left n begun left) h.1.0, h.1.1)

-- where a text begins with some bytes, and not with more, more of it is left
rest-left : (text part behind : List ℕ) → length part < length text → 0 < length (drop (length part) text ++ behind)
rest-left text part behind less = omega (arith, less, length-drop (length part) text, length-append (drop (length part) text) behind)

-- and of a text of which that is left more is than what went before
more-left : (all front rest : List ℕ) → all ≡ front ++ rest → 0 < length rest → length front < length all
more-left all front rest is some = let sized : length all ≡ length (front ++ rest) = ap length is in omega (arith, some, sized, length-append front rest)

-- writing a piece broke off, and so writing the lines did
pub HasWritten-broken : (n : ℕ) (begun last : Bool) (piece : List ℕ) (all old new : List (List ℕ)) (a b c : Option (List ℕ)) → HasWritten n begun all old a b → TakesPiece last piece old new
    → BreaksOff (written_piece n begun last piece) b c → BreaksOff (flat_map (numbered n) all) a c
HasWritten-broken n begun last piece all old new a b c h takes broken =
    let text : List ℕ = written_piece n begun last piece in
    let part : List ℕ = broken.0 in
    let more : List ℕ = drop (length part) text in
    let behind : List ℕ = text_left n (not last) new in
    let tail : text_left n begun old ≡ part ++ (more ++ behind) =
    left-piece n begun last piece old new takes ∙ ap (λ l. l ++ behind) (starts_with_rest text part broken.1) ∙ append_assoc part more behind in
    let whole : flat_map (numbered n) all ≡ (h.0 ++ part) ++ (more ++ behind) = h.1.0 ∙ ap (λ l. h.0 ++ l) tail ∙ sym (append_assoc h.0 part (more ++ behind)) in (
      h.0 ++ part,
      starts_with_of_append (flat_map (numbered n) all) (h.0 ++ part) (more ++ behind) whole,
      more-left (flat_map (numbered n) all) (h.0 ++ part) (more ++ behind) whole (rest-left text part behind broken.2),
      Appends-trans a b c h.0 part h.1.1 broken.3,
    )

-- ---- whole lines

-- a writer took the first of all these lines, whole, and the others are left
abbrev pub HasWrittenLines : ℕ → Bool → List (List ℕ) → List (List ℕ) → Option (List ℕ) → Option (List ℕ) → Type 0
HasWrittenLines n begun all left held holds = (begun ≡ false) × (first : List (List ℕ)) × (all ≡ first ++ left) × Appends held holds (flat_map (numbered n) first)

pub HasWrittenLines-start : (n : ℕ) (all : List (List ℕ)) (held : Option (List ℕ)) → HasWrittenLines n false all all held held
HasWrittenLines-start n all held = (refl, [], refl, Appends-nil held)

-- a piece that is a whole line is written
pub HasWrittenLines-next : (n : ℕ) (begun last : Bool) (piece : List ℕ) (all old new : List (List ℕ)) (a b c : Option (List ℕ)) → HasWrittenLines n begun all old a b
    → TakesPiece last piece old new → last ≡ true → Appends b c (written_piece n begun last piece) → HasWrittenLines n (not last) all new a c
HasWrittenLines-next n true last piece all old new a b c h takes whole w = cc
HasWrittenLines-next n false false piece all old new a b c h takes whole w = cc
HasWrittenLines-next n false true piece all old new a b c h takes whole w =
    let before : List ℕ = flat_map (numbered n) h.1 in
    let text : before ++ written_piece n false true piece ≡ flat_map (numbered n) (h.1 ++ piece ∷ []) =
    ap (λ l. before ++ l) (sym (append_assoc (decimal n ++ codes " ") piece (10 ∷ []))) ∙ flat_map_more (numbered n) [] h.1 piece in
    (refl, h.1 ++ piece ∷ [], h.2 ∙ ap (λ ls. h.1 ++ ls) takes ∙ sym (append_assoc h.1 (piece ∷ []) new), subst (Appends a c) text (Appends-trans a b c before (written_piece n false true piece) h.3 w))

-- memory ran out between two lines
pub HasWrittenLines-whole : (n : ℕ) (begun : Bool) (all left : List (List ℕ)) (a b c : Option (List ℕ)) → HasWrittenLines n begun all left a b → c ≡ b → WritesWholeLines n all a c
HasWrittenLines-whole n begun all left a b c h same =
    subst (WritesWholeLines n all a) (sym same) (flat_map (numbered n) h.1, (h.1, left, h.2, refl), h.3)

-- ---- where it ended

-- memory ran out before a piece was written
pub HasWritten-stopped : (format : Format) (n : ℕ) (begun : Bool) (all left : List (List ℕ)) (a b c : Option (List ℕ)) → HasWritten n begun all left a b
    → (format ≡ AsText → HasWrittenLines n begun all left a b) → c ≡ b → WritesSome format n all a c
HasWritten-stopped AsText n begun all left a b c h whole same = HasWrittenLines-whole n begun all left a b c (whole refl) same
HasWritten-stopped AsJson n begun all left a b c h whole same = subst (WritesPart n all a) (sym same) (HasWritten-part n begun all left a b h)

-- a piece failed in one of the two ways
pub HasWritten-failed : (format : Format) (n : ℕ) (begun last : Bool) (piece : List ℕ) (all old new : List (List ℕ)) (a b c : Option (List ℕ)) (e : EngineError) → HasWritten n begun all old a b
    → (format ≡ AsText → HasWrittenLines n begun all old a b) → TakesPiece last piece old new → (e ≡ Write) ⊎ (e ≡ Memory)
    → (e ≡ Write → BreaksOff (written_piece n begun last piece) b c) → (e ≡ Memory → c ≡ b) → FailsLines e format n all a c
HasWritten-failed format n begun last piece all old new a b c e h whole takes (inl is) write memory =
    let E : EngineError → Type 0 = λ z. FailsLines z format n all a c in
    subst E (sym is) (HasWritten-broken n begun last piece all old new a b c h takes (write is))
HasWritten-failed format n begun last piece all old new a b c e h whole takes (inr is) write memory =
    let E : EngineError → Type 0 = λ z. FailsLines z format n all a c in
    subst E (sym is) (HasWritten-stopped format n begun all old a b c h whole (memory is))
