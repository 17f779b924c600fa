-- A head is read exactly where the text of one stands.
use Rattle.mv_saved_text.proofs.Common.{[], ◌++◌, ◌∙◌, ◌∷◌, ◌≡◌, List, None, Option, Some, ap, append_assoc, arith, le-leb, leb-true, length, subst, sym, ℕ, and_from, and_parts, eqb-true, none-some}
use Rattle.mv_saved_text.proofs.Common.{some_pair_parts, list_all, nat_le, ◌>>=◌, number_from, uleb, Front, Front-join, byte-front, counted-parts, counted-whole, mark-front, number-front, number-whole}
use Rattle.mv_saved_text.proofs.Common.{on_bind, counted, AreBytes, byte_from, counted_from, mark_from, Offer, FailsLoad, HasHead, no_head, SavedHead, form_by, form_from, head_from, marks_from}
use Rattle.mv_saved_text.proofs.Common.{offer_from, offer_fits, offer_text, First, Form, HeadFits, Second, form_byte, head_text}
use Rattle.mv_ledger_state.proofs.Shapes.{offer-parts, offer-whole}

-- the three bytes at the front
abbrev three : List ℕ
three = 0x4D ∷ 0x56 ∷ 0x4C ∷ []

marks-front : (bytes rest : List ℕ) → AreBytes bytes → marks_from bytes ≡ Some rest → Front three bytes rest
marks-front bytes rest ok e =
    on_bind (mark_from 0x4D bytes) _ rest e (λ m m_is e1.
    on_bind (mark_from 0x56 m) _ rest e1 (λ v v_is e2.
    let a = mark-front 0x4D bytes m ok m_is in
    let b = mark-front 0x56 m v a.left v_is in
    let c = mark-front 0x4C v rest b.left e2 in
    Front-join (0x4D ∷ 0x56 ∷ []) (0x4C ∷ []) bytes v rest (Front-join (0x4D ∷ []) (0x56 ∷ []) bytes m v a b) c))

-- which byte a form has
form-byte : (b : ℕ) (bytes rest : List ℕ) (f : Form) → form_by b bytes ≡ Some (f, rest) → (b ≡ form_byte f) × (bytes ≡ rest)
form-byte b bytes rest f e = grind (arith, eqb-true b 0x31, eqb-true b 0x32)

-- a form at the front
form-front : (f : Form) (bytes rest : List ℕ) → AreBytes bytes → form_from bytes ≡ Some (f, rest) → Front (form_byte f ∷ []) bytes rest
form-front f bytes rest ok e =
    on_bind (byte_from bytes) _ (f, rest) e (λ b b_is e1.
    let p = form-byte b.0 b.1 rest f e1 in
    subst (λ r. Front (form_byte f ∷ []) bytes r) p.1 (subst (λ n. Front (n ∷ []) bytes b.1) p.0 (byte-front b.0 bytes b.1 ok b_is)))

-- what a head has, and where it stands
abbrev IsHeadOf : List ℕ → List ℕ → SavedHead → Type 0
IsHeadOf bytes rest h = Front (head_text h.form h.runs h.offers) bytes rest × HeadFits h.runs h.offers

-- a head at the front
pub head-parts : (bytes rest : List ℕ) (h : SavedHead) → AreBytes bytes → head_from bytes ≡ Some (h, rest) → IsHeadOf bytes rest h
head-parts bytes rest h ok e =
    on_bind (marks_from bytes) _ (h, rest) e (λ l l_is e1.
    on_bind (form_from l) _ (h, rest) e1 (λ f f_is e2.
    on_bind (number_from 4294967296 f.1) _ (h, rest) e2 (λ n n_is e3.
    on_bind (counted_from 4096 offer_from n.1) _ (h, rest) e3 (λ o o_is e4.
    let a = marks-front bytes l ok l_is in
    let b = form-front f.0 l f.1 a.left f_is in
    let c = number-front 4294967296 n.0 f.1 n.1 (omega arith) b.left n_is in
    let d = counted-parts 4096 offer_from offer_text offer_fits (omega arith) offer-parts n.1 o.1 o.0 c.0.left o_is in
    let fit = and_parts (nat_le (length o.0) 4096) (list_all offer_fits o.0) d.1 in
    let two : Front (three ++ (form_byte f.0 ∷ [])) bytes f.1 = Front-join three (form_byte f.0 ∷ []) bytes l f.1 a b in
    let some : Front (three ++ (form_byte f.0 ∷ []) ++ uleb n.0) bytes n.1 = Front-join (three ++ (form_byte f.0 ∷ [])) (uleb n.0) bytes f.1 n.1 two c.0 in
    let all : Front (head_text f.0 n.0 o.0) bytes o.1 = Front-join (three ++ (form_byte f.0 ∷ []) ++ uleb n.0) (counted offer_text o.0) bytes n.1 o.1 some d.0 in
    let fits : HeadFits n.0 o.0 = record { had = c.1; few = leb-true (length o.0) 4096 fit.0; sized = fit.1 } in
    let got : SavedHead = record { form = f.0; runs = n.0; offers = o.0 } in
    let same = some_pair_parts got h o.1 rest e4 in
    subst (IsHeadOf bytes rest) same.0 (subst (λ r. Front (head_text f.0 n.0 o.0) bytes r) same.1 all, fits)))))

-- what is read after the form
abbrev after_runs : Form → Option (ℕ × List ℕ) → Option (SavedHead × List ℕ)
after_runs form o = o >>= λ runs. counted_from 4096 offer_from runs.1 >>= λ offers. Some (record { form = form; runs = runs.0; offers = offers.0 }, offers.1)

abbrev after_offers : Form → ℕ → Option (List Offer × List ℕ) → Option (SavedHead × List ℕ)
after_offers form runs o = o >>= λ offers. Some (record { form = form; runs = runs; offers = offers.0 }, offers.1)

after-form : (form : Form) (rest : List ℕ) (runs : ℕ) (offers : List Offer) → HeadFits runs offers
    → after_runs form (number_from 4294967296 (uleb runs ++ counted offer_text offers ++ rest)) ≡ Some (record { form = form; runs = runs; offers = offers }, rest)
after-form form rest runs offers fits =
    ap (λ z. after_runs form (number_from 4294967296 z)) (append_assoc (uleb runs) (counted offer_text offers) rest)
    ∙ ap (after_runs form) (number-whole 4294967296 runs (counted offer_text offers ++ rest) (omega arith) fits.had)
    ∙ ap (after_offers form runs) (counted-whole 4096 offer_from offer_text offer_fits (omega arith) offer-whole rest offers
    (and_from (nat_le (length offers) 4096) (list_all offer_fits offers) (le-leb (length offers) 4096 fits.few) fits.sized))

-- a head is read
pub head-whole : (form : Form) (rest : List ℕ) (runs : ℕ) (offers : List Offer) → HeadFits runs offers
    → head_from (head_text form runs offers ++ rest) ≡ Some (record { form = form; runs = runs; offers = offers }, rest)
head-whole First rest runs offers fits = after-form First rest runs offers fits
head-whole Second rest runs offers fits = after-form Second rest runs offers fits

-- what was read is the head that the bytes have
pub head-had : (bytes rest : List ℕ) (h : SavedHead) → AreBytes bytes → head_from bytes ≡ Some (h, rest) → HasHead bytes h.form h.runs h.offers
head-had bytes rest h ok e = let p = head-parts bytes rest h ok e in record { rest = rest; text = p.0.text; fits = p.1 }

-- and where none was, they have none
pub head-none : (bytes : List ℕ) → head_from bytes ≡ None → FailsLoad bytes 1
head-none bytes e = no_head (λ form runs offers has.
    let whole = ap head_from has.text ∙ head-whole form has.rest runs offers has.fits in
    let had : SavedHead = record { form = form; runs = runs; offers = offers } in
    absurd (none-some (had, has.rest) (sym e ∙ whole)))
