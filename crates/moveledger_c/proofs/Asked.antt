-- What questions are answered with.
use Rattle.std.proofs.Common.{◌≡◌, ◌≢◌, ℕ, zero, suc, ◌<◌, ◌^◌, ℤ, List, [], ◌∷◌, ◌++◌, None, Some, Option, ◌⊎◌, inl, inr, refl, ap, ◌∙◌, sym, subst, codes, append_assoc, lt-ltb, w32, to_z, of_z}
use Rattle.std.specs.Int.{w128, to_be_bytes}
use Rattle.std.specs.Option.{option_map_or}
use Rattle.mv_move_types.specs.Module.{own_name}
use Rattle.mv_move_types.specs.Names.{ModuleName, StructName}
use Rattle.mv_move_types.specs.Numbers.{big_endian}
use Rattle.mv_move_types.specs.Published.{PublishedModule}
use Rattle.mv_machine.specs.Ledger.{Format}
use Rattle.mv_module_text.proofs.Addresses.{address-whole}
use Rattle.mv_lines.specs.LinesView.{ended, LinesView}
use Rattle.mv_ledger.specs.Questions.{shows, stored_at, IsShownPage}
use Rattle.mv_ledger_state.specs.View.{LedgerView}
use Rattle.moveledger_c.specs.Questions.{format_in, name_line, names_text, shown_text, GoesOnAt, IsNoPage, IsPageIn, IsTold, IsToldIn}
use Rattle.moveledger_c.specs.Statuses.{done, memory, absent}

-- a form that is neither of the two

pub format_in-none : (form : ℕ) → (form ≢ 0) → (form ≢ 1) → format_in form ≡ None
format_in-none zero a b = absurd (a refl)
format_in-none (suc zero) a b = absurd (b refl)
format_in-none (suc (suc n)) a b = refl

-- a module's name, as it is put after a text, piece by piece

pub name-put : (t0 t1 t2 t3 t4 address name : List ℕ) → t1 ≡ t0 ++ address → t2 ≡ t1 ++ codes "::" → t3 ≡ t2 ++ name → t4 ≡ t3 ++ 10 ∷ []
    → t4 ≡ t0 ++ ((address ++ codes "::" ++ name) ++ 10 ∷ [])
name-put t0 t1 t2 t3 t4 address name p1 p2 p3 p4 = rw (p4, p3, p2, p1) (simp append_assoc)

-- the lines of modules' names begin with that of the first

pub names-more : (p : PublishedModule) (ps : List PublishedModule) (n : ModuleName) → own_name p.tables ≡ Some n
    → names_text (p ∷ ps) ≡ (name_line n ++ 10 ∷ []) ++ names_text ps
names-more p ps n is = ap (λ (name : Option ModuleName). (option_map_or name_line name [] ++ 10 ∷ []) ++ names_text ps) is

-- the line of the next one is put after those before it
pub names-taken : (before after whole : List ℕ) (old new : List PublishedModule) (p : PublishedModule) (n : ModuleName) → before ++ names_text old ≡ whole → old ≡ p ∷ new → own_name p.tables ≡ Some n
    → after ≡ before ++ (name_line n ++ 10 ∷ []) → after ++ names_text new ≡ whole
names-taken before after whole old new p n kept taken is put =
    let line = name_line n ++ 10 ∷ [] in
    ap (λ t. t ++ names_text new) put ∙ append_assoc before line (names_text new) ∙ ap (λ t. before ++ t) (sym (names-more p new n is) ∙ ap names_text (sym taken)) ∙ kept

-- ---- what is shown

-- a status comes back from its bits
abbrev bits : ℤ → ℤ
bits status = to_z w32 (of_z w32 status)

told-bits : (told : Option (List ℕ)) (status : ℤ) (text : List ℕ) → IsTold told status text → IsTold told (to_z w32 (of_z w32 status)) text
told-bits None status text h = (ap bits h.0, h.1)
told-bits (Some told) status text (inl h) = inl (ap bits h.0, h.1)
told-bits (Some told) status text (inr h) = inr (ap bits h.0, h.1)

-- in a format, of the ledger that is held
pub shown-at : (form : Option Format) (held : Option LedgerView) (f : Format) (l d : LedgerView) (asked address : ℕ) (lines : LinesView) (status : ℤ) (text : List ℕ)
    → form ≡ Some f → held ≡ Some l → d ≡ l → address ≡ asked → lines ≡ shows d (stored_at address d.stored) f → IsTold (Some (ended lines.left)) status text
    → IsToldIn (λ format l. Some (shown_text l (stored_at asked l.stored) format)) form held (to_z w32 (of_z w32 status)) text
shown-at form held f l d asked address lines status text is_form is_held is_l is_asked is_shown told =
    let same : lines ≡ shows l (stored_at asked l.stored) f =
    is_shown ∙ ap (λ (v : LedgerView). shows v (stored_at address v.stored) f) is_l ∙ ap (λ a. shows l (stored_at a l.stored) f) is_asked in
    rw (is_form, is_held) (told-bits (Some (shown_text l (stored_at asked l.stored) f)) status text (subst (λ (v : LinesView). IsTold (Some (ended v.left)) status text) same told))

-- a page, and where the next one goes on
pub page-given : (form : Option Format) (held : Option LedgerView) (f : Format) (l : LedgerView) (name : StructName) (from most : ℕ) (r : LinesView × Option ℕ) (status : ℤ) (next is_more : ℕ) (text : List ℕ)
    → form ≡ Some f → held ≡ Some l → IsShownPage l name from most f (Some r)
    → ((status ≡ done) × GoesOnAt r.1 from next is_more × (text ≡ ended r.0.left)) ⊎ ((status ≡ memory) × IsNoPage from next is_more text)
    → IsPageIn form name from most held (to_z w32 (of_z w32 status)) next is_more text
page-given form held f l name from most r status next is_more text is_form is_held shown (inl h) = rw (is_form, is_held) (inl (ap bits h.0, r, shown, h.1, h.2))
page-given form held f l name from most r status next is_more text is_form is_held shown (inr h) = rw (is_form, is_held) (inr (inr (ap bits h.0, h.1)))

pub page-none : (form : Option Format) (held : Option LedgerView) (f : Format) (l : LedgerView) (name : StructName) (from most : ℕ) (status : ℤ) (next is_more : ℕ) (text : List ℕ)
    → form ≡ Some f → held ≡ Some l → IsShownPage l name from most f None → status ≡ absent → IsNoPage from next is_more text → IsPageIn form name from most held status next is_more text
page-none form held f l name from most status next is_more text is_form is_held shown is_absent none = rw (is_form, is_held) (inr (inl (is_absent, shown, none)))

-- the bytes of an address are those of its number
number_in : Option (ℕ × List ℕ) → ℕ
number_in None = 0
number_in (Some p) = p.0

pub address-back : (a : ℕ) → a < 2 ^ 128 → big_endian (to_be_bytes w128 a) ≡ a
unfolding number_in
address-back a small = ap number_in (address-whole [] a (lt-ltb a (2 ^ 128) small))

pub goes_on-next : (next : Option ℕ) (a from : ℕ) (bytes : List ℕ) → next ≡ Some a → bytes ≡ to_be_bytes w128 a → a < 2 ^ 128 → GoesOnAt next from (big_endian bytes) 1
goes_on-next next a from bytes is_next made small = rw (is_next, made) (address-back a small, refl)
