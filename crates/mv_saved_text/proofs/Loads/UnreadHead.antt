-- A head that is not read, nor with more bytes behind it where it is malformed: from its parts to the whole.
use Rattle.mv_saved_text.proofs.Common.{[], ◌++◌, ◌∙◌, ◌∷◌, ◌≡◌, ◌==◌, ◌>>=◌, Bool, Err, IfOk, IfSome, IsLoadRefusal, List, None, Ok, Option, Read, Result, Some, ap, append-nil, byte_from, cond}
use Rattle.mv_saved_text.proofs.Common.{Form, First, Second, SavedHead, counted_from, false, form_by, form_from, head_from, mark_from, marks_from, none-some, number_from, offer_from, on_bind}
use Rattle.mv_saved_text.proofs.Common.{same_Some, some_pair_parts, subst, sym, then_some, true, ℕ}
use Rattle.mv_saved_text.specs.Loading.{LongerFail}
use Rattle.mv_saved_text.specs.declared.loading.LoadError.{LoadError}
use Rattle.mv_saved_text.specs.declared.loading.LoadError.TheVariants.{Head}
use Rattle.mv_ledger_state.specs.Unread.{IsUnread}
use Rattle.mv_saved_text.specs.Parts.LoadedParts.{unread_as}
use Rattle.mv_ledger_state.specs.declared.unread.Unread.{Unread}
use Rattle.mv_ledger_state.specs.declared.unread.Unread.TheVariants.{Cut, Malformed, Memory}
use Rattle.mv_saved_text.proofs.Loads.LoadedHead.{head-none}
use Rattle.mv_ledger_state.proofs.Extending.{Extends, extends-bind, number-extends, byte-extends}
use Rattle.mv_ledger_state.proofs.Unreading.{unread-first, unread-next}

-- ---- the bytes that each text begins with, and its form

-- what follows them is followed by more where the bytes are
abbrev Follows : (List ℕ → Option (List ℕ)) → Type 0
Follows from = (bytes rest more : List ℕ) → from bytes ≡ Some rest → from (bytes ++ more) ≡ Some (rest ++ more)

mark-follows : (b : ℕ) → Follows (mark_from b)
mark-follows b [] rest more is = absurd (none-some rest is)
mark-follows b (c ∷ bytes) rest more is = by (c == b) is
  where
    by : (t : Bool) → then_some t bytes ≡ Some rest → then_some t (bytes ++ more) ≡ Some (rest ++ more)
    by true is = ap (λ z. Some (z ++ more)) (same_Some bytes rest is)
    by false is = absurd (none-some rest is)

abbrev last_two : List ℕ → Option (List ℕ)
last_two bytes = mark_from 0x56 bytes >>= mark_from 0x4C

marks-follow : Follows marks_from
marks-follow bytes rest more is =
    on_bind (mark_from 0x4D bytes) last_two rest is (λ m m_is e1.
    on_bind (mark_from 0x56 m) (mark_from 0x4C) rest e1 (λ v v_is e2.
    ap (λ o. o >>= last_two) (mark-follows 0x4D bytes m more m_is) ∙ ap (λ o. o >>= mark_from 0x4C) (mark-follows 0x56 m v more v_is) ∙ mark-follows 0x4C v rest more e2))

abbrev picked : Bool → Bool → List ℕ → Read Form
picked first second bytes = cond first (Some (First, bytes)) (cond second (Some (Second, bytes)) None)

known : (g f : Form) (bytes rest more : List ℕ) → ◌≡◌ {A = Read Form} (Some (g, bytes)) (Some (f, rest)) → ◌≡◌ {A = Read Form} (Some (g, bytes ++ more)) (Some (f, rest ++ more))
known g f bytes rest more is = let p = some_pair_parts g f bytes rest is in ap (λ z. Some (z, bytes ++ more)) p.0 ∙ ap (λ z. Some (f, z ++ more)) p.1

picked-extends : (first second : Bool) → Extends (picked first second)
picked-extends true second bytes rest more f is = known First f bytes rest more is
picked-extends false true bytes rest more f is = known Second f bytes rest more is
picked-extends false false bytes rest more f is = absurd (none-some (f, rest) is)

by-extends : (b : ℕ) → Extends (form_by b)
by-extends b = picked-extends (b == 0x31) (b == 0x32)

form-extends : Extends form_from
form-extends = extends-bind byte_from (λ b. form_by b.0 b.1) byte-extends by-extends

-- ---- the head

abbrev offered_from : Form → ℕ → List ℕ → Read SavedHead
offered_from form runs bytes = counted_from 4096 offer_from bytes >>= λ offers. Some (record { form = form; runs = runs; offers = offers.0 }, offers.1)

abbrev runs_from : Form → List ℕ → Read SavedHead
runs_from form bytes = number_from 4294967296 bytes >>= λ runs. offered_from form runs.0 runs.1

abbrev formed_from : List ℕ → Read SavedHead
formed_from bytes = form_from bytes >>= λ form. runs_from form.0 form.1

module _ (bytes marked : List ℕ) (e : Unread) (marks_are : marks_from bytes ≡ Some marked) where
  -- what follows the three bytes isn't read
  pub formed-unread : IsUnread formed_from marked e → IsUnread head_from bytes e
  formed-unread none = by e none
    where
      by : (e : Unread) → IsUnread formed_from marked e → IsUnread head_from bytes e
      by Cut none = ap (λ o. o >>= formed_from) marks_are ∙ none
      by Malformed none = λ more. ap (λ o. o >>= formed_from) (marks-follow bytes marked more marks_are) ∙ none more
      by Memory none = tt

  module _ (form : Form) (formed : List ℕ) (form_is : form_from marked ≡ Some (form, formed)) where
    after-form : IsUnread (runs_from form) formed e → IsUnread head_from bytes e
    after-form none = formed-unread (unread-next form_from (λ form. runs_from form.0 form.1) marked formed form e form-extends form_is none)

    -- the modules aren't
    pub modules-unread : (runs : ℕ) (counted : List ℕ) → number_from 4294967296 formed ≡ Some (runs, counted) → IsUnread (counted_from 4096 offer_from) counted e → IsUnread head_from bytes e
    modules-unread runs counted runs_are none =
        after-form (unread-next (number_from 4294967296) (λ runs. offered_from form runs.0 runs.1) formed counted runs e (number-extends 4294967296) runs_are
        (unread-first (counted_from 4096 offer_from) (λ offers. Some (record { form = form; runs = runs; offers = offers.0 }, offers.1)) counted e none))

-- bytes of which it isn't read are not loaded
pub unread-head : (bytes : List ℕ) (e : Unread) (r : LoadError) → r ≡ unread_as Head e → IsUnread head_from bytes e → IsLoadRefusal bytes r
unread-head bytes Cut r is none = subst (IsLoadRefusal bytes) (sym is) (head-none bytes none)
unread-head bytes Malformed r is none = subst (IsLoadRefusal bytes) (sym is) (head-none bytes (ap head_from (sym (append-nil bytes)) ∙ none []))
unread-head bytes Memory r is none = subst (IsLoadRefusal bytes) (sym is) tt

-- nor are longer ones where it is malformed
malformed-head : (bytes : List ℕ) (e : Unread) → e ≡ Malformed → IsUnread head_from bytes e → LongerFail bytes 1
malformed-head bytes e is none = λ byte more. head-none (bytes ++ byte ∷ more) (subst (IsUnread head_from bytes) is none (byte ∷ more))

pub longer-head : {E : Type 0} (bytes : List ℕ) (r : Result (Option ℕ) E) (e : Unread) → IfOk r (λ found. IfSome found (λ number. (number ≡ 1) × (e ≡ Malformed)))
    → IsUnread head_from bytes e → IfOk r (λ found. IfSome found (LongerFail bytes))
longer-head bytes (Err x) e found none = tt
longer-head bytes (Ok None) e found none = tt
longer-head bytes (Ok (Some number)) e found none = subst (LongerFail bytes) (sym found.0) (malformed-head bytes e found.1 none)
