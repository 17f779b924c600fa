-- Which form an opcode has.
use Rattle.std.proofs.Common.{◌≡◌, ℕ, Bool, true, false, ◌&&◌, cond, List, [], ◌∷◌, refl, ap, sym, ◌∙◌, subst, Option, Some, None, Result, Ok, Err, option_map}
use Rattle.std.specs.Prelude.{find}
use Rattle.std.specs.List.{list_any}
use Rattle.std.specs.Option.{option_and_then}
use Rattle.std.specs.Result.{IsErrAnd}
use Rattle.std.proofs.lemmas.Bool.{or_parts}
use Rattle.std.proofs.lemmas.Option.{none-some, same_Some}
use Rattle.mv_move_types.specs.Options.{◌>>=◌}
use Rattle.mv_move_types.specs.declared.instruction.Instruction.{Instruction}
use Rattle.mv_move_types.specs.declared.refusal.Refusal.{Refusal}
use Rattle.mv_move_types.specs.declared.refusal.Refusal.TheVariants.{Phase}
use Rattle.mv_move_types.specs.Instructions.{Form, Bare, Indexed, Numbered, Row, rows, is_row_of, row_of, given}
use Rattle.mv_module_text.specs.Parsing.{Read, index_from, immediate_from, form_of, bare_of, indexed_of, instruction_by}
use Rattle.mv_module_text.specs.Reads.{Reads}

-- whether a form has a number
abbrev pub is_numbered : Form → Bool
is_numbered (Bare instruction) = false
is_numbered (Indexed make) = false
is_numbered (Numbered width make) = true

-- whether the opcode has a row with a number
abbrev pub has_number : ℕ → ℕ → Bool
has_number version code = list_any (λ (r : Row). is_numbered r.form && is_row_of version code r) rows

left-false : (x : Bool) → (x && true) ≡ false → x ≡ false
left-false true e = e
left-false false e = refl

-- what is found is of no kind that nothing has that passes the test
of_no-kind : (kind : Form → Bool) (p : Row → Bool) (rs : List Row) (r : Row) → list_any (λ (s : Row). kind s.form && p s) rs ≡ false → find p rs ≡ Some r → kind r.form ≡ false
of_no-kind kind p [] r h e = absurd (none-some r e)
of_no-kind kind p (s ∷ rs) r h e = by_test (of_no-kind kind p rs r parts.1) (p s) refl e
  where
    parts : ((kind s.form && p s) ≡ false) × (list_any (λ (t : Row). kind t.form && p t) rs ≡ false)
    parts = or_parts (kind s.form && p s) (list_any (λ (t : Row). kind t.form && p t) rs) h

    by_test : (find p rs ≡ Some r → kind r.form ≡ false) → (b : Bool) → p s ≡ b → cond b (Some s) (find p rs) ≡ Some r → kind r.form ≡ false
    by_test later true passes same =
        subst (λ (z : Row). kind z.form ≡ false) (same_Some s r same) (left-false (kind s.form) (ap (λ b. kind s.form && b) (sym passes) ∙ parts.0))
    by_test later false fails same = later same

abbrev nothing : (B : Type 0) → Option B
nothing B = None

none_after : {A B : Type 0} (o : Option A) → (o >>= λ _. nothing B) ≡ None
none_after None = refl
none_after (Some x) = refl

-- where the opcode has no row of another form, an index is read
pub by_index : (version code : ℕ) (bytes : List ℕ) → has_number version code ≡ false → option_and_then bare_of (form_of version code) ≡ None
    → instruction_by version code bytes ≡ (index_from bytes >>= λ i. option_map (λ x. (x, i.1)) (option_and_then (indexed_of i.0) (form_of version code)))
by_index version code bytes h bare = by_row (row_of version code) refl bare
  where
    of_form : Form → Read Instruction
    of_form f = immediate_from f bytes >>= λ n. Some (given f n.0, n.1)

    by_form : (f : Form) → is_numbered f ≡ false → bare_of f ≡ None → of_form f ≡ (index_from bytes >>= λ i. option_map (λ x. (x, i.1)) (indexed_of i.0 f))
    by_form (Bare instruction) e b = cc
    by_form (Indexed make) e b = refl
    by_form (Numbered width make) e b = cc

    by_row : (o : Option Row) → row_of version code ≡ o → option_and_then bare_of (option_map (λ (r : Row). r.form) o) ≡ None
        → (o >>= λ r. of_form r.form) ≡ (index_from bytes >>= λ i. option_map (λ x. (x, i.1)) (option_and_then (indexed_of i.0) (option_map (λ (r : Row). r.form) o)))
    by_row None e b = sym (none_after (index_from bytes))
    by_row (Some r) e b = by_form r.form (of_no-kind is_numbered (is_row_of version code) rows r h e) b

-- none is at the front
pub by_index-refuses : (version code : ℕ) (bytes new : List ℕ) (result : Result Instruction Refusal) (e : Refusal) → has_number version code ≡ false
    → option_and_then bare_of (form_of version code) ≡ None → (e ≡ Phase 2) × (index_from bytes ≡ None) → IsErrAnd result (λ x. x ≡ e)
    → Reads (instruction_by version code) bytes result new
by_index-refuses version code bytes new (Ok x) e h bare refused same = absurd same
by_index-refuses version code bytes new (Err x) e h bare refused same = (same ∙ refused.0, by_index version code bytes h bare ∙ ap (λ r. r >>= λ i. option_map (λ y. (y, i.1)) (option_and_then (indexed_of i.0) (form_of version code))) refused.1)

-- one is
pub by_index-reads : (version code : ℕ) (bytes new : List ℕ) (index : ℕ) (made : Option Instruction) → has_number version code ≡ false
    → option_and_then bare_of (form_of version code) ≡ None → index_from bytes ≡ Some (index, new) → made ≡ option_and_then (indexed_of index) (form_of version code)
    → instruction_by version code bytes ≡ option_map (λ y. (y, new)) made
by_index-reads version code bytes new index made h bare read is =
    by_index version code bytes h bare ∙ ap (λ r. r >>= λ i. option_map (λ y. (y, i.1)) (option_and_then (indexed_of i.0) (form_of version code))) read
    ∙ ap (option_map (λ y. (y, new))) (sym is)
