-- What is read is what was written: instructions, by the table of opcodes.
use Rattle.std.proofs.Common.{◌≡◌, ℕ, ◌^◌, List, [], ◌∷◌, ◌++◌, refl, ap, sym, ◌∙◌, subst, Some, IsTrue, Bool, true, not, ◌||◌, nat_lt, option_map, lt-ltb, ltb-true}
use Rattle.std.specs.Prelude.{◌==◌}
use Rattle.std.proofs.lemmas.Bool.{and_parts, and_from, eqb-true}
use Rattle.std.proofs.lemmas.Option.{some_pair_parts}
use Rattle.mv_uleb.specs.Uleb.{uleb}
use Rattle.mv_move_types.specs.Options.{◌>>=◌}
use Rattle.mv_move_types.specs.Tokens.{width_bits}
use Rattle.mv_move_types.specs.declared.instruction.Immediate.{Immediate}
use Rattle.mv_move_types.specs.declared.instruction.Immediate.TheVariants.{Nothing, Local, Struct, Field, Function, Constant, Target, Literal}
use Rattle.mv_move_types.specs.declared.instruction.Instruction.{Instruction}
use Rattle.mv_move_types.specs.declared.instruction.Instruction.TheVariants.{LdU16, LdU32, CastU16, CastU32}
use Rattle.mv_move_types.specs.Instructions.{Form, Bare, Indexed, Numbered, Row, rows, given, is_row_of, row_of, code_of, immediate_of}
use Rattle.mv_module_text.specs.Entries.{number_text, instruction_text}
use Rattle.mv_module_text.specs.Fits.{is_index, is_late, immediate_fits, instruction_fits}
use Rattle.mv_module_text.specs.Parsing.{Read, byte_from, immediate_from, instruction_from}
use Rattle.mv_module_text.specs.Laws.{AreBytes}
use Rattle.mv_module_text.proofs.Numbers.{number_of-front, number_of-whole}
use Rattle.mv_module_text.proofs.Rows.{Each, each_same, find-some, on_map}
use Rattle.mv_module_text.proofs.Texts.{Front, Parts, Whole, on_bind, Front-from, Front-join, Front-as, index-parts, index-whole, byte-front}

-- the text of the index or the number that a form has
abbrev form_text : Form → ℕ → List ℕ
form_text (Bare instruction) n = []
form_text (Indexed make) n = uleb n
form_text (Numbered width make) n = number_text width n

-- whether it is in its range
abbrev form_fits : Form → ℕ → Bool
form_fits (Bare instruction) n = true
form_fits (Indexed make) n = is_index n
form_fits (Numbered width make) n = nat_lt n (2 ^ width_bits width)

-- the text and the range of what a row stands for, and whether it is late
abbrev meant : ℕ → Row → List ℕ × Bool × Bool
meant n r = (instruction_text (given r.form n), immediate_fits (immediate_of (given r.form n)), is_late (given r.form n))

-- the row's own
abbrev told : ℕ → Row → List ℕ × Bool × Bool
told n r = (r.code ∷ form_text r.form n, form_fits r.form n, r.is_late)

-- they are the same in each row, by computation
rows_right : (n : ℕ) → Each (λ r. meant n r ≡ told n r) rows
rows_right n = each_same (meant n) (told n) rows refl

-- an instruction of version 6 alone, by its opcode
at_six : (version code n : ℕ) (i : Instruction) → IsTrue (version == 6) → option_map (λ (r : Row). given r.form n) (row_of 6 code) ≡ Some i
    → option_map (λ (r : Row). given r.form n) (row_of version code) ≡ Some i
at_six version code n i ok e = subst (λ z. option_map (λ (r : Row). given r.form n) (row_of z code) ≡ Some i) (sym (eqb-true version 6 ok)) e

-- the index or the number of an immediate
abbrev number_in : Immediate → ℕ
number_in Nothing = 0
number_in (Literal width n) = n
number_in (Target i) = i
number_in (Constant i) = i
number_in (Local i) = i
number_in (Field i) = i
number_in (Function i) = i
number_in (Struct i) = i

-- each instruction is what its own opcode stands for, in the versions that have it
made_of : (version : ℕ) (i : Instruction) → IsTrue (not (is_late i) || version == 6)
    → (n : ℕ) × (option_map (λ (r : Row). given r.form n) (row_of version (code_of i)) ≡ Some i)
made_of version (LdU16 n) ok = (n, at_six version 0x48 n (LdU16 n) ok refl)
made_of version (LdU32 n) ok = (n, at_six version 0x49 n (LdU32 n) ok refl)
made_of version CastU16 ok = (0, at_six version 0x4B 0 CastU16 ok refl)
made_of version CastU32 ok = (0, at_six version 0x4C 0 CastU32 ok refl)
made_of version i ok = (number_in (immediate_of i), refl)

-- the index or the number at the front
immediate-parts : (form : Form) (n : ℕ) (bytes rest : List ℕ) → AreBytes bytes → immediate_from form bytes ≡ Some (n, rest)
    → Front (form_text form n) bytes rest × IsTrue (form_fits form n)
immediate-parts (Bare instruction) n bytes rest ok e = (Front-from [] bytes rest ok (some_pair_parts 0 n bytes rest e).1, refl)
immediate-parts (Indexed make) n bytes rest ok e = index-parts bytes rest n ok e
immediate-parts (Numbered width make) n bytes rest ok e =
    let p = number_of-front width n bytes rest ok e in
    (p.0, lt-ltb n (2 ^ width_bits width) p.1)

-- what a form makes of it
abbrev made : Form → ℕ × List ℕ → Read Instruction
made form n = Some (given form n.0, n.1)

immediate-whole : (form : Form) (n : ℕ) (rest : List ℕ) → IsTrue (form_fits form n) → (immediate_from form (form_text form n ++ rest) >>= made form) ≡ made form (n, rest)
immediate-whole (Bare instruction) n rest ok = refl
immediate-whole (Indexed make) n rest ok = ap (λ r. r >>= made (Indexed make)) (index-whole rest n ok)
immediate-whole (Numbered width make) n rest ok =
    ap (λ r. r >>= made (Numbered width make)) (number_of-whole width n rest (ltb-true n (2 ^ width_bits width) ok))

pub instruction-parts : (version : ℕ) → Parts (instruction_from version) instruction_text (instruction_fits version)
instruction-parts version bytes rest v ok e =
    on_bind (byte_from bytes) _ (v, rest) e (λ code code_is e1.
    on_bind (row_of version code.0) _ (v, rest) e1 (λ r r_is e2.
    on_bind (immediate_from r.form code.1) _ (v, rest) e2 (λ n n_is e3.
    let i : Instruction = given r.form n.0 in
    let found = find-some (λ r. meant n.0 r ≡ told n.0 r) (is_row_of version code.0) rows r (rows_right n.0) r_is in
    let right = found.0 in
    let q = and_parts (r.code == code.0) (not r.is_late || version == 6) found.1 in
    let p = byte-front code.0 bytes code.1 ok code_is in
    let first : Front (r.code ∷ []) bytes code.1 = subst (λ z. Front (z ∷ []) bytes code.1) (sym (eqb-true r.code code.0 q.0)) p in
    let s = immediate-parts r.form n.0 code.1 n.1 p.left n_is in
    Front-as instruction_text (instruction_fits version) bytes n.1 rest i v e3
    (subst (λ z. Front z bytes n.1) (sym (ap (λ z. z.0) right)) (Front-join (r.code ∷ []) (form_text r.form n.0) bytes code.1 n.1 first s.0))
    (and_from (not (is_late i) || version == 6) (immediate_fits (immediate_of i)) (ap (λ z. not z.2 || version == 6) right ∙ q.1)
    (ap (λ z. z.1) right ∙ s.1)))))

pub instruction-whole : (version : ℕ) → Whole (instruction_from version) instruction_text (instruction_fits version)
instruction-whole version rest i ok =
    let p = and_parts (not (is_late i) || version == 6) (immediate_fits (immediate_of i)) ok in
    let m = made_of version i p.0 in
    on_map (row_of version (code_of i)) (λ (r : Row). given r.form m.0) i m.1 (λ r r_is i_is.
    let found = find-some (λ r. meant m.0 r ≡ told m.0 r) (is_row_of version (code_of i)) rows r (rows_right m.0) r_is in
    let right = found.0 in
    let q = and_parts (r.code == code_of i) (not r.is_late || version == 6) found.1 in
    let code : r.code ≡ code_of i = eqb-true r.code (code_of i) q.0 in
    let row : row_of version r.code ≡ Some r = subst (λ z. row_of version z ≡ Some r) (sym code) r_is in
    let text : instruction_text i ≡ r.code ∷ form_text r.form m.0 = subst (λ z. instruction_text z ≡ r.code ∷ form_text r.form m.0) i_is (ap (λ z. z.0) right) in
    let fits : immediate_fits (immediate_of i) ≡ form_fits r.form m.0 =
    subst (λ z. immediate_fits (immediate_of z) ≡ form_fits r.form m.0) i_is (ap (λ z. z.1) right) in
    ap (λ t. instruction_from version (t ++ rest)) text
    ∙ ap (λ o. o >>= λ (s : Row). immediate_from s.form (form_text r.form m.0 ++ rest) >>= made s.form) row
    ∙ immediate-whole r.form m.0 rest (sym fits ∙ p.1)
    ∙ ap (λ z. Some (z, rest)) i_is)
