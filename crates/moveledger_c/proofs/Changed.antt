-- What is told of a block's changes.
use Rattle.std.proofs.Common.{◌≡◌, ℕ, ℤ, Bool, List, [], ◌∷◌, ◌++◌, Some, Option, Ok, Err, Result, IfOk, inl, inr, refl, ap, ap₂, ◌∙◌, sym, subst, append-nil, append_assoc, arith, w32, to_z, of_z}
use Rattle.std.specs.Global.{Vec}
use Rattle.std.specs.Option.{option_map_or}
use Rattle.std.specs.declared.alloc.AllocError.{AllocError}
use Rattle.mv_move_types.specs.Module.{own_name}
use Rattle.mv_move_types.specs.Names.{ModuleName}
use Rattle.mv_lines.specs.declared.changed.Side.TheVariants.{Before, Now}
use Rattle.mv_ledger.specs.Changed.{ModuleChange, module_changes}
use Rattle.mv_ledger_state.specs.View.{HeldView, LedgerView}
use Rattle.moveledger_c.specs.Changes.{change_word, changed_text, AreChanges, AreChangesOf, IsChangedModules, IsChangedModulesOf, IsChangedText, IsChangesText}
use Rattle.moveledger_c.specs.Giving.{AreGiven, IsGiven}
use Rattle.moveledger_c.specs.Questions.{name_line, AreTexts}
use Rattle.moveledger_c.specs.Statuses.{done, memory}

-- ---- two texts, by the bits of their statuses

apart : ◌≡◌ {A = ℕ} 0 4 → ⊥
apart e = omega (arith, e)

given-done : (first : Result (Vec ℕ) AllocError) (status : ℤ) (text : List ℕ) → of_z w32 status ≡ 0 → IsGiven first status text → (v : Vec ℕ) × (first ≡ Ok v) × (text ≡ v.items)
given-done (Ok v) status text is (inl g) = (v, refl, g.1)
given-done (Ok v) status text is (inr g) = absurd (apart (sym is ∙ ap (of_z w32) g.0))
given-done (Err e) status text is g = absurd (apart (sym is ∙ ap (of_z w32) g.0))

-- none is given where the status isn't that it was done
pub not-given : (made : Result (Vec ℕ) AllocError) (status : ℤ) (text : List ℕ) → (of_z w32 status ≡ 0 → ⊥) → IsGiven made status text → text ≡ []
not-given (Ok v) status text off (inl g) = absurd (off (ap (of_z w32) g.0))
not-given (Ok v) status text off (inr g) = g.1
not-given (Err e) status text off g = g.1

pub both-given : (first second : Result (Vec ℕ) AllocError) (one two : ℤ) (text other : List ℕ) → of_z w32 one ≡ 0 → of_z w32 two ≡ 0 → IsGiven first one text → IsGiven second two other
    → AreGiven first second done text other
both-given first second one two text other is_one is_two g h =
    let v = given-done first one text is_one g in
    let w = given-done second two other is_two h in
    rw (v.1, w.1) (inl (refl, v.2, w.2))

pub neither-given : (first second : Result (Vec ℕ) AllocError) (text other : List ℕ) → text ≡ [] → other ≡ [] → AreGiven first second memory text other
neither-given (Ok v) (Ok w) text other a b = inr (refl, a, b)
neither-given (Ok v) (Err e) text other a b = (refl, a, b)
neither-given (Err e) (Ok w) text other a b = (refl, a, b)
neither-given (Err e) (Err d) text other a b = (refl, a, b)

-- a status comes back from its bits
abbrev bits : ℤ → ℤ
bits status = to_z w32 (of_z w32 status)

-- those of slices
pub slices-given : (p q : List ℕ) (first second : Result (Vec ℕ) AllocError) (status : ℤ) (text other : List ℕ) → IfOk first (λ v. v.items ≡ p) → IfOk second (λ v. v.items ≡ q)
    → AreGiven first second status text other → AreTexts (Some (p, q)) (to_z w32 (of_z w32 status)) text other
slices-given p q (Ok v) (Ok w) status text other a b (inl g) = inl (ap bits g.0, g.1 ∙ a, g.2 ∙ b)
slices-given p q (Ok v) (Ok w) status text other a b (inr g) = inr (ap bits g.0, g.1, g.2)
slices-given p q (Ok v) (Err e) status text other a b g = inr (ap bits g.0, g.1, g.2)
slices-given p q (Err e) (Ok w) status text other a b g = inr (ap bits g.0, g.1, g.2)
slices-given p q (Err e) (Err d) status text other a b g = inr (ap bits g.0, g.1, g.2)

-- ---- the values of both sides

pub changes-given : (l : LedgerView) (had has : Result (Vec ℕ) AllocError) (status : ℤ) (before now : List ℕ) → (l.marks ≡ [] → ⊥) → IfOk had (λ v. IsChangesText l Before v.items)
    → IfOk has (λ v. IsChangesText l Now v.items) → AreGiven had has status before now → AreChanges l (to_z w32 (of_z w32 status)) before now
changes-given l (Ok v) (Ok w) status before now is_open p q (inl g) = inl (ap bits g.0, is_open, subst (IsChangesText l Before) (sym g.1) p, subst (IsChangesText l Now) (sym g.2) q)
changes-given l (Ok v) (Ok w) status before now is_open p q (inr g) = inr (inr (ap bits g.0, g.1, g.2))
changes-given l (Ok v) (Err e) status before now is_open p q g = inr (inr (ap bits g.0, g.1, g.2))
changes-given l (Err e) (Ok w) status before now is_open p q g = inr (inr (ap bits g.0, g.1, g.2))
changes-given l (Err e) (Err d) status before now is_open p q g = inr (inr (ap bits g.0, g.1, g.2))

-- ---- the lines of modules

-- the line of the next one is put after those before it
pub changes-taken : (t0 t1 t2 whole : List ℕ) (old new : List ModuleChange) (c : ModuleChange) (is_replaced : Bool) (n : ModuleName) → t0 ++ changed_text old ≡ whole → old ≡ c ∷ new
    → own_name c.published.tables ≡ Some n → c.is_replaced ≡ is_replaced → t1 ≡ t0 ++ change_word is_replaced → t2 ≡ t1 ++ (name_line n ++ 10 ∷ []) → t2 ++ changed_text new ≡ whole
changes-taken t0 t1 t2 whole old new c is_replaced n kept taken named is put_word put_name =
    let more = changed_text new in
    let line : changed_text (c ∷ new) ≡ ((change_word is_replaced ++ name_line n) ++ 10 ∷ []) ++ more =
    ap₂ (λ (b : Bool) (name : Option ModuleName). ((change_word b ++ option_map_or name_line name []) ++ 10 ∷ []) ++ more) is named in
    let put : t2 ≡ (t0 ++ change_word is_replaced) ++ (name_line n ++ 10 ∷ []) = put_name ∙ ap (λ t. t ++ (name_line n ++ 10 ∷ [])) put_word in
    ap (λ t. t ++ more) put ∙ regrouped t0 (change_word is_replaced) (name_line n) (10 ∷ []) more ∙ ap (λ t. t0 ++ t) (sym (ap changed_text taken ∙ line)) ∙ kept
  where
    regrouped : (a b d e f : List ℕ) → ((a ++ b) ++ (d ++ e)) ++ f ≡ a ++ (((b ++ d) ++ e) ++ f)
    regrouped a b d e f = simp append_assoc

pub modules-given : (l : LedgerView) (made : Result (Vec ℕ) AllocError) (status : ℤ) (text : List ℕ) → (l.marks ≡ [] → ⊥) → IfOk made (λ v. IsChangedText l v.items) → IsGiven made status text
    → IsChangedModules l (to_z w32 (of_z w32 status)) text
modules-given l (Ok v) status text is_open is (inl g) = inl (ap bits g.0, is_open, subst (IsChangedText l) (sym g.1) is)
modules-given l (Ok v) status text is_open is (inr g) = inr (inr (ap bits g.0, g.1))
modules-given l (Err e) status text is_open is g = inr (inr (ap bits g.0, g.1))

-- the lines of all of them, once none is left
pub lines-told : (l : LedgerView) (text : List ℕ) (first last : List ModuleChange) → last ≡ [] → text ++ changed_text last ≡ changed_text first
    → ((older : List HeldView) (old : HeldView) → l.marks ≡ older ++ old ∷ [] → first ≡ module_changes old.published l.published) → IsChangedText l text
lines-told l text first last none kept told = λ older old is. sym (append-nil text) ∙ ap (λ cs. text ++ changed_text cs) (sym none) ∙ kept ∙ ap changed_text (told older old is)

-- ---- of the ledger that is held

changes-bits : (l : LedgerView) (status : ℤ) (before now : List ℕ) → AreChanges l status before now → AreChanges l (to_z w32 (of_z w32 status)) before now
changes-bits l status before now (inl h) = inl (ap bits h.0, h.1, h.2, h.3)
changes-bits l status before now (inr (inl h)) = inr (inl (ap bits h.0, h.1, h.2, h.3))
changes-bits l status before now (inr (inr h)) = inr (inr (ap bits h.0, h.1, h.2))

pub changes-held : (held : Option LedgerView) (l d : LedgerView) (status : ℤ) (before now : List ℕ) → held ≡ Some l → d ≡ l → AreChanges d status before now
    → AreChangesOf held (to_z w32 (of_z w32 status)) before now
changes-held held l d status before now is same h = rw is (changes-bits l status before now (subst (λ (v : LedgerView). AreChanges v status before now) same h))

modules-bits : (l : LedgerView) (status : ℤ) (text : List ℕ) → IsChangedModules l status text → IsChangedModules l (to_z w32 (of_z w32 status)) text
modules-bits l status text (inl h) = inl (ap bits h.0, h.1, h.2)
modules-bits l status text (inr (inl h)) = inr (inl (ap bits h.0, h.1, h.2))
modules-bits l status text (inr (inr h)) = inr (inr (ap bits h.0, h.1))

pub modules-held : (held : Option LedgerView) (l d : LedgerView) (status : ℤ) (text : List ℕ) → held ≡ Some l → d ≡ l → IsChangedModules d status text
    → IsChangedModulesOf held (to_z w32 (of_z w32 status)) text
modules-held held l d status text is same h = rw is (modules-bits l status text (subst (λ (v : LedgerView). IsChangedModules v status text) same h))
