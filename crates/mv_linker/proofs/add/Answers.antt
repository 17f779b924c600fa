use Rattle.mv_linker.proofs.Common.{◌∙◌, ◌≡◌, ◌≤◌, List, ap, ap₂, arith, length, subst, sym, PublishedModule, with_modules, AreKeyed, published_under, IsStore, tables_in}
use Rattle.mv_linker.proofs.Common.{AreCodesOf, with_codes, Code}
use Rattle.std.proofs.lemmas.List.{with_items_is}
use Rattle.mv_linker.specs.declared.store.entry.Name.{Name}
use Rattle.mv_linker.specs.declared.store.entry.Texts.{Texts}
use Rattle.mv_linker.proofs.add.Goals as goal

-- what a store keeps holds together
abbrev IsWhole : List (Name × Texts) → List Code → Type 0
IsWhole entries codes =
    IsStore (published_under entries) × AreKeyed entries × AreCodesOf (tables_in (published_under entries)) codes
    × length (published_under entries) ≤ 65536

-- as before
still : (entries was_entries : List (Name × Texts)) (codes was_codes : List Code) → entries ≡ was_entries → codes ≡ was_codes
    → IsWhole was_entries was_codes → IsWhole entries codes
still entries was_entries codes was_codes e c whole = subst (λ l. IsWhole l codes) (sym e) (subst (IsWhole was_entries) (sym c) whole)

pub invariant_of-s : goal.invariant_of-s
invariant_of-s c = still _ _ _ _ c.prepare.ensures.modules c.prepare.ensures.codes c.s.invariant

pub put_modules-requires-clause-room : goal.put_modules-requires-clause-room
put_modules-requires-clause-room c = omega (arith, c.in_ok-prepare.ensures.room, ap length c.deref.ensures.value)

pub invariant_of-s-2 : goal.invariant_of-s-2
invariant_of-s-2 c =
    let old = c.args.s.now in
    let codes = c.s.inside.codes.items in
    let joined : published_under c.put_modules.new.modules.entries ≡ with_modules old c.args.l.published =
    c.put_modules.ensures.modules ∙ ap₂ with_modules (ap published_under c.prepare.ensures.modules ∙ c.s.view_is) (ap (λ l. l.published) c.l.view_is) in
    let store : IsStore old = subst IsStore c.s.view_is c.s.invariant.0 in
    let coded : AreCodesOf (tables_in old) codes = subst (λ (l : List PublishedModule). AreCodesOf (tables_in l) codes) c.s.view_is c.s.invariant.2 in
    let completed = with_items_is c.l.inside.lowered c.prepare.new.lowered (c.in_ok-prepare.ensures.len ∙ c.deref_mut.ensures.len) in
    let put_codes : c.put_codes.new.codes.items ≡ with_codes codes c.prepare.new.lowered =
    c.put_codes.ensures ∙ ap₂ with_codes c.prepare.ensures.codes completed in
    let recoded : AreCodesOf (tables_in (with_modules old c.args.l.published)) (with_codes codes c.prepare.new.lowered) =
    c.in_ok-prepare.ensures.slotted old c.args.l (sym (c.deref_mut.ensures.value ∙ ap (λ l. l.lowered) c.l.view_is)) store c.requires coded in (
      subst IsStore (sym joined) c.requires.whole,
      c.put_modules.ensures.keyed,
      subst (λ (l : List PublishedModule). AreCodesOf (tables_in l) c.put_codes.new.codes.items) (sym joined)
          (subst (AreCodesOf (tables_in (with_modules old c.args.l.published))) (sym put_codes) recoded),
      subst (λ (l : List PublishedModule). length l ≤ 65536) (sym joined) c.requires.few,
    )
