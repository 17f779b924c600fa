use Rattle.mv_linker.proofs.Common.{◌∙◌, ◌≡◌, IsInterface, IsSound, Module, Some, StructDefinition, ap, arith, cases_eq, inl, inr, length, refl, same_Some, same_struct_definition}
use Rattle.mv_linker.proofs.Common.{slice_get, slice_get_read, slice_get_within, sym, tables_in}
use Rattle.mv_linker.proofs.Joining.KeptTypes.{stays-each, stays-fails, stays-short, struct-is}
use Rattle.mv_linker.proofs.Lemmas.{element_at}
use Rattle.mv_linker.proofs.rules.upgrades.Replaced.structs_stay.Goals.{After-struct_stays}
use Rattle.mv_linker.proofs.rules.upgrades.Replaced.structs_stay.Goals as goal

-- the new struct of this turn
new-one : (c : After-struct_stays) → slice_get c.args.n.now.structs c.each.k ≡ Some c.index-new-k.result
new-one c =
    let new = c.structs-new.result.now in
    sym (ap (λ l. slice_get l c.each.k) c.structs-new.ensures.value) ∙ slice_get_read new (length new) c.each.k c.index-new-k.result refl (omega (arith, c.each-test.true, c.if-new-count.false)) c.index-new-k.is

-- what was found of it
found : (c : After-struct_stays) (m : Module) → slice_get (tables_in c.args.self.now.store.now) c.args.self.now.place ≡ Some m
    → IsInterface (tables_in c.args.self.now.store.now) m c.args.self.now.interface.now → IsSound m
    → (d : StructDefinition) × (slice_get m.structs c.each.k ≡ Some d) × (c.struct_stays.result ≡ same_struct_definition m d c.args.n.now c.index-new-k.result)
found c m at kept sound =
    let old = c.args.self.now in
    let d = element_at m.structs c.each.k (omega (arith, c.each-test.true, c.struct_count-count.ensures.count, kept.outline.structs.len)) in
    (d.0, d.1, c.struct_stays.ensures ∙ struct-is (tables_in old.store.now) m c.args.n.now old.interface.now kept old.place c.each.k d.0 c.index-new-k.result sound at d.1)

pub returns-then-new-count : goal.returns-then-new-count
returns-then-new-count c = λ m at kept sound.
    sym (stays-short m c.args.n.now m.structs c.args.n.now.structs (omega (arith, c.if-new-count.true, c.struct_count-count.ensures.count, kept.outline.structs.len, ap length c.structs-new.ensures.value)))

pub each-init : goal.each-init
each-init c = λ m at kept sound j d e low. absurd (omega (arith, low))

pub returns-then-not-struct_stays : goal.returns-then-not-struct_stays
returns-then-not-struct_stays c = λ m at kept sound.
    let here = (goal.at.returns-then-not-struct_stays c).After-struct_stays in
    let f = found here m at kept sound in
    sym (stays-fails m c.args.n.now m.structs c.args.n.now.structs c.each.k f.0 c.index-new-k.result f.1 (new-one here) (sym f.2 ∙ c.if-not-struct_stays.true))

pub each-preserved : goal.each-preserved
each-preserved c = λ m at kept sound j d e low d_at e_at.
    let here = (goal.at.each-preserved c).After-struct_stays in
    let f = found here m at kept sound in
    elim (cases_eq j c.each.k) [
      | inl same ↦
          let one : f.0 ≡ d = same_Some f.0 d (sym f.1 ∙ ap (slice_get m.structs) (sym same) ∙ d_at) in
          let other : c.index-new-k.result ≡ e = same_Some c.index-new-k.result e (sym (new-one here) ∙ ap (slice_get c.args.n.now.structs) (sym same) ∙ e_at) in
          ap (λ (x : StructDefinition). same_struct_definition m x c.args.n.now e) (sym one) ∙ ap (λ (x : StructDefinition). same_struct_definition m f.0 c.args.n.now x) (sym other) ∙ sym f.2 ∙ c.if-not-struct_stays.false
      | inr less ↦ c.each.invariant m at kept sound j d e (omega (arith, low, less)) d_at e_at
    ]

pub returns : goal.returns
returns c = λ m at kept sound.
    sym (stays-each m c.args.n.now m.structs c.args.n.now.structs (omega (arith, c.if-new-count.false, c.struct_count-count.ensures.count, kept.outline.structs.len, ap length c.structs-new.ensures.value))
    (λ k d e d_at e_at. c.each.invariant m at kept sound k d e (let low = slice_get_within m.structs k d d_at in omega (arith, low, c.each-test.false, c.struct_count-count.ensures.count, kept.outline.structs.len)) d_at e_at))
