use Rattle.mv_linker.proofs.Common.{ℕ, ◌<◌, ◌∙◌, ◌≡◌, AreCodesOf, Code, IfSome, IsFunctionNamed, IsInterface, IsStore, List, Module, None, Option, PublishedModule, Signature, Some, WellDefined}
use Rattle.mv_linker.proofs.Common.{arith, function_place, length, length-map, option_map, refl, slice_get, slice_get_read, slice_get_within, subst, sym, tables_in}
use Rattle.mv_linker.proofs.Lemmas.{among-at, element_at}
use Rattle.mv_linker.proofs.Joining.Assembling.{passed-among}
use Rattle.mv_interface.proofs.InterfaceLemmas.{signature-at}
use Rattle.mv_interface.proofs.OutlineLemmas.{named-place, no-function-named}
use Rattle.mv_linker.proofs.LinkedCode.StoredCodes.{interface-known}
use Rattle.mv_linker.proofs.store.Store.function.Goals.{After-index}
use Rattle.mv_linker.proofs.store.Store.function.Goals as goal

-- the module at the place, with what is kept of it
record Here (modules : List Module) (place : ℕ) (code : Code) : Type 0 where
  home : Module
  at : slice_get modules place ≡ Some home
  interface : IsInterface modules home code.interface
  defined : WellDefined home

here : (c : After-index) → Here (tables_in c.args.self.now) c.args.place c.index.result.now
here c =
    let modules = tables_in c.args.self.now in
    let codes = c.self.inside.codes.items in
    let are : AreCodesOf modules codes = subst (λ (s : List PublishedModule). AreCodesOf (tables_in s) codes) c.self.view_is c.self.invariant.2 in
    let store : IsStore c.args.self.now = subst IsStore c.self.view_is c.self.invariant.0 in
    let low : c.args.place < length codes = omega (arith, are.len, length-map c.args.self.now (λ (p : PublishedModule). p.tables), c.requires) in
    let at : slice_get codes c.args.place ≡ Some c.index.result.now = slice_get_read codes (length codes) c.args.place c.index.result.now refl low c.index.ensures in
    let m = element_at modules c.args.place (omega (arith, are.len, low)) in
    let p = passed-among c.args.self.now m.0 store.passed (among-at modules c.args.place m.0 m.1) in
    record { home = m.0; at = m.1; interface = interface-known modules codes c.args.place m.0 c.index.result.now are m.1 at; defined = subst (λ (n : Module). WellDefined n) p.2 p.1.sound.defined }

pub returns-in_err-index-clause-index : goal.returns-in_err-index-clause-index
returns-in_err-index-clause-index c =
    let h = here (goal.at.returns-in_err-index-clause-index c).After-index in
    let modules = tables_in c.args.self.now in
    let missing : function_place h.home c.args.name.now ≡ None =
    no-function-named h.home c.index.result.now.interface.outline.functions c.args.name.now h.interface.outline.functions
    (λ k f at named. c.in_err-index.ensures.found k (record { entry = f; there = at; named = named })) in
    subst (λ (o : Option (ℕ × Signature)). IfSome (slice_get modules c.args.place) (λ m. option_map (λ p. p.0) o ≡ function_place m c.args.name.now)) (sym c.from_residual.ensures)
    (subst (λ (o : Option Module). IfSome o (λ m. None ≡ function_place m c.args.name.now)) (sym h.at) (sym missing))

pub signature-requires : goal.signature-requires
signature-requires c =
    let h = here (goal.at.signature-requires c).After-index in
    h.interface.parameters.len ∙ sym h.interface.outline.functions.len

pub returns-in_err-signature-clause-index : goal.returns-in_err-signature-clause-index
returns-in_err-signature-clause-index c =
    let h = here (goal.at.returns-in_err-signature-clause-index c).After-index in
    let found : IsFunctionNamed c.index.result.now.interface.outline c.in_ok-index.index c.args.name.now = c.in_ok-index.ensures.found in
    absurd (omega (arith, slice_get_within c.index.result.now.interface.outline.functions c.in_ok-index.index found.entry found.there, h.interface.parameters.len, h.interface.outline.functions.len, c.in_err-signature.ensures.none))

pub returns-clause-index : goal.returns-clause-index
returns-clause-index c =
    let h = here (goal.at.returns-clause-index c).After-index in
    let found : IsFunctionNamed c.index.result.now.interface.outline c.in_ok-index.index c.args.name.now = c.in_ok-index.ensures.found in
    subst (λ (o : Option Module). IfSome o (λ m. Some c.in_ok-index.index ≡ function_place m c.args.name.now)) (sym h.at)
    (sym (named-place h.home c.index.result.now.interface.outline.functions c.in_ok-index.index c.args.name.now h.defined h.interface.outline.functions found.entry found.there found.named))

pub returns-clause-interface : goal.returns-clause-interface
returns-clause-interface c =
    let h = here (goal.at.returns-clause-interface c).After-index in
    signature-at (tables_in c.args.self.now) c.args.place c.in_ok-index.index h.home c.index.result.now.interface c.in_ok-signature.field-0 h.at h.interface c.in_ok-signature.ensures.there
