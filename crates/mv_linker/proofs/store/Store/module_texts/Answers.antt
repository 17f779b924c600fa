use Rattle.mv_linker.proofs.Common.{◌<◌, ◌>>=◌, ◌∙◌, ◌≡◌, ℕ, IfSome, List, ModuleName, Option, PublishedModule, Some, ap, arith, is_module, length, length-map, module_place, refl, slice_get, subst, sym, tables_in}
use Rattle.mv_linker.proofs.Lemmas.{element_at, place_below}
use Rattle.mv_bound_rules.proofs.Found.{then_found}
use Rattle.mv_linker.specs.Questions.{texts_of}
use Rattle.mv_linker.proofs.store.Store.module_texts.Goals as goal

-- the place of a module's name is that of a module
below : (published : List PublishedModule) (name : ModuleName) (place : ℕ) → Some place ≡ module_place (tables_in published) name → place < length published
below published name place e = omega (arith, place_below (is_module name) (tables_in published) place (sym e), length-map published (λ (p : PublishedModule). p.tables))

-- the texts of the module at the place of a name
texts-there : (published : List PublishedModule) (name : ModuleName) (place : ℕ) (text certificate : List ℕ) → Some place ≡ module_place (tables_in published) name
    → IfSome (slice_get published place) (λ p. text ≡ p.text) → IfSome (slice_get published place) (λ p. certificate ≡ p.certificate) → Some (text, certificate) ≡ texts_of published name
texts-there published name place text certificate e t c =
    let p = element_at published place (below published name place e) in
    let is_text : text ≡ p.0.text = subst (λ (o : Option PublishedModule). IfSome o (λ p. text ≡ p.text)) p.1 t in
    let is_certificate : certificate ≡ p.0.certificate = subst (λ (o : Option PublishedModule). IfSome o (λ p. certificate ≡ p.certificate)) p.1 c in
    let same : Some (text, certificate) ≡ Some (p.0.text, p.0.certificate) = cc in
    same ∙ sym (then_found (module_place (tables_in published) name) _ place _ (sym e) (then_found (slice_get published place) _ p.0 _ p.1 refl))

pub texts-requires : goal.texts-requires
texts-requires c = below c.args.self.now _ c.in-Some.place c.in-Some.ensures

pub returns-in-Some : goal.returns-in-Some
returns-in-Some c = texts-there c.args.self.now _ c.in-Some.place _ _ c.in-Some.ensures c.texts.ensures.text c.texts.ensures.certificate

pub returns-in-None : goal.returns-in-None
returns-in-None c = ap (λ (o : Option ℕ). o >>= λ place. slice_get c.args.self.now place >>= λ p. Some (p.text, p.certificate)) c.in-None.ensures
