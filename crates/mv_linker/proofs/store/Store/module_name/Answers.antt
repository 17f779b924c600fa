use Rattle.mv_linker.proofs.Common.{◌∙◌, ◌≡◌, ℕ, List, Name, None, Option, PublishedModule, Some, Texts, ap, option_and_then, own_name, name_in, option_map, published_as, published_under, slice_get}
use Rattle.mv_linker.proofs.Common.{slice_get-map, sym, tables_in}
use Rattle.mv_bound_rules.proofs.Found.{at-all}
use Rattle.mv_linker.specs.Kept.{AreKeyed}
use Rattle.mv_linker.proofs.store.Store.module_name.Goals as goal

-- the tables of the module at a place, by the entries of a store
table-at : (entries : List (Name × Texts)) (place : ℕ) (o : Option (Name × Texts)) → slice_get entries place ≡ o
    → slice_get (tables_in (published_under entries)) place ≡ option_map (λ (p : PublishedModule). p.tables) (option_map (λ (e : Name × Texts). published_as e.1) o)
table-at entries place o at =
    slice_get-map (λ (p : PublishedModule). p.tables) (published_under entries) place
    ∙ ap (option_map (λ (p : PublishedModule). p.tables)) (slice_get-map (λ (e : Name × Texts). published_as e.1) entries place ∙ ap (option_map (λ (e : Name × Texts). published_as e.1)) at)

-- and its name
name-of : (entries : List (Name × Texts)) (place : ℕ) (o : Option (Name × Texts)) → AreKeyed entries → slice_get entries place ≡ o
    → option_map (λ (e : Name × Texts). name_in e.0) o ≡ option_and_then own_name (slice_get (tables_in (published_under entries)) place)
name-of entries place None keyed at = ap (option_and_then own_name) (sym (table-at entries place None at))
name-of entries place (Some e) keyed at =
    sym (at-all (λ (e : Name × Texts). own_name (published_as e.1).tables ≡ Some (name_in e.0)) entries place e keyed at)
    ∙ ap (option_and_then own_name) (sym (table-at entries place (Some e) at))

pub returns-in-Some : goal.returns-in-Some
returns-in-Some c =
    let entries = c.self.inside.modules.entries in
    let key = c.in-Some.name.now in
    let named : Some (record { address = key.address; name = c.as_slice.result.now }) ≡ Some (name_in key) = ap (λ (n : List ℕ). Some (record { address = key.address; name = n })) c.as_slice.ensures.value in
    named ∙ name-of entries c.args.place (Some (key, c.in-Some.field-0-1.now)) c.self.invariant.1 (sym c.in-Some.ensures.entry)
    ∙ ap (λ (s : List PublishedModule). option_and_then own_name (slice_get (tables_in s) c.args.place)) c.self.view_is

pub returns-in-None : goal.returns-in-None
returns-in-None c =
    name-of c.self.inside.modules.entries c.args.place None c.self.invariant.1 (sym c.in-None.ensures.entry)
    ∙ ap (λ (s : List PublishedModule). option_and_then own_name (slice_get (tables_in s) c.args.place)) c.self.view_is
