-- The modules and structs that a store has at a place: a struct's name stands for its module's own definition, at one place and one index.
use Rattle.std.proofs.Common.{◌≡◌, ℕ, true, false, List, Option, Some, sym, ap, ap₂, ◌∙◌, subst}
use Rattle.std.specs.{Prelude.slice_get, Option.option_map_or}
use Rattle.std.proofs.lemmas.Option.{same_Some}
use Rattle.mv_move_types.specs.{declared.tables.Field.Field, Names.ModuleName, Names.StructName, Names.same_module, Named.is_struct, Named.definition_of, Options.find_index}
use Rattle.mv_move_types.specs.{Published.PublishedModule}
use Rattle.mv_move_types.specs.Module.{Module, StructDefinition, name_at, own_name}
use Rattle.mv_bound_rules.specs.{Bounds.InBounds, Definitions.WellDefined}
use Rattle.mv_link_rules.specs.Link.{IsStore, IsPublishable, tables_in, have_one_name}
use Rattle.mv_module_text.proofs.Texts.{on_bind}
use Rattle.mv_interface.proofs.{OwnDefinitions.own-definition, OwnDefinitions.own_name-some}
use Rattle.mv_bound_rules.proofs.{Found.one_place, NameLemmas.same_module-same}
use Rattle.mv_soundness.proofs.Owned.{IsOwn}
use Rattle.mv_soundness.proofs.Lists.{All-at}
use Rattle.mv_bound_rules.proofs.Entries.{mapped-at}

-- the structs of a module of a store are found by their names
pub own_of_store : (published : List PublishedModule) (place : ℕ) (m : Module) → IsStore published → slice_get (tables_in published) place ≡ Some m
    → (i : ℕ) (d : StructDefinition) → slice_get m.structs i ≡ Some d → IsOwn (tables_in published) m i d
own_of_store published place m store at i d d_at =
    let p = mapped-at (λ (p : PublishedModule). p.tables) published place m at in
    let passed : IsPublishable p.0 = All-at IsPublishable published place p.0 store.passed p.1 in
    let sound = subst (λ (x : Module). InBounds x × WellDefined x) p.2 (passed.sound.bounds, passed.sound.defined) in
    let stands = own-definition (tables_in published) place m store.once at sound.0 sound.1 i d d_at in
    record { name = stands.0; named = stands.1; index = stands.3; definition = stands.2 }

module _ (published : List PublishedModule) (store : IsStore published) where
  -- a module of the store has a name
  own_there : (place : ℕ) (m : Module) → slice_get (tables_in published) place ≡ Some m → (name : ModuleName) × (own_name m ≡ Some name)
  own_there place m at =
      let p = mapped-at (λ (p : PublishedModule). p.tables) published place m at in
      let passed : IsPublishable p.0 = All-at IsPublishable published place p.0 store.passed p.1 in
      subst (λ (x : Module). (name : ModuleName) × (own_name x ≡ Some name)) p.2 (own_name-some p.0.tables passed.sound.bounds)

  -- a module stands at one place
  place_of : (p q : ℕ) (m : Module) → slice_get (tables_in published) p ≡ Some m → slice_get (tables_in published) q ≡ Some m → p ≡ q
  place_of p q m p_is q_is =
      let own = own_there p m p_is in
      let same : have_one_name m m ≡ true =
      subst (λ (x : Option ModuleName). option_map_or (λ name. option_map_or (λ other. same_module other name) x false) x false ≡ true) (sym own.1) (same_module-same own.0) in
      one_place have_one_name (tables_in published) p q m m store.once p_is q_is same same

  -- a struct stands at one place and one index
  pub index_of : (p q i j : ℕ) (name : StructName) → name_at (tables_in published) p i ≡ Some name → name_at (tables_in published) q j ≡ Some name → (p ≡ q) × (i ≡ j)
  index_of p q i j name e g =
      on_bind (slice_get (tables_in published) p) _ name e (λ m m_is e1.
      on_bind (slice_get m.structs i) _ name e1 (λ d d_is e2.
      on_bind (slice_get (tables_in published) q) _ name g (λ n n_is g1.
      on_bind (slice_get n.structs j) _ name g1 (λ f f_is g2.
      let left : IsOwn (tables_in published) m i d = own_of_store published p m store m_is i d d_is in
      let right : IsOwn (tables_in published) n j f = own_of_store published q n store n_is j f f_is in
      let first : left.name ≡ name = same_Some left.name name (sym left.named ∙ e2) in
      let second : right.name ≡ name = same_Some right.name name (sym right.named ∙ g2) in
      let names : left.name ≡ right.name = first ∙ sym second in
      let found : (m, d.fields) ≡ (n, f.fields) = same_Some (m, d.fields) (n, f.fields) (sym left.definition ∙ ap (definition_of (tables_in published)) names ∙ right.definition) in
      let modules : m ≡ n = ap (λ (x : Module × List Field). x.0) found in
      let indices : i ≡ j = same_Some i j (sym left.index ∙ ap₂ (λ (x : Module) (y : StructName). find_index (is_struct x y) x.structs) modules names ∙ right.index) in
      (place_of p q m m_is (n_is ∙ ap Some (sym modules)), indices)))))
