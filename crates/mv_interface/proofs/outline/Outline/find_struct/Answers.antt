use Rattle.mv_interface.proofs.Common.{ℕ, List, map, subst, sym}
use Rattle.std.specs.Prelude.{MatchOption}
use Rattle.mv_interface.specs.ByName.{IsByName, names_at}
use Rattle.mv_interface.specs.Outline.{IsStructNamed, OutlineView}
use Rattle.mv_interface.specs.declared.by_name.ByName.{ByName}
use Rattle.mv_interface.specs.declared.outline.StructEntry.{StructEntry}
use Rattle.mv_interface.proofs.OutlineOrders.{struct-found}
use Rattle.mv_interface.proofs.outline.Outline.find_struct.Goals as goal

pub returns-clause-found : goal.returns-clause-found
returns-clause-found c =
    let o = c.self.inside in
    let names = names_at o.identifiers (map (λ (s : StructEntry). s.identifier) o.structs.items) in
    subst (λ (v : OutlineView). MatchOption c.find.result ((k : ℕ) → IsStructNamed v k c.args.name.now → ⊥) (λ k. IsStructNamed v k c.args.name.now)) c.self.view_is
    (struct-found o.identifiers o.structs.items o.fields o.functions.items c.args.name.now c.find.result
    (c.find.ensures.found names (subst (λ (l : List ByName). IsByName o.identifiers names l) (sym c.deref.ensures.value) c.self.invariant.2)))
