use Rattle.mv_interface.proofs.Common.{◌≡◌, ◌∙◌, ap, eqb-true, length, map, map-map, nil_from_length, refl, sym, ℕ, Bor, Global, List, Vec, IfOk-weaker}
use Rattle.mv_interface.specs.ByName.{IsByName, entry_by, names_at}
use Rattle.mv_interface.specs.declared.by_name.ByName.{ByName}
use Rattle.mv_interface.proofs.ByHalves.{by-name, by-no-name}
use Rattle.mv_interface.proofs.by_name.by_name.Goals as goal

pub returns : goal.returns
returns c =
    let names = c.args.names.now in
    let identifiers = c.args.identifiers.now in
    let index : Bor (List ℕ) × ℕ → ℕ = λ p. p.1 in
    IfOk-weaker c.entries_of.result (λ (v : Vec ByName Global). v.items ≡ map (λ p. entry_by names (index p)) c.deref.result.now) (λ (v : Vec ByName Global). IsByName identifiers (names_at identifiers names) v.items)
    (λ v is.
    by-name identifiers names c.in_ok-pairs.pairs.items c.sort.new.self.items (map index c.sort.new.self.items) v.items c.in_ok-pairs.ensures c.in_ok-sort.ensures.permutation c.in_ok-sort.ensures.sorted refl
    (is ∙ ap (map (λ p. entry_by names (index p))) c.deref.ensures.value ∙ sym (map-map (entry_by names) index c.sort.new.self.items))) c.entries_of.ensures

pub returns-then-is_empty : goal.returns-then-is_empty
returns-then-is_empty c =
    let names = c.args.names.now in
    by-no-name c.args.identifiers.now names c.new.result.items (nil_from_length names (eqb-true (length names) 0 (sym c.is_empty.ensures ∙ c.if-is_empty.true))) c.new.ensures.items
