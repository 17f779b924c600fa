use Rattle.mv_interface.proofs.Common.{◌≡◌, ◌∙◌, ℕ, List, Some, ap, arith, length-map, option_map, slice_get, slice_get-map, sym}
use Rattle.mv_interface.specs.ByName.{indices_in}
use Rattle.std.specs.Ordering.{nat_cmp}
use Rattle.std.specs.Cmp.Lexicographic.{slice_cmp}
use Rattle.mv_interface.specs.declared.by_name.ByName.{ByName}
use Rattle.mv_interface.proofs.ByHalves.{begins, goes-down, goes-up, nowhere, same-name}
use Rattle.mv_interface.proofs.by_name.find.Goals as goal

-- the index of an entry stands in the order
index-at : (entries : List ByName) (k : ℕ) (e : ByName) → slice_get entries k ≡ Some e → slice_get (indices_in entries) k ≡ Some e.index
index-at entries k e at = slice_get-map (λ (x : ByName). x.index) entries k ∙ ap (option_map (λ (x : ByName). x.index)) at

pub search-init : goal.search-init
search-init c = record {
  within = omega arith;
  so_far = λ names is. begins names (indices_in c.args.entries.now) c.args.name.now _ (sym (length-map c.args.entries.now (λ (x : ByName). x.index)));
}

pub search-preserved-in-Less : goal.search-preserved-in-Less
search-preserved-in-Less c = record {
  within = omega (arith, c.search.invariant.within, c.search-test.true);
  so_far = λ names is.
      goes-down names (indices_in c.args.entries.now) c.args.name.now c.search.low c.search.high _ _ _ is.ascending (c.search.invariant.so_far names is) (omega (arith, c.search-test.true))
      (index-at c.args.entries.now _ c.entry_at-entry.result c.entry_at-entry.ensures) (is.named _ c.entry_at-entry.result c.entry_at-entry.ensures)
      (ap (slice_cmp nat_cmp c.args.name.now) (sym c.identifier_at.ensures) ∙ sym c.cmp.ensures ∙ c.in-Less.is);
}

pub search-preserved : goal.search-preserved
search-preserved c = record {
  within = c.search.invariant.within;
  so_far = λ names is.
      goes-up names (indices_in c.args.entries.now) c.args.name.now c.search.low c.search.high _ _ _ is.ascending (c.search.invariant.so_far names is)
      (index-at c.args.entries.now _ c.entry_at-entry.result c.entry_at-entry.ensures) (is.named _ c.entry_at-entry.result c.entry_at-entry.ensures)
      (ap (slice_cmp nat_cmp c.args.name.now) (sym c.identifier_at.ensures) ∙ sym c.cmp.ensures ∙ c.in-Greater.is);
}

pub returns-in-Equal-clause-found : goal.returns-in-Equal-clause-found
returns-in-Equal-clause-found c names is =
    ap (slice_get names) c.from.ensures ∙ is.named _ c.entry_at-entry.result c.entry_at-entry.ensures ∙ ap (λ n. Some n) (sym c.identifier_at.ensures ∙ sym (same-name c.args.name.now _ (sym c.cmp.ensures ∙ c.in-Equal.is)))

pub returns-clause-found : goal.returns-clause-found
returns-clause-found c names is =
    nowhere names (indices_in c.args.entries.now) c.args.name.now c.search.low c.search.high is.ascending (c.search.invariant.so_far names is) c.search-test.false
