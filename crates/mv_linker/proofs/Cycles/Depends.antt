-- The modules that a module depends on, by the places that its handles name.
use Rattle.mv_linker.proofs.Common.{ℕ, ◌<◌, ◌↔◌, ◌∙◌, ◌≡◌, ◌≤◌, All, AreHandlePlaces, Contains, List, Module}
use Rattle.mv_linker.proofs.Common.{ModuleName, Some, all_differ, ap, arith, both_ways, eqb, eqb-false, false_from_ne_true, get_or}
use Rattle.mv_linker.proofs.Common.{have_one_name, length, module_name, module_place, ne_eqb, not, not-true, on_bind}
use Rattle.mv_linker.proofs.Common.{others, own_name, same_Some, slice_get, slice_get_within, subst, sym, true}
use Rattle.std.proofs.lemmas.List.Elements.{All-contains_itself}
use Rattle.mv_linker.specs.DependencyGraph.{AreNeeds, DependsOnThose}
use Rattle.mv_bit_sets.specs.BitSets.{has}
use Rattle.mv_linker.proofs.Lemmas.{Contains-at, at-Contains, depends_on-from, depends_on-is, have_one_name-from, have_one_name-is, kept_at, module_place-from, module_place-is}
use Rattle.mv_linker.proofs.Lemmas.{name_at_one, element_at}
use Rattle.mv_bound_rules.proofs.Found.{kept_from}

-- the handles' places without a module's own are those of the modules that it depends on
module _ (modules : List Module) (m : Module) (own : ℕ) (places : List ℕ) (here : slice_get modules own ≡ Some m) (once : all_differ have_one_name modules ≡ true)
    (p : AreHandlePlaces modules m places) where
  -- what a place among the others stands for
  record IsOther (j : ℕ) : Type 0 where
    pub apart : j ≡ own → ⊥
    pub handle : ℕ
    pub low : handle < length m.module_handles
    pub name : ModuleName
    pub named : module_name m handle ≡ Some name
    pub place : module_place modules name ≡ Some j

  other_from : (j : ℕ) → Contains (others own places) j → IsOther j
  other_from j has =
      let at = Contains-at (others own places) j has in
      let k = kept_from (λ q. not (eqb q own)) places at.0 j at.1 in
      let named = p.each k.place j k.at in
      let low = slice_get_within places k.place j k.at in
      on_bind (module_name m k.place) (module_place modules) j named
      (λ name e g. record { apart = eqb-false j own (not-true (eqb j own) k.passes); handle = k.place; low = omega (arith, low, p.len); name = name; named = e; place = g })

  pub dependencies_from : DependsOnThose modules m (λ j. Contains (others own places) j)
  dependencies_from =
      record {
        there = λ j has.
            let o = other_from j has in
            let at = module_place-is modules o.name j o.place in
            slice_get_within modules j at.0 at.1;
        each = λ j n e. (
          λ has.
              let o = other_from j has in
              let at = module_place-is modules o.name j o.place in
              let named : own_name n ≡ Some o.name = subst (λ (x : Module). own_name x ≡ Some o.name) (same_Some at.0 n (sym at.1 ∙ e)) at.2 in
              depends_on-from m n o.name o.handle o.low o.named named
              (false_from_ne_true (have_one_name m n) (λ one.
              let names = have_one_name-is m n one in
              o.apart (name_at_one modules names.0 j own n m once e here names.2 names.1))),
          λ depends.
              let d = depends_on-is m n depends in
              let h = d.1.handle in
              let low = d.1.below in
              let at = element_at places h (omega (arith, low, p.len)) in
              let place : at.0 ≡ j = same_Some at.0 j (sym (rw d.1.named at (p.each h at.0 at.1)) ∙ module_place-from modules d.1.name j n once e d.1.own) in
              let apart : j ≡ own → ⊥ = λ same.
              let one : n ≡ m = same_Some n m (sym e ∙ ap (slice_get modules) same ∙ here) in
              let own_is : own_name m ≡ Some d.1.name = subst (λ (x : Module). own_name x ≡ Some d.1.name) one d.1.own in
              both_ways (have_one_name m n) d.0 (have_one_name-from m n d.1.name own_is d.1.own) in
              let k = kept_at (λ q. not (eqb q own)) places h j (at.1 ∙ ap (λ x. Some x) place) (ap not (ne_eqb j own apart)) in
              at-Contains (others own places) k.0 j k.1,
        );
      }

-- and so does a set of them
pub needed_from : (modules : List Module) (m : Module) (own : ℕ) (places : List ℕ) → slice_get modules own ≡ Some m → all_differ have_one_name modules ≡ true → AreHandlePlaces modules m places
    → (needs : List ℕ) → ((p : ℕ) → (has needs p ≡ true) ↔ Contains (others own places) p) → AreNeeds modules m needs
needed_from modules m own places here once p needs same =
    let are = dependencies_from modules m own places here once p in
    record {
      there = λ j is. are.there j ((same j).0 is);
      each = λ j n at. ((λ is. (are.each j n at).0 ((same j).0 is)), (λ depends. (same j).1 ((are.each j n at).1 depends)));
    }

-- they are few where the modules are
pub others-below : (modules : List Module) (m : Module) (own : ℕ) (places : List ℕ) → slice_get modules own ≡ Some m → all_differ have_one_name modules ≡ true → AreHandlePlaces modules m places
    → length modules ≤ 65536 → All (λ p. p < 65536) (others own places)
others-below modules m own places here once p few k d low =
    let there = (dependencies_from modules m own places here once p).there (get_or (others own places) k d) (All-contains_itself (others own places) k d low) in
    omega (arith, there, few)
