-- The dependencies of modules once a bundle joins: names keep their places, so those of a module that stays are the same.
--   was-needed, those-stay    of a module that stays
--   bundled-dependencies, kept-those           what stands at a place
use Rattle.mv_linker.proofs.Common.{ℕ, ◌&&◌, ◌<◌, ◌==◌, ◌∙◌, ◌≡◌, AreDependenciesIn, Contains}
use Rattle.mv_linker.proofs.Common.{Links, List, Module, None, Some, all_differ, ap, ap₂, arith, depends_on}
use Rattle.mv_linker.proofs.Common.{have_one_name, length, modules_are_there, names_module, not, own_name, places_in, position, refl, same_Some}
use Rattle.mv_linker.proofs.Common.{slice_get, slice_get_within, subst, suc, sym, true, with_tables, zero}
use Rattle.mv_linker.specs.DependencyGraph.{AreNeeds, DependsOnThose}
use Rattle.mv_linker.proofs.Lemmas.{Contains-at, at-Contains, depends_on-is, differ-result, all_at, name_at_one, one_test, element_at}
use Rattle.mv_linker.proofs.Joining.Bundled.{bundle-at, old-at}
use Rattle.mv_linker.proofs.Cycles.DependencyLemmas.{length-places}
use Rattle.mv_linker.proofs.Cycles.Graphs.{named_there}
use Rattle.mv_linker.proofs.Cycles.JoinedOrder.{names-stay}

-- what a module depends on is told by names
have_one_name-alike : (m x n : Module) → own_name x ≡ own_name n → have_one_name m x ≡ have_one_name m n
have_one_name-alike m x n e = simp (one_test x n e)

names_module-alike : (m x n : Module) → own_name x ≡ own_name n → (k : ℕ) → names_module m x k ≡ names_module m n k
names_module-alike m x n e zero = refl
names_module-alike m x n e (suc k) = simp (one_test x n e, names_module-alike m x n e k)

pub depends_on-alike : (m x n : Module) → own_name x ≡ own_name n → depends_on m x ≡ depends_on m n
depends_on-alike m x n e = ap₂ (λ a b. not a && b) (have_one_name-alike m x n e) (names_module-alike m x n e (length m.module_handles))

-- what an old module depends on among the modules that result, it depended on before
pub was-needed : (old ns : List Module) → all_differ have_one_name old ≡ true → Links old → (q : ℕ) (m : Module) → slice_get old q ≡ Some m → (j : ℕ) (n : Module)
    → slice_get (with_tables old ns) j ≡ Some n → depends_on m n ≡ true → (y : Module) × (slice_get old j ≡ Some y) × (depends_on m y ≡ true)
was-needed old ns once links q m at j n e depends =
    let names = (depends_on-is m n depends).1 in
    let there = named_there old m (length m.module_handles) names.handle names.name (all_at (λ m. modules_are_there old m (length m.module_handles)) old q m links.modules at) names.below names.named in
    let new = names-stay old ns there.0 there.1 there.2 in
    let same : j ≡ there.0 = name_at_one (with_tables old ns) names.name j there.0 n new.0 (differ-result old ns once) e new.1 names.own (new.2 ∙ there.3) in
    (there.1, ap (slice_get old) same ∙ there.2, depends_on-alike m there.1 n (there.3 ∙ sym names.own) ∙ depends)

-- the dependencies of an old module are the same among the modules that result
pub those-stay : (old ns : List Module) → all_differ have_one_name old ≡ true → Links old → (q : ℕ) (m : Module) → slice_get old q ≡ Some m → (P : ℕ → Type 0) → DependsOnThose old m P
    → DependsOnThose (with_tables old ns) m P
those-stay old ns once links q m at P d = record {
  there = λ j has.
      let x = element_at old j (d.there j has) in
      let new = names-stay old ns j x.0 x.1 in
      slice_get_within (with_tables old ns) j new.0 new.1;
  each = λ j n e. (
    λ has.
        let x = element_at old j (d.there j has) in
        let new = names-stay old ns j x.0 x.1 in
        let same : new.0 ≡ n = same_Some new.0 n (sym new.1 ∙ e) in
        sym (depends_on-alike m x.0 n (sym new.2 ∙ ap own_name same)) ∙ (d.each j x.0 x.1).0 has,
    λ depends. let y = was-needed old ns once links q m at j n e depends in (d.each j y.0 y.1).1 y.2,
  );
}

-- a place of the bundle is there, and each of its modules has one
pub place-there : (old ns : List Module) → all_differ have_one_name ns ≡ true → (k p : ℕ) → slice_get (places_in old ns) k ≡ Some p → p < length (with_tables old ns)
place-there old ns apart k p at =
    let n = element_at ns k (omega (arith, slice_get_within (places_in old ns) k p at, length-places old ns)) in
    slice_get_within (with_tables old ns) p n.0 (bundle-at old ns k p n.0 apart n.1 at)

pub placed-there : (old ns : List Module) → all_differ have_one_name ns ≡ true → (n : Module) → Contains ns n → (p : ℕ) × Contains (places_in old ns) p × (slice_get (with_tables old ns) p ≡ Some n)
placed-there old ns apart n has =
    let k = Contains-at ns n has in
    let p = element_at (places_in old ns) k.0 (let low = slice_get_within ns k.0 n k.1 in omega (arith, low, length-places old ns)) in
    (p.0, at-Contains (places_in old ns) k.0 p.0 p.1, bundle-at old ns k.0 p.0 n apart k.1 p.1)

module _ (old ns : List Module) (once : all_differ have_one_name old ≡ true) (apart : all_differ have_one_name ns ≡ true) (links : Links old) where
  -- at a place of the bundle stand those of its module
  pub bundled-dependencies : (all : List (List ℕ)) → AreDependenciesIn (with_tables old ns) ns all → (k q : ℕ) (needs : List ℕ) → slice_get (places_in old ns) k ≡ Some q
      → slice_get all k ≡ Some needs → (m : Module) → slice_get (with_tables old ns) q ≡ Some m → AreNeeds (with_tables old ns) m needs
  bundled-dependencies all are k q needs placed at m m_at =
      let n = element_at ns k (let low = slice_get_within all k needs at in omega (arith, low, are.len)) in
      let same : n.0 ≡ m = same_Some n.0 m (sym (bundle-at old ns k q n.0 apart n.1 placed) ∙ m_at) in
      subst (λ (x : Module). AreNeeds (with_tables old ns) x needs) same (are.each k n.0 needs n.1 at)

  -- and at any other those of the old one
  pub kept-those : (q : ℕ) (P : ℕ → Type 0) → position (λ p. p == q) (places_in old ns) ≡ None → ((m : Module) → slice_get old q ≡ Some m → DependsOnThose old m P)
      → (m : Module) → slice_get (with_tables old ns) q ≡ Some m → DependsOnThose (with_tables old ns) m P
  kept-those q P none are m m_at =
      let there : slice_get old q ≡ Some m = sym (old-at old ns q none) ∙ m_at in
      those-stay old ns once links q m there P (are m there)
