-- A store that a bundle joined is a store.
use Rattle.mv_linker.proofs.Common.{[], ℕ, ◌+◌, ◌∷◌, ◌≡◌, ◌≤◌, All, AreLowered, All-cons, All-head, All-nil, All-tail, IsLinkedTo, IsPublishable, IsStore, LinkedBundle, List, MayJoin, Module}
use Rattle.mv_linker.proofs.Common.{Option, PublishedModule, all_differ, arith, cond, false, have_one_name, length, subst, sym, tables_in, true, with_module, with_modules}
use Rattle.mv_move_types.specs.Published.{has_name_of}
use Rattle.mv_linker.proofs.Lemmas.{differ-result}
use Rattle.mv_linker.proofs.Joining.Scopes.{all_tables}

-- what holds of each module, and of one more
All-with_module : (P : PublishedModule → Type 0) (ps : List PublishedModule) (q : PublishedModule) → All P ps → P q → All P (with_module ps q)
All-with_module P [] q all one = All-cons P q [] one (All-nil P)
All-with_module P (p ∷ ps) q all one =
    elim (has_name_of q.tables p) as (λ b. All P (cond b (q ∷ ps) (p ∷ with_module ps q)))
    [ true ↦ All-cons P q ps one (All-tail P p ps all) | false ↦ All-cons P p (with_module ps q) (All-head P p ps all) (All-with_module P ps q (All-tail P p ps all) one) ]

pub All-with_modules : (P : PublishedModule → Type 0) (ps qs : List PublishedModule) → All P ps → All P qs → All P (with_modules ps qs)
All-with_modules P ps [] all more = all
All-with_modules P ps (q ∷ qs) all more = All-with_modules P (with_module ps q) qs (All-with_module P ps q all (All-head P q qs more)) (All-tail P q qs more)

-- no more modules than both have
one-more : (ps : List PublishedModule) (q : PublishedModule) → length (with_module ps q) ≤ length ps + 1
one-more [] q = omega arith
one-more (p ∷ ps) q = elim (has_name_of q.tables p) as (λ b. length (cond b (q ∷ ps) (p ∷ with_module ps q)) ≤ length (p ∷ ps) + 1) [ true ↦ omega arith | false ↦ omega (arith, one-more ps q) ]

joined-few : (ps qs : List PublishedModule) → length (with_modules ps qs) ≤ length ps + length qs
joined-few ps [] = omega arith
joined-few ps (q ∷ qs) = omega (arith, joined-few (with_module ps q) qs, one-more ps q)

-- so what may join gives a store
pub joined-store : (sender : Option ℕ) (old bundle : List PublishedModule) → IsStore old → All IsPublishable bundle → MayJoin sender (tables_in old) (tables_in bundle)
    (tables_in (with_modules old bundle)) → IsStore (with_modules old bundle)
joined-store sender old bundle store passed join = record {
  passed = All-with_modules IsPublishable old bundle store.passed passed;
  once = subst (λ (l : List Module). all_differ have_one_name l ≡ true) (sym (all_tables old bundle)) (differ-result (tables_in old) (tables_in bundle) store.once);
  links = join.links;
}

-- linked to it
pub joined-linked : (sender : Option ℕ) (old : List PublishedModule) (l : LinkedBundle) → IsStore old → All IsPublishable l.published → MayJoin sender (tables_in old) (tables_in l.published)
    (tables_in (with_modules old l.published)) → length old + length l.published ≤ 65536
    → AreLowered (tables_in old) (tables_in l.published) (tables_in (with_modules old l.published)) l.lowered → IsLinkedTo old l
joined-linked sender old l store passed join few lowered = record {
  passed = passed;
  once = join.once;
  compatible = join.compatible;
  whole = joined-store sender old l.published store passed join;
  few = omega (arith, few, joined-few old l.published);
  lowered = lowered;
}
