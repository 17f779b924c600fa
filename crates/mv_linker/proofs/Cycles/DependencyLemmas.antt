-- Dependencies, place by place.
use Rattle.mv_linker.proofs.Common.{[], ℕ, ◌++◌, ◌+◌, ◌∙◌, ◌∷◌, ◌≡◌, ◌≤◌, AreDependenciesIn, ArePlaces, List, Module, Some}
use Rattle.mv_linker.proofs.Common.{ap, arith, count_after, have_one_name, length, length_push, none-some, place_for, places_in, refl}
use Rattle.mv_linker.proofs.Common.{slice_get, subst, suc, sym, with_table, with_tables}
use Rattle.mv_linker.specs.DependencyGraph.{AreNeeds}
use Rattle.mv_linker.proofs.Lemmas.{place_below}
use Rattle.mv_linker.proofs.Joining.Resolving.{each_push}
use Rattle.mv_linker.proofs.Joining.Scopes.{length-with_table}

-- a bundle's places tell how many modules there are then
pub count-places : (ms ns : List Module) → count_after (places_in ms ns) (length ms) ≡ length (with_tables ms ns)
count-places ms [] = refl
count-places ms (n ∷ ns) = ap (count_after (places_in (with_table ms n) ns)) (sym (length-with_table ms n)) ∙ count-places (with_table ms n) ns

pub length-places : (ms ns : List Module) → length (places_in ms ns) ≡ length ns
length-places ms [] = refl
length-places ms (n ∷ ns) = ap suc (length-places (with_table ms n) ns)

place-within : (ms : List Module) (n : Module) → place_for ms n ≤ length ms
place-within ms n = let low = place_below (have_one_name n) ms in grind (arith, low)

-- a bundle's places are there, one after the other
pub places-within : (ms ns : List Module) → ArePlaces (places_in ms ns) (length ms)
places-within ms [] = tt
places-within ms (n ∷ ns) = (place-within ms n, subst (λ c. ArePlaces (places_in (with_table ms n) ns) c) (length-with_table ms n) (places-within (with_table ms n) ns))

-- the dependencies of the first modules of a bundle
pub record DependenciesSoFar (modules bundle : List Module) (all : List (List ℕ)) (i : ℕ) : Type 0 where
  pub len : length all ≡ i
  pub each : (k : ℕ) (needs : List ℕ) → slice_get all k ≡ Some needs → (n : Module) → slice_get bundle k ≡ Some n → AreNeeds modules n needs

pub none-yet : (modules bundle : List Module) (all : List (List ℕ)) → all ≡ [] → DependenciesSoFar modules bundle all 0
none-yet modules bundle all e =
    rw e (record { len = refl; each = λ k d at. absurd (none-some d at) })

pub one-more : (modules bundle : List Module) (all more : List (List ℕ)) (i : ℕ) (needs : List ℕ) → DependenciesSoFar modules bundle all i → more ≡ all ++ needs ∷ []
    → ((n : Module) → slice_get bundle i ≡ Some n → AreNeeds modules n needs) → DependenciesSoFar modules bundle more (i + 1)
one-more modules bundle all more i needs s e is =
    let P : ℕ → List ℕ → Type 0 = λ k x. (n : Module) → slice_get bundle k ≡ Some n → AreNeeds modules n x in
    record {
      len = omega (arith, ap length e, length_push all needs, s.len);
      each = λ k x at. each_push P all needs s.each (subst (λ n. P n needs) (sym s.len) is) k x (sym (ap (λ l. slice_get l k) e) ∙ at);
    }

-- once all were looked at
pub all-found : (modules bundle : List Module) (all : List (List ℕ)) (i : ℕ) → DependenciesSoFar modules bundle all i → i ≡ length bundle → AreDependenciesIn modules bundle all
all-found modules bundle all i s most = record { len = s.len ∙ most; each = λ k n d n_at at. s.each k d at n n_at }
