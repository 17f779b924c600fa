-- The rules of linking over all modules of a result, from those over the bundle.
use Rattle.mv_linker.proofs.Common.{[], ℕ, ◌++◌, ◌+◌, ◌∙◌, ◌∷◌, ◌≡◌, All, All-head, All-tail, AreNames, AreNamesOf, Bool, InBounds, IsPublishable, IsStore, Links, List}
use Rattle.mv_linker.proofs.Common.{Module, Names, New, PublishedModule, Some, WellDefined, all_differ, and_from, and_parts, ap, are_compatible, function_is_there, have_one_name, inl, inr}
use Rattle.mv_linker.proofs.Common.{length, length-map, length_push, list_all, modules_are_there, names_hold, none-some, offered, published_of, refl, slice_get, slice_get-map}
use Rattle.mv_linker.proofs.Common.{struct_is_small, structs_are_there, subst, sym, tables_in, take, true, with_tables, IsTrue, Reaches}
use Rattle.mv_linker.proofs.Lemmas.{Among, all-among, among-all, among-at, among-result, bundle-there}
use Rattle.mv_linker.proofs.StructSizes.JoinedSizes.{small-joined}
use Rattle.mv_linker.proofs.Joining.Resolving.{each_push}
use Rattle.mv_linker.proofs.Joining.Scopes.{offered-push, offered-tables}
use Rattle.mv_linker.proofs.Joining.StillThere.{Joining, function-still-there, modules-still-there, structs-still-there}

-- the parts of what a module names
pub names-parts : (modules : List Module) (m : Module) → names_hold modules m ≡ true
    → (modules_are_there modules m (length m.module_handles) ≡ true) × (structs_are_there modules m 0 m.struct_handles ≡ true) × (list_all (function_is_there modules m) m.function_handles ≡ true)
names-parts modules m h =
    let one = and_parts _ (list_all (function_is_there modules m) m.function_handles) h in
    let two = and_parts (modules_are_there modules m (length m.module_handles)) (structs_are_there modules m 0 m.struct_handles) one.0 in
    (two.0, two.1, one.1)

-- what a published module passed
pub passed-among : (ps : List PublishedModule) (m : Module) → All IsPublishable ps → Among (tables_in ps) m → (p : PublishedModule) × IsPublishable p × (p.tables ≡ m)
passed-among (p ∷ ps) m all (inl e) = (p, All-head IsPublishable p ps all, sym e)
passed-among (p ∷ ps) m all (inr a) = passed-among ps m (All-tail IsPublishable p ps all) a
passed-among [] m all a = absurd a

-- a bundle that joins a store
pub joining : (ps qs : List PublishedModule) → IsStore ps → All IsPublishable qs → all_differ have_one_name (tables_in qs) ≡ true → are_compatible (tables_in ps) (tables_in qs) ≡ true
    → Joining (tables_in ps) (tables_in qs)
joining ps qs store passed apart fits = record {
  once = store.once;
  apart = apart;
  fits = fits;
  bounds = λ m a. let r = passed-among ps m store.passed a in subst (λ z. InBounds z) r.2 r.1.sound.bounds;
  defined = λ m a. let r = passed-among ps m store.passed a in subst (λ z. WellDefined z) r.2 r.1.sound.defined;
  new_bounds = λ m a. let r = passed-among qs m passed a in subst (λ z. InBounds z) r.2 r.1.sound.bounds;
  new_defined = λ m a. let r = passed-among qs m passed a in subst (λ z. WellDefined z) r.2 r.1.sound.defined;
}

-- the same of a bundle that is offered
pub joining-offered : (ps : List PublishedModule) (news : List New) → IsStore ps → All IsPublishable (published_of news) → all_differ have_one_name (offered news) ≡ true
    → are_compatible (tables_in ps) (offered news) ≡ true → Joining (tables_in ps) (offered news)
joining-offered ps news store passed apart fits =
    let same = offered-tables news in
    subst (Joining (tables_in ps)) same (joining ps (published_of news) store passed (rw same apart) (rw same fits))

-- the link rules c, d, e and g (specs/StoreRules.antt) of a bundle among the modules, and f of them all
pub record IsLinkedBundle (modules bundle : List Module) : Type 0 where
  pub named : IsTrue (list_all (names_hold modules) bundle)
  pub ordered : (m : Module) → Reaches modules m m → ⊥
  pub small : IsTrue (list_all (λ m. list_all (struct_is_small modules m) m.structs) bundle)

-- what holds of all holds of the bundle
pub bundle-links : (old ns : List Module) → all_differ have_one_name ns ≡ true → Links (with_tables old ns) → IsLinkedBundle (with_tables old ns) ns
bundle-links old ns apart links = record {
  named = among-all (names_hold (with_tables old ns)) ns (λ m a.
      let there = bundle-there old ns m apart a in
      and_from _ _
      (and_from _ _ (all-among (λ m. modules_are_there (with_tables old ns) m (length m.module_handles)) (with_tables old ns) m links.modules there)
      (all-among (λ m. structs_are_there (with_tables old ns) m 0 m.struct_handles) (with_tables old ns) m links.structs there))
      (all-among (λ m. list_all (function_is_there (with_tables old ns) m) m.function_handles) (with_tables old ns) m links.functions there));
  ordered = links.ordered;
  small = among-all (λ m. list_all (struct_is_small (with_tables old ns) m) m.structs) ns (λ m a. all-among (λ m. list_all (struct_is_small (with_tables old ns) m) m.structs) (with_tables old ns) m links.small (bundle-there old ns m apart a));
}

-- and what holds of the bundle holds of all
pub links-all : (old ns : List Module) → Joining old ns → Links old → IsLinkedBundle (with_tables old ns) ns → Links (with_tables old ns)
links-all old ns j links b = record {
  modules = among-all (λ m. modules_are_there (with_tables old ns) m (length m.module_handles)) (with_tables old ns) (λ m a.
      elim (among-result old ns m j.once a) [
        | inl n ↦ (names-parts (with_tables old ns) m (all-among (names_hold (with_tables old ns)) ns m b.named n)).0
        | inr r ↦ modules-still-there old ns j m (length m.module_handles) (all-among (λ m. modules_are_there old m (length m.module_handles)) old m links.modules r.0)
      ]);
  structs = among-all (λ m. structs_are_there (with_tables old ns) m 0 m.struct_handles) (with_tables old ns) (λ m a.
      elim (among-result old ns m j.once a) [
        | inl n ↦ (names-parts (with_tables old ns) m (all-among (names_hold (with_tables old ns)) ns m b.named n)).1
        | inr r ↦ structs-still-there old ns j m 0 m.struct_handles (all-among (λ m. structs_are_there old m 0 m.struct_handles) old m links.structs r.0)
      ]);
  functions = among-all (λ m. list_all (function_is_there (with_tables old ns) m) m.function_handles) (with_tables old ns) (λ m a.
      elim (among-result old ns m j.once a) [
        | inl n ↦ (names-parts (with_tables old ns) m (all-among (names_hold (with_tables old ns)) ns m b.named n)).2
        | inr r ↦ among-all (function_is_there (with_tables old ns) m) m.function_handles (λ f c.
            function-still-there old ns j m r.1 f (all-among (function_is_there old m) m.function_handles f (all-among (λ m. list_all (function_is_there old m) m.function_handles) old m links.functions r.0) c))
      ]);
  ordered = b.ordered;
  small = small-joined old ns j links b.small;
}

-- ---- the modules of a bundle, one after the other

pub named-more : (p : Module → Bool) (news : List New) (i : ℕ) (n : New) → list_all p (offered (take i news)) ≡ true → take (i + 1) news ≡ take i news ++ n ∷ [] → p n.module ≡ true
    → list_all p (offered (take (i + 1) news)) ≡ true
named-more p news i n h taken e = rw (taken, offered-push (take i news) n) (push (offered (take i news)) h)
  where
    push : (xs : List Module) → list_all p xs ≡ true → list_all p (xs ++ n.module ∷ []) ≡ true
    push [] h = and_from (p n.module) true e refl
    push (x ∷ xs) h = let parts = and_parts (p x) (list_all p xs) h in and_from (p x) (list_all p (xs ++ n.module ∷ [])) parts.0 (push xs parts.1)

pub offered-at : (news : List New) (i : ℕ) (n : New) → slice_get news i ≡ Some n → slice_get (offered news) i ≡ Some n.module
offered-at news i n e = rw (slice_get-map, e) refl

pub offered-among : (news : List New) (i : ℕ) (n : New) → slice_get news i ≡ Some n → Among (offered news) n.module
offered-among news i n e = among-at (offered news) i n.module (offered-at news i n e)

-- what the handles of the first modules of a bundle name
pub record NamesSoFar (modules bundle : List Module) (names : List Names) (i : ℕ) : Type 0 where
  pub len : length names ≡ i
  pub each : (k : ℕ) (n : Names) → slice_get names k ≡ Some n → (m : Module) → slice_get bundle k ≡ Some m → AreNames modules m n

pub no-names : (modules bundle : List Module) (names : List Names) → names ≡ [] → NamesSoFar modules bundle names 0
no-names modules bundle names e = subst (λ l. NamesSoFar modules bundle l 0) (sym e) (record { len = refl; each = λ k n at. absurd (none-some n at) })

pub more-names : (modules bundle : List Module) (names more : List Names) (i : ℕ) (n : Names) → NamesSoFar modules bundle names i → more ≡ names ++ n ∷ []
    → ((m : Module) → slice_get bundle i ≡ Some m → AreNames modules m n)
    → NamesSoFar modules bundle more (i + 1)
more-names modules bundle names more i n s e are =
    let P : ℕ → Names → Type 0 = λ k n. (m : Module) → slice_get bundle k ≡ Some m → AreNames modules m n in
    record {
      len = ap length e ∙ length_push names n ∙ ap (λ k. k + 1) s.len;
      each = λ k x at. each_push P names n s.each (subst (λ k. P k n) (sym s.len) are) k x (sym (ap (λ l. slice_get l k) e) ∙ at);
    }

pub all-names : (modules : List Module) (news : List New) (names : List Names) (i : ℕ) → NamesSoFar modules (offered news) names i → i ≡ length news → AreNamesOf modules (offered news) names
all-names modules news names i s all = record { len = s.len ∙ all ∙ sym (length-map news (λ (n : New). n.module)); each = λ k m n at n_at. s.each k n n_at m at }
