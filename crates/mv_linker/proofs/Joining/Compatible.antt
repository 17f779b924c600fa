-- What a bundle replaces, module by module.
use Rattle.mv_linker.proofs.Common.{ℕ, ◌<◌, ◌>>=◌, ◌||◌, ◌∙◌, ◌≡◌, List, Module, None, Option, PublishedModule, Some, all_differ, all_follow, ap, are_compatible, arith, cases_Bool}
use Rattle.mv_linker.proofs.Common.{follows, have_one_name, inl, inr, is_module, length, list_all, may_replace, module_named, module_place, not, on_bind, own_name, refl, replaced_in}
use Rattle.mv_linker.proofs.Common.{slice_get, sym, tables_in, true}
use Rattle.mv_linker.proofs.Lemmas.{Among, all-among, among-all, found_at, have_one_name-from, have_one_name-is, named-so, so-named}
use Rattle.mv_linker.proofs.Joining.Scopes.{within_tables}

-- what replaces only what it may is compatible
pub follow-compatible : (old ns : List Module) → all_differ have_one_name old ≡ true → all_follow old ns ≡ true → are_compatible old ns ≡ true
follow-compatible old ns once all =
    among-all (λ m. list_all (λ n. not (have_one_name m n) || may_replace m n) ns) old (λ m a.
    among-all (λ n. not (have_one_name m n) || may_replace m n) ns (λ n b. one m n a (all-among (follows old) ns n all b)))
  where
    one : (m n : Module) → Among old m → follows old n ≡ true → (not (have_one_name m n) || may_replace m n) ≡ true
    one m n a f = elim (cases_Bool (have_one_name m n)) [
      | inl p ↦
          let k = have_one_name-is m n p in
          rw (p, ← f, k.2, so-named old k.0 m once a k.1) refl
      | inr p ↦ rw p refl
    ]

-- and the other way round
pub compatible-follow : (old ns : List Module) → are_compatible old ns ≡ true → all_follow old ns ≡ true
compatible-follow old ns fits = among-all (follows old) ns (λ n b. go n b (own_name n >>= module_named old) refl)
  where
    go : (n : Module) → Among ns n → (o : Option Module) → (own_name n >>= module_named old) ≡ o → follows old n ≡ true
    go n b None p = rw p refl
    go n b (Some m) p = on_bind (own_name n) (module_named old) m p (λ k named e.
        let at = named-so old k m e in
        let both = all-among (λ n. not (have_one_name m n) || may_replace m n) ns n (all-among (λ m. list_all (λ n. not (have_one_name m n) || may_replace m n) ns) old m fits at.0) b in
        rw p (sym (ap (λ b. not b || may_replace m n) (have_one_name-from m n k at.1 named)) ∙ both))

-- ---- what a module replaces, by its place

pub replaced-below : (ps : List PublishedModule) (n : Module) (k : ℕ) → replaced_in (tables_in ps) n ≡ Some k → k < length ps
replaced-below ps n k e = on_bind (own_name n) (module_place (tables_in ps)) k e (λ name name_is at.
    let f = found_at (is_module name) (tables_in ps) k at in within_tables ps k f.entry f.at)

pub follows-none : (old : List Module) (n : Module) → replaced_in old n ≡ None → follows old n ≡ true
follows-none old n e = grind (arith, e)

pub follows-at : (old : List Module) (n : Module) (k : ℕ) (m : Module) → replaced_in old n ≡ Some k → slice_get old k ≡ Some m → follows old n ≡ may_replace m n
follows-at old n k m e at = on_bind (own_name n) (module_place old) k e (λ name name_is place. rw (name_is, place, at) refl)
