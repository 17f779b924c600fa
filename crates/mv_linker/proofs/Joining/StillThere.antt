-- The handles of an old module that stays lead where they led, once a bundle joins that replaces what it may.
use Rattle.mv_linker.proofs.Common.{[], ℕ, ◌&&◌, ◌+◌, ◌>>=◌, ◌||◌, ◌∙◌, ◌∷◌, ◌≡◌, Abilities, Bool, FunctionDefinition, FunctionHandle, InBounds, List, Module, ModuleName, Option, Some}
use Rattle.mv_linker.proofs.Common.{StructHandle, StructName, Tag, WellDefined, all_differ, and_from, and_parts, ap, are_compatible, both_there, bytes_eq, declared, declared_in, false}
use Rattle.mv_linker.proofs.Common.{false_from_ne_true, first_so, function_fits, function_is_there, function_named, function_place, function_stays, have_one_name, have_one_type, inl, inr}
use Rattle.mv_linker.proofs.Common.{is_module, is_public, list_all, list_any, may_replace, module_is_there, module_name, module_named, modules_are_there, name_of_function, not, on_bind}
use Rattle.mv_linker.proofs.Common.{option_map_or, or_left, own_name, refl, same_abilities, same_signature, same_Some, same_tags, second_so, signature_named, slice_get, struct_is_there}
use Rattle.mv_linker.proofs.Common.{struct_name, structs_are_there, structs_stay, subst, suc, sym, true, with_tables, zero}
use Rattle.std.proofs.lemmas.Option.{option_and_then_some}
use Rattle.mv_linker.proofs.Lemmas.{Among, all-among, among-any, among-at, any-among, follower, found_at, have_one_name-from, have_one_name-is, is_module-is, named-so, owns-structs}
use Rattle.mv_linker.proofs.Lemmas.{passing, so-named}
use Rattle.mv_linker.proofs.Joining.Upgraded.{Replaces, both-there, declared-stays}
use Rattle.mv_link_rules.proofs.TagTests.{same_tags-is, same_tags-same}
use Rattle.mv_bound_rules.proofs.NameLemmas.{is_module-from}
use Rattle.mv_interface.proofs.OwnDefinitions.{function_named_so}

-- a bundle that may join old modules
pub record Joining (old ns : List Module) : Type 0 where
  pub once : all_differ have_one_name old ≡ true
  pub apart : all_differ have_one_name ns ≡ true
  pub fits : are_compatible old ns ≡ true
  pub bounds : (m : Module) → Among old m → InBounds m
  pub defined : (m : Module) → Among old m → WellDefined m
  pub new_bounds : (n : Module) → Among ns n → InBounds n
  pub new_defined : (n : Module) → Among ns n → WellDefined n

-- signatures that are one with a third are one
signatures-joined : (a b c : Option (List Tag)) → both_there same_tags a b ≡ true → both_there same_tags b c ≡ true → both_there same_tags a c ≡ true
signatures-joined a b c h k =
    let p = both-there same_tags a b h in
    let q = both-there same_tags b c k in
    let middle : p.1 ≡ q.0 = same_Some p.1 q.0 (sym p.3 ∙ q.2) in
    let same : p.0 ≡ q.1 = same_tags-is p.0 p.1 p.4 ∙ middle ∙ same_tags-is q.0 q.1 q.4 in
    ap (λ x. both_there same_tags x c) p.2 ∙ ap (both_there same_tags (Some p.0)) (q.3 ∙ ap Some (sym same)) ∙ same_tags-same p.0

module _ (old ns : List Module) (j : Joining old ns) where
  -- c
  module-still-there : (m : Module) (h : ℕ) → module_is_there old m h ≡ true → module_is_there (with_tables old ns) m h ≡ true
  module-still-there m h e =
      let k = passing (λ name. list_any (is_module name) old) (module_name m h) e in
      let x = any-among (is_module k.0) old k.2 in
      let f = follower old ns j.once j.apart j.fits k.0 x.0 (so-named old k.0 x.0 j.once x.1 (is_module-is k.0 x.0 x.2)) in
      let n = named-so (with_tables old ns) k.0 f.0 f.1 in
      rw k.1 (among-any (is_module k.0) (with_tables old ns) f.0 n.0 (is_module-from k.0 f.0 n.1))

  pub modules-still-there : (m : Module) (h : ℕ) → modules_are_there old m h ≡ true → modules_are_there (with_tables old ns) m h ≡ true
  modules-still-there m zero e = refl
  modules-still-there m (suc h) e =
      and_from (module_is_there (with_tables old ns) m h) (modules_are_there (with_tables old ns) m h)
      (module-still-there m h (first_so (module_is_there old m h) (modules_are_there old m h) e))
      (modules-still-there m h (second_so (module_is_there old m h) (modules_are_there old m h) e))

  -- a module that replaces another
  pub replaced : (k : ModuleName) (m n : Module) → module_named old k ≡ Some m → module_named (with_tables old ns) k ≡ Some n → Among ns n → may_replace m n ≡ true → Replaces m n
  replaced k m n e f a h =
      let p = named-so old k m e in
      let q = named-so (with_tables old ns) k n f in
      record {
        owns = owns-structs m (j.defined m p.0);
        new_owns = owns-structs n (j.new_defined n a);
        named = p.1 ∙ sym q.1;
        stays = first_so (structs_stay m m.structs n n.structs) (list_all (function_stays m n) m.functions) h;
      }

  -- d
  declared-still : (name : StructName) (a : Abilities) → declared old name ≡ Some a → declared (with_tables old ns) name ≡ Some a
  declared-still name a e = option_and_then_some (declared_in name) (module_named old name.home) a e (λ m p q.
      let f = follower old ns j.once j.apart j.fits name.home m p in
      rw f.1 (elim f.2 [ inl same ↦ rw same q | inr r ↦ declared-stays m f.0 (replaced name.home m f.0 p f.1 r.0 r.1) name a q ]))

  struct-still-there : (m : Module) (h : ℕ) (handle : StructHandle) → struct_is_there old m h handle ≡ true → struct_is_there (with_tables old ns) m h handle ≡ true
  struct-still-there m h handle e =
      let name = passing (λ name. option_map_or (same_abilities handle.abilities) (declared old name) false) (struct_name m h) e in
      let a = passing (same_abilities handle.abilities) (declared old name.0) name.2 in
      rw (name.1, declared-still name.0 a.0 a.1) a.2

  pub structs-still-there : (m : Module) (h : ℕ) (handles : List StructHandle) → structs_are_there old m h handles ≡ true → structs_are_there (with_tables old ns) m h handles ≡ true
  structs-still-there m h [] e = refl
  structs-still-there m h (s ∷ ss) e =
      and_from (struct_is_there (with_tables old ns) m h s) (structs_are_there (with_tables old ns) m (h + 1) ss)
      (struct-still-there m h s (first_so (struct_is_there old m h s) (structs_are_there old m (h + 1) ss) e))
      (structs-still-there m (h + 1) ss (second_so (struct_is_there old m h s) (structs_are_there old m (h + 1) ss) e))

  -- e: a function that is named is found by its name
  identifier-so : (x : Module) (name : List ℕ) (d : FunctionDefinition) → function_named x name ≡ Some d → name_of_function x d ≡ Some name
  identifier-so x name d e = on_bind (function_place x name) (slice_get x.functions) d e (λ k k_is at.
      let f = found_at (λ (d : FunctionDefinition). option_map_or (bytes_eq name) (name_of_function x d) false) x.functions k k_is in
      function_named_so (name_of_function x d) name (subst (λ z. option_map_or (bytes_eq name) (name_of_function x z) false ≡ true) (same_Some f.entry d (sym f.at ∙ at)) f.passes))

  function-among : (x : Module) (name : List ℕ) (d : FunctionDefinition) → function_named x name ≡ Some d → Among x.functions d
  function-among x name d e = on_bind (function_place x name) (slice_get x.functions) d e (λ k k_is at. among-at x.functions k d at)

  -- a function of a replaced module still fits a handle of another module
  fits-still : (m x y : Module) (handle : FunctionHandle) (name : List ℕ) (d : FunctionDefinition) → have_one_name m x ≡ false → may_replace x y ≡ true → function_named x name ≡ Some d
      → function_fits m handle x d ≡ true → option_map_or (function_fits m handle y) (function_named y name) false ≡ true
  fits-still m x y handle name d apart h found fit =
      let one = and_parts (is_public d || have_one_name m x) _ fit in
      let public : is_public d ≡ true = or_first (is_public d) (have_one_name m x) apart one.0 in
      let kept = all-among (function_stays x y) x.functions d (second_so (structs_stay x x.structs y y.structs) (list_all (function_stays x y) x.functions) h) (function-among x name d found) in
      let stays : option_map_or (λ (e : FunctionDefinition). is_public e && have_one_type x d y e) (name_of_function x d >>= function_named y) false ≡ true =
      sym (ap (λ b. not b || option_map_or (λ (e : FunctionDefinition). is_public e && have_one_type x d y e) (name_of_function x d >>= function_named y) false) public) ∙ kept in
      let named : option_map_or (λ (e : FunctionDefinition). is_public e && have_one_type x d y e) (function_named y name) false ≡ true =
      sym (ap (λ o. option_map_or (λ (e : FunctionDefinition). is_public e && have_one_type x d y e) (o >>= function_named y) false) (identifier-so x name d found)) ∙ stays in
      let e = passing (λ (e : FunctionDefinition). is_public e && have_one_type x d y e) (function_named y name) named in
      let e_parts = and_parts (is_public e.0) (have_one_type x d y e.0) e.2 in
      let b = both-there _ (slice_get x.function_handles d.handle) (slice_get y.function_handles e.0.handle) e_parts.1 in
      let a = passing _ (slice_get x.function_handles d.handle) one.1 in
      let same : a.0 ≡ b.0 = same_Some a.0 b.0 (sym a.1 ∙ b.2) in
      let s = and_parts (same_signature x b.0.parameters y b.1.parameters) (same_signature x b.0.results y b.1.results) b.4 in
      let t = and_parts (same_signature m handle.parameters x a.0.parameters) (same_signature m handle.results x a.0.results) a.2 in
      let parameters = signatures-joined (signature_named m handle.parameters) (signature_named x b.0.parameters) (signature_named y b.1.parameters)
      (subst (λ (z : FunctionHandle). same_signature m handle.parameters x z.parameters ≡ true) same t.0) s.0 in
      let results = signatures-joined (signature_named m handle.results) (signature_named x b.0.results) (signature_named y b.1.results)
      (subst (λ (z : FunctionHandle). same_signature m handle.results x z.results ≡ true) same t.1) s.1 in
      rw (e.1, b.3) (and_from _ _ (or_left (is_public e.0) (have_one_name m y) e_parts.0) (and_from _ _ parameters results))
    where
      or_first : (a b : Bool) → b ≡ false → (a || b) ≡ true → a ≡ true
      or_first true b e h = refl
      or_first false b e h = cc

  -- of an old module that stays
  pub function-still-there : (m : Module) → ((n : Module) → Among ns n → have_one_name n m ≡ false) → (handle : FunctionHandle) → function_is_there old m handle ≡ true
      → function_is_there (with_tables old ns) m handle ≡ true
  function-still-there m kept handle e =
      let fits : Module → Bool = λ n. option_map_or (λ name. option_map_or (function_fits m handle n) (function_named n name) false) (slice_get m.identifiers handle.name) false in
      let x = passing fits (module_name m handle.module >>= module_named old) e in
      on_bind (module_name m handle.module) (module_named old) x.0 x.1 (λ k named x_at.
      let f = follower old ns j.once j.apart j.fits k x.0 x_at in
      ap (λ o. option_map_or fits (o >>= module_named (with_tables old ns)) false) named ∙ ap (λ o. option_map_or fits o false) f.1 ∙ elim f.2 [
        | inl same ↦ ap fits same ∙ x.2
        | inr r ↦
            let name = passing (λ name. option_map_or (function_fits m handle x.0) (function_named x.0 name) false) (slice_get m.identifiers handle.name) x.2 in
            let d = passing (function_fits m handle x.0) (function_named x.0 name.0) name.2 in
            ap (λ o. option_map_or (λ name. option_map_or (function_fits m handle f.0) (function_named f.0 name) false) o false) name.1
            ∙ fits-still m x.0 f.0 handle name.0 d.0 (apart k x.0 f.0 x_at f.1 r.0) r.1 d.1 d.2
      ])
    where
      apart : (k : ModuleName) (x y : Module) → module_named old k ≡ Some x → module_named (with_tables old ns) k ≡ Some y → Among ns y → have_one_name m x ≡ false
      apart k x y x_at y_at new = false_from_ne_true (have_one_name m x) (λ one.
          let o = have_one_name-is m x one in
          let x_named : own_name x ≡ Some k = (named-so old k x x_at).1 in
          let y_named : own_name y ≡ Some k = (named-so (with_tables old ns) k y y_at).1 in
          let yes : have_one_name y m ≡ true = have_one_name-from y m k y_named cc in
          let never : have_one_name y m ≡ false = kept y new in
          cc)
