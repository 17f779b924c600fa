-- What the store says of the functions that a module's handles name.
use Rattle.mv_soundness.proofs.Typing.Common.{◌≡◌, ℕ, true, List, length, refl, ap, subst, ◌∙◌, ◌++◌, Option, Some, None, Ok, Bool, false, sym, and_from, eq-eqb, or_right}
use Rattle.mv_soundness.proofs.Typing.Common.{option_and_then_some, first_so, second_so, list_all, option_map_or, ◌==◌, ◌&&◌, slice_get, ok_or, ◌||◌, Module, FunctionDefinition}
use Rattle.mv_soundness.proofs.Typing.Common.{own_name, module_place, function_place, module_named, ◌>>=◌, Tag, FunctionHandle, Token, Here, Callee, Faults, LinkageFault, entry, below}
use Rattle.mv_soundness.proofs.Typing.Common.{function_in, instruction_in, local_count, ends_well, on_bind, function_definition_fits, instruction_fits, all_at, there_below, then_found}
use Rattle.mv_soundness.proofs.Typing.Common.{same_module-same, structs_are_there, tokens_named, function_is_typed, StoreAccepted, ModuleAccepted, CallFacts}
use Rattle.mv_soundness.proofs.{Typing.Operands.tags_by, Typing.Advances.start_typed, Typing.Names.tag_is_found, Typing.OwnDefinitions.then_ok}
use Rattle.mv_move_types.specs.{Names.same_module, Module.module_name, Tags.same_tags, Named.is_module, Named.have_one_name, Named.is_public}
use Rattle.mv_link_rules.specs.StoreRules.{function_named, function_fits, function_is_there}
use Rattle.mv_bound_rules.specs.{TypesByName.signature_named, TypesByName.same_signature}
use Rattle.mv_machine.specs.{Step.signature_tags, StepControl.callee, StepControl.said_by, StepControl.found_by}
use Rattle.mv_link_rules.proofs.TagTests.{same_tags-is, same_tags-same}
use Rattle.mv_bound_rules.proofs.{NameLemmas.same_module-is, Found.one_place}

-- what a test that passed has found
pub on_found : {A P : Type 0} (p : A → Bool) (r : Option A) → option_map_or p r false ≡ true → ((x : A) → r ≡ Some x → p x ≡ true → P) → P
on_found p None e go = let z : false ≡ true = e in absurd cc
on_found p (Some x) e go = go x refl e

-- the tags of a signature's types are found
signature_found : (modules : List Module) (m : Module) → structs_are_there modules m 0 m.struct_handles ≡ true → (i : ℕ) (tags : List Tag)
    → signature_named m i ≡ Some tags → signature_tags modules m i ≡ Ok tags
unfolding signature_tags
signature_found modules m links i tags e =
    on_bind (slice_get m.signatures i) (tokens_named m) tags e (λ ts ts_is e1.
    then_ok (entry m.signatures i) _ ts tags (ap (λ (x : Option (List Token)). ok_or x (Faults LinkageFault)) ts_is) (tags_by modules m (tag_is_found modules m links) ts tags e1))

-- two signatures that list the same types
same_named : {P : Type 0} (m : Module) (i : ℕ) (n : Module) (j : ℕ) → same_signature m i n j ≡ true → ((tags : List Tag) → signature_named m i ≡ Some tags → signature_named n j ≡ Some tags → P) → P
same_named m i n j e go =
    on_found (λ a. option_map_or (same_tags a) (signature_named n j) false) (signature_named m i) e (λ a a_is e1.
    on_found (same_tags a) (signature_named n j) e1 (λ b b_is e2.
    go a a_is (b_is ∙ ap Some (sym (same_tags-is a b e2)))))

pub call_facts : (h : Here) → StoreAccepted h.modules → slice_get h.modules h.state.top.function.place ≡ Some h.home
    → (i : ℕ) (handle : FunctionHandle) (parameters results : List Token) → slice_get h.home.function_handles i ≡ Some handle
    → slice_get h.home.signatures handle.parameters ≡ Some parameters → slice_get h.home.signatures handle.results ≡ Some results
    → CallFacts h i handle parameters results
unfolding callee said_by found_by
call_facts h store home_at i handle parameters results handle_at parameters_at results_at =
    let m : Module = h.home in
    let all = all_at (λ m. list_all (function_is_there h.modules m) m.function_handles) h.modules h.state.top.function.place m store.links.functions home_at in
    let fine = all_at (function_is_there h.modules m) m.function_handles i handle all handle_at in
    let own_links = all_at (λ m. structs_are_there h.modules m 0 m.struct_handles) h.modules h.state.top.function.place m store.links.structs home_at in
    on_found (λ n. option_map_or (λ name. option_map_or (function_fits m handle n) (function_named n name) false) (slice_get m.identifiers handle.name) false)
    (module_name m handle.module >>= module_named h.modules) fine (λ n n_is f1.
    on_bind (module_name m handle.module) (module_named h.modules) n n_is (λ home_name home_name_is n_named.
    option_and_then_some (slice_get h.modules) (module_place h.modules home_name) n n_named (λ place place_is n_at.
    on_found (λ name. option_map_or (function_fits m handle n) (function_named n name) false) (slice_get m.identifiers handle.name) f1 (λ name name_is f2.
    on_found (function_fits m handle n) (function_named n name) f2 (λ d d_is f3.
    on_bind (function_place n name) (slice_get n.functions) d d_is (λ index index_is d_at.
    on_found (λ (own : FunctionHandle). same_signature m handle.parameters n own.parameters && same_signature m handle.results n own.results)
    (slice_get n.function_handles d.handle) (second_so (is_public d || have_one_name m n) _ f3) (λ own own_is f4.
    same_named m handle.parameters n own.parameters (first_so (same_signature m handle.parameters n own.parameters) (same_signature m handle.results n own.results) f4) (λ ptags p_is q_is.
    same_named m handle.results n own.results (second_so (same_signature m handle.parameters n own.parameters) (same_signature m handle.results n own.results) f4) (λ rtags r_is s_is.
    on_bind (slice_get n.signatures own.parameters) (tokens_named n) ptags q_is (λ own_parameters own_parameters_at own_parameters_named.
    let a : ModuleAccepted n = store.each place n n_at in
    let links = all_at (λ m. structs_are_there h.modules m 0 m.struct_handles) h.modules place n store.links.structs n_at in
    let inside = all_at (function_in n) n.functions index d a.bounds.functions d_at in
    let inside3 = first_so (below d.handle n.function_handles && below d.locals n.signatures && list_all (λ i. below i n.structs) d.acquires)
    (list_all (instruction_in n (local_count n d) (length d.code)) d.code) inside in
    let inside2 = first_so (below d.handle n.function_handles && below d.locals n.signatures) (list_all (λ i. below i n.structs) d.acquires) inside3 in
    let others = there_below n.signatures d.locals (second_so (below d.handle n.function_handles) (below d.locals n.signatures) inside2) in
    let code_inside = second_so (below d.handle n.function_handles && below d.locals n.signatures && list_all (λ i. below i n.structs) d.acquires)
    (list_all (instruction_in n (local_count n d) (length d.code)) d.code) inside in
    let written = all_at (function_definition_fits n.version) n.functions index d a.text.functions d_at in
    let c : Callee = record { function = record { place = place; index = index }; home = n; definition = d; parameters = ptags; results = rtags } in
    let allowed : ((place == h.state.top.function.place) || is_public d) ≡ true = may_call n d place n_at (first_so (is_public d || have_one_name m n) _ f3) in
    let ps = signature_found h.modules m own_links handle.parameters ptags p_is in
    let rs = signature_found h.modules m own_links handle.results rtags r_is in
    let qs = signature_found h.modules n links own.parameters ptags q_is in
    let ss = signature_found h.modules n links own.results rtags s_is in
    let own_parameters_are : tokens_named m parameters ≡ Some ptags = sym (ap (λ (x : Option (List Token)). x >>= tokens_named m) parameters_at) ∙ p_is in
    let own_results_are : tokens_named m results ≡ Some rtags = sym (ap (λ (x : Option (List Token)). x >>= tokens_named m) results_at) ∙ r_is in
    record {
      callee_is = c;
      own_parameters = own_parameters;
      others = others.0;
      is_found =
          rw (handle_at, home_name_is, name_is, ps, rs, place_is, n_at, index_is, d_at, own_is, qs, ss, and_from _ _ (same_tags-same ptags) (same_tags-same rtags), allowed) refl;
      parameter_tags = own_parameters_are;
      result_names = own_results_are;
      is_home = n_at;
      is_function = d_at;
      are_others = others.1;
      are_tokens = then_found (slice_get n.function_handles d.handle) _ own (Some (own_parameters ++ others.0)) own_is
          (then_found (slice_get n.signatures own.parameters) _ own_parameters (Some (own_parameters ++ others.0)) own_parameters_at
          (then_found (slice_get n.signatures d.locals) _ others.0 (Some (own_parameters ++ others.0)) others.1 refl));
      own_parameter_tags = own_parameters_named;
      own_results = then_found (slice_get n.function_handles d.handle) _ own (Some rtags) own_is s_is;
      starts = start_typed n d (all_at (function_is_typed n) n.functions index d a.types d_at)
          (all_at (λ (d : FunctionDefinition). ends_well d.code) n.functions index d a.flow d_at) code_inside (second_so _ (list_all (instruction_fits n.version) d.code) written);
    }))))))))))
  where
    may_call : (n : Module) (d : FunctionDefinition) (place : ℕ) → slice_get h.modules place ≡ Some n → (is_public d || have_one_name h.home n) ≡ true
        → ((place == h.state.top.function.place) || is_public d) ≡ true
    may_call n d place n_at e = by_case (is_public d) (have_one_name h.home n) refl e
      where
        by_case : (a b : Bool) → have_one_name h.home n ≡ b → (a || b) ≡ true → ((place == h.state.top.function.place) || a) ≡ true
        by_case true b p q = or_right (place == h.state.top.function.place) true refl
        by_case false false p q = absurd cc
        by_case false true p q =
            on_found (λ name. is_module name n) (own_name h.home) p (λ name name_is one.
            on_found (λ own. same_module own name) (own_name n) one (λ own own_is same.
            let turned : have_one_name n h.home ≡ true = rw (own_is, name_is, same_module-is own name same) (same_module-same name) in
            let places : place ≡ h.state.top.function.place = one_place have_one_name h.modules place h.state.top.function.place n h.home store.once n_at home_at turned p in
            subst (λ (x : ℕ). ((place == x) || false) ≡ true) places (ap (λ (b : Bool). b || false) (eq-eqb place place refl))))
