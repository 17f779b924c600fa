-- A certificate that holds of a module holds of each of its functions; and what is known where a callee begins.
use Rattle.mv_soundness.proofs.Guided.Common.{◌≡◌, ℕ, zero, suc, ◌+◌, ◌-◌, List, ◌∷◌, ◌++◌, map, length, true, refl, sym, ◌∙◌, ap, subst, arith, Bool, Some, None, option_map, Ok, Availability}
use Rattle.mv_soundness.proofs.Guided.Common.{and_parts, length-append, same_Some, slice_get, Module, FunctionDefinition, local_tokens, same_tags, Available}
use Rattle.mv_soundness.proofs.Guided.Common.{Unavailable, FunctionHandle, Token, callee-is, signature-is, Callee, Here, Value, Known, Certificate, Stated, flow_holds, edges_leq}
use Rattle.mv_soundness.proofs.Guided.Common.{on_bind, locals_leq, AsKnown, StoreFacts}
use Rattle.mv_soundness.proofs.{Typing.Callees.on_found, Borrows.Available.known-start}
use Rattle.mv_move_types.specs.Module.{parameter_tokens}
use Rattle.mv_certificate_rules.specs.Certificate.{known_at_start, locals_hold, edges_hold, each_function}
use Rattle.mv_certificate_rules.specs.LocalsRules.{locals_after, start_locals}
use Rattle.mv_certificate_rules.specs.BorrowRules.{edges_after}
use Rattle.mv_machine.specs.StepControl.{callee}
use Rattle.mv_machine.proofs.Transfers.{tags-long}
use Rattle.mv_link_rules.proofs.TagTests.{same_tags-is}
use Rattle.std.proofs.Common.{replicate}
use Rattle.mv_module_text.proofs.Rows.{on_map}

-- what is stated of a function flows
pub record Flows (m : Module) (d : FunctionDefinition) (stated : Stated) : Type 0 where
  pub start : Known
  pub is_start : known_at_start m d ≡ Some start
  pub locals : flow_holds locals_after locals_leq m d start.locals (map (option_map (λ (k : Known). k.locals)) stated) ≡ true
  pub edges : flow_holds edges_after edges_leq m d start.edges (map (option_map (λ (k : Known). k.edges)) stated) ≡ true

each-at : (test : FunctionDefinition → Stated → Bool) (ds : List FunctionDefinition) (cs : Certificate) (k : ℕ) (d : FunctionDefinition) → each_function test ds cs ≡ true → slice_get ds k ≡ Some d
    → (c : Stated) × (slice_get cs k ≡ Some c) × (test d c ≡ true)
each-at test (x ∷ ds) (c ∷ cs) zero d h e = (c, refl, subst (λ y. test y c ≡ true) (same_Some x d e) (and_parts (test x c) (each_function test ds cs) h).0)
each-at test (x ∷ ds) (c ∷ cs) (suc k) d h e = each-at test ds cs k d (and_parts (test x c) (each_function test ds cs) h).1 e
each-at test ds cs k d h e = absurd cc

module _ (depends : ℕ → ℕ → Type 0) (modules : List Module) (certificates : List Certificate) (store : StoreFacts depends modules certificates) where
  -- each function of the store has something stated, which flows
  pub function-flows : (place index : ℕ) (m : Module) (d : FunctionDefinition) → slice_get modules place ≡ Some m → slice_get m.functions index ≡ Some d
      → (c : Certificate) × (stated : Stated) × (slice_get certificates place ≡ Some c) × (slice_get c index ≡ Some stated) × Flows m d stated
  function-flows place index m d m_at d_at =
      let c = store.certified place m m_at in
      let l = each-at (locals_hold m) m.functions c.0 index d c.2 d_at in
      let e = each-at (edges_hold m) m.functions c.0 index d c.3 d_at in
      let b : edges_hold m d l.0 ≡ true = subst (λ z. edges_hold m d z ≡ true) (same_Some e.0 l.0 (sym e.1 ∙ l.1)) e.2 in (
        c.0,
        l.0,
        c.1,
        l.1,
        on_found (λ start. flow_holds locals_after locals_leq m d start.locals (map (option_map (λ (k : Known). k.locals)) l.0)) (known_at_start m d) l.2 (λ start is a.
            record { start = start; is_start = is; locals = a; edges = rw is at b }),
      )

  -- the same where they are at hand
  pub flows-at : (place index : ℕ) (m : Module) (d : FunctionDefinition) (c : Certificate) (stated : Stated) → slice_get modules place ≡ Some m → slice_get m.functions index ≡ Some d
      → slice_get certificates place ≡ Some c → slice_get c index ≡ Some stated → Flows m d stated
  flows-at place index m d c stated m_at d_at c_at s_at =
      let t = function-flows place index m d m_at d_at in
      let same : t.0 ≡ c = same_Some t.0 c (sym t.2 ∙ c_at) in
      let one : t.1 ≡ stated = same_Some t.1 stated (sym (subst (λ (z : Certificate). slice_get z index ≡ Some t.1) same t.3) ∙ s_at) in
      subst (Flows m d) one t.4

-- ---- a callee

-- the callee's own parameters
pub record OwnParameters (c : Callee) : Type 0 where
  pub handle : FunctionHandle
  pub parameters : List Token
  pub is_handle : slice_get c.home.function_handles c.definition.handle ≡ Some handle
  pub are_parameters : slice_get c.home.signatures handle.parameters ≡ Some parameters
  pub long : length parameters ≡ length c.parameters

pub own-parameters : (h : Here) (i : ℕ) (c : Callee) → callee h i ≡ Ok c → OwnParameters c
own-parameters h i c e =
    let is = callee-is h i c e in
    let p = signature-is h.modules c.home is.own.parameters is.own_parameters is.are_own_parameters in
    record {
      handle = is.own;
      parameters = p.0;
      is_handle = is.is_own;
      are_parameters = p.1;
      long = tags-long _ p.0 is.own_parameters p.2 ∙ ap length (sym (same_tags-is c.parameters is.own_parameters
          (and_parts (same_tags c.parameters is.own_parameters) (same_tags c.results is.own_results) is.agree).0));
    }

-- its locals are as known where it begins
pub entered-known : (m : Module) (d : FunctionDefinition) (start : Known) (handle : FunctionHandle) (parameters others : List Token) (args : List Value)
    → slice_get m.function_handles d.handle ≡ Some handle → slice_get m.signatures handle.parameters ≡ Some parameters
    → slice_get m.signatures d.locals ≡ Some others → length args ≡ length parameters → known_at_start m d ≡ Some start
    → AsKnown start.locals (map Some args ++ replicate (length others) None)
entered-known m d start handle parameters others args handle_is parameters_are others_are long e =
    on_map (start_locals m d) _ start e (λ locals locals_are known.
    on_bind (parameter_tokens m d) _ locals locals_are (λ ps ps_are e1.
    on_bind (local_tokens m d) _ locals e1 (λ ts ts_are e2.
    let found : parameter_tokens m d ≡ Some parameters = rw (handle_is, parameters_are) refl in
    let all : local_tokens m d ≡ Some (parameters ++ others) = rw (handle_is, parameters_are, others_are) refl in
    let p : ps ≡ parameters = same_Some ps parameters (sym ps_are ∙ found) in
    let t : ts ≡ parameters ++ others = same_Some ts (parameters ++ others) (sym ts_are ∙ all) in
    let a : length ts ≡ length parameters + length others = ap length t ∙ length-append parameters others in
    let b : length ps ≡ length parameters = ap length p in
    let n : length ps ≡ length args = ap length p ∙ sym long in
    let k : length ts - length ps ≡ length others = omega (arith, a, b) in
    subst (λ (z : Known). AsKnown z.locals (map Some args ++ replicate (length others) None)) known
    (subst (λ (z : List Availability). AsKnown z (map Some args ++ replicate (length others) None)) (same_Some _ locals e2)
    (subst (λ (z : ℕ). AsKnown (replicate z Available ++ replicate (length ts - length ps) Unavailable) (map Some args ++ replicate (length others) None)) (sym n)
    (subst (λ (z : ℕ). AsKnown (replicate (length args) Available ++ replicate z Unavailable) (map Some args ++ replicate (length others) None)) (sym k) (known-start args (length others))))))))
