-- All functions of a module, one after another, and the phases.
use Rattle.mv_type_rules.proofs.Common.{[], ℕ, ◌++◌, ◌+◌, ◌<◌, ◌∙◌, ◌∷◌, ◌≡◌, Bool, IfSome, IsTrue, List, None, Option, Some, ap, arith, get_or, length, length-append, map, refl, slice_get}
use Rattle.mv_type_rules.proofs.Common.{subst, suc, sym, take, length-map, map-append, take_more, MatchOption-at_some, get_or_from_slice_get, same_Some, slice_get-get_or}
use Rattle.mv_type_rules.proofs.Common.{slice_get_read, slice_get_within, FunctionDefinition, Module, IsRefusedIn, Refusal, Cfg, AreGraphs, types_before, Types}
use Rattle.mv_type_rules.proofs.Common.{function_is_typed}
use Rattle.std.proofs.Common.{option_map, ◌⊎◌, ⊎_elim}
use Rattle.std.specs.List.{list_all}
use Rattle.std.proofs.lemmas.Option.{slice_get-map}
use Rattle.mv_move_types.proofs.Refusals.{refused-wider}
use Rattle.mv_cfg.specs.Blocks.{ends_well, FlowHolds}
use Rattle.mv_cfg.specs.FlowGraph.{IsFlowGraph}
use Rattle.mv_type_rules.specs.TypesHold.{TypesHold}
use Rattle.mv_bound_rules.proofs.Entries.{last_or_before, all_at, element_at}

-- what holds of each holds of all
pub list_all-each : {A : Type 0} (p : A → Bool) (xs : List A) → ((i : ℕ) (x : A) → slice_get xs i ≡ Some x → IsTrue (p x)) → IsTrue (list_all p xs)
list_all-each p [] each = refl
list_all-each p (x ∷ xs) each = rw (each 0 x refl) (list_all-each p xs (λ i y h. each (suc i) y h))

pub AreGraphs-push : (fs : List FunctionDefinition) (n : ℕ) (gs : List Cfg) (g : Cfg) → AreGraphs fs n gs → n < length fs → IfSome (slice_get fs n) (λ d. IsFlowGraph d.code g)
    → AreGraphs fs (n + 1) (gs ++ g ∷ [])
AreGraphs-push fs n gs g p there new = record {
  entries = let size = p.entries in omega (arith, length-append {A = Cfg});
  each = λ f d h at there. ⊎_elim
      (λ old. p.each f d h at old)
      (λ last. let is_n : f ≡ n = last.0 ∙ p.entries in
      subst (λ (x : Cfg). IsFlowGraph d.code x) last.1
      (MatchOption-at_some _ (λ (x : FunctionDefinition). IsFlowGraph x.code g) d (subst (λ (i : ℕ). slice_get fs i ≡ Some d) is_n at) new))
      (last_or_before gs g f h there);
}

-- each function has a graph, so each ends well
pub FlowHolds-from_AreGraphs : (m : Module) (gs : List Cfg) → AreGraphs m.functions (length m.functions) gs → FlowHolds m
FlowHolds-from_AreGraphs m gs p =
    list_all-each (λ (d : FunctionDefinition). ends_well d.code) m.functions
    (λ f d at. let in_fs = slice_get_within m.functions f d at in
    let size = p.entries in
    let graph = element_at gs f (omega arith) in (p.each f d graph.0 at graph.1).ends)

-- where all functions end well, each does
pub ends-from_FlowHolds : (m : Module) (f : ℕ) (d : FunctionDefinition) → slice_get m.functions f ≡ Some d → FlowHolds m → IsTrue (ends_well d.code)
ends-from_FlowHolds m f d at h = all_at (λ (x : FunctionDefinition). ends_well x.code) m.functions f d h at

pub typed-from_TypesHold : (m : Module) (f : ℕ) (d : FunctionDefinition) → slice_get m.functions f ≡ Some d → TypesHold m → IsTrue (function_is_typed m d)
typed-from_TypesHold m f d at h = all_at (function_is_typed m) m.functions f d h at

-- a refusal of function f in phase 7 is one of the module
pub flow_refused : (m : Module) (f : ℕ) (e : Refusal) → f < length m.functions → IfSome (slice_get m.functions f) (λ d. IsRefusedIn 7 (IsTrue (ends_well d.code)) e) → IsRefusedIn 7 (FlowHolds m) e
flow_refused m f e there r =
    let d = element_at m.functions f there in
    refused-wider 7 (IsTrue (ends_well d.0.code)) (FlowHolds m) e (ends-from_FlowHolds m f d.0 d.1)
    (MatchOption-at_some _ (λ (x : FunctionDefinition). IsRefusedIn 7 (IsTrue (ends_well x.code)) e) d.0 d.1 r)

-- the same in phase 8
pub types_refused : (m : Module) (f : ℕ) (e : Refusal) → f < length m.functions → IfSome (slice_get m.functions f) (λ d. IsRefusedIn 8 (IsTrue (function_is_typed m d)) e)
    → IsRefusedIn 8 (TypesHold m) e
types_refused m f e there r =
    let d = element_at m.functions f there in
    refused-wider 8 (IsTrue (function_is_typed m d.0)) (TypesHold m) e (typed-from_TypesHold m f d.0 d.1)
    (MatchOption-at_some _ (λ (x : FunctionDefinition). IsRefusedIn 8 (IsTrue (function_is_typed m x)) e) d.0 d.1 r)

-- what holds of what is found, wherever it is found
pub if_found : {A : Type 0} (found : Option A) (P : A → Type 0) → ((x : A) → found ≡ Some x → P x) → IfSome found P
if_found None P h = tt
if_found (Some x) P h = h x refl

-- the graph at a place is that of the function there
pub graph-here : (functions : List FunctionDefinition) (graphs : List Cfg) (f : ℕ) (g : Cfg) → AreGraphs functions (length functions) graphs → f < length graphs → g ≡ get_or graphs f g
    → IfSome (slice_get functions f) (λ d. IsFlowGraph d.code g)
graph-here functions graphs f g are within is =
    if_found (slice_get functions f) (λ d. IsFlowGraph d.code g) (λ d at. are.each f d g at (slice_get_read graphs (length graphs) f g refl within is))

-- the first functions are well typed
abbrev pub AreTyped : Module → ℕ → Type 0
AreTyped m n = (k : ℕ) (d : FunctionDefinition) → k < n → slice_get m.functions k ≡ Some d → IsTrue (function_is_typed m d)

pub AreTyped-push : (m : Module) (n : ℕ) → AreTyped m n → IfSome (slice_get m.functions n) (λ d. IsTrue (function_is_typed m d)) → AreTyped m (n + 1)
AreTyped-push m n before new k d below at =
    ⊎_elim (λ h. before k d h at)
    (λ same. MatchOption-at_some _ (λ (x : FunctionDefinition). IsTrue (function_is_typed m x)) d (subst (λ (i : ℕ). slice_get m.functions i ≡ Some d) same at) new)
    (less_or_last k n below)
  where
    less_or_last : (k n : ℕ) → k < n + 1 → (k < n) ⊎ (k ≡ n)
    less_or_last k n h = grind arith

-- one more function's types are listed
pub types_listed : (m : Module) (n : ℕ) (all : List Types) (old : List (List Types)) → n < length m.functions → IfSome (slice_get m.functions n) (λ d. all ≡ types_before m d)
    → old ≡ map (types_before m) (take n m.functions) → old ++ all ∷ [] ≡ map (types_before m) (take (n + 1) m.functions)
types_listed m n all old below here is =
    let d = element_at m.functions n below in
    let one = MatchOption-at_some _ (λ (x : FunctionDefinition). all ≡ types_before m x) d.0 d.1 here in
    let more : take (n + 1) m.functions ≡ take n m.functions ++ d.0 ∷ [] =
    take_more m.functions n d.0 below ∙ ap (λ x. take n m.functions ++ x ∷ []) (get_or_from_slice_get m.functions n d.0 d.0 d.1) in
    ap (λ l. l ++ all ∷ []) is ∙ ap (λ t. map (types_before m) (take n m.functions) ++ t ∷ []) one
    ∙ sym (map-append (types_before m) (take n m.functions) (d.0 ∷ [])) ∙ ap (map (types_before m)) (sym more)

-- what is listed of a function, where it is listed of all
pub listed_at : {A B : Type 0} (v : A → B) (h : FunctionDefinition → B) (fs : List FunctionDefinition) (f : ℕ) (x : A) (xs : List A) → map v xs ≡ map h fs → f < length fs → x ≡ get_or xs f x
    → IfSome (slice_get fs f) (λ d. v x ≡ h d)
listed_at v h fs f x xs is below at =
    let d = element_at fs f below in
    let within : f < length xs = omega (arith, ap length is, length-map xs v, length-map fs h) in
    let here : Some (v x) ≡ Some (h d.0) =
    ap (λ t. Some (v t)) at ∙ sym (ap (option_map v) (slice_get-get_or xs f x within)) ∙ sym (slice_get-map v xs f) ∙ ap (λ l. slice_get l f) is ∙ slice_get-map h fs f ∙ ap (option_map h) d.1 in
    rw d.1 (same_Some (v x) (h d.0) here)
