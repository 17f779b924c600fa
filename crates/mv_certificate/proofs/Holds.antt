-- What is stated of a function holds exactly where the flow over its graph is closed.
use Rattle.mv_certificate.proofs.Common.{[], ℕ, ◌&&◌, ◌++◌, ◌-◌, ◌∙◌, ◌∷◌, ◌≡◌, Bool, Err, IsTrue, List, None, Option, Some, ap, arith, false, inl, inr, length, map, option_map, refl}
use Rattle.mv_certificate.proofs.Common.{slice_get, subst, suc, sym, true, zero, and_from, and_parts, false≢true, none-some, same_Some, then_some, option_map_or, FunctionDefinition, Module}
use Rattle.mv_certificate.proofs.Common.{local_tokens, ◌>>=◌, IsRefusedIn, Availability, Available, Maybe, Unavailable, Instruction, Refusal, Memory, Phase, FunctionHandle, Token}
use Rattle.mv_certificate.proofs.Common.{IsFlowGraph, Cfg, Edge, edges_leq, IsClosed, IsFlow, types_before, Types, Point, function_is_typed, edges_after, ordered}
use Rattle.mv_certificate.proofs.Common.{Certificate, Known, Stated, flow_holds, EdgesHoldAt, LocalsHoldAt}
use Rattle.std.proofs.Common.{◌↔◌, replicate, IsSome, IfSome, IsErrOf, slice_set, ◌⊎◌}
use Rattle.mv_move_types.specs.declared.instruction.Instruction.TheVariants.{Ret, StLoc}
use Rattle.mv_move_types.specs.Module.{parameter_tokens, local_type}
use Rattle.mv_lattice.specs.declared.StepError.{StepError}
use Rattle.mv_lattice.specs.declared.StepError.TheVariants.{Need}
use Rattle.mv_certificate_rules.specs.LocalsRules.{locals_after, locals_leq, may_overwrite, may_leave, has_drop, start_locals}
use Rattle.mv_locals_safety.specs.Domain.{locals_step, locals_order}
use Rattle.mv_borrow_graph.specs.Domain.{edges_step, edges_order}
use Rattle.mv_certificate_rules.specs.Certificate.{known_at_start, each_function, locals_hold, edges_hold}
use Rattle.mv_certificate.proofs.Carried.{Alike, DoAlike}
use Rattle.mv_certificate.proofs.Flows.{holds_from_closed, closed_from_holds}
use Rattle.mv_certificate.proofs.SameEdges.{SameEdges, SameEdges-self, Alike-ordered, rule_alike, leq_same}
use Rattle.mv_type_rules.specs.TypesHold.{point_at}

module _ (m : Module) (d : FunctionDefinition) (types : Types) where
  abbrev point : Point
  point = record { home = m; function = d; types = types }

  -- what may be left behind doesn't depend on the types on the stack
  leave_free : (ts : List Token) (s : List Availability) → may_leave (point_at m d []) ts s ≡ may_leave point ts s
  leave_free [] [] = refl
  leave_free [] (a ∷ s) = refl
  leave_free (t ∷ ts) [] = refl
  leave_free (t ∷ ts) (Unavailable ∷ s) = leave_free ts s
  leave_free (t ∷ ts) (Available ∷ s) = ap (λ b. has_drop point t && b) (leave_free ts s)
  leave_free (t ∷ ts) (Maybe ∷ s) = ap (λ b. has_drop point t && b) (leave_free ts s)

  -- nor does what may be overwritten
  overwrite_free : (t : Token) (a : Availability) → may_overwrite (point_at m d []) t a ≡ may_overwrite point t a
  overwrite_free t Unavailable = refl
  overwrite_free t a = refl

  -- the rules for locals read no types
  types_free : (i : Instruction) (s : List Availability) → locals_after (point_at m d []) i s ≡ locals_after point i s
  unfolding locals_after
  types_free (StLoc l) s = λ j. local_type m d l >>= λ t. slice_get s l >>= λ a. then_some (overwrite_free t a j) (slice_set s l Available)
  types_free Ret s = λ j. local_tokens m d >>= λ ts. then_some (leave_free ts s j) s
  types_free _ s = refl

-- an option is like itself
Alike-self : {S : Type 0} (o : Option S) → Alike (λ (s t : S). s ≡ t) o o
Alike-self None = tt
Alike-self (Some s) = refl

-- a step at a place does as the rule for locals
locals_do : (m : Module) (d : FunctionDefinition) → DoAlike locals_after (locals_step m d) (λ s t. s ≡ t) m d
locals_do m d = λ at i types s t code known same.
    let p : Point = record { home = m; function = d; types = types } in
    let e : locals_step m d at s ≡ locals_after p i t = ap (λ o. o >>= λ x. locals_after (point_at m d []) x s) code ∙ types_free m d types i s ∙ ap (locals_after p i) same in
    subst (λ o. Alike (λ (a b : List Availability). a ≡ b) o (locals_after p i t)) (sym e) (Alike-self (locals_after p i t))

-- a step at a place does as the rule for edges
edges_do : (m : Module) (d : FunctionDefinition) → DoAlike edges_after (edges_step m d) SameEdges m d
edges_do m d = λ at i types s t code known same.
    let p : Point = record { home = m; function = d; types = types } in
    let e : edges_step m d at s ≡ ordered (edges_after p i s) =
    ap (λ o. o >>= λ x. slice_get (types_before m d) at >>= λ ts. ordered (edges_after (point_at m d ts) x s)) code
    ∙ ap (λ o. o >>= λ ts. ordered (edges_after (point_at m d ts) i s)) known in
    subst (λ o. Alike SameEdges o (edges_after p i t)) (sym e) (Alike-ordered (edges_after p i s) (edges_after p i t) (rule_alike p s t same i))

-- what is known where these availabilities are, and no edges
abbrev beginning : List Availability → Known
beginning s = record { locals = s; edges = [] }

known_locals : (m : Module) (d : FunctionDefinition) (s : List Availability) → start_locals m d ≡ Some s → known_at_start m d ≡ Some (beginning s)
known_locals m d s e = ap (option_map beginning) e

-- no edges are known at the start
record Begins (o : Option Known) : Type 0 where
  known : Known
  is : o ≡ Some known
  free : known.edges ≡ []

begins_by : (o : Option (List Availability)) → IsSome (option_map beginning o) → Begins (option_map beginning o)
begins_by None h = absurd (false≢true h)
begins_by (Some s) h = record { known = beginning s; is = refl; free = refl }

begins : (m : Module) (d : FunctionDefinition) → IsSome (known_at_start m d) → Begins (known_at_start m d)
begins m d = begins_by (start_locals m d)

-- what is known is there, where its parts are
known_there : (o1 o2 : Option (List Token)) (first : List Token → List Token → List Availability) (p l : List Token) → o1 ≡ Some p → o2 ≡ Some l
    → IsSome (option_map beginning (o1 >>= λ p. o2 >>= λ l. Some (first p l)))
known_there o1 o2 first p l e1 e2 = rw (e1, e2) refl

locals_there : (m : Module) (d : FunctionDefinition) (p others : List Token) (o : Option FunctionHandle) → (o >>= λ h. slice_get m.signatures h.parameters) ≡ Some p
    → slice_get m.signatures d.locals ≡ Some others
    → (o >>= λ h. slice_get m.signatures h.parameters >>= λ ps. slice_get m.signatures d.locals >>= λ os. Some (ps ++ os)) ≡ Some (p ++ others)
locals_there m d p others None e1 e2 = absurd (none-some p e1)
locals_there m d p others (Some h) e1 e2 = rw (e1, e2) refl

start_known : (m : Module) (d : FunctionDefinition) (p others : List Token) → parameter_tokens m d ≡ Some p → slice_get m.signatures d.locals ≡ Some others → IsSome (known_at_start m d)
start_known m d p others e1 e2 =
    known_there (parameter_tokens m d) (local_tokens m d) (λ p l. replicate (length p) Available ++ replicate (length l - length p) Unavailable) p (p ++ others) e1
    (locals_there m d p others (slice_get m.function_handles d.handle) e1 e2)

-- what holds of what was found
found : {A : Type 0} (o : Option A) (x : A) (P : A → Type 0) → o ≡ Some x → IfSome o P → P x
found o x P e h = subst (λ z. IfSome z P) e h

pub start_known_at : (m b : Module) (f : ℕ) (d : FunctionDefinition) (p others : List Token) → b ≡ m → slice_get m.functions f ≡ Some d
    → IfSome (slice_get b.functions f) (λ d. parameter_tokens b d ≡ Some p) → IfSome (slice_get b.functions f) (λ d. slice_get b.signatures d.locals ≡ Some others) → IsSome (known_at_start m d)
start_known_at m b f d p others home at first second =
    start_known m d p others
    (found (slice_get m.functions f) d (λ d. parameter_tokens m d ≡ Some p) at (subst (λ (z : Module). IfSome (slice_get z.functions f) (λ d. parameter_tokens z d ≡ Some p)) home first))
    (found (slice_get m.functions f) d (λ d. slice_get m.signatures d.locals ≡ Some others) at (subst (λ (z : Module). IfSome (slice_get z.functions f) (λ d. slice_get z.signatures d.locals ≡ Some others)) home second))

module _ (m : Module) (d : FunctionDefinition) (g : Cfg) (stated : Stated) (fg : IsFlowGraph d.code g) (typed : IsTrue (function_is_typed m d)) where
  -- the stated availabilities are a closed flow exactly where they hold
  locals_exact : (s : List Availability) (all : List (Option (List Availability))) → start_locals m d ≡ Some s → all ≡ map (option_map (λ k. k.locals)) stated → IsFlow (locals_order m d) g all
      → IsClosed (locals_order m d) g s all ↔ IsTrue (locals_hold m d stated)
  locals_exact s all begin is fl =
      let same : locals_hold m d stated ≡ flow_holds locals_after locals_leq m d s all =
      ap (λ o. option_map_or (λ (start : Known). flow_holds locals_after locals_leq m d start.locals (map (option_map (λ k. k.locals)) stated)) o false) (known_locals m d s begin)
      ∙ ap (flow_holds locals_after locals_leq m d s) (sym is) in (
        λ c. same ∙ holds_from_closed (List Availability) locals_after locals_leq (locals_order m d) (λ a b. a ≡ b) m d (locals_do m d) (λ a. refl) (λ u e x r. ap (λ z. locals_leq z x) r) (λ a b h. h) (λ a b h. h) g fg typed s all fl c,
        λ h. closed_from_holds (List Availability) locals_after locals_leq (locals_order m d) (λ a b. a ≡ b) m d (locals_do m d) (λ a. refl) (λ u e x r. ap (λ z. locals_leq z x) r) (λ a b h. h) (λ a b h. h) g fg typed s all fl (sym same ∙ h),
      )

  -- so are the stated edges
  edges_exact : (s : List Edge) (all : List (Option (List Edge))) → s ≡ [] → IsSome (known_at_start m d) → all ≡ map (option_map (λ k. k.edges)) stated → IsFlow (edges_order m d) g all
      → IsClosed (edges_order m d) g s all ↔ IsTrue (edges_hold m d stated)
  edges_exact s all none known is fl =
      let b = begins m d known in
      let same : edges_hold m d stated ≡ flow_holds edges_after edges_leq m d s all =
      ap (λ o. option_map_or (λ (start : Known). flow_holds edges_after edges_leq m d start.edges (map (option_map (λ k. k.edges)) stated)) o false) b.is
      ∙ ap (λ z. flow_holds edges_after edges_leq m d z (map (option_map (λ k. k.edges)) stated)) (b.free ∙ sym none)
      ∙ ap (flow_holds edges_after edges_leq m d s) (sym is) in (
        λ c. same ∙ holds_from_closed (List Edge) edges_after edges_leq (edges_order m d) SameEdges m d (edges_do m d) SameEdges-self leq_same (λ a b h. h) (λ a b h. h) g fg typed s all fl c,
        λ h. closed_from_holds (List Edge) edges_after edges_leq (edges_order m d) SameEdges m d (edges_do m d) SameEdges-self leq_same (λ a b h. h) (λ a b h. h) g fg typed s all fl (sym same ∙ h),
      )

-- what holds of the function at a place
at_place : (m : Module) (f : ℕ) (d : FunctionDefinition) (P : FunctionDefinition → Type 0) → slice_get m.functions f ≡ Some d
    → P d ↔ ((x : FunctionDefinition) → slice_get m.functions f ≡ Some x → P x)
at_place m f d P at = (λ p x e. subst P (same_Some d x (sym at ∙ e)) p, λ h. h d at)

module _ (m m' : Module) (f : ℕ) (d d' : FunctionDefinition) (g : Cfg) (stated : Stated) (home : m' ≡ m) (at : slice_get m.functions f ≡ Some d)
    (at' : slice_get m.functions f ≡ Some d') (fg : IsFlowGraph d.code g) (typed : IsTrue (function_is_typed m d)) where
  same_function : d' ≡ d
  same_function = same_Some d' d (sym at' ∙ at)

  -- the stated availabilities of the function at a place
  pub locals_exact_at : (s : List Availability) (all : List (Option (List Availability))) → start_locals m' d' ≡ Some s → all ≡ map (option_map (λ k. k.locals)) stated
      → IsFlow (locals_order m' d') g all
      → IsClosed (locals_order m' d') g s all ↔ LocalsHoldAt m f stated
  locals_exact_at s all begin is fl =
      let begin1 = subst (λ z. start_locals m z ≡ Some s) same_function (subst (λ z. start_locals z d' ≡ Some s) home begin) in
      let flow1 = subst (λ z. IsFlow (locals_order m z) g all) same_function (subst (λ z. IsFlow (locals_order z d') g all) home fl) in
      let exact = locals_exact m d g stated fg typed s all begin1 is flow1 in
      let place = at_place m f d (λ x. IsTrue (locals_hold m x stated)) at in (
        λ c. place.0 (exact.0 (subst (λ z. IsClosed (locals_order m z) g s all) same_function (subst (λ z. IsClosed (locals_order z d') g s all) home c))),
        λ h. subst (λ z. IsClosed (locals_order z d') g s all) (sym home) (subst (λ z. IsClosed (locals_order m z) g s all) (sym same_function) (exact.1 (place.1 h))),
      )

  -- and its stated edges
  pub edges_exact_at : (s : List Edge) (all : List (Option (List Edge))) → s ≡ [] → IsSome (known_at_start m d) → all ≡ map (option_map (λ k. k.edges)) stated
      → IsFlow (edges_order m' d') g all
      → IsClosed (edges_order m' d') g s all ↔ EdgesHoldAt m f stated
  edges_exact_at s all none known is fl =
      let flow1 = subst (λ z. IsFlow (edges_order m z) g all) same_function (subst (λ z. IsFlow (edges_order z d') g all) home fl) in
      let exact = edges_exact m d g stated fg typed s all none known is flow1 in
      let place = at_place m f d (λ x. IsTrue (edges_hold m x stated)) at in (
        λ c. place.0 (exact.0 (subst (λ z. IsClosed (edges_order m z) g s all) same_function (subst (λ z. IsClosed (edges_order z d') g s all) home c))),
        λ h. subst (λ z. IsClosed (edges_order z d') g s all) (sym home) (subst (λ z. IsClosed (edges_order m z) g s all) (sym same_function) (exact.1 (place.1 h))),
      )

-- a test that each function passes with what is stated of it
pub each-passes : (test : FunctionDefinition → Stated → Bool) (ds : List FunctionDefinition) (cs : Certificate) → length ds ≡ length cs
    → ((f : ℕ) (d : FunctionDefinition) (c : Stated) → slice_get ds f ≡ Some d → slice_get cs f ≡ Some c → test d c ≡ true) → each_function test ds cs ≡ true
each-passes test [] [] long h = refl
each-passes test [] (c ∷ cs) long h = absurd (omega arith)
each-passes test (d ∷ ds) [] long h = absurd (omega arith)
each-passes test (d ∷ ds) (c ∷ cs) long h = and_from (test d c) (each_function test ds cs) (h 0 d c refl refl) (each-passes test ds cs (omega arith) (λ f x y e1 e2. h (suc f) x y e1 e2))

-- one that all pass is passed by each
pub passes-each : (test : FunctionDefinition → Stated → Bool) (ds : List FunctionDefinition) (cs : Certificate) → each_function test ds cs ≡ true
    → (f : ℕ) (d : FunctionDefinition) (c : Stated) → slice_get ds f ≡ Some d → slice_get cs f ≡ Some c → test d c ≡ true
passes-each test [] cs h f d c de ce = absurd (none-some d de)
passes-each test (x ∷ ds) [] h f d c de ce = absurd (none-some c ce)
passes-each test (x ∷ ds) (y ∷ cs) h zero d c de ce =
    subst (λ z. test d z ≡ true) (same_Some y c ce) (subst (λ z. test z y ≡ true) (same_Some x d de) ((and_parts (test x y) (each_function test ds cs) h).0))
passes-each test (x ∷ ds) (y ∷ cs) h (suc f) d c de ce = passes-each test ds cs ((and_parts (test x y) (each_function test ds cs) h).1) f d c de ce

-- a flow that is not accepted is refused in the phase
pub refused_flow : (n : ℕ) (holds flow : Type 0) (e : StepError) (r : Refusal) → (holds → flow) → (IsErrOf {T = Unit {0}} (Err e) Need → flow → ⊥)
    → ((r ≡ Phase n) × (e ≡ Need)) ⊎ (r ≡ Memory) → IsRefusedIn n holds r
refused_flow n holds flow e r on never (inl p) = subst (IsRefusedIn n holds) (sym p.0) (refl, λ h. never (ap Err p.1) (on h))
refused_flow n holds flow e r on never (inr q) = subst (IsRefusedIn n holds) (sym q) tt
