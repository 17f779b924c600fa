-- Each step of a state that is as the certificates say leads to such a state, and meets nothing lost or frozen.
use Rattle.mv_soundness.proofs.Guided.Common.{◌≡◌, ℕ, ◌+◌, List, [], ◌∷◌, ◌++◌, map, length, true, refl, sym, ◌∙◌, ap, subst, arith, Option, Some, Ok, reverse, inl, ap₂, Result, Err}
use Rattle.mv_soundness.proofs.Guided.Common.{and_parts, same_Some, list_all, slice_get, ok_or, ⊤, nat_lt, successors, Module, FunctionDefinition, Instruction, Ret, Call, ok-is}
use Rattle.mv_soundness.proofs.Guided.Common.{found-is, callee-is, return-is, reference_of, Frame, State, Callee, leaves, Here, Goes, Turn, Returns, Failure, Faults, TypeFault}
use Rattle.mv_soundness.proofs.Guided.Common.{LinkageFault, entry, Value, Reference, return_edges, Known, Certificate, known_before, edges_leq, Edge, locals_leq, Types, Point}
use Rattle.mv_soundness.proofs.Guided.Common.{map-turned, Fits, token_kind, operand_kind, Reaches, AsKnown, Stood, seen_of, StoodOn, point_of, Sound, local_of, alone, StoreFacts}
use Rattle.mv_soundness.proofs.Guided.Common.{TypeFacts, AllPlaced, StoodFit, AllAgree, Guided, Placed}
use Rattle.mv_move_types.specs.declared.tables.Definition.{Definition}
use Rattle.mv_certificate_rules.specs.LocalsRules.{locals_after}
use Rattle.mv_certificate_rules.specs.BorrowRules.{edges_after, call_edges}
use Rattle.mv_type_rules.specs.TypeRules.{types_after}
use Rattle.mv_machine.specs.{StepControl.call, StepControl.return_results, Step.rule, Step.step}
use Rattle.mv_soundness.proofs.{Borrows.Edges.then-some, Borrows.Same.SameFrames, Borrows.Certified.edges-below, Borrows.Premises.IsTransfer, Borrows.Premises.Stays}
use Rattle.mv_soundness.proofs.{Borrows.Steps.step-kept, Borrows.Available.known-above, Borrows.Available.known-same, Guided.Before.Onward, Guided.Before.goes-on}
use Rattle.mv_soundness.proofs.{Guided.Before.starts-known, Guided.Chains.guided-from, Guided.Working.Working, Guided.Working.worked, Guided.Working.working, Guided.Rows.LocalsKnown}
use Rattle.mv_soundness.proofs.{Guided.Rows.RowEnds, Guided.Rows.rule-ends}
use Rattle.mv_soundness.proofs.Borrows.Invariant.{refit, sound-row, sound-call, sound-return, premises}
use Rattle.mv_soundness.proofs.Guided.Ends.{Ends, Goes_well, given, after, tests, found-well}
use Rattle.mv_soundness.proofs.Guided.Results.{callee-agrees, returns-as, fit-refit, agree-refit}
use Rattle.mv_soundness.proofs.Guided.Accepted.{flows-at, function-flows, own-parameters, entered-known}
use Rattle.mv_machine.proofs.Transfers.{ReturnedTo, returned, Called, called}
use Rattle.std.proofs.lemmas.List.{map-append}

-- what a turn leads to is as the certificates say
abbrev pub TurnGuided : (ℕ → ℕ → Type 0) → List Module → List Certificate → Turn → Type 0
TurnGuided depends modules certificates (Goes t) = Guided depends modules certificates t
TurnGuided depends modules certificates (Returns t) = ⊤

-- a frame that goes on in its function
pub placed-on : (modules : List Module) (certificates : List Certificate) (x : Stood) (p : Placed modules certificates x) (f : Frame) (lent : List (Option Reference))
    (l : Known) (us : Types) (es : List Edge) → f.function ≡ x.frame.function → known_before x.home x.function p.stated f.at ≡ Some (l, us) → l.edges ≡ es
    → AsKnown l.locals f.locals → Placed modules certificates (record { home = x.home; function = x.function; frame = f; lent = lent; types = us; edges = es })
placed-on modules certificates x p f lent l us es function is_known are_edges are_locals = record {
  certificate = p.certificate;
  stated = p.stated;
  known = l;
  is_home = subst (λ (d : Definition). slice_get modules d.place ≡ Some x.home) (sym function) p.is_home;
  is_function = subst (λ (d : Definition). slice_get x.home.functions d.index ≡ Some x.function) (sym function) p.is_function;
  is_certificate = subst (λ (d : Definition). slice_get certificates d.place ≡ Some p.certificate) (sym function) p.is_certificate;
  is_stated = subst (λ (d : Definition). slice_get p.certificate d.index ≡ Some p.stated) (sym function) p.is_stated;
  is_known = is_known;
  are_edges = are_edges;
  are_locals = are_locals;
}

placed-refit : (modules : List Module) (certificates : List Certificate) (lent : List (Option Reference)) (fs gs : List Frame) (xs : List Stood)
    → StoodOn lent fs xs → SameFrames fs gs → AllPlaced modules certificates xs → AllPlaced modules certificates (refit xs gs)
placed-refit modules certificates lent [] [] [] s q p = tt
placed-refit modules certificates lent (f ∷ fs) (g ∷ gs) (x ∷ xs) s q p =
    let at = sym (q.0.at ∙ ap (λ (y : Frame). y.at) (sym s.0)) in (
      placed-on modules certificates x p.0 g x.lent p.0.known x.types x.edges (q.0.function ∙ ap (λ (y : Frame). y.function) (sym s.0))
          (subst (λ (n : ℕ). known_before x.home x.function p.0.stated n ≡ Some (p.0.known, x.types)) at p.0.is_known) p.0.are_edges
          (known-same p.0.known.locals x.frame.locals g.locals (ap (λ (y : Frame). map local_of y.locals) s.0 ∙ sym q.0.locals) p.0.are_locals),
      placed-refit modules certificates f.entered_with fs gs xs s.2 q.1 p.1,
    )
placed-refit modules certificates lent fs gs xs s q p = absurd (grind arith)

-- the first frame's return doesn't go on
last-returns : (h : Here) (t : State) → h.state.below ≡ [] → return_results h ≡ Ok (Goes t) → ⊥
last-returns h t none e =
    let r = return-is h (Goes t) e in
    let z : Returns h.state ≡ Goes t = ok-is (Returns h.state) (Goes t) (sym (ap (leaves h r.results) none) ∙ r.left) in
    cc

-- a Ret
return-goes : (depends : ℕ → ℕ → Type 0) (modules : List Module) (certificates : List Certificate) → StoreFacts depends modules certificates
    → (s t : State) (x v : Stood) (vs : List Stood) (sound : Sound depends s x (v ∷ vs)) → Fits (point_of x) (alone s.top)
    → Fits (point_of v) (seen_of v) → Placed modules certificates v → AllPlaced modules certificates vs
    → return_edges (point_of x) x.edges ≡ Some x.edges → StoodFit vs → AllAgree x.home x.function (v ∷ vs)
    → return_results (record { modules = modules; home = x.home; function = x.function; state = s }) ≡ Ok (Goes t)
    → Guided depends modules certificates t
unfolding edges_after locals_after
return-goes depends modules certificates store s t x v vs sound fits fits_v p ps free fit_vs agree e =
    let link = sound.links.0 in
    let ra = returns-as (record { modules = modules; home = x.home; function = x.function; state = s }) t e in
    let results : map token_kind (reverse link.link.results) ≡ map operand_kind (map reference_of s.top.stack) =
    map-turned token_kind link.link.results ∙ ap reverse (agree.0 link.link.index link.link.handle link.link.results link.link.is_call link.link.is_handle link.link.is_results ra.own ra.results ra.is_own ra.are_results)
    ∙ sym (map-turned token_kind ra.results) ∙ ra.kinds in
    let fl = flows-at depends modules certificates store v.frame.function.place v.frame.function.index v.home v.function p.certificate p.stated p.is_home p.is_function p.is_certificate p.is_stated in
    let o = goes-on v.home v.function p.stated fl.start fl.locals fl.edges v.frame.at p.known v.types (Call link.link.index) p.is_known link.link.is_call in
    let l = o.leads (v.frame.at + 1) (inl refl) in
    let below = and_parts (locals_leq o.next.locals l.0.locals) (edges_leq o.next.edges l.0.edges) l.3 in
    let same : o.next.edges ≡ link.edges = same_Some o.next.edges link.edges (sym o.edges ∙ ap (call_edges (point_of v) link.link.index) p.are_edges ∙ link.need) in
    let locals : p.known.locals ≡ o.next.locals = same_Some p.known.locals o.next.locals o.locals in
    let top = returned-top s.below sound.stood.2 (returned (record { modules = modules; home = x.home; function = x.function; state = s }) (Goes t) e) in
    guided-from depends store.through store.no_cycle modules certificates t (record { home = v.home; function = v.function; frame = t.top; lent = []; types = l.1; edges = l.0.edges }) vs
    (sound-return depends store.through store.no_cycle modules s x v vs sound t l.0.edges l.1 e fits fits_v free results
    (edges-below v.frame.function.place link.edges l.0.edges (subst (λ es. edges_leq es l.0.edges ≡ true) same below.1))) (
      placed-on modules certificates v p t.top [] l.0 l.1 l.0.edges top.0 (subst (λ n. known_before v.home v.function p.stated n ≡ Some (l.0, l.1)) (sym top.1) l.2) refl
          (known-above o.next.locals l.0.locals t.top.locals below.0 (subst (λ z. AsKnown o.next.locals z) (sym top.2) (subst (λ z. AsKnown z v.frame.locals) locals p.are_locals))),
      ps,
    ) fit_vs agree.1
  where
    returned-top : (fs : List Frame) → StoodOn s.top.entered_with fs (v ∷ vs) → ReturnedTo (record { modules = modules; home = x.home; function = x.function; state = s }) fs (Ok (Goes t))
        → (t.top.function ≡ v.frame.function) × (t.top.at ≡ v.frame.at + 1) × (t.top.locals ≡ v.frame.locals)
    returned-top [] st r = absurd st
    returned-top (f ∷ fs) st r = (
      ap (λ (y : Frame). y.function) r.top ∙ ap (λ (y : Frame). y.function) (sym st.0),
      ap (λ (y : Frame). y.at) r.top ∙ ap (λ (y : Frame). y.at + 1) (sym st.0),
      ap (λ (y : Frame). y.locals) r.top ∙ ap (λ (y : Frame). y.locals) (sym st.0),
    )

module _ (depends : ℕ → ℕ → Type 0) (modules : List Module) (certificates : List Certificate) (store : StoreFacts depends modules certificates)
    (s : State) (w : Working depends modules certificates s) (facts : TypeFacts modules s) where
  abbrev h : Here
  h = record { modules = modules; home = w.home; function = w.function; state = s }

  abbrev x : Stood
  x = worked s w.home w.function w.types w.known.edges

  abbrev p : Point
  p = record { home = w.home; function = w.function; types = w.types }

  abbrev placed-here : Placed modules certificates x
  placed-here = record {
    certificate = w.certificate;
    stated = w.stated;
    known = w.known;
    is_home = w.is_home;
    is_function = w.is_function;
    is_certificate = w.is_certificate;
    is_stated = w.is_stated;
    is_known = w.is_known;
    are_edges = refl;
    are_locals = w.are_locals;
  }

  -- any instruction but Call and Ret
  row-keeps : (i : Instruction) → (IsTransfer i → ⊥) → Reaches w.function.acquires i → (o : Onward w.home w.function w.stated s.top.at i w.known w.types) → Ends (LocalsKnown o.next.locals) (rule i h)
      → Ends (TurnGuided depends modules certificates) (rule i h)
  row-keeps i transfer reaches o ends = by_result (rule i h) refl ends
    where
      by_result : (r : Result Turn Failure) → rule i h ≡ r → Ends (LocalsKnown o.next.locals) r → Ends (TurnGuided depends modules certificates) r
      by_result (Err e) is k = k
      by_result (Ok (Returns t)) is k = tt
      by_result (Ok (Goes t)) is k =
          let st : Stays i s t = (step-kept (premises depends store.through store.no_cycle modules s x w.waiting w.sound w.fits facts.inside) i (Goes t) o.next.edges transfer reaches w.sound.ordered is o.edges).1 in
          let l = o.leads t.top.at st.5 in
          let below = and_parts (locals_leq o.next.locals l.0.locals) (edges_leq o.next.edges l.0.edges) l.3 in
          guided-from depends store.through store.no_cycle modules certificates t
          (record { home = w.home; function = w.function; frame = t.top; lent = []; types = l.1; edges = l.0.edges }) (refit w.waiting t.below)
          (sound-row depends store.through store.no_cycle modules s x w.waiting w.sound i t o.next.edges l.0.edges l.1 transfer reaches is w.fits facts.inside o.edges
          (edges-below t.top.function.place o.next.edges l.0.edges below.1)) (
            placed-on modules certificates x placed-here t.top [] l.0 l.1 l.0.edges st.1 l.2 refl (known-above o.next.locals l.0.locals t.top.locals below.0 k),
            placed-refit modules certificates s.top.entered_with s.below t.below w.waiting w.sound.stood.2 st.3 w.placed,
          )
          (fit-refit s.top.entered_with s.below t.below w.waiting w.sound.stood.2 st.3 w.waiting_fit)
          (agree-refit w.home w.function s.top.entered_with s.below t.below w.waiting w.sound.stood.2 st.3 w.agree)

  -- a Call
  call-keeps : (j : ℕ) → slice_get w.function.code s.top.at ≡ Some (Call j) → Onward w.home w.function w.stated s.top.at (Call j) w.known w.types
      → Goes_well (call h j) → Ends (TurnGuided depends modules certificates) (call h j)
  unfolding edges_after types_after
  call-keeps j at o well = by_result (call h j) refl well
    where
      -- the arguments that the waiting frame lent, and what is left on its stack
      called-stack : (t : State) (stack : List Value) (ws : List Stood)
          → StoodOn t.top.entered_with t.below
          (record { home = w.home; function = w.function; frame = record (s.top) { stack = stack }; lent = t.top.entered_with; types = w.types; edges = w.known.edges } ∷ ws)
          → Called h j t → map reference_of s.top.stack ≡ reverse t.top.entered_with ++ map reference_of stack
      called-stack t stack ws st k =
          let below = subst (λ fs. StoodOn t.top.entered_with fs (record { home = w.home; function = w.function; frame = record (s.top) { stack = stack }; lent = t.top.entered_with; types = w.types; edges = w.known.edges } ∷ ws)) k.below st in
          let same : stack ≡ k.stack = ap (λ (f : Frame). f.stack) below.0 in
          let entered : t.top.entered_with ≡ map reference_of k.arguments = ap (λ (f : Frame). f.entered_with) k.top in
          ap (map reference_of) k.split ∙ map-append reference_of (reverse k.arguments) k.stack ∙ ap (λ l. l ++ map reference_of k.stack) (map-turned reference_of k.arguments)
          ∙ ap₂ (λ (a : List (Option Reference)) (b : List Value). reverse a ++ map reference_of b) (sym entered) (sym same)

      waits-fit : (t : State) (stack : List Value) → map reference_of s.top.stack ≡ reverse t.top.entered_with ++ map reference_of stack
          → Fits p (record { frame = record (s.top) { stack = stack }; lent = t.top.entered_with })
      waits-fit t stack e = record { stack = w.fits.stack ∙ ap (map operand_kind) e; locals = w.fits.locals }

      by_result : (r : Result Turn Failure) → call h j ≡ r → Goes_well r → Ends (TurnGuided depends modules certificates) r
      by_result (Err e) is k = k
      by_result (Ok (Returns t)) is k = tt
      by_result (Ok (Goes t)) is k =
          let n : Called h j t = called h j (Goes t) is in
          let ci = callee-is h j n.c n.is_callee in
          let own = own-parameters h j n.c n.is_callee in
          let fl = function-flows depends modules certificates store n.c.function.place n.c.function.index n.c.home n.c.definition ci.is_home ci.is_function in
          let b = starts-known n.c.home n.c.definition fl.1 fl.4.start fl.4.locals fl.4.edges in
          let u = sound-call depends store.through store.no_cycle modules s x w.waiting w.sound j t o.next.edges b.0.edges o.after [] is at
          (store.calls s w.home w.function j w.is_home w.is_function at) w.fits o.edges o.typed in
          let one : u.0 ≡ n.c = ok-is u.0 n.c (sym u.1 ∙ n.is_callee) in
          let function : n.c.function ≡ t.top.function = sym (ap (λ (f : Frame). f.function) n.top) in
          let start : AsKnown fl.4.start.locals t.top.locals = subst (λ (f : Frame). AsKnown fl.4.start.locals f.locals) (sym n.top)
          (entered-known n.c.home n.c.definition fl.4.start own.handle own.parameters n.others n.arguments own.is_handle own.are_parameters n.are_others (n.long ∙ sym own.long) fl.4.is_start) in
          let at_first : t.top.at ≡ 0 = ap (λ (f : Frame). f.at) n.top in
          guided-from depends store.through store.no_cycle modules certificates t (record { home = n.c.home; function = n.c.definition; frame = t.top; lent = []; types = []; edges = b.0.edges })
          (record { home = w.home; function = w.function; frame = record (s.top) { stack = u.2.0 }; lent = t.top.entered_with; types = w.types; edges = w.known.edges } ∷ w.waiting)
          (subst (λ (c : Callee). Sound depends t (record { home = c.home; function = c.definition; frame = t.top; lent = []; types = []; edges = b.0.edges })
          (record { home = w.home; function = w.function; frame = record (s.top) { stack = u.2.0 }; lent = t.top.entered_with; types = w.types; edges = w.known.edges } ∷ w.waiting)) one u.2.1) (
            record {
              certificate = fl.0;
              stated = fl.1;
              known = b.0;
              is_home = subst (λ (d : Definition). slice_get modules d.place ≡ Some n.c.home) function ci.is_home;
              is_function = subst (λ (d : Definition). slice_get n.c.home.functions d.index ≡ Some n.c.definition) function ci.is_function;
              is_certificate = subst (λ (d : Definition). slice_get certificates d.place ≡ Some fl.0) function fl.2;
              is_stated = subst (λ (d : Definition). slice_get fl.0 d.index ≡ Some fl.1) function fl.3;
              is_known = subst (λ (a : ℕ). known_before n.c.home n.c.definition fl.1 a ≡ Some (b.0, [])) (sym at_first) b.1;
              are_edges = refl {a = b.0.edges};
              are_locals = known-above fl.4.start.locals b.0.locals t.top.locals b.2 start;
            },
            (placed-on modules certificates x placed-here (record (s.top) { stack = u.2.0 }) t.top.entered_with w.known w.types w.known.edges refl w.is_known refl w.are_locals, w.placed),
          )
          (waits-fit t u.2.0 (called-stack t u.2.0 w.waiting (u.2.1).stood.2 (called h j (Goes t) is)), w.waiting_fit) (
            λ i handle results i_at handle_at results_at.
                let same : i ≡ j = cc (i_at, at) in
                callee-agrees h j n.c n.is_callee handle results (subst (λ k. slice_get w.home.function_handles k ≡ Some handle) same handle_at) results_at,
            w.agree,
          )

  return-keeps : slice_get w.function.code s.top.at ≡ Some Ret → (o : Onward w.home w.function w.stated s.top.at Ret w.known w.types)
      → Goes_well (return_results h) → Ends (TurnGuided depends modules certificates) (return_results h)
  unfolding edges_after
  return-keeps at o well = by_result (return_results h) refl well
    where
      free : return_edges (record { home = w.home; function = w.function; types = w.types }) w.known.edges ≡ Some w.known.edges
      free = o.edges ∙ ap Some (then-some _ w.known.edges o.next.edges o.edges).1

      no-frames : (fs : List Frame) → StoodOn s.top.entered_with fs [] → fs ≡ []
      no-frames [] st = refl
      no-frames (f ∷ fs) st = absurd st

      by_result : (r : Result Turn Failure) → return_results h ≡ r
          → Goes_well r → Ends (TurnGuided depends modules certificates) r
      by_result (Err e) is k = k
      by_result (Ok (Returns t)) is k = tt
      by_result (Ok (Goes t)) is k = by_waiting w.waiting w.sound w.waiting_fit w.placed w.agree
        where
          by_waiting : (ws : List Stood) → Sound depends s (worked s w.home w.function w.types w.known.edges) ws → StoodFit ws
              → AllPlaced modules certificates ws → AllAgree w.home w.function ws → Guided depends modules certificates t
          by_waiting [] sound fit pl ag = absurd (last-returns h t (no-frames s.below sound.stood.2) is)
          by_waiting (v ∷ vs) sound fit pl ag =
              return-goes depends modules certificates store s t (worked s w.home w.function w.types w.known.edges) v vs sound w.fits fit.0 pl.0 pl.1 free fit.1 ag is

  rule-keeps : (i : Instruction) → slice_get w.function.code s.top.at ≡ Some i → Reaches w.function.acquires i → (o : Onward w.home w.function w.stated s.top.at i w.known w.types)
      → RowEnds depends store.through store.no_cycle modules s w.home w.function w.known w.types w.waiting w.sound w.fits w.are_locals facts.inside facts.rooted i o.next.locals
      → Ends (TurnGuided depends modules certificates) (rule i h)
  unfolding rule
  rule-keeps (Call j) at q o ends = call-keeps j at o ends
  rule-keeps Ret at q o ends = return-keeps at o ends
  rule-keeps i at q o ends = row-keeps i (λ z. z) q o ends

-- every step
pub step-keeps : (depends : ℕ → ℕ → Type 0) (modules : List Module) (certificates : List Certificate) → StoreFacts depends modules certificates
    → (s : State) → Guided depends modules certificates s → TypeFacts modules s → Ends (TurnGuided depends modules certificates) (step modules s)
unfolding step
step-keeps depends modules certificates store s g facts =
    let w = working depends modules certificates s g facts.fit in
    given (TurnGuided depends modules certificates) (entry modules s.top.function.place) _ w.home (ap (λ (o : Option Module). ok_or o (Faults LinkageFault)) w.is_home)
    (given (TurnGuided depends modules certificates) (entry w.home.functions s.top.function.index) _ w.function (ap (λ (o : Option FunctionDefinition). ok_or o (Faults LinkageFault)) w.is_function)
    (after (TurnGuided depends modules certificates) (ok_or (slice_get w.function.code s.top.at) (Faults TypeFault)) _ (found-well _ _ tt) (λ i i_is.
    tests (TurnGuided depends modules certificates) (list_all (λ t. nat_lt t (length w.function.code)) (successors s.top.at i)) (Faults TypeFault) _ tt (λ within.
    let at = found-is (slice_get w.function.code s.top.at) _ i i_is in
    let fl = flows-at depends modules certificates store s.top.function.place s.top.function.index w.home w.function w.certificate w.stated w.is_home w.is_function w.is_certificate w.is_stated in
    let o = goes-on w.home w.function w.stated fl.start fl.locals fl.edges s.top.at w.known w.types i w.is_known at in
    let q = store.reaches s.top.function.place s.top.function.index s.top.at w.home w.function i w.is_home w.is_function at in
    rule-keeps depends modules certificates store s w facts i at q o
    (rule-ends depends store.through store.no_cycle modules s w.home w.function w.known w.types w.waiting w.sound w.fits w.are_locals facts.inside facts.rooted i o.next.locals o.next.edges q
    (facts.able w.home w.function w.stated w.known w.types i w.is_home w.is_function w.is_known at) o.locals o.edges)))))
