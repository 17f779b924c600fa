-- Every step keeps what the borrow rules need of a state.
use Rattle.mv_soundness.proofs.Borrows.Common.{refl, sym, ◌≡◌, ℕ, List, [], ◌∷◌, ap, subst, ◌++◌, map, length, Option, Some, Ok, ◌+◌, reverse, ◌∙◌, ap₂, arith, ◌<◌, length-map}
use Rattle.mv_soundness.proofs.Borrows.Common.{map-append, slice_get, Module, FunctionDefinition, Instruction, Call, reference_of, Frame, State, Here, Goes, Reference, Value, layer}
use Rattle.mv_soundness.proofs.Borrows.Common.{EdgesBelow, Chain, Layer, return_edges, call_edges, Edge, Types, of_call, map-turned, token_kind, operand_kind, Fits, NoneInside, IsCall}
use Rattle.mv_soundness.proofs.Borrows.Common.{Reaches, Stood, seen_of, layer_at, layers, home_of, StoodOn, Descending, AllUnder, Sound, edges_of, held_as, activation, layer_of, alone}
use Rattle.mv_certificate_rules.specs.BorrowRules.{edges_after}
use Rattle.mv_move_types.specs.declared.tables.Definition.{Definition}
use Rattle.mv_machine.specs.StepControl.{Callee, callee, call, return_results}
use Rattle.mv_machine.specs.Step.{rule}
use Rattle.mv_soundness.proofs.{Borrows.Links.CallFacts, Borrows.Stood.point_of, Borrows.Stood.Linked, Borrows.Stood.LinkedTo}
use Rattle.mv_soundness.proofs.{Borrows.Calls.call-kept, Borrows.Calls.return-kept, Borrows.Same.SameSeen, Borrows.Same.SameFrames, Borrows.Same.layer-same, Borrows.Kept.falls-same}
use Rattle.mv_soundness.proofs.{Borrows.Kept.kept-falls, Borrows.Premises.Premises, Borrows.Premises.IsTransfer, Borrows.Premises.Stays, Borrows.Steps.step-kept}
use Rattle.mv_machine.proofs.Transfers.{called, Called, callee-is, signature-is, tags-long, returned, ReturnedTo}

-- the same with these frames
abbrev pub refit : List Stood → List Frame → List Stood
refit [] fs = []
refit (x ∷ xs) [] = []
refit (x ∷ xs) (f ∷ fs) = record x { frame = f } ∷ refit xs fs

pub stood-refit : (lent lent' : List (Option Reference)) (fs gs : List Frame) (xs : List Stood) → lent' ≡ lent → StoodOn lent fs xs → SameFrames fs gs → StoodOn lent' gs (refit xs gs)
stood-refit lent lent' [] [] [] e s q = tt
stood-refit lent lent' (f ∷ fs) (g ∷ gs) (x ∷ xs) e s q = (refl, s.1 ∙ sym e, stood-refit f.entered_with g.entered_with fs gs xs q.0.entered_with s.2 q.1)
stood-refit lent lent' fs gs xs e s q = absurd (grind arith)

pub layers-refit : (lent : List (Option Reference)) (fs gs : List Frame) (xs : List Stood) → StoodOn lent fs xs → SameFrames fs gs → layers xs ≡ layers (refit xs gs)
layers-refit lent [] [] [] s q = refl
layers-refit lent (f ∷ fs) (g ∷ gs) (x ∷ xs) s q =
    ap₂ (λ (u : Layer) (us : List Layer). u ∷ us) (layer-same x.function.acquires x.lent x.frame g x.edges (subst (λ z. SameSeen z g) (sym s.0) q.0)) (layers-refit f.entered_with fs gs xs s.2 q.1)
layers-refit lent fs gs xs s q = absurd (grind arith)

under-refit : (n m : ℕ) (fs gs : List Frame) → m ≡ n → SameFrames fs gs → AllUnder n fs → AllUnder m gs
under-refit n m [] [] e q h = tt
under-refit n m (f ∷ fs) (g ∷ gs) e q h =
    let same : g.number ≡ f.number = q.0.number in
    let under : f.number < n = h.0 in
    (omega arith, under-refit n m fs gs e q.1 h.1)
under-refit n m fs gs e q h = absurd q

descending-refit : (fs gs : List Frame) → SameFrames fs gs → Descending fs → Descending gs
descending-refit [] [] q h = tt
descending-refit (f ∷ fs) (g ∷ gs) q h = (under-refit f.number g.number fs gs q.0.number q.1 h.0, descending-refit fs gs q.1 h.1)
descending-refit fs gs q h = absurd q

module _ (depends : ℕ → ℕ → Type 0) where
  pub link-same : (home : Module) (function : FunctionDefinition) (w u w' u' : Frame) (acquires : List ℕ) → IsCall depends home function w u acquires
      → w'.at ≡ w.at → w'.number ≡ w.number → w'.function ≡ w.function → u'.number ≡ u.number → u'.function ≡ u.function → u'.entered_with ≡ u.entered_with
      → IsCall depends home function w' u' acquires
  link-same home function w u w' u' acquires l a b c d e f = record {
    index = l.index;
    handle = l.handle;
    parameters = l.parameters;
    results = l.results;
    is_call = rw a l.is_call;
    is_handle = l.is_handle;
    is_parameters = l.is_parameters;
    is_results = l.is_results;
    passed = rw f l.passed;
    later = rw (b, d) l.later;
    own = rw (c, e) l.own;
    acquired = l.acquired;
    leads = rw (c, e) l.leads;
  }

  linked-refit : (u u' : Stood) (xs : List Stood) (lent : List (Option Reference)) (fs gs : List Frame) → u'.function ≡ u.function
      → u'.frame.number ≡ u.frame.number → u'.frame.function ≡ u.frame.function → u'.frame.entered_with ≡ u.frame.entered_with → StoodOn lent fs xs
      → SameFrames fs gs → LinkedTo depends u xs → LinkedTo depends u' (refit xs gs)
  unfolding link-same
  linked-refit u u' [] lent fs gs z a b c s q l = tt
  linked-refit u u' (w ∷ ws) lent (f ∷ fs) (g ∷ gs) z a b c s q l = (
    record {
      link = subst (λ (d : FunctionDefinition). IsCall depends w.home w.function g u'.frame d.acquires) (sym z)
          (link-same w.home w.function w.frame u.frame g u'.frame u.function.acquires l.0.link (q.0.at ∙ ap (λ (y : Frame). y.at) (sym s.0))
          (q.0.number ∙ ap (λ (y : Frame). y.number) (sym s.0)) (q.0.function ∙ ap (λ (y : Frame). y.function) (sym s.0)) a b c);
      edges = l.0.edges;
      types = l.0.types;
      need = l.0.need;
      typing = l.0.typing;
    },
    linked-refit w (record w { frame = g }) ws f.entered_with fs gs refl (q.0.number ∙ ap (λ (y : Frame). y.number) (sym s.0)) (q.0.function ∙ ap (λ (y : Frame). y.function) (sym s.0))
        (q.0.entered_with ∙ ap (λ (y : Frame). y.entered_with) (sym s.0)) s.2 q.1 l.1,
  )
  linked-refit u u' ws lent fs gs z a b c s q l = absurd (grind arith)

module _ (depends : ℕ → ℕ → Type 0) where
  pub linked-top : (u u' : Stood) (xs : List Stood) → u'.function ≡ u.function → u'.frame.number ≡ u.frame.number → u'.frame.function ≡ u.frame.function → u'.frame.entered_with ≡ u.frame.entered_with
      → LinkedTo depends u xs → LinkedTo depends u' xs
  unfolding link-same
  linked-top u u' [] z a b c l = tt
  linked-top u u' (w ∷ ws) z a b c l = (
    record {
      link = subst (λ (d : FunctionDefinition). IsCall depends w.home w.function w.frame u'.frame d.acquires) (sym z)
          (link-same depends w.home w.function w.frame u.frame w.frame u'.frame u.function.acquires l.0.link refl refl refl a b c);
      edges = l.0.edges;
      types = l.0.types;
      need = l.0.need;
      typing = l.0.typing;
    },
    l.1,
  )

module _ (depends : ℕ → ℕ → Type 0) (through : (a b c : ℕ) → depends a b → depends b c → depends a c) (no_cycle : (a : ℕ) → depends a a → ⊥)
    (modules : List Module) (s : State) (x : Stood) (xs : List Stood) (sound : Sound depends s x xs)
  where
    abbrev pub here_at : Here
    here_at = record { modules = modules; home = x.home; function = x.function; state = s }

    -- the layer of the frame at work
    pub top-layer : layer_at x ≡ layer_of x.function.acquires (alone s.top) x.edges
    top-layer = rw (sound.stood.0, sound.stood.1) refl

    -- what the frame at work stands on
    abbrev pub premises : Fits (point_of x) (alone s.top) → NoneInside s → Premises
    premises fits inside = record {
      depends = depends;
      through = through;
      no_cycle = no_cycle;
      rest = layers xs;
      h = here_at;
      types = x.types;
      es = x.edges;
      stands = subst (λ u. Chain depends home_of (u ∷ layers xs)) top-layer sound.chain;
      fits = fits;
      inside = inside;
    }

    -- a step by any instruction but Call and Ret; what the certificate says of the next instruction is above what the rule leaves
    pub sound-row : (i : Instruction) (t : State) (edges es' : List Edge) (types' : Types) → (IsTransfer i → ⊥) → Reaches x.function.acquires i → rule i here_at ≡ Ok (Goes t)
        → Fits (point_of x) (alone s.top) → NoneInside s → edges_after (point_of x) i x.edges ≡ Some edges → EdgesBelow (edges_of t.top.function.place edges) (edges_of t.top.function.place es')
        → Sound depends t (record { home = x.home; function = x.function; frame = t.top; lent = []; types = types'; edges = es' }) (refit xs t.below)
    sound-row i t edges es' types' transfer reaches e fits inside g below =
        let k = step-kept (premises fits inside) i (Goes t) edges transfer reaches sound.ordered e g in
        let stays : Stays i s t = k.1 in
        record {
          stood = (refl, refl, stood-refit s.top.entered_with t.top.entered_with s.below t.below xs stays.2 sound.stood.2 stays.3);
          chain = subst (λ us. Chain depends home_of (layer_of x.function.acquires (alone t.top) es' ∷ us)) (layers-refit s.top.entered_with s.below t.below xs sound.stood.2 stays.3)
              (kept-falls depends through no_cycle x.function.acquires t.top (layers xs) t.top.locals (map reference_of t.top.stack) edges k.0 t.top.locals (map reference_of t.top.stack) es'
              (λ l v r at is. at) (falls-same (map reference_of t.top.stack)) below);
          links = linked-refit depends x (record { home = x.home; function = x.function; frame = t.top; lent = []; types = types'; edges = es' }) xs s.top.entered_with s.below t.below refl
              (stays.0 ∙ ap (λ (y : Frame). y.number) (sym sound.stood.0)) (stays.1 ∙ ap (λ (y : Frame). y.function) (sym sound.stood.0))
              (stays.2 ∙ ap (λ (y : Frame). y.entered_with) (sym sound.stood.0))
              sound.stood.2 stays.3 sound.links;
          ordered = (under-refit s.top.number t.top.number s.below t.below stays.0 stays.3 sound.ordered.0, descending-refit s.below t.below stays.3 sound.ordered.1);
          next = rw (stays.0, stays.4) sound.next;
        }

    fits-top : Fits (point_of x) (alone s.top) → (stack : List Value) (lent : List (Option Reference)) → reverse lent ++ map reference_of stack ≡ map reference_of s.top.stack
        → Fits (point_of x) (record { frame = record (s.top) { stack = stack }; lent = lent })
    fits-top fits stack lent e = record { stack = fits.stack ∙ ap (map operand_kind) (sym e); locals = fits.locals }

    weaken : (n m : ℕ) (fs : List Frame) → n < m → AllUnder n fs → AllUnder m fs
    weaken n m [] l a = tt
    weaken n m (f ∷ fs) l a = let b : f.number < n = a.0 in (omega arith, weaken n m fs l a.1)

    -- the caller as it waits
    abbrev pub waits : List Value → List (Option Reference) → Stood
    waits stack lent = record { home = x.home; function = x.function; frame = record (s.top) { stack = stack }; lent = lent; types = x.types; edges = x.edges }

    -- a Call, whatever the certificate says of the callee's first instruction
    pub sound-call : (i : ℕ) (t : State) (edges eu : List Edge) (types' tu : Types) → call here_at i ≡ Ok (Goes t) → slice_get x.function.code s.top.at ≡ Some (Call i) → CallFacts depends here_at i
        → Fits (point_of x) (alone s.top) → call_edges (point_of x) i x.edges ≡ Some edges → of_call x.home i x.types ≡ Some types'
        → (c : Callee) × (callee here_at i ≡ Ok c) × ((stack : List Value) ×
        Sound depends t (record { home = c.home; function = c.definition; frame = t.top; lent = []; types = tu; edges = eu }) (waits stack t.top.entered_with ∷ xs))
    sound-call i t edges eu types' tu e at facts fits need typing = by_called (called here_at i (Goes t) e)
      where
        by_called : Called here_at i t → (c : Callee) × (callee here_at i ≡ Ok c) × ((stack : List Value) ×
            Sound depends t (record { home = c.home; function = c.definition; frame = t.top; lent = []; types = tu; edges = eu }) (waits stack t.top.entered_with ∷ xs))
        by_called k =
            let ci = callee-is here_at i k.c k.is_callee in
            let parameters = signature-is here_at.modules here_at.home ci.handle.parameters k.c.parameters ci.are_parameters in
            let results = signature-is here_at.modules here_at.home ci.handle.results k.c.results ci.are_results in
            let entered : t.top.entered_with ≡ map reference_of k.arguments = ap (λ (f : Frame). f.entered_with) k.top in
            let number : t.top.number ≡ s.entered = ap (λ (f : Frame). f.number) k.top in
            let function : t.top.function ≡ k.c.function = ap (λ (f : Frame). f.function) k.top in
            let operands : reverse t.top.entered_with ++ map reference_of k.stack ≡ map reference_of s.top.stack =
            ap (λ l. reverse l ++ map reference_of k.stack) entered ∙ ap (λ l. l ++ map reference_of k.stack) (sym (map-turned reference_of k.arguments))
            ∙ sym (map-append reference_of (reverse k.arguments) k.stack) ∙ ap (map reference_of) (sym k.split) in
            let later : s.top.number < t.top.number = rw number sound.next in
            let link : IsCall depends x.home x.function (record (s.top) { stack = k.stack }) t.top k.c.definition.acquires = record {
              index = i;
              handle = ci.handle;
              parameters = parameters.0;
              results = results.0;
              is_call = at;
              is_handle = ci.is_handle;
              is_parameters = parameters.1;
              is_results = results.1;
              passed = ap length entered ∙ length-map k.arguments reference_of ∙ k.long ∙ sym (tags-long _ parameters.0 k.c.parameters parameters.2);
              later = later;
              own = λ same. facts.own k.c k.is_callee (same ∙ ap (λ (d : Definition). d.place) function);
              acquired = facts.acquired;
              leads = rw function (facts.leads k.c k.is_callee);
            } in (
              k.c,
              k.is_callee,
              (
                k.stack,
                record {
                  stood = (refl, refl, subst (λ fs. StoodOn t.top.entered_with fs (waits k.stack t.top.entered_with ∷ xs)) (sym k.below) (refl, refl, sound.stood.2));
                  chain = call-kept depends x.home x.function (seen_of (waits k.stack t.top.entered_with)) t.top k.c.definition.acquires x.types types' x.edges edges link refl
                      (fits-top fits k.stack t.top.entered_with operands) need typing through no_cycle (layers xs) eu k.arguments (length k.others)
                      (ap (λ (f : Frame). f.locals) k.top) (ap (λ (f : Frame). f.stack) k.top) entered
                      (subst (λ (os : List (Option Reference)). Chain depends home_of
                      (layer (record (activation x.function.acquires (alone s.top)) { stack = map held_as os }) (edges_of s.top.function.place x.edges) ∷ layers xs))
                      (sym operands) (subst (λ u. Chain depends home_of (u ∷ layers xs)) top-layer sound.chain));
                  links = (
                    record { link = link; edges = edges; types = types'; need = need; typing = typing },
                    linked-top depends x (waits k.stack t.top.entered_with) xs refl (ap (λ (y : Frame). y.number) (sym sound.stood.0)) (ap (λ (y : Frame). y.function) (sym sound.stood.0))
                        (ap (λ (y : Frame). y.entered_with) (sym sound.stood.0)) sound.links,
                  );
                  ordered = subst (λ fs. AllUnder t.top.number fs × Descending fs) (sym k.below) ((later, weaken s.top.number t.top.number s.below later sound.ordered.0), sound.ordered);
                  next = rw (number, k.entered) (omega arith);
                },
              ),
            )

-- a Ret: the caller goes on; what the certificate says after the Call is above what the Call's rule leaves
module _ (depends : ℕ → ℕ → Type 0) (through : (a b c : ℕ) → depends a b → depends b c → depends a c) (no_cycle : (a : ℕ) → depends a a → ⊥)
    (modules : List Module) (s : State) (x w : Stood) (ws : List Stood) (sound : Sound depends s x (w ∷ ws))
  where
    pub sound-return : (t : State) (es' : List Edge) (types' : Types) → return_results (record { modules = modules; home = x.home; function = x.function; state = s }) ≡ Ok (Goes t)
        → Fits (point_of x) (alone s.top) → Fits (point_of w) (seen_of w) → return_edges (point_of x) x.edges ≡ Some x.edges
        → map token_kind (reverse sound.links.0.link.results) ≡ map operand_kind (map reference_of s.top.stack)
        → EdgesBelow (edges_of w.frame.function.place sound.links.0.edges) (edges_of w.frame.function.place es')
        → Sound depends t (record { home = w.home; function = w.function; frame = t.top; lent = []; types = types'; edges = es' }) ws
    sound-return t es' types' e fits fits_w free results above =
        by_below s.below sound.stood.2 sound.ordered.1 (returned (record { modules = modules; home = x.home; function = x.function; state = s }) (Goes t) e)
      where
        link : Linked depends w x
        link = sound.links.0

        by_below : (below : List Frame) → StoodOn s.top.entered_with below (w ∷ ws) → Descending below
            → ReturnedTo (record { modules = modules; home = x.home; function = x.function; state = s }) below (Ok (Goes t))
            → Sound depends t (record { home = w.home; function = w.function; frame = t.top; lent = []; types = types'; edges = es' }) ws
        by_below [] stood ordered k = absurd stood
        by_below (f ∷ fs) stood ordered k =
            let top : t.top ≡ record (w.frame) { stack = x.frame.stack ++ w.frame.stack; at = w.frame.at + 1 } =
            k.top ∙ ap₂ (λ (g : Frame) (u : List Value). record g { stack = u ++ g.stack; at = g.at + 1 }) (sym stood.0) (ap (λ (g : Frame). g.stack) (sym sound.stood.0)) in
            let number : t.top.number ≡ w.frame.number = ap (λ (g : Frame). g.number) top in
            let stood_top : Chain depends home_of (layer_of w.function.acquires (alone t.top) link.edges ∷ layers ws) =
            subst (λ g. Chain depends home_of (layer_of w.function.acquires (alone g) link.edges ∷ layers ws)) (sym top)
            (return-kept depends w.home w.function (seen_of w) x.frame x.function.acquires w.types link.types w.edges link.edges link.link
            (stood.1 ∙ ap (λ (g : Frame). g.entered_with) (sym sound.stood.0)) fits_w link.need link.typing through no_cycle (layers ws) x.edges (point_of x)
            (subst (λ g. Fits (point_of x) (alone g)) (sym sound.stood.0) fits) free
            (results ∙ ap (λ (g : Frame). map operand_kind (map reference_of g.stack)) (sym sound.stood.0))
            (let lone : layer_at x ≡ layer_of x.function.acquires (alone x.frame) x.edges = rw sound.stood.1 refl in subst (λ u. Chain depends home_of (u ∷ layers (w ∷ ws))) lone sound.chain)) in
            record {
              stood = (refl, refl, subst (λ gs. StoodOn t.top.entered_with gs ws) (sym k.below) (subst (λ l. StoodOn l fs ws) (ap (λ (g : Frame). g.entered_with) (sym stood.0) ∙ ap (λ (g : Frame). g.entered_with) (sym top)) stood.2));
              chain =
                  kept-falls depends through no_cycle w.function.acquires t.top (layers ws) t.top.locals
                  (map reference_of t.top.stack) link.edges stood_top t.top.locals (map reference_of t.top.stack) es'
                  (λ l v r at is. at) (falls-same (map reference_of t.top.stack))
                  (subst (λ (n : ℕ). EdgesBelow (edges_of n link.edges) (edges_of n es')) (ap (λ (g : Frame). g.function.place) (sym top)) above);
              links = linked-top depends w (record { home = w.home; function = w.function; frame = t.top; lent = []; types = types'; edges = es' }) ws refl number (ap (λ (g : Frame). g.function) top)
                  (ap (λ (g : Frame). g.entered_with) top) sound.links.1;
              ordered = subst (λ gs. AllUnder t.top.number gs × Descending gs) (sym k.below)
                  (subst (λ n. AllUnder n fs) (ap (λ (g : Frame). g.number) (sym stood.0) ∙ sym number) ordered.0, ordered.1);
              next = omega (arith, number, k.entered, link.link.later, ap (λ (g : Frame). g.number) sound.stood.0, sound.next);
            }
