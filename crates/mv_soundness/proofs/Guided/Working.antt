-- The invariant taken apart at the frame at work.
use Rattle.mv_soundness.proofs.Guided.Common.{◌≡◌, ℕ, List, [], sym, subst, Option, Some, slice_get, Module, FunctionDefinition, Frame, State, Reference, Known, Certificate, Stated}
use Rattle.mv_soundness.proofs.Guided.Common.{known_before, Edge, Types, Fits, AsKnown, Stood, Sound, alone, FrameFits, AllPlaced, StoodFit, AllAgree, Guided}
use Rattle.mv_soundness.proofs.Guided.Chains.{sound-from}

-- the frame at work, as its certificate sees it
abbrev pub worked : State → Module → FunctionDefinition → Types → List Edge → Stood
worked s home function types edges = record { home = home; function = function; frame = s.top; lent = []; types = types; edges = edges }

-- the frame at work stands in its function, what is known of it holds, and the frames below it wait
pub record Working (depends : ℕ → ℕ → Type 0) (modules : List Module) (certificates : List Certificate) (s : State) : Type 1 where
  pub home : Module
  pub function : FunctionDefinition
  pub certificate : Certificate
  pub stated : Stated
  pub known : Known
  pub types : Types
  pub waiting : List Stood
  pub is_home : slice_get modules s.top.function.place ≡ Some home
  pub is_function : slice_get home.functions s.top.function.index ≡ Some function
  pub is_certificate : slice_get certificates s.top.function.place ≡ Some certificate
  pub is_stated : slice_get certificate s.top.function.index ≡ Some stated
  pub is_known : known_before home function stated s.top.at ≡ Some (known, types)
  pub are_locals : AsKnown known.locals s.top.locals
  pub sound : Sound depends s (worked s home function types known.edges) waiting
  pub placed : AllPlaced modules certificates waiting
  pub fits : Fits (record { home = home; function = function; types = types }) (alone s.top)
  pub waiting_fit : StoodFit waiting
  pub agree : AllAgree home function waiting

pub working : (depends : ℕ → ℕ → Type 0) (modules : List Module) (certificates : List Certificate) (s : State) → Guided depends modules certificates s
    → FrameFits modules (alone s.top) → Working depends modules certificates s
working depends modules certificates s g fit =
    let x = g.top in
    let p = g.placed.0 in
    let same : x.frame ≡ s.top = g.stood.0 in
    let is_home : slice_get modules s.top.function.place ≡ Some x.home = subst (λ (f : Frame). slice_get modules f.function.place ≡ Some x.home) same p.is_home in
    let is_function : slice_get x.home.functions s.top.function.index ≡ Some x.function = subst (λ (f : Frame). slice_get x.home.functions f.function.index ≡ Some x.function) same p.is_function in
    let is_known : known_before x.home x.function p.stated s.top.at ≡ Some (p.known, x.types) =
    subst (λ (f : Frame). known_before x.home x.function p.stated f.at ≡ Some (p.known, x.types)) same p.is_known in
    record {
      home = x.home;
      function = x.function;
      certificate = p.certificate;
      stated = p.stated;
      known = p.known;
      types = x.types;
      waiting = g.waiting;
      is_home = is_home;
      is_function = is_function;
      is_certificate = subst (λ (f : Frame). slice_get certificates f.function.place ≡ Some p.certificate) same p.is_certificate;
      is_stated = subst (λ (f : Frame). slice_get p.certificate f.function.index ≡ Some p.stated) same p.is_stated;
      is_known = is_known;
      are_locals = subst (λ (f : Frame). AsKnown p.known.locals f.locals) same p.are_locals;
      sound = at_edges (sym p.are_edges) (at_lent g.stood.1 (at_frame same (sound-from depends modules certificates s g)));
      placed = g.placed.1;
      fits = fit x.home x.function p.stated p.known x.types is_home is_function is_known;
      waiting_fit = g.fit;
      agree = g.agree;
    }
  where
    at_frame : {f : Frame} → g.top.frame ≡ f → Sound depends s g.top g.waiting → Sound depends s (record (g.top) { frame = f }) g.waiting
    at_frame e z = subst (λ (f : Frame). Sound depends s (record (g.top) { frame = f }) g.waiting) e z

    at_lent : {f : Frame} {l : List (Option Reference)} → g.top.lent ≡ l → Sound depends s (record (g.top) { frame = f }) g.waiting → Sound depends s (record (g.top) { frame = f; lent = l }) g.waiting
    at_lent {f = f} e z = subst (λ (l : List (Option Reference)). Sound depends s (record (g.top) { frame = f; lent = l }) g.waiting) e z

    at_edges : {f : Frame} {l : List (Option Reference)} {es : List Edge} → g.top.edges ≡ es → Sound depends s (record (g.top) { frame = f; lent = l }) g.waiting
        → Sound depends s (record (g.top) { frame = f; lent = l; edges = es }) g.waiting
    at_edges {f = f} {l = l} e z = subst (λ (es : List Edge). Sound depends s (record (g.top) { frame = f; lent = l; edges = es }) g.waiting) e z
