-- The invariant as the theory of borrows has it, and back.
use Rattle.mv_soundness.proofs.Guided.Common.{◌≡◌, ℕ, List, [], ◌∷◌, map, length, sym, ◌∙◌, ap, Option, Module, reference_of, Frame, State, frames, Reference, Chain, Certificate, Fits}
use Rattle.mv_soundness.proofs.Guided.Common.{Stood, seen_of, layer_at, layers, StoodOn, point_of, Sound, home_of, held_as, AllPlaced, StoodFit, AllAgree, Guided, AllCovered}
use Rattle.mv_borrow_graph.proofs.{Abstract.Terms.Stack.Bottom, Abstract.Terms.Stack.Above, Abstract.Terms.Stack.Calls, Abstract.Terms.Rows.IsArgument}
use Rattle.mv_borrow_graph.proofs.Abstract.Stack.{chain_covers, chain_return}
use Rattle.mv_soundness.proofs.{Borrows.Stood.Linked, Borrows.Stood.LinkedTo, Guided.Guided.FirstAlone}
use Rattle.mv_soundness.proofs.Borrows.Calls.{homed, calls-hold}

module _ (depends : ℕ → ℕ → Type 0) where
  -- a waiting frame and the one above it
  linked-calls : (w u : Stood) → Linked depends w u → w.lent ≡ u.frame.entered_with → Fits (point_of w) (seen_of w)
      → Calls depends (layer_at w) (layer_at u) (IsArgument (length (map held_as (map reference_of w.frame.stack))))
  linked-calls w u l lent fits =
      let c = calls-hold depends w.home w.function (seen_of w) u.frame u.function.acquires w.types l.types w.edges l.edges l.link lent fits l.need l.typing u.edges in
      record { passed = c.passed; free = c.free; store_free = c.store_free; later = c.later; leads_on = c.leads_on }

  pub chain-from : (lent : List (Option Reference)) (fs : List Frame) (x : Stood) (xs : List Stood) → StoodOn lent fs (x ∷ xs) → AllCovered (x ∷ xs)
      → FirstAlone (x ∷ xs) → LinkedTo depends x xs → StoodFit xs → Chain depends home_of (layers (x ∷ xs))
  chain-from lent [] x xs s c f l fits = absurd s
  chain-from lent (g ∷ gs) x [] s c f l fits = Bottom c.0 (homed x.function.acquires (seen_of x)) f
  chain-from lent (g ∷ []) x (w ∷ ws) s c f l fits = absurd s.2
  chain-from lent (g ∷ h ∷ hs) x (w ∷ ws) s c f l fits =
      Above c.0 (homed x.function.acquires (seen_of x)) (IsArgument (length (map held_as (map reference_of w.frame.stack))))
      (linked-calls w x l.0 (s.2.1 ∙ ap (λ (y : Frame). y.entered_with) (sym s.0)) fits.0)
      (chain-from g.entered_with (h ∷ hs) w ws s.2 c.1 f l.1 fits.1)

module _ (depends : ℕ → ℕ → Type 0) (through : (a b c : ℕ) → depends a b → depends b c → depends a c) (no_cycle : (a : ℕ) → depends a a → ⊥) where
  pub all-covered : (x : Stood) (xs : List Stood) → Chain depends home_of (layers (x ∷ xs)) → AllCovered (x ∷ xs)
  all-covered x [] d = (chain_covers depends home_of through no_cycle (layer_at x) [] d, tt)
  all-covered x (y ∷ ys) d =
      (chain_covers depends home_of through no_cycle (layer_at x) (layers (y ∷ ys)) d, all-covered y ys (chain_return depends home_of through no_cycle (layer_at x) (layer_at y) (layers ys) d))

  pub first-alone : (x : Stood) (xs : List Stood) → Chain depends home_of (layers (x ∷ xs)) → FirstAlone (x ∷ xs)
  first-alone x [] (Bottom c h e) = e
  first-alone x (y ∷ ys) d = first-alone y ys (chain_return depends home_of through no_cycle (layer_at x) (layer_at y) (layers ys) d)

  -- what the theory keeps, with where the frames stand, is the invariant
  pub guided-from : (modules : List Module) (certificates : List Certificate) (s : State) (x : Stood) (xs : List Stood) → Sound depends s x xs
      → AllPlaced modules certificates (x ∷ xs) → StoodFit xs → AllAgree x.home x.function xs → Guided depends modules certificates s
  guided-from modules certificates s x xs sound placed fit agree = record {
    top = x;
    waiting = xs;
    stood = sound.stood;
    placed = placed;
    covered = all-covered x xs sound.chain;
    first = first-alone x xs sound.chain;
    links = sound.links;
    fit = fit;
    agree = agree;
    ordered = sound.ordered;
    next = sound.next;
  }

-- and it gives what the theory keeps, where the types are right
pub sound-from : (depends : ℕ → ℕ → Type 0) (modules : List Module) (certificates : List Certificate) (s : State) (g : Guided depends modules certificates s) → Sound depends s g.top g.waiting
sound-from depends modules certificates s g = record {
  stood = g.stood;
  chain = chain-from depends [] (frames s) g.top g.waiting g.stood g.covered g.first g.links g.fit;
  links = g.links;
  ordered = g.ordered;
  next = g.next;
}
