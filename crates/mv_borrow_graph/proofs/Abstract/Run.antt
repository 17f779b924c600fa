-- Steps of stacks of frames keep what holds of them.
use Rattle.std.proofs.Common.{◌≡◌, ℕ, List, [], ◌∷◌, ◌++◌, length, Bool, true, refl, Option, Some}
use Rattle.mv_borrow_graph.proofs.Abstract.Terms.Places.{Defined, Label, LabelBelow}
use Rattle.mv_borrow_graph.proofs.Abstract.Terms.Covers.{Node, Own, Glob, Temp, Ref, Live, Edges}
use Rattle.mv_borrow_graph.proofs.Abstract.Terms.Rows.{Row, Need, After, IsArgument, after_call}
use Rattle.mv_borrow_graph.proofs.Abstract.Terms.Lists.{Value, local_ref, refs_of, refs_among, first_locals, Activation, seen, Lent, GivenAt}
use Rattle.mv_borrow_graph.proofs.Abstract.Terms.Stack.{Layer, Calls, Homed, Chain}
use Rattle.mv_borrow_graph.proofs.Abstract.Rows.{row_rise}
use Rattle.mv_borrow_graph.proofs.Abstract.Stack.{chain_covers, chain_step, chain_call, chain_return}
use Rattle.mv_borrow_graph.proofs.Abstract.Calls.{came_from, entered_at, came_apart, return_row}
use Rattle.mv_borrow_graph.proofs.Abstract.Turns.{Turn, Copies, covers_turn}

abbrev pub layer : Activation → Edges → Layer
layer a e = record { frame = seen a; edges = e }

-- the first edges are below the second
abbrev pub EdgesBelow : Edges → Edges → Type 0
EdgesBelow e f = (p : Node) (x : Label) (c : Node) → e p x c → (y : Label) × LabelBelow x y × f p y c

abbrev pub Kinds : Activation → (Node → Bool) → Type 0
Kinds a kind = (n : Node) (r : Ref) → Live (seen a) n r → kind n ≡ r.mutable

abbrev pub SameFrame : Activation → Activation → Type 0
SameFrame a b = (b.number ≡ a.number) × (b.home ≡ a.home) × (b.acquires ≡ a.acquires) × (b.entry ≡ a.entry)

turn_keeps : (row : Row) (k : ℕ) (a b : Activation) → Turn row k a b → SameFrame a b
turn_keeps row k a b (Copies _ l r h m) = (refl, refl, refl, refl)
turn_keeps row k a b t = (refl, refl, refl, refl)

-- one step of a run, as the certificate's rules see it
pub data Steps (depends : ℕ → ℕ → Type 0) (home_of : Defined → ℕ) : List Layer → List Layer → Type 1 where
  -- a row that makes, moves or drops a reference; the state at the next instruction is above what the row leaves
  ByRow : (row : Row) (k : ℕ) (a b : Activation) (e e' : Edges) (kind : Node → Bool) (rest : List Layer) → Turn row k a b → Kinds a kind → Need row k kind e
      → EdgesBelow (After row k e) e' → Steps depends home_of (layer a e ∷ rest) (layer b e' ∷ rest)
  -- any other row: no reference comes
  ByValue : (a : Activation) (locals : List (Option Value)) (stack : List Value) (e e' : Edges) (rest : List Layer)
      → ((n : Node) (r : Ref) → refs_of locals stack n ≡ Some r → Live (seen a) n r)
      → EdgesBelow e e' → Steps depends home_of (layer a e ∷ rest) (layer (record a { locals = locals; stack = stack }) e' ∷ rest)
  -- a Call; the caller is kept with its arguments on its stack
  ByCall : (w u : Activation) (e eu : Edges) (args s : List Value) (others : List (Option Value)) (rest : List Layer) → w.stack ≡ args ++ s
      → u.locals ≡ first_locals args others → u.stack ≡ [] → u.entry ≡ refs_among args → ((i : ℕ) (r : Ref) → local_ref others i ≡ Some r → ⊥)
      → Homed home_of (seen u) → Calls depends (layer w e) (layer u eu) (IsArgument (length s))
      → Steps depends home_of (layer w e ∷ rest) (layer u eu ∷ (layer w e ∷ rest))
  -- a Ret
  ByRet : (w u : Activation) (e eu e' : Edges) (args s : List Value) (kind : Node → Bool) (result : ℕ → Bool) (rest : List Layer) → w.stack ≡ args ++ s
      → Kinds w kind → ((i : ℕ) (r : Ref) → Live (seen u) (Temp i) r → result i ≡ r.mutable)
      → ((l i : ℕ) (x : Label) → eu (Own l) x (Temp i) → ⊥) → ((t : Defined) (i : ℕ) (x : Label) → eu (Glob t) x (Temp i) → ⊥)
      → ((i j : ℕ) (x : Label) → result i ≡ true → eu (Temp i) x (Temp j) → ⊥)
      → Calls depends (layer w e) (layer u eu) (IsArgument (length s))
      → EdgesBelow (after_call (length s) kind result (Lent w) (GivenAt u) e) e'
      → Steps depends home_of (layer u eu ∷ (layer w e ∷ rest)) (layer (record w { stack = u.stack ++ s }) e' ∷ rest)

module _ (depends : ℕ → ℕ → Type 0) (home_of : Defined → ℕ) (through : (a b c : ℕ) → depends a b → depends b c → depends a c) (no_cycle : (a : ℕ) → depends a a → ⊥) where
  -- what holds of a stack of frames holds after every step
  pub chain_steps : (ls ms : List Layer) → Steps depends home_of ls ms → Chain depends home_of ls → Chain depends home_of ms
  chain_steps ls ms (ByRow row k a b e e' kind rest t typed need above) d =
      let s = turn_keeps row k a b t in
      let c = covers_turn row k a b e kind (chain_covers depends home_of through no_cycle (layer a e) rest d) typed t need in
      chain_step depends home_of through no_cycle (layer a e) (layer b e') rest s.0 s.1 s.2 s.3
      (row_rise (seen b) (After row k e) (refs_of b.locals b.stack) c e' (λ n r h. h) above) d
  chain_steps ls ms (ByValue a locals stack e e' rest stays above) d =
      chain_step depends home_of through no_cycle (layer a e) (layer (record a { locals = locals; stack = stack }) e') rest refl refl refl refl
      (row_rise (seen a) e (refs_of locals stack) (chain_covers depends home_of through no_cycle (layer a e) rest d) e' stays above) d
  chain_steps ls ms (ByCall w u e eu args s others rest h l k g none homed calls) d =
      chain_call depends home_of through no_cycle (layer u eu) (layer w e) rest (IsArgument (length s)) (came_from (length s)) d homed calls
      (entered_at w args s h u e others l k g none) (came_apart w args s h)
  chain_steps ls ms (ByRet w u e eu e' args s kind result rest h typed results no_own no_glob no_pair calls above) d =
      let below = chain_return depends home_of through no_cycle (layer u eu) (layer w e) rest d in
      let c = return_row depends home_of through no_cycle w u e eu rest args s h kind typed result results
      (chain_covers depends home_of through no_cycle (layer u eu) (layer w e ∷ rest) d) below calls no_own no_glob no_pair in
      chain_step depends home_of through no_cycle (layer w e) (layer (record w { stack = u.stack ++ s }) e') rest refl refl refl refl
      (row_rise (seen (record w { stack = u.stack ++ s })) (after_call (length s) kind result (Lent w) (GivenAt u) e) (refs_of w.locals (u.stack ++ s)) c e' (λ n r g. g) above) below
