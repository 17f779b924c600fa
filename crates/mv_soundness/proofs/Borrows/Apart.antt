-- The clauses across frames: what an upper frame acquires no lower one refers to, and no mutable reference overlaps an immutable one below.
use Rattle.mv_soundness.proofs.Borrows.Common.{refl, sym, ◌≡◌, ℕ, List, [], ◌∷◌, true, false, ◌⊎◌, inl, inr, ap, subst, and_from, eq-eqb, list_any, ◌==◌, ⊤, Key, frame_references}
use Rattle.mv_soundness.proofs.Borrows.Common.{overlap, Stored, Reference, Chain, OnStack, Top, Lower, InRefs, Stood, seen_of, layer_at, layers, home_of, ref_of, defined, root_of}
use Rattle.mv_borrow_graph.proofs.Abstract.Stack.{acquired_apart, immutable_apart, chain_return, adjacent, reaches}
use Rattle.mv_soundness.proofs.Borrows.Free.{live-at, overlap-is}

abbrev pub InStood : Stood → List Stood → Type 0
InStood w [] = ⊥
InStood w (x ∷ xs) = (w ≡ x) ⊎ InStood w xs

on-layers : (w : Stood) (xs : List Stood) → InStood w xs → OnStack (layer_at w) (layers xs)
on-layers w [] h = absurd h
on-layers w (x ∷ xs) (inl h) = subst (λ z. OnStack (layer_at w) (layer_at z ∷ layers xs)) h Top
on-layers w (x ∷ xs) (inr h) = Lower (on-layers w xs h)

-- no reference of the lower frame leads into a struct that the upper one's function acquires
abbrev pub OutOf : Stood → Stood → Type 0
OutOf u w =
    (r : Reference) (key : Key) → InRefs r (frame_references w.frame) → r.place.root ≡ Stored key → key.place ≡ u.frame.function.place
    → list_any (λ y. y == key.index) u.function.acquires ≡ true → ⊥

-- no mutable reference of the upper frame overlaps an immutable one of the lower
abbrev pub ApartFrom : Stood → Stood → Type 0
ApartFrom u w =
    (q r : Reference) → InRefs q (frame_references u.frame) → InRefs r (frame_references w.frame) → q.is_mutable ≡ true → r.is_mutable ≡ false → overlap q.place r.place ≡ true → ⊥

-- of each frame and each below it
abbrev pub EachBelow : (Stood → Stood → Type 0) → List Stood → Type 0
EachBelow P [] = ⊤
EachBelow P (x ∷ xs) = ((w : Stood) → InStood w xs → P x w) × EachBelow P xs

module _ (depends : ℕ → ℕ → Type 0) (through : (a b c : ℕ) → depends a b → depends b c → depends a c) (no_cycle : (a : ℕ) → depends a a → ⊥) where
  out-of : (u : Stood) (xs : List Stood) → Chain depends home_of (layers (u ∷ xs)) → (w : Stood) → InStood w xs → OutOf u w
  out-of u xs d w i r key h root home acq =
      let n = live-at w.function.acquires (seen_of w) r h in
      acquired_apart depends home_of through no_cycle (layer_at u) (layer_at w) (layers xs) n.0 (ref_of r) key.address (defined key.place key.index) d (on-layers w xs i) n.1 (ap root_of root)
      (and_from (key.place == u.frame.function.place) (list_any (λ y. y == key.index) u.function.acquires) (eq-eqb key.place u.frame.function.place home) acq)

  apart-from : (u : Stood) (xs : List Stood) → Chain depends home_of (layers (u ∷ xs)) → (w : Stood) → InStood w xs → ApartFrom u w
  apart-from u xs d w i q r g h mutable immutable o =
      let n = live-at w.function.acquires (seen_of w) r h in
      let m = live-at u.function.acquires (seen_of u) q g in
      immutable_apart depends home_of through no_cycle (layer_at u) (layer_at w) (layers xs) m.0 n.0 (ref_of q) (ref_of r) d (on-layers w xs i) m.1 n.1 mutable immutable (overlap-is q.place r.place o)

  pub all-out : (x : Stood) (xs : List Stood) → Chain depends home_of (layers (x ∷ xs)) → EachBelow OutOf (x ∷ xs)
  all-out x [] d = (out-of x [] d, tt)
  all-out x (y ∷ ys) d = (out-of x (y ∷ ys) d, all-out y ys (chain_return depends home_of through no_cycle (layer_at x) (layer_at y) (layers ys) d))

  pub all-apart : (x : Stood) (xs : List Stood) → Chain depends home_of (layers (x ∷ xs)) → EachBelow ApartFrom (x ∷ xs)
  all-apart x [] d = (apart-from x [] d, tt)
  all-apart x (y ∷ ys) d = (apart-from x (y ∷ ys) d, all-apart y ys (chain_return depends home_of through no_cycle (layer_at x) (layer_at y) (layers ys) d))

-- none of another module stands between two frames of one module
abbrev pub From : Stood → List Stood → Type 0
From x [] = ⊤
From x (w ∷ ws) = ((z : Stood) → InStood z ws → x.frame.function.place ≡ z.frame.function.place → w.frame.function.place ≡ x.frame.function.place) × From x ws

abbrev pub Together : List Stood → Type 0
Together [] = ⊤
Together (x ∷ xs) = From x xs × Together xs

module _ (depends : ℕ → ℕ → Type 0) (through : (a b c : ℕ) → depends a b → depends b c → depends a c) (no_cycle : (a : ℕ) → depends a a → ⊥) where
  abbrev ChainOn : List Stood → Type 1
  ChainOn [] = Unit {1}
  ChainOn (y ∷ ys) = Chain depends home_of (layers (y ∷ ys))

  chain-on : (x : Stood) (xs : List Stood) → Chain depends home_of (layers (x ∷ xs)) → ChainOn xs
  chain-on x [] d = tt
  chain-on x (y ∷ ys) d = chain_return depends home_of through no_cycle (layer_at x) (layer_at y) (layers ys) d

  from-at : (x : Stood) (ys : List Stood)
      → ((w : Stood) → InStood w ys → (w.frame.function.place ≡ x.frame.function.place) ⊎ depends w.frame.function.place x.frame.function.place)
      → ChainOn ys → From x ys
  from-at x [] r d = tt
  from-at x (w ∷ ws) r d = (
    (λ z i same. adjacent depends home_of through no_cycle (layer_at w) (layer_at z) (layers ws) x.frame.function.place d (Lower (on-layers z ws i)) (r w (inl refl)) (sym same)),
    from-at x ws (λ v i. r v (inr i)) (chain-on w ws d),
  )

  pub all-together : (x : Stood) (xs : List Stood) → Chain depends home_of (layers (x ∷ xs)) → Together (x ∷ xs)
  all-together x [] d = (tt, tt)
  all-together x (y ∷ ys) d = (
    from-at x (y ∷ ys) (λ w i. reaches depends home_of through no_cycle (layer_at x) (layer_at w) (layers (y ∷ ys)) d (Lower (on-layers w (y ∷ ys) i))) (chain-on x (y ∷ ys) d),
    all-together y ys (chain_return depends home_of through no_cycle (layer_at x) (layer_at y) (layers ys) d),
  )
