-- What no live reference of any frame leads into, as the rules of types ask for it.
use Rattle.mv_soundness.proofs.Guided.Common.{◌≡◌, ℕ, List, [], ◌∷◌, ◌++◌, map, length, true, refl, sym, ◌∙◌, ap, subst, Option, Some, None, reverse, ◌⊎◌, inl, inr, and_from, eq-eqb}
use Rattle.mv_soundness.proofs.Guided.Common.{reverse_onto, list_any, ◌==◌, Own, Glob, reference_of, references, local_references, Frame, State, frames, Value, Root, Local, Stored}
use Rattle.mv_soundness.proofs.Guided.Common.{Reference, Live, InLocal, InStore, Chain, no_edge_out, return_edges, Point, InRefs, Stood, seen_of, layer_at, layers, StoodOn, home_of}
use Rattle.mv_soundness.proofs.Guided.Common.{root_of, defined, ref_of, operands_of}
use Rattle.std.specs.Prelude.{filter_map}
use Rattle.mv_borrow_graph.proofs.Abstract.Terms.Covers.{Node as TheNode, Temp as AtTemp}
use Rattle.mv_borrow_graph.proofs.Abstract.Terms.Stack.{Layer, OnStack, Top, Lower}
use Rattle.mv_borrow_graph.proofs.Abstract.Stack.{local_unborrowed, struct_unborrowed}
use Rattle.mv_soundness.proofs.{Borrows.Edges.free_out, Borrows.Lists.place_get, Borrows.Lists.stack-seen, Borrows.Kept.place-under}
use Rattle.mv_soundness.proofs.Borrows.Free.{live-at, below-free, result-free, in-cons, place-top}
use Rattle.mv_soundness.specs.Typing.Unreached.{Avoid, FrameAvoids, BelowAvoid, Unreached, Leaving}

-- ---- lists of references

pub in-left : (r : Reference) (xs ys : List Reference) → InRefs r xs → InRefs r (xs ++ ys)
in-left r [] ys h = absurd h
in-left r (x ∷ xs) ys (inl h) = inl h
in-left r (x ∷ xs) ys (inr h) = inr (in-left r xs ys h)

pub in-right : (r : Reference) (xs ys : List Reference) → InRefs r ys → InRefs r (xs ++ ys)
in-right r [] ys h = h
in-right r (x ∷ xs) ys h = inr (in-right r xs ys h)

avoid-from : (gone : Root → Type 0) (rs : List Reference) → ((r : Reference) → InRefs r rs → gone r.place.root → ⊥) → Avoid gone rs
avoid-from gone [] h = tt
avoid-from gone (r ∷ rs) h = (h r (inl refl), avoid-from gone rs (λ q i. h q (inr i)))

-- a reference among what was lent
abbrev pub HasSome : Reference → List (Option Reference) → Type 0
HasSome r [] = ⊥
HasSome r (o ∷ os) = (o ≡ Some r) ⊎ HasSome r os

has-left : (r : Reference) (xs ys : List (Option Reference)) → HasSome r xs → HasSome r (xs ++ ys)
has-left r [] ys h = absurd h
has-left r (x ∷ xs) ys (inl h) = inl h
has-left r (x ∷ xs) ys (inr h) = inr (has-left r xs ys h)

has-right : (r : Reference) (xs ys : List (Option Reference)) → HasSome r ys → HasSome r (xs ++ ys)
has-right r [] ys h = h
has-right r (x ∷ xs) ys h = inr (has-right r xs ys h)

pub has-reverse : (r : Reference) (xs : List (Option Reference)) → HasSome r xs → HasSome r (reverse xs)
has-reverse r [] h = absurd h
has-reverse r (x ∷ xs) (inl h) = subst (HasSome r) (sym (reverse_onto xs x [])) (has-right r (reverse xs) (x ∷ []) (inl h))
has-reverse r (x ∷ xs) (inr h) = subst (HasSome r) (sym (reverse_onto xs x [])) (has-left r (reverse xs) (x ∷ []) (has-reverse r xs h))

has-lent : (r : Reference) (os : List (Option Reference)) → InRefs r (filter_map (λ o. o) os) → HasSome r os
has-lent r [] h = absurd h
has-lent r (None ∷ os) h = inr (has-lent r os h)
has-lent r (Some q ∷ os) (inl h) = inl (ap Some (sym h))
has-lent r (Some q ∷ os) (inr h) = inr (has-lent r os h)

has-place : (r : Reference) (os : List (Option Reference)) → HasSome r os → (k : ℕ) × (place_get os k ≡ Some (Some r))
has-place r [] h = absurd h
has-place r (o ∷ os) (inl h) = (length os, place-top o os (Some r) h)
has-place r (o ∷ os) (inr h) = let t = has-place r os h in (t.0, place-under o os t.0 (Some r) t.1)

has-refs : (r : Reference) (vs : List Value) → InRefs r (references vs) → HasSome r (map reference_of vs)
has-refs r [] h = absurd h
has-refs r (v ∷ vs) h = elim (in-cons r (reference_of v) (references vs) h) [ inl e ↦ inl e | inr g ↦ inr (has-refs r vs g) ]

-- ---- frames

-- no reference that is live anywhere leads there
abbrev pub NoneLeads : (Root → Type 0) → List Stood → Type 1
NoneLeads gone xs = (v : Layer) (n : TheNode) (r : Reference) → OnStack v (layers xs) → Live v.frame n (ref_of r) → gone r.place.root → ⊥

pub frame-avoids : (gone : Root → Type 0) (x : Stood) (f : Frame) → x.frame ≡ f → ((n : TheNode) (r : Reference) → Live (layer_at x).frame n (ref_of r) → gone r.place.root → ⊥) → FrameAvoids gone f
frame-avoids gone x f same free =
    subst (FrameAvoids gone) same (
      avoid-from gone (local_references x.frame.locals) (λ r i. let u = live-at x.function.acquires (seen_of x) r (in-left r (local_references x.frame.locals) (references x.frame.stack) i) in free u.0 r u.1),
      avoid-from gone (references x.frame.stack) (λ r i. let u = live-at x.function.acquires (seen_of x) r (in-right r (local_references x.frame.locals) (references x.frame.stack) i) in free u.0 r u.1),
    )

lent-avoids : (gone : Root → Type 0) (x : Stood) (lent : List (Option Reference)) → x.lent ≡ lent
    → ((n : TheNode) (r : Reference) → Live (layer_at x).frame n (ref_of r) → gone r.place.root → ⊥) → Avoid gone (filter_map (λ r. r) lent)
lent-avoids gone x lent same free =
    subst (λ (l : List (Option Reference)). Avoid gone (filter_map (λ r. r) l)) same
    (avoid-from gone (filter_map (λ r. r) x.lent) (λ r i.
    let p = has-place r (operands_of (seen_of x)) (has-left r (reverse x.lent) (map reference_of x.frame.stack) (has-reverse r x.lent (has-lent r x.lent i))) in
    free (AtTemp p.0) r (stack-seen (operands_of (seen_of x)) p.0 r p.1)))

pub below-avoids : (gone : Root → Type 0) (lent : List (Option Reference)) (fs : List Frame) (xs : List Stood) → StoodOn lent fs xs → NoneLeads gone xs → BelowAvoid gone lent fs
below-avoids gone lent [] xs s free = tt
below-avoids gone lent (f ∷ fs) [] s free = absurd s
below-avoids gone lent (f ∷ fs) (x ∷ xs) s free = (
  lent-avoids gone x lent s.1 (λ n r. free (layer_at x) n r Top),
  frame-avoids gone x f s.0 (λ n r. free (layer_at x) n r Top),
  below-avoids gone f.entered_with fs xs s.2 (λ v n r o. free v n r (Lower o)),
)

pub none-reached : (gone : Root → Type 0) (s : State) (x : Stood) (xs : List Stood) → StoodOn [] (frames s) (x ∷ xs) → NoneLeads gone (x ∷ xs) → Unreached gone s
none-reached gone s x xs stood free = (frame-avoids gone x s.top stood.0 (λ n r. free (layer_at x) n r Top), below-avoids gone s.top.entered_with s.below xs stood.2 (λ v n r o. free v n r (Lower o)))

-- what a frame was lent need not be asked
without-lent : (gone : Root → Type 0) (lent : List (Option Reference)) (fs : List Frame) → BelowAvoid gone lent fs → BelowAvoid gone [] fs
without-lent gone lent [] b = tt
without-lent gone lent (f ∷ fs) b = (tt, b.1, b.2)

module _ (depends : ℕ → ℕ → Type 0) (through : (a b c : ℕ) → depends a b → depends b c → depends a c) (no_cycle : (a : ℕ) → depends a a → ⊥)
    (s : State) (x : Stood) (xs : List Stood) (stood : StoodOn [] (frames s) (x ∷ xs)) (chain : Chain depends home_of (layers (x ∷ xs)))
  where
    -- a local that no edge leads out of
    pub local-unreached : (l : ℕ) → no_edge_out (Own l) x.edges ≡ true → Unreached (λ root. root ≡ Local s.top.number l) s
    local-unreached l free =
        none-reached (λ root. root ≡ Local s.top.number l) s x xs stood (λ v n r on live root.
        local_unborrowed depends home_of through no_cycle (layer_at x) v (layers xs) n (ref_of r) l chain on live
        (λ y c e. free_out x.frame.function.place (Own l) x.edges free y c e) (ap root_of root ∙ ap (λ (f : Frame). InLocal f.number l) (sym stood.0)))

    -- an acquired struct that no edge leads out of
    pub struct-unreached : (i a : ℕ) → list_any (λ y. y == i) x.function.acquires ≡ true → no_edge_out (Glob i) x.edges ≡ true
        → Unreached (λ root. root ≡ Stored (record { address = a; place = s.top.function.place; index = i })) s
    struct-unreached i a acquired free =
        none-reached (λ root. root ≡ Stored (record { address = a; place = s.top.function.place; index = i })) s x xs stood (λ v n r on live root.
        struct_unborrowed depends home_of through no_cycle (layer_at x) v (layers xs) n (ref_of r) a (defined x.frame.function.place i) chain on live
        (and_from (x.frame.function.place == x.frame.function.place) (list_any (λ y. y == i) x.function.acquires) (eq-eqb x.frame.function.place x.frame.function.place refl) acquired)
        (λ y c e. free_out x.frame.function.place (Glob i) x.edges free y c e) (ap root_of root ∙ ap (λ (f : Frame). InStore a (defined f.function.place i)) (sym stood.0)))

    -- the locals of a frame that returns
    pub leaving : (p : Point) → return_edges p x.edges ≡ Some x.edges → Leaving s
    leaving p free = (
      subst (λ (f : Frame). Avoid (λ root. (l : ℕ) × (root ≡ Local s.top.number l)) (references f.stack)) stood.0
          (avoid-from (λ root. (l : ℕ) × (root ≡ Local s.top.number l)) (references x.frame.stack) (λ r i (l, root).
          let v = has-place r (operands_of (seen_of x)) (has-right r (reverse x.lent) (map reference_of x.frame.stack) (has-refs r x.frame.stack i)) in
          (result-free depends through no_cycle s x xs stood chain p free v.0 (ref_of r) (stack-seen (operands_of (seen_of x)) v.0 r v.1)).0 l (number r l root))),
      without-lent (λ root. (l : ℕ) × (root ≡ Local s.top.number l)) s.top.entered_with s.below
          (below-avoids (λ root. (l : ℕ) × (root ≡ Local s.top.number l)) s.top.entered_with s.below xs stood.2 (λ v n r on live (l, root).
          below-free depends through no_cycle s x xs stood chain l v n (ref_of r) on live (number r l root))),
    )
      where
        number : (r : Reference) (l : ℕ) → r.place.root ≡ Local s.top.number l → root_of r.place.root ≡ InLocal x.frame.number l
        number r l root = ap root_of root ∙ ap (λ (f : Frame). InLocal f.number l) (sym stood.0)
