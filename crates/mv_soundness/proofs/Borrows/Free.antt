-- What no live reference of any frame leads into.
use Rattle.mv_soundness.proofs.Borrows.Common.{refl, sym, ◌≡◌, ℕ, List, [], ◌∷◌, true, false, ◌⊎◌, inl, inr, ap, subst, suc, ◌++◌, map, length, Option, Some, None, ◌≤◌, reverse, not}
use Rattle.mv_soundness.proofs.Borrows.Common.{◌∙◌, ap₂, arith, ◌<◌, and_from, eq-eqb, and_parts, eqb-true, not-true, or_cases, cases_Bool, list_any, ◌==◌, ◌&&◌, ◌||◌, flat_map, begins}
use Rattle.mv_soundness.proofs.Borrows.Common.{Node, Own, Glob, Temp, Key, begins-more, reference_of, live, is_frozen_by, frame_references, overlap, Frame, State, frames, Stored}
use Rattle.mv_soundness.proofs.Borrows.Common.{Reference, Value, Local, Root, Place, TheNode, AtOwn, AtGlob, AtTemp, TheRef, Live, AtSlot, seen_frame, local_ref, stack_ref, Defined}
use Rattle.mv_soundness.proofs.Borrows.Common.{TheLabel, Chain, Layer, OnStack, Top, Lower, no_edge_out, is_mutable, return_edges, is_temp, is_root_node, Edge, Point, Seen, InRefs}
use Rattle.mv_soundness.proofs.Borrows.Common.{Stood, seen_of, layer_at, layers, home_of, StoodOn, ref_of, defined, local_of, node_of, Member, edges_of, held_as, activation, acquires_of}
use Rattle.mv_soundness.proofs.Borrows.Common.{operands_of, root_of}
use Rattle.std.specs.List.{cons_option}
use Rattle.mv_machine.specs.{State.same_key, Live.references, Live.local_references, Live.same_root, StepControl.holds_frame, StepControl.is_local_of}
use Rattle.mv_borrow_graph.proofs.Abstract.Terms.Places.{Local as InLocal, Global as InStore, Overlap, Reach}
use Rattle.mv_borrow_graph.proofs.{Abstract.Terms.Covers.Covers as TheCovers, Abstract.Terms.Stack.Above}
use Rattle.mv_borrow_graph.proofs.Abstract.Stack.{local_unborrowed, struct_unborrowed, write_unfrozen, local_below, number_below, chain_covers}
use Rattle.mv_borrow_graph.proofs.Abstract.Places.{overlap_sym}
use Rattle.mv_soundness.proofs.Borrows.View.{place_of}
use Rattle.mv_soundness.proofs.Borrows.Edges.{free_out, none_any, then-some, node_of-inj}
use Rattle.mv_soundness.proofs.{Borrows.Lists.place_get, Borrows.Lists.stack-seen, Borrows.Kept.place-under}

pub in-either : (r : Reference) (xs ys : List Reference) → InRefs r (xs ++ ys) → InRefs r xs ⊎ InRefs r ys
in-either r [] ys h = inr h
in-either r (x ∷ xs) ys (inl h) = inl (inl h)
in-either r (x ∷ xs) ys (inr h) = elim (in-either r xs ys h) [ inl t ↦ inl (inr t) | inr t ↦ inr t ]

-- a reference among those of a value and others
pub in-cons : (r : Reference) (o : Option Reference) (rs : List Reference) → InRefs r (cons_option o rs) → (o ≡ Some r) ⊎ InRefs r rs
in-cons r None rs i = inr i
in-cons r (Some q) rs (inl e) = inl (ap Some (sym e))
in-cons r (Some q) rs (inr i) = inr i

in-local : (r : Reference) (xs : List (Option Value)) → InRefs r (local_references xs) → (l : ℕ) × (local_ref (map local_of xs) l ≡ Some (ref_of r))
in-local r [] h = absurd h
in-local r (None ∷ xs) h = let t = in-local r xs h in (suc t.0, t.1)
in-local r (Some v ∷ xs) h = elim (in-cons r (reference_of v) (local_references xs) h) [ inl e ↦ (0, rw e refl) | inr g ↦ let t = in-local r xs g in (suc t.0, t.1) ]

pub place-top : (o : Option Reference) (xs : List (Option Reference)) (x : Option Reference) → o ≡ x → place_get (o ∷ xs) (length xs) ≡ Some x
place-top o xs x e = rw (eq-eqb (length xs) (length xs) refl) (ap Some e)

in-stack : (r : Reference) (xs : List Value) → InRefs r (references xs) → (k : ℕ) × (place_get (map reference_of xs) k ≡ Some (Some r))
in-stack r [] h = absurd h
in-stack r (v ∷ xs) h =
    elim (in-cons r (reference_of v) (references xs) h) [
      | inl e ↦ (length (map reference_of xs), place-top (reference_of v) (map reference_of xs) (Some r) e)
      | inr g ↦ let t = in-stack r xs g in (t.0, place-under (reference_of v) (map reference_of xs) t.0 (Some r) t.1)
    ]

place-below : (xs ys : List (Option Reference)) (k : ℕ) (o : Option Reference) → place_get ys k ≡ Some o → place_get (xs ++ ys) k ≡ Some o
place-below [] ys k o h = h
place-below (x ∷ xs) ys k o h = place-under x (xs ++ ys) k o (place-below xs ys k o h)

-- each reference of a frame is live at a node
pub live-at : (acquires : List ℕ) (v : Seen) (r : Reference) → InRefs r (frame_references v.frame) → (n : TheNode) × Live (seen_frame (activation acquires v)) n (ref_of r)
live-at acquires v r h =
    elim (in-either r (local_references v.frame.locals) (references v.frame.stack) h) [
      | inl t ↦ let u = in-local r v.frame.locals t in (AtSlot u.0, u.1)
      | inr t ↦ let u = in-stack r v.frame.stack t in (AtTemp u.0, stack-seen (operands_of v) u.0 r (place-below (reverse v.lent) (map reference_of v.frame.stack) u.0 (Some r) u.1))
    ]

-- each live reference of a state is live in one of its layers
pub live-in : (lent : List (Option Reference)) (fs : List Frame) (xs : List Stood) (r : Reference) → StoodOn lent fs xs → InRefs r (flat_map frame_references fs)
    → (v : Layer) × OnStack v (layers xs) × ((n : TheNode) × Live v.frame n (ref_of r))
live-in lent (f ∷ fs) (x ∷ xs) r s h =
    elim (in-either r (frame_references f) (flat_map frame_references fs) h) [
      | inl t ↦ (layer_at x, Top, live-at x.function.acquires (seen_of x) r (subst (λ g. InRefs r (frame_references g)) (sym s.0) t))
      | inr t ↦ let u = live-in f.entered_with fs xs r s.2 t in (u.0, Lower u.1, u.2)
    ]
live-in lent fs xs r s h = absurd (grind arith)

-- a test of references that none passes
pub none-frozen : (rs : List Reference) (p : Place) → ((r : Reference) → InRefs r rs → r.is_mutable ≡ false → overlap r.place p ≡ true → ⊥) → is_frozen_by rs p ≡ false
none-frozen [] p h = refl
none-frozen (r ∷ rs) p h =
    elim (cases_Bool (not r.is_mutable && overlap r.place p)) [
      | inl t ↦ let both = and_parts (not r.is_mutable) (overlap r.place p) t in absurd (h r (inl refl) (not-true r.is_mutable both.0) both.1)
      | inr t ↦ rw t (none-frozen rs p (λ q i. h q (inr i)))
    ]

key-is : (a b : Key) → same_key a b ≡ true → (a.address ≡ b.address) × (a.place ≡ b.place) × (a.index ≡ b.index)
key-is a b h =
    let t = and_parts ((a.address == b.address) && (a.place == b.place)) (a.index == b.index) h in
    let u = and_parts (a.address == b.address) (a.place == b.place) t.0 in
    (eqb-true a.address b.address u.0, eqb-true a.place b.place u.1, eqb-true a.index b.index t.1)

pub root-is : (a b : Root) → same_root a b ≡ true → root_of a ≡ root_of b
root-is (Local m k) (Local n l) h = let t = and_parts (m == n) (k == l) h in ap₂ InLocal (eqb-true m n t.0) (eqb-true k l t.1)
root-is (Stored j) (Stored k) h = let t = key-is j k h in ap₂ InStore t.0 (ap₂ defined t.1 t.2)
root-is a b h = absurd cc

pub overlap-is : (p q : Place) → overlap p q ≡ true → Overlap (place_of p) (place_of q)
overlap-is p q h =
    let t = and_parts (same_root p.root q.root) (begins p.path q.path || begins q.path p.path) h in
    let root = root-is p.root q.root t.0 in
    elim (or_cases (begins p.path q.path) (begins q.path p.path) t.1) [
      | inl u ↦ inr (sym root, begins-more p.path q.path u)
      | inr u ↦ inl (root, begins-more q.path p.path u)
    ]

module _ (depends : ℕ → ℕ → Type 0) (through : (a b c : ℕ) → depends a b → depends b c → depends a c) (no_cycle : (a : ℕ) → depends a a → ⊥)
    (s : State) (x : Stood) (xs : List Stood) (stood : StoodOn [] (frames s) (x ∷ xs)) (chain : Chain depends home_of (layers (x ∷ xs)))
  where
    -- no live reference of any frame, mutable or not, leads into a local of the frame at work that no edge leads out of
    pub local-free : (l : ℕ) → no_edge_out (Own l) x.edges ≡ true → (r : Reference) → InRefs r (live s) → root_of r.place.root ≡ InLocal s.top.number l → ⊥
    local-free l free r h root =
        let v = live-in [] (frames s) (x ∷ xs) r stood h in
        local_unborrowed depends home_of through no_cycle (layer_at x) v.0 (layers xs) v.2.0 (ref_of r) l chain v.1 v.2.1
        (λ y c e. free_out x.frame.function.place (Own l) x.edges free y c e) (root ∙ ap (λ (f : Frame). InLocal f.number l) (sym stood.0))

    -- no live reference of any frame leads into an acquired struct that no edge leads out of, at any address
    pub struct-free : (i : ℕ) (a : ℕ) → list_any (λ y. y == i) x.function.acquires ≡ true → no_edge_out (Glob i) x.edges ≡ true → (r : Reference) → InRefs r (live s)
        → root_of r.place.root ≡ InStore a (defined s.top.function.place i) → ⊥
    struct-free i a acquired free r h root =
        let v = live-in [] (frames s) (x ∷ xs) r stood h in
        struct_unborrowed depends home_of through no_cycle (layer_at x) v.0 (layers xs) v.2.0 (ref_of r) a (defined x.frame.function.place i) chain v.1 v.2.1
        (and_from (x.frame.function.place == x.frame.function.place) (list_any (λ y. y == i) x.function.acquires) (eq-eqb x.frame.function.place x.frame.function.place refl) acquired)
        (λ y c e. free_out x.frame.function.place (Glob i) x.edges free y c e) (root ∙ ap (λ (f : Frame). InStore a (defined f.function.place i)) (sym stood.0))

    -- so MoveFrom meets nothing frozen
    pub struct-unfrozen : (key : Key) → key.place ≡ s.top.function.place → list_any (λ y. y == key.index) x.function.acquires ≡ true → no_edge_out (Glob key.index) x.edges ≡ true
        → is_frozen_by (live s) (record { root = Stored key; path = [] }) ≡ false
    struct-unfrozen key home acquired free = none-frozen (live s) (record { root = Stored key; path = [] }) (λ r i im o. struct-free key.index key.address acquired free r i
        (root-is r.place.root (Stored key) (and_parts (same_root r.place.root (Stored key)) _ o).0 ∙ ap (λ (w : ℕ). InStore key.address (defined w key.index)) home))

    -- a write through a mutable reference on top of the stack, out of which no edge leads, meets nothing frozen
    pub write-unfrozen : (q : Reference) (below : List (Option Reference)) → operands_of (seen_of x) ≡ Some q ∷ below → q.is_mutable ≡ true → no_edge_out (Temp (length below)) x.edges ≡ true
        → (rs : List Reference) → ((r : Reference) → InRefs r rs → InRefs r (live s)) → is_frozen_by rs q.place ≡ false
    write-unfrozen q below top mutable free rs among = none-frozen rs q.place (λ r i im o. at_write r (live-in [] (frames s) (x ∷ xs) r stood (among r i)) im (overlap-is r.place q.place o))
      where
        placed : stack_ref (map held_as (operands_of (seen_of x))) (length below) ≡ Some (ref_of q)
        placed =
            let on_top : place_get (Some q ∷ below) (length below) ≡ Some (Some q) = rw (eq-eqb (length below) (length below) refl) refl in
            stack-seen (operands_of (seen_of x)) (length below) q (ap (λ l. place_get l (length below)) top ∙ on_top)

        at_write : (r : Reference) → (v : Layer) × OnStack v (layers (x ∷ xs)) × ((n : TheNode) × Live v.frame n (ref_of r)) → r.is_mutable ≡ false → Overlap (place_of r.place) (place_of q.place) → ⊥
        at_write r v im o =
            write_unfrozen depends home_of through no_cycle (layer_at x) v.0 (layers xs) (AtTemp (length below)) v.2.0 (ref_of q) (ref_of r) chain v.1 placed v.2.1 mutable im
            (λ y c e. free_out x.frame.function.place (Temp (length below)) x.edges free y c e) (overlap_sym (place_of r.place) (place_of q.place) o)

    -- no live reference of a waiting frame leads into a local of the frame at work
    pub below-free : (l : ℕ) (v : Layer) (n : TheNode) (r : TheRef) → OnStack v (layers xs) → Live v.frame n r → r.place.root ≡ InLocal x.frame.number l → ⊥
    below-free l v n r on live root = by_chain xs chain on
      where
        by_chain : (ys : List Stood) → Chain depends home_of (layer_at x ∷ layers ys) → OnStack v (layers ys) → ⊥
        by_chain [] c o = elim o [ ]
        by_chain (w ∷ ys) (Above c hm arg calls d) o =
            let p : x.frame.number ≤ v.frame.number = local_below depends home_of through no_cycle (layer_at w) v (layers ys) n r x.frame.number l d o live root in
            let q : v.frame.number ≤ w.frame.number = number_below depends home_of through no_cycle (layer_at w) v (layers ys) d o in
            let z : w.frame.number < x.frame.number = calls.later in
            omega arith

    -- no result leads into a local of the frame that returns, nor into what it acquires
    pub result-free : (p : Point) → return_edges p x.edges ≡ Some x.edges → (k : ℕ) (r : TheRef) → Live (seen_frame (activation x.function.acquires (seen_of x))) (AtTemp k) r
        → ((l : ℕ) → r.place.root ≡ InLocal x.frame.number l → ⊥)
        × ((a : ℕ) (t : Defined) → r.place.root ≡ InStore a t → acquires_of x.frame.function.place x.function.acquires t ≡ true → ⊥)
    result-free p free k r live = ((λ l root. own l root (cover.own (AtTemp k) r l live root)), (λ a t root acq. global t (cover.glob (AtTemp k) r a t live root acq)))
      where
        cover : TheCovers (seen_frame (activation x.function.acquires (seen_of x))) (edges_of x.frame.function.place x.edges)
        cover = chain_covers depends home_of through no_cycle (layer_at x) (layers xs) chain

        no_edge : (e : Edge) → Member e x.edges → is_temp e.to ≡ true → is_root_node e.from ≡ true → ⊥
        no_edge e m a b =
            none_any (λ e. is_temp e.to && (is_root_node e.from || is_temp e.from && is_mutable p e.from)) x.edges (not-true _ (then-some _ x.edges x.edges free).0) e m
            (and_from (is_temp e.to) (is_root_node e.from || is_temp e.from && is_mutable p e.from) a (ap (λ z. z || is_temp e.from && is_mutable p e.from) b))

        to-temp : (e : Edge) → AtTemp k ≡ node_of x.frame.function.place e.to → is_temp e.to ≡ true
        to-temp e h = subst (λ n. is_temp n ≡ true) (node_of-inj x.frame.function.place (Temp k) e.to h) refl

        from-glob : (t : Defined) (n : Node) → AtGlob t ≡ node_of x.frame.function.place n → is_root_node n ≡ true
        from-glob t (Own l) h = refl
        from-glob t (Glob l) h = refl
        from-glob t n h = absurd cc

        own : (l : ℕ) → r.place.root ≡ InLocal x.frame.number l → (y : TheLabel) × edges_of x.frame.function.place x.edges (AtOwn l) y (AtTemp k) × Reach y r.place.path → ⊥
        own l root (y, (e, m, from, on, to), reach) = no_edge e m (to-temp e to) (subst (λ n. is_root_node n ≡ true) (node_of-inj x.frame.function.place (Own l) e.from from) refl)

        global : (t : Defined) → (y : TheLabel) × edges_of x.frame.function.place x.edges (AtGlob t) y (AtTemp k) × Reach y r.place.path → ⊥
        global t (y, (e, m, from, on, to), reach) = no_edge e m (to-temp e to) (from-glob t e.from from)

    none-held : (n : ℕ) (rs : List Reference) → ((r : Reference) → InRefs r rs → (l : ℕ) → root_of r.place.root ≡ InLocal n l → ⊥) → list_any (holds_frame n) rs ≡ false
    none-held n [] h = refl
    none-held n (r ∷ rs) h =
        elim (cases_Bool (holds_frame n r)) [
          | inl t ↦ absurd (leads r.place.root refl (and_parts (not r.is_mutable) (is_local_of n r.place.root) t).1)
          | inr t ↦ rw t (none-held n rs (λ q i. h q (inr i)))
        ]
      where
        leads : (root : Root) → r.place.root ≡ root → is_local_of n root ≡ true → ⊥
        leads (Local m l) e k = h r (inl refl) l (ap root_of e ∙ ap (λ (z : ℕ). InLocal z l) (eqb-true m n k))
        leads (Stored key) e k = cc

    -- so Ret, whose results are operands of the frame, meets nothing frozen
    pub return-unfrozen : (p : Point) → return_edges p x.edges ≡ Some x.edges → (results : List Value) → ((r : Reference) → InRefs r (references results) → InRefs r (references s.top.stack))
        → list_any (holds_frame s.top.number) (references results ++ flat_map frame_references s.below) ≡ false
    return-unfrozen p free results among =
        none-held s.top.number (references results ++ flat_map frame_references s.below) (λ r i l root.
        elim (in-either r (references results) (flat_map frame_references s.below) i) [
          | inl t ↦ from_top r l (ap references (ap (λ (f : Frame). f.stack) (sym stood.0))) (among r t) (root ∙ number l)
          | inr t ↦ let v = live-in s.top.entered_with s.below xs r stood.2 t in below-free l v.0 v.2.0 (ref_of r) v.1 v.2.1 (root ∙ number l)
        ])
      where
        number : (l : ℕ) → InLocal s.top.number l ≡ InLocal x.frame.number l
        number l = ap (λ (f : Frame). InLocal f.number l) (sym stood.0)

        from_top : (r : Reference) (l : ℕ) → references s.top.stack ≡ references x.frame.stack → InRefs r (references s.top.stack) → root_of r.place.root ≡ InLocal x.frame.number l → ⊥
        from_top r l e i root =
            let u = in-stack r x.frame.stack (subst (λ rs. InRefs r rs) e i) in
            (result-free p free u.0 (ref_of r) (stack-seen (operands_of (seen_of x)) u.0 r (place-below (reverse x.lent) (map reference_of x.frame.stack) u.0 (Some r) u.1))).0 l root
