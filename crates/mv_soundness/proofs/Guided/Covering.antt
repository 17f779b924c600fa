-- The invariant in the words of the definition: what is known covers each frame, and frames stand as they should to one another.
use Rattle.mv_soundness.proofs.Guided.Common.{◌≡◌, ℕ, zero, suc, List, [], ◌∷◌, ◌++◌, map, length, true, false, refl, sym, ◌∙◌, ap, subst, arith, Bool, Option, Some, None, reverse, ◌⊎◌}
use Rattle.mv_soundness.proofs.Guided.Common.{inl, inr, ◌<◌, ap₂, and_parts, and_from, eq-eqb, eqb-true, or_left, or_right, or_cases, same_Some, option_and_then_some, list_any}
use Rattle.mv_soundness.proofs.Guided.Common.{slice_get, ◌==◌, option_and_then, IsTrue, Module, Own, Glob, Temp, Key, reference_of, frame_references, Frame, State, frames, Value, Root}
use Rattle.mv_soundness.proofs.Guided.Common.{Local, Stored, Reference, Live, InLocal, InStore, Known, Certificate, Edge, map-turned, InRefs, Holds, AsKnown, Stood, seen_of, layer_at}
use Rattle.mv_soundness.proofs.Guided.Common.{StoodOn, root_of, held_as, defined, ref_of, operands_of, StoreFacts, AllPlaced, Guided, AllCovered, Placed}
use Rattle.std.proofs.Common.{◌≢◌, append_assoc}
use Rattle.std.specs.Prelude.{slice_index_or, Contains, All, AllPairs}
use Rattle.std.proofs.{lemmas.List.append-nil, lemmas.List.reverse-append, lemmas.List.reverse-reverse, lemmas.List.Elements.All-nil, lemmas.List.Elements.All-cons}
use Rattle.mv_move_types.specs.{declared.borrow.Node.Node, declared.borrow.Node.TheVariants.Slot}
use Rattle.mv_machine.specs.Live.{overlap}
use Rattle.mv_edges.specs.Edges.{Label}
use Rattle.mv_soundness.specs.Borrows.Covers.{Seen, stack_references, reference_at, StandsFor, HasEdge, IsAcquired, IsOwn, IsLent, Covers}
use Rattle.mv_soundness.specs.Borrows.Invariant.{seen_under, IsCovered, acquires_of as acquires_in, KeepsOut, KeepsApart, StandTogether}
use Rattle.mv_soundness.proofs.Borrows.View.{node_of, label_from, label_of, acquires_of, Member, edges_of}
use Rattle.mv_borrow_graph.proofs.{Abstract.Terms.Places.Defined, Abstract.Terms.Places.Label as TheLabel, Abstract.Terms.Places.Reach, Abstract.Terms.Lists.refs_among}
use Rattle.mv_borrow_graph.proofs.Abstract.Terms.Covers.{Glob as AtGlob, Ref as TheRef, InList, Origin, FromOwn, FromStore, FromEntry, Leads, Covers as TheCovers}
use Rattle.mv_soundness.proofs.{Borrows.Edges.node_of-inj, Borrows.Lists.place-reverse, Borrows.Lists.local-seen, Borrows.Lists.stack-seen, Borrows.Free.overlap-is}
use Rattle.mv_soundness.proofs.{Borrows.Available.known-at, Lists.flat-some, Guided.Chains.sound-from, Typing.Frames.held_entry, Guided.Avoids.HasSome, Guided.Avoids.has-reverse}
use Rattle.mv_soundness.proofs.Borrows.Apart.{InStood, OutOf, ApartFrom, EachBelow, From, Together, all-out, all-apart, all-together}

-- ---- lists by index

suc-less : (a b : ℕ) → a < b → suc a < suc b
suc-less a b h = omega (arith, h)

contains-member : (e : Edge) (es : List Edge) → Member e es → Contains es e
contains-member e [] m = absurd m
contains-member e (x ∷ es) (inl m) = (0, omega arith, sym m)
contains-member e (x ∷ es) (inr m) = let t = contains-member e es m in (suc t.0, suc-less t.0 (length es) t.1, t.2)

in-refs : (r : Reference) (rs : List Reference) (k : ℕ) → k < length rs → slice_index_or rs k r ≡ r → InRefs r rs
in-refs r [] k h e = absurd (omega (arith, h))
in-refs r (x ∷ rs) zero h e = inl (sym e)
in-refs r (x ∷ rs) (suc k) h e = inr (in-refs r rs k (omega (arith, h)) e)

contains-any : (i : ℕ) (xs : List ℕ) (k : ℕ) → k < length xs → slice_index_or xs k i ≡ i → list_any (λ y. y == i) xs ≡ true
contains-any i [] k h e = absurd (omega (arith, h))
contains-any i (x ∷ xs) zero h e = or_left (x == i) (list_any (λ y. y == i) xs) (eq-eqb x i e)
contains-any i (x ∷ xs) (suc k) h e = or_right (x == i) (list_any (λ y. y == i) xs) (contains-any i xs k (omega (arith, h)) e)

any-contains : (i : ℕ) (xs : List ℕ) → list_any (λ y. y == i) xs ≡ true → Contains xs i
any-contains i [] h = absurd cc
any-contains i (x ∷ xs) h =
    elim (or_cases (x == i) (list_any (λ y. y == i) xs) h) [
      | inl t ↦ (0, omega arith, eqb-true x i t)
      | inr t ↦ let u = any-contains i xs t in (suc u.0, suc-less u.0 (length xs) u.1, u.2)
    ]

-- an argument is in a list
option-contains : (r : Reference) (xs : List (Option Reference)) → HasSome r xs → Contains xs (Some r)
option-contains r [] h = absurd h
option-contains r (x ∷ xs) (inl h) = (0, omega arith, h)
option-contains r (x ∷ xs) (inr h) = let t = option-contains r xs h in (suc t.0, suc-less t.0 (length xs) t.1, t.2)

-- ---- places

local-is : (a b c d : ℕ) → InLocal a b ≡ InLocal c d → (a ≡ c) × (b ≡ d)
local-is a b c d e = (cc, cc)

store-is : (a b : ℕ) (d e : Defined) → InStore a d ≡ InStore b e → (a ≡ b) × (d ≡ e)
store-is a b d e h = (cc, cc)

pub root-inj : (a b : Root) → root_of a ≡ root_of b → a ≡ b
root-inj (Local m k) (Local n l) e = let t = local-is m k n l e in ap₂ Local t.0 t.1
root-inj (Stored j) (Stored k) e =
    let t = store-is j.address k.address (defined j.place j.index) (defined k.place k.index) e in
    ap Stored (same j k t.0 (ap (λ (d : Defined). d.place) t.1) (ap (λ (d : Defined). d.index) t.1))
  where
    same : (j k : Key) → j.address ≡ k.address → j.place ≡ k.place → j.index ≡ k.index → j ≡ k
    same j k a b c =
        ap (λ (x : ℕ). let y : Key = record { address = x; place = j.place; index = j.index } in y) a ∙ ap (λ (x : ℕ). let y : Key = record { address = k.address; place = x; index = j.index } in y) b
        ∙ ap (λ (x : ℕ). let y : Key = record { address = k.address; place = k.place; index = x } in y) c
root-inj a b e = absurd cc

-- what a label reaches goes on by its list
reach-more : (b : Bool) (l path : List ℕ) → Reach (label_from b l) path → (more : List ℕ) × (path ≡ l ++ more) × (b ≡ false → more ≡ [])
reach-more true l path (rest, e) = (rest, e, λ (h : true ≡ false). absurd cc)
reach-more false l path e = ([], e ∙ sym (append-nil l), λ h. refl)

reach-label : (y : TheLabel) (l : Label) (path : List ℕ) → y ≡ label_of l → Reach y path → (more : List ℕ) × (path ≡ l.path ++ more) × (l.is_open ≡ false → more ≡ [])
reach-label y l path e h = reach-more l.is_open l.path path (subst (λ z. Reach z path) e h)

module _ (x : Stood) (known : Known) (are_locals : AsKnown known.locals x.frame.locals) (c : TheCovers (layer_at x).frame (edges_of x.frame.function.place known.edges)) where
  abbrev v : Seen
  v = seen_of x

  abbrev place : ℕ
  place = x.frame.function.place

  references-turned : reverse (operands_of v) ≡ stack_references v
  references-turned =
      reverse-append (reverse x.lent) (map reference_of x.frame.stack) ∙ ap₂ (λ (a b : List (Option Reference)). a ++ b) (sym (map-turned reference_of x.frame.stack)) (reverse-reverse x.lent)

  -- a reference at a node is live there
  live-node : (n : Node) (r : Reference) → reference_at v n ≡ Some r → Live (layer_at x).frame (node_of place n) (ref_of r)
  live-node (Slot l) r e =
      option_and_then_some reference_of (option_and_then (λ (v : Option Value). v) (slice_get x.frame.locals l)) r e (λ w w_is g. local-seen x.frame.locals l w r (held_entry x.frame l w w_is) g)
  live-node (Temp k) r e =
      stack-seen (operands_of v) k r (sym (place-reverse (operands_of v) k) ∙ ap (λ (l : List (Option Reference)). slice_get l k) references-turned ∙ flat-some (slice_get (stack_references v) k) r e)
  live-node n r e = absurd cc

  stands-for : (n : Node) (r : Reference) → reference_at v n ≡ Some r → StandsFor v n r.place
  stands-for (Own l) r e = absurd cc
  stands-for (Glob t) r e = absurd cc
  stands-for n r e = (r, e, refl)

  -- an edge of the theory is one that is known
  known-edge : (a b : Node) (y : TheLabel) → edges_of place known.edges (node_of place a) y (node_of place b)
      → (label : Label) × Contains known.edges (record { from = a; label = label; to = b }) × (y ≡ label_of label)
  known-edge a b y (e, m, from, on, to) = (
    e.label,
    subst (λ (z : Edge). Contains known.edges z)
        (ap₂ (λ (p q : Node). let d : Edge = record { from = p; label = e.label; to = q } in d) (sym (node_of-inj place a e.from from)) (sym (node_of-inj place b e.to to)))
        (contains-member e known.edges m),
    on,
  )

  covers-own : (n : Node) (r : Reference) (l : ℕ) → reference_at v n ≡ Some r → r.place.root ≡ Local v.frame.number l → HasEdge known v (Own l) n
  covers-own n r l at root =
      let t = c.own (node_of place n) (ref_of r) l (live-node n r at) (ap root_of root) in
      let e = known-edge (Own l) n t.0 t.1 in
      let more = reach-label t.0 e.0 r.place.path e.2 t.2 in (
        e.0,
        e.1,
        record {
          parent = record { root = Local v.frame.number l; path = [] };
          child = r.place;
          from = refl;
          to = stands-for n r at;
          root = root;
          path = (more.0, more.1, more.2);
        },
      )

  acquired-node : (acquires : List ℕ) (key : Key) → IsAcquired v acquires key → acquires_of place acquires (defined key.place key.index) ≡ true
  acquired-node acquires key (home, (k, less, is)) = and_from (key.place == place) (list_any (λ y. y == key.index) acquires) (eq-eqb key.place place home) (contains-any key.index acquires k less is)

  covers-acquired : (n : Node) (r : Reference) (key : Key) → reference_at v n ≡ Some r → r.place.root ≡ Stored key → IsAcquired v x.function.acquires key → HasEdge known v (Glob key.index) n
  covers-acquired n r key at root acquired =
      let t = c.glob (node_of place n) (ref_of r) key.address (defined key.place key.index) (live-node n r at) (ap root_of root) (acquired-node x.function.acquires key acquired) in
      let e = known-edge (Glob key.index) n t.0 (subst (λ (w : ℕ). edges_of place known.edges (AtGlob (defined w key.index)) t.0 (node_of place n)) acquired.0 t.1) in
      let more = reach-label t.0 e.0 r.place.path e.2 t.2 in (
        e.0,
        e.1,
        record {
          parent = record { root = Stored (record { address = key.address; place = place; index = key.index }); path = [] };
          child = r.place;
          from = (key.address, refl);
          to = stands-for n r at;
          root = root ∙ ap (λ (w : ℕ). Stored (record { address = key.address; place = w; index = key.index })) acquired.0;
          path = (more.0, more.1, more.2);
        },
      )

  leads-edge : (m n : Node) (q r : Reference) → reference_at v m ≡ Some q → reference_at v n ≡ Some r → Leads (edges_of place known.edges) (node_of place m) (ref_of q) (node_of place n) (ref_of r)
      → (IsTrue q.is_mutable) × HasEdge known v m n
  leads-edge m n q r m_at n_at (mutable, y, edge, (root, s, path, reach)) =
      let e = known-edge m n y edge in
      let more = reach-label y e.0 s e.2 reach in (
        mutable,
        (
          e.0,
          e.1,
          record {
            parent = q.place;
            child = r.place;
            from = stands-for m q m_at;
            to = stands-for n r n_at;
            root = sym (root-inj q.place.root r.place.root root);
            path = (more.0, path ∙ ap (λ (l : List ℕ). q.place.path ++ l) more.1 ∙ sym (append_assoc q.place.path e.0.path more.0), more.2);
          },
        ),
      )

  covers-between : (m n : Node) (q r : Reference) → m ≢ n → reference_at v m ≡ Some q → reference_at v n ≡ Some r → IsTrue (overlap q.place r.place) → IsTrue q.is_mutable ⊎ IsTrue r.is_mutable →
      (IsTrue q.is_mutable × HasEdge known v m n) ⊎ (IsTrue r.is_mutable × HasEdge known v n m)
  covers-between m n q r apart m_at n_at over mutable =
      elim (c.pairs (node_of place m) (node_of place n) (ref_of q) (ref_of r) (λ e. apart (node_of-inj place m n e))
      (live-node m q m_at) (live-node n r n_at) (overlap-is q.place r.place over) mutable) [
        | inl t ↦ inl (leads-edge m n q r m_at n_at t)
        | inr t ↦ inr (leads-edge n m r q n_at m_at t)
      ]

  -- a reference of the entry is an argument
  entry-given : (os : List (Option Reference)) (g : TheRef) → InList g (refs_among (map held_as os)) → (a : Reference) × HasSome a os × (g ≡ ref_of a)
  entry-given [] g i = absurd i
  entry-given (None ∷ os) g i = let t = entry-given os g i in (t.0, inr t.1, t.2)
  entry-given (Some a ∷ os) g (inl e) = (a, inl refl, e)
  entry-given (Some a ∷ os) g (inr i) = let t = entry-given os g i in (t.0, inr t.1, t.2)

  covers-others : (n : Node) (r : Reference) → reference_at v n ≡ Some r → IsOwn v x.function.acquires r.place.root ⊎ IsLent v.frame r
  covers-others n r at = by_origin (c.origin (node_of place n) (ref_of r) (live-node n r at))
    where
      own-root : (root : Root) (l : ℕ) → root_of root ≡ InLocal x.frame.number l → IsOwn v x.function.acquires root
      own-root (Local m k) l e = (local-is m k x.frame.number l e).0
      own-root (Stored key) l e = absurd cc

      store-root : (root : Root) (a : ℕ) (t : Defined) → root_of root ≡ InStore a t → acquires_of place x.function.acquires t ≡ true → IsOwn v x.function.acquires root
      store-root (Local m k) a t e acq = absurd cc
      store-root (Stored key) a t e acq =
          let same : defined key.place key.index ≡ t = (store-is key.address a (defined key.place key.index) t e).1 in
          let both = and_parts (key.place == place) (list_any (λ y. y == key.index) x.function.acquires) (subst (λ d. acquires_of place x.function.acquires d ≡ true) (sym same) acq) in
          (eqb-true key.place place both.0, any-contains key.index x.function.acquires both.1)

      by_origin : Origin (layer_at x).frame (ref_of r) → IsOwn v x.function.acquires r.place.root ⊎ IsLent v.frame r
      by_origin (FromOwn l e) = inl (own-root r.place.root l e)
      by_origin (FromStore a t e acq) = inl (store-root r.place.root a t e acq)
      by_origin (FromEntry (g, i, (root, (more, path)), mutable)) =
          let t = entry-given (reverse x.frame.entered_with) g i in
          inr (
            t.0,
            more,
            option-contains t.0 x.frame.entered_with (subst (HasSome t.0) (reverse-reverse x.frame.entered_with) (has-reverse t.0 (reverse x.frame.entered_with) t.1)),
            root-inj r.place.root t.0.place.root (root ∙ ap (λ (z : TheRef). z.place.root) t.2),
            path ∙ ap (λ (z : TheRef). z.place.path ++ more) t.2,
            λ h. sym (ap (λ (z : TheRef). z.mutable) t.2) ∙ mutable h,
          )

  covered : Covers known v x.function.acquires
  covered = record {
    locals = λ l a local known_at there. known-at known.locals x.frame.locals l a local are_locals known_at there;
    own = covers-own;
    acquired = covers-acquired;
    between = covers-between;
    others = covers-others;
  }

-- ---- whole states

module _ (depends : ℕ → ℕ → Type 0) (modules : List Module) (certificates : List Certificate) where
  frame-covered : (x : Stood) → Placed modules certificates x → TheCovers (layer_at x).frame (layer_at x).edges → IsCovered modules certificates (seen_of x)
  frame-covered x p c = record {
    home = x.home;
    function = x.function;
    certificate = p.certificate;
    stated = p.stated;
    known = p.known;
    types = x.types;
    is_home = p.is_home;
    is_function = p.is_function;
    is_certificate = p.is_certificate;
    is_stated = p.is_stated;
    is_known = p.is_known;
    covers = covered x p.known p.are_locals (subst (λ (es : List Edge). TheCovers (layer_at x).frame (edges_of x.frame.function.place es)) (sym p.are_edges) c);
  }

  frames-covered : (lent : List (Option Reference)) (fs : List Frame) (xs : List Stood) → StoodOn lent fs xs → AllPlaced modules certificates xs
      → AllCovered xs → All (IsCovered modules certificates) (seen_under lent fs)
  frames-covered lent [] xs st p c = All-nil (IsCovered modules certificates)
  frames-covered lent (f ∷ fs) [] st p c = absurd st
  frames-covered lent (f ∷ fs) (x ∷ xs) st p c =
      All-cons (IsCovered modules certificates) (record { frame = f; lent = lent }) (seen_under f.entered_with fs)
      (subst (IsCovered modules certificates) (ap₂ (λ (g : Frame) (l : List (Option Reference)). let v : Seen = record { frame = g; lent = l } in v) st.0 st.1) (frame-covered x p.0 c.0))
      (frames-covered f.entered_with fs xs st.2 p.1 c.1)

-- each frame is where one of these stands
stood-at : (lent : List (Option Reference)) (fs : List Frame) (xs : List Stood) (k : ℕ) (d : Frame) → StoodOn lent fs xs → k < length fs
    → (w : Stood) × InStood w xs × (w.frame ≡ slice_index_or fs k d)
stood-at lent (f ∷ fs) (x ∷ xs) zero d st h = (x, inl refl, st.0)
stood-at lent (f ∷ fs) (x ∷ xs) (suc k) d st h = let t = stood-at f.entered_with fs xs k d st.2 (omega (arith, h)) in (t.0, inr t.1, t.2)
stood-at lent fs xs k d st h = absurd (grind arith)

stood-get : (lent : List (Option Reference)) (fs : List Frame) (xs : List Stood) (k : ℕ) (f : Frame) → StoodOn lent fs xs → slice_get fs k ≡ Some f → (w : Stood) × InStood w xs × (w.frame ≡ f)
stood-get lent (f ∷ fs) (x ∷ xs) zero g st h = (x, inl refl, st.0 ∙ same_Some f g h)
stood-get lent (f ∷ fs) (x ∷ xs) (suc k) g st h = let t = stood-get f.entered_with fs xs k g st.2 h in (t.0, inr t.1, t.2)
stood-get lent fs xs k g st h = absurd (grind arith)

-- frames of one module stand together
from-frames : (x : Stood) (lent : List (Option Reference)) (fs : List Frame) (xs : List Stood) (j k : ℕ) (f g : Frame) → StoodOn lent fs xs
    → From x xs → j < k → slice_get fs j ≡ Some f → slice_get fs k ≡ Some g → x.frame.function.place ≡ g.function.place
    → f.function.place ≡ x.frame.function.place
from-frames x lent (y ∷ fs) (w ∷ ws) zero (suc k) f g st r l e h same =
    let z = stood-get y.entered_with fs ws k g st.2 h in
    let here : w.frame ≡ f = st.0 ∙ same_Some y f e in
    ap (λ (u : Frame). u.function.place) (sym here) ∙ r.0 z.0 z.1 (same ∙ ap (λ (u : Frame). u.function.place) (sym z.2))
from-frames x lent (y ∷ fs) (w ∷ ws) (suc j) (suc k) f g st r l e h same = from-frames x y.entered_with fs ws j k f g st.2 r.1 (omega (arith, l)) e h same
from-frames x lent fs xs j k f g st r l e h same = absurd (grind arith)

frames-together : (lent : List (Option Reference)) (fs : List Frame) (xs : List Stood) → StoodOn lent fs xs → Together xs → StandTogether fs
frames-together lent (y ∷ fs) (x ∷ xs) st t zero (suc j) (suc k) e f g a b p q r same =
    let here : x.frame ≡ e = st.0 ∙ same_Some y e p in
    let place : x.frame.function.place ≡ e.function.place = ap (λ (u : Frame). u.function.place) here in
    from-frames x y.entered_with fs xs j k f g st.2 t.0 (omega (arith, b)) q r (place ∙ same) ∙ place
frames-together lent (y ∷ fs) (x ∷ xs) st t (suc i) (suc j) (suc k) e f g a b p q r same = frames-together y.entered_with fs xs st.2 t.1 i j k e f g (omega (arith, a)) (omega (arith, b)) p q r same
frames-together lent fs xs st t i j k e f g a b p q r same = absurd (grind arith)

-- pairs of frames, an upper and a lower one
module _ (P : Stood → Stood → Type 0) (Q : Frame → Frame → Type 0) (modules : List Module) (certificates : List Certificate)
    (gives : (u w : Stood) → Placed modules certificates u → P u w → Q u.frame w.frame) where
  frames-pairs : (lent : List (Option Reference)) (fs : List Frame) (xs : List Stood) → StoodOn lent fs xs → AllPlaced modules certificates xs → EachBelow P xs → AllPairs Q fs
  frames-pairs lent (f ∷ fs) (x ∷ xs) st p e zero (suc j) d a b =
      let w = stood-at f.entered_with fs xs j d st.2 (omega (arith, b)) in
      subst (λ z. Q z (slice_index_or fs j d)) st.0 (subst (λ z. Q x.frame z) w.2 (gives x w.0 p.0 (e.0 w.0 w.1)))
  frames-pairs lent (f ∷ fs) (x ∷ xs) st p e (suc i) (suc j) d a b = frames-pairs f.entered_with fs xs st.2 p.1 e.1 i j d (omega (arith, a)) (omega (arith, b))
  frames-pairs lent fs xs st p e i j d a b = absurd (grind arith)

out-is : (modules : List Module) (certificates : List Certificate) (u w : Stood) → Placed modules certificates u → OutOf u w → KeepsOut modules u.frame w.frame
out-is modules certificates u w p out r key (k, less, is) root home acquired =
    let acquires : acquires_in modules u.frame ≡ u.function.acquires = rw (p.is_home, p.is_function) refl in
    let c = subst (λ xs. Contains xs key.index) acquires acquired in
    out r key (in-refs r (frame_references w.frame) k less is) root home (contains-any key.index u.function.acquires c.0 c.1 c.2)

apart-is : (modules : List Module) (certificates : List Certificate) (u w : Stood) → Placed modules certificates u → ApartFrom u w → KeepsApart u.frame w.frame
apart-is modules certificates u w p far q r (k, less, is) (n, lower, there) mutable immutable over =
    far q r (in-refs q (frame_references u.frame) k less is) (in-refs r (frame_references w.frame) n lower there) mutable immutable over

-- the state is as the certificates say, in the words of the definition
pub holds : (depends : ℕ → ℕ → Type 0) (modules : List Module) (certificates : List Certificate) → StoreFacts depends modules certificates
    → (s : State) → Guided depends modules certificates s → Holds modules certificates s
holds depends modules certificates store s g =
    let sound = sound-from depends modules certificates s g in
    record {
      covered = frames-covered depends modules certificates [] (frames s) (g.top ∷ g.waiting) g.stood g.placed g.covered;
      together = frames-together [] (frames s) (g.top ∷ g.waiting) g.stood (all-together depends store.through store.no_cycle g.top g.waiting sound.chain);
      kept_out = frames-pairs OutOf (KeepsOut modules) modules certificates (out-is modules certificates) [] (frames s)
          (g.top ∷ g.waiting) g.stood g.placed (all-out depends store.through store.no_cycle g.top g.waiting sound.chain);
      kept_apart = frames-pairs ApartFrom KeepsApart modules certificates (apart-is modules certificates) [] (frames s)
          (g.top ∷ g.waiting) g.stood g.placed (all-apart depends store.through store.no_cycle g.top g.waiting sound.chain);
    }
