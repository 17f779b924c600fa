-- A frame stays covered where references go, are renamed or come in, and edges grow.
use Rattle.std.proofs.Common.{◌≡◌, ℕ, List, ◌++◌, true, ◌⊎◌, inl, inr, sym, ◌∙◌, ap, ap₂, append_assoc, Option, Some}
use Rattle.std.proofs.Math.Decide.{ℕ_discrete}
use Rattle.mv_borrow_graph.proofs.Abstract.Terms.Places.{Defined, Local, Global, Place, Below, Overlap, Label, Reach, Matches, LabelBelow, under}
use Rattle.mv_borrow_graph.proofs.Abstract.Places.{below_trans, overlap_sym, overlap_above, reach_above, matches_above}
use Rattle.mv_borrow_graph.proofs.Abstract.Terms.Covers.{Node, Slot, Own, Glob, Temp, Ref, Frame, with_refs, Live, Edges, Origin, FromOwn, FromStore, FromEntry, Leads, Covers}

pub swap : {A B : Type 0} → A ⊎ B → B ⊎ A
swap (inl a) = inr a
swap (inr b) = inl b

-- an origin speaks of no live reference
pub origin_kept : (f : Frame) (refs : Node → Option Ref) (r : Ref) → Origin f r → Origin (with_refs f refs) r
origin_kept f refs r (FromOwn l e) = FromOwn l e
origin_kept f refs r (FromStore a t e h) = FromStore a t e h
origin_kept f refs r (FromEntry g) = FromEntry g

-- references that go, or are renamed, and edges that rise: `came m n` says that what stands at n stood at m
module _ (f : Frame) (e e' : Edges) (refs : Node → Option Ref) (came : Node → Node → Type 0)
    (live : (n : Node) (r : Ref) → refs n ≡ Some r → (m : Node) × came m n × Live f m r)
    (apart : (n m a b : Node) → came a n → came b m → (n ≡ m → ⊥) → a ≡ b → ⊥)
    (from_own : (l : ℕ) (x : Label) (n m : Node) → came m n → e (Own l) x m → (y : Label) × LabelBelow x y × e' (Own l) y n)
    (from_glob : (t : Defined) (x : Label) (n m : Node) → came m n → e (Glob t) x m → (y : Label) × LabelBelow x y × e' (Glob t) y n)
    (between : (n m a b : Node) (x : Label) → (n ≡ m → ⊥) → came a n → came b m → e a x b → (y : Label) × LabelBelow x y × e' n y m)
  where
    own_pull : (n : Node) (r : Ref) (l : ℕ) → Covers f e → (m : Node) × came m n × Live f m r → r.place.root ≡ Local f.number l → (x : Label) × e' (Own l) x n × Reach x r.place.path
    own_pull n r l c (m, w, h) k =
        let u = c.own m r l h k in
        let v = from_own l u.0 n m w u.1 in
        (v.0, v.2, reach_above u.0 v.0 r.place.path v.1 u.2)

    glob_pull : (n : Node) (r : Ref) (a : ℕ) (t : Defined) → Covers f e → (m : Node) × came m n × Live f m r → r.place.root ≡ Global a t
        → f.acquires t ≡ true → (x : Label) × e' (Glob t) x n × Reach x r.place.path
    glob_pull n r a t c (m, w, h) k g =
        let u = c.glob m r a t h k g in
        let v = from_glob t u.0 n m w u.1 in
        (v.0, v.2, reach_above u.0 v.0 r.place.path v.1 u.2)

    leads_pull : (n m a b : Node) (q r : Ref) → (n ≡ m → ⊥) → came a n → came b m → Leads e a q b r → Leads e' n q m r
    leads_pull n m a b q r d hn hm (h, x, k, u) =
        let w = between n m a b x d hn hm k in
        (h, w.0, w.2, matches_above x w.0 q.place r.place w.1 u)

    pairs_pull : (n m : Node) (q r : Ref) → Covers f e → (n ≡ m → ⊥) → (a : Node) × came a n × Live f a q → (b : Node) × came b m × Live f b r
        → Overlap q.place r.place → (q.mutable ≡ true) ⊎ (r.mutable ≡ true) → Leads e' n q m r ⊎ Leads e' m r n q
    pairs_pull n m q r c d (a, u, h) (b, v, k) o s =
        elim (c.pairs a b q r (apart n m a b u v d) h k o s) [
          | inl w ↦ inl (leads_pull n m a b q r d u v w)
          | inr w ↦ inr (leads_pull m n b a r q (λ z. d (sym z)) v u w)
        ]

    origin_pull : (n : Node) (r : Ref) → Covers f e → (m : Node) × came m n × Live f m r → Origin (with_refs f refs) r
    origin_pull n r c (m, w, h) = origin_kept f refs r (c.origin m r h)

    pub covers_pull : Covers f e → Covers (with_refs f refs) e'
    covers_pull c = record {
      own = λ n r l h. own_pull n r l c (live n r h);
      glob = λ n r a t h. glob_pull n r a t c (live n r h);
      pairs = λ n m q r d h k. pairs_pull n m q r c d (live n q h) (live m r k);
      origin = λ n r h. origin_pull n r c (live n r h);
    }

-- a new reference at the place k of the stack
module _ (f : Frame) (e e' : Edges) (refs : Node → Option Ref) (k : ℕ) (new : Ref)
    (live : (n : Node) (r : Ref) → refs n ≡ Some r → ((n ≡ Temp k) × (r ≡ new)) ⊎ ((n ≡ Temp k → ⊥) × Live f n r))
    (keep : (p : Node) (x : Label) (n : Node) → (p ≡ Temp k → ⊥) → (n ≡ Temp k → ⊥) → e p x n → e' p x n)
    (new_own : (l : ℕ) → new.place.root ≡ Local f.number l → (x : Label) × e' (Own l) x (Temp k) × Reach x new.place.path)
    (new_glob : (a : ℕ) (t : Defined) → new.place.root ≡ Global a t → f.acquires t ≡ true → (x : Label) × e' (Glob t) x (Temp k) × Reach x new.place.path)
    (new_pairs : (n : Node) (r : Ref) → (n ≡ Temp k → ⊥) → Live f n r → refs n ≡ Some r → Overlap new.place r.place
    → (new.mutable ≡ true) ⊎ (r.mutable ≡ true) → Leads e' (Temp k) new n r ⊎ Leads e' n r (Temp k) new)
    (new_origin : Origin f new)
  where
    own_put : (n : Node) (r : Ref) (l : ℕ) → Covers f e → ((n ≡ Temp k) × (r ≡ new)) ⊎ ((n ≡ Temp k → ⊥) × Live f n r)
        → r.place.root ≡ Local f.number l → (x : Label) × e' (Own l) x n × Reach x r.place.path
    own_put n r l c (inl (d, s)) h = rw (d, s) (new_own l (rw s at h))
    own_put n r l c (inr (d, s)) h =
        let u = c.own n r l s h in
        (u.0, keep (Own l) u.0 n (λ z. cc) d u.1, u.2)

    glob_put : (n : Node) (r : Ref) (a : ℕ) (t : Defined) → Covers f e → ((n ≡ Temp k) × (r ≡ new)) ⊎ ((n ≡ Temp k → ⊥) × Live f n r)
        → r.place.root ≡ Global a t → f.acquires t ≡ true → (x : Label) × e' (Glob t) x n × Reach x r.place.path
    glob_put n r a t c (inl (d, s)) h g = rw (d, s) (new_glob a t (rw s at h) g)
    glob_put n r a t c (inr (d, s)) h g =
        let u = c.glob n r a t s h g in
        (u.0, keep (Glob t) u.0 n (λ z. cc) d u.1, u.2)

    leads_keep : (n m : Node) (q r : Ref) → (n ≡ Temp k → ⊥) → (m ≡ Temp k → ⊥) → Leads e n q m r → Leads e' n q m r
    leads_keep n m q r d s (h, x, w, u) = (h, x, keep n x m d s w, u)

    pairs_put : (n m : Node) (q r : Ref) → Covers f e → (n ≡ m → ⊥) → refs n ≡ Some q → refs m ≡ Some r
        → ((n ≡ Temp k) × (q ≡ new)) ⊎ ((n ≡ Temp k → ⊥) × Live f n q)
        → ((m ≡ Temp k) × (r ≡ new)) ⊎ ((m ≡ Temp k → ⊥) × Live f m r)
        → Overlap q.place r.place → (q.mutable ≡ true) ⊎ (r.mutable ≡ true) → Leads e' n q m r ⊎ Leads e' m r n q
    pairs_put n m q r c d hn hm (inl (a, b)) (inl (s, t)) o u = absurd (d (a ∙ sym s))
    pairs_put n m q r c d hn hm (inl (a, b)) (inr (s, t)) o u =
        rw (a, b) (new_pairs m r s t hm (rw b at o) (rw b at u))
    pairs_put n m q r c d hn hm (inr (a, b)) (inl (s, t)) o u =
        rw (s, t) (swap (new_pairs n q a b hn (overlap_sym q.place new.place (rw t at o)) (swap (rw t at u))))
    pairs_put n m q r c d hn hm (inr (a, b)) (inr (s, t)) o u =
        elim (c.pairs n m q r d b t o u) [
          | inl w ↦ inl (leads_keep n m q r a s w)
          | inr w ↦ inr (leads_keep m n r q s a w)
        ]

    origin_put : (n : Node) (r : Ref) → Covers f e → ((n ≡ Temp k) × (r ≡ new)) ⊎ ((n ≡ Temp k → ⊥) × Live f n r) → Origin (with_refs f refs) r
    origin_put n r c (inl (d, s)) = rw s (origin_kept f refs new new_origin)
    origin_put n r c (inr (d, s)) = origin_kept f refs r (c.origin n r s)

    pub covers_put : Covers f e → Covers (with_refs f refs) e'
    covers_put c = record {
      own = λ n r l h. own_put n r l c (live n r h);
      glob = λ n r a t h. glob_put n r a t c (live n r h);
      pairs = λ n m q r d h g. pairs_put n m q r c d h g (live n q h) (live m r g);
      origin = λ n r h. origin_put n r c (live n r h);
    }

same_by : (g : ℕ → Node) (a b : ℕ) → ((x y : ℕ) → g x ≡ g y → x ≡ y) → Dec (a ≡ b) → Dec (g a ≡ g b)
same_by g a b inj (yes h) = yes (ap g h)
same_by g a b inj (no h) = no (λ w. h (inj a b w))

abbrev definition : ℕ → ℕ → Defined
definition x y = record { place = x; index = y }

same_defined : (a b : Defined) → Dec (a ≡ b)
same_defined a b = by_case (ℕ_discrete a.place b.place) (ℕ_discrete a.index b.index)
  where
    by_case : Dec (a.place ≡ b.place) → Dec (a.index ≡ b.index) → Dec (a ≡ b)
    by_case (yes h) (yes g) = yes (ap₂ definition h g)
    by_case (no h) g = no (λ w. h (ap (λ (d : Defined). d.place) w))
    by_case (yes h) (no g) = no (λ w. g (ap (λ (d : Defined). d.index) w))

same_glob : (a b : Defined) → Dec (a ≡ b) → Dec (Glob a ≡ Glob b)
same_glob a b (yes h) = yes (ap Glob h)
same_glob a b (no h) = no (λ w. h (inj a b w))
  where
    inj : (x y : Defined) → Glob x ≡ Glob y → x ≡ y
    inj x y w = cc

-- two nodes are the same or not
pub node_same : (n m : Node) → Dec (n ≡ m)
node_same (Slot a) (Slot b) = same_by Slot a b (λ x y w. cc) (ℕ_discrete a b)
node_same (Own a) (Own b) = same_by Own a b (λ x y w. cc) (ℕ_discrete a b)
node_same (Glob a) (Glob b) = same_glob a b (same_defined a b)
node_same (Temp a) (Temp b) = same_by Temp a b (λ x y w. cc) (ℕ_discrete a b)
node_same _ _ = no (λ h. cc)

pub one_ref : (f : Frame) (n : Node) (q r : Ref) → Live f n q → Live f n r → q ≡ r
one_ref f n q r h k = cc

pub reach_along : (x : Label) (a b : List ℕ) → a ≡ b → Reach x b → Reach x a
reach_along x a b h r = rw h r

-- a new reference at the place k of the stack, at or below the place of the reference of node j
module _ (f : Frame) (e e' : Edges) (refs : Node → Option Ref) (k : ℕ) (new : Ref) (j : Node) (from : Ref) (s : List ℕ) (grow : Label → Label)
    (cover : Covers f e)
    (live : (n : Node) (r : Ref) → refs n ≡ Some r → ((n ≡ Temp k) × (r ≡ new)) ⊎ ((n ≡ Temp k → ⊥) × Live f n r))
    (keep : (p : Node) (x : Label) (n : Node) → (p ≡ Temp k → ⊥) → (n ≡ Temp k → ⊥) → e p x n → e' p x n)
    (operand : Live f j from)
    (not_own : (l : ℕ) → Own l ≡ j → ⊥)
    (not_glob : (t : Defined) → Glob t ≡ j → ⊥)
    (lies : new.place ≡ under from.place s)
    (mutability : new.mutable ≡ true → from.mutable ≡ true)
    (grows : (x : Label) (q : List ℕ) → Reach x q → Reach (grow x) (q ++ s))
    (incoming : (p : Node) (x : Label) → (p ≡ Temp k → ⊥) → (p ≡ j → ⊥) → e p x j → e' p (grow x) (Temp k))
    (need : (n : Node) (x : Label) (r : Ref) → (n ≡ Temp k → ⊥) → (n ≡ j → ⊥) → Live f n r → from.mutable ≡ true → e j x n
    → Matches x from.place r.place → Overlap new.place r.place → (new.mutable ≡ true) ⊎ (r.mutable ≡ true) → ⊥)
    (original : (j ≡ Temp k → ⊥) → refs j ≡ Some from → (new.mutable ≡ true) ⊎ (from.mutable ≡ true) → Leads e' (Temp k) new j from ⊎ Leads e' j from (Temp k) new)
  where
    from_root : new.place.root ≡ from.place.root
    from_root = ap (λ (z : Place). z.root) lies

    from_path : new.place.path ≡ from.place.path ++ s
    from_path = ap (λ (z : Place). z.path) lies

    own_derived : (l : ℕ) → new.place.root ≡ Local f.number l → (x : Label) × e' (Own l) x (Temp k) × Reach x new.place.path
    own_derived l h =
        let u = cover.own j from l operand (sym from_root ∙ h) in (
          grow u.0,
          incoming (Own l) u.0 (λ z. cc) (not_own l) u.1,
          reach_along (grow u.0) new.place.path (from.place.path ++ s) from_path (grows u.0 from.place.path u.2),
        )

    glob_derived : (a : ℕ) (t : Defined) → new.place.root ≡ Global a t → f.acquires t ≡ true → (x : Label) × e' (Glob t) x (Temp k) × Reach x new.place.path
    glob_derived a t h g =
        let u = cover.glob j from a t operand (sym from_root ∙ h) g in (
          grow u.0,
          incoming (Glob t) u.0 (λ z. cc) (not_glob t) u.1,
          reach_along (grow u.0) new.place.path (from.place.path ++ s) from_path (grows u.0 from.place.path u.2),
        )

    new_below : Below new.place from.place
    new_below = (from_root, (s, from_path))

    leads_derived : (n : Node) (r : Ref) → (n ≡ Temp k → ⊥) → (n ≡ j → ⊥) → Leads e n r j from → Leads e' n r (Temp k) new
    leads_derived n r d w (h, x, g, (a, q, b, u)) = (
      h,
      grow x,
      incoming n x d w g,
      (a ∙ sym from_root, q ++ s, from_path ∙ ap (λ l. l ++ s) b ∙ append_assoc r.place.path q s, grows x q u),
    )

    either_mutable : (r : Ref) → (new.mutable ≡ true) ⊎ (r.mutable ≡ true) → (from.mutable ≡ true) ⊎ (r.mutable ≡ true)
    either_mutable r (inl h) = inl (mutability h)
    either_mutable r (inr h) = inr h

    other_pair : (n : Node) (r : Ref) → (n ≡ Temp k → ⊥) → Live f n r → Overlap new.place r.place → (new.mutable ≡ true) ⊎ (r.mutable ≡ true)
        → (n ≡ j → ⊥) → Leads e j from n r ⊎ Leads e n r j from → Leads e' (Temp k) new n r ⊎ Leads e' n r (Temp k) new
    other_pair n r d h o m w (inl (g, x, u, v)) = absurd (need n x r d w h g u v o m)
    other_pair n r d h o m w (inr u) = inr (leads_derived n r d w u)

    same_pair : (n : Node) (r : Ref) → (n ≡ Temp k → ⊥) → Live f n r → refs n ≡ Some r → (new.mutable ≡ true) ⊎ (r.mutable ≡ true)
        → n ≡ j → Leads e' (Temp k) new n r ⊎ Leads e' n r (Temp k) new
    same_pair n r d h g m w =
        let q : r ≡ from = one_ref f j r from (rw w at h) operand in
        let t : refs j ≡ Some from = rw (w, q) at g in
        rw (w, q) (original (λ z. d (w ∙ z)) t (rw q at m))

    pairs_derived : (n : Node) (r : Ref) → (n ≡ Temp k → ⊥) → Live f n r → refs n ≡ Some r → Overlap new.place r.place → (new.mutable ≡ true) ⊎ (r.mutable ≡ true)
        → Leads e' (Temp k) new n r ⊎ Leads e' n r (Temp k) new
    pairs_derived n r d h g o m =
        elim (node_same n j) [
          | yes w ↦ same_pair n r d h g m w
          | no w ↦ other_pair n r d h o m w
              (cover.pairs j n from r (λ z. w (sym z)) operand h (overlap_above new.place from.place r.place new_below o) (either_mutable r m))
        ]

    origin_derived : Origin f from → Origin f new
    origin_derived (FromOwn l h) = FromOwn l (from_root ∙ h)
    origin_derived (FromStore a t h g) = FromStore a t (from_root ∙ h) g
    origin_derived (FromEntry (g, i, b, m)) = FromEntry (g, i, below_trans new.place from.place g.place new_below b, λ h. m (mutability h))

    pub covers_derived : Covers (with_refs f refs) e'
    covers_derived = covers_put f e e' refs k new live keep own_derived glob_derived pairs_derived (origin_derived (cover.origin j from operand)) cover
