-- What follows of a stack of covered frames: no live reference into what a frame gives up, and frames kept apart.
use Rattle.std.proofs.Common.{◌≡◌, ℕ, ◌<◌, ◌≤◌, List, [], ◌∷◌, true, false, ◌⊎◌, inl, inr, refl, sym, ◌∙◌, ap, arith, Option, Some}
use Rattle.mv_borrow_graph.proofs.Abstract.Terms.Places.{Defined, Local, Global, Place, Below, Overlap, Label, Reach, opened}
use Rattle.mv_borrow_graph.proofs.Abstract.Places.{below_self, below_trans, overlap_sym, overlap_above, matches_opened, reach_opened}
use Rattle.mv_borrow_graph.proofs.Abstract.Terms.Covers.{Node, Own, Glob, Ref, Frame, with_refs, Live, Edges, InList, Given, Origin, FromOwn, FromStore, FromEntry, Leads, Covers}
use Rattle.mv_borrow_graph.proofs.Abstract.Covers.{origin_kept, swap, one_ref}
use Rattle.mv_borrow_graph.proofs.Abstract.Terms.Stack.{Entered, Layer, OnStack, Top, Lower, Calls, Homed, Chain, Bottom, Above}
use Rattle.std.proofs.lemmas.Bool.{both_ways}

pub overlap_root : (a b : Place) → Overlap a b → a.root ≡ b.root
overlap_root a b (inl h) = h.0
overlap_root a b (inr h) = sym h.0

in_none : (g : Ref) (l : List Ref) → l ≡ [] → InList g l → ⊥
in_none g [] e h = h
in_none g (x ∷ l) e h = cc

module _ (depends : ℕ → ℕ → Type 0) (home_of : Defined → ℕ)
    (through : (a b c : ℕ) → depends a b → depends b c → depends a c)
    (no_cycle : (a : ℕ) → depends a a → ⊥)
  where
    pub chain_covers : (u : Layer) (rest : List Layer) → Chain depends home_of (u ∷ rest) → Covers u.frame u.edges
    chain_covers u rest (Bottom c h e) = c
    chain_covers u rest (Above c h a k d) = c

    own_number : (k m a b : ℕ) → Local k a ≡ Local m b → k ≡ m
    own_number k m a b h = cc

    own_or_given : (f : Frame) (r : Ref) (k l : ℕ) → Origin f r → r.place.root ≡ Local k l → (k ≡ f.number) ⊎ Given f r
    own_or_given f r k l (FromOwn m b) s = inl (own_number k f.number l m (sym s ∙ b))
    own_or_given f r k l (FromStore a t d h) s = cc
    own_or_given f r k l (FromEntry g) s = inr g

    -- a live reference into a local points into a frame at or below its own
    pub local_within : (u : Layer) (rest : List Layer) (n : Node) (r : Ref) (k l : ℕ) → Chain depends home_of (u ∷ rest) → Live u.frame n r
        → r.place.root ≡ Local k l → k ≤ u.frame.number
    local_within u rest n r k l (Bottom c h e) g s =
        elim (own_or_given u.frame r k l (c.origin n r g) s) [
          | inl q ↦ omega arith
          | inr q ↦ absurd (in_none q.0 u.frame.entry e q.1)
        ]
    local_within u rest n r k l (Above {w = w} {rest = below} c h a calls d) g s =
        let y : w.frame.number < u.frame.number = calls.later in
        elim (own_or_given u.frame r k l (c.origin n r g) s) [
          | inl q ↦ omega arith
          | inr q ↦
              let p = calls.passed q.0 q.1 in
              let z : k ≤ w.frame.number = local_within w below p.0 q.0 k l d p.2 (sym q.2.0 ∙ s) in
              omega arith
        ]

    pub number_below : (u v : Layer) (rest : List Layer) → Chain depends home_of (u ∷ rest) → OnStack v (u ∷ rest) → v.frame.number ≤ u.frame.number
    number_below u v rest (Bottom c h e) Top = omega arith
    number_below u v rest (Bottom c h e) (Lower o) = elim o [ ]
    number_below u v rest (Above c h a calls d) Top = omega arith
    number_below u v rest (Above {w = w} {rest = below} c h a calls d) (Lower o) =
        let z : v.frame.number ≤ w.frame.number = number_below w v below d o in
        let y : w.frame.number < u.frame.number = calls.later in
        omega arith

    -- the same for any frame of the stack
    pub local_below : (w v : Layer) (rest : List Layer) (n : Node) (r : Ref) (k l : ℕ) → Chain depends home_of (w ∷ rest) → OnStack v (w ∷ rest)
        → Live v.frame n r → r.place.root ≡ Local k l → k ≤ v.frame.number
    local_below w v rest n r k l d Top g s = local_within w rest n r k l d g s
    local_below w v rest n r k l (Bottom c h e) (Lower o) g s = elim o [ ]
    local_below w v rest n r k l (Above {w = x} {rest = below} c h m calls d) (Lower o) g s = local_below x v below n r k l d o g s

    stored_or_given : (f : Frame) (r : Ref) (a : ℕ) (t : Defined) → Origin f r → r.place.root ≡ Global a t → (f.acquires t ≡ true) ⊎ Given f r
    stored_or_given f r a t (FromOwn m b) s = cc
    stored_or_given f r a t (FromStore b m d h) s = inl (rw (same_kind a t b m (sym s ∙ d)) h)
      where
        same_kind : (a : ℕ) (t : Defined) (b : ℕ) (m : Defined) → Global a t ≡ Global b m → t ≡ m
        same_kind a t b m h = cc
    stored_or_given f r a t (FromEntry g) s = inr g

    abbrev pub Homes : Defined → List Layer → Type 1
    Homes t ls = (z : Layer) × OnStack z ls × (home_of t ≡ z.frame.home)

    homes_lower : (t : Defined) (u : Layer) (ls : List Layer) → Homes t ls → Homes t (u ∷ ls)
    homes_lower t u ls (z, o, h) = (z, Lower o, h)

    -- a live reference into a stored struct: a frame of the struct's module stands at or below its own
    pub stored_home : (u v : Layer) (rest : List Layer) (n : Node) (r : Ref) (a : ℕ) (t : Defined) → Chain depends home_of (u ∷ rest) → OnStack v (u ∷ rest)
        → Live v.frame n r → r.place.root ≡ Global a t → Homes t (u ∷ rest)
    stored_home u v rest n r a t (Bottom c h e) Top g s =
        elim (stored_or_given u.frame r a t (c.origin n r g) s) [
          | inl q ↦ (u, Top, h t q)
          | inr q ↦ absurd (in_none q.0 u.frame.entry e q.1)
        ]
    stored_home u v rest n r a t (Bottom c h e) (Lower o) g s = elim o [ ]
    stored_home u v rest n r a t (Above {w = w} {rest = below} c h m calls d) Top g s =
        elim (stored_or_given u.frame r a t (c.origin n r g) s) [
          | inl q ↦ (u, Top, h t q)
          | inr q ↦
              let p = calls.passed q.0 q.1 in
              homes_lower t u (w ∷ below) (stored_home w w below p.0 q.0 a t d Top p.2 (sym q.2.0 ∙ s))
        ]
    stored_home u v rest n r a t (Above {w = w} {rest = below} c h m calls d) (Lower o) g s =
        homes_lower t u (w ∷ below) (stored_home w v below n r a t d o g s)

    pub reaches : (w v : Layer) (rest : List Layer) → Chain depends home_of (w ∷ rest) → OnStack v (w ∷ rest) → (v.frame.home ≡ w.frame.home) ⊎ depends v.frame.home w.frame.home
    reaches w v rest c Top = inl refl
    reaches w v rest (Bottom c h e) (Lower o) = elim o [ ]
    reaches w v rest (Above {w = x} {rest = below} c h m calls d) (Lower o) =
        joined v.frame.home x.frame.home w.frame.home (reaches x v below d o) calls.leads_on
      where
        joined : (a b c : ℕ) → (a ≡ b) ⊎ depends a b → (b ≡ c) ⊎ depends b c → (a ≡ c) ⊎ depends a c
        joined a b c (inl p) (inl q) = inl (p ∙ q)
        joined a b c (inl p) (inr q) = inr (rw p q)
        joined a b c (inr p) (inl q) = inr (rw q at p)
        joined a b c (inr p) (inr q) = inr (through a b c p q)

    -- frames of one module stand next to each other
    pub adjacent : (w z : Layer) (rest : List Layer) (home : ℕ) → Chain depends home_of (w ∷ rest) → OnStack z (w ∷ rest)
        → (w.frame.home ≡ home) ⊎ depends w.frame.home home → z.frame.home ≡ home → w.frame.home ≡ home
    adjacent w z rest home c o (inl p) q = p
    adjacent w z rest home c o (inr p) q =
        elim (reaches w z rest c o) [
          | inl s ↦ absurd (no_cycle home (rw (sym s ∙ q) at p))
          | inr s ↦ absurd (no_cycle home (through home w.frame.home home (rw q at s) p))
        ]

    -- what waits just below, or further down
    at_stack : (w v : Layer) (below : List Layer) (n : Node) (r : Ref) (a : ℕ) (t : Defined) → Chain depends home_of (w ∷ below) → OnStack v (w ∷ below)
        → Live v.frame n r → r.place.root ≡ Global a t → (w.frame.acquires t ≡ true) × ((x : Label) (c : Node) → w.edges (Glob t) x c → ⊥)
        → (OnStack v below → w.frame.acquires t ≡ true → ⊥) → ⊥
    at_stack w v below n r a t d Top g s f further =
        let u = (chain_covers w below d).glob n r a t g s f.0 in
        f.1 u.0 n u.1
    at_stack w v below n r a t d (Lower o) g s f further = further o f.0

    -- no live reference of a frame below points into a struct of an upper frame's acquires list
    pub acquired_apart : (u v : Layer) (rest : List Layer) (n : Node) (r : Ref) (a : ℕ) (t : Defined) → Chain depends home_of (u ∷ rest) → OnStack v rest
        → Live v.frame n r → r.place.root ≡ Global a t → u.frame.acquires t ≡ true → ⊥
    acquired_apart u v rest n r a t (Bottom c h e) o g s acq = elim o [ ]
    acquired_apart u v rest n r a t (Above {w = w} {rest = below} c h m calls d) o g s acq =
        let z = stored_home w v below n r a t d o g s in
        let f = calls.store_free (adjacent w z.0 below u.frame.home d z.1 calls.leads_on (sym z.2 ∙ h t acq)) t acq in
        at_stack w v below n r a t d o g s f (λ q k. acquired_apart w v below n r a t d q g s k)

    -- the mutable reference was handed on, and none leads out of it
    at_imm : (w v : Layer) (below : List Layer) (n m : Node) (q i : Ref) → Chain depends home_of (w ∷ below) → OnStack v (w ∷ below)
        → Live w.frame n q → Live v.frame m i → q.mutable ≡ true → i.mutable ≡ false → Overlap q.place i.place
        → ((x : Label) (c : Node) → w.edges n x c → ⊥) → (OnStack v below → ⊥) → ⊥
    at_imm w v below n m q i d Top g s a b o free further =
        elim ((chain_covers w below d).pairs n m q i (λ z. differ z) g s o (inl a)) [
          | inl u ↦ free u.1 m u.2
          | inr u ↦ both_ways _ b u.0
        ]
      where
        differ : n ≡ m → ⊥
        differ z = both_ways _ (ap (λ (r : Ref). r.mutable) (one_ref w.frame m q i (rw z at g) s) ∙ b) a
    at_imm w v below n m q i d (Lower p) g s a b o free further = further p

    -- no mutable reference of an upper frame overlaps a live immutable one of a frame below it
    pub immutable_apart : (u v : Layer) (rest : List Layer) (n m : Node) (q i : Ref) → Chain depends home_of (u ∷ rest) → OnStack v rest
        → Live u.frame n q → Live v.frame m i → q.mutable ≡ true → i.mutable ≡ false → Overlap q.place i.place → ⊥
    immutable_apart u v rest n m q i (Bottom c h e) o g s a b l = elim o [ ]
    immutable_apart u v rest n m q i (Above {w = w} {rest = below} c h arg calls d) o g s a b l =
        elim (c.origin n q g) [
          | FromOwn k p ↦
              let z : u.frame.number ≤ v.frame.number = local_below w v below m i u.frame.number k d o s (sym (overlap_root q.place i.place l) ∙ p) in
              let y : v.frame.number ≤ w.frame.number = number_below w v below d o in
              let x : w.frame.number < u.frame.number = calls.later in
              absurd (omega arith)
          | FromStore k t p acq ↦ acquired_apart u v (w ∷ below) m i k t (Above c h arg calls d) o s (sym (overlap_root q.place i.place l) ∙ p) acq
          | FromEntry f ↦
              let p = calls.passed f.0 f.1 in
              let z = overlap_above q.place f.0.place i.place f.2 l in
              at_imm w v below p.0 m f.0 i d o p.2 s (f.3 a) b z (λ x c. calls.free p.0 f.0 x c p.1 p.2 (f.3 a))
              (λ k. immutable_apart w v below p.0 m f.0 i d k p.2 s (f.3 a) b z)
        ]

    -- a Call: the new frame is covered, whatever edges its first instruction states
    pub covers_entered : (u w : Layer) (below : List Layer) (argument : Node → Type 0) (came : Node → Node → Type 0)
        → Chain depends home_of (w ∷ below) → Homed home_of u.frame → Calls depends w u argument
        → Entered w u.frame argument came
        → ((n m a b : Node) → came a n → came b m → (n ≡ m → ⊥) → a ≡ b → ⊥)
        → Covers u.frame u.edges
    covers_entered u w below argument came d homed calls entered apart = record {
      own = λ n r l h k. absurd (at_own n r l h k);
      glob = λ n r a t h k q. absurd (at_glob n r a t h k q);
      pairs = λ n m q r g h k o s. absurd (at_pairs n m q r g h k o s);
      origin = λ n r h. FromEntry (r, (entered n r h).0, below_self r.place, λ z. z);
    }
      where
        at_own : (n : Node) (r : Ref) (l : ℕ) → Live u.frame n r → r.place.root ≡ Local u.frame.number l → ⊥
        at_own n r l h k =
            let s = (entered n r h).1 in
            let z : u.frame.number ≤ w.frame.number = local_within w below s.0 r u.frame.number l d s.3 k in
            let y : w.frame.number < u.frame.number = calls.later in
            omega arith

        at_glob : (n : Node) (r : Ref) (a : ℕ) (t : Defined) → Live u.frame n r → r.place.root ≡ Global a t → u.frame.acquires t ≡ true → ⊥
        at_glob n r a t h k q =
            let s = (entered n r h).1 in
            let z = stored_home w w below s.0 r a t d Top s.3 k in
            let f = calls.store_free (adjacent w z.0 below u.frame.home d z.1 calls.leads_on (sym z.2 ∙ homed t q)) t q in
            let x = (chain_covers w below d).glob s.0 r a t s.3 k f.0 in
            f.1 x.0 s.0 x.1

        at_pairs : (n m : Node) (q r : Ref) → (n ≡ m → ⊥) → Live u.frame n q → Live u.frame m r → Overlap q.place r.place → (q.mutable ≡ true) ⊎ (r.mutable ≡ true) → ⊥
        at_pairs n m q r g h k o s =
            let x = (entered n q h).1 in
            let y = (entered m r k).1 in
            elim ((chain_covers w below d).pairs x.0 y.0 q r (apart n m x.0 y.0 x.1 y.1 g) x.3 y.3 o s) [
              | inl z ↦ calls.free x.0 q z.1 y.0 x.2 x.3 z.0 z.2
              | inr z ↦ calls.free y.0 r z.1 x.0 y.2 y.3 z.0 z.2
            ]

    -- a Ret: the caller goes on with the results, and is covered by what the call's rule leaves
    module _ (u w : Layer) (below : List Layer) (argument : Node → Type 0) (result : Node → Node → Type 0) (refs : Node → Option Ref) (e : Edges)
        (upper : Covers u.frame u.edges) (d : Chain depends home_of (w ∷ below)) (calls : Calls depends w u argument)
        (own_given : (l : ℕ) → argument (Own l) → ⊥)
        (glob_given : (t : Defined) → argument (Glob t) → ⊥)
        -- what the rule of Ret needs
        (no_own : (m n : Node) (l : ℕ) (x : Label) → result m n → u.edges (Own l) x m → ⊥)
        (no_glob : (m n : Node) (t : Defined) (x : Label) → result m n → u.edges (Glob t) x m → ⊥)
        (no_pair : (m n a b : Node) (r : Ref) (x : Label) → result m n → result a b → Live u.frame m r → r.mutable ≡ true → u.edges m x a → ⊥)
        -- how the results stand on the caller's stack
        (live : (n : Node) (r : Ref) → refs n ≡ Some r → ((argument n → ⊥) × Live w.frame n r) ⊎ ((m : Node) × result m n × Live u.frame m r))
        (apart : (n m a b : Node) → result a n → result b m → (n ≡ m → ⊥) → a ≡ b → ⊥)
        -- what the rule of Call leaves
        (keep : (p : Node) (x : Label) (c : Node) → (argument p → ⊥) → (argument c → ⊥) → w.edges p x c → e p x c)
        (add : (p : Node) (x : Label) (j : Node) (g : Ref) (m n : Node) (r : Ref) → (argument p → ⊥) → argument j → Live w.frame j g → result m n → Live u.frame m r
        → (r.mutable ≡ true → g.mutable ≡ true) → w.edges p x j → e p (opened x) n)
      where
        caller : Covers w.frame w.edges
        caller = chain_covers w below d

        -- a result lies at or below an argument
        abbrev Handed : Ref → Type 0
        Handed r = (j : Node) × (g : Ref) × argument j × Live w.frame j g × Below r.place g.place × (r.mutable ≡ true → g.mutable ≡ true)

        handed : (m n : Node) (r : Ref) → result m n → Live u.frame m r → Handed r
        handed m n r q h =
            elim (upper.origin m r h) [
              | FromOwn l k ↦ let x = upper.own m r l h k in absurd (no_own m n l x.0 q x.1)
              | FromStore a t k acq ↦ let x = upper.glob m r a t h k acq in absurd (no_glob m n t x.0 q x.1)
              | FromEntry f ↦ let p = calls.passed f.0 f.1 in (p.0, f.0, p.1, p.2, f.2, f.3)
            ]

        abbrev Came : Node → Ref → Type 0
        Came n r = ((argument n → ⊥) × Live w.frame n r) ⊎ ((m : Node) × result m n × Live u.frame m r)

        reach_below : (x : Label) (c p : Place) → Reach x p.path → Below c p → Reach (opened x) c.path
        reach_below x c p h (k, (t, q)) = rw q (reach_opened x p.path t h)

        own_back : (n : Node) (r : Ref) (l : ℕ) → Came n r → r.place.root ≡ Local w.frame.number l → (x : Label) × e (Own l) x n × Reach x r.place.path
        own_back n r l (inl (a, h)) k =
            let x = caller.own n r l h k in
            (x.0, keep (Own l) x.0 n (own_given l) a x.1, x.2)
        own_back n r l (inr (m, q, h)) k =
            let z = handed m n r q h in
            let x = caller.own z.0 z.1 l z.3 (sym z.4.0 ∙ k) in
            (opened x.0, add (Own l) x.0 z.0 z.1 m n r (own_given l) z.2 z.3 q h z.5 x.1, reach_below x.0 r.place z.1.place x.2 z.4)

        glob_back : (n : Node) (r : Ref) (a : ℕ) (t : Defined) → Came n r → r.place.root ≡ Global a t → w.frame.acquires t ≡ true → (x : Label) × e (Glob t) x n × Reach x r.place.path
        glob_back n r a t (inl (b, h)) k acq =
            let x = caller.glob n r a t h k acq in
            (x.0, keep (Glob t) x.0 n (glob_given t) b x.1, x.2)
        glob_back n r a t (inr (m, q, h)) k acq =
            let z = handed m n r q h in
            let x = caller.glob z.0 z.1 a t z.3 (sym z.4.0 ∙ k) acq in
            (opened x.0, add (Glob t) x.0 z.0 z.1 m n r (glob_given t) z.2 z.3 q h z.5 x.1, reach_below x.0 r.place z.1.place x.2 z.4)

        leads_back : (n m : Node) (q r : Ref) → (argument n → ⊥) → (argument m → ⊥) → Leads w.edges n q m r → Leads e n q m r
        leads_back n m q r a b (h, x, k, s) = (h, x, keep n x m a b k, s)

        -- a result, and a reference that the caller kept
        kept_pair : (n k m : Node) (r q : Ref) → result m n → Live u.frame m r → (argument k → ⊥) → Live w.frame k q → Overlap r.place q.place
            → (r.mutable ≡ true) ⊎ (q.mutable ≡ true) → Handed r → Leads e k q n r
        kept_pair n k m r q res h a g o b (j, t, arg, s, low, mut) =
            elim (caller.pairs j k t q (λ z. a (rw z at arg)) s g (overlap_above r.place t.place q.place low o) (elim b [ inl y ↦ inl (mut y) | inr y ↦ inr y ])) [
              | inl y ↦ absurd (calls.free j t y.1 k arg s y.0 y.2)
              | inr y ↦ (y.0, opened y.1, add k y.1 j t m n r a arg s res h mut y.2, matches_opened y.1 q.place t.place r.place y.3 low)
            ]

        pairs_back : (n k : Node) (r q : Ref) → (n ≡ k → ⊥) → Came n r → Came k q → Overlap r.place q.place → (r.mutable ≡ true) ⊎ (q.mutable ≡ true)
            → Leads e n r k q ⊎ Leads e k q n r
        pairs_back n k r q d' (inl (a, h)) (inl (s, t)) o m =
            elim (caller.pairs n k r q d' h t o m) [
              | inl x ↦ inl (leads_back n k r q a s x)
              | inr x ↦ inr (leads_back k n q r s a x)
            ]
        pairs_back n k r q d' (inl (a, h)) (inr (s, t, c)) o m = inl (kept_pair k n s q r t c a h (overlap_sym r.place q.place o) (swap m) (handed s k q t c))
        pairs_back n k r q d' (inr (a, h, b)) (inl (s, t)) o m = inr (kept_pair n k a r q h b s t o m (handed a n r h b))
        pairs_back n k r q d' (inr (a, h, b)) (inr (s, t, c)) o m =
            elim (upper.pairs a s r q (apart n k a s h t d') b c o m) [
              | inl x ↦ absurd (no_pair a n s k r x.1 h t b x.0 x.2)
              | inr x ↦ absurd (no_pair s k a n q x.1 t h c x.0 x.2)
            ]

        given_below : (g r : Ref) → Below r.place g.place → (r.mutable ≡ true → g.mutable ≡ true) → Origin w.frame g → Origin w.frame r
        given_below g r low m (FromOwn l k) = FromOwn l (low.0 ∙ k)
        given_below g r low m (FromStore a t k acq) = FromStore a t (low.0 ∙ k) acq
        given_below g r low m (FromEntry (q, i, b, z)) = FromEntry (q, i, below_trans r.place g.place q.place low b, λ y. z (m y))

        origin_back : (n : Node) (r : Ref) → Came n r → Origin (with_refs w.frame refs) r
        origin_back n r (inl (a, h)) = origin_kept w.frame refs r (caller.origin n r h)
        origin_back n r (inr (m, q, h)) =
            let z = handed m n r q h in
            origin_kept w.frame refs r (given_below z.1 r z.4 z.5 (caller.origin z.0 z.1 z.3))

        pub covers_returned : Covers (with_refs w.frame refs) e
        covers_returned = record {
          own = λ n r l h k. own_back n r l (live n r h) k;
          glob = λ n r a t h k q. glob_back n r a t (live n r h) k q;
          pairs = λ n m q r g h k o s. pairs_back n m q r g (live n q h) (live m r k) o s;
          origin = λ n r h. origin_back n r (live n r h);
        }

    -- no fault: a write through a mutable reference of the running frame touches no live immutable one, of any frame
    pub write_unfrozen : (u v : Layer) (rest : List Layer) (n m : Node) (q i : Ref) → Chain depends home_of (u ∷ rest) → OnStack v (u ∷ rest)
        → Live u.frame n q → Live v.frame m i → q.mutable ≡ true → i.mutable ≡ false → ((x : Label) (c : Node) → u.edges n x c → ⊥)
        → Overlap q.place i.place → ⊥
    write_unfrozen u v rest n m q i d Top g s a b free o = at_imm u u rest n m q i d Top g s a b o free (λ z. write_top z)
      where
        write_top : OnStack u rest → ⊥
        write_top z = immutable_apart u u rest n m q i d z g s a b o
    write_unfrozen u v rest n m q i d (Lower z) g s a b free o = immutable_apart u v rest n m q i d z g s a b o

    -- a local of the running frame that no edge leaves is not borrowed, in any frame
    pub local_unborrowed : (u v : Layer) (rest : List Layer) (n : Node) (r : Ref) (l : ℕ) → Chain depends home_of (u ∷ rest) → OnStack v (u ∷ rest)
        → Live v.frame n r → ((x : Label) (c : Node) → u.edges (Own l) x c → ⊥) → r.place.root ≡ Local u.frame.number l → ⊥
    local_unborrowed u v rest n r l d Top h free k =
        let x = (chain_covers u rest d).own n r l h k in
        free x.0 n x.1
    local_unborrowed u v rest n r l (Bottom c hm e) (Lower z) h free k = elim z [ ]
    local_unborrowed u v rest n r l (Above {w = w} {rest = below} c hm arg calls d) (Lower z) h free k =
        let p : u.frame.number ≤ v.frame.number = local_below w v below n r u.frame.number l d z h k in
        let q : v.frame.number ≤ w.frame.number = number_below w v below d z in
        let y : w.frame.number < u.frame.number = calls.later in
        omega arith

    -- and a struct of its acquires list that no edge leaves is not borrowed, at any address, in any frame
    pub struct_unborrowed : (u v : Layer) (rest : List Layer) (n : Node) (r : Ref) (a : ℕ) (t : Defined) → Chain depends home_of (u ∷ rest) → OnStack v (u ∷ rest)
        → Live v.frame n r → u.frame.acquires t ≡ true → ((x : Label) (c : Node) → u.edges (Glob t) x c → ⊥) → r.place.root ≡ Global a t → ⊥
    struct_unborrowed u v rest n r a t d Top h acq free k =
        let x = (chain_covers u rest d).glob n r a t h k acq in
        free x.0 n x.1
    struct_unborrowed u v rest n r a t d (Lower z) h acq free k = acquired_apart u v rest n r a t d z h k acq

    -- whoever calls sees of the running frame only what does not change while it runs
    calls_kept : (w u v : Layer) (argument : Node → Type 0) → v.frame.number ≡ u.frame.number → v.frame.home ≡ u.frame.home → v.frame.acquires ≡ u.frame.acquires
        → v.frame.entry ≡ u.frame.entry → Calls depends w u argument → Calls depends w v argument
    calls_kept w u v argument n h a e c = record {
      passed = λ g i. c.passed g (rw e at i);
      free = c.free;
      store_free = λ k t q. c.store_free (k ∙ h) t (rw a at q);
      later = rw n c.later;
      leads_on = rw h c.leads_on;
    }

    homed_kept : (u v : Frame) → v.home ≡ u.home → v.acquires ≡ u.acquires → Homed home_of u → Homed home_of v
    homed_kept u v h a k = λ t q. k t (rw a at q) ∙ sym h

    -- a step of the running frame: any row but Call and Ret
    pub chain_step : (u v : Layer) (rest : List Layer) → v.frame.number ≡ u.frame.number → v.frame.home ≡ u.frame.home → v.frame.acquires ≡ u.frame.acquires
        → v.frame.entry ≡ u.frame.entry → Covers v.frame v.edges → Chain depends home_of (u ∷ rest) → Chain depends home_of (v ∷ rest)
    chain_step u v rest n h a e cover (Bottom c k g) = Bottom cover (homed_kept u.frame v.frame h a k) (e ∙ g)
    chain_step u v rest n h a e cover (Above {w = w} {rest = below} c k argument calls d) =
        Above cover (homed_kept u.frame v.frame h a k) argument (calls_kept w u v argument n h a e calls) d

    -- a Call
    pub chain_call : (u w : Layer) (below : List Layer) (argument : Node → Type 0) (came : Node → Node → Type 0)
        → Chain depends home_of (w ∷ below) → Homed home_of u.frame → Calls depends w u argument
        → Entered w u.frame argument came
        → ((n m a b : Node) → came a n → came b m → (n ≡ m → ⊥) → a ≡ b → ⊥)
        → Chain depends home_of (u ∷ (w ∷ below))
    chain_call u w below argument came d homed calls entered apart =
        Above (covers_entered u w below argument came d homed calls entered apart) homed argument calls d

    -- a Ret: the waiting frame's layer, once it is covered again, stands on top
    pub chain_return : (u w : Layer) (below : List Layer) → Chain depends home_of (u ∷ (w ∷ below)) → Chain depends home_of (w ∷ below)
    chain_return u w below (Above c k argument calls d) = d
