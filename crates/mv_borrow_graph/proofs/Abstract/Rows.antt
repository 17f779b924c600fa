-- Each rule of borrows keeps a frame covered.
use Rattle.std.proofs.Common.{◌≡◌, ℕ, List, [], ◌∷◌, ◌++◌, Bool, true, false, ◌⊎◌, inl, inr, refl, sym, ◌∙◌, Option, Some}
use Rattle.std.proofs.lemmas.List.{append-nil}
use Rattle.mv_borrow_graph.proofs.Abstract.Terms.Places.{Defined, Local, Global, Place, Overlap, Label, Exact, Open, Reach, LabelBelow, extend, Agrees, under, field_of}
use Rattle.mv_borrow_graph.proofs.Abstract.Places.{begins_self, overlap_sym, reach_extend, matches_apart}
use Rattle.mv_borrow_graph.proofs.Abstract.Terms.Covers.{Node, Slot, Own, Glob, Temp, Ref, Frame, with_refs, Live, Edges, FromOwn, FromStore, Covers}
use Rattle.mv_borrow_graph.proofs.Abstract.Terms.Rows.{after_copy, after_copy_mutable, apart_from, after_field, after_freeze, after_borrow}
use Rattle.mv_borrow_graph.proofs.Abstract.Covers.{covers_pull, covers_put, covers_derived}
use Rattle.std.proofs.lemmas.Bool.{both_ways}

under_nil : (p : Place) → p ≡ under p []
under_nil p = λ i. record { root = p.root; path = sym (append-nil p.path) i }

reach_nil : (x : Label) (q : List ℕ) → Reach x q → Reach x (q ++ [])
reach_nil x q r = rw append-nil r

-- the live references of the next frame: the new one at the place k, and old ones elsewhere
abbrev pub Pushed : Frame → (Node → Option Ref) → ℕ → Ref → Type 0
Pushed f refs k new = (n : Node) (r : Ref) → refs n ≡ Some r → ((n ≡ Temp k) × (r ≡ new)) ⊎ ((n ≡ Temp k → ⊥) × Live f n r)

module _ (f : Frame) (e : Edges) (refs : Node → Option Ref) (cover : Covers f e) (kind : Node → Bool) (typed : (n : Node) (r : Ref) → Live f n r → kind n ≡ r.mutable) (k : ℕ) where
  pub row_copy_immutable : (l : ℕ) (from : Ref) → Live f (Slot l) from → from.mutable ≡ false → Pushed f refs k from
      → Covers (with_refs f refs) (after_copy l k e)
  row_copy_immutable l from h m pushed =
      covers_derived f e (after_copy l k e) refs k from (Slot l) from [] (λ x. x) cover pushed
      (λ p x n d w g. inl g) h (λ z w. cc) (λ z w. cc) (under_nil from.place) (λ w. w) reach_nil
      (λ p x d w g. inr (refl, g))
      (λ n x r d w g t u v o a. both_ways _ m t)
      (λ d g a. elim a [ inl t ↦ absurd (both_ways _ m t) | inr t ↦ absurd (both_ways _ m t) ])

  pub row_copy_mutable : (l : ℕ) (from : Ref) → Live f (Slot l) from → from.mutable ≡ true → Pushed f refs k from
      → ((x : Label) (c : Node) → e (Slot l) x c → ⊥)
      → Covers (with_refs f refs) (after_copy_mutable l k e)
  row_copy_mutable l from h m pushed need =
      covers_derived f e (after_copy_mutable l k e) refs k from (Slot l) from [] (λ x. x) cover pushed
      (λ p x n d w g. inl (inl g)) h (λ z w. cc) (λ z w. cc) (under_nil from.place) (λ w. w) reach_nil
      (λ p x d w g. inl (inr (refl, g)))
      (λ n x r d w g t u v o a. need x n u)
      (λ d g a. inr (m, Exact [], inr (refl, refl, refl), (refl, [], sym (append-nil from.place.path), refl)))

  pub row_field_mutable : (position : ℕ) (from : Ref) → Live f (Temp k) from → from.mutable ≡ true
      → Pushed f refs k (record { mutable = true; place = field_of from.place position })
      → ((x : Label) (c : Node) → e (Temp k) x c → Agrees x position → ⊥)
      → Covers (with_refs f refs) (after_field position k e)
  row_field_mutable position from h m pushed need =
      covers_derived f e (after_field position k e) refs k (record { mutable = true; place = field_of from.place position }) (Temp k) from
      (position ∷ []) (extend position) cover pushed
      (λ p x n d w g. inl (d, w, g)) h (λ z w. cc) (λ z w. cc) refl (λ w. m) (λ x q r. reach_extend x position q r)
      (λ p x d w g. inr (refl, d, x, g, refl))
      (λ n x r d w g t u v o a. matches_apart x position from.place r.place v (need x n u) (overlap_sym (field_of from.place position) r.place o))
      (λ d g a. absurd (d refl))

  pub row_field_immutable : (position : ℕ) (from : Ref) → Live f (Temp k) from
      → Pushed f refs k (record { mutable = false; place = field_of from.place position })
      → ((x : Label) (c : Node) → e (Temp k) x c → kind c ≡ true → Agrees x position → ⊥)
      → Covers (with_refs f refs) (after_field position k e)
  row_field_immutable position from h pushed need =
      covers_derived f e (after_field position k e) refs k (record { mutable = false; place = field_of from.place position }) (Temp k) from
      (position ∷ []) (extend position) cover pushed
      (λ p x n d w g. inl (d, w, g)) h (λ z w. cc) (λ z w. cc) refl (λ w. cc) (λ x q r. reach_extend x position q r)
      (λ p x d w g. inr (refl, d, x, g, refl))
      (λ n x r d w g t u v o a. elim a [
        | inl b ↦ both_ways _ refl b
        | inr b ↦ matches_apart x position from.place r.place v (need x n u (typed n r g ∙ b)) (overlap_sym (field_of from.place position) r.place o)
      ])
      (λ d g a. absurd (d refl))

  pub row_freeze : (from : Ref) → Live f (Temp k) from
      → Pushed f refs k (record { mutable = false; place = from.place })
      → ((x : Label) (c : Node) → e (Temp k) x c → kind c ≡ true → ⊥)
      → Covers (with_refs f refs) (after_freeze k e)
  row_freeze from h pushed need =
      covers_derived f e (after_freeze k e) refs k (record { mutable = false; place = from.place }) (Temp k) from
      [] (λ x. x) cover pushed
      (λ p x n d w g. (d, g)) h (λ z w. cc) (λ z w. cc) (under_nil from.place) (λ w. cc) reach_nil
      (λ p x d w g. (d, g))
      (λ n x r d w g t u v o a. elim a [ inl b ↦ both_ways _ refl b | inr b ↦ need x n u (typed n r g ∙ b) ])
      (λ d g a. absurd (d refl))

  own_edge : (n : Node) (r : Ref) (l : ℕ) → Live f n r → Overlap (record { root = Local f.number l; path = [] }) r.place → (x : Label) × e (Own l) x n
  own_edge n r l h o =
      let u = cover.own n r l h (elim o [ inl w ↦ sym w.0 | inr w ↦ w.0 ]) in
      (u.0, u.1)

  glob_edge : (n : Node) (r : Ref) (a : ℕ) (t : Defined) → f.acquires t ≡ true → Live f n r → Overlap (record { root = Global a t; path = [] }) r.place → (x : Label) × e (Glob t) x n
  glob_edge n r a t g h o =
      let u = cover.glob n r a t h (elim o [ inl w ↦ sym w.0 | inr w ↦ w.0 ]) g in
      (u.0, u.1)

  same_local : (m l : ℕ) → Local f.number l ≡ Local f.number m → Own m ≡ Own l
  same_local m l h = cc

  same_struct : (a b : ℕ) (t s : Defined) → Global a t ≡ Global b s → Glob s ≡ Glob t
  same_struct a b t s h = cc

  pub row_borrow_mutable : (l : ℕ) → Pushed f refs k (record { mutable = true; place = record { root = Local f.number l; path = [] } })
      → ((x : Label) (c : Node) → e (Own l) x c → ⊥)
      → Covers (with_refs f refs) (after_borrow (Own l) k e)
  row_borrow_mutable l pushed need =
      covers_put f e (after_borrow (Own l) k e) refs k (record { mutable = true; place = record { root = Local f.number l; path = [] } }) pushed
      (λ p x n d w g. inl g)
      (λ m h. (Exact [], inr (same_local m l h, refl, refl), refl))
      (λ a t h g. cc)
      (λ n r d h g o a. let u = own_edge n r l h o in absurd (need u.0 n u.1))
      (FromOwn l refl) cover

  pub row_borrow_immutable : (l : ℕ) → Pushed f refs k (record { mutable = false; place = record { root = Local f.number l; path = [] } })
      → ((x : Label) (c : Node) → e (Own l) x c → kind c ≡ true → ⊥)
      → Covers (with_refs f refs) (after_borrow (Own l) k e)
  row_borrow_immutable l pushed need =
      covers_put f e (after_borrow (Own l) k e) refs k (record { mutable = false; place = record { root = Local f.number l; path = [] } }) pushed
      (λ p x n d w g. inl g)
      (λ m h. (Exact [], inr (same_local m l h, refl, refl), refl))
      (λ a t h g. cc)
      (λ n r d h g o a. elim a [
        | inl b ↦ absurd (both_ways _ refl b)
        | inr b ↦ let u = own_edge n r l h o in absurd (need u.0 n u.1 (typed n r h ∙ b))
      ])
      (FromOwn l refl) cover

  pub row_borrow_global_mutable : (a : ℕ) (t : Defined) → f.acquires t ≡ true → Pushed f refs k (record { mutable = true; place = record { root = Global a t; path = [] } })
      → ((x : Label) (c : Node) → e (Glob t) x c → ⊥)
      → Covers (with_refs f refs) (after_borrow (Glob t) k e)
  row_borrow_global_mutable a t acq pushed need =
      covers_put f e (after_borrow (Glob t) k e) refs k (record { mutable = true; place = record { root = Global a t; path = [] } }) pushed
      (λ p x n d w g. inl g)
      (λ l h. cc)
      (λ b s h g. (Exact [], inr (same_struct a b t s h, refl, refl), refl))
      (λ n r d h g o u. let w = glob_edge n r a t acq h o in absurd (need w.0 n w.1))
      (FromStore a t refl acq) cover

  pub row_borrow_global_immutable : (a : ℕ) (t : Defined) → f.acquires t ≡ true → Pushed f refs k (record { mutable = false; place = record { root = Global a t; path = [] } })
      → ((x : Label) (c : Node) → e (Glob t) x c → kind c ≡ true → ⊥)
      → Covers (with_refs f refs) (after_borrow (Glob t) k e)
  row_borrow_global_immutable a t acq pushed need =
      covers_put f e (after_borrow (Glob t) k e) refs k (record { mutable = false; place = record { root = Global a t; path = [] } }) pushed
      (λ p x n d w g. inl g)
      (λ l h. cc)
      (λ b s h g. (Exact [], inr (same_struct a b t s h, refl, refl), refl))
      (λ n r d h g o u. elim u [
        | inl b ↦ absurd (both_ways _ refl b)
        | inr b ↦ let w = glob_edge n r a t acq h o in absurd (need w.0 n w.1 (typed n r h ∙ b))
      ])
      (FromStore a t refl acq) cover

-- references that stay, or go: ReadRef, WriteRef, Pop and MoveTo, where `gone` is the place of the operand
label_below_self : (x : Label) → LabelBelow x x
label_below_self (Exact l) = refl
label_below_self (Open l) = begins_self l

module _ (f : Frame) (e : Edges) (refs : Node → Option Ref) (cover : Covers f e) where
  pub row_drop : (k : ℕ) → ((n : Node) (r : Ref) → refs n ≡ Some r → (n ≡ Temp k → ⊥) × Live f n r) → Covers (with_refs f refs) (apart_from k e)
  row_drop k stays =
      covers_pull f e (apart_from k e) refs (λ m n. (m ≡ n) × (n ≡ Temp k → ⊥))
      (λ n r h. (n, (refl, (stays n r h).0), (stays n r h).1))
      (λ n m a b u v d w. d (sym u.0 ∙ w ∙ v.0))
      (λ l x n m u g. (x, label_below_self x, ((λ z. cc), u.1, rw u.0 at g)))
      (λ t x n m u g. (x, label_below_self x, ((λ z. cc), u.1, rw u.0 at g)))
      (λ n m a b x d u v g. (x, label_below_self x, (u.1, v.1, rw (u.0, v.0) at g)))
      cover

  -- nothing goes and nothing comes; the edges rise in their order, as at a branch
  pub row_rise : (e' : Edges) → ((n : Node) (r : Ref) → refs n ≡ Some r → Live f n r)
      → ((p : Node) (x : Label) (c : Node) → e p x c → (y : Label) × LabelBelow x y × e' p y c)
      → Covers (with_refs f refs) e'
  row_rise e' stays above =
      covers_pull f e e' refs (λ m n. m ≡ n) (λ n r h. (n, refl, stays n r h)) (λ n m a b u v d w. d (sym u ∙ w ∙ v))
      (λ l x n m u g. above (Own l) x n (rw u at g))
      (λ t x n m u g. above (Glob t) x n (rw u at g))
      (λ n m a b x d u v g. above n x m (rw (u, v) at g))
      cover

  -- the reference at one node now stands at another, as in MoveLoc and StLoc of a reference; what stood there is gone
  pub row_rename : (from to : Node) → ((l : ℕ) → (Own l ≡ from → ⊥) × (Own l ≡ to → ⊥)) → ((t : Defined) → (Glob t ≡ from → ⊥) × (Glob t ≡ to → ⊥))
      → (e' : Edges)
      → ((n : Node) (r : Ref) → refs n ≡ Some r → ((n ≡ to) × Live f from r) ⊎ ((n ≡ to → ⊥) × (n ≡ from → ⊥) × Live f n r))
      → ((p : Node) (x : Label) (c : Node) → (p ≡ to → ⊥) → (p ≡ from → ⊥) → (c ≡ to → ⊥) → (c ≡ from → ⊥) → e p x c → e' p x c)
      → ((p : Node) (x : Label) → (p ≡ to → ⊥) → (p ≡ from → ⊥) → e p x from → e' p x to)
      → ((c : Node) (x : Label) → (c ≡ to → ⊥) → (c ≡ from → ⊥) → e from x c → e' to x c)
      → Covers (with_refs f refs) e'
  row_rename from to not_own not_glob e' moved keep into out_of =
      covers_pull f e e' refs came live apart from_own from_glob between cover
    where
      came : Node → Node → Type 0
      came m n = ((n ≡ to) × (m ≡ from)) ⊎ ((m ≡ n) × (n ≡ to → ⊥) × (n ≡ from → ⊥))

      live_at : (n : Node) (r : Ref) → ((n ≡ to) × Live f from r) ⊎ ((n ≡ to → ⊥) × (n ≡ from → ⊥) × Live f n r) → (m : Node) × came m n × Live f m r
      live_at n r (inl (h, k)) = (from, inl (h, refl), k)
      live_at n r (inr (h, k, g)) = (n, inr (refl, h, k), g)

      live : (n : Node) (r : Ref) → refs n ≡ Some r → (m : Node) × came m n × Live f m r
      live n r h = live_at n r (moved n r h)

      apart : (n m a b : Node) → came a n → came b m → (n ≡ m → ⊥) → a ≡ b → ⊥
      apart n m a b (inl (h, k)) (inl (s, t)) d w = d (h ∙ sym s)
      apart n m a b (inl (h, k)) (inr (s, t, u)) d w = u (sym s ∙ sym w ∙ k)
      apart n m a b (inr (h, k, g)) (inl (s, t)) d w = g (sym h ∙ w ∙ t)
      apart n m a b (inr (h, k, g)) (inr (s, t, u)) d w = d (sym h ∙ w ∙ s)

      root_to : (p : Node) → (p ≡ to → ⊥) → (p ≡ from → ⊥) → (x : Label) (n m : Node) → came m n → e p x m → (y : Label) × LabelBelow x y × e' p y n
      root_to p d w x n m (inl (h, k)) g = (x, label_below_self x, rw h (into p x d w (rw k at g)))
      root_to p d w x n m (inr (h, k, s)) g = (x, label_below_self x, keep p x n d w k s (rw h at g))

      from_own : (l : ℕ) (x : Label) (n m : Node) → came m n → e (Own l) x m → (y : Label) × LabelBelow x y × e' (Own l) y n
      from_own l = root_to (Own l) (not_own l).1 (not_own l).0

      from_glob : (t : Defined) (x : Label) (n m : Node) → came m n → e (Glob t) x m → (y : Label) × LabelBelow x y × e' (Glob t) y n
      from_glob t = root_to (Glob t) (not_glob t).1 (not_glob t).0

      between : (n m a b : Node) (x : Label) → (n ≡ m → ⊥) → came a n → came b m → e a x b → (y : Label) × LabelBelow x y × e' n y m
      between n m a b x d (inl (h, k)) (inl (s, t)) g = absurd (d (h ∙ sym s))
      between n m a b x d (inl (h, k)) (inr (s, t, u)) g = (x, label_below_self x, rw h (out_of m x t u (rw (k, s) at g)))
      between n m a b x d (inr (h, k, w)) (inl (s, t)) g = (x, label_below_self x, rw s (into n x k w (rw (h, t) at g)))
      between n m a b x d (inr (h, k, w)) (inr (s, t, u)) g = (x, label_below_self x, keep n x m k w t u (rw (h, s) at g))
