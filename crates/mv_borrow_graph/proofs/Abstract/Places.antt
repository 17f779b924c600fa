-- Facts of places and labels: what a label names, and when places overlap.
use Rattle.std.proofs.Common.{◌≡◌, ℕ, List, [], ◌∷◌, ◌++◌, ◌⊎◌, inl, inr, refl, sym, ◌∙◌, ap, subst, append_assoc}
use Rattle.std.proofs.lemmas.List.{append-nil}
use Rattle.mv_borrow_graph.proofs.Abstract.Terms.Places.{Place, Begins, Below, Overlap, Label, Exact, Open, steps, Reach, Matches, LabelBelow, extend, opened, AgreesWith, Agrees, field_of}

pub begins_self : (a : List ℕ) → Begins a a
begins_self a = ([], sym (append-nil a))

pub begins_trans : (a b c : List ℕ) → Begins a b → Begins b c → Begins a c
begins_trans a b c (s, e) (t, h) = (s ++ t, h ∙ ap (λ l. l ++ t) e ∙ append_assoc a s t)

same_tail : (x y : ℕ) (a b : List ℕ) → ◌≡◌ {A = List ℕ} (x ∷ a) (y ∷ b) → a ≡ b
same_tail x y a b e = cc

same_head : (x y : ℕ) (a b : List ℕ) → ◌≡◌ {A = List ℕ} (x ∷ a) (y ∷ b) → x ≡ y
same_head x y a b e = cc

pub begins_cons : (x y : ℕ) (a b : List ℕ) → Begins (x ∷ a) (y ∷ b) → (y ≡ x) × Begins a b
begins_cons x y a b (s, e) = (same_head y x b (a ++ s) e, (s, same_tail y x b (a ++ s) e))

pub begins_cancel : (p a b : List ℕ) → Begins (p ++ a) (p ++ b) → Begins a b
begins_cancel [] a b h = h
begins_cancel (x ∷ p) a b h = begins_cancel p a b (begins_cons x x (p ++ a) (p ++ b) h).1

-- two beginnings of one list are comparable
pub begins_compare : (a b c : List ℕ) → Begins a c → Begins b c → Begins a b ⊎ Begins b a
begins_compare [] b c h k = inl (b, refl)
begins_compare (x ∷ a) [] c h k = inr (x ∷ a, refl)
begins_compare (x ∷ a) (y ∷ b) [] (s, e) k = cc
begins_compare (x ∷ a) (y ∷ b) (z ∷ c) h k =
    let p : (z ≡ x) × Begins a c = begins_cons x z a c h in
    let q : (z ≡ y) × Begins b c = begins_cons y z b c k in
    elim (begins_compare a b c p.1 q.1) [
      | inl u ↦ inl (u.0, cc)
      | inr u ↦ inr (u.0, cc)
    ]

pub below_self : (p : Place) → Below p p
below_self p = (refl, begins_self p.path)

pub below_trans : (a b c : Place) → Below a b → Below b c → Below a c
below_trans a b c h k = (h.0 ∙ k.0, begins_trans c.path b.path a.path k.1 h.1)

pub overlap_sym : (a b : Place) → Overlap a b → Overlap b a
overlap_sym a b (inl h) = inr h
overlap_sym a b (inr h) = inl h

-- the fourth fact: what overlaps a place at or below another overlaps that other
pub overlap_above : (a q b : Place) → Below a q → Overlap a b → Overlap q b
overlap_above a q b h (inl k) =
    elim (begins_compare q.path b.path a.path h.1 k.1) [
      | inl u ↦ inr (sym k.0 ∙ h.0, u)
      | inr u ↦ inl (sym h.0 ∙ k.0, u)
    ]
overlap_above a q b h (inr k) = inr (below_trans b a q k h)

steps_reach : (x : Label) (s : List ℕ) → Reach x s → Begins (steps x) s
steps_reach (Exact l) s e = ([], e ∙ sym (append-nil l))
steps_reach (Open l) s h = h

pub reach_above : (x y : Label) (s : List ℕ) → LabelBelow x y → Reach x s → Reach y s
reach_above x (Exact l) s e r = subst (λ z. Reach z s) e r
reach_above x (Open l) s h r = begins_trans l (steps x) s h (steps_reach x s r)

-- the first fact
pub matches_above : (x y : Label) (p c : Place) → LabelBelow x y → Matches x p c → Matches y p c
matches_above x y p c h (e, s, d, r) = (e, s, d, reach_above x y s h r)

pub reach_extend : (x : Label) (f : ℕ) (s : List ℕ) → Reach x s → Reach (extend f x) (s ++ f ∷ [])
reach_extend (Exact l) f s e = ap (λ m. m ++ f ∷ []) e
reach_extend (Open l) f s h = begins_trans l s (s ++ f ∷ []) h (f ∷ [], refl)

pub reach_opened : (x : Label) (s t : List ℕ) → Reach x s → Reach (opened x) (s ++ t)
reach_opened x s t r = begins_trans (steps x) s (s ++ t) (steps_reach x s r) (t, refl)

pub matches_opened : (x : Label) (p c b : Place) → Matches x p c → Below b c → Matches (opened x) p b
matches_opened x p c b (e, s, d, r) (h, (t, k)) =
    (e ∙ sym h, s ++ t, k ∙ ap (λ l. l ++ t) d ∙ append_assoc p.path s t, reach_opened x s t r)

apart_at : (l s p : List ℕ) (f : ℕ) → (AgreesWith l f → ⊥) → Begins l s → (Begins (p ++ f ∷ []) (p ++ s) ⊎ Begins (p ++ s) (p ++ f ∷ [])) → ⊥
apart_at [] s p f differs h o = differs tt
apart_at (g ∷ l) [] p f differs (t, e) o = cc
apart_at (g ∷ l) (z ∷ s) p f differs h (inl o) =
    differs (sym (begins_cons g z l s h).0 ∙ (begins_cons f z [] s (begins_cancel p (f ∷ []) (z ∷ s) o)).0)
apart_at (g ∷ l) (z ∷ s) p f differs h (inr o) =
    differs (sym (begins_cons g z l s h).0 ∙ sym (begins_cons z f s [] (begins_cancel p (z ∷ s) (f ∷ []) o)).0)

-- the third fact
pub matches_apart : (x : Label) (f : ℕ) (p c : Place) → Matches x p c → (Agrees x f → ⊥) → Overlap c (field_of p f) → ⊥
matches_apart x f p c (e, s, d, r) differs (inl o) = apart_at (steps x) s p.path f differs (steps_reach x s r) (inl (rw d at o.1))
matches_apart x f p c (e, s, d, r) differs (inr o) = apart_at (steps x) s p.path f differs (steps_reach x s r) (inr (rw d at o.1))
