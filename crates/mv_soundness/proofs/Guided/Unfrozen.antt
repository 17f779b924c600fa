-- What live references lead to, where a local is emptied or overwritten and where a value is stored: nothing there is frozen.
use Rattle.mv_soundness.proofs.Guided.Common.{◌≡◌, ℕ, zero, suc, List, [], ◌∷◌, ◌++◌, true, false, refl, sym, ◌∙◌, ap, subst, Bool, Option, Some, None, reverse, ◌⊎◌, inl, inr, cond}
use Rattle.mv_soundness.proofs.Guided.Common.{take, and_parts, eq-eqb, eqb-true, reverse_onto, same_Some, none-some, cons_option, ◌==◌, flat_map, local_type, Own, Key, Token, Plain}
use Rattle.mv_soundness.proofs.Guided.Common.{reference_of, references, local_references, frame_references, live, is_frozen_by, State, stored_at, root_value, local_place, Here}
use Rattle.mv_soundness.proofs.Guided.Common.{with_stack, Value, Root, Local, Stored, Reference, no_edge_out, Edge, Types, Point, InRefs, Fits, token_kind, operand_kind, Stood, Sound}
use Rattle.mv_soundness.proofs.Guided.Common.{root_of, alone, Rooted}
use Rattle.mv_machine.specs.{State.local_value, State.local_in, Live.same_root}
use Rattle.mv_certificate_rules.specs.BorrowRules.{move_edges, store_edges}
use Rattle.mv_soundness.proofs.{Borrows.Edges.then-some, Guided.Working.worked, Guided.Avoids.in-left, Guided.Avoids.in-right}
use Rattle.mv_soundness.proofs.Borrows.Free.{in-either, in-cons, none-frozen, local-free}
use Rattle.mv_storage.proofs.Keys.{same_key-to}

-- a root that is this local
pub local-root : (root : Root) (n l : ℕ) → same_root root (Local n l) ≡ true → root ≡ Local n l
local-root (Local m k) n l h = let t = and_parts (m == n) (k == l) h in ap (λ (x : ℕ). Local x k) (eqb-true m n t.0) ∙ ap (λ (x : ℕ). Local n x) (eqb-true k l t.1)
local-root (Stored key) n l h = absurd cc

-- a root that is this key
stored-root : (root : Root) (key : Key) → same_root root (Stored key) ≡ true → root ≡ Stored key
stored-root (Local m k) key h = absurd cc
stored-root (Stored other) key h = ap Stored (same_key-to other key h)

-- a reference of a value or of others is among theirs together
cons-more : (r : Reference) (o : Option Reference) (rs : List Reference) → (o ≡ Some r) ⊎ InRefs r rs → InRefs r (cons_option o rs)
cons-more r None rs (inl e) = absurd cc
cons-more r None rs (inr i) = i
cons-more r (Some q) rs (inl e) = inl (sym (same_Some q r e))
cons-more r (Some q) rs (inr i) = inr i

-- fewer operands hold fewer references
pub fewer-live : (s : State) (v : Value) (below : List Value) (r : Reference) → s.top.stack ≡ v ∷ below → InRefs r (live (with_stack s below)) → InRefs r (live s)
fewer-live s v below r e i =
    elim (in-either r (local_references s.top.locals ++ references below) (flat_map frame_references s.below) i) [
      | inl t ↦ in-left r (frame_references s.top) (flat_map frame_references s.below) (elim (in-either r (local_references s.top.locals) (references below) t) [
        | inl u ↦ in-left r (local_references s.top.locals) (references s.top.stack) u
        | inr u ↦ let more = cons-more r (reference_of v) (references below) (inr u) in
            in-right r (local_references s.top.locals) (references s.top.stack) (subst (λ (x : List Value). InRefs r (references x)) (sym e) more)
      ])
      | inr t ↦ in-right r (frame_references s.top) (flat_map frame_references s.below) t
    ]

-- ---- references among operands that are taken

apart-refs : (r : Reference) (vs ws : List Value) → InRefs r (references (vs ++ ws)) → InRefs r (references vs) ⊎ InRefs r (references ws)
apart-refs r [] ws i = inr i
apart-refs r (v ∷ vs) ws i =
    elim (in-cons r (reference_of v) (references (vs ++ ws)) i) [
      | inl e ↦ inl (cons-more r (reference_of v) (references vs) (inl e))
      | inr t ↦ elim (apart-refs r vs ws t) [ inl u ↦ inl (cons-more r (reference_of v) (references vs) (inr u)) | inr u ↦ inr u ]
    ]

from-reverse : (r : Reference) (vs : List Value) → InRefs r (references (reverse vs)) → InRefs r (references vs)
from-reverse r [] i = i
from-reverse r (v ∷ vs) i =
    cons-more r (reference_of v) (references vs) (elim (apart-refs r (reverse vs) (v ∷ []) (subst (λ (z : List Value). InRefs r (references z)) (reverse_onto vs v []) i)) [
      | inl t ↦ inr (from-reverse r vs t)
      | inr t ↦ elim (in-cons r (reference_of v) [] t) [ inl e ↦ inl e | inr u ↦ absurd u ]
    ])

from-take : (r : Reference) (n : ℕ) (vs : List Value) → InRefs r (references (take n vs)) → InRefs r (references vs)
from-take r zero vs i = absurd i
from-take r (suc n) [] i = i
from-take r (suc n) (v ∷ vs) i =
    cons-more r (reference_of v) (references vs) (elim (in-cons r (reference_of v) (references (take n vs)) i) [ inl e ↦ inl e | inr t ↦ inr (from-take r n vs t) ])

pub from-taken : (r : Reference) (n : ℕ) (vs : List Value) → InRefs r (references (reverse (take n vs))) → InRefs r (references vs)
from-taken r n vs i = from-take r n vs (from-reverse r (take n vs) i)

-- a live reference leads into what is stored, so where nothing is stored nothing is frozen
pub nothing-frozen : (s : State) → Rooted s → (key : Key) → stored_at s.storage key ≡ None → is_frozen_by (live s) (record { root = Stored key; path = [] }) ≡ false
nothing-frozen s rooted key none =
    none-frozen (live s) (record { root = Stored key; path = [] }) (λ r i im o.
    let e = stored-root r.place.root key (and_parts (same_root r.place.root (Stored key)) _ o).0 in
    let v = rooted r i in
    let there : stored_at s.storage key ≡ Some v.0 = subst (λ (z : Root). root_value s z ≡ Some v.0) e v.1 in
    none-some v.0 (sym none ∙ there))

-- a local of no reference's type that is emptied or overwritten has no edge out
pub moved-free : (p : Point) (l : ℕ) (t : Token) (edges es : List Edge) → move_edges p l t edges ≡ Some es → token_kind t ≡ None → no_edge_out (Own l) edges ≡ true
moved-free p l (Plain t) edges es e k = (then-some (no_edge_out (Own l) edges) edges es e).0
moved-free p l t edges es e k = absurd cc

pub stored-free : (p : Point) (l : ℕ) (t : Token) (edges es : List Edge) → store_edges p l t edges ≡ Some es → token_kind t ≡ None → no_edge_out (Own l) edges ≡ true
stored-free p l (Plain t) edges es e k = (then-some (no_edge_out (Own l) edges) edges es e).0
stored-free p l t edges es e k = absurd cc

module _ (depends : ℕ → ℕ → Type 0) (through : (a b c : ℕ) → depends a b → depends b c → depends a c) (no_cycle : (a : ℕ) → depends a a → ⊥)
    (h : Here) (types : Types) (edges : List Edge) (xs : List Stood) (sound : Sound depends h.state (worked h.state h.home h.function types edges) xs)
    (fits : Fits (record { home = h.home; function = h.function; types = types }) (alone h.state.top)) (rooted : Rooted h.state)
  where
    -- a reference into a local of the frame at work leads to a local that is no reference
    plain-local : (r : Reference) (l : ℕ) → InRefs r (live h.state) → r.place.root ≡ Local h.state.top.number l → (t : Token) × (local_type h.home h.function l ≡ Some t) × (token_kind t ≡ None)
    plain-local r l i e =
        let v = rooted r i in
        let there : root_value h.state (Local h.state.top.number l) ≡ Some v.0 = subst (λ (z : Root). root_value h.state z ≡ Some v.0) e v.1 in
        let here : local_value h.state.top l ≡ Some v.0 =
        sym (ap (λ (b : Bool). cond b (local_value h.state.top l) (local_in h.state.below h.state.top.number l)) (eq-eqb h.state.top.number h.state.top.number refl)) ∙ there in
        let t = fits.locals l v.0 here in
        (t.0, t.1, t.2 ∙ ap operand_kind v.2)

    -- so a local that is emptied or overwritten is not frozen
    pub local-not-frozen : (l : ℕ) (t : Token) → local_type h.home h.function l ≡ Some t → (token_kind t ≡ None → no_edge_out (Own l) edges ≡ true)
        → (rs : List Reference) → ((r : Reference) → InRefs r rs → InRefs r (live h.state)) → is_frozen_by rs (local_place h l) ≡ false
    local-not-frozen l t is free rs among =
        none-frozen rs (local_place h l) (λ r i im o.
        let e = local-root r.place.root h.state.top.number l (and_parts (same_root r.place.root (Local h.state.top.number l)) _ o).0 in
        let q = plain-local r l (among r i) e in
        local-free depends through no_cycle h.state (worked h.state h.home h.function types edges) xs sound.stood sound.chain l
        (free (ap token_kind (same_Some t q.0 (sym is ∙ q.1)) ∙ q.2)) r (among r i) (ap root_of e))
