-- Each rule on lists of edges includes what the borrow theory's row leaves.
use Rattle.mv_soundness.proofs.Borrows.Common.{refl, sym, ◌≡◌, ℕ, List, [], ◌∷◌, true, false, inl, inr, ap, ◌++◌, Bool, not, ◌∙◌, filter, Node, Slot, Temp, TheNode, TheLabel, Edge}
use Rattle.mv_soundness.proofs.Borrows.Common.{same_node, without, inherited, Label, here, renamed, an_edge, extended, node_of, Member, edges_of, label_from, label_of}
use Rattle.std.proofs.Common.{◌&&◌}
use Rattle.mv_edges.specs.Edges.{into, renamed_node}
use Rattle.mv_borrow_graph.proofs.Abstract.Terms.Places.{extend}
use Rattle.mv_borrow_graph.proofs.Abstract.Terms.Rows.{after_copy, after_copy_mutable, apart_from, after_field, after_freeze, after_borrow, after_move, after_store, Renamed}
use Rattle.mv_soundness.proofs.Borrows.Edges.{node_of-inj, node-is, node-not, member_left, member_right, member_map, member_filter, Included}

pub inherited_in : (change : Label → Label) (old new : Node) (e : Edge) (es : List Edge) → Member e es → e.to ≡ old
    → Member (record { from = e.from; label = change e.label; to = new }) (inherited change old new es)
inherited_in change old new e es m h =
    member_map (λ (d : Edge). record { from = d.from; label = change d.label; to = new }) e (into old es) (member_filter (λ d. same_node d.to old) e es (node-is e.to old h) m)

pub included_left : (w : ℕ) (xs ys : List Edge) → Included (edges_of w xs) (edges_of w (xs ++ ys))
included_left w xs ys p x c (e, m, a, b, d) = (e, member_left e xs ys m, a, b, d)

pub included_right : (w : ℕ) (xs ys : List Edge) → Included (edges_of w ys) (edges_of w (xs ++ ys))
included_right w xs ys p x c (e, m, a, b, d) = (e, member_right e xs ys m, a, b, d)

pub copy_in : (w l k : ℕ) (es : List Edge) → Included (after_copy l k (edges_of w es)) (edges_of w (es ++ inherited (λ label. label) (Slot l) (Temp k) es))
copy_in w l k es p x c (inl h) = included_left w es (inherited (λ label. label) (Slot l) (Temp k) es) p x c h
copy_in w l k es p x c (inr (d, (e, m, from, on, to))) =
    included_right w es (inherited (λ label. label) (Slot l) (Temp k) es) p x c
    (record { from = e.from; label = e.label; to = Temp k }, inherited_in (λ label. label) (Slot l) (Temp k) e es m (node_of-inj w e.to (Slot l) (sym to)), from, on, d)

pub copy_mutable_in : (w l k : ℕ) (es : List Edge)
    → Included (after_copy_mutable l k (edges_of w es)) (edges_of w (es ++ inherited (λ label. label) (Slot l) (Temp k) es ++ an_edge (Slot l) here (Temp k) ∷ []))
copy_mutable_in w l k es p x c (inl h) =
    included_left w (es ++ inherited (λ label. label) (Slot l) (Temp k) es) (an_edge (Slot l) here (Temp k) ∷ []) p x c (copy_in w l k es p x c h)
copy_mutable_in w l k es p x c (inr (a, b, d)) =
    included_right w (es ++ inherited (λ label. label) (Slot l) (Temp k) es) (an_edge (Slot l) here (Temp k) ∷ []) p x c
    (an_edge (Slot l) here (Temp k), inl refl, a, b, d)

pub borrow_in : (w k : ℕ) (root : Node) (es : List Edge) → Included (after_borrow (node_of w root) k (edges_of w es)) (edges_of w (es ++ an_edge root here (Temp k) ∷ []))
borrow_in w k root es p x c (inl h) = included_left w es (an_edge root here (Temp k) ∷ []) p x c h
borrow_in w k root es p x c (inr (a, b, d)) =
    included_right w es (an_edge root here (Temp k) ∷ []) p x c (an_edge root here (Temp k), inl refl, a, b, d)

-- an edge with neither end there
pub away : (a b : Bool) → a ≡ false → b ≡ false → (not a && not b) ≡ true
away a b h k = rw (h, k)

pub without_in : (w : ℕ) (n : Node) (es : List Edge) (p : TheNode) (x : TheLabel) (c : TheNode)
    → (p ≡ node_of w n → ⊥) → (c ≡ node_of w n → ⊥) → edges_of w es p x c → edges_of w (without n es) p x c
without_in w n es p x c d g (e, m, from, on, to) = (
  e,
  member_filter (λ e. not (same_node e.from n) && not (same_node e.to n)) e es
      (away (same_node e.from n) (same_node e.to n) (node-not e.from n (λ z. d (from ∙ ap (node_of w) z))) (node-not e.to n (λ z. g (to ∙ ap (node_of w) z)))) m,
  from,
  on,
  to,
)

pub drop_in : (w k : ℕ) (es : List Edge) → Included (apart_from k (edges_of w es)) (edges_of w (without (Temp k) es))
drop_in w k es p x c (d, g, h) = without_in w (Temp k) es p x c d g h

extend-label : (f : ℕ) (b : Bool) (path : List ℕ) → extend f (label_from b path) ≡ label_of (extended f (record { path = path; is_open = b }))
extend-label f true path = refl
extend-label f false path = refl

pub field_in : (w f k : ℕ) (es : List Edge) → Included (after_field f k (edges_of w es)) (edges_of w (without (Temp k) es ++ inherited (extended f) (Temp k) (Temp k) es))
field_in w f k es p x c (inl h) = included_left w (without (Temp k) es) (inherited (extended f) (Temp k) (Temp k) es) p x c (drop_in w k es p x c h)
field_in w f k es p x c (inr (d, g, y, (e, m, from, on, to), ext)) =
    included_right w (without (Temp k) es) (inherited (extended f) (Temp k) (Temp k) es) p x c (
      record { from = e.from; label = extended f e.label; to = Temp k },
      inherited_in (extended f) (Temp k) (Temp k) e es m (node_of-inj w e.to (Temp k) (sym to)),
      from,
      ext ∙ ap (extend f) on ∙ extend-label f e.label.is_open e.label.path,
      d,
    )

pub freeze_in : (w k : ℕ) (es : List Edge) → Included (after_freeze k (edges_of w es)) (edges_of w (filter (λ e. not (same_node e.from (Temp k))) es))
freeze_in w k es p x c (d, (e, m, from, on, to)) =
    (e, member_filter (λ e. not (same_node e.from (Temp k))) e es (ap not (node-not e.from (Temp k) (λ z. d (from ∙ ap (node_of w) z)))) m, from, on, to)

renamed_is : (w : ℕ) (old new n : Node) (p : TheNode) → Renamed (node_of w old) (node_of w new) (node_of w n) p → p ≡ node_of w (renamed_node old new n)
renamed_is w old new n p (inl (h, g)) = rw (node-is n old (node_of-inj w n old h)) g
renamed_is w old new n p (inr (h, g)) = rw (node-not n old (λ z. h (ap (node_of w) z))) g

pub rename_in : (w : ℕ) (old new : Node) (es : List Edge) (p q d c : TheNode) (x : TheLabel)
    → Renamed (node_of w old) (node_of w new) q p → Renamed (node_of w old) (node_of w new) d c → edges_of w es q x d → edges_of w (renamed old new es) p x c
rename_in w old new es p q d c x rp rc (e, m, from, on, to) = (
  record { from = renamed_node old new e.from; label = e.label; to = renamed_node old new e.to },
  member_map (λ (e : Edge). record { from = renamed_node old new e.from; label = e.label; to = renamed_node old new e.to }) e es m,
  renamed_is w old new e.from p (rw from at rp),
  on,
  renamed_is w old new e.to c (rw to at rc),
)

pub move_in : (w l k : ℕ) (es : List Edge) → Included (after_move l k (edges_of w es)) (edges_of w (renamed (Slot l) (Temp k) es))
move_in w l k es p x c (q, d, rp, rc, h) = rename_in w (Slot l) (Temp k) es p q d c x rp rc h

pub store_in : (w l k : ℕ) (es : List Edge) → Included (after_store l k (edges_of w es)) (edges_of w (renamed (Temp k) (Slot l) (without (Slot l) es)))
store_in w l k es p x c (q, d, rp, rc, (a, b, h)) =
    rename_in w (Temp k) (Slot l) (without (Slot l) es) p q d c x rp rc (without_in w (Slot l) es q x d a b h)
