-- What a certificate that holds says at an instruction and after it.
use Rattle.mv_soundness.proofs.Borrows.Common.{refl, sym, ◌≡◌, ℕ, List, [], ◌∷◌, true, false, inl, inr, ap, subst, ◌++◌, Option, Some, Bool, ◌∙◌, ap₂, and_parts, or_cases, same_Some}
use Rattle.mv_soundness.proofs.Borrows.Common.{beq, list_any, list_all, ◌&&◌, Module, FunctionDefinition, begins, Availability, Instruction, begins-more, EdgesBelow, LabelBelow, Edge}
use Rattle.mv_soundness.proofs.Borrows.Common.{same_node, Label, Types, node_of, Member, edges_of, label_from, label_of, on_bind}
use Rattle.mv_soundness.proofs.{Typing.Callees.on_found, Borrows.Kept.label-self, Typing.Tests.beq-is}
use Rattle.std.specs.Str.{bytes_eq}
use Rattle.std.proofs.lemmas.Slice.Eq.{bytes_eq-Decides}
use Rattle.mv_cfg.specs.Blocks.{BasicBlock as Block}
use Rattle.mv_type_rules.specs.TypeRules.{types_after}
use Rattle.mv_edges.specs.Edges.{label_leq, edge_leq, edges_leq}
use Rattle.mv_certificate_rules.specs.Certificate.{Known, Rule, through, instructions_of, stated_at, flows_into, block_holds}
use Rattle.mv_certificate.specs.Known.{known_after}
use Rattle.mv_certificate_rules.specs.LocalsRules.{locals_after}
use Rattle.mv_certificate_rules.specs.BorrowRules.{edges_after}
use Rattle.mv_borrow_graph.proofs.{Abstract.Terms.Places.Begins}
use Rattle.mv_borrow_graph.specs.Laws.There.{same_node-is}

-- ---- the order

label-below-from : (b : Bool) (p q : List ℕ) → Begins q p → LabelBelow (label_from b p) (label_from true q)
label-below-from true p q h = h
label-below-from false p q h = h

pub label-below : (a b : Label) → label_leq a b ≡ true → LabelBelow (label_of a) (label_of b)
label-below a b h =
    elim (or_cases (bytes_eq a.path b.path && beq a.is_open b.is_open) (b.is_open && begins b.path a.path) h) [
      | inl t ↦
          let u = and_parts (bytes_eq a.path b.path) (beq a.is_open b.is_open) t in
          subst (λ z. LabelBelow (label_of a) z) (ap₂ label_from (beq-is a.is_open b.is_open u.1) ((bytes_eq-Decides a.path b.path).0 u.0)) (label-self (label_of a))
      | inr t ↦
          let u = and_parts b.is_open (begins b.path a.path) t in
          subst (λ z. LabelBelow (label_of a) (label_from z b.path)) (sym u.0) (label-below-from a.is_open a.path b.path (begins-more b.path a.path u.1))
    ]

all-of : (test : Edge → Bool) (es : List Edge) (e : Edge) → list_all test es ≡ true → Member e es → test e ≡ true
all-of test [] e h m = absurd m
all-of test (x ∷ es) e h (inl m) = ap test m ∙ (and_parts (test x) (list_all test es) h).0
all-of test (x ∷ es) e h (inr m) = all-of test es e (and_parts (test x) (list_all test es) h).1 m

one-of : (test : Edge → Bool) (es : List Edge) → list_any test es ≡ true → (e : Edge) × Member e es × (test e ≡ true)
one-of test [] h = absurd cc
one-of test (x ∷ es) h =
    elim (or_cases (test x) (list_any test es) h) [
      | inl t ↦ (x, inl refl, t)
      | inr t ↦ let u = one-of test es t in (u.0, inr u.1, u.2)
    ]

-- the certificate's order of edges is the theory's
pub edges-below : (w : ℕ) (as' bs : List Edge) → edges_leq as' bs ≡ true → EdgesBelow (edges_of w as') (edges_of w bs)
edges-below w as' bs h p x c (e, m, from, on, to) =
    let u = one-of (edge_leq e) bs (all-of (λ a. list_any (edge_leq a) bs) as' e h m) in
    let v = and_parts (same_node e.from u.0.from && same_node e.to u.0.to) (label_leq e.label u.0.label) u.2 in
    let n = and_parts (same_node e.from u.0.from) (same_node e.to u.0.to) v.0 in (
      label_of u.0.label,
      subst (λ z. LabelBelow z (label_of u.0.label)) (sym on) (label-below e.label u.0.label v.1),
      (u.0, u.1, from ∙ ap (node_of w) (same_node-is e.from u.0.from n.0), refl, to ∙ ap (node_of w) (same_node-is e.to u.0.to n.1)),
    )

-- ---- through a block

module _ {S : Type 0} (rule : Rule S) (m : Module) (d : FunctionDefinition) where
  -- what is known and the types at an instruction inside, that its need is met, and what is known after it
  pub record Inside (before : List Instruction) (i : Instruction) (rest : List Instruction) (at end : S × Types) : Type 0 where
    pub known : S
    pub types : Types
    pub next : S
    pub next_types : Types
    pub here : through rule m d before at ≡ Some (known, types)
    pub met : rule (record { home = m; function = d; types = types }) i known ≡ Some next
    pub typed : types_after m d i types ≡ Some next_types
    pub after : through rule m d (before ++ i ∷ []) at ≡ Some (next, next_types)
    pub onward : through rule m d rest (next, next_types) ≡ Some end

  pub inside : (before : List Instruction) (i : Instruction) (rest : List Instruction) (at end : S × Types) → through rule m d (before ++ i ∷ rest) at ≡ Some end → Inside before i rest at end
  inside [] i rest at end e =
      on_bind (rule (record { home = m; function = d; types = at.1 }) i at.0) _ end e (λ known known_is e1.
      on_bind (types_after m d i at.1) _ end e1 (λ types types_are e2.
      record {
        known = at.0;
        types = at.1;
        next = known;
        next_types = types;
        here = refl;
        met = known_is;
        typed = types_are;
        after = rw (known_is, types_are) refl;
        onward = e2;
      }))
  inside (b ∷ before) i rest at end e =
      on_bind (rule (record { home = m; function = d; types = at.1 }) b at.0) _ end e (λ known known_is e1.
      on_bind (types_after m d b at.1) _ end e1 (λ types types_are e2.
      let x = inside before i rest (known, types) end e2 in
      record {
        known = x.known;
        types = x.types;
        next = x.next;
        next_types = x.next_types;
        here = rw (known_is, types_are) x.here;
        met = x.met;
        typed = x.typed;
        after = rw (known_is, types_are) x.after;
        onward = x.onward;
      }))

  -- a reached block goes through, and what is known at its end flows into each successor
  pub record Held (leq : S → S → Bool) (stated : List (Block × Option S)) (b : Block) (known : S) : Type 0 where
    pub end : S × Types
    pub goes : through rule m d (instructions_of d b) (known, []) ≡ Some end
    pub exits : list_all (flows_into leq stated end.0) b.next ≡ true

  pub held : (leq : S → S → Bool) (stated : List (Block × Option S)) (b : Block) (known : S) → block_holds rule leq m d stated (b, Some known) ≡ true → Held leq stated b known
  held leq stated b known h =
      on_found (λ end. list_all (flows_into leq stated end.0) b.next) (through rule m d (instructions_of d b) (known, [])) h (λ end e k. record { end = end; goes = e; exits = k })

  -- where control goes on, something is stated, and what is known is below it
  pub flows : (leq : S → S → Bool) (stated : List (Block × Option S)) (known : S) (i : ℕ) → flows_into leq stated known i ≡ true → (s : S) × (stated_at stated i ≡ Some s) × (leq known s ≡ true)
  flows leq stated known i h = on_found (leq known) (stated_at stated i) h (λ s is k. (s, is, k))

-- what is known of both parts goes through where each part does
pub both-through : (m : Module) (d : FunctionDefinition) (is : List Instruction) (k : Known) (types : Types) (ls : List Availability) (es : List Edge) (ts us : Types)
    → through locals_after m d is (k.locals, types) ≡ Some (ls, ts) → through edges_after m d is (k.edges, types) ≡ Some (es, us)
    → through known_after m d is (k, types) ≡ Some (record { locals = ls; edges = es }, ts)
both-through m d [] k types ls es ts us a b =
    ap₂ (λ (x : List Availability × Types) (y : List Edge × Types). Some (record { locals = x.0; edges = y.0 }, x.1)) (same_Some (k.locals, types) (ls, ts) a) (same_Some (k.edges, types) (es, us) b)
both-through m d (i ∷ is) k types ls es ts us a b =
    on_bind (locals_after (record { home = m; function = d; types = types }) i k.locals) _ (ls, ts) a (λ l l_is a1.
    on_bind (types_after m d i types) _ (ls, ts) a1 (λ t t_is a2.
    on_bind (edges_after (record { home = m; function = d; types = types }) i k.edges) _ (es, us) b (λ e e_is b1.
    on_bind (types_after m d i types) _ (es, us) b1 (λ u u_is b2.
    rw (l_is, e_is, t_is) (both-through m d is (record { locals = l; edges = e }) t ls es ts us a2
    (subst (λ (z : Types). through edges_after m d is (e, z) ≡ Some (es, us)) (same_Some u t (sym u_is ∙ t_is)) b2))))))
