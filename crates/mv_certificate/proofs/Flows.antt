-- A flow over the graph of a function's code is closed exactly where the rule's flow holds.
use Rattle.mv_certificate.proofs.Common.{[], ℕ, ◌+◌, ◌<◌, ◌∙◌, ◌∷◌, ◌≡◌, ◌≤◌, Bool, Contains, IsTrue, List, None, Option, Some, ap, arith, eq-eqb, false, length, map, refl, slice_get, subst}
use Rattle.mv_certificate.proofs.Common.{suc, sym, true, zero, and_from, and_parts, false≢true, All-contains, none-some, same_Some, slice_get_within, list_all, option_map_or}
use Rattle.mv_certificate.proofs.Common.{FunctionDefinition, Module, BasicBlock, blocks, IsFlowGraph, basic_block_of, along, at_entry, Block, Cfg, IsClosed, IsFlow, IsStated, Types}
use Rattle.mv_certificate.proofs.Common.{function_is_typed, block_at, Rule, flow_holds, instructions_of, through}
use Rattle.std.proofs.Common.{zip, All}
use Rattle.std.proofs.lemmas.Bool.{ne_eqb}
use Rattle.std.proofs.lemmas.List.Elements.{All-contains_itself, All-cons}
use Rattle.mv_cfg.specs.FlowGraph.{first_of}
use Rattle.mv_cfg.proofs.Tiling.{Tiles, blocks-tile}
use Rattle.mv_lattice.specs.Flow.{IsClosedAt, through as carried_through}
use Rattle.mv_lattice.specs.Order.{Order}
use Rattle.mv_certificate_rules.specs.Certificate.{stated_at, flows_into, block_holds}
use Rattle.mv_borrow_graph.specs.Laws.BlockTypes.{tiles_after}
use Rattle.mv_certificate.proofs.Carried.{Alike, DoAlike, Ends, block_alike}
use Rattle.mv_certificate.proofs.Marks.{block_of}
use Rattle.mv_bound_rules.proofs.Entries.{element_at}

-- one test of each pair
pub zip_all : {A B : Type 0} (p : A × B → Bool) (xs : List A) (ys : List B) → ((k : ℕ) (x : A) (y : B) → slice_get xs k ≡ Some x → slice_get ys k ≡ Some y → p (x, y) ≡ true)
    → list_all p (zip xs ys) ≡ true
zip_all p [] ys h = refl
zip_all p (x ∷ xs) [] h = refl
zip_all p (x ∷ xs) (y ∷ ys) h = and_from (p (x, y)) (list_all p (zip xs ys)) (h 0 x y refl refl) (zip_all p xs ys (λ k a b ea eb. h (suc k) a b ea eb))

-- the test of one pair, where all pass
pub zip_at : {A B : Type 0} (p : A × B → Bool) (xs : List A) (ys : List B) (k : ℕ) (x : A) (y : B) → list_all p (zip xs ys) ≡ true → slice_get xs k ≡ Some x → slice_get ys k ≡ Some y → p (x, y) ≡ true
zip_at p [] ys k x y h ex ey = absurd (none-some x ex)
zip_at p (a ∷ xs) [] k x y h ex ey = absurd (none-some y ey)
zip_at p (a ∷ xs) (b ∷ ys) zero x y h ex ey =
    let q = and_parts (p (a, b)) (list_all p (zip xs ys)) h in
    subst (λ z. p (z, y) ≡ true) (same_Some a x ex) (subst (λ z. p (a, z) ≡ true) (same_Some b y ey) q.0)
zip_at p (a ∷ xs) (b ∷ ys) (suc k) x y h ex ey =
    let q = and_parts (p (a, b)) (list_all p (zip xs ys)) h in zip_at p xs ys k x y q.1 ex ey

-- blocks that follow one another are found by their first instructions
found-tiled : {S : Type 0} (bs : List BasicBlock) (os : List (Option S)) (at size k : ℕ) (b : BasicBlock) (o : Option S) → Tiles at bs size → slice_get bs k ≡ Some b → slice_get os k ≡ Some o
    → stated_at (zip bs os) b.first ≡ o
found-tiled [] os at size k b o t be oe = absurd (none-some b be)
found-tiled (c ∷ bs) [] at size k b o t be oe = absurd (none-some o oe)
found-tiled (c ∷ bs) (p ∷ os) at size zero b o t be oe =
    let same : c.first ≡ b.first = ap (λ (x : BasicBlock). x.first) (same_Some c b be) in
    rw (eq-eqb c.first b.first same) (same_Some p o oe)
found-tiled (c ∷ bs) (p ∷ os) at size (suc k) b o t be oe =
    let two : c.first ≤ c.last = t.1.0 in
    let after : c.last + 1 ≤ b.first = tiles_after bs (c.last + 1) size k b t.1.1 be in
    rw (ne_eqb c.first b.first (λ e. omega arith)) (found-tiled bs os (c.last + 1) size k b o t.1.1 be oe)

-- the first of them begins where they do
first-tiled : (bs : List BasicBlock) (at size : ℕ) (b : BasicBlock) → Tiles at bs size → slice_get bs 0 ≡ Some b → b.first ≡ at
first-tiled [] at size b t e = absurd (none-some b e)
first-tiled (c ∷ bs) at size b t e = ap (λ (x : BasicBlock). x.first) (sym (same_Some c b e)) ∙ t.0

-- each of a list's elements
all-from-contains : {X : Type 0} (P : X → Type 0) (xs : List X) → ((x : X) → Contains xs x → P x) → All P xs
all-from-contains P xs each = λ k d lt. each _ (All-contains_itself xs k d lt)

-- a test of each of some places
test-from-contains : (p : ℕ → Bool) (f : ℕ → ℕ) (ns : List ℕ) → ((n : ℕ) → Contains ns n → p (f n) ≡ true) → list_all p (map f ns) ≡ true
test-from-contains p f [] each = refl
test-from-contains p f (n ∷ ns) each =
    and_from (p (f n)) (list_all p (map f ns)) (each n (0, omega arith, refl))
    (test-from-contains p f ns (λ x c. each x (suc c.0, (let lt : c.0 < length ns = c.1 in omega arith), c.2)))

test-at-contains : (p : ℕ → Bool) (f : ℕ → ℕ) (ns : List ℕ) → list_all p (map f ns) ≡ true → All (λ n. p (f n) ≡ true) ns
test-at-contains p f [] h = λ k d lt. absurd (omega arith)
test-at-contains p f (n ∷ ns) h =
    let q = and_parts (p (f n)) (list_all p (map f ns)) h in All-cons (λ n. p (f n) ≡ true) n ns q.0 (test-at-contains p f ns q.1)

module _ (S : Type 0) (rule : Rule S) (leq : S → S → Bool) (o : Order S) (R : S → S → Type 0) (m : Module) (d : FunctionDefinition) (alike : DoAlike rule o.steps R m d)
    (self : (s : S) → R s s) (lower : (u e x : S) → R u e → leq u x ≡ leq e x) (into_below : (a b : S) → IsTrue (leq a b) → o.below a b) (from_below : (a b : S) → o.below a b → IsTrue (leq a b))
    (g : Cfg) (fg : IsFlowGraph d.code g) (typed : IsTrue (function_is_typed m d)) (start : S) (flow : List (Option S)) (fl : IsFlow o g flow) where
  abbrev pairs : List (BasicBlock × Option S)
  pairs = zip (blocks d.code) flow

  -- what is stated of a block of the graph
  stated-found : (k : ℕ) (u : S) → IsStated flow k u → stated_at pairs (first_of g k) ≡ Some u
  stated-found k u e =
      let size : length flow ≡ length g.blocks.items = fl.entries in
      let within : k < length flow = slice_get_within flow k (Some u) e in
      let b = element_at g.blocks.items k (omega arith) in
      ap (λ o. stated_at pairs (option_map_or (λ (x : Block). x.first) o 0)) b.1
      ∙ found-tiled (blocks d.code) flow 0 (length d.code) k (basic_block_of g b.0) (Some u) (blocks-tile d.code) (block_at d.code g k b.0 fg b.1) e

  -- block 0 begins at the first instruction
  first-found : first_of g 0 ≡ 0
  first-found =
      let b = element_at g.blocks.items 0 fg.graph.has_entry in
      ap (λ o. option_map_or (λ (x : Block). x.first) o 0) b.1
      ∙ first-tiled (blocks d.code) 0 (length d.code) (basic_block_of g b.0) (blocks-tile d.code) (block_at d.code g 0 b.0 fg b.1)

  -- what flows into a block is below what is stated of it
  into : (k : ℕ) (e u : S) → IsStated flow k u → flows_into leq pairs e (first_of g k) ≡ leq e u
  into k e u st = ap (λ o. option_map_or (leq e) o false) (stated-found k u st)

  into_first : (e u : S) → IsStated flow 0 u → flows_into leq pairs e 0 ≡ leq e u
  into_first e u st = ap (flows_into leq pairs e) (sym first-found) ∙ into 0 e u st

  -- the end of a block that carries its state
  end-holds : (next : List ℕ) (t : S) (o1 : Option S) (o2 : Option (S × Types)) → Alike (Ends R) o1 o2 → o1 ≡ Some t → ((e : S) → R t e → list_all (flows_into leq pairs e) next ≡ true)
      → option_map_or (λ end. list_all (flows_into leq pairs end.0) next) o2 false ≡ true
  end-holds next t None o2 a is on = absurd (none-some t is)
  end-holds next t (Some u) None a is on = absurd a
  end-holds next t (Some u) (Some e) a is on = on e.0 (subst (λ z. R z e.0) (same_Some u t is) a)

  -- a closed flow holds
  pub holds_from_closed : IsClosed o g start flow → IsTrue (flow_holds rule leq m d start flow)
  holds_from_closed c =
      and_from (flows_into leq pairs start 0) (list_all (block_holds rule leq m d pairs) pairs)
      (let s = fl.stated 0 at_entry in into_first start s.0 s.1 ∙ from_below start s.0 (c.entry s.0 s.1))
      (zip_all (block_holds rule leq m d pairs) (blocks d.code) flow by_block)
    where
      by_block : (k : ℕ) (st : BasicBlock) (o : Option S) → slice_get (blocks d.code) k ≡ Some st → slice_get flow k ≡ Some o → block_holds rule leq m d pairs (st, o) ≡ true
      by_block k st None here e = refl
      by_block k st (Some s) here e =
          let p = block_of d.code g k st fg here in
          let q = c.closed k p.0 s p.1 e in
          let each : (e : S) → R q.0 e → list_all (flows_into leq pairs e) (map (first_of g) p.0.successors.items) ≡ true = λ end r.
          test-from-contains (flows_into leq pairs end) (first_of g) p.0.successors.items (λ n at.
          let u = fl.stated n (along (fl.reached k s e) (p.0, p.1, at)) in
          into n end u.0 u.1 ∙ sym (lower q.0 end u.0 r) ∙ from_below q.0 u.0 (All-contains (λ n. (u : S) → IsStated flow n u → o.below q.0 u) p.0.successors.items n q.1.1 at u.0 u.1)) in
          subst (λ (z : BasicBlock). block_holds rule leq m d pairs (z, Some s) ≡ true) p.2
          (end-holds (map (first_of g) p.0.successors.items) q.0 (carried_through o.steps p.0 s) (through rule m d (instructions_of d (basic_block_of g p.0)) (s, []))
          (block_alike S rule o.steps R m d alike self g fg typed k p.0 s p.1) q.1.0 each)

  -- a block that holds carries its state
  carried-on : (b : Block) (s : S) (o1 : Option S) (o2 : Option (S × Types)) → carried_through o.steps b s ≡ o1 → Alike (Ends R) o1 o2
      → option_map_or (λ end. list_all (flows_into leq pairs end.0) (map (first_of g) b.successors.items)) o2 false ≡ true
      → IsClosedAt o flow b s
  carried-on b s None None is a h = absurd (false≢true h)
  carried-on b s None (Some e) is a h = absurd a
  carried-on b s (Some t) None is a h = absurd a
  carried-on b s (Some t) (Some e) is a h = (
    t,
    (
      is,
      all-from-contains (λ n. (u : S) → IsStated flow n u → o.below t u) b.successors.items (λ n at u st.
          into_below t u
          (lower t e.0 u a ∙ sym (into n e.0 u st) ∙ All-contains (λ n. flows_into leq pairs e.0 (first_of g n) ≡ true) b.successors.items n (test-at-contains (flows_into leq pairs e.0) (first_of g) b.successors.items h) at)),
    ),
  )

  -- a flow that holds is closed
  pub closed_from_holds : IsTrue (flow_holds rule leq m d start flow) → IsClosed o g start flow
  closed_from_holds h =
      let p = and_parts (flows_into leq pairs start 0) (list_all (block_holds rule leq m d pairs) pairs) h in
      record {
        entry = λ s e. into_below start s (sym (into_first start s e) ∙ p.0);
        closed = λ k b s here e.
            carried-on b s (carried_through o.steps b s) (through rule m d (instructions_of d (basic_block_of g b)) (s, [])) refl (block_alike S rule o.steps R m d alike self g fg typed k b s here)
            (zip_at (block_holds rule leq m d pairs) (blocks d.code) flow k (basic_block_of g b) (Some s) p.1 (block_at d.code g k b fg here) e);
      }
