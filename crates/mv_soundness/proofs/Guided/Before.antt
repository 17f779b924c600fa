-- What an accepted certificate says before an instruction, and that it goes on to what it says before each that may come next.
use Rattle.mv_soundness.proofs.Guided.Common.{◌≡◌, ℕ, ◌+◌, ◌-◌, List, [], ◌∷◌, ◌++◌, map, length, true, false, refl, sym, ◌∙◌, ap, subst, arith, Bool, Option, Some, option_map, inl, inr}
use Rattle.mv_soundness.proofs.Guided.Common.{◌<◌, ◌≤◌, take, and_parts, and_from, leb-true, false_from_ne_true, same_Some, list_all, option_map_or, slice_get, nat_le, zip, slice_range}
use Rattle.mv_soundness.proofs.Guided.Common.{ends_block, successors, Module, FunctionDefinition, Availability, Instruction, Known, Stated, flow_holds, through, stated_at}
use Rattle.mv_soundness.proofs.Guided.Common.{known_before, known_after, blocks-tile, Block, starts_from, blocks, leads_to, edges_leq, Edge, on_bind, locals_leq, Types, Point, all_at, ◌&&◌}
use Rattle.mv_machine.proofs.Binds.{map-is}
use Rattle.mv_edges.proofs.Order.{edges_leq_itself}
use Rattle.mv_certificate_rules.specs.Certificate.{instructions_of, flows_into, block_holds}
use Rattle.mv_certificate.specs.Known.{block_of}
use Rattle.mv_certificate_rules.specs.LocalsRules.{locals_after}
use Rattle.mv_certificate_rules.specs.BorrowRules.{edges_after}
use Rattle.mv_type_rules.specs.TypeRules.{types_after}
use Rattle.mv_soundness.proofs.Typing.FlowFacts.{range_split, BlockFacts, block_facts, ended_begin, next_inside}
use Rattle.mv_soundness.proofs.{Borrows.Premises.Among, Lists.below-or-at}
use Rattle.mv_soundness.proofs.Borrows.Certified.{Inside, inside, held, flows, both-through}
use Rattle.mv_soundness.proofs.Guided.Tiles.{Tiles, tiles-zip, holds_place, tile-found, tile-ordered, find-has, zip-parts, zip-maps, stated-maps, stated-has, next-is}
use Rattle.mv_cfg.proofs.Beginnings.{starts_from-ascending}
use Rattle.std.proofs.Common.{drop}
use Rattle.mv_certificate_rules.proofs.LocalsOrder.{leq_reflexive}

-- what is known is below what else could be known, in both parts
abbrev known_leq : Known → Known → Bool
known_leq a b = locals_leq a.locals b.locals && edges_leq a.edges b.edges

-- ---- lists

pub all-among : (p : ℕ → Bool) (xs : List ℕ) (x : ℕ) → list_all p xs ≡ true → Among x xs → p x ≡ true
all-among p [] x h a = absurd a
all-among p (y ∷ ys) x h (inl e) = ap p e ∙ (and_parts (p y) (list_all p ys) h).0
all-among p (y ∷ ys) x h (inr a) = all-among p ys x (and_parts (p y) (list_all p ys) h).1 a

-- what is known and the types, alike or apart
pub known-parts : (p : Point) (i : Instruction) (k next : Known) → known_after p i k ≡ Some next → (locals_after p i k.locals ≡ Some next.locals) × (edges_after p i k.edges ≡ Some next.edges)
known-parts p i k next e =
    on_bind (locals_after p i k.locals) _ next e (λ l l_is e1.
    on_bind (edges_after p i k.edges) _ next e1 (λ es es_are e2.
    let same = same_Some (record { locals = l; edges = es }) next e2 in
    (l_is ∙ ap (λ (x : Known). Some x.locals) same, es_are ∙ ap (λ (x : Known). Some x.edges) same)))

module _ (m : Module) (d : FunctionDefinition) (stated : Stated) where
  abbrev pub with_blocks : List (Block × Option Known)
  with_blocks = zip (blocks d.code) stated

  tiles : Tiles 0 with_blocks
  tiles = tiles-zip 0 (length d.code) (blocks d.code) stated (blocks-tile d.code)

  -- before an instruction: the block that it stands in, what is stated there, and that this is carried to it
  pub record Before (at : ℕ) (k : Known) (ts : Types) : Type 0 where
    pub place : ℕ
    pub block : Block
    pub known : Known
    pub is_block : slice_get (blocks d.code) place ≡ Some block
    pub is_here : slice_get with_blocks place ≡ Some (block, Some known)
    pub not_before : block.first ≤ at
    pub not_behind : at ≤ block.last
    pub carried : through known_after m d (slice_range d.code block.first at) (known, []) ≡ Some (k, ts)

  -- it is what is known before it
  pub before-known : (at : ℕ) (k : Known) (ts : Types) → Before at k ts → known_before m d stated at ≡ Some (k, ts)
  before-known at k ts b =
      let found = (tile-found 0 with_blocks b.place at (b.block, Some b.known) tiles b.is_here b.not_before b.not_behind).0 in
      rw found b.carried

  pub known-here : (at : ℕ) (k : Known) (ts : Types) → known_before m d stated at ≡ Some (k, ts) → Before at k ts
  known-here at k ts e =
      on_bind (block_of at with_blocks) _ (k, ts) e (λ b b_is e1.
      on_bind b.1 _ (k, ts) e1 (λ known known_is e2.
      let t = find-has (holds_place at) with_blocks b b_is in
      let bounds = and_parts (nat_le b.0.first at) (nat_le at b.0.last) t.2 in
      record {
        place = t.0;
        block = b.0;
        known = known;
        is_block = (zip-parts (blocks d.code) stated t.0 b t.1).0;
        is_here = t.1 ∙ ap (λ (o : Option Known). Some (b.0, o)) known_is;
        not_before = leb-true b.0.first at bounds.0;
        not_behind = leb-true at b.0.last bounds.1;
        carried = e2;
      }))

  -- where something is stated, it is known there
  pub begins-known : (j : ℕ) (k : Known) → stated_at with_blocks j ≡ Some k → known_before m d stated j ≡ Some (k, [])
  begins-known j k e =
      let r = stated-has with_blocks j k e in
      let first : r.1.0.first ≡ j = r.3 in
      let order : r.1.0.first ≤ r.1.0.last = tile-ordered 0 with_blocks r.0 r.1 tiles r.2 in
      let none : j - r.1.0.first ≡ 0 = omega (arith, first) in
      before-known j k [] (record {
        place = r.0;
        block = r.1.0;
        known = k;
        is_block = (zip-parts (blocks d.code) stated r.0 r.1 r.2).0;
        is_here = r.2 ∙ ap (λ (o : Option Known). Some (r.1.0, o)) r.4;
        not_before = omega (arith, first);
        not_behind = omega (arith, first, order);
        carried = subst (λ (c : ℕ). through known_after m d (take c (drop r.1.0.first d.code)) (k, []) ≡ Some (k, [])) (sym none) refl;
      })

  abbrev point : Types → Point
  point ts = record { home = m; function = d; types = ts }

  -- what the certificate gives of an instruction: its needs are met, and what is known after it is below what is known before each that may come next
  pub record Onward (at : ℕ) (i : Instruction) (k : Known) (ts : Types) : Type 0 where
    pub next : Known
    pub after : Types
    pub locals : locals_after (point ts) i k.locals ≡ Some next.locals
    pub edges : edges_after (point ts) i k.edges ≡ Some next.edges
    pub typed : types_after m d i ts ≡ Some after
    pub leads : (j : ℕ) → Among j (successors at i) → (l : Known) × (us : Types) × (known_before m d stated j ≡ Some (l, us)) × (known_leq next l ≡ true)

  module _ (start : Known)
      (locals_flow : flow_holds locals_after locals_leq m d start.locals (map (option_map (λ (k : Known). k.locals)) stated) ≡ true)
      (edges_flow : flow_holds edges_after edges_leq m d start.edges (map (option_map (λ (k : Known). k.edges)) stated) ≡ true)
    where
      abbrev stated_locals : List (Block × Option (List Availability))
      stated_locals = zip (blocks d.code) (map (option_map (λ (k : Known). k.locals)) stated)

      abbrev stated_edges : List (Block × Option (List Edge))
      stated_edges = zip (blocks d.code) (map (option_map (λ (k : Known). k.edges)) stated)

      locals_both : (flows_into locals_leq stated_locals start.locals 0 ≡ true) × (list_all (block_holds locals_after locals_leq m d stated_locals) stated_locals ≡ true)
      locals_both = and_parts (flows_into locals_leq stated_locals start.locals 0) (list_all (block_holds locals_after locals_leq m d stated_locals) stated_locals) locals_flow

      edges_both : (flows_into edges_leq stated_edges start.edges 0 ≡ true) × (list_all (block_holds edges_after edges_leq m d stated_edges) stated_edges ≡ true)
      edges_both = and_parts (flows_into edges_leq stated_edges start.edges 0) (list_all (block_holds edges_after edges_leq m d stated_edges) stated_edges) edges_flow

      -- both parts of what is known flow to one place
      both-flow : (j : ℕ) (ls : List Availability) (es : List Edge) → flows_into locals_leq stated_locals ls j ≡ true → flows_into edges_leq stated_edges es j ≡ true
          → (l : Known) × (known_before m d stated j ≡ Some (l, [])) × (locals_leq ls l.locals ≡ true) × (edges_leq es l.edges ≡ true)
      both-flow j ls es h g =
          let a = flows locals_after m d locals_leq stated_locals ls j h in
          let b = flows edges_after m d edges_leq stated_edges es j g in
          let u = map-is (λ (k : Known). k.locals) (stated_at with_blocks j) a.0 (sym (stated-maps (λ (k : Known). k.locals) (blocks d.code) stated j) ∙ a.1) in
          let v = map-is (λ (k : Known). k.edges) (stated_at with_blocks j) b.0 (sym (stated-maps (λ (k : Known). k.edges) (blocks d.code) stated j) ∙ b.1) in
          let one : v.0 ≡ u.0 = same_Some v.0 u.0 (sym v.1 ∙ u.1) in
          (u.0, begins-known j u.0 u.1, subst (λ x. locals_leq ls x ≡ true) (sym u.2) a.2, subst (λ x. edges_leq es x ≡ true) (sym v.2 ∙ ap (λ (k : Known). k.edges) one) b.2)

      -- what is known where the function begins
      pub starts-known : (l : Known) × (known_before m d stated 0 ≡ Some (l, [])) × (locals_leq start.locals l.locals ≡ true) × (edges_leq start.edges l.edges ≡ true)
      starts-known = both-flow 0 start.locals start.edges locals_both.0 edges_both.0

      -- an instruction that the certificate speaks of meets its needs, and the certificate speaks of each that may come next
      pub goes-on : (at : ℕ) (k : Known) (ts : Types) (i : Instruction) → known_before m d stated at ≡ Some (k, ts) → slice_get d.code at ≡ Some i → Onward at i k ts
      goes-on at k ts i e is =
          let b : Before at k ts = known-here at k ts e in
          let facts : BlockFacts d.code (starts_from d.code 0 true d.code) 0 b.block =
          block_facts d.code (starts_from d.code 0 true d.code) 0 b.place b.block (starts_from-ascending d.code 0 (length d.code) true d.code (omega arith)) b.is_block in
          let low : b.block.first ≤ at = b.not_before in
          let high : at ≤ b.block.last = b.not_behind in
          let whole = range_split d.code b.block.first at (b.block.last + 1) i low (omega (arith, high)) is in
          let front = range_split d.code b.block.first at (at + 1) i low (omega arith) is in
          let front_is : slice_range d.code b.block.first (at + 1) ≡ slice_range d.code b.block.first at ++ i ∷ [] =
          front.1 ∙ ap (λ (xs : List Instruction). slice_range d.code b.block.first at ++ i ∷ xs) (front.2 refl) in
          let l = held locals_after m d locals_leq stated_locals b.block b.known.locals
          (all_at (block_holds locals_after locals_leq m d stated_locals) stated_locals b.place (b.block, Some b.known.locals) locals_both.1
          (zip-maps (option_map (λ (k : Known). k.locals)) (blocks d.code) stated b.place (b.block, Some b.known) b.is_here)) in
          let g = held edges_after m d edges_leq stated_edges b.block b.known.edges
          (all_at (block_holds edges_after edges_leq m d stated_edges) stated_edges b.place (b.block, Some b.known.edges) edges_both.1
          (zip-maps (option_map (λ (k : Known). k.edges)) (blocks d.code) stated b.place (b.block, Some b.known) b.is_here)) in
          from_inside b facts i is l.end g.end l.exits g.exits whole.0 whole.2 front_is
          (inside known_after m d (slice_range d.code b.block.first at) i whole.0 (b.known, []) (record { locals = l.end.0; edges = g.end.0 }, l.end.1)
          (subst (λ (xs : List Instruction). through known_after m d xs (b.known, []) ≡ Some (record { locals = l.end.0; edges = g.end.0 }, l.end.1)) whole.1
          (both-through m d (instructions_of d b.block) b.known [] l.end.0 g.end.0 l.end.1 g.end.1 l.goes g.goes)))
        where
          from_inside : (b : Before at k ts) → BlockFacts d.code (starts_from d.code 0 true d.code) 0 b.block → (i : Instruction)
              → slice_get d.code at ≡ Some i → (le : List Availability × Types) (ge : List Edge × Types)
              → list_all (flows_into locals_leq stated_locals le.0) b.block.next ≡ true
              → list_all (flows_into edges_leq stated_edges ge.0) b.block.next ≡ true → (rest : List Instruction)
              → (b.block.last + 1 ≡ at + 1 → rest ≡ []) → slice_range d.code b.block.first (at + 1) ≡ slice_range d.code b.block.first at ++ i ∷ []
              → Inside known_after m d (slice_range d.code b.block.first at) i rest (b.known, []) (record { locals = le.0; edges = ge.0 }, le.1)
              → Onward at i k ts
          from_inside b facts i is le ge exits_l exits_g rest rest_is front_is x =
              let same : (x.known, x.types) ≡ (k, ts) = same_Some (x.known, x.types) (k, ts) (sym x.here ∙ b.carried) in
              let met : known_after (point ts) i k ≡ Some x.next = subst (λ (z : Known × Types). known_after (point z.1) i z.0 ≡ Some x.next) same x.met in
              let parts = known-parts (point ts) i k x.next met in
              let places = below-or-at at b.block.last b.not_behind in
              record {
                next = x.next;
                after = x.next_types;
                locals = parts.0;
                edges = parts.1;
                typed = subst (λ (z : Known × Types). types_after m d i z.1 ≡ Some x.next_types) same x.typed;
                leads = λ j a. elim places [
                  | inl p ↦ inner j a p
                  | inr p ↦ last j a p
                ];
              }
            where
              inner : (j : ℕ) → Among j (successors at i) → at < b.block.last → (l : Known) × (us : Types) × (known_before m d stated j ≡ Some (l, us)) × (known_leq x.next l ≡ true)
              inner j a p =
                  let shut : ends_block i ≡ false = false_from_ne_true (ends_block i) (λ h. facts.alone (at + 1) (let low : b.block.first ≤ at = b.not_before in omega (arith, low)) (omega (arith, p))
                  (ended_begin d.code 0 at (at + 1) true i d.code is h (let short : b.block.last < length d.code = facts.inside in omega (arith, p, short)) (omega arith))) in
                  let there : Among j ((at + 1) ∷ []) = subst (λ xs. Among j xs) (next_inside at i shut) a in (
                    x.next,
                    x.next_types,
                    elim there [
                      | inl e ↦ subst (λ n. known_before m d stated n ≡ Some (x.next, x.next_types)) (sym e) (before-known (at + 1) x.next x.next_types (record {
                        place = b.place;
                        block = b.block;
                        known = b.known;
                        is_block = b.is_block;
                        is_here = b.is_here;
                        not_before = (let low : b.block.first ≤ at = b.not_before in omega (arith, low));
                        not_behind = omega (arith, p);
                        carried = subst (λ (xs : List Instruction). through known_after m d xs (b.known, []) ≡ Some (x.next, x.next_types)) (sym front_is) x.after;
                      }))
                      | inr e ↦ absurd e
                    ],
                    and_from (locals_leq x.next.locals x.next.locals) (edges_leq x.next.edges x.next.edges) (leq_reflexive x.next.locals) (edges_leq_itself x.next.edges),
                  )

              last : (j : ℕ) → Among j (successors at i) → at ≡ b.block.last → (l : Known) × (us : Types) × (known_before m d stated j ≡ Some (l, us)) × (known_leq x.next l ≡ true)
              last j a p =
                  let none : rest ≡ [] = rest_is (ap (λ n. n + 1) (sym p)) in
                  let ended : (x.next, x.next_types) ≡ (record { locals = le.0; edges = ge.0 }, le.1) =
                  same_Some (x.next, x.next_types) (record { locals = le.0; edges = ge.0 }, le.1)
                  (subst (λ (is : List Instruction). through known_after m d is (x.next, x.next_types) ≡ Some (record { locals = le.0; edges = ge.0 }, le.1)) none x.onward) in
                  let next_is : b.block.next ≡ successors at i =
                  next-is d.code (starts_from d.code 0 true d.code) b.place b.block b.is_block ∙ ap (leads_to d.code)
                  (sym p) ∙ ap (λ (o : Option Instruction). option_map_or (successors at) o []) is in
                  let there : Among j b.block.next = subst (λ xs. Among j xs) (sym next_is) a in
                  let t = both-flow j le.0 ge.0 (all-among (flows_into locals_leq stated_locals le.0) b.block.next j exits_l there)
                  (all-among (flows_into edges_leq stated_edges ge.0) b.block.next j exits_g there) in
                  (t.0, [], t.1, subst (λ (z : Known × Types). known_leq z.0 t.0 ≡ true) (sym ended) (and_from (locals_leq le.0 t.0.locals) (edges_leq ge.0 t.0.edges) t.2 t.3))
