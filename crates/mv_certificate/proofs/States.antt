-- What is stated of a function is a flow over its graph.
use Rattle.mv_certificate.proofs.Common.{[], ℕ, ◌&&◌, ◌<◌, ◌==◌, ◌∙◌, ◌∷◌, ◌≡◌, IsTrue, List, None, Option, Some, ap, arith, false, is_some, length, map, nat_le, option_map, refl, slice_get, all_at}
use Rattle.mv_certificate.proofs.Common.{subst, suc, sym, true, true≢false, zero, and_parts, eqb-true, length-map, All-contains, none-some, same_Some, slice_get-map, slice_get_within}
use Rattle.mv_certificate.proofs.Common.{list_all, option_map_or, FunctionDefinition, Module, local_tokens, Availability, Token, blocks, IsFlowGraph, basic_block_of, along, at_entry, Cfg}
use Rattle.mv_certificate.proofs.Common.{are_ascending, Edge, IsFlow, IsStated, IsOfLocals, Certificate, Known, Stated, AllStatedFit, StatedFits, edge_fits, known_fits}
use Rattle.mv_cfg.specs.Graph.{IsGraph, IsReached as IsReachedBlock}
use Rattle.mv_lattice.specs.Order.{Order}
use Rattle.mv_locals_safety.specs.Domain.{locals_order}
use Rattle.mv_borrow_graph.specs.Domain.{edges_order}
use Rattle.mv_certificate.specs.Reads.{FitsAt}
use Rattle.mv_certificate.proofs.Texts.{block_fits}
use Rattle.mv_certificate.proofs.Marks.{comes}
use Rattle.mv_bound_rules.proofs.Entries.{element_at}

-- a reached block is there
reached_below : (g : Cfg) (size : ℕ) → IsGraph g size → (k : ℕ) → IsReachedBlock g k → k < length g.blocks.items
reached_below g size ig _ at_entry = ig.has_entry
reached_below g size ig _ (along {k} {n} r e) = All-contains (λ i. i < length g.blocks.items) e.0.successors.items n (ig.inside k e.0 e.1) e.2

-- what is stated of a block in one part
part_stated : {S : Type 0} (part : Known → S) (ks : Stated) (k : ℕ) (known : Known) → slice_get ks k ≡ Some (Some known)
    → IsStated (map (option_map part) ks) k (part known)
part_stated part ks k known e = slice_get-map (option_map part) ks k ∙ ap (option_map (option_map part)) e

-- what is known where a state is stated
pub record Source {S : Type 0} (part : Known → S) (ks : Stated) (k : ℕ) (s : S) : Type 0 where
  pub known : Known
  pub stated : slice_get ks k ≡ Some (Some known)
  pub same : part known ≡ s

source : {S : Type 0} (part : Known → S) (ks : Stated) (k : ℕ) (s : S) → IsStated (map (option_map part) ks) k s → Source part ks k s
source part ks k s e =
    let p = comes (option_map part) (slice_get ks k) (Some s) (sym (slice_get-map (option_map part) ks k) ∙ e) in
    let q = comes part p.0 s p.2 in
    record { known = q.0; stated = p.1 ∙ ap Some q.1; same = q.2 }

-- what is stated somewhere
some_stated : (o : Option Known) → is_some o ≡ true → (known : Known) × (o ≡ Some known)
some_stated None h = absurd (true≢false (sym h))
some_stated (Some known) h = (known, refl)

-- what is stated of each block in one part is a flow
pub flow-of : {S : Type 0} (part : Known → S) (o : Order S) (m : Module) (d : FunctionDefinition) (g : Cfg) (ks : Stated)
    → ((known : Known) → IsTrue (known_fits m d known) → o.is_state (part known)) → IsFlowGraph d.code g → StatedFits m d ks
    → IsFlow o g (map (option_map part) ks)
flow-of {S} part o m d g ks each fg sf =
    let same : length ks ≡ length g.blocks.items = sf.long ∙ ap length (sym fg.basic_blocks) ∙ length-map g.blocks.items (basic_block_of g) in
    record {
      entries = length-map ks (option_map part) ∙ same;
      states = λ k s e.
          let q = source part ks k s e in
          subst o.is_state q.same (each q.known (all_at (block_fits m d) ks k (Some q.known) sf.fits q.stated));
      stated = λ k r.
          let lt : k < length g.blocks.items = reached_below g (length d.code) fg.graph k r in
          let lt2 : k < length ks = omega arith in
          let b = element_at g.blocks.items k lt in
          let entry = element_at ks k lt2 in
          let here : slice_get (blocks d.code) k ≡ Some (basic_block_of g b.0) = ap (λ z. slice_get z k) (sym fg.basic_blocks) ∙ slice_get-map (basic_block_of g) g.blocks.items k ∙ ap (option_map (basic_block_of g)) b.1 in
          let mark : b.0.reached ≡ true = (fg.graph.marks k b.0 b.1).1 r in
          let known = some_stated entry.0 ((sf.marks k (basic_block_of g b.0) entry.0 here entry.1).1 ((fg.reached k b.0 b.1).0 mark)) in
          (part known.0, part_stated part ks k known.0 (entry.1 ∙ ap Some known.1));
      reached = λ k s e.
          let q = source part ks k s e in
          let in1 : k < length ks = slice_get_within ks k (Some q.known) q.stated in
          let lt : k < length g.blocks.items = omega arith in
          let b = element_at g.blocks.items k lt in
          let here : slice_get (blocks d.code) k ≡ Some (basic_block_of g b.0) = ap (λ z. slice_get z k) (sym fg.basic_blocks) ∙ slice_get-map (basic_block_of g) g.blocks.items k ∙ ap (option_map (basic_block_of g)) b.1 in
          (fg.graph.marks k b.0 b.1).0 ((fg.reached k b.0 b.1).1 ((sf.marks k (basic_block_of g b.0) (Some q.known) here q.stated).0 refl));
    }

-- a state that fits has one availability a local
locals_fit : (m : Module) (d : FunctionDefinition) (known : Known) (o : Option (List Token)) → option_map_or (λ tokens. length known.locals == length tokens) o false ≡ true
    → length known.locals ≡ option_map_or length o 0
locals_fit m d known None h = absurd (true≢false (sym h))
locals_fit m d known (Some tokens) h = eqb-true (length known.locals) (length tokens) h

-- the parts of a state that fits
pub known-locals : (m : Module) (d : FunctionDefinition) (known : Known) → IsTrue (known_fits m d known) → IsOfLocals m d known.locals
known-locals m d known h =
    let p = and_parts (option_map_or (λ tokens. length known.locals == length tokens) (local_tokens m d) false && nat_le (length known.edges) 1024 && list_all (edge_fits m d) known.edges) (are_ascending known.edges) h in
    let q = and_parts (option_map_or (λ tokens. length known.locals == length tokens) (local_tokens m d) false && nat_le (length known.edges) 1024) (list_all (edge_fits m d) known.edges) p.0 in
    let r = and_parts (option_map_or (λ tokens. length known.locals == length tokens) (local_tokens m d) false) (nat_le (length known.edges) 1024) q.0 in
    locals_fit m d known (local_tokens m d) r.0

pub known-edges : (m : Module) (d : FunctionDefinition) (known : Known) → IsTrue (known_fits m d known) → IsTrue (are_ascending known.edges)
known-edges m d known h =
    (and_parts (option_map_or (λ tokens. length known.locals == length tokens) (local_tokens m d) false && nat_le (length known.edges) 1024 && list_all (edge_fits m d) known.edges) (are_ascending known.edges) h).1

pub locals-flow : (m : Module) (d : FunctionDefinition) (g : Cfg) (ks : Stated) → IsFlowGraph d.code g → StatedFits m d ks → IsFlow (locals_order m d) g (map (option_map (λ k. k.locals)) ks)
locals-flow m d g ks = flow-of (λ k. k.locals) (locals_order m d) m d g ks (known-locals m d)

pub edges-flow : (m : Module) (d : FunctionDefinition) (g : Cfg) (ks : Stated) → IsFlowGraph d.code g → StatedFits m d ks
    → IsFlow (edges_order m d) g (map (option_map (λ k. k.edges)) ks)
edges-flow m d g ks = flow-of (λ k. k.edges) (edges_order m d) m d g ks (known-edges m d)

-- as many functions as lists
pub fit-length : (m : Module) (ds : List FunctionDefinition) (cs : Certificate) → AllStatedFit m ds cs → length ds ≡ length cs
fit-length m [] [] h = refl
fit-length m [] (c ∷ cs) h = absurd h
fit-length m (d ∷ ds) [] h = absurd h
fit-length m (d ∷ ds) (c ∷ cs) h = ap suc (fit-length m ds cs h.1)

-- the list at a place fits the function there
pub fit-at : (m : Module) (ds : List FunctionDefinition) (cs : Certificate) (f : ℕ) (d : FunctionDefinition) (c : Stated) → AllStatedFit m ds cs
    → slice_get ds f ≡ Some d → slice_get cs f ≡ Some c → StatedFits m d c
fit-at m [] cs f d c h de ce = absurd (none-some d de)
fit-at m (x ∷ ds) [] f d c h de ce = absurd h
fit-at m (x ∷ ds) (y ∷ cs) zero d c h de ce = subst (λ z. StatedFits m d z) (same_Some y c ce) (subst (λ z. StatedFits m z y) (same_Some x d de) h.0)
fit-at m (x ∷ ds) (y ∷ cs) (suc f) d c h de ce = fit-at m ds cs f d c h.1 de ce

-- the graph of the function at a place
pub graph-at : (m : Module) (f : ℕ) (d d' : FunctionDefinition) (g : Cfg) → slice_get m.functions f ≡ Some d → slice_get m.functions f ≡ Some d' → IsFlowGraph d.code g
    → IsGraph g (length d'.code)
graph-at m f d d' g e e' fg = subst (λ (z : FunctionDefinition). IsGraph g (length z.code)) (same_Some d d' (sym e ∙ e')) fg.graph

-- the flows of the function at a place
pub locals-flow-at : (m m' : Module) (f : ℕ) (d d' : FunctionDefinition) (g : Cfg) (ks : Stated) (all : List (Option (List Availability))) → m' ≡ m → slice_get m.functions f ≡ Some d
    → slice_get m.functions f ≡ Some d'
    → IsFlowGraph d.code g → FitsAt m f ks → all ≡ map (option_map (λ k. k.locals)) ks → IsFlow (locals_order m' d') g all
locals-flow-at m m' f d d' g ks all em e e' fg fits is =
    subst (λ z. IsFlow (locals_order z d') g all) (sym em) (subst (λ z. IsFlow (locals_order m z) g all) (same_Some d d' (sym e ∙ e'))
    (subst (λ z. IsFlow (locals_order m d) g z) (sym is) (locals-flow m d g ks fg (fits d e))))

pub edges-flow-at : (m m' : Module) (f : ℕ) (d d' : FunctionDefinition) (g : Cfg) (ks : Stated) (all : List (Option (List Edge))) → m' ≡ m → slice_get m.functions f ≡ Some d
    → slice_get m.functions f ≡ Some d'
    → IsFlowGraph d.code g → FitsAt m f ks → all ≡ map (option_map (λ k. k.edges)) ks → IsFlow (edges_order m' d') g all
edges-flow-at m m' f d d' g ks all em e e' fg fits is =
    subst (λ z. IsFlow (edges_order z d') g all) (sym em) (subst (λ z. IsFlow (edges_order m z) g all) (same_Some d d' (sym e ∙ e'))
    (subst (λ z. IsFlow (edges_order m d) g z) (sym is) (edges-flow m d g ks fg (fits d e))))
