-- The text of what fits is read: availabilities, nodes, labels, edges and states.
use Rattle.mv_certificate.proofs.Common.{[], ℕ, ◌&&◌, ◌++◌, ◌==◌, ◌∙◌, ◌∷◌, ◌≡◌, ◌≤◌, Bool, IsTrue, List, None, Option, Some, ap, append_assoc, arith, false, flat_map, is_some, length, map}
use Rattle.mv_certificate.proofs.Common.{nat_le, nat_lt, option_map, refl, slice_get, suc, sym, true, and_from, and_parts, eqb-true, false≢true, le-leb, leb-true, length-map}
use Rattle.mv_certificate.proofs.Common.{flat_map_single, slice_get-map, slice_get_within, then_some, list_all, option_map_or, FunctionDefinition, Module, local_tokens, ◌>>=◌, Availability}
use Rattle.mv_certificate.proofs.Common.{Unavailable, Node, Glob, Own, Slot, Temp, Token, number_from, uleb, counted, counted_from, entries_from, local_count, blocks}
use Rattle.mv_certificate.proofs.Common.{IsFlowGraph, basic_block_of, Block, Cfg, are_ascending, Edge, Known, Stated, availability_code, edge_text, known_text, node_text, stated_text}
use Rattle.mv_certificate.proofs.Common.{availability_from, block_from, edge_from, edges_from, known_from, label_from, node_from, openness_from, stated_from, StatedFits, edge_fits}
use Rattle.mv_certificate.proofs.Common.{known_fits}
use Rattle.std.proofs.Common.{not}
use Rattle.std.proofs.lemmas.Bool.{ltb-true}
use Rattle.mv_certificate_rules.specs.BorrowRules.{is_mutable_token, is_reference_token}
use Rattle.mv_module_text.proofs.Texts.{Whole, number-whole, index-whole, entries-whole, counted-whole}
use Rattle.mv_certificate_rules.specs.Nodes.{has_local, leads_in, leads_out, edge_is_there}
use Rattle.mv_borrow_graph.specs.Laws.There.{there_parts}
use Rattle.mv_certificate.proofs.Texts.{availability_text, any, node_fits, is_small, path_fits, openness_text, label_text, label_fits, edge_as, edges_fit, block_fits}
use Rattle.mv_edges.proofs.AsSets.{same_truth}
use Rattle.mv_type_rules.specs.TypesHold.{point_at}

-- a step that gives something
bind_is : {A B : Type 0} (o : Option A) (f : A → Option B) (x : A) → o ≡ Some x → (o >>= f) ≡ f x
bind_is o f x e = ap (λ z. z >>= f) e

-- an availability, a node, a position, positions, an openness and a label are read where their texts stand
availability-whole : Whole availability_from availability_text any
availability-whole rest Unavailable ok = refl
availability-whole rest a ok = refl

node-whole : Whole node_from node_text node_fits
node-whole rest (Slot l) ok = rw (index-whole rest l ok) refl
node-whole rest (Own l) ok = rw (index-whole rest l ok) refl
node-whole rest (Glob t) ok = rw (index-whole rest t ok) refl
node-whole rest (Temp k) ok = absurd (false≢true ok)

position-whole : Whole (number_from 31) uleb is_small
position-whole rest n ok = let lt : suc n ≤ 32 = leb-true (suc n) 32 ok in number-whole 31 n rest (omega arith) (omega arith)

path-whole : Whole (counted_from 8 (number_from 31)) (counted uleb) path_fits
path-whole = counted-whole 8 (number_from 31) uleb is_small (omega arith) position-whole

openness-whole : Whole openness_from openness_text any
openness-whole rest true ok = refl
openness-whole rest false ok = refl

label-whole : Whole label_from label_text label_fits
label-whole rest l ok =
    ap label_from (append_assoc (counted uleb l.path) (openness_text l.is_open) rest)
    ∙ bind_is (counted_from 8 (number_from 31) (counted uleb l.path ++ (openness_text l.is_open ++ rest))) (λ path. openness_from path.1 >>= λ is_open. Some (record { path = path.0; is_open = is_open.0 }, is_open.1))
    (l.path, openness_text l.is_open ++ rest) (path-whole (openness_text l.is_open ++ rest) l.path ok)
    ∙ bind_is (openness_from (openness_text l.is_open ++ rest)) (λ is_open. Some (record { path = l.path; is_open = is_open.0 }, is_open.1)) (l.is_open, rest) (openness-whole rest l.is_open refl)

module _ (m : Module) (d : FunctionDefinition) (few : length m.structs ≤ 65536) (small : local_count m d ≤ 65536) where
  -- a local that is there has an index
  local_small : (test : Token → Bool) (l : ℕ) → has_local test (point_at m d []) l ≡ true → nat_lt l 65536 ≡ true
  local_small test l h = by_tokens (local_tokens m d) small h
    where
      by_token : (tokens : List Token) → length tokens ≤ 65536 → (o : Option Token) → slice_get tokens l ≡ o → option_map_or test o false ≡ true → nat_lt l 65536 ≡ true
      by_token tokens le None e h = absurd (false≢true h)
      by_token tokens le (Some t) e h = le-leb (suc l) 65536 (omega (arith, slice_get_within tokens l t e))

      by_tokens : (o : Option (List Token)) → option_map_or length o 0 ≤ 65536 → option_map_or test (o >>= λ tokens. slice_get tokens l) false ≡ true → nat_lt l 65536 ≡ true
      by_tokens None le h = absurd (false≢true h)
      by_tokens (Some tokens) le h = by_token tokens le (slice_get tokens l) refl h

  -- a node from which an edge may lead has an index
  source_fits : (n : Node) → leads_out (point_at m d []) n ≡ true → node_fits n ≡ true
  source_fits (Slot l) h = local_small is_mutable_token l h
  source_fits (Own l) h = local_small (λ t. not (is_reference_token t)) l h
  source_fits (Glob t) h = le-leb (suc t) 65536 (omega (arith, ltb-true t (length m.structs) h))
  source_fits (Temp k) h = absurd (false≢true h)

  -- and one to which it may
  target_fits : (n : Node) → leads_in (point_at m d []) n ≡ true → node_fits n ≡ true
  target_fits (Slot l) h = local_small is_reference_token l h
  target_fits n h = absurd (false≢true h)

  -- an edge, by its parts
  edge-read : (bytes one two rest : List ℕ) (e : Edge) → node_from bytes ≡ Some (e.from, one) → node_from one ≡ Some (e.to, two) → label_from two ≡ Some (e.label, rest) → edge_fits m d e ≡ true
      → edge_from m d bytes ≡ Some (e, rest)
  edge-read bytes one two rest e from to label ok = rw (from, to, label) (ap (λ b. then_some b (e, rest)) ok)

  -- an edge that fits is read, and so are edges that fit and ascend
  edge-whole : Whole (edge_from m d) edge_text (edge_fits m d)
  edge-whole rest e ok =
      let p = and_parts (edge_is_there (point_at m d []) e) (nat_le (length e.label.path) 8) ok in
      let t = there_parts (point_at m d []) e p.0 in
      let two = label_text e.label ++ rest in
      let one = node_text e.to ++ two in
      let split : edge_text e ++ rest ≡ node_text e.from ++ one =
      ap (λ z. z ++ rest) (sym (edge_as e)) ∙ append_assoc (node_text e.from ++ node_text e.to) (label_text e.label) rest ∙ append_assoc (node_text e.from) (node_text e.to) two in
      edge-read (edge_text e ++ rest) one two rest e (ap node_from split ∙ node-whole one e.from (source_fits e.from t.out)) (node-whole two e.to (target_fits e.to t.into))
      (label-whole rest e.label (and_from (nat_le (length e.label.path) 8) (list_all is_small e.label.path) p.1 t.small)) ok

  edges-whole : Whole (edges_from m d) (counted edge_text) (edges_fit m d)
  edges-whole rest es ok =
      let p = and_parts (nat_le (length es) 1024 && list_all (edge_fits m d) es) (are_ascending es) ok in
      ap (λ r. r >>= λ xs. then_some (are_ascending xs.0) xs) (counted-whole 1024 (edge_from m d) edge_text (edge_fits m d) (omega arith) edge-whole rest es p.0)
      ∙ ap (λ b. then_some b (es, rest)) p.1

  -- the tokens that give a state its length
  tokens_of : (locals : List Availability) (o : Option (List Token)) → option_map_or (λ t. length locals == length t) o false ≡ true → (t : List Token) × ((o ≡ Some t) × (length locals ≡ length t))
  tokens_of locals None h = absurd (false≢true h)
  tokens_of locals (Some t) h = (t, (refl, eqb-true (length locals) (length t) h))

  -- all pass
  any_all : {A : Type 0} (xs : List A) → list_all any xs ≡ true
  any_all [] = refl
  any_all (x ∷ xs) = any_all xs

  -- a state, by its parts
  known-read : (bytes more rest : List ℕ) (k : Known) (tokens : List Token) → local_tokens m d ≡ Some tokens → entries_from availability_from (length tokens) bytes ≡ Some (k.locals, more)
      → edges_from m d more ≡ Some (k.edges, rest)
      → known_from m d bytes ≡ Some (k, rest)
  known-read bytes more rest k tokens there locals edges =
      bind_is (local_tokens m d) _ tokens there
      ∙ bind_is (entries_from availability_from (length tokens) bytes) (λ l. edges_from m d l.1 >>= λ es. Some (record { locals = l.0; edges = es.0 }, es.1)) (k.locals, more) locals
      ∙ bind_is (edges_from m d more) (λ es. Some (record { locals = k.locals; edges = es.0 }, es.1)) (k.edges, rest) edges

  -- a state that fits is read
  known-whole : Whole (known_from m d) known_text (known_fits m d)
  known-whole rest k ok =
      let p = and_parts (option_map_or (λ tokens. length k.locals == length tokens) (local_tokens m d) false && nat_le (length k.edges) 1024 && list_all (edge_fits m d) k.edges) (are_ascending k.edges) ok in
      let q = and_parts (option_map_or (λ tokens. length k.locals == length tokens) (local_tokens m d) false && nat_le (length k.edges) 1024) (list_all (edge_fits m d) k.edges) p.0 in
      let r = and_parts (option_map_or (λ tokens. length k.locals == length tokens) (local_tokens m d) false) (nat_le (length k.edges) 1024) q.0 in
      let t = tokens_of k.locals (local_tokens m d) r.0 in
      let more = counted edge_text k.edges ++ rest in
      let bytes = known_text k ++ rest in
      let split : bytes ≡ flat_map availability_text k.locals ++ more =
      append_assoc (map availability_code k.locals) (counted edge_text k.edges) rest ∙ ap (λ z. z ++ more) (sym (flat_map_single availability_code k.locals)) in
      let locals : entries_from availability_from (length t.0) bytes ≡ Some (k.locals, more) =
      ap (entries_from availability_from (length t.0)) split ∙ ap (λ n. entries_from availability_from n (flat_map availability_text k.locals ++ more)) (sym t.1.1)
      ∙ entries-whole availability_from availability_text any availability-whole more k.locals (any_all k.locals) in
      let fit = and_from (nat_le (length k.edges) 1024 && list_all (edge_fits m d) k.edges) (are_ascending k.edges) (and_from (nat_le (length k.edges) 1024) (list_all (edge_fits m d) k.edges) r.1 q.1) p.1 in
      known-read bytes more rest k t.0 t.1.0 locals (edges-whole rest k.edges fit)

  -- what is stated of a block is read, and of blocks
  block-whole : (rest : List ℕ) (k : Option Known) → IsTrue (block_fits m d k) → block_from m d (is_some k) (stated_text k ++ rest) ≡ Some (k, rest)
  block-whole rest None ok = refl
  block-whole rest (Some known) ok = ap (λ o. o >>= λ k. Some (Some k.0, k.1)) (known-whole rest known ok)

  pub stated-whole : (rest : List ℕ) (ks : Stated) → IsTrue (list_all (block_fits m d) ks) → stated_from m d (map is_some ks) (flat_map stated_text ks ++ rest) ≡ Some (ks, rest)
  stated-whole rest [] ok = refl
  stated-whole rest (k ∷ ks) ok =
      let p = and_parts (block_fits m d k) (list_all (block_fits m d) ks) ok in
      let more = flat_map stated_text ks ++ rest in
      ap (stated_from m d (is_some k ∷ map is_some ks)) (append_assoc (stated_text k) (flat_map stated_text ks) rest)
      ∙ bind_is (block_from m d (is_some k) (stated_text k ++ more)) (λ first. stated_from m d (map is_some ks) first.1 >>= λ others. Some (first.0 ∷ others.0, others.1)) (k, more) (block-whole more k p.0)
      ∙ bind_is (stated_from m d (map is_some ks) more) (λ others. Some (k ∷ others.0, others.1)) (ks, rest) (stated-whole rest ks p.1)

-- two tests that pass alike
pub same_marks : {A B : Type 0} (f : A → Bool) (h : B → Bool) (xs : List A) (ys : List B) → length xs ≡ length ys
    → ((i : ℕ) (x : A) (y : B) → slice_get xs i ≡ Some x → slice_get ys i ≡ Some y → f x ≡ h y) → map f xs ≡ map h ys
same_marks f h [] [] long each = refl
same_marks f h [] (y ∷ ys) long each = absurd (omega arith)
same_marks f h (x ∷ xs) [] long each = absurd (omega arith)
same_marks f h (x ∷ xs) (y ∷ ys) long each = (λ i. each 0 x y refl refl i ∷ same_marks f h xs ys (omega arith) (λ j a b ea eb. each (suc j) a b ea eb) i)

-- what fits the function has the marks of the flow graph
pub marks-fit : (m : Module) (d : FunctionDefinition) (g : Cfg) (ks : Stated) → IsFlowGraph d.code g → StatedFits m d ks → map is_some ks ≡ map (λ (b : Block). b.reached) g.blocks.items
marks-fit m d g ks fg sf =
    same_marks is_some (λ (b : Block). b.reached) ks g.blocks.items (sf.long ∙ ap length (sym fg.basic_blocks) ∙ length-map g.blocks.items (basic_block_of g)) (λ i k b ki bi.
    let here : slice_get (blocks d.code) i ≡ Some (basic_block_of g b) = ap (λ z. slice_get z i) (sym fg.basic_blocks) ∙ slice_get-map (basic_block_of g) g.blocks.items i ∙ ap (option_map (basic_block_of g)) bi in
    let mark = sf.marks i (basic_block_of g b) k here ki in
    let r = fg.reached i b bi in
    same_truth (is_some k) b.reached (λ e. r.1 (mark.0 e)) (λ e. mark.1 (r.0 e)))
