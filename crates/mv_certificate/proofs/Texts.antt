-- What is read of a certificate is what was written: availabilities, nodes, labels, edges and states.
use Rattle.mv_certificate.proofs.Common.{[], ℕ, ◌&&◌, ◌++◌, ◌==◌, ◌∙◌, ◌∷◌, ◌≡◌, Bool, IsTrue, List, None, Option, Some, ap, append_assoc, arith, cond, eq-eqb, false, flat_map, inl, inr}
use Rattle.mv_certificate.proofs.Common.{is_some, length, map, nat_le, nat_lt, refl, subst, suc, sym, true, and_from, and_parts, le-leb, flat_map_single, none-some, same_Some}
use Rattle.mv_certificate.proofs.Common.{some_pair_parts, list_all, option_map_or, FunctionDefinition, Module, local_tokens, Availability, Available, Maybe, Unavailable, Node, Glob, Own}
use Rattle.mv_certificate.proofs.Common.{Slot, Temp, Token, number_from, uleb, counted, AreBytes, counted_from, entries_from, are_ascending, Edge, Label, Known, Stated, availability_code}
use Rattle.mv_certificate.proofs.Common.{edge_text, known_text, node_text, stated_text, availability_from, block_from, edge_from, edges_from, known_from, label_from, node_from}
use Rattle.mv_certificate.proofs.Common.{openness_from, stated_from, edge_fits, known_fits}
use Rattle.std.proofs.Common.{eqb}
use Rattle.mv_module_text.specs.Fits.{is_index}
use Rattle.mv_module_text.specs.Parsing.{index_from, byte_from, mark_from}
use Rattle.mv_module_text.proofs.Texts.{Front, Parts, on_bind, Front-from, Front-join, Front-as, number-front, index-parts, byte-front, mark-front, entries-front}
use Rattle.mv_module_text.proofs.Texts.{counted-parts}
use Rattle.mv_module_text.proofs.Tokens.{cond-parts}
use Rattle.mv_certificate.specs.Parsing.{availability_of, node_of, openness_of}
use Rattle.mv_uleb.proofs.Spelled.{then_some-parts}

-- an availability's byte alone
abbrev pub availability_text : Availability → List ℕ
availability_text a = availability_code a ∷ []

-- whatever it is
abbrev pub any : {A : Type 0} → A → Bool
any x = true

availability_of-parts : (code : ℕ) (a : Availability) → availability_of code ≡ Some a → code ∷ [] ≡ availability_text a
availability_of-parts code a e =
    elim (cond-parts code 0 (Some Unavailable) (cond (eqb code 1) (Some Available) (cond (eqb code 2) (Some Maybe) None)) (Some a) e) [
      | inl p ↦ subst (λ z. code ∷ [] ≡ availability_text z) (same_Some _ a p.1) (ap (λ z. z ∷ []) p.0)
      | inr q ↦ elim (cond-parts code 1 (Some Available) (cond (eqb code 2) (Some Maybe) None) (Some a) q) [
        | inl p ↦ subst (λ z. code ∷ [] ≡ availability_text z) (same_Some _ a p.1) (ap (λ z. z ∷ []) p.0)
        | inr r ↦ elim (cond-parts code 2 (Some Maybe) None (Some a) r) [
          | inl p ↦ subst (λ z. code ∷ [] ≡ availability_text z) (same_Some _ a p.1) (ap (λ z. z ∷ []) p.0)
          | inr none ↦ absurd (none-some a none)
        ]
      ]
    ]

availability-parts : Parts availability_from availability_text any
availability-parts bytes rest v ok e =
    on_bind (byte_from bytes) _ (v, rest) e (λ code code_is e1.
    on_bind (availability_of code.0) _ (v, rest) e1 (λ a a_is e2.
    let p = byte-front code.0 bytes code.1 ok code_is in
    Front-as availability_text any bytes code.1 rest a v e2 (subst (λ z. Front z bytes code.1) (availability_of-parts code.0 a a_is) p) refl))

-- whether a node may be written
abbrev pub node_fits : Node → Bool
node_fits (Slot l) = is_index l
node_fits (Own l) = is_index l
node_fits (Glob t) = is_index t
node_fits (Temp k) = false

node_of-parts : (kind index : ℕ) (n : Node) → node_of kind index ≡ Some n → IsTrue (is_index index) → (kind ∷ uleb index ≡ node_text n) × IsTrue (node_fits n)
node_of-parts kind index n e small =
    elim (cond-parts kind 0 (Some (Slot index)) (cond (eqb kind 1) (Some (Own index)) (cond (eqb kind 2) (Some (Glob index)) None)) (Some n) e) [
      | inl p ↦ subst (λ z. (kind ∷ uleb index ≡ node_text z) × IsTrue (node_fits z)) (same_Some _ n p.1) (ap (λ z. z ∷ uleb index) p.0, small)
      | inr q ↦ elim (cond-parts kind 1 (Some (Own index)) (cond (eqb kind 2) (Some (Glob index)) None) (Some n) q) [
        | inl p ↦ subst (λ z. (kind ∷ uleb index ≡ node_text z) × IsTrue (node_fits z)) (same_Some _ n p.1) (ap (λ z. z ∷ uleb index) p.0, small)
        | inr r ↦ elim (cond-parts kind 2 (Some (Glob index)) None (Some n) r) [
          | inl p ↦ subst (λ z. (kind ∷ uleb index ≡ node_text z) × IsTrue (node_fits z)) (same_Some _ n p.1) (ap (λ z. z ∷ uleb index) p.0, small)
          | inr none ↦ absurd (none-some n none)
        ]
      ]
    ]

node-parts : Parts node_from node_text node_fits
node-parts bytes rest v ok e =
    on_bind (byte_from bytes) _ (v, rest) e (λ kind kind_is e1.
    on_bind (index_from kind.1) _ (v, rest) e1 (λ index index_is e2.
    on_bind (node_of kind.0 index.0) _ (v, rest) e2 (λ n n_is e3.
    let p = byte-front kind.0 bytes kind.1 ok kind_is in
    let q = index-parts kind.1 index.1 index.0 p.left index_is in
    let r = node_of-parts kind.0 index.0 n n_is q.1 in
    Front-as node_text node_fits bytes index.1 rest n v e3
    (subst (λ z. Front z bytes index.1) r.0 (Front-join (kind.0 ∷ []) (uleb index.0) bytes kind.1 index.1 p q.0)) r.1)))

-- a field position
abbrev pub is_small : ℕ → Bool
is_small i = nat_lt i 32

position-parts : Parts (number_from 31) uleb is_small
position-parts bytes rest n ok e =
    let p = number-front 31 n bytes rest (omega arith) ok e in
    (p.0, le-leb (suc n) 32 (omega (arith, p.1)))

-- field positions
abbrev pub path_fits : List ℕ → Bool
path_fits path = nat_le (length path) 8 && list_all is_small path

path-parts : Parts (counted_from 8 (number_from 31)) (counted uleb) path_fits
path-parts = counted-parts 8 (number_from 31) uleb is_small (omega arith) position-parts

-- a label's openness
abbrev pub openness_text : Bool → List ℕ
openness_text b = cond b 1 0 ∷ []

openness_of-parts : (code : ℕ) (b : Bool) → openness_of code ≡ Some b → code ∷ [] ≡ openness_text b
openness_of-parts code b e =
    elim (cond-parts code 0 (Some false) (cond (eqb code 1) (Some true) None) (Some b) e) [
      | inl p ↦ subst (λ z. code ∷ [] ≡ openness_text z) (same_Some _ b p.1) (ap (λ z. z ∷ []) p.0)
      | inr q ↦ elim (cond-parts code 1 (Some true) None (Some b) q) [
        | inl p ↦ subst (λ z. code ∷ [] ≡ openness_text z) (same_Some _ b p.1) (ap (λ z. z ∷ []) p.0)
        | inr none ↦ absurd (none-some b none)
      ]
    ]

openness-parts : Parts openness_from openness_text any
openness-parts bytes rest v ok e =
    on_bind (byte_from bytes) _ (v, rest) e (λ code code_is e1.
    on_bind (openness_of code.0) _ (v, rest) e1 (λ b b_is e2.
    let p = byte-front code.0 bytes code.1 ok code_is in
    Front-as openness_text any bytes code.1 rest b v e2 (subst (λ z. Front z bytes code.1) (openness_of-parts code.0 b b_is) p) refl))

-- a label's bytes, and whether it may be written
abbrev pub label_text : Label → List ℕ
label_text l = counted uleb l.path ++ openness_text l.is_open

abbrev pub label_fits : Label → Bool
label_fits l = path_fits l.path

label-parts : Parts label_from label_text label_fits
label-parts bytes rest v ok e =
    on_bind (counted_from 8 (number_from 31) bytes) _ (v, rest) e (λ path path_is e1.
    on_bind (openness_from path.1) _ (v, rest) e1 (λ b b_is e2.
    let p = path-parts bytes path.1 path.0 ok path_is in
    let q = openness-parts path.1 b.1 b.0 p.0.left b_is in
    Front-as label_text label_fits bytes b.1 rest (record { path = path.0; is_open = b.0 }) v e2
    (Front-join (counted uleb path.0) (openness_text b.0) bytes path.1 b.1 p.0 q.0) p.1))

-- an edge's text, part by part
pub edge_as : (e : Edge) → (node_text e.from ++ node_text e.to) ++ label_text e.label ≡ edge_text e
edge_as e = sym (append_assoc (node_text e.from ++ node_text e.to) (counted uleb e.label.path) (openness_text e.label.is_open))

pub edge-parts : (m : Module) (d : FunctionDefinition) → Parts (edge_from m d) edge_text (edge_fits m d)
edge-parts m d bytes rest v ok e =
    on_bind (node_from bytes) _ (v, rest) e (λ f f_is e1.
    on_bind (node_from f.1) _ (v, rest) e1 (λ t t_is e2.
    on_bind (label_from t.1) _ (v, rest) e2 (λ l l_is e3.
    let p = node-parts bytes f.1 f.0 ok f_is in
    let q = node-parts f.1 t.1 t.0 p.0.left t_is in
    let r = label-parts t.1 l.1 l.0 q.0.left l_is in
    let edge : Edge = record { from = f.0; label = l.0; to = t.0 } in
    let s = then_some-parts (edge_fits m d edge) (edge, l.1) (v, rest) e3 in
    let both : Front (node_text f.0 ++ node_text t.0) bytes t.1 = Front-join (node_text f.0) (node_text t.0) bytes f.1 t.1 p.0 q.0 in
    let whole : Front ((node_text f.0 ++ node_text t.0) ++ label_text l.0) bytes l.1 = Front-join (node_text f.0 ++ node_text t.0) (label_text l.0) bytes t.1 l.1 both r.0 in
    Front-as edge_text (edge_fits m d) bytes l.1 rest edge v (ap Some s.1) (subst (λ z. Front z bytes l.1) (edge_as edge) whole) s.0)))

-- edges that are few, fit and ascend
abbrev pub edges_fit : Module → FunctionDefinition → List Edge → Bool
edges_fit m d es = (nat_le (length es) 1024 && list_all (edge_fits m d) es) && are_ascending es

pub edges-parts : (m : Module) (d : FunctionDefinition) → Parts (edges_from m d) (counted edge_text) (edges_fit m d)
edges-parts m d bytes rest v ok e =
    on_bind (counted_from 1024 (edge_from m d) bytes) _ (v, rest) e (λ es es_is e1.
    let p = counted-parts 1024 (edge_from m d) edge_text (edge_fits m d) (omega arith) (edge-parts m d) bytes es.1 es.0 ok es_is in
    let s = then_some-parts (are_ascending es.0) es (v, rest) e1 in
    Front-as (counted edge_text) (edges_fit m d) bytes es.1 rest es.0 v (ap Some s.1) p.0
    (and_from (nat_le (length es.0) 1024 && list_all (edge_fits m d) es.0) (are_ascending es.0) p.1 s.0))

-- a state that fits, by its parts
known-fits : (m : Module) (d : FunctionDefinition) (k : Known) (tokens : List Token) → local_tokens m d ≡ Some tokens → length k.locals ≡ length tokens
    → IsTrue (edges_fit m d k.edges) → IsTrue (known_fits m d k)
known-fits m d k tokens is same ok =
    let long : IsTrue (option_map_or (λ t. length k.locals == length t) (local_tokens m d) false) = ap (λ o. option_map_or (λ t. length k.locals == length t) o false) is ∙ eq-eqb (length k.locals) (length tokens) same in
    let p = and_parts (nat_le (length k.edges) 1024 && list_all (edge_fits m d) k.edges) (are_ascending k.edges) ok in
    let q = and_parts (nat_le (length k.edges) 1024) (list_all (edge_fits m d) k.edges) p.0 in
    and_from _ (are_ascending k.edges) (and_from _ (list_all (edge_fits m d) k.edges) (and_from _ (nat_le (length k.edges) 1024) long q.0) q.1) p.1

pub known-parts : (m : Module) (d : FunctionDefinition) → Parts (known_from m d) known_text (known_fits m d)
known-parts m d bytes rest v ok e =
    on_bind (local_tokens m d) _ (v, rest) e (λ tokens tokens_is e1.
    on_bind (entries_from availability_from (length tokens) bytes) _ (v, rest) e1 (λ l l_is e2.
    on_bind (edges_from m d l.1) _ (v, rest) e2 (λ es es_is e3.
    let p = entries-front availability_from availability_text any availability-parts (length tokens) bytes l.1 l.0 ok l_is in
    let q = edges-parts m d l.1 es.1 es.0 p.0.left es_is in
    let known : Known = record { locals = l.0; edges = es.0 } in
    let locals : Front (map availability_code l.0) bytes l.1 = subst (λ z. Front z bytes l.1) (flat_map_single availability_code l.0) p.0 in
    Front-as known_text (known_fits m d) bytes es.1 rest known v e3 (Front-join (map availability_code l.0) (counted edge_text es.0) bytes l.1 es.1 locals q.0)
    (known-fits m d known tokens tokens_is p.2 q.1))))

-- what is stated of a block fits
abbrev pub block_fits : Module → FunctionDefinition → Option Known → Bool
block_fits m d k = option_map_or (known_fits m d) k true

-- what is read of a block: its text, which fits and has the mark
pub record BlockRead (m : Module) (d : FunctionDefinition) (mark : Bool) (bytes rest : List ℕ) (k : Option Known) : Type 0 where
  pub front : Front (stated_text k) bytes rest
  pub fits : IsTrue (block_fits m d k)
  pub mark_is : is_some k ≡ mark

pub block-parts : (m : Module) (d : FunctionDefinition) (mark : Bool) (bytes rest : List ℕ) (k : Option Known) → AreBytes bytes
    → block_from m d mark bytes ≡ Some (k, rest) → BlockRead m d mark bytes rest k
block-parts m d true bytes rest k ok e =
    on_bind (mark_from 1 bytes) _ (k, rest) e (λ r r_is e1.
    on_bind (known_from m d r) _ (k, rest) e1 (λ known known_is e2.
    let p = mark-front 1 bytes r ok r_is in
    let q = known-parts m d r known.1 known.0 p.left known_is in
    let s = some_pair_parts (Some known.0) k known.1 rest e2 in
    subst (λ z. BlockRead m d true bytes z k) s.1 (subst (λ z. BlockRead m d true bytes known.1 z) s.0
    (record { front = Front-join (1 ∷ []) (known_text known.0) bytes r known.1 p q.0; fits = q.1; mark_is = refl }))))
block-parts m d false bytes rest k ok e =
    on_bind (mark_from 0 bytes) _ (k, rest) e (λ r r_is e1.
    let p = mark-front 0 bytes r ok r_is in
    let s = some_pair_parts None k r rest e1 in
    subst (λ z. BlockRead m d false bytes z k) s.1 (subst (λ z. BlockRead m d false bytes r z) s.0
    (record { front = p; fits = refl; mark_is = refl })))

-- what is read of the blocks of a function
pub record StatedRead (m : Module) (d : FunctionDefinition) (marks : List Bool) (bytes rest : List ℕ) (ks : Stated) : Type 0 where
  pub front : Front (flat_map stated_text ks) bytes rest
  pub fits : IsTrue (list_all (block_fits m d) ks)
  pub marks_are : map is_some ks ≡ marks

pub stated-parts : (m : Module) (d : FunctionDefinition) (marks : List Bool) (bytes rest : List ℕ) (ks : Stated) → AreBytes bytes
    → stated_from m d marks bytes ≡ Some (ks, rest) → StatedRead m d marks bytes rest ks
stated-parts m d [] bytes rest ks ok e =
    let s = some_pair_parts [] ks bytes rest e in
    subst (λ z. StatedRead m d [] bytes rest z) s.0 (record { front = Front-from [] bytes rest ok s.1; fits = refl; marks_are = refl })
stated-parts m d (b ∷ marks) bytes rest ks ok e =
    on_bind (block_from m d b bytes) _ (ks, rest) e (λ k k_is e1.
    on_bind (stated_from m d marks k.1) _ (ks, rest) e1 (λ more more_is e2.
    let p = block-parts m d b bytes k.1 k.0 ok k_is in
    let q = stated-parts m d marks k.1 more.1 more.0 p.front.left more_is in
    let s = some_pair_parts (k.0 ∷ more.0) ks more.1 rest e2 in
    subst (λ z. StatedRead m d (b ∷ marks) bytes z ks) s.1 (subst (λ z. StatedRead m d (b ∷ marks) bytes more.1 z) s.0
    (record {
      front = Front-join (stated_text k.0) (flat_map stated_text more.0) bytes k.1 more.1 p.front q.front;
      fits = and_from (block_fits m d k.0) (list_all (block_fits m d) more.0) p.fits q.fits;
      marks_are = ap (λ z. z ∷ map is_some more.0) p.mark_is ∙ ap (λ z. b ∷ z) q.marks_are;
    }))))
