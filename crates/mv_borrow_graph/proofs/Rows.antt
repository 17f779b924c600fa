-- What the rows of the rules make of edges.
use Rattle.std.proofs.Common.{◌≡◌, ℕ, Bool, true, false, not, List, [], ◌∷◌, ◌++◌, length, drop, get_or, slice_get, ◌+◌, ◌-◌, ◌<◌, ◌≤◌, Option}
use Rattle.std.proofs.Common.{Some, None, Result, Ok, Err, refl, sym, ap, ◌∙◌, subst, arith, append_assoc, append-nil}
use Rattle.std.specs.Bool.{then_some}
use Rattle.std.specs.List.{list_any}
use Rattle.std.specs.Option.{option_map_or}
use Rattle.std.specs.Prelude.{if◌then◌else◌, is_some, IsSome, OnOk}
use Rattle.std.proofs.lemmas.List.{drop_more, drop_all}
use Rattle.mv_move_types.specs.declared.token.Token.{Token}
use Rattle.mv_move_types.specs.declared.token.Token.TheVariants.{Plain, Reference, MutableReference}
use Rattle.mv_move_types.specs.declared.token.ValueType.{ValueType}
use Rattle.mv_move_types.specs.declared.borrow.Node.{Node}
use Rattle.mv_move_types.specs.declared.borrow.Node.TheVariants.{Slot, Temp}
use Rattle.mv_move_types.specs.declared.tables.FunctionHandle.{FunctionHandle}
use Rattle.mv_move_types.specs.Options.{◌>>=◌}
use Rattle.mv_move_types.specs.Module.{own_acquires}
use Rattle.mv_type_rules.specs.TypesHold.{Point}
use Rattle.mv_edges.specs.Ascending.{are_ascending}
use Rattle.mv_edges.specs.Edges.{Edge, here, inherited, an_edge}
use Rattle.mv_edges.specs.Sorted.{sorted}
use Rattle.mv_certificate_rules.specs.BorrowRules.{next_temp, no_edge_out, copy_edges, is_mutable_token, opened_edges, result_edges, reference_nodes, call_edges}
use Rattle.mv_borrow_graph.specs.Calls.{call_after, tied_edges}
use Rattle.mv_borrow_graph.specs.Domain.{ordered}
use Rattle.mv_borrow_graph.proofs.Free.{both_kinds}
use Rattle.mv_edges.proofs.InOrder.{sorted_first}
pub use Rattle.mv_edges.proofs.Sorting.{sorted-ascending as kept_order}

-- ---- what is needed, asked

some_if : (b : Bool) (edges : List Edge) → b ≡ is_some (then_some b edges)
some_if true edges = refl
some_if false edges = refl

pub met_if : (r b : Bool) (edges : List Edge) → r ≡ b → r ≡ is_some (then_some b edges)
met_if r b edges is = is ∙ some_if b edges

-- of a field, if it is there
pub field_met : (o : Option ℕ) (r : Bool) (asked forbids : ℕ → Bool) (after : ℕ → List Edge) → ((f : ℕ) → asked f ≡ forbids f)
    → r ≡ option_map_or (λ f. not (asked f)) o false → r ≡ is_some (o >>= λ f. then_some (not (forbids f)) (after f))
field_met None r asked forbids after same is = is
field_met (Some f) r asked forbids after same is = is ∙ ap not (same f) ∙ some_if (not (forbids f)) (after f)

-- ---- where it is found

pub kept_if : (b : Bool) (edges : List Edge) → IsSome (then_some b edges) → then_some b edges ≡ Some edges
kept_if true edges met = refl
kept_if false edges met = cc

-- edges that are left are in their order
pub left_if : (b : Bool) (edges : List Edge) → are_ascending edges ≡ true → IsSome (then_some b edges) → ordered (then_some b edges) ≡ Some edges
left_if b edges ascend met = ap ordered (kept_if b edges met) ∙ ap Some (kept_order edges ascend)

pub after_if : (b : Bool) (edges new : List Edge) → new ≡ sorted edges → IsSome (then_some b edges) → ordered (then_some b edges) ≡ Some new
after_if b edges new is met = ap ordered (kept_if b edges met) ∙ ap Some (sym is)

pub ok_if : {E : Type 0} (r : Result (Unit {0}) E) (b : Bool) (edges new : List Edge) → OnOk r (new ≡ sorted edges) → IsSome (then_some b edges)
    → OnOk r (ordered (then_some b edges) ≡ Some new)
ok_if (Ok done) b edges new is met = after_if b edges new is met
ok_if (Err e) b edges new is met = tt

-- a mutable one is its child, too
pub copied_mutably : {E : Type 0} (p : Point) (l : ℕ) (t : ValueType) (s both after : List Edge) (next : Node) (o : Option Token) (token : Token) (r : Result (Unit {0}) E)
    → o ≡ Some token → token ≡ MutableReference t → both ≡ sorted (s ++ inherited (λ label. label) (Slot l) next s) → next ≡ next_temp p
    → OnOk r (after ≡ sorted (both ++ an_edge (Slot l) here next ∷ [])) → IsSome (o >>= λ x. copy_edges p l x s) → OnOk r (ordered (o >>= λ x. copy_edges p l x s) ≡ Some after)
copied_mutably p l t s both after next o token r is is_token is_both is_next given =
    let own : Node → List Edge = λ n. s ++ inherited (λ label. label) (Slot l) n s in
    let child : Node → List Edge = λ n. an_edge (Slot l) here n ∷ [] in
    let same : sorted (both ++ child next) ≡ sorted (own (next_temp p) ++ child (next_temp p)) =
    ap (λ es. sorted (es ++ child next)) is_both ∙ sorted_first (own next) (child next) ∙ ap (λ n. sorted (own n ++ child n)) is_next in
    subst (λ (x : Option Token). IsSome (x >>= λ y. copy_edges p l y s) → OnOk r (ordered (x >>= λ y. copy_edges p l y s) ≡ Some after)) (ap Some (sym is_token) ∙ sym is)
    (ok_if r (no_edge_out (Slot l) s) (own (next_temp p) ++ child (next_temp p)) after (subst (λ es. OnOk r (after ≡ es)) same given))

-- a field is borrowed, by the position that its handle names
pub field_borrowed : {E : Type 0} (o : Option ℕ) (f : ℕ) (forbids : ℕ → Bool) (after : ℕ → List Edge) (new : List Edge) (r : Result (Unit {0}) E) → o ≡ Some f
    → OnOk r (new ≡ sorted (after f)) → IsSome (o >>= λ g. then_some (not (forbids g)) (after g)) → OnOk r (ordered (o >>= λ g. then_some (not (forbids g)) (after g)) ≡ Some new)
field_borrowed o f forbids after new r named is met =
    subst (λ (x : Option ℕ). IsSome (x >>= λ g. then_some (not (forbids g)) (after g)) → OnOk r (ordered (x >>= λ g. then_some (not (forbids g)) (after g)) ≡ Some new)) (sym named)
    (ok_if r (not (forbids f)) (after f) new is) met

-- ---- one step

-- where all edges are left
pub left : (o : Option (List Edge)) (s : List Edge) → are_ascending s ≡ true → o ≡ Some s → ordered o ≡ Some s
left o s ascend is = ap ordered is ∙ ap Some (kept_order s ascend)

-- where something is found, it is in its order
pub ordered_met : (o : Option (List Edge)) → IsSome o → IsSome (ordered o)
ordered_met None met = met
ordered_met (Some edges) met = refl

-- ---- calls

-- the edges of the first result, and of the others
pub result_edges-first : (m a : List Node) (k : ℕ) (t : Token) (ts : List Token) (s : List Edge) → result_edges m a k (t ∷ ts) s ≡ result_edges m a k (t ∷ []) s ++ result_edges m a (k + 1) ts s
result_edges-first m a k (Plain t) ts s = refl
result_edges-first m a k (Reference t) ts s = ap (λ x. x ++ result_edges m a (k + 1) ts s) (sym (append-nil (opened_edges a (Temp k) s)))
result_edges-first m a k (MutableReference t) ts s = ap (λ x. x ++ result_edges m a (k + 1) ts s) (sym (append-nil (opened_edges m (Temp k) s)))

-- where none is a mutable reference, none takes over from the mutable arguments
pub result_edges-immutable : (m n a : List Node) (k : ℕ) (ts : List Token) (s : List Edge) → list_any is_mutable_token ts ≡ false → result_edges m a k ts s ≡ result_edges n a k ts s
result_edges-immutable m n a k [] s none = refl
result_edges-immutable m n a k (Plain t ∷ ts) s none = result_edges-immutable m n a (k + 1) ts s none
result_edges-immutable m n a k (Reference t ∷ ts) s none = ap (λ x. opened_edges a (Temp k) s ++ x) (result_edges-immutable m n a (k + 1) ts s none)
result_edges-immutable m n a k (MutableReference t ∷ ts) s none = cc

-- a call, by what its handle names
pub called : (p : Point) (i : ℕ) (h : FunctionHandle) (ps rs : List Token) (place : ℕ) → slice_get p.home.function_handles i ≡ Some h → slice_get p.home.signatures h.parameters ≡ Some ps
    → slice_get p.home.signatures h.results ≡ Some rs → place ≡ length p.types - length ps → (s : List Edge) → call_edges p i s ≡ call_after p i place ps rs s
called p i h ps rs place handle parameters results is_place s =
    let base : ℕ = length p.types - length ps in
    rw (handle, parameters, results) (ap (λ b. then_some b (tied_edges base ps rs s)) (sym (both_kinds base ps (own_acquires p.home i) s)) ∙ ap (λ b. call_after p i b ps rs s) (sym is_place))

-- the nodes of one more type
nodes_more : (test : Token → Bool) (place i : ℕ) (types : List Token) (d : Token) → i < length types
    → reference_nodes test (place + i) (drop i types) ≡ (if test (get_or types i d) then (Temp (place + i) ∷ []) else []) ++ reference_nodes test (place + (i + 1)) (drop (i + 1) types)
nodes_more test place i types d h =
    let next : place + i + 1 ≡ place + (i + 1) = omega arith in
    ap (λ ts. reference_nodes test (place + i) ts) (drop_more types i d h)
    ∙ ap (λ k. (if test (get_or types i d) then (Temp (place + i) ∷ []) else []) ++ reference_nodes test k (drop (i + 1) types)) next

-- one more node, if it is picked
pub picked_more : (test : Token → Bool) (place i : ℕ) (types : List Token) (d : Token) (picked : Bool) (done new whole : List Node) → i < length types
    → picked ≡ test (get_or types i d) → new ≡ done ++ (if picked then (Temp (place + i) ∷ []) else [])
    → done ++ reference_nodes test (place + i) (drop i types) ≡ whole → new ++ reference_nodes test (place + (i + 1)) (drop (i + 1) types) ≡ whole
picked_more test place i types d picked done new whole h tested is rest =
    let one : Bool → List Node = λ b. if b then (Temp (place + i) ∷ []) else [] in
    let others : List Node = reference_nodes test (place + (i + 1)) (drop (i + 1) types) in
    ap (λ x. x ++ others) (is ∙ ap (λ b. done ++ one b) tested) ∙ append_assoc done (one (test (get_or types i d))) others
    ∙ ap (λ x. done ++ x) (sym (nodes_more test place i types d h)) ∙ rest

-- no type is left
pub picked_all : (test : Token → Bool) (place i : ℕ) (types : List Token) (done whole : List Node) → length types ≤ i
    → done ++ reference_nodes test (place + i) (drop i types) ≡ whole → done ≡ whole
picked_all test place i types done whole h rest =
    sym (append-nil done) ∙ ap (λ ts. done ++ reference_nodes test (place + i) ts) (sym (drop_all i types h)) ∙ rest
