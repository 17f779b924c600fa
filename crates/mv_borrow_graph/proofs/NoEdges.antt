-- What the rules make of no edges.
use Rattle.std.proofs.Common.{◌≡◌, ℕ, ◌+◌, true, List, [], ◌∷◌, Option, Some, None, refl, ◌∙◌}
use Rattle.std.specs.Prelude.{is_some, IfSome}
use Rattle.std.specs.List.{list_all}
use Rattle.mv_move_types.specs.declared.token.Token.{Token}
use Rattle.mv_move_types.specs.declared.token.Token.TheVariants.{Plain, Reference, MutableReference}
use Rattle.mv_move_types.specs.declared.borrow.Node.{Node}
use Rattle.mv_move_types.specs.declared.borrow.Node.TheVariants.{Temp}
use Rattle.mv_move_types.specs.Module.{own_acquires}
use Rattle.mv_type_rules.specs.TypesHold.{Point}
use Rattle.mv_edges.specs.Edges.{Edge, without_each}
use Rattle.mv_certificate_rules.specs.BorrowRules.{is_mutable_token, is_reference_token, no_edge_out, opened_edges, result_edges, reference_nodes, call_edges}
use Rattle.mv_borrow_graph.specs.Calls.{call_after, needed_free}

-- nothing is left of no edges
without_each-none : (ns : List Node) → without_each ns [] ≡ []
without_each-none [] = refl
without_each-none (n ∷ ns) = without_each-none ns

-- none leads out of these nodes
free-none : (ns : List Node) → list_all (λ n. no_edge_out n []) ns ≡ true
free-none [] = refl
free-none (n ∷ ns) = free-none ns

opened_edges-none : (ns : List Node) (new : Node) → opened_edges ns new [] ≡ []
opened_edges-none [] new = refl
opened_edges-none (n ∷ ns) new = opened_edges-none ns new

-- results take over none
result_edges-none : (mutable all : List Node) (k : ℕ) (ts : List Token) → result_edges mutable all k ts [] ≡ []
result_edges-none mutable all k [] = refl
result_edges-none mutable all k (Plain t ∷ ts) = result_edges-none mutable all (k + 1) ts
result_edges-none mutable all k (Reference t ∷ ts) = rw (opened_edges-none all (Temp k)) (result_edges-none mutable all (k + 1) ts)
result_edges-none mutable all k (MutableReference t ∷ ts) = rw (opened_edges-none mutable (Temp k)) (result_edges-none mutable all (k + 1) ts)

-- a call whose handle and signatures are there adds none
pub call_none : {C : Type 0} (p : Point) (i : ℕ) (place : C → ℕ) (ps rs : C → List Token) (found : Option C)
    → IfSome found (λ c. (s : List Edge) → call_edges p i s ≡ call_after p i (place c) (ps c) (rs c) s) → is_some found ≡ true → call_edges p i [] ≡ Some []
call_none p i place ps rs None is some = cc
call_none p i place ps rs (Some c) is some =
    let mutable = reference_nodes is_mutable_token (place c) (ps c) in
    let all = reference_nodes is_reference_token (place c) (ps c) in
    is [] ∙ rw (free-none (needed_free (place c) (ps c) (own_acquires p.home i)), without_each-none all, result_edges-none mutable all (place c) (rs c)) refl
