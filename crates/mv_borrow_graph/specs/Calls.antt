-- What has to be free where a function is called, and what the call leaves. Its arguments stand on the stack from a place on.
--   needed_free place parameters acquired       the nodes of the mutable arguments, and the globals that it acquires
--   tied_edges place parameters results edges   the edges with its results tied to its arguments, which are taken
--   call_after p i place parameters results     the edges after it, if what it needs is free
--   is_marked marks t                           whether a global has a mark
--   AreMarks marks acquired                     as far as the marks go, those globals have one that are acquired
use Rattle.std.specs.Prelude.{◌≡◌, ℕ, ◌<◌, ◌==◌, Bool, false, List, ◌++◌, map, length, slice_index_or, Option}
use Rattle.std.specs.Bool.{then_some}
use Rattle.std.specs.List.{list_all, list_any}
use Rattle.mv_move_types.specs.declared.token.Token.{Token}
use Rattle.mv_move_types.specs.declared.borrow.Node.{Node}
use Rattle.mv_move_types.specs.declared.borrow.Node.TheVariants.{Glob}
use Rattle.mv_move_types.specs.Module.{own_acquires}
use Rattle.mv_type_rules.specs.TypesHold.{Point}
use Rattle.mv_edges.specs.Edges.{Edge, without_each}
use Rattle.mv_certificate_rules.specs.BorrowRules.{is_mutable_token, is_reference_token, no_edge_out, reference_nodes, result_edges}

-- the mutable arguments, and the globals that the function acquires
abbrev pub needed_free : ℕ → List Token → List ℕ → List Node
needed_free place parameters acquired = reference_nodes is_mutable_token place parameters ++ map (λ t. Glob t) acquired

-- the results take over what leads into the arguments, which are taken
abbrev pub tied_edges : ℕ → List Token → List Token → List Edge → List Edge
tied_edges place parameters results edges =
    let mutable = reference_nodes is_mutable_token place parameters in
    let all = reference_nodes is_reference_token place parameters in
    without_each all edges ++ result_edges mutable all place results edges

-- a call needs its mutable arguments and the globals that it acquires to be free
abbrev pub call_after : Point → ℕ → ℕ → List Token → List Token → List Edge → Option (List Edge)
call_after p i place parameters results edges =
    then_some (list_all (λ n. no_edge_out n edges) (needed_free place parameters (own_acquires p.home i))) (tied_edges place parameters results edges)

-- whether there is a mark at the place of a global
abbrev pub is_marked : List Bool → ℕ → Bool
is_marked marks t = slice_index_or marks t false

-- of the globals that have a place, those have a mark that are acquired
abbrev pub AreMarks : List Bool → List ℕ → Type 0
AreMarks marks acquired = (t : ℕ) → t < length marks → is_marked marks t ≡ list_any (λ u. t == u) acquired
