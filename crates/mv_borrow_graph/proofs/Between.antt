-- What is asked of the edges between some nodes and others, in the words of the rules.
use Rattle.std.proofs.Common.{◌≡◌, ℕ, Bool, true, false, ◌&&◌, ◌||◌, List, Some, None, refl, sym, ap, ◌∙◌}
use Rattle.std.specs.List.{list_any}
use Rattle.mv_move_types.specs.declared.borrow.Node.{Node}
use Rattle.mv_type_rules.specs.TypesHold.{Point}
use Rattle.mv_edges.specs.Edges.{Edge, same_node, agrees, out_of}
use Rattle.mv_ways.specs.Between.{any_between}
use Rattle.mv_edges.proofs.Any.{list_any-alike, list_any-filter}
use Rattle.mv_certificate_rules.specs.BorrowRules.{is_mutable, is_root_node, is_temp}
use Rattle.std.proofs.Math.Bool.{and_comm, and-true}

swapped_behind : (b x y : Bool) → (b && (x && y)) ≡ (b && (y && x))
swapped_behind false x y = refl
swapped_behind true x y = and_comm x y

module _ (p : Point) (s : List Edge) where
  -- from a node to a mutable reference
  pub to_mutable : (n : Node) → any_between (λ m. same_node m n) None (is_mutable p) s ≡ list_any (λ e. is_mutable p e.to) (out_of n s)
  to_mutable n = sym (list_any-filter (λ e. is_mutable p e.to) (λ e. same_node e.from n) s)

  -- the same by an edge that agrees with a position
  pub to_mutable_at : (n : Node) (f : ℕ) → any_between (λ m. same_node m n) (Some f) (is_mutable p) s ≡ list_any (λ e. is_mutable p e.to && agrees f e.label) (out_of n s)
  to_mutable_at n f =
      list_any-alike (λ e. same_node e.from n && (agrees f e.label && is_mutable p e.to)) (λ e. same_node e.from n && (is_mutable p e.to && agrees f e.label))
      (λ e. swapped_behind (same_node e.from n) (agrees f e.label) (is_mutable p e.to)) s
      ∙ sym (list_any-filter (λ e. is_mutable p e.to && agrees f e.label) (λ e. same_node e.from n) s)

  -- the same to any node
  pub to_any_at : (n : Node) (f : ℕ) → any_between (λ m. same_node m n) (Some f) (λ m. true) s ≡ list_any (λ e. agrees f e.label) (out_of n s)
  to_any_at n f =
      list_any-alike (λ e. same_node e.from n && (agrees f e.label && true)) (λ e. same_node e.from n && agrees f e.label)
      (λ e. ap (λ b. same_node e.from n && b) (and-true (agrees f e.label))) s
      ∙ sym (list_any-filter (λ e. agrees f e.label) (λ e. same_node e.from n) s)

  -- from what holds a result to a result
  pub to_results : any_between (λ n. is_root_node n || is_temp n && is_mutable p n) None is_temp s
      ≡ list_any (λ e. is_temp e.to && (is_root_node e.from || is_temp e.from && is_mutable p e.from)) s
  to_results =
      list_any-alike (λ e. (is_root_node e.from || is_temp e.from && is_mutable p e.from) && is_temp e.to) (λ e. is_temp e.to && (is_root_node e.from || is_temp e.from && is_mutable p e.from))
      (λ e. and_comm (is_root_node e.from || is_temp e.from && is_mutable p e.from) (is_temp e.to)) s
