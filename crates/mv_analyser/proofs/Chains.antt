-- How often states rise: availabilities no more often than there are locals, and edges never where no local is a reference.
use Rattle.std.proofs.Common.{◌≡◌, ℕ, zero, suc, ◌+◌, ◌<◌, ◌≤◌, true, false, List, [], ◌∷◌, length, ◌⊎◌, ⊎_elim, inl, inr, Option, Some, None, IsTrue, refl, sym, ap, ◌∙◌, subst, arith, true≢false}
use Rattle.std.specs.Option.{option_map_or}
use Rattle.std.specs.Prelude.{⊤}
use Rattle.std.proofs.lemmas.Bool.{and_parts, false≢true}
use Rattle.mv_move_types.specs.declared.borrow.Availability.{Availability}
use Rattle.mv_move_types.specs.declared.borrow.Availability.TheVariants.{Unavailable, Available, Maybe}
use Rattle.mv_move_types.specs.declared.borrow.Node.{Node}
use Rattle.mv_move_types.specs.declared.borrow.Node.TheVariants.{Slot, Own, Glob, Temp}
use Rattle.mv_move_types.specs.declared.token.Token.{Token}
use Rattle.mv_move_types.specs.Module.{Module, FunctionDefinition, local_type}
use Rattle.mv_bound_rules.specs.Bounds.{local_count}
use Rattle.mv_edges.specs.Edges.{Edge, edges_leq}
use Rattle.mv_edges.specs.Ascending.{are_ascending}
use Rattle.mv_lattice.specs.Flow.{IsRisen}
use Rattle.mv_lattice.specs.Work.{HasLarge, HasChain}
use Rattle.mv_certificate_rules.specs.LocalsRules.{locals_leq}
use Rattle.mv_locals_safety.specs.Domain.{IsOfLocals, locals_order}
use Rattle.mv_borrow_graph.specs.Domain.{edges_order}
use Rattle.mv_certificate_rules.proofs.LocalsOrder.{leq_reflexive}
use Rattle.mv_certificate_rules.specs.BorrowRules.{is_reference_token}
use Rattle.mv_certificate_rules.specs.Nodes.{leads_in, edge_is_there, may_begin_with, are_few}
use Rattle.mv_borrow_graph.specs.Laws.There.{there_parts}
use Rattle.mv_analyser.specs.Principal.{HasPlainLocals}
use Rattle.mv_lattice.proofs.Rises.{risen_has}
use Rattle.mv_type_rules.specs.TypesHold.{point_at}

-- how many are unknown
abbrev maybes : List Availability → ℕ
maybes [] = 0
maybes (Unavailable ∷ a) = maybes a
maybes (Available ∷ a) = maybes a
maybes (Maybe ∷ a) = 1 + maybes a

maybes_few : (a : List Availability) → maybes a ≤ length a
maybes_few [] = omega arith
maybes_few (Unavailable ∷ a) = omega (arith, maybes_few a)
maybes_few (Available ∷ a) = omega (arith, maybes_few a)
maybes_few (Maybe ∷ a) = omega (arith, maybes_few a)

-- what is above another has more unknown, or is the other
grows : (a b : List Availability) → locals_leq a b ≡ true → (maybes a < maybes b) ⊎ (a ≡ b)
grows [] [] p = inr refl
grows [] (y ∷ b) p = absurd (true≢false (sym p))
grows (x ∷ a) [] p = absurd (true≢false (sym p))
grows (Unavailable ∷ a) (Unavailable ∷ b) p = ⊎_elim inl (λ e. inr (ap (λ r. Unavailable ∷ r) e)) (grows a b p)
grows (Unavailable ∷ a) (Available ∷ b) p = absurd (true≢false (sym p))
grows (Unavailable ∷ a) (Maybe ∷ b) p = ⊎_elim (λ h. inl (omega (arith, h))) (λ e. let same : maybes a ≡ maybes b = ap maybes e in inl (omega (arith, same))) (grows a b p)
grows (Available ∷ a) (Unavailable ∷ b) p = absurd (true≢false (sym p))
grows (Available ∷ a) (Available ∷ b) p = ⊎_elim inl (λ e. inr (ap (λ r. Available ∷ r) e)) (grows a b p)
grows (Available ∷ a) (Maybe ∷ b) p = ⊎_elim (λ h. inl (omega (arith, h))) (λ e. let same : maybes a ≡ maybes b = ap maybes e in inl (omega (arith, same))) (grows a b p)
grows (Maybe ∷ a) (Unavailable ∷ b) p = absurd (true≢false (sym p))
grows (Maybe ∷ a) (Available ∷ b) p = absurd (true≢false (sym p))
grows (Maybe ∷ a) (Maybe ∷ b) p = ⊎_elim (λ h. inl (omega (arith, h))) (λ e. inr (ap (λ r. Maybe ∷ r) e)) (grows a b p)

abbrev pub Leq : List Availability → List Availability → Type 0
Leq a b = IsTrue (locals_leq a b)

module _ (P : List Availability → Type 0) where
  risen_few : (n : ℕ) (s : List Availability) → IsRisen P Leq n s → n ≤ maybes s
  unfolding IsRisen
  risen_few zero s r = omega arith
  risen_few (suc n) s r =
      let low = risen_few n r.1.0 r.1.1.0 in
      ⊎_elim (λ h. omega (arith, h, low)) (λ e. absurd (r.1.1.2 (subst (λ x. Leq x r.1.0) e (leq_reflexive r.1.0)))) (grows r.1.0 s r.1.1.1)

-- availabilities of so few locals do not rise so often
pub few_rises : (m : Module) (d : FunctionDefinition) → local_count m d ≤ 64 → HasChain (locals_order m d) → ⊥
few_rises m d few chain =
    let is = (risen_has (λ s. IsOfLocals m d s × ⊤) Leq 256 chain.0 chain.1).0 in
    let h = risen_few (λ s. IsOfLocals m d s × ⊤) 256 chain.0 chain.1 in
    let most = maybes_few chain.0 in
    omega (arith, is, h, most, few)

-- where no local is a reference, a block begins with no edges
leads_nowhere : (m : Module) (d : FunctionDefinition) → HasPlainLocals m d → (n : Node) → leads_in (point_at m d []) n ≡ true → ⊥
leads_nowhere m d plain (Slot l) h = by_type (local_type m d l) refl h
  where
    by_type : (o : Option Token) → local_type m d l ≡ o → option_map_or is_reference_token o false ≡ true → ⊥
    by_type None e t = false≢true t
    by_type (Some t) e r = true≢false (sym r ∙ plain l t e)
leads_nowhere m d plain (Own l) h = false≢true h
leads_nowhere m d plain (Glob t) h = false≢true h
leads_nowhere m d plain (Temp k) h = false≢true h

pub no_edges : (m : Module) (d : FunctionDefinition) → HasPlainLocals m d → (s : List Edge) → may_begin_with m d s ≡ true → s ≡ []
no_edges m d plain [] h = refl
no_edges m d plain (e ∷ s) h =
    let first = (and_parts (edge_is_there (point_at m d []) e) (may_begin_with m d s) h).0 in
    absurd (leads_nowhere m d plain e.to (there_parts (point_at m d []) e first).into)

abbrev Begins : Module → FunctionDefinition → List Edge → Type 0
Begins m d s = IsTrue (are_ascending s) × IsTrue (may_begin_with m d s)

never_risen : (m : Module) (d : FunctionDefinition) → HasPlainLocals m d → (n : ℕ) (s : List Edge) → IsRisen (Begins m d) (λ a b. IsTrue (edges_leq a b)) (suc n) s → ⊥
unfolding IsRisen
never_risen m d plain n s r = r.1.1.2 (subst (λ x. edges_leq x r.1.0 ≡ true) (sym (no_edges m d plain s r.0.1)) refl)

-- such edges are few, and do not rise
pub never_large : (m : Module) (d : FunctionDefinition) → HasPlainLocals m d → HasLarge (edges_order m d) → ⊥
never_large m d plain large = large.1.1.1 (subst (λ x. are_few x ≡ true) (sym (no_edges m d plain large.0 large.1.1.0)) refl)

pub never_rises : (m : Module) (d : FunctionDefinition) → HasPlainLocals m d → HasChain (edges_order m d) → ⊥
never_rises m d plain chain = never_risen m d plain 255 chain.0 chain.1
