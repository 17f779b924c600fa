use Rattle.std.proofs.Common.{◌++◌, ◌∙◌, ◌∷◌, ◌≡◌, ◌⊎◌, List, Option, [], ap, arith, inl, inr, length, refl, sym}
use Rattle.std.proofs.lemmas.List.{append-nil}
use Rattle.std.specs.Slice.Iter.{iter_rest}
use Rattle.mv_edges.specs.Edges.{Edge}
use Rattle.mv_certificate_rules.specs.Certificate.{Stated}
use Rattle.mv_analyser.specs.States.{with_edges}
use Rattle.mv_analyser.proofs.borrows.stated_and.Goals as goal

-- where one of both ends, no block is left
none_left : (stated : Stated) (edges : List (Option (List Edge))) → (length stated ≡ 0) ⊎ (length edges ≡ 0) → with_edges stated edges ≡ []
none_left [] edges end = refl
none_left (known ∷ stated) [] end = refl
none_left (known ∷ stated) (first ∷ edges) (inl end) = absurd (omega (arith, end))
none_left (known ∷ stated) (first ∷ edges) (inr end) = absurd (omega (arith, end))

-- so those that are made are all
ended : (made whole stated : Stated) (edges : List (Option (List Edge))) → (length stated ≡ 0) ⊎ (length edges ≡ 0) → made ++ with_edges stated edges ≡ whole → made ≡ whole
ended made whole stated edges end is = sym (append-nil made) ∙ ap (λ z. made ++ z) (sym (none_left stated edges end)) ∙ is

pub returns : goal.returns
returns c =
    let stated = iter_rest c.loop-known.known-iterator.a in
    let edges = c.loop-known.known-iterator.b.rest.items in
    let end : (length stated ≡ 0) ⊎ (length edges ≡ 0) = elim c.in-None.ensures.steps [
      | inl e ↦ inl e.1.0
      | inr e ↦ inr (sym c.loop-known.known-iterator.b.rest.ok.0 ∙ e.1.0)
    ] in
    ended _ _ stated edges end c.loop-known.invariant
