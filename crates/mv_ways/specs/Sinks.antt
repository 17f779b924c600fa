-- What sinks keep: no edges change nothing, edges are told one after the other, and their order doesn't matter.
use Rattle.std.proofs.Common.{◌≡◌, ◌∙◌, sym, ap, append-nil, append_assoc, refl, Bool, ◌&&◌, List, [], ◌++◌}
use Rattle.std.proofs.Math.Bool.{and_assoc}
use Rattle.std.specs.List.{list_all, list_any}
use Rattle.mv_edges.proofs.Common.{list_all-append}
use Rattle.mv_edges.proofs.AsSets.{all-sorted, leq-sorted, sorted-append}
use Rattle.mv_edges.specs.Edges.{Edge, edge_leq, edges_leq}
use Rattle.mv_edges.specs.Sorted.{sorted}

-- edges of two lists
pub leq_append : (es fs others : List Edge) → edges_leq (es ++ fs) others ≡ (edges_leq es others && edges_leq fs others)
leq_append es fs others = list_all-append (λ e. list_any (edge_leq e) others) es fs

pub under_joined : (r s t : Bool) (others its : List Edge) (es fs : List Edge) → its ≡ others → s ≡ (r && edges_leq es others) → t ≡ (s && edges_leq fs its) → t ≡ (r && edges_leq (es ++ fs) others)
under_joined r s t others its es fs same first second =
    second ∙ ap (λ b. b && edges_leq fs its) first ∙ and_assoc r (edges_leq es others) (edges_leq fs its)
    ∙ ap (λ us. r && (edges_leq es others && edges_leq fs us)) same ∙ ap (λ b. r && b) (sym (leq_append es fs others))

pub under_alike : (holds : Bool) (others es fs : List Edge) → sorted es ≡ sorted fs → (holds && edges_leq es others) ≡ (holds && edges_leq fs others)
under_alike holds others es fs same = ap (λ b. holds && b) (sym (leq-sorted es others) ∙ ap (λ xs. edges_leq xs others) same ∙ leq-sorted fs others)

-- ---- edges that are listed

pub listed_none : (items : List Edge) → sorted items ≡ sorted (items ++ [])
listed_none items = ap sorted (sym (append-nil items))

pub listed_joined : (r s t es fs : List Edge) → sorted s ≡ sorted (r ++ es) → sorted t ≡ sorted (s ++ fs) → sorted t ≡ sorted (r ++ (es ++ fs))
listed_joined r s t es fs first second = second ∙ sorted-append s (r ++ es) fs fs first refl ∙ ap sorted (append_assoc r es fs)

-- ---- a test that all edges pass

pub every_joined : {T : Type 0} (test : T → Edge → Bool) (its theirs : T) (r s t : Bool) (es fs : List Edge) → theirs ≡ its → s ≡ (r && list_all (test its) es) → t ≡ (s && list_all (test theirs) fs)
    → t ≡ (r && list_all (test its) (es ++ fs))
every_joined test its theirs r s t es fs same first second =
    second ∙ ap (λ x. s && list_all (test x) fs) same ∙ ap (λ b. b && list_all (test its) fs) first ∙ and_assoc r (list_all (test its) es) (list_all (test its) fs)
    ∙ ap (λ b. r && b) (sym (list_all-append (test its) es fs))

pub every_alike : (test : Edge → Bool) (holds : Bool) (es fs : List Edge) → sorted es ≡ sorted fs → (holds && list_all test es) ≡ (holds && list_all test fs)
every_alike test holds es fs same = ap (λ b. holds && b) (sym (all-sorted test es) ∙ ap (list_all test) same ∙ all-sorted test fs)
