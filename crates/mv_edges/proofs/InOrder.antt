-- Lists of edges put in order.
use Rattle.mv_edges.proofs.Common.{◌++◌, ◌∙◌, ◌≡◌, List, Edge, sorted}
use Rattle.mv_edges.proofs.Sorting.{sorted-append_swap, sorted-append_sorted}

-- the first part may be in order already
pub sorted_first : (es fs : List Edge) → sorted (sorted es ++ fs) ≡ sorted (es ++ fs)
sorted_first es fs = sorted-append_swap (sorted es) fs ∙ sorted-append_sorted fs es ∙ sorted-append_swap fs es
