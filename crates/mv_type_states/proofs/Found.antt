-- What a table has at an index, or hasn't.
use Rattle.mv_type_states.proofs.Common.{ℕ, ◌∙◌, ◌≡◌, Err, List, Option, ap, slice_get, sym, Module, ◌>>=◌, Refusal, Memory, Phase, Token}
use Rattle.mv_type_states.specs.Answers.{Finds}
pub use Rattle.mv_bound_rules.proofs.Entries.{got, missed}

-- the signature at an index, if there is one
pub signature_at : (m n : Module) (i j : ℕ) (o : Option (List Token)) → n ≡ m → j ≡ i → o ≡ slice_get n.signatures j → slice_get m.signatures i ≡ o
signature_at m n i j o same at is = sym (is ∙ ap (λ (n : Module). slice_get n.signatures j) same ∙ ap (slice_get m.signatures) at)

-- where what comes first isn't found, nothing is
pub finds_refused : {A B : Type 0} (e : Refusal) (o : Option A) (f : A → Option B) → Finds (Err e) o → Finds (Err e) (o >>= f)
finds_refused (Phase p) o f r = (r.0, ap (λ o. o >>= f) r.1)
finds_refused Memory o f r = absurd r
