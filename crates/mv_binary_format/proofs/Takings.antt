-- What follows of a reading that may take memory.
use Rattle.mv_binary_format.proofs.Common.{ℕ, ◌∙◌, ◌≡◌, Err, IfOk, List, None, Ok, Option, Result, Some, ap, length, option_map, refl, subst, sym, Phase, Read, all_from, Table, content_of}
use Rattle.mv_binary_format.proofs.Common.{entries_of, is_of, without}
use Rattle.mv_move_types.specs.declared.refusal.Refusal.{Refusal}
use Rattle.mv_move_types.specs.declared.refusal.Refusal.TheVariants.{Memory}
use Rattle.mv_binary_format.specs.Outcomes.{Takes, Decides}

-- a part that could not be read refuses the whole
pub Takes-passes : {A B S C D T : Type 0} (show : B → A) (from : S → Option (A × S)) (old new : S) (part : D → C) (each : T → Option (C × T)) (before after : T) (r : Result B Refusal) (e : Refusal)
    → r ≡ Err e → Takes part each before (Err e) after → (each before ≡ None → from old ≡ None) → Takes show from old r new
Takes-passes show from old new part each before after r (Phase p) r_is h stops = subst (λ z. Takes show from old z new) (sym r_is) (h.0, stops h.1)
Takes-passes show from old new part each before after r Memory r_is h stops = subst (λ z. Takes show from old z new) (sym r_is) tt

-- a refusal in phase 2
pub Takes-refused : {A B S : Type 0} (show : B → A) (from : S → Option (A × S)) (old new : S) (r : Result B Refusal) → r ≡ Err (Phase 2) → from old ≡ None → Takes show from old r new
Takes-refused show from old new r r_is none = subst (λ z. Takes show from old z new) (sym r_is) (refl, none)

-- what holds of each value that is spelled holds of the one that was read
pub IfOk-Decides : {A : Type 0} (P : A → Type 0) (spelled : Option A) (r : Result A Refusal) → ((x : A) → spelled ≡ Some x → P x) → Decides spelled r → IfOk r P
IfOk-Decides P spelled (Ok x) f d = f x d
IfOk-Decides P spelled (Err e) f d = tt

-- where nothing was read, nothing is spelled
pub Decides-none : {A : Type 0} (spelled : Option A) (r : Result A Refusal) → r ≡ Err (Phase 2) → Decides spelled r → spelled ≡ None
Decides-none {A} spelled r is d = let z : Decides spelled (Err (Phase 2)) = subst (λ y. Decides spelled y) is d in z.1

-- a table whose entries can't be read up to its end
pub entries-none : {A : Type 0} (kind : ℕ) (each : List ℕ → Read A) (tables : List Table) (content : List ℕ) → content ≡ content_of kind tables
    → all_from each (length content) content ≡ None → entries_of kind each tables ≡ None
unfolding entries_of
entries-none {A} kind each tables content is none =
    ap (λ (o : Option (List A)). option_map {U = List A × List Table} (λ xs. (xs, without (is_of kind) tables)) o)
    (ap (λ z. all_from each (length z) z) (sym is) ∙ none)
