-- No modules are a store.
use Rattle.mv_linker.proofs.Common.{[], ◌≡◌, All-nil, AreKeyed, IsPublishable, IsStore, List, Name, Texts, arith, published_under, refl, subst, sym}
use Rattle.mv_linker.proofs.Cycles.Graphs.{no_chain}

pub no_modules : IsStore []
no_modules = record { passed = All-nil IsPublishable; once = refl; links = record { modules = refl; structs = refl; functions = refl; ordered = λ m r. no_chain m m r; small = refl } }

pub store_of_nothing : (entries : List (Name × Texts)) → entries ≡ [] → IsStore (published_under entries) × AreKeyed entries
store_of_nothing entries e = subst (λ (l : List (Name × Texts)). IsStore (published_under l) × AreKeyed l) (sym e) (no_modules, λ k d h. absurd (omega (arith, h)))
