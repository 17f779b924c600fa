-- Worked runs with many frames, by computation.
use Rattle.mv_machine.proofs.Common.{[], ◌∷◌, ◌≡◌, refl, Module, BrTrue, Call, CopyLoc, Eq, LdU64, MoveLoc, Ret, Sub, Number, U64, Exhausted, Returned, Leaf}
use Rattle.mv_machine.specs.declared.Stop.TheVariants.{Frames}
use Rattle.mv_machine.proofs.Computed.{computed}
use Rattle.mv_machine.proofs.Rows.{u64, one_function, of_f}

-- calls itself with one less, down to 0
abbrev counting_down : Module
counting_down = one_function (u64 ∷ []) [] (CopyLoc 0 ∷ LdU64 0 ∷ Eq ∷ BrTrue 8 ∷ MoveLoc 0 ∷ LdU64 1 ∷ Sub ∷ Call 0 ∷ Ret ∷ [])

down_10 : of_f counting_down (Leaf (Number U64) 10 ∷ []) 5000 ≡ Returned 95 [] []
unfolding computed
down_10 = refl

down_50 : of_f counting_down (Leaf (Number U64) 50 ∷ []) 5000 ≡ Returned 455 [] []
unfolding computed
down_50 = refl

down_255 : of_f counting_down (Leaf (Number U64) 255 ∷ []) 5000 ≡ Returned 2300 [] []
unfolding computed
down_255 = refl

down_256 : of_f counting_down (Leaf (Number U64) 256 ∷ []) 5000 ≡ Exhausted Frames 2048
unfolding computed
down_256 = refl
