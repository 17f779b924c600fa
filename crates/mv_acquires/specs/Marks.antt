-- What is marked of the handles that are called.
use Rattle.std.specs.Prelude.{◌≡◌, ℕ, List, true}
use Rattle.mv_bit_sets.specs.BitSets.{has}
use Rattle.mv_move_types.specs.Module.{Module, own_acquires}
use Rattle.mv_acquires.specs.Acquires.{has_member}

-- of each function handle that is marked as called, what its list has is marked
abbrev pub AreFollowed : Module → List ℕ → List ℕ → Type 0
AreFollowed m called marks = (h y : ℕ) → has called h ≡ true → has_member (own_acquires m h) y ≡ true → has marks y ≡ true
