-- Slots that hold no value.
use Rattle.mv_storage.proofs.Common.{◌≡◌, None, false, refl, true, is_vacant, of_layer, Layer, Slot}
use Rattle.mv_storage.specs.Slots.{is_empty, is_gone, is_pinned}
use Rattle.mv_storage.specs.declared.slot.Slot.TheVariants.{Empty, Gone}

pub empty-none : (layer : Layer) (s : Slot) → is_empty s ≡ true → of_layer layer s ≡ None
empty-none layer Empty e = refl
empty-none layer s e = cc

pub empty-loose : (s : Slot) → is_empty s ≡ true → is_pinned s ≡ false
empty-loose Empty e = refl
empty-loose s e = cc

pub gone-none : (layer : Layer) (s : Slot) → is_gone s ≡ true → of_layer layer s ≡ None
gone-none layer Gone e = refl
gone-none layer s e = cc

pub gone-used : (s : Slot) → is_gone s ≡ true → false ≡ is_vacant s
gone-used Gone e = refl
gone-used s e = cc
