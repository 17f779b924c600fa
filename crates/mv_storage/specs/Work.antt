-- What a run works on, as it is at each step.
use Rattle.mv_storage.specs.Slots.{IsRemembered, IsTracked}
use Rattle.mv_storage.specs.declared.slots.Work.{Work}

-- the slots that a run has changed are those of keys touched, and the places that are remembered are the keys'
pub record IsAtWork (w : Work) : Type 0 where
  pub tracked : IsTracked w.places w.touched.items
  pub remembered : IsRemembered w.places.tree w.known.lines
