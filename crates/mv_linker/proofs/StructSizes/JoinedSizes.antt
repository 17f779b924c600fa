-- Sizes once a bundle joins: its structs alone have to be looked at.
use Rattle.mv_linker.proofs.Common.{AreSmall, Links, List, Module, first_so, function_stays, inl, inr, list_all, struct_is_small, structs_stay, with_tables}
use Rattle.mv_linker.proofs.Lemmas.{all-among, among-all, among-result, at-among, follower, named-so, owns-structs}
use Rattle.mv_linker.proofs.StructSizes.SizesStay.{small-stays, Keeps}
use Rattle.mv_linker.proofs.Joining.StillThere.{Joining}

module _ (old ns : List Module) (j : Joining old ns) where
  -- the old modules stay, or modules that keep their structs have their places
  pub keeps-joined : Keeps old (with_tables old ns)
  keeps-joined name m e =
      let f = follower old ns j.once j.apart j.fits name m e in (
        f.0,
        f.1,
        elim f.2 [
          | inl same ↦ inl same
          | inr new ↦
              inr (
                first_so (structs_stay m m.structs f.0 f.0.structs) (list_all (function_stays m f.0) m.functions) new.1,
                (named-so (with_tables old ns) name f.0 f.1).1,
                owns-structs m (j.defined m (named-so old name m e).0),
                owns-structs f.0 (j.new_defined f.0 new.0),
              )
        ],
      )

  -- where the bundle's structs are small, so are all
  pub small-joined : Links old → AreSmall (with_tables old ns) ns → AreSmall (with_tables old ns) (with_tables old ns)
  small-joined links small =
      among-all (λ m. list_all (struct_is_small (with_tables old ns) m) m.structs) (with_tables old ns) (λ m a. elim (among-result old ns m j.once a) [
        | inl new ↦ all-among (λ m. list_all (struct_is_small (with_tables old ns) m) m.structs) ns m small new
        | inr stays ↦
            let at = at-among old m stays.0 in
            small-stays old (with_tables old ns) keeps-joined links.structs at.0 m at.1 (all-among (λ m. list_all (struct_is_small old m) m.structs) old m links.small stays.0)
      ])
