-- Rule g: nesting and leaf values of structs, computed round by round, and that they stay where modules join.
--
-- Read first specs/Sizes.antt, then Rounds.
--   Totals       `plus`: the sum over fields, from its first part on
--   Rounds       `rows_all`, `sizes_known`: sizes by rounds: what is known after a round, of rows and of structs
--   NoStructs    `no-sizes`: the sizes of the structs of a bundle that defines none
--   SizesStay    `leaves-stay`: sizes of structs stay where modules are added, or replaced by such as keep their structs
--   JoinedSizes  `small-joined`: sizes once a bundle joins: its structs alone have to be looked at
pub mod Totals
pub mod Rounds
pub mod NoStructs
pub mod SizesStay
pub mod JoinedSizes
