-- What the store keeps beside code, place by place, and that it is what the modules' texts say: names, identifiers, what structs
-- are made of, interfaces of functions.
--
-- Read first specs/Kept.antt and Stored.antt, then Keyed (the map of names) and WithAt (lists in which entries were put).
--   Keyed              `place-keyed`: a map from names to texts finds what the list of its modules says
--   WithAt             `put-at`, `from-put_all`: lists in which entries were put at places, each at one that was there or at the next one
--   Adding             `adding-done`, `putting-done`: a bundle's modules go into a store's map, a module at a time
--   IndexLemmas        `places-put`, `indices-put`: the modules of a bundle are found in maps as the lists say
--   StructNames        `named-there`: the names of a store's structs, by the name of their module and their identifiers there
--   HandleDefinitions  `struct-there`, `all-defined`: where the structs of a bundle's handles are defined, once it joins
--   StoredShapes       `fields-known`: of what the structs of a store's modules are made, as its codes say
pub mod Keyed
pub mod WithAt
pub mod Adding
pub mod IndexLemmas
pub mod StructNames
pub mod HandleDefinitions
pub mod StoredShapes
