-- A bundle joins a store: where its modules come to stand, what the old ones keep, and that the rules of phase 13, which are
-- tried of the bundle, then hold of all modules. The law that `add` rests on is `joined-linked`, in Joined.
--
-- Read first Link.antt and StoreRules.antt in mv_link_rules/specs (the rules), then Scopes (store and bundle looked at as one) and
-- Assembling.
--   Scopes         `place-for`, `within_tables`: the modules of a scope are found by name and by place
--   Resolving      `struct-of-all`, `function-of-all`: what a handle names, in the module that its module handle leads to
--   TypesCompared  `types-compared`: types are one by names exactly where they are one by where structs are defined
--   NamedThere     `matched`, `function-matched`: what the outline of a module says of what a handle of another one names
--   KeptFits       `kept-fits`: whether a function fits a handle, by the interface that is kept of its module
--   Empty          `store_of_nothing`: no modules are a store
--   Bundled        `bundle-at`, `old-at`: where the modules of a bundle stand once it joins
--   PlacedApart    `first-placed`: modules of a bundle stand at different places, so that a place leads to one of them
--   Replaced       `replaced-low`, `replaced-none`: the place that a module of a bundle takes tells what it replaces
--   Compatible     `follow-compatible`, `compatible-follow`: what a bundle replaces, module by module
--   KeptTypes      `struct-is`, `function-is`: what is kept of an old module tells whether a new one may take its place, by names
--   Upgrades       `kept-sound`, `replaced-module`: the module that one of the bundle replaces, with what is kept of it
--   Upgraded       `struct-stays`, `declared-stays`: what old modules name stays there
--   StillThere     `structs-still-there`, `function-still-there`: handles of a module that stays lead where they led
--   Assembling     `joining`, `links-all`: the rules of linking over all modules of a result, from those over the bundle
--   Joins          `joining`, `names-hold`: a scope whose bundle joins its store: where its modules stand, and that what they name is there
--   FoundLemmas    `new-found`, `kept-found`: what stands at a place of a scope, as others name it
--   Turns          `turn-at`: a list that is taken element by element
--   Joined         `joined-store`, `joined-linked`: a store that a bundle joined is a store
--   JoinedTargets  `appended-joined`: what the handles of old modules lead to, for order and sizes
pub mod Scopes
pub mod Resolving
pub mod Empty
pub mod TypesCompared
pub mod NamedThere
pub mod KeptFits
pub mod Bundled
pub mod PlacedApart
pub mod Replaced
pub mod Compatible
pub mod KeptTypes
pub mod Upgrades
pub mod Upgraded
pub mod StillThere
pub mod Assembling
pub mod Joins
pub mod FoundLemmas
pub mod Turns
pub mod Joined
pub mod JoinedTargets
