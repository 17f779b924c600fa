-- Rule f: the order of modules once a bundle joins, the places that are kept of what each module depends on, and the search from a
-- bundle along them. The main statements are `ordered-by`, in Finished, and the steps of the search, in Searching.
--
-- Read first specs/DependencyGraph.antt and Finished.antt, then Finished and Searching.
--   Depends           `dependencies_from`: the modules that a module depends on, by the places that its handles name
--   Graphs            `named_there`: chains of modules, and modules that handles name
--   JoinedOrder       `names-stay`: the order of modules once a bundle joins
--   DependencyLemmas  `one-more`, `places-within`: dependencies, place by place
--   DependenciesStay  `those-stay`: those of a module that stays are the same
--   Finished          `ordered-by`, `finished-first`: modules that are in order by themselves, and when all are
--   Searching         `search-loops`, `search-ends`: the search for a chain that leads back
pub mod Depends
pub mod Graphs
pub mod JoinedOrder
pub mod DependencyLemmas
pub mod DependenciesStay
pub mod Finished
pub mod Searching
