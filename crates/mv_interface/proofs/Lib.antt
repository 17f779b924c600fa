-- The proofs of what modules are to each other. Of general use are Each (lists that go together), Found (entries of lists by their places), NameLemmas
-- and HandleNames (modules and structs by name), OwnDefinitions (what a module defines) and TypeTests (types by names).
--   SpanLemmas         `spanned-more`: lists that stand in one list, one after the other
--   FewIdentifiers     `few_identifiers`, `short-identifier`: the identifiers of a module that has a text
--   OutlineLemmas      `outline-is`, `named-place`: the outlines of modules, and that they find a function by its identifier
--   ByHalves           `by-name`, `nowhere`: definitions in ascending order of their names, and the search for one by halves
--   OutlineOrders      `struct-found`, `function-found`: the search for a name finds what an outline has
--   ShapeLemmas        `parts-are`: of what the structs of a module are made, by where those that its handles name are defined
--   InterfaceLemmas    `interface-is`, `signature-at`: the interfaces of modules
pub mod Common
pub mod Each
pub mod HandleNames
pub mod OwnDefinitions
pub mod TypeTests
pub mod SpanLemmas
pub mod FewIdentifiers
pub mod OutlineLemmas
pub mod ByHalves
pub mod OutlineOrders
pub mod ShapeLemmas
pub mod InterfaceLemmas
