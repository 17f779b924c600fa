-- Runs of the machine over accepted modules meet no fault.
--   Lists            an element at a place, a list the other way round, places up to the last one
--   Owned, Homes     the modules and structs that a store has at a place
--   Typing           a typed state stays typed: a step meets no fault of types, of links or of a dangling reference
--   Borrows          a step keeps that in every frame the edges of its certificate cover the live references
--   Guided           every state of a run is as the certificates say, so no run meets a fault
--   Words            a typed storage and its words, each from the other
pub mod Lists
pub mod Owned
pub mod Homes
pub mod Typing
pub mod Borrows
pub mod Guided
pub mod Words
