-- A typed storage and its words determine each other. The definitions stand in specs/Words.antt.
--
--   Leaves           `leaves_are`: a value of a type has as many leaves as the type; `Sized`: each struct's leaves are known, and at most 256
--   Sizes            `sizes`: in an accepted store they are
--   Decoding         `storage_decoded`, `typed_words`: a typed storage is read back from its words
--   FineWords        `fine_words-typed`, `typed_words-fine`: words of fine values are those of a typed storage, and the other way round
pub mod Leaves
pub mod Sizes
pub mod Decoding
pub mod FineWords
