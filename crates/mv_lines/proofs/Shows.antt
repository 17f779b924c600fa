-- The proofs of shows and audits: names, numbers and values as text, the lines of JSON, and the lists of both.
--   Digits      An address as hexadecimal digits.
--   Fields      The values of fields, and their text, one after the other.
--   Structs     The value of a struct, by what its fields are made of.
--   Names       The texts of structs' names and of values are plain: identifiers are letters, digits and `_`.
--   Characters  The lines of a show and of an audit are texts of characters.
--   Objects     The text that is written for an entry is its object in JSON, since its texts are plain.
--   Pieces      A line of JSON, piece by piece.
--   Parted      The texts of a stored value, one behind the other.
pub mod Digits
pub mod Fields
pub mod Structs
pub mod Names
pub mod Characters
pub mod Objects
pub mod Pieces
pub mod Parted
