-- Lines of shows and of audits.
--   Auditing             the counts of an audit
--   Showing, ValueParts  the values of a show
--   Sending, Plain       what is sent of them as JSON, which no text of it has to be escaped for
--   Pieces               a line of JSON, piece by piece
--   LinesView, Left      the lines that are left
--   Sources, Changed     what a report tells, and where it comes from
pub mod Auditing
pub mod Showing
pub mod ValueParts
pub mod Sending
pub mod Plain
pub mod Pieces
pub mod LinesView
pub mod Left
pub mod Changed
pub mod Sources
