-- The proofs of loading: the head, the modules, what follows them, and the tallies against what is stored.
--   Bodies          What follows the modules, as a definition of the text, and that it is read exactly where it stands.
--   LoadedHead      A head is read exactly where the text of one stands.
--   LoadedModules   Modules of a saved ledger that are published: what is kept of them, and that they are linked where they are those of the offers.
--   Offering        Offered modules that are published one by one: that they pass, and that the published ones are those.
--   BodyReading     Reading what stands after the modules of a saved ledger: how far it has come.
--   BodyTallies     Reading the tallies of all modules: how far it has come, and what stays.
--   Extending       What is read at the front of a saved ledger's text is read there whatever follows.
--   Unreading       What is not read at the front of what follows the modules, nor of longer texts where it is malformed: from the parts to the whole.
--   Filling         Reading stored values that become storage once all of them are read: how far it has come.
--   UnreadHead      A head that is not read, nor with more bytes behind it where it is malformed: from its parts to the whole.
--   BodyEntries     The text of a stored value is read as its key and leaves, and what is read is such a text.
--   StructParts     What is made of a struct's fields, found by its name.
--   LeafKinds       The leaves of a fine value are of the kinds that its struct says, and its text is theirs.
--   BodyLookups     Stored values that were put one after the other: what stands under each key, and which stand under one struct's keys.
--   BodyGroups      The texts of stored values by ascending key, after their number, are read as what they are put into.
--   BodyKeyed       The structs with key, by place of their module and index: each stands once among them.
--   BodyValues      Entries whose words are leaves of their structs' kinds are stored values with these leaves, and the other way round.
--   BodyStorage     The text of what is stored is read as its words, and what is read is such a text.
--   BodyLaws        What follows the modules in the text of a saved ledger is read as its tallies' counts and its storage, and nothing else is.
--   LoadedTallies   Tallies whose counts were read are of the same structs, and still those of their store.
--   Adding          Counts with more values of structs: what is added to them one after the other.
--   CountedStructs  The values that are stored, counted one after the other under their structs, and then struct by struct at any depth.
--   CountedStorage  How many values of a struct are stored, at any depth, from how many values are stored of each struct with key.
--   TalliesCounted  Tallies against the counts of what is stored.
--   Loaded          From its parts, which ledger bytes are loaded as, and why they are not.
--   Longer          What is known of each text that begins with some bytes and has more.
pub mod Bodies
pub mod LoadedHead
pub mod LoadedModules
pub mod Offering
pub mod BodyReading
pub mod BodyTallies
pub mod Extending
pub mod Unreading
pub mod Filling
pub mod UnreadHead
pub mod BodyEntries
pub mod StructParts
pub mod LeafKinds
pub mod BodyLookups
pub mod BodyGroups
pub mod BodyKeyed
pub mod BodyValues
pub mod BodyStorage
pub mod BodyLaws
pub mod LoadedTallies
pub mod Adding
pub mod CountedStructs
pub mod CountedStorage
pub mod TalliesCounted
pub mod Loaded
pub mod Longer
