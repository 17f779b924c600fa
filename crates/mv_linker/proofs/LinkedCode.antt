-- Linked code: that with the code of a bundle a store has that of all its modules, though no other module's code is made anew
-- (`codes-joined`, in Slotted). That the operations of a module are those that the definition lists, mv_lowering proves.
--
-- Read first specs/Lowered.antt, Slots.antt and Codes.antt, then StoredCodes and Slotted.
--   Calls            `calls-are`, `called-is`: what stands for a module's handles by the sizes and functions that they are said to name
--   CodeStays        `tokens-stay`: the words of a module's types stay where those of the structs that its handles name stay
--   SlotLaws         `public-functions-stay`: a module that may replace another has its public functions
--   JoinedCodes      `heir`, `interface-kept`: once a bundle joins, what codes say of an old module that stays is still so
--   Linkable         `small-at`, `are-sized`: the sizes of the structs that the handles of a module to link name
--   Filling          `keeps-slots`, `are-slots`: slots are given one after the other, and go on from those of the module whose place is taken
--   Slotted          `codes-joined`: with the codes of a bundle's modules, and their slots, each module of the result has its code
--   StoredCodes      `program-is`, `module-there`: what a store's codes say of its modules
pub mod Calls
pub mod SlotLaws
pub mod CodeStays
pub mod JoinedCodes
pub mod Linkable
pub mod Filling
pub mod Slotted
pub mod StoredCodes
