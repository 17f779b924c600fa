-- The proofs of runs: which are begun, and what each leaves.
--   Admissions          The ways out of an admission: the first reason against a run, or its call.
--   Parameters          The types of a function's parameters as the linker keeps them, and arguments of them.
--   StoredRuns          What a run leaves is what the machine's run asks for.
pub mod Admissions
pub mod Parameters
pub mod StoredRuns
