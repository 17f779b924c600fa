-- How large each thing may be. Each limit is the most that is allowed.
--   most_module_bytes, .., most_arguments   texts, records and what they contain
--   most_name_bytes, most_types             names and signatures
--   most_functions, .., most_results        functions, their code, and the fields of structs
--   most_locals, most_operands              locals, with the parameters (why: decision 4); operands (where they are counted: decision 5)
--   most_edges, most_positions              what a certificate may state of a block
--   most_leaves, most_nesting               values of a struct
--   most_modules, .., most_runs             ledgers and runs
use Rattle.std.specs.Prelude.{ℕ}

-- bytes of a module's text, of what its tables contain, of a certificate's text, and of a record's payload
abbrev pub most_module_bytes : ℕ
most_module_bytes = 65536

abbrev pub most_content_bytes : ℕ
most_content_bytes = 65536

abbrev pub most_certificate_bytes : ℕ
most_certificate_bytes = 1048576

abbrev pub most_payload_bytes : ℕ
most_payload_bytes = 33554432

-- modules of a bundle, and arguments that a run's record gives
abbrev pub most_offers : ℕ
most_offers = 16

abbrev pub most_arguments : ℕ
most_arguments = 16

-- bytes of an identifier, and types of a signature
abbrev pub most_name_bytes : ℕ
most_name_bytes = 128

abbrev pub most_types : ℕ
most_types = 64

-- functions that a module defines, and instructions of a function
abbrev pub most_functions : ℕ
most_functions = 256

abbrev pub most_instructions : ℕ
most_instructions = 4096

-- fields of a struct; so a position is below this
abbrev pub most_fields : ℕ
most_fields = 32

-- parameters, results and locals of a function, parameters among the locals
abbrev pub most_parameters : ℕ
most_parameters = 16

abbrev pub most_results : ℕ
most_results = 8

abbrev pub most_locals : ℕ
most_locals = 64

-- operands on a function's stack
abbrev pub most_operands : ℕ
most_operands = 128

-- edges that are stated of a block, and positions of a stated label
abbrev pub most_edges : ℕ
most_edges = 1024

abbrev pub most_positions : ℕ
most_positions = 8

-- leaves of a struct's values, and how deep a struct nests: one with no struct among its fields nests 1 deep
abbrev pub most_leaves : ℕ
most_leaves = 256

abbrev pub most_nesting : ℕ
most_nesting = 8

-- modules of a ledger
abbrev pub most_modules : ℕ
most_modules = 4096

-- steps in a run's budget, frames of a run, and runs of a ledger
abbrev pub most_steps : ℕ
most_steps = 10000000

abbrev pub most_frames : ℕ
most_frames = 256

abbrev pub most_runs : ℕ
most_runs = 4294967296
