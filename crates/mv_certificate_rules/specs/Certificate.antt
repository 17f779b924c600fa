-- Certificates, and when one holds of a module.
--   Known, known_at_start m d             what is known at a place: availabilities and edges; and at a function's start
--   Stated, Certificate                   what is stated of the blocks of a function, and of all functions
--   Rule S                                a partial step on what is known
--   through rule m d is at                what is known after these instructions, with the types on the stack
--   block_holds                           a block meets every need, and ends below what is stated of each successor
--   flow_holds                            each reached block holds, and the start is below what is stated of the first block
--   locals_hold, edges_hold m d stated    the stated availabilities, and the stated edges, of a function hold
--   all_locals_hold, all_edges_hold m c   phase 10, and phase 11: for every function (why one after the other: decision 17)
--   certificate_holds m c                 the certificate holds of the module
-- The others are parts of these.
use Rattle.std.specs.Prelude.{List, Bool, ◌&&◌, Option, Some, ◌+◌, [], ◌∷◌, slice_range, ℕ, ◌==◌}
use Rattle.std.specs.Prelude.{find, option_and_then, None, false, true, zip, map, option_map}
use Rattle.std.specs.Option.{option_map_or}
use Rattle.std.specs.List.{list_all}
use Rattle.mv_move_types.specs.declared.borrow.Availability.{Availability}
use Rattle.mv_edges.specs.Edges.{Edge, edges_leq}
use Rattle.mv_certificate_rules.specs.LocalsRules.{locals_leq, locals_after, start_locals}
use Rattle.mv_move_types.specs.declared.instruction.Instruction.{Instruction}
use Rattle.mv_certificate_rules.specs.BorrowRules.{edges_after}
use Rattle.mv_type_rules.specs.TypesHold.{Point}
use Rattle.mv_move_types.specs.Module.{Module, FunctionDefinition}
use Rattle.mv_type_rules.specs.TypeRules.{Types, types_after}
use Rattle.mv_cfg.specs.Blocks.{BasicBlock, blocks}
use Rattle.mv_move_types.specs.Options.{◌>>=◌}

-- the availability of each local, and the edges
pub record Known : Type 0 where
  pub locals : List Availability
  pub edges : List Edge

-- what is known where a function begins: the locals as they are then, and no edges
abbrev pub known_at_start : Module → FunctionDefinition → Option Known
known_at_start m d = option_map (λ locals. record { locals = locals; edges = [] }) (start_locals m d)

-- for each block of a function, what is known where it begins, if it is reached
abbrev pub Stated : Type 0
Stated = List (Option Known)

-- for each function, what is stated of its blocks
abbrev pub Certificate : Type 0
Certificate = List Stated

-- a partial step on what is known, of the locals, of the edges or of both
abbrev pub Rule : Type 0 → Type 0
Rule S = Point → Instruction → S → Option S

-- what is known and which types are on the stack, after these instructions
abbrev pub through : {S : Type 0} → Rule S → Module → FunctionDefinition → List Instruction → S × Types → Option (S × Types)
through rule m d [] at = Some at
through rule m d (i ∷ is) at = do
  known ← rule (record { home = m; function = d; types = at.1 }) i at.0
  types ← types_after m d i at.1
  through rule m d is (known, types)

-- the instructions of a block
abbrev pub instructions_of : FunctionDefinition → BasicBlock → List Instruction
instructions_of d b = slice_range d.code b.first (b.last + 1)

-- what is stated of the block that begins at an instruction
abbrev pub stated_at : {S : Type 0} → List (BasicBlock × Option S) → ℕ → Option S
stated_at stated i = option_and_then (λ b. b.1) (find (λ b. b.0.first == i) stated)

-- what is known is below what is stated where control goes on
abbrev pub flows_into : {S : Type 0} → (S → S → Bool) → List (BasicBlock × Option S) → S → ℕ → Bool
flows_into leq stated known i = option_map_or (leq known) (stated_at stated i) false

-- a block that isn't reached holds; a reached one meets every need, and what is known at its end is below what is stated of each successor
abbrev pub block_holds : {S : Type 0} → Rule S → (S → S → Bool) → Module → FunctionDefinition → List (BasicBlock × Option S) → BasicBlock × Option S → Bool
block_holds rule leq m d stated (b, None) = true
block_holds rule leq m d stated (b, Some known) =
    option_map_or (λ end. list_all (flows_into leq stated end.0) b.next) (through rule m d (instructions_of d b) (known, [])) false

-- what is known at the start is below what is stated of the first block, and each reached block holds
abbrev pub flow_holds : {S : Type 0} → Rule S → (S → S → Bool) → Module → FunctionDefinition → S → List (Option S) → Bool
flow_holds rule leq m d start stated =
    let with_blocks = zip (blocks d.code) stated in
    flows_into leq with_blocks start 0 && list_all (block_holds rule leq m d with_blocks) with_blocks

-- a function's stated availabilities hold, and its stated edges
abbrev pub locals_hold : Module → FunctionDefinition → Stated → Bool
locals_hold m d stated =
    option_map_or (λ start. flow_holds locals_after locals_leq m d start.locals (map (option_map (λ k. k.locals)) stated)) (known_at_start m d) false

-- a function's stated edges hold
abbrev pub edges_hold : Module → FunctionDefinition → Stated → Bool
edges_hold m d stated =
    option_map_or (λ start. flow_holds edges_after edges_leq m d start.edges (map (option_map (λ k. k.edges)) stated)) (known_at_start m d) false

-- the test holds of each function with what is stated of it
abbrev pub each_function : (FunctionDefinition → Stated → Bool) → List FunctionDefinition → Certificate → Bool
each_function test [] [] = true
each_function test [] (c ∷ cs) = false
each_function test (d ∷ ds) [] = false
each_function test (d ∷ ds) (c ∷ cs) = test d c && each_function test ds cs

-- the stated availabilities hold in every function
abbrev pub all_locals_hold : Module → Certificate → Bool
all_locals_hold m c = each_function (locals_hold m) m.functions c

-- the stated edges hold in every function
abbrev pub all_edges_hold : Module → Certificate → Bool
all_edges_hold m c = each_function (edges_hold m) m.functions c

-- the certificate holds of the module
abbrev pub certificate_holds : Module → Certificate → Bool
certificate_holds m c = all_locals_hold m c && all_edges_hold m c
