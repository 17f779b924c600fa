-- In a module whose indices are in bounds branches lead into the code.
use Rattle.std.proofs.Common.{◌≡◌, ℕ, ◌<◌, Bool, true, ◌&&◌, List, [], ◌∷◌, length, get_or, slice_get, Some, All, arith, zero, suc}
use Rattle.std.specs.List.{list_all}
use Rattle.std.proofs.lemmas.Bool.{and_parts, ltb-true}
use Rattle.std.proofs.lemmas.List.Elements.{All-nil, All-cons}
use Rattle.mv_move_types.specs.declared.instruction.Instruction.{Instruction}
use Rattle.mv_move_types.specs.declared.instruction.Instruction.TheVariants.{BrTrue, BrFalse, Branch}
use Rattle.mv_move_types.specs.Module.{Module, FunctionDefinition}
use Rattle.mv_move_types.specs.Flow.{targets}
use Rattle.mv_bound_rules.specs.Bounds.{InBounds, below, instruction_in, function_in, local_count}
use Rattle.mv_cfg.specs.Steps.{BranchesInside}
use Rattle.mv_bound_rules.proofs.Entries.{all_at}
use Rattle.std.proofs.lemmas.Option.{slice_get-get_or}

targets-inside : (m : Module) (locals size : ℕ) (c : Instruction) → instruction_in m locals size c ≡ true → All (λ t. t < size) (targets c)
targets-inside m locals size (BrTrue t) e = All-cons (λ u. u < size) t [] (ltb-true t size e) (All-nil (λ u. u < size))
targets-inside m locals size (BrFalse t) e = All-cons (λ u. u < size) t [] (ltb-true t size e) (All-nil (λ u. u < size))
targets-inside m locals size (Branch t) e = All-cons (λ u. u < size) t [] (ltb-true t size e) (All-nil (λ u. u < size))
targets-inside m locals size c e = All-nil (λ u. u < size)

pub branches-inside : (m : Module) (f : ℕ) (d : FunctionDefinition) → InBounds m → slice_get m.functions f ≡ Some d → BranchesInside d.code
branches-inside m f d bounds at k c h =
    let here : function_in m d ≡ true = all_at (function_in m) m.functions f d bounds.functions at in
    let code : list_all (instruction_in m (local_count m d) (length d.code)) d.code ≡ true =
    (and_parts (below d.handle m.function_handles && below d.locals m.signatures && list_all (λ i. below i m.structs) d.acquires) (list_all (instruction_in m (local_count m d) (length d.code)) d.code) here).1 in
    targets-inside m (local_count m d) (length d.code) (get_or d.code k c) (all_at (instruction_in m (local_count m d) (length d.code)) d.code k (get_or d.code k c) code (slice_get-get_or d.code k c h))
