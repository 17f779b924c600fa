use Rattle.mv_interface.proofs.Common.{◌∙◌, FunctionDefinition, bytes_eq, false, name_of_function, option_map_or}
use Rattle.mv_bound_rules.proofs.Found.{position-find_index}
use Rattle.mv_interface.proofs.names.function_place.Goals as goal

pub returns : goal.returns
returns c =
    c.first_function.ensures
    ∙ position-find_index (λ (d : FunctionDefinition). option_map_or (bytes_eq c.args.name.now) (name_of_function c.args.m.now d) false) c.args.m.now.functions
