use Rattle.mv_linker.proofs.Common.{◌≡◌, Global, Option, Vec, map, take, StructDefinition, size_of_struct, Size}
use Rattle.mv_linker.proofs.rules.sizes.row_of.Given as goal

abbrev pub invariant-loop-d : goal.invariant-loop-d
invariant-loop-d l = l.row.items ≡ map (λ (d : StructDefinition). size_of_struct (map (λ (r : Vec (Option Size) Global). r.items) l.rows) l.defined d.fields) (take l.d-index l.m.structs)
