-- What the proofs of this crate speak of all along.
pub use Rattle.std.proofs.Common.{List, Some, [], ap, ap₂, arith, false, inl, inr, length, refl, suc, sym, true, zero, ℕ, ◌<◌, ◌∙◌, ◌∷◌, ◌≡◌}
pub use Rattle.std.proofs.lemmas.Bool.{and_from, and_parts, both_ways, cases_order, eq-eqb, not-true, or_cases, or_left, or_right}
pub use Rattle.std.specs.Bool.{beq}
pub use Rattle.std.specs.Cmp.{booleans_Decides, first_so, second_so}
pub use Rattle.std.specs.Option.{option_map_or}
pub use Rattle.std.specs.Prelude.{not}
pub use Rattle.mv_move_types.specs.Module.{Module, module_name, own_name}
pub use Rattle.mv_move_types.specs.Named.{is_module}
pub use Rattle.mv_move_types.specs.Names.{ModuleName}
pub use Rattle.mv_move_types.specs.Tags.{LeafTag, ReferenceTag, StructTag, Tag, same_tag, same_tags}
pub use Rattle.mv_link_rules.specs.Link.{have_one_name}
pub use Rattle.mv_link_rules.specs.StoreRules.{depends_on, names_module}
