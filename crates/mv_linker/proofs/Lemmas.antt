-- The lemmas of general use that most proofs cite, passed on from one place: entries of lists, names of modules, modules among others.
pub use Rattle.mv_bound_rules.proofs.Found.{all_from, bind_bind, found_at, kept_at, map_as_bind, map_bind, map_or-is, passing, past_from, same_bind}
pub use Rattle.mv_bound_rules.proofs.Found.{some-of}
pub use Rattle.mv_bound_rules.proofs.NameLemmas.{have_one_name-from, have_one_name-is, is_module-is, module_parts, module_place-from, module_place-is}
pub use Rattle.mv_link_rules.proofs.DependsOn.{depends_on-from, depends_on-is}
pub use Rattle.mv_bound_rules.proofs.NameLemmas.{name_at_one, name_parts, one_test, struct_parts}
pub use Rattle.mv_linker.proofs.Members.{Among, all-among, among-all, among-any, among-at, among-result, any-among, at-among, bundle-there, differ-result, follower, named-so, so-named}
pub use Rattle.mv_interface.proofs.OwnDefinitions.{own-definition, owns-structs, struct_named_so}
pub use Rattle.mv_bound_rules.proofs.Entries.{Contains-at, at-Contains, place_below, element_at, all_at}
