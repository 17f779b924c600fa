use Rattle.mv_module_text.specs.Entries.{module_handle_text, struct_handle_text, function_handle_text, field_handle_text, signature_text}
use Rattle.mv_module_text.specs.Entries.{constant_text, identifier_text, address_text, struct_definition_text, function_definition_text}
use Rattle.mv_module_text.specs.Fits.{module_handle_fits, struct_handle_fits, function_handle_fits, field_handle_fits, signature_fits, constant_fits}
use Rattle.mv_module_text.specs.Fits.{identifier_fits, address_fits, struct_definition_fits, function_definition_fits}
use Rattle.mv_module_text.specs.Parsing.{module_handle_from, struct_handle_from, function_handle_from, field_handle_from, signature_from}
use Rattle.mv_module_text.specs.Parsing.{constant_from, identifier_from, address_from, struct_definition_from, function_definition_from}
use Rattle.mv_module_text.proofs.Texts.{stand_all}
use Rattle.mv_module_text.proofs.Tokens.{signature-parts, signature-whole, constant-parts, constant-whole}
use Rattle.mv_module_text.proofs.Handles.{module_handle-parts, module_handle-whole, struct_handle-parts, struct_handle-whole, function_handle-parts}
use Rattle.mv_module_text.proofs.Handles.{function_handle-whole, field_handle-parts, field_handle-whole, identifier-parts, identifier-whole}
use Rattle.mv_module_text.proofs.Addresses.{address-parts, address-whole}
use Rattle.mv_module_text.proofs.Definitions.{struct_definition-parts, struct_definition-whole, function_definition-parts, function_definition-whole}
use Rattle.mv_module_text.proofs.Sizes.{module_handle-takes, struct_handle-takes, function_handle-takes, field_handle-takes, signature-takes}
use Rattle.mv_module_text.proofs.Sizes.{constant-takes, identifier-takes, address-takes, struct_definition-takes, function_definition-takes}
use Rattle.mv_module_text.proofs.laws.tables_stand_as_texts.Goals as goal

pub returns : goal.returns
returns c version = record {
  module_handles = stand_all module_handle_from module_handle_text module_handle_fits module_handle-parts module_handle-whole module_handle-takes;
  struct_handles = stand_all struct_handle_from struct_handle_text struct_handle_fits struct_handle-parts struct_handle-whole struct_handle-takes;
  function_handles = stand_all function_handle_from function_handle_text function_handle_fits function_handle-parts function_handle-whole function_handle-takes;
  field_handles = stand_all field_handle_from field_handle_text field_handle_fits field_handle-parts field_handle-whole field_handle-takes;
  signatures = stand_all (signature_from version) signature_text (signature_fits version) (signature-parts version) (signature-whole version) (signature-takes version);
  constants = stand_all (constant_from version) constant_text (constant_fits version) (constant-parts version) (constant-whole version) (constant-takes version);
  identifiers = stand_all identifier_from identifier_text identifier_fits identifier-parts identifier-whole identifier-takes;
  addresses = stand_all address_from address_text address_fits address-parts address-whole address-takes;
  structs = stand_all (struct_definition_from version) struct_definition_text (struct_definition_fits version) (struct_definition-parts version) (struct_definition-whole version) (struct_definition-takes version);
  functions = stand_all (function_definition_from version) function_definition_text (function_definition_fits version) (function_definition-parts version) (function_definition-whole version) (function_definition-takes version);
}
