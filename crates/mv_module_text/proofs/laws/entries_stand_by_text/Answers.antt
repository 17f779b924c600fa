use Rattle.mv_uleb.specs.Uleb.{uleb}
use Rattle.mv_module_text.specs.Entries.{token_text, field_text, instruction_text, module_handle_text, struct_handle_text, function_handle_text}
use Rattle.mv_module_text.specs.Entries.{field_handle_text, signature_text, constant_text, identifier_text, address_text, struct_definition_text}
use Rattle.mv_module_text.specs.Entries.{function_definition_text}
use Rattle.mv_module_text.specs.Fits.{is_index, token_fits, field_fits, instruction_fits, module_handle_fits, struct_handle_fits}
use Rattle.mv_module_text.specs.Fits.{function_handle_fits, field_handle_fits, signature_fits, constant_fits, identifier_fits, address_fits}
use Rattle.mv_module_text.specs.Fits.{struct_definition_fits, function_definition_fits}
use Rattle.mv_module_text.specs.Parsing.{index_from, token_from, field_from, instruction_from, module_handle_from, struct_handle_from}
use Rattle.mv_module_text.specs.Parsing.{function_handle_from, field_handle_from, signature_from, constant_from, identifier_from, address_from}
use Rattle.mv_module_text.specs.Parsing.{struct_definition_from, function_definition_from}
use Rattle.mv_module_text.proofs.Texts.{index-parts, index-whole, stands}
use Rattle.mv_module_text.proofs.Tokens.{token-parts, token-whole, field-parts, field-whole, signature-parts, signature-whole, constant-parts, constant-whole}
use Rattle.mv_module_text.proofs.Opcodes.{instruction-parts, instruction-whole}
use Rattle.mv_module_text.proofs.Handles.{module_handle-parts, module_handle-whole, struct_handle-parts, struct_handle-whole, function_handle-parts}
use Rattle.mv_module_text.proofs.Handles.{function_handle-whole, field_handle-parts, field_handle-whole, identifier-parts, identifier-whole}
use Rattle.mv_module_text.proofs.Addresses.{address-parts, address-whole}
use Rattle.mv_module_text.proofs.Definitions.{struct_definition-parts, struct_definition-whole, function_definition-parts, function_definition-whole}
use Rattle.mv_module_text.proofs.laws.entries_stand_by_text.Goals as goal

pub returns-clause-indices : goal.returns-clause-indices
returns-clause-indices c = stands index_from uleb is_index index-parts index-whole

pub returns-clause-tokens : goal.returns-clause-tokens
returns-clause-tokens c = λ version. stands (token_from version) token_text (token_fits version) (token-parts version) (token-whole version)

pub returns-clause-fields : goal.returns-clause-fields
returns-clause-fields c = λ version. stands (field_from version) field_text (field_fits version) (field-parts version) (field-whole version)

pub returns-clause-instructions : goal.returns-clause-instructions
returns-clause-instructions c = λ version. stands (instruction_from version) instruction_text (instruction_fits version) (instruction-parts version) (instruction-whole version)

pub returns-clause-tables : goal.returns-clause-tables
returns-clause-tables c version = record {
  module_handles = stands module_handle_from module_handle_text module_handle_fits module_handle-parts module_handle-whole;
  struct_handles = stands struct_handle_from struct_handle_text struct_handle_fits struct_handle-parts struct_handle-whole;
  function_handles = stands function_handle_from function_handle_text function_handle_fits function_handle-parts function_handle-whole;
  field_handles = stands field_handle_from field_handle_text field_handle_fits field_handle-parts field_handle-whole;
  signatures = stands (signature_from version) signature_text (signature_fits version) (signature-parts version) (signature-whole version);
  constants = stands (constant_from version) constant_text (constant_fits version) (constant-parts version) (constant-whole version);
  identifiers = stands identifier_from identifier_text identifier_fits identifier-parts identifier-whole;
  addresses = stands address_from address_text address_fits address-parts address-whole;
  structs = stands (struct_definition_from version) struct_definition_text (struct_definition_fits version) (struct_definition-parts version) (struct_definition-whole version);
  functions = stands (function_definition_from version) function_definition_text (function_definition_fits version) (function_definition-parts version) (function_definition-whole version);
}
