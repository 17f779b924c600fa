-- The fields of a module's structs are few, and no references.
use Rattle.std.proofs.Common.{◌≡◌, true, not, ◌&&◌, length, nat_le, IsTrue, refl, subst}
use Rattle.std.specs.List.{list_all}
use Rattle.std.proofs.lemmas.Bool.{and_parts}
use Rattle.mv_move_types.specs.declared.token.Token.{Token}
use Rattle.mv_move_types.specs.declared.token.Token.TheVariants.{Plain, Reference, MutableReference}
use Rattle.mv_move_types.specs.declared.tables.Field.{Field}
use Rattle.mv_move_types.specs.Module.{Module, StructDefinition}
use Rattle.mv_module_text.specs.Fits.{is_index, field_fits, struct_definition_fits}
use Rattle.mv_signatures.specs.Signatures.{may_be_field}
use Rattle.mv_edges.proofs.Insertion.{all_weaker}
use Rattle.mv_certificate_rules.specs.BorrowRules.{is_reference_token}

pub few_fields : (n m : Module) → n ≡ m → IsTrue (list_all (struct_definition_fits n.version) n.structs) → IsTrue (list_all (λ (d : StructDefinition). nat_le (length d.fields) 32) m.structs)
few_fields n m same h =
    all_weaker (struct_definition_fits m.version) (λ (d : StructDefinition). nat_le (length d.fields) 32)
    (λ d fits. (and_parts (is_index d.handle) (nat_le (length d.fields) 32) (and_parts (is_index d.handle && nat_le (length d.fields) 32) (list_all (field_fits m.version) d.fields) fits).0).1)
    m.structs (subst (λ (z : Module). list_all (struct_definition_fits z.version) z.structs ≡ true) same h)

may_be_plain : (t : Token) → may_be_field t ≡ true → not (is_reference_token t) ≡ true
may_be_plain (Plain v) h = refl
may_be_plain (Reference v) h = h
may_be_plain (MutableReference v) h = h

pub plain_fields : (m : Module) → IsTrue (list_all (λ (d : StructDefinition). list_all (λ f. may_be_field f.token) d.fields) m.structs)
    → IsTrue (list_all (λ (d : StructDefinition). list_all (λ f. not (is_reference_token f.token)) d.fields) m.structs)
plain_fields m h =
    all_weaker (λ (d : StructDefinition). list_all (λ f. may_be_field f.token) d.fields) (λ (d : StructDefinition). list_all (λ f. not (is_reference_token f.token)) d.fields)
    (λ d fields. all_weaker (λ (f : Field). may_be_field f.token) (λ (f : Field). not (is_reference_token f.token)) (λ f. may_be_plain f.token) d.fields fields) m.structs h
