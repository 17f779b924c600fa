-- Of what the structs of a module are made, by where those that its handles name are defined.
--   part-is, parts-are     what is computed is so
--   few-fields             a struct has at most 32 fields
--   parts-first, parts-more, parts-all    those of the first fields
--   struct-module          the module of a struct's name is one that a handle names
use Rattle.mv_interface.proofs.Common.{[], ℕ, ◌++◌, ◌+◌, ◌<◌, ◌∙◌, ◌∷◌, ◌≡◌, ◌≤◌, AreParts, AreStructsAt, Definition, Field, IsPart, List, Module, MutableReference, None, Nothing}
use Rattle.mv_interface.proofs.Common.{OfLeaf, OfStruct, Option, Part, Plain, Reference, Some, Struct, StructDefinition, Token, and_parts, ap, append-nil, append_assoc, false}
use Rattle.mv_interface.proofs.Common.{get_or, is_some, leb-true, length, list_all, map, map-append, option_map_or, part_by, parts_by, refl}
use Rattle.mv_interface.proofs.Common.{slice_get, slice_get_past, struct_definition_fits, struct_name, sym, take, take_all, take_more, true}
use Rattle.mv_bound_rules.proofs.Entries.{all_at}
use Rattle.mv_bound_rules.proofs.Found.{past_from}

-- a struct has at most 32 fields
pub few-fields : (m : Module) (i : ℕ) (d : StructDefinition) → list_all (struct_definition_fits m.version) m.structs ≡ true → slice_get m.structs i ≡ Some d → length d.fields ≤ 32
few-fields m i d h at =
    let fits : struct_definition_fits m.version d ≡ true = all_at (struct_definition_fits m.version) m.structs i d h at in
    leb-true (length d.fields) 32 (and_parts _ _ (and_parts _ _ fits).0).1

-- ---- the parts of the first fields

pub parts-first : (structs : List Definition) (parts : List Part) (fields : List Field) → parts ≡ parts ++ parts_by structs (take 0 fields)
parts-first structs parts fields = sym (append-nil parts)

pub parts-more : (structs : List Definition) (old parts longer : List Part) (fields : List Field) (i : ℕ) (d : Field) → i < length fields → parts ≡ old ++ parts_by structs (take i fields)
    → longer ≡ parts ++ part_by structs (get_or fields i d).token ∷ []
    → longer ≡ old ++ parts_by structs (take (i + 1) fields)
parts-more structs old parts longer fields i d low so pushed =
    let f : Field = get_or fields i d in
    let part : Field → Part = λ f. part_by structs f.token in
    pushed ∙ ap (λ l. l ++ part f ∷ []) so ∙ append_assoc old (parts_by structs (take i fields)) (part f ∷ [])
    ∙ ap (λ l. old ++ l) (sym (ap (map part) (take_more fields i d low) ∙ map-append part (take i fields) (f ∷ [])))

pub parts-all : (structs : List Definition) (old parts : List Part) (fields : List Field) (i : ℕ) → length fields ≤ i → parts ≡ old ++ parts_by structs (take i fields)
    → parts ≡ old ++ parts_by structs fields
parts-all structs old parts fields i all so = so ∙ ap (λ fs. old ++ parts_by structs fs) (take_all i fields all)

-- ---- what is computed is so

module _ (modules : List Module) (m : Module) (structs : List Definition) (are : AreStructsAt modules m structs) where
  -- a handle with no place is none
  unnamed : (h : ℕ) → slice_get structs h ≡ None → is_some (struct_name m h) ≡ false
  unnamed h none = rw (slice_get_past m.struct_handles h (past_from structs m.struct_handles h (sym are.len) none)) refl

  pub part-is : (t : Token) → IsPart modules m t (part_by structs t)
  part-is (Plain (OfLeaf kind)) = refl
  part-is (Plain (OfStruct h)) = by_definition (slice_get structs h) refl
    where
      by_definition : (o : Option Definition) → slice_get structs h ≡ o → IsPart modules m (Plain (OfStruct h)) (option_map_or (λ d. Struct d) o Nothing)
      by_definition None e = unnamed h e
      by_definition (Some d) e = (h, refl, are.each h d e)
  part-is (Reference t) = refl
  part-is (MutableReference t) = refl

  pub parts-are : (fields : List Field) → AreParts modules m fields (parts_by structs fields)
  parts-are [] = tt
  parts-are (f ∷ fields) = (part-is f.token, parts-are fields)
