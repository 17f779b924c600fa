-- Types as they are kept are by names what the module's own are.
--   part-named, type-named     one type
--   kept-same                  lists of them
--   fields-same                fields, by their names and by what they are made of
use Rattle.mv_linker.proofs.Common.{[], ℕ, ◌&&◌, ◌||◌, ◌<◌, ◌≤◌, ◌>>=◌, ◌∙◌, ◌∷◌, ◌≡◌, AreParts, AreTypes, Bool, Field, FunctionDefinition, FunctionHandle, FunctionOutline, Interface, IsInterface, IsPart}
use Rattle.mv_linker.proofs.Common.{IsSound, IsStructAt, IsType, Leaf, LinkedType, List, Module, MutableReference, None, Nothing, OfLeaf, OfStruct, Option, Part, Plain, Reference, ReferenceTag, Some}
use Rattle.mv_linker.proofs.Common.{Struct, StructDefinition, StructName, StructOutline, StructTag, Tag, Token, ValueType, and_parts, ap, ap₂, arith, both_there, both_ways, bytes_eq, cases_Bool, false}
use Rattle.mv_linker.proofs.Common.{function_stays, have_one_type, inl, inr, is_public, is_some, length, list_all, name_at, name_of_function, name_of_struct, none-some, not, on_bind, option_map, option_map_or}
use Rattle.mv_linker.proofs.Common.{refl, same_Some, same_abilities, same_fields, same_signature, same_struct_definition, same_tag, same_tags, same_types, slice_get, slice_get_within, struct_abilities, struct_name}
use Rattle.mv_linker.proofs.Common.{structs_stay, suc, sym, token_named, tokens_named, true, value_type_named, zero}
use Rattle.std.specs.List.{AllZip}
use Rattle.mv_link_rules.specs.StoreRules.{function_named}
use Rattle.mv_linker.specs.KeptTypes.{function_same, kept_at, struct_same, types_same}
use Rattle.mv_linker.proofs.Lemmas.{all_at, element_at}
use Rattle.mv_interface.proofs.TypeTests.{same_types_is}
use Rattle.mv_signatures.specs.Signatures.{may_be_field}
use Rattle.mv_interface.specs.Outline.{are_names}
use Rattle.mv_linker.specs.KeptTypes.{are_kept, are_parts, kept_named, part_named}
use Rattle.mv_interface.specs.declared.interface.LinkedType.TheVariants.{Plain as Value, Reference as ReferenceTo, MutableReference as MutableReferenceTo}
use Rattle.mv_linker.proofs.Kept.HandleDefinitions.{name-found}

-- a struct that isn't there has no tag
none-named : (o : Option StructName) → is_some o ≡ false → None ≡ (o >>= λ name. Some (StructTag name))
none-named None e = refl
none-named (Some name) e = absurd cc

module _ (old : List Module) (m : Module) where
  -- what a type that is no reference is made of
  pub part-named : (t : ValueType) (p : Part) → IsPart old m (Plain t) p → part_named old p ≡ value_type_named m t
  part-named t (Leaf kind) is = ap (token_named m) (sym is)
  part-named t (Struct d) is =
      let s : IsStructAt old m is.0 d = is.2 in
      let found : name_at old d.place d.index ≡ Some s.name = name-found old d.place d.index s.home s.name s.there s.index in
      ap (λ (o : Option StructName). o >>= λ name. Some (StructTag name)) (found ∙ sym s.named) ∙ ap (token_named m) (sym is.1)
  part-named (OfLeaf kind) Nothing is = absurd cc
  part-named (OfStruct h) Nothing is = none-named (struct_name m h) is

  pub type-named : (t : Token) (x : LinkedType) → IsType old m t x → kept_named old x ≡ token_named m t
  type-named (Plain t) (Value p) is = part-named t p is
  type-named (Reference t) (ReferenceTo p) is = ap (λ (o : Option Tag). o >>= λ tag. Some (ReferenceTag false tag)) (part-named t p is)
  type-named (MutableReference t) (MutableReferenceTo p) is = ap (λ (o : Option Tag). o >>= λ tag. Some (ReferenceTag true tag)) (part-named t p is)
  type-named (Plain t) (ReferenceTo p) is = absurd is
  type-named (Plain t) (MutableReferenceTo p) is = absurd is
  type-named (Reference t) (Value p) is = absurd is
  type-named (Reference t) (MutableReferenceTo p) is = absurd is
  type-named (MutableReference t) (Value p) is = absurd is
  type-named (MutableReference t) (ReferenceTo p) is = absurd is

  module _ (n : Module) where
    -- lists of types
    pub kept-same : (ts : List Token) (xs : List LinkedType) (us : List Token) → AreTypes old m ts xs → are_kept old xs n us ≡ same_types m ts n us
    kept-same [] [] [] are = refl
    kept-same [] [] (u ∷ us) are = refl
    kept-same (t ∷ ts) (x ∷ xs) [] are = refl
    kept-same (t ∷ ts) (x ∷ xs) (u ∷ us) are =
        ap₂ (λ (o : Option Tag) b. both_there same_tag o (token_named n u) && b) (type-named t x are.0) (kept-same ts xs us are.1)
    kept-same [] (x ∷ xs) us are = absurd are
    kept-same (t ∷ ts) [] us are = absurd are

    -- four tests, in another order
    turned : (a b c d : Bool) → (a && b) && (c && d) ≡ (a && c) && (b && d)
    turned true true c d = refl
    turned true false true d = refl
    turned true false false d = refl
    turned false b c d = refl

    -- a field is no reference
    field-named : (f : Field) (p : Part) → may_be_field f.token ≡ true → IsPart old m f.token p → part_named old p ≡ token_named m f.token
    field-named f p may is = by_token f.token may is
      where
        by_token : (t : Token) → may_be_field t ≡ true → IsPart old m t p → part_named old p ≡ token_named m t
        by_token (Plain t) may is = part-named t p is
        by_token (Reference t) may is = absurd cc
        by_token (MutableReference t) may is = absurd cc

    -- fields
    pub fields-same : (fs : List Field) (names : List (List ℕ)) (parts : List Part) (gs : List Field) → list_all (λ f. may_be_field f.token) fs ≡ true
        → AllZip (λ (f : Field) name. slice_get m.identifiers f.name ≡ Some name) fs names → AreParts old m fs parts
        → (are_names names n gs && are_parts old parts n gs) ≡ same_fields m fs n gs
    fields-same [] [] [] [] may named are = refl
    fields-same [] [] [] (g ∷ gs) may named are = refl
    fields-same (f ∷ fs) (x ∷ xs) (p ∷ ps) [] may named are = refl
    fields-same (f ∷ fs) (x ∷ xs) (p ∷ ps) (g ∷ gs) may named are =
        let first = and_parts (may_be_field f.token) (list_all (λ f. may_be_field f.token) fs) may in
        turned (option_map_or (bytes_eq x) (slice_get n.identifiers g.name) false) (are_names xs n gs) (both_there same_tag (part_named old p) (token_named n g.token)) (are_parts old ps n gs)
        ∙ ap₂ (λ a b. a && b)
        (ap₂ (λ (o : Option (List ℕ)) (q : Option Tag). both_there bytes_eq o (slice_get n.identifiers g.name) && both_there same_tag q (token_named n g.token)) (sym named.0) (field-named f p first.0 are.0))
        (fields-same fs xs ps gs first.1 named.1 are.1)
    fields-same [] [] (p ∷ ps) gs may named are = absurd are
    fields-same [] (x ∷ xs) ps gs may named are = absurd named
    fields-same (f ∷ fs) [] ps gs may named are = absurd named
    fields-same (f ∷ fs) (x ∷ xs) [] gs may named are = absurd are

    -- ---- definitions

    -- kept types and a signature
    signature-same : (xs : List LinkedType) (ts : List Token) (i j : ℕ) → AreTypes old m ts xs → slice_get m.signatures i ≡ Some ts
        → option_map_or (are_kept old xs n) (slice_get n.signatures j) false ≡ same_signature m i n j
    signature-same xs ts i j are at = by_tokens (slice_get n.signatures j) ∙ ap (λ (o : Option (List Token)). both_there same_tags (o >>= tokens_named m) (slice_get n.signatures j >>= tokens_named n)) (sym at)
      where
        nothing : (o : Option (List Tag)) → false ≡ both_there same_tags o None
        nothing None = refl
        nothing (Some tags) = refl

        by_tokens : (o : Option (List Token)) → option_map_or (are_kept old xs n) o false ≡ both_there same_tags (tokens_named m ts) (o >>= tokens_named n)
        by_tokens None = nothing (tokens_named m ts)
        by_tokens (Some us) = kept-same ts xs us are ∙ same_types_is m n ts us

    module _ (i : Interface) (is : IsInterface old m i) where
      -- a struct
      pub struct-is : (place k : ℕ) (d e : StructDefinition) → IsSound m → slice_get old place ≡ Some m → slice_get m.structs k ≡ Some d
          → struct_same old i (record { place = place; index = k }) n e ≡ same_struct_definition m d n e
      struct-is place k d e sound at d_at =
          let low = slice_get_within m.structs k d d_at in
          let s = element_at i.outline.structs k (omega (arith, low, is.outline.structs.len)) in
          let names = element_at i.outline.fields k (omega (arith, low, is.outline.fields.len)) in
          let parts = element_at i.parts k (omega (arith, low, is.parts.len)) in
          let name : name_at old place k ≡ name_of_struct m d = rw (at, d_at) refl in
          let abilities : option_map (λ (s : StructOutline). s.abilities) (slice_get i.outline.structs k) ≡ struct_abilities m d =
          ap (option_map (λ (s : StructOutline). s.abilities)) s.1 ∙ sym (is.outline.structs.each k d s.0 d_at s.1).abilities in
          let may : list_all (λ f. may_be_field f.token) d.fields ≡ true = all_at (λ (d : StructDefinition). list_all (λ f. may_be_field f.token) d.fields) m.structs k d sound.signed.fields d_at in
          let fields = fields-same d.fields names.0 parts.0 e.fields may (is.outline.fields.each k d names.0 d_at names.1) (is.parts.each k d parts.0 d_at parts.1) in
          ap₂ (λ a b. a && b)
          (ap₂ (λ x y. both_there (λ a b. bytes_eq a.name b.name) x (name_of_struct n e) && both_there same_abilities y (struct_abilities n e)) name abilities)
          (ap₂ (λ x y. option_map_or (λ names. are_names names n e.fields) x false && option_map_or (λ ps. are_parts old ps n e.fields) y false) names.1 parts.1 ∙ fields)

      -- the types of a function
      types-is : (k : ℕ) (d e : FunctionDefinition) → slice_get m.functions k ≡ Some d → types_same old i k n e ≡ have_one_type m d n e
      types-is k d e d_at =
          let low = slice_get_within m.functions k d d_at in
          let ps = element_at i.parameters k (omega (arith, low, is.parameters.len)) in
          let rs = element_at i.results k (omega (arith, low, is.results.len)) in
          let p = is.parameters.each k d ps.0 d_at ps.1 in
          let r = is.results.each k d rs.0 d_at rs.1 in
          on_bind (slice_get m.function_handles d.handle) (λ (h : FunctionHandle). slice_get m.signatures h.parameters) p.tokens p.there (λ h h_at tokens.
          let results : slice_get m.signatures h.results ≡ Some r.tokens = sym (ap (λ (o : Option FunctionHandle). o >>= λ h. slice_get m.signatures h.results) h_at) ∙ r.there in
          rw (h_at, ps.1, rs.1) (by_handle h ps.0 rs.0 p.tokens r.tokens p.are r.are tokens results (slice_get n.function_handles e.handle)))
        where
          by_handle : (h : FunctionHandle) (ps rs : List LinkedType) (ts us : List Token) → AreTypes old m ts ps → AreTypes old m us rs → slice_get m.signatures h.parameters ≡ Some ts
              → slice_get m.signatures h.results ≡ Some us → (o : Option FunctionHandle)
              → option_map_or (λ (x : FunctionHandle). kept_at old (Some ps) n x.parameters && kept_at old (Some rs) n x.results) o false
              ≡ both_there (λ (a b : FunctionHandle). same_signature m a.parameters n b.parameters && same_signature m a.results n b.results) (Some h) o
          by_handle h ps rs ts us p r ts_at us_at None = refl
          by_handle h ps rs ts us p r ts_at us_at (Some x) =
              ap₂ (λ a b. a && b) (signature-same ps ts h.parameters x.parameters p ts_at) (signature-same rs us h.results x.results r us_at)

      -- and a function
      pub function-is : (k : ℕ) (d : FunctionDefinition) → slice_get m.functions k ≡ Some d → function_same old i k n ≡ function_stays m n d
      function-is k d d_at =
          let f = element_at i.outline.functions k (omega (arith, slice_get_within m.functions k d d_at, is.outline.functions.len)) in
          let of = is.outline.functions.each k d f.0 d_at f.1 in
          let visible : option_map_or (λ (f : FunctionOutline). f.is_public) (slice_get i.outline.functions k) false ≡ is_public d =
          ap (λ o. option_map_or (λ (f : FunctionOutline). f.is_public) o false) f.1 ∙ sym of.visible in
          let named : option_map (λ (f : FunctionOutline). f.identifier) (slice_get i.outline.functions k) ≡ name_of_function m d =
          ap (option_map (λ (f : FunctionOutline). f.identifier)) f.1 ∙ sym of.identifier in
          ap₂ (λ a b. not a || b) visible
          (ap (λ o. option_map_or (λ (e : FunctionDefinition). is_public e && types_same old i k n e) (o >>= function_named n) false) named
          ∙ by_found (name_of_function m d >>= function_named n))
        where
          by_found : (o : Option FunctionDefinition) → option_map_or (λ (e : FunctionDefinition). is_public e && types_same old i k n e) o false
              ≡ option_map_or (λ (e : FunctionDefinition). is_public e && have_one_type m d n e) o false
          by_found None = refl
          by_found (Some e) = ap (λ b. is_public e && b) (types-is k d e d_at)

-- ---- all of them

-- structs that stand at their places
pub stays-short : (m n : Module) (ds es : List StructDefinition) → length es < length ds → structs_stay m ds n es ≡ false
stays-short m n [] es low = absurd (omega (arith, low))
stays-short m n (d ∷ ds) [] low = refl
stays-short m n (d ∷ ds) (e ∷ es) low = ap (λ b. same_struct_definition m d n e && b) (stays-short m n ds es (omega (arith, low))) ∙ never (same_struct_definition m d n e)
  where
    never : (b : Bool) → (b && false) ≡ false
    never true = refl
    never false = refl

pub stays-each : (m n : Module) (ds es : List StructDefinition) → length ds ≤ length es
    → ((k : ℕ) (d e : StructDefinition) → slice_get ds k ≡ Some d → slice_get es k ≡ Some e → same_struct_definition m d n e ≡ true) → structs_stay m ds n es ≡ true
stays-each m n [] es low each = refl
stays-each m n (d ∷ ds) [] low each = absurd (omega (arith, low))
stays-each m n (d ∷ ds) (e ∷ es) low each = ap₂ (λ a b. a && b) (each 0 d e refl refl) (stays-each m n ds es (omega (arith, low)) (λ k x y at at2. each (suc k) x y at at2))

pub stays-fails : (m n : Module) (ds es : List StructDefinition) (k : ℕ) (d e : StructDefinition) → slice_get ds k ≡ Some d → slice_get es k ≡ Some e → same_struct_definition m d n e ≡ false
    → structs_stay m ds n es ≡ false
stays-fails m n [] es k d e at at2 fails = absurd (none-some d at)
stays-fails m n (x ∷ ds) [] k d e at at2 fails = refl
stays-fails m n (x ∷ ds) (y ∷ es) zero d e at at2 fails =
    ap (λ b. b && structs_stay m ds n es) (ap₂ (λ a b. same_struct_definition m a n b) (same_Some x d at) (same_Some y e at2) ∙ fails)
stays-fails m n (x ∷ ds) (y ∷ es) (suc k) d e at at2 fails = ap (λ b. same_struct_definition m x n y && b) (stays-fails m n ds es k d e at at2 fails) ∙ never (same_struct_definition m x n y)
  where
    never : (b : Bool) → (b && false) ≡ false
    never true = refl
    never false = refl

-- one that fails
pub one-fails : {A : Type 0} (p : A → Bool) (xs : List A) (k : ℕ) (x : A) → slice_get xs k ≡ Some x → p x ≡ false → list_all p xs ≡ false
one-fails p xs k x at fails = elim (cases_Bool (list_all p xs)) [
  | inl all ↦ absurd (both_ways (p x) fails (all_at p xs k x all at))
  | inr none ↦ none
]
