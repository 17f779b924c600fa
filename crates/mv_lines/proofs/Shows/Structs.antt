-- The value of a struct, by what its fields are made of.
use Rattle.mv_lines.proofs.Common.{[], ◌++◌, ◌-◌, ◌∙◌, ◌∷◌, ◌≡◌, ◌≢◌, Bor, List, None, Option, Some, ap, append_assoc, arith, codes, false, refl, subst, suc, sym, zero, ℕ, is_some, slice_get}
use Rattle.mv_lines.proofs.Common.{unwrap_or, Module, name_at, name_of_struct, struct_name, StructName, ◌>>=◌, PublishedModule, Definition, Field, LeafKind, Boolean, Token, Plain, OfLeaf}
use Rattle.mv_lines.proofs.Common.{OfStruct, fields_from, struct_from, value_from, rest_text, value_text, LeafValue, More, NoMore, Struct, Value, Values, name-found, IsStore, tables_in}
use Rattle.mv_lines.proofs.Common.{AreFieldsAt, AreParts, IsMadeOf, IsPart, is_of_value, Part, LeafPart, Nothing, StructPart, PutsText, fields_text, key_value_text, part_from, parts_from}
use Rattle.mv_lines.specs.ValueParts.{value_at}
use Rattle.mv_lines.proofs.Shows.Fields.{puts_some}
use Rattle.mv_linker.proofs.Named.{defined, named, no_definition}

-- ---- its text

struct_value-text : (name : StructName) (fields : Values) → value_text (Struct name fields) ≡ (codes "{" ++ fields_text fields) ++ codes "}"
struct_value-text name NoMore = refl
struct_value-text name (More v vs) = ap (λ l. l ++ codes "}") (append_assoc (codes "{") (value_text v) (rest_text vs))

-- the values of its fields were put between braces
pub struct_put : (name : StructName) (o : Option (Values × List ℕ)) (rest : Option (Bor (List ℕ))) (old front most new : List ℕ)
    → front ≡ old ++ codes "{" → PutsText fields_text o rest front most → new ≡ most ++ codes "}" → PutsText value_text (o >>= λ fs. Some (Struct name fs.0, fs.1)) rest old new
struct_put name None rest old front most new opens put closes = put
struct_put name (Some p) rest old front most new opens put closes =
    let inside : List ℕ = fields_text p.0 in (
      put.0,
      closes ∙ ap (λ l. l ++ codes "}") (put.1 ∙ ap (λ l. l ++ inside) opens ∙ append_assoc old (codes "{") inside) ∙ append_assoc old (codes "{" ++ inside) (codes "}")
          ∙ ap (λ l. old ++ l) (sym (struct_value-text name p.0)),
    )

-- ---- the values of parts

module _ (modules : List Module) (m : Module) (k : ℕ) where
  abbrev by_token : Token → List ℕ → Option (Value × List ℕ)
  by_token = value_from (struct_from k modules) m

  abbrev by_part : Part → List ℕ → Option (Value × List ℕ)
  by_part = part_from modules k

  leaf : (kind : LeafKind) (words : List ℕ) → by_token (Plain (OfLeaf kind)) words ≡ by_part (LeafPart kind) words
  leaf kind [] = refl
  leaf kind (n ∷ words) = refl

  unnamed : (o : Option StructName) (words : List ℕ) → is_some o ≡ false → (o >>= λ name. struct_from k modules name words) ≡ None
  unnamed o words e = grind arith

  nothing : (t : Token) (words : List ℕ) → is_of_value m t ≡ false → by_token t words ≡ None
  nothing (Plain (OfLeaf kind)) words e = absurd (cc)
  nothing (Plain (OfStruct h)) words e = unnamed (struct_name m h) words e
  nothing _ _ _ = refl

  -- a field of a type has the values of its part
  part-value : (t : Token) (part : Part) (words : List ℕ) → IsPart modules m t part → by_token t words ≡ by_part part words
  part-value t (LeafPart kind) words is = subst (λ (x : Token). by_token x words ≡ by_part (LeafPart kind) words) (sym is) (leaf kind words)
  part-value t (StructPart d) words is =
      let at = is.2 in
      let name : struct_name m is.0 ≡ name_at modules d.place d.index = at.named ∙ sym (name-found modules d.place d.index at.home at.name at.there at.index) in
      subst (λ (x : Token). by_token x words ≡ by_part (StructPart d) words) (sym is.1) (ap (λ o. o >>= λ n. struct_from k modules n words) name)
  part-value t Nothing words is = nothing t words is

  abbrev joined : Value × List ℕ → Values × List ℕ → Option (Values × List ℕ)
  joined first rest = Some (More first.0 rest.0, rest.1)

  parts-rest : (fields : List Field) (parts : List Part) → ((words : List ℕ) → fields_from by_token fields words ≡ parts_from by_part parts words) → (o : Option (Value × List ℕ))
      → (o >>= λ first. fields_from by_token fields first.1 >>= joined first) ≡ (o >>= λ first. parts_from by_part parts first.1 >>= joined first)
  parts-rest fields parts same None = refl
  parts-rest fields parts same (Some first) = ap (λ o. o >>= joined first) (same first.1)

  -- and fields have those of their parts
  parts-values : (fields : List Field) (parts : List Part) (words : List ℕ) → AreParts modules m fields parts → fields_from by_token fields words ≡ parts_from by_part parts words
  parts-values [] [] words are = refl
  parts-values (f ∷ fields) (p ∷ parts) words are =
      ap (λ o. o >>= λ first. fields_from by_token fields first.1 >>= joined first) (part-value f.token p words are.0)
      ∙ parts-rest fields parts (λ more. parts-values fields parts more are.1) (by_part p words)
  parts-values _ _ _ are = absurd are

-- ---- its value

no_depth : (modules : List Module) (words : List ℕ) (o : Option StructName) → (o >>= λ name. struct_from zero modules name words) ≡ None
no_depth modules words o = grind arith

none-put : (o : Option (Value × List ℕ)) (old new : List ℕ) → o ≡ None → PutsText value_text o None old new
none-put o old new e = let P : Option (Value × List ℕ) → Type 0 = λ o. PutsText value_text o None old new in subst P (sym e) refl

-- none of no depth
pub puts_no_depth : (depth : ℕ) (modules : List Module) (d : Definition) (words old new : List ℕ) → depth ≡ 0 → PutsText value_text (value_at depth modules d words) None old new
puts_no_depth depth modules d words old new e = none-put (value_at depth modules d words) old new (ap (λ n. value_at n modules d words) e ∙ no_depth modules words (name_at modules d.place d.index))

-- none, where there is no such struct
pub puts_missing : (depth : ℕ) (modules : List Module) (d : Definition) (words old new : List ℕ) → AreFieldsAt modules d None → PutsText value_text (value_at depth modules d words) None old new
puts_missing depth modules d words old new none =
    none-put (value_at depth modules d words) old new (ap (λ o. o >>= λ name. struct_from depth modules name words) (no_definition d name_of_struct (slice_get modules d.place) none))

-- its fields' values
pub puts_fields : (published : List PublishedModule) → IsStore published → (depth : ℕ) (d : Definition) (parts : List Part) (words : List ℕ) (rest : Option (Bor (List ℕ)))
    (old front most new : List ℕ) → (depth ≢ 0) → IsMadeOf (tables_in published) d parts
    → front ≡ old ++ codes "{" → PutsText fields_text (parts_from (part_from (tables_in published) (depth - 1)) parts words) rest front most → new ≡ most ++ codes "}"
    → PutsText value_text (value_at depth (tables_in published) d words) rest old new
puts_fields published is depth d parts words rest old front most new deep made opens put closes =
    let modules : List Module = tables_in published in
    let k : ℕ = depth - 1 in
    let deeper : depth ≡ suc k = omega arith in
    let own = defined published is d made.home made.definition made.there made.defined in
    let P : Option (Value × List ℕ) → Type 0 = λ o. PutsText value_text o rest old new in
    let e : value_at depth modules d words ≡ (parts_from (part_from modules k) parts words >>= λ fs. Some (Struct own.0 fs.0, fs.1)) =
    ap (λ n. value_at n modules d words) deeper
    ∙ ap (λ o. o >>= λ name. struct_from (suc k) modules name words) (named published is d made.home made.definition own.0 made.there made.defined own.1)
    ∙ ap (λ o. o >>= λ x. fields_from (value_from (struct_from k modules) x.0) x.1 words >>= λ fs. Some (Struct own.0 fs.0, fs.1)) own.2
    ∙ ap (λ o. o >>= λ fs. Some (Struct own.0 fs.0, fs.1)) (parts-values modules made.home k made.definition.fields parts words made.fields) in
    subst P (sym e) (struct_put own.0 (parts_from (part_from modules k) parts words) rest old front most new opens put closes)

-- ---- the value under a key

first-of : {A B C : Type 0} (f : A → Option (B × C)) (o : Option A) → (o >>= λ n. f n >>= λ v. Some v.0) ≡ ((o >>= f) >>= λ v. Some v.0)
first-of f o = grind arith

module _ (modules : List Module) (d : Definition) (words : List ℕ) where
  abbrev name : Option StructName
  name = name_at modules d.place d.index

  key-text : (o : Option (Value × List ℕ)) → value_at 8 modules d words ≡ o → key_value_text modules name words ≡ value_text (unwrap_or (o >>= λ v. Some v.0) (LeafValue Boolean 0))
  key-text o e =
      ap (λ r. value_text (unwrap_or r (LeafValue Boolean 0))) (first-of (λ n. struct_from 8 modules n words) name)
      ∙ ap (λ (r : Option (Value × List ℕ)). value_text (unwrap_or (r >>= λ v. Some v.0) (LeafValue Boolean 0))) e

  -- what was put is its text
  pub key-value : (rest : Bor (List ℕ)) (old new : List ℕ) → PutsText value_text (value_at 8 modules d words) (Some rest) old new → new ≡ old ++ key_value_text modules name words
  key-value rest old new put =
      let p = puts_some value_text (value_at 8 modules d words) rest old new put in
      p.1.1 ∙ ap (λ l. old ++ l) (sym (key-text (Some (p.0, rest.now)) p.1.0))
