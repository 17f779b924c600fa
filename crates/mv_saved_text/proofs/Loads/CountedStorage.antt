-- How many values of a struct are stored, at any depth, from how many values are stored of each struct with key.
use Rattle.mv_saved_text.proofs.Common.{[], ◌*◌, ◌+◌, ◌∙◌, ◌∷◌, ◌≡◌, Bool, List, Option, Some, ap, ap₂, arith, cond, inl, inr, length, refl, subst, suc, sym, true, zero, ℕ, none-some, first_so}
use Rattle.mv_saved_text.proofs.Common.{second_so, AllByRecursion, option_map_or, leaves_of, leaves_within, sum_of_fields, Module, struct_name, definition_of, StructName, same_struct}
use Rattle.mv_saved_text.proofs.Common.{Definition, Field, Token, Plain, OfLeaf, OfStruct, on_bind, count, count_in, count_in_fields, FlatEntry, flat_storage, Storage, are_of_types, is_fine_storage}
use Rattle.mv_saved_text.proofs.Common.{is_of_struct, is_of_type, Leaf, More, NoMore, Struct, Value, Values, structs_in_fields, structs_in_token, structs_under}
use Rattle.mv_saved_text.proofs.Common.{structs_within, keyed_from}
use Rattle.mv_saved_text.proofs.Loads.BodyLookups.{under}
use Rattle.mv_saved_text.proofs.Loads.BodyGroups.{is-own, is-other, Among, IsApart, Distinct, apart-among}
use Rattle.mv_saved_text.proofs.Loads.BodyKeyed.{keyed-distinct, keyed-among}
use Rattle.mv_saved_text.proofs.Loads.BodyValues.{EachIsSized, FineParts}
use Rattle.mv_saved_text.proofs.Loads.BodyStorage.{all-parts}
use Rattle.mv_saved_text.specs.Parts.Saving.{struct_under}
use Rattle.mv_saved_text.proofs.Loads.StructParts.{on_struct, on_struct_field}

-- ---- how many values of a struct are inside another one

module _ (modules : List Module) (s : StructName) where
  -- a struct of these fields
  of-fields : (depth : ℕ) (name own : StructName) (fields : Values) (d : Module × List Field) → definition_of modules name ≡ Some d → name ≡ own
      → count_in_fields s fields ≡ structs_in_fields (structs_in_token (structs_within depth modules s) d.0) d.1 → count_in s (Struct own fields) ≡ structs_within (suc depth) modules s name
  of-fields depth name own fields d found same inner =
      ap₂ (λ (n : StructName) (k : ℕ). cond (same_struct n s) 1 0 + k) (sym same) inner
      ∙ ap (λ (o : Option (Module × List Field)). option_map_or (λ d. cond (same_struct name s) 1 0 + structs_in_fields (structs_in_token (structs_within depth modules s) d.0) d.1) o 0) (sym found)

  mutual
    field-count : (depth : ℕ) (m : Module) (t : Token) (v : Value) (n : ℕ) → leaves_of (leaves_within depth modules) m t ≡ Some n → is_of_type modules m t v ≡ true
        → count_in s v ≡ structs_in_token (structs_within depth modules s) m t
    field-count depth m (Plain (OfLeaf k)) (Leaf j i) n e h = refl
    field-count zero m (Plain (OfStruct i)) (Struct name fields) n e h = on_bind (struct_name m i) (leaves_within zero modules) n e (λ own own_is e1. absurd (none-some n e1))
    field-count (suc depth) m (Plain (OfStruct i)) (Struct name fields) n e h =
        on_struct_field modules (λ d. sum_of_fields (leaves_of (leaves_within depth modules) d.0) d.1) m i name fields n e h (λ own d own_is d_is one leaves typed.
        of-fields depth own name fields d d_is one (fields-count depth d.0 d.1 fields n leaves typed)
        ∙ ap (λ (o : Option StructName). option_map_or (structs_within (suc depth) modules s) o 0) (sym own_is))
    field-count depth m _ _ n e h = absurd cc

    fields-count : (depth : ℕ) (m : Module) (fs : List Field) (vs : Values) (n : ℕ) → sum_of_fields (leaves_of (leaves_within depth modules) m) fs ≡ Some n → are_of_types modules m fs vs ≡ true
        → count_in_fields s vs ≡ structs_in_fields (structs_in_token (structs_within depth modules s) m) fs
    fields-count depth m [] NoMore n e h = refl
    fields-count depth m (f ∷ fs) (More v vs) n e h =
        on_bind (leaves_of (leaves_within depth modules) m f.token) _ n e (λ i i_is e1.
        on_bind (sum_of_fields (leaves_of (leaves_within depth modules) m) fs) (λ rest. Some (i + rest)) n e1 (λ j j_is e2.
        ap₂ (λ (x y : ℕ). x + y) (field-count depth m f.token v i i_is (first_so (is_of_type modules m f.token v) (are_of_types modules m fs vs) h))
        (fields-count depth m fs vs j j_is (second_so (is_of_type modules m f.token v) (are_of_types modules m fs vs) h))))
    fields-count depth m _ _ n e h = absurd cc

  -- a value of a struct has as many values of another one as the struct says
  pub struct-count : (depth : ℕ) (name : StructName) (v : Value) (n : ℕ) → leaves_within depth modules name ≡ Some n → is_of_struct modules name v ≡ true
      → count_in s v ≡ structs_within depth modules s name
  struct-count zero name v n e h = absurd (none-some n e)
  struct-count (suc depth) name (Struct own fields) n e h =
      on_struct modules (λ d. sum_of_fields (leaves_of (leaves_within depth modules) d.0) d.1) name own fields n e h (λ d d_is one leaves typed.
      of-fields depth name own fields d d_is one (fields-count depth d.0 d.1 fields n leaves typed))
  struct-count _ name _ n e h = absurd cc

-- ---- entry by entry

-- the sum of what the struct of each entry has
abbrev total : (Definition → ℕ) → List FlatEntry → ℕ
total f [] = 0
total f (e ∷ es) = f (struct_under e.key) + total f es

count-total : (modules : List Module) (s : StructName) → EachIsSized modules → (storage : Storage) → AllByRecursion (FineParts modules) storage → count storage s ≡ total (structs_under 8 modules s)
    (flat_storage storage)
count-total modules s sized [] parts = refl
count-total modules s sized (e ∷ storage) parts =
    let n = sized e.key.place e.key.index parts.0.name parts.0.named in
    ap₂ (λ (x y : ℕ). x + y)
    (struct-count modules s 8 parts.0.name e.value n.0 n.1 parts.0.typed ∙ ap (λ (o : Option StructName). option_map_or (structs_within 8 modules s) o 0) (sym parts.0.named))
    (count-total modules s sized storage parts.1)

-- ---- struct by struct

-- the sum of what these structs have, each as often as there are entries of it
abbrev pub by_structs : (Definition → ℕ) → List FlatEntry → List Definition → ℕ
by_structs f es [] = 0
by_structs f es (d ∷ ds) = length (under d es) * f d + by_structs f es ds

none-of : (f : Definition → ℕ) (ds : List Definition) → by_structs f [] ds ≡ 0
none-of f [] = refl
none-of f (d ∷ ds) = let rest : by_structs f [] ds ≡ 0 = none-of f ds in omega (arith, rest)

-- an entry of another struct
pub under-other : (d : Definition) (e : FlatEntry) (es : List FlatEntry) → (struct_under e.key ≡ d → ⊥) → length (under d (e ∷ es)) ≡ length (under d es)
under-other d e es apart = ap (λ (b : Bool). length (cond b (e ∷ under d es) (under d es))) (is-other d e apart)

pub under-own : (d : Definition) (e : FlatEntry) (es : List FlatEntry) → struct_under e.key ≡ d → length (under d (e ∷ es)) ≡ suc (length (under d es))
under-own d e es own = ap (λ (b : Bool). length (cond b (e ∷ under d es) (under d es))) (is-own d e own)

others-same : (f : Definition → ℕ) (e : FlatEntry) (es : List FlatEntry) (ds : List Definition) → IsApart (struct_under e.key) ds → by_structs f (e ∷ es) ds ≡ by_structs f es ds
others-same f e es [] apart = refl
others-same f e es (d ∷ ds) apart = ap₂ (λ (n k : ℕ). n * f d + k) (under-other d e es apart.0) (others-same f e es ds apart.1)

one-more : (f : Definition → ℕ) (e : FlatEntry) (es : List FlatEntry) (ds : List Definition) → Distinct ds → Among (struct_under e.key) ds
    → by_structs f (e ∷ es) ds ≡ f (struct_under e.key) + by_structs f es ds
one-more f e es [] distinct among = absurd among
one-more f e es (d ∷ ds) distinct (inl own) =
    let apart : IsApart (struct_under e.key) ds = subst (λ (z : Definition). IsApart z ds) (sym own) distinct.0 in
    let here : f d ≡ f (struct_under e.key) = ap f (sym own) in
    ap₂ (λ (n k : ℕ). n * f d + k) (under-own d e es own) (others-same f e es ds apart)
    ∙ sum (length (under d es)) (f d) (f (struct_under e.key)) (by_structs f es ds) here
  where
    sum : (n x y k : ℕ) → x ≡ y → suc n * x + k ≡ y + (n * x + k)
    sum n x y k same = omega arith
one-more f e es (d ∷ ds) distinct (inr among) =
    ap₂ (λ (n k : ℕ). n * f d + k) (under-other d e es (λ same. apart-among d (struct_under e.key) ds distinct.0 among (sym same))) (one-more f e es ds distinct.1 among)
    ∙ sum (length (under d es) * f d) (f (struct_under e.key)) (by_structs f es ds)
  where
    sum : (a b c : ℕ) → a + (b + c) ≡ b + (a + c)
    sum a b c = omega arith

total-structs : (f : Definition → ℕ) (ds : List Definition) (es : List FlatEntry) → Distinct ds → AllByRecursion (λ e. Among (struct_under e.key) ds) es → total f es ≡ by_structs f es ds
total-structs f ds [] distinct all = sym (none-of f ds)
total-structs f ds (e ∷ es) distinct all = ap (λ k. f (struct_under e.key) + k) (total-structs f ds es distinct all.1) ∙ sym (one-more f e es ds distinct all.0)

-- ---- of a storage

all-among : (modules : List Module) (storage : Storage) → AllByRecursion (FineParts modules) storage → AllByRecursion (λ e. Among (struct_under e.key) (keyed_from 0 modules)) (flat_storage storage)
all-among modules [] parts = tt
all-among modules (e ∷ storage) parts = (keyed-among modules (struct_under e.key) parts.0.keyed, all-among modules storage parts.1)

-- each struct with key has as many values of a struct inside it as its fields say, as often as it is stored
pub count-by_structs : (modules : List Module) (s : StructName) → EachIsSized modules → (storage : Storage) → is_fine_storage modules storage ≡ true
    → count storage s ≡ by_structs (structs_under 8 modules s) (flat_storage storage) (keyed_from 0 modules)
count-by_structs modules s sized storage fine =
    let parts = all-parts modules sized storage fine in
    count-total modules s sized storage parts
    ∙ total-structs (structs_under 8 modules s) (keyed_from 0 modules) (flat_storage storage) (keyed-distinct 0 modules) (all-among modules storage parts)
