-- Which values are of which type. A type stands by names, as a tag, so that it means one thing in all modules.
-- First what types are of, then values without references, then references by what they lead to.
--   in_range kind n               whether a number is one of a leaf of this kind
--   fields_by_name modules name   the types of a struct's fields, by names
--   Table, Roots                  what a struct's fields are of, and what stands at each root
--   IsOf v t, AreOf               a value without references is of a type, at any depth; and fields are of theirs
--   Leads t path u                a path of fields leads from a type to another
--   PointsTo look r t             a reference leads to something of this type
--   HasType look v t              a value is of a type, a reference by what it leads to
--   LentHasType, LentHaveTypes    an argument that was lent is of its parameter's type; and each is
-- Rooted is a part of PointsTo.
use Rattle.std.specs.Prelude.{◌≡◌, ℕ, ◌^◌, Bool, false, nat_lt, IsTrue, List, [], ◌∷◌, map, Option, Some, None, slice_get}
use Rattle.mv_move_types.specs.declared.token.LeafKind.{LeafKind}
use Rattle.mv_move_types.specs.declared.token.LeafKind.TheVariants.{Boolean, Number, Address, Signer}
use Rattle.mv_move_types.specs.Names.{StructName}
use Rattle.mv_move_types.specs.Options.{◌>>=◌}
use Rattle.mv_move_types.specs.Module.{Module}
use Rattle.mv_machine.specs.Value.{Root, Reference, Value, Leaf, Struct, Ref, Values, NoMore, More}
use Rattle.mv_move_types.specs.Tokens.{width_bits}
use Rattle.mv_move_types.specs.Tags.{Tag, LeafTag, StructTag, ReferenceTag}
use Rattle.mv_move_types.specs.Named.{definition_of}
use Rattle.mv_bound_rules.specs.TypesByName.{tokens_named}
use Rattle.mv_module_text.specs.Fits.{address_fits}
use Rattle.mv_machine.specs.Step.{is_reference_tag}

-- whether a number is one of a leaf of this kind
abbrev pub in_range : LeafKind → ℕ → Bool
in_range Boolean n = nat_lt n 2
in_range (Number w) n = nat_lt n (2 ^ width_bits w)
in_range Address n = address_fits n
in_range Signer n = address_fits n

-- the types of a struct's fields, by names
unfoldable pub fields_by_name : List Module → StructName → Option (List Tag)
fields_by_name modules name = definition_of modules name >>= λ d. tokens_named d.0 (map (λ f. f.token) d.1)

-- what a struct's fields are of
abbrev pub Table : Type 0
Table = StructName → Option (List Tag)

-- what stands at each root
abbrev pub Roots : Type 0
Roots = Root → Option Value

module _ (table : Table) where
  -- a value without references is of a type, and its fields are of theirs, at any depth
  abbrev mutual
    pub IsOf : Value → Tag → Type 0
    IsOf (Leaf k n) (LeafTag j) = (k ≡ j) × IsTrue (in_range k n)
    IsOf (Leaf k n) (StructTag u) = ⊥
    IsOf (Leaf k n) (ReferenceTag m t) = ⊥
    IsOf (Struct name fields) (LeafTag j) = ⊥
    IsOf (Struct name fields) (StructTag u) = (name ≡ u) × (ts : List Tag) × (table name ≡ Some ts) × AreOf fields ts
    IsOf (Struct name fields) (ReferenceTag m t) = ⊥
    IsOf (Ref r) t = ⊥

    pub AreOf : Values → List Tag → Type 0
    AreOf NoMore [] = Unit {0}
    AreOf NoMore (t ∷ ts) = ⊥
    AreOf (More v vs) [] = ⊥
    AreOf (More v vs) (t ∷ ts) = IsOf v t × AreOf vs ts

  -- a path leads from a type to the type of what is there
  pub data Leads : Tag → List ℕ → Tag → Type 0 where
    AtOnce : {t : Tag} → Leads t [] t
    Through : {s : StructName} {f : ℕ} {path : List ℕ} {ts : List Tag} {t u : Tag}
        → table s ≡ Some ts → slice_get ts f ≡ Some t → Leads t path u → Leads (StructTag s) (f ∷ path) u

  -- a root is there and holds a value of the type
  pub record Rooted (look : Roots) (root : Root) (t : Tag) : Type 0 where
    pub value : Value
    pub is_there : look root ≡ Some value
    pub is_of : IsOf value t

  -- a reference's root is there and is of a type that leads by its path to this one
  pub record PointsTo (look : Roots) (r : Reference) (to : Tag) : Type 0 where
    pub base : Tag
    pub root : Rooted look r.place.root base
    pub leads : Leads base r.place.path to

  -- a value is of a type, a reference by what it leads to
  abbrev pub HasType : Roots → Value → Tag → Type 0
  HasType look v (LeafTag j) = IsOf v (LeafTag j)
  HasType look v (StructTag u) = IsOf v (StructTag u)
  HasType look (Leaf k n) (ReferenceTag m t) = ⊥
  HasType look (Struct name fields) (ReferenceTag m t) = ⊥
  HasType look (Ref r) (ReferenceTag m t) = (r.is_mutable ≡ m) × PointsTo look r t

  -- an argument that was lent, if it was a reference, is of its parameter's type, and else that is no reference's
  abbrev pub LentHasType : Roots → Option Reference → Tag → Type 0
  LentHasType look None t = is_reference_tag t ≡ false
  LentHasType look (Some r) t = HasType look (Ref r) t

  -- each argument is
  abbrev pub LentHaveTypes : Roots → List (Option Reference) → List Tag → Type 0
  LentHaveTypes look [] [] = Unit {0}
  LentHaveTypes look [] (t ∷ ts) = ⊥
  LentHaveTypes look (r ∷ rs) [] = ⊥
  LentHaveTypes look (r ∷ rs) (t ∷ ts) = LentHasType look r t × LentHaveTypes look rs ts
