-- What an instruction exchanges on the stack, by its rule for types.
use Rattle.std.proofs.Common.{◌≡◌, ℕ, Bool, true, not, List, [], ◌∷◌, ◌++◌, length, map, reverse, take, drop, slice_get, Some, refl, sym, ap, ◌∙◌}
use Rattle.std.specs.List.{list_all}
use Rattle.std.proofs.lemmas.List.{take-append-drop}
use Rattle.std.proofs.lemmas.List.Folds.{list_all-map}
use Rattle.std.proofs.lemmas.Option.{none-some, same_Some}
use Rattle.mv_move_types.specs.declared.token.Width.{Width}
use Rattle.mv_move_types.specs.declared.token.Width.TheVariants.{U8}
use Rattle.mv_move_types.specs.declared.token.LeafKind.TheVariants.{Signer}
use Rattle.mv_move_types.specs.declared.token.ValueType.{ValueType}
use Rattle.mv_move_types.specs.declared.token.ValueType.TheVariants.{OfLeaf, OfStruct}
use Rattle.mv_move_types.specs.declared.token.Token.{Token}
use Rattle.mv_move_types.specs.declared.token.Token.TheVariants.{Plain, Reference, MutableReference}
use Rattle.mv_move_types.specs.declared.tables.Field.{Field}
use Rattle.mv_move_types.specs.Tokens.{same_value_type, same_tokens}
use Rattle.mv_move_types.specs.Options.{◌>>=◌}
use Rattle.mv_move_types.specs.Module.{Module, StructDefinition, FunctionDefinition, local_type}
use Rattle.mv_abilities.specs.Abilities.{value_type_abilities, token_abilities}
use Rattle.mv_type_rules.specs.TypeRules.{Types, top_type, taken, takes_gives, boolean, number, address, width_of, plain_of, target_of}
use Rattle.mv_type_rules.specs.TypeRules.{mutable_target_of, top_width, of_two_numbers, of_shift, of_cast, of_equality, of_pop, of_copy}
use Rattle.mv_type_rules.specs.TypeRules.{of_borrow_local, keyed_type, field_types, of_mutable_field, of_immutable_field, of_pack, of_unpack}
use Rattle.mv_type_rules.specs.TypeRules.{of_read, of_write, of_freeze, of_constant, of_global, of_move_to}
use Rattle.mv_bound_rules.proofs.Tokens.{lists_equal}
use Rattle.mv_type_rules.proofs.Steps.{bind_some, provided_true, top_some}
use Rattle.mv_certificate_rules.specs.BorrowRules.{is_reference_token}
use Rattle.mv_borrow_graph.specs.Laws.Places.{all_reverse}
use Rattle.mv_bound_rules.proofs.Entries.{all_at}

-- whether a type is no reference
abbrev pub is_plain : Token → Bool
is_plain t = not (is_reference_token t)

-- what is taken stands on top
pub taken_is : (ws : List Token) (s t : Types) → taken ws s ≡ Some t → s ≡ reverse ws ++ t
taken_is ws s t e =
    let p = provided_true (same_tokens (take (length ws) s) (reverse ws)) (drop (length ws) s) t e in
    let front : take (length ws) s ≡ reverse ws = lists_equal (take (length ws) s) (reverse ws) p.0 in
    sym (take-append-drop (length ws) s) ∙ ap (λ xs. xs ++ drop (length ws) s) front ∙ ap (λ xs. reverse ws ++ xs) p.1

-- some types on top are exchanged for others
pub record Shift (s t taken given : Types) : Type 0 where
  pub rest : Types
  pub before : s ≡ taken ++ rest
  pub after : t ≡ given ++ rest

pub exchanged : (ws gs : List Token) (s t : Types) → takes_gives ws gs s ≡ Some t → Shift s t (reverse ws) (reverse gs)
exchanged ws gs s t e =
    let below = bind_some (taken ws s) _ t e in
    record { rest = below.0; before = taken_is ws s below.0 below.1.0; after = sym (same_Some (reverse gs ++ below.0) t below.1.1) }

pub pushed : (x : Token) (s t : Types) → Some (x ∷ s) ≡ Some t → Shift s t [] (x ∷ [])
pushed x s t e = record { rest = s; before = refl; after = sym (same_Some (x ∷ s) t e) }

-- the topmost is exchanged for another, or taken
pub replaced : (s : Types) (top : Token × Types) (x : Token) (t : Types) → top_type s ≡ Some top → Some (x ∷ top.1) ≡ Some t → Shift s t (top.0 ∷ []) (x ∷ [])
replaced s top x t there e = record { rest = top.1; before = top_some s top there; after = sym (same_Some (x ∷ top.1) t e) }

pub popped : (s : Types) (top : Token × Types) (t : Types) → top_type s ≡ Some top → top.1 ≡ t → Shift s t (top.0 ∷ []) []
popped s top t there e = record { rest = top.1; before = top_some s top there; after = sym e }

-- none of what is taken is a reference
pub record PlainShift (s t : Types) : Type 0 where
  pub taken : Types
  pub given : Types
  pub shift : Shift s t taken given
  pub plain : list_all is_plain taken ≡ true

plainly : (s t taken given : Types) → Shift s t taken given → list_all is_plain taken ≡ true → PlainShift s t
plainly s t taken given h p = record { taken = taken; given = given; shift = h; plain = p }

pub plain_exchanged : (ws gs : List Token) (s t : Types) → list_all is_plain ws ≡ true → takes_gives ws gs s ≡ Some t → PlainShift s t
plain_exchanged ws gs s t plain e = plainly s t (reverse ws) (reverse gs) (exchanged ws gs s t e) (all_reverse is_plain ws plain)

pub plain_taken : (ws : List Token) (s t : Types) → list_all is_plain ws ≡ true → taken ws s ≡ Some t → PlainShift s t
plain_taken ws s t plain e = plainly s t (reverse ws) [] (record { rest = t; before = taken_is ws s t e; after = refl }) (all_reverse is_plain ws plain)

pub plain_pushed : (x : Token) (s t : Types) → Some (x ∷ s) ≡ Some t → PlainShift s t
plain_pushed x s t e = plainly s t [] (x ∷ []) (pushed x s t e) refl

pub unchanged : (s t : Types) → Some s ≡ Some t → PlainShift s t
unchanged s t e = plainly s t [] [] (record { rest = s; before = refl; after = sym (same_Some s t e) }) refl

-- numbers
pub constant_shift : (m : Module) (i : ℕ) (s t : Types) → of_constant m i s ≡ Some t → PlainShift s t
constant_shift m i s t e = let h = bind_some (slice_get m.constants i) _ t e in plain_pushed h.0.token s t h.1.1

pub two_numbers_shift : (given : Width → Token) (s t : Types) → of_two_numbers given s ≡ Some t → PlainShift s t
two_numbers_shift given s t e =
    let h = bind_some (top_width s) _ t e in plain_exchanged (number h.0 ∷ number h.0 ∷ []) (given h.0 ∷ []) s t refl h.1.1

pub plain_of-is : (t : Token) (v : ValueType) → plain_of t ≡ Some v → t ≡ Plain v
plain_of-is (Plain x) v e = ap Plain (same_Some x v e)
plain_of-is (Reference x) v e = absurd (none-some v e)
plain_of-is (MutableReference x) v e = absurd (none-some v e)

pub plain_type : (t : Token) (v : ValueType) → plain_of t ≡ Some v → is_plain t ≡ true
plain_type t v e = ap is_plain (plain_of-is t v e)

pub equality_shift : (m : Module) (s t : Types) → of_equality m s ≡ Some t → PlainShift s t
equality_shift m s t e =
    let top = bind_some (top_type s) _ t e in
    let plain = bind_some (plain_of top.0.0) _ t top.1.1 in
    let a = bind_some (token_abilities m top.0.0) _ t plain.1.1 in
    let below = bind_some (taken (top.0.0 ∷ []) top.0.1) _ t a.1.1 in
    let last = provided_true a.0.drop (boolean ∷ below.0) t below.1.1 in
    let is_plain_top : is_plain top.0.0 ≡ true = plain_type top.0.0 plain.0 plain.1.0 in
    plainly s t (top.0.0 ∷ top.0.0 ∷ []) (boolean ∷ [])
    (record {
      rest = below.0;
      before = top_some s top.0 top.1.0 ∙ ap (λ xs. top.0.0 ∷ xs) (taken_is (top.0.0 ∷ []) top.0.1 below.0 below.1.0);
      after = sym last.1;
    })
    (rw is_plain_top refl)

pub shift_shift : (s t : Types) → of_shift s ≡ Some t → PlainShift s t
shift_shift s t e =
    let below = bind_some (taken (number U8 ∷ []) s) _ t e in
    let width = bind_some (top_width below.0) _ t below.1.1 in
    let same : below.0 ≡ t = same_Some below.0 t width.1.1 in
    plain_taken (number U8 ∷ []) s t refl (below.1.0 ∙ ap Some same)

number_plain : (t : Token) (w : Width) → width_of t ≡ Some w → is_plain t ≡ true
number_plain (Plain x) w e = refl
number_plain (Reference x) w e = absurd (none-some w e)
number_plain (MutableReference x) w e = absurd (none-some w e)

pub cast_shift : (w : Width) (s t : Types) → of_cast w s ≡ Some t → PlainShift s t
cast_shift w s t e =
    let top = bind_some (top_type s) _ t e in
    let width = bind_some (width_of top.0.0) _ t top.1.1 in
    let is : is_plain top.0.0 ≡ true = number_plain top.0.0 width.0 width.1.0 in
    plainly s t (top.0.0 ∷ []) (number w ∷ []) (replaced s top.0 (number w) t top.1.0 width.1.1) (rw is refl)

-- structs
pub pack_shift : (m : Module) (i : ℕ) (s t : Types)
    → list_all (λ (x : StructDefinition). list_all (λ f. is_plain f.token) x.fields) m.structs ≡ true → of_pack m i s ≡ Some t → PlainShift s t
pack_shift m i s t plain e =
    let d = bind_some (slice_get m.structs i) _ t e in
    let fields : list_all (λ (f : Field). is_plain f.token) d.0.fields ≡ true =
    all_at (λ (x : StructDefinition). list_all (λ f. is_plain f.token) x.fields) m.structs i d.0 plain d.1.0 in
    plain_exchanged (map (λ f. f.token) d.0.fields) (Plain (OfStruct d.0.handle) ∷ []) s t
    (list_all-map is_plain (λ (f : Field). f.token) d.0.fields ∙ fields) d.1.1

pub unpack_shift : (m : Module) (i : ℕ) (s t : Types) → of_unpack m i s ≡ Some t → PlainShift s t
unpack_shift m i s t e =
    let d = bind_some (slice_get m.structs i) _ t e in plain_exchanged (Plain (OfStruct d.0.handle) ∷ []) (map (λ f. f.token) d.0.fields) s t refl d.1.1

-- globals
pub global_shift : (given : ValueType → Token) (m : Module) (i : ℕ) (s t : Types) → of_global given m i s ≡ Some t
    → (v : ValueType) × ((keyed_type m i ≡ Some v) × Shift s t (address ∷ []) (given v ∷ []))
global_shift given m i s t e = let k = bind_some (keyed_type m i) _ t e in (k.0, (k.1.0, exchanged (address ∷ []) (given k.0 ∷ []) s t k.1.1))

pub plain_global : (given : ValueType → Token) (m : Module) (i : ℕ) (s t : Types) → of_global given m i s ≡ Some t → PlainShift s t
plain_global given m i s t e = let h = global_shift given m i s t e in plainly s t (address ∷ []) (given h.0 ∷ []) h.1.1 refl

pub move_to_shift : (m : Module) (i : ℕ) (s t : Types) → of_move_to m i s ≡ Some t → (v : ValueType) × Shift s t (Plain v ∷ Reference (OfLeaf Signer) ∷ []) []
move_to_shift m i s t e = let k = bind_some (keyed_type m i) _ t e in (k.0, exchanged (Reference (OfLeaf Signer) ∷ Plain k.0 ∷ []) [] s t k.1.1)

-- references
pub pop_shift : (m : Module) (s t : Types) → of_pop m s ≡ Some t → (x : Token) × Shift s t (x ∷ []) []
pop_shift m s t e =
    let top = bind_some (top_type s) _ t e in
    let a = bind_some (token_abilities m top.0.0) _ t top.1.1 in
    (top.0.0, popped s top.0 t top.1.0 (provided_true a.0.drop top.0.1 t a.1.1).1)

pub copy_shift : (m : Module) (d : FunctionDefinition) (l : ℕ) (s t : Types) → of_copy m d l s ≡ Some t
    → (x : Token) × ((local_type m d l ≡ Some x) × Shift s t [] (x ∷ []))
copy_shift m d l s t e =
    let x = bind_some (local_type m d l) _ t e in
    let a = bind_some (token_abilities m x.0) _ t x.1.1 in
    (x.0, (x.1.0, pushed x.0 s t (ap Some (provided_true a.0.copy (x.0 ∷ s) t a.1.1).1)))

pub move_shift : (m : Module) (d : FunctionDefinition) (l : ℕ) (s t : Types) → (local_type m d l >>= λ x. Some (x ∷ s)) ≡ Some t
    → (x : Token) × ((local_type m d l ≡ Some x) × Shift s t [] (x ∷ []))
move_shift m d l s t e = let x = bind_some (local_type m d l) _ t e in (x.0, (x.1.0, pushed x.0 s t x.1.1))

pub store_shift : (m : Module) (d : FunctionDefinition) (l : ℕ) (s t : Types) → (local_type m d l >>= λ x. taken (x ∷ []) s) ≡ Some t
    → (x : Token) × ((local_type m d l ≡ Some x) × Shift s t (x ∷ []) [])
store_shift m d l s t e =
    let x = bind_some (local_type m d l) _ t e in (x.0, (x.1.0, record { rest = t; before = taken_is (x.0 ∷ []) s t x.1.1; after = refl }))

pub borrow_shift : (given : ValueType → Token) (m : Module) (d : FunctionDefinition) (l : ℕ) (s t : Types) → of_borrow_local given m d l s ≡ Some t
    → (x : Token) × ((local_type m d l ≡ Some x) × ((is_plain x ≡ true) × ((v : ValueType) × Shift s t [] (given v ∷ []))))
borrow_shift given m d l s t e =
    let x = bind_some (local_type m d l) _ t e in
    let v = bind_some (plain_of x.0) _ t x.1.1 in
    (x.0, (x.1.0, (plain_type x.0 v.0 v.1.0, (v.0, pushed (given v.0) s t v.1.1))))

pub mutable_field_shift : (m : Module) (i : ℕ) (s t : Types) → of_mutable_field m i s ≡ Some t
    → (v : ValueType × ValueType) × ((field_types m i ≡ Some v) × Shift s t (MutableReference v.0 ∷ []) (MutableReference v.1 ∷ []))
mutable_field_shift m i s t e =
    let v = bind_some (field_types m i) _ t e in (v.0, (v.1.0, exchanged (MutableReference v.0.0 ∷ []) (MutableReference v.0.1 ∷ []) s t v.1.1))

pub immutable_field_shift : (m : Module) (i : ℕ) (s t : Types) → of_immutable_field m i s ≡ Some t
    → (v : ValueType × ValueType) × ((field_types m i ≡ Some v) × ((x : Token) × Shift s t (x ∷ []) (Reference v.1 ∷ [])))
immutable_field_shift m i s t e =
    let v = bind_some (field_types m i) _ t e in
    let top = bind_some (top_type s) _ t v.1.1 in
    let target = bind_some (target_of top.0.0) _ t top.1.1 in (
      v.0,
      (
        v.1.0,
        (
          top.0.0,
          replaced s top.0 (Reference v.0.1) t top.1.0
              (ap Some (provided_true (same_value_type target.0 v.0.0) (Reference v.0.1 ∷ top.0.1) t target.1.1).1),
        ),
      ),
    )

pub read_shift : (m : Module) (s t : Types) → of_read m s ≡ Some t → (x : Token) × ((v : ValueType) × Shift s t (x ∷ []) (Plain v ∷ []))
read_shift m s t e =
    let top = bind_some (top_type s) _ t e in
    let target = bind_some (target_of top.0.0) _ t top.1.1 in
    let a = bind_some (value_type_abilities m target.0) _ t target.1.1 in
    (top.0.0, (target.0, replaced s top.0 (Plain target.0) t top.1.0 (ap Some (provided_true a.0.copy (Plain target.0 ∷ top.0.1) t a.1.1).1)))

pub write_shift : (m : Module) (s t : Types) → of_write m s ≡ Some t → (x : Token) × ((v : ValueType) × Shift s t (x ∷ Plain v ∷ []) [])
write_shift m s t e =
    let top = bind_some (top_type s) _ t e in
    let target = bind_some (mutable_target_of top.0.0) _ t top.1.1 in
    let a = bind_some (value_type_abilities m target.0) _ t target.1.1 in
    let below = bind_some (taken (Plain target.0 ∷ []) top.0.1) _ t a.1.1 in (
      top.0.0,
      (
        target.0,
        record {
          rest = below.0;
          before = top_some s top.0 top.1.0 ∙ ap (λ xs. top.0.0 ∷ xs) (taken_is (Plain target.0 ∷ []) top.0.1 below.0 below.1.0);
          after = sym (provided_true a.0.drop below.0 t below.1.1).1;
        },
      ),
    )

pub freeze_shift : (s t : Types) → of_freeze s ≡ Some t → (x : Token) × ((v : ValueType) × Shift s t (x ∷ []) (Reference v ∷ []))
freeze_shift s t e =
    let top = bind_some (top_type s) _ t e in
    let target = bind_some (mutable_target_of top.0.0) _ t top.1.1 in
    (top.0.0, (target.0, replaced s top.0 (Reference target.0) t top.1.0 target.1.1))
