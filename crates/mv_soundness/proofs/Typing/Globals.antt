-- Rows of the storage.
use Rattle.mv_soundness.proofs.Typing.Common.{◌≡◌, ℕ, ◌+◌, true, List, [], ◌∷◌, refl, ap, subst, ◌∙◌, Option, Some, None, Ok, Bool, false, sym, false_from_ne_true, same_Some, none-some}
use Rattle.mv_soundness.proofs.Typing.Common.{option_map_or, IsTrue, slice_get, ok_or, not, is_some, name_at, StructName, Tag, LeafTag, StructTag, ReferenceTag, Instruction, Key}
use Rattle.mv_soundness.proofs.Typing.Common.{Abilities, Address, Signer, Token, Plain, ReferenceTo, ValueType, OfLeaf, OfStruct, references, root_value, Storage, stored_at, with_stored}
use Rattle.mv_soundness.proofs.Typing.Common.{same_key, without_stored, Here, OwnStruct, operand, as_reference, follow, with_stack, goes_on, truth, untouched, gives, abilities_at}
use Rattle.mv_soundness.proofs.Typing.Common.{Faults, DanglingFault, has_tag, Aborts, Value, Leaf, Ref, Root, Local, Stored, Reference, on_bind, address_fits, then_found, token_named}
use Rattle.mv_soundness.proofs.Typing.Common.{value_type_named, same_key-to, Types, boolean, takes_gives, TypesAt, Row, Facts, in_range, Roots, IsOf, Table, HasType, AtOnce, HasToken}
use Rattle.mv_soundness.proofs.Typing.Common.{HaveTokens, TurnTyped, StorageTyped, Avoid, Unreached}
use Rattle.mv_move_types.specs.{Results.◌>>=◌, Module.struct_abilities}
use Rattle.mv_machine.specs.{declared.Kind.TheVariants.Exists as AlreadyThere, declared.Kind.TheVariants.Missing, StepGlobals.exists, StepGlobals.borrow_global, StepGlobals.move_from}
use Rattle.mv_machine.specs.Step.{keyed_struct, move_to, key_at, as_signer, with_storage}
use Rattle.mv_machine.proofs.Binds.{none-is}
use Rattle.mv_type_rules.specs.TypeRules.{address, keyed_type, of_global, of_move_to}
use Rattle.mv_soundness.specs.{Typing.HasType.fields_by_name, Typing.Unreached.Unlent}
use Rattle.mv_soundness.proofs.Typing.Parts.{Part, known, passes, tried, tested, frozen}
use Rattle.mv_soundness.proofs.Typing.Operands.{on_test, takes_gives-is, one_operand, leaf}
use Rattle.mv_soundness.proofs.Typing.Keep.{Kept, Nothing, avoid_nothing, none_to_nothing, keep_stack, keep_locals, keep_below}
use Rattle.mv_soundness.proofs.{Typing.Roots.place_of, Typing.Roots.typed_has_tag, Typing.Stays.gives_typed, Typing.Stays.moved, Typing.Stays.top_typed, Typing.Families.of_truth}
use Rattle.mv_soundness.proofs.{Typing.References.immutable}
use Rattle.mv_soundness.proofs.Typing.Storage.{stored_other, unstored_other, stored_typed, typed_with, typed_without}

-- an own struct with key
pub record KeyedFacts (h : Here) (k : ℕ) (u : ValueType) : Type 0 where
  pub struct : OwnStruct
  pub is_found : keyed_struct h k ≡ Ok struct
  pub names : value_type_named h.home u ≡ Some (StructTag struct.name)
  pub key : name_at h.modules h.state.top.function.place k ≡ Some struct.name
  pub has_key : IsTrue (option_map_or (λ a. a.key) (abilities_at h.modules h.state.top.function.place k) false)

pub keyed_facts : (h : Here) → Facts h → slice_get h.modules h.state.top.function.place ≡ Some h.home → (k : ℕ) (u : ValueType) → keyed_type h.home k ≡ Some u → KeyedFacts h k u
unfolding keyed_struct
keyed_facts h facts home_at k u e =
    on_bind (slice_get h.home.structs k) _ u e (λ d d_is e1.
    on_bind (struct_abilities h.home d) _ u e1 (λ a a_is e2.
    on_test a.key (OfStruct d.handle) u e2 (λ able same.
    let own = facts.own k d d_is in
    let abilities : a ≡ own.struct.abilities = same_Some a own.struct.abilities (sym a_is ∙ own.abilities) in
    let key : own.struct.abilities.key ≡ true = subst (λ (x : Abilities). x.key ≡ true) abilities able in
    let name : value_type_named h.home (OfStruct d.handle) ≡ Some (StructTag own.struct.name) = rw own.is_named refl in
    let abilities_are : abilities_at h.modules h.state.top.function.place k ≡ Some a =
    then_found (slice_get h.modules h.state.top.function.place) _ h.home (Some a) home_at (then_found (slice_get h.home.structs k) _ d (Some a) d_is a_is) in
    record { struct = own.struct; is_found = rw (own.is_found, key) refl; names = subst (λ (x : ValueType). value_type_named h.home x ≡ Some (StructTag own.struct.name)) same name; key = own.key; has_key = subst (λ (x : Option Abilities). IsTrue (option_map_or (λ a. a.key) x false)) (sym abilities_are) able })))

-- what is stored under an own struct's key is one
pub stored_struct : (h : Here) (k : ℕ) (u : ValueType) (f : KeyedFacts h k u) (a : ℕ) (v : Value) → StorageTyped h.modules h.state.storage
    → stored_at h.state.storage (key_at h k a) ≡ Some v → IsOf (fields_by_name h.modules) v (StructTag f.struct.name)
stored_struct h k u f a v typed there =
    let entry = stored_typed h.modules h.state.storage (key_at h k a) v typed there in
    subst (λ (n : StructName). IsOf (fields_by_name h.modules) v (StructTag n)) (same_Some entry.name f.struct.name (sym entry.is_named ∙ f.key)) entry.typed

-- the number of a signer
pub signer_leaf : (table : Table) (v : Value) → IsOf table v (LeafTag Signer) → (n : ℕ) × (v ≡ Leaf Signer n) × IsTrue (address_fits n)
signer_leaf table (Leaf k n) e = (n, ap (λ x. Leaf x n) e.0, subst (λ x. IsTrue (in_range x n)) e.0 e.1)
signer_leaf table v e = absurd e

module _ (h : Here) (i : Instruction) (types after : Types) (row : Row h i types after) (next : TypesAt h.home h.function (h.state.top.at + 1) after) where
  -- an address on top, and what is given for it
  record AtAddress (k : ℕ) (given : Token) : Type 0 where
    a : ℕ
    rest : List Value
    below : Types
    are : h.state.top.stack ≡ Leaf Address a ∷ rest
    all : types ≡ address ∷ below
    typed : HaveTokens h.modules (root_value h.state) h.home rest below
    given_is : after ≡ given ∷ below

  at_address : (k : ℕ) (given : Token) → takes_gives (address ∷ []) (given ∷ []) types ≡ Some after → AtAddress k given
  at_address k given e =
      let parts = takes_gives-is (address ∷ []) (given ∷ []) types after e in
      let top = top_typed h i types after row address parts.0 parts.1 in
      let x = leaf h.modules (root_value h.state) h.home top.0 Address top.3 in
      record { a = x.number; rest = top.1; below = parts.0; are = top.2 ∙ ap (λ (v : Value). v ∷ top.1) x.is_leaf; all = parts.1; typed = top.4; given_is = parts.2 }

  pub tells : (k : ℕ) → of_global (λ t. boolean) h.home k types ≡ Some after → Part (TurnTyped h.modules) (exists h k)
  unfolding exists
  tells k e =
      on_bind (keyed_type h.home k) _ after e (λ u u_is e1.
      let f = keyed_facts h row.facts row.is_home k u u_is in
      let x = at_address k boolean e1 in
      known (TurnTyped h.modules) (keyed_struct h k) _ f.struct f.is_found
      (known (TurnTyped h.modules) (operand h.state.top.stack) _ (Leaf Address x.a, x.rest) (ap operand x.are)
      (gives_typed h i types after (Ok (truth (is_some (stored_at h.state.storage (key_at h k x.a))) ∷ x.rest)) row next
      (subst (λ (ts : Types). HaveTokens h.modules (root_value h.state) h.home (truth (is_some (stored_at h.state.storage (key_at h k x.a))) ∷ x.rest) ts) (sym x.given_is)
      (of_truth h.modules (root_value h.state) h.home (is_some (stored_at h.state.storage (key_at h k x.a))), x.typed)))))

  pub borrows_global : (m : Bool) (given : ValueType → Token) → ((t : ValueType) (tag : Tag) → value_type_named h.home t ≡ Some tag → token_named h.home (given t) ≡ Some (ReferenceTag m tag)) →
      (k : ℕ) → of_global given h.home k types ≡ Some after → Part (TurnTyped h.modules) (borrow_global m h k)
  unfolding borrow_global
  borrows_global m given names k e =
      on_bind (keyed_type h.home k) _ after e (λ u u_is e1.
      let f = keyed_facts h row.facts row.is_home k u u_is in
      let x = at_address k (given u) e1 in
      known (TurnTyped h.modules) (keyed_struct h k) _ f.struct f.is_found
      (known (TurnTyped h.modules) (operand h.state.top.stack) _ (Leaf Address x.a, x.rest) (ap operand x.are)
      (by_case u f x (stored_at h.state.storage (key_at h k x.a)) refl)))
    where
      by_case : (u : ValueType) (f : KeyedFacts h k u) (x : AtAddress k (given u)) (found : Option Value) → stored_at h.state.storage (key_at h k x.a) ≡ found →
          Part (TurnTyped h.modules) (ok_or found (Aborts Missing 0) >>= λ v. gives h (Ok (Ref (record { is_mutable = m; place = record { root = Stored (key_at h k x.a); path = [] } }) ∷ x.rest)))
      by_case u f x None there = tt
      by_case u f x (Some v) there =
          gives_typed h i types after (Ok (Ref (record { is_mutable = m; place = record { root = Stored (key_at h k x.a); path = [] } }) ∷ x.rest)) row next
          (subst (λ (ts : Types). HaveTokens h.modules (root_value h.state) h.home
          (Ref (record { is_mutable = m; place = record { root = Stored (key_at h k x.a); path = [] } }) ∷ x.rest) ts) (sym x.given_is) (
            record {
              tag = ReferenceTag m (StructTag f.struct.name);
              names = names u (StructTag f.struct.name) f.names;
              typed = (refl, record { base = StructTag f.struct.name; root = record { value = v; is_there = there; is_of = stored_struct h k u f x.a v row.stands.storage there }; leads = AtOnce });
            },
            x.typed,
          ))

  -- the state with another storage and these operands
  restored : (gone : Root → Type 0) (storage : Storage) (stack : List Value)
      → Kept h.modules (root_value h.state) (root_value (with_storage h.state storage)) gone → Unreached gone h.state → StorageTyped h.modules storage
      → HaveTokens h.modules (root_value (with_storage h.state storage)) h.home stack after
      → Part (TurnTyped h.modules) (goes_on (with_stack (with_storage h.state storage) stack))
  restored gone storage stack kept free stored typed =
      moved h i types after row (h.state.top.at + 1) h.state.top.locals stack h.state.below storage h.state.events next row.stands.numbered.1
      (keep_locals h.modules (root_value h.state) (root_value (with_storage h.state storage)) gone kept h.home h.state.top.locals row.stands.tokens free.0.0 row.stands.locals)
      typed
      (keep_below h.modules (root_value h.state) (root_value (with_storage h.state storage)) gone kept h.state.top.entered_with row.stands.results h.state.below free.1 row.stands.below)
      stored

  kept_without : (key : Key) → Kept h.modules (root_value h.state) (root_value (with_storage h.state (without_stored h.state.storage key))) (λ root. root ≡ Stored key)
  kept_without key (Local m l) t far r = record { value = r.value; is_there = r.is_there; is_of = r.is_of }
  kept_without key (Stored other) t far r =
      let p = false_from_ne_true (same_key key other) (λ p. far (ap Stored (sym (same_key-to key other p)))) in
      record { value = r.value; is_there = unstored_other h.state.storage key other p ∙ r.is_there; is_of = r.is_of }

  pub takes_out : (k : ℕ) → of_global Plain h.home k types ≡ Some after → Unlent h.state k → Part (TurnTyped h.modules) (move_from h k)
  unfolding move_from
  takes_out k e free =
      on_bind (keyed_type h.home k) _ after e (λ u u_is e1.
      let f = keyed_facts h row.facts row.is_home k u u_is in
      let x = at_address k (Plain u) e1 in
      known (TurnTyped h.modules) (keyed_struct h k) _ f.struct f.is_found
      (known (TurnTyped h.modules) (operand h.state.top.stack) _ (Leaf Address x.a, x.rest) (ap operand x.are)
      (tested (TurnTyped h.modules) (untouched h.state (record { root = Stored (key_at h k x.a); path = [] })) _ (frozen h.state (record { root = Stored (key_at h k x.a); path = [] }))
      (by_case u f x (stored_at h.state.storage (key_at h k x.a)) refl))))
    where
      by_case : (u : ValueType) (f : KeyedFacts h k u) (x : AtAddress k (Plain u)) (found : Option Value) → stored_at h.state.storage (key_at h k x.a) ≡ found →
          Part (TurnTyped h.modules) (ok_or found (Aborts Missing 0) >>= λ v. goes_on (with_stack (with_storage h.state (without_stored h.state.storage (key_at h k x.a))) (v ∷ x.rest)))
      by_case u f x None there = tt
      by_case u f x (Some v) there =
          let storage : Storage = without_stored h.state.storage (key_at h k x.a) in
          let gone : Root → Type 0 = λ root. root ≡ Stored (key_at h k x.a) in
          let unreached : Unreached gone h.state = free x.a x.rest x.are in
          let kept = kept_without (key_at h k x.a) in
          let avoided : Avoid gone (references (Leaf Address x.a ∷ x.rest)) = subst (λ (vs : List Value). Avoid gone (references vs)) x.are unreached.0.1 in
          let rest_typed = keep_stack h.modules (root_value h.state) (root_value (with_storage h.state storage)) gone kept h.home x.rest x.below avoided x.typed in
          let v_typed : HasToken h.modules (root_value (with_storage h.state storage)) h.home v (Plain u) =
          record { tag = StructTag f.struct.name; names = f.names; typed = stored_struct h k u f x.a v row.stands.storage there } in
          restored gone storage (v ∷ x.rest) kept unreached (typed_without h.modules h.state.storage (key_at h k x.a) row.stands.storage)
          (subst (λ (ts : Types). HaveTokens h.modules (root_value (with_storage h.state storage)) h.home (v ∷ x.rest) ts) (sym x.given_is) (v_typed, rest_typed))

  kept_with : (key : Key) (v : Value) → stored_at h.state.storage key ≡ None → Kept h.modules (root_value h.state) (root_value (with_storage h.state (with_stored h.state.storage key v))) Nothing
  kept_with key v none (Local m l) t far r = record { value = r.value; is_there = r.is_there; is_of = r.is_of }
  kept_with key v none (Stored other) t far r =
      let p = false_from_ne_true (same_key key other) (λ p. none-some r.value (sym none ∙ subst (λ x. stored_at h.state.storage x ≡ Some r.value) (sym (same_key-to key other p)) r.is_there)) in
      record { value = r.value; is_there = stored_other h.state.storage key other v p ∙ r.is_there; is_of = r.is_of }

  pub puts_in : (k : ℕ) → of_move_to h.home k types ≡ Some after → Part (TurnTyped h.modules) (move_to h k)
  unfolding move_to
  puts_in k e =
      on_bind (keyed_type h.home k) _ after e (λ u u_is e1.
      let f = keyed_facts h row.facts row.is_home k u u_is in
      let table = fields_by_name h.modules in
      let look : Roots = root_value h.state in
      let parts = takes_gives-is (ReferenceTo (OfLeaf Signer) ∷ Plain u ∷ []) [] types after e1 in
      let top = top_typed h i types after row (Plain u) (ReferenceTo (OfLeaf Signer) ∷ parts.0) parts.1 in
      let under = one_operand h.modules look h.home top.1 (ReferenceTo (OfLeaf Signer)) parts.0 top.4 in
      let ref = immutable h.modules look h.home under.0 (OfLeaf Signer) under.3 in
      let r : Reference = ref.reference in
      let signer_tag : ref.tag ≡ LeafTag Signer = same_Some ref.tag (LeafTag Signer) (sym ref.names) in
      let there = place_of table h.state r ref.tag ref.points in
      let signer = signer_leaf table there.0 (subst (λ (t : Tag). IsOf table there.0 t) signer_tag there.2) in
      let value_tag : top.3.tag ≡ StructTag f.struct.name = same_Some top.3.tag (StructTag f.struct.name) (sym top.3.names ∙ f.names) in
      let value_is : IsOf table top.0 (StructTag f.struct.name) = subst (λ (t : Tag). HasType table look top.0 t) value_tag top.3.typed in
      known (TurnTyped h.modules) (keyed_struct h k) _ f.struct f.is_found
      (known (TurnTyped h.modules) (operand h.state.top.stack) _ (top.0, top.1) (ap operand top.2)
      (known (TurnTyped h.modules) (operand top.1) _ (under.0, under.1) (ap operand under.2)
      (passes (TurnTyped h.modules) (has_tag h.state top.0 (StructTag f.struct.name)) _ _ (typed_has_tag table h.state top.0 (StructTag f.struct.name) value_is)
      (known (TurnTyped h.modules) (as_reference under.0) _ r (ap as_reference ref.is_reference)
      (passes (TurnTyped h.modules) (not r.is_mutable) _ _ (ap not ref.mutable)
      (known (TurnTyped h.modules) (follow h.state r) _ there.0 (ap (λ (x : Option Value). ok_or x (Faults DanglingFault)) there.1)
      (known (TurnTyped h.modules) (as_signer there.0) _ signer.0 (ap as_signer signer.1)
      (tried (TurnTyped h.modules) (not (is_some (stored_at h.state.storage (key_at h k signer.0)))) (Aborts AlreadyThere 0) _ tt (λ free.
      tested (TurnTyped h.modules) (untouched h.state (record { root = Stored (key_at h k signer.0); path = [] })) _ (frozen h.state (record { root = Stored (key_at h k signer.0); path = [] }))
      (let key : Key = key_at h k signer.0 in
      let none : stored_at h.state.storage key ≡ None = none-is (stored_at h.state.storage key) free in
      let storage : Storage = with_stored h.state.storage key top.0 in
      let kept = kept_with key top.0 none in
      restored Nothing storage under.1 kept (none_to_nothing h.state)
      (typed_with h.modules h.state.storage key top.0 row.stands.storage (record { name = f.struct.name; fits = signer.2; is_named = f.key; has_key = f.has_key; typed = value_is }))
      (subst (λ (ts : Types). HaveTokens h.modules (root_value (with_storage h.state storage)) h.home under.1 ts) (sym parts.2)
      (keep_stack h.modules look (root_value (with_storage h.state storage)) Nothing kept h.home under.1 parts.0 (avoid_nothing (references under.1)) under.4)))))))))))))
