-- Entries whose words are leaves of their structs' kinds are stored values with these leaves, and the other way round.
use Rattle.mv_saved_text.proofs.Common.{[], ◌++◌, ◌∙◌, ◌∷◌, ◌≡◌, Bool, IsTrue, List, None, Option, Some, ap, append-nil, append_assoc, ap₂, arith, cond, false, length, map, refl, subst, suc, sym, true}
use Rattle.mv_saved_text.proofs.Common.{zero, ℕ, and_from, none-some, same_Some, first_so, second_so, filter, option_map_or, ◌&&◌, unwrap_or, leaves_within, Module, name_at, struct_name, definition_of}
use Rattle.mv_saved_text.proofs.Common.{StructName, same_struct, ◌>>=◌, same_kind, Definition, Field, Key, Abilities, LeafKind, Boolean, Token, Plain, OfLeaf, OfStruct, uleb, on_bind, address_text}
use Rattle.mv_saved_text.proofs.Common.{address_fits, Ascends, IsBelow, map-is, FlatEntry, fields_from, flat, flat_fields, flat_storage, struct_from, value_from, value_under, Entry, Storage}
use Rattle.mv_saved_text.proofs.Common.{abilities_at, are_of_types, is_fine_entry, is_of_struct, is_of_type, leaf_fits, Leaf, More, NoMore, Struct, Value, Values, same_struct-same, on_found}
use Rattle.mv_saved_text.proofs.Common.{same_kind-same, AreAbove, IsAscending, AreLeaves, coded, is_keyed, kinds_of_fields, kinds_of_token, kinds_under, kinds_within, leaf_kinds, addressed_text}
use Rattle.mv_saved_text.proofs.Common.{is_under, leaves_text, stored_text}
use Rattle.mv_saved_text.proofs.Loads.LeafKinds.{kinds-count, struct-leaves}
use Rattle.mv_saved_text.proofs.Loads.BodyLookups.{under, IsLow, low-all}
use Rattle.mv_saved_text.proofs.Loads.BodyEntries.{entry_text, IsEntry}
use Rattle.mv_binary_format.proofs.Binds.{cond_parts}
use Rattle.mv_saved_text.specs.Parts.Saving.{struct_under}
use Rattle.mv_ledger_state.proofs.Handed.{flat_entry}

-- ---- leaves of the kinds that a struct's values have are those of such a value

-- ---- leaves one after the other

-- leaves of some kinds, and leaves of others after them
record Splits (ks ls : List LeafKind) (words : List ℕ) : Type 0 where
  pub front : List ℕ
  pub back : List ℕ
  pub words_are : words ≡ front ++ back
  pub first : AreLeaves ks front
  pub last : AreLeaves ls back

leaves-split : (ks ls : List LeafKind) (words : List ℕ) → AreLeaves (ks ++ ls) words → Splits ks ls words
leaves-split [] ls words h = record { front = []; back = words; words_are = refl; first = tt; last = h }
leaves-split (k ∷ ks) ls [] h = absurd h
leaves-split (k ∷ ks) ls (n ∷ words) h =
    let rest = leaves-split ks ls words h.1 in
    record { front = n ∷ rest.front; back = rest.back; words_are = ap (λ z. n ∷ z) rest.words_are; first = (h.0, rest.first); last = rest.last }

module _ (modules : List Module) where
  -- words are those of a value of a type that a module names
  record TokenDecodes (depth : ℕ) (m : Module) (t : Token) (words : List ℕ) : Type 0 where
    pub value : Value
    pub reads : (more : List ℕ) → value_from (struct_from depth modules) m t (words ++ more) ≡ Some (value, more)
    pub flat_is : flat value ≡ words
    pub typed : is_of_type modules m t value ≡ true

  -- of values of fields
  record FieldsDecode (depth : ℕ) (m : Module) (fs : List Field) (words : List ℕ) : Type 0 where
    pub values : Values
    pub reads : (more : List ℕ) → fields_from (value_from (struct_from depth modules) m) fs (words ++ more) ≡ Some (values, more)
    pub flat_is : flat_fields values ≡ words
    pub typed : are_of_types modules m fs values ≡ true

  -- of a value of a struct
  pub record StructDecodes (depth : ℕ) (name : StructName) (words : List ℕ) : Type 0 where
    pub value : Value
    pub reads : (more : List ℕ) → struct_from depth modules name (words ++ more) ≡ Some (value, more)
    pub flat_is : flat value ≡ words
    pub typed : is_of_struct modules name value ≡ true
    pub fields : Values
    pub value_is : value ≡ Struct name fields

  -- leaves of a struct's kinds are those of a value of it
  abbrev EachDecodes : ℕ → Type 0
  EachDecodes depth = (name : StructName) (ks : List LeafKind) (words : List ℕ) → kinds_within depth modules name ≡ Some ks → AreLeaves ks words → StructDecodes depth name words

  leaf-decoded : (depth : ℕ) (m : Module) (k : LeafKind) (words : List ℕ) → AreLeaves (k ∷ []) words → TokenDecodes depth m (Plain (OfLeaf k)) words
  leaf-decoded depth m k [] h = absurd h
  leaf-decoded depth m k (n ∷ []) h = record { value = Leaf k n; reads = λ more. refl; flat_is = refl; typed = and_from (same_kind k k) (leaf_fits k n) (same_kind-same k) h.0 }
  leaf-decoded depth m k (n ∷ o ∷ words) h = absurd h.1

  token-decoded : (depth : ℕ) → EachDecodes depth → (m : Module) (t : Token) (ks : List LeafKind) (words : List ℕ) → kinds_of_token (kinds_within depth modules) m t ≡ Some ks → AreLeaves ks words
      → TokenDecodes depth m t words
  token-decoded depth deeper m (Plain (OfLeaf k)) ks words e h = leaf-decoded depth m k words (subst (λ (l : List LeafKind). AreLeaves l words) (sym (same_Some (k ∷ []) ks e)) h)
  token-decoded depth deeper m (Plain (OfStruct i)) ks words e h =
      on_bind (struct_name m i) (kinds_within depth modules) ks e (λ name name_is e1.
      let d = deeper name ks words e1 h in
      let own : option_map_or (λ own. same_struct own name) (struct_name m i) false ≡ true = ap (λ o. option_map_or (λ own. same_struct own name) o false) name_is ∙ same_struct-same name in
      let typed : is_of_struct modules name (Struct name d.fields) ≡ true = subst (λ (v : Value). is_of_struct modules name v ≡ true) d.value_is d.typed in
      record {
        value = d.value;
        reads = λ more. ap (λ (o : Option StructName). o >>= λ name. struct_from depth modules name (words ++ more)) name_is ∙ d.reads more;
        flat_is = d.flat_is;
        typed = subst (λ (v : Value). is_of_type modules m (Plain (OfStruct i)) v ≡ true) (sym d.value_is) (and_from _ _ own (inner_typed name d.fields typed));
      })
    where
      inner_typed : (name : StructName) (fields : Values) → is_of_struct modules name (Struct name fields) ≡ true → option_map_or (λ (d : Module × List Field). are_of_types modules d.0 d.1 fields)
          (definition_of modules name) false ≡ true
      inner_typed name fields h = second_so (same_struct name name) (option_map_or (λ (d : Module × List Field). are_of_types modules d.0 d.1 fields) (definition_of modules name) false) h
  token-decoded _ _ _ _ ks _ e _ = absurd (none-some ks e)

  fields-decoded : (depth : ℕ) → EachDecodes depth → (m : Module) (fs : List Field) (ks : List LeafKind) (words : List ℕ) → kinds_of_fields (kinds_of_token (kinds_within depth modules) m) fs ≡ Some ks
      → AreLeaves ks words → FieldsDecode depth m fs words
  fields-decoded depth deeper m [] ks [] e h = record { values = NoMore; reads = λ more. refl; flat_is = refl; typed = refl }
  fields-decoded depth deeper m [] ks (n ∷ words) e h = absurd (subst (λ (l : List LeafKind). AreLeaves l (n ∷ words)) (sym (same_Some [] ks e)) h)
  fields-decoded depth deeper m (f ∷ fs) ks words e h =
      on_bind (kinds_of_token (kinds_within depth modules) m f.token) _ ks e (λ first first_is e1.
      on_bind (kinds_of_fields (kinds_of_token (kinds_within depth modules) m) fs) (λ rest. Some (first ++ rest)) ks e1 (λ rest rest_is e2.
      let s = leaves-split first rest words (subst (λ (l : List LeafKind). AreLeaves l words) (sym (same_Some (first ++ rest) ks e2)) h) in
      let a = token-decoded depth deeper m f.token first s.front first_is s.first in
      let b = fields-decoded depth deeper m fs rest s.back rest_is s.last in
      record {
        values = More a.value b.values;
        reads = λ more. ap (λ z. fields_from (value_from (struct_from depth modules) m) (f ∷ fs) (z ++ more)) s.words_are
            ∙ joined depth m f fs s.front s.back more a.value b.values (a.reads (s.back ++ more)) (b.reads more);
        flat_is = ap₂ (λ (x y : List ℕ). x ++ y) a.flat_is b.flat_is ∙ sym s.words_are;
        typed = and_from (is_of_type modules m f.token a.value) (are_of_types modules m fs b.values) a.typed b.typed;
      }))
    where
      joined : (depth : ℕ) (m : Module) (f : Field) (fs : List Field) (front back more : List ℕ) (v : Value) (vs : Values)
          → value_from (struct_from depth modules) m f.token (front ++ (back ++ more)) ≡ Some (v, back ++ more) →
          fields_from (value_from (struct_from depth modules) m) fs (back ++ more) ≡ Some (vs, more)
          → fields_from (value_from (struct_from depth modules) m) (f ∷ fs) ((front ++ back) ++ more) ≡ Some (More v vs, more)
      joined depth m f fs front back more v vs a b = rw (append_assoc front back more, a, b) refl

  pub struct-decoded : (depth : ℕ) → EachDecodes depth
  struct-decoded zero name ks words e h = absurd (none-some ks e)
  struct-decoded (suc depth) name ks words e h =
      on_bind (definition_of modules name) (λ d. kinds_of_fields (kinds_of_token (kinds_within depth modules) d.0) d.1) ks e (λ d d_is e1.
      let fields = fields-decoded depth (struct-decoded depth) d.0 d.1 ks words e1 h in
      record {
        value = Struct name fields.values;
        reads = λ more. ap (λ (x : Option (Module × List Field)). x >>= λ d. fields_from (value_from (struct_from depth modules) d.0) d.1 (words ++ more) >>= λ values. Some
            (Struct name values.0, values.1)) d_is
            ∙ ap (λ (x : Option (Values × List ℕ)). x >>= λ values. Some (Struct name values.0, values.1)) (fields.reads more);
        flat_is = fields.flat_is;
        typed = and_from (same_struct name name) (option_map_or (λ (d : Module × List Field). are_of_types modules d.0 d.1 fields.values) (definition_of modules name) false) (same_struct-same name)
            (ap (λ (x : Option (Module × List Field)). option_map_or (λ (d : Module × List Field). are_of_types modules d.0 d.1 fields.values) x false) d_is ∙ fields.typed);
        fields = fields.values;
        value_is = refl;
      })

-- ---- what entries stand for

-- the struct of a key is there, has key and such leaves
pub record IsKeyed (modules : List Module) (k : Key) (kinds : List LeafKind) : Type 0 where
  pub name : StructName
  pub named : name_at modules k.place k.index ≡ Some name
  pub keyed : is_keyed modules (struct_under k) ≡ true
  pub leaves : kinds_within 8 modules name ≡ Some kinds

pub keyed-from : (modules : List Module) (k : Key) (kinds : List LeafKind) → kinds_under modules (struct_under k) ≡ Some kinds → IsKeyed modules k kinds
keyed-from modules k kinds h =
    let p = cond_parts (is_keyed modules (struct_under k)) (name_at modules k.place k.index >>= leaf_kinds modules) kinds h in
    on_bind (name_at modules k.place k.index) (leaf_kinds modules) kinds p.1 (λ name name_is leaves. record { name = name; named = name_is; keyed = p.0; leaves = leaves })

module _ (modules : List Module) where
  -- an entry with its value
  abbrev pub valued : FlatEntry → Entry
  valued e = record { key = e.key; value = value_under modules e.key e.words }

  -- it has these leaves, and is one of its key's struct
  pub record IsValued (e : FlatEntry) : Type 0 where
    pub same : flat_entry (valued e) ≡ e
    pub text : leaves_text (valued e).value ≡ coded (unwrap_or (kinds_under modules (struct_under e.key)) []) e.words
    pub fine : is_fine_entry modules (valued e) ≡ true

  pub entry-valued : (of : Option Definition) (e : FlatEntry) → IsEntry modules of e → IsValued e
  entry-valued of e h =
      let k = keyed-from modules e.key h.kinds h.kinds_are in
      let d = struct-decoded modules 8 k.name h.kinds e.words k.leaves h.leaves in
      let value_is : value_under modules e.key e.words ≡ d.value =
      ap (λ (o : Option StructName). unwrap_or (o >>= λ name. struct_from 8 modules name e.words >>= λ v. Some v.0) (Leaf Boolean 0)) k.named
      ∙ ap (λ (ws : List ℕ). unwrap_or (struct_from 8 modules k.name ws >>= λ v. Some v.0) (Leaf Boolean 0)) (sym (append-nil e.words))
      ∙ ap (λ (x : Option (Value × List ℕ)). unwrap_or (x >>= λ v. Some v.0) (Leaf Boolean 0)) (d.reads []) in
      let leaves = struct-leaves modules 8 k.name d.value h.kinds k.leaves d.typed in
      let typed : option_map_or (λ name. is_of_struct modules name (value_under modules e.key e.words)) (name_at modules e.key.place e.key.index) false ≡ true =
      ap (λ (o : Option StructName). option_map_or (λ name. is_of_struct modules name (value_under modules e.key e.words)) o false) k.named ∙ ap (is_of_struct modules k.name) value_is ∙ d.typed in
      record {
        same = ap (make e.key) (ap flat value_is ∙ d.flat_is);
        text = ap leaves_text value_is ∙ leaves.text ∙ ap (coded h.kinds) d.flat_is ∙ ap (λ (o : Option (List LeafKind)). coded (unwrap_or o []) e.words) (sym h.kinds_are);
        fine = and_from (address_fits e.key.address && option_map_or (λ name. is_of_struct modules name (value_under modules e.key e.words)) (name_at modules e.key.place e.key.index) false)
            (option_map_or (λ (a : Abilities). a.key) (abilities_at modules e.key.place e.key.index) false)
            (and_from (address_fits e.key.address) (option_map_or (λ name. is_of_struct modules name (value_under modules e.key e.words)) (name_at modules e.key.place e.key.index) false) h.address
            typed) k.keyed;
      }
    where
      make : Key → List ℕ → FlatEntry
      make key words = record { key = key; words = words }

  -- each struct that is there has so many leaves
  abbrev pub EachIsSized : Type 0
  EachIsSized = (place index : ℕ) (name : StructName) → name_at modules place index ≡ Some name → (n : ℕ) × (leaves_within 8 modules name ≡ Some n)

  -- the parts of a fine stored value
  pub record FineParts (e : Entry) : Type 0 where
    pub kinds : List LeafKind
    pub kinds_are : kinds_under modules (struct_under e.key) ≡ Some kinds
    pub leaves : AreLeaves kinds (flat e.value)
    pub address : IsTrue (address_fits e.key.address)
    pub text : leaves_text e.value ≡ coded (unwrap_or (kinds_under modules (struct_under e.key)) []) (flat e.value)
    pub name : StructName
    pub named : name_at modules e.key.place e.key.index ≡ Some name
    pub keyed : is_keyed modules (struct_under e.key) ≡ true
    pub typed : is_of_struct modules name e.value ≡ true

  pub fine-parts : EachIsSized → (e : Entry) → is_fine_entry modules e ≡ true → FineParts e
  fine-parts sized e h =
      let of_struct = option_map_or (λ (name : StructName). is_of_struct modules name e.value) (name_at modules e.key.place e.key.index) false in
      let both : (address_fits e.key.address && of_struct) ≡ true = first_so (address_fits e.key.address && of_struct) (is_keyed modules (struct_under e.key)) h in
      let keyed : is_keyed modules (struct_under e.key) ≡ true = second_so (address_fits e.key.address && of_struct) (is_keyed modules (struct_under e.key)) h in
      on_found (λ name. is_of_struct modules name e.value) (name_at modules e.key.place e.key.index) (second_so (address_fits e.key.address) of_struct both) (λ name is g.
      let n = sized e.key.place e.key.index name is in
      let k = map-is length (kinds_within 8 modules name) n.0 (kinds-count modules 8 name ∙ n.1) in
      let kinds_are : kinds_under modules (struct_under e.key) ≡ Some k.0 =
      ap (λ (b : Bool). cond b (name_at modules e.key.place e.key.index >>= leaf_kinds modules) None) keyed ∙ ap (λ (o : Option StructName). o >>= leaf_kinds modules) is ∙ k.1 in
      let l = struct-leaves modules 8 name e.value k.0 k.1 g in
      record {
        kinds = k.0;
        kinds_are = kinds_are;
        leaves = l.are;
        address = first_so (address_fits e.key.address) of_struct both;
        text = l.text ∙ ap (λ (o : Option (List LeafKind)). coded (unwrap_or o []) (flat e.value)) (sym kinds_are);
        name = name;
        named = is;
        keyed = keyed;
        typed = g;
      })

  -- ---- texts

  three : (a b c d : List ℕ) → a ++ b ++ c ++ d ≡ a ++ (b ++ c) ++ d
  three a b c d = ap (λ z. z ++ d) (append_assoc a b c)

  -- the text of a stored value is that of its entry
  pub stored-as : (e : Entry) (w : FlatEntry) → e.key ≡ w.key → leaves_text e.value ≡ coded (unwrap_or (kinds_under modules (struct_under w.key)) []) w.words
      → stored_text e ≡ entry_text modules None w
  stored-as e w key text =
      ap₂ (λ (k : Key) (z : List ℕ). address_text k.address ++ uleb k.place ++ uleb k.index ++ z) key text
      ∙ three (address_text w.key.address) (uleb w.key.place) (uleb w.key.index) (coded (unwrap_or (kinds_under modules (struct_under w.key)) []) w.words)

  pub addressed-as : (d : Definition) (e : Entry) (w : FlatEntry) → e.key ≡ w.key → leaves_text e.value ≡ coded (unwrap_or (kinds_under modules (struct_under w.key)) []) w.words
      → addressed_text e ≡ entry_text modules (Some d) w
  addressed-as d e w key text =
      ap₂ (λ (k : Key) (z : List ℕ). address_text k.address ++ z) key text
      ∙ ap (λ z. z ++ coded (unwrap_or (kinds_under modules (struct_under w.key)) []) w.words) (sym (append-nil (address_text w.key.address)))

-- ---- order

above-low : (key : Key) (es : Storage) → AreAbove key es → IsBelow key (flat_storage es)
above-low key [] h = tt
above-low key (e ∷ es) h = h.0

-- the keys of a storage in order ascend as words
pub ascending-ascends : (es : Storage) → IsAscending es → Ascends (flat_storage es)
ascending-ascends [] h = tt
ascending-ascends (e ∷ es) h = (above-low e.key es h.0, ascending-ascends es h.1)

low-above : (modules : List Module) (key : Key) (es : List FlatEntry) → IsLow key es → AreAbove key (map (valued modules) es)
low-above modules key [] h = tt
low-above modules key (e ∷ es) h = (h.0, low-above modules key es h.1)

-- and the other way round
pub ascends-ascending : (modules : List Module) (es : List FlatEntry) → Ascends es → IsAscending (map (valued modules) es)
ascends-ascending modules [] h = tt
ascends-ascending modules (e ∷ es) h = (low-above modules e.key es (low-all e.key es h.0 h.1), ascends-ascending modules es h.1)

-- ---- those of one struct

-- the entries of a struct with their values
pub under-valued : (modules : List Module) (d : Definition) (es : List FlatEntry) → filter (is_under d) (map (valued modules) es) ≡ map (valued modules) (under d es)
under-valued modules d [] = refl
under-valued modules d (e ∷ es) = grind (arith, under-valued modules d es)

-- the stored values of a struct as words
pub under-flat : (d : Definition) (es : Storage) → under d (flat_storage es) ≡ flat_storage (filter (is_under d) es)
under-flat d [] = refl
under-flat d (e ∷ es) = grind (arith, under-flat d es)
