-- What is stored, as it is put into the sections of its structs.
use Rattle.mv_saved_text.proofs.Common.{[], ◌++◌, ◌+◌, ◌<◌, ◌^◌, ◌∙◌, ◌∷◌, ◌≡◌, Bool, List, None, Some, ap, append-nil, append_assoc, ap₂, arith, cond, false, flat_map, length, length-append}
use Rattle.mv_saved_text.proofs.Common.{refl, subst, sym, true, ℕ, length-map, map-append, flat_map-append, All-cons, All-head, All-nil, All-tail, filter-append, same_Some, first_so}
use Rattle.mv_saved_text.proofs.Common.{second_so, filter, list_all, option_map_or, ◌&&◌, All, IfSome, IsSome, slice_get, Module, name_at, ◌>>=◌, PublishedModule, Definition, Abilities, LeafKind}
use Rattle.mv_saved_text.proofs.Common.{on_bind, address_text, address_fits, FlatEntry, flat, storage_of, value_under, Entry, abilities_at, is_fine_entry, is_of_struct, some-of, then_found, IsStore}
use Rattle.mv_saved_text.proofs.Common.{tables_in, fine_words-typed, on_found, typed_is_fine, IsFineWords, AreLeaves, coded, is_keyed, kinds_under, leaf_kinds, IsOfStore, AddsValue, AreSections}
use Rattle.mv_saved_text.proofs.Common.{HasOneMore, IsAdded, IsSection, KnowsKinds, definition_at, is_same_definition, section_at, stored_in, addressed_text, is_under, leaves_text, Section}
use Rattle.std.proofs.lemmas.List.Elements.{All-filter}
use Rattle.mv_saved_text.specs.Parts.Saving.{is_between, stored_between, struct_under}
use Rattle.mv_ledger_state.proofs.Accepted.Stores.{accepted_store}
use Rattle.mv_saved_text.proofs.Loads.LeafKinds.{HasLeaves, struct-leaves}
use Rattle.mv_binary_format.proofs.Back.{filter-shorter}
use Rattle.mv_ledger_state.proofs.Handed.{if_found}
use Rattle.mv_frames.proofs.Counts.{definition-to}

-- a stored value as it is read
abbrev pub read : List Module → FlatEntry → Entry
read modules e = record { key = e.key; value = value_under modules e.key e.words }

-- ---- the leaves of what is stored

-- a stored value's struct has key, and its words are leaves of its struct's kinds
pub record IsReadable (modules : List Module) (e : FlatEntry) : Type 0 where
  pub keyed : is_keyed modules (struct_under e.key) ≡ true
  pub leaves : (ks : List LeafKind) → kinds_under modules (struct_under e.key) ≡ Some ks → HasLeaves ks e.words (leaves_text (value_under modules e.key e.words))

head_words : List FlatEntry → List ℕ
head_words [] = []
head_words (e ∷ es) = e.words

fine-readable : (published : List PublishedModule) → IsStore published → (e : FlatEntry) → IsFineWords (tables_in published) e → IsReadable (tables_in published) e
unfolding head_words
fine-readable published store e fine =
    let modules = tables_in published in
    let accepted = accepted_store published store in
    let words = fine_words-typed modules accepted (e ∷ []) (All-cons (IsFineWords modules) e [] fine (All-nil (IsFineWords modules))) in
    let all = typed_is_fine modules accepted (storage_of modules (e ∷ [])) words.typed in
    let x = read modules e in
    let is : is_fine_entry modules x ≡ true = first_so (is_fine_entry modules x) (list_all (is_fine_entry modules) []) all in
    let same : flat x.value ≡ e.words = ap head_words words.whole in
    let struct = option_map_or (λ name. is_of_struct modules name x.value) (name_at modules e.key.place e.key.index) false in
    let keyed : is_keyed modules (struct_under e.key) ≡ true = second_so (address_fits e.key.address && struct) (is_keyed modules (struct_under e.key)) is in
    record {
      keyed = keyed;
      leaves = λ ks ks_is.
          on_found (λ name. is_of_struct modules name x.value) (name_at modules e.key.place e.key.index)
          (second_so (address_fits e.key.address) struct (first_so (address_fits e.key.address && struct) (is_keyed modules (struct_under e.key)) is)) (λ name name_is typed.
          let chain : (name_at modules e.key.place e.key.index >>= leaf_kinds modules) ≡ Some ks = subst
          (λ (b : Bool). cond b (name_at modules e.key.place e.key.index >>= leaf_kinds modules) None ≡ Some ks) keyed ks_is in
          let kinds : leaf_kinds modules name ≡ Some ks = subst (λ o. (o >>= leaf_kinds modules) ≡ Some ks) name_is chain in
          subst (λ (ws : List ℕ). HasLeaves ks ws (leaves_text x.value)) same (struct-leaves modules 8 name x.value ks kinds typed));
    }

pub readable : (modules : List Module) → IsOfStore modules → (e : FlatEntry) → IsFineWords modules e → IsReadable modules e
readable modules of e = subst (λ (ms : List Module). IsFineWords ms e → IsReadable ms e) of.2 (fine-readable of.0 of.1 e)

-- a struct that has key is there
pub keyed-defined : (modules : List Module) (d : Definition) → is_keyed modules d ≡ true → IsSome (definition_at modules d)
keyed-defined modules d keyed =
    on_found (λ (a : Abilities). a.key) (abilities_at modules d.place d.index) keyed (λ a a_is has.
    on_bind (slice_get modules d.place) _ a a_is (λ m m_is e1.
    on_bind (slice_get m.structs d.index) _ a e1 (λ x x_is e2.
    subst IsSome (sym (then_found (slice_get modules d.place) (λ m. slice_get m.structs d.index) m (Some x) m_is x_is)) refl)))

-- ---- one value more

module _ (modules : List Module) where
  -- what is stored of a struct, with one entry more
  stored-more : (done : List FlatEntry) (e : FlatEntry) (d : Definition) → stored_in modules (done ++ e ∷ []) d ≡ stored_in modules done d ++ cond (is_same_definition (struct_under e.key) d)
      (read modules e ∷ []) []
  stored-more done e d = ap (filter (is_under d)) (map-append (read modules) done (e ∷ [])) ∙ filter-append (is_under d) (storage_of modules done) (read modules e ∷ [])

  section-more : (done : List FlatEntry) (e : FlatEntry) (d : Definition) (s t : Section) (kinds : List LeafKind) → is_same_definition (struct_under e.key) d ≡ true
      → kinds_under modules d ≡ Some kinds → IsSection modules done d s → HasOneMore s kinds (addressed_text (read modules e)) t → IsSection modules (done ++ e ∷ []) d t
  section-more done e d s t kinds same kinds_is is more =
      let all : stored_in modules (done ++ e ∷ []) d ≡ stored_in modules done d ++ read modules e ∷ [] = stored-more done e d
      ∙ ap (λ (b : Bool). stored_in modules done d ++ cond b (read modules e ∷ []) []) same in
      record {
        count = more.count ∙ ap (λ n. n + 1) is.count ∙ sym (length-append (stored_in modules done d) (read modules e ∷ [])) ∙ sym (ap length all);
        text = more.text ∙ ap₂ (λ a b. a ++ b) is.text (sym (append-nil (addressed_text (read modules e)))) ∙ sym (flat_map-append addressed_text (stored_in modules done d) (read modules e ∷ []))
            ∙ sym (ap (flat_map addressed_text) all);
        known = λ _. kinds_is ∙ ap Some (sym more.kinds_are);
      }

  section-same : (done : List FlatEntry) (e : FlatEntry) (d : Definition) (s : Section) → is_same_definition (struct_under e.key) d ≡ false → IsSection modules done d s
      → IsSection modules (done ++ e ∷ []) d s
  section-same done e d s other is =
      let all : stored_in modules (done ++ e ∷ []) d ≡ stored_in modules done d = stored-more done e d ∙ ap (λ (b : Bool). stored_in modules done d ++ cond b (read modules e ∷ []) []) other
      ∙ append-nil (stored_in modules done d) in
      record { count = is.count ∙ sym (ap length all); text = is.text ∙ sym (ap (flat_map addressed_text) all); known = is.known }

  sections-more : (done : List FlatEntry) (e : FlatEntry) (kinds : List LeafKind) (rows after : List (List Section)) → AreSections modules done rows → IsSome (section_at rows (struct_under e.key))
      → kinds_under modules (struct_under e.key) ≡ Some kinds → IsAdded rows (struct_under e.key) kinds (addressed_text (read modules e)) after → AreSections modules (done ++ e ∷ []) after
  sections-more done e kinds rows after are is kinds_is added =
      let own = some-of (section_at rows (struct_under e.key)) is in
      let new = added.here own.0 own.1 in
      record {
        there = λ d defined. there d (is_same_definition (struct_under e.key) d) refl (are.there d defined) new.0 new.1;
        each = λ d s at. each d s (is_same_definition (struct_under e.key) d) refl at own.0 own.1 new.0 new.1 new.2;
      }
    where
      there : (d : Definition) (b : Bool) → is_same_definition (struct_under e.key) d ≡ b → IsSome (section_at rows d) → (t : Section) → section_at after (struct_under e.key) ≡ Some t
          → IsSome (section_at after d)
      there d true same was t t_is = subst (λ (x : Definition). IsSome (section_at after x)) (definition-to (struct_under e.key) d same) (subst IsSome (sym t_is) refl)
      there d false other was t t_is = subst IsSome (sym (added.others d other)) was

      each : (d : Definition) (s : Section) (b : Bool) → is_same_definition (struct_under e.key) d ≡ b → section_at after d ≡ Some s → (o : Section) → section_at rows (struct_under e.key) ≡ Some o
          → (t : Section) → section_at after (struct_under e.key) ≡ Some t → HasOneMore o kinds (addressed_text (read modules e)) t → IsSection modules (done ++ e ∷ []) d s
      each d s true same at o o_is t t_is more =
          let one : struct_under e.key ≡ d = definition-to (struct_under e.key) d same in
          let is : t ≡ s = same_Some t s (sym t_is ∙ ap (section_at after) one ∙ at) in
          let old : IsSection modules done d o = subst (λ (x : Definition). IsSection modules done x o) one (are.each (struct_under e.key) o o_is) in
          let own : kinds_under modules d ≡ Some kinds = subst (λ (x : Definition). kinds_under modules x ≡ Some kinds) one kinds_is in
          subst (IsSection modules (done ++ e ∷ []) d) is (section-more done e d o t kinds same own old more)
      each d s false other at o o_is t t_is more = section-same done e d s other (are.each d s (sym (added.others d other) ∙ at))

  -- ---- so many were put

  -- what was put, and what is left
  abbrev pub IsFilled : List FlatEntry → List FlatEntry → List (List Section) → Type 0
  IsFilled storage entries rows = (done : List FlatEntry) × (storage ≡ done ++ entries) × AreSections modules done rows

  pub fill-start : (storage entries : List FlatEntry) (rows : List (List Section)) → entries ≡ storage → AreSections modules [] rows → IsFilled storage entries rows
  fill-start storage entries rows e are = ([], sym e, are)

  pub fill-all : (storage entries : List FlatEntry) (rows : List (List Section)) → entries ≡ [] → IsFilled storage entries rows → AreSections modules storage rows
  fill-all storage entries rows e h = subst (λ (l : List FlatEntry). AreSections modules l rows) (sym (h.1 ∙ ap (λ l. h.0 ++ l) e ∙ append-nil h.0)) h.2

  -- a value that is left is one of those stored
  pub fill-fine : (storage entries rest : List FlatEntry) (rows : List (List Section)) (e : FlatEntry) → entries ≡ e ∷ rest → All (IsFineWords modules) storage → IsFilled storage entries rows
      → IsFineWords modules e
  fill-fine storage entries rest rows e at fine h = middle h.0 (subst (All (IsFineWords modules)) (h.1 ∙ ap (λ l. h.0 ++ l) at) fine)
    where
      middle : (done : List FlatEntry) → All (IsFineWords modules) (done ++ e ∷ rest) → IsFineWords modules e
      middle [] all = All-head (IsFineWords modules) e rest all
      middle (x ∷ done) all = middle done (All-tail (IsFineWords modules) x (done ++ e ∷ rest) all)

  pub fill-there : (storage entries : List FlatEntry) (rows : List (List Section)) (d : Definition) → is_keyed modules d ≡ true → IsFilled storage entries rows → IsSome (section_at rows d)
  fill-there storage entries rows d keyed h = h.2.there d (keyed-defined modules d keyed)

  -- no section has more values than there are
  pub fill-few : (storage entries : List FlatEntry) (rows : List (List Section)) (d : Definition) → length storage < 2 ^ 63 → IsFilled storage entries rows → IfSome (section_at rows d)
      (λ s. s.count < 2 ^ 63)
  fill-few storage entries rows d few h = if_found (section_at rows d) (λ s. s.count < 2 ^ 63) (λ s e.
      let whole : length storage ≡ length h.0 + length entries = ap length h.1 ∙ length-append h.0 entries in
      omega (arith, whole, filter-shorter (is_under d) (storage_of modules h.0), (h.2.each d s e).count, few, length-map h.0 (read modules)))

  -- a section that a value is in knows its kinds
  pub fill-known : (storage entries : List FlatEntry) (rows : List (List Section)) (d : Definition) → IsFilled storage entries rows → IfSome (section_at rows d) (KnowsKinds modules d)
  fill-known storage entries rows d h = if_found (section_at rows d) (KnowsKinds modules d) (λ s e. (h.2.each d s e).known)

  -- the words of a readable value are leaves of its struct's kinds
  pub fill-leaves : (e : FlatEntry) → IsReadable modules e → IfSome (kinds_under modules (struct_under e.key)) (λ kinds. AreLeaves kinds e.words)
  fill-leaves e is = if_found (kinds_under modules (struct_under e.key)) (λ kinds. AreLeaves kinds e.words) (λ ks at. (is.leaves ks at).are)

  pub fill-more : (storage entries rest : List FlatEntry) (rows after : List (List Section)) (e : FlatEntry) → entries ≡ e ∷ rest → IsReadable modules e → IsFilled storage entries rows
      → AddsValue modules rows e.key e.words after → IsFilled storage rest after
  fill-more storage entries rest rows after e at is h adds =
      let text : address_text e.key.address ++ coded adds.kinds e.words ≡ addressed_text (read modules e) = ap (λ (l : List ℕ). address_text e.key.address ++ l)
      (sym (is.leaves adds.kinds adds.kinds_are).text) in
      let more : IsAdded rows (struct_under e.key) adds.kinds (addressed_text (read modules e)) after = subst (λ (l : List ℕ). IsAdded rows (struct_under e.key) adds.kinds l after) text adds.added in (
        h.0 ++ e ∷ [],
        h.1 ∙ ap (λ l. h.0 ++ l) at ∙ sym (append_assoc h.0 (e ∷ []) rest),
        sections-more h.0 e adds.kinds rows after h.2 (fill-there storage entries rows (struct_under e.key) is.keyed h) adds.kinds_are more,
      )

  -- ---- some of what is stored was put

  module _ (first last : Definition) (storage entries rest : List FlatEntry) (rows : List (List Section)) (e : FlatEntry) (at : entries ≡ e ∷ rest)
      (h : IsFilled (stored_between first last storage) (stored_between first last entries) rows) where
    module _ (is : is_between first last (struct_under e.key) ≡ true) where
      more : stored_between first last entries ≡ e ∷ stored_between first last rest
      more = ap (stored_between first last) at ∙ ap (λ (b : Bool). cond b (e ∷ stored_between first last rest) (stored_between first last rest)) is

      -- a value that is wanted can be read
      pub between-readable : IsOfStore modules → All (IsFineWords modules) storage → IsReadable modules e
      between-readable of fine =
          readable modules of e (fill-fine (stored_between first last storage) (stored_between first last entries) (stored_between first last rest) rows e more
          (All-filter (λ (f : FlatEntry). is_between first last (struct_under f.key)) (IsFineWords modules) storage fine) h)

      pub between-more : (after : List (List Section)) → IsReadable modules e → AddsValue modules rows e.key e.words after
          → IsFilled (stored_between first last storage) (stored_between first last rest) after
      between-more after own = fill-more (stored_between first last storage) (stored_between first last entries) (stored_between first last rest) rows after e more own h

    -- one that is not is passed over
    pub between-past : is_between first last (struct_under e.key) ≡ false → IsFilled (stored_between first last storage) (stored_between first last rest) rows
    between-past is =
        subst (λ (l : List FlatEntry). IsFilled (stored_between first last storage) l rows)
        (ap (stored_between first last) at ∙ ap (λ (b : Bool). cond b (e ∷ stored_between first last rest) (stored_between first last rest)) is) h

  -- fewer are wanted than are stored
  pub between-few : (first last : Definition) (storage : List FlatEntry) → length storage < 2 ^ 63 → length (stored_between first last storage) < 2 ^ 63
  between-few first last storage few = omega (arith, few, filter-shorter (λ (f : FlatEntry). is_between first last (struct_under f.key)) storage)
