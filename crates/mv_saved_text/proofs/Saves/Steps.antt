-- The steps of a save: what each makes comes next, and then what is left.
use Rattle.mv_saved_text.proofs.Common.{[], ◌++◌, ◌+◌, ◌<◌, ◌^◌, ◌∙◌, ◌∷◌, ◌≡◌, ◌≤◌, Bool, List, None, Option, Some, ap, append-nil, append_assoc, ap₂, arith, cond, drop, drop_all, false}
use Rattle.mv_saved_text.proofs.Common.{filter, flat_map, flat_map-append, flat_map-map, get_or, get_or_from_slice_get, le-leb, length, length-map, suc, zero, slice_get_read, slice_get_within, map, refl, subst, sym, true, ℕ, ◌&&◌, ◌==◌, nat_le}
use Rattle.mv_saved_text.proofs.Common.{All, All-cons, All-head, All-nil, All-tail, All-weaker, Err, IfOk, IfSome, IsSome, Ok, Result, option_map_or, slice_get, false≢true, first_so, Module, PublishedModule, Definition}
use Rattle.mv_saved_text.proofs.Common.{LeafKind, Tally, uleb, address_text, FlatEntry, storage_of, Entry, Storage, LedgerState, modules_of, element_at, IsFineWords, AreLeaves, coded, is_keyed, kinds_under}
use Rattle.mv_saved_text.proofs.Common.{IsOfStore, AreStored, count_at, definition_at, counts_text, offered, offer_text, sized, Second, addressed_text, body_text, is_under, keyed_from, struct_text}
use Rattle.mv_saved_text.proofs.Common.{storage_text, tally_text, tallied}
use Rattle.std.specs.Prelude.{slice_range}
use Rattle.std.proofs.lemmas.List.Folds.{drop_split}
use Rattle.mv_storage.specs.Pages.{is_own, values_from}
use Rattle.mv_saved_text.specs.Flowing.{keyed_of, left_in, left_of, sections_after, values_text, SavingView}
use Rattle.mv_saved_text.specs.Parts.CountRows.{stored_of}
use Rattle.mv_saved_text.specs.Parts.Saving.{struct_under}
use Rattle.mv_saved_text.specs.Parts.Steps.{is_end, rank, values_coded, Comes, IsStored}
use Rattle.mv_saved_text.specs.declared.position.Position.{Position}
use Rattle.mv_saved_text.specs.declared.steps.PageText.{PageText}
use Rattle.mv_saved_text.specs.declared.position.Position.TheVariants.{Head, Modules, Counts, Sections, Values, End}
use Rattle.mv_saved_text.proofs.Saves.Coding.{dropped}
use Rattle.mv_saved_text.proofs.Saves.Filling.{read, readable}
use Rattle.mv_saved_text.proofs.Saves.LayoutParts.{name-there}
use Rattle.mv_saved_text.proofs.Saves.Written.{counts-are, keyed-defined-at}
use Rattle.mv_binary_format.proofs.Back.{filter-shorter}
use Rattle.mv_frames.proofs.Counts.{definition-to}

-- ---- the modules and the tallies

pub module-comes : (s : LedgerState) (store : List PublishedModule) (place : ℕ) (text first after bytes certificate : List ℕ) → s.published ≡ store → place < length store → text ≡ []
    → IfSome (slice_get store place) (λ p. bytes ≡ p.text) → IfSome (slice_get store place) (λ p. certificate ≡ p.certificate) → first ≡ text ++ sized bytes → after ≡ first ++ sized certificate
    → Comes s (Modules place) after (Modules (place + 1))
module-comes s store place text first after bytes certificate same lt empty bytes_are certificate_is one two =
    let p = element_at store place lt in
    let own : bytes ≡ p.0.text = subst (λ (o : Option PublishedModule). IfSome o (λ p. bytes ≡ p.text)) p.1 bytes_are in
    let also : certificate ≡ p.0.certificate = subst (λ (o : Option PublishedModule). IfSome o (λ p. certificate ≡ p.certificate)) p.1 certificate_is in
    let b : List ℕ = body_text Second s in
    let rest : List ℕ = flat_map offer_text (map offered (drop (place + 1) store)) in
    let cut : drop place store ≡ p.0 ∷ drop (place + 1) store = dropped store place p.0 lt (sym (get_or_from_slice_get store place p.0 p.0 p.1)) in
    let whole : after ≡ offer_text (offered p.0) = two ∙ ap₂ (λ (x y : List ℕ). x ++ sized y) (one ∙ ap₂ (λ (x y : List ℕ). x ++ sized y) empty own) also in
    let count : length s.published ≡ length store = ap length same in
    record {
      text = ap (λ (l : List PublishedModule). flat_map offer_text (map offered (drop place l)) ++ b) same ∙ ap (λ (l : List PublishedModule). flat_map offer_text (map offered l) ++ b) cut
          ∙ append_assoc (offer_text (offered p.0)) rest b ∙ ap (λ l. l ++ (rest ++ b)) (sym whole)
          ∙ ap (λ (l : List PublishedModule). after ++ (flat_map offer_text (map offered (drop (place + 1) l)) ++ b)) (sym same);
      nearer = omega (arith, lt, count);
    }

pub counts-come : (s : LedgerState) (ts : List Tally) (text after : List ℕ) → s.tallies ≡ map (tallied (modules_of s)) ts → text ≡ [] → after ≡ text ++ counts_text ts → Comes s Counts after (Sections 0)
counts-come s ts text after same empty added =
    let r : List ℕ = storage_text Second (modules_of s) s.storage in
    record {
      text = ap (λ l. flat_map (tally_text Second) l ++ r) same ∙ ap (λ l. l ++ r) (sym (counts-are (modules_of s) ts)) ∙ ap (λ l. l ++ r) (sym (added ∙ ap (λ l. l ++ counts_text ts) empty));
      nearer = omega arith;
    }

-- ---- lists that are chosen from

either-through : {A B : Type 0} (f : A → B) (b : Bool) (x : A) (l : List B) (m : List A) → l ≡ map f m → cond b (f x ∷ l) l ≡ map f (cond b (x ∷ m) m)
either-through f true x l m e = ap (λ k. f x ∷ k) e
either-through f false x l m e = e

-- choosing and changing, in either order
pub filter-through : {A B : Type 0} (f : A → B) (p : B → Bool) (q : A → Bool) → ((x : A) → p (f x) ≡ q x) → (xs : List A) → filter p (map f xs) ≡ map f (filter q xs)
filter-through f p q same [] = refl
filter-through f p q same (x ∷ xs) =
    ap (λ (b : Bool). cond b (f x ∷ filter p (map f xs)) (filter p (map f xs))) (same x)
    ∙ either-through f (q x) x (filter p (map f xs)) (filter q xs) (filter-through f p q same xs)

pub filter-alike : {A : Type 0} (p q : A → Bool) → ((x : A) → p x ≡ q x) → (xs : List A) → filter p xs ≡ filter q xs
filter-alike p q same [] = refl
filter-alike {A = A} p q same (x ∷ xs) = ap₂ (λ (b : Bool) (l : List A). cond b (x ∷ l) l) (same x) (filter-alike p q same xs)

and-true : (b : Bool) → (b && true) ≡ b
and-true true = refl
and-true false = refl

none-of : {A : Type 0} (xs : List A) → length xs ≡ 0 → xs ≡ []
none-of [] e = refl
none-of (x ∷ xs) e = absurd (omega (arith, e))

own-at : {A : Type 0} (xs : List A) (i : ℕ) (e : A) → i < length xs → get_or xs i e ≡ get_or xs i (get_or xs i e)
own-at [] i e lt = absurd (omega (arith, lt))
own-at (x ∷ xs) zero e lt = refl
own-at (x ∷ xs) (suc i) e lt = own-at xs i e (omega (arith, lt))

-- what is there is found there
pub found-at : {A : Type 0} (xs : List A) (i : ℕ) (e : A) → i < length xs → slice_get xs i ≡ Some (get_or xs i e)
found-at xs i e lt = slice_get_read xs (length xs) i (get_or xs i e) refl lt (own-at xs i e lt)

past : {A : Type 0} (xs : List A) (i : ℕ) (o : Option A) → slice_get xs i ≡ o → length xs ≤ i → o ≡ None
past xs i None at le = refl
past xs i (Some x) at le = absurd (omega (arith, slice_get_within xs i x at, le))

-- all at the front
all-front : {A : Type 0} (P : A → Type 0) (xs ys : List A) → All P (xs ++ ys) → All P xs
all-front P [] ys h = All-nil P
all-front P (x ∷ xs) ys h = All-cons P x xs (All-head P x (xs ++ ys) h) (all-front P xs ys (All-tail P x (xs ++ ys) h))

flat_map-alike : {A : Type 0} (f g : A → List ℕ) (xs : List A) → All (λ x. f x ≡ g x) xs → flat_map f xs ≡ flat_map g xs
flat_map-alike f g [] h = refl
flat_map-alike f g (x ∷ xs) h = ap₂ (λ (a b : List ℕ). a ++ b) (All-head (λ x. f x ≡ g x) x xs h) (flat_map-alike f g xs (All-tail (λ x. f x ≡ g x) x xs h))

-- ---- the values of one struct

either-all : (P : FlatEntry → Type 0) (b : Bool) (e : FlatEntry) (es : List FlatEntry) → (b ≡ true → P e) → All P es → All P (cond b (e ∷ es) es)
either-all P true e es p h = All-cons P e es (p refl) h
either-all P false e es p h = h

-- what holds of all values of a struct holds of those from an address on
pub own-all : (P : FlatEntry → Type 0) (d : Definition) (from : ℕ) (es : List FlatEntry) → All (λ e. is_own d e.key ≡ true → P e) es → All P (values_from es d from)
own-all P d from [] h = All-nil P
own-all P d from (e ∷ es) h =
    let Q : FlatEntry → Type 0 = λ x. is_own d x.key ≡ true → P x in
    either-all P (is_own d e.key && nat_le from e.key.address) e (values_from es d from) (λ is. All-head Q e es h (first_so (is_own d e.key) (nat_le from e.key.address) is))
    (own-all P d from es (All-tail Q e es h))

-- none has them, where none is stored
pub own-none : (d : Definition) (from : ℕ) (es : List FlatEntry) → All (λ e. is_own d e.key ≡ true → ⊥) es → values_from es d from ≡ []
own-none d from es h = empty (values_from es d from) (own-all (λ e. ⊥) d from es h)
  where
    empty : (xs : List FlatEntry) → All (λ e. ⊥) xs → xs ≡ []
    empty [] h = refl
    empty (x ∷ xs) h = absurd (All-head (λ e. ⊥) x xs h)

module _ (modules : List Module) (stored : List FlatEntry) where
  abbrev kept : Storage
  kept = storage_of modules stored

  pub values-are : (d : Definition) (from : ℕ) → values_text kept d from ≡ flat_map (λ e. addressed_text (read modules e)) (values_from stored d from)
  values-are d from =
      ap (flat_map addressed_text) (filter-through (read modules) (λ e. is_under d e && nat_le from e.key.address) (λ e. is_own d e.key && nat_le from e.key.address) (λ e. refl) stored)
      ∙ flat_map-map addressed_text (read modules) (values_from stored d from)

  -- all values of a struct
  pub values-zero : (d : Definition) → values_text kept d 0 ≡ flat_map addressed_text (filter (is_under d) kept)
  values-zero d =
      ap (flat_map addressed_text) (filter-alike (λ (e : Entry). is_under d e && nat_le 0 e.key.address) (is_under d)
      (λ e. ap (λ b. is_under d e && b) (le-leb 0 e.key.address (omega arith)) ∙ and-true (is_under d e)) kept)

  -- their number
  pub count-under : (d : Definition) → length (filter (is_under d) kept) ≡ stored_of stored d
  count-under d =
      let own : FlatEntry → Bool = λ e. (e.key.place == d.place) && (e.key.index == d.index) in
      ap length (filter-through (read modules) (is_under d) own (λ e. refl) stored) ∙ length-map (filter own stored) (read modules)

  module _ (of : IsOfStore modules) (fine : All (IsFineWords modules) stored) (d : Definition) where
    same-struct : (e : FlatEntry) → is_own d e.key ≡ true → struct_under e.key ≡ d
    same-struct e own = definition-to (struct_under e.key) d own

    -- their words are leaves of its kinds
    pub own-leaves : (kinds : List LeafKind) → Some kinds ≡ kinds_under modules d → All (λ e. is_own d e.key ≡ true → AreLeaves kinds e.words) stored
    own-leaves kinds is =
        All-weaker (IsFineWords modules) (λ e. is_own d e.key ≡ true → AreLeaves kinds e.words)
        (λ e words own. ((readable modules of e words).leaves kinds (ap (kinds_under modules) (same-struct e own) ∙ sym is)).are) stored fine

    -- and are written as those
    pub own-coded : (kinds : List LeafKind) (from : ℕ) → Some kinds ≡ kinds_under modules d → values_text kept d from ≡ values_coded kinds (values_from stored d from)
    own-coded kinds from is =
        let written : FlatEntry → List ℕ = λ e. addressed_text (read modules e) in
        let coded_as : FlatEntry → List ℕ = λ e. address_text e.key.address ++ coded kinds e.words in
        values-are d from
        ∙ flat_map-alike written coded_as (values_from stored d from) (own-all (λ e. written e ≡ coded_as e) d from stored
        (All-weaker (IsFineWords modules) (λ e. is_own d e.key ≡ true → written e ≡ coded_as e)
        (λ e words own. ap (λ l. address_text e.key.address ++ l) ((readable modules of e words).leaves kinds (ap (kinds_under modules) (same-struct e own) ∙ sym is)).text) stored fine))

    -- none is stored, where it has no key
    pub own-absent : (from : ℕ) → false ≡ is_keyed modules d → values_text kept d from ≡ []
    own-absent from is =
        values-are d from
        ∙ ap (flat_map (λ e. addressed_text (read modules e))) (own-none d from stored (All-weaker (IsFineWords modules) (λ e. is_own d e.key ≡ true → ⊥)
        (λ e words own. false≢true (is ∙ ap (is_keyed modules) (sym (same-struct e own)) ∙ (readable modules of e words).keyed)) stored fine))

-- ---- pages

-- one value more of a page
pub page-more : (kinds : List LeafKind) (e : FlatEntry) (told rest : List FlatEntry) (text one two whole : List ℕ) → told ≡ e ∷ rest → one ≡ text ++ address_text e.key.address
    → two ≡ one ++ coded kinds e.words → text ++ values_coded kinds told ≡ whole → two ++ values_coded kinds rest ≡ whole
page-more kinds e told rest text one two whole at o t h =
    let a : List ℕ = address_text e.key.address in
    let k : List ℕ = coded kinds e.words in
    let r : List ℕ = values_coded kinds rest in
    ap (λ l. l ++ r) (t ∙ ap (λ l. l ++ k) o) ∙ append_assoc (text ++ a) k r ∙ append_assoc text a (k ++ r) ∙ ap (λ l. text ++ l) (sym (append_assoc a k r))
    ∙ ap (λ (es : List FlatEntry). text ++ values_coded kinds es) (sym at) ∙ h

pub page-leaves : (P : FlatEntry → Type 0) (stored : List FlatEntry) (d : Definition) (from : ℕ) (told rest : List FlatEntry) → told ++ rest ≡ values_from stored d from
    → All (λ e. is_own d e.key ≡ true → P e) stored → All P told
page-leaves P stored d from told rest all h = all-front P told rest (subst (All P) (sym all) (own-all P d from stored h))

-- the same of values as they are written
pub page-written : (modules : List Module) (stored : List FlatEntry) → IsOfStore modules → All (IsFineWords modules) stored → (d : Definition) (kinds : List LeafKind) (from : ℕ) (next : Option ℕ)
    (text : List ℕ) → Some kinds ≡ kinds_under modules d
    → text ++ option_map_or (λ n. values_coded kinds (values_from stored d n)) next [] ≡ values_coded kinds (values_from stored d from)
    → values_text (storage_of modules stored) d from ≡ text ++ option_map_or (values_text (storage_of modules stored) d) next []
page-written modules stored of fine d kinds from None text is all = own-coded modules stored of fine d kinds from is ∙ sym all
page-written modules stored of fine d kinds from (Some n) text is all =
    own-coded modules stored of fine d kinds from is ∙ sym all ∙ ap (λ l. text ++ l) (sym (own-coded modules stored of fine d kinds n is))

pub page-so : {E : Type 0} (r : Result PageText E) (modules : List Module) (stored : List FlatEntry) → IsOfStore modules → All (IsFineWords modules) stored → (d : Definition) (kinds : List LeafKind)
    (from : ℕ) → Some kinds ≡ kinds_under modules d
    → IfOk r (λ page. page.text.items ++ option_map_or (λ n. values_coded kinds (values_from stored d n)) page.next [] ≡ values_coded kinds (values_from stored d from))
    → IfOk r (λ page. values_text (storage_of modules stored) d from ≡ page.text.items ++ option_map_or (values_text (storage_of modules stored) d) page.next [])
page-so (Ok page) modules stored of fine d kinds from is all = page-written modules stored of fine d kinds from page.next page.text.items is all
page-so (Err e) modules stored of fine d kinds from is all = tt

-- ---- the structs with key, one after the other

module _ (modules : List Module) (stored : List FlatEntry) (s : LedgerState) (is : IsStored modules stored s) where
  pub sections-are : (i : ℕ) → sections_after s i ≡ flat_map (struct_text (storage_of modules stored)) (drop i (keyed_from 0 modules))
  sections-are i = ap₂ (λ (ms : List Module) (st : Storage). flat_map (struct_text st) (drop i (keyed_from 0 ms))) is.modules_are is.storage_is

  keyed-are : keyed_of s ≡ keyed_from 0 modules
  keyed-are = ap (keyed_from 0) is.modules_are

  module _ (ds : List Definition) (ds_are : ds ≡ keyed_from 0 modules) (i : ℕ) where
    there : (d : Definition) → slice_get ds i ≡ Some d → slice_get (keyed_of s) i ≡ Some d
    there d at = ap (λ (l : List Definition). slice_get l i) (keyed-are ∙ sym ds_are) ∙ at

    -- the values of a struct from an address on
    pub values-left : (d : Definition) (from : ℕ) → slice_get ds i ≡ Some d
        → left_of (Values i from) s ≡ values_text (storage_of modules stored) d from ++ sections_after s (i + 1)
    values-left d from at =
        ap (λ (o : Option Definition). option_map_or (λ d. values_text s.storage d from) o [] ++ sections_after s (i + 1)) (there d at)
        ∙ ap (λ (st : Storage). values_text st d from ++ sections_after s (i + 1)) is.storage_is

    pub values-go_on : (d : Definition) (from next : ℕ) (text : List ℕ) → slice_get ds i ≡ Some d → from < 2 ^ 128 → from < next
        → values_text (storage_of modules stored) d from ≡ text ++ values_text (storage_of modules stored) d next → Comes s (Values i from) text (Values i next)
    values-go_on d from next text at low on told = record {
      text = values-left d from at ∙ ap (λ l. l ++ sections_after s (i + 1)) told
          ∙ append_assoc text (values_text (storage_of modules stored) d next) (sections_after s (i + 1)) ∙ ap (λ l. text ++ l) (sym (values-left d next at));
      nearer = omega (arith, low, on);
    }

    pub values-done : (d : Definition) (from : ℕ) (text : List ℕ) → slice_get ds i ≡ Some d → values_text (storage_of modules stored) d from ≡ text ++ [] → Comes s (Values i from) text (Sections (i + 1))
    values-done d from text at told = record {
      text = values-left d from at ∙ ap (λ l. l ++ sections_after s (i + 1)) (told ∙ append-nil text);
      nearer = omega arith;
    }

    pub values-past : (from : ℕ) (text : List ℕ) → length ds ≤ i → text ≡ [] → Comes s (Values i from) text End
    values-past from text le empty =
        let long : length (keyed_of s) ≡ length ds = ap length (keyed-are ∙ sym ds_are) in
        let few : length (keyed_of s) ≤ i + 1 = omega (arith, le, long) in
        let none : slice_get (keyed_of s) i ≡ None = past (keyed_of s) i (slice_get (keyed_of s) i) refl (omega (arith, le, long)) in
        record {
          text = ap (λ (o : Option Definition). option_map_or (λ d. values_text s.storage d from) o [] ++ sections_after s (i + 1)) none
              ∙ ap (flat_map (struct_text s.storage)) (drop_all (i + 1) (keyed_of s) few) ∙ sym (append-nil text ∙ empty);
          nearer = omega arith;
        }

-- ---- counts of structs

module _ (modules : List Module) (stored : List FlatEntry) where
  abbrev text_under : Definition → List ℕ
  text_under = struct_text (storage_of modules stored)

  -- the counts of so many structs are written
  pub record IsCounted (i at : ℕ) (text : List ℕ) : Type 0 where
    pub from : i ≤ at
    pub text_is : flat_map text_under (drop i (keyed_from 0 modules)) ≡ text ++ flat_map text_under (drop at (keyed_from 0 modules))

  module _ (of : IsOfStore modules) (rows : List (List ℕ)) (are : AreStored modules stored rows) (ds : List Definition) (ds_are : ds ≡ keyed_from 0 modules) (at : ℕ) (e : Definition)
      (lt : at < length ds) where
    abbrev d : Definition
    d = get_or ds at e

    d_is : d ≡ get_or ds at d
    d_is = own-at ds at e lt

    cut : drop at (keyed_from 0 modules) ≡ d ∷ drop (at + 1) (keyed_from 0 modules)
    cut = subst (λ (l : List Definition). drop at l ≡ d ∷ drop (at + 1) l) ds_are (dropped ds at d lt d_is)

    within : at < length (keyed_from 0 modules)
    within = subst (λ (l : List Definition). at < length l) ds_are lt

    here : d ≡ get_or (keyed_from 0 modules) at d
    here = subst (λ (l : List Definition). d ≡ get_or l at d) ds_are d_is

    pub count-is : count_at rows d ≡ length (filter (is_under d) (storage_of modules stored))
    count-is =
        let name = name-there modules of d (subst (λ (x : Definition). IsSome (definition_at modules x)) (sym here) (keyed-defined-at modules at d within)) in
        are.counts d name.0 name.1 ∙ sym (count-under modules stored d)

    pub count-few : length stored < 2 ^ 63 → count_at rows d < 2 ^ 63
    count-few few = omega (arith, count-is, filter-shorter (is_under d) (storage_of modules stored), length-map stored (read modules), few)

    module _ (n : ℕ) (n_is : n ≡ count_at rows d) (i : ℕ) (text after : List ℕ) (h : IsCounted i at text) (added : after ≡ text ++ uleb n) where
      -- what comes next is this struct's number and its values
      next-is : flat_map text_under (drop i (keyed_from 0 modules)) ≡ after ++ (flat_map addressed_text (filter (is_under d) (storage_of modules stored)) ++ flat_map text_under (drop (at + 1) (keyed_from 0 modules)))
      next-is =
          let v : List ℕ = flat_map addressed_text (filter (is_under d) (storage_of modules stored)) in
          let r : List ℕ = flat_map text_under (drop (at + 1) (keyed_from 0 modules)) in
          let own : text_under d ≡ uleb n ++ v = ap (λ (k : ℕ). uleb k ++ v) (sym (n_is ∙ count-is)) in
          h.text_is ∙ ap (λ (l : List Definition). text ++ flat_map text_under l) cut ∙ ap (λ l. text ++ (l ++ r)) own ∙ ap (λ l. text ++ l) (append_assoc (uleb n) v r)
          ∙ sym (append_assoc text (uleb n) (v ++ r)) ∙ ap (λ l. l ++ (v ++ r)) (sym added)

      -- a struct of which none are stored
      pub counted-more : n ≡ 0 → IsCounted i (at + 1) after
      counted-more gone =
          let none : filter (is_under d) (storage_of modules stored) ≡ [] = none-of (filter (is_under d) (storage_of modules stored)) (sym (n_is ∙ count-is) ∙ gone) in
          record {
            from = omega (arith, h.from);
            text_is = next-is ∙ ap (λ (l : Storage). after ++ (flat_map addressed_text l ++ flat_map text_under (drop (at + 1) (keyed_from 0 modules)))) none;
          }

      -- one that has values
      pub counted-values : (s : LedgerState) → IsStored modules stored s → Comes s (Sections i) after (Values at 0)
      counted-values s is = record {
        text = sections-are modules stored s is i ∙ next-is
            ∙ ap₂ (λ (v r : List ℕ). after ++ (v ++ r)) (sym (values-zero modules stored d)) (sym (sections-are modules stored s is (at + 1)))
            ∙ ap (λ l. after ++ l) (sym (values-left modules stored s is ds ds_are at d 0 (found-at ds at e lt)));
        nearer = omega (arith, h.from, lt, ap length ds_are, ap length (ap (keyed_from 0) is.modules_are));
      }

-- ---- some structs at once

module _ (modules : List Module) (stored : List FlatEntry) (s : LedgerState) (is : IsStored modules stored s) (i end : ℕ) (lt : i < end) (within : end ≤ length (keyed_from 0 modules)) (text : List ℕ)
    (text_is : text ≡ flat_map (struct_text (storage_of modules stored)) (slice_range (keyed_from 0 modules) i end)) where
  pub batch-comes : Comes s (Sections i) text (Sections end)
  batch-comes =
      let f : Definition → List ℕ = struct_text (storage_of modules stored) in
      let ds : List Definition = keyed_from 0 modules in
      record {
        text = sections-are modules stored s is i ∙ ap (flat_map f) (drop_split ds i end (omega (arith, lt))) ∙ flat_map-append f (slice_range ds i end) (drop end ds)
            ∙ ap₂ (λ (x y : List ℕ). x ++ y) (sym text_is) (sym (sections-are modules stored s is end));
        nearer = omega (arith, lt, within, ap length (keyed-are modules stored s is));
      }

-- ---- one call after the other

-- what a step leaves
pub step_left : (s : LedgerState) (v : SavingView) (text : List ℕ) (position next : Position) → v.ready ≡ [] → position ≡ v.position → Comes s position text next → text ++ left_of next s ≡ left_in v s
step_left s v text position next empty at h = sym (ap₂ (λ (r : List ℕ) (q : Position). r ++ left_of q s) empty (sym at) ∙ h.text)

pub step_nearer : (s : LedgerState) (v : SavingView) (text : List ℕ) (position next : Position) → position ≡ v.position → Comes s position text next → rank s next < rank s v.position
step_nearer s v text position next at h = subst (λ (q : Position). rank s next < rank s q) at h.nearer

at-end : (q : Position) (s : LedgerState) → is_end q ≡ true → left_of q s ≡ []
at-end Head s e = absurd (false≢true e)
at-end (Modules place) s e = absurd (false≢true e)
at-end Counts s e = absurd (false≢true e)
at-end (Sections i) s e = absurd (false≢true e)
at-end (Values i from) s e = absurd (false≢true e)
at-end End s e = refl

-- nothing is left where nothing is ready and all is made
pub nothing_left : (v : SavingView) (s : LedgerState) → v.ready ≡ [] → is_end v.position ≡ true → left_in v s ≡ []
nothing_left v s empty e = ap₂ (λ (r t : List ℕ). r ++ t) empty (at-end v.position s e)

-- what is given, and what is left then
pub given_left : (s : LedgerState) (old ready new : SavingView) (piece : List ℕ) → left_in ready s ≡ left_in old s → ready.ready ≡ piece ++ new.ready → new.position ≡ ready.position
    → left_in old s ≡ piece ++ left_in new s
given_left s old ready new piece same made at =
    sym same ∙ ap₂ (λ (r : List ℕ) (q : Position). r ++ left_of q s) made (sym at) ∙ append_assoc piece new.ready (left_of new.position s)
