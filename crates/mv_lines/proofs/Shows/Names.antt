-- The texts of structs' names and of values are plain: identifiers are letters, digits and `_`.
use Rattle.mv_lines.proofs.Common.{[], ◌%◌, ◌++◌, ◌/◌, ◌<◌, ◌∙◌, ◌∷◌, ◌≡◌, Bool, List, Some, arith, codes, decimal, false, flat_map, length, refl, subst, suc, true, zero, ℕ, agree_below_at}
use Rattle.mv_lines.proofs.Common.{and_from, cond_both, nat_tests, list_all-append, same_Some, first_so, second_so, byte_at, bytes_high_first, list_all, ◌&&◌, ◌==◌, ◌||◌, nat_le, nat_lt}
use Rattle.mv_lines.proofs.Common.{slice_get, Module, module_name, name_at, name_of_struct, struct_name, ModuleName, StructName, PublishedModule, LeafKind, Address, Boolean, Number, Signer}
use Rattle.mv_lines.proofs.Common.{HasText, on_bind, identifier_fits, is_letter, is_name_part, hex_digit, leaf_text, rest_text, value_text, Leaf, More, NoMore, Struct, Value, Values, all_at}
use Rattle.mv_lines.proofs.Common.{IsPublishable, IsStore, tables_in, IsPlain, is_plain, All, All-head, All-tail, AllByRecursion, Key, None, Option, StructDefinition, Tally}
use Rattle.mv_lines.proofs.Common.{cond, cons_option, filter_map, is_scarce_struct, key_text, nameless, option_map_or, scarce_name, scarce_structs, tallied, unwrap_or}
use Rattle.std.specs.Fmt.{digits, digits_onto, digit_glyph}
use Rattle.mv_machine.specs.Lines.{address_text, struct_text}
use Rattle.mv_bound_rules.proofs.Found.{at-all}
use Rattle.mv_bound_rules.proofs.Entries.{mapped-at}
use Rattle.mv_module_text.proofs.Numbers.{byte_small}

-- ---- numbers and addresses

pub plain-append : (xs ys : List ℕ) → IsPlain xs → IsPlain ys → IsPlain (xs ++ ys)
plain-append xs ys p q = list_all-append is_plain xs ys ∙ and_from (list_all is_plain xs) (list_all is_plain ys) p q

-- a number in decimal
digit_plain : (d : ℕ) → d < 10 → is_plain (digit_glyph false d) ≡ true
digit_plain d lt = agree_below_at (λ d. is_plain (digit_glyph false d)) (λ d. true) 10 d refl lt

plain-digits : (k n : ℕ) (text : List ℕ) → IsPlain text → IsPlain (digits_onto k 10 false n text)
plain-digits zero n text plain = plain
plain-digits (suc k) n text plain =
    let more : IsPlain (digit_glyph false (n % 10) ∷ text) = and_from _ _ (digit_plain (n % 10) (omega arith)) plain in
    cond_both (n / 10 == 0) _ _ IsPlain (λ e. more) (λ e. plain-digits k (n / 10) _ more)

pub plain-decimal : (n : ℕ) → IsPlain (decimal n)
unfolding digits
plain-decimal n = plain-digits 64 n [] refl

-- an address
hex_plain : (d : ℕ) → d < 16 → is_plain (hex_digit d) ≡ true
hex_plain d lt = agree_below_at (λ d. is_plain (hex_digit d)) (λ d. true) 16 d refl lt

plain-bytes : (k n : ℕ) → IsPlain (flat_map (λ b. hex_digit (b / 16) ∷ hex_digit (b % 16) ∷ []) (bytes_high_first k n))
plain-bytes zero n = refl
plain-bytes (suc k) n =
    let b : ℕ = byte_at k n in
    let lt : b < 256 = byte_small k n in
    and_from _ _ (hex_plain (b / 16) (omega arith)) (and_from _ _ (hex_plain (b % 16) (omega arith)) (plain-bytes k n))

pub plain-address : (a : ℕ) → IsPlain (address_text a)
plain-address a = plain-bytes 16 a

-- ---- identifiers

name_part : (c : ℕ) → is_name_part c ≡ true → is_plain c ≡ true
name_part c is = grind (arith, nat_tests)

name_parts : (cs : List ℕ) → list_all is_name_part cs ≡ true → IsPlain cs
name_parts [] are = refl
name_parts (c ∷ cs) are = and_from (is_plain c) (list_all is_plain cs) (name_part c (first_so (is_name_part c) (list_all is_name_part cs) are))
    (name_parts cs (second_so (is_name_part c) (list_all is_name_part cs) are))

first_part : (c n : ℕ) → (is_letter c || (c == 95) && nat_lt 0 n) ≡ true → is_plain c ≡ true
first_part c n is = grind (arith, nat_tests)

pub plain-identifier : (name : List ℕ) → identifier_fits name ≡ true → IsPlain name
plain-identifier [] fits = refl
plain-identifier (c ∷ cs) fits =
    let first : Bool = is_letter c || (c == 95) && nat_lt 0 (length cs) in
    let both : (first && list_all is_name_part cs) ≡ true = second_so (nat_le (length (c ∷ cs)) 128) (first && list_all is_name_part cs) fits in
    and_from (is_plain c) (list_all is_plain cs) (first_part c (length cs) (first_so first (list_all is_name_part cs) both)) (name_parts cs (second_so first (list_all is_name_part cs) both))

-- ---- names

-- its identifiers are plain
pub record IsPlainName (name : StructName) : Type 0 where
  pub home : IsPlain name.home.name
  pub own : IsPlain name.name

pub plain-struct : (name : StructName) → IsPlainName name → IsPlain (struct_text name)
plain-struct name plain =
    let address = address_text name.home.address in
    let home = name.home.name in
    plain-append (address ++ codes "::" ++ home ++ codes "::") name.name
    (plain-append (address ++ codes "::" ++ home) (codes "::") (plain-append (address ++ codes "::") home (plain-append address (codes "::") (plain-address name.home.address) refl) plain.home) refl)
    plain.own

-- ---- of a store

module _ (m : Module) (text : HasText m) where
  identifier : (i : ℕ) (name : List ℕ) → slice_get m.identifiers i ≡ Some name → IsPlain name
  identifier i name at = plain-identifier name (all_at identifier_fits m.identifiers i name text.identifiers at)

  home : (h : ℕ) (name : ModuleName) → module_name m h ≡ Some name → IsPlain name.name
  home h name named =
      on_bind (slice_get m.module_handles h) _ name named (λ handle _ n1.
      on_bind (slice_get m.addresses handle.address) _ name n1 (λ address _ n2.
      on_bind (slice_get m.identifiers handle.name) _ name n2 (λ own at n3.
      subst (λ (z : ModuleName). IsPlain z.name) (same_Some _ name n3) (identifier handle.name own at))))

  struct : (h : ℕ) (name : StructName) → struct_name m h ≡ Some name → IsPlainName name
  struct h name named =
      on_bind (slice_get m.struct_handles h) _ name named (λ handle _ n1.
      on_bind (module_name m handle.module) _ name n1 (λ from from_is n2.
      on_bind (slice_get m.identifiers handle.name) _ name n2 (λ own at n3.
      subst IsPlainName (same_Some _ name n3) (record { home = home handle.module from from_is; own = identifier handle.name own at }))))

module _ (published : List PublishedModule) (store : IsStore published) where
  text-at : (place : ℕ) (m : Module) → slice_get (tables_in published) place ≡ Some m → HasText m
  text-at place m at =
      let p = mapped-at (λ (p : PublishedModule). p.tables) published place m at in
      subst HasText p.2 (at-all IsPublishable published place p.0 store.passed p.1).spelled

  -- the structs of its modules have plain names
  named-at : (place index : ℕ) (name : StructName) → name_at (tables_in published) place index ≡ Some name → IsPlainName name
  named-at place index name named =
      on_bind (slice_get (tables_in published) place) _ name named (λ m at n1.
      on_bind (slice_get m.structs index) (name_of_struct m) name n1 (λ d _ n2.
      struct m (text-at place m at) d.handle name n2))

  -- and so plain texts
  pub plain-named : (place index : ℕ) (name : StructName) → name_at (tables_in published) place index ≡ Some name → IsPlain (struct_text name)
  plain-named place index name named = plain-struct name (named-at place index name named)

-- ---- values

plain-leaf : (kind : LeafKind) (n : ℕ) → IsPlain (leaf_text kind n)
plain-leaf Boolean n = cond_both (n == 0) (codes "false") (codes "true") IsPlain (λ _. refl) (λ _. refl)
plain-leaf (Number w) n = plain-decimal n
plain-leaf Address n = plain-address n
plain-leaf Signer n = plain-address n

mutual
  pub plain-value : (v : Value) → IsPlain (value_text v)
  plain-value (Leaf kind n) = plain-leaf kind n
  plain-value (Struct name (More v vs)) =
      plain-append (codes "{" ++ value_text v ++ rest_text vs) (codes "}")
      (plain-append (codes "{" ++ value_text v) (rest_text vs) (plain-append (codes "{") (value_text v) refl (plain-value v)) (plain-rest vs)) refl
  plain-value _ = refl

  plain-rest : (vs : Values) → IsPlain (rest_text vs)
  plain-rest NoMore = refl
  plain-rest (More v vs) = plain-append (codes "," ++ value_text v) (rest_text vs) (plain-append (codes ",") (value_text v) refl (plain-value v)) (plain-rest vs)

-- ---- names in reports

-- a struct's text is plain
abbrev pub IsPlainStruct : StructName → Type 0
IsPlainStruct name = IsPlain (struct_text name)

-- the struct of a key
plain-option : (o : Option StructName) → ((name : StructName) → o ≡ Some name → IsPlainStruct name) → IsPlain (option_map_or struct_text o [])
plain-option None each = refl
plain-option (Some name) each = each name refl

pub plain-key : (published : List PublishedModule) → IsStore published → (key : Key) → IsPlain (key_text (tables_in published) key)
plain-key published store key = plain-option (name_at (tables_in published) key.place key.index) (plain-named published store key.place key.index)

-- the struct of a tally
plain-default : (o : Option StructName) → ((name : StructName) → o ≡ Some name → IsPlainStruct name) → IsPlainStruct (unwrap_or o nameless)
plain-default None each = refl
plain-default (Some name) each = each name refl

pub plain-tallied : (published : List PublishedModule) → IsStore published → (t : Tally) → IsPlainStruct (tallied (tables_in published) t).struct
plain-tallied published store t = plain-default (name_at (tables_in published) t.place t.index) (plain-named published store t.place t.index)

-- the structs with neither copy nor drop
pub all-append : {A : Type 0} (P : A → Type 0) (xs ys : List A) → AllByRecursion P xs → AllByRecursion P ys → AllByRecursion P (xs ++ ys)
all-append P [] ys p q = q
all-append P (x ∷ xs) ys p q = (p.0, all-append P xs ys p.1 q)

all-option : {A : Type 0} (P : A → Type 0) (o : Option A) (xs : List A) → ((x : A) → o ≡ Some x → P x) → AllByRecursion P xs → AllByRecursion P (cons_option o xs)
all-option P None xs each all = all
all-option P (Some x) xs each all = (each x refl, all)

if_so : {A : Type 0} (b : Bool) (o : Option A) (x : A) → cond b o None ≡ Some x → o ≡ Some x
if_so true o x e = e
if_so false o x e = cc

scarce_in : (m : Module) → HasText m → (ds : List StructDefinition) → AllByRecursion IsPlainStruct (filter_map (scarce_name m) ds)
scarce_in m text [] = tt
scarce_in m text (d ∷ ds) =
    all-option IsPlainStruct (scarce_name m d) (filter_map (scarce_name m) ds)
    (λ name is. plain-struct name (struct m text d.handle name (if_so (is_scarce_struct m d) (name_of_struct m d) name is))) (scarce_in m text ds)

pub plain-scarce : (published : List PublishedModule) → All IsPublishable published → AllByRecursion IsPlainStruct (scarce_structs (tables_in published))
plain-scarce [] passed = tt
plain-scarce (p ∷ ps) passed =
    all-append IsPlainStruct (filter_map (scarce_name p.tables) p.tables.structs) (scarce_structs (tables_in ps)) (scarce_in p.tables (All-head IsPublishable p ps passed).spelled p.tables.structs)
    (plain-scarce ps (All-tail IsPublishable p ps passed))
