-- Texts that can be told from what follows them: numbers, bytes after their number, modules and lists, leaves and values.
use Rattle.mv_saved_text.proofs.Common.{[], ◌%◌, ◌++◌, ◌+◌, ◌/◌, ◌<◌, ◌^◌, ◌∙◌, ◌∷◌, ◌≡◌, Bool, IsTrue, List, ap, append_assoc, ap₂, arith, cond, false, flat_map, length, refl, subst, suc, sym, true}
use Rattle.mv_saved_text.proofs.Common.{zero, ℕ, and_parts, ltb-true, same_Some, some_pair_parts, AllByRecursion, option_map_or, nat_lt, Module, struct_name, definition_of, StructName, same_struct}
use Rattle.mv_saved_text.proofs.Common.{same_kind, width_bits, Field, LeafKind, Address, Boolean, Number, Signer, Token, MutableReference, Plain, Reference, OfLeaf, OfStruct, uleb_in, address-whole}
use Rattle.mv_saved_text.proofs.Common.{number_of-whole, Whole, address_text, counted, address_fits, Read, address_from, number_of_from, Offer, are_of_types, is_of_struct, is_of_type, leaf_fits, Leaf}
use Rattle.mv_saved_text.proofs.Common.{More, NoMore, Ref, Struct, Value, Values, same_struct-is, kinds_equal, leaf_bytes, offer_text, sized, leaves_of_fields, leaves_text}
use Rattle.mv_uleb.specs.Uleb.{uleb}
use Rattle.mv_bound_rules.proofs.Found.{passing}

-- of two things with the property, whose texts stand at the front of the same bytes, one is the other, and so are the bytes after them
abbrev pub IsOneOn : {A : Type 0} → (A → Type 0) → (A → List ℕ) → Type 0
IsOneOn {A} P text = (v w : A) (x y : List ℕ) → P v → P w → text v ++ x ≡ text w ++ y → (v ≡ w) × (x ≡ y)

-- of any two things
abbrev pub IsOne : {A : Type 0} → (A → List ℕ) → Type 0
IsOne {A} text = (v w : A) (x y : List ℕ) → text v ++ x ≡ text w ++ y → (v ≡ w) × (x ≡ y)

-- two fronts of two parts each, part by part
pub in_parts : (a b x c d y : List ℕ) → (a ++ b) ++ x ≡ (c ++ d) ++ y → a ++ (b ++ x) ≡ c ++ (d ++ y)
in_parts a b x c d y e = sym (append_assoc a b x) ∙ e ∙ append_assoc c d y

-- what is read where its text stands has a text that can be told
pub whole-one : {A : Type 0} (from : List ℕ → Read A) (text : A → List ℕ) (fits : A → Bool) → Whole from text fits → IsOneOn (λ v. IsTrue (fits v)) text
whole-one from text fits whole v w x y p q e = some_pair_parts v w x y (sym (whole x v p) ∙ ap from e ∙ whole y w q)

-- ---- numbers

-- a number's form in at most so many bytes
in-one : (k : ℕ) → IsOne (uleb_in k)
in-one zero m n x y e = let same : m ≡ n = cc in let rest : x ≡ y = cc in (same, rest)
in-one (suc k) m n x y e = by_case (nat_lt m 128) (nat_lt n 128) refl refl (in-one k (m / 128) (n / 128) x y) e
  where
    by_case : (a b : Bool) → nat_lt m 128 ≡ a → nat_lt n 128 ≡ b → (uleb_in k (m / 128) ++ x ≡ uleb_in k (n / 128) ++ y → (m / 128 ≡ n / 128) × (x ≡ y))
        → cond a (m ∷ []) ((m % 128 + 128) ∷ uleb_in k (m / 128)) ++ x ≡ cond b (n ∷ []) ((n % 128 + 128) ∷ uleb_in k (n / 128)) ++ y → (m ≡ n) × (x ≡ y)
    by_case true true p q ih g = let same : m ≡ n = cc in let rest : x ≡ y = cc in (same, rest)
    by_case true false p q ih g =
        let low : m < 128 = ltb-true m 128 p in
        let first : m ≡ n % 128 + 128 = cc in
        absurd (omega (arith, low, first))
    by_case false true p q ih g =
        let low : n < 128 = ltb-true n 128 q in
        let first : m % 128 + 128 ≡ n = cc in
        absurd (omega (arith, low, first))
    by_case false false p q ih g =
        let first : m % 128 + 128 ≡ n % 128 + 128 = cc in
        let more : uleb_in k (m / 128) ++ x ≡ uleb_in k (n / 128) ++ y = cc in
        let high : m / 128 ≡ n / 128 = (ih more).0 in
        (omega (arith, first, high), (ih more).1)

pub uleb-one : IsOne uleb
unfolding uleb
uleb-one m n x y e = in-one 9 m n x y e

-- ---- bytes and lists

-- as many bytes at the front
pub bytes-one : (a b x y : List ℕ) → length a ≡ length b → a ++ x ≡ b ++ y → (a ≡ b) × (x ≡ y)
bytes-one [] [] x y l e = (refl, e)
bytes-one (c ∷ a) (d ∷ b) x y l e =
    let first : c ≡ d = cc in
    let rest : a ++ x ≡ b ++ y = cc in
    let few : length a ≡ length b = omega (arith, l) in
    let ih = bytes-one a b x y few rest in
    (ap₂ (λ (h : ℕ) (t : List ℕ). h ∷ t) first ih.0, ih.1)
bytes-one _ _ x y l e = absurd (omega (arith, l))

-- bytes after their number
pub sized-one : IsOne sized
sized-one a b x y e =
    let count = uleb-one (length a) (length b) (a ++ x) (b ++ y) (in_parts (uleb (length a)) a x (uleb (length b)) b y e) in
    bytes-one a b x y count.0 count.1

-- a module and its certificate
pub offer-one : IsOne offer_text
offer-one a b x y e =
    let text = sized-one a.text b.text (sized a.certificate ++ x) (sized b.certificate ++ y) (in_parts (sized a.text) (sized a.certificate) x (sized b.text) (sized b.certificate) y e) in
    let certificate = sized-one a.certificate b.certificate x y text.1 in
    (ap₂ (λ (t c : List ℕ). record { text = t; certificate = c }) text.0 certificate.0, certificate.1)

module _ {A : Type 0} (P : A → Type 0) (text : A → List ℕ) (one : IsOneOn P text) where
  -- as many things one after another
  pub entries-one : (vs ws : List A) (x y : List ℕ) → length vs ≡ length ws → AllByRecursion P vs → AllByRecursion P ws → flat_map text vs ++ x ≡ flat_map text ws ++ y → (vs ≡ ws) × (x ≡ y)
  entries-one [] [] x y l p q e = (refl, e)
  entries-one (v ∷ vs) (w ∷ ws) x y l p q e =
      let first = one v w (flat_map text vs ++ x) (flat_map text ws ++ y) p.0 q.0 (in_parts (text v) (flat_map text vs) x (text w) (flat_map text ws) y e) in
      let few : length vs ≡ length ws = omega (arith, l) in
      let ih = entries-one vs ws x y few p.1 q.1 first.1 in
      (ap₂ (λ (h : A) (t : List A). h ∷ t) first.0 ih.0, ih.1)
  entries-one _ _ x y l p q e = absurd (omega (arith, l))

  -- things after their number
  pub counted-one : IsOneOn (AllByRecursion P) (counted text)
  counted-one vs ws x y p q e =
      let count = uleb-one (length vs) (length ws) (flat_map text vs ++ x) (flat_map text ws ++ y) (in_parts (uleb (length vs)) (flat_map text vs) x (uleb (length ws)) (flat_map text ws) y e) in
      entries-one vs ws x y count.0 p q count.1

-- each element has what all have
each : {A : Type 0} (P : A → Type 0) → ((v : A) → P v) → (vs : List A) → AllByRecursion P vs
each P p [] = tt
each P p (v ∷ vs) = (p v, each P p vs)

-- modules after their number
pub offers-one : IsOne (counted offer_text)
offers-one a b x y e =
    counted-one (λ (o : Offer). Unit {0}) offer_text (λ v w x y p q. offer-one v w x y) a b x y (each (λ (o : Offer). Unit {0}) (λ o. tt) a) (each (λ (o : Offer). Unit {0}) (λ o. tt) b) e

-- ---- values

-- the type of a reference
abbrev is_reference : Token → Type 0
is_reference (Plain t) = ⊥
is_reference (Reference t) = Unit {0}
is_reference (MutableReference t) = Unit {0}

-- a leaf of a kind
pub leaf-one : (kind : LeafKind) → IsOneOn (λ n. IsTrue (leaf_fits kind n)) (leaf_bytes kind)
leaf-one Boolean m n x y p q e = let same : m ≡ n = cc in let rest : x ≡ y = cc in (same, rest)
leaf-one (Number w) m n x y p q e =
    some_pair_parts m n x y (sym (number_of-whole w m x (ltb-true m (2 ^ width_bits w) p)) ∙ ap (number_of_from w) e ∙ number_of-whole w n y (ltb-true n (2 ^ width_bits w) q))
leaf-one Address m n x y p q e = whole-one address_from address_text address_fits address-whole m n x y p q e
leaf-one Signer m n x y p q e = absurd cc

module _ (modules : List Module) where
  -- whether fields are of the types of this struct's fields
  abbrev pub has_fields : StructName → Values → Bool
  has_fields name fields = option_map_or (λ d. are_of_types modules d.0 d.1 fields) (definition_of modules name) false

  -- fields of one struct
  defined-one : (s r : StructName) (fs gs : Values) (x y : List ℕ) → s ≡ r → IsTrue (has_fields s fs) → IsTrue (has_fields r gs)
      → ((m : Module) (types : List Field) → are_of_types modules m types fs ≡ true → are_of_types modules m types gs ≡ true → (fs ≡ gs) × (x ≡ y)) → (Struct s fs ≡ Struct r gs) × (x ≡ y)
  defined-one s r fs gs x y same p q go =
      let d = passing (λ (d : Module × List Field). are_of_types modules d.0 d.1 fs) (definition_of modules s) p in
      let c = passing (λ (d : Module × List Field). are_of_types modules d.0 d.1 gs) (definition_of modules r) q in
      let is : d.0 ≡ c.0 = same_Some d.0 c.0 (sym d.1 ∙ ap (definition_of modules) same ∙ c.1) in
      let fields = go d.0.0 d.0.1 d.2 (subst (λ (z : Module × List Field). are_of_types modules z.0 z.1 gs ≡ true) (sym is) c.2) in
      (ap₂ Struct same fields.0, fields.1)

  -- no value is of a reference's type
  no_reference : (m : Module) (t : Token) (v : Value) → is_reference t → is_of_type modules m t v ≡ true → ⊥
  no_reference m (Plain t) v r p = r
  no_reference m t (Leaf j n) r p = cc
  no_reference m t (Struct name fields) r p = cc
  no_reference m t (Ref z) r p = cc

  mutual
    -- values of one type
    typed-one : (m : Module) (t : Token) (v w : Value) (x y : List ℕ) → is_of_type modules m t v ≡ true → is_of_type modules m t w ≡ true → leaves_text v ++ x ≡ leaves_text w ++ y → (v ≡ w) × (x ≡ y)
    typed-one m (Plain (OfLeaf k)) (Leaf i a) (Leaf j b) x y p q e =
        let s = and_parts (same_kind i k) (leaf_fits k a) p in
        let r = and_parts (same_kind j k) (leaf_fits k b) q in
        let is : i ≡ k = kinds_equal i k s.0 in
        let also : j ≡ k = kinds_equal j k r.0 in
        let number = leaf-one k a b x y s.1 r.1 (ap (λ z. leaf_bytes z a ++ x) (sym is) ∙ e ∙ ap (λ z. leaf_bytes z b ++ y) also) in
        (ap₂ Leaf (is ∙ sym also) number.0, number.1)
    typed-one m (Plain (OfStruct h)) (Struct s fs) (Struct r gs) x y p q e =
        let named : Bool = option_map_or (λ own. same_struct own s) (struct_name m h) false in
        let also : Bool = option_map_or (λ own. same_struct own r) (struct_name m h) false in
        let a = and_parts named (has_fields s fs) p in
        let b = and_parts also (has_fields r gs) q in
        let c = passing (λ own. same_struct own s) (struct_name m h) a.0 in
        let d = passing (λ own. same_struct own r) (struct_name m h) b.0 in
        let same : s ≡ r = sym (same_struct-is c.0 s c.2) ∙ same_Some c.0 d.0 (sym c.1 ∙ d.1) ∙ same_struct-is d.0 r d.2 in
        defined-one s r fs gs x y same a.1 b.1 (λ n types f g. fields-one n types fs gs x y f g e)
    typed-one m (Reference t) v w x y p q e = absurd (no_reference m (Reference t) v tt p)
    typed-one m (MutableReference t) v w x y p q e = absurd (no_reference m (MutableReference t) v tt p)
    typed-one m t v w x y p q e = absurd cc

    -- fields of one struct's types
    fields-one : (m : Module) (types : List Field) (fs gs : Values) (x y : List ℕ) → are_of_types modules m types fs ≡ true → are_of_types modules m types gs ≡ true
        → leaves_of_fields fs ++ x ≡ leaves_of_fields gs ++ y → (fs ≡ gs) × (x ≡ y)
    fields-one m [] NoMore NoMore x y p q e = (refl, e)
    fields-one m (f ∷ types) (More v fs) (More w gs) x y p q e =
        let a = and_parts (is_of_type modules m f.token v) (are_of_types modules m types fs) p in
        let b = and_parts (is_of_type modules m f.token w) (are_of_types modules m types gs) q in
        let first = typed-one m f.token v w (leaves_of_fields fs ++ x) (leaves_of_fields gs ++ y) a.0 b.0
        (in_parts (leaves_text v) (leaves_of_fields fs) x (leaves_text w) (leaves_of_fields gs) y e) in
        let rest = fields-one m types fs gs x y a.1 b.1 first.1 in
        (ap₂ More first.0 rest.0, rest.1)
    fields-one m types fs gs x y p q e = absurd cc

  -- values of one struct
  pub of_struct-one : (own : StructName) → IsOneOn (λ v. is_of_struct modules own v ≡ true) leaves_text
  of_struct-one own (Struct s fs) (Struct r gs) x y p q e =
      let a = and_parts (same_struct own s) (has_fields s fs) p in
      let b = and_parts (same_struct own r) (has_fields r gs) q in
      let same : s ≡ r = sym (same_struct-is own s a.0) ∙ same_struct-is own r b.0 in
      defined-one s r fs gs x y same a.1 b.1 (λ n types f g. fields-one n types fs gs x y f g e)
  of_struct-one own v w x y p q e = absurd cc
