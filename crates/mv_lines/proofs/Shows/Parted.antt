-- The texts of a stored value, one behind the other.
use Rattle.std.specs.List.{slice_range}
use Rattle.std.proofs.Math.Seq.{drop-append_seam, take-append_seam}
use Rattle.mv_lines.proofs.Common.{◌++◌, ◌-◌, ◌∙◌, ◌≡◌, Entry, IsPlain, IsStore, List, Module, PublishedModule, ap, append_assoc, arith, drop, key_text, length, length-append, tables_in, take, value_text, ℕ}
use Rattle.mv_machine.specs.Lines.{address_text}
use Rattle.serde_json.specs.Data.{Data, object}
use Rattle.mv_lines.specs.Sending.{members_of, texts_data, texts_of}
use Rattle.mv_lines.proofs.Shows.Names.{plain-address, plain-append, plain-key, plain-value}

-- by key, and the object that they make
abbrev pub entry_texts : List Module → Entry → List (List ℕ × List ℕ)
entry_texts modules e = texts_of (address_text e.key.address) (key_text modules e.key) (value_text e.value)

abbrev pub entry_data : List Module → Entry → Data
entry_data modules e = object (members_of (entry_texts modules e))

-- they are plain
pub plain-texts : (published : List PublishedModule) → IsStore published → (e : Entry) → IsPlain (address_text e.key.address ++ key_text (tables_in published) e.key ++ value_text e.value)
plain-texts published store e =
    let address : List ℕ = address_text e.key.address in
    let name : List ℕ = key_text (tables_in published) e.key in
    plain-append (address ++ name) (value_text e.value) (plain-append address name (plain-address e.key.address) (plain-key published store e.key)) (plain-value e.value)

module _ (all a n v : List ℕ) (name value : ℕ) (is : all ≡ a ++ n ++ v) (first : name ≡ length a) (second : value ≡ length (a ++ n)) where
  behind : drop name all ≡ n ++ v
  behind = ap (λ (k : ℕ). drop k all) first ∙ ap (λ (l : List ℕ). drop (length a) l) (is ∙ append_assoc a n v) ∙ drop-append_seam a (n ++ v)

  between : value - name ≡ length n
  between = omega (arith, first, second, length-append a n)

  -- which they are
  address-part : take name all ≡ a
  address-part = ap (λ (k : ℕ). take k all) first ∙ ap (λ (l : List ℕ). take (length a) l) (is ∙ append_assoc a n v) ∙ take-append_seam a (n ++ v)

  name-part : slice_range all name value ≡ n
  name-part = ap (λ (l : List ℕ). take (value - name) l) behind ∙ ap (λ (k : ℕ). take k (n ++ v)) between ∙ take-append_seam n v

  value-part : drop value all ≡ v
  value-part = ap (λ (k : ℕ). drop k all) second ∙ ap (λ (l : List ℕ). drop (length (a ++ n)) l) is ∙ drop-append_seam (a ++ n) v

  pub same-data : (x y z : List ℕ) → x ≡ take name all → y ≡ slice_range all name value → z ≡ drop value all → texts_data x y z ≡ texts_data a n v
  same-data x y z p q r =
      ap (λ (l : List ℕ). texts_data l y z) (p ∙ address-part) ∙ ap (λ (l : List ℕ). texts_data a l z) (q ∙ name-part) ∙ ap (λ (l : List ℕ). texts_data a n l) (r ∙ value-part)

-- what is sent of them
pub same-entry : (modules : List Module) (e : Entry) (all x y z : List ℕ) (name value : ℕ) → all ≡ address_text e.key.address ++ key_text modules e.key ++ value_text e.value
    → name ≡ length (address_text e.key.address) → value ≡ length (address_text e.key.address ++ key_text modules e.key) → x ≡ take name all → y ≡ slice_range all name value → z ≡ drop value all
    → texts_data x y z ≡ entry_data modules e
same-entry modules e all x y z name value is first second p q r =
    same-data all (address_text e.key.address) (key_text modules e.key) (value_text e.value) name value is first second x y z p q r
