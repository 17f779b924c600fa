-- A line of JSON, piece by piece.
use Rattle.std.proofs.Math.Dec.{eqb-suc-zero}
use Rattle.std.proofs.Math.Seq.{take-append_seam}
use Rattle.std.proofs.lemmas.List.{length-map}
use Rattle.mv_lines.proofs.Common.{[], ◌++◌, ◌+◌, ◌-◌, ◌<◌, ◌∙◌, ◌∷◌, ◌≡◌, ◌==◌, AllByRecursion, Bool, Entry, IsStore, List, Module, PublishedModule, Tallied, ap, append_assoc, arith, codes, cond, count_object}
use Rattle.mv_lines.proofs.Common.{FlatEntry, Tally, ap₂, count_line, end_line, entry_line, entry_object, false, length, length-append, map, refl, storage_of, stored_of, subst, sym, tables_in, take, tallied, true, value_under, with_commas, ℕ}
use Rattle.mv_lines.specs.Left.{lines_from}
use Rattle.mv_lines.specs.Pieces.{TakesPiece}
use Rattle.mv_lines.specs.Sources.{Item, OfTally, OfValue, line_of, object_of}
use Rattle.mv_lines.specs.Sending.{count_texts}
use Rattle.mv_machine.specs.Lines.{show_lines}
use Rattle.mv_lines.specs.Auditing.{audit_from}
use Rattle.mv_lines.proofs.Shows.Names.{IsPlainStruct, plain-address, plain-decimal, plain-key, plain-value}
use Rattle.mv_lines.proofs.Shows.Objects.{IsPlainMember}
use Rattle.mv_lines.proofs.Shows.Parted.{entry_texts}

-- ---- the texts of an entry are plain

pub plain-entry : (published : List PublishedModule) → IsStore published → (e : Entry) → AllByRecursion IsPlainMember (entry_texts (tables_in published) e)
plain-entry published store e = ((refl, plain-address e.key.address), ((refl, plain-key published store e.key), ((refl, plain-value e.value), tt)))

pub plain-counts : (t : Tallied) → IsPlainStruct t.struct → AllByRecursion IsPlainMember (count_texts t)
plain-counts t plain = ((refl, plain-decimal t.packs), ((refl, plain-decimal (stored_of t)), ((refl, plain), ((refl, plain-decimal t.unpacks), tt))))

-- ---- a line of JSON

-- an object without its comma
uncommaed : (o : List ℕ) → take (length (o ++ codes ",") - 1) (o ++ codes ",") ≡ o
uncommaed o =
    let one : length (o ++ codes ",") ≡ length o + 1 = length-append o (codes ",") in
    let short : length (o ++ codes ",") - 1 ≡ length o = omega (arith, one) in
    ap (λ (n : ℕ). take n (o ++ codes ",")) short ∙ take-append_seam o (codes ",")

-- its objects have bytes
some-item : (modules : List Module) (item : Item) → 0 < length (object_of modules item)
some-item modules (OfValue e) = omega arith
some-item modules (OfTally t) = omega arith

-- ---- a piece of what is left

-- an object with its comma, which is taken off the last one
abbrev between : List ℕ → Bool → List ℕ
between o last = cond last (take (length (o ++ codes ",") - 1) (o ++ codes ",")) (o ++ codes ",")

goes-on : (modules : List Module) (item : Item) (more : List Item)
    → with_commas (map (object_of modules) (item ∷ more)) ++ codes "]}" ≡ between (object_of modules item) (length more == 0) ++ (with_commas (map (object_of modules) more) ++ codes "]}")
goes-on modules item [] = ap (λ (t : List ℕ). t ++ codes "]}") (sym (uncommaed (object_of modules item)))
goes-on modules item (next ∷ more) =
    rw (eqb-suc-zero (length more)) (append_assoc (object_of modules item ++ codes ",") (with_commas (map (object_of modules) (next ∷ more))) (codes "]}"))

has-bytes : (o : List ℕ) (last : Bool) → 0 < length o → 0 < length (between o last)
has-bytes o true some = subst (λ (t : List ℕ). 0 < length t) (sym (uncommaed o)) some
has-bytes o false some = omega (arith, length-append o (codes ","), some)

-- an object of JSON
pub takes-object : (modules : List Module) (told : ℕ) (items : List Item) (item : Item) (more : List Item) (text : List ℕ) → items ≡ item ∷ more
    → text ≡ between (object_of modules item) (length more == 0) → TakesPiece false text (lines_from true modules [] told items) (lines_from true modules [] told more)
takes-object modules told items item more text is made = (
  with_commas (map (object_of modules) more) ++ codes "]}",
  [],
  subst (λ (t : List ℕ). 0 < length t) (sym made) (has-bytes (object_of modules item) (length more == 0) (some-item modules item)),
  ap (lines_from true modules [] told) is ∙ ap (λ (l : List ℕ). l ∷ []) (goes-on modules item more ∙ ap (λ (t : List ℕ). t ++ (with_commas (map (object_of modules) more) ++ codes "]}")) (sym made)),
  refl,
)

-- how a line of JSON begins
pub takes-opening : (is_json : Bool) (modules : List Module) (opening : List ℕ) (told : ℕ) (items : List Item) → (is_json ≡ false → opening ≡ []) → 0 < length opening
    → TakesPiece false opening (lines_from is_json modules opening told items) (lines_from is_json modules [] told items)
takes-opening true modules opening told items none some = (with_commas (map (object_of modules) items) ++ codes "]}", [], some, refl, refl)
takes-opening false modules opening told items none some = absurd (omega (arith, ap length (none refl), some))

-- ---- what a report tells

-- the texts of what is told
fused : {A B : Type 0} (f : Item → List ℕ) (i : A → Item) (g : B → List ℕ) (h : A → B) (xs : List A) → ((x : A) → f (i x) ≡ g (h x)) → map f (map i xs) ≡ map g (map h xs)
fused f i g h [] same = refl
fused f i g h (x ∷ xs) same = ap₂ (λ (t : List ℕ) (ts : List (List ℕ)). t ∷ ts) (same x) (fused f i g h xs same)

lines : {A B : Type 0} (f : Item → List ℕ) (i : A → Item) (g : B → List ℕ) (h : A → B) (xs : List A) → ((x : A) → f (i x) ≡ g (h x))
    → map f (map i xs) ++ end_line (0 + length (map i xs)) ∷ [] ≡ map g (map h xs) ++ end_line (0 + length (map h xs)) ∷ []
lines f i g h xs same = ap₂ (λ (ts : List (List ℕ)) (n : ℕ). ts ++ end_line n ∷ []) (fused f i g h xs same) (omega (arith, length-map xs i, length-map xs h))

module _ (modules : List Module) where
  pub shown : (values : List FlatEntry) → lines_from false modules [] 0 (map OfValue values) ≡ show_lines modules (storage_of modules values)
  shown values =
      lines (line_of modules) OfValue (entry_line modules) (λ (e : FlatEntry). record { key = e.key; value = value_under modules e.key e.words }) values (λ e. refl)
      ∙ ap (λ (n : ℕ). map (entry_line modules) (storage_of modules values) ++ end_line n ∷ []) (omega arith)

  pub shown_json : (values : List FlatEntry) → map (object_of modules) (map OfValue values) ≡ map (entry_object modules) (storage_of modules values)
  shown_json values = fused (object_of modules) OfValue (entry_object modules) (λ (e : FlatEntry). record { key = e.key; value = value_under modules e.key e.words }) values (λ e. refl)

  pub counted : (tallies : List Tally) → lines_from false modules [] 0 (map OfTally tallies) ≡ audit_from (map (tallied modules) tallies) 0
  counted tallies = lines (line_of modules) OfTally (λ (t : Tallied). count_line (stored_of t) t) (tallied modules) tallies (λ t. refl)

  pub counted_json : (tallies : List Tally) → map (object_of modules) (map OfTally tallies) ≡ map (λ t. count_object (stored_of t) t) (map (tallied modules) tallies)
  counted_json tallies = fused (object_of modules) OfTally (λ (t : Tallied). count_object (stored_of t) t) (tallied modules) tallies (λ t. refl)
