-- What an entry of a report in JSON sends to a serializer (why an entry at a time: decision 33).
--   members_of                   texts under their keys, as data that is sent
--   texts_of, texts_data         three texts by the keys of a stored value's, and the object that they make
--   count_texts, count_data      a struct's counts: their texts by key, and the object that they make
use Rattle.std.specs.Prelude.{ℕ, List, [], ◌∷◌, codes, decimal}
use Rattle.serde_json.specs.Data.{Data, string, object, Members, no_members, member}
use Rattle.mv_machine.specs.Lines.{Tallied, struct_text}
use Rattle.mv_lines.specs.Auditing.{stored_of}

-- texts under their keys
abbrev pub members_of : List (List ℕ × List ℕ) → Members
members_of [] = no_members
members_of (m ∷ ms) = member m.0 (string m.1) (members_of ms)

-- texts of an address, of a struct and of a value, under their keys
abbrev pub texts_of : List ℕ → List ℕ → List ℕ → List (List ℕ × List ℕ)
texts_of address name value = (codes "address", address) ∷ (codes "struct", name) ∷ (codes "value", value) ∷ []

abbrev pub texts_data : List ℕ → List ℕ → List ℕ → Data
texts_data address name value = object (members_of (texts_of address name value))

-- the texts of a struct's counts
abbrev pub count_texts : Tallied → List (List ℕ × List ℕ)
count_texts t =
    (codes "packed", decimal t.packs) ∷ (codes "stored", decimal (stored_of t)) ∷ (codes "struct", struct_text t.struct)
    ∷ (codes "unpacked", decimal t.unpacks) ∷ []

abbrev pub count_data : Tallied → Data
count_data t = object (members_of (count_texts t))
