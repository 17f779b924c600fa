-- What is read at the front of a saved ledger's text is read there whatever follows.
use Rattle.std.proofs.Common.{[], ◌++◌, ◌∙◌, ◌∷◌, Bool, List, None, Option, Some, ap, false}
use Rattle.std.proofs.Common.{nat_lt, suc, true, zero, ℕ}
use Rattle.std.specs.Bool.{then_some}
use Rattle.std.proofs.lemmas.Option.{some_pair_parts, none-some}
use Rattle.mv_uleb.specs.Parsing.{number_from}
use Rattle.mv_uleb.proofs.Spelled.{then_some-parts}
use Rattle.mv_move_types.specs.Options.{◌>>=◌}
use Rattle.mv_module_text.specs.Parsing.{Read, address_from, byte_from, bytes_from, entries_from, index_from}
use Rattle.mv_saved_text.proofs.Common.{Definition, FlatEntry, FlatStorage, Key, LeafKind, Address, Boolean, Number, Signer, Module}
use Rattle.mv_saved_text.proofs.Common.{Form, First, Second, count_from, entry_from, group_into, groups_into, is_after, leaf_from, leaves_from, rising_into, tally_from, with_entry, body_from}
use Rattle.std.specs.Int.{w128, from_be_bytes}
use Rattle.mv_move_types.specs.declared.token.Width.TheVariants.{U128}
use Rattle.mv_saved_text.specs.Layouts.{kinds_under}
use Rattle.mv_saved_text.specs.Parts.BodyParts.{storage_into, struct_from}
use Rattle.mv_saved_text.specs.SavedText.{greatest_count, keyed_from}
use Rattle.mv_ledger_state.proofs.Extending.{Extends, extends-bind, number-extends, byte-extends, bytes-extends, extends-shown, number_of-extends, entries-extends}

pub address-extends : Extends address_from
address-extends = extends-shown (bytes_from 16) (from_be_bytes w128) (bytes-extends 16)

-- what is known already, and then something
extends-known : {A B : Type 0} (o : Option A) (next : A → List ℕ → Read B) → ((x : A) → Extends (next x)) → Extends (λ bytes. o >>= λ x. next x bytes)
extends-known None next each bytes rest more y is = absurd (none-some (y, rest) is)
extends-known (Some x) next each bytes rest more y is = each x bytes rest more y is

-- something where a test holds
extends-tested : {A : Type 0} (b : Bool) (next : List ℕ → Read A) → Extends next → Extends (λ bytes. then_some b bytes >>= next)
extends-tested true next one bytes rest more y is = one bytes rest more y is
extends-tested false next one bytes rest more y is = absurd (none-some (y, rest) is)

-- what is there without bytes
extends-done : {A : Type 0} (x : A) → Extends (λ bytes. Some (x, bytes))
extends-done x bytes rest more y is = let p = some_pair_parts x y bytes rest is in ap (λ z. Some (z, bytes ++ more)) p.0 ∙ ap (λ z. Some (y, z ++ more)) p.1

boolean-extends : (x : ℕ) → Extends (λ bytes. then_some (nat_lt x 2) (x, bytes))
boolean-extends x bytes rest more y is =
    let p = then_some-parts (nat_lt x 2) (x, bytes) (y, rest) is in
    ap (λ b. then_some b (x, bytes ++ more)) p.0 ∙ ap (λ (z : ℕ × List ℕ). Some (z.0, z.1 ++ more)) p.1

pub leaf-extends : (kind : LeafKind) → Extends (leaf_from kind)
leaf-extends Boolean bytes rest more x is = extends-bind byte_from (λ b. then_some (nat_lt b.0 2) b) byte-extends boolean-extends bytes rest more x is
leaf-extends (Number w) bytes rest more x is = number_of-extends w bytes rest more x is
leaf-extends Address bytes rest more x is = address-extends bytes rest more x is
leaf-extends Signer bytes rest more x is = absurd (none-some (x, rest) is)

pub leaves-extends : (kinds : List LeafKind) → Extends (leaves_from kinds)
leaves-extends [] bytes rest more xs is = extends-done [] bytes rest more xs is
leaves-extends (kind ∷ kinds) bytes rest more xs is =
    extends-bind (leaf_from kind) (λ n. leaves_from kinds n.1 >>= λ rest. Some (n.0 ∷ rest.0, rest.1)) (leaf-extends kind)
    (λ n. extends-shown (leaves_from kinds) (λ ns. n ∷ ns) (leaves-extends kinds)) bytes rest more xs is

pub struct-extends : (of : Option Definition) → Extends (struct_from of)
struct-extends (Some d) bytes rest more x is = extends-done d bytes rest more x is
struct-extends None bytes rest more x is =
    extends-bind index_from (λ place. index_from place.1 >>= λ index. Some (record { place = place.0; index = index.0 }, index.1)) (number-extends 65535)
    (λ place. extends-shown index_from (λ index. record { place = place; index = index }) (number-extends 65535)) bytes rest more x is

-- a stored value whose key is known
abbrev pub words_from : ℕ → Definition → List LeafKind → List ℕ → Read FlatEntry
words_from address d kinds bytes =
    leaves_from kinds bytes >>= λ words. Some (record { key = record { address = address; place = d.place; index = d.index }; words = words.0 }, words.1)

-- the same after its address, and after its struct
abbrev pub kinds_from : List Module → ℕ → Definition → List ℕ → Read FlatEntry
kinds_from modules address d bytes = kinds_under modules d >>= λ kinds. words_from address d kinds bytes

abbrev pub addressed_from : List Module → Option Definition → ℕ → List ℕ → Read FlatEntry
addressed_from modules of address bytes = struct_from of bytes >>= λ d. kinds_from modules address d.0 d.1

words-extends : (address : ℕ) (d : Definition) (kinds : List LeafKind) → Extends (words_from address d kinds)
words-extends address d kinds =
    extends-shown (leaves_from kinds) (λ words. record { key = record { address = address; place = d.place; index = d.index }; words = words }) (leaves-extends kinds)

kinds-extends : (modules : List Module) (address : ℕ) (d : Definition) → Extends (kinds_from modules address d)
kinds-extends modules address d = extends-known (kinds_under modules d) (words_from address d) (words-extends address d)

addressed-extends : (modules : List Module) (of : Option Definition) (address : ℕ) → Extends (addressed_from modules of address)
addressed-extends modules of address = extends-bind (struct_from of) (λ d. kinds_from modules address d.0 d.1) (struct-extends of) (kinds-extends modules address)

pub entry-extends : (modules : List Module) (of : Option Definition) → Extends (entry_from modules of)
entry-extends modules of = extends-bind address_from (λ address. addressed_from modules of address.0 address.1) address-extends (addressed-extends modules of)

pub rising-extends : (each : List ℕ → Read FlatEntry) → Extends each → (n : ℕ) (last : Option Key) (storage : FlatStorage) → Extends (rising_into each n last storage)
rising-extends each one zero last storage bytes rest more x is = extends-done storage bytes rest more x is
rising-extends each one (suc n) last storage bytes rest more x is =
    extends-bind each (λ e. then_some (is_after last e.0.key) e.1 >>= rising_into each n (Some e.0.key) (with_entry storage e.0)) one
    (λ e. extends-tested (is_after last e.key) (rising_into each n (Some e.key) (with_entry storage e)) (rising-extends each one n (Some e.key) (with_entry storage e))) bytes rest more x is

pub group-extends : (each : List ℕ → Read FlatEntry) → Extends each → (storage : FlatStorage) → Extends (group_into each storage)
group-extends each one storage =
    extends-bind (number_from 18446744073709551615) (λ n. rising_into each n.0 None storage n.1) (number-extends 18446744073709551615) (λ n. rising-extends each one n None storage)

pub groups-extends : (modules : List Module) (ds : List Definition) (storage : FlatStorage) → Extends (groups_into modules ds storage)
groups-extends modules [] storage bytes rest more x is = extends-done storage bytes rest more x is
groups-extends modules (d ∷ ds) storage bytes rest more x is =
    extends-bind (group_into (entry_from modules (Some d)) storage) (λ s. groups_into modules ds s.0 s.1)
    (group-extends (entry_from modules (Some d)) (entry-extends modules (Some d)) storage) (groups-extends modules ds) bytes rest more x is

pub storage-extends : (modules : List Module) (form : Form) (storage : FlatStorage) → Extends (storage_into modules form storage)
storage-extends modules First storage bytes rest more x is = group-extends (entry_from modules None) (entry-extends modules None) storage bytes rest more x is
storage-extends modules Second storage bytes rest more x is = groups-extends modules (keyed_from 0 modules) storage bytes rest more x is

pub count-extends : (form : Form) → Extends (count_from form)
count-extends First bytes rest more x is = number_of-extends U128 bytes rest more x is
count-extends Second bytes rest more x is = number-extends (greatest_count Second) bytes rest more x is

pub tally-extends : (form : Form) → Extends (tally_from form)
tally-extends form =
    extends-bind (count_from form) (λ packs. count_from form packs.1 >>= λ unpacks. Some ((packs.0, unpacks.0), unpacks.1)) (count-extends form)
    (λ packs. extends-shown (count_from form) (λ unpacks. (packs, unpacks)) (count-extends form))

pub body-extends : (form : Form) (modules : List Module) (count : ℕ) → Extends (body_from form modules count)
body-extends form modules count =
    extends-bind (entries_from (tally_from form) count) (λ counts. storage_into modules form [] counts.1 >>= λ stored. Some ((counts.0, stored.0), stored.1))
    (entries-extends (tally_from form) (tally-extends form) count)
    (λ counts. extends-shown (storage_into modules form []) (λ stored. (counts, stored)) (storage-extends modules form []))
