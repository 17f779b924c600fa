use Rattle.mv_storage.proofs.Common.{◌≡◌, false, is_lt, key_cmp, subst, FlatEntry, Key, Committed}
use Rattle.std.proofs.Common.{◌<◌, ◌^◌}
use Rattle.std.specs.List.{AllByRecursion}
use Rattle.std.specs.Map.{keys_of}
use Rattle.std.proofs.lemmas.List.Elements.{recursion_from_All}
use Rattle.mv_storage.specs.Map.{Layers}
use Rattle.mv_storage.proofs.Ranges.{all-shown, below-last}
use Rattle.mv_storage.proofs.storage.Storage.has_addresses.Goals as goal

pub returns-in-Some : goal.returns-in-Some
returns-in-Some c =
    let entries = c.self.inside.work.places.tree.entries in
    subst (λ (l : Layers). AllByRecursion (λ (e : FlatEntry). e.key.address < 2 ^ 128) l.committed) c.self.view_is
    (all-shown (λ (k : Key). k.address < 2 ^ 128) Committed c.self.inside.work.places.slots.items entries
    (below-last c.in-Some.last.now (keys_of entries) c.has_128_bits.ensures (recursion_from_All (λ (q : Key). is_lt (key_cmp c.in-Some.last.now q) ≡ false) (keys_of entries) c.in-Some.ensures.all_up_to)))
