-- A bundle that may join, and was placed: the store and the tallies after it.
use Rattle.mv_ledger_state.proofs.Common.{[], ◌*◌, ◌+◌, ◌<◌, ◌∙◌, ◌∷◌, ◌≡◌, ◌≤◌, Bool, List, Option, Some, ap, ap₂, arith, cond, cond_both, false, get_or, leb-true, length, subst, suc, sym, true, ℕ, ltb-false, ltb-true}
use Rattle.mv_ledger_state.proofs.Common.{map, All, All-head, All-map, All-tail, count_by, find, nat_le, nat_lt, unwrap_or, Module, StructName, same_struct, PublishedModule, with_modules, Offer, Publish, Tallied, IsStore, tables_in}
use Rattle.mv_ledger_state.proofs.Common.{refl, scarce_structs, tally_of, untouched_tally, IsShaped, AddsTallies, ArePlacedFor, AreWithin, MayFollow, is_published, with_placed, ArePlaced, AreScarce}
use Rattle.mv_ledger_state.proofs.Common.{IsSmall, IsTalliedStore, all_of, tallied, Placed, Tally}
use Rattle.mv_ledger_state.proofs.Bundles.Places.{AreSpotted, EachIs, had-at, all-spotted, count-joined, each-first, each-joined, spotted-within, had-found}
use Rattle.mv_ledger_state.proofs.Bundles.Places.{had}
use Rattle.mv_ledger_state.proofs.Bundles.Heirs.{inherited}
use Rattle.mv_ledger_state.proofs.Bundles.TalliesJoined.{tallies-added, scarce-added}
use Rattle.mv_ledger_state.proofs.Runs.ScarceTallies.{All-back}
use Rattle.mv_ledger_state.proofs.TalliedStores.{tallied-long, tallied-named}

-- a publish record has few offers
pub few-offers : (payload : List ℕ) (sender : ℕ) (offers : List Offer) → IsShaped 1 payload (Publish sender offers) → length offers ≤ 16
few-offers payload sender offers asked =
    let few : nat_le (length offers) 16 ≡ true = grind (arith, asked.2) in
    leb-true (length offers) 16 few

-- each module of a bundle is placed
pub placed-length : (old : List Module) (tss : List (List Tally)) (next : ℕ) (ms : List Module) (placed : List Placed) → ArePlacedFor old tss next ms placed → length placed ≡ length ms
placed-length old tss next [] [] h = refl
placed-length old tss next (m ∷ ms) (p ∷ ps) h = ap suc (placed-length old tss (cond (is_published old m) next (next + 1)) ms ps h.2)
placed-length _ _ _ _ _ h = absurd h

-- a bundle that may join a store with its tallies, and where each of its modules is to stand
pub record IsPlacedBundle (old bundle : List PublishedModule) (tss : List (List Tally)) (placed : List Placed) (sender : Option ℕ) : Type 0 where
  pub held : IsTalliedStore old tss
  pub whole : IsStore (with_modules old bundle)
  pub join : MayFollow sender old bundle
  pub at : ArePlacedFor (tables_in old) tss (length old) (tables_in bundle) placed

module _ (old bundle : List PublishedModule) (tss : List (List Tally)) (placed : List Placed) (sender : Option ℕ) (b : IsPlacedBundle old bundle tss placed sender) where
  spots : AreSpotted (had tss) old bundle placed
  spots = all-spotted old bundle tss placed b.join.once b.at

  pub joined-within : AreWithin (length tss) placed
  joined-within = subst (λ (n : ℕ). AreWithin n placed) (sym (tallied-long old tss b.held)) (spotted-within (had tss) (had-at tss b.held.placed) old bundle placed spots)

  -- the test of room is one of the modules that there are then
  tested-room : (count : ℕ) (ps : List Placed) → count ≡ length old → ps ≡ placed
      → nat_lt 4096 (count + count_by (λ (p : Placed). nat_le count p.place) ps) ≡ nat_lt 4096 (length (with_modules old bundle))
  tested-room count ps count_is ps_is =
      ap₂ (λ (n : ℕ) (qs : List Placed). nat_lt 4096 (n + count_by (λ (p : Placed). nat_le n p.place) qs)) count_is ps_is
      ∙ ap (λ (n : ℕ). nat_lt 4096 n) (sym (count-joined old bundle tss placed b.join.once b.at))

  pub room-for : (count : ℕ) (ps : List Placed) → count ≡ length old → ps ≡ placed → nat_lt 4096 (count + count_by (λ (p : Placed). nat_le count p.place) ps) ≡ false
      → length (with_modules old bundle) ≤ 4096
  room-for count ps count_is ps_is test = ltb-false 4096 (length (with_modules old bundle)) (sym (tested-room count ps count_is ps_is) ∙ test)

  pub no-room-for : (count : ℕ) (ps : List Placed) → count ≡ length old → ps ≡ placed → nat_lt 4096 (count + count_by (λ (p : Placed). nat_le count p.place) ps) ≡ true
      → length (with_modules old bundle) ≤ 4096 → ⊥
  no-room-for count ps count_is ps_is test room =
      let more : 4096 < length (with_modules old bundle) = ltb-true 4096 (length (with_modules old bundle)) (sym (tested-room count ps count_is ps_is) ∙ test) in
      absurd (omega (arith, more, room))

  each : EachIs (had tss) 0 (tables_in (with_modules old bundle)) (with_placed tss placed)
  each = each-joined (had tss) old bundle tss placed spots (each-first (had tss) 0 (tables_in old) tss (had-found tss) b.held.scarce)

  module _ (new : List PublishedModule) (after : List (List Tally)) (new_is : new ≡ with_modules old bundle) (after_is : after ≡ with_placed tss placed) where
    -- they are a store with its tallies again
    pub after-held : length (with_modules old bundle) ≤ 4096 → ArePlaced 0 after → IsTalliedStore new after
    after-held room own =
        subst (λ (ps : List PublishedModule). IsTalliedStore ps after) (sym new_is) (record {
          few = room;
          store = b.whole;
          placed = own;
          scarce = subst (λ (us : List (List Tally)). AreScarce (tables_in (with_modules old bundle)) us) (sym after_is)
              (scarce-added old (with_modules old bundle) tss (with_placed tss placed) b.held.store b.whole (inherited old bundle b.join.compatible) b.held.placed b.held.scarce
              (tallied-named old tss b.held) each);
        })

    pub after-tallied : AddsTallies old new (all_of tss) (all_of after)
    after-tallied =
        subst (λ (ps : List PublishedModule). AddsTallies old ps (all_of tss) (all_of after)) (sym new_is)
        (subst (λ (us : List (List Tally)). AddsTallies old (with_modules old bundle) (all_of tss) (all_of us)) (sym after_is)
        (tallies-added old (with_modules old bundle) tss (with_placed tss placed) b.held.store b.whole (inherited old bundle b.join.compatible) b.held.placed b.held.scarce
        (tallied-named old tss b.held) each))

-- ---- tallies that are added are no larger than those that were there

-- a count is no more than so many runs can have made
abbrev IsSmallCount : ℕ → Tallied → Type 0
IsSmallCount runs t = (t.packs ≤ runs * 10000000) × (t.unpacks ≤ runs * 10000000)

small-found : (runs : ℕ) (p : Tallied → Bool) (s : StructName) (ts : List Tallied) → All (IsSmallCount runs) ts → IsSmallCount runs (unwrap_or (find p ts) (untouched_tally s))
small-found runs p s [] small = (omega arith, omega arith)
small-found runs p s (t ∷ ts) small =
    cond_both (p t) (Some t) (find p ts) (λ o. IsSmallCount runs (unwrap_or o (untouched_tally s))) (λ e. All-head (IsSmallCount runs) t ts small)
    (λ e. small-found runs p s ts (All-tail (IsSmallCount runs) t ts small))

pub added-small : (old new : List PublishedModule) (before after : List Tally) (runs : ℕ) → AddsTallies old new before after → All (IsSmall runs) before → All (IsSmall runs) after
added-small old new before after runs adds small =
    let olds = map (tallied (tables_in old)) before in
    All-back (IsSmallCount runs) (tallied (tables_in new)) after (subst (All (IsSmallCount runs)) (sym adds)
    (All-map (IsSmallCount runs) (tally_of olds) (scarce_structs (tables_in new))
    (λ k d lt. let s = get_or (scarce_structs (tables_in new)) k d in small-found runs (λ (t : Tallied). same_struct t.struct s) s olds (All-map (IsSmallCount runs) (tallied (tables_in old)) before small))))
