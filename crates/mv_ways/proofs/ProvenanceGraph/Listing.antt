-- What leads to each provenance stays where provenances come behind, and each provenance's stands at its place.
use Rattle.std.proofs.Common.{◌≡◌, ℕ, zero, suc, ◌+◌, ◌<◌, true, Some, None, slice_get, List, [], ◌∷◌, ◌++◌, length, get_or, fold, flat_map, refl, sym, ap, subst, ◌∙◌, arith}
use Rattle.std.specs.Prelude.{nat_lt}
use Rattle.std.specs.List.{list_all}
use Rattle.std.proofs.lemmas.Bool.{and_parts, ltb-true}
use Rattle.mv_edges.specs.Edges.{here, extended, opened}
use Rattle.std.proofs.lemmas.List.{length-append}
use Rattle.std.proofs.lemmas.List.Sums.{fold-append}
use Rattle.std.proofs.Math.ListN.{get_or-append}
use Rattle.std.proofs.Math.Seq.{get_or-append_seam}
use Rattle.mv_ways.specs.Origins.{Origin}
use Rattle.mv_ways.proofs.ProvenanceGraph.Folded.{at_provenance}
use Rattle.mv_ways.specs.declared.provenances.Provenance.{Provenance}
use Rattle.mv_ways.specs.declared.provenances.Provenance.TheVariants.{Stated, Lent, Field, Returned}
use Rattle.mv_ways.specs.Provenances.{an_origin, all_origins, are_earlier, changed_origins, goes_below, origins_at, origins_of, with_origins_of}

-- one provenance more
pub all_origins-push : (provenances : List Provenance) (provenance : Provenance) → all_origins (provenances ++ provenance ∷ []) ≡ with_origins_of (all_origins provenances) provenance
all_origins-push provenances provenance = fold-append with_origins_of [] provenances (provenance ∷ [])

-- as many as there are provenances
listed_length : (listed : List (List Origin)) (provenances : List Provenance) → length (fold with_origins_of listed provenances) ≡ length listed + length provenances
listed_length listed [] = omega arith
listed_length listed (provenance ∷ provenances) =
    let rest = listed_length (with_origins_of listed provenance) provenances in
    let more = length-append listed (origins_of listed provenance ∷ []) in
    omega (arith, rest, more)

pub length-all_origins : (provenances : List Provenance) → length (all_origins provenances) ≡ length provenances
length-all_origins provenances = let long = listed_length [] provenances in omega (arith, long)

-- what is listed stays
pub origins-kept : (listed : List (List Origin)) (provenances : List Provenance) (k : ℕ) → k < length listed → origins_at (fold with_origins_of listed provenances) k ≡ origins_at listed k
origins-kept listed [] k h = refl
origins-kept listed (provenance ∷ provenances) k h =
    origins-kept (with_origins_of listed provenance) provenances k (let more = length-append listed (origins_of listed provenance ∷ []) in omega (arith, h, more))
    ∙ get_or-append listed (origins_of listed provenance ∷ []) [] k h

-- an earlier provenance's with one provenance more
pub origins_at-earlier : (provenances : List Provenance) (provenance : Provenance) (k : ℕ) → k < length provenances → origins_at (all_origins (provenances ++ provenance ∷ [])) k ≡ origins_at (all_origins provenances) k
origins_at-earlier provenances provenance k h =
    ap (λ listed. origins_at listed k) (all_origins-push provenances provenance)
    ∙ get_or-append (all_origins provenances) (origins_of (all_origins provenances) provenance ∷ []) [] k (let long = length-all_origins provenances in omega (arith, h, long))

-- and its own
pub origins_at-last : (provenances : List Provenance) (provenance : Provenance) → origins_at (all_origins (provenances ++ provenance ∷ [])) (length provenances) ≡ origins_of (all_origins provenances) provenance
origins_at-last provenances provenance =
    ap (λ listed. origins_at listed (length provenances)) (all_origins-push provenances provenance)
    ∙ ap (λ k. get_or (with_origins_of (all_origins provenances) provenance) k []) (sym (length-all_origins provenances))
    ∙ get_or-append_seam (all_origins provenances) (origins_of (all_origins provenances) provenance) [] []

-- ---- each provenance's origins are those of the provenance by all

-- a provenance's origins by two lists that agree below a place, where it goes over provenances below it alone
origins_of-alike : (listed others : List (List Origin)) (place : ℕ) → ((k : ℕ) → k < place → origins_at listed k ≡ origins_at others k) → (provenance : Provenance) → goes_below place provenance ≡ true
    → origins_of listed provenance ≡ origins_of others provenance
origins_of-alike listed others place same (Stated origins) h = refl
origins_of-alike listed others place same (Lent source None) h = refl
origins_of-alike listed others place same (Lent source (Some k)) h = ap (λ ls. ls ++ an_origin source here ∷ []) (same k (ltb-true k place h))
origins_of-alike listed others place same (Field over position) h = ap (changed_origins (extended position)) (same over (ltb-true over place h))
origins_of-alike listed others place same (Returned provenances) h = each provenances.items h
  where
    each : (ks : List ℕ) → list_all (λ k. nat_lt k place) ks ≡ true → flat_map (λ k. changed_origins opened (origins_at listed k)) ks ≡ flat_map (λ k. changed_origins opened (origins_at others k)) ks
    each [] all = refl
    each (k ∷ ks) all =
        let parts = and_parts (nat_lt k place) (list_all (λ j. nat_lt j place) ks) all in
        ap (λ ls. changed_origins opened ls ++ flat_map (λ j. changed_origins opened (origins_at listed j)) ks) (same k (ltb-true k place parts.0))
        ∙ ap (λ ls. changed_origins opened (origins_at others k) ++ ls) (each ks parts.1)

pub origins_at-provenance : (provenances : List Provenance) → are_earlier 0 provenances ≡ true → (i : ℕ) (provenance : Provenance) → slice_get provenances i ≡ Some provenance → origins_at (all_origins provenances) i ≡ origins_of (all_origins provenances) provenance
origins_at-provenance = at_provenance origins_of origins_of-alike

-- what a provenance goes over is earlier
pub earlier_at : (provenances : List Provenance) (place : ℕ) → are_earlier place provenances ≡ true → (i : ℕ) (provenance : Provenance) → slice_get provenances i ≡ Some provenance → goes_below (place + i) provenance ≡ true
earlier_at [] place e i provenance at = cc at
earlier_at (w ∷ provenances) place e zero provenance at =
    let same : w ≡ provenance = cc at in
    let here_at : place ≡ place + 0 = omega arith in
    subst (λ k. goes_below k provenance ≡ true) here_at (subst (λ x. goes_below place x ≡ true) same (and_parts (goes_below place w) (are_earlier (place + 1) provenances) e).0)
earlier_at (w ∷ provenances) place e (suc i) provenance at =
    let next : place + 1 + i ≡ place + suc i = omega arith in
    subst (λ k. goes_below k provenance ≡ true) next (earlier_at provenances (place + 1) (and_parts (goes_below place w) (are_earlier (place + 1) provenances) e).1 i provenance at)
