-- Modules of a saved ledger that are published: where none is there they keep their order, and otherwise they are not linked.
use Rattle.mv_saved_text.proofs.Common.{[], ◌++◌, ◌∙◌, ◌∷◌, ◌≡◌, ◌≤◌, Bool, IsTrue, List, None, ap, append-nil, append_assoc, arith, cond, false, inl, inr, length, refl, subst, sym, and_parts}
use Rattle.mv_saved_text.proofs.Common.{list_any, not, Module, PublishedModule, with_module, with_modules, Refusal, Memory, Phase, all_differ, Offer, tables_in, Links, AreLinked, AreNotJoined}
use Rattle.mv_saved_text.proofs.Common.{IsKeptOut, MayFollow, reason_of, AllPass, FailsAmong, NoLink, NoModule}
use Rattle.mv_move_types.specs.Refusals.{IsRefusedBy}
use Rattle.mv_link_rules.specs.Link.{have_one_name}
use Rattle.mv_ledger_state.proofs.Bundles.Places.{one_name-turns}

-- ---- modules of different names stand in the order in which they came

-- a test that no element passes
none-of : (f : Module → Bool) (qs : List PublishedModule) (p : PublishedModule) (ps : List PublishedModule) → IsTrue (not (list_any f (tables_in (qs ++ p ∷ ps)))) → f p.tables ≡ false
none-of f [] p ps none = grind arith
none-of f (q ∷ qs) p ps none = grind (arith, none-of f qs p ps)

-- a module of a new name takes the last place
last-place : (before : List PublishedModule) (p : PublishedModule) (ps : List PublishedModule) → IsTrue (all_differ have_one_name (tables_in (before ++ p ∷ ps)))
    → with_module before p ≡ before ++ p ∷ []
last-place [] p ps once = refl
last-place (q ∷ qs) p ps once =
    let h = and_parts (not (list_any (have_one_name q.tables) (tables_in (qs ++ p ∷ ps)))) (all_differ have_one_name (tables_in (qs ++ p ∷ ps))) once in
    let apart : have_one_name p.tables q.tables ≡ false = one_name-turns p.tables q.tables ∙ none-of (have_one_name q.tables) qs p ps h.0 in
    ap (λ (b : Bool). cond b (p ∷ qs) (q ∷ with_module qs p)) apart ∙ ap (λ z. q ∷ z) (last-place qs p ps h.1)

-- so do those after it
all-last : (before rest : List PublishedModule) → IsTrue (all_differ have_one_name (tables_in (before ++ rest))) → with_modules before rest ≡ before ++ rest
all-last before [] once = sym (append-nil before)
all-last before (p ∷ ps) once =
    let same : (before ++ p ∷ []) ++ ps ≡ before ++ p ∷ ps = append_assoc before (p ∷ []) ps in
    ap (λ z. with_modules z ps) (last-place before p ps once)
    ∙ all-last (before ++ p ∷ []) ps (subst (λ z. IsTrue (all_differ have_one_name (tables_in z))) (sym same) once)
    ∙ same

-- where none is there, modules that are linked may join
may-begin : (ps : List PublishedModule) → AreLinked ps → MayFollow None [] ps
may-begin ps linked = record { sent = tt; once = linked.once; compatible = refl; links = subst (λ z. Links (tables_in z)) (sym (all-last [] ps linked.once)) linked.links }

-- those that join are all
pub all-there : (ps : List PublishedModule) → MayFollow None [] ps → with_modules [] ps ≡ ps
all-there ps join = all-last [] ps join.once

-- ---- why modules do not join

pub not-passed : (offers : List Offer) (e : Refusal) → IsRefusedBy (FailsAmong offers) e → AreNotJoined offers (reason_of NoModule e)
not-passed offers (Phase phase) refused = (phase, refused)
not-passed offers Memory refused = tt

-- modules that do not join where none is there are not linked, since there is room for them
pub not-linked : (offers : List Offer) (ps : List PublishedModule) (e : Refusal) → AllPass offers ps → length ps ≤ 4096 → IsKeptOut None [] ps e → AreNotJoined offers (reason_of NoLink e)
not-linked offers ps (Phase phase) passed few (inl out) = (ps, passed, λ linked. out.1 (may-begin ps linked))
not-linked offers ps (Phase phase) passed few (inr out) = absurd (out.2 (subst (λ (qs : List PublishedModule). length qs ≤ 4096) (sym (all-there ps out.1)) few))
not-linked offers ps Memory passed few out = tt
