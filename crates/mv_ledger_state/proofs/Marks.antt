-- What is held at the marks of open blocks.
use Rattle.std.proofs.Common.{[], ◌++◌, ◌∙◌, ◌∷◌, ◌≡◌, ◌≤◌, ◌+◌, ◌-◌, List, ap, ap₂, arith, drop, length, map, refl, sym, subst, suc, zero, ℕ, length-append}
use Rattle.std.proofs.Common.{◌⊎◌, inl, inr}
use Rattle.std.proofs.lemmas.Bool.{true≢false}
use Rattle.std.proofs.lemmas.List.{map-append}
use Rattle.std.proofs.lemmas.Option.{slice_get-get_or}
use Rattle.std.specs.Option.{option_or}
use Rattle.std.specs.Prelude.{◌<◌, Err, None, Ok, OnOk, Option, Result, Some, get_or, slice_get, slice_set, true, unwrap_or}
use Rattle.std.specs.List.{AllByRecursion}
use Rattle.std.specs.Vec.{vec_capacity, vec_len}
use Rattle.std.specs.declared.alloc.Global.{Global}
use Rattle.std.specs.declared.vec.Vec.{Vec}
use Rattle.mv_undo.specs.Undo.{undone, AreMarks}
use Rattle.mv_undo.proofs.Lasts.{last-same, last-some}
use Rattle.mv_undo.proofs.Undoing.{undone-last, undone-none, AreMarks-begun, AreMarks-more, AreMarks-back, AreMarks-before, AreMarks-last, all-append, all-before, all-behind}
use Rattle.mv_machine.specs.declared.Tally.{Tally}
use Rattle.mv_move_types.specs.Published.{PublishedModule}
use Rattle.mv_ledger_state.specs.View.{HeldModules, IsTalliedStore}
use Rattle.mv_ledger_state.specs.Blocks.{but_last, tally_back, first_of, held_at, held_in, counts_at, is_open, AreHeld, Ascend, CanNote}
use Rattle.mv_ledger_state.specs.declared.blocks.TallyBefore.{TallyBefore}
use Rattle.mv_ledger_state.specs.declared.blocks.TallyBefore.TheVariants.{Counted}
use Rattle.mv_ledger_state.specs.declared.blocks.Mark.{Mark}
use Rattle.mv_ledger_state.specs.declared.blocks.Blocks.{Blocks}

-- what is held at a mark, where these modules are there after it
abbrev pub held_one : List TallyBefore → Mark → List PublishedModule → List (List Tally) → HeldModules
held_one noted m modules tallies = record { modules = unwrap_or m.store modules; tallies = undone tally_back (drop m.noted noted) tallies }

first-append : (ms ns : List Mark) (modules : List PublishedModule) → first_of (ms ++ ns) modules ≡ first_of ms (first_of ns modules)
first-append [] ns modules = refl
first-append (m ∷ ms) ns modules = ap (unwrap_or m.store) (first-append ms ns modules)

-- older marks have the modules of newer ones
pub held-append : (noted : List TallyBefore) (ms ns : List Mark) (modules : List PublishedModule) (tallies : List (List Tally))
    → held_at noted (ms ++ ns) modules tallies ≡ held_at noted ms (first_of ns modules) tallies ++ held_at noted ns modules tallies
held-append noted [] ns modules tallies = refl
held-append noted (m ∷ ms) ns modules tallies =
    ap₂ (λ (ps : List PublishedModule) (hs : List HeldModules). held_one noted m ps tallies ∷ hs) (first-append ms ns modules) (held-append noted ms ns modules tallies)

pub held-last : (noted : List TallyBefore) (ms : List Mark) (m : Mark) (modules : List PublishedModule) (tallies : List (List Tally))
    → held_at noted (ms ++ m ∷ []) modules tallies ≡ held_at noted ms (unwrap_or m.store modules) tallies ++ held_one noted m modules tallies ∷ []
held-last noted ms m modules tallies = held-append noted ms (m ∷ []) modules tallies

-- the same tallies at each mark
pub held-same : (noted now : List TallyBefore) (ms : List Mark) (count : ℕ) (modules : List PublishedModule) (old new : List (List Tally)) → AreMarks (counts_at ms) count
    → ((k : ℕ) → k ≤ count → undone tally_back (drop k now) new ≡ undone tally_back (drop k noted) old) → held_at now ms modules new ≡ held_at noted ms modules old
held-same noted now [] count modules old new a f = refl
held-same noted now (m ∷ ms) count modules old new a f =
    ap₂ (λ (tss : List (List Tally)) (hs : List HeldModules). record { modules = first_of (m ∷ ms) modules; tallies = tss } ∷ hs) (f m.noted a.0) (held-same noted now ms count modules old new a.2 f)

-- a change that is noted
pub held-noted : (noted : List TallyBefore) (u : TallyBefore) (ms : List Mark) (modules : List PublishedModule) (old new : List (List Tally)) → AreMarks (counts_at ms) (length noted)
    → tally_back u new ≡ old → held_at (noted ++ u ∷ []) ms modules new ≡ held_at noted ms modules old
held-noted noted u ms modules old new a e =
    held-same noted (noted ++ u ∷ []) ms (length noted) modules old new a (λ k le. undone-last tally_back noted u k new le ∙ ap (undone tally_back (drop k noted)) e)

pub ascend-noted : (noted : List TallyBefore) (u : TallyBefore) (ms : List Mark) → AreMarks (counts_at ms) (length noted) → AreMarks (counts_at ms) (length (noted ++ u ∷ []))
ascend-noted noted u ms a = AreMarks-more (counts_at ms) (length noted) (length (noted ++ u ∷ [])) (omega (arith, length-append noted (u ∷ []))) a

-- a block is begun
pub held-begun : (noted : List TallyBefore) (ms : List Mark) (m : Mark) (modules : List PublishedModule) (tallies : List (List Tally)) → m.store ≡ None → m.noted ≡ length noted
    → held_at noted (ms ++ m ∷ []) modules tallies ≡ held_at noted ms modules tallies ++ record { modules = modules; tallies = tallies } ∷ []
held-begun noted ms m modules tallies none count =
    let own : unwrap_or m.store modules ≡ modules = ap (λ o. unwrap_or o modules) none in
    let le : length noted ≤ m.noted = omega (arith, count) in
    held-last noted ms m modules tallies
    ∙ ap₂ (λ (ps : List PublishedModule) (tss : List (List Tally)). held_at noted ms ps tallies ++ record { modules = ps; tallies = tss } ∷ []) own (undone-none tally_back noted m.noted tallies le)

counts-last : (ms : List Mark) (m : Mark) → counts_at (ms ++ m ∷ []) ≡ counts_at ms ++ m.noted ∷ []
counts-last ms m = map-append (λ (m : Mark). m.noted) ms (m ∷ [])

pub ascend-begun : (ms : List Mark) (m : Mark) (count : ℕ) → m.noted ≡ count → AreMarks (counts_at ms) count → AreMarks (counts_at (ms ++ m ∷ [])) count
ascend-begun ms m count is a = subst (λ ks. AreMarks ks count) (sym (counts-last ms m)) (subst (λ k. AreMarks (counts_at ms ++ k ∷ []) count) (sym is) (AreMarks-begun (counts_at ms) count a))

-- the newest mark
pub last-below : (ms : List Mark) (m : Mark) (count : ℕ) → AreMarks (counts_at (ms ++ m ∷ [])) count → m.noted ≤ count
last-below ms m count a = AreMarks-last (counts_at ms) m.noted count (subst (λ ks. AreMarks ks count) (counts-last ms m) a)

pub ascend-back : (ms : List Mark) (m : Mark) (count : ℕ) → AreMarks (counts_at (ms ++ m ∷ [])) count → AreMarks (counts_at ms) m.noted
ascend-back ms m count a = AreMarks-back (counts_at ms) m.noted count (subst (λ ks. AreMarks ks count) (counts-last ms m) a)

pub ascend-before : (ms : List Mark) (m : Mark) (count : ℕ) → AreMarks (counts_at (ms ++ m ∷ [])) count → AreMarks (counts_at ms) count
ascend-before ms m count a = AreMarks-before (counts_at ms) m.noted count (subst (λ ks. AreMarks ks count) (counts-last ms m) a)

-- another mark in its place
pub ascend-in_place : (ms : List Mark) (m n : Mark) (count : ℕ) → n.noted ≡ m.noted → AreMarks (counts_at (ms ++ m ∷ [])) count → AreMarks (counts_at (ms ++ n ∷ [])) count
ascend-in_place ms m n count is a = subst (λ ks. AreMarks ks count) (counts-in_place ms m n is) a
  where
    counts-in_place : (ms : List Mark) (m n : Mark) → n.noted ≡ m.noted → counts_at (ms ++ m ∷ []) ≡ counts_at (ms ++ n ∷ [])
    counts-in_place ms m n is = counts-last ms m ∙ ap (λ k. counts_at ms ++ k ∷ []) (sym is) ∙ sym (counts-last ms n)

-- modules of the newest mark's own
pub held-in_place : (noted : List TallyBefore) (ms : List Mark) (m n : Mark) (now then : List PublishedModule) (tallies : List (List Tally)) → n.noted ≡ m.noted
    → unwrap_or n.store now ≡ unwrap_or m.store then → held_at noted (ms ++ n ∷ []) now tallies ≡ held_at noted (ms ++ m ∷ []) then tallies
held-in_place noted ms m n now then tallies is same =
    held-last noted ms n now tallies
    ∙ ap₂ (λ (ps : List PublishedModule) (k : ℕ). held_at noted ms ps tallies ++ record { modules = ps; tallies = undone tally_back (drop k noted) tallies } ∷ []) same is
    ∙ sym (held-last noted ms m then tallies)

-- the tallies are taken back to the newest mark
pub held-back : (noted now : List TallyBefore) (ms : List Mark) (m : Mark) (modules : List PublishedModule) (old new : List (List Tally)) (count : ℕ) → AreMarks (counts_at (ms ++ m ∷ [])) count
    → length now ≡ m.noted → ((k : ℕ) → k ≤ m.noted → undone tally_back (drop k now) new ≡ undone tally_back (drop k noted) old)
    → held_at noted (ms ++ m ∷ []) modules old ≡ held_at now ms (unwrap_or m.store modules) new ++ record { modules = unwrap_or m.store modules; tallies = new } ∷ []
held-back noted now ms m modules old new count a left same =
    let le : m.noted ≤ m.noted = omega arith in
    let few : length now ≤ m.noted = omega (arith, left) in
    held-last noted ms m modules old
    ∙ sym (ap₂ (λ (hs : List HeldModules) (tss : List (List Tally)). hs ++ record { modules = unwrap_or m.store modules; tallies = tss } ∷ [])
    (held-same noted now ms m.noted (unwrap_or m.store modules) old new (ascend-back ms m count a) same) (sym (undone-none tally_back now m.noted new few) ∙ same m.noted le))

-- what holds of each
pub each-begun : (xs : List HeldModules) (modules : List PublishedModule) (tallies : List (List Tally)) → AllByRecursion (λ (h : HeldModules). IsTalliedStore h.modules h.tallies) xs
    → IsTalliedStore modules tallies → AllByRecursion (λ (h : HeldModules). IsTalliedStore h.modules h.tallies) (xs ++ record { modules = modules; tallies = tallies } ∷ [])
each-begun xs modules tallies all held = all-append (λ (h : HeldModules). IsTalliedStore h.modules h.tallies) xs _ all (held, tt)

pub each-back : (xs : List HeldModules) (h : HeldModules) → AllByRecursion (λ (h : HeldModules). IsTalliedStore h.modules h.tallies) (xs ++ h ∷ [])
    → IsTalliedStore h.modules h.tallies × AllByRecursion (λ (h : HeldModules). IsTalliedStore h.modules h.tallies) xs
each-back xs h all =
    ((all-behind (λ (h : HeldModules). IsTalliedStore h.modules h.tallies) xs (h ∷ []) all).0, all-before (λ (h : HeldModules). IsTalliedStore h.modules h.tallies) xs (h ∷ []) all)

-- no mark, nothing held
pub none-held-at : (noted : List TallyBefore) (ms : List Mark) (modules : List PublishedModule) (tallies : List (List Tally)) → held_at noted ms modules tallies ≡ [] → ms ≡ []
none-held-at noted [] modules tallies e = refl
none-held-at noted (m ∷ ms) modules tallies e = absurd (let no : ⊥ = cc in no)

-- but the last
pub but_last-append : {X : Type 0} (xs : List X) (x : X) → but_last (xs ++ x ∷ []) ≡ xs
but_last-append [] x = refl
but_last-append (y ∷ []) x = refl
but_last-append (y ∷ z ∷ zs) x = ap (λ ys. y ∷ ys) (but_last-append (z ∷ zs) x)

-- ---- where no block is open

pub still-none : (b : Blocks) (modules : List PublishedModule) (old new : List (List Tally)) → held_in b modules old ≡ [] → held_in b modules new ≡ []
still-none b modules old new e = subst (λ (ms : List Mark). held_at b.noted.items ms modules new ≡ []) (sym (none-held-at b.noted.items b.marks.items modules old e)) refl

pub none-held-still : (b : Blocks) (modules : List PublishedModule) (old new : List (List Tally)) → AreHeld b modules old → held_in b modules old ≡ [] → AreHeld b modules new
none-held-still b modules old new h e = record {
  ascend = h.ascend;
  each = subst (λ (hs : List HeldModules). AllByRecursion (λ (h : HeldModules). IsTalliedStore h.modules h.tallies) hs) (sym (still-none b modules old new e)) tt;
  room = h.room;
}

-- ---- the modules of a mark's own, or those of the next newer one

pub or-is : {X : Type 0} (a b : Option X) (x : X) → unwrap_or (option_or a b) x ≡ unwrap_or a (unwrap_or b x)
or-is None b x = refl
or-is (Some y) b x = refl

-- ---- the newest mark

newest-at : (ms : List Mark) (n : ℕ) (m : Mark) → length ms ≡ suc n → slice_get ms n ≡ Some m → (older : List Mark) × (ms ≡ older ++ m ∷ [])
newest-at [] n m long at = absurd (let no : ⊥ = cc in no)
newest-at (x ∷ []) zero m long at = ([], ap (λ y. y ∷ []) (let same : x ≡ m = cc in same))
newest-at (x ∷ y ∷ zs) zero m long at = absurd (omega (arith, long))
newest-at (x ∷ xs) (suc n) m long at = let r = newest-at xs n m (omega (arith, long)) at in (x ∷ r.0, ap (λ ys. x ∷ ys) r.1)

-- its modules are those that are held there
pub newest-modules : (noted : List TallyBefore) (ms : List Mark) (m : Mark) (modules : List PublishedModule) (tallies : List (List Tally)) → slice_get ms (length ms - 1) ≡ Some m
    → (older : List HeldModules) (old : HeldModules) → held_at noted ms modules tallies ≡ older ++ old ∷ [] → old.modules ≡ unwrap_or m.store modules
newest-modules noted [] m modules tallies at older old e = absurd (let no : ⊥ = cc in no)
newest-modules noted (x ∷ xs) m modules tallies at older old e =
    let n : length (x ∷ xs) - 1 ≡ length xs = omega arith in
    let s = newest-at (x ∷ xs) (length xs) m refl (ap (slice_get (x ∷ xs)) (sym n) ∙ at) in
    ap (λ (h : HeldModules). h.modules)
    (last-same older (held_at noted s.0 (unwrap_or m.store modules) tallies) old (held_one noted m modules tallies)
    (sym e ∙ ap (λ (ns : List Mark). held_at noted ns modules tallies) s.1 ∙ held-last noted s.0 m modules tallies))

-- where there is none, nothing is held
pub none-newest : (noted : List TallyBefore) (ms : List Mark) (modules : List PublishedModule) (tallies : List (List Tally)) → slice_get ms (length ms - 1) ≡ None
    → (older : List HeldModules) (old : HeldModules) → held_at noted ms modules tallies ≡ older ++ old ∷ [] → ⊥
none-newest noted [] modules tallies at older old e = last-some older old (sym e)
none-newest noted (x ∷ xs) modules tallies at older old e =
    let n : length (x ∷ xs) - 1 ≡ length xs = omega arith in
    let there = slice_get-get_or (x ∷ xs) (length xs) x (omega arith) in
    let one : None ≡ Some (get_or (x ∷ xs) (length xs) x) = sym at ∙ ap (slice_get (x ∷ xs)) n ∙ there in
    cc

-- ---- what follows from a result

pub on_ok-so : {T E P Q : Type 0} (r : Result T E) → (P → Q) → OnOk r P → OnOk r Q
on_ok-so (Ok x) f p = f p
on_ok-so (Err e) f p = p

-- ---- what is written at a place, and put back

pub set-back : {X : Type 0} (xs : List X) (p : ℕ) (x d : X) → p < length xs → slice_set (slice_set xs p x) p (get_or xs p d) ≡ xs
set-back [] p x d le = absurd (omega (arith, le))
set-back (z ∷ zs) zero x d le = refl
set-back (z ∷ zs) (suc p) x d le = ap (λ ys. z ∷ ys) (set-back zs p x d (omega (arith, le)))

pub there-is : {X Y : Type 0} (f : X → Y) (xs : List X) (p : ℕ) (x : X) → p < length xs → x ≡ get_or xs p x → slice_get (map f xs) p ≡ Some (f x)
there-is f [] p x le e = absurd (omega (arith, le))
there-is f (z ∷ zs) zero x le e = ap (λ y. Some (f y)) (sym e)
there-is f (z ∷ zs) (suc p) x le e = there-is f zs p x (omega (arith, le)) e

-- an item that is there, set as it was before
pub set-same : {X : Type 0} (xs : List X) (p : ℕ) (x : X) → slice_get xs p ≡ Some x → slice_set xs p x ≡ xs
set-same [] p x e = refl
set-same (z ∷ zs) zero x e = ap (λ y. y ∷ zs) (sym (let same : z ≡ x = cc in same))
set-same (z ∷ zs) (suc p) x e = ap (λ ys. z ∷ ys) (set-same zs p x e)

-- a list of a list: one of its items is changed, and that is taken back
pub counted-back : (tss : List (List Tally)) (place index : ℕ) (new old : List Tally) (was : Tally) → slice_get tss place ≡ Some old → slice_set new index was ≡ old
    → tally_back (Counted place index was) (slice_set tss place new) ≡ tss
counted-back [] place index new old was there e = absurd (let no : ⊥ = cc in no)
counted-back (ts ∷ tss) zero index new old was there e = ap (λ us. us ∷ tss) (e ∙ sym (let same : ts ≡ old = cc in same))
counted-back (ts ∷ tss) (suc place) index new old was there e = ap (λ uss. ts ∷ uss) (counted-back tss place index new old was there e)

-- ---- room

pub can-one : (b : Blocks) (count : ℕ) → 0 < count → CanNote count b → CanNote 1 b
can-one b count more can here = omega (arith, more, can here)

pub can-rest : (old new : Blocks) (count rest : ℕ) → count ≡ suc rest → new.marks ≡ old.marks → vec_len new.noted ≤ vec_len old.noted + 1 → vec_capacity new.noted ≡ vec_capacity old.noted
    → CanNote count old → CanNote rest new
can-rest old new count rest is same len capacity can here =
    let was : is_open old.marks.items ≡ true = ap (λ (v : Vec Mark Global). is_open v.items) (sym same) ∙ here in
    omega (arith, is, len, capacity, can was)

-- one entry more of a run
pub notes-more : (old new : Blocks) (count i : ℕ) → new.marks ≡ old.marks → vec_len new.noted ≤ vec_len old.noted + 1 → vec_capacity new.noted ≡ vec_capacity old.noted
    → (is_open old.marks.items ≡ true → vec_len old.noted + count ≤ vec_capacity old.noted + i) → is_open new.marks.items ≡ true → vec_len new.noted + count ≤ vec_capacity new.noted + (i + 1)
notes-more old new count i same len capacity notes here =
    let was : is_open old.marks.items ≡ true = ap (λ (v : Vec Mark Global). is_open v.items) (sym same) ∙ here in
    omega (arith, len, capacity, notes was)

-- ---- the invariant

-- a run can be noted
pub can-count : (b : Blocks) (modules : List PublishedModule) (tallies : List (List Tally)) (count : ℕ) → AreHeld b modules tallies → (held_in b modules tallies ≡ []) ⊎ (count ≤ b.room) → CanNote count b
can-count b modules tallies count h (inl none) here = absurd (true≢false (sym here ∙ ap is_open (none-held-at b.noted.items b.marks.items modules tallies none)))
can-count b modules tallies count h (inr room) here = omega (arith, h.room, room)

-- what leaves what is held at each mark
pub held-after : (old new : Blocks) (modules now : List PublishedModule) (before after : List (List Tally)) → AreHeld old modules before → Ascend new
    → vec_len new.noted + new.room ≤ vec_capacity new.noted → held_in new now after ≡ held_in old modules before → AreHeld new now after
held-after old new modules now before after h a fits e = record {
  ascend = a;
  each = subst (λ (hs : List HeldModules). AllByRecursion (λ (h : HeldModules). IsTalliedStore h.modules h.tallies) hs) (sym e) h.each;
  room = fits;
}

-- the same marks, over as many changes
pub ascend-same : (old new : Blocks) → counts_at new.marks.items ≡ counts_at old.marks.items → length new.noted.items ≡ length old.noted.items → Ascend old → Ascend new
ascend-same old new counts long a = subst (λ (ks : List ℕ). AreMarks ks (length new.noted.items)) (sym counts) (subst (λ k. AreMarks (counts_at old.marks.items) k) (sym long) a)

pub can-same : (old new : Blocks) (count : ℕ) → is_open new.marks.items ≡ is_open old.marks.items → vec_len new.noted ≡ vec_len old.noted → vec_capacity new.noted ≡ vec_capacity old.noted → CanNote count old
    → CanNote count new
can-same old new count opens len capacity can here = omega (arith, len, capacity, can (sym opens ∙ here))

-- room was taken
pub held-reserved : (old new : Blocks) (modules : List PublishedModule) (tallies : List (List Tally)) → new.noted.items ≡ old.noted.items → new.marks ≡ old.marks
    → held_in new modules tallies ≡ held_in old modules tallies
held-reserved old new modules tallies noted marks =
    ap₂ (λ (us : List TallyBefore) (v : Vec Mark Global). held_at us v.items modules tallies) noted marks

-- the newest block is taken back
module _ (b : Blocks) (ms : List Mark) (m : Mark) (modules : List PublishedModule) (tallies : List (List Tally)) (h : AreHeld b modules tallies)
    (is : b.marks.items ≡ ms ++ m ∷ []) where
  pub newest-below : m.noted ≤ length b.noted.items
  newest-below = last-below ms m (length b.noted.items) (subst (λ (ns : List Mark). AreMarks (counts_at ns) (length b.noted.items)) is h.ascend)

  module _ (after : List (List Tally)) (now : List TallyBefore) (left : length now ≡ m.noted) (same : (k : ℕ) → k ≤ m.noted → undone tally_back (drop k now) after ≡ undone tally_back (drop k b.noted.items) tallies) where
    pub back-is : held_in b modules tallies ≡ held_at now ms (unwrap_or m.store modules) after ++ record { modules = unwrap_or m.store modules; tallies = after } ∷ []
    back-is =
        ap (λ (ns : List Mark). held_at b.noted.items ns modules tallies) is
        ∙ held-back b.noted.items now ms m modules tallies after (length b.noted.items) (subst (λ (ns : List Mark). AreMarks (counts_at ns) (length b.noted.items)) is h.ascend) left same

    back-each : IsTalliedStore (unwrap_or m.store modules) after
        × AllByRecursion (λ (h : HeldModules). IsTalliedStore h.modules h.tallies) (held_at now ms (unwrap_or m.store modules) after)
    back-each = each-back (held_at now ms (unwrap_or m.store modules) after) (record { modules = unwrap_or m.store modules; tallies = after })
        (subst (λ (hs : List HeldModules). AllByRecursion (λ (h : HeldModules). IsTalliedStore h.modules h.tallies) hs) back-is h.each)

    back-ascend : AreMarks (counts_at ms) (length now)
    back-ascend =
        subst (λ k. AreMarks (counts_at ms) k) (sym left)
        (ascend-back ms m (length b.noted.items) (subst (λ (ns : List Mark). AreMarks (counts_at ns) (length b.noted.items)) is h.ascend))

    -- both parts of the invariant
    pub back-held : (store : List PublishedModule) (new : Blocks) → store ≡ unwrap_or m.store modules → new.noted.items ≡ now → new.marks.items ≡ ms
        → vec_len new.noted + new.room ≤ vec_capacity new.noted → IsTalliedStore store after × AreHeld new store after
    back-held store new store_is noted marks fits =
        let each = subst (λ (ps : List PublishedModule). IsTalliedStore ps after × AllByRecursion (λ (h : HeldModules). IsTalliedStore h.modules h.tallies) (held_at now ms ps after)) (sym store_is) back-each in
        let same_held : held_in new store after ≡ held_at now ms store after = ap₂ (λ (us : List TallyBefore) (ns : List Mark). held_at us ns store after) noted marks in (
          each.0,
          record {
            ascend = subst (λ (ns : List Mark). AreMarks (counts_at ns) (length new.noted.items)) (sym marks) (subst (λ (us : List TallyBefore). AreMarks (counts_at ms) (length us)) (sym noted) back-ascend);
            each = subst (λ (hs : List HeldModules). AllByRecursion (λ (h : HeldModules). IsTalliedStore h.modules h.tallies) hs) (sym same_held) each.1;
            room = fits;
          },
        )

    pub back-marks : (store : List PublishedModule) (new : Blocks) → store ≡ unwrap_or m.store modules → new.noted.items ≡ now → new.marks.items ≡ ms
        → held_in b modules tallies ≡ held_in new store after ++ record { modules = store; tallies = after } ∷ []
    back-marks store new store_is noted marks =
        back-is
        ∙ ap₂ (λ (us : List TallyBefore) (ns : List Mark). held_at us ns (unwrap_or m.store modules) after ++ record { modules = unwrap_or m.store modules; tallies = after } ∷ []) (sym noted) (sym marks)
        ∙ ap (λ (ps : List PublishedModule). held_in new ps after ++ record { modules = ps; tallies = after } ∷ []) (sym store_is)

  -- the newest block is closed, and its modules are handed on
  module _ (handed : Blocks) (e : held_in handed modules tallies ≡ held_at b.noted.items ms (unwrap_or m.store modules) tallies) where
    pub kept-marks : held_in b modules tallies ≡ held_in handed modules tallies ++ held_one b.noted.items m modules tallies ∷ []
    kept-marks =
        ap (λ (ns : List Mark). held_at b.noted.items ns modules tallies) is ∙ held-last b.noted.items ms m modules tallies
        ∙ ap (λ (hs : List HeldModules). hs ++ held_one b.noted.items m modules tallies ∷ []) (sym e)

    pub kept-held : Ascend handed → vec_len handed.noted + handed.room ≤ vec_capacity handed.noted → AreHeld handed modules tallies
    kept-held a fits = record {
      ascend = a;
      each = (each-back (held_in handed modules tallies) (held_one b.noted.items m modules tallies)
          (subst (λ (hs : List HeldModules). AllByRecursion (λ (h : HeldModules). IsTalliedStore h.modules h.tallies) hs) kept-marks h.each)).1;
      room = fits;
    }

  pub newest-before : AreMarks (counts_at ms) (length b.noted.items)
  newest-before = ascend-before ms m (length b.noted.items) (subst (λ (ns : List Mark). AreMarks (counts_at ns) (length b.noted.items)) is h.ascend)
