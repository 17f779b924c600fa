-- Changes of storage that are noted and taken back.
use Rattle.mv_storage.proofs.Common.{[], ℕ, ⊎_elim, ◌++◌, ◌∙◌, ◌∷◌, ◌≡◌, ◌≤◌, ◌⊎◌, List, None, Option, Some, ap, arith, cond, false, inl, inr, length, refl, subst, sym, true, get, IsOrdered, Bool, Key, FlatEntry}
use Rattle.mv_storage.proofs.Common.{same_key, key_cmp, words_under, Ascends, slot_at, value_at, is_changed, ShowsSame, IsSound, IsResolving, IsTracked}
use Rattle.mv_storage.proofs.Common.{layer_at, of_layer, option_and_then, slice_get, slice_index_or, with_words, without_words, Places, Slot, Committed, Current}
use Rattle.std.proofs.Common.{◌+◌, drop, length-append}
use Rattle.std.specs.Prelude.{◌&&◌, nat_lt}
use Rattle.mv_storage.specs.Map.{Layers, written, written_if}
use Rattle.std.specs.List.{AllByRecursion}
use Rattle.std.proofs.lemmas.Bool.{cases_Bool}
use Rattle.mv_undo.specs.Undo.{undone, marks_of, AreMarks}
use Rattle.mv_undo.proofs.Lasts.{last-same, last-some}
use Rattle.mv_undo.proofs.Undoing.{marks-noted, marks-append-of, marks-same, undone-none, back-same, AreMarks-back, AreMarks-more, all-append, all-before, all-behind}
use Rattle.mv_storage.specs.Slots.{keeps_place, ArePlaced, AreKept, IsForgotten, IsPinned, IsRemembered, KeepsPinned, IsResolved, ShowsAt}
use Rattle.mv_storage.specs.Work.{IsAtWork}
use Rattle.mv_storage.specs.declared.slots.Work.{Work}
use Rattle.mv_storage.specs.declared.overlay.Overlay.{Overlay}
use Rattle.mv_storage.specs.Blocks.{value_before, is_absent, with_value, back, contents, AreFresh, AreClearing, IsUndoable, IsNoted}
use Rattle.mv_storage.specs.declared.blocks.Undone.{Undone}
use Rattle.mv_storage.proofs.Keys.{same_key-to}
use Rattle.mv_storage.proofs.Maps.{words_under-with_words, words_under-without_words, Ascends-with_words, Ascends-without_words, entries_from_words}
use Rattle.mv_storage.proofs.PlaceLemmas.{HasAt}
use Rattle.mv_storage.proofs.Shown.{shown_of, words_under-shown, shown-same, shown-with, shown-without, layers-same, Ascends-shown}
use Rattle.mv_storage.proofs.Steps.{layers-equal, reads, slot-read}

-- ---- a value under one key, or none

pub words_under-with_value : (h : List FlatEntry) (k : Key) (v : Option (List ℕ)) (q : Key) → Ascends h → words_under (with_value h k v) q ≡ cond (same_key k q) v (words_under h q)
words_under-with_value h k None q s = words_under-without_words h k q s
words_under-with_value h k (Some w) q s = words_under-with_words h k w q

pub Ascends-with_value : (h : List FlatEntry) (k : Key) (v : Option (List ℕ)) → Ascends h → Ascends (with_value h k v)
Ascends-with_value h k None s = Ascends-without_words h k s
Ascends-with_value h k (Some w) s = Ascends-with_words h k w s

-- what a key had, put back, is what was there
with_value-back : (h : List FlatEntry) (k : Key) (v : Option (List ℕ)) → Ascends h → with_value (with_value h k v) k (words_under h k) ≡ h
with_value-back h k v s =
    let a = Ascends-with_value h k v s in
    entries_from_words (with_value (with_value h k v) k (words_under h k)) h (Ascends-with_value (with_value h k v) k (words_under h k) a) s
    (λ q. words_under-with_value (with_value h k v) k (words_under h k) q a ∙ by q)
  where
    by : (q : Key) → cond (same_key k q) (words_under h k) (words_under (with_value h k v) q) ≡ words_under h q
    by q =
        ⊎_elim
        (λ (t : same_key k q ≡ true). rw t (ap (words_under h) (same_key-to k q t)))
        (λ (f : same_key k q ≡ false). let e : words_under (with_value h k v) q ≡ cond (same_key k q) v (words_under h q) = words_under-with_value h k v q s in rw (f, e, f) refl)
        (cases_Bool (same_key k q))

-- a value is committed at one key, or none
pub shown-value : (m n : Places) (k : Key) (v : Option (List ℕ)) → IsOrdered key_cmp m.tree → IsOrdered key_cmp n.tree → ShowsAt Committed k v m n
    → shown_of Committed n ≡ with_value (shown_of Committed m) k v
shown-value m n k None s t h = shown-without Committed m n k s t h
shown-value m n k (Some w) s t h = shown-with Committed m n k w s t h

-- ---- the keys of changes keep their places

all-weaker : {X : Type 0} (P Q : X → Type 0) (xs : List X) → ((x : X) → P x → Q x) → AllByRecursion P xs → AllByRecursion Q xs
all-weaker P Q [] f a = tt
all-weaker P Q (x ∷ xs) f a = (f x a.0, all-weaker P Q xs f a.1)

pub keeps-undoable : (m n : Places) (us : List Undone) → KeepsPinned m n → IsUndoable m us → IsUndoable n us
keeps-undoable m n us keeps a = record {
  placed = all-weaker (λ u. IsPinned m u.key u.place) (λ u. IsPinned n u.key u.place) us (λ u h. keeps u.key u.place h) a.placed;
  fresh = a.fresh;
}

-- a key that keeps no place is in no change
fresh-noted : (m : Places) (us : List Undone) (u : Undone) → AllByRecursion (λ w. IsPinned m w.key w.place) us → AreFresh us → (is_absent u.before ≡ true → keeps_place (slot_at m u.key) ≡ false)
    → AreFresh (us ++ u ∷ [])
fresh-noted m [] u p f h = (tt, tt)
fresh-noted m (x ∷ xs) u p f h =
    (all-append (λ w. is_absent w.before ≡ true → same_key w.key x.key ≡ false) xs (u ∷ []) f.0 (apart, tt), fresh-noted m xs u p.1 f.1 h)
  where
    apart : is_absent u.before ≡ true → same_key u.key x.key ≡ false
    apart a =
        ⊎_elim
        (λ (e : same_key u.key x.key ≡ true).
        let had : keeps_place (slot_at m x.key) ≡ true = p.0.1 in
        let both : keeps_place (slot_at m u.key) ≡ keeps_place (slot_at m x.key) = ap (λ k. keeps_place (slot_at m k)) (same_key-to u.key x.key e) in
        let no : false ≡ true = sym (h a) ∙ both ∙ had in
        cc)
        (λ (e : same_key u.key x.key ≡ false). e)
        (cases_Bool (same_key u.key x.key))

undoable-noted : (m n : Places) (us : List Undone) (u : Undone) → IsUndoable m us → KeepsPinned m n → IsPinned n u.key u.place → (is_absent u.before ≡ true → keeps_place (slot_at m u.key) ≡ false)
    → IsUndoable n (us ++ u ∷ [])
undoable-noted m n us u a keeps here h = record {
  placed = all-append (λ w. IsPinned n w.key w.place) us (u ∷ []) (keeps-undoable m n us keeps a).placed (here, tt);
  fresh = fresh-noted m us u a.placed a.fresh h;
}

fresh-before : (us : List Undone) (u : Undone) → AreFresh (us ++ u ∷ []) → AreFresh us
fresh-before [] u f = tt
fresh-before (x ∷ xs) u f = (all-before (λ w. is_absent w.before ≡ true → same_key w.key x.key ≡ false) xs (u ∷ []) f.0, fresh-before xs u f.1)

-- the newest change can be taken back
pub placed-last : (m : Places) (us : List Undone) (u : Undone) → IsUndoable m (us ++ u ∷ []) → IsPinned m u.key u.place
placed-last m us u a = (all-behind (λ w. IsPinned m w.key w.place) us (u ∷ []) a.placed).0

placed-back : (m n : Places) (us : List Undone) (u : Undone) → IsPinned m u.key u.place → ((q : Key) (place : ℕ) → same_key u.key q ≡ false → IsPinned m q place → IsPinned n q place)
    → (is_absent u.before ≡ false → IsPinned n u.key u.place) → AreFresh (us ++ u ∷ []) → AllByRecursion (λ w. IsPinned m w.key w.place) us → AllByRecursion (λ w. IsPinned n w.key w.place) us
placed-back m n [] u at o k f p = tt
placed-back m n (x ∷ xs) u at o k f p = (one, placed-back m n xs u at o k f.1 p.1)
  where
    last : is_absent u.before ≡ true → same_key u.key x.key ≡ false
    last = (all-behind (λ w. is_absent w.before ≡ true → same_key w.key x.key ≡ false) xs (u ∷ []) f.0).0

    moved : same_key u.key x.key ≡ true → IsPinned n u.key u.place → IsPinned n x.key x.place
    moved e h =
        let key : u.key ≡ x.key = same_key-to u.key x.key e in
        let both : Some u.place ≡ Some x.place = sym at.0 ∙ ap (get key_cmp m.tree) key ∙ p.0.0 in
        let place : u.place ≡ x.place = cc in
        subst (λ y. IsPinned n y x.place) key (subst (IsPinned n u.key) place h)

    one : IsPinned n x.key x.place
    one =
        ⊎_elim
        (λ (e : same_key u.key x.key ≡ true).
        ⊎_elim
        (λ (a : is_absent u.before ≡ true). let no : true ≡ false = sym e ∙ last a in absurd (let n : ⊥ = cc in n))
        (λ (a : is_absent u.before ≡ false). moved e (k a))
        (cases_Bool (is_absent u.before)))
        (λ (e : same_key u.key x.key ≡ false). o x.key x.place e p.0)
        (cases_Bool (same_key u.key x.key))

pub undoable-back : (m n : Places) (us : List Undone) (u : Undone) → IsUndoable m (us ++ u ∷ []) → ((q : Key) (place : ℕ) → same_key u.key q ≡ false → IsPinned m q place → IsPinned n q place)
    → (is_absent u.before ≡ false → IsPinned n u.key u.place) → IsUndoable n us
undoable-back m n us u a o k = record {
  placed = placed-back m n us u (placed-last m us u a) o k a.fresh (all-before (λ w. IsPinned m w.key w.place) us (u ∷ []) a.placed);
  fresh = fresh-before us u a.fresh;
}

-- one change taken back leaves what was committed at a mark before it
pub committed-back : (m n : Places) (us : List Undone) (u : Undone) (k : ℕ) → IsOrdered key_cmp m.tree → IsOrdered key_cmp n.tree → ShowsAt Committed u.key (value_before u.before) m n → k ≤ length us
    → undone back (drop k us) (shown_of Committed n) ≡ undone back (drop k (us ++ u ∷ [])) (shown_of Committed m)
committed-back m n us u k s t h le = back-same back us u k (shown_of Committed m) (shown_of Committed n) (shown-value m n u.key (value_before u.before) s t h) le

-- ---- what is noted

-- nothing is noted where the same is committed
pub noted-none : (m n : Places) (us : List Undone) → IsOrdered key_cmp m.tree → IsOrdered key_cmp n.tree → IsUndoable m us → KeepsPinned m n → ShowsSame Committed m n → IsNoted m n us us
noted-none m n us s t a keeps same = record {
  undoable = keeps-undoable m n us keeps a;
  more = omega arith;
  marks = λ ms _. ap (marks_of back us ms) (shown-same Committed Committed m n s t same);
}

-- a change is noted with what was committed
pub noted-change : (m n : Places) (us ws : List Undone) (u : Undone) (v : Option (List ℕ)) → IsOrdered key_cmp m.tree → IsOrdered key_cmp n.tree → IsUndoable m us → KeepsPinned m n
    → IsPinned n u.key u.place → (is_absent u.before ≡ true → keeps_place (slot_at m u.key) ≡ false)
    → ShowsAt Committed u.key v m n → value_before u.before ≡ value_at Committed m u.key → ws ≡ us ++ u ∷ [] → IsNoted m n us ws
noted-change m n us ws u v s t a keeps here fresh shows was e = record {
  undoable = subst (IsUndoable n) (sym e) (undoable-noted m n us u a keeps here fresh);
  more = (let count : length ws ≡ length us + 1 = ap length e ∙ length-append us (u ∷ []) in omega (arith, count));
  marks = λ ms marks. ap (λ xs. marks_of back xs ms (shown_of Committed n)) e ∙ marks-noted back us u ms (shown_of Committed m) (shown_of Committed n) marks taken;
}
  where
    had : value_before u.before ≡ words_under (shown_of Committed m) u.key
    had = was ∙ sym (words_under-shown Committed m u.key s)

    taken : back u (shown_of Committed n) ≡ shown_of Committed m
    taken =
        ap (λ h. with_value h u.key (value_before u.before)) (shown-value m n u.key v s t shows)
        ∙ ap (with_value (with_value (shown_of Committed m) u.key v) u.key) had
        ∙ with_value-back (shown_of Committed m) u.key v (Ascends-shown Committed m.slots.items m.tree.entries s)

pub noted-then : (a b c : Places) (us vs ws : List Undone) → IsNoted a b us vs → IsNoted b c vs ws → IsNoted a c us ws
noted-then a b c us vs ws x y = record {
  undoable = y.undoable;
  more = omega (arith, x.more, y.more);
  marks = λ ms h. y.marks ms (AreMarks-more ms (length us) (length vs) x.more h) ∙ x.marks ms h;
}

-- ---- no slot is changed

-- a key's slot is another that is no change
pub kept-at : (m n : Places) (k : Key) (slot : Option Slot) → HasAt m n k slot → is_changed slot ≡ false → AreKept m → AreKept n
kept-at m n k slot has is kept q =
    ⊎_elim
    (λ (here : same_key k q ≡ true). ap is_changed (has q ∙ ap (λ b. cond b slot (slot_at m q)) here) ∙ is)
    (λ (off : same_key k q ≡ false). ap is_changed (has q ∙ ap (λ b. cond b slot (slot_at m q)) off) ∙ kept q)
    (cases_Bool (same_key k q))

-- one key is resolved, and the others have the slots that they had
pub kept-others : (m n : Places) (k : Key) → is_changed (slot_at n k) ≡ false → ((q : Key) → same_key k q ≡ false → slot_at n q ≡ slot_at m q) → AreKept m → AreKept n
kept-others m n k is others kept q =
    ⊎_elim
    (λ (here : same_key k q ≡ true). ap (λ x. is_changed (slot_at n x)) (sym (same_key-to k q here)) ∙ is)
    (λ (off : same_key k q ≡ false). ap is_changed (others q off) ∙ kept q)
    (cases_Bool (same_key k q))

-- the same is committed where the same is seen
pub kept-same : (m n : Places) → AreKept m → AreKept n → ShowsSame Current m n → ShowsSame Committed m n
kept-same m n s t h q = sym (layers-same (slot_at n q) (t q)) ∙ h q ∙ layers-same (slot_at m q) (s q)

pub resolved-tracked : (n : Places) (touched : List (Key × ℕ)) → IsResolved n touched → IsTracked n touched
resolved-tracked n touched s = record {
  sound = s.sound;
  noted = λ q h. (let no : true ≡ false = sym h ∙ s.kept q in absurd (let n : ⊥ = cc in n));
  placed = subst (ArePlaced n.tree) (sym s.none) tt;
}

pub resolved-at_work : (w : Work) → IsResolved w.places w.touched.items → IsRemembered w.places.tree w.known.lines → IsAtWork w
resolved-at_work w s remembered = record { tracked = resolved-tracked w.places w.touched.items s; remembered = remembered }

pub kept-at_work : (w : Work) → IsSound w.places → AreKept w.places → w.touched.items ≡ [] → IsForgotten w.known.lines → IsAtWork w
kept-at_work w sound kept none forgotten = resolved-at_work w (record { sound = sound; kept = kept; none = none }) (forgotten w.places.tree)

-- what places show stays, and so does what was committed at the marks
pub contents-same : (m n : Places) (us : List Undone) (ms : List ℕ) → IsSound m → IsSound n → ShowsSame Committed m n → ShowsSame Current m n → contents n us ms ≡ contents m us ms
contents-same m n us ms s t committed current =
    let same : shown_of Committed n ≡ shown_of Committed m = shown-same Committed Committed m n s.ordered t.ordered committed in
    layers-equal (contents n us ms) (contents m us ms) same (shown-same Current Current m n s.ordered t.ordered current) (ap (marks_of back us ms) same)

-- an overlay over storage that is seen so
abbrev pub over : Overlay → Layers → Overlay
over o l = record o { storage = record (o.storage) { now = l } }

-- ---- what a run sees, and what a step of it leaves

pub seen : (m : Places) (us : List Undone) (ms : List ℕ) (was : Layers) (k : Key) → IsSound m → contents m us ms ≡ was → value_at Current m k ≡ words_under was.current k
seen m us ms was k sound is = sym (reads Current m k (slot_at m k) sound.ordered refl) ∙ ap (λ (l : Layers). words_under l.current k) is

-- a slot that the code has read
pub seen-in : (m : Places) (us : List Undone) (ms : List ℕ) (was : Layers) (k : Key) (p : ℕ) (s : Slot) → IsSound m → get key_cmp m.tree k ≡ Some p → s ≡ slice_index_or m.slots.items p s → contents m us ms ≡ was
    → of_layer Current s ≡ words_under was.current k
seen-in m us ms was k p s sound at read is = ap (layer_at Current) (sym (slot-read m k p s sound at read)) ∙ seen m us ms was k sound is

-- a key that has no place
pub seen-none : (m : Places) (us : List Undone) (ms : List ℕ) (was : Layers) (k : Key) → IsSound m → get key_cmp m.tree k ≡ None → contents m us ms ≡ was → None ≡ words_under was.current k
seen-none m us ms was k sound none is = ap (λ o. layer_at Current (option_and_then (slice_get m.slots.items) o)) (sym none) ∙ seen m us ms was k sound is

-- what holds of storage where a run is at work
abbrev pub Holds : Work → List Undone → List ℕ → Type 0
Holds w us ms = IsAtWork w × IsUndoable w.places us × AreMarks ms (length us) × (ms ≡ [] → us ≡ [])

-- what was seen of storage before the step, and what is seen of it now
pub record Stepped (old new : Work) (us : List Undone) (ms : List ℕ) (was : Layers) : Type 0 where
  pub holds : Holds new us ms
  pub committed : (contents new.places us ms).committed ≡ was.committed
  pub marks : (contents new.places us ms).marks ≡ was.marks
  pub same : ShowsSame Current old.places new.places → contents new.places us ms ≡ was
  pub put : (k : Key) (words : List ℕ) → ShowsAt Current k (Some words) old.places new.places → (contents new.places us ms).current ≡ with_words was.current k words
  pub taken : (k : Key) → ShowsAt Current k None old.places new.places → (contents new.places us ms).current ≡ without_words was.current k

pub stepped : (old new : Work) (us : List Undone) (ms : List ℕ) (was : Layers) → Holds old us ms → IsAtWork new → KeepsPinned old.places new.places → ShowsSame Committed old.places new.places
    → contents old.places us ms ≡ was → Stepped old new us ms was
stepped old new us ms was had now keeps committed is =
    let m = old.places in
    let n = new.places in
    let s = had.0.tracked.sound in
    let t = now.tracked.sound in
    let left = shown-same Committed Committed m n s.ordered t.ordered committed in
    record {
      holds = (now, keeps-undoable m n us keeps had.1, had.2, had.3);
      committed = left ∙ ap (λ (l : Layers). l.committed) is;
      marks = ap (marks_of back us ms) left ∙ ap (λ (l : Layers). l.marks) is;
      same = λ current. contents-same m n us ms s t committed current ∙ is;
      put = λ k words shows. shown-with Current m n k words s.ordered t.ordered shows ∙ ap (λ (l : Layers). with_words l.current k words) is;
      taken = λ k shows. shown-without Current m n k s.ordered t.ordered shows ∙ ap (λ (l : Layers). without_words l.current k) is;
    }

-- ---- keys that are left to take out

pub clearing-placed : (p : Places) (us : List Undone) → AllByRecursion (λ u. IsPinned p u.key u.place) us → AreClearing p us
clearing-placed p [] a = tt
clearing-placed p (u ∷ us) a = (inl a.0.0, clearing-placed p us a.1)

pub clearing-last : (p : Places) (us : List Undone) (u : Undone) → AreClearing p (us ++ u ∷ []) → IsResolving p u.key u.place
clearing-last p [] u h = h.0
clearing-last p (x ∷ xs) u h = clearing-last p xs u h.1

pub clearing-rest : (m n : Places) (us : List Undone) (u : Undone) → ((q : Key) (place : ℕ) → IsResolving m q place → IsResolving n q place) → AreClearing m (us ++ u ∷ []) → AreClearing n us
clearing-rest m n [] u keep h = tt
clearing-rest m n (x ∷ xs) u keep h = (keep x.key x.place h.0, clearing-rest m n xs u keep h.1)

-- ---- marks

-- no block is open
pub marks-none : (us : List Undone) (ms : List ℕ) (h : List FlatEntry) → marks_of back us ms h ≡ [] → ms ≡ []
marks-none us [] h e = refl
marks-none us (m ∷ ms) h e = absurd (let n : ⊥ = cc in n)

-- the marks of what was committed, with one more block
pub marks-begun : (us : List Undone) (ms : List ℕ) (count : ℕ) (h : List FlatEntry) → count ≡ length us → marks_of back us (ms ++ count ∷ []) h ≡ marks_of back us ms h ++ h ∷ []
marks-begun us ms count h e =
    marks-append-of back us ms count h
    ∙ ap (λ x. marks_of back us ms h ++ x ∷ []) (undone-none back us count h (let le : length us ≤ count = omega (arith, e) in le))

-- what is held once the newest block is taken back
pub marks-back : (us ws : List Undone) (ms : List ℕ) (m : ℕ) (old new : List FlatEntry) → AreMarks (ms ++ m ∷ []) (length us) → length ws ≡ m
    → ((k : ℕ) → k ≤ m → undone back (drop k ws) new ≡ undone back (drop k us) old)
    → marks_of back us (ms ++ m ∷ []) old ≡ marks_of back ws ms new ++ new ∷ []
marks-back us ws ms m old new a left same =
    let older : marks_of back ws ms new ≡ marks_of back us ms old = marks-same back us ws ms m old new (AreMarks-back ms m (length us) a) same in
    let newest : new ≡ undone back (drop m us) old = sym (undone-none back ws m new (omega (arith, left))) ∙ same m (omega arith) in
    marks-append-of back us ms m old ∙ ap (λ xs. xs ++ undone back (drop m us) old ∷ []) (sym older) ∙ ap (λ h. marks_of back ws ms new ++ h ∷ []) (sym newest)

-- no change can be taken back where none is noted
pub undoable-none : (n : Places) (us : List Undone) → us ≡ [] → IsUndoable n us
undoable-none n us e = subst (IsUndoable n) (sym e) (record { placed = tt; fresh = tt })

-- marks and changes with the same storage
abbrev pub with_marks : List Undone → List ℕ → Layers → Layers
with_marks us ms l = record l { marks = marks_of back us ms l.committed }

pub written-marks : (us : List Undone) (ms : List ℕ) (lent : Bool) (width : ℕ) (l : Layers) (key : Key) (from : ℕ) (words : List ℕ)
    → with_marks us ms (written_if lent width l key from words) ≡ written_if lent width (with_marks us ms l) key from words
written-marks us ms lent width l key from words = by (lent && nat_lt 0 width)
  where
    by : (b : Bool) → with_marks us ms (cond b (record l { current = written l.current key from words }) l) ≡ cond b (record (with_marks us ms l) { current = written l.current key from words }) (with_marks us ms l)
    by true = refl
    by false = refl

last-of : (ms : List ℕ) → (ms ≡ []) ⊎ ((zs : List ℕ) × (m : ℕ) × (ms ≡ zs ++ m ∷ []))
last-of [] = inl refl
last-of (x ∷ xs) =
    ⊎_elim
    (λ (e : xs ≡ []). inr ([], x, ap (λ ys. x ∷ ys) e))
    (λ (r : (zs : List ℕ) × (m : ℕ) × (xs ≡ zs ++ m ∷ [])). inr (x ∷ r.0, r.1, ap (λ ys. x ∷ ys) r.2))
    (last-of xs)

-- what was committed at the newest mark
pub marks-last : (us : List Undone) (ms : List ℕ) (h : List FlatEntry) (older : List (List FlatEntry)) (old : List FlatEntry) → marks_of back us ms h ≡ older ++ old ∷ []
    → (zs : List ℕ) × (m : ℕ) × (ms ≡ zs ++ m ∷ []) × (undone back (drop m us) h ≡ old)
marks-last us ms h older old e =
    ⊎_elim
    (λ (none : ms ≡ []). absurd (last-some older old (sym e ∙ ap (λ ms. marks_of back us ms h) none)))
    (λ (r : (zs : List ℕ) × (m : ℕ) × (ms ≡ zs ++ m ∷ [])).
    let is : marks_of back us r.0 h ++ undone back (drop r.1 us) h ∷ [] ≡ older ++ old ∷ [] = sym (marks-append-of back us r.0 r.1 h) ∙ ap (λ ms. marks_of back us ms h) (sym r.2) ∙ e in
    (r.0, r.1, r.2, last-same (marks_of back us r.0 h) older (undone back (drop r.1 us) h) old is))
    (last-of ms)
