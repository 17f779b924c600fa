use Rattle.mv_storage.proofs.Common.{ℕ, ◌<◌, ◌∙◌, ◌≡◌, List, None, Some, ap, arith, cond, inr, refl, subst, sym, slice_get_within, get, is_at, lookup, option_and_then, slice_get, IsTracked}
use Rattle.mv_storage.proofs.Common.{Key, key_cmp, layer_at, slot_at, Places}
use Rattle.mv_storage.specs.declared.slot.Slot.{Slot}
use Rattle.mv_storage.specs.declared.slot.Slot.TheVariants.{Empty}
use Rattle.mv_storage.proofs.Keys.{same_key-refl}
use Rattle.mv_storage.proofs.Entered.{entered}
use Rattle.mv_storage.proofs.Pinned.{KeepsPlaces, keeps-added, keeps-same, keeps-tree}
use Rattle.mv_storage.proofs.PlaceLemmas.{HasPlace, put-at, same-sound, same-slots}
use Rattle.mv_storage.proofs.Steps.{tracked-same, tracked-added, placed-kept, has-same, put-from}
use Rattle.mv_storage.proofs.KnownLemmas.{remembered-kept, kept-added, kept-same}
use Rattle.mv_storage.proofs.slots.Work.place_found.Goals as goal

-- a place that is free is in the list
pub fill-requires : goal.fill-requires
fill-requires c = slice_get_within c.vacancy.new.self.slots.items c.in_ok-fresh.fresh c.in_ok-fresh.ensures.vacant.0 c.in_ok-fresh.ensures.vacant.1

-- the key was absent
pub returns-in-None : goal.returns-in-None
returns-in-None c =
    let m = c.args.self.now.places in
    let v = c.vacancy.new.self in
    let k = c.args.key in
    let p = c.in_ok-fresh.fresh in
    let t : Slot = Empty in
    let n = c.fill.new.self in
    let had = c.in_ok-had.ensures in
    let none : get key_cmp v.tree k ≡ None = sym had.had ∙ c.in-None.is in
    let gets : HasPlace v n k (Some p) = rw c.fill.ensures.tree (rw c.in-None.is at had.has) in
    let small : k.place < 65536 = omega arith in
    let now : get key_cmp n.tree k ≡ Some p = gets k ∙ ap (λ b. cond b (Some p) (get key_cmp v.tree k)) (same_key-refl k) in
    let put = put-from m v n k t c.vacancy.ensures.same
    (put-at v n k p t c.vacancy.ensures.sound (inr (none, c.in_ok-fresh.ensures.vacant)) small refl (rw c.fill.ensures.tree had.ordered) gets c.fill.ensures.slots) in
    let absent : slot_at m k ≡ None = sym (c.vacancy.ensures.same k) ∙ ap (λ o. option_and_then (slice_get v.slots.items) o) none in
    record {
      at_work = record {
        tracked = rw (rw c.in-None.is at had.noted) (tracked-added m n k p t c.args.self.now.touched.items c.requires.tracked (rw (← c.vacancy.ensures.tree) none) put (rw (← c.vacancy.ensures.tree) gets));
        remembered = c.note.ensures n.tree now (remembered-kept v.tree n.tree c.args.self.now.known.lines (kept-added v n k p none gets) (rw c.vacancy.ensures.tree c.requires.remembered));
      };
      pinned = keeps-added m n k t absent put.has (λ q place e. kept-added v n k p none gets q place (keeps-tree m v c.vacancy.ensures.tree q place e));
      same = λ layer. has-same layer m n k (Some t) put.has (sym (ap (layer_at layer) absent));
      at = now;
    }

-- the key has a slot
pub returns-in-Some : goal.returns-in-Some
returns-in-Some c =
    let m = c.args.self.now.places in
    let v = c.vacancy.new.self in
    let k = c.args.key in
    let p = c.in-Some.place in
    let had = c.in_ok-had.ensures in
    let n : Places = record { tree = c.enter_noted.new.tree; slots = v.slots; nothing = v.nothing; free = v.free } in
    let at : get key_cmp v.tree k ≡ Some p = sym had.had ∙ c.in-Some.is in
    let gets : HasPlace v n k (Some p) = rw c.in-Some.is at had.has in
    let now : get key_cmp n.tree k ≡ Some p = gets k ∙ ap (λ b. cond b (Some p) (get key_cmp v.tree k)) (same_key-refl k) in
    let touched = c.args.self.now.touched.items in
    let was : c.enter_noted.new.touched.items ≡ touched = rw c.in-Some.is at had.noted in
    let x = entered m v n k p touched c.requires.tracked c.vacancy.ensures.sound c.vacancy.ensures.same c.vacancy.ensures.tree at had.ordered gets refl in
    record {
      at_work = record {
        tracked = subst (IsTracked n) (sym was) x.tracked;
        remembered = c.note-in-Some.ensures n.tree now (remembered-kept v.tree n.tree c.args.self.now.known.lines (kept-same v n k p at gets) (rw c.vacancy.ensures.tree c.requires.remembered));
      };
      pinned = keeps-same m n x.same x.keeps;
      same = λ layer q. ap (layer_at layer) (x.same q);
      at = now;
    }

-- no memory
pub returns-in_err-had-clause-at_work : goal.returns-in_err-had-clause-at_work
returns-in_err-had-clause-at_work c =
    let m = c.args.self.now.places in
    let v = c.vacancy.new.self in
    let touched = c.args.self.now.touched.items in
    let n : Places = record { tree = c.enter_noted.new.tree; slots = v.slots; nothing = v.nothing; free = v.free } in
    let err = c.in_err-had.ensures.err in
    let keeps : KeepsPlaces m n = λ q place e. ap (λ (es : List (Key × ℕ)). lookup (is_at (key_cmp q)) es) (err.0 ∙ ap (λ x. x.entries) c.vacancy.ensures.tree) ∙ e in
    record {
      tracked = subst (IsTracked n) (sym err.1)
          (tracked-same m n touched touched c.requires.tracked (same-sound v n c.vacancy.ensures.sound err.0 refl c.in_err-had.ensures.ordered)
          (λ q. same-slots v n err.0 refl q ∙ c.vacancy.ensures.same q) (λ q h. h) (placed-kept m.tree n.tree touched keeps c.requires.tracked.placed));
      remembered = remembered-kept m.tree n.tree c.args.self.now.known.lines keeps c.requires.remembered;
    }

pub returns-in_err-had-clause-pinned : goal.returns-in_err-had-clause-pinned
returns-in_err-had-clause-pinned c =
    let m = c.args.self.now.places in
    let v = c.vacancy.new.self in
    let n : Places = record { tree = c.enter_noted.new.tree; slots = v.slots; nothing = v.nothing; free = v.free } in
    let err = c.in_err-had.ensures.err in
    keeps-same m n (λ q. same-slots v n err.0 refl q ∙ c.vacancy.ensures.same q)
    (λ q place e. ap (λ (es : List (Key × ℕ)). lookup (is_at (key_cmp q)) es) (err.0 ∙ ap (λ x. x.entries) c.vacancy.ensures.tree) ∙ e)

pub returns-in_err-had-clause-same : goal.returns-in_err-had-clause-same
returns-in_err-had-clause-same c =
    let v = c.vacancy.new.self in
    let n : Places = record { tree = c.enter_noted.new.tree; slots = v.slots; nothing = v.nothing; free = v.free } in
    λ layer q. ap (layer_at layer) (same-slots v n c.in_err-had.ensures.err.0 refl q ∙ c.vacancy.ensures.same q)

pub returns-in_err-fresh-clause-pinned : goal.returns-in_err-fresh-clause-pinned
returns-in_err-fresh-clause-pinned c = keeps-same c.args.self.now.places c.vacancy.new.self c.vacancy.ensures.same (keeps-tree c.args.self.now.places c.vacancy.new.self c.vacancy.ensures.tree)

pub returns-in_err-fresh-clause-at_work : goal.returns-in_err-fresh-clause-at_work
returns-in_err-fresh-clause-at_work c =
    let m = c.args.self.now.places in
    let v = c.vacancy.new.self in
    let touched = c.args.self.now.touched.items in
    record {
      tracked = tracked-same m v touched touched c.requires.tracked c.vacancy.ensures.sound c.vacancy.ensures.same (λ q h. h) (placed-kept m.tree v.tree touched (keeps-tree m v c.vacancy.ensures.tree) c.requires.tracked.placed);
      remembered = remembered-kept m.tree v.tree c.args.self.now.known.lines (keeps-tree m v c.vacancy.ensures.tree) c.requires.remembered;
    }
