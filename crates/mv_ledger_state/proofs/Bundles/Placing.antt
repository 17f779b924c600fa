-- The modules of a bundle are placed one after the other.
use Rattle.mv_ledger_state.proofs.Common.{[], ◌++◌, ◌+◌, ◌<◌, ◌∙◌, ◌∷◌, ◌≡◌, ◌≤◌, Bool, Bor, List, None, Option, Some, ap, append_assoc, ap₂, arith, cond, drop, false, get_or, length, map, refl, subst, lists_of}
use Rattle.mv_ledger_state.proofs.Common.{suc, sym, take, true, zero, zero-add, ℕ, nat_tests, length-map, map-append, map-set, map_more, All, is_none, is_some, nat_lt, not, option_and_then, slice_get}
use Rattle.mv_ledger_state.proofs.Common.{slice_set, unwrap_or, Global, Vec, Module, own_name, module_place, PublishedModule, tables_in, published_of, published_one, with_at, New, ArePlacedFor}
use Rattle.mv_ledger_state.proofs.Common.{AreWithin, fresh_tally, is_published, place_for, tallies_at, with_placed, ArePlaced, scarce_indices, Placed, Tally}
use Rattle.mv_linker.proofs.Kept.WithAt.{set-with_at, push-with_at, length-with_at}
use Rattle.mv_ledger_state.proofs.Bundles.Places.{place-found, is_there, spot, spot-below}
use Rattle.mv_ledger_state.proofs.Bundles.Places.{had}

-- the next place after these
abbrev pub next_after : List Module → ℕ → List Module → ℕ
next_after old next [] = next
next_after old next (m ∷ ms) = next_after old (cond (is_published old m) next (next + 1)) ms

-- one more
pub placed-more : (old : List Module) (tss : List (List Tally)) (next : ℕ) (ms : List Module) (ps : List Placed) (m : Module) (p : Placed) → ArePlacedFor old tss next ms ps
    → p.place ≡ place_for old (next_after old next ms) m → p.tallies.items ≡ tallies_at p.place m (unwrap_or (slice_get tss p.place) []) → ArePlacedFor old tss next (ms ++ m ∷ []) (ps ++ p ∷ [])
placed-more old tss next [] [] m p placed at tallies = (at, tallies, tt)
placed-more old tss next (n ∷ ns) (q ∷ qs) m p placed at tallies = (placed.0, placed.1, placed-more old tss (cond (is_published old n) next (next + 1)) ns qs m p placed.2 at tallies)
placed-more _ _ _ _ _ _ _ placed _ _ = absurd placed

pub next-more : (old : List Module) (next : ℕ) (ms : List Module) (m : Module) → next_after old next (ms ++ m ∷ []) ≡ cond (is_published old m) (next_after old next ms) (next_after old next ms + 1)
next-more old next [] m = refl
next-more old next (n ∷ ns) m = next-more old (cond (is_published old n) next (next + 1)) ns m

-- a module that isn't found is not published
pub none-published : (old : List PublishedModule) (m : Module) (o : Option ℕ) → o ≡ option_and_then (module_place (tables_in old)) (own_name m)
    → is_published (tables_in old) m ≡ cond (is_none o) false true
none-published old m o is = grind (arith, place-found old m)

pub none-so : (o : Option ℕ) (b : Bool) → is_some o ≡ not b → b ≡ is_none o
none-so o b e = grind arith

-- ---- lists of tallies by place

-- those of a place that is there are set, and those of any other come last
pub set-there : (vs : List (Vec Tally Global)) (place : ℕ) (w : Vec Tally Global) → place < length vs → lists_of (slice_set vs place w) ≡ with_at place w.items (lists_of vs)
set-there vs place w lt = map-set (λ v. v.items) vs place w ∙ set-with_at (lists_of vs) place w.items (omega (arith, lt, length-map vs (λ (v : Vec Tally Global). v.items)))

pub push-last : (vs us : List (Vec Tally Global)) (place : ℕ) (w : Vec Tally Global) → length vs ≤ place → us ≡ vs ++ w ∷ [] → lists_of us ≡ with_at place w.items (lists_of vs)
push-last vs us place w le is =
    ap lists_of is ∙ map-append (λ (v : Vec Tally Global). v.items) vs (w ∷ []) ∙ push-with_at (lists_of vs) place w.items (omega (arith, le, length-map vs (λ (v : Vec Tally Global). v.items)))

length-put : (place : ℕ) (ts : List Tally) (tss : List (List Tally)) → place ≤ length tss → cond (nat_lt place (length tss)) (length tss) (length tss + 1) ≡ length (with_at place ts tss)
length-put place ts tss le = grind (arith, nat_tests, length-with_at tss place ts le)

placed-put : (start : ℕ) (tss : List (List Tally)) (place : ℕ) (ts : List Tally) → place ≤ length tss → All (λ (t : Tally). t.place ≡ start + place) ts → ArePlaced start tss
    → ArePlaced start (with_at place ts tss)
placed-put start [] place ts le at placed = let same : start + place ≡ start = omega (arith, le) in (subst (λ (k : ℕ). All (λ (t : Tally). t.place ≡ k) ts) same at, tt)
placed-put start (us ∷ tss) zero ts le at placed = let same : start + 0 ≡ start = omega arith in (subst (λ (k : ℕ). All (λ (t : Tally). t.place ≡ k) ts) same at, placed.1)
placed-put start (us ∷ tss) (suc place) ts le at placed =
    let same : start + suc place ≡ start + 1 + place = omega arith in
    (placed.0, placed-put (start + 1) tss place ts (omega (arith, le)) (subst (λ (k : ℕ). All (λ (t : Tally). t.place ≡ k) ts) same at) placed.1)

-- what is left of a bundle is put at its places, one by one
pub record IsJoining (whole tss : List (List Tally)) (rest : List Placed) (len capacity : ℕ) : Type 0 where
  pub whole_is : whole ≡ with_placed tss rest
  pub within : AreWithin (length tss) rest
  pub placed : ArePlaced 0 tss
  pub fits : len + length rest ≤ capacity

-- there is room for one more
pub joining-room : (whole tss : List (List Tally)) (rest more : List Placed) (p : Placed) (len capacity : ℕ) → IsJoining whole tss rest len capacity → rest ≡ p ∷ more → len < capacity
joining-room whole tss rest more p len capacity h is = let long : length rest ≡ suc (length more) = ap length is in omega (arith, long, h.fits)

pub joining-next : (whole tss after : List (List Tally)) (rest more : List Placed) (p : Placed) (len now capacity room : ℕ) → IsJoining whole tss rest len capacity → rest ≡ p ∷ more
    → after ≡ with_at p.place p.tallies.items tss → now ≤ len + 1 → room ≡ capacity → IsJoining whole after more now room
joining-next whole tss after rest more p len now capacity room h is put one same =
    let step = subst (λ (ps : List Placed). AreWithin (length tss) ps) is h.within in
    record {
      whole_is = h.whole_is ∙ ap (with_placed tss) is ∙ ap (λ (us : List (List Tally)). with_placed us more) (sym put);
      within = subst (λ (k : ℕ). AreWithin k more) (length-put p.place p.tallies.items tss step.0 ∙ ap length (sym put)) step.2;
      placed = subst (λ (us : List (List Tally)). ArePlaced 0 us) (sym put)
          (placed-put 0 tss p.place p.tallies.items step.0 (subst (λ (k : ℕ). All (λ (t : Tally). t.place ≡ k) p.tallies.items) (sym (zero-add p.place)) step.1) h.placed);
      fits = let long : length rest ≡ suc (length more) = ap length is in omega (arith, long, one, same, h.fits);
    }

pub joining-done : (whole tss : List (List Tally)) (rest : List Placed) (len capacity : ℕ) → IsJoining whole tss rest len capacity → length rest ≡ 0 → tss ≡ whole
joining-done whole tss [] len capacity h none = sym h.whole_is
joining-done whole tss (p ∷ ps) len capacity h none = absurd (omega (arith, none))

-- ---- a module's tallies, one more at a time

pub extended-more : (start items after : List Tally) (place : ℕ) (yielded : List (Bor ℕ)) (x : Bor ℕ) (t : Tally) → items ≡ start ++ map (fresh_tally place) (map (λ (y : Bor ℕ). y.now) yielded)
    → after ≡ items ++ t ∷ [] → t ≡ fresh_tally place x.now → after ≡ start ++ map (fresh_tally place) (map (λ (y : Bor ℕ). y.now) (yielded ++ x ∷ []))
extended-more start items after place yielded x t is pushed made =
    let fresh : List (Bor ℕ) → List Tally = λ ys. map (fresh_tally place) (map (λ (y : Bor ℕ). y.now) ys) in
    let split : fresh (yielded ++ x ∷ []) ≡ fresh yielded ++ fresh_tally place x.now ∷ [] = ap (map (fresh_tally place)) (map-append (λ (y : Bor ℕ). y.now) yielded (x ∷ []))
    ∙ map-append (fresh_tally place) (map (λ (y : Bor ℕ). y.now) yielded) (x.now ∷ []) in
    pushed ∙ ap₂ (λ (xs : List Tally) (u : Tally). xs ++ u ∷ []) is made ∙ append_assoc start (fresh yielded) (fresh_tally place x.now ∷ []) ∙ ap (λ (xs : List Tally). start ++ xs) (sym split)

-- ---- the modules of a bundle, one more at a time

-- the first so many are placed, and the next place is after them
pub record IsPlacing (old : List PublishedModule) (tss : List (List Tally)) (news : List New) (i : ℕ) (all : List Placed) (next : ℕ) : Type 0 where
  pub placed : ArePlacedFor (tables_in old) tss (length old) (tables_in (published_of (take i news))) all
  pub next_is : next ≡ next_after (tables_in old) (length old) (tables_in (published_of (take i news)))
  pub few : next ≤ length old + i

tables-more : (news : List New) (i : ℕ) (d : New) → i < length news → tables_in (published_of (take (i + 1) news)) ≡ tables_in (published_of (take i news)) ++ (get_or news i d).module ∷ []
tables-more news i d lt = ap tables_in (map_more published_one news i d lt) ∙ map-append (λ (p : PublishedModule). p.tables) (published_of (take i news)) (published_one (get_or news i d) ∷ [])

module _ (old : List PublishedModule) (tss : List (List Tally)) (news : List New) (i : ℕ) (all : List Placed) (next : ℕ) (m : Module) (found : Option ℕ) where
  -- the place is in range
  pub placing-low : IsPlacing old tss news i all next → i < length news → length old + length news < 65536 → found ≡ option_and_then (module_place (tables_in old)) (own_name m) → (place : ℕ)
      → place ≡ unwrap_or found next → place < 65536
  placing-low h lt few found_is place at =
      let is : place ≡ unwrap_or (cond (is_there old m) (Some (spot old m)) None) next = at ∙ ap (λ (o : Option ℕ). unwrap_or o next) (found_is ∙ place-found old m) in
      grind (arith, is, spot-below old m)

  -- one more is placed
  pub placing-more : (d : New) (after : List Placed) (p : Placed) (indices : List ℕ) → IsPlacing old tss news i all next → i < length news → m ≡ (get_or news i d).module
      → found ≡ option_and_then (module_place (tables_in old)) (own_name m) → p.place ≡ unwrap_or found next
      → p.tallies.items ≡ had tss p.place ++ map (fresh_tally p.place) (drop (length (had tss p.place)) indices) → indices ≡ scarce_indices m → after ≡ all ++ p ∷ []
      → (now : ℕ) → now ≡ cond (is_none found) (next + 1) next → IsPlacing old tss news (i + 1) after now
  placing-more d after p indices h lt m_is found_is at tallies indices_are pushed now now_is =
      let more = tables-more news i d lt in
      let name : option_and_then (module_place (tables_in old)) (own_name (get_or news i d).module) ≡ found = sym
      (found_is ∙ ap (λ (n : Module). option_and_then (module_place (tables_in old)) (own_name n)) m_is) in
      let published : is_published (tables_in old) (get_or news i d).module ≡ cond (is_none found) false true = none-published old (get_or news i d).module found (sym name) in
      let place_is : p.place ≡ place_for (tables_in old) (next_after (tables_in old) (length old) (tables_in (published_of (take i news)))) (get_or news i d).module =
      at ∙ ap₂ (λ (o : Option ℕ) (n : ℕ). unwrap_or o n) (sym name) h.next_is in
      let own : p.tallies.items ≡ tallies_at p.place (get_or news i d).module (had tss p.place) = tallies
      ∙ ap (λ (xs : List ℕ). had tss p.place ++ map (fresh_tally p.place) (drop (length (had tss p.place)) xs)) (indices_are ∙ ap scarce_indices m_is) in
      record {
        placed =
            subst (λ (ps : List Placed). ArePlacedFor (tables_in old) tss (length old) (tables_in (published_of (take (i + 1) news))) ps) (sym pushed)
            (subst (λ (ms : List Module). ArePlacedFor (tables_in old) tss (length old) ms (all ++ p ∷ [])) (sym more)
            (placed-more (tables_in old) tss (length old) (tables_in (published_of (take i news))) all (get_or news i d).module p h.placed place_is own));
        next_is =
            now_is ∙ by_found (is_none found) next (next_after (tables_in old) (length old) (tables_in (published_of (take i news)))) h.next_is
            ∙ ap (λ (b : Bool). cond b (next_after (tables_in old) (length old) (tables_in (published_of (take i news))))
            (next_after (tables_in old) (length old) (tables_in (published_of (take i news))) + 1)) (sym published)
            ∙ sym (next-more (tables_in old) (length old) (tables_in (published_of (take i news))) (get_or news i d).module)
            ∙ ap (next_after (tables_in old) (length old)) (sym more);
        few = least (is_none found) now now_is;
      }
    where
      by_found : (b : Bool) (x y : ℕ) → x ≡ y → cond b (x + 1) x ≡ cond (cond b false true) y (y + 1)
      by_found true x y e = ap (λ (k : ℕ). k + 1) e
      by_found false x y e = e

      least : (b : Bool) (now : ℕ) → now ≡ cond b (next + 1) next → now ≤ length old + (i + 1)
      least true now e = omega (arith, e, h.few)
      least false now e = omega (arith, e, h.few)
