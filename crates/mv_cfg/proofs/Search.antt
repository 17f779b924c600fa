-- A search for the blocks that paths lead to.
--   IsSearch            where each marked block but the open ones has its successors marked
--   IsSearch-start      the first block alone is marked and open
--   IsSearch-found      a successor is marked and open
--   IsSearch-closed     a block whose successors are all marked is no longer open
--   IsSearch-end        where no block is open the marked ones are those that paths lead to
use Rattle.std.proofs.Common.{◌≡◌, ℕ, ◌+◌, ◌<◌, ◌≤◌, Bool, true, false, List, [], ◌∷◌, ◌++◌, length, get_or, set, All, Contains, replicate, refl, sym}
use Rattle.std.proofs.Common.{ap, ◌∙◌, subst, arith, zero, suc, inl, inr, ⊎_elim, ◌⊎◌, ◌≢◌}
use Rattle.std.proofs.lemmas.Bool.{cases_eq, cases_lt, false≢true}
use Rattle.std.proofs.lemmas.List.{get_or-set_same, get_or-set_other, get_or-replicate, length-set, length-replicate, get_or_past, get_or_default}
use Rattle.std.proofs.lemmas.List.Elements.{Contains-push, Contains-push_cases, Contains-append_left, Contains-get_or}
use Rattle.std.proofs.lemmas.Option.{same_Some}
use Rattle.mv_cfg.specs.declared.Block.{Block}
use Rattle.mv_cfg.specs.declared.Cfg.{Cfg}
use Rattle.mv_cfg.specs.Graph.{IsBlock, HasEdge, IsReached, at_entry, along}
use Rattle.mv_cfg.specs.Steps.{IsLinked, IsReachedMarks}

-- where each marked block but the open ones has its successors marked
pub record IsSearch (g : Cfg) (marks : List Bool) (open_blocks : List ℕ) : Type 0 where
  pub size : length marks ≡ length g.blocks.items
  pub entry : get_or marks 0 false ≡ true
  pub sound : (k : ℕ) → get_or marks k false ≡ true → IsReached g k
  pub marked : (k : ℕ) → Contains open_blocks k → get_or marks k false ≡ true
  pub closed : (k n : ℕ) → get_or marks k false ≡ true → HasEdge g k n → Contains open_blocks k ⊎ (get_or marks n false ≡ true)

-- the first n of the numbers are marked
abbrev pub AreMarked : List Bool → List ℕ → ℕ → Type 0
AreMarked marks numbers n = (i : ℕ) → i < n → get_or marks (get_or numbers i 0) false ≡ true

contains_later : (k : ℕ) (open_blocks : List ℕ) (j : ℕ) → Contains open_blocks j → Contains (k ∷ open_blocks) j
contains_later k open_blocks j (i, h, e) = (suc i, omega arith, e)

contains_cons : (k : ℕ) (xs : List ℕ) (x : ℕ) → Contains (k ∷ xs) x → (k ≡ x) ⊎ Contains xs x
contains_cons k xs x (zero, h, e) = inl e
contains_cons k xs x (suc j, h, e) = inr (j, omega arith, e)

-- a mark stays
pub stays_marked : (marks : List Bool) (n k : ℕ) → get_or marks k false ≡ true → n < length marks → get_or (set marks n true) k false ≡ true
stays_marked marks n k e h =
    ⊎_elim (λ (same : k ≡ n). ap (λ j. get_or (set marks n true) j false) same ∙ get_or-set_same marks n true false h)
    (λ (ne : k ≢ n). get_or-set_other marks n k true false ne ∙ e)
    (cases_eq k n)

-- a marked place is one of the list's
pub marked_within : (marks : List Bool) (k : ℕ) → get_or marks k false ≡ true → k < length marks
marked_within marks k e =
    ⊎_elim (λ (h : k < length marks). h) (λ (h : length marks ≤ k). absurd (false≢true (sym (get_or_past marks k false h) ∙ e))) (cases_lt k (length marks))

pub IsSearch-start : (g : Cfg) (size : ℕ) → size ≡ length g.blocks.items → 0 < size → IsSearch g (set (replicate size false) 0 true) (0 ∷ [])
IsSearch-start g size is some = record {
  size = rw (length-set, length-replicate) is;
  entry = get_or-set_same (replicate size false) 0 true false (rw length-replicate some);
  sound = λ k e. subst (IsReached g) (sym (only k e)) at_entry;
  marked = λ k h. ⊎_elim (λ (e : 0 ≡ k). subst (λ (j : ℕ). get_or (set (replicate size false) 0 true) j false ≡ true) e (get_or-set_same (replicate size false) 0 true false (rw length-replicate some)))
      (λ (h : Contains [] k). absurd (omega (arith, h.1)))
      (contains_cons 0 [] k h);
  closed = λ k n e edge. inl (0, omega arith, sym (only k e));
}
  where
    only : (k : ℕ) → get_or (set (replicate size false) 0 true) k false ≡ true → k ≡ 0
    only k e =
        ⊎_elim (λ (same : k ≡ 0). same)
        (λ (ne : k ≢ 0).
        let within : k < length (set (replicate size false) 0 true) = marked_within (set (replicate size false) 0 true) k e in
        let small : k < size = omega (arith, length-set {A = Bool}, length-replicate {A = Bool}) in
        absurd (false≢true (sym (get_or-set_other (replicate size false) 0 k true false ne ∙ get_or-replicate size k false false small) ∙ e)))
        (cases_eq k 0)

-- the same blocks are open, in another order
pub IsSearch-pop : (g : Cfg) (marks : List Bool) (open_blocks : List ℕ) (k : ℕ) → IsSearch g marks (open_blocks ++ k ∷ []) → IsSearch g marks (k ∷ open_blocks)
IsSearch-pop g marks open_blocks k p = record {
  size = p.size;
  entry = p.entry;
  sound = p.sound;
  marked = λ j h. p.marked j (⊎_elim (λ (e : k ≡ j). subst (Contains (open_blocks ++ k ∷ [])) e (Contains-push open_blocks k)) (λ (h : Contains open_blocks j). Contains-append_left open_blocks (k ∷ []) j h) (contains_cons k open_blocks j h));
  closed = λ j n e edge. ⊎_elim
      (λ (h : Contains (open_blocks ++ k ∷ []) j). inl (⊎_elim (λ (old : Contains open_blocks j). contains_later k open_blocks j old) (λ (e : k ≡ j). (0, omega arith, e)) (Contains-push_cases open_blocks k j h)))
      (λ (m : get_or marks n false ≡ true). inr m)
      (p.closed j n e edge);
}

pub IsSearch-popped : (g : Cfg) (marks : List Bool) (old open_blocks : List ℕ) (k : ℕ) → old ≡ open_blocks ++ k ∷ [] → IsSearch g marks old → IsSearch g marks (k ∷ open_blocks)
IsSearch-popped g marks old open_blocks k is p = IsSearch-pop g marks open_blocks k (subst (IsSearch g marks) is p)

-- an open block is a block
pub open-within : (g : Cfg) (marks : List Bool) (open_blocks : List ℕ) (k : ℕ) → IsSearch g marks (k ∷ open_blocks) → k < length g.blocks.items
open-within g marks open_blocks k p = let within : k < length marks = marked_within marks k (p.marked k (0, omega arith, refl)) in omega (arith, p.size)

-- its successors are blocks
pub next-within : (g : Cfg) (marks : List Bool) (open_blocks : List ℕ) (k : ℕ) (b : Block) (next : List ℕ) (i : ℕ) → IsLinked g
    → IsSearch g marks open_blocks → IsBlock g k b → next ≡ b.successors.items → i < length next → get_or next i 0 < length marks
next-within g marks open_blocks k b next i linked p is same h =
    let all : All (λ n. n < length g.blocks.items) next = subst (λ (xs : List ℕ). All (λ n. n < length g.blocks.items) xs) (sym same) (linked.inside k b is) in
    let small : get_or next i 0 < length g.blocks.items = all i 0 h in omega (arith, p.size)

pub next-edge : (g : Cfg) (k : ℕ) (b : Block) (next : List ℕ) (i : ℕ) → IsBlock g k b → next ≡ b.successors.items → i < length next → HasEdge g k (get_or next i 0)
next-edge g k b next i is same h = (b, is, subst (λ (xs : List ℕ). Contains xs (get_or next i 0)) same (Contains-get_or next i 0 h))

pub IsSearch-found : (g : Cfg) (marks : List Bool) (open_blocks : List ℕ) (k n : ℕ) → HasEdge g k n → n < length g.blocks.items
    → IsSearch g marks (k ∷ open_blocks) → IsSearch g (set marks n true) (k ∷ (open_blocks ++ n ∷ []))
IsSearch-found g marks open_blocks k n edge inside p =
    let within : n < length marks = omega (arith, p.size) in record {
      size = rw length-set p.size;
      entry = stays_marked marks n 0 p.entry within;
      sound = λ j e.
          ⊎_elim (λ (same : j ≡ n). subst (IsReached g) (sym same) (along (p.sound k (p.marked k (0, omega arith, refl))) edge))
          (λ (ne : j ≢ n). p.sound j (sym (get_or-set_other marks n j true false ne) ∙ e))
          (cases_eq j n);
      marked = λ j h.
          ⊎_elim (λ (old : Contains (k ∷ open_blocks) j). stays_marked marks n j (p.marked j old) within)
          (λ (e : n ≡ j). subst (λ (i : ℕ). get_or (set marks n true) i false ≡ true) e (get_or-set_same marks n true false within))
          (Contains-push_cases (k ∷ open_blocks) n j h);
      closed = λ j m e out.
          ⊎_elim (λ (same : j ≡ n). inl (subst (Contains (k ∷ (open_blocks ++ n ∷ []))) (sym same) (Contains-push (k ∷ open_blocks) n)))
          (λ (ne : j ≢ n).
          ⊎_elim (λ (h : Contains (k ∷ open_blocks) j). inl (Contains-append_left (k ∷ open_blocks) (n ∷ []) j h))
          (λ (h : get_or marks m false ≡ true). inr (stays_marked marks n m h within))
          (p.closed j m (sym (get_or-set_other marks n j true false ne) ∙ e) out))
          (cases_eq j n);
    }

pub IsSearch-closed : (g : Cfg) (marks : List Bool) (open_blocks : List ℕ) (k : ℕ) (b : Block) → IsBlock g k b
    → AreMarked marks b.successors.items (length b.successors.items) → IsSearch g marks (k ∷ open_blocks) → IsSearch g marks open_blocks
IsSearch-closed g marks open_blocks k b is all p = record {
  size = p.size;
  entry = p.entry;
  sound = p.sound;
  marked = λ j h. p.marked j (contains_later k open_blocks j h);
  closed = λ j n e edge.
      ⊎_elim (λ (h : Contains (k ∷ open_blocks) j).
      ⊎_elim (λ (same : k ≡ j). inr (successor n (subst (λ (i : ℕ). HasEdge g i n) (sym same) edge)))
      (λ (h : Contains open_blocks j). inl h)
      (contains_cons k open_blocks j h))
      (λ (h : get_or marks n false ≡ true). inr h)
      (p.closed j n e edge);
}
  where
    successor : (n : ℕ) → HasEdge g k n → get_or marks n false ≡ true
    successor n (x, at, h) =
        let same : x ≡ b = same_Some x b (sym at ∙ is) in
        let there : Contains b.successors.items n = subst (λ (y : Block). Contains y.successors.items n) same h in
        subst (λ (j : ℕ). get_or marks j false ≡ true) (get_or_default b.successors.items there.0 0 n there.1 ∙ there.2) (all there.0 there.1)

pub IsSearch-end : (g : Cfg) (marks : List Bool) → IsSearch g marks [] → IsReachedMarks g marks
IsSearch-end g marks p = record {
  size = p.size;
  each = λ k h. (p.sound k, complete k);
}
  where
    complete : (k : ℕ) → IsReached g k → get_or marks k false ≡ true
    complete _ at_entry = p.entry
    complete _ (along {k} {n} from edge) = ⊎_elim (λ (h : Contains [] k). absurd (omega (arith, h.1))) (λ (h : get_or marks n false ≡ true). h) (p.closed k n (complete k from) edge)

-- how many marks are not set
abbrev pub unmarked : List Bool → ℕ
unmarked [] = 0
unmarked (true ∷ marks) = unmarked marks
unmarked (false ∷ marks) = unmarked marks + 1

-- a mark that is set leaves one less that isn't
pub unmarked-set : (marks : List Bool) (n : ℕ) → n < length marks → get_or marks n false ≡ false → unmarked (set marks n true) + 1 ≡ unmarked marks
unmarked-set [] n h e = absurd (omega arith)
unmarked-set (true ∷ marks) zero h e = cc
unmarked-set (false ∷ marks) zero h e = refl
unmarked-set (true ∷ marks) (suc n) h e = unmarked-set marks n (omega arith) e
unmarked-set (false ∷ marks) (suc n) h e = let rest : unmarked (set marks n true) + 1 ≡ unmarked marks = unmarked-set marks n (omega arith) e in omega arith

-- more of the numbers are marked
pub AreMarked-more : (marks : List Bool) (numbers : List ℕ) (n : ℕ) → AreMarked marks numbers n → get_or marks (get_or numbers n 0) false ≡ true → AreMarked marks numbers (n + 1)
AreMarked-more marks numbers n before here i h =
    ⊎_elim (λ (e : i ≡ n). subst (λ (j : ℕ). get_or marks (get_or numbers j 0) false ≡ true) (sym e) here) (λ (ne : i ≢ n). before i (omega arith)) (cases_eq i n)

pub AreMarked-set : (marks : List Bool) (numbers : List ℕ) (n : ℕ) → get_or numbers n 0 < length marks → AreMarked marks numbers n → AreMarked (set marks (get_or numbers n 0) true) numbers (n + 1)
AreMarked-set marks numbers n within before =
    AreMarked-more (set marks (get_or numbers n 0) true) numbers n
    (λ i h. stays_marked marks (get_or numbers n 0) (get_or numbers i 0) (before i h) within)
    (get_or-set_same marks (get_or numbers n 0) true false within)
