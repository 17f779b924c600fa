-- One turn of a walk over a block's instructions, and one of a walk over a function's blocks.
use Rattle.mv_type_states.proofs.Common.{[], ℕ, ◌&&◌, ◌++◌, ◌+◌, ◌-◌, ◌<◌, ◌∙◌, ◌∷◌, ◌≡◌, ◌≤◌, Bool, IsSome, IsTrue, List, None, Option, Some, ap, append_assoc, arith, cond}
use Rattle.mv_type_states.proofs.Common.{drop, false, flat_map, get_or, length, map, nat_eq, nat_le, refl, reverse, subst, sym, true, eqb-true, same_Some, list_all, slice_range}
use Rattle.mv_type_states.proofs.Common.{FunctionDefinition, Module, ◌>>=◌, IsRefusedBy, IsRefusedIn, Instruction, Refusal, Memory, Phase, Token, basic_block_of, Block, Cfg, StackEffect, block_is_level}
use Rattle.mv_type_states.proofs.Common.{effect_of, function_is_level, height_through, types_each, Types, types_after, block_is_typed, function_is_typed, types_through}
use Rattle.std.specs.Bool.{then_some}
use Rattle.std.specs.Option.{option_map_or}
use Rattle.std.proofs.lemmas.Bool.{le-leb, false≢true, and_parts}
use Rattle.std.proofs.lemmas.List.{append-nil, drop_all, drop_more}
use Rattle.mv_cfg.specs.Blocks.{BasicBlock, blocks}
use Rattle.mv_type_rules.specs.Sound.{types_in}
use Rattle.mv_stack_use.specs.Heights.{raised}
use Rattle.mv_type_rules.proofs.Steps.{bind_some}
use Rattle.mv_type_states.proofs.HeightLemmas.{has_effect}
use Rattle.mv_binary_format.proofs.Binds.{cond_parts}

then_some_on : (b : Bool) (n : ℕ) (f : ℕ → Option ℕ) → IsSome (then_some b n >>= f) → (b ≡ true) × IsSome (f n)
then_some_on true n f h = (refl, h)
then_some_on false n f h = absurd (false≢true h)

-- a height that an effect leads to
raised_to : (h : ℕ) (e : StackEffect) (n : ℕ) → e.takes ≤ h → n + e.takes ≡ h + e.gives → nat_le n 128 ≡ true → raised h e ≡ Some n
raised_to h e n enough changed low =
    let to : h - e.takes + e.gives ≡ n = omega (arith, enough, changed) in rw (le-leb e.takes h enough, to, low) refl

module _ (m : Module) (d : FunctionDefinition) where
  -- where heights go on from an instruction, there is room for the types after it
  room-after : (is : List Instruction) (h : ℕ) (e : StackEffect) (n : ℕ) (o : Option StackEffect) → o ≡ Some e → e.takes ≤ h → n + e.takes ≡ h + e.gives
      → IsSome (o >>= λ e. raised h e >>= λ after. height_through m d is after) → (nat_le n 128 ≡ true) × IsSome (height_through m d is n)
  room-after is h e n o is_e enough changed room =
      let to : h - e.takes + e.gives ≡ n = omega (arith, enough, changed) in
      let at : IsSome (raised h e >>= λ after. height_through m d is after) =
      subst (λ (o : Option StackEffect). IsSome (o >>= λ e. raised h e >>= λ after. height_through m d is after)) is_e room in
      let p = then_some_on (nat_le e.takes h && nat_le (h - e.takes + e.gives) 128) (h - e.takes + e.gives) (height_through m d is) at in
      let low = (and_parts (nat_le e.takes h) (nat_le (h - e.takes + e.gives) 128) p.0).1 in
      (subst (λ (k : ℕ). nat_le k 128 ≡ true) to low, subst (λ (k : ℕ). IsSome (height_through m d is k)) to p.1)

  through-low : (i : Instruction) (is : List Instruction) (s after : Types) → types_after m d i s ≡ Some after → nat_le (length after) 128 ≡ true
      → types_through m d (i ∷ is) s ≡ types_through m d is after
  through-low i is s after there low = rw (there, low) refl

  -- an instruction finds what it needs, where there is room for what it gives
  through-next : (i : Instruction) (is : List Instruction) (s after : Types) → types_after m d i s ≡ Some after → IsSome (height_through m d (i ∷ is) (length s))
      → (types_through m d (i ∷ is) s ≡ types_through m d is after) × IsSome (height_through m d is (length after))
  through-next i is s after there room =
      let p = has_effect m d i s after there in
      let fits = room-after is (length s) p.effect (length after) (effect_of m d i) p.is_effect p.changes.0 p.changes.1 room in
      (through-low i is s after there fits.0, fits.1)

  -- one turn of the walk that carries types
  pub carried : (code : List Instruction) (n : ℕ) (i : Instruction) (s after : Types) (whole : Option Types) → n < length code
      → whole ≡ types_through m d (drop n code) s → IsSome (height_through m d (drop n code) (length s)) → types_after m d (get_or code n i) s ≡ Some after
      → (whole ≡ types_through m d (drop (n + 1) code) after) × IsSome (height_through m d (drop (n + 1) code) (length after))
  carried code n i s after whole below is room there =
      let at = drop_more code n i below in
      let next = through-next (get_or code n i) (drop (n + 1) code) s after there (subst (λ (is : List Instruction). IsSome (height_through m d is (length s))) at room) in
      (is ∙ ap (λ is. types_through m d is s) at ∙ next.0, next.1)

  -- one turn of the walk that lists them
  pub listed : (code : List Instruction) (n : ℕ) (i : Instruction) (s after : Types) (old whole : List Types) → n < length code → types_after m d (get_or code n i) s ≡ Some after
      → old ++ types_each m d (drop n code) s ≡ whole → (old ++ s ∷ []) ++ types_each m d (drop (n + 1) code) after ≡ whole
  listed code n i s after old whole below there is =
      let rest = drop (n + 1) code in
      let each : types_each m d (drop n code) s ≡ s ∷ types_each m d rest after =
      ap (λ is. types_each m d is s) (drop_more code n i below) ∙ ap (λ o. s ∷ option_map_or (types_each m d rest) o []) there in
      append_assoc old (s ∷ []) (types_each m d rest after) ∙ ap (λ l. old ++ l) (sym each) ∙ is

  -- where an instruction is refused, so is what is left
  pub carried-none : (code : List Instruction) (n : ℕ) (i : Instruction) (s : Types) (whole : Option Types) → n < length code → whole ≡ types_through m d (drop n code) s
      → types_after m d (get_or code n i) s ≡ None → whole ≡ None
  carried-none code n i s whole below is none =
      is ∙ ap (λ is. types_through m d is s) (drop_more code n i below) ∙ ap (λ o. o >>= λ t. cond (nat_le (length t) 128) (types_through m d (drop (n + 1) code) t) None) none

  -- where none is left, the types are as they are
  pub carried_all : (code : List Instruction) (n : ℕ) (s : Types) (whole : Option Types) → length code ≤ n → whole ≡ types_through m d (drop n code) s → whole ≡ Some s
  carried_all code n s whole end is = is ∙ ap (λ is. types_through m d is s) (drop_all n code end)

  pub listed_all : (code : List Instruction) (n : ℕ) (s : Types) (old whole : List Types) → length code ≤ n → old ++ types_each m d (drop n code) s ≡ whole → old ≡ whole
  listed_all code n s old whole end is = sym (append-nil old) ∙ ap (λ is. old ++ types_each m d is s) (sym (drop_all n code end)) ∙ is

  -- where types go through instructions, heights do
  heights-through : (is : List Instruction) (s t : Types) → types_through m d is s ≡ Some t → height_through m d is (length s) ≡ Some (length t)
  heights-through [] s t e = ap (λ x. Some (length x)) (same_Some s t e)
  heights-through (i ∷ is) s t e =
      let h = bind_some (types_after m d i s) _ t e in
      let low = cond_parts (nat_le (length h.0) 128) (types_through m d is h.0) t h.1.1 in
      let p = has_effect m d i s h.0 h.1.0 in
      rw (p.is_effect, raised_to (length s) p.effect (length h.0) p.changes.0 p.changes.1 low.0) (heights-through is h.0 t low.1)

  level_height : (is : List Instruction) (n : ℕ) → height_through m d is 0 ≡ Some n → option_map_or (λ h. nat_eq h 0) (height_through m d is 0) false ≡ true → n ≡ 0
  level_height is n e h = eqb-true n 0 (rw e at h)

  typed_block : (is : List Instruction) (t : Types) → types_through m d is [] ≡ Some t → length t ≡ 0 → option_map_or (λ stack. nat_eq (length stack) 0) (types_through m d is []) false ≡ true
  typed_block is t e none = rw (e, none) refl

  -- one turn of the walk over a function's blocks
  pub walked : (g : Cfg) (bs : List Block) (k : ℕ) (b : Block) (t : Types) (whole : Bool) → k < length bs → b ≡ get_or bs k b
      → whole ≡ list_all (block_is_typed m d) (map (basic_block_of g) (drop k bs)) → IsTrue (list_all (block_is_level m d) (map (basic_block_of g) (drop k bs)))
      → types_through m d (slice_range d.code b.first (b.last + 1)) [] ≡ Some t
      → (whole ≡ list_all (block_is_typed m d) (map (basic_block_of g) (drop (k + 1) bs)))
      × (IsTrue (list_all (block_is_level m d) (map (basic_block_of g) (drop (k + 1) bs))) × (length t ≡ 0))
  walked g bs k b t whole below is_b is level there =
      let at : drop k bs ≡ b ∷ drop (k + 1) bs = subst (λ (x : Block). drop k bs ≡ x ∷ drop (k + 1) bs) (sym is_b) (drop_more bs k b below) in
      let rest = map (basic_block_of g) (drop (k + 1) bs) in
      let both = and_parts (block_is_level m d (basic_block_of g b)) (list_all (block_is_level m d) rest)
      (subst (λ (xs : List Block). IsTrue (list_all (block_is_level m d) (map (basic_block_of g) xs))) at level) in
      let code = slice_range d.code b.first (b.last + 1) in
      let none = level_height code (length t) (heights-through code [] t there) both.0 in
      let typed : block_is_typed m d (basic_block_of g b) ≡ true = typed_block code t there none in (
        is ∙ ap (λ xs. list_all (block_is_typed m d) (map (basic_block_of g) xs)) at ∙ ap (λ x. x && list_all (block_is_typed m d) rest) typed,
        (both.1, none),
      )

  -- one turn of the walk that lists the types of a function's blocks
  pub listed_block : (g : Cfg) (bs : List Block) (k : ℕ) (b : Block) (old new whole : List Types) → k < length bs → b ≡ get_or bs k b
      → old ++ flat_map (types_in m d) (map (basic_block_of g) (drop k bs)) ≡ whole → new ≡ old ++ types_in m d (basic_block_of g b)
      → new ++ flat_map (types_in m d) (map (basic_block_of g) (drop (k + 1) bs)) ≡ whole
  listed_block g bs k b old new whole below is_b is one =
      let at : drop k bs ≡ b ∷ drop (k + 1) bs = subst (λ (x : Block). drop k bs ≡ x ∷ drop (k + 1) bs) (sym is_b) (drop_more bs k b below) in
      let rest = flat_map (types_in m d) (map (basic_block_of g) (drop (k + 1) bs)) in
      ap (λ l. l ++ rest) one ∙ append_assoc old (types_in m d (basic_block_of g b)) rest
      ∙ sym (ap (λ l. old ++ flat_map (types_in m d) (map (basic_block_of g) l)) at) ∙ is

  -- the next of a function's blocks
  next_block : (bs : List Block) (k : ℕ) (b : Block) → k < length bs → b ≡ get_or bs k b → drop k bs ≡ b ∷ drop (k + 1) bs
  next_block bs k b below is_b = subst (λ (x : Block). drop k bs ≡ x ∷ drop (k + 1) bs) (sym is_b) (drop_more bs k b below)

  some_height : (o : Option ℕ) → option_map_or (λ h. nat_eq h 0) o false ≡ true → IsSome o
  some_height None h = absurd (false≢true h)
  some_height (Some n) h = refl

  -- there is room for the types in the next block
  pub block_room : (g : Cfg) (bs : List Block) (k : ℕ) (b : Block) (code : List Instruction) (stack : List Token) → k < length bs → b ≡ get_or bs k b → code ≡ d.code → stack ≡ []
      → IsTrue (list_all (block_is_level m d) (map (basic_block_of g) (drop k bs))) → IsSome (height_through m d (slice_range code b.first (b.last + 1)) (length (reverse stack)))
  block_room g bs k b code stack below is_b same empty level =
      let rest = map (basic_block_of g) (drop (k + 1) bs) in
      let both = and_parts (block_is_level m d (basic_block_of g b)) (list_all (block_is_level m d) rest)
      (subst (λ (xs : List Block). IsTrue (list_all (block_is_level m d) (map (basic_block_of g) xs))) (next_block bs k b below is_b) level) in
      let here : IsSome (height_through m d (slice_range d.code b.first (b.last + 1)) 0) = some_height (height_through m d (slice_range d.code b.first (b.last + 1)) 0) both.0 in
      subst (λ (xs : List Instruction). IsSome (height_through m d (slice_range xs b.first (b.last + 1)) (length (reverse stack)))) (sym same)
      (subst (λ (ts : List Token). IsSome (height_through m d (slice_range d.code b.first (b.last + 1)) (length (reverse ts)))) (sym empty) here)

  -- where the next block is refused, so is the function
  pub block_refused : (g : Cfg) (bs : List Block) (k : ℕ) (b : Block) (code : List Instruction) (stack : List Token) (whole : Bool) (e : Refusal) → k < length bs → b ≡ get_or bs k b
      → code ≡ d.code → stack ≡ [] → whole ≡ list_all (block_is_typed m d) (map (basic_block_of g) (drop k bs))
      → IsRefusedBy (λ p. (p ≡ 8) × (types_through m d (slice_range code b.first (b.last + 1)) (reverse stack) ≡ None)) e → IsRefusedIn 8 (IsTrue whole) e
  block_refused g bs k b code stack whole (Phase p) below is_b same empty is r =
      let rest = list_all (block_is_typed m d) (map (basic_block_of g) (drop (k + 1) bs)) in
      let none : types_through m d (slice_range d.code b.first (b.last + 1)) [] ≡ None =
      ap (λ ts. types_through m d (slice_range d.code b.first (b.last + 1)) (reverse ts)) (sym empty)
      ∙ ap (λ xs. types_through m d (slice_range xs b.first (b.last + 1)) (reverse stack)) (sym same) ∙ r.1 in
      let no : whole ≡ false =
      is ∙ ap (λ xs. list_all (block_is_typed m d) (map (basic_block_of g) xs)) (next_block bs k b below is_b)
      ∙ ap (λ o. option_map_or (λ stack. nat_eq (length stack) 0) o false && rest) none in
      (r.0, λ yes. false≢true (sym no ∙ yes))
  block_refused g bs k b code stack whole Memory below is_b same empty is r = tt

  -- where no block is left, all are well typed and listed
  pub all_typed : (g : Cfg) (bs : List Block) (k : ℕ) (whole : Bool) → length bs ≤ k → whole ≡ list_all (block_is_typed m d) (map (basic_block_of g) (drop k bs)) → IsTrue whole
  all_typed g bs k whole end is = is ∙ ap (λ xs. list_all (block_is_typed m d) (map (basic_block_of g) xs)) (drop_all k bs end)

  pub all_listed : (g : Cfg) (bs : List Block) (k : ℕ) (old whole : List Types) → length bs ≤ k → old ++ flat_map (types_in m d) (map (basic_block_of g) (drop k bs)) ≡ whole → old ≡ whole
  all_listed g bs k old whole end is = sym (append-nil old) ∙ ap (λ xs. old ++ flat_map (types_in m d) (map (basic_block_of g) xs)) (sym (drop_all k bs end)) ∙ is

  -- a block that is well typed comes to an end with nothing on the stack
  ends_typed : (o : Option Types) → option_map_or (λ stack. nat_eq (length stack) 0) o false ≡ true → (new : Types) × ((o ≡ Some new) × (length new ≡ 0))
  ends_typed None h = absurd (false≢true h)
  ends_typed (Some new) h = (new, (refl, eqb-true (length new) 0 h))

  level_block : (is : List Instruction) (t : Types) → height_through m d is 0 ≡ Some (length t) → length t ≡ 0 → option_map_or (λ h. nat_eq h 0) (height_through m d is 0) false ≡ true
  level_block is t e none = rw (e, none) refl

  block_level : (b : BasicBlock) → IsTrue (block_is_typed m d b) → IsTrue (block_is_level m d b)
  block_level b h =
      let code = slice_range d.code b.first (b.last + 1) in
      let ends = ends_typed (types_through m d code []) h in level_block code ends.0 (heights-through code [] ends.0 ends.1.0) ends.1.1

  blocks_level : (bs : List BasicBlock) → IsTrue (list_all (block_is_typed m d) bs) → IsTrue (list_all (block_is_level m d) bs)
  blocks_level [] h = refl
  blocks_level (b ∷ bs) h =
      let both = and_parts (block_is_typed m d b) (list_all (block_is_typed m d) bs) h in rw (block_level b both.0) (blocks_level bs both.1)

  -- a function that is well typed is level
  pub level-from_typed : IsTrue (function_is_typed m d) → IsTrue (function_is_level m d)
  level-from_typed h = blocks_level (blocks d.code) h
