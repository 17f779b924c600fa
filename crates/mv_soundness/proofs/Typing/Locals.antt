-- Rows of locals.
use Rattle.mv_soundness.proofs.Typing.Common.{◌≡◌, ℕ, ◌+◌, true, List, [], ◌∷◌, refl, ap, subst, ◌∙◌, Option, Some, None, Ok, Bool, false, sym, ◌⊎◌, inl, inr, eqb, eqb-true, eqb-false}
use Rattle.mv_soundness.proofs.Typing.Common.{same_Some, slice_get, ok_or, not, Module, local_tokens, ◌>>=◌, need, Tag, ReferenceTag, Instruction, Token, Plain, ValueType, references}
use Rattle.mv_soundness.proofs.Typing.Common.{State, root_value, Here, operand, with_stack, goes_on, may_drop, with_own_local, untouched, can_copy, Faults, LinkageFault, entry}
use Rattle.mv_soundness.proofs.Typing.Common.{LostFault, Value, Leaf, Struct, Ref, Root, Local, Stored, on_bind, token_named, value_type_named, Types, taken, plain_of, TypesAt, Row}
use Rattle.mv_soundness.proofs.Typing.Common.{Roots, Rooted, IsOf, HasType, AtOnce, HasToken, HaveTokens, TurnTyped, LocalHasToken, Avoid, Unreached, token_abilities}
use Rattle.mv_type_rules.specs.TypeRules.{of_copy, of_borrow_local}
use Rattle.mv_move_types.specs.Module.{local_type}
use Rattle.mv_machine.specs.Step.{held, move_local, borrow_local, local_place, local_tag}
use Rattle.mv_machine.specs.StepLocals.{copy_local, store_local}
use Rattle.mv_soundness.specs.{Typing.HasType.fields_by_name, Typing.Unreached.Unborrowed}
use Rattle.mv_soundness.proofs.Typing.Parts.{Part, known, some, passes, tried, tested, lost, frozen}
use Rattle.mv_soundness.proofs.{Typing.Operands.on_test, Typing.Operands.taken-is, Typing.Stays.stays_at, Typing.Stays.moved, Typing.Stays.top_typed}
use Rattle.mv_soundness.proofs.Typing.Keep.{Kept, Nothing, none_to_nothing, keep_stack, keep_locals, keep_below}
use Rattle.mv_soundness.proofs.Typing.Roots.{named_plain, plain_is, typed_has_tag, local_at, local_set, other_roots, own_root}
use Rattle.mv_borrow_graph.specs.Laws.Shifts.{plain_of-is}

-- two roots are one or not
pub root_is : (root : Root) (n l : ℕ) → (root ≡ Local n l) ⊎ (root ≡ Local n l → ⊥)
root_is (Stored key) n l = inr (λ e. cc)
root_is (Local m k) n l = by_case (eqb m n) (eqb k l) refl refl
  where
    by_case : (a b : Bool) → eqb m n ≡ a → eqb k l ≡ b → (Local m k ≡ Local n l) ⊎ (Local m k ≡ Local n l → ⊥)
    by_case true true e g = inl (subst (λ (x : ℕ). Local m k ≡ Local x l) (eqb-true m n e) (ap (Local m) (eqb-true k l g)))
    by_case false b e g = inr (λ p. let q : m ≡ n = cc in eqb-false m n e q)
    by_case true false e g = inr (λ p. let q : k ≡ l = cc in eqb-false k l g q)

-- what stays where a local is changed
pub record StaysBut (modules : List Module) (s : State) (look' : Roots) : Type 1 where
  pub gone : Root → Type 0
  pub kept : Kept modules (root_value s) look' gone
  pub avoids : Unreached gone s

module _ (modules : List Module) (s : State) (l : ℕ) (new : Option Value) where
  -- at a root that never was a place of a typed reference nothing is gone
  kept_all : (old : Option Value) → slice_get s.top.locals l ≡ Some old
      → ((v : Value) (t : Tag) → old ≡ Some v → IsOf (fields_by_name modules) v t → ⊥)
      → Kept modules (root_value s) (root_value (with_own_local s l new)) Nothing
  kept_all old there never root t far h = by_case (root_is root s.top.number l)
    where
      by_case : (root ≡ Local s.top.number l) ⊎ (root ≡ Local s.top.number l → ⊥) → Rooted (fields_by_name modules) (root_value (with_own_local s l new)) root t
      by_case (inl e) =
          let at_root : root_value s root ≡ old = subst (λ (x : Root). root_value s x ≡ old) (sym e) (own_root s l old there) in
          absurd (never h.value t (sym at_root ∙ h.is_there) h.is_of)
      by_case (inr far) = record { value = h.value; is_there = other_roots s l new root far ∙ h.is_there; is_of = h.is_of }

  kept_others : Kept modules (root_value s) (root_value (with_own_local s l new)) (λ root. root ≡ Local s.top.number l)
  kept_others root t far h = record { value = h.value; is_there = other_roots s l new root far ∙ h.is_there; is_of = h.is_of }

  pub stays_but : (old : Option Value) → slice_get s.top.locals l ≡ Some old → Unborrowed s l → StaysBut modules s (root_value (with_own_local s l new))
  stays_but None there free = record { gone = Nothing; kept = kept_all None there (λ v t e k. absurd cc); avoids = none_to_nothing s }
  stays_but (Some (Ref r)) there free =
      let never = λ (v : Value) (t : Tag) (e : Some (Ref r) ≡ Some v) (k : IsOf (fields_by_name modules) v t). subst (λ x. IsOf (fields_by_name modules) x t) (sym (same_Some (Ref r) v e)) k in
      record { gone = Nothing; kept = kept_all (Some (Ref r)) there never; avoids = none_to_nothing s }
  stays_but (Some (Leaf k n)) there free = record { gone = (λ root. root ≡ Local s.top.number l); kept = kept_others; avoids = free (Leaf k n) there refl }
  stays_but (Some (Struct name fields)) there free = record { gone = (λ root. root ≡ Local s.top.number l); kept = kept_others; avoids = free (Struct name fields) there refl }

module _ (h : Here) (i : Instruction) (types after : Types) (row : Row h i types after) (next : TypesAt h.home h.function (h.state.top.at + 1) after) where
  -- the local's declared type, and what it holds
  pub record Declared (l : ℕ) (t : Token) : Type 0 where
    pub is_type : slice_get row.stands.tokens l ≡ Some t
    pub value : Option Value
    pub holds : slice_get h.state.top.locals l ≡ Some value
    pub typed : LocalHasToken h.modules (root_value h.state) h.home value t

  pub declared : (l : ℕ) (t : Token) → local_type h.home h.function l ≡ Some t → Declared l t
  declared l t e =
      on_bind (local_tokens h.home h.function) (λ tokens. slice_get tokens l) t e (λ tokens tokens_are e1.
      let same : tokens ≡ row.stands.tokens = same_Some tokens row.stands.tokens (sym tokens_are ∙ row.stands.are_tokens) in
      let at : slice_get row.stands.tokens l ≡ Some t = subst (λ (x : List Token). slice_get x l ≡ Some t) same e1 in
      let found = local_at h.modules (root_value h.state) h.home h.state.top.locals row.stands.tokens l t row.stands.locals at in
      record { is_type = at; value = found.0; holds = found.1; typed = found.2 })

  -- the tag of a local's type
  local_tag-is : (l : ℕ) (t : Token) (tag : Tag) → Declared l t → token_named h.home t ≡ Some tag → local_tag h l ≡ Ok tag
  local_tag-is l t tag d named = rw (row.stands.are_tokens, d.is_type) (row.facts.tag t tag named)

  -- a local that is there is of its type, and so it is held
  held_typed : (l : ℕ) (t : Token) → Declared l t → Part (λ v. HasToken h.modules (root_value h.state) h.home v t × (slice_get h.state.top.locals l ≡ Some (Some v))) (held h l)
  unfolding held
  held_typed l t d = by_case d.value d.holds d.typed
    where
      by_case : (v : Option Value) → slice_get h.state.top.locals l ≡ Some v → LocalHasToken h.modules (root_value h.state) h.home v t
          → Part (λ v. HasToken h.modules (root_value h.state) h.home v t × (slice_get h.state.top.locals l ≡ Some (Some v))) (held h l)
      by_case None e k = rw e tt
      by_case (Some v) e k =
          let P : Value → Type 0 = λ w. HasToken h.modules (root_value h.state) h.home w t × (slice_get h.state.top.locals l ≡ Some (Some w)) in
          known P (entry h.state.top.locals l) _ (Some v) (ap (λ (x : Option (Option Value)). ok_or x (Faults LinkageFault)) e)
          (known P (local_tag h l) _ k.tag (local_tag-is l t k.tag d k.names)
          (passes P _ _ _ (typed_has_tag (fields_by_name h.modules) h.state v k.tag k.typed) (k, e)))

  pub copies : (l : ℕ) → of_copy h.home h.function l types ≡ Some after → Part (TurnTyped h.modules) (copy_local h l)
  unfolding copy_local
  copies l e =
      on_bind (local_type h.home h.function l) _ after e (λ t t_is e1.
      on_bind (token_abilities h.home t) _ after e1 (λ a a_is e2.
      on_test a.copy (t ∷ types) after e2 (λ able same.
      some (TurnTyped h.modules) _ (held h l) _ (held_typed l t (declared l t t_is)) (λ v typed.
      tried (TurnTyped h.modules) (can_copy h v) _ _ tt (λ copied.
      stays_at h i types after (v ∷ h.state.top.stack) (h.state.top.at + 1) row
      (subst (λ (ts : Types). HaveTokens h.modules (root_value h.state) h.home (v ∷ h.state.top.stack) ts) same (typed.0, row.stands.stack)) next)))))

  -- the state with a local changed and these operands
  pub changed : (l : ℕ) (t : Token) (new : Option Value) (stack : List Value) → (b : StaysBut h.modules h.state (root_value (with_own_local h.state l new))) → Declared l t →
      LocalHasToken h.modules (root_value (with_own_local h.state l new)) h.home new t → HaveTokens h.modules (root_value (with_own_local h.state l new)) h.home stack after →
      Part (TurnTyped h.modules) (goes_on (with_stack (with_own_local h.state l new) stack))
  changed l t new stack b d typed stacked =
      moved h i types after row (h.state.top.at + 1) (with_own_local h.state l new).top.locals stack h.state.below h.state.storage h.state.events next row.stands.numbered.1
      (local_set h.modules (root_value (with_own_local h.state l new)) h.home h.state.top.locals row.stands.tokens l t new
      (keep_locals h.modules (root_value h.state) (root_value (with_own_local h.state l new)) b.gone b.kept h.home h.state.top.locals row.stands.tokens b.avoids.0.0 row.stands.locals) d.is_type typed)
      stacked
      (keep_below h.modules (root_value h.state) (root_value (with_own_local h.state l new)) b.gone b.kept h.state.top.entered_with row.stands.results h.state.below b.avoids.1 row.stands.below)
      row.stands.storage

  -- what the local holds stays typed where the local is changed
  kept_local : (l : ℕ) (t : Token) (v : Value) (look' : Roots) → (b : StaysBut h.modules h.state look') → Declared l t
      → slice_get h.state.top.locals l ≡ Some (Some v) → HasToken h.modules look' h.home v t
  kept_local l t v look' b d there =
      let all = keep_locals h.modules (root_value h.state) look' b.gone b.kept h.home h.state.top.locals row.stands.tokens b.avoids.0.0 row.stands.locals in
      let found = local_at h.modules look' h.home h.state.top.locals row.stands.tokens l t all d.is_type in
      let same : found.0 ≡ Some v = same_Some found.0 (Some v) (sym found.1 ∙ there) in
      subst (λ (x : Option Value). LocalHasToken h.modules look' h.home x t) same found.2

  pub moves : (l : ℕ) → (local_type h.home h.function l >>= λ t. Some (t ∷ types)) ≡ Some after → Unborrowed h.state l → Part (TurnTyped h.modules) (move_local h l)
  unfolding move_local
  moves l e free =
      on_bind (local_type h.home h.function l) (λ t. Some (t ∷ types)) after e (λ t t_is e1.
      let d = declared l t t_is in
      some (TurnTyped h.modules) _ (held h l) _ (held_typed l t d) (λ v typed.
      tested (TurnTyped h.modules) (untouched h.state (local_place h l)) _ (frozen h.state (local_place h l)) (
      let look' : Roots = root_value (with_own_local h.state l None) in
      let b = stays_but h.modules h.state l None (Some v) typed.1 free in
      changed l t None (v ∷ h.state.top.stack) b d tt
      (subst (λ (ts : Types). HaveTokens h.modules look' h.home (v ∷ h.state.top.stack) ts) (same_Some (t ∷ types) after e1)
      (kept_local l t v look' b d typed.1, keep_stack h.modules (root_value h.state) look' b.gone b.kept h.home h.state.top.stack types b.avoids.0.1 row.stands.stack)))))

  pub stores : (l : ℕ) → (local_type h.home h.function l >>= λ t. taken (t ∷ []) types) ≡ Some after → Unborrowed h.state l → Part (TurnTyped h.modules) (store_local h l)
  unfolding store_local
  stores l e free =
      on_bind (local_type h.home h.function l) (λ t. taken (t ∷ []) types) after e (λ t t_is e1.
      let d = declared l t t_is in
      let all : types ≡ t ∷ after = taken-is (t ∷ []) types after e1 in
      let top = top_typed h i types after row t after all in
      let taken_is : operand h.state.top.stack ≡ Ok (top.0, top.1) = ap operand top.2 in
      let look' : Roots = root_value (with_own_local h.state l (Some top.0)) in
      let b = stays_but h.modules h.state l (Some top.0) d.value d.holds free in
      let avoided : Avoid b.gone (references (top.0 ∷ top.1)) = subst (λ (x : List Value). Avoid b.gone (references x)) top.2 b.avoids.0.1 in
      let kept = keep_stack h.modules (root_value h.state) look' b.gone b.kept h.home (top.0 ∷ top.1) (t ∷ after) avoided (top.3, top.4) in
      known (TurnTyped h.modules) (operand h.state.top.stack) _ (top.0, top.1) taken_is
      (known (TurnTyped h.modules) (entry h.state.top.locals l) _ d.value (subst (λ (x : Option (Option Value)). ok_or x (Faults LinkageFault) ≡ Ok d.value) (sym d.holds) refl)
      (known (TurnTyped h.modules) (local_tag h l) _ top.3.tag (local_tag-is l t top.3.tag d top.3.names)
      (passes (TurnTyped h.modules) _ _ _ (typed_has_tag (fields_by_name h.modules) h.state top.0 top.3.tag top.3.typed)
      (tested (TurnTyped h.modules) (need (may_drop h d.value) (Faults LostFault)) _ (lost (may_drop h d.value)) (
      tested (TurnTyped h.modules) (untouched (with_stack h.state top.1) (local_place h l)) _ (frozen (with_stack h.state top.1) (local_place h l)) (
      changed l t (Some top.0) top.1 b d kept.0 kept.1)))))))

  -- a reference to a local that is held
  pub to_local : (is_mutable : Bool) (l : ℕ) (v : Value) (t : ValueType) → slice_get h.state.top.locals l ≡ Some (Some v) → (typed : HasToken h.modules (root_value h.state) h.home v (Plain t)) →
      HasType (fields_by_name h.modules) (root_value h.state) (Ref (record { is_mutable = is_mutable; place = local_place h l })) (ReferenceTag is_mutable typed.tag)
  to_local is_mutable l v t there typed = (
    refl,
    record {
      base = typed.tag;
      root = record {
        value = v;
        is_there = own_root h.state l (Some v) there;
        is_of = plain_is (fields_by_name h.modules) (root_value h.state) v typed.tag (named_plain h.home t typed.tag typed.names) typed.typed;
      };
      leads = AtOnce;
    },
  )

  pub borrows : (is_mutable : Bool) (given : ValueType → Token)
      → ((t : ValueType) (tag : Tag) → value_type_named h.home t ≡ Some tag → token_named h.home (given t) ≡ Some (ReferenceTag is_mutable tag))
      → (l : ℕ) → of_borrow_local given h.home h.function l types ≡ Some after → Part (TurnTyped h.modules) (borrow_local is_mutable h l)
  unfolding borrow_local
  borrows is_mutable given names l e =
      on_bind (local_type h.home h.function l) _ after e (λ t t_is e1.
      on_bind (plain_of t) _ after e1 (λ u u_is e2.
      let plain : t ≡ Plain u = plain_of-is t u u_is in
      let d : Declared l (Plain u) = declared l (Plain u) (subst (λ (x : Token). local_type h.home h.function l ≡ Some x) plain t_is) in
      some (TurnTyped h.modules) _ (held h l) _ (held_typed l (Plain u) d) (λ v typed.
      known (TurnTyped h.modules) (local_tag h l) _ typed.0.tag (local_tag-is l (Plain u) typed.0.tag d typed.0.names)
      (passes (TurnTyped h.modules) _ _ _ (ap not (named_plain h.home u typed.0.tag typed.0.names))
      (stays_at h i types after (Ref (record { is_mutable = is_mutable; place = local_place h l }) ∷ h.state.top.stack) (h.state.top.at + 1) row
      (subst (λ (ts : Types). HaveTokens h.modules (root_value h.state) h.home (Ref (record { is_mutable = is_mutable; place = local_place h l }) ∷ h.state.top.stack) ts)
      (same_Some (given u ∷ types) after e2)
      (record { tag = ReferenceTag is_mutable typed.0.tag; names = names u typed.0.tag typed.0.names; typed = to_local is_mutable l v u typed.1 typed.0 }, row.stands.stack)) next)))))
