-- What the tables of a module say of a function's locals.
use Rattle.std.proofs.Common.{◌≡◌, ℕ, zero, suc, ◌+◌, ◌-◌, ◌≤◌, ◌<◌, Bool, true, false, ◌&&◌, List, [], ◌∷◌, ◌++◌, length, length-append, replicate, take, drop}
use Rattle.std.proofs.Common.{slice_get, Option, Some, None, IsSome, refl, sym, ap, ◌∙◌, subst, arith, option_map, ⊎_elim}
use Rattle.std.specs.List.{list_all, zip}
use Rattle.std.specs.Bool.{then_some}
use Rattle.std.proofs.lemmas.Bool.{and_parts}
use Rattle.std.proofs.lemmas.List.{length-replicate}
use Rattle.std.proofs.lemmas.Option.{slice_get_cases}
use Rattle.std.proofs.lemmas.Bool.{ltb-true}
use Rattle.mv_move_types.specs.declared.borrow.Availability.{Availability}
use Rattle.mv_move_types.specs.declared.borrow.Availability.TheVariants.{Unavailable, Available, Maybe}
use Rattle.mv_move_types.specs.declared.token.Token.{Token}
use Rattle.mv_move_types.specs.declared.tables.FunctionHandle.{FunctionHandle}
use Rattle.mv_move_types.specs.Options.{◌>>=◌}
use Rattle.mv_move_types.specs.Module.{Module, FunctionDefinition, local_tokens, parameter_tokens}
use Rattle.mv_bound_rules.specs.Bounds.{below, InBounds, function_in, function_handle_in, local_count}
use Rattle.mv_type_rules.specs.TypesHold.{Point, point_at}
use Rattle.mv_certificate_rules.specs.LocalsRules.{may_leave, leave_known, start_locals}
use Rattle.mv_locals_safety.specs.Domain.{Function, may_stay, IsOfLocals}
use Rattle.mv_bound_rules.proofs.Entries.{all_at, there_below}

local_tokens_some : (m : Module) (d : FunctionDefinition) (h : FunctionHandle) (ps others : List Token)
    → slice_get m.function_handles d.handle ≡ Some h → slice_get m.signatures h.parameters ≡ Some ps → slice_get m.signatures d.locals ≡ Some others
    → local_tokens m d ≡ Some (ps ++ others)
local_tokens_some m d h ps others a b c = rw (a, b, c) refl

-- a function's signatures are there
pub locals_there : (m n : Module) (f : ℕ) (d : FunctionDefinition) → n ≡ m → InBounds m → slice_get n.functions f ≡ Some d → (ts : List Token) × (local_tokens n d ≡ Some ts)
locals_there m n f d same bounds at =
    let bounds-n = subst InBounds (sym same) bounds in
    let in_function = all_at (function_in n) n.functions f d bounds-n.functions at in
    let three = and_parts _ _ in_function in
    let two = and_parts _ _ three.0 in
    let one = and_parts _ _ two.0 in
    let handle = there_below n.function_handles d.handle one.0 in
    let in_handle = all_at (function_handle_in n) n.function_handles d.handle handle.0 bounds-n.function_handles handle.1 in
    let front = and_parts _ _ (and_parts _ _ in_handle).0 in
    let parameters = there_below n.signatures handle.0.parameters front.1 in
    let others = there_below n.signatures d.locals one.1 in
    (parameters.0 ++ others.0, local_tokens_some n d handle.0 parameters.0 others.0 handle.1 parameters.1 others.1)

pub some_there : {A B : Type 0} (f : A → B) (o : Option A) (found : Option B) (x : B) → option_map f o ≡ found → found ≡ Some x → IsSome o
some_there f None found x e h = absurd (let no : ⊥ = cc (e, h) in no)
some_there f (Some y) found x e h = refl

may_leave_zipped : (p : Point) (ts : List Token) (s : List Availability) → may_leave p ts s ≡ list_all (λ q. may_stay p.home q.0 q.1) (zip ts s)
may_leave_zipped p [] [] = refl
may_leave_zipped p [] (a ∷ s) = refl
may_leave_zipped p (t ∷ ts) [] = refl
may_leave_zipped p (t ∷ ts) (Unavailable ∷ s) = may_leave_zipped p ts s
may_leave_zipped p (t ∷ ts) (Available ∷ s) = ap (λ r. may_stay p.home t Available && r) (may_leave_zipped p ts s)
may_leave_zipped p (t ∷ ts) (Maybe ∷ s) = ap (λ r. may_stay p.home t Maybe && r) (may_leave_zipped p ts s)

and_more : (b x y z : Bool) → x ≡ (y && z) → (b && x) ≡ ((b && y) && z)
and_more true x y z e = e
and_more false x y z e = refl

-- the locals beyond the availabilities don't count
zip-first : (ps others : List Token) (s : List Availability) → length s ≤ length ps → zip (ps ++ others) s ≡ zip ps s
zip-first [] [] [] h = refl
zip-first [] (o ∷ others) [] h = refl
zip-first [] others (a ∷ s) h = absurd (omega arith)
zip-first (p ∷ ps) others [] h = refl
zip-first (p ∷ ps) others (a ∷ s) h = ap (λ r. (p, a) ∷ r) (zip-first ps others s (omega arith))

pub remain_first : (m : Module) (ps others : List Token) (s : List Availability) → length s ≤ length ps
    → list_all (λ q. may_stay m q.0 q.1) (zip (ps ++ others) s) ≡ list_all (λ q. may_stay m q.0 q.1) (zip ps s)
remain_first m ps others s h = ap (λ r. list_all (λ q. may_stay m q.0 q.1) r) (zip-first ps others s h)

-- the parameters' availabilities, and those of the others
pub remain_both : (m : Module) (ps others : List Token) (s : List Availability) → length ps ≤ length s
    → list_all (λ q. may_stay m q.0 q.1) (zip (ps ++ others) s)
    ≡ (list_all (λ q. may_stay m q.0 q.1) (zip ps (take (length ps) s)) && list_all (λ q. may_stay m q.0 q.1) (zip others (drop (length ps) s)))
remain_both m [] others s h = refl
remain_both m (p ∷ ps) others [] h = absurd (omega arith)
remain_both m (p ∷ ps) others (a ∷ s) h = and_more (may_stay m p a) _ _ _ (remain_both m ps others s (omega arith))

module _ (m : Module) (ps others : List Token) (s first rest : List Availability) (long : length ps ≤ length s) (front : first ≡ take (length ps) s) (back : rest ≡ drop (length ps) s) where
  remain_parts : list_all (λ q. may_stay m q.0 q.1) (zip (ps ++ others) s) ≡ (list_all (λ q. may_stay m q.0 q.1) (zip ps first) && list_all (λ q. may_stay m q.0 q.1) (zip others rest))
  remain_parts = rw (front, back) (remain_both m ps others s long)

  pub remain_yes : (a b : Bool) → a ≡ list_all (λ q. may_stay m q.0 q.1) (zip ps first) → a ≡ true → b ≡ list_all (λ q. may_stay m q.0 q.1) (zip others rest)
      → b ≡ list_all (λ q. may_stay m q.0 q.1) (zip (ps ++ others) s)
  remain_yes a b own holds its = rw (remain_parts, sym own, holds) its

  pub remain_no : (a : Bool) → a ≡ list_all (λ q. may_stay m q.0 q.1) (zip ps first) → a ≡ false → a ≡ list_all (λ q. may_stay m q.0 q.1) (zip (ps ++ others) s)
  remain_no a own fails = rw (remain_parts, sym own, fails) refl

-- what a return makes of the availabilities, by the test of the locals' types
pub return_known : (d : Function) (m : Module) (e : FunctionDefinition) (ts ts' : List Token) (s s' : List Availability) (b r : Bool)
    → record { home = m; function = e } ≡ d → local_tokens m e ≡ Some ts → ts' ≡ ts → s' ≡ s → r ≡ list_all (λ q. may_stay m q.0 q.1) (zip ts' s')
    → r ≡ b
    → leave_known (point_at d.home d.function []) s ≡ then_some b s
return_known d m e ts ts' s s' b r view tokens same_ts same_s tested decided =
    let test = subst (λ x. list_all (λ q. may_stay m q.0 q.1) (zip x s) ≡ b) same_ts (subst (λ x. list_all (λ q. may_stay m q.0 q.1) (zip ts' x) ≡ b) same_s (sym tested ∙ decided)) in
    subst (λ (x : Function). leave_known (point_at x.home x.function []) s ≡ then_some b s) view (known test)
  where
    known : list_all (λ q. may_stay m q.0 q.1) (zip ts s) ≡ b → leave_known (point_at m e []) s ≡ then_some b s
    known test = rw (tokens, may_leave_zipped (point_at m e []) ts s, test) refl

module _ (m : Module) (d : FunctionDefinition) (ps others : List Token) (parameters : parameter_tokens m d ≡ Some ps) (tokens : local_tokens m d ≡ Some (ps ++ others)) where
  pub start_is : (s : List Availability) → s ≡ replicate (length ps) Available ++ replicate (length others) Unavailable → start_locals m d ≡ Some s
  start_is s is =
      let rest : length (ps ++ others) - length ps ≡ length others = omega (arith, length-append ps others) in
      rw (parameters, tokens, rest) (ap Some (sym is))

  pub state_is : (s : List Availability) → s ≡ replicate (length ps) Available ++ replicate (length others) Unavailable → IsOfLocals m d s
  state_is s is =
      let count : local_count m d ≡ length (ps ++ others) = rw tokens refl in
      let both : length (ps ++ others) ≡ length ps + length others = length-append ps others in
      let long : length s ≡ length (replicate (length ps) Available) + length (replicate (length others) Unavailable) = ap length is ∙ length-append (replicate (length ps) Available) (replicate (length others) Unavailable) in
      let first : length (replicate (length ps) Available) ≡ length ps = length-replicate (length ps) Available in
      let second : length (replicate (length others) Unavailable) ≡ length others = length-replicate (length others) Unavailable in
      omega (arith, count, both, long, first, second)
