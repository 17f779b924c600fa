-- What stays as the types say while a frame waits; results are as the handle of the Call says.
use Rattle.mv_soundness.proofs.Guided.Common.{◌≡◌, ℕ, zero, suc, List, [], ◌∷◌, ◌++◌, map, true, false, refl, sym, ◌∙◌, ap, subst, arith, Bool, Option, Some, None, Ok, reverse, ap₂}
use Rattle.mv_soundness.proofs.Guided.Common.{and_parts, same_Some, slice_get, option_and_then, same_abilities, Module, FunctionDefinition, struct_name, declared, for_each, Tag}
use Rattle.mv_soundness.proofs.Guided.Common.{same_tags, StructTag, LeafTag, ReferenceTag, Call, FunctionHandle, Token, Plain, ReferenceTo, MutableReferenceTo, ValueType, OfLeaf}
use Rattle.mv_soundness.proofs.Guided.Common.{OfStruct, ok-is, on_ok, on_need, callee-is, signature-is, return-is, reference_of, Frame, State, Callee, Here, Goes, Faults, LinkageFault}
use Rattle.mv_soundness.proofs.Guided.Common.{entry, linked, tag_named, value_type_tag, Value, Reference, map-turned, Fits, token_kind, operand_kind, Stood, seen_of, StoodOn, point_of}
use Rattle.mv_soundness.proofs.Guided.Common.{held_as, local_of, StoodFit, AllAgree}
use Rattle.mv_machine.specs.StepControl.{callee, signature_tags, return_results}
use Rattle.mv_borrow_graph.proofs.Abstract.Terms.Lists.{Value as TheValue, Plain as NoRef, Reference as Held}
use Rattle.mv_soundness.proofs.{Borrows.Same.SameSeen, Borrows.Same.SameFrames, Borrows.Operands.tags-kinds, Borrows.Invariant.refit}
use Rattle.mv_link_rules.proofs.TagTests.{same_tags-is}

-- ---- tags

-- whether a tag is a reference's, and whether a mutable one's
abbrev tag_kind : Tag → Option Bool
tag_kind (LeafTag kind) = None
tag_kind (StructTag name) = None
tag_kind (ReferenceTag m to) = Some m

plain-kind : (modules : List Module) (m : Module) (t : ValueType) (tag : Tag) → value_type_tag modules m t ≡ Ok tag → tag_kind tag ≡ None
plain-kind modules m (OfLeaf kind) tag e = ap tag_kind (sym (ok-is (LeafTag kind) tag e))
plain-kind modules m (OfStruct i) tag e =
    on_ok (entry m.struct_handles i) _ tag e (λ handle handle_is e1.
    on_ok (linked (struct_name m i)) _ tag e1 (λ name name_is e2.
    on_ok (linked (declared modules name)) _ tag e2 (λ abilities abilities_is e3.
    on_need (same_abilities abilities handle.abilities) (Faults LinkageFault) _ tag e3 (λ met e4. ap tag_kind (sym (ok-is (StructTag name) tag e4))))))

named-kind : (modules : List Module) (m : Module) (t : Token) (tag : Tag) → tag_named modules m t ≡ Ok tag → token_kind t ≡ tag_kind tag
named-kind modules m (Plain t) tag e = sym (plain-kind modules m t tag e)
named-kind modules m (ReferenceTo t) tag e = on_ok (value_type_tag modules m t) _ tag e (λ to to_is e1. ap tag_kind (ok-is (ReferenceTag false to) tag e1))
named-kind modules m (MutableReferenceTo t) tag e = on_ok (value_type_tag modules m t) _ tag e (λ to to_is e1. ap tag_kind (ok-is (ReferenceTag true to) tag e1))

named-kinds : (modules : List Module) (m : Module) (ts : List Token) (tags : List Tag) → for_each (tag_named modules m) ts ≡ Ok tags → map token_kind ts ≡ map tag_kind tags
named-kinds modules m [] tags e = ap (map tag_kind) (ok-is [] tags e)
named-kinds modules m (t ∷ ts) tags e =
    on_ok (tag_named modules m t) _ tags e (λ tag tag_is e1.
    on_ok (for_each (tag_named modules m) ts) _ tags e1 (λ more more_is e2.
    ap₂ (λ (x : Option Bool) (xs : List (Option Bool)). x ∷ xs) (named-kind modules m t tag tag_is) (named-kinds modules m ts more more_is) ∙ ap (map tag_kind) (ok-is (tag ∷ more) tags e2)))

-- ---- results

signature-kinds : (modules : List Module) (m : Module) (i : ℕ) (tags : List Tag) (ts : List Token) → signature_tags modules m i ≡ Ok tags → slice_get m.signatures i ≡ Some ts
    → map token_kind ts ≡ map tag_kind tags
signature-kinds modules m i tags ts e at =
    let named = signature-is modules m i tags e in
    ap (map token_kind) (same_Some ts named.0 (sym at ∙ named.1)) ∙ named-kinds modules m named.0 tags named.2

-- a callee's results are references where its handle says so
pub callee-agrees : (h : Here) (j : ℕ) (c : Callee) → callee h j ≡ Ok c → (handle : FunctionHandle) (results : List Token)
    → slice_get h.home.function_handles j ≡ Some handle → slice_get h.home.signatures handle.results ≡ Some results
    → (own : FunctionHandle) (own_results : List Token) → slice_get c.home.function_handles c.definition.handle ≡ Some own
    → slice_get c.home.signatures own.results ≡ Some own_results → map token_kind results ≡ map token_kind own_results
callee-agrees h j c e handle results handle_at results_at own own_results own_at own_results_at =
    let is = callee-is h j c e in
    let one : handle ≡ is.handle = same_Some handle is.handle (sym handle_at ∙ is.is_handle) in
    let two : own ≡ is.own = same_Some own is.own (sym own_at ∙ is.is_own) in
    signature-kinds h.modules h.home is.handle.results c.results results is.are_results (subst (λ (z : FunctionHandle). slice_get h.home.signatures z.results ≡ Some results) one results_at)
    ∙ ap (map tag_kind) (same_tags-is c.results is.own_results (and_parts (same_tags c.parameters is.own_parameters) (same_tags c.results is.own_results) is.agree).1)
    ∙ sym (signature-kinds h.modules c.home is.own.results is.own_results own_results is.are_own_results
    (subst (λ (z : FunctionHandle). slice_get c.home.signatures z.results ≡ Some own_results) two own_results_at))

-- the results of a function that returns are references where its own handle says so
pub record ReturnsAs (h : Here) : Type 0 where
  pub own : FunctionHandle
  pub results : List Token
  pub is_own : slice_get h.home.function_handles h.function.handle ≡ Some own
  pub are_results : slice_get h.home.signatures own.results ≡ Some results
  pub kinds : map token_kind (reverse results) ≡ map operand_kind (map reference_of h.state.top.stack)

pub returns-as : (h : Here) (t : State) → return_results h ≡ Ok (Goes t) → ReturnsAs h
returns-as h t e =
    let r = return-is h (Goes t) e in
    let named = signature-is h.modules h.home r.own.results r.tags r.are_tags in
    let ts : List Token = named.0 in
    record {
      own = r.own;
      results = ts;
      is_own = r.is_own;
      are_results = named.1;
      kinds = map-turned token_kind ts ∙ ap reverse (tags-kinds h.modules h.home h.state r.results ts r.tags named.2 r.tagged) ∙ sym (map-turned operand_kind (map reference_of r.results))
          ∙ ap (map operand_kind) (sym (map-turned reference_of r.results)) ∙ ap (λ (l : List Value). map operand_kind (map reference_of l)) r.are_all;
    }

-- ---- waiting frames

kind_held : TheValue → Option Bool
kind_held (NoRef n) = None
kind_held (Held r) = Some r.mutable

held-kind : (o : Option Reference) → kind_held (held_as o) ≡ operand_kind o
unfolding kind_held
held-kind None = refl
held-kind (Some r) = refl

-- what a local holds after a write is a reference where what it held was
local-held : (xs ys : List (Option Value)) (l : ℕ) (v : Value) → map local_of xs ≡ map local_of ys → option_and_then (λ (o : Option Value). o) (slice_get ys l) ≡ Some v
    → (u : Value) × (option_and_then (λ (o : Option Value). o) (slice_get xs l) ≡ Some u) × (operand_kind (reference_of u) ≡ operand_kind (reference_of v))
local-held (x ∷ xs) (y ∷ ys) zero v h e =
    let z : (local_of x ∷ map local_of xs) ≡ (local_of y ∷ map local_of ys) = h in
    let heads : local_of x ≡ local_of y = cc in
    first x (heads ∙ ap local_of e)
  where
    first : (x : Option Value) → local_of x ≡ Some (held_as (reference_of v)) → (u : Value) × (x ≡ Some u) × (operand_kind (reference_of u) ≡ operand_kind (reference_of v))
    first None g = absurd cc
    first (Some u) g = (u, refl, sym (held-kind (reference_of u)) ∙ ap kind_held (same_Some (held_as (reference_of u)) (held_as (reference_of v)) g) ∙ held-kind (reference_of v))
local-held (x ∷ xs) (y ∷ ys) (suc l) v h e =
    let z : (local_of x ∷ map local_of xs) ≡ (local_of y ∷ map local_of ys) = h in
    local-held xs ys l v (cc) e
local-held [] [] l v h e = absurd cc
local-held xs ys l v h e = absurd cc

fits-same : (x : Stood) (g : Frame) → SameSeen x.frame g → Fits (point_of x) (seen_of x) → Fits (point_of x) (record { frame = g; lent = x.lent })
fits-same x g q fits = record {
  stack = fits.stack ∙ ap (λ (l : List Value). map operand_kind (reverse x.lent ++ map reference_of l)) (sym q.stack);
  locals = λ l v e. let u = local-held x.frame.locals g.locals l v (sym q.locals) e in let t = fits.locals l u.0 u.1 in (t.0, t.1, t.2 ∙ u.2);
}

pub fit-refit : (lent : List (Option Reference)) (fs gs : List Frame) (xs : List Stood) → StoodOn lent fs xs → SameFrames fs gs → StoodFit xs → StoodFit (refit xs gs)
fit-refit lent [] [] [] s q f = tt
fit-refit lent (f ∷ fs) (g ∷ gs) (x ∷ xs) s q t = (fits-same x g (subst (λ z. SameSeen z g) (sym s.0) q.0) t.0, fit-refit f.entered_with fs gs xs s.2 q.1 t.1)
fit-refit lent fs gs xs s q f = absurd (grind arith)

pub agree-refit : (home : Module) (function : FunctionDefinition) (lent : List (Option Reference)) (fs gs : List Frame) (xs : List Stood)
    → StoodOn lent fs xs → SameFrames fs gs → AllAgree home function xs → AllAgree home function (refit xs gs)
agree-refit home function lent [] [] [] s q a = tt
agree-refit home function lent (f ∷ fs) (g ∷ gs) (x ∷ xs) s q a = (
  λ i handle results at. a.0 i handle results (subst (λ (n : ℕ). slice_get x.function.code n ≡ Some (Call i)) (q.0.at ∙ ap (λ (y : Frame). y.at) (sym s.0)) at),
  agree-refit x.home x.function f.entered_with fs gs xs s.2 q.1 a.1,
)
agree-refit home function lent fs gs xs s q a = absurd (grind arith)
