-- The machine's rules taken apart: what they take off the stack and put on it.
use Rattle.mv_soundness.proofs.Borrows.Common.{refl, sym, ◌≡◌, List, [], ◌∷◌, true, false, ap, subst, ◌++◌, map, Option, Some, None, Ok, reverse, Bool, ◌∙◌, ap₂, Result, Err, and_parts}
use Rattle.mv_soundness.proofs.Borrows.Common.{reverse_onto, beq, option_map_or, ⊤, option_and_then, option_map, Module, ◌>>>◌, Tag, Token, Plain, ReferenceTo, MutableReferenceTo, ok-is}
use Rattle.mv_soundness.proofs.Borrows.Common.{on_ok, GivesLeaf, reference_of, State, place_value, Here, tag_named, Faults, entry, has_tag, Value, Leaf, Struct, Ref, token_kind}
use Rattle.mv_soundness.proofs.Borrows.Common.{operand_kind, NoneOf}
use Rattle.mv_move_types.specs.{Names.StructName, Module.struct_name, declared.token.LeafKind.LeafKind, declared.token.ValueType.ValueType, declared.token.ValueType.TheVariants.OfLeaf}
use Rattle.mv_move_types.specs.{declared.token.ValueType.TheVariants.OfStruct, AbilitySets.same_abilities, Named.declared, Results.for_each, Results.◌>>=◌}
use Rattle.mv_move_types.specs.Tags.{LeafTag, ReferenceTag, StructTag, same_tag}
use Rattle.mv_machine.specs.Typing.{linked, LinkageFault, value_type_tag, have_tags, plain_tag}
use Rattle.mv_machine.proofs.Laws.{on_need}
use Rattle.mv_soundness.proofs.Borrows.Kept.{Falls, falls-popped, falls-pushed, falls-then, falls-same}
use Rattle.mv_soundness.proofs.Typing.Tests.{beq-is}

-- the same for what lives higher
pub on_result : {A B E : Type 0} {P : Type 1} (r : Result A E) (f : A → Result B E) (y : B) → (r >>= f) ≡ Ok y → ((x : A) → r ≡ Ok x → f x ≡ Ok y → P) → P
on_result (Ok x) f y e go = go x refl e
on_result (Err d) f y e go = absurd cc

pub on_option : {A B : Type 0} {P : Type 1} (r : Option A) (f : A → Option B) (y : B) → (r >>> f) ≡ Some y → ((x : A) → r ≡ Some x → f x ≡ Some y → P) → P
on_option (Some x) f y e go = go x refl e
on_option None f y e go = absurd cc

-- ---- what falls

pub taken-falls : (taken rest : List Value) → Falls (map reference_of (taken ++ rest)) (map reference_of rest)
taken-falls [] rest = falls-same (map reference_of rest)
taken-falls (v ∷ taken) rest =
    falls-then (map reference_of (v ∷ taken ++ rest)) (map reference_of (taken ++ rest)) (map reference_of rest)
    (falls-popped (map reference_of (v ∷ taken ++ rest)) (map reference_of (taken ++ rest)) (reference_of v) refl) (taken-falls taken rest)

-- an operator gives no reference
pub leaf-falls : (h : Here) (s r : List Value) → GivesLeaf h s r → Falls (map reference_of s) (map reference_of r)
leaf-falls h s r g =
    subst (λ (x : List Value). Falls (map reference_of x) (map reference_of r)) (sym g.before)
    (subst (λ (x : List Value). Falls (map reference_of (g.taken ++ g.rest)) (map reference_of x)) (sym g.afterwards)
    (falls-pushed (map reference_of (g.taken ++ g.rest)) (map reference_of g.rest) (reference_of (Leaf g.kind g.number)) refl (taken-falls g.taken g.rest)))

pub none-more : (xs : List Value) (s t : List Value) → NoneOf xs → Falls (map reference_of s) (map reference_of t) → Falls (map reference_of s) (map reference_of (xs ++ t))
none-more [] s t h f = f
none-more (v ∷ xs) s t h f = falls-pushed (map reference_of s) (map reference_of (xs ++ t)) (reference_of v) h.0 (none-more xs s t h.1 f)

none-append : (xs ys : List Value) → NoneOf xs → NoneOf ys → NoneOf (xs ++ ys)
none-append [] ys h k = k
none-append (v ∷ xs) ys h k = (h.0, none-append xs ys h.1 k)

pub none-reverse : (xs : List Value) → NoneOf xs → NoneOf (reverse xs)
none-reverse [] h = h
none-reverse (v ∷ xs) h = subst NoneOf (sym (reverse_onto xs v [])) (none-append (reverse xs) (v ∷ []) (none-reverse xs h.1) (h.0, tt))

-- ---- tags

leaf-tag : (kind : LeafKind) (tag to : Tag) (b : Bool) → tag ≡ ReferenceTag b to → same_tag (LeafTag kind) tag ≡ true → ⊥
leaf-tag kind tag to b h e = let d : false ≡ true = sym (ap (same_tag (LeafTag kind)) h) ∙ e in absurd cc

struct-tag : (name : StructName) (tag to : Tag) (b : Bool) → tag ≡ ReferenceTag b to → same_tag (StructTag name) tag ≡ true → ⊥
struct-tag name tag to b h e = let d : false ≡ true = sym (ap (same_tag (StructTag name)) h) ∙ e in absurd cc

-- a plain type's tag is no reference's
abbrev pub IsPlainTag : Tag → Type 0
IsPlainTag (LeafTag kind) = ⊤
IsPlainTag (StructTag name) = ⊤
IsPlainTag (ReferenceTag b to) = ⊥

plain-tag : (modules : List Module) (m : Module) (t : ValueType) (tag : Tag) → value_type_tag modules m t ≡ Ok tag → IsPlainTag tag
plain-tag modules m (OfLeaf kind) tag h = subst IsPlainTag (ok-is (LeafTag kind) tag h) tt
plain-tag modules m (OfStruct i) tag h =
    on_ok (entry m.struct_handles i) _ tag h (λ handle handle_is e1.
    on_ok (linked (struct_name m i)) _ tag e1 (λ name name_is e2.
    on_ok (linked (declared modules name)) _ tag e2 (λ abilities abilities_is e3.
    on_need (same_abilities abilities handle.abilities) (Faults LinkageFault) _ tag e3 (λ ok e4. subst IsPlainTag (ok-is (StructTag name) tag e4) tt))))

reference-tag : (modules : List Module) (m : Module) (b : Bool) (t : ValueType) (tag : Tag)
    → (value_type_tag modules m t >>= λ to. Ok (ReferenceTag b to)) ≡ Ok tag → (to : Tag) × (tag ≡ ReferenceTag b to)
reference-tag modules m b t tag h = on_ok (value_type_tag modules m t) _ tag h (λ to to_is e. (to, sym (ok-is (ReferenceTag b to) tag e)))

pub not-plain : (b : Bool) (x tag : Tag) → IsPlainTag tag → same_tag (ReferenceTag b x) tag ≡ true → ⊥
not-plain b x (ReferenceTag c to) p h = p
not-plain b x tag p h = cc

same-flag : (a b : Bool) (x to tag : Tag) → tag ≡ ReferenceTag b to → same_tag (ReferenceTag a x) tag ≡ true → a ≡ b
same-flag a b x to tag h e = beq-is a b (and_parts (beq a b) (same_tag x to) (sym (ap (same_tag (ReferenceTag a x)) h) ∙ e)).0

pub followed : (o : Option Tag) (a : Bool) (tag : Tag) → option_map_or (λ own. same_tag own tag) (option_map (ReferenceTag a) o) false ≡ true → (x : Tag) × (same_tag (ReferenceTag a x) tag ≡ true)
followed None a tag h = absurd cc
followed (Some x) a tag h = (x, h)

-- a value that has a type's tag is a reference where the type is
pub tag-kind : (modules : List Module) (m : Module) (s : State) (v : Value) (t : Token) (tag : Tag) → tag_named modules m t ≡ Ok tag → has_tag s v tag ≡ true
    → token_kind t ≡ operand_kind (reference_of v)
tag-kind modules m s (Ref r) (Plain t) tag h k =
    let x = followed (option_and_then plain_tag (place_value s r.place)) r.is_mutable tag k in
    absurd (not-plain r.is_mutable x.0 tag (plain-tag modules m t tag h) x.1)
tag-kind modules m s (Leaf kind n) (ReferenceTo t) tag h k = let y = reference-tag modules m false t tag h in absurd (leaf-tag kind tag y.0 false y.1 k)
tag-kind modules m s (Struct name fs) (ReferenceTo t) tag h k = let y = reference-tag modules m false t tag h in absurd (struct-tag name tag y.0 false y.1 k)
tag-kind modules m s (Ref r) (ReferenceTo t) tag h k =
    let y = reference-tag modules m false t tag h in
    let x = followed (option_and_then plain_tag (place_value s r.place)) r.is_mutable tag k in
    ap Some (sym (same-flag r.is_mutable false x.0 y.0 tag y.1 x.1))
tag-kind modules m s (Leaf kind n) (MutableReferenceTo t) tag h k = let y = reference-tag modules m true t tag h in absurd (leaf-tag kind tag y.0 true y.1 k)
tag-kind modules m s (Struct name fs) (MutableReferenceTo t) tag h k = let y = reference-tag modules m true t tag h in absurd (struct-tag name tag y.0 true y.1 k)
tag-kind modules m s (Ref r) (MutableReferenceTo t) tag h k =
    let y = reference-tag modules m true t tag h in
    let x = followed (option_and_then plain_tag (place_value s r.place)) r.is_mutable tag k in
    ap Some (sym (same-flag r.is_mutable true x.0 y.0 tag y.1 x.1))
tag-kind modules m s v (Plain t) tag h k = refl

-- values that have the tags of types
pub tags-kinds : (modules : List Module) (m : Module) (s : State) (vs : List Value) (ts : List Token) (tags : List Tag) → for_each (tag_named modules m) ts ≡ Ok tags → have_tags s vs tags ≡ true
    → map token_kind ts ≡ map operand_kind (map reference_of vs)
tags-kinds modules m s [] [] tags h k = refl
tags-kinds modules m s (v ∷ vs) [] tags h k = absurd (none tags (ok-is [] tags h) k)
  where
    none : (tags : List Tag) → [] ≡ tags → have_tags s (v ∷ vs) tags ≡ true → ⊥
    none [] h k = cc
    none (t ∷ tags) h k = cc
tags-kinds modules m s vs (t ∷ ts) tags h k =
    on_ok (tag_named modules m t) _ tags h (λ tag tag_is e1.
    on_ok (for_each (tag_named modules m) ts) _ tags e1 (λ more more_is e2.
    one vs tag more tag_is (λ us g. tags-kinds modules m s us ts more more_is g) (subst (λ (x : List Tag). have_tags s vs x ≡ true) (sym (ok-is (tag ∷ more) tags e2)) k)))
  where
    one : (vs : List Value) (tag : Tag) (more : List Tag) → tag_named modules m t ≡ Ok tag
        → ((us : List Value) → have_tags s us more ≡ true → map token_kind ts ≡ map operand_kind (map reference_of us))
        → have_tags s vs (tag ∷ more) ≡ true → token_kind t ∷ map token_kind ts ≡ map operand_kind (map reference_of vs)
    one [] tag more d g k = absurd cc
    one (v ∷ vs) tag more d g k =
        let both = and_parts (has_tag s v tag) (have_tags s vs more) k in
        ap₂ (λ (x : Option Bool) (xs : List (Option Bool)). x ∷ xs) (tag-kind modules m s v t tag d both.0) (g vs both.1)
