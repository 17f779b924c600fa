-- The leaves of a fine value are of the kinds that its struct says, and its text is theirs.
use Rattle.mv_saved_text.proofs.Common.{[], ◌++◌, ◌+◌, ◌∙◌, ◌∷◌, ◌≡◌, List, None, Option, Some, ap, append-nil, append_assoc, ap₂, length, length-append, option_map, refl, subst, suc, sym, true}
use Rattle.mv_saved_text.proofs.Common.{zero, ℕ, none-some, same_Some, first_so, second_so, leaves_of, leaves_within, sum_of_fields, Module, struct_name, definition_of, StructName}
use Rattle.mv_saved_text.proofs.Common.{◌>>=◌, same_kind, Field, LeafKind, Token, Plain, OfLeaf, OfStruct, on_bind, flat, flat_fields, are_of_types, is_of_struct, is_of_type, leaf_fits}
use Rattle.mv_saved_text.proofs.Common.{Leaf, More, NoMore, Struct, Value, Values, kinds_equal, AreLeaves, coded, kinds_of_fields, kinds_of_token, kinds_within, leaf_bytes}
use Rattle.mv_saved_text.proofs.Common.{leaves_of_fields, leaves_text}
use Rattle.mv_saved_text.proofs.Loads.StructParts.{on_struct, on_struct_field}

-- ---- there are as many kinds as leaves

joined-count : (a b : Option (List LeafKind)) → option_map length (a >>= λ x. b >>= λ y. Some (x ++ y)) ≡ (option_map length a >>= λ n. option_map length b >>= λ r. Some (n + r))
joined-count (Some x) (Some y) = ap Some (length-append x y)
joined-count _ _ = refl

module _ (modules : List Module) where
  token-count : (depth : ℕ) → ((name : StructName) → option_map length (kinds_within depth modules name) ≡ leaves_within depth modules name) → (m : Module) (t : Token) →
      option_map length (kinds_of_token (kinds_within depth modules) m t) ≡ leaves_of (leaves_within depth modules) m t
  token-count depth deeper m (Plain (OfStruct h)) =
      elim (struct_name m h) as (λ o. option_map length (o >>= kinds_within depth modules) ≡ (o >>= leaves_within depth modules)) [ None ↦ refl | Some name ↦ deeper name ]
  token-count _ _ _ _ = refl

  fields-count : (depth : ℕ) → ((name : StructName) → option_map length (kinds_within depth modules name) ≡ leaves_within depth modules name) → (m : Module) (fs : List Field) →
      option_map length (kinds_of_fields (kinds_of_token (kinds_within depth modules) m) fs) ≡ sum_of_fields (leaves_of (leaves_within depth modules) m) fs
  fields-count depth deeper m [] = refl
  fields-count depth deeper m (f ∷ fs) =
      joined-count (kinds_of_token (kinds_within depth modules) m f.token) (kinds_of_fields (kinds_of_token (kinds_within depth modules) m) fs)
      ∙ ap₂ (λ (a b : Option ℕ). a >>= λ n. b >>= λ r. Some (n + r)) (token-count depth deeper m f.token) (fields-count depth deeper m fs)

  pub kinds-count : (depth : ℕ) (name : StructName) → option_map length (kinds_within depth modules name) ≡ leaves_within depth modules name
  kinds-count zero name = refl
  kinds-count (suc depth) name =
      elim (definition_of modules name) as (λ o. option_map length (o >>= λ d. kinds_of_fields (kinds_of_token (kinds_within depth modules) d.0) d.1)
      ≡ (o >>= λ d. sum_of_fields (leaves_of (leaves_within depth modules) d.0) d.1)) [ None ↦ refl | Some d ↦ fields-count depth (kinds-count depth) d.0 d.1 ]

-- ---- leaves one after the other

coded-append : (ks ls : List LeafKind) (ms ns : List ℕ) → AreLeaves ks ms → coded (ks ++ ls) (ms ++ ns) ≡ coded ks ms ++ coded ls ns
coded-append [] ls [] ns h = refl
coded-append (k ∷ ks) ls (m ∷ ms) ns h = ap (λ l. leaf_bytes k m ++ l) (coded-append ks ls ms ns h.1) ∙ sym (append_assoc (leaf_bytes k m) (coded ks ms) (coded ls ns))
coded-append _ _ _ _ h = absurd h

leaves-append : (ks ls : List LeafKind) (ms ns : List ℕ) → AreLeaves ks ms → AreLeaves ls ns → AreLeaves (ks ++ ls) (ms ++ ns)
leaves-append [] ls [] ns h g = g
leaves-append (k ∷ ks) ls (m ∷ ms) ns h g = (h.0, leaves-append ks ls ms ns h.1 g)
leaves-append _ _ _ _ h _ = absurd h

-- the words are leaves of these kinds, and the bytes are theirs
pub record HasLeaves (kinds : List LeafKind) (words bytes : List ℕ) : Type 0 where
  pub are : AreLeaves kinds words
  pub text : bytes ≡ coded kinds words

both : (ks ls : List LeafKind) (ms ns us ws : List ℕ) → HasLeaves ks ms us → HasLeaves ls ns ws → HasLeaves (ks ++ ls) (ms ++ ns) (us ++ ws)
both ks ls ms ns us ws h g = record {
  are = leaves-append ks ls ms ns h.are g.are;
  text = ap₂ (λ (x y : List ℕ). x ++ y) h.text g.text ∙ sym (coded-append ks ls ms ns h.are);
}

-- ---- those of a value

module _ (modules : List Module) where
  mutual
    -- of a field
    field-leaves : (depth : ℕ) (m : Module) (t : Token) (v : Value) (ks : List LeafKind) → kinds_of_token (kinds_within depth modules) m t ≡ Some ks → is_of_type modules m t v ≡ true
        → HasLeaves ks (flat v) (leaves_text v)
    field-leaves depth m (Plain (OfLeaf k)) (Leaf j n) ks e h =
        let same : j ≡ k = kinds_equal j k (first_so (same_kind j k) (leaf_fits k n) h) in
        subst (λ (l : List LeafKind). HasLeaves l (n ∷ []) (leaf_bytes j n)) (same_Some (k ∷ []) ks e)
        (record { are = (second_so (same_kind j k) (leaf_fits k n) h, tt); text = ap (λ (x : LeafKind). leaf_bytes x n) same ∙ sym (append-nil (leaf_bytes k n)) })
    field-leaves zero m (Plain (OfStruct i)) (Struct name fields) ks e h = on_bind (struct_name m i) (kinds_within zero modules) ks e (λ own own_is e1. absurd (none-some ks e1))
    field-leaves (suc depth) m (Plain (OfStruct i)) (Struct name fields) ks e h =
        on_struct_field modules (λ d. kinds_of_fields (kinds_of_token (kinds_within depth modules) d.0) d.1) m i name fields ks e h
        (λ own d own_is d_is one kinds typed. fields-leaves depth d.0 d.1 fields ks kinds typed)
    field-leaves depth m _ _ ks e h = absurd cc

    -- of fields
    fields-leaves : (depth : ℕ) (m : Module) (fs : List Field) (vs : Values) (ks : List LeafKind) → kinds_of_fields (kinds_of_token (kinds_within depth modules) m) fs ≡ Some ks
        → are_of_types modules m fs vs ≡ true → HasLeaves ks (flat_fields vs) (leaves_of_fields vs)
    fields-leaves depth m [] NoMore ks e h = subst (λ (l : List LeafKind). HasLeaves l [] []) (same_Some [] ks e) (record { are = tt; text = refl })
    fields-leaves depth m (f ∷ fs) (More v vs) ks e h =
        on_bind (kinds_of_token (kinds_within depth modules) m f.token) _ ks e (λ first first_is e1.
        on_bind (kinds_of_fields (kinds_of_token (kinds_within depth modules) m) fs) (λ rest. Some (first ++ rest)) ks e1 (λ rest rest_is e2.
        subst (λ (l : List LeafKind). HasLeaves l (flat v ++ flat_fields vs) (leaves_text v ++ leaves_of_fields vs)) (same_Some (first ++ rest) ks e2)
        (both first rest (flat v) (flat_fields vs) (leaves_text v) (leaves_of_fields vs)
        (field-leaves depth m f.token v first first_is (first_so (is_of_type modules m f.token v) (are_of_types modules m fs vs) h))
        (fields-leaves depth m fs vs rest rest_is (second_so (is_of_type modules m f.token v) (are_of_types modules m fs vs) h)))))
    fields-leaves depth m _ _ ks e h = absurd cc

  -- of a struct
  pub struct-leaves : (depth : ℕ) (name : StructName) (v : Value) (ks : List LeafKind) → kinds_within depth modules name ≡ Some ks → is_of_struct modules name v ≡ true → HasLeaves ks (flat v)
      (leaves_text v)
  struct-leaves zero name v ks e h = absurd (none-some ks e)
  struct-leaves (suc depth) name (Struct own fields) ks e h =
      on_struct modules (λ d. kinds_of_fields (kinds_of_token (kinds_within depth modules) d.0) d.1) name own fields ks e h
      (λ d d_is one kinds typed. fields-leaves depth d.0 d.1 fields ks kinds typed)
  struct-leaves _ name _ ks e h = absurd cc
