-- Places within values: what is of a type is there along each path that its type has, and stays of its type after a write.
use Rattle.mv_soundness.proofs.Typing.Common.{◌≡◌, ℕ, zero, suc, List, [], ◌∷◌, refl, ap, subst, ◌++◌, Some, sym, same_Some, slice_get, option_and_then, option_map, StructName, Tag}
use Rattle.mv_soundness.proofs.Typing.Common.{LeafTag, StructTag, plain_tag, Value, Leaf, Struct, Values, NoMore, More, value_at, with_value_at, IsOf, AreOf, Table, AtOnce}
use Rattle.mv_machine.specs.Value.{field, with_field, with_field_of}
use Rattle.mv_soundness.specs.Typing.HasType.{Leads, Through}

module _ (table : Table) where
  -- a value of a type has that tag
  pub tag_is : (v : Value) (t : Tag) → IsOf table v t → plain_tag v ≡ Some t
  tag_is (Leaf k n) (LeafTag j) h = ap (λ i. Some (LeafTag i)) h.0
  tag_is (Struct name fields) (StructTag u) h = ap (λ i. Some (StructTag i)) h.0
  tag_is v t h = absurd h

  -- a value is of one type
  pub one_type : (v : Value) (t u : Tag) → IsOf table v t → IsOf table v u → t ≡ u
  one_type v t u h k =
      let a : plain_tag v ≡ Some t = tag_is v t h in
      let b : plain_tag v ≡ Some u = tag_is v u k in
      same_Some t u (subst (λ x. x ≡ Some u) a b)

  field_typed : (vs : Values) (ts : List Tag) (f : ℕ) (t : Tag) → AreOf table vs ts → slice_get ts f ≡ Some t
      → (v : Value) × (field vs f ≡ Some v) × IsOf table v t
  field_typed NoMore [] f t h e = absurd cc
  field_typed (More v vs) (u ∷ ts) zero t h e = (v, refl, subst (λ x. IsOf table v x) (same_Some u t e) h.0)
  field_typed (More v vs) (u ∷ ts) (suc f) t h e = field_typed vs ts f t h.1 e
  field_typed vs ts f t h e = absurd h

  set_typed : (vs : Values) (ts : List Tag) (f : ℕ) (t : Tag) (w : Value) → AreOf table vs ts → slice_get ts f ≡ Some t → IsOf table w t
      → AreOf table (with_field vs f w) ts
  set_typed (More v vs) [] f t w h e k = absurd h
  set_typed (More v vs) (u ∷ ts) zero t w h e k = (subst (λ x. IsOf table w x) (sym (same_Some u t e)) k, h.1)
  set_typed (More v vs) (u ∷ ts) (suc f) t w h e k = (h.0, set_typed vs ts f t w h.1 e k)
  set_typed NoMore ts f t w h e k = h

  -- a place that its type leads to is there, and holds a value of that type
  pub read_within : (v : Value) (t u : Tag) (path : List ℕ) → IsOf table v t → Leads table t path u → (w : Value) × (value_at v path ≡ Some w) × IsOf table w u
  read_within v t u path h AtOnce = (v, refl, h)
  read_within (Struct name vs) t u path h (Through {s = s} {f = f} {path = rest} {ts = ts} {t = m} e d l) =
      let same : table name ≡ Some ts = subst (λ x. table x ≡ Some ts) (sym h.0) e in
      let tags : h.1 ≡ ts = same_Some h.1 ts (subst (λ x. x ≡ Some ts) h.2 same) in
      let x = field_typed vs ts f m (subst (λ us. AreOf table vs us) tags h.3) d in
      let y = read_within x.0 m u rest x.2 l in
      (y.0, subst (λ found. option_and_then (λ w. value_at w rest) found ≡ Some y.0) (sym x.1) y.1, y.2)
  read_within v t u path h (Through e d l) = absurd h

  -- a write of a value of the place's type leaves the whole at its type
  pub write_within : (v : Value) (t u : Tag) (path : List ℕ) (new : Value) → IsOf table v t → Leads table t path u → IsOf table new u
      → (w : Value) × (with_value_at v path new ≡ Some w) × IsOf table w t
  write_within v t u path new h AtOnce k = (new, refl, k)
  write_within (Struct name vs) t u path new h (Through {s = s} {f = f} {path = rest} {ts = ts} {t = m} e d l) k =
      let same : table name ≡ Some ts = subst (λ x. table x ≡ Some ts) (sym h.0) e in
      let tags : h.1 ≡ ts = same_Some h.1 ts (subst (λ x. x ≡ Some ts) h.2 same) in
      let fields : AreOf table vs ts = subst (λ us. AreOf table vs us) tags h.3 in
      let x = field_typed vs ts f m fields d in
      let y = write_within x.0 m u rest new x.2 l k in (
        Struct name (with_field vs f y.0),
        subst (λ found. option_map (with_field_of (Struct name vs) f) (option_and_then (λ w. with_value_at w rest new) found) ≡ Some (Struct name (with_field vs f y.0))) (sym x.1)
            (ap (option_map (with_field_of (Struct name vs) f)) y.1),
        (h.0, ts, same, set_typed vs ts f m y.0 fields d y.2),
      )
  write_within v t u path new h (Through e d l) k = absurd h

  -- a path that goes on by a field
  pub leads_on : (t u : Tag) (path : List ℕ) (s : StructName) (ts : List Tag) (f : ℕ) → Leads table t path (StructTag s) → table s ≡ Some ts
      → slice_get ts f ≡ Some u → Leads table t (path ++ f ∷ []) u
  leads_on t u path s ts f l e d = along t path (StructTag s) l refl
    where
      along : (t : Tag) (path : List ℕ) (m : Tag) → Leads table t path m → m ≡ StructTag s → Leads table t (path ++ f ∷ []) u
      along t path m AtOnce same = subst (λ x. Leads table x (f ∷ []) u) (sym same) (Through e d AtOnce)
      along t path m (Through {path = rest} {t = n} e1 d1 l1) same = Through e1 d1 (along n rest m l1 same)
