-- The module that tables are of: what is read of them are its entries.
use Rattle.mv_binary_format.proofs.Common.{[], ℕ, ◌&&◌, ◌==◌, ◌∙◌, ◌∷◌, ◌≡◌, Bool, IsTrue, List, None, Option, Some, ap, arith, length, nat_le, refl, subst, suc, sym, true, and_from}
use Rattle.mv_binary_format.proofs.Common.{and_parts, eqb-true, IsPermutation-refl, none-some, some_pair_parts, filter, find, flat_map, list_all, IsPermutation, Module, address_text}
use Rattle.mv_binary_format.proofs.Common.{constant_text, field_handle_text, function_definition_text, function_handle_text, identifier_text, module_handle_text, signature_text}
use Rattle.mv_binary_format.proofs.Common.{struct_definition_text, struct_handle_text, address_fits, constant_fits, field_handle_fits, function_definition_fits, function_handle_fits}
use Rattle.mv_binary_format.proofs.Common.{identifier_fits, is_byte, module_handle_fits, signature_fits, struct_definition_fits, struct_handle_fits, AreBytes, OfEachTable, StandAsTexts, Read}
use Rattle.mv_binary_format.proofs.Common.{address_from, all_from, constant_from, field_handle_from, function_definition_from, function_handle_from, identifier_from, module_handle_from}
use Rattle.mv_binary_format.proofs.Common.{signature_from, struct_definition_from, struct_handle_from, Table, table, tables, content_of, entries_of, is_of, module_from, without}
use Rattle.mv_binary_format.proofs.Binds.{bind_some, then_some_parts}
use Rattle.mv_binary_format.proofs.Sums.{found-in_all, others-in_all}
use Rattle.mv_binary_format.proofs.Sound.{has_bytes, if_full, kind-taken, if_full-then, bytes-before, bytes-behind}

-- In this version each table is read exactly where the texts of its entries stand.
abbrev pub TableLaws : ℕ → Type 0
TableLaws version = OfEachTable (λ A. StandAsTexts) version

-- whether a table's content is bytes
abbrev pub has_only_bytes : Table → Bool
has_only_bytes t = list_all is_byte t.content

pub contents-are_bytes : (ts : List Table) → AreBytes (flat_map (λ t. t.content) ts) → list_all has_only_bytes ts ≡ true
contents-are_bytes [] h = refl
contents-are_bytes (t ∷ ts) h =
    and_from _ _ (bytes-before t.content (flat_map (λ t. t.content) ts) h) (contents-are_bytes ts (bytes-behind t.content (flat_map (λ t. t.content) ts) h))

by_find : (kind : ℕ) (ts : List Table) → list_all has_only_bytes ts ≡ true → (o : Option Table) → find (is_of kind) ts ≡ o → AreBytes (content_of kind ts)
by_find kind ts h None e = rw e refl
by_find kind ts h (Some t) e = rw e (found-in_all has_only_bytes (is_of kind) ts t h e)

pub content_of-is_bytes : (kind : ℕ) (ts : List Table) → list_all has_only_bytes ts ≡ true → AreBytes (content_of kind ts)
content_of-is_bytes kind ts h = by_find kind ts h (find (is_of kind) ts) refl

-- what taking a table out gives
pub record TakenOut {A : Type 0} (kind : ℕ) (text : A → List ℕ) (fits : A → Bool) (ts : List Table) (xs : List A) (others : List Table) : Type 0 where
  pub tiled : IsPermutation ts (if_full (table kind text xs) others)
  pub fit : list_all fits xs ≡ true
  pub full : list_all has_bytes others ≡ true
  pub bytes : list_all has_only_bytes others ≡ true

pub taken-out : {A : Type 0} (kind : ℕ) (each : List ℕ → Read A) (text : A → List ℕ) (fits : A → Bool) → StandAsTexts each text fits → (ts : List Table) (xs : List A) (others : List Table)
    → list_all has_bytes ts ≡ true → list_all has_only_bytes ts ≡ true → entries_of kind each ts ≡ Some (xs, others) → TakenOut kind text fits ts xs others
unfolding entries_of
taken-out {A} kind each text fits law ts xs others full bytes e =
    let c = content_of kind ts in
    by_read (all_from each (length c) c) refl (λ ys ys_is. (law (length c) c ys (omega arith) (content_of-is_bytes kind ts bytes)).0 ys_is) where
      by_read : (o : Option (List A)) → all_from each (length (content_of kind ts)) (content_of kind ts) ≡ o
          → ((ys : List A) → all_from each (length (content_of kind ts)) (content_of kind ts) ≡ Some ys → (content_of kind ts ≡ flat_map text ys) × IsTrue (list_all fits ys))
          → TakenOut kind text fits ts xs others
      by_read None o_is law' = absurd (none-some (xs, others) (let z : ◌≡◌ {A = Option (List A × List Table)} None (Some (xs, others)) = rw o_is at e in z))
      by_read (Some ys) o_is law' =
          let z : ◌≡◌ {A = Option (List A × List Table)} (Some (ys, without (is_of kind) ts)) (Some (xs, others)) = rw o_is at e in
          let p = some_pair_parts ys xs (without (is_of kind) ts) others z in
          let l = law' ys o_is in
          let t : content_of kind ts ≡ flat_map text xs = l.0 ∙ ap (flat_map text) p.0 in
          let f : list_all fits xs ≡ true = ap (list_all fits) (sym p.0) ∙ l.1 in
          let taken = kind-taken kind ts full in
          record {
            tiled = subst (λ (us : List Table). IsPermutation ts (if_full (table kind text xs) us)) p.1
                (subst (λ z. IsPermutation ts (if_full (record { kind = kind; content = z }) (without (is_of kind) ts))) t taken);
            fit = f;
            full = subst (λ (us : List Table). list_all has_bytes us ≡ true) p.1 (others-in_all has_bytes (is_of kind) ts full);
            bytes = subst (λ (us : List Table). list_all has_only_bytes us ≡ true) p.1 (others-in_all has_only_bytes (is_of kind) ts bytes);
          }

-- the parts of a module that tables are of
pub record IsOfTables (version own : ℕ) (ts : List Table) (m : Module) : Type 0 where
  pub tiled : IsPermutation ts (tables m)
  pub module_handles : list_all module_handle_fits m.module_handles ≡ true
  pub struct_handles : list_all struct_handle_fits m.struct_handles ≡ true
  pub function_handles : list_all function_handle_fits m.function_handles ≡ true
  pub signatures : list_all (signature_fits m.version) m.signatures ≡ true
  pub constants : list_all (constant_fits m.version) m.constants ≡ true
  pub identifiers : list_all identifier_fits m.identifiers ≡ true
  pub addresses : list_all address_fits m.addresses ≡ true
  pub structs : list_all (struct_definition_fits m.version) m.structs ≡ true
  pub functions : list_all (function_definition_fits m.version) m.functions ≡ true
  pub field_handles : list_all field_handle_fits m.field_handles ≡ true
  pub few_functions : nat_le (length m.functions) 256 ≡ true
  pub version_is : version ≡ m.version
  pub own_is : own ≡ m.own

-- one table before the tables with bytes among others
chain : (t : Table) (ts us rest : List Table) → IsPermutation ts (if_full t us) → IsPermutation us (filter has_bytes rest) → IsPermutation ts (filter has_bytes (t ∷ rest))
chain t ts us rest p q = if_full-then t ts us (filter has_bytes rest) p q

pub no_elements : {A : Type 0} (xs : List A) → (length xs == 0) ≡ true → xs ≡ []
no_elements [] e = refl
no_elements (x ∷ xs) e = let z : suc (length xs) ≡ 0 = eqb-true (length (x ∷ xs)) 0 e in absurd (omega arith)

pub module-sound : (version : ℕ) → TableLaws version → (own : ℕ) (ts : List Table) (m : Module) → list_all has_bytes ts ≡ true
    → list_all has_only_bytes ts ≡ true → module_from version own ts ≡ Some m → IsOfTables version own ts m
unfolding module_from
module-sound version laws own ts m full bytes z0 =
    bind_some (entries_of 0x01 module_handle_from ts) _ m z0 (λ a a_is z1.
    bind_some (entries_of 0x02 struct_handle_from a.1) _ m z1 (λ b b_is z2.
    bind_some (entries_of 0x03 function_handle_from b.1) _ m z2 (λ c c_is z3.
    bind_some (entries_of 0x05 (signature_from version) c.1) _ m z3 (λ d d_is z4.
    bind_some (entries_of 0x06 (constant_from version) d.1) _ m z4 (λ e e_is z5.
    bind_some (entries_of 0x07 identifier_from e.1) _ m z5 (λ f f_is z6.
    bind_some (entries_of 0x08 address_from f.1) _ m z6 (λ g g_is z7.
    bind_some (entries_of 0x0A (struct_definition_from version) g.1) _ m z7 (λ h h_is z8.
    bind_some (entries_of 0x0C (function_definition_from version) h.1) _ m z8 (λ i i_is z9.
    bind_some (entries_of 0x0D field_handle_from i.1) _ m z9 (λ j j_is z10.
    let ta = taken-out 0x01 module_handle_from module_handle_text module_handle_fits laws.module_handles ts a.0 a.1 full bytes a_is in
    let tb = taken-out 0x02 struct_handle_from struct_handle_text struct_handle_fits laws.struct_handles a.1 b.0 b.1 ta.full ta.bytes b_is in
    let tc = taken-out 0x03 function_handle_from function_handle_text function_handle_fits laws.function_handles b.1 c.0 c.1 tb.full tb.bytes c_is in
    let td = taken-out 0x05 (signature_from version) signature_text (signature_fits version) laws.signatures c.1 d.0 d.1 tc.full tc.bytes d_is in
    let te = taken-out 0x06 (constant_from version) constant_text (constant_fits version) laws.constants d.1 e.0 e.1 td.full td.bytes e_is in
    let tf = taken-out 0x07 identifier_from identifier_text identifier_fits laws.identifiers e.1 f.0 f.1 te.full te.bytes f_is in
    let tg = taken-out 0x08 address_from address_text address_fits laws.addresses f.1 g.0 g.1 tf.full tf.bytes g_is in
    let th = taken-out 0x0A (struct_definition_from version) struct_definition_text (struct_definition_fits version) laws.structs g.1 h.0 h.1 tg.full tg.bytes h_is in
    let ti = taken-out 0x0C (function_definition_from version) function_definition_text (function_definition_fits version) laws.functions h.1 i.0 i.1 th.full th.bytes i_is in
    let tj = taken-out 0x0D field_handle_from field_handle_text field_handle_fits laws.field_handles i.1 j.0 j.1 ti.full ti.bytes j_is in
    let p = then_some_parts ((length j.1 == 0) && nat_le (length i.0) 256) _ m z10 in
    let q = and_parts (length j.1 == 0) (nat_le (length i.0) 256) p.0 in
    let none : j.1 ≡ [] = no_elements j.1 q.0 in
    let end : IsPermutation j.1 [] = subst (λ (us : List Table). IsPermutation j.1 us) none (IsPermutation-refl j.1) in
    let xj = table 0x0D field_handle_text j.0 in
    let xi = table 0x0C function_definition_text i.0 in
    let xh = table 0x0A struct_definition_text h.0 in
    let xg = table 0x08 address_text g.0 in
    let xf = table 0x07 identifier_text f.0 in
    let xe = table 0x06 constant_text e.0 in
    let xd = table 0x05 signature_text d.0 in
    let xc = table 0x03 function_handle_text c.0 in
    let xb = table 0x02 struct_handle_text b.0 in
    let tiled = chain (table 0x01 module_handle_text a.0) ts a.1 (xb ∷ xc ∷ xd ∷ xe ∷ xf ∷ xg ∷ xh ∷ xi ∷ xj ∷ []) ta.tiled
    (chain xb a.1 b.1 (xc ∷ xd ∷ xe ∷ xf ∷ xg ∷ xh ∷ xi ∷ xj ∷ []) tb.tiled
    (chain xc b.1 c.1 (xd ∷ xe ∷ xf ∷ xg ∷ xh ∷ xi ∷ xj ∷ []) tc.tiled
    (chain xd c.1 d.1 (xe ∷ xf ∷ xg ∷ xh ∷ xi ∷ xj ∷ []) td.tiled
    (chain xe d.1 e.1 (xf ∷ xg ∷ xh ∷ xi ∷ xj ∷ []) te.tiled
    (chain xf e.1 f.1 (xg ∷ xh ∷ xi ∷ xj ∷ []) tf.tiled
    (chain xg f.1 g.1 (xh ∷ xi ∷ xj ∷ []) tg.tiled
    (chain xh g.1 h.1 (xi ∷ xj ∷ []) th.tiled
    (chain xi h.1 i.1 (xj ∷ []) ti.tiled
    (chain xj i.1 j.1 [] tj.tiled end))))))))) in
    subst (λ (z : Module). IsOfTables version own ts z) p.1 (record {
      tiled = tiled;
      module_handles = ta.fit;
      struct_handles = tb.fit;
      function_handles = tc.fit;
      signatures = td.fit;
      constants = te.fit;
      identifiers = tf.fit;
      addresses = tg.fit;
      structs = th.fit;
      functions = ti.fit;
      field_handles = tj.fit;
      few_functions = q.1;
      version_is = refl;
      own_is = refl;
    })))))))))))
