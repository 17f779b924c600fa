-- The machine values of the parts of a box, and of what C holds. Assumes `Logic`.
use Rattle.std.proofs.Common.{◌≡◌, ℕ, List, [], ◌∷◌, ◌++◌, refl, ap, ◌∙◌, subst, ◌<◌, ◌^◌}
use mathlib.Core.Bool.{true, ◌&&◌}
use lib.Dec.{T}
use seplogic.Ra.Ura.{Ura}
use mir.Syntax.{impl, tnil, dnil}
use mir.Raw.{raw as bare}
use mir.Syntax.{ty_ptr, w64}
use mir.Val.{Val, vint, vptr, vstruct, vcons, vnil, of_list, has_ty, WT}
use base.Logic.{ent, guard, guard_i, never, never_e, via, fst∗, snd∗}
use base.Fraction.{full_share}
use base.Fml.{ftrue, fsep, fex}
use contract.Monad.{fact_use}
use types.Logic.{Logic, sem}
use types.Kit.{given, learn, use1, Item, Goal, Seq, Step, step, ‵, ◌$◌, move, drop, fsplit, fjoin, fpick, fpack, feq_i, feq_l}
use denote.RattleType.{RattleType, Valss}
use denote.Builtin.{RawPtr, u8, usize}
use denote.Plain.{uint_Makes}
use denote.Laws.{Is, shows}
use denote.Memory.{lone}
use denote.RawPtr.{Ptr, block_ptr, null_ptr, Testable, lies_at, ptr_val, in_a_block, rawptr_Lawful}
use denote.Steps.{nothing, owned, peeks}
use denote.Param.{layout}
use denote.Param.Laws.{Laws}
use denote.Struct.Struct.{within}
use denote.Struct.Owning.{shape}
use Rattle.std.specs.declared.alloc.Allocator.{Ghosts}
use Rattle.std.proofs.alloc.Calls.{Al, handle_tells}
use Rattle.std.proofs.cell.Inside.{Good, one}
use Rattle.std.specs.Box.Ownership.{box_owns}
use Rattle.std.proofs.ResultValues.{and_tt}
use Rattle.std.specs.Prelude.{Option, Some, None}
use Rattle.std.proofs.GlobalToken.{dealloc_token-Testable}
use Rattle.moveledger_c.specs.Owning.{holds_ledger, holds_saving, holds_value, holds_bytes, IsListOf}
use Rattle.moveledger_c.specs.contracts.bytes.Bytes as bytes
use Rattle.std.specs.contracts.vec.Vec as vec
use Rattle.std.specs.contracts.alloc.Global as heap
use Rattle.std.specs.contracts.impls.GlobalAllocator.TheImpl.{ghosts}
use Rattle.std.specs.Global.{Global, Vec}
use Rattle.mv_ledger_state.specs.View.{LedgerView}
use Rattle.mv_saved_text.specs.Flowing.{SavingView}
use Rattle.moveledger_c.specs.contracts.parts.Parts as parts
use Rattle.moveledger_c.specs.contracts.holder.Holder as holder
use Rattle.moveledger_c.specs.contracts.saving_holder.SavingHolder as saving_holder

abbrev pub both : Val → Val → Val
both v w = vstruct (vcons v (vcons w vnil))

module _ (R Z : RattleType) (L : Laws Z) (g : Ghosts Z.Denot) where
  abbrev pub Parts : RattleType
  Parts = parts.the_row R Z g

  abbrev al : Al
  al = record { row = Z; laws = L; g = g; d = impl [] tnil dnil; drops = impl [] tnil dnil }

  pub parts_good : (b o : ℕ) (h : Val) → Good (layout Z) h → T (has_ty (layout Z) h && true) × WT (both (vptr b o) h)
  parts_good b o h fits = (and_tt (has_ty (layout Z) h) fits.0, (tt, (fits.1, tt)))

  module _ {M : Type 1} {𝓤 : Ura M} {𝓛 : Logic 𝓤} {K : Type 0} {Γ : List (Item 𝓤)} {G : Goal 𝓤 𝓛.H} where
    pub parts_out : K → (d : Parts.Denot) (vs : List Val)
        → ((b o : ℕ) (h : Val) → d.at ≡ block_ptr b o → vs ≡ both (vptr b o) h ∷ [] → Good (layout Z) h → Seq K 𝓛 (‵ (box_owns (g.dealloc_token d.alloc) R (block_ptr b o) d.value) ∷ ‵ (Z.own_val d.alloc (h ∷ [])) ∷ Γ) G)
        → Seq K 𝓛 (‵ (Parts.own_val d vs) ∷ Γ) G
    parts_out t d vs k =
        fsplit t $ fpick t (λ vss. fsplit t $ feq_l t (λ ev. fsplit t $ feq_l t (λ ep. fsplit t $ handle_tells al t d.alloc vss.1.0 (λ h ea fits. move t (1 ∷ []) $ drop t $ move t (1 ∷ []) $
        in_a_block t d.at (λ p. box_owns (g.dealloc_token d.alloc) R p d.value) (fst∗ 𝓤 (never 𝓤) (sem 𝓛 (g.dealloc_token d.alloc (bare (lone R.mir)) null_ptr))) (λ b o e. k b o h e
        (subst (λ (p : Ptr). vs ≡ vstruct (of_list (ptr_val p ∷ h ∷ [])) ∷ []) e
        (subst (λ (ws : List Val). vs ≡ vstruct (of_list (ptr_val d.at ∷ (ws ++ []))) ∷ []) ea (subst (λ (ps : List Val). vs ≡ vstruct (of_list (ps ++ (vss.1.0 ++ []))) ∷ []) ep ev))) fits)))))

    pub parts_in : K → (b o : ℕ) (h : Val) (a : Z.Denot) (x : R.Denot)
        → Step K 𝓛 (‵ (Parts.own_val (record { at = block_ptr b o; alloc = a; value = x }) (both (vptr b o) h ∷ [])) ∷ Γ) G (‵ (box_owns (g.dealloc_token a) R (block_ptr b o) x) ∷ ‵ (Z.own_val a (h ∷ [])) ∷ Γ) G
    parts_in t b o h a x = step (λ s. let v : Val = both (vptr b o) h in
        nothing t $ move t (2 ∷ 0 ∷ []) $ fjoin t $ feq_i t (List Val) (vptr b o ∷ []) (vptr b o ∷ []) refl $ fjoin t $ feq_i t (List Val) (v ∷ []) (v ∷ []) refl $ fjoin t $
        fpack t (Valss (RawPtr ∷ Z ∷ [])) (within (shape (parts.the_type R Z g)) (block_ptr b o, (a, tt)) (v ∷ [])) (vptr b o ∷ [], (h ∷ [], tt)) $ fjoin t $ s)

abbrev pub word : Ptr → Val
word p = vstruct (vcons (ptr_val p) vnil)

abbrev pub Holder : RattleType
Holder = holder.the_row

module _ {M : Type 1} {𝓤 : Ura M} {𝓛 : Logic 𝓤} {K : Type 0} {Γ : List (Item 𝓤)} {G : Goal 𝓤 𝓛.H} where
  pub holder_out : K → (d : Holder.Denot) (vs : List Val) → (vs ≡ word d.own ∷ [] → Seq K 𝓛 (‵ (holds_ledger d.own d.held) ∷ Γ) G) → Seq K 𝓛 (‵ (Holder.own_val d vs) ∷ Γ) G
  holder_out t d vs k =
      fsplit t $ fpick t (λ vss. fsplit t $ feq_l t (λ ev. fsplit t $ feq_l t (λ ep. drop t $ k (ev ∙ ap (λ (ps : List Val). vstruct (of_list (ps ++ [])) ∷ []) ep))))

  pub holder_in : K → (p : Ptr) (held : Option LedgerView) → Step K 𝓛 (‵ (Holder.own_val (record { own = p; held = held }) (word p ∷ [])) ∷ Γ) G (‵ (holds_ledger p held) ∷ Γ) G
  holder_in t p held = step (λ s. let v : Val = word p in
      nothing t $ feq_i t (List Val) (ptr_val p ∷ []) (ptr_val p ∷ []) refl $ fjoin t $ feq_i t (List Val) (v ∷ []) (v ∷ []) refl $ fjoin t $
      fpack t (Valss (RawPtr ∷ [])) (within (shape holder.the_type) (p, tt) (v ∷ [])) (ptr_val p ∷ [], tt) $ fjoin t $ s)

abbrev pub SavingHolder : RattleType
SavingHolder = saving_holder.the_row

module _ {M : Type 1} {𝓤 : Ura M} {𝓛 : Logic 𝓤} {K : Type 0} {Γ : List (Item 𝓤)} {G : Goal 𝓤 𝓛.H} where
  pub saving_out : K → (d : SavingHolder.Denot) (vs : List Val) → (vs ≡ word d.own ∷ [] → Seq K 𝓛 (‵ (holds_saving d.own d.held) ∷ Γ) G) → Seq K 𝓛 (‵ (SavingHolder.own_val d vs) ∷ Γ) G
  saving_out t d vs k =
      fsplit t $ fpick t (λ vss. fsplit t $ feq_l t (λ ev. fsplit t $ feq_l t (λ ep. drop t $ k (ev ∙ ap (λ (ps : List Val). vstruct (of_list (ps ++ [])) ∷ []) ep))))

  pub saving_in : K → (p : Ptr) (held : Option SavingView) → Step K 𝓛 (‵ (SavingHolder.own_val (record { own = p; held = held }) (word p ∷ [])) ∷ Γ) G (‵ (holds_saving p held) ∷ Γ) G
  saving_in t p held = step (λ s. let v : Val = word p in
      nothing t $ feq_i t (List Val) (ptr_val p ∷ []) (ptr_val p ∷ []) refl $ fjoin t $ feq_i t (List Val) (v ∷ []) (v ∷ []) refl $ fjoin t $
      fpack t (Valss (RawPtr ∷ [])) (within (shape saving_holder.the_type) (p, tt) (v ∷ [])) (ptr_val p ∷ [], tt) $ fjoin t $ s)

-- what C holds, by its pointer
module _ (R : RattleType) (a : Global) {M : Type 1} {𝓤 : Ura M} (𝓛 : Logic 𝓤) where
  -- a box's pointer may be compared with null
  pub tested : (p : Ptr) (x : R.Denot) → ent 𝓤 (sem 𝓛 (box_owns (ghosts.dealloc_token a) R p x)) (guard 𝓤 (Testable p) (sem 𝓛 (box_owns (ghosts.dealloc_token a) R p x)))
  tested p x = fact_use 𝓤 (Testable p) (via 𝓤 _ (snd∗ 𝓤 (sem 𝓛 (lies_at R full_share p x)) (sem 𝓛 (ghosts.dealloc_token a (bare (lone R.mir)) p)))
      (dealloc_token-Testable 𝓛 a (bare (lone R.mir)) p)) (guard_i 𝓤 (Testable p) (sem 𝓛 (box_owns (ghosts.dealloc_token a) R p x)))

module _ (R : RattleType) {M : Type 1} {𝓤 : Ura M} {𝓛 : Logic 𝓤} {K : Type 0} {Γ : List (Item 𝓤)} {G : Goal 𝓤 𝓛.H} where
  pub either_holds : K → (p : Ptr) (held : Option R.Denot) → (p ≡ null_ptr → held ≡ None → Seq K 𝓛 Γ G)
      → ((a : Global) (b o : ℕ) (x : R.Denot) → p ≡ block_ptr b o → held ≡ Some x → Testable (block_ptr b o) → Seq K 𝓛 (‵ (box_owns (ghosts.dealloc_token a) R (block_ptr b o) x) ∷ Γ) G)
      → Seq K 𝓛 (‵ (holds_value R p held) ∷ Γ) G
  either_holds t null_ptr None none one = drop t $ none refl refl
  either_holds t null_ptr (Some x) none one = use1 𝓛 (given ⊥ (‵ ftrue)) (never_e 𝓤 _) $ learn t (λ z. absurd z)
  either_holds t (block_ptr b o) None none one = use1 𝓛 (given ⊥ (‵ ftrue)) (never_e 𝓤 _) $ learn t (λ z. absurd z)
  either_holds t (block_ptr b o) (Some x) none one = fpick t (λ a.
      use1 𝓛 (given (Testable (block_ptr b o)) (‵ (box_owns (ghosts.dealloc_token a) R (block_ptr b o) x))) (tested R a 𝓛 (block_ptr b o) x) $ learn t (λ e. one a b o x refl refl e))

-- the bytes that C holds
abbrev pub row : Ptr → ℕ → Ptr → Val
row at n own = vstruct (vcons (ptr_val at) (vcons (vint w64 n) (vcons (ptr_val own) vnil)))

abbrev pub Bytes : RattleType
Bytes = bytes.the_row

abbrev pub Bytes' : RattleType
Bytes' = vec.the_row u8 heap.the_row ghosts

module _ {M : Type 1} {𝓤 : Ura M} (𝓛 : Logic 𝓤) where
  pub ptr_good : (p : Ptr) → T (has_ty ty_ptr (ptr_val p)) × WT (ptr_val p)
  ptr_good p = ((rawptr_Lawful 𝓛).typed p (ptr_val p ∷ []) refl).0

module _ {M : Type 1} {𝓤 : Ura M} {𝓛 : Logic 𝓤} {K : Type 0} {Γ : List (Item 𝓤)} {G : Goal 𝓤 𝓛.H} where
  pub bytes_out : K → (d : Bytes.Denot) (vs : List Val) → (d.length < 2 ^ 64 → vs ≡ row d.bytes d.length d.own ∷ [] → Seq K 𝓛 (‵ (holds_bytes d.bytes d.length d.own d.items) ∷ Γ) G) → Seq K 𝓛 (‵ (Bytes.own_val d vs) ∷ Γ) G
  bytes_out t d vs k =
      fsplit t $ fpick t (λ vss. fsplit t $ feq_l t (λ ev. fsplit t $ feq_l t (λ ep. fsplit t $ peeks t usize (Is usize) (shows 𝓛 usize) d.length vss.1.0 (λ is. drop t $ fsplit t $ feq_l t (λ eo. drop t $
      k is.1 (ev ∙ (λ i. vstruct (of_list (ep i ++ (is.0 i ++ (eo i ++ [])))) ∷ [])))))))

  pub bytes_in : K → (at : Ptr) (n : ℕ) (own : Ptr) (xs : List ℕ) → n < 2 ^ 64 → Step K 𝓛 (‵ (Bytes.own_val (record { bytes = at; length = n; own = own; items = xs }) (row at n own ∷ [])) ∷ Γ) G (‵ (holds_bytes at n own xs) ∷ Γ) G
  bytes_in t at n own xs low = step (λ s. let v : Val = row at n own in
      nothing t $ feq_i t (List Val) (ptr_val own ∷ []) (ptr_val own ∷ []) refl $ fjoin t $ owned t usize (Is usize) (uint_Makes 𝓛 w64) n (vint w64 n ∷ []) (refl, low) $ fjoin t $
      feq_i t (List Val) (ptr_val at ∷ []) (ptr_val at ∷ []) refl $ fjoin t $ feq_i t (List Val) (v ∷ []) (v ∷ []) refl $ fjoin t $
      fpack t (Valss (RawPtr ∷ usize ∷ RawPtr ∷ [])) (within (shape bytes.the_type) (at, (n, (own, tt))) (v ∷ [])) (ptr_val at ∷ [], (vint w64 n ∷ [], (ptr_val own ∷ [], tt))) $ fjoin t $ s)

  pub bytes_list : K → (at : Ptr) (n b o : ℕ) (a : Global) (v : Vec ℕ) → IsListOf at n v.items v → Step K 𝓛 (‵ (holds_bytes at n (block_ptr b o) v.items) ∷ Γ) G (‵ (box_owns (ghosts.dealloc_token a) Bytes' (block_ptr b o) v) ∷ Γ) G
  bytes_list t at n b o a v is = step (λ s. nothing t $ fpack t (IsListOf at n v.items v) (λ _. ftrue) is $ fjoin t $
      fpack t (Vec ℕ) (λ w. fsep (fex (IsListOf at n v.items w) (λ _. ftrue)) (box_owns (ghosts.dealloc_token a) Bytes' (block_ptr b o) w)) v $
      fpack t Global (λ c. fex (Vec ℕ) (λ w. fsep (fex (IsListOf at n v.items w) (λ _. ftrue)) (box_owns (ghosts.dealloc_token c) Bytes' (block_ptr b o) w))) a $ s)

  pub either_bytes : K → (at : Ptr) (n : ℕ) (p : Ptr) (xs : List ℕ) → (p ≡ null_ptr → xs ≡ [] → Seq K 𝓛 Γ G)
      → ((a : Global) (b o : ℕ) (v : Vec ℕ) → p ≡ block_ptr b o → v.items ≡ xs → Testable (block_ptr b o) → Seq K 𝓛 (‵ (box_owns (ghosts.dealloc_token a) Bytes' (block_ptr b o) v) ∷ Γ) G)
      → Seq K 𝓛 (‵ (holds_bytes at n p xs) ∷ Γ) G
  either_bytes t at n null_ptr xs none one = fpick t (λ e. drop t $ none refl e.0)
  either_bytes t at n (block_ptr b o) xs none one = fpick t (λ a. fpick t (λ v. fsplit t $ fpick t (λ is. drop t $
      use1 𝓛 (given (Testable (block_ptr b o)) (‵ (box_owns (ghosts.dealloc_token a) Bytes' (block_ptr b o) v))) (tested Bytes' a 𝓛 (block_ptr b o) v) $ learn t (λ e. one a b o v refl is.0 e))))
