-- `hold` keeps the pointers, and what is owned there.
use Rattle.std.proofs.Common.{ℕ, ◌≡◌, List, [], ◌∷◌, ◌++◌, refl, sym, subst}
use mir.Syntax.{ty_ptr, w64}
use mir.Val.{Val, vint, vptr, has_ty}
use base.Logic.{SProp, ent, emp, id⊢}
use base.Fml.{ftrue}
use prog.Wp.{WpFn}
use types.Kit.{‵, raw, ◌⊛◌, ◌$◌, ◌∵◌, !, qed, by, move, keep, drop, split, fsplit, fsplit3, fjoin, suffices, use0}
use types.Run.{stop, fld, of_opd, no_more, and_then, returns, enter}
use types.ByLocal.{alloc_all, pass_all, free_all, look_at, get, get_in, sets}
use types.Part.{agg, sub, whole}
use contract.Monad.{fact, fact_i}
use contract.Running.{tables}
use denote.Exit.{yes}
use denote.RattleType.{RattleType, owns}
use denote.RawPtr.{Ptr, block_ptr, ptr_val}
use denote.Signature.{types_at, plain}
use denote.Steps.{nothing, heard}
use denote.Triple.Walked.{Stays, stay_dropped, walk_of, Goes-dropped}
use Rattle.std.proofs.ResultValues.{and_tt}
use Rattle.std.proofs.raw_atomic.Walks.{proved_at, leaves}
use Rattle.std.specs.contracts.alloc.Global as heap
use Rattle.std.proofs.alloc.Global.TheLaws as heap_laws
use Rattle.std.specs.contracts.impls.GlobalAllocator.TheImpl.{ghosts}
use denote.Builtin.{usize, RawPtr}
use Rattle.std.specs.Vec.{vec_ptr, vec_len}
use Rattle.moveledger_c.proofs.Values.{both, Parts, parts_good, parts_out, Bytes, Bytes', row, ptr_good, bytes_in, bytes_list}
use Rattle.moveledger_c.specs.contracts.bytes.Bytes.hold.{ended, clauses}
use Rattle.moveledger_c.specs.contracts.bytes.Bytes.hold.Key.{name as #self}
use Rattle.moveledger_c.proofs.bytes.Bytes.hold.Statement.{statement}
use Rattle.moveledger_c.proofs.bytes.Bytes.hold.Code as code

pub hold_spec : {M : Type 1} → statement M
hold_spec 𝓤 𝓛 𝓜 𝓡 wired =
    let H = 𝓛.H in let 𝓣 = tables 𝓤 H 𝓜 𝓡 𝓡.env in let c = clauses 𝓛 𝓜.mem 𝓡.returns in let fn = code.function in
    let R : RattleType = Bytes' in let Z : RattleType = heap.the_row in let LZ = heap_laws.the_row_laws in let P : RattleType = Parts R Z LZ ghosts in
    let hs : Stays ended.signature.params ended.kept = (stay_dropped (plain (λ _. RawPtr)) yes, (stay_dropped (plain (λ _. usize)) yes, (stay_dropped (plain (λ _. P)) yes, tt))) in
    proved_at 𝓛 ended hs c 𝓜 𝓡 (Goes-dropped 𝓛 0 (plain (λ _. RawPtr)) yes (λ κs x f. refl), (Goes-dropped 𝓛 0 (plain (λ _. usize)) yes (λ κs x f. refl), (Goes-dropped 𝓛 0 (plain (λ _. P)) yes (λ κs x f. refl), tt)))
    #self fn (code.unfolded 𝓤 H 𝓜 𝓡 wired) (λ z are.
    let at : Ptr = z.0.3.0 in let n : ℕ = z.0.3.1.0 in let v = z.0.3.1.1.0 in let Post : Val → SProp 𝓤 = (walk_of 𝓛 ended hs c).post z in let Run : List Val → SProp 𝓤 = λ ws. WpFn 𝓤 H 𝓣.C 𝓣.Λ fn ws Post in
    let At : Type 0 = at ≡ vec_ptr v.value in let Count : Type 0 = n ≡ vec_len v.value in let g = ptr_good 𝓛 at in
    qed 𝓛 ((‵ ftrue ⊛ ‵ (owns (types_at ended.signature.params tt) z.0.3 z.0.4)) ∷ (raw (fact 𝓤 At) ⊛ raw (fact 𝓤 Count)) ∷ []) ∵
    move ! (1 ∷ []) $ split ! $ heard ! At (λ ea. heard ! Count (λ en. split ! $ move ! (1 ∷ []) $ fsplit3 ! $ drop ! $ drop ! $ fsplit ! $
    parts_out R Z LZ ghosts ! v z.0.4.1.1.0 (λ b o h e ws fits.
    let w : Val = both (vptr b o) h in let p : Ptr = block_ptr b o in let us : List Val = ptr_val at ∷ vint w64 n ∷ w ∷ [] in
    let d : Bytes.Denot = record { bytes = at; length = n; own = p; items = v.value.items } in
    suffices ! (Run us) (subst (λ (xs : List Val). ent 𝓤 (Run us) (Run xs)) (sym (λ i. are.0 i ++ (are.1.0.0 i ++ (ws i ++ [])))) (id⊢ 𝓤 (Run us))) $
    enter ! 𝓣.C 𝓣.Λ fn us Post $ alloc_all ! (λ l. pass_all ! refl (g, ((tt, record { fits = are.1.0.1 }), (parts_good R Z LZ ghosts b o h fits, tt))) $
    sets ! (of_opd ! (get_in ! (fld ! refl (stop !)) (sub ! 0 refl (whole !)))) refl (tt, tt) $ sets ! (of_opd ! (get ! refl)) refl (tt, tt) $
    sets ! (agg ! (and_then ! (get ! refl) (and_then ! (get ! refl) (and_then ! (get ! refl) (no_more !))))) refl (and_tt (has_ty ty_ptr (ptr_val at)) g.0, (g.1, (record { fits = are.1.0.1 }, (tt, tt)))) $
    -- [what is owned there; the handle; nothing; the tokens]
    bytes_list ! at n b o v.alloc v.value (refl, sym ea, sym en) $ bytes_in ! at n p v.value.items are.1.0.1 $
    use0 𝓛 (raw (fact 𝓤 (d.items ≡ v.value.items))) (fact_i 𝓤 (d.items ≡ v.value.items) (emp 𝓤) refl) $ nothing ! $ nothing ! $ fjoin ! $ nothing ! $ fjoin ! $ nothing ! $ fjoin ! $
    returns ! (look_at ! 0 refl) $ free_all ! refl $ keep ! (5 ∷ 0 ∷ 2 ∷ 1 ∷ []) $ by ! (leaves 𝓛 ended hs c z (row at n p) d (tt, (tt, (tt, tt))) (tt, (tt, (tt, tt)))))))))
