-- What the proof of `edit` ends with: what is said of the loan, and what the answer's type is.
use Rattle.std.specs.Prelude.{IfSome, ◌≤◌, ◌+◌, length, nat_lt, is_some, option_and_then}
use Rattle.std.proofs.Common.{arith}
use Rattle.std.proofs.Common.{◌≡◌, ℕ, T, Bool, true, false, not, cond, List, [], ◌∷◌, Option, Some, None, Result, Ok, Err, refl, sym, ap, subst, MutBor}
use seplogic.Ra.Ura.{Ura}
use base.Fraction.{full_share}
use base.Logic.{ent}
use base.Fml.{Lft, fsep, fres, fat}
use mir.Syntax.{named, ty_bool}
use mir.Val.{Val, vbool}
use types.Logic.{Logic, sem}
use types.Kit.{‵, ◌$◌, ◌∵◌, !, qed, use1, move, fsplit, fjoin, fpick, fpack, feq_l, feq_i, rewrite, done}
use denote.RattleType.{RattleType}
use denote.Memory.{mem, part_of, cell_at}
use denote.Builtin.{bool, u128}
use denote.Array.{Array}
use denote.Ref.{NamedLft}
use denote.Slice.{MutSlice}
use denote.Follow.{follows_by, such_by}
use denote.Param.Laws.{Laws, of_field, row_shared}
use denote.Param.Shared.{mut_slice_shared, copy_shared}
use denote.Struct.Field.{mut_slice_field, u128-field}
use denote.Struct.Laws.{mut_slice_laws, u128-laws, u128-copy}
use Rattle.std.specs.contracts.option.Option as option
use Rattle.std.specs.contracts.result.Result as result
use Rattle.std.specs.contracts.alloc.AllocError as alloc_error
use Rattle.std.specs.declared.alloc.AllocError.{AllocError}
use Rattle.std.proofs.option.Option.TheLaws.{the_row_laws as option_laws}
use Rattle.std.proofs.result.Result.TheLaws.{the_row_laws as result_laws}
use Rattle.std.proofs.alloc.AllocError.TheLaws.{the_row_laws as alloc_error_laws}
use Rattle.mv_move_types.specs.declared.tables.Key.{Key}
use Rattle.mv_storage.specs.Lending.{LendsLent, LendsWords, IsEdited, IsUnedited, over_written, lent_name}
use Rattle.mv_storage.specs.Map.{Ascends, overwritten, written}
use Rattle.mv_storage.specs.FlatStorage.{words_under}
use Rattle.mv_storage.specs.WordLists.{piece}
use Rattle.mv_storage.proofs.Pieces.{piece-fits}
use Rattle.mv_storage.proofs.Written.{written-overwritten, none-overwritten}
use Rattle.mv_storage.specs.contracts.overlay.Overlay as overlay
use Rattle.mv_storage.specs.declared.overlay.Overlay.{Overlay}

abbrev pub S : RattleType
S = overlay.the_row (record { mir = named 1; lft = [] })

-- the answer, with words lent for a lifetime
abbrev pub Words : Lft → RattleType
Words κ = MutSlice (named 0) κ u128

abbrev pub Answer : Lft → RattleType
Answer κ = result.the_row (option.the_row (Words κ)) alloc_error.the_row

words_laws : (ℓ : NamedLft) → Laws (MutSlice ℓ.mir ℓ.lft u128)
words_laws ℓ = of_field (mut_slice_field ℓ u128 tt) (mut_slice_laws ℓ u128 tt) refl (mut_slice_shared ℓ u128 tt (row_shared u128 (of_field u128-field u128-laws refl (copy_shared u128-field u128-copy))))

pub answer_laws : (κ : Lft) → Laws (Answer κ)
answer_laws κ = result_laws (option.the_row (Words κ)) alloc_error.the_row (option_laws (Words κ) (words_laws (record { mir = named 0; lft = κ }))) alloc_error_laws

module _ {M : Type 1} {𝓤 : Ura M} (𝓛 : Logic 𝓤) where
  open 𝓛 use {A}

  -- a bool in memory, as a local's cell and as a value of its type
  pub bool_in : (b : ℕ) (t : Bool) → ent 𝓤 (sem 𝓛 (fat full_share ty_bool b 0 (vbool t))) (sem 𝓛 ((mem bool).own_at t b 0))
  unfolding part_of
  bool_in b t = qed 𝓛 (‵ (fat full_share ty_bool b 0 (vbool t)) ∷ []) ∵ use1 𝓛 (‵ (cell_at full_share bool.mir (vbool t ∷ []) b 0)) (𝓛.laws.at_raw full_share ty_bool b 0 (vbool t)) $
      feq_i ! (List Val) (vbool t ∷ []) (vbool t ∷ []) refl $ move ! (1 ∷ 0 ∷ []) $ fjoin ! $ fpack ! (List Val) (λ vs. fsep (cell_at full_share bool.mir vs b 0) (bool.own_val t vs)) (vbool t ∷ []) $ done !

  pub bool_out : (b : ℕ) (t : Bool) → ent 𝓤 (sem 𝓛 ((mem bool).own_at t b 0)) (sem 𝓛 (fat full_share ty_bool b 0 (vbool t)))
  unfolding part_of
  bool_out b t = qed 𝓛 (‵ ((mem bool).own_at t b 0) ∷ []) ∵ fpick ! (λ vs. fsplit ! $ move ! (1 ∷ []) $ feq_l ! (λ e.
      rewrite ! 0 (λ (ws : List Val). ‵ (cell_at full_share bool.mir ws b 0)) e refl $ use1 𝓛 (‵ (fat full_share ty_bool b 0 (vbool t))) (𝓛.laws.raw_at full_share ty_bool b 0 (vbool t)) $ done !))

  module _ (x : MutBor Overlay) (key : Key) (from width : ℕ) where
    abbrev Edited : List ℕ → Overlay → Type 0
    Edited w n = IsEdited x.now key from width w n

    -- the ways in which what is lent may come back
    abbrev Ways : Type 0
    Ways = (s : (List ℕ → Overlay) × Overlay) × ((w : List ℕ) → Edited w (s.0 w)) × IsUnedited x.now s.1

    -- words of the width that stand in place of as many
    edited : IfSome (words_under x.now.storage.now.current key) (λ words. from + width ≤ length words) → Ascends x.now.storage.now.current → (wide : Bool) → nat_lt 0 width ≡ wide → (w : List ℕ) → length w ≡ width
        → (cond wide (record (x.now.storage.now) { current = written x.now.storage.now.current key from w }) x.now.storage.now).current ≡ overwritten x.now.storage.now.current key from w
    edited fits ascends true e w long = written-overwritten x.now.storage.now.current key from width w fits long
    edited fits ascends false e w long = sym (none-overwritten x.now.storage.now.current key from width w ascends fits long (grind (arith, e)))

    kept : (wide : Bool) (w : List ℕ) → (cond wide (record (x.now.storage.now) { current = written x.now.storage.now.current key from w }) x.now.storage.now).committed ≡ x.now.storage.now.committed
    kept true w = refl
    kept false w = refl

    still : (wide : Bool) (w : List ℕ) → (cond wide (record (x.now.storage.now) { current = written x.now.storage.now.current key from w }) x.now.storage.now).marks ≡ x.now.storage.now.marks
    still true w = refl
    still false w = refl

    abbrev way : IfSome (words_under x.now.storage.now.current key) (λ words. from + width ≤ length words) → Ascends x.now.storage.now.current → Ways
    way fits ascends = ((over_written true width x.now key from, x.now), (λ w. record { current = edited fits ascends (nat_lt 0 width) refl w; committed = kept (nat_lt 0 width) w; marks = still (nat_lt 0 width) w; loan = refl }), record { same = refl; loan = refl })

    -- where none are lent none come back
    abbrev no_way : Ways
    no_way = (
      (λ w. record (x.now) { storage = record (x.now.storage) { now = record (x.now.storage.now) { current = overwritten x.now.storage.now.current key from w } } }, x.now),
      (λ w. record { current = λ _. refl; committed = refl; marks = refl; loan = refl }),
      record { same = refl; loan = refl },
    )

    -- what follows words that are lent
    given_words : IfSome (words_under x.now.storage.now.current key) (λ words. from + width ≤ length words) → Ascends x.now.storage.now.current → (r : MutBor (List ℕ))
        → ent 𝓤 (sem 𝓛 (LendsLent x key from width true r)) (sem 𝓛 (LendsWords x key from width (Ok (Some r))))
    unfolding such_by follows_by
    given_words fits ascends r = qed 𝓛 (‵ (LendsLent x key from width true r) ∷ []) ∵
        fpack ! Ways (λ s. follows_by S.Denot (Array u128 0).Denot S.coded.code (Array u128 0).coded.code x.ghost_name (lent_name (Ok (Some r))) s.0.0 s.0.1) (way fits ascends) $ done !

    pub nested_words : Ascends x.now.storage.now.current → (lent : Bool) → T lent → (r : MutBor (List ℕ)) (o : Result (Option (MutBor (List ℕ))) AllocError) → o ≡ Ok (Some r)
        → (lent ≡ true → Some r.now ≡ option_and_then (piece from width) (words_under x.now.storage.now.current key))
        → ent 𝓤 (sem 𝓛 (LendsLent x key from width lent r)) (sem 𝓛 (LendsWords x key from width o))
    nested_words ascends true t r o e h =
        let fits = piece-fits from width (words_under x.now.storage.now.current key) (ap is_some (sym (h refl))) in
        subst (λ o'. ent 𝓤 (sem 𝓛 (LendsLent x key from width true r)) (sem 𝓛 (LendsWords x key from width o'))) (sym e) (given_words fits ascends r)
    nested_words ascends false t r o e h = absurd t

    -- what none leave
    given_none : (o : Result (Option (MutBor (List ℕ))) AllocError) → lent_name o ≡ mathlib.Core.Option.none → ent 𝓤 (A.res x.ghost_name (S.coded.code x.now)) (sem 𝓛 (LendsWords x key from width o))
    unfolding such_by follows_by
    given_none o e = subst (λ m. ent 𝓤 (A.res x.ghost_name (S.coded.code x.now)) (sem 𝓛 (such_by S.Denot (Array u128 0).Denot S.coded.code (Array u128 0).coded.code x.ghost_name m Edited (IsUnedited x.now)))) (sym e)
        (qed 𝓛 (‵ (fres x.ghost_name (S.coded.code x.now)) ∷ []) ∵
        fpack ! Ways (λ s. follows_by S.Denot (Array u128 0).Denot S.coded.code (Array u128 0).coded.code x.ghost_name mathlib.Core.Option.none s.0.0 s.0.1) no_way $ done !)

    no_name : (there : Bool) → lent_name (cond there (Err (record {})) (Ok None)) ≡ mathlib.Core.Option.none
    no_name true = refl
    no_name false = refl

    pub nested_none : (lent : Bool) → T (not lent) → (w : List ℕ) (there : Bool) (o : Result (Option (MutBor (List ℕ))) AllocError) → o ≡ cond there (Err (record {})) (Ok None)
        → ent 𝓤 (A.res x.ghost_name (S.coded.code (over_written lent width x.now key from w))) (sem 𝓛 (LendsWords x key from width o))
    nested_none false t w there o e = given_none o (subst (λ o'. lent_name o' ≡ mathlib.Core.Option.none) (sym e) (no_name there))
    nested_none true t w there o e = absurd t
