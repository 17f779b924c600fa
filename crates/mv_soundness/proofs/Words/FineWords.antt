-- Words of fine values are those of a typed storage, and the other way round.
use Rattle.mv_soundness.proofs.Typing.Common.{◌≡◌, ℕ, List, map, subst, true, [], ◌∷◌, refl, ap₂, arith, suc, list_all, Module, Storage, StoreAccepted}
use Rattle.mv_soundness.specs.Words.{AreTypedWords, IsFineWords, flat_entry}
use Rattle.std.specs.{Prelude.All, Cmp.first_so, Cmp.second_so}
use Rattle.std.proofs.{lemmas.List.Elements.All-cons, lemmas.Bool.and_from}
use Rattle.mv_machine.specs.{Flat.FlatEntry, Flat.storage_of, Flat.flat_storage, Typed.is_fine_entry, Typed.is_fine_storage}
use Rattle.mv_soundness.proofs.{Typing.Fine.fine_storage, Typing.Fine.typed_is_fine, Words.Sizes.sizes, Words.Decoding.typed_words}

module _ (modules : List Module) where
  -- the values that fine words are of
  values_of : (stored : List FlatEntry) → All (IsFineWords modules) stored → (es : Storage) × (map flat_entry es ≡ stored) × (is_fine_storage modules es ≡ true)
  values_of [] fine = ([], refl, refl)
  values_of (e ∷ stored) fine =
      let first : IsFineWords modules e = fine 0 e (omega arith) in
      let rest = values_of stored (λ k d h. fine (suc k) d (omega (arith, h))) in (
        record { key = e.key; value = first.0 } ∷ rest.0,
        ap₂ (λ (own : List ℕ) (others : List FlatEntry). record { key = e.key; words = own } ∷ others) first.1.0 rest.1,
        and_from _ _ first.1.1 rest.2,
      )

  -- the words of fine values
  words_of : (es : Storage) → is_fine_storage modules es ≡ true → All (IsFineWords modules) (flat_storage es)
  words_of [] fine = λ k d h. absurd (omega (arith, h))
  words_of (e ∷ es) fine =
      All-cons (IsFineWords modules) (flat_entry e) (flat_storage es) (e.value, (refl, first_so (is_fine_entry modules e) (list_all (is_fine_entry modules) es) fine))
      (words_of es (second_so (is_fine_entry modules e) (list_all (is_fine_entry modules) es) fine))

  -- over accepted modules, words of fine values are those of the typed storage that is read from them
  pub fine_words-typed : StoreAccepted modules → (stored : List FlatEntry) → All (IsFineWords modules) stored → AreTypedWords modules stored
  fine_words-typed store stored fine =
      let values = values_of stored fine in
      subst (AreTypedWords modules) values.1 (typed_words modules (sizes modules store) values.0 (fine_storage modules store values.0 values.2))

  -- and the words of a typed storage are those of fine values
  pub typed_words-fine : StoreAccepted modules → (stored : List FlatEntry) → AreTypedWords modules stored → All (IsFineWords modules) stored
  typed_words-fine store stored words =
      subst (All (IsFineWords modules)) words.whole (words_of (storage_of modules stored) (typed_is_fine modules store (storage_of modules stored) words.typed))
