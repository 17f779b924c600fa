-- Texts of worked ledgers, by computation: an empty one, and one with a coin of 7, whose module has 99 bytes.
use Rattle.mv_saved_text.proofs.Common.{[], ◌++◌, ◌∷◌, ◌≡◌, List, drop, length, refl, take, ℕ, replicate, coin_module, LedgerState, empty_ledger, with_bundle, First, Second, saved_text}
use Rattle.mv_uleb.specs.Uleb.{uleb}
use Rattle.mv_machine.proofs.Computed.{computed}
use Rattle.mv_machine.proofs.Reported.{answer, after, mint_by, seven}

abbrev one : List ℕ
one = replicate 15 0 ++ 1 ∷ []

abbrev kept : LedgerState
kept = after (answer (with_bundle empty_ledger (record { text = replicate 99 0; certificate = 1 ∷ 1 ∷ 1 ∷ 0 ∷ []; tables = coin_module } ∷ [])) (mint_by seven 100))

first_length : length (saved_text First kept) ≡ 170
unfolding computed uleb
first_length = refl

first_head : take 7 (saved_text First kept) ≡ 0x4D ∷ 0x56 ∷ 0x4C ∷ 0x31 ∷ 0x01 ∷ 0x01 ∷ 0x63 ∷ []
unfolding computed uleb
first_head = refl

first_end : drop 111 (saved_text First kept) ≡ 0x01 ∷ replicate 31 0 ++ 0x01 ∷ one ++ 0x00 ∷ 0x00 ∷ 0x07 ∷ replicate 7 0
unfolding computed uleb
first_end = refl

second_length : length (saved_text Second kept) ≡ 138
unfolding computed uleb
second_length = refl

second_end : drop 111 (saved_text Second kept) ≡ 0x01 ∷ 0x00 ∷ 0x01 ∷ (one ++ 0x07 ∷ replicate 7 0)
unfolding computed uleb
second_end = refl

empty_first : saved_text First empty_ledger ≡ 0x4D ∷ 0x56 ∷ 0x4C ∷ 0x31 ∷ 0x00 ∷ 0x00 ∷ 0x00 ∷ []
unfolding uleb
empty_first = refl

empty_second : saved_text Second empty_ledger ≡ 0x4D ∷ 0x56 ∷ 0x4C ∷ 0x32 ∷ 0x00 ∷ 0x00 ∷ []
unfolding uleb
empty_second = refl
