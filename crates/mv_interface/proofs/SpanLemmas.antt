-- Lists that stand in one list, one after the other.
--   AreSpanned lists all spans   the spans of the list are these lists
--   spanned-more, lists-pushed   one more is put at the end
use Rattle.mv_interface.proofs.Common.{[], ◌++◌, ◌∙◌, ◌∷◌, ◌≡◌, ◌≤◌, List, and_from, and_parts, ap, ap₂, arith, drop, le-leb, leb-true, length, length-append, list_all, map, map-append}
use Rattle.mv_interface.proofs.Common.{nat_le, refl, subst, sym, take-append-le, take_all, true}
use Rattle.std.proofs.lemmas.Slice.{between_is}
use Rattle.std.proofs.Math.Seq.{drop-append_seam}
use Rattle.mv_interface.specs.declared.lists.Span.{Span}
use Rattle.mv_interface.specs.Spans.{is_span_in, spanned}

module _ {A : Type 0} (all more : List A) where
  within-kept : (s : Span) → is_span_in all s ≡ true → is_span_in (all ++ more) s ≡ true
  within-kept s h =
      let parts = and_parts (nat_le s.first s.last) (nat_le s.last (length all)) h in
      let low : s.last ≤ length all = leb-true s.last (length all) parts.1 in
      and_from _ _ parts.0 (le-leb s.last (length (all ++ more)) (omega (arith, low, length-append all more)))

  span-kept : (s : Span) → is_span_in all s ≡ true → spanned (all ++ more) s ≡ spanned all s
  span-kept s h =
      let parts = and_parts (nat_le s.first s.last) (nat_le s.last (length all)) h in
      let low : s.last ≤ length all = leb-true s.last (length all) parts.1 in
      between_is (all ++ more) s.first s.last ∙ ap (drop s.first) (take-append-le s.last all more low) ∙ sym (between_is all s.first s.last)

  spans-kept : (spans : List Span) → list_all (is_span_in all) spans ≡ true → map (spanned (all ++ more)) spans ≡ map (spanned all) spans
  spans-kept [] h = refl
  spans-kept (s ∷ ss) h =
      let parts = and_parts (is_span_in all s) (list_all (is_span_in all) ss) h in
      ap₂ (λ x xs. x ∷ xs) (span-kept s parts.0) (spans-kept ss parts.1)

  -- one more, of all the elements that were added
  last-within : (s : Span) → s.first ≡ length all → s.last ≡ length (all ++ more) → is_span_in (all ++ more) s ≡ true
  last-within s first last =
      and_from _ _ (le-leb s.first s.last (omega (arith, first, last, length-append all more))) (le-leb s.last (length (all ++ more)) (omega (arith, last)))

  last-spanned : (s : Span) → s.first ≡ length all → s.last ≡ length (all ++ more) → spanned (all ++ more) s ≡ more
  last-spanned s first last =
      between_is (all ++ more) s.first s.last
      ∙ ap₂ drop first (take_all s.last (all ++ more) (omega (arith, last)))
      ∙ drop-append_seam all more

  all-within : (spans : List Span) (s : Span) → list_all (is_span_in all) spans ≡ true → is_span_in (all ++ more) s ≡ true → list_all (is_span_in (all ++ more)) (spans ++ s ∷ []) ≡ true
  all-within [] s h last = and_from _ _ last refl
  all-within (t ∷ ts) s h last =
      let parts = and_parts (is_span_in all t) (list_all (is_span_in all) ts) h in
      and_from _ _ (within-kept t parts.0) (all-within ts s parts.1 last)

-- the spans of the list are these lists
pub record AreSpanned {A : Type 0} (lists : List (List A)) (all : List A) (spans : List Span) : Type 0 where
  pub are : map (spanned all) spans ≡ lists
  pub within : list_all (is_span_in all) spans ≡ true

-- one more is put at the end
pub spanned-more : {A : Type 0} (lists : List (List A)) (all longer one : List A) (spans more : List Span) (s : Span) → AreSpanned lists all spans → longer ≡ all ++ one → s.first ≡ length all
    → s.last ≡ length longer → more ≡ spans ++ s ∷ []
    → AreSpanned (lists ++ one ∷ []) longer more
spanned-more {A = A} lists all longer one spans more s so grown first last pushed =
    let end : s.last ≡ length (all ++ one) = last ∙ ap length grown in
    let added : AreSpanned (lists ++ one ∷ []) (all ++ one) (spans ++ s ∷ []) = record {
      are = map-append (spanned (all ++ one)) spans (s ∷ [])
          ∙ ap₂ (λ xs x. xs ++ x ∷ []) (spans-kept all one spans so.within ∙ so.are) (last-spanned all one s first end);
      within = all-within all one spans s so.within (last-within all one s first end);
    } in
    subst (λ (l : List A). AreSpanned (lists ++ one ∷ []) l more) (sym grown) (subst (λ (l : List Span). AreSpanned (lists ++ one ∷ []) (all ++ one) l) (sym pushed) added)

-- the lists themselves, with one more at the end
pub lists-pushed : {A : Type 0} (all longer one : List A) (spans more : List Span) (s : Span) → list_all (is_span_in all) spans ≡ true → longer ≡ all ++ one → s.first ≡ length all
    → s.last ≡ length longer → more ≡ spans ++ s ∷ [] → AreSpanned (map (spanned all) spans ++ one ∷ []) longer more
lists-pushed all longer one spans more s within grown first last pushed =
    spanned-more (map (spanned all) spans) all longer one spans more s (record { are = refl; within = within }) grown first last pushed
