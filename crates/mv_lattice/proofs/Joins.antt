-- What an order's laws give of a join that was made.
use Rattle.std.proofs.Common.{◌≡◌, Result, IfOk, sym, subst}
use Rattle.std.proofs.lemmas.Result.{IfOk-weaker}
use Rattle.mv_lattice.specs.Laws.{IsLawful, IsLeastAbove}
use Rattle.mv_lattice.specs.Order.{Order}

module _ {S E : Type 0} {o : Order S} (laws : IsLawful o) (a b : S) (first : o.is_state a) (second : o.is_state b) (r : Result S E) (made : IfOk r (λ c. c ≡ o.joined a b)) where
  -- it is a least state above both
  pub made_least : IfOk r (IsLeastAbove o a b)
  made_least = IfOk-weaker r (λ c. c ≡ o.joined a b) (IsLeastAbove o a b) (λ c is. subst (IsLeastAbove o a b) (sym is) (laws.joins a b first second)) made

  -- a block may begin with it, where one may with both
  pub made_begins : IfOk r (λ c. o.may_begin a → o.may_begin b → o.may_begin c)
  made_begins = IfOk-weaker r (λ c. c ≡ o.joined a b) (λ c. o.may_begin a → o.may_begin b → o.may_begin c)
      (λ c is begin also. subst o.may_begin (sym is) (laws.joins_begin a b first second begin also)) made
