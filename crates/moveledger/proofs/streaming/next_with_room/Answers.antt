use Rattle.std.proofs.Common.{[], ◌∷◌, rules}
use Rattle.std.proofs.KnownBytes.{Consumes-trans}
use Rattle.std.proofs.lemmas.Result.{IfErr-weaker, IfOk-weaker, err_from_is_err_and}
use Rattle.moveledger.specs.Reading.{at_kind, in_length}
use Rattle.moveledger.proofs.Whole.{read_not_write}
use Rattle.moveledger.proofs.streaming.next_with_room.Goals as goal

pub returns-in_err-kind-clause-err : goal.returns-in_err-kind-clause-err
returns-in_err-kind-clause-err g c =
    let p = err_from_is_err_and c.from_residual.result c.from_residual.ensures.1 in
    let none = c.in_err-kind.ensures.err in
    rw (p.1, p.2) (read_not_write _ none.0, [], none.1, at_kind)

pub returns-in_err-make_room-clause-err : goal.returns-in_err-make_room-clause-err
returns-in_err-make_room-clause-err g c =
    let p = err_from_is_err_and c.from_residual-in_err-make_room.result c.from_residual-in_err-make_room.ensures.1 in
    let kind = rw c.in-Some.is at c.in_ok-kind.ensures.ok in
    rw (p.1, p.2) ((λ same. cc), c.in-Some.kind ∷ [], kind, in_length c.in-Some.kind [] (tt, search rules))

pub returns-clause-err : goal.returns-clause-err
returns-clause-err g c =
    let kind = rw c.in-Some.is at c.in_ok-kind.ensures.ok in
    IfErr-weaker c.rest_of_record.result _ _ (λ e h. (h.0, c.in-Some.kind ∷ h.1, Consumes-trans _ _ _ _ _ kind h.2, h.3)) c.rest_of_record.ensures.err

pub returns-clause-ok : goal.returns-clause-ok
returns-clause-ok g c =
    let kind = rw c.in-Some.is at c.in_ok-kind.ensures.ok in
    IfOk-weaker c.rest_of_record.result _ _ (λ next h. (c.in-Some.kind ∷ h.0, Consumes-trans _ _ _ _ _ kind h.1, h.2)) c.rest_of_record.ensures.ok
