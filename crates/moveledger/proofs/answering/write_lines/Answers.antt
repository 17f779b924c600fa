use Rattle.std.proofs.Common.{Err, ap, refl, ◌∙◌}
use Rattle.std.proofs.lemmas.Result.{err_from_is_err_and}
use Rattle.mv_lines.specs.Pieces.{TakesPiece}
use Rattle.moveledger.proofs.Writing.{HasWritten-start, HasWritten-next, HasWritten-failed, HasWritten-stopped, HasWrittenLines-start, HasWrittenLines-next, fewer-left}
use Rattle.moveledger.proofs.answering.write_lines.Goals as goal

pub returns-in_err-write_piece-clause-err : goal.returns-in_err-write_piece-clause-err
returns-in_err-write_piece-clause-err g c =
    let p = err_from_is_err_and c.from_residual-in_err-write_piece.result c.from_residual-in_err-write_piece.ensures.1 in
    let takes : TakesPiece c.in-Some.piece.is_last c.in-Some.piece.text.items c.each.lines.left c.next_piece.new.self.left = rw c.in-Some.is at c.in_ok-piece.ensures.piece in
    let w = c.in_err-write_piece.ensures in
    rw (p.1, p.2) (HasWritten-failed c.args.lines.format c.args.number c.each.is_begun c.in-Some.piece.is_last c.in-Some.piece.text.items c.args.lines.left c.each.lines.left c.next_piece.new.self.left _ _ _ _ c.each.invariant.written c.each.invariant.whole takes w.err (λ same. w.write (ap (λ z. Err z) same)) (λ same. w.memory (ap (λ z. Err z) same)))

pub each-init : goal.each-init
each-init g c = record {
  written = HasWritten-start c.args.number c.args.lines.left _;
  format = refl;
  whole = λ text. HasWrittenLines-start c.args.number c.args.lines.left _;
}

pub each-preserved : goal.each-preserved
each-preserved g c =
    let takes : TakesPiece c.in-Some.piece.is_last c.in-Some.piece.text.items c.each.lines.left c.next_piece.new.self.left = rw c.in-Some.is at c.in_ok-piece.ensures.piece in
    record {
      written = HasWritten-next c.args.number c.each.is_begun c.in-Some.piece.is_last c.in-Some.piece.text.items c.args.lines.left c.each.lines.left c.next_piece.new.self.left _ _ _ c.each.invariant.written takes c.in_ok-write_piece.ensures.ok;
      format = c.next_piece.ensures.format ∙ c.each.invariant.format;
      whole = λ text.
          HasWrittenLines-next c.args.number c.each.is_begun c.in-Some.piece.is_last c.in-Some.piece.text.items c.args.lines.left c.each.lines.left c.next_piece.new.self.left _ _ _ (c.each.invariant.whole text) takes
          (rw c.in-Some.is at c.in_ok-piece.ensures.whole (c.each.invariant.format ∙ text)) c.in_ok-write_piece.ensures.ok;
    }

pub each-smaller : goal.each-smaller
each-smaller g c =
    let takes : TakesPiece c.in-Some.piece.is_last c.in-Some.piece.text.items c.each.lines.left c.next_piece.new.self.left = rw c.in-Some.is at c.in_ok-piece.ensures.piece in
    fewer-left c.in-Some.piece.is_last c.in-Some.piece.text.items c.each.lines.left c.next_piece.new.self.left takes

pub returns-in_err-piece-clause-err : goal.returns-in_err-piece-clause-err
returns-in_err-piece-clause-err g c =
    let p = err_from_is_err_and c.from_residual.result c.from_residual.ensures.1 in
    rw (p.1, p.2) (HasWritten-stopped c.args.lines.format c.args.number c.each.is_begun c.args.lines.left c.each.lines.left _ _ _ c.each.invariant.written c.each.invariant.whole refl)
