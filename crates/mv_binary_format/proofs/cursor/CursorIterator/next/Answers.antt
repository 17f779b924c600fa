use Rattle.mv_binary_format.proofs.Common.{◌∙◌, ap, arith, length, sym, version_number}
use Rattle.mv_binary_format.specs.Code.{instructions_in}
use Rattle.mv_binary_format.proofs.Codes.{advances, none-left, stands}
use Rattle.mv_binary_format.proofs.cursor.CursorIterator.next.Goals as goal

pub returns-then-self-eq0-clause-steps : goal.returns-then-self-eq0-clause-steps
returns-then-self-eq0-clause-steps c =
    let version = version_number c.self.inside.version in
    let none = sym c.self.view_is ∙ ap (λ n. instructions_in version n c.self.inside.reader) c.if-self-eq0.true ∙ none-left version c.self.inside.reader in
    (none, none)

pub unreachable-requires : goal.unreachable-requires
unreachable-requires c = stands (version_number c.self.inside.version) c.self.inside.left c.self.inside.reader c.if-self-eq0.false c.self.invariant c.in-Err.ensures.1

pub invariant_of-self : goal.invariant_of-self
invariant_of-self c =
    (advances (version_number c.self.inside.version) c.self.inside.left c.self.inside.reader c.instruction.new.self c.in-Ok.instruction c.if-self-eq0.false c.in-Ok.ensures c.self.invariant).0

pub returns-clause-steps : goal.returns-clause-steps
returns-clause-steps c =
    sym c.self.view_is
    ∙ (advances (version_number c.self.inside.version) c.self.inside.left c.self.inside.reader c.instruction.new.self c.in-Ok.instruction c.if-self-eq0.false c.in-Ok.ensures c.self.invariant).1

pub returns-clause-goes : goal.returns-clause-goes
returns-clause-goes c = let steps = ap length (returns-clause-steps c) in record { on = λ _. (tt, tt, omega (arith, steps)); keeps = tt; rests = λ _. tt }
