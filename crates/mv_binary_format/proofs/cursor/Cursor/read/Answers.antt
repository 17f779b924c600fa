use Rattle.mv_binary_format.proofs.Common.{arith, counted_from, version_number}
use Rattle.std.proofs.lemmas.Result.{err_from_is_err_and}
use Rattle.mv_module_text.specs.Parsing.{instruction_from}
use Rattle.mv_binary_format.proofs.Codes.{Passes-end, Passes-next, Passes-stops, Reads-refused}
use Rattle.mv_binary_format.proofs.cursor.Cursor.read.Goals as goal

pub returns-in_err-instruction : goal.returns-in_err-instruction
returns-in_err-instruction c =
    let each = instruction_from (version_number c.args.version) in
    let p = err_from_is_err_and c.from_residual-in_err-instruction.result c.from_residual-in_err-instruction.ensures.1 in
    let h = c.in_err-instruction.ensures in
    Reads-refused (counted_from 4096 each) c.args.reader.now c.instruction.new.self c.from_residual-in_err-instruction.result (cc (p.1, p.2, h.0))
    (Passes-stops each 4096 c.in_ok-count.count c.reading.counter c.args.reader.now c.number.new.self c.reading.reader c.in_ok-count.ensures.reads (omega arith) h.1 c.reading.invariant)

pub reading-preserved : goal.reading-preserved
reading-preserved c =
    Passes-next (instruction_from (version_number c.args.version)) c.in_ok-count.count c.reading.counter c.number.new.self c.reading.reader c.instruction.new.self c.in_ok-instruction.field-0 (omega arith)
    c.in_ok-instruction.ensures c.reading.invariant

pub invariant_of-result : goal.invariant_of-result
invariant_of-result c =
    let all = Passes-end (version_number c.args.version) 4096 c.in_ok-count.count c.reading.counter c.args.reader.now c.number.new.self c.reading.reader c.in_ok-count.ensures.reads (omega arith) c.reading.invariant in
    rw c.copied-first.ensures all.1

pub returns : goal.returns
returns c =
    let all = Passes-end (version_number c.args.version) 4096 c.in_ok-count.count c.reading.counter c.args.reader.now c.number.new.self c.reading.reader c.in_ok-count.ensures.reads (omega arith) c.reading.invariant in
    rw c.copied-first.ensures all.0
