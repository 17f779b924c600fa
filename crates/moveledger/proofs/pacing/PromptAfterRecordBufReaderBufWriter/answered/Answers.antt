use Rattle.std.proofs.Common.{take, drop, sym, take-append-drop}
use Rattle.std.specs.Io.Buffered.{reader_buffer}
use Rattle.moveledger.proofs.pacing.PromptAfterRecordBufReaderBufWriter.answered.Goals as goal

pub returns-in-Some-clause-done : goal.returns-in-Some-clause-done
returns-in-Some-clause-done g c none =
    let n = c.in-Some._next.length in
    let held = reader_buffer c.args.reader.now in
    let front = rw c.buffer.ensures at c.in-Some.ensures in
    absurd (none c.in-Some._next.kind c.in-Some._next.payload.now (take n held) (drop n held) front.0 (sym (take-append-drop n held)))
