use Rattle.std.proofs.Common.{◌≡◌, ◌+◌, ◌++◌, ◌∷◌, [], arith, subst, sym}
use Rattle.std.proofs.lemmas.Grind.{common_steps}
use Rattle.mv_move_types.specs.Versions.{version_number}
use Rattle.mv_module_text.specs.Parsing.{counted_from}
use Rattle.mv_module_text.specs.Reads.{Collects}
use Rattle.mv_module_text.proofs.Entries.{ReadsOn, ReadsOn-next, ReadsOn-refuses}
use Rattle.mv_module_text.proofs.reader.Reader.collect.Goals as goal

pub returns-in_err-entry : goal.returns-in_err-entry
returns-in_err-entry g c =
    let each = g.T.Entry.from (version_number c.args.version) in
    let same : c.self.inside.rest.now ≡ c.args.self.now = cc in
    subst (λ z. Collects (counted_from c.args.most each) z c.from_residual-in_err-entry.result c.args.self.now) same
    (ReadsOn-refuses each c.args.most c.in_ok-count.count c.entries.counter c.self.inside.rest.now c.number.new.self c.entries.entries.items c.entries.ahead
    c.args.self.now c.from_residual-in_err-entry.result c.in_err-entry.field-0.0 c.in_ok-count.ensures.reads (omega arith) c.in_err-entry.ensures
    c.from_residual-in_err-entry.ensures.1 c.entries.invariant)

pub entries-preserved : goal.entries-preserved
entries-preserved g c =
    let each = g.T.Entry.from (version_number c.args.version) in
    let pushed : c.push.new.self.items ≡ c.entries.entries.items ++ c.in_ok-entry.entry ∷ [] = grind (arith, common_steps) in
    subst (λ z. ReadsOn each c.in_ok-count.count (c.entries.counter + 1) c.number.new.self z c.read.new.reader) (sym pushed)
    (ReadsOn-next each c.in_ok-count.count c.entries.counter c.number.new.self c.entries.entries.items c.entries.ahead c.read.new.reader c.in_ok-entry.entry
    (omega arith) c.in_ok-entry.ensures c.entries.invariant)
