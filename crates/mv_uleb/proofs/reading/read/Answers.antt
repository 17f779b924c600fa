use Rattle.std.proofs.Common.{arith, subst}
use Rattle.mv_uleb.specs.declared.UlebError.TheVariants.{Ends, Long, Range}
use Rattle.mv_uleb.specs.Reading.{Gives}
use Rattle.mv_uleb.proofs.Front.{Gives-parsed, Gives-refused, Gives-error, Gives-spelled}
use Rattle.mv_uleb.proofs.reading.read.Goals as goal

pub returns-clause-parsed : goal.returns-clause-parsed
returns-clause-parsed c = Gives-parsed c.args.max c.args.bytes.now c.read_front.result c.read_front.ensures

pub returns-clause-refused : goal.returns-clause-refused
returns-clause-refused c = Gives-refused c.args.max c.args.bytes.now c.read_front.result (omega arith) c.read_front.ensures

pub returns-clause-ends : goal.returns-clause-ends
returns-clause-ends c = (
  λ is. subst (Gives 10 c.args.max c.args.bytes.now) is c.read_front.ensures,
  λ h. Gives-error c.args.max c.args.bytes.now Ends c.read_front.result (omega arith) h c.read_front.ensures,
)

pub returns-clause-long : goal.returns-clause-long
returns-clause-long c = (
  λ is. subst (Gives 10 c.args.max c.args.bytes.now) is c.read_front.ensures,
  λ h. Gives-error c.args.max c.args.bytes.now Long c.read_front.result (omega arith) h c.read_front.ensures,
)

pub returns-clause-range : goal.returns-clause-range
returns-clause-range c = (
  λ is. subst (Gives 10 c.args.max c.args.bytes.now) is c.read_front.ensures,
  λ h. Gives-error c.args.max c.args.bytes.now Range c.read_front.result (omega arith) h c.read_front.ensures,
)

pub returns-clause-spelled : goal.returns-clause-spelled
returns-clause-spelled c n rest le t = Gives-spelled c.args.max c.args.bytes.now c.read_front.result (omega arith) c.read_front.ensures n rest le t
