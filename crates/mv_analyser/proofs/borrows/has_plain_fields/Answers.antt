use Rattle.mv_analyser.proofs.Fields.{few_fields, plain_fields}
use Rattle.mv_analyser.proofs.borrows.has_plain_fields.Goals as goal

pub returns-clause-few : goal.returns-clause-few
returns-clause-few c = few_fields c.module.result.now c.args.m.now c.module.ensures.value c.structs-structs.ensures.fits

pub returns-clause-plain : goal.returns-clause-plain
returns-clause-plain c = plain_fields c.args.m.now c.module.ensures.sound.signed.fields
