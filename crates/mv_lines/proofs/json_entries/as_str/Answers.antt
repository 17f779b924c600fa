use Rattle.mv_lines.proofs.Shows.Characters.{plain_utf8}
use Rattle.mv_lines.proofs.json_entries.as_str.Goals as goal

pub unreachable-requires : goal.unreachable-requires
unreachable-requires c = c.in-Err.ensures.cases.0 (plain_utf8 c.args.text.now c.requires)
