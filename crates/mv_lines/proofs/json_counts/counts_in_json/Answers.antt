use Rattle.mv_lines.proofs.Common.{◌∙◌, Tallied, counted_in}
use Rattle.serde_json.proofs.FreeTexts.{text_of_value}
use Rattle.mv_lines.specs.Sending.{count_data, count_texts}
use Rattle.mv_lines.proofs.Shows.Objects.{members_whole, object_text}
use Rattle.mv_lines.proofs.Shows.Pieces.{plain-counts}
use Rattle.mv_lines.proofs.json_counts.counts_in_json.Goals as goal

pub returns-in-Ok : goal.returns-in-Ok
returns-in-Ok c =
    let t : Tallied = counted_in c.args.counted.now in
    let sent = c.in-Ok.ensures.events in
    text_of_value (count_data t) sent.0 c.in-Ok.json.items sent.1 sent.2 (members_whole (count_texts t)) ∙ object_text (count_texts t) (plain-counts t c.requires)
