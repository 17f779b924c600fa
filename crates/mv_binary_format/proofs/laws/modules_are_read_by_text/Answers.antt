use Rattle.mv_binary_format.proofs.Back.{whole-sound, whole-complete}
use Rattle.mv_binary_format.proofs.laws.modules_are_read_by_text.Goals as goal

pub returns : goal.returns
returns c bytes m are =
    let indices = c.entries_stand_by_text.ensures.indices in
    let laws = c.tables_stand_as_texts.ensures in
    (whole-sound c.stands_by_form.ensures indices laws bytes m are, whole-complete c.stands_by_form.ensures indices laws bytes m are)
