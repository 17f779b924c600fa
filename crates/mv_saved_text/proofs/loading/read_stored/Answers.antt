use Rattle.mv_saved_text.proofs.Common.{◌∙◌, ap, subst, sym, true≢false, head_of, offers_of, AllPass, PublishedView}
use Rattle.mv_saved_text.proofs.Loads.BodyLaws.{each_body_is_read, each_read_is_body}
use Rattle.mv_saved_text.proofs.Loads.Loaded.{unread-as, fails-body, stored-fine, fails-tallied, is-loaded, is-ledger}
use Rattle.mv_ledger_state.proofs.Marks.{none-held-still, still-none}
use Rattle.mv_saved_text.proofs.Loads.LoadedTallies.{read-held}
use Rattle.mv_saved_text.proofs.loading.read_stored.Goals as goal

pub returns-in-Err-clause-refused : goal.returns-in-Err-clause-refused
returns-in-Err-clause-refused c = λ bytes begun.
    let passed = subst (λ (p : PublishedView). AllPass (offers_of c.args.head.now.offers.items) p.modules) (sym c.joined.view_is) c.requires.passed in
    unread-as bytes (head_of c.args.head.now).form _ _ c.args.reader.now c.in-Err.error c.unread.result c.unread.ensures c.in-Err.ensures.refused
    (fails-body bytes (head_of c.args.head.now) c.args.reader.now begun.are begun.begins c.joined.inside.store c.joined.inside.tallies passed c.joined.invariant.0 each_body_is_read)

pub are_tallied-requires-clause-held : goal.are_tallied-requires-clause-held
are_tallied-requires-clause-held c = read-held _ _ c.joined.invariant.0 _ c.in-Ok.ensures.kept

pub are_tallied-requires-clause-stored : goal.are_tallied-requires-clause-stored
are_tallied-requires-clause-stored c =
    let passed = subst (λ (p : PublishedView). AllPass (offers_of c.args.head.now.offers.items) p.modules) (sym c.joined.view_is) c.requires.passed in
    stored-fine c.requires.begun.0 (head_of c.args.head.now) c.args.reader.now c.requires.begun.1.are c.requires.begun.1.begins c.joined.inside.store c.joined.inside.tallies passed c.joined.invariant.0
    c.read_body.new.tallies c.in-Ok.storage.committed c.in-Ok.ensures.kept c.in-Ok.ensures.few c.in-Ok.ensures.ok each_read_is_body

pub returns-then-not-branch-clause-refused : goal.returns-then-not-branch-clause-refused
returns-then-not-branch-clause-refused c = λ bytes begun.
    let passed = subst (λ (p : PublishedView). AllPass (offers_of c.args.head.now.offers.items) p.modules) (sym c.joined.view_is) c.requires.passed in
    fails-tallied bytes (head_of c.args.head.now) c.args.reader.now begun.are begun.begins c.joined.inside.store c.joined.inside.tallies passed c.joined.invariant.0 c.read_body.new.tallies c.in-Ok.storage.committed c.in-Ok.ensures.kept c.in-Ok.ensures.few c.in-Ok.ensures.ok each_read_is_body
    (λ counted. true≢false (sym (c.in_ok-are_tallied.ensures.1 counted) ∙ c.if-not-branch.true))

pub returns-clause-whole : goal.returns-clause-whole
returns-clause-whole c =
    let passed = subst (λ (p : PublishedView). AllPass (offers_of c.args.head.now.offers.items) p.modules) (sym c.joined.view_is) c.requires.passed in
    is-ledger c.requires.begun.0 (head_of c.args.head.now) c.args.reader.now c.requires.begun.1.are c.requires.begun.1.begins c.joined.inside.store c.joined.inside.tallies passed c.joined.invariant.0
    c.read_body.new.tallies c.in-Ok.storage.committed c.in-Ok.ensures.kept c.in-Ok.ensures.few c.in-Ok.ensures.ok each_read_is_body (c.in_ok-are_tallied.ensures.0 c.if-not-branch.false)

pub returns-clause-loaded : goal.returns-clause-loaded
returns-clause-loaded c = λ bytes begun.
    let passed = subst (λ (p : PublishedView). AllPass (offers_of c.args.head.now.offers.items) p.modules) (sym c.joined.view_is) c.requires.passed in
    is-loaded bytes (head_of c.args.head.now) c.args.reader.now begun.are begun.begins c.joined.inside.store c.joined.inside.tallies passed c.joined.invariant.0 c.read_body.new.tallies c.in-Ok.storage.committed c.in-Ok.ensures.kept c.in-Ok.ensures.few c.in-Ok.ensures.ok each_read_is_body
    (c.in_ok-are_tallied.ensures.0 c.if-not-branch.false)

pub invariant_of-joined : goal.invariant_of-joined
invariant_of-joined c =
    let none = ap (λ (p : PublishedView). p.marks) c.joined.view_is ∙ c.requires.marks in
    (read-held _ _ c.joined.invariant.0 _ c.read_body.ensures.kept, none-held-still c.joined.inside.blocks _ _ _ c.joined.invariant.1 none)

pub invariant_of-joined-in_err-are_tallied : goal.invariant_of-joined-in_err-are_tallied
invariant_of-joined-in_err-are_tallied c =
    let none = ap (λ (p : PublishedView). p.marks) c.joined.view_is ∙ c.requires.marks in
    (read-held _ _ c.joined.invariant.0 _ c.read_body.ensures.kept, none-held-still c.joined.inside.blocks _ _ _ c.joined.invariant.1 none)

pub invariant_of-joined-then-not-branch : goal.invariant_of-joined-then-not-branch
invariant_of-joined-then-not-branch c =
    let none = ap (λ (p : PublishedView). p.marks) c.joined.view_is ∙ c.requires.marks in
    (read-held _ _ c.joined.invariant.0 _ c.read_body.ensures.kept, none-held-still c.joined.inside.blocks _ _ _ c.joined.invariant.1 none)

pub invariant_of-joined-2 : goal.invariant_of-joined-2
invariant_of-joined-2 c =
    let none = ap (λ (p : PublishedView). p.marks) c.joined.view_is ∙ c.requires.marks in
    (read-held _ _ c.joined.invariant.0 _ c.read_body.ensures.kept, none-held-still c.joined.inside.blocks _ _ _ c.joined.invariant.1 none)

pub returns-in-Err-clause-marks : goal.returns-in-Err-clause-marks
returns-in-Err-clause-marks c =
    let none = ap (λ (p : PublishedView). p.marks) c.joined.view_is ∙ c.requires.marks in
    still-none c.joined.inside.blocks _ _ _ none

pub returns-in_err-are_tallied-clause-marks : goal.returns-in_err-are_tallied-clause-marks
returns-in_err-are_tallied-clause-marks c =
    let none = ap (λ (p : PublishedView). p.marks) c.joined.view_is ∙ c.requires.marks in
    still-none c.joined.inside.blocks _ _ _ none

pub returns-then-not-branch-clause-marks : goal.returns-then-not-branch-clause-marks
returns-then-not-branch-clause-marks c =
    let none = ap (λ (p : PublishedView). p.marks) c.joined.view_is ∙ c.requires.marks in
    still-none c.joined.inside.blocks _ _ _ none

pub returns-clause-marks : goal.returns-clause-marks
returns-clause-marks c =
    let none = ap (λ (p : PublishedView). p.marks) c.joined.view_is ∙ c.requires.marks in
    still-none c.joined.inside.blocks _ _ _ none
