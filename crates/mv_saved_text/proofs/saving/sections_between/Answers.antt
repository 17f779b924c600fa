use Rattle.mv_saved_text.proofs.Common.{◌∙◌, ap, sym, sections_of}
use Rattle.mv_saved_text.specs.Parts.Saving.{stored_between, struct_under}
use Rattle.mv_saved_text.proofs.Saves.Filling.{between-few, between-more, between-past, between-readable, fill-all, fill-start, fill-there, fill-few, fill-known, fill-leaves}
use Rattle.mv_saved_text.proofs.saving.sections_between.Goals as goal

pub each-init : goal.each-init
each-init c =
    let wanted = stored_between c.args.first c.args.last in
    fill-start c.args.layouts.now (wanted c.args.storage.now.committed) (wanted c.iter-entries.result) (sections_of c.in_ok-rows.rows.items) (ap wanted c.iter-entries.ensures.value)
    c.in_ok-rows.ensures

pub add_to-requires-clause-keyed : goal.add_to-requires-clause-keyed
add_to-requires-clause-keyed c =
    (between-readable c.args.layouts.now c.args.first c.args.last c.args.storage.now.committed c.each.entries c.next.new.self (sections_of c.each.rows.items) _ c.in-Some.ensures c.each.invariant
    (sym c.is_between.ensures ∙ c.if-not-is_between.false) c.len-modules.ensures.store c.requires).keyed

pub add_to-requires-clause-there : goal.add_to-requires-clause-there
add_to-requires-clause-there c =
    let wanted = stored_between c.args.first c.args.last in
    let is = between-readable c.args.layouts.now c.args.first c.args.last c.args.storage.now.committed c.each.entries c.next.new.self (sections_of c.each.rows.items) _ c.in-Some.ensures c.each.invariant
    (sym c.is_between.ensures ∙ c.if-not-is_between.false) c.len-modules.ensures.store c.requires in
    fill-there c.args.layouts.now (wanted c.args.storage.now.committed) (wanted c.each.entries) (sections_of c.each.rows.items) (struct_under c.in-Some.key) is.keyed c.each.invariant

pub add_to-requires-clause-known : goal.add_to-requires-clause-known
add_to-requires-clause-known c =
    let wanted = stored_between c.args.first c.args.last in
    fill-known c.args.layouts.now (wanted c.args.storage.now.committed) (wanted c.each.entries) (sections_of c.each.rows.items) (struct_under c.in-Some.key) c.each.invariant

pub add_to-requires-clause-few : goal.add_to-requires-clause-few
add_to-requires-clause-few c =
    let wanted = stored_between c.args.first c.args.last in
    fill-few c.args.layouts.now (wanted c.args.storage.now.committed) (wanted c.each.entries) (sections_of c.each.rows.items) (struct_under c.in-Some.key)
    (between-few c.args.layouts.now c.args.first c.args.last c.args.storage.now.committed c.iter-entries.ensures.few) c.each.invariant

pub add_to-requires-clause-leaves : goal.add_to-requires-clause-leaves
add_to-requires-clause-leaves c =
    fill-leaves c.args.layouts.now _
    (between-readable c.args.layouts.now c.args.first c.args.last c.args.storage.now.committed c.each.entries c.next.new.self (sections_of c.each.rows.items) _ c.in-Some.ensures c.each.invariant
    (sym c.is_between.ensures ∙ c.if-not-is_between.false) c.len-modules.ensures.store c.requires)

pub each-preserved : goal.each-preserved
each-preserved c =
    let is = sym c.is_between.ensures ∙ c.if-not-is_between.false in
    let rows = sections_of c.each.rows.items in
    let own = between-readable c.args.layouts.now c.args.first c.args.last c.args.storage.now.committed c.each.entries c.next.new.self rows _ c.in-Some.ensures c.each.invariant is
    c.len-modules.ensures.store c.requires in
    between-more c.args.layouts.now c.args.first c.args.last c.args.storage.now.committed c.each.entries c.next.new.self rows _ c.in-Some.ensures c.each.invariant is
    (sections_of c.add_to.new.rows.items) own c.in_ok-add_to.ensures

pub each-preserved-then-not-is_between : goal.each-preserved-then-not-is_between
each-preserved-then-not-is_between c =
    between-past c.args.layouts.now c.args.first c.args.last c.args.storage.now.committed c.each.entries c.next.new.self (sections_of c.each.rows.items) _ c.in-Some.ensures c.each.invariant
    (sym c.is_between.ensures ∙ c.if-not-is_between.true)

pub returns : goal.returns
returns c =
    let wanted = stored_between c.args.first c.args.last in
    fill-all c.args.layouts.now (wanted c.args.storage.now.committed) (wanted c.each.entries) (sections_of c.each.rows.items) (ap wanted c.in_default.ensures.0) c.each.invariant
