use Rattle.mv_binary_format.proofs.Common.{[], ℕ, ◌==◌, ◌∙◌, ◌≡◌, Bool, List, None, Option, Some, ap, option_map, sym, position, table_code, Table, is_of, table_of, tables_of}
use Rattle.std.specs.Option.{option_map_or}
use Rattle.mv_binary_format.specs.declared.contents.Table.{Table as ReadTable}
use Rattle.mv_binary_format.proofs.Taken.{find-map, without-map, without-none, first_at, none_at}
use Rattle.mv_binary_format.proofs.contents.take_content.Goals as goal

-- the content of a table that was found
abbrev content_at : Option Table → List ℕ
content_at o = option_map_or (λ t. t.content) o []

pub returns-in-Some-clause-content : goal.returns-in-Some-clause-content
returns-in-Some-clause-content c =
    let xs = c.args.tables.now.items in
    let p : ReadTable → Bool = λ t. table_code t.kind == table_code c.args.kind in
    let e : position p xs ≡ Some c.in-Some.i = sym (ap (position p) c.deref.ensures.value) ∙ sym c.place_of.ensures ∙ c.in-Some.is in
    let s = first_at p xs c.in-Some.i c.remove-table.result e c.remove-table.ensures.value in
    sym (ap content_at (find-map table_of (is_of (table_code c.args.kind)) xs ∙ ap (option_map table_of) s.0))

pub returns-in-Some-clause-others : goal.returns-in-Some-clause-others
returns-in-Some-clause-others c =
    let xs = c.args.tables.now.items in
    let p : ReadTable → Bool = λ t. table_code t.kind == table_code c.args.kind in
    let e : position p xs ≡ Some c.in-Some.i = sym (ap (position p) c.deref.ensures.value) ∙ sym c.place_of.ensures ∙ c.in-Some.is in
    let s = first_at p xs c.in-Some.i c.remove-table.result e c.remove-table.ensures.value in
    ap tables_of (c.remove-table.ensures.items ∙ sym s.1) ∙ sym (without-map table_of (is_of (table_code c.args.kind)) xs)

pub returns-in-None-clause-content : goal.returns-in-None-clause-content
returns-in-None-clause-content c =
    let xs = c.args.tables.now.items in
    let p : ReadTable → Bool = λ t. table_code t.kind == table_code c.args.kind in
    let e : position p xs ≡ None = sym (ap (position p) c.deref.ensures.value) ∙ sym c.place_of.ensures ∙ c.in-None.is in
    sym (ap content_at (find-map table_of (is_of (table_code c.args.kind)) xs ∙ ap (option_map table_of) (none_at p xs e)))

pub returns-in-None-clause-others : goal.returns-in-None-clause-others
returns-in-None-clause-others c =
    let xs = c.args.tables.now.items in
    let p : ReadTable → Bool = λ t. table_code t.kind == table_code c.args.kind in
    let e : position p xs ≡ None = sym (ap (position p) c.deref.ensures.value) ∙ sym c.place_of.ensures ∙ c.in-None.is in
    sym (without-map table_of (is_of (table_code c.args.kind)) xs ∙ ap tables_of (without-none p xs (none_at p xs e)))
