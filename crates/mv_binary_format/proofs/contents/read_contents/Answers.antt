use Rattle.mv_binary_format.proofs.Common.{[], ◌++◌, ◌+◌, ◌<◌, ◌∙◌, ◌∷◌, ◌≡◌, ◌≤◌, Err, ap, arith, length, option_map, refl, sym, common_steps, map_push, Phase, header_of, headers_of}
use Rattle.mv_binary_format.proofs.Common.{begins_at, contents_from, without, table_of, tables_of}
use Rattle.std.proofs.Common.{vec_len}
use Rattle.std.proofs.lemmas.Option.{MatchOption-at_some}
use Rattle.mv_binary_format.proofs.Placed.{placed-next, placed-gap, placed-beyond, placed-cut, placed-done, length-without}
use Rattle.mv_binary_format.proofs.Takings.{Takes-refused}
use Rattle.mv_binary_format.proofs.Taken.{empty_map, some_map}
use Rattle.mv_binary_format.proofs.contents.read_contents.Goals as goal

pub returns-in_err-header : goal.returns-in_err-header
returns-in_err-header c =
    let n : length c.reading.headers.items ≡ vec_len c.reading.headers = grind (arith, common_steps) in
    let r_is : c.from_residual-in_err-header.result ≡ Err (Phase 2) = grind (arith, common_steps) in
    Takes-refused _ (contents_from (length (headers_of c.args.headers.items)) 0 (headers_of c.args.headers.items)) _ _ _ r_is
    (placed-gap (tables_of c.reading.tables.items) (headers_of c.reading.headers.items) c.reading.end c.reading.reader _ (some_map header_of c.reading.headers.items _ n c.reading-test.ensures)
    (sym c.take_header.ensures.first ∙ ap (option_map header_of) c.in_err-header.ensures.ok_part) c.reading.invariant.goes)

pub returns-then-end-gt-MOST_CONTENT_BYTES : goal.returns-then-end-gt-MOST_CONTENT_BYTES
returns-then-end-gt-MOST_CONTENT_BYTES c =
    let lt : 65536 < c.reading.end + c.in_ok-header.header.length = omega (arith, c.from-end.ensures) in (
      refl,
      placed-beyond (tables_of c.reading.tables.items) (headers_of c.reading.headers.items) c.reading.end c.reading.reader (header_of c.in_ok-header.header) _
          (sym c.take_header.ensures.first ∙ ap (option_map header_of) c.in_ok-header.ensures.ok_part) lt c.reading.invariant.goes,
    )

pub returns-in_err-content : goal.returns-in_err-content
returns-in_err-content c =
    let le : c.reading.end + c.in_ok-header.header.length ≤ 65536 = omega (arith, c.from-end.ensures) in
    let r_is : c.from_residual-in_err-content.result ≡ Err (Phase 2) = grind (arith, common_steps, c.in_err-content.ensures.0) in
    Takes-refused _ (contents_from (length (headers_of c.args.headers.items)) 0 (headers_of c.args.headers.items)) _ _ _ r_is
    (placed-cut (tables_of c.reading.tables.items) (headers_of c.reading.headers.items) c.reading.end c.reading.reader (header_of c.in_ok-header.header) _
    (sym c.take_header.ensures.first ∙ ap (option_map header_of) c.in_ok-header.ensures.ok_part) le c.in_err-content.ensures.1 c.reading.invariant.goes)

pub reading-smaller : goal.reading-smaller
reading-smaller c =
    let others = MatchOption-at_some _ (λ _. headers_of c.take_header.new.headers.items ≡ without (begins_at c.reading.end) (headers_of c.reading.headers.items)) c.in_ok-header.header c.in_ok-header.ensures.ok_part c.take_header.ensures.others in
    let fewer = length-without (begins_at c.reading.end) (headers_of c.reading.headers.items) (header_of c.in_ok-header.header) (sym c.take_header.ensures.first ∙ ap (option_map header_of) c.in_ok-header.ensures.ok_part) in
    omega (arith, ap length others, fewer)

pub reading-preserved : goal.reading-preserved
reading-preserved c =
    let le : c.reading.end + c.in_ok-header.header.length ≤ 65536 = omega (arith, c.from-end.ensures) in
    let others = MatchOption-at_some _ (λ _. headers_of c.take_header.new.headers.items ≡ without (begins_at c.reading.end) (headers_of c.reading.headers.items)) c.in_ok-header.header c.in_ok-header.ensures.ok_part c.take_header.ensures.others in
    let pushed : c.push.new.self.items ≡ c.reading.tables.items ++ record { kind = c.in_ok-header.header.kind; content = c.in_ok-content.content } ∷ [] = grind (arith, common_steps) in
    let seen : tables_of c.push.new.self.items ≡ tables_of c.reading.tables.items ++ record { kind = (header_of c.in_ok-header.header).kind; content = c.in_ok-content.content.now } ∷ [] =
    ap tables_of pushed ∙ map_push table_of c.reading.tables.items (record { kind = c.in_ok-header.header.kind; content = c.in_ok-content.content }) in
    let next = placed-next (tables_of c.reading.tables.items) (headers_of c.reading.headers.items) c.reading.end c.reading.reader (header_of c.in_ok-header.header) c.in_ok-content.content.now c.bytes.new.self _
    (sym c.take_header.ensures.first ∙ ap (option_map header_of) c.in_ok-header.ensures.ok_part) le c.in_ok-content.ensures c.reading.invariant.goes in
    record {
      small = omega arith;
      goes = rw (seen, others, c.from-end.ensures) next;
    }

pub returns : goal.returns
returns c =
    let n : length c.reading.headers.items ≡ vec_len c.reading.headers = grind (arith, common_steps) in
    placed-done (tables_of c.reading.tables.items) (headers_of c.reading.headers.items) c.reading.end c.reading.reader _ (empty_map header_of c.reading.headers.items _ n c.reading-test.ensures) c.reading.invariant.goes
