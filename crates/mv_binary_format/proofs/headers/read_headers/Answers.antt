use Rattle.mv_binary_format.proofs.Common.{[], ◌++◌, ◌+◌, ◌∙◌, ◌∷◌, ◌≡◌, List, ap, arith, refl, subst, sym, true, map_push, ◌>>=◌, counted_from, entries_from, header_of, headers_of, Header}
use Rattle.mv_binary_format.proofs.Common.{header_from}
use Rattle.std.proofs.Common.{Vec, Global}
use Rattle.std.specs.Result.{is_ok}
use Rattle.std.proofs.lemmas.Result.{err_from_is_err_and}
use Rattle.mv_binary_format.specs.declared.headers.Header.{Header as Entry}
use Rattle.mv_module_text.proofs.Entries.{ReadsOn, ReadsOn-next, ReadsOn-stops, ReadsOn-end}
use Rattle.mv_binary_format.proofs.Takings.{Takes-refused}
use Rattle.mv_binary_format.proofs.headers.read_headers.Goals as goal

abbrev shown : Vec Entry Global → List Header
shown v = headers_of v.items

pub returns-in_err-count : goal.returns-in_err-count
returns-in_err-count c =
    let p = err_from_is_err_and c.from_residual.result c.from_residual.ensures.1 in
    let h = c.in_err-count.ensures.reads in
    Takes-refused shown (counted_from 10 header_from) c.args.reader.now c.number.new.self c.from_residual.result (cc (p.1, p.2, h.0)) (ap (λ r. r >>= λ n. entries_from header_from n.0 n.1) h.1)

pub returns-in_err-header : goal.returns-in_err-header
returns-in_err-header c =
    let p = err_from_is_err_and c.from_residual-in_err-header.result c.from_residual-in_err-header.ensures.1 in
    let h = c.in_err-header.ensures in
    Takes-refused shown (counted_from 10 header_from) c.args.reader.now c.read_header.new.reader c.from_residual-in_err-header.result (cc (p.1, p.2, h.0))
    (ReadsOn-stops header_from 10 c.in_ok-count.count c.reading.counter c.args.reader.now c.number.new.self (headers_of c.reading.headers.items) c.reading.reader c.in_ok-count.ensures.reads (omega arith) h.1
    c.reading.invariant)

pub reading-preserved : goal.reading-preserved
reading-preserved c =
    let ok : is_ok c.push.result ≡ true = sym c.map_err.ensures.variant ∙ ap is_ok c.in_ok-map_err.was in
    let pushed : c.push.new.self.items ≡ c.reading.headers.items ++ c.in_ok-header.header ∷ [] = rw (c.push.ensures.items, ok) refl in
    let seen : headers_of c.push.new.self.items ≡ headers_of c.reading.headers.items ++ header_of c.in_ok-header.header ∷ [] = ap headers_of pushed ∙ map_push header_of c.reading.headers.items c.in_ok-header.header in
    subst (λ z. ReadsOn header_from c.in_ok-count.count (c.reading.counter + 1) c.number.new.self z c.read_header.new.reader) (sym seen)
    (ReadsOn-next header_from c.in_ok-count.count c.reading.counter c.number.new.self (headers_of c.reading.headers.items) c.reading.reader c.read_header.new.reader (header_of c.in_ok-header.header)
    (omega arith) c.in_ok-header.ensures c.reading.invariant)

pub returns : goal.returns
returns c =
    ReadsOn-end header_from 10 c.in_ok-count.count c.reading.counter c.args.reader.now c.number.new.self (headers_of c.reading.headers.items) c.reading.reader c.in_ok-count.ensures.reads (omega arith) c.reading.invariant
