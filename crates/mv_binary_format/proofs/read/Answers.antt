use Rattle.mv_binary_format.proofs.Common.{[], ◌∙◌, ◌≡◌, Some, ap, arith, subst, sym, version_number, index_from, headers_of, module_of, tables_of}
use Rattle.mv_binary_format.proofs.Back.{all-are_bytes}
use Rattle.mv_binary_format.proofs.Fitting.{module_of-parts}
use Rattle.mv_binary_format.proofs.read.Goals as goal

pub read-requires : goal.read-requires
read-requires c = λ m m_is.
    let are = all-are_bytes c.args.bytes.now (λ i. omega (arith, c.type_inv.bytes i)) in
    let none : c.index.new.self ≡ [] = c.is_empty.ensures.0 c.if-not-is_empty.false in
    let own : index_from c.read_contents.new.reader ≡ Some (c.in_ok-own.own, []) = subst (λ z. index_from c.read_contents.new.reader ≡ Some (c.in_ok-own.own, z)) none c.in_ok-own.ensures in
    let spelled = module_of-parts c.new-reader.result c.read_magic.new.reader c.read_version.new.reader c.read_headers.new.reader c.read_contents.new.reader
    (version_number c.in_ok-version.version) (headers_of c.in_ok-headers.headers.items) (tables_of c.in_ok-tables.tables.items) c.in_ok-own.own m
    c.in_ok-read_magic.ensures c.in_ok-version.ensures c.in_ok-headers.ensures c.in_ok-tables.ensures own m_is in
    ((c.modules_are_read_by_text.ensures c.args.bytes.now m are).0 (ap module_of (sym c.new-reader.ensures) ∙ spelled)).fits
