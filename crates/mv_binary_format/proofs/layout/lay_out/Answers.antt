use Rattle.mv_binary_format.proofs.Common.{[], AreOf, written_headers}
use Rattle.mv_binary_format.proofs.Ordered.{AreOf-start}
use Rattle.mv_binary_format.proofs.layout.lay_out.Goals as goal

pub returns : goal.returns
returns c =
    let t0 : AreOf [] (written_headers c.new.result.items) c.new-2.result.items = rw (c.new.ensures.items, c.new-2.ensures.items) AreOf-start in
    let t1 = c.in_ok-add_table.ensures _ t0 in
    let t2 = c.in_ok-add_table-2.ensures _ t1 in
    let t3 = c.in_ok-add_table-3.ensures _ t2 in
    let t4 = c.in_ok-add_table-4.ensures _ t3 in
    let t5 = c.in_ok-add_table-5.ensures _ t4 in
    let t6 = c.in_ok-add_table-6.ensures _ t5 in
    let t7 = c.in_ok-add_table-7.ensures _ t6 in
    let t8 = c.in_ok-add_table-8.ensures _ t7 in
    let t9 = c.in_ok-add_table-9.ensures _ t8 in
    let t10 = c.in_ok-add_table-10.ensures _ t9 in
    rw (← c.module_handles.ensures, ← c.struct_handles.ensures, ← c.function_handles.ensures, ← c.signatures.ensures, ← c.constants.ensures, ← c.identifiers.ensures, ← c.addresses.ensures, ← c.structs.ensures.value, ← c.functions.ensures.value, ← c.field_handles.ensures) t10
