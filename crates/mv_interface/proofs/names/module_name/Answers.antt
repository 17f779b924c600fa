use Rattle.mv_interface.proofs.Common.{sym}
use Rattle.mv_interface.proofs.HandleNames.{named-by, not-at, nothing, unnamed-address, unnamed-handle, unnamed-identifier}
use Rattle.mv_bound_rules.proofs.Found.{got-at}
use Rattle.mv_interface.proofs.names.module_name.Goals as goal

pub returns-in_err-handle : goal.returns-in_err-handle
returns-in_err-handle c =
    let m = c.args.m.now in
    nothing _ c.from_residual.result _ c.from_residual.ensures
    (unnamed-handle m c.args.h (not-at m.module_handles c.module_handles.result.now c.args.h c.module_handles.ensures c.in_err-handle.ensures.lookup))

pub returns-in_err-address : goal.returns-in_err-address
returns-in_err-address c =
    let m = c.args.m.now in
    let handle = c.in_ok-handle.handle in
    nothing _ c.from_residual-in_err-address.result _ c.from_residual-in_err-address.ensures
    (unnamed-address m c.args.h handle.now (got-at m.module_handles c.module_handles.result.now c.args.h handle c.module_handles.ensures c.in_ok-handle.ensures.lookup)
    (not-at m.addresses c.addresses.result.now handle.now.address c.addresses.ensures c.in_err-address.ensures.lookup))

pub returns-in_err-name : goal.returns-in_err-name
returns-in_err-name c =
    let m = c.args.m.now in
    let handle = c.in_ok-handle.handle in
    nothing _ c.from_residual-in_err-name.result _ c.from_residual-in_err-name.ensures
    (unnamed-identifier m c.args.h handle.now c.in_ok-address.address.now
    (got-at m.module_handles c.module_handles.result.now c.args.h handle c.module_handles.ensures c.in_ok-handle.ensures.lookup)
    (got-at m.addresses c.addresses.result.now handle.now.address c.in_ok-address.address c.addresses.ensures c.in_ok-address.ensures.lookup)
    (sym c.in_err-name.ensures))

pub returns : goal.returns
returns c =
    let m = c.args.m.now in
    let handle = c.in_ok-handle.handle in
    sym (named-by m c.args.h handle.now c.in_ok-address.address.now c.in_ok-name.name.now
    (got-at m.module_handles c.module_handles.result.now c.args.h handle c.module_handles.ensures c.in_ok-handle.ensures.lookup)
    (got-at m.addresses c.addresses.result.now handle.now.address c.in_ok-address.address c.addresses.ensures c.in_ok-address.ensures.lookup)
    (sym c.in_ok-name.ensures))
