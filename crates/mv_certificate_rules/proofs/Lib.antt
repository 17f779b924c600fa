pub mod LocalsOrder
