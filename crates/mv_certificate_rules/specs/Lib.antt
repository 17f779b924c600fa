pub mod LocalsRules
pub mod Nodes
pub mod BorrowRules
pub mod Certificate
pub mod Shape
pub mod CertificateText
pub mod Verified
