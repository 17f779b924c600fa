pub mod Common
pub mod Shows
