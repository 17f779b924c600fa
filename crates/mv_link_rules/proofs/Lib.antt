-- What the tests of the rules mean: types by names, and that a module depends on another one.
pub mod Common
pub mod TagTests
pub mod DependsOn
