pub mod Closure
pub mod Fronts
pub mod Growing
pub mod Sets
pub mod Verdict
