pub mod Admission
pub mod Chains
pub mod Laws
pub mod Note
