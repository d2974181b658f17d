pub mod Laws
pub mod RunSoFar
pub mod TextStep
