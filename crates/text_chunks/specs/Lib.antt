pub mod Laws
pub mod Packing
pub mod Parts
pub mod Typed
pub mod Unpacking
