pub mod Bodies
pub mod Writing
