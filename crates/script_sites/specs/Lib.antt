pub mod Answers
pub mod Replying
pub mod Seen
pub mod Sent
pub mod Trace
pub mod Writing
