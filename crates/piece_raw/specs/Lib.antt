pub mod Lends
pub mod Linked
pub mod Ownership
pub mod Ring
pub mod RingLends
pub mod Spares
pub mod Tied
