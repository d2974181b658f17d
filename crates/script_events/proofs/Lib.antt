pub mod HexPairs
pub mod LooksValues
pub mod ReadFronts
pub mod ReadNames
pub mod ReadWords
pub mod Spelling
pub mod Verbs
pub mod Words
