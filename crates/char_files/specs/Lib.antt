pub mod CharFiles
pub mod CharName
pub mod Chars
pub mod Plain
pub mod Runs
pub mod SiteMap
pub mod SiteMapLends
pub mod Stretch
