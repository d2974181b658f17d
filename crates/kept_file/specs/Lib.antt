pub mod KeptFiles
pub mod PackedFiles
pub mod PackedParts
pub mod Parts
pub mod SiteParts
