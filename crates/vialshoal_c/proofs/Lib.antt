mod Bases
mod Filling
mod Framing
mod Handing
mod Held
mod Names
mod NoteEdits
mod NoteTexts
mod Putting
mod Runs
mod Told
pub mod Values
