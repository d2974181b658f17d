mod Beside
mod Leading
mod Reading
mod Replaced
mod Replacing
