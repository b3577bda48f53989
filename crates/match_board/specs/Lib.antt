pub mod Board
pub mod Tile
pub mod Turns
pub mod Borders
pub mod Mates
pub mod Clues
pub mod FirstSides
pub mod FaultText
