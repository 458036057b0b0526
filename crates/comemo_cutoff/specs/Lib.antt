pub mod Cells
pub mod Rounds
