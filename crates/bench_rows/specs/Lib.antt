pub mod Started
pub mod PlaceAnswers
pub mod Emitting
