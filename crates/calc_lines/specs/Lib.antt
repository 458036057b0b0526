pub mod Answers
pub mod Lines
pub mod Runs
pub mod Started
pub mod Written
