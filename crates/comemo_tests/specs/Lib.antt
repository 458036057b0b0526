pub mod Broken
pub mod Touching
