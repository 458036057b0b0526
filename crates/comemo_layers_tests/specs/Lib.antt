pub mod Rolls
pub mod RollLaws
pub mod RollTells
