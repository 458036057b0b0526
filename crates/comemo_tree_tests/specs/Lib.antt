pub mod CountedCalls
pub mod Refusals
pub mod Laws
