pub mod Numbers
pub mod Failing
pub mod TouchedAlike
