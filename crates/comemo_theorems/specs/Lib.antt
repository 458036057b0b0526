pub mod History
pub mod Statements
pub mod Requests
pub mod Coarse
pub mod Fibonacci
