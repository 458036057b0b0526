mod Listing
mod Loops
mod Noting
mod Reaching
mod Truths
