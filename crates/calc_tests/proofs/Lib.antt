pub mod AskedAgain
