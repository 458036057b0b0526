pub mod Weathers
