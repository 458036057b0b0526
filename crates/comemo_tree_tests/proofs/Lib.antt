mod Drafts
pub mod Agreeing
pub mod Once
pub mod Alike
pub mod AlikePairs
pub mod AlikeAsked
pub mod Found
