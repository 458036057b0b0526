pub mod Syntax
pub mod Checking
pub mod Projects
pub mod Questions
pub mod SourceLaws
pub mod QuestionLaws
