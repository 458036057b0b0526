pub mod Dependents
pub mod DependentLaws
pub mod Lists
