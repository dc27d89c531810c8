pub mod Lists
pub mod Unbroken
pub mod UnitLaws
