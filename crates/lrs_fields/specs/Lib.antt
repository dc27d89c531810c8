pub mod Values
pub mod Reading
pub mod Digits
pub use Rattle.lrs_decimal.specs.Numbers as LrsDecimalNumbers
