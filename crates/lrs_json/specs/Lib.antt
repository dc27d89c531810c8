pub use Rattle.lrs_decimal.proofs.Tests as LrsDecimalTestsProofs
pub use Rattle.lrs_decimal.specs.Numbers as LrsDecimalNumbers
pub use Rattle.lrs_decimal.specs.Range as LrsDecimalRange
pub use Rattle.lrs_decimal.specs.Values as LrsDecimalValues
pub mod formers
pub mod Json
pub mod View
pub mod Parts
pub mod Trees
pub mod Written
pub mod Texts
pub mod Find
pub mod Names
pub mod Depth
pub mod Fits
pub mod Spellable
pub mod Behind
