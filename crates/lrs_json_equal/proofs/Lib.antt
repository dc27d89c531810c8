pub mod SameValues
mod Indices
