pub mod SameValue
