pub use Rattle.xapi_keys.specs.Keys as XapiKeysKeys
pub mod Merging
pub mod Documents
pub mod Changes
pub mod Docs
