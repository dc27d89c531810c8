pub use Rattle.xapi_format.proofs.Appending as XapiFormatAppendingProofs
pub use Rattle.xapi_format.proofs.Authorities as XapiFormatAuthoritiesProofs
pub use Rattle.xapi_format.specs.Authorities as XapiFormatAuthorities
pub use Rattle.xapi_format.specs.Completed as XapiFormatCompleted
pub use Rattle.xapi_format.specs.Party as XapiFormatParty
pub use Rattle.xapi_format.specs.declared.authority.Authority as XapiFormatAuthorityAuthority
pub use Rattle.xapi_format.specs.declared.authority.Authority.TheVariants as XapiFormatAuthorityAuthorityTheVariants
pub use Rattle.xapi_format.specs.declared.format.Format as XapiFormatFormatFormat
pub use Rattle.xapi_format.specs.declared.format.Format.TheVariants as XapiFormatFormatFormatTheVariants
pub mod Received
pub mod Excerpts
pub mod Offsets
pub mod Marking
