pub use Rattle.cmi5_verdict.specs.Nodes as Cmi5VerdictNodes
pub use Rattle.cmi5_verdict.specs.Statements as Cmi5VerdictStatements
pub use Rattle.cmi5_verdict.specs.Units as Cmi5VerdictUnits
pub use Rattle.cmi5_verdict.specs.XapiIndexAddingProofs as XapiIndexAddingProofs
pub use Rattle.cmi5_verdict.specs.XapiIndexAhead as XapiIndexAhead
pub use Rattle.cmi5_verdict.specs.XapiIndexBatches as XapiIndexBatches
pub use Rattle.cmi5_verdict.specs.XapiIndexFirstsProofs as XapiIndexFirstsProofs
pub use Rattle.cmi5_verdict.specs.XapiIndexFoundProofs as XapiIndexFoundProofs
pub use Rattle.cmi5_verdict.specs.XapiIndexIndex as XapiIndexIndex
pub use Rattle.cmi5_verdict.specs.XapiIndexRisingProofs as XapiIndexRisingProofs
pub use Rattle.cmi5_verdict.specs.XapiIndexSuppliesProofs as XapiIndexSuppliesProofs
pub use Rattle.cmi5_verdict.specs.declared.enrolment.Enrolment as Cmi5VerdictEnrolmentEnrolment
pub mod Holding
pub mod Tallies
pub mod Changes
pub mod Running
pub mod Positions
pub mod Told
