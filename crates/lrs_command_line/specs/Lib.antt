pub mod CommandLine
pub mod Shapes
