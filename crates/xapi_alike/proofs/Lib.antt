pub mod Walks
pub mod LeafLaws
pub mod Neat
pub mod Objects
pub mod Bags
pub mod Laws
pub mod Ranking
