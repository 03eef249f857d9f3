pub mod Direct
pub mod DirectFacts
pub mod Instances
pub mod Trials
