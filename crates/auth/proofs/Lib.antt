pub mod ListedFlags
pub mod MadeTables
pub mod RequestFacts
pub mod SameRosters
