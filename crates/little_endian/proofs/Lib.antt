pub mod ArrayLaws
pub mod ByteLaws
