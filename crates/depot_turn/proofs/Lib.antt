pub mod TextLaws
pub mod TurnLaws
