pub mod RunLaws
pub mod Start
