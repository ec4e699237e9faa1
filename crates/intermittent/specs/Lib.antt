pub mod Intermittents
pub mod IntermittentLaws
