pub mod Ten
pub mod Totals
