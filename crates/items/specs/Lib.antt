pub mod Items
pub mod Keep
