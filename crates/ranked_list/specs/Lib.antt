pub mod Table
pub mod Items
pub mod Order
pub mod Rows
