pub mod Math
pub mod Maybe
pub mod Order
pub mod Written
