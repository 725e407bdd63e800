pub mod Real
pub mod Written
