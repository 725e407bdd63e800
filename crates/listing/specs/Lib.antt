pub mod Writer
pub mod Text
pub mod Lines
