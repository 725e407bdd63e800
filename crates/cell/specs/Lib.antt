pub mod Item
pub mod Field
pub mod Scaled
