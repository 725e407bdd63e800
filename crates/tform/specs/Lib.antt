pub mod Width
pub mod Form
