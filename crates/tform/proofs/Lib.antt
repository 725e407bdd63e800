pub mod Tables
pub mod Widths
pub mod Count
pub mod Examples
pub mod EachByte
