pub mod Ends
pub mod Record
pub mod Value
pub mod Sign
