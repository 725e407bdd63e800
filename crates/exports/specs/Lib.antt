pub mod Checksum
pub mod Reads
pub mod Loops
pub mod Turning
pub mod Page
