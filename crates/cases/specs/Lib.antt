pub mod Text
pub mod Cases
pub mod Report
