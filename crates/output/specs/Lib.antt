pub mod Cells
pub mod Replay
pub mod State
pub mod Next
pub mod Page
pub mod Settings
