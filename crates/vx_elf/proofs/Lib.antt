pub mod Faults
pub mod Fields
pub mod Files
pub mod Listed
pub mod Placed
pub mod RoundTrip
pub mod Spans
pub mod Written
