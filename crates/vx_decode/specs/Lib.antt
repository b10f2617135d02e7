pub mod Decoded
pub mod Encoded
pub mod Groups
pub mod Known
pub mod Legal
pub mod Lookup
