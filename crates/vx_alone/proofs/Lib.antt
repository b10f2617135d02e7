pub mod Accesses
pub mod Calls
pub mod Numbers
pub mod Pages
pub mod Steps
