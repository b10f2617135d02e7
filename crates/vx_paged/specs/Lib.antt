pub mod Booting
pub mod Framed
pub mod Granted
pub mod Left
pub mod Placed
