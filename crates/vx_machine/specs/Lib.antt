pub mod Accounts
pub mod Alone
pub mod Claim
pub mod ImageFiles
pub mod Machine
pub mod Report
