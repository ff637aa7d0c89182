pub mod Balances
pub mod Accounts
pub mod Lawful
pub mod Effects
pub mod Amounts
pub mod Steps
pub mod Minted
pub mod Examples
