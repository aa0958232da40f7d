pub mod Transactions
