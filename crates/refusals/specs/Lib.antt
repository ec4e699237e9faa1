pub mod LedgerNumbers
pub mod Numbers
