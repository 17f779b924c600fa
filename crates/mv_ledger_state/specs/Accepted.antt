-- Ledgers over which no run meets a fault, and what a record leaves that such a ledger answers.
pub mod SoundLedger
pub mod Records
