-- A ledger that was sound stays so: its store is accepted, its storage typed, its tallies balanced, and no run of it meets a fault.
-- The law is `EachRecordIsWell` (specs/Accepted/Records.antt).
--
-- Read first specs/Accepted/SoundLedger.antt (what a sound ledger is), then:
--   Stores    `accepted_store`, `published_store`: a store is accepted, and so is the one that a bundle joined
--   Sound     `run_faultless`, `answered_sound`: no run of a sound ledger meets a fault, and each answered record leaves it sound
--   Instance  the words at work
pub mod Stores
pub mod Sound
pub mod Instance
