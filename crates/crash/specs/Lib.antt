-- The definitions that the contracts cite: the crash of a file is `crash_in` of Crash.antt.
pub mod Damage
pub mod Crash
