-- The definitions that the contracts cite: the text of a crash is `text_of` of Text.antt.
pub mod Page
pub mod Threads
pub mod Modules
pub mod Lists
pub mod Text
