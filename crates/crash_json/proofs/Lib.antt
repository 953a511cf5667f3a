-- Lemmas on tokens, and on how deep the values nest.
pub mod Depth
pub mod Tokens
pub mod TreeDepth
