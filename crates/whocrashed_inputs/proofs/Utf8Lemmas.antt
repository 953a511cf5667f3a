-- Whether bytes are a text.
use Rattle.std.proofs.lemmas.Str.{IsUtf8-from_is_utf8, is_utf8-from_IsUtf8}

-- the test of bytes is true exactly where they are UTF-8
pub ruleset tells_utf8 = (IsUtf8-from_is_utf8, is_utf8-from_IsUtf8)
