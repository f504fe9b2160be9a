-- The bytes of a reader that are not yet used.
use Rattle.std.specs.Prelude.{ℕ, List, take, drop, Option}
use Rattle.std.specs.Io.KnownBytes.{prepend_known}
use Rattle.digit_streams.specs.declared.window.Window.{Window}

abbrev pub unread : Window → List ℕ
unread w = drop w.from (take w.to w.buffer.now)

-- the bytes of a stream that were not yet used, if they are known: what the buffer holds, and then
-- what the reader has left
abbrev pub bytes_left : Window → Option (List ℕ) → Option (List ℕ)
bytes_left w remaining = prepend_known (unread w) remaining
