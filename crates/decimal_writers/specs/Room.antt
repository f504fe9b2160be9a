-- A text at the front of a slice, if it has room for it.
use Rattle.std.specs.Prelude.{◌≡◌, ℕ, ◌<◌, ◌≤◌, List, ◌++◌, length, drop, Result, Ok, Err, codes, decimal}
use Rattle.decimal_writers.specs.declared.room.NoRoom.{NoRoom}

-- where a slice has room for a text it begins with it, the rest is as it was, and the result is the
-- text's length; else the slice is as it was, and the result is the room needed
pub record Writes (text old new : List ℕ) (result : Result ℕ NoRoom) : Type 0 where
  pub written : length text ≤ length old → new ≡ text ++ drop (length text) old
  pub ok : length text ≤ length old → result ≡ Ok (length text)
  pub no_room : length old < length text → result ≡ Err (record { needed = length text })
  pub unchanged : length old < length text → new ≡ old

-- what is printed of an error
abbrev pub message : NoRoom → List ℕ
message e = codes "the text needs " ++ decimal e.needed ++ codes " bytes"
