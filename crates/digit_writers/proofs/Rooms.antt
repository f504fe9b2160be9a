-- How long the text of a number is at most.
use Rattle.std.proofs.Common.{ℕ, ◌^◌, ◌<◌, ◌≤◌, length, arith}
use Rattle.std.specs.Prelude.{decimal}
use Rattle.std.proofs.lemmas.Fmt.{length-decimal-le_wide}

pub room_of_3 : (n : ℕ) → n < 10 ^ 3 → length (decimal n) ≤ 3
room_of_3 n l = length-decimal-le_wide 3 n (omega arith) l (omega arith)

pub room_of_5 : (n : ℕ) → n < 10 ^ 5 → length (decimal n) ≤ 5
room_of_5 n l = length-decimal-le_wide 5 n (omega arith) l (omega arith)

pub room_of_10 : (n : ℕ) → n < 10 ^ 10 → length (decimal n) ≤ 10
room_of_10 n l = length-decimal-le_wide 10 n (omega arith) l (omega arith)

pub room_of_19 : (n : ℕ) → n < 10 ^ 19 → length (decimal n) ≤ 19
room_of_19 n l = length-decimal-le_wide 19 n (omega arith) l (omega arith)

pub room_of_20 : (n : ℕ) → n < 10 ^ 20 → length (decimal n) ≤ 20
room_of_20 n l = length-decimal-le_wide 20 n (omega arith) l (omega arith)

pub room_of_39 : (n : ℕ) → n < 10 ^ 39 → length (decimal n) ≤ 39
room_of_39 n l = length-decimal-le_wide 39 n (omega arith) l (omega arith)

-- of the magnitudes of each type
pub ruleset rooms = (room_of_3, room_of_5, room_of_10, room_of_19, room_of_20, room_of_39)
