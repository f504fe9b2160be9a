-- A column that is looked for in a line of CSV, byte by byte.
use Rattle.std.specs.Prelude.{ℕ, ◌+◌, ◌-◌, ◌==◌, if◌then◌else◌, Option, None, Some}
use Rattle.digit_totals.specs.declared.csv.Place.{Place}
use Rattle.digit_totals.specs.declared.csv.Place.TheVariants.{Start}
use Rattle.digit_totals.specs.declared.csv.Sought.{Sought}
use Rattle.digit_totals.specs.Field.{after}

-- a field ends at a position, and another begins after the byte there
abbrev pub ended_by : Option (ℕ × ℕ) → Sought → ℕ → Sought
ended_by (Some span) s at = s
ended_by None s at =
    if s.left == 0
    then record { place = s.place; left = 0; start = s.start; found = Some (s.start, at) }
    else record { place = s.place; left = s.left - 1; start = at + 1; found = None }

abbrev pub ended : Sought → ℕ → Sought
ended s at = ended_by s.found s at

abbrev pub at_place : Place → Sought → Sought
at_place place s =
    record { place = place; left = s.left; start = s.start; found = s.found }

-- at a place after the byte at a position
abbrev pub moved : Place → Sought → ℕ → Sought
moved Start s at = ended (at_place Start s) at
moved place s at = at_place place s

-- after the byte at a position
abbrev pub with_byte : ℕ → Sought → ℕ → ℕ → Sought
with_byte separator s byte at = moved (after separator s.place byte) s at

-- where it is, if the line ends at a position
abbrev pub end_by : Option (ℕ × ℕ) → Sought → ℕ → Option (ℕ × ℕ)
end_by (Some span) s end = Some span
end_by None s end = if s.left == 0 then Some (s.start, end) else None

abbrev pub end_span : Sought → ℕ → Option (ℕ × ℕ)
end_span s end = end_by s.found s end
