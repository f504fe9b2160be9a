-- What short texts are by a form.
use Rattle.std.specs.Prelude.{◌≡◌, ℕ, Bool, false, List, codes, Option, None, Some, Result, Ok, Err}
use Rattle.std.specs.Float.{binary64}
use Rattle.digit_numbers.specs.Alike.{but_for_float}
use Rattle.digit_numbers.specs.Numbers.{number_of_at}
use Rattle.digit_numbers.specs.declared.form.Form.{Form}
use Rattle.digit_numbers.specs.declared.number.NumberError.{NumberError}
use Rattle.digit_numbers.specs.declared.number.NumberError.TheVariants.{Empty}

-- an outcome, whatever its float is
abbrev pub Read : Type 0
Read = Result (Option (Bool × ℕ × ℕ) × ℕ) NumberError

-- the number that a text begins with
abbrev pub read_of : Form → List ℕ → Read
read_of f text = but_for_float (number_of_at f text 0 binary64)

abbrev pub zero_one : Form → Read
zero_one f = read_of f (codes "01")

-- ---- what it may be: the integer 0 or 1, by a word, or a float, with its end; or none

abbrev pub zero_by : ℕ → ℕ → Read
zero_by word end = Ok (Some (false, 0, word), end)

abbrev pub one_by : ℕ → ℕ → Read
one_by word end = Ok (Some (false, 1, word), end)

abbrev pub float_to : ℕ → Read
float_to end = Ok (None, end)

abbrev pub none : Read
none = Err (Empty 0)

-- what `1.` and `.5` are
abbrev pub HavePoints : Form → Read → Read → Type 0
HavePoints f one_point point_five =
    (read_of f (codes "1.") ≡ one_point) × (read_of f (codes ".5") ≡ point_five)
