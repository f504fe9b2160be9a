-- What the lines of a text are together: each has a number, and the numbers are added one after the
-- other.
use Rattle.std.specs.Prelude.{◌≡◌, ⊤, ℕ, ◌+◌, ◌≤◌, nat_lt, Bool, false, if◌then◌else◌, List, [], ◌∷◌, ◌++◌, length, Result, Ok, Err}
use Rattle.digit_totals.specs.declared.fault.NumberError.{NumberError}
use Rattle.digit_totals.specs.declared.fault.LineFault.{LineFault}
use Rattle.digit_totals.specs.declared.fault.LineFault.TheVariants.{Number, Sum, LongLine}
use Rattle.digit_totals.specs.Lines.{lines_of, after_line, EndsWith}

-- the most bytes of a line
abbrev pub most_bytes : ℕ
most_bytes = 65535

-- The numbers of lines, and how they are added. `T` are the totals of some numbers, `V` a number.
pub record Adding (T V : Type 0) : Type 0 where
  -- the number of a line, or why there is none
  pub value_of : List ℕ → Result V NumberError
  -- the totals of no number
  pub none : T
  -- of how many numbers some totals are
  pub count_of : T → ℕ
  -- with one number more, if the sum fits
  pub plus : T → V → T
  pub fits : T → V → Bool
  -- whether the first line of an input is a header, which has no number
  pub header : Bool

-- the line that a fault names
abbrev pub line_of : LineFault → ℕ
line_of (Number n error) = n
line_of (Sum n) = n
line_of (LongLine n) = n

-- a fault of the lines after a header, which is a line too
abbrev pub later : LineFault → LineFault
later (Number n error) = Number (n + 1) error
later (Sum n) = Sum (n + 1)
later (LongLine n) = LongLine (n + 1)

abbrev pub report_later : {A : Type 0} → Result A LineFault → Result A LineFault
report_later (Ok totals) = Ok totals
report_later (Err fault) = Err (later fault)

module _ {T V : Type 0} (a : Adding T V) where
  -- with the number of the next line; or that line's fault
  abbrev pub with_value : T → Result V NumberError → Result T LineFault
  with_value t (Ok value) =
      if a.fits t value then Ok (a.plus t value) else Err (Sum (a.count_of t + 1))
  with_value t (Err error) = Err (Number (a.count_of t + 1) error)

  -- with the number of the next line, which has at most 65,535 bytes
  abbrev pub with_line : T → List ℕ → Result T LineFault
  with_line t line =
      if nat_lt most_bytes (length line)
      then Err (LongLine (a.count_of t + 1))
      else with_value t (a.value_of line)

  -- with the lines after these; or what ends them
  abbrev pub continue : (T → Result T LineFault) → Result T LineFault → Result T LineFault
  continue rest (Ok t) = rest t
  continue rest (Err fault) = Err fault

  -- with the numbers of these lines
  abbrev pub with_lines : T → List (List ℕ) → Result T LineFault
  with_lines t [] = Ok t
  with_lines t (line ∷ lines) =
      continue (λ u. with_lines u lines) (with_line t line)

  abbrev pub report_of : List ℕ → Result T LineFault
  report_of text = with_lines a.none (lines_of text)

  -- the report of an input: if its first line is a header, that of the lines after it
  abbrev pub input_report : List ℕ → Result T LineFault
  input_report text =
      if a.header then report_later (report_of (after_line text)) else report_of text

  -- Whatever follows a text: the totals after its lines are those after the lines of the rest.
  abbrev pub LeavesRest : T → List ℕ → T → List ℕ → Type 0
  LeavesRest t text u rest = (more : List ℕ)
      → with_lines t (lines_of (text ++ more)) ≡ with_lines u (lines_of (rest ++ more))

  -- Whatever follows a text, a line of it ends the lines.
  abbrev pub EndsIn : T → List ℕ → LineFault → Type 0
  EndsIn t text fault = (more : List ℕ) → with_lines t (lines_of (text ++ more)) ≡ Err fault

  -- The numbers of lines at the front of a text are added, and this is left of it.
  pub record Leaves (t : T) (text : List ℕ) (u : T) (rest : List ℕ) : Type 0 where
    pub leaves : LeavesRest t text u rest
    pub room : a.count_of u + length rest ≤ a.count_of t + length text
    pub shorter : length rest ≤ length text
    pub suffix : EndsWith text rest

  -- Whether lines may end so: with `Sum`, if there are totals which a number doesn't fit.
  abbrev pub MayEndIn : LineFault → Type 0
  MayEndIn (Number n error) = ⊤
  MayEndIn (Sum n) = (t : T) × (value : V) × (a.fits t value ≡ false)
  MayEndIn (LongLine n) = ⊤
