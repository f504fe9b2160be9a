-- What a run leaves in its reader and its writers, by what it answers. Nothing is said of a reader
-- or a writer whose contract does not describe its bytes.
use Rattle.std.specs.Prelude.{◌≡◌, ◌≢◌, ⊤, ℕ, ◌<◌, ◌≤◌, ◌^◌, List, ◌++◌, length, Option, None, Some, Result, Ok, Err, IfSome}
use Rattle.std.specs.Io.KnownBytes.{Appends, Keeps, IsAtEnd}
use Rattle.std.specs.declared.io.ErrorKind.{ErrorKind}
use Rattle.std.specs.declared.io.ErrorKind.TheVariants.{Interrupted}
use Rattle.digit_totals.specs.declared.fault.Fault.{Fault}
use Rattle.digit_totals.specs.declared.fault.Fault.TheVariants.{Line, Read, Write, Memory}
use Rattle.digit_totals.specs.declared.fault.LineFault.{LineFault}
use Rattle.digit_totals.specs.declared.options.Column.{Column}
use Rattle.digit_totals.specs.declared.options.FloatOptions.{FloatOptions}
use Rattle.digit_totals.specs.declared.options.Options.{Options}
use Rattle.digit_totals.specs.Floats as Floats
use Rattle.digit_totals.specs.Lines.{lines_of, after_line}
use Rattle.digit_totals.specs.Report.{Adding, with_lines, report_of, input_report, line_of, later, MayEndIn}
use Rattle.digit_totals.specs.Text.{IsLineOf, IsFloatLineOf, error_line, status_of}
use Rattle.digit_totals.specs.Totals as Totals

-- the answer of lines as that of a run
abbrev pub of_lines : {A : Type 0} → Result A LineFault → Result A Fault
of_lines (Ok totals) = Ok totals
of_lines (Err fault) = Err (Line fault)

module _ {T V : Type 0} (a : Adding T V) where
  -- the report of the known bytes is this
  abbrev pub Reports : Option (List ℕ) → Result T LineFault → Type 0
  Reports input report = IfSome input (λ text. input_report a text ≡ report)

  -- the report of the known bytes is a fault
  abbrev pub EndsWithFault : Option (List ℕ) → LineFault → Type 0
  EndsWithFault input fault = MayEndIn a fault × Reports input (Err fault)

  -- what adding up answers: the report of the input; or a read failed, and was not interrupted
  abbrev pub Sums : Option (List ℕ) → Result T Fault → Type 0
  Sums input (Ok totals) = Reports input (Ok totals)
  Sums input (Err (Line fault)) = EndsWithFault input fault
  Sums input (Err (Read kind)) = kind ≢ Interrupted
  Sums input (Err fault) = ⊥

  -- the same of lines without a header
  abbrev pub SumsLines : Option (List ℕ) → Result T Fault → Type 0
  SumsLines input (Ok totals) = IfSome input (λ text. report_of a text ≡ Ok totals)
  SumsLines input (Err (Line fault)) =
      MayEndIn a fault × IfSome input (λ text. report_of a text ≡ Err fault)
  SumsLines input (Err (Read kind)) = kind ≢ Interrupted
  SumsLines input (Err fault) = ⊥

  -- The totals so far, with the lines of what was read and is not among them, and of what is left,
  -- are those of all.
  abbrev pub Continues : (old new : Option (List ℕ)) → List ℕ → T → Type 0
  Continues None new pending t = ⊤
  Continues (Some text) None pending t = ⊥
  Continues (Some text) (Some rest) pending t =
      report_of a text ≡ with_lines a t (lines_of (pending ++ rest))

-- known bytes with these before them
abbrev pub with_front : List ℕ → Option (List ℕ) → Option (List ℕ)
with_front front None = None
with_front front (Some text) = Some (front ++ text)

-- The first line of the known bytes was read, and these bytes after it.
abbrev pub PassesLine : (old new : Option (List ℕ)) → List ℕ → Type 0
PassesLine None new bytes = ⊤
PassesLine (Some text) None bytes = ⊥
PassesLine (Some text) (Some rest) bytes = after_line text ≡ bytes ++ rest

-- the fault of a run, if its lines follow a header
abbrev pub later_fault : Fault → Fault
later_fault (Line fault) = Line (later fault)
later_fault fault = fault

-- that fault has a number of 128 bits
abbrev pub MayBeLater : Fault → Type 0
MayBeLater (Line fault) = line_of fault ≤ 2 ^ 127
MayBeLater fault = ⊤

abbrev pub sum_later : {A : Type 0} → Result A Fault → Result A Fault
sum_later (Ok totals) = Ok totals
sum_later (Err fault) = Err (later_fault fault)

-- the known bytes grow by a prefix of `bytes`, and not by the whole
pub record AppendsPart (old new : Option (List ℕ)) (bytes : List ℕ) : Type 0 where
  pub written : List ℕ
  pub rest : List ℕ
  pub split : bytes ≡ written ++ rest
  pub some_rest : 0 < length rest
  pub appended : Appends old new written

-- the bytes that the reader had and has left, and those that the writer had and has now
pub record Streams : Type 0 where
  pub input : Option (List ℕ)
  pub rest : Option (List ℕ)
  pub had : Option (List ℕ)
  pub has : Option (List ℕ)

-- A read failed, and was not interrupted. Nothing was written.
abbrev pub EndsAtRead : Streams → ErrorKind → Type 0
EndsAtRead s kind = (kind ≢ Interrupted) × Keeps s.had s.has

-- `IsLine` says which line is written of totals.
module _ {T V : Type 0} (a : Adding T V) (IsLine : T → List ℕ → Type 0) (s : Streams) where
  -- The input was read to its end, and all of a line of its totals was written.
  pub record WritesTotals : Type 0 where
    pub totals : T
    pub line : List ℕ
    pub is_line : IsLine totals line
    pub ended : IsAtEnd s.rest
    pub reports : Reports a s.input (Ok totals)
    pub written : Appends s.had s.has line

  -- The input was read to its end, and a prefix of a line of its totals was written, never the
  -- whole.
  pub record WritesPart : Type 0 where
    pub totals : T
    pub line : List ℕ
    pub is_line : IsLine totals line
    pub ended : IsAtEnd s.rest
    pub reports : Reports a s.input (Ok totals)
    pub written : AppendsPart s.had s.has line

  -- A line of the input has a fault, and nothing was written.
  abbrev pub EndsAtLine : LineFault → Type 0
  EndsAtLine fault = EndsWithFault a s.input fault × Keeps s.had s.has

  -- what a run does, by its answer
  abbrev pub RunsBy : Result (Unit {0}) Fault → Type 0
  RunsBy (Ok done) = WritesTotals
  RunsBy (Err (Line fault)) = EndsAtLine fault
  RunsBy (Err (Read kind)) = EndsAtRead s kind
  RunsBy (Err (Write kind)) = WritesPart
  RunsBy (Err Memory) = Keeps s.had s.has

-- a write failed
abbrev pub IsWriteFault : Fault → Type 0
IsWriteFault (Write kind) = ⊤
IsWriteFault fault = ⊥

-- what `tell` does, by its answer; it can answer no other fault
abbrev pub Tells : (had has : Option (List ℕ)) → List ℕ → Result (Unit {0}) Fault → Type 0
Tells had has line (Ok done) = Appends had has line
Tells had has line (Err (Write kind)) = AppendsPart had has line
Tells had has line (Err Memory) = Keeps had has
Tells had has line (Err _) = ⊥

-- what is written to the standard error after the run, and the status: nothing and 0, or what
-- `tell` writes and the status of the fault
abbrev pub EndsWith : Option Column → (had has : Option (List ℕ)) → Result (Unit {0}) Fault → ℕ
    → Type 0
EndsWith column had has (Ok done) status = (status ≡ 0) × (has ≡ had)
EndsWith column had has (Err fault) status =
    (status ≡ status_of fault) × (answer : Result (Unit {0}) Fault)
    × Tells had has (error_line column fault) answer

-- A run, and what is written to the standard error after it.
pub record ServesBy {T V : Type 0} (a : Adding T V) (IsLine : T → List ℕ → Type 0)
    (column : Option Column) (s : Streams)
    (had has : Option (List ℕ)) (status : ℕ) : Type 0 where
  pub answer : Result (Unit {0}) Fault
  pub runs : RunsBy a IsLine s answer
  pub ends : EndsWith column had has answer status

-- A text is written, and nothing is read; and what is written to the standard error after it.
pub record ServesHelp (text : List ℕ) (s : Streams) (had has : Option (List ℕ)) (status : ℕ)
    : Type 0 where
  pub answer : Result (Unit {0}) Fault
  pub unread : s.rest ≡ s.input
  pub written : Tells s.had s.has text answer
  pub ends : EndsWith None had has answer status

-- ---- an exact sum, and a sum of floats

abbrev pub Runs : Options → Streams → Result (Unit {0}) Fault → Type 0
Runs options = RunsBy (Totals.adding options) (IsLineOf options.kind)

abbrev pub RunsFloats : FloatOptions → Streams → Result (Unit {0}) Fault → Type 0
RunsFloats options = RunsBy (Floats.adding options) IsFloatLineOf

abbrev pub Serves : Options → Streams → (had has : Option (List ℕ)) → ℕ → Type 0
Serves options =
    ServesBy (Totals.adding options) (IsLineOf options.kind) options.column

abbrev pub ServesFloats : FloatOptions → Streams → (had has : Option (List ℕ)) → ℕ → Type 0
ServesFloats options =
    ServesBy (Floats.adding options) IsFloatLineOf options.column
