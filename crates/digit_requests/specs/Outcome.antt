-- What a run leaves in its reader and its writer, by what it answers. Nothing is said of a reader
-- or a writer whose contract does not describe its bytes.
use Rattle.std.specs.Prelude.{◌≡◌, ℕ, ◌+◌, ◌<◌, ◌≤◌, List, ◌++◌, length, Option, None, Some, Result, Ok, Err, IfSome, codes, decimal}
use Rattle.std.specs.Io.KnownBytes.{Appends, Consumes, Keeps, IsAtEnd}
use Rattle.digit_requests.specs.declared.fault.Fault.{Fault}
use Rattle.digit_requests.specs.declared.fault.Fault.TheVariants.{Line, Word, TooLong, Read, Write, Memory}
use Rattle.digit_requests.specs.declared.report.BadLine.{BadLine}
use Rattle.digit_requests.specs.declared.report.BadLine.TheVariants.{NotARequest, NotSupported}
use Rattle.digit_requests.specs.Report.{report_of}

-- the most bytes that an input has
abbrev pub most_bytes : ℕ
most_bytes = 65536

-- the known bytes grow by a prefix of `bytes`, and not by the whole
pub record AppendsPart (old new : Option (List ℕ)) (bytes : List ℕ) : Type 0 where
  pub written : List ℕ
  pub rest : List ℕ
  pub split : bytes ≡ written ++ rest
  pub some_rest : 0 < length rest
  pub appended : Appends old new written

-- the bytes that the reader had and has left, and those that the writer had and has now
pub record Streams : Type 0 where
  pub input : Option (List ℕ)
  pub rest : Option (List ℕ)
  pub had : Option (List ℕ)
  pub has : Option (List ℕ)

-- The input was read to its end, its first bad line is this one, and all of its report was written.
pub record WritesReport (s : Streams) (bad_line : Option BadLine) : Type 0 where
  pub short : IfSome s.input (λ input. length input ≤ most_bytes)
  pub ended : IsAtEnd s.rest
  pub bad : IfSome s.input (λ input. (report_of input).fault ≡ bad_line)
  pub written : IfSome s.input (λ input. Appends s.had s.has (report_of input).output)

-- The input was read to its end, and a prefix of its report was written, never the whole.
pub record WritesPart (s : Streams) : Type 0 where
  pub short : IfSome s.input (λ input. length input ≤ most_bytes)
  pub ended : IsAtEnd s.rest
  pub written : IfSome s.input (λ input. AppendsPart s.had s.has (report_of input).output)

-- one byte more than an input has was read, no further one, and these are gone from what the
-- reader has left
pub record ReadsPast (old new : Option (List ℕ)) : Type 0 where
  pub read : List ℕ
  pub long : length read ≡ most_bytes + 1
  pub consumed : Consumes old new read

-- One byte more than an input has was read, and nothing was written.
pub record IsTooLong (s : Streams) : Type 0 where
  pub past : ReadsPast s.input s.rest
  pub kept : Keeps s.had s.has

-- what a run does, by its answer
abbrev pub Runs : Streams → Result (Unit {0}) Fault → Type 0
Runs s (Ok done) = WritesReport s None
Runs s (Err (Line n)) = WritesReport s (Some (NotARequest n))
Runs s (Err (Word n)) = WritesReport s (Some (NotSupported n))
Runs s (Err TooLong) = IsTooLong s
Runs s (Err Read) = Keeps s.had s.has
Runs s (Err Write) = WritesPart s
Runs s (Err Memory) = Keeps s.had s.has

-- the line that is written for a fault
abbrev pub line_of : Fault → List ℕ
line_of (Line n) = codes "error: line " ++ decimal n ++ codes ": not a request\n"
line_of (Word n) = codes "error: line " ++ decimal n ++ codes ": word not supported\n"
line_of TooLong = codes "error: input longer than 65536 bytes\n"
line_of Read = codes "error: read failed\n"
line_of Write = codes "error: write failed\n"
line_of Memory = codes "error: out of memory\n"

-- what `tell` does, by its answer; it can answer no other fault
abbrev pub Tells : (had has : Option (List ℕ)) → Fault → Result (Unit {0}) Fault → Type 0
Tells had has fault (Ok done) = Appends had has (line_of fault)
Tells had has fault (Err Write) = AppendsPart had has (line_of fault)
Tells had has fault (Err Memory) = Keeps had has
Tells had has fault (Err _) = ⊥

abbrev pub status_of : Fault → ℕ
status_of (Line n) = 2
status_of (Word n) = 3
status_of TooLong = 4
status_of Read = 5
status_of Write = 6
status_of Memory = 7

-- what is written after the run, and the status: nothing more and 0, or what `tell` writes and the
-- status of the fault
abbrev pub EndsWith : (between has : Option (List ℕ)) → Result (Unit {0}) Fault → ℕ → Type 0
EndsWith between has (Ok done) status = (status ≡ 0) × (has ≡ between)
EndsWith between has (Err fault) status =
    (status ≡ status_of fault) × (answer : Result (Unit {0}) Fault) × Tells between has fault answer

-- A run, and what follows it: the writer has `between` when the run ends.
pub record Serves (input rest had has : Option (List ℕ)) (status : ℕ) : Type 0 where
  pub answer : Result (Unit {0}) Fault
  pub between : Option (List ℕ)
  pub runs : Runs
      (record { input = input; rest = rest; had = had; has = between }) answer
  pub ends : EndsWith between has answer status
