-- What is written for an input, and the fault of its first bad line. No definition here makes a
-- call or keeps a count.
use Rattle.std.specs.Prelude.{ℕ, ◌+◌, ◌≡◌, ◌==◌, ◌&&◌, if◌then◌else◌, List, [], ◌∷◌, ◌++◌, length, count_by, Option, None, Some, Result, Ok, Err, IfOk, codes, decimal}
use Rattle.std.specs.List.{onto_first}
use Rattle.lexical_format.specs.Word.{is_supported}
use Rattle.lexical_digits.specs.Separators.{drain, is_digit}
use Rattle.lexical_digits.specs.State.{rule_of, counts, is_contiguous, has_no_separator}
use Rattle.digit_requests.specs.declared.report.BadLine.{BadLine}
use Rattle.digit_requests.specs.declared.report.Drained.{Drained}
use Rattle.digit_requests.specs.declared.report.BadLine.TheVariants.{NotARequest, NotSupported}
use Rattle.digit_requests.specs.Line.{Asked, request_of, word_of}

-- a line ends before a line feed or at the end of the input; no line begins after a line feed that
-- ends the input
abbrev pub lines_of : List ℕ → List (List ℕ)
lines_of [] = []
lines_of (byte ∷ bytes) =
    if byte == 10 then [] ∷ lines_of bytes else onto_first byte (lines_of bytes)

abbrev pub with_supported_word : ℕ → Option Asked → Result Asked BadLine
with_supported_word n None = Err (NotARequest n)
with_supported_word n (Some asked) =
    if is_supported (word_of asked) then Ok asked else Err (NotSupported n)

-- what line n asks for, if it is a request and its word is supported
abbrev pub request_at : ℕ → List ℕ → Result Asked BadLine
request_at n line = with_supported_word n (request_of line)

-- Where the component has a flag: the digits of the text, but none of special. Where it has none:
-- all bytes if no byte is a separator, else none.
unfoldable pub count_of : Asked → ℕ
count_of asked =
    let word = word_of asked in
    if counts asked.component word
    then count_by (is_digit (rule_of word asked.component)) asked.text
    else if is_contiguous asked.component word && has_no_separator word then length asked.text
    else 0

unfoldable pub answer_to : Asked → List ℕ
answer_to asked =
    drain (rule_of (word_of asked) asked.component) asked.text 0 0
    ++ codes " count=" ++ decimal (count_of asked)
    ++ codes " cursor=" ++ decimal (length asked.text) ++ codes "\n"

pub record Report : Type 0 where
  pub output : List ℕ
  pub fault : Option BadLine

-- line n, before the report of the lines after it; a bad line ends the report
abbrev pub report_line : Result Asked BadLine → Report → Report
report_line (Ok asked) rest = record {
  output = answer_to asked ++ rest.output;
  fault = rest.fault;
}
report_line (Err bad_line) rest = record { output = []; fault = Some bad_line }

-- the report of the lines from line n on
abbrev pub report_from : ℕ → List (List ℕ) → Report
report_from n [] = record { output = []; fault = None }
report_from n (line ∷ lines) = report_line (request_at n line) (report_from (n + 1) lines)

abbrev pub report_of : List ℕ → Report
report_of input = report_from 1 (lines_of input)

-- ---- while the output is made

-- bytes are added to an output, and the iterator that yielded them ends with this count and cursor
abbrev pub AddsDrain : {E : Type 0} → (old new bytes : List ℕ) → (count cursor : ℕ) →
    Result Drained E → Type 0
AddsDrain old new bytes count cursor result =
    IfOk result (λ end. (new ≡ old ++ bytes) × (end.count ≡ count) × (end.cursor ≡ cursor))
