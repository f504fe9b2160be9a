-- What the program does, by its arguments.
use Rattle.std.specs.Prelude.{◌≡◌, ℕ, List, Option, Result, Ok, Err}
use Rattle.digit_totals.specs.declared.fault.Fault.{Fault}
use Rattle.digit_totals.specs.declared.arguments.UsageError.{UsageError}
use Rattle.digit_totals.specs.declared.options.Request.{Request}
use Rattle.digit_totals.specs.declared.options.Request.TheVariants.{Exact, Floats, Help}
use Rattle.digit_totals.specs.Arguments.{asked, usage_line, help}
use Rattle.digit_totals.specs.Outcome.{Streams, Serves, ServesFloats, ServesHelp, Tells}

-- What a run by arguments does: what a run by their options does; for `--help` that is written, and
-- nothing is read. Or they ask for nothing: then nothing is read, nothing is written but what
-- `tell`
-- writes, and the status is 2.
abbrev pub ServesAsked : List (List ℕ) → Result Request UsageError → Streams
    → (had has : Option (List ℕ)) → ℕ
    → Type 0
ServesAsked words (Ok (Exact options)) s had has status = Serves options s had has status
ServesAsked words (Ok (Floats options)) s had has status = ServesFloats options s had has status
ServesAsked words (Ok Help) s had has status = ServesHelp help s had has status
ServesAsked words (Err error) s had has status =
    (status ≡ 2) × (s.rest ≡ s.input) × (s.has ≡ s.had)
    × (answer : Result (Unit {0}) Fault) × Tells had has (usage_line words error) answer

abbrev pub ServesArguments : List (List ℕ) → Streams → (had has : Option (List ℕ)) → ℕ → Type 0
ServesArguments words s had has status = ServesAsked words (asked words) s had has status
