use Rattle.std.proofs.Common.{ℕ, ◌+◌, ◌*◌, ◌^◌, ◌<◌, List, refl, arith}
use Rattle.digit_words.specs.Eight.{IsWritten}
use Rattle.digit_words.proofs.Joined.{join}
use Rattle.digit_words.proofs.eight.read_whole.Goals as goal

sixteen : (text : List ℕ) (first second : ℕ) → IsWritten text 0 8 first → IsWritten text 8 8 second
    → second < 10 ^ 8 → IsWritten text 0 16 (first * 100000000 + second)
sixteen text first second a b few =
    join text 0 8 8 8 16 first second (first * 100000000 + second) refl refl a b (omega arith)

pub returns-then-text-eq16 : goal.returns-then-text-eq16
returns-then-text-eq16 c = λ _.
    rw (c.if-text-eq16.true)
    (sixteen c.args.text.now c.in-Some.first c.in-Some-eight_from.second c.in-Some.ensures.is
    c.in-Some-eight_from.ensures.is c.in-Some-eight_from.ensures.few)

pub end_whole-requires-2-clause-written : goal.end_whole-requires-2-clause-written
end_whole-requires-2-clause-written c =
    sixteen c.args.text.now c.in-Some.first c.in-Some-eight_from.second c.in-Some.ensures.is
    c.in-Some-eight_from.ensures.is c.in-Some-eight_from.ensures.few
