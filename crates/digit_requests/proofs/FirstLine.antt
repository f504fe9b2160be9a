-- The first line of an input.
use Rattle.std.proofs.Common.{◌≡◌, ◌≢◌, ℕ, ◌<◌, List, [], ◌∷◌, ◌++◌, All, length, refl, arith, Some, None}
use Rattle.std.proofs.lemmas.Bool.Decides.{nat_tests}
use Rattle.std.proofs.lemmas.List.Elements.{All-head, All-tail}
use Rattle.digit_requests.specs.Line.{cut}
use Rattle.digit_requests.specs.Report.{lines_of}
use Rattle.digit_requests.proofs.FirstMark.{cut_splits, cut_none}

lines_joined : (line rest : List ℕ) → All (λ byte. byte ≢ 10) line
    → lines_of (line ++ 10 ∷ rest) ≡ line ∷ lines_of rest
lines_joined [] rest h = refl
lines_joined (byte ∷ line) rest h =
    let other = All-head (λ byte. byte ≢ 10) byte line h in
    let e = lines_joined line rest (All-tail (λ byte. byte ≢ 10) byte line h) in
    grind (arith, nat_tests)

one_line : (byte : ℕ) (line : List ℕ) → All (λ byte. byte ≢ 10) (byte ∷ line)
    → lines_of (byte ∷ line) ≡ (byte ∷ line) ∷ []
one_line byte [] h =
    let other = All-head (λ byte. byte ≢ 10) byte [] h in grind (arith, nat_tests)
one_line byte (next ∷ line) h =
    let other = All-head (λ byte. byte ≢ 10) byte (next ∷ line) h in
    let e = one_line next line (All-tail (λ byte. byte ≢ 10) byte (next ∷ line) h) in
    grind (arith, nat_tests)

-- a line that ends in a line feed
pub lines_of_cut : (input line rest : List ℕ) → cut 10 input ≡ Some (line, rest)
    → lines_of input ≡ line ∷ lines_of rest
lines_of_cut input line rest h =
    let parts = cut_splits 10 input line rest h in
    rw parts.whole (lines_joined line rest parts.before)

-- a last line that does not
pub lines_of_last : (input : List ℕ) → 0 < length input → cut 10 input ≡ None
    → lines_of input ≡ input ∷ []
lines_of_last [] some h = absurd (omega arith)
lines_of_last (byte ∷ line) some h = one_line byte line (cut_none 10 (byte ∷ line) h)

pub ruleset lines = (lines_of_cut, lines_of_last)
