-- The first line of a text.
use Rattle.std.proofs.Common.{◌≡◌, ◌≢◌, ℕ, ◌+◌, ◌<◌, ◌==◌, List, [], ◌∷◌, ◌++◌, All, length, take, drop, refl, ◌∙◌, ap, arith, Some, append_assoc}
use Rattle.std.specs.List.{position}
use Rattle.std.proofs.lemmas.Bool.Decides.{nat_tests}
use Rattle.std.proofs.lemmas.List.Elements.{All-head, All-tail}
use Rattle.digit_totals.specs.Lines.{lines_of, IsFirstLine}
use Rattle.digit_totals.proofs.FirstMark.{position_splits, position_none, position_within}

lines_joined : (line rest : List ℕ) → All (λ byte. byte ≢ 10) line
    → lines_of (line ++ 10 ∷ rest) ≡ line ∷ lines_of rest
lines_joined [] rest h = refl
lines_joined (byte ∷ line) rest h =
    let other = All-head (λ byte. byte ≢ 10) byte line h in
    let e = lines_joined line rest (All-tail (λ byte. byte ≢ 10) byte line h) in
    grind (arith, nat_tests)

-- a text of a line, its line feed and others
pub first_joined : (text line rest : List ℕ) → text ≡ line ++ 10 ∷ rest
    → All (λ byte. byte ≢ 10) line → IsFirstLine text line rest
first_joined text line rest e h = λ more.
    ap (λ bytes. lines_of (bytes ++ more)) e
    ∙ ap lines_of (append_assoc line (10 ∷ rest) more)
    ∙ lines_joined line (rest ++ more) h

-- a line without a line feed
pub one_line : (line : List ℕ) → 0 < length line → All (λ byte. byte ≢ 10) line
    → lines_of line ≡ line ∷ []
one_line [] some h = absurd (omega arith)
one_line (byte ∷ []) some h =
    let other = All-head (λ byte. byte ≢ 10) byte [] h in grind (arith, nat_tests)
one_line (byte ∷ next ∷ line) some h =
    let other = All-head (λ byte. byte ≢ 10) byte (next ∷ line) h in
    let e = one_line (next ∷ line) (omega arith)
    (All-tail (λ byte. byte ≢ 10) byte (next ∷ line) h) in
    grind (arith, nat_tests)

pub first_is : (text : List ℕ) (end : ℕ) → position (λ byte. byte == 10) text ≡ Some end
    → IsFirstLine text (take end text) (drop (end + 1) text)
first_is text end h =
    let parts = position_splits 10 text end h in
    first_joined text _ _ parts.whole parts.before

pub ruleset lines = (first_is, position_none, position_within)
