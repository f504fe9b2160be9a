use Rattle.std.proofs.Common.{◌≡◌, ◌<◌, ◌≤◌, drop, length, Some, None}
use Rattle.std.specs.Prelude.{MatchOption, filter}
use Rattle.digit_numbers.specs.Specials.{is_here, last_of, name_end}
use Rattle.digit_numbers.proofs.special.read_special.Given as goal

-- of the names from here on, the one that ends last
abbrev pub invariant-loop-i : goal.invariant-loop-i
invariant-loop-i l =
    let end_of = name_end l.form l.text l.at in
    let last = last_of end_of
    (filter (is_here l.form l.text l.at l.is_signed l.is_minus) (drop l.i l.specials.names)) in
    MatchOption l.found (last ≡ None) (λ r. (last ≡ Some r.0) × (r.1 ≡ end_of r.0)
    × (l.at < r.1) × (r.1 ≤ length l.text))
