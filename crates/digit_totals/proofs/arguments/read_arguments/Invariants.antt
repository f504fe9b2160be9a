-- The arguments from here on say what all say.
use Rattle.std.proofs.Common.{◌≡◌, ◌≤◌, map, drop, IfSome}
use Rattle.digit_totals.specs.Arguments.{asked, read_from}
use Rattle.digit_totals.proofs.arguments.read_arguments.Given as goal

abbrev pub invariant-loop-at : goal.invariant-loop-at
invariant-loop-at l = record {
  so_far : asked (map (λ word. word.now) l.words)
      ≡ read_from l.settings l.at (drop l.at (map (λ word. word.now) l.words));
  few : IfSome l.settings.places (λ places. places ≤ 38);
}
