use Rattle.std.proofs.Common.{◌≡◌, ℕ, ◌-◌, ◌<◌, ◌≤◌, true}
use Rattle.lexical_digits.specs.Looks.{separator_at, LooksBetween}
use Rattle.lexical_digits.proofs.skip.decision.run_end.Given as goal

abbrev pub invariant-loop-i : goal.invariant-loop-i
invariant-loop-i g l =
    let s = g.S.ByteSource in
    record {
      content : s.content l.src ≡ s.content l.initial.src;
      run : (k : ℕ) → l.from ≤ k → k < l.i
          → separator_at l.rule.separator (s.content l.initial.src) k ≡ true;
      looks : LooksBetween (s.looks l.initial.src) (l.i - l.from) (l.i - l.from) (s.looks l.src);
    }
