use Rattle.std.proofs.Common.{◌≡◌, ℕ, ◌-◌, ◌<◌, ◌≤◌, true}
use Rattle.lexical_digits.specs.Looks.{separator_at, LooksBetween}
use Rattle.lexical_digits.proofs.skip.decision.run_start.Given as goal

abbrev pub invariant-loop-i : goal.invariant-loop-i
invariant-loop-i g l =
    let s = g.S.ByteSource in
    record {
      content : s.content l.src ≡ s.content l.initial.src;
      run : (k : ℕ) → l.i ≤ k → k < l.to
          → separator_at l.rule.separator (s.content l.initial.src) k ≡ true;
      looks : LooksBetween (s.looks l.initial.src) (l.to - l.i) (l.to - l.i) (s.looks l.src);
    }
