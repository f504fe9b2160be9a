use Rattle.std.proofs.Common.{◌≡◌, ℕ, false, ◌∷◌, refl, ◌∙◌, arith, Option, Some, Bor}
use Rattle.std.specs.Prelude.{◌==◌}
use Rattle.std.specs.Io.BufRead.{drop_through}
use Rattle.std.proofs.lemmas.Bool.Decides.{nat_tests}
use Rattle.lexical_digits.specs.State.{State}
use Rattle.lexical_digits.specs.CallTable.{drain_of, Takes}
use Rattle.lexical_digits.specs.declared.skip.component.Component.TheVariants.{Integer}
use Rattle.lexical_digits.proofs.Calls.Loops.{any_after}
use Rattle.digit_vectors.proofs.ends.take_through.Goals as goal

-- a byte is taken that is not the wanted one
rest_after : (wanted : ℕ) (s t : State) (r : Option (Bor ℕ)) (item : Bor ℕ) → Takes Integer s t r
    → r ≡ Some item → (item.now == wanted) ≡ false
    → drop_through wanted (drain_of Integer t) ≡ drop_through wanted (drain_of Integer s)
rest_after wanted s t r item h e other =
    let first : drain_of Integer s ≡ item.now ∷ drain_of Integer t = rw e at h.drains in
    rw (first, other) refl

pub loop-byte-preserved : goal.loop-byte-preserved
loop-byte-preserved c =
    let now = c.loop-byte.invariant in
    let takes = c.next.ensures.steps.takes in
    let other : (c.in-Some.byte.now == c.args.wanted) ≡ false = grind (arith, nat_tests) in
    record {
      keeps_loan = c.next.ensures.steps.keeps_loan ∙ now.keeps_loan;
      answer = any_after (λ byte. byte == c.args.wanted) Integer _ _ _ _ takes c.in-Some.is other
          ∙ now.answer;
      rest = rest_after c.args.wanted _ _ _ _ takes c.in-Some.is other ∙ now.rest;
      leaves = takes.leaves ∙ now.leaves;
    }
