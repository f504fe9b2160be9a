-- What a separator is judged by.
use Rattle.std.proofs.Common.{◌≡◌, ℕ, ◌+◌, ◌-◌, ◌<◌, ◌≤◌, Bool, true, false, ltb, List, length, ◌∙◌, arith, slice_get}
use Rattle.lexical_digits.specs.Laws.Terms.{list_any, Rule, class, holds_separator, left_side, roles, grants, place, IsSupported, separator_at, IsRun, IsSpan}
use Rattle.lexical_digits.specs.declared.skip.rule.Class.{Class}
use Rattle.lexical_digits.specs.Laws.Kept.{place_kept, separator_within}
use Rattle.lexical_digits.proofs.Rule.Runs.{place_next, place_run}
use Rattle.lexical_digits.proofs.Rule.Sides.{left_one, right_one, left_many, right_many, kept_by_sides}
use Rattle.lexical_digits.proofs.Looks.WhereSeparatorsStand.{holds_separator_at, separators_and_others}

module _ (rule : Rule) (buffer : List ℕ) (supported : IsSupported rule) where
  -- a separator under a rule that judges each alone
  pub span_alone : rule.consecutive ≡ false → (q : ℕ) → q < length buffer
      → IsSpan rule buffer q q (q + 1)
  span_alone single q l = record {
    within = omega arith;
    left = left_one rule buffer supported single q (omega arith);
    right = right_one rule buffer supported single q;
    reach = λ count h. place_next rule buffer single q count l h;
  }

  -- one in a run that is judged as a whole
  pub span_of_run : rule.consecutive ≡ true → (q from to : ℕ) → IsRun rule.separator buffer from to
      → from ≤ q → q < to → IsSpan rule buffer q from to
  span_of_run many q from to run low high = record {
    within = omega (arith, run.within);
    left = left_many rule buffer supported many q from low (λ k m n. holds k m (omega arith))
        (λ k e. holds_separator_at rule buffer supported k ∙ run.before k e)
        (omega (arith, run.within));
    right = right_many rule buffer supported many q to (holds q low high) (omega arith)
        (λ k m n. holds k (omega arith) n) stops run.within;
    reach = λ count h. place_run rule buffer many (to - q) q to count (omega arith)
        (λ k m n. holds k (omega arith) n) stops run.within h;
  }
    where
      holds : (k : ℕ) → from ≤ k → k < to → holds_separator rule buffer k ≡ true
      holds k m n = holds_separator_at rule buffer supported k ∙ run.all k m n

      stops : holds_separator rule buffer to ≡ false
      stops = holds_separator_at rule buffer supported to ∙ run.behind

  module _ (q from to count : ℕ) (left : Class) (counted : Bool)
      (span : IsSpan rule buffer q from to) (is : separator_at rule.separator buffer q ≡ true)
      (at_left : left ≡ left_side rule buffer counted q) (above : counted ≡ ltb 0 count) where
    here : holds_separator rule buffer q ≡ true
    here = holds_separator_at rule buffer supported q ∙ is

    pub place_dropped_by : list_any (grants rule) (roles left (class rule (slice_get buffer to)))
        ≡ true → place rule buffer q count ≡ to
    place_dropped_by some =
        grind (arith, span, at_left, kept_by_sides rule buffer supported q count counted above here)

    pub place_kept_by : list_any (grants rule) (roles left (class rule (slice_get buffer to)))
        ≡ false → place rule buffer q count ≡ q
    place_kept_by none =
        let kept = kept_by_sides rule buffer supported q count counted above here in
        let within = separator_within rule buffer q here in
        grind (arith, span, at_left, place_kept rule buffer q count)

pub ruleset spans = (span_alone, span_of_run)

pub ruleset judged = (place_dropped_by, place_kept_by, separators_and_others)
