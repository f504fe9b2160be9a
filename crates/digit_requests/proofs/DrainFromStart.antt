-- The drain of a text from its start is the report's: its bytes, its count and its cursor.
use Rattle.std.proofs.Common.{◌≡◌, ℕ, ◌<◌, ◌^◌, List, Result, length, arith}
use Rattle.std.proofs.lemmas.List.Sums.{count_by-le-length}
use Rattle.lexical_digits.specs.declared.skip.component.Component.{Component}
use Rattle.lexical_digits.specs.Separators.{drain}
use Rattle.lexical_digits.specs.State.{State, start, rule_of, current_count}
use Rattle.lexical_digits.specs.CallTable.{drain_of, after_drain}
use Rattle.digit_requests.specs.declared.report.Drained.{Drained}
use Rattle.digit_requests.specs.Line.{Asked, word_of}
use Rattle.digit_requests.specs.Report.{count_of, AddsDrain}

count_of_drained : (asked : Asked) → length asked.text < 2 ^ 64 →
    current_count asked.component (after_drain asked.component (start asked.text (word_of asked)))
    ≡ count_of asked
unfolding after_drain count_of
count_of_drained asked h = grind (arith, count_by-le-length)

-- from no count the bytes drained are the report's
drain_from_start : (k : Component) (text : List ℕ) (word : ℕ)
    → drain_of k (start text word) ≡ drain (rule_of word k) text 0 0
drain_from_start k text word = grind arith

-- from the start of a text the drain is that of a report
pub adds_text : {E : Type 0} (asked : Asked) (s : State) (old new : List ℕ) (r : Result Drained E) →
    length asked.text < 2 ^ 64 → s ≡ start asked.text (word_of asked) →
    AddsDrain old new (drain_of asked.component s)
    (current_count asked.component (after_drain asked.component s))
    (after_drain asked.component s).cursor r →
    AddsDrain old new (drain (rule_of (word_of asked) asked.component) asked.text 0 0)
    (count_of asked) (length asked.text) r
unfolding after_drain
adds_text asked s old new r short e h =
    rw (
      ← count_of_drained asked short,
      ← drain_from_start asked.component asked.text (word_of asked),
    ) (rw e at h)
