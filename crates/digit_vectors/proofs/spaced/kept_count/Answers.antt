use Rattle.std.proofs.Common.{ℕ, Option, length, ap, ◌∙◌}
use Rattle.std.proofs.lemmas.Iterator.Consumers.{count_from_yields_List}
use Rattle.std.specs.Borrow.{Bor}
use Rattle.std.specs.Prelude.{option_copied}
use Rattle.lexical_digits.proofs.Calls.Implementing.{YieldsList-from_items}
use Rattle.digit_vectors.specs.Spaced.{Held, Nexts, kept}
use Rattle.digit_vectors.specs.Spaced.Laws.{digit_laws}
use Rattle.digit_vectors.proofs.Kept.{items_are_kept}
use Rattle.digit_vectors.proofs.spaced.kept_count.Goals as goal

-- `next_gives`
abbrev gives : Held → Option (Bor ℕ) → Held → Type 0
gives s r t = Nexts s.state (option_copied r) t.state

pub returns : goal.returns
returns c =
    let held : Held = c.new.result in
    count_from_yields_List held _ c.count.ensures.ran
    (YieldsList-from_items digit_laws gives (λ s. s.state) (λ s. s.holds)
    (λ s t r h. h.byte) (λ s t r h. h.takes) held)
    ∙ ap length (items_are_kept held.state held.holds)
    ∙ ap (λ m. length (kept m)) c.new.ensures
