-- What a caller of two calls knows.
use Rattle.std.proofs.Common.{◌≡◌, ℕ, ◌-◌, List, [], ◌∷◌, drop, ap}
use Rattle.std.specs.Prelude.{Bool, Option, None, Some, Result, Ok, IfSome, IfNone}
use Rattle.digit_literals.specs.declared.list.Gap.{Gap}
use Rattle.digit_pieces.specs.Texts.{IsApart}
use Rattle.digit_streams.specs.declared.stream.Ended.{Ended}
use Rattle.digit_streams.specs.declared.stream.StreamEnd.{StreamEnd}
use Rattle.digit_streams.specs.Streams.{Stream, StreamNumbers, Gives, UsesKnown, after_end, end_of_next, numbers_of, stream_list, then_from}
use Rattle.digit_streams.proofs.Turns.{some_then}

-- two numbers that `next_number` gives are the first two of the list
pub first_two : {V A E : Type 0} (meaning : V → A) (list : ℕ → List ℕ → ℕ → StreamNumbers A E)
    (position at : ℕ) (text : List ℕ) (rest : Option (List ℕ)) (after : Option (Ended E))
    (first second : V)
    → list position text 2
    ≡ then_from (list position text 1) (λ next. list next (drop (next - position) text) 1)
    → Gives (list position text 1) (meaning first ∷ [])
    (end_of_next (Some (Ok first)) at after)
    → UsesKnown position at (Some text) rest
    → IfSome rest (λ bytes. (after_end after (list at bytes 1)).0 ≡ meaning second ∷ [])
    → (list position text 2).0 ≡ meaning first ∷ meaning second ∷ []
first_two meaning list position at text None after first second on one uses two = absurd uses
first_two meaning list position at text (Some bytes) (Some end) first second on one uses two =
    let e : [] ≡ meaning second ∷ [] = two in absurd cc
first_two meaning list position at text (Some bytes) None first second on one uses two =
    rw (on, one) (rw (← uses.rest) (ap (λ l. meaning first ∷ l) two))

-- what a reader of a kind and a gap gives is the list by these
module _ {K A E : Type 0} (number_at : K → List ℕ → ℕ → Result (A × ℕ) E) (none_at : ℕ → E → Bool)
    (later : ℕ → E → E) (has : K → ℕ → Bool) (s : Stream K E) (kind : K) (gap : Gap)
    (is_kind : s.kind ≡ kind) (is_gap : s.gap ≡ gap) (apart : IsApart (has kind) gap) where
  pub first_gives : (text : List ℕ) (numbers : List A) (end : StreamEnd E) → s.ended ≡ None
      → s.position ≡ 0 → s.bytes ≡ Some text
      → IfNone s.ended (IfSome s.bytes (λ bytes. IsApart (has s.kind) s.gap
      → Gives (stream_list (number_at s.kind) none_at later s.gap s.position bytes 1) numbers end))
      → Gives (stream_list (number_at kind) none_at later gap 0 text 1) numbers end
  first_gives text numbers end is_ended is_position is_bytes h =
      let gives = rw (is_ended, is_position, is_bytes, is_kind, is_gap) at h in gives apart

  pub next_gives : (numbers : List A)
      → IfSome s.bytes (λ bytes. IsApart (has s.kind) s.gap
      → (numbers_of number_at none_at later s bytes 1).0 ≡ numbers)
      → IfSome s.bytes (λ bytes. (after_end s.ended
      (stream_list (number_at kind) none_at later gap s.position bytes 1)).0 ≡ numbers)
  next_gives numbers h =
      rw (← is_kind, ← is_gap)
      (some_then s.bytes _ _ (λ bytes goes. goes (rw (is_kind, is_gap) apart)) h)
