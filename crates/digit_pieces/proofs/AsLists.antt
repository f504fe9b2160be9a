-- The numbers of a whole text that may come in pieces are its list. `Full` differs by blanks, where
-- blanks alone separate.
use Rattle.std.proofs.Common.{◌≡◌, ℕ, zero, suc, ◌+◌, ◌-◌, ◌<◌, ◌^◌, Bool, true, false, List, [], length, drop, take_while, refl, sym, ap, ◌∙◌, arith}
use Rattle.std.specs.Prelude.{Result, Ok, Err, Option, Some, None, ◌&&◌, nat_lt, if◌then◌else◌, slice_get}
use Rattle.std.proofs.lemmas.Bool.Decides.{nat_tests}
use Rattle.std.proofs.lemmas.List.{append-nil, drop-drop}
use Rattle.std.proofs.Math.Nat.{zero-div}
use Rattle.lexical_format.specs.Word.{bit}
use Rattle.lexical_digits.specs.ByteSet.{accepts}
use Rattle.lexical_digits.specs.Cursor.{holds_of}
use Rattle.digit_literals.specs.declared.list.Gap.{Gap}
use Rattle.digit_literals.specs.declared.list.ListEnd.TheVariants as lists
use Rattle.digit_literals.specs.Lists.{Numbers, is_blank, has_separator, past_blanks, next_after, before, after_number, from_number, list_at}
use Rattle.digit_values.proofs.Passing.{one_passed}
use Rattle.digit_pieces.specs.Pieces.{full_past, is_of_blanks, next_start, after_of_whole, from_of_whole, whole_at}
use Rattle.digit_pieces.proofs.Blanks.{led_more}
use Rattle.digit_pieces.proofs.Fresh.{blank_here}

-- ---- a gap without separators

no_bit : (place : ℕ) → bit 0 place ≡ false
no_bit place = rw (zero-div (2 ^ place)) refl

two : (a b c : Bool) → a && b && c ≡ true → (b ≡ true) × (c ≡ true)
two true true true h = (refl, refl)
two true true false h = absurd cc
two true false c h = absurd cc
two false b c h = absurd cc

module _ (gap : Gap) (alone : is_of_blanks gap ≡ true) where
  none_low : gap.separators.low ≡ 0
  none_low = grind (arith, nat_tests, (two gap.blanks_separate _ _ alone).0)

  none_high : gap.separators.high ≡ 0
  none_high = grind (arith, nat_tests, (two gap.blanks_separate _ _ alone).1)

  none_accepted : (byte : ℕ) → accepts gap.separators byte ≡ false
  none_accepted byte = rw (none_low, none_high) (by (nat_lt byte 128))
    where
      by : (low : Bool) → (if low then bit 0 byte else bit 0 (byte - 128)) ≡ false
      by true = no_bit byte
      by false = no_bit (byte - 128)

  no_separator : (text : List ℕ) (at : ℕ) → has_separator gap text at ≡ false
  no_separator text at = by (slice_get text at)
    where
      by : (o : Option ℕ) → holds_of (accepts gap.separators) o ≡ false
      by None = refl
      by (Some byte) = none_accepted byte

separates : (a b c : Bool) → a && b && c ≡ true → a ≡ true
separates true b c h = refl
separates false b c h = absurd cc

next_of : (at : ℕ) (separator blanks more : Bool) → separator ≡ false → blanks ≡ true
    → more ≡ true
    → (if separator then Ok (at + 1) else if blanks && more then Ok at else Err at) ≡ Ok at
next_of at true blanks more e h k = absurd cc
next_of at false false more e h k = absurd cc
next_of at false true false e h k = absurd cc
next_of at false true true e h k = refl

module _ (gap : Gap) (text : List ℕ) where
  -- no blank is after the last blank
  past_again : (at : ℕ)
      → past_blanks gap text (past_blanks gap text at) ≡ past_blanks gap text at
  unfolding past_blanks
  past_again at =
      let n : ℕ = length (take_while (is_blank gap) (drop at text)) in
      let all = rw (append-nil (drop at text)) at (led_more (is_blank gap) (drop at text) []) in
      let rest = rw (drop-drop n at text) at all in
      omega (arith, rest)

  -- after one blank are the others
  past_one : (end : ℕ) → end < past_blanks gap text end
      → past_blanks gap text (end + 1) ≡ past_blanks gap text end
  unfolding past_blanks
  past_one end h =
      omega (arith, one_passed (is_blank gap) text end (blank_here gap text end h))

  next_of_blanks : (end : ℕ) → is_of_blanks gap ≡ true → end < past_blanks gap text end
      → next_after gap text end ≡ Ok (past_blanks gap text end)
  next_of_blanks end alone some =
      next_of (past_blanks gap text end) (has_separator gap text (past_blanks gap text end))
      gap.blanks_separate (nat_lt end (past_blanks gap text end))
      (no_separator gap alone text (past_blanks gap text end))
      (separates gap.blanks_separate _ _ alone) (grind (arith, nat_tests, some))

module _ {A E : Type 0} (one : ℕ → Result (A × ℕ) E) (none_at : ℕ → E → Bool) (gap : Gap)
    (text : List ℕ) where
  abbrev whole : ℕ → ℕ → Numbers A E
  whole room start = whole_at one none_at gap text room start

  abbrev list : ℕ → ℕ → Numbers A E
  list room start = list_at one none_at gap text room start

  abbrev past : Numbers A E → Numbers A E
  past read = full_past gap text read

  past_before : (x : A) (read : Numbers A E) → past (before x read) ≡ before x (past read)
  past_before x (numbers, lists.Full at) = refl
  past_before x (numbers, lists.Over at) = refl
  past_before x (numbers, lists.Fault error) = refl

  -- blanks before the next number make no difference
  past_start : (room at next : ℕ) → past_blanks gap text at ≡ past_blanks gap text next
      → past (list room at) ≡ past (list room next)
  unfolding list_at
  past_start zero at next e = ap (λ n. ([], lists.Full n)) e
  past_start (suc room) at next e = rw e refl

  pub whole_past : (room start : ℕ) → past (whole room start) ≡ past (list room start)
  unfolding whole_at list_at
  whole_past zero start = refl
  whole_past (suc room) start = by_read (λ next. whole_past room next) (one place)
    where
      place : ℕ
      place = past_blanks gap text start

      after : ((next : ℕ) → past (whole room next) ≡ past (list room next)) → (x : A)
          → (next : Result ℕ ℕ) → past (after_of_whole one none_at gap text (whole room) x next)
          ≡ past (after_number one none_at gap text (list room) x next)
      after same x (Ok next) =
          past_before x (whole room next) ∙ ap (before x) (same next)
          ∙ sym (past_before x (list room next))
      after same x (Err over) = refl

      one_blank : ((next : ℕ) → past (whole room next) ≡ past (list room next)) → (x : A)
          → (end : ℕ) → is_of_blanks gap ≡ true → end < past_blanks gap text end
          → past (before x (whole room (end + 1)))
          ≡ past (after_number one none_at gap text (list room) x (next_after gap text end))
      one_blank same x end alone some =
          let there : ℕ = past_blanks gap text end in
          let all : past_blanks gap text (end + 1) ≡ past_blanks gap text there =
          past_one gap text end some ∙ sym (past_again gap text end) in
          rw (next_of_blanks gap text end alone some)
          (past_before x (whole room (end + 1)) ∙ ap (before x) (same (end + 1))
          ∙ ap (before x) (past_start room (end + 1) there all)
          ∙ sym (past_before x (list room there)))

      by_blank : ((next : ℕ) → past (whole room next) ≡ past (list room next)) → (x : A)
          → (end : ℕ) (is more : Bool) → is_of_blanks gap ≡ is
          → nat_lt end (past_blanks gap text end) ≡ more
          → past (after_of_whole one none_at gap text (whole room) x
          (if is && more then Ok (end + 1) else next_after gap text end))
          ≡ past (after_number one none_at gap text (list room) x (next_after gap text end))
      by_blank same x end true true e h = one_blank same x end e (grind (arith, nat_tests, h))
      by_blank same x end true false e h = after same x (next_after gap text end)
      by_blank same x end false more e h = after same x (next_after gap text end)

      by_read : ((next : ℕ) → past (whole room next) ≡ past (list room next))
          → (read : Result (A × ℕ) E)
          → past (from_of_whole one none_at gap text (whole room) place read)
          ≡ past (from_number one none_at gap text (list room) place read)
      by_read same (Ok (x, end)) =
          by_blank same x end (is_of_blanks gap) (nat_lt end (past_blanks gap text end)) refl refl
      by_read same (Err error) = refl

  -- with separators they are the same
  module _ (separated : is_of_blanks gap ≡ false) where
    pub start_is : (end : ℕ) → next_start gap text end ≡ next_after gap text end
    start_is end = by (is_of_blanks gap) (nat_lt end (past_blanks gap text end)) separated
      where
        by : (is more : Bool) → is ≡ false
            → (if is && more then Ok (end + 1) else next_after gap text end)
            ≡ next_after gap text end
        by true more e = absurd cc
        by false more e = refl

    pub whole_same : (room start : ℕ) → whole room start ≡ list room start
    unfolding whole_at list_at
    whole_same zero start = refl
    whole_same (suc room) start = by_read (λ next. whole_same room next) (one place)
      where
        place : ℕ
        place = past_blanks gap text start

        after : ((next : ℕ) → whole room next ≡ list room next) → (x : A)
            → (next : Result ℕ ℕ) → after_of_whole one none_at gap text (whole room) x next
            ≡ after_number one none_at gap text (list room) x next
        after same x (Ok next) = ap (before x) (same next)
        after same x (Err over) = refl

        by_read : ((next : ℕ) → whole room next ≡ list room next) → (read : Result (A × ℕ) E)
            → from_of_whole one none_at gap text (whole room) place read
            ≡ from_number one none_at gap text (list room) place read
        by_read same (Ok (x, end)) = rw (start_is end) (after same x (next_after gap text end))
        by_read same (Err error) = refl

-- to be named in an attribute
pub ruleset as_lists = (whole_past, whole_same)
