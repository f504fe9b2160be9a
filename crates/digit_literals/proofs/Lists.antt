-- One turn of a loop that reads a list into a slice.
pub use Rattle.digit_literals.specs.Lists.{SoFar}
use Rattle.std.proofs.Common.{◌≡◌, ℕ, zero, suc, ◌+◌, ◌-◌, ◌<◌, ◌≤◌, List, [], ◌∷◌, ◌++◌, map, length, take, drop, ◌/◌, ◌%◌, ◌^◌, refl, sym, ◌∙◌, ap, arith}
use Rattle.std.specs.Prelude.{Bool, true, false, nat_lt, Option, Some, None, slice_get, ◌&&◌, if◌then◌else◌, Result, Ok, Err, set}
use Rattle.std.proofs.lemmas.List.{take_more_set, drop-set-lt, drop-drop, length-set, map-append, append_assoc, length-map, length-take-le, append-nil}
use Rattle.std.proofs.lemmas.Bool.Decides.{nat_tests}
use Rattle.std.proofs.lemmas.Nat.{shr-shr}
use Rattle.lexical_format.specs.Word.{bit}
use Rattle.lexical_digits.specs.ByteSet.{accepts}
use Rattle.lexical_digits.specs.Cursor.{holds_of}
use Rattle.digit_literals.specs.declared.list.Gap.{Gap}
use Rattle.digit_literals.specs.declared.list.ListEnd.{ListEnd}
use Rattle.digit_literals.specs.declared.list.ListEnd.TheVariants.{Full, Over, Fault}
use Rattle.digit_values.proofs.Passing.{none_passed}
use Rattle.digit_literals.specs.Lists.{Numbers, is_blank, has_blank, has_separator, past_blanks, next_after, no_number, before, and_then, after_number, from_number, list_at, Fills}

-- where no blank is, none is passed
pub no_blank : (gap : Gap) (text : List ℕ) (at : ℕ) → has_blank gap text at ≡ false
    → past_blanks gap text at ≡ at
unfolding past_blanks
no_blank gap text at h = rw (none_passed (is_blank gap) text at h) (omega arith)

-- where a separator is, no blank is
pub separator_is_no_blank : (gap : Gap) (text : List ℕ) (at : ℕ)
    → has_separator gap text at ≡ true → past_blanks gap text at ≡ at
separator_is_no_blank gap text at h =
    no_blank gap text at (other (slice_get text at) h)
  where
    other : (byte : Option ℕ) → holds_of (accepts gap.separators) byte ≡ true
        → holds_of (is_blank gap) byte ≡ false
    other None e = refl
    other (Some byte) e = grind (arith, e)

-- ten bits of which none is set
ten_clear : (x k : ℕ) → k < 10 → x % 1024 ≡ 0 → x / 2 ^ k % 2 ≡ 0
ten_clear x zero l e = omega (arith, e)
ten_clear x (suc zero) l e = omega (arith, e)
ten_clear x (suc (suc zero)) l e = omega (arith, e)
ten_clear x (suc (suc (suc zero))) l e = omega (arith, e)
ten_clear x (suc (suc (suc (suc zero)))) l e = omega (arith, e)
ten_clear x (suc (suc (suc (suc (suc zero))))) l e = omega (arith, e)
ten_clear x (suc (suc (suc (suc (suc (suc zero)))))) l e = omega (arith, e)
ten_clear x (suc (suc (suc (suc (suc (suc (suc zero))))))) l e = omega (arith, e)
ten_clear x (suc (suc (suc (suc (suc (suc (suc (suc zero)))))))) l e = omega (arith, e)
ten_clear x (suc (suc (suc (suc (suc (suc (suc (suc (suc zero))))))))) l e = omega (arith, e)
ten_clear x (suc (suc (suc (suc (suc (suc (suc (suc (suc (suc k)))))))))) l e =
    absurd (omega (arith, l))

-- no digit is among the blanks
pub no_digit_is : (gap : Gap) → gap.blanks.low / 2 ^ 48 % 1024 ≡ 0
    → (byte : ℕ) → 48 ≤ byte → byte < 58 → is_blank gap byte ≡ false
no_digit_is gap none byte low high =
    let k : ℕ = byte - 48 in
    let there : 48 + k ≡ byte = omega (arith, low) in
    let clear : gap.blanks.low / 2 ^ (48 + k) % 2 ≡ 0 =
    ap (λ n. n % 2) (sym (shr-shr gap.blanks.low 48 k))
    ∙ ten_clear (gap.blanks.low / 2 ^ 48) k (omega (arith, low, high)) none in
    let here : gap.blanks.low / 2 ^ byte % 2 ≡ 0 = rw there at clear in
    let off : bit gap.blanks.low byte ≡ false = rw here refl in
    let small : nat_lt byte 128 ≡ true = grind (arith, nat_tests, high) in
    rw (small, off) refl

module _ {V A E : Type 0} (value : V → A) (one : ℕ → Result (A × ℕ) E) (none_at : ℕ → E → Bool)
    (gap : Gap) (text : List ℕ) where
  abbrev of : ℕ → ℕ → Numbers A E
  of room at = list_at one none_at gap text room at

  -- why the list ends at an error
  abbrev none_end : ℕ → E → ListEnd E
  none_end place error = no_number gap place (none_at place error) error

  -- ---- one step of the definition

  full_is : (at : ℕ) → of 0 at ≡ ([], Full at)
  unfolding list_at
  full_is at = refl

  next_is : (room at end next : ℕ) (x : A) → one (past_blanks gap text at) ≡ Ok (x, end)
      → next_after gap text end ≡ Ok next
      → of (suc room) at ≡ (x ∷ (of room next).0, (of room next).1)
  unfolding list_at
  next_is room at end next x is more = rw (is, more) refl

  over_is : (room at end over : ℕ) (x : A) → one (past_blanks gap text at) ≡ Ok (x, end)
      → next_after gap text end ≡ Err over → of (suc room) at ≡ (x ∷ [], Over over)
  unfolding list_at
  over_is room at end over x is more = rw (is, more) refl

  none_is : (room at : ℕ) (error : E) → one (past_blanks gap text at) ≡ Err error
      → of (suc room) at ≡ ([], none_end (past_blanks gap text at) error)
  unfolding list_at
  none_is room at error is = rw is refl

  -- ---- two lists in a row

  before_both : (x : A) (read : Numbers A E) (more : ℕ → Numbers A E)
      → before x (and_then read more) ≡ and_then (before x read) more
  before_both x (numbers, Full at) more = refl
  before_both x (numbers, Over at) more = refl
  before_both x (numbers, Fault error) more = refl

  -- with room for n numbers, and then for m, the list is that with room for all
  pub goes_on : (n m start : ℕ) → of (n + m) start ≡ and_then (of n start) (of m)
  unfolding list_at
  goes_on zero m start = let none : 0 + m ≡ m = omega arith in rw none refl
  goes_on (suc n) m start =
      let more : suc n + m ≡ suc (n + m) = omega arith in
      rw more (from_both (λ next. goes_on n m next) (one (past_blanks gap text start)))
    where
      place : ℕ
      place = past_blanks gap text start

      after_both : (x : A) → ((next : ℕ) → of (n + m) next ≡ and_then (of n next) (of m))
          → (next : Result ℕ ℕ) → after_number one none_at gap text (of (n + m)) x next
          ≡ and_then (after_number one none_at gap text (of n) x next) (of m)
      after_both x same (Ok next) = rw (same next) (before_both x (of n next) (of m))
      after_both x same (Err over) = refl

      none : Bool → E → Numbers A E
      none is_over error = ([], if is_over then Over place else Fault error)

      no_more : (error : E) (is_over : Bool)
          → none is_over error ≡ and_then (none is_over error) (of m)
      no_more error true = refl
      no_more error false = refl

      from_both : ((next : ℕ) → of (n + m) next ≡ and_then (of n next) (of m))
          → (read : Result (A × ℕ) E)
          → from_number one none_at gap text (of (n + m)) place read
          ≡ and_then (from_number one none_at gap text (of n) place read) (of m)
      from_both same (Ok (x, end)) = after_both x same (next_after gap text end)
      from_both same (Err error) = no_more error (gap.may_trail && none_at place error)

  -- ---- a loop

  abbrev So : ℕ → ℕ → ℕ → List V → List V → Type 0
  So = SoFar value one none_at gap text

  pub turns_begin : (start : ℕ) (old : List V) → So start 0 start old old
  turns_begin start old = let none : length old - 0 ≡ length old = omega arith in record {
    numbers = rw none refl;
    end = rw none refl;
    rest = refl;
    same_length = refl;
  }

  -- so many numbers, and no more
  finish : (start k : ℕ) (end : ListEnd E) (old new : List V) → k ≤ length old
      → map value (take k new) ≡ (of (length old) start).0 → end ≡ (of (length old) start).1
      → drop k new ≡ drop k old → length new ≡ length old
      → Fills value (of (length old) start) (record { count = k; end = end }) old new
  finish start k end old new room numbers ended rest same =
      let fits : k ≤ length new = omega (arith, room, same) in
      record {
        numbers = numbers;
        count = sym (rw (← numbers, length-map (take k new) value) (length-take-le k new fits));
        end = ended;
        rest = rest;
        same_length = same;
      }

  module _ (start i at : ℕ) (old new : List V) (so : So start i at old new) where
    -- the slice is full
    pub turns_full : i ≡ length old
        → Fills value (of (length old) start) (record { count = i; end = Full at }) old new
    turns_full full =
        let none : length old - i ≡ 0 = omega (arith, full) in
        finish start i (Full at) old new (omega (arith, full))
        (sym (append-nil (map value (take i new))) ∙ rw (none, full_is at) at so.numbers)
        (rw (none, full_is at) at so.end) so.rest so.same_length

    module _ (room : i < length old) where
      left : length old - i ≡ suc (length old - (i + 1))
      left = omega (arith, room)

      within : i < length new
      within = omega (arith, room, so.same_length)

      -- no number is here
      pub turns_none : (error : E) → one (past_blanks gap text at) ≡ Err error
          → Fills value (of (length old) start) (record {
            count = i;
            end = none_end (past_blanks gap text at) error;
          }) old new
      turns_none error is =
          let step = rw (left, none_is (length old - (i + 1)) at error is) at so.numbers in
          finish start i (none_end (past_blanks gap text at) error) old new
          (omega (arith, room)) (sym (append-nil (map value (take i new))) ∙ step)
          (rw (left, none_is (length old - (i + 1)) at error is) at so.end) so.rest so.same_length

      module _ (x : V) where
        pushed : map value (take (i + 1) (set new i x)) ≡ map value (take i new) ++ value x ∷ []
        pushed = rw (take_more_set new i x within, map-append value (take i new) (x ∷ [])) refl

        -- the numbers so far and others
        pushed_on : (others : List A) → map value (take (i + 1) (set new i x)) ++ others
            ≡ map value (take i new) ++ value x ∷ others
        pushed_on others =
            rw (pushed, append_assoc (map value (take i new)) (value x ∷ []) others) refl

        rest_after : drop (i + 1) (set new i x) ≡ drop (i + 1) old
        rest_after = drop-set-lt (i + 1) new i x (omega arith)
            ∙ sym (drop-drop 1 i new) ∙ rw so.rest (drop-drop 1 i old)

        same_after : length (set new i x) ≡ length old
        same_after = length-set new i x ∙ so.same_length

        -- a number, and a separator after it
        pub turns_next : (end next : ℕ) → one (past_blanks gap text at) ≡ Ok (value x, end)
            → next_after gap text end ≡ Ok next → So start (i + 1) next old (set new i x)
        turns_next end next is more =
            let room' : ℕ = length old - (i + 1) in
            record {
              numbers = pushed_on (of room' next).0
                  ∙ rw (left, next_is room' at end next (value x) is more) at so.numbers;
              end = rw (left, next_is room' at end next (value x) is more) at so.end;
              rest = rest_after;
              same_length = same_after;
            }

        -- a number, and no separator after it
        pub turns_over : (end over : ℕ) → one (past_blanks gap text at) ≡ Ok (value x, end)
            → next_after gap text end ≡ Err over
            → Fills value (of (length old) start) (record { count = i + 1; end = Over over })
            old (set new i x)
        turns_over end over is more =
            let room' : ℕ = length old - (i + 1) in
            finish start (i + 1) (Over over) old (set new i x) (omega (arith, room))
            (pushed ∙ rw (left, over_is room' at end over (value x) is more) at so.numbers)
            (rw (left, over_is room' at end over (value x) is more) at so.end) rest_after same_after

-- to be named in an attribute
pub ruleset turns = (turns_begin, turns_full, turns_none, turns_next, turns_over)
