-- The list of a text whose first bytes are gone is that of the text, with positions later.
use Rattle.std.proofs.Common.{◌≡◌, ℕ, zero, suc, ◌+◌, ◌<◌, ◌≤◌, Bool, true, false, List, [], length, drop, refl, ap, ◌∙◌, arith, length-drop}
use Rattle.std.specs.Prelude.{Result, Ok, Err, IfOk, ◌&&◌, nat_lt, if◌then◌else◌}
use Rattle.std.proofs.lemmas.Bool.Decides.{nat_tests}
use Rattle.digit_literals.specs.declared.list.Gap.{Gap}
use Rattle.digit_literals.specs.declared.list.ListEnd.{ListEnd}
use Rattle.digit_literals.specs.declared.list.ListEnd.TheVariants.{Over, Fault}
use Rattle.digit_literals.specs.Lists.{Numbers, has_separator, past_blanks, next_after, no_number, before}
use Rattle.digit_pieces.specs.Moves.{outcome_later}
use Rattle.digit_pieces.specs.Pieces.{end_later, list_later, is_of_blanks, next_start, after_of_whole, from_of_whole, whole_at}
use Rattle.digit_pieces.proofs.Blanks.{blanks_within, blanks_moved, separator_moved, separator_within, start_if}

-- ---- a test of positions that are both so much later

lt_moved : (by a b : ℕ) → nat_lt (by + a) (by + b) ≡ nat_lt a b
lt_moved by a b = grind (arith, nat_tests)

-- ---- what is between two numbers

abbrev pub next_later : ℕ → Result ℕ ℕ → Result ℕ ℕ
next_later by (Ok at) = Ok (by + at)
next_later by (Err at) = Err (by + at)

next_of_tests : ℕ → Bool → Bool → Result ℕ ℕ
next_of_tests at separator blanks =
    if separator then Ok (at + 1) else if blanks then Ok at else Err at

next_of_later : (by at : ℕ) (separator blanks : Bool)
    → next_of_tests (by + at) separator blanks ≡ next_later by (next_of_tests at separator blanks)
unfolding next_of_tests
next_of_later by at true blanks = ap Ok (omega arith)
next_of_later by at false true = refl
next_of_later by at false false = refl

start_of_later : (by end : ℕ) (other next : Result ℕ ℕ) (is there here : Bool) → there ≡ here
    → other ≡ next_later by next → (if is && there then Ok (by + end + 1) else other)
    ≡ next_later by (if is && here then Ok (end + 1) else next)
start_of_later by end other next true true true e h = ap Ok (omega arith)
start_of_later by end other next true false false e h = h
start_of_later by end other next true true false e h = absurd cc
start_of_later by end other next true false true e h = absurd cc
start_of_later by end other next false there here e h = h

module _ (gap : Gap) (text : List ℕ) (from : ℕ) where
  next_moved : (end : ℕ)
      → next_after gap text (from + end) ≡ next_later from (next_after gap (drop from text) end)
  unfolding next_of_tests
  next_moved end =
      rw (
        blanks_moved gap text from end,
        separator_moved gap text from (past_blanks gap (drop from text) end),
        lt_moved from end (past_blanks gap (drop from text) end),
      )
      (next_of_later from (past_blanks gap (drop from text) end)
      (has_separator gap (drop from text) (past_blanks gap (drop from text) end))
      (gap.blanks_separate && nat_lt end (past_blanks gap (drop from text) end)))

  pub start_moved : (end : ℕ)
      → next_start gap text (from + end) ≡ next_later from (next_start gap (drop from text) end)
  start_moved end =
      start_of_later from end _ _ (is_of_blanks gap) _ _
      (ap (nat_lt (from + end)) (blanks_moved gap text from end)
      ∙ lt_moved from end (past_blanks gap (drop from text) end))
      (next_moved end)

-- the next number is within the text
next_within : (gap : Gap) (text : List ℕ) (end : ℕ) → end ≤ length text
    → IfOk (next_after gap text end) (λ next. next ≤ length text)
next_within gap text end h =
    by (has_separator gap text at) (gap.blanks_separate && nat_lt end at)
    (separator_within gap text at) (blanks_within gap text end h)
  where
    at : ℕ
    at = past_blanks gap text end

    by : (separator blanks : Bool) → (separator ≡ true → at < length text) → at ≤ length text
        → IfOk (if separator then Ok (at + 1) else if blanks then Ok at else Err at)
        (λ next. next ≤ length text)
    by true blanks there low = let l = there refl in omega arith
    by false true there low = low
    by false false there low = tt

pub start_within : (gap : Gap) (text : List ℕ) (end : ℕ) → end ≤ length text
    → IfOk (next_start gap text end) (λ next. next ≤ length text)
start_within gap text end h =
    start_if gap (λ next. next ≤ length text) text end
    (λ some. omega (arith, some, blanks_within gap text end h)) (next_within gap text end h)

-- ---- a list

module _ {A E : Type 0} (one : List ℕ → ℕ → Result (A × ℕ) E) (none_at : ℕ → E → Bool)
    (later : ℕ → E → E) (gap : Gap) (text : List ℕ) (from : ℕ) (within : from ≤ length text)
    (none_later : (by place : ℕ) (e : E)
    → none_at (by + place) (later by e) ≡ none_at place e)
    (moves : (at : ℕ) → from + at ≤ length text
    → one text (from + at) ≡ outcome_later later from (one (drop from text) at))
    (ends : (start end : ℕ) (x : A) → start ≤ length (drop from text)
    → one (drop from text) start ≡ Ok (x, end) → end ≤ length (drop from text)) where
  abbrev rest : List ℕ
  rest = drop from text

  abbrev of_text : ℕ → ℕ → Numbers A E
  of_text room at = whole_at (one text) none_at gap text room at

  abbrev of_rest : ℕ → ℕ → Numbers A E
  of_rest room at = whole_at (one rest) none_at gap rest room at

  in_text : (at : ℕ) → at ≤ length rest → from + at ≤ length text
  in_text at h = omega (arith, length-drop from text)

  before_later : (x : A) (others : Numbers A E)
      → before x (list_later later from others) ≡ list_later later from (before x others)
  before_later x (others, end) = refl

  no_number_of : ℕ → Bool → E → ListEnd E
  no_number_of place is_over error = if is_over then Over place else Fault error

  no_number_later : (place : ℕ) (is_over : Bool) (error : E)
      → no_number_of (from + place) is_over (later from error)
      ≡ end_later later from (no_number_of place is_over error)
  unfolding no_number_of
  no_number_later place true error = refl
  no_number_later place false error = refl

  no_number_moved : (place : ℕ) (error : E)
      → no_number gap (from + place) (none_at (from + place) (later from error)) (later from error)
      ≡ end_later later from (no_number gap place (none_at place error) error)
  unfolding no_number_of
  no_number_moved place error =
      rw (none_later from place error)
      (no_number_later place (gap.may_trail && none_at place error) error)

  pub list_moved : (room at : ℕ) → at ≤ length rest
      → of_text room (from + at) ≡ list_later later from (of_rest room at)
  unfolding whole_at
  list_moved zero at h = refl
  list_moved (suc room) at h =
      rw (blanks_moved gap text from at, moves place (in_text place low))
      (from_both (λ next. list_moved room next) (one rest place) refl)
    where
      place : ℕ
      place = past_blanks gap rest at

      low : place ≤ length rest
      low = blanks_within gap rest at h

      after_both : ((next : ℕ) → next ≤ length rest
          → of_text room (from + next) ≡ list_later later from (of_rest room next))
          → (x : A) (next : Result ℕ ℕ) → IfOk next (λ n. n ≤ length rest)
          → after_of_whole (one text) none_at gap text (of_text room) x (next_later from next)
          ≡ list_later later from
          (after_of_whole (one rest) none_at gap rest (of_rest room) x next)
      after_both same x (Ok next) here =
          rw (same next here) (before_later x (of_rest room next))
      after_both same x (Err over) here = refl

      from_both : ((next : ℕ) → next ≤ length rest
          → of_text room (from + next) ≡ list_later later from (of_rest room next))
          → (read : Result (A × ℕ) E) → one rest place ≡ read
          → from_of_whole (one text) none_at gap text (of_text room) (from + place)
          (outcome_later later from read)
          ≡ list_later later from
          (from_of_whole (one rest) none_at gap rest (of_rest room) place read)
      from_both same (Ok (x, end)) is =
          let here = ends place end x low is in
          rw (start_moved gap text from end)
          (after_both same x (next_start gap rest end) (start_within gap rest end here))
      from_both same (Err error) is =
          let none : List A = [] in
          ap (λ (e : ListEnd E). (none, e)) (no_number_moved place error)
