-- What the end of a list says.
use Rattle.std.proofs.Common.{◌≡◌, ℕ, zero, suc, ◌+◌, ◌<◌, ◌≤◌, List, [], length, refl, subst, arith}
use Rattle.std.specs.Prelude.{Bool, true, false, Result, Ok, Err, ◌&&◌, if◌then◌else◌, nat_lt}
use Rattle.digit_literals.specs.declared.list.Gap.{Gap}
use Rattle.digit_literals.specs.declared.list.ListEnd.TheVariants.{Full, Over, Fault}
use Rattle.digit_literals.specs.declared.list.ListRead.{ListRead}
use Rattle.digit_literals.specs.Lists.{Numbers, has_blank, has_separator, past_blanks, next_after, before, after_number, from_number, list_at, Fills, IfFull, IfOver}
use Rattle.digit_literals.specs.ListEnds.{EndSays}
use Rattle.digit_literals.proofs.PassedAll.{no_blank_past}

module _ {A E : Type 0} (one : ℕ → Result (A × ℕ) E) (none_at : ℕ → E → Bool) (gap : Gap)
    (text : List ℕ) where
  abbrev of : ℕ → ℕ → Numbers A E
  of room at = list_at one none_at gap text room at

  -- ---- at most as many numbers as there is room for; just as many, where it is full

  abbrev IsWithin : ℕ → Numbers A E → Type 0
  IsWithin room read =
      (length read.0 ≤ room) × IfFull read.1 (λ _. length read.0 ≡ room)

  pub within : (room start : ℕ) → IsWithin room (of room start)
  unfolding list_at
  within zero start = (omega arith, refl)
  within (suc room) start = from_both (within room) (one (past_blanks gap text start))
    where
      with_one : (x : A) (read : Numbers A E) → IsWithin room read
          → IsWithin (suc room) (before x read)
      with_one x (numbers, Full at) (few, all) = (omega (arith, few), omega (arith, all))
      with_one x (numbers, Over at) (few, all) = (omega (arith, few), all)
      with_one x (numbers, Fault error) (few, all) = (omega (arith, few), all)

      after_both : ((next : ℕ) → IsWithin room (of room next)) → (x : A) (next : Result ℕ ℕ)
          → IsWithin (suc room) (after_number one none_at gap text (of room) x next)
      after_both more x (Ok next) = with_one x (of room next) (more next)
      after_both more x (Err over) = (omega arith, tt)

      none : (error : E) (place : ℕ) (is_over : Bool)
          → IsWithin (suc room) ([], if is_over then Over place else Fault error)
      none error place true = (omega arith, tt)
      none error place false = (omega arith, tt)

      from_both : ((next : ℕ) → IsWithin room (of room next)) → (read : Result (A × ℕ) E)
          → IsWithin (suc room)
          (from_number one none_at gap text (of room) (past_blanks gap text start) read)
      from_both more (Ok (x, end)) = after_both more x (next_after gap text end)
      from_both more (Err error) =
          none error (past_blanks gap text start)
          (gap.may_trail && none_at (past_blanks gap text start) error)

  -- ---- where it is over

  -- no blank is there; and unless a separator may be last, no separator, and a number before it
  pub record IsOver (at count : ℕ) : Type 0 where
    pub blank : has_blank gap text at ≡ false
    pub separator : gap.may_trail ≡ false → has_separator gap text at ≡ false
    pub some : gap.may_trail ≡ false → 0 < count

  abbrev EndsOver : Numbers A E → Type 0
  EndsOver read = IfOver read.1 (λ at. IsOver at (length read.0))

  pub over : (room start : ℕ) → EndsOver (of room start)
  unfolding list_at
  over zero start = tt
  over (suc room) start = from_both (over room) (one place)
    where
      place : ℕ
      place = past_blanks gap text start

      with_one : (x : A) (read : Numbers A E) → EndsOver read → EndsOver (before x read)
      with_one x (numbers, Full at) is = tt
      with_one x (numbers, Over at) is = record {
        blank = is.blank;
        separator = is.separator;
        some = λ _. omega arith;
      }
      with_one x (numbers, Fault error) is = tt

      -- no separator is after a number
      ends : ((next : ℕ) → EndsOver (of room next)) → (x : A) (end : ℕ) (separates more : Bool)
          → has_separator gap text (past_blanks gap text end) ≡ separates
          → EndsOver (after_number one none_at gap text (of room) x
          (if separates then Ok (past_blanks gap text end + 1)
          else if more then Ok (past_blanks gap text end) else Err (past_blanks gap text end)))
      ends others x end true more is =
          with_one x (of room (past_blanks gap text end + 1))
          (others (past_blanks gap text end + 1))
      ends others x end false true is =
          with_one x (of room (past_blanks gap text end)) (others (past_blanks gap text end))
      ends others x end false false is = record {
        blank = no_blank_past text end gap;
        separator = λ _. is;
        some = λ _. omega arith;
      }

      none : (error : E) (is_over : Bool) → (is_over ≡ true → gap.may_trail ≡ true)
          → EndsOver ([], if is_over then Over place else Fault error)
      none error false trails = tt
      none error true trails = record {
        blank = no_blank_past text start gap;
        separator = λ stays. absurd (grind (arith, stays, trails refl));
        some = λ stays. absurd (grind (arith, stays, trails refl));
      }

      both : (a b : Bool) → (a && b) ≡ true → a ≡ true
      both true b is = refl
      both false b is = is

      from_both : ((next : ℕ) → EndsOver (of room next)) → (read : Result (A × ℕ) E)
          → EndsOver (from_number one none_at gap text (of room) place read)
      from_both others (Ok (x, end)) =
          ends others x end (has_separator gap text (past_blanks gap text end))
          (gap.blanks_separate && nat_lt end (past_blanks gap text end)) refl
      from_both others (Err error) =
          none error (gap.may_trail && none_at place error)
          (both gap.may_trail (none_at place error))

-- ---- what was read into a slice

module _ {V A E : Type 0} (value : V → A) (one : ℕ → Result (A × ℕ) E) (none_at : ℕ → E → Bool)
    (gap : Gap) (text : List ℕ) where
  -- of a list, as of what was read of it
  says : (room : ℕ) (list : Numbers A E) → IsWithin one none_at gap text room list
      → EndsOver one none_at gap text list
      → EndSays gap text room (record { count = length list.0; end = list.1 })
  says room (numbers, Full at) (few, all) over = record {
    full = all;
    no_blank = tt;
    no_separator = λ _. tt;
    some = λ _. tt;
  }
  says room (numbers, Over at) (few, all) over = record {
    full = tt;
    no_blank = over.blank;
    no_separator = over.separator;
    some = over.some;
  }
  says room (numbers, Fault error) (few, all) over = record {
    full = tt;
    no_blank = tt;
    no_separator = λ _. tt;
    some = λ _. tt;
  }

  pub end_says : (start : ℕ) (read : ListRead E) (old new : List V)
      → Fills value (list_at one none_at gap text (length old) start) read old new
      → EndSays gap text (length old) read
  end_says start read old new fills =
      let list : Numbers A E = list_at one none_at gap text (length old) start in
      let all : EndSays gap text (length old) (record { count = length list.0; end = list.1 }) =
      says (length old) list (within one none_at gap text (length old) start)
      (over one none_at gap text (length old) start) in
      let same : (record { count = length list.0; end = list.1 }) ≡ read =
      grind (arith, fills.count, fills.end) in
      subst (EndSays gap text (length old)) same all
