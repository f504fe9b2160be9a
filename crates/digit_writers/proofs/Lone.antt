-- Digits with lone separators between them are read.
use Rattle.std.proofs.Common.{◌≡◌, ℕ, zero, suc, ◌+◌, ◌<◌, ◌≤◌, ◌⊎◌, true, List, length, get_or, refl, sym, ap, subst, ◌∙◌, inl, inr, arith, filter, length-take, length-drop}
use Rattle.std.specs.Prelude.{Ok}
use Rattle.std.specs.Str.Parse.{digits_value}
use Rattle.std.proofs.lemmas.Bool.{cases_lt}
use Rattle.std.proofs.lemmas.Option.{gets}
use Rattle.lexical_digits.specs.declared.skip.rule.Rule.{Rule}
use Rattle.lexical_digits.specs.Separators.{is_digit, is_separator, IsSupported}
use Rattle.lexical_digits.specs.Stop.{stop}
use Rattle.lexical_digits.proofs.Calls.FirstOther.{stop_is_first}
use Rattle.digit_values.specs.After.{digits_between}
use Rattle.digit_integers.specs.Integers.{integer_at, value_to}
use Rattle.digit_integers.specs.Written.{IsWrittenAt}
use Rattle.digit_values.proofs.Between.{none_between, no_more}
use Rattle.digit_values.proofs.Passed.{HasPassed, passed, byte_kept}
use Rattle.digit_integers.proofs.Texts.{some_at}
use Rattle.digit_integers.proofs.Written.{byte_at}

-- at a position of some bytes is a digit, or between two digits a separator that is dropped there
abbrev pub IsLone : Rule → List ℕ → ℕ → Type 0
IsLone rule bytes q =
    (is_digit rule (get_or bytes q 0) ≡ true)
    ⊎ ((is_separator rule.separator (get_or bytes q 0) ≡ true) × (rule.internal ≡ true) × (0 < q)
    × (q + 1 < length bytes) × (is_digit rule (get_or bytes (q + 1) 0) ≡ true))

within : (rule : Rule) (text : List ℕ) (start : ℕ) (ds : List ℕ) → IsWrittenAt rule text start ds
    → 0 < length ds → start + length ds ≤ length text
within rule text start ds at some =
    let long = ap length at.same in
    grind (arith, long, length-take {A = ℕ}, length-drop {A = ℕ})

module _ (rule : Rule) (text : List ℕ) (start : ℕ) (supported : IsSupported rule) where
  digit_passed : (at : ℕ) → start ≤ at → at < length text → HasPassed rule text start at
      → is_digit rule (get_or text at 0) ≡ true → HasPassed rule text start (at + 1)
  digit_passed at low l before digit = grind (arith, passed)

  separator_passed : (at : ℕ) → rule.internal ≡ true → start ≤ at → at + 1 < length text
      → 0 < length (digits_between rule text start at) → HasPassed rule text start at
      → is_separator rule.separator (get_or text at 0) ≡ true
      → is_digit rule (get_or text (at + 1) 0) ≡ true → HasPassed rule text start (at + 1)
  separator_passed at internal low l some before separates digit = grind (arith, passed, no_more)

  passed_none : HasPassed rule text start start
  passed_none = grind (arith, none_between rule text start)

  module _ (bytes : List ℕ) (at : IsWrittenAt rule text start bytes) (begun : 0 < length bytes)
      (lone : (q : ℕ) → q < length bytes → IsLone rule bytes q) where
    abbrev end : ℕ
    end = start + length bytes

    inside : end ≤ length text
    inside = within rule text start bytes at begun

    passed_to : (n : ℕ) → n ≤ length bytes → HasPassed rule text start (start + n)
    passed_to zero l = subst (HasPassed rule text start) {x = start} (omega arith) passed_none
    passed_to (suc n) l =
        let before = passed_to n (omega arith) in
        let here = byte_at rule text start bytes at n (omega arith) in
        let next : start + n + 1 ≡ start + suc n = omega arith in
        let room = inside in
        subst (HasPassed rule text start) next
        (elim (lone n (omega arith)) [
          | inl digit ↦
              digit_passed (start + n) (omega arith) (omega (arith, room)) before (rw here digit)
          | inr sep ↦
              let later = byte_at rule text start bytes at (n + 1) sep.3 in
              let same : start + (n + 1) ≡ start + n + 1 = omega arith in
              let follows : is_digit rule (get_or text (start + n + 1) 0) ≡ true =
              ap (λ (i : ℕ). is_digit rule (get_or text i 0)) (sym same)
              ∙ ap (is_digit rule) later ∙ sep.4 in
              separator_passed (start + n) sep.1 (omega arith) (omega (arith, room, sep.3))
              (omega (arith, before.dense, sep.2)) before
              (ap (is_separator rule.separator) here ∙ sep.0) follows
        ])

    all_passed : HasPassed rule text start end
    all_passed = passed_to (length bytes) (omega arith)

    pub stop_at : stop rule text start 0 ≡ end
    stop_at =
        let room = inside in
        let first = stop_is_first rule text start 0 (omega arith) in
        let s = stop rule text start 0 in
        elim (cases_lt s end) [
          | inl sooner ↦
              let kept = all_passed.kept 0 s first.onward sooner in
              grind (arith, first.at (omega (arith, sooner, room)), kept)
          | inr late ↦ elim (cases_lt end s) [
            | inl later ↦
                let here = byte_kept rule text start 0 end (omega (arith, later, first.within)) in
                grind (arith, gets, at.ends, here, first.before end (omega arith) later)
            | inr same ↦ omega (arith, late, same)
          ]
        ]

    pub lone_read : (most n : ℕ) → digits_value rule.radix (filter (is_digit rule) bytes) ≡ n
        → n ≤ most → integer_at rule text start most ≡ Ok (n, end)
    lone_read most n worth fits =
        let between : digits_between rule text start (stop rule text start 0)
        ≡ filter (is_digit rule) bytes = rw (stop_at, at.same) refl in
        let value : value_to rule text start (stop rule text start 0) ≡ n =
        ap (digits_value rule.radix) between ∙ worth in
        let some : 0 < length (digits_between rule text start (stop rule text start 0)) =
        rw stop_at (omega (arith, all_passed.dense, begun)) in
        some_at rule text start most some (omega (arith, value, fits)) ∙ rw (value, stop_at) refl

    pub lone_digits : digits_between rule text start (stop rule text start 0)
        ≡ filter (is_digit rule) bytes
    lone_digits = rw (stop_at, at.same) refl
