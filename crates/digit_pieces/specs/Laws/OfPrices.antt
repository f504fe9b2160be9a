-- The laws of prices as a kind of numbers, and their lemmas: here, since a law of an `impl` can
-- cite only specs/.
use Rattle.std.proofs.Common.{◌≡◌, ℕ, ℤ, ◌+◌, ◌≤◌, Bool, true, false, cond, List, [], ◌∷◌, Option, None, Some, length, drop, refl, ap, ◌∙◌, arith, sym, add_assoc}
use Rattle.std.specs.Prelude.{◌==◌, Result, Ok, Err}
use Rattle.lexical_digits.specs.declared.skip.component.Component.TheVariants.{Integer}
use Rattle.lexical_digits.specs.State.{rule_of}
use Rattle.lexical_digits.proofs.Calls.BothSides.{AreSameFrom, weaker, from_rest, zero_later, cut_range}
use Rattle.digit_integers.specs.Numbers.{digits_from}
use Rattle.digit_languages.specs.Follows.{AreSameBefore}
use Rattle.digit_languages.proofs.Before.{Fails, from_before}
use Rattle.digit_floats.specs.Float.{IsDecimal, digits_end}
use Rattle.digit_amounts.specs.Scaled.{read_scaled_at}
use Rattle.digit_amounts.specs.declared.scaled.ScaledError.{ScaledError}
use Rattle.digit_floats.proofs.BothSides.{NoScaled, cut_part, cut_whole_end, whole, whole_upto}
use Rattle.digit_amounts.proofs.BothSides.{cut_from, from_upto, cut_scaled}
use Rattle.digit_amounts.proofs.WhatFollows.{error_here}
use Rattle.digit_pieces.specs.Cuts.{is_scaled_byte}
use Rattle.digit_pieces.specs.Moves.{byte_before, IsFresh, outcome_later, scaled_later}
use Rattle.digit_pieces.specs.Laws.NoBytes.{no_scaled}
use Rattle.digit_pieces.specs.Laws.OfKinds.{scaled_ends, scaled_later_at, scaled_later_more, scaled_none_later}
use Rattle.digit_amounts.specs.Groups.{groups_at, is_group, wrong_of, wrong_at}
use Rattle.digit_amounts.specs.Prices.{of_number, if_exact, if_grouped, places_at, price_by, price_none_at, price_position, price_later}
use Rattle.digit_amounts.specs.declared.prices.PriceError.{PriceError}
use Rattle.digit_amounts.specs.declared.prices.PriceError.TheVariants.{Number, Group, Places}

-- ---- what is before, and what follows

-- a position so much later, if there is one
abbrev maybe_later : ℕ → Option ℕ → Option ℕ
maybe_later by (Some at) = Some (by + at)
maybe_later by None = None

wrong_later : (from at : ℕ) (is_first : Bool) (groups : List (List ℕ))
    → wrong_of is_first (from + at) groups ≡ maybe_later from (wrong_of is_first at groups)
wrong_later from at is_first [] = refl
wrong_later from at is_first (group ∷ others) =
    let next : from + at + length group + 1 ≡ from + (at + length group + 1) = omega arith in
    rw (next, wrong_later from (at + length group + 1) false others)
    (chosen (is_group is_first (length group)) (wrong_of false (at + length group + 1) others))
  where
    chosen : (b : Bool) (x : Option ℕ)
        → cond b (maybe_later from x) (Some (from + at)) ≡ maybe_later from (cond b x (Some at))
    chosen true x = refl
    chosen false x = refl

-- each step of a number, so much later
module _ (from : ℕ) where
  number_later : (read : Result (ℤ × ℕ) ScaledError)
      → of_number (outcome_later scaled_later from read)
      ≡ outcome_later price_later from (of_number read)
  number_later (Ok read) = refl
  number_later (Err error) = refl

  exact_later : (is : Bool) (read : Result (ℤ × ℕ) PriceError)
      → if_exact is (outcome_later price_later from read)
      ≡ outcome_later price_later from (if_exact is read)
  exact_later true (Ok read) = refl
  exact_later false (Ok read) = refl
  exact_later is (Err error) = refl

  grouped_later : (wrong : Option ℕ) (read : Result (ℤ × ℕ) PriceError)
      → if_grouped (maybe_later from wrong) (outcome_later price_later from read)
      ≡ outcome_later price_later from (if_grouped wrong read)
  grouped_later None read = refl
  grouped_later (Some wrong) (Ok read) = refl
  grouped_later (Some wrong) (Err error) = refl

-- the same number, so much later
module _ (word point places least most from : ℕ) (text rest : List ℕ) (start begin : ℕ)
    (read : read_scaled_at word text point places least most start
    ≡ outcome_later scaled_later from (read_scaled_at word rest point places least most begin))
    (count : places_at word text point (digits_from least text start)
    ≡ places_at word rest point (digits_from least rest begin))
    (wrong : wrong_at word text (digits_from least text start)
    ≡ maybe_later from (wrong_at word rest (digits_from least rest begin))) where
  abbrev there : Result (ℤ × ℕ) ScaledError
  there = read_scaled_at word rest point places least most begin

  abbrev has : Bool
  has = places_at word rest point (digits_from least rest begin) == places

  abbrev group : Option ℕ
  group = wrong_at word rest (digits_from least rest begin)

  later_price : (exact grouped : Bool)
      → price_by exact grouped word text point places least most start
      ≡ outcome_later price_later from
      (price_by exact grouped word rest point places least most begin)
  later_price true true =
      rw (read, count, wrong, number_later from there, grouped_later from group (of_number there))
      (exact_later from has (if_grouped group (of_number there)))
  later_price true false =
      rw (read, count, number_later from there) (exact_later from has (of_number there))
  later_price false true =
      rw (read, wrong, number_later from there) (grouped_later from group (of_number there))
  later_price false false = rw read (number_later from there)

module _ (word point : ℕ) (one : List ℕ) (from : ℕ) (other : List ℕ) (at : ℕ)
    (both : AreSameFrom (NoScaled word point) one from other at) where
  module _ (x i : ℕ) (e : x ≡ from + i) (l : i ≤ at) where
    places_same : places_at word one point x ≡ places_at word other point i
    places_same = ap length (cut_part word point one from other at both x i e l)

    groups_same : groups_at word one x ≡ groups_at word other i
    groups_same =
        let upto = whole_upto word point one from other at both x i e l in
        let all = whole word point one from other at both in
        rw (
          cut_whole_end word point one from other at both x i e l,
          e,
          cut_range (rule_of word Integer) one from other at all i (digits_end word other Integer i)
              upto,
        ) refl

    wrong_at_later : wrong_at word one x ≡ maybe_later from (wrong_at word other i)
    wrong_at_later = rw (groups_same, e) (wrong_later from i true (groups_at word other i))

  cut_price : (exact grouped : Bool) (places least most x i : ℕ) → x ≡ from + i → i ≤ at
      → price_by exact grouped word one point places least most x
      ≡ outcome_later price_later from
      (price_by exact grouped word other point places least most i)
  cut_price exact grouped places least most x i e l =
      let none = λ (o : Option ℕ) (h : NoScaled word point o). h.sign in
      let digits = cut_from (NoScaled word point) one from other at both none x i e l least in
      let low = from_upto (NoScaled word point) one from other at both none x i e l least in
      later_price word point places least most from one other x i
      (cut_scaled word point one from other at both places least most x i e l)
      (places_same _ _ digits low) (wrong_at_later _ _ digits low) exact grouped

-- an outcome with positions later by 0
price_here : {A : Type 0} (read : Result (A × ℕ) PriceError)
    → outcome_later price_later 0 read ≡ read
price_here (Ok (x, end)) = rw (← zero_later end) refl
price_here (Err (Number error)) = rw (error_here error) refl
price_here (Err (Group at)) = rw (← zero_later at) refl
price_here (Err (Places at)) = rw (← zero_later at) refl

pub price_follows : (exact grouped : Bool) (word point places least most : ℕ) → IsDecimal word
    → (one other : List ℕ) (at start : ℕ)
    → AreSameBefore (is_scaled_byte word point) one other at → start ≤ at
    → price_by exact grouped word one point places least most start
    ≡ price_by exact grouped word other point places least most start
price_follows exact grouped word point places least most decimal one other at start upto from =
    cut_price word point one 0 other at
    (weaker (Fails (is_scaled_byte word point)) (NoScaled word point) (no_scaled word point) one 0
    other at (from_before (is_scaled_byte word point) one other at upto))
    exact grouped places least most start start (zero_later start) from
    ∙ price_here (price_by exact grouped word other point places least most start)

pub price_precedes : (exact grouped : Bool) (word point places least most : ℕ) (text : List ℕ)
    (from at : ℕ) → from + at ≤ length text → IsFresh (is_scaled_byte word point) text from
    → price_by exact grouped word text point places least most (from + at)
    ≡ outcome_later price_later from
    (price_by exact grouped word (drop from text) point places least most at)
price_precedes exact grouped word point places least most text from at within fresh =
    let end = length text + at in
    cut_price word point text from (drop from text) end
    (from_rest (NoScaled word point) (no_scaled word point None refl) text from end
    (omega (arith, within)) (omega arith) (no_scaled word point (byte_before text from) fresh))
    exact grouped places least most (from + at) at refl (omega arith)

-- ---- the end

number_end : (read : Result (ℤ × ℕ) ScaledError) (x : ℤ) (end : ℕ)
    → of_number read ≡ Ok (x, end) → read ≡ Ok (x, end)
number_end (Ok read) x end is = grind (arith, is)
number_end (Err error) x end is = absurd (cc)

exact_end : (has : Bool) (read : Result (ℤ × ℕ) PriceError) (x : ℤ) (end : ℕ)
    → if_exact has read ≡ Ok (x, end) → read ≡ Ok (x, end)
exact_end true (Ok read) x end is = is
exact_end false (Ok read) x end is = absurd (cc)
exact_end has (Err error) x end is = absurd (cc)

grouped_end : (wrong : Option ℕ) (read : Result (ℤ × ℕ) PriceError) (x : ℤ) (end : ℕ)
    → if_grouped wrong read ≡ Ok (x, end) → read ≡ Ok (x, end)
grouped_end None read x end is = is
grouped_end (Some wrong) (Ok read) x end is = absurd (cc)
grouped_end (Some wrong) (Err error) x end is = absurd (cc)

module _ (word : ℕ) (text : List ℕ) (point places least most start end : ℕ) (x : ℤ) where
  -- it was read before it was looked at
  was_read : (exact grouped : Bool)
      → price_by exact grouped word text point places least most start ≡ Ok (x, end)
      → of_number (read_scaled_at word text point places least most start) ≡ Ok (x, end)
  was_read true true is = grouped_end _ _ x end (exact_end _ _ x end is)
  was_read true false is = exact_end _ _ x end is
  was_read false true is = grouped_end _ _ x end is
  was_read false false is = is

pub price_ends : (exact grouped : Bool) (word : ℕ) (text : List ℕ) (point places least most : ℕ)
    (start end : ℕ) (x : ℤ) → start ≤ length text
    → price_by exact grouped word text point places least most start ≡ Ok (x, end)
    → end ≤ length text
price_ends exact grouped word text point places least most start end x within is =
    scaled_ends word text point places least most start end x within
    (number_end (read_scaled_at word text point places least most start) x end
    (was_read word text point places least most start end x exact grouped is))

-- ---- the position of an error

pub price_later_at : (by : ℕ) (e : PriceError)
    → price_position (price_later by e) ≡ by + price_position e
price_later_at by (Number error) = scaled_later_at by error
price_later_at by (Group at) = refl
price_later_at by (Places at) = refl

pub price_none_later : (by place : ℕ) (e : PriceError)
    → price_none_at (by + place) (price_later by e) ≡ price_none_at place e
price_none_later by place (Number error) = scaled_none_later by place error
price_none_later by place (Group at) = refl
price_none_later by place (Places at) = refl

pub price_later_more : (by more : ℕ) (e : PriceError)
    → price_later by (price_later more e) ≡ price_later (by + more) e
price_later_more by more (Number error) = ap Number (scaled_later_more by more error)
price_later_more by more (Group at) = ap Group (sym (add_assoc by more at))
price_later_more by more (Places at) = ap Places (sym (add_assoc by more at))
