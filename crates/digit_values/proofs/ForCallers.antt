-- For those who call the readers of this crate: what a proof over their answers needs again and
-- again. These stay.
use Rattle.std.proofs.Common.{◌≡◌, ℕ, zero, suc, ◌+◌, ◌-◌, ◌*◌, ◌^◌, ◌<◌, ◌≤◌, true, List, [], ◌∷◌, ◌++◌, length, take, drop, slice_index, refl, sym, ◌∙◌, arith, add-one, length-append}
use Rattle.std.specs.Prelude.{Some, None}
use native.Mathlib.Numerals.{unary_clauses}
use Rattle.std.specs.Char.{digit_value}
use Rattle.std.specs.List.{filter, slice_range}
use Rattle.std.specs.Str.Parse.{AllDigits, digits_value, digits_value_after}
use Rattle.std.proofs.Math.Nat.{pow-suc}
use Rattle.std.proofs.lemmas.Bool.Decides.{nat_tests}
use Rattle.std.proofs.lemmas.List.{take_all, take_rest, length-drop, get_or-drop}
use Rattle.lexical_format.specs.Digits.{digit_of_radix}
use Rattle.lexical_format.specs.Digits as words
use Rattle.lexical_digits.specs.declared.skip.rule.Rule.{Rule}
use Rattle.lexical_digits.specs.Separators.{is_digit}
use Rattle.lexical_digits.specs.Stop.{stop, stop_of, leading_digits_of, past_digits_of}
use Rattle.lexical_digits.specs.State.{State, IsState, rule}
use Rattle.lexical_digits.specs.declared.skip.component.Component.{Component}
use Rattle.lexical_digits.proofs.Calls.FirstOther.{stop_is_first}
use Rattle.digit_values.specs.After.{digits_between, digits_to, past_digits_to, IsReadTo}
use Rattle.digit_values.specs.declared.reading.TooLarge.{TooLarge}
use Rattle.digit_values.specs.Rest.{LeavesRest}
use Rattle.digit_values.specs.First.{ReadsFirst}
use Rattle.digit_values.specs.Significant.{IsOfFirstDigits}
use Rattle.digit_values.specs.declared.first.FirstDigits.{FirstDigits}
use Rattle.digit_values.proofs.Rest.{leaves_rest}
use Rattle.digit_values.proofs.Significant.{Reads, after_none, after_some, value_grows}
use Rattle.digit_values.proofs.Between.{more_between, no_more}

-- ---- where digits end

module _ (rule : Rule) (text : List ℕ) (start count : ℕ) where
  -- the stop is from the start on
  pub stop_from : start ≤ length text → start ≤ stop rule text start count
  stop_from l = (stop_is_first rule text start count l).onward

  -- it is within the text
  pub stop_within : start ≤ length text → stop rule text start count ≤ length text
  stop_within l = (stop_is_first rule text start count l).within

  -- it is past a digit that stands at the start
  pub stop_past_digit : start < length text → is_digit rule (slice_index text start) ≡ true
      → start < stop rule text start count
  stop_past_digit l h = grind (arith, stop_is_first rule text start count)

-- the three, to be named in an attribute
pub ruleset stops = (stop_from, stop_within, stop_past_digit)

-- ---- the rest of a text, `&text[at..]`

-- its first byte is the one there
pub first_of_rest : (text : List ℕ) (at : ℕ) → slice_index (drop at text) 0 ≡ slice_index text at
first_of_rest text at = let same : at + 0 ≡ at = omega arith in rw (get_or-drop, same) refl

-- from 0 on it is the whole text
pub all_is : (text : List ℕ) → slice_range text 0 (length text) ≡ text
all_is text = take_rest text 0

-- to be named in an attribute, for a stop over it
pub ruleset rests = (stops, take_rest, length-drop, first_of_rest)

-- ---- the value of one digit

-- `char_to_digit_const` answers the value that std gives a digit
pub value_is : (radix byte d : ℕ) → digit_of_radix radix byte ≡ Some d → digit_value byte ≡ d
unfolding words.digit_value
value_is radix byte d e = grind (arith, nat_tests)

-- ---- so few digits always fit

pub all_digits : (rule : Rule) (xs : List ℕ) → AllDigits rule.radix (filter (is_digit rule) xs)
unfolding is_digit
all_digits rule [] = tt
all_digits rule (x ∷ xs) = grind (arith, nat_tests, value_is rule.radix x, all_digits rule xs)

-- ---- digits after the value of others

-- of two lists, those of the first are before those of the second
after_both : (radix n : ℕ) (ds es : List ℕ) → digits_value_after radix n (ds ++ es)
    ≡ digits_value_after radix (digits_value_after radix n ds) es
after_both radix n [] es = refl
after_both radix n (d ∷ ds) es = after_both radix (n * radix + digit_value d) ds es

-- they are worth what all of them are
pub value_of_both : (radix : ℕ) (ds es : List ℕ)
    → digits_value_after radix (digits_value radix ds) es ≡ digits_value radix (ds ++ es)
value_of_both radix ds es = sym (after_both radix 0 ds es)

-- in two pieces, each with a value of its own
pub value_of_pieces : (radix value : ℕ) (ds : List ℕ)
    → digits_value_after radix value ds ≡ value * radix ^ length ds + digits_value radix ds
value_of_pieces radix value [] =
    let one : radix ^ 0 ≡ 1 = simp unary_clauses refl in
    rw one (omega arith)
value_of_pieces radix value (d ∷ ds) =
    let a = value_of_pieces radix (value * radix + digit_value d) ds in
    let b = value_of_pieces radix (0 * radix + digit_value d) ds in
    rw (a, b, pow-suc radix (length ds)) (omega arith)

-- ---- a loop over digits

-- with one digit more
pub value_next : (radix before value d : ℕ) (ds : List ℕ) (byte : ℕ)
    → digit_of_radix radix byte ≡ Some d → value ≡ digits_value_after radix before ds
    → digits_value_after radix before (ds ++ byte ∷ []) ≡ value * radix + d
value_next radix before value d ds byte e is =
    value_push radix before ds byte ∙ rw (← is, value_is radix byte d e) refl
  where
    value_push : (radix n : ℕ) (ds : List ℕ) (c : ℕ)
        → digits_value_after radix n (ds ++ c ∷ [])
        ≡ digits_value_after radix n ds * radix + digit_value c
    value_push radix n [] c = refl
    value_push radix n (d ∷ ds) c = value_push radix (n * radix + digit_value d) ds c

-- with the digit at a position
pub value_more : (rule : Rule) (text : List ℕ) (start before at radix d : ℕ) → start ≤ at
    → at < length text → radix ≡ rule.radix → digit_of_radix radix (slice_index text at) ≡ Some d
    → digits_value_after rule.radix before (digits_between rule text start (at + 1))
    ≡ digits_value_after rule.radix before (digits_between rule text start at) * radix + d
unfolding is_digit
value_more rule text start before at radix d low l same e =
    grind (arith, more_between rule text start at low l, value_next)

-- a byte that is no digit adds none
pub same_more : (rule : Rule) (text : List ℕ) (start at : ℕ) → start ≤ at → at < length text
    → digit_of_radix rule.radix (slice_index text at) ≡ None
    → digits_between rule text start (at + 1) ≡ digits_between rule text start at
unfolding is_digit
same_more rule text start at low l none = no_more rule text start at low l (grind (arith, none))

-- ---- going on after a digit with which the value is too large

-- What a read that answers the error says of it, where the greatest value has no name: the digits
-- before its position are worth less than with the one there.
module _ (k : Component) (s : State) (before : ℕ) (error : TooLarge)
    (read : IsReadTo k s before error) (onward : s.cursor ≤ error.at)
    (before_stop : error.at < stop_of k s)
    (more : digits_value_after (rule k s).radix before (digits_to k s error.at)
    < digits_value_after (rule k s).radix before (digits_to k s (error.at + 1)))
    (valid : IsState s) where
  -- the state that it leaves
  abbrev left : State
  left = past_digits_to k s error.at

  abbrev with_one : ℕ
  with_one = digits_value_after (rule k s).radix before (digits_to k s (error.at + 1))

  rest : LeavesRest k s before (with_one - 1) error.at
  rest = leaves_rest k s before (with_one - 1) error.at valid (grind arith)

  -- the digits that lead there are the others
  pub count_goes_on : length (leading_digits_of k s)
      ≡ error.count + length (leading_digits_of k left)
  count_goes_on = grind (arith, rest, read, length-append {A = ℕ})

  -- their value follows that of the error
  pub value_goes_on : digits_value_after (rule k s).radix before (leading_digits_of k s)
      ≡ digits_value_after (rule k s).radix error.value (leading_digits_of k left)
  value_goes_on = rw (rest.digits, read.is) (after_both (rule k s).radix before
      (digits_to k s error.at) (leading_digits_of k left))

  -- so all are worth two pieces
  pub pieces_go_on : digits_value_after (rule k s).radix before (leading_digits_of k s)
      ≡ error.value * (rule k s).radix ^ length (leading_digits_of k left)
      + digits_value (rule k s).radix (leading_digits_of k left)
  pieces_go_on = value_goes_on
      ∙ value_of_pieces (rule k s).radix error.value (leading_digits_of k left)

  -- passing them leaves what passing all leaves
  pub passed_goes_on : past_digits_of k s ≡ past_digits_of k left
  passed_goes_on = sym rest.passed

  pub stop_goes_on : stop_of k s ≡ stop_of k left
  stop_goes_on = sym rest.stop

-- to be named in an attribute; the others are for a clause that asks for less
pub ruleset goes_on = (count_goes_on, pieces_go_on, passed_goes_on, stop_goes_on)

-- ---- the first digits of a number

-- an answer of `read_first_digits`
module _ (radix most before : ℕ) (digits : List ℕ) (read : FirstDigits)
    (reads : ReadsFirst radix most before digits read) where
  -- its value is that of all digits, if none was dropped
  pub none_dropped : read.dropped ≡ 0 → digits_value_after radix before digits ≡ read.value
  none_dropped none = grind (arith, reads, take_all {A = ℕ})

  -- where the least value that is too large is a power of the radix
  by_power : (m : ℕ) → 0 < m → most + 1 ≡ radix ^ m
      → (before ≡ 0 → IsOfFirstDigits radix m digits read.value read.dropped)
      × ((more : ℕ) (others : List ℕ) → IsOfFirstDigits radix m others before more
      → IsOfFirstDigits radix m (others ++ digits) read.value (more + read.dropped))
  by_power zero some power = absurd (omega arith)
  by_power (suc p) some power =
      let n : ℕ = read.count - read.dropped in
      let so : Reads radix (suc p) before n digits = grind (arith, add-one, reads) in (
        λ none. grind (arith, reads, after_none radix p n digits reads.some),
        λ more others of. grind
            (arith, reads, after_some radix p n before more others digits reads.some of so),
      )

  module _ (given n : ℕ) (same : radix ≡ given) (some : 0 < n) (power : most + 1 ≡ given ^ n) where
    -- it is of the first n significant digits of these digits
    pub first_digits : before ≡ 0 → IsOfFirstDigits given n digits read.value read.dropped
    first_digits none = rw same at ((by_power n some (rw same power)).0 none)

    -- or of others and these
    pub first_of_others : (more : ℕ) (others : List ℕ) → IsOfFirstDigits given n others before more
        → IsOfFirstDigits given n (others ++ digits) read.value (more + read.dropped)
    first_of_others more others of =
        rw same at ((by_power n some (rw same power)).1 more others (rw same of))

-- all digits are worth no less than the first of them
pub first_no_more : (radix before n : ℕ) (digits : List ℕ) → 1 ≤ radix
    → digits_value_after radix before (take n digits) ≤ digits_value_after radix before digits
first_no_more radix before n digits = value_grows radix n digits before

-- the value of all digits, whether some were dropped or none; to be named in an attribute
pub ruleset dropped = (none_dropped, first_no_more)
