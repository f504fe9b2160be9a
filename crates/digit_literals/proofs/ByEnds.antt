-- The bytes that are no decimal digits, by the bits of a word.
use Rattle.std.proofs.Common.{◌≡◌, ℕ, zero, suc, ◌+◌, ◌-◌, ◌/◌, ◌%◌, ◌^◌, ◌<◌, ◌≤◌, leb, Bool, true, false, not, cond, List, map, length, get_or, replicate, Fits, w8, refl, sym, ap, ◌∙◌, inl, inr, arith}
use Rattle.std.specs.Prelude.{slice_index, nat_lt, ◌&&◌, ◌||◌, if◌then◌else◌, Ok, pos}
use Rattle.std.specs.Int.{bit_at, trailing_zeros, w64}
use Rattle.std.specs.Int.Count.{trailing_of_zero}
use Rattle.std.proofs.lemmas.Bool.{agree_below_at, cases_lt}
use Rattle.std.proofs.lemmas.Bool.Decides.{nat_tests}
use Rattle.std.proofs.lemmas.List.{get_or-map, length-map}
use Rattle.std.proofs.lemmas.Option.{gets}
use Rattle.std.proofs.lemmas.Nat.{shr-shr}
use Rattle.std.proofs.lemmas.Nat.Bits.{bit_at-trailing_zeros, bit_at_above}
use Rattle.std.proofs.lemmas.Simd.{zip2_splat, zip2_of_maps, splat_is_map, map-map, mask_l-mod, bit_mask_l, length-chunk, get_or-chunk}
use lib.Lanes.{chunk, zip2, mask_l, top}
use Rattle.lexical_format.specs.Digits.{is_digit_of_radix}
use Rattle.lexical_format.specs.Digits as words
use Rattle.lexical_digits.specs.declared.skip.rule.Rule.{Rule}
use Rattle.lexical_digits.specs.Separators.{is_digit}
use Rattle.digit_literals.specs.declared.list.Gap.{Gap}
use Rattle.digit_literals.specs.Ends.{is_decimal, AreOthers, EachIsMarked}
use Rattle.digit_words.specs.Eight.{AreDecimal}
use Rattle.digit_integers.specs.Integers.{integer_at}
use Rattle.digit_literals.specs.Lists.{is_blank, past_blanks}
use Rattle.digit_values.specs.Bytes.{has_byte}
use Rattle.digit_integers.specs.Numbers.{with_sign, number_at}
use Rattle.digit_literals.proofs.Lists.{no_blank}
use Rattle.digit_values.proofs.Passed.{by_radix}

-- ---- the comparison of 64 bytes

-- one lane of it
abbrev lane : ℕ → ℕ
lane byte = cond (leb 10 ((byte + 208) % 256)) 255 0

abbrev is_other : ℕ → Bool
is_other byte = top 7 (lane byte)

lane_is : (byte : ℕ) → byte < 256 → is_other byte ≡ not (is_decimal byte)
lane_is byte fits = agree_below_at is_other (λ b. not (is_decimal b)) 256 byte refl fits

other_if : (b : Bool) → ◌≡◌ {A = ℕ} (cond (not b) 1 0) 1 → b ≡ false
other_if true h = absurd (omega (arith, h))
other_if false h = refl

digit_if : (b : Bool) → ◌≡◌ {A = ℕ} (cond (not b) 1 0) 0 → b ≡ true
digit_if true h = refl
digit_if false h = absurd (omega (arith, h))

module _ (text : List ℕ) (at : ℕ) (room : at + 88 ≤ length text)
    (fits : (k : ℕ) → Fits w8 (get_or text k 0)) where
  abbrev lanes : List ℕ
  lanes = chunk at 64 text

  long : length lanes ≡ 64
  long = length-chunk at 64 text (omega (arith, room))

  abbrev bits : ℕ
  bits = mask_l (map is_other lanes)

  bit_is : (i : ℕ) → i < 64
      → bit_at bits i ≡ cond (not (is_decimal (slice_index text (at + i)))) 1 0
  bit_is i l =
      bit_mask_l (map is_other lanes) i
      ∙ ap (λ b. cond b 1 0) (
      get_or-map is_other lanes i 0 false (omega (arith, l, long))
      ∙ ap is_other (get_or-chunk at 64 text i 0 l)
      ∙ lane_is (slice_index text (at + i)) (fits (at + i)).fits
      )

  within : (i : ℕ) → bit_at bits i ≡ 1 → i < 64
  within i set =
      elim (cases_lt i 64) [
        | inl l ↦ l
        | inr l ↦
            let few : length (map is_other lanes) ≡ 64 = length-map lanes is_other ∙ long in
            let none = bit_at_above bits 64 i (bound few) l in
            absurd (omega (arith, none, set))
      ]
    where
      bound : length (map is_other lanes) ≡ 64 → bits < 2 ^ 64
      bound few = omega (arith, mask_l-mod (map is_other lanes) 64 (omega (arith, few)))

  others_are : AreOthers text at bits
  others_are = record {
    room = λ i set. omega (arith, within i set, room);
    marked = λ i set. other_if _ (sym (bit_is i (within i set)) ∙ set);
    digits = λ i j l set clear.
        digit_if _ (sym (bit_is i (omega (arith, l, within j set))) ∙ clear);
  }

  each_is : EachIsMarked text at 64 bits
  each_is = record {
    digits = λ i l clear. digit_if _ (sym (bit_is i l) ∙ clear);
  }

  -- the word that the code makes
  abbrev pub mask : ℕ
  mask = mask_l (map (top 7) (zip2 (λ a b. cond (leb a b) 255 0) (replicate 64 10)
      (zip2 (λ a b. (a + (256 - b)) % 256) lanes (replicate 64 48)))) % 2 ^ 64

  pub mask_is : AreOthers text at mask × EachIsMarked text at 64 mask
  mask_is =
      let less = zip2_splat (λ (a b : ℕ). (a + (256 - b)) % 256) lanes 64 48 long in
      let compared =
      zip2_of_maps (λ (a b : ℕ). cond (leb a b) 255 0) (λ (_ : ℕ). 10)
      (λ (x : ℕ). (x + 208) % 256) lanes (splat_is_map lanes 64 10 long) less in
      let all =
      ap (λ l. mask_l l % 2 ^ 64) (ap (map (top 7)) compared ∙ map-map (top 7) lane lanes)
      ∙ mask_l-mod (map is_other lanes) 64 (omega (arith, length-map lanes is_other, long)) in
      rw all (others_are, each_is)

-- ---- after some bytes

module _ (text : List ℕ) (at count others : ℕ) where
  shifted : (i : ℕ) → bit_at (others / 2 ^ count) i ≡ bit_at others (count + i)
  shifted i = ap (λ n. n % 2) (shr-shr others count i)

  there : (i : ℕ) → at + (count + i) ≡ at + count + i
  there i = omega arith

  pub passed_on : AreOthers text at others → AreOthers text (at + count) (others / 2 ^ count)
  passed_on are = record {
    room = λ i set. omega (arith, are.room (count + i) (sym (shifted i) ∙ set));
    marked = λ i set.
        sym (ap (λ k. is_decimal (slice_index text k)) (there i))
        ∙ are.marked (count + i) (sym (shifted i) ∙ set);
    digits = λ i j l set clear.
        sym (ap (λ k. is_decimal (slice_index text k)) (there i))
        ∙ are.digits (count + i) (count + j) (omega (arith, l)) (sym (shifted j) ∙ set)
        (sym (shifted i) ∙ clear);
  }

  pub passed_each : (left : ℕ) → EachIsMarked text at (count + left) others
      → EachIsMarked text (at + count) left (others / 2 ^ count)
  passed_each left each = record {
    digits = λ i l clear.
        sym (ap (λ k. is_decimal (slice_index text k)) (there i))
        ∙ each.digits (count + i) (omega (arith, l)) (sym (shifted i) ∙ clear);
  }

  -- none of them is left
  pub none_left : (left : ℕ) → count + left ≤ 64 → 64 ≤ count
      → EachIsMarked text (at + count) left 0
  none_left left room all = record {
    digits = λ i l clear. absurd (omega (arith, room, all, l));
  }

-- ---- the first of them

module _ (text : List ℕ) (at others : ℕ) (are : AreOthers text at others) (some : 0 < others)
    (fits : others < 2 ^ 64) where
  abbrev first : ℕ
  first = trailing_zeros w64 others

  lowest : (first < 64) × (bit_at others first ≡ 1) × ((i : ℕ) → i < first → bit_at others i ≡ 0)
  lowest = bit_at-trailing_zeros w64 others some fits

  pub first_room : at + first + 24 ≤ length text
  first_room = are.room first lowest.1

  pub first_other : is_decimal (slice_index text (at + first)) ≡ false
  first_other = are.marked first lowest.1

  pub before_first : AreDecimal text at first
  before_first i l =
      let digit = are.digits i first l lowest.1 (lowest.2 i l) in
      grind (arith, nat_tests, digit)

-- a byte is at the position
pub inside : (text : List ℕ) (at others : ℕ) → AreOthers text at others → 1 < others
    → others < 2 ^ 64 → at < length text
inside text at others are some fits =
    omega (arith, first_room text at others are (omega (arith, some)) fits)

-- a bit is set, if there is a lowest one
pub some_bit : (others : ℕ) → trailing_zeros w64 others < 64 → 0 < others
some_bit zero few =
    let all : trailing_zeros w64 0 ≡ 64 = trailing_of_zero 64 in
    absurd (omega (arith, few, all))
some_bit (suc others) few = omega arith

-- a digit is there, if the lowest bit isn't set
pub digit_first : (text : List ℕ) (at others : ℕ) → AreOthers text at others
    → others < 2 ^ 64 → 0 < trailing_zeros w64 others → trailing_zeros w64 others < 64
    → (48 ≤ slice_index text at) × (slice_index text at < 58)
digit_first text at others are fits more few =
    let here : at + 0 ≡ at = omega arith in
    let both : (48 ≤ slice_index text (at + 0)) × (slice_index text (at + 0) < 58) =
    before_first text at others are (some_bit others few) fits 0 more in
    rw here at both

-- the number begins there at once, if no digit is a blank
pub begins_at_once : (gap : Gap) (text : List ℕ) (at others : ℕ) → AreOthers text at others
    → others < 2 ^ 64 → 0 < trailing_zeros w64 others → trailing_zeros w64 others < 64
    → ((byte : ℕ) → 48 ≤ byte → byte < 58 → is_blank gap byte ≡ false)
    → past_blanks gap text at ≡ at
begins_at_once gap text at others are fits more few blanks =
    let digit = digit_first text at others are fits more few in
    let none = blanks (slice_index text at) digit.0 digit.1 in
    no_blank gap text at (grind (arith, gets, none))

-- and it has no sign: it is the integer there
pub number_at_once : (least most : ℕ) (rule : Rule) (gap : Gap) (text : List ℕ)
    → (at others value end : ℕ) → AreOthers text at others
    → others < 2 ^ 64 → 0 < trailing_zeros w64 others → trailing_zeros w64 others < 64
    → ((byte : ℕ) → 48 ≤ byte → byte < 58 → is_blank gap byte ≡ false)
    → integer_at rule text at most ≡ Ok (value, end)
    → number_at least most rule text (past_blanks gap text at) ≡ Ok (pos value, end)
number_at_once least most rule gap text at others value end are fits more few blanks is =
    let here = begins_at_once gap text at others are fits more few blanks in
    let digit = digit_first text at others are fits more few in
    let room = first_room text at others are (some_bit others few) fits in
    let there : at < length text = omega (arith, room) in
    let minus : has_byte text at 45 ≡ false = grind (arith, nat_tests, gets, digit, there) in
    let plus : has_byte text at 43 ≡ false = grind (arith, nat_tests, gets, digit, there) in
    rw (here, minus, plus) (both (nat_lt 0 least) is)
  where
    both : (signed : Bool) → integer_at rule text at most ≡ Ok (value, end)
        → with_sign (signed && false)
        (integer_at rule text (if signed && (false || false) then at + 1 else at)
        (if signed && false then least else most)) ≡ Ok (pos value, end)
    both true is = rw is refl
    both false is = rw is refl

-- to be named in an attribute
pub ruleset usual_number = (some_bit, before_first, first_room)

-- what is no decimal digit is none of a rule of radix 10
pub no_digit : (rule : Rule) (byte : ℕ) → rule.radix ≡ 10 → byte < 256
    → is_decimal byte ≡ false → is_digit rule byte ≡ false
unfolding words.digit_value
no_digit rule byte ten fits other =
    by_radix rule byte ∙ ap (λ r. is_digit_of_radix r byte) ten
    ∙ agree_below_at (is_digit_of_radix 10) is_decimal 256 byte refl fits ∙ other

-- ---- parts of digits
