-- What follows a byte that no number has makes no difference to the number before it.
use Rattle.std.proofs.Common.{◌≡◌, ℕ, ◌≤◌, false, ◌&&◌, ◌||◌, List, Option, None, Some, slice_get, arith, inl, inr}
use Rattle.std.specs.Prelude.{◌==◌, nat_lt}
use Rattle.std.specs.Float.{Format}
use Rattle.std.proofs.lemmas.Bool.{cases_lt, or_parts}
use Rattle.std.proofs.lemmas.Bool.Decides.{nat_tests}
use Rattle.lexical_digits.specs.Cursor.{holds_of}
use Rattle.lexical_digits.specs.State.{rule_of}
use Rattle.lexical_digits.specs.declared.skip.component.Component.TheVariants.{Integer}
use Rattle.lexical_digits.proofs.Calls.BothSides.{weaker}
use Rattle.digit_integers.specs.Numbers.{digits_from, number_at}
use Rattle.digit_integers.proofs.WhatFollows.{same_number}
use Rattle.digit_languages.specs.Follows.{AreSameBefore}
use Rattle.digit_languages.proofs.Before.{Fails, from_before}
use Rattle.digit_floats.specs.Bytes.{is_sign}
use Rattle.digit_floats.specs.Float.{IsDecimal, read_at}
use Rattle.digit_amounts.specs.Scaled.{read_scaled_at}
use Rattle.digit_floats.specs.declared.parts.Marks.{Marks}
use Rattle.digit_floats.proofs.BothSides.{NoFloat, NoScaled}
use Rattle.digit_floats.proofs.WhatFollows.{same_float}
use Rattle.digit_amounts.proofs.WhatFollows.{same_scaled}
use Rattle.digit_pieces.specs.Cuts.{is_of_rule, is_integer_byte, is_scaled_byte, is_float_byte}
use Rattle.digit_pieces.specs.Laws.NoBytes.{no_integer, no_scaled, no_float}

-- ---- an integer

-- a sign is before the position, if the type has one
no_sign : (least word : ℕ) (o : Option ℕ) → holds_of (is_integer_byte least word) o ≡ false
    → nat_lt 0 least && (holds_of (λ b. b == 45) o || holds_of (λ b. b == 43) o) ≡ false
no_sign least word None h = grind arith
no_sign least word (Some b) h = let none : nat_lt 0 least && is_sign b ≡ false =
    (or_parts (is_of_rule (rule_of word Integer) b) _ h).1 in grind (arith, nat_tests)

digits_upto : (least word : ℕ) (text : List ℕ) (at start : ℕ)
    → holds_of (is_integer_byte least word) (slice_get text at) ≡ false → start ≤ at
    → digits_from least text start ≤ at
digits_upto least word text at start none l = elim (cases_lt start at) [
  | inl m ↦ grind (arith, nat_tests)
  | inr m ↦
      let e : start ≡ at = omega arith in
      rw (e, no_sign least word (slice_get text at) none) (omega arith)
]

pub integer_follows : (least most word : ℕ) (one other : List ℕ) (at start : ℕ)
    → AreSameBefore (is_integer_byte least word) one other at → start ≤ at
    → number_at least most (rule_of word Integer) one start
    ≡ number_at least most (rule_of word Integer) other start
integer_follows least most word one other at start upto from =
    let r = rule_of word Integer in
    same_number r one other at
    (record {
      same = upto.same;
      one_within = upto.one_within;
      other_within = upto.other_within;
      one_ends = no_integer least word (slice_get one at) upto.one_ends;
      other_ends = no_integer least word (slice_get other at) upto.other_ends;
    })
    least most start (digits_upto least word one at start upto.one_ends from)
    (digits_upto least word other at start upto.other_ends from)

-- ---- a float, and a scaled number

pub float_follows : (word : ℕ) (marks : Marks) (f : Format) (one other : List ℕ) (at start : ℕ)
    → AreSameBefore (is_float_byte word marks) one other at → start ≤ at
    → read_at word one marks f start ≡ read_at word other marks f start
float_follows word marks f one other at start upto from =
    same_float word marks one other at
    (weaker (Fails (is_float_byte word marks)) (NoFloat word marks) (no_float word marks) one 0
    other at (from_before (is_float_byte word marks) one other at upto))
    start from f

pub scaled_follows : (word point places least most : ℕ) → IsDecimal word
    → (one other : List ℕ) (at start : ℕ)
    → AreSameBefore (is_scaled_byte word point) one other at → start ≤ at
    → read_scaled_at word one point places least most start
    ≡ read_scaled_at word other point places least most start
scaled_follows word point places least most decimal one other at start upto from =
    same_scaled word point one other at
    (weaker (Fails (is_scaled_byte word point)) (NoScaled word point) (no_scaled word point) one 0
    other at (from_before (is_scaled_byte word point) one other at upto))
    places least most start from
