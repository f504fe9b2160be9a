-- Two texts that are the same before a position, and bytes that pass a test.
use Rattle.std.proofs.Common.{◌≡◌, ℕ, ◌+◌, ◌<◌, ◌≤◌, Bool, true, false, Option, Some, None, List, length, take, slice_get, refl, sym, ◌∙◌, arith}
use Rattle.std.proofs.lemmas.Bool.{eqb-true}
use Rattle.std.proofs.lemmas.List.{length-take-le, take-take}
use Rattle.std.proofs.lemmas.Bool.Decides.{nat_tests}
use Rattle.std.specs.Prelude.{◌==◌}
use Rattle.std.specs.Char.{is_ascii_alphanumeric}
use Rattle.lexical_format.specs.Digits.{digit_value, is_digit_of_radix}
use Rattle.lexical_digits.specs.Cursor.{holds_of}
use Rattle.lexical_digits.specs.declared.skip.rule.Rule.{Rule}
use Rattle.lexical_digits.specs.declared.skip.rule.Class.TheVariants.{Other}
use Rattle.lexical_digits.specs.Separators.{is_digit, is_separator, class}
use Rattle.lexical_digits.specs.Laws.Terms.{gets, slice_get_past}
use Rattle.lexical_digits.proofs.Calls.BothSides.{AreSameFrom, from_start, zero_later, cut_test, cut_before}
use Rattle.lexical_digits.proofs.Calls.WhatFollows.{same_byte, same_take}
use Rattle.digit_values.specs.Bytes.{has_byte}
use Rattle.digit_languages.specs.Follows.{AreSameBefore}

-- a byte doesn't pass, if there is one
abbrev pub Fails : (ℕ → Bool) → Option ℕ → Type 0
Fails p o = holds_of p o ≡ false

pub fails_of : (p q : ℕ → Bool) → ((b : ℕ) → p b ≡ false → q b ≡ false) → (o : Option ℕ)
    → Fails p o → Fails q o
fails_of p q within None h = refl
fails_of p q within (Some b) h = within b h

-- ---- where no number goes on

no_digit : (radix byte : ℕ) → is_ascii_alphanumeric byte ≡ false
    → is_digit_of_radix radix byte ≡ false
unfolding digit_value
no_digit radix byte h = grind (arith, nat_tests)

pub ends_class : (p : ℕ → Bool) (rule : Rule)
    → ((b : ℕ) → p b ≡ false → is_ascii_alphanumeric b ≡ false)
    → ((b : ℕ) → p b ≡ false → is_separator rule.separator b ≡ false)
    → (o : Option ℕ) → holds_of p o ≡ false → class rule o ≡ Other
unfolding is_digit
ends_class p rule digits separators None h = refl
ends_class p rule digits separators (Some b) h =
    rw (no_digit rule.radix b (digits b h), separators b h) refl

-- ---- of texts that are the same before a position

pub from_before : (p : ℕ → Bool) (one other : List ℕ) (at : ℕ) → AreSameBefore p one other at
    → AreSameFrom (Fails p) one 0 other at
from_before p one other at upto =
    from_start (Fails p) refl one other at upto.same upto.one_ends upto.other_ends

module _ (p : ℕ → Bool) (one other : List ℕ) (at : ℕ) (upto : AreSameBefore p one other at)
    (q : ℕ → Bool) (within : (b : ℕ) → p b ≡ false → q b ≡ false) where
  both : AreSameFrom (Fails p) one 0 other at
  both = from_before p one other at upto

  -- whether a byte up to it passes
  pub same_test : (i : ℕ) → i ≤ at → holds_of q (slice_get one i) ≡ holds_of q (slice_get other i)
  same_test i l =
      cut_test (Fails p) one 0 other at both q (fails_of p q within) i i (zero_later i) l

  -- one that passes is before it
  pub passes_before : (i : ℕ) → i ≤ at → holds_of q (slice_get one i) ≡ true → i + 1 ≤ at
  passes_before i l is =
      cut_before (Fails p) one 0 other at both q (fails_of p q within) i l
      (sym (same_test i l) ∙ is)

-- ---- which texts are the same

-- a text cut before a byte that doesn't pass
pub same_as_cut : (p : ℕ → Bool) (text : List ℕ) (at : ℕ) → at ≤ length text
    → holds_of p (slice_get text at) ≡ false → AreSameBefore p (take at text) text at
same_as_cut p text at within ends =
    let cut : length (take at text) ≡ at = length-take-le at text within in
    record {
      same = take-take at at text (omega arith);
      one_within = omega (arith, cut);
      other_within = within;
      one_ends = rw (slice_get_past (take at text) at (omega (arith, cut))) refl;
      other_ends = ends;
    }

-- texts with one byte that doesn't pass
pub same_through : (p : ℕ → Bool) (one other : List ℕ) (at : ℕ) → at < length one
    → at < length other → take (at + 1) one ≡ take (at + 1) other
    → holds_of p (slice_get one at) ≡ false → AreSameBefore p one other at
same_through p one other at within too same ends =
    let byte = same_byte one other (at + 1) same at (omega arith) in
    let there : slice_get one at ≡ slice_get other at = grind (arith, gets, byte) in
    record {
      same = same_take one other (at + 1) same at (omega arith);
      one_within = omega arith;
      other_within = omega arith;
      one_ends = ends;
      other_ends = rw (← there) ends;
    }

-- a byte there that doesn't pass
pub none_at : (p : ℕ → Bool) (text : List ℕ) (at byte : ℕ) → has_byte text at byte ≡ true
    → p byte ≡ false → holds_of p (slice_get text at) ≡ false
none_at p text at byte is none = by (slice_get text at) is
  where
    by : (o : Option ℕ) → holds_of (λ there. there == byte) o ≡ true → holds_of p o ≡ false
    by None k = refl
    by (Some there) k = let e : there ≡ byte = eqb-true there byte k in rw e none
