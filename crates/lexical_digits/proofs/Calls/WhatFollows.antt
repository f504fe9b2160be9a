-- What stands behind the end of a number makes no difference to what is before it.
use Rattle.std.proofs.Common.{◌≡◌, ℕ, ◌+◌, ◌<◌, ◌≤◌, List, length, take, refl, sym, ap, ◌∙◌, arith, slice_get}
use Rattle.std.proofs.lemmas.List.{length-take-le, take-take}
use Rattle.lexical_digits.specs.Laws.Terms.{gets, slice_get_past, Rule, stop, leading_digits}
use Rattle.lexical_digits.specs.Follows.{Ends, AreSameUpTo}
use Rattle.lexical_digits.proofs.Calls.MoreFlags.{led_to_stop}
use Rattle.lexical_digits.proofs.Calls.BothSides.{AreSameFrom, IsOther, zero_later, from_start, stop_upto_end, cut_stop}
pub use Rattle.lexical_digits.proofs.Calls.BothSides.{same_take, same_byte, same_range}

pub from_upto : (rule : Rule) (one other : List ℕ) (at : ℕ) → AreSameUpTo rule one other at
    → AreSameFrom (IsOther rule) one 0 other at
from_upto rule one other at upto =
    from_start (IsOther rule) refl one other at upto.same upto.one_ends upto.other_ends

module _ (rule : Rule) (one other : List ℕ) (at : ℕ) (upto : AreSameUpTo rule one other at)
    (s c : ℕ) (from : s ≤ at) where
  pub stop_upto : stop rule one s c ≤ at
  stop_upto = stop_upto_end rule one at s c upto.one_ends from

  pub same_stop : stop rule one s c ≡ stop rule other s c
  same_stop =
      ap (λ n. stop rule one n c) (zero_later s)
      ∙ cut_stop rule one 0 other at (from_upto rule one other at upto) s c from
      ∙ sym (zero_later (stop rule other s c))

  pub same_digits : leading_digits rule one s c ≡ leading_digits rule other s c
  same_digits =
      rw (
        led_to_stop rule one s c,
        led_to_stop rule other s c,
        ← same_stop,
        same_range one other at upto.same s (stop rule one s c) stop_upto,
      ) refl

-- ---- which texts are the same

-- a text cut where a number ends
pub same_as_cut : (rule : Rule) (text : List ℕ) (at : ℕ) → at ≤ length text → Ends rule text at
    → AreSameUpTo rule (take at text) text at
same_as_cut rule text at within ends =
    let cut : length (take at text) ≡ at = length-take-le at text within in
    record {
      same = take-take at at text (omega arith);
      one_within = omega (arith, cut);
      other_within = within;
      one_ends = rw (slice_get_past (take at text) at (omega (arith, cut))) refl;
      other_ends = ends;
    }

-- texts with one byte that ends a number
pub same_through : (rule : Rule) (one other : List ℕ) (at : ℕ) → at < length one
    → at < length other → take (at + 1) one ≡ take (at + 1) other → Ends rule one at
    → AreSameUpTo rule one other at
same_through rule one other at within too same ends =
    let byte = same_byte one other (at + 1) same at (omega arith) in
    let there : slice_get one at ≡ slice_get other at = grind (arith, gets, byte) in
    record {
      same = same_take one other (at + 1) same at (omega arith);
      one_within = omega arith;
      other_within = omega arith;
      one_ends = ends;
      other_ends = rw (← there) ends;
    }

-- what `what_follows_changes_no_stop` promises
pub ruleset follows = (stop_upto, same_stop, same_digits, same_as_cut, same_through)
