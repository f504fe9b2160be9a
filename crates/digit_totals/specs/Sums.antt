-- Numbers of 64 bits that are added to others: what they are together, and with those before them.
use Rattle.std.specs.Prelude.{ℕ, ℤ, pos, negsuc, neg_ℤ, ◌+◌, ◌-◌, ◌*◌, ◌^◌, ◌==◌, ◌+ℤ◌, ◌≤ℤ◌, if◌then◌else◌}
use Rattle.std.specs.Int.{int_min, int_max}
use Rattle.digit_totals.specs.declared.totals.Sums.{Sums}
use Rattle.digit_totals.specs.declared.totals.Totals.{Totals}

-- a sum is far from the ends of 128 bits
abbrev pub IsFar : Totals → Type 0
IsFar t = (neg_ℤ (pos (2 ^ 126)) ≤ℤ t.sum) × (t.sum ≤ℤ pos (2 ^ 126))

-- so many numbers of 64 bits may have this sum
abbrev pub IsNear : ℕ → ℤ → Type 0
IsNear count sum = (neg_ℤ (pos (count * 2 ^ 63)) ≤ℤ sum) × (sum ≤ℤ pos (count * 2 ^ 63))

-- of no number: the least is then the greatest of 64 bits
abbrev pub no_sums : Sums
no_sums = record {
  count = 0;
  sum = pos 0;
  least = pos (2 ^ 63 - 1);
  greatest = negsuc (2 ^ 63 - 1);
}

-- with one number more
abbrev pub with_one : Sums → ℤ → Sums
with_one s value = record {
  count = s.count + 1;
  sum = s.sum +ℤ value;
  least = int_min s.least value;
  greatest = int_max s.greatest value;
}

-- the totals of some numbers, and of others after them
abbrev pub joined : Totals → Sums → Totals
joined t s = if s.count == 0 then t else record {
  count = t.count + s.count;
  sum = t.sum +ℤ s.sum;
  least = int_min t.least s.least;
  greatest = int_max t.greatest s.greatest;
}
