-- What some numbers are together: exactly.
use Rattle.std.specs.Prelude.{ℕ, ℤ, pos, negsuc, ◌+◌, ◌-◌, ◌^◌, ◌+ℤ◌, nat_lt, Bool, if◌then◌else◌, List, Result, Ok, Err}
use Rattle.std.specs.Int.{int_min, int_max}
use Rattle.digit_totals.specs.declared.options.Options.{Options}
use Rattle.digit_totals.specs.declared.totals.Totals.{Totals}
use Rattle.digit_totals.specs.declared.fault.LineFault.{LineFault}
use Rattle.digit_totals.specs.declared.fault.LineFault.TheVariants.{Sum}
use Rattle.digit_totals.specs.Report.{Adding}
use Rattle.digit_totals.specs.Report as Report
use Rattle.digit_totals.specs.Value.{value_of}

-- whether a number has 128 bits
abbrev pub has_128_bits : ℤ → Bool
has_128_bits (pos n) = nat_lt n (2 ^ 127)
has_128_bits (negsuc n) = nat_lt n (2 ^ 127)

-- of no number: the least is then the greatest of 128 bits
abbrev pub no_numbers : Totals
no_numbers = record {
  count = 0;
  sum = pos 0;
  least = pos (2 ^ 127 - 1);
  greatest = negsuc (2 ^ 127 - 1);
}

-- with one number more
abbrev pub plus : Totals → ℤ → Totals
plus t value = record {
  count = t.count + 1;
  sum = t.sum +ℤ value;
  least = int_min t.least value;
  greatest = int_max t.greatest value;
}

-- the same, if the sum has 128 bits; `Sum` otherwise
abbrev pub with_number : Totals → ℤ → Result Totals LineFault
with_number t value =
    if has_128_bits (t.sum +ℤ value) then Ok (plus t value) else Err (Sum (t.count + 1))

-- the numbers of lines, each with its places, and their sum, which has 128 bits
abbrev pub adding : Options → Adding Totals ℤ
adding options = record {
  value_of = value_of options;
  none = no_numbers;
  count_of = λ t. t.count;
  plus = plus;
  fits = λ t value. has_128_bits (t.sum +ℤ value);
  header = options.header;
}

abbrev pub report_of : Options → List ℕ → Result Totals LineFault
report_of options = Report.report_of (adding options)

abbrev pub input_report : Options → List ℕ → Result Totals LineFault
input_report options = Report.input_report (adding options)
