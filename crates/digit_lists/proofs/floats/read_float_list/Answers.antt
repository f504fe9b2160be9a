use Rattle.std.proofs.Common.{◌≡◌, ℕ, List, sym, ap}
use Rattle.std.specs.Prelude.{Result, Ok, Err}
use Rattle.std.specs.Float.{Float, Format, NotNan}
use Rattle.digit_literals.proofs.EachRead.{each_read}
use Rattle.digit_floats.specs.declared.error.FloatError.{FloatError}
use Rattle.digit_floats.specs.Errors.{none_at}
use Rattle.digit_floats.specs.Float.{end_at, float_at, plain_marks, read_at, with_end}
use Rattle.digit_floats.proofs.Numbers.{number_is}
use Rattle.digit_lists.proofs.floats.read_float_list.Goals as goal

first : Float → Result (Float × ℕ) FloatError → Float
first other (Ok read) = read.0
first other (Err error) = other

-- no float that is read is a NaN
number : (word : ℕ) (text : List ℕ) (f : Format) (at end : ℕ) (x : Float)
    → read_at word text plain_marks f at ≡ Ok (x, end) → NotNan x
unfolding first
number word text f at end x is = by (end_at word text plain_marks at) is
  where
    by : (r : Result ℕ FloatError) → with_end (float_at word text plain_marks f at) r ≡ Ok (x, end)
        → NotNan x
    by (Ok stop) e = number_is f _ _ _ (sym (ap (first x) e))
    by (Err error) e = cc

pub returns-clause-no_nan : goal.returns-clause-no_nan
returns-clause-no_nan g c =
    let f = g.F.Float in
    each_read NotNan (read_at c.args.word c.args.text.now plain_marks f.format) none_at c.args.gap
    c.args.text.now (number c.args.word c.args.text.now f.format) f.value c.args.start
    c.read_list_with.result c.args.out.now _ (rw c.new.ensures at c.read_list_with.ensures.is)
