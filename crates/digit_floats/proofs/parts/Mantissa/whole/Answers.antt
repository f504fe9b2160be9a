use Rattle.std.proofs.Common.{append-nil, refl, arith}
use Rattle.digit_values.proofs.ForCallers.{first_digits}
use Rattle.digit_floats.proofs.Mantissas.{none_between}
use Rattle.digit_floats.proofs.parts.Mantissa.whole.Goals as goal

pub returns : goal.returns
returns c =
    let part = c.requires in
    let of = first_digits _ _ _ _ _ part.first 10 19 refl (omega arith) refl refl in
    let none = none_between c.args.text.now c.args.read.1 in
    record {
      is = record {
        first = rw (part.bytes, none, append-nil) of;
        digits = rw (part.bytes, none) (omega (arith, part.first.count));
        places = rw none refl;
        few_places = omega arith;
        few_dropped = omega (arith, part.first.dropped, part.onward, part.within);
        whole = omega (arith, part.onward);
        onward = omega arith;
        fraction = omega arith;
        long = omega (arith, part.onward);
        within = part.within;
      };
      integer = part.bytes;
      start = refl;
      whole_end = refl;
      fraction_start = refl;
      end = refl;
      value = refl;
      digits = refl;
      places = refl;
      dropped = refl;
    }
