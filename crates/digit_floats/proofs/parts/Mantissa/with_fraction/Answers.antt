use Rattle.std.proofs.Common.{◌≡◌, [], append-nil, refl, sym, ◌∙◌, arith}
use Rattle.std.proofs.lemmas.List.{nil_from_length}
use Rattle.digit_values.proofs.ForCallers.{first_of_others}
use Rattle.digit_floats.specs.Parts.{fraction_of}
use Rattle.digit_floats.proofs.parts.Mantissa.with_fraction.Goals as goal

pub returns : goal.returns
returns c =
    let m = c.requires.is in
    let part = c.requires.fraction in
    let none : fraction_of c.args.text.now c.args.self ≡ [] =
    nil_from_length _ (sym m.places ∙ c.requires.places) in
    let of = rw (none, append-nil) at m.first in
    let both = first_of_others _ _ _ _ _ part.first 10 19 refl (omega arith) refl _ _ of in
    let count = rw none at m.digits in
    record {
      is = record {
        first = rw part.bytes both;
        digits = rw part.bytes (omega (arith, count, part.first.count));
        places = rw part.bytes part.first.count;
        few_places = omega arith;
        few_dropped = omega arith;
        whole = m.whole;
        onward = omega arith;
        fraction = omega arith;
        long = omega arith;
        within = part.within;
      };
      integer = refl;
      fraction = refl;
      start = refl;
      whole_end = refl;
      fraction_start = refl;
      end = refl;
      digits = refl;
      dropped = refl;
    }
