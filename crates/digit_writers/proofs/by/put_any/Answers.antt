use Rattle.std.proofs.Common.{refl, arith}
use Rattle.digit_writers.specs.Layouts.{sign_of}
use Rattle.digit_writers.proofs.Laid.{laid_length, laid_written}
use Rattle.digit_writers.proofs.by.put_any.Goals as goal

pub returns-then-end-out-clause-no_room : goal.returns-then-end-out-clause-no_room
returns-then-end-out-clause-no_room c =
    let layout = c.args.layout in
    let signs = c.count_signs-signs in
    let count = c.count_of-count in
    let between = c.count_gaps in
    let long = laid_length (sign_of layout.has_plus c.args.is_negative) layout c.args.magnitude
    signs.result count.result between.result signs.ensures.is count.ensures.is between.ensures.is in
    (record { needed_is = long; less = omega arith }, refl)

pub returns-clause-written : goal.returns-clause-written
returns-clause-written c =
    let layout = c.args.layout in
    let signs = c.count_signs-signs in
    let count = c.count_of-count in
    let between = c.count_gaps in
    let start = c.put_sign-start in
    let long = laid_length (sign_of layout.has_plus c.args.is_negative) layout c.args.magnitude
    signs.result count.result between.result signs.ensures.is count.ensures.is between.ensures.is in
    record {
      end_is = long;
      within = omega arith;
      written =
          laid_written (sign_of layout.has_plus c.args.is_negative) layout c.args.magnitude
          start.result _ count.result c.args.out.now start.new.out c.put_groups.new.out
          start.ensures.end start.ensures.written count.ensures.is c.put_groups.ensures long
          (omega arith);
    }
