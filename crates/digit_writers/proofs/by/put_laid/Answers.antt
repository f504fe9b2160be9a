use Rattle.std.proofs.Common.{◌^◌, ◌<◌, arith}
use Rattle.std.specs.Prelude.{decimal}
use Rattle.digit_writers.specs.Layouts.{thousands}
use Rattle.digit_writers.proofs.Plainly.{ungrouped_is, thousands_are, thousands_length, signs_fit, laid_by}
use Rattle.digit_writers.proofs.by.put_laid.Goals as goal

pub returns-then-layout-eq0-clause-written : goal.returns-then-layout-eq0-clause-written
returns-then-layout-eq0-clause-written c =
    let layout = c.args.layout in
    let n = c.args.magnitude in
    let put = c.put_decimal in
    let few : n < 10 ^ 64 = omega (arith, c.ranges.magnitude.fits) in
    let digits =
    ungrouped_is layout n few c.if-layout-eq10.true c.if-layout-le1.true c.if-layout-eq0.true in
    laid_by layout c.args.is_negative n put.result c.args.out.now put.new.out (decimal n) digits
    (omega (arith, c.requires.room, c.if-out-room.true)) put.ensures.end put.ensures.written

pub put_in_thousands-requires : goal.put_in_thousands-requires
put_in_thousands-requires c =
    let layout = c.args.layout in
    let n = c.args.magnitude in
    let long = thousands_length layout.separator n c.args.room c.requires.room in
    record {
      room =
          signs_fit layout.has_plus c.args.is_negative (thousands layout.separator n) _
          (omega (arith, long, c.if-out-room.true));
    }

pub returns-then-layout-eq3-clause-written : goal.returns-then-layout-eq3-clause-written
returns-then-layout-eq3-clause-written c =
    let layout = c.args.layout in
    let n = c.args.magnitude in
    let put = c.put_in_thousands in
    let few : n < 10 ^ 64 = omega (arith, c.ranges.magnitude.fits) in
    let long = thousands_length layout.separator n c.args.room c.requires.room in
    let digits =
    thousands_are layout n few c.if-layout-eq10.true c.if-layout-le1.true c.if-layout-eq3.true in
    laid_by layout c.args.is_negative n put.result c.args.out.now put.new.out
    (thousands layout.separator n) digits (omega (arith, long, c.if-out-room.true))
    put.ensures.end put.ensures.written
