use Rattle.std.proofs.Common.{length, sym, ap, ◌∙◌, arith}
use Rattle.lexical_digits.proofs.Calls.Loops.{passed, stops_other, stops_none}
use Rattle.digit_vectors.proofs.ends.component_end.Goals as goal
use Rattle.digit_vectors.proofs.ends.component_end.Goals.{in-Some+then-not-is_digit_of, in_default}

pub loop-byte-smaller : goal.loop-byte-smaller
loop-byte-smaller c =
    let one = passed c.args.component c.peek_of.ensures c.in-Some.is
    (sym c.if-not-is_digit_of.ensures) c.next_of.ensures in
    omega (arith, ap length one.drain)

pub loop-byte-preserved : goal.loop-byte-preserved
loop-byte-preserved c =
    let one = passed c.args.component c.peek_of.ensures c.in-Some.is
    (sym c.if-not-is_digit_of.ensures) c.next_of.ensures in
    record {
      text = one.buffer ∙ c.loop-byte.invariant.text;
      stop = one.stop ∙ c.loop-byte.invariant.stop;
    }

pub returns-clause-end : goal.returns-clause-end
returns-clause-end c =
    c.cursor.ensures.value ∙ elim c.match-peek_of.branch [
      | in-Some+then-not-is_digit_of w ↦
          stops_other c.args.component c.peek_of.ensures w.in-Some.is
          (sym w.if-not-is_digit_of.ensures)
      | in_default w ↦ stops_none c.args.component c.peek_of.ensures w.in_default.is
    ] ∙ c.loop-byte.invariant.stop
