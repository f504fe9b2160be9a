use Rattle.std.proofs.Common.{ℕ, ap, length, arith}
use Rattle.std.specs.Prelude.{decimal}
use Rattle.digit_writers.proofs.Decimals.{room_before, wide_written}
use Rattle.digit_writers.proofs.wide.put_high.Goals as goal

pub put_u64-next-requires : goal.put_u64-next-requires
put_u64-next-requires c = record {
  room =
      omega (
        arith,
        room_before 16 c.args.n c.args.at _ (omega arith) (omega arith) c.requires.room,
        ap (λ (q : ℕ). length (decimal q)) c.split_sixteen-high.ensures.high,
      );
}

pub put_sixteen-requires-clause-room : goal.put_sixteen-requires-clause-room
put_sixteen-requires-clause-room c =
    omega (
      arith,
      room_before 16 c.args.n c.args.at _ (omega arith) (omega arith) c.requires.room,
      ap (λ (q : ℕ). length (decimal q)) c.split_sixteen-high.ensures.high,
    )

pub returns-clause-end : goal.returns-clause-end
returns-clause-end c =
    let head = c.put_u64-next in
    let parts = c.split_sixteen-high.ensures in
    (wide_written c.args.out.now head.new.out c.put_sixteen.new.out c.args.at head.result 16
    c.args.n
    _ _ (omega arith) (omega arith) c.requires.room parts.high parts.low head.ensures.end
    head.ensures.written c.put_sixteen.ensures).0

pub returns-clause-written : goal.returns-clause-written
returns-clause-written c =
    let head = c.put_u64-next in
    let parts = c.split_sixteen-high.ensures in
    (wide_written c.args.out.now head.new.out c.put_sixteen.new.out c.args.at head.result 16
    c.args.n
    _ _ (omega arith) (omega arith) c.requires.room parts.high parts.low head.ensures.end
    head.ensures.written c.put_sixteen.ensures).1
