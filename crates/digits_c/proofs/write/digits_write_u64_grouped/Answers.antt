use Rattle.std.proofs.Common.{◌^◌, ◌<◌, rules}
use Rattle.std.specs.Prelude.{pos, unsigned_abs}
use Rattle.digits_c.proofs.Puts.{put_grouped}
use Rattle.digits_c.proofs.write.digits_write_u64_grouped.Goals as goal

pub returns-in-Some-clause-written : goal.returns-in-Some-clause-written
returns-in-Some-clause-written c =
    let value = c.args.value in
    let few : unsigned_abs (pos value) < 10 ^ 64 = search rules in
    put_grouped c.in-Some.layout c.args.separator c.args.every (pos value) c.args.out.now
    c.write_by.new.out c.write_by.result c.in-Some.ensures few c.write_by.ensures.written
