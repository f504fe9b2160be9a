use Rattle.std.proofs.Common.{arith, rules}
use Rattle.digit_values.proofs.Firsts.{reads_all, reads_rest}
use Rattle.digit_values.proofs.Rest.{leaves_rest}
use Rattle.digit_values.proofs.first.read_first_bytes.Goals as goal

pub returns-in-Ok-clause-first : goal.returns-in-Ok-clause-first
returns-in-Ok-clause-first c =
    rw c.all.ensures
    (reads_all _ _ _ _ c.args.bytes.now.holds c.in-Ok.ensures.ok c.in-Ok.ensures.fits)

pub returns-in-Err-clause-first : goal.returns-in-Err-clause-first
returns-in-Err-clause-first c = reads_rest _ _ _ _ c.args.bytes.now.holds c.in-Err.ensures.too_large
    c.in-Err.ensures.so_far (search rules)

pub returns-in-Err-clause-state : goal.returns-in-Err-clause-state
returns-in-Err-clause-state c =
    grind (arith, leaves_rest c.args.component c.args.bytes.now.state c.args.before c.args.most)
