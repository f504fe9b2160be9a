use Rattle.std.proofs.Common.{Some, sym, ◌∙◌, arith}
use Rattle.digit_numbers.specs.Specials.{same_by}
use Rattle.digit_pieces.proofs.NameBytes.{any_here, any_next}
use Rattle.digit_pieces.proofs.kinds.form_bytes.has_name_byte.Goals as goal

pub returns-then-are_same : goal.returns-then-are_same
returns-then-are_same c =
    sym
    (c.loop-n.invariant
    ∙ any_here (λ b. same_by (Some c.args.specials) b c.args.byte) c.args.special.name c.loop-n.n
    (omega arith) c.if-here-eq0.false (sym c.are_same.ensures ∙ c.if-are_same.true))

pub loop-n-preserved : goal.loop-n-preserved
loop-n-preserved c =
    c.loop-n.invariant
    ∙ any_next (λ b. same_by (Some c.args.specials) b c.args.byte) c.args.special.name c.loop-n.n
    (omega arith) c.if-here-eq0.false (sym c.are_same.ensures ∙ c.if-are_same.false)
