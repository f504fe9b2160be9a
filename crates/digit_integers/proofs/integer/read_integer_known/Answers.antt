use Rattle.std.proofs.Common.{refl, arith}
use Rattle.lexical_digits.specs.State.{rule_of}
use Rattle.lexical_digits.specs.declared.skip.component.Component.TheVariants.{Integer}
use Rattle.lexical_digits.proofs.Rule.Supported.{supported_rule}
use Rattle.digit_integers.proofs.Texts.{reads_integer}
use Rattle.digit_integers.proofs.integer.read_integer_known.Goals as goal

pub returns-in-Some : goal.returns-in-Some
returns-in-Some c =
    let low = (supported_rule c.args.word Integer c.requires.supported).low in
    rw c.integer_of.ensures
    (reads_integer (rule_of c.args.word Integer) _ _ _ _ low c.requires.within (omega arith) _ _
    c.in-Some.ensures.reads c.in-Some.ensures.empty (λ _. refl))

pub returns-in-None : goal.returns-in-None
returns-in-None c =
    let low = (supported_rule c.args.word Integer c.requires.supported).low in
    rw c.integer_of-in-None.ensures
    (reads_integer (rule_of c.args.word Integer) _ _ _ _ low c.requires.within (omega arith) _ _
    c.read_fresh_bytes-read.ensures refl (λ _. refl))
