use Rattle.lexical_digits.specs.State.{rule_of}
use Rattle.lexical_digits.specs.declared.skip.component.Component.TheVariants.{Integer}
use Rattle.digit_integers.proofs.Texts.{reads_more, empty_too, over_later}
use Rattle.digit_integers.proofs.laws.greater_reads_more.Goals as goal

pub returns-clause-reads : goal.returns-clause-reads
returns-clause-reads c = λ start most more value end l is.
    reads_more (rule_of c.args.word Integer) c.args.text.now start most more value end l is

pub returns-clause-empty : goal.returns-clause-empty
returns-clause-empty c = λ start most more at is.
    empty_too (rule_of c.args.word Integer) c.args.text.now start most more at is

pub returns-clause-later : goal.returns-clause-later
returns-clause-later c = λ start most more over beyond l is large.
    over_later (rule_of c.args.word Integer) c.args.text.now start most more over beyond l is large
