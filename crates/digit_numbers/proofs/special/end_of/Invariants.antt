use Rattle.std.proofs.Common.{◌≡◌, ◌+◌, ◌≤◌, length}
use Rattle.lexical_digits.specs.declared.skip.component.Component.TheVariants as components
use Rattle.lexical_digits.specs.Separators.{place}
use Rattle.lexical_digits.specs.State.{rule_of}
use Rattle.digit_numbers.specs.Specials.{begins, end_of}
use Rattle.digit_numbers.proofs.NamesAt.{starts, ends}
use Rattle.digit_numbers.proofs.special.end_of.Given as goal

-- what is left of the name is at the position reached
abbrev pub invariant-loop-n : goal.invariant-loop-n
invariant-loop-n l =
    let word = l.form.integers.decimal in
    record {
      within : l.end ≤ length l.text;
      onward : l.at + l.n ≤ l.end;
      settled : place (rule_of word components.Special) l.text l.end 0 ≡ l.end;
      begins : begins l.form l.text l.at l.name
          ≡ starts word l.text l.form.specials l.name l.end l.n;
      ends : end_of l.form l.text l.at l.name
          ≡ ends word l.text l.form.specials l.name l.end l.n;
    }
