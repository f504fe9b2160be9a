-- What the end of a list says.
use Rattle.std.specs.Prelude.{◌≡◌, ℕ, ◌<◌, false, List}
use Rattle.digit_literals.specs.declared.list.Gap.{Gap}
use Rattle.digit_literals.specs.declared.list.ListRead.{ListRead}
use Rattle.digit_literals.specs.Lists.{has_blank, has_separator, IfFull, IfOver}

-- of a list that is read into a slice with so much room: where it is full, each place is written;
-- where it is over, no blank is, and unless a separator may be last, no separator is there, and a
-- number was read
pub record EndSays {E : Type 0} (gap : Gap) (text : List ℕ) (room : ℕ) (read : ListRead E)
    : Type 0 where
  pub full : IfFull read.end (λ _. read.count ≡ room)
  pub no_blank : IfOver read.end (λ at. has_blank gap text at ≡ false)
  pub no_separator : gap.may_trail ≡ false
      → IfOver read.end (λ at. has_separator gap text at ≡ false)
  pub some : gap.may_trail ≡ false → IfOver read.end (λ _. 0 < read.count)
