-- What a list was read into.
use Rattle.std.proofs.Common.{List}
use Rattle.digit_literals.specs.declared.list.ListRead.{ListRead}
use Rattle.digit_literals.specs.Lists.{Numbers, Fills}
use Rattle.digit_lists.specs.Lists.{Holds}

pub fills_holds : {V A E : Type 0} (value : V → A) (list : Numbers A E) (read : ListRead E)
    (old new : List V) → Fills value list read old new → Holds value list.0 old new
fills_holds value list read old new fills = record {
  numbers = rw (← fills.count) fills.numbers;
  rest = rw (← fills.count) fills.rest;
  same_length = fills.same_length;
}
