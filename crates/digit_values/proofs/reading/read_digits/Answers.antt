use Rattle.std.proofs.Common.{rules, ℕ, ap, sym, ◌∙◌}
use Rattle.std.specs.Fn.{iterate}
use Rattle.std.proofs.lemmas.List.{nil_from_length}
use Rattle.lexical_digits.specs.Stop.{after_leading}
use Rattle.digit_values.specs.Outcomes.{OverflowsAt}
use Rattle.digit_values.proofs.reading.read_digits.Goals as goal

pub returns-then-read-eq0-clause-empty : goal.returns-then-read-eq0-clause-empty
unfolding after_leading
returns-then-read-eq0-clause-empty g c =
    let laws = (g.met.I.DigitsIter c.lifetimes (search rules)).digit_laws in
    let valid = (g.met.I.Iter c.lifetimes (search rules)).valid_now c.args.iter.now in
    let read = c.in_ok-read.ensures.ok in
    let none = sym read.counts ∙ c.if-read-eq0.true in
    let m = g.I.Iter.meaning c.args.iter.now in
    let left = read.leaves
    ∙ ap (λ (n : ℕ). g.I.DigitsIter.settled (iterate g.I.DigitsIter.taken n m)) none in
    record {
      none = nil_from_length _ none;
      stands = c.cursor.ensures.value ∙ ap g.I.Iter.cursor left ∙ laws.settled_cursor _ valid;
      leaves = left;
    }

pub returns-in_err-read-clause-overflow_owes : goal.returns-in_err-read-clause-overflow_owes
returns-in_err-read-clause-overflow_owes g c =
    let stops = c.in_err-read.ensures.too_large in
    let overflows : OverflowsAt g.I.Iter.buffer g.I.Iter.cursor g.I.DigitsIter.place
    g.I.DigitsIter.taken g.I.DigitsIter.settled c.args.radix (g.I.Iter.meaning c.args.iter.now)
    (g.I.Iter.owed c.args.iter.now) c.in_err-read.field-0.0.at
    (g.I.Iter.meaning c.read_digits_after.new.iter) (g.I.Iter.owed c.read_digits_after.new.iter) =
    record { passes = stops.exceeds; owes = rw stops.count at c.in_err-read.ensures.owes } in
    search rules
