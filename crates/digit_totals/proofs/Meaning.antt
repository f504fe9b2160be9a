-- What a report says, by the lines one after the other.
use Rattle.std.proofs.Common.{◌≡◌, ℕ, ◌+◌, ◌<◌, ◌≤◌, false, List, [], ◌∷◌, ◌++◌, length, map, Ok, Err, Result, refl, sym, ◌∙◌, ap, arith, subst}
use Rattle.std.proofs.lemmas.List.{length-map}
use Rattle.std.specs.Prelude.{fold}
use Rattle.std.proofs.lemmas.Bool.Decides.{nat_tests}
use Rattle.std.proofs.lemmas.List.Elements.{All-cons, All-nil}
use Rattle.digit_totals.specs.declared.fault.LineFault.{LineFault}
use Rattle.digit_totals.specs.declared.fault.LineFault.TheVariants.{Number, Sum, LongLine}
use Rattle.digit_totals.specs.declared.fault.NumberError.{NumberError}
use Rattle.digit_totals.specs.Lines.{lines_of}
use Rattle.digit_totals.specs.Meaning.{HaveValues, IsFirstAt, IsNumberFault, IsSumFault, IsLongLine, AreTotals}
use Rattle.digit_totals.specs.Report.{Adding, with_line, continue, with_lines, report_of}

-- a number more is one more
pub record Counts {T V : Type 0} (a : Adding T V) : Type 0 where
  pub none : a.count_of a.none ≡ 0
  pub more : (t : T) (value : V) → a.count_of (a.plus t value) ≡ a.count_of t + 1

module _ {T V : Type 0} (a : Adding T V) (counts : Counts a) where
  counted : (t : T) (values : List V)
      → a.count_of (fold a.plus t values) ≡ a.count_of t + length values
  counted t [] = omega arith
  counted t (value ∷ values) = omega (arith, counted (a.plus t value) values, counts.more t value)

  -- ---- one line

  -- a line that has a value, with which the totals go on
  record Goes (t : T) (line : List ℕ) (u : T) : Type 0 where
    value : V
    is : a.value_of line ≡ Ok value
    more : u ≡ a.plus t value
    short : length line ≤ 65535

  goes : (t u : T) (line : List ℕ) (value : Result V NumberError)
      → a.value_of line ≡ value → with_line a t line ≡ Ok u → Goes t line u
  goes t u line (Ok value) is e = record {
    value = value;
    is = is;
    more = grind (arith, nat_tests, is, e);
    short = grind (arith, nat_tests, is, e);
  }
  goes t u line (Err error) is e = absurd (grind (arith, nat_tests, is, e))

  -- ---- all lines

  -- the lines have these values, with which the totals are these
  record GoThrough (t : T) (lines : List (List ℕ)) (u : T) : Type 0 where
    values : List V
    are : HaveValues a.value_of lines values
    more : u ≡ fold a.plus t values

  through_one : (t u : T) (line : List ℕ) (lines : List (List ℕ))
      → ((v : T) → with_lines a v lines ≡ Ok u → GoThrough v lines u)
      → (report : Result T LineFault) → with_line a t line ≡ report
      → continue a (λ v. with_lines a v lines) report ≡ Ok u
      → GoThrough t (line ∷ lines) u
  through_one t u line lines others (Ok v) is e =
      let one = goes t v line (a.value_of line) refl is in
      let rest = others v e in
      record {
        values = one.value ∷ rest.values;
        are = record {
          are =
              ap (λ r. r ∷ map a.value_of lines) one.is
              ∙ ap (λ vs. Ok one.value ∷ vs) rest.are.are;
          short = All-cons (λ l. length l ≤ 65535) line lines one.short rest.are.short;
        };
        more = rest.more ∙ ap (λ x. fold a.plus x rest.values) one.more;
      }
  through_one t u line lines others (Err fault) is e = absurd (grind (arith, e))

  go_through : (lines : List (List ℕ)) (t u : T) → with_lines a t lines ≡ Ok u
      → GoThrough t lines u
  go_through [] t u e = record {
    values = [];
    are = record { are = refl; short = All-nil (λ l. length l ≤ 65535) };
    more = grind (arith, e);
  }
  go_through (line ∷ lines) t u e =
      through_one t u line lines (λ v. go_through lines v u) (with_line a t line) refl e

  pub totals_say : (AreOf : List V → T → Type 0)
      → ((lines : List (List ℕ)) (values : List V) → HaveValues a.value_of lines values
      → AreOf values (fold a.plus a.none values))
      → (text : List ℕ) (t : T) → report_of a text ≡ Ok t → AreTotals a.value_of AreOf text t
  totals_say AreOf are text t e =
      let g = go_through (lines_of text) a.none t e in
      record {
        values = g.values;
        values_are = g.are;
        totals_are = subst (AreOf g.values) (sym g.more) (are (lines_of text) g.values g.are);
      }

  -- ---- the first line with a fault

  record StopsAt (t : T) (lines : List (List ℕ)) (fault : LineFault) : Type 0 where
    before : List (List ℕ)
    line : List ℕ
    after : List (List ℕ)
    values : List V
    split : lines ≡ before ++ line ∷ after
    are : HaveValues a.value_of before values
    here : with_line a (fold a.plus t values) line ≡ Err fault

  stops_one : (t : T) (fault : LineFault) (line : List ℕ) (lines : List (List ℕ))
      → ((v : T) → with_lines a v lines ≡ Err fault → StopsAt v lines fault)
      → (report : Result T LineFault) → with_line a t line ≡ report
      → continue a (λ v. with_lines a v lines) report ≡ Err fault
      → StopsAt t (line ∷ lines) fault
  stops_one t fault line lines others (Ok v) is e =
      let one = goes t v line (a.value_of line) refl is in
      let rest = others v e in
      record {
        before = line ∷ rest.before;
        line = rest.line;
        after = rest.after;
        values = one.value ∷ rest.values;
        split = ap (λ ls. line ∷ ls) rest.split;
        are = record {
          are =
              ap (λ r. r ∷ map a.value_of rest.before) one.is
              ∙ ap (λ vs. Ok one.value ∷ vs) rest.are.are;
          short = All-cons (λ l. length l ≤ 65535) line rest.before one.short rest.are.short;
        };
        here = subst (λ x. with_line a (fold a.plus x rest.values) rest.line ≡ Err fault)
            one.more rest.here;
      }
  stops_one t fault line lines others (Err other) is e = record {
    before = [];
    line = line;
    after = lines;
    values = [];
    split = refl;
    are = record { are = refl; short = All-nil (λ l. length l ≤ 65535) };
    here = is ∙ e;
  }

  stops_at : (lines : List (List ℕ)) (t : T) (fault : LineFault)
      → with_lines a t lines ≡ Err fault → StopsAt t lines fault
  stops_at [] t fault e = absurd (grind (arith, e))
  stops_at (line ∷ lines) t fault e =
      stops_one t fault line lines (λ v. stops_at lines v fault) (with_line a t line) refl e

  -- ---- its number

  module _ (text : List ℕ) (fault : LineFault)
      (s : StopsAt a.none (lines_of text) fault) where
    abbrev totals : T
    totals = fold a.plus a.none s.values

    as_many : a.count_of totals ≡ length s.before
    as_many =
        let same = ap length s.are.are in
        let oks : length (map {B = Result V NumberError} Ok s.values) ≡ length s.values =
        length-map s.values Ok in
        omega (
          arith,
          counted a.none s.values,
          counts.none,
          same,
          length-map s.before a.value_of,
          oks,
        )

    first_at : (n : ℕ) → n ≡ a.count_of totals + 1
        → IsFirstAt a.value_of text n s.line s.values
    first_at n e = record {
      before = s.before;
      is_line = record { after = s.after; lines = s.split };
      number = omega (arith, e, as_many);
      values_are = s.are;
    }

  number_of_line : (t : T) (line : List ℕ) (n : ℕ) (error : NumberError)
      (value : Result V NumberError) → a.value_of line ≡ value
      → with_line a t line ≡ Err (Number n error)
      → (n ≡ a.count_of t + 1) × (a.value_of line ≡ Err error)
  number_of_line t line n error (Ok value) is e = absurd (grind (arith, nat_tests, is, e))
  number_of_line t line n error (Err other) is e = grind (arith, nat_tests, is, e)

  pub number_says : (text : List ℕ) (n : ℕ) (error : NumberError)
      → report_of a text ≡ Err (Number n error) → IsNumberFault a.value_of text n error
  number_says text n error e =
      let s = stops_at (lines_of text) a.none (Number n error) e in
      let here = number_of_line (totals text (Number n error) s) s.line n error
      (a.value_of s.line) refl s.here in
      record {
        line = s.line;
        values = s.values;
        first = first_at text (Number n error) s n here.0;
        is = here.1;
      }

  record SumAt (t : T) (line : List ℕ) (n : ℕ) : Type 0 where
    number : n ≡ a.count_of t + 1
    value : V
    is : a.value_of line ≡ Ok value
    large : a.fits t value ≡ false

  sum_of_line : (t : T) (line : List ℕ) (n : ℕ) (value : Result V NumberError)
      → a.value_of line ≡ value → with_line a t line ≡ Err (Sum n) → SumAt t line n
  sum_of_line t line n (Ok value) is e = record {
    number = grind (arith, nat_tests, is, e);
    value = value;
    is = is;
    large = grind (arith, nat_tests, is, e);
  }
  sum_of_line t line n (Err other) is e = absurd (grind (arith, nat_tests, is, e))

  pub sum_says : (text : List ℕ) (n : ℕ) → report_of a text ≡ Err (Sum n)
      → IsSumFault a.value_of (λ values value. a.fits (fold a.plus a.none values) value) text n
  sum_says text n e =
      let s = stops_at (lines_of text) a.none (Sum n) e in
      let here = sum_of_line (totals text (Sum n) s) s.line n (a.value_of s.line) refl
      s.here in
      record {
        line = s.line;
        values = s.values;
        first = first_at text (Sum n) s n here.number;
        value = here.value;
        is = here.is;
        large = here.large;
      }

  long_line_at : (t : T) (line : List ℕ) (n : ℕ) (value : Result V NumberError)
      → a.value_of line ≡ value → with_line a t line ≡ Err (LongLine n)
      → (n ≡ a.count_of t + 1) × (65535 < length line)
  long_line_at t line n (Ok value) is e = grind (arith, nat_tests, is, e)
  long_line_at t line n (Err other) is e = grind (arith, nat_tests, is, e)

  pub long_says : (text : List ℕ) (n : ℕ) → report_of a text ≡ Err (LongLine n)
      → IsLongLine a.value_of text n
  long_says text n e =
      let s = stops_at (lines_of text) a.none (LongLine n) e in
      let here = long_line_at (totals text (LongLine n) s) s.line n (a.value_of s.line) refl
      s.here in
      record {
        line = s.line;
        values = s.values;
        first = first_at text (LongLine n) s n here.0;
        long = here.1;
      }
