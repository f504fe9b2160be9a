-- A fold of the numbers between two bytes.
use Rattle.std.proofs.Common.{◌≡◌, ℕ, ◌-◌, Bool, true, false, List, [], drop, map, refl, ap, arith}
use Rattle.std.specs.Prelude.{Option, None, Some, Result, Ok, Err, IfSome, if◌then◌else◌}
use Rattle.digit_literals.specs.Lists.{past_blanks}
use Rattle.digit_streams.specs.declared.enclosed.EnclosedFoldError.{EnclosedFoldError}
use Rattle.digit_streams.specs.declared.enclosed.EnclosedFoldError.TheVariants.{NoClosing, Fold}
use Rattle.digit_streams.specs.declared.fold.FoldError.{FoldError}
use Rattle.digit_streams.specs.declared.fold.FoldError.TheVariants as folds
use Rattle.digit_streams.specs.declared.stream.Ended.{Ended}
use Rattle.digit_streams.specs.declared.stream.Ended.TheVariants as ended
use Rattle.digit_streams.specs.declared.stream.StreamEnd.{StreamEnd}
use Rattle.digit_streams.specs.declared.stream.StreamEnd.TheVariants.{Over, Fault}
use Rattle.digit_streams.specs.declared.stream.StreamError.{StreamError}
use Rattle.digit_streams.specs.declared.stream.StreamError.TheVariants.{Number, NoRoom, Read, TooLong, Trailing}
use Rattle.digit_streams.specs.Enclosed.{Brackets, Closed, FoldsEnclosed, Opened, OpenedFault}
use Rattle.digit_streams.specs.Folds.{IfStopped, Makes, Steps, end_of_fold}
use Rattle.digit_streams.specs.Streams.{HasGivenFrom, IfNoFault, IsNoByte, Passes, end_by}
use Rattle.digit_streams.proofs.Folding.{ends_at}

-- a fact that holds in any case
pub in_any_case : {E : Type 0} (ended : Option (Ended E)) (P Q F : Type 0) → (P → Q → F)
    → IfNoFault ended (P → Q → F)
in_any_case None P Q F h = h
in_any_case (Some (ended.Over at)) P Q F h = h
in_any_case (Some (ended.Fault error)) P Q F h = tt

module _ {V M A E : Type 0} (gives : A → V → Option A → Type 0) (meaning : V → M) (init : A)
    (b : Brackets M E) (from : ℕ) where
  abbrev Is : Option (List ℕ) → ℕ → Result A (EnclosedFoldError E) → Type 0
  Is known end result =
      IfSome known (λ text. FoldsEnclosed gives meaning init b text from end result)

  -- from a position of the stream to another a byte was found or not
  abbrev Found : Option (List ℕ) → ℕ → ℕ → Bool → ℕ → Type 0
  Found known byte at is end = IfSome known (λ text. Passes b.gap byte text at is end)

  pub empty : (known : Option (List ℕ)) (inside end : ℕ) → Found known b.opening from true inside
      → Found known b.closing inside true end → Is known end (Ok init)
  empty None inside end opens closes = tt
  empty (Some text) inside end opens closes =
      let first = past_blanks b.gap text inside in
      record {
        numbers = [];
        steps = refl;
        all = record {
          over = inside;
          opened = record {
            inside = inside;
            opens = opens;
            room = 0;
            gives = ap (λ t. if t then ([], Over inside) else b.list first (drop first text) 0)
                closes.is;
          };
          closes = closes;
        };
      }

  opened : (text : List ℕ) (inside first position : ℕ) (numbers : List M) (end : StreamEnd E)
      (bytes : Option (List ℕ)) → Passes b.gap b.opening text from true inside
      → Passes b.gap b.closing text inside false first
      → HasGivenFrom 0 first b.list (Some text) numbers end position bytes
      → Opened b text from numbers end
  opened text inside first position numbers end bytes opens goes_on given =
      let is : past_blanks b.gap text inside ≡ first = omega (arith, goes_on.to) in
      let none : first - 0 ≡ first = omega arith in
      record {
        inside = inside;
        opens = opens;
        room = given.gives.0;
        gives = rw (goes_on.is, is) (rw none at given.gives.1);
      }

  module _ (known bytes : Option (List ℕ)) (inside first position : ℕ) (numbers : List V)
      (opens : Found known b.opening from true inside)
      (goes_on : Found known b.closing inside false first) where
    closed_by : (text : List ℕ) (is : Bool) (end : ℕ) → known ≡ Some text
        → HasGivenFrom 0 first b.list known (map meaning numbers) (Over position) position bytes
        → Found known b.closing position is end → Closed b text from (map meaning numbers) is end
    closed_by text is end e given closes = record {
      over = position;
      opened = opened text inside first position _ _ bytes (rw e at opens) (rw e at goes_on)
          (rw e at given);
      closes = rw e at closes;
    }

    module _ (value : A) (made : Makes gives init numbers value)
        (given : HasGivenFrom 0 first b.list known (map meaning numbers) (Over position) position
        bytes) (end : ℕ) where
      by_text : (P : List ℕ → Type 0) → ((text : List ℕ) → known ≡ Some text → P text)
          → IfSome known P
      by_text P h = go known refl where
        go : (o : Option (List ℕ)) → known ≡ o → IfSome o P
        go None e = tt
        go (Some text) e = h text e

      pub closed : Found known b.closing position true end → Is known end (Ok value)
      closed closes = by_text _ (λ text e. record {
        numbers = numbers;
        steps = made;
        all = closed_by text true end e given closes;
      })

      pub not_closed : Found known b.closing position false end → Is known end (Err (NoClosing end))
      not_closed closes = by_text _ (λ text e. record {
        numbers = numbers;
        steps = (value, made);
        all = closed_by text false end e given closes;
      })

      no_fault : (text : List ℕ) (error : StreamError E) (at capacity : ℕ) (held : List ℕ)
          → IsNoByte error at capacity held → OpenedFault b text from (map meaning numbers) error
      no_fault text (Number error) at capacity held is = absurd is
      no_fault text (NoRoom place) at capacity held is = tt
      no_fault text (Read kind) at capacity held is = tt
      no_fault text TooLong at capacity held is = tt
      no_fault text (Trailing place why) at capacity held is = absurd is

      pub no_byte : (error : StreamError E) (at capacity : ℕ) (held : List ℕ)
          → IsNoByte error at capacity held → Is known end (Err (Fold (folds.Stream error)))
      no_byte error at capacity held is = by_text _ (λ text e. record {
        numbers = numbers;
        steps = (value, made);
        all = no_fault text error at capacity held is;
      })

  fault_of : (text : List ℕ) (inside first position : ℕ) (numbers : List M)
      (error : StreamError E) (bytes : Option (List ℕ))
      → Passes b.gap b.opening text from true inside
      → Passes b.gap b.closing text inside false first
      → HasGivenFrom 0 first b.list (Some text) numbers (Fault error) position bytes
      → OpenedFault b text from numbers error
  fault_of text inside first position numbers (Number error) bytes opens goes_on given =
      opened text inside first position numbers _ bytes opens goes_on given
  fault_of text inside first position numbers (NoRoom at) bytes opens goes_on given = tt
  fault_of text inside first position numbers (Read kind) bytes opens goes_on given = tt
  fault_of text inside first position numbers TooLong bytes opens goes_on given = tt
  fault_of text inside first position numbers (Trailing at why) bytes opens goes_on given = tt

  -- the numbers have no value
  pub no_value : (known bytes : Option (List ℕ)) (inside first position : ℕ) (numbers : List V)
      (error : FoldError E) (ended : Option (Ended E))
      → Found known b.opening from true inside → Found known b.closing inside false first
      → Steps {A = A} gives init numbers (Err error)
      → HasGivenFrom 0 first b.list known (map meaning numbers)
      (end_of_fold {A = A} (Err error) position ended) position bytes
      → IfStopped error (λ at. at ≡ position) → Is known position (Err (Fold error))
  no_value None bytes inside first position numbers error ended opens goes_on steps given stopped =
      tt
  no_value (Some text) bytes inside first position numbers (folds.Stopped at) ended opens goes_on
      steps given stopped = record {
        numbers = numbers;
        steps = steps;
        all = (
          end_by position ended,
          opened text inside first position _ _ bytes opens goes_on given,
          rw stopped (ends_at position ended given.here),
        );
      }
  no_value (Some text) bytes inside first position numbers (folds.Stream error) ended opens goes_on
      steps given stopped = record {
        numbers = numbers;
        steps = steps;
        all = fault_of text inside first position _ error bytes opens goes_on given;
      }
