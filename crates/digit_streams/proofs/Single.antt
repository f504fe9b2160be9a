-- A list for which there is one place has at most one number.
use Rattle.std.proofs.Common.{◌≡◌, ℕ, Bool, List, [], ◌∷◌, refl, sym, ap, subst, ◌∙◌}
use Rattle.std.specs.Prelude.{Option, None, Some, Result, Ok, Err, IfSome, IfNone, IsSome}
use Rattle.digit_literals.specs.declared.list.Gap.{Gap}
use Rattle.digit_literals.specs.Lists.{past_blanks}
use Rattle.digit_pieces.specs.Pieces.{next_start, after_of_whole, from_of_whole, whole_at}
use Rattle.digit_streams.specs.declared.stream.Ended.{Ended}
use Rattle.digit_streams.specs.declared.stream.Ended.TheVariants as ended
use Rattle.digit_streams.specs.declared.stream.StreamEnd.{StreamEnd}
use Rattle.digit_streams.specs.declared.stream.StreamEnd.TheVariants.{Full, Over, Fault}
use Rattle.digit_streams.specs.declared.stream.StreamError.{StreamError}
use Rattle.digit_streams.specs.declared.stream.StreamError.TheVariants.{Number, NoRoom, Read, TooLong, Trailing}
use Rattle.digit_streams.specs.Streams.{StreamNumbers, EndsSo, Gives, IsNext, IsPlace, after_end, end_again, end_of_next, ended_by, list_of_option, next_of, numbers_of_next, stream_list}
use Rattle.digit_streams.proofs.Turns.{some_then}

abbrev pub IsShort : {A : Type 0} → List A → Type 0
IsShort {A} list = (x : A) (others : List A) → list ≡ x ∷ others → others ≡ []

one_short : {A : Type 0} (x : A) → IsShort (x ∷ [])
one_short x y others h = let e : [] ≡ others = cc in sym e

none_short : {A : Type 0} → IsShort {A = A} []
none_short y others h = absurd cc

module _ {A E : Type 0} (one : ℕ → Result (A × ℕ) E) (none_at : ℕ → E → Bool) (gap : Gap)
    (text : List ℕ) where
  next_short : (x : A) (next : Result ℕ ℕ)
      → IsShort (after_of_whole one none_at gap text (whole_at one none_at gap text 0) x next).0
  unfolding whole_at
  next_short x (Ok next) = one_short x
  next_short x (Err over) = one_short x

  read_short : (place : ℕ) (read : Result (A × ℕ) E)
      → IsShort
      (from_of_whole one none_at gap text (whole_at one none_at gap text 0) place read).0
  read_short place (Ok (x, end)) = next_short x (next_start gap text end)
  read_short place (Err error) = none_short

  list_short : (start : ℕ) → IsShort (whole_at one none_at gap text 1 start).0
  unfolding whole_at
  list_short start = read_short (past_blanks gap text start) (one (past_blanks gap text start))

module _ {A E : Type 0} where
  gives_one : (list : StreamNumbers A E) (x : A) (end : StreamEnd E) → IsShort list.0
      → Gives list (x ∷ []) end → list.0 ≡ x ∷ []
  gives_one list x (Full at) short h = ap (λ l. l.0) h
  gives_one list x (Over at) short h = ap (λ l. l.0) h
  gives_one list x (Fault (Number error)) short h = ap (λ l. l.0) h
  gives_one list x (Fault (NoRoom at)) short h = h.1 ∙ ap (λ l. x ∷ l) (short x h.0 h.1)
  gives_one list x (Fault (Read kind)) short h = h.1 ∙ ap (λ l. x ∷ l) (short x h.0 h.1)
  gives_one list x (Fault TooLong) short h = h.1 ∙ ap (λ l. x ∷ l) (short x h.0 h.1)
  gives_one list x (Fault (Trailing at why)) short h = h.1 ∙ ap (λ l. x ∷ l) (short x h.0 h.1)

  short_after : (one : List ℕ → ℕ → Result (A × ℕ) E) (none_at : ℕ → E → Bool) (later : ℕ → E → E)
      (gap : Gap) (position : ℕ) (text : List ℕ) (ended : Option (Ended E))
      → IsShort (after_end ended (stream_list one none_at later gap position text 1)).0
  short_after one none_at later gap position text None = list_short (one text) none_at gap text 0
  short_after one none_at later gap position text (Some ended) = none_short

  next_is : {V : Type 0} (meaning : V → A) (list : StreamNumbers A E) (number : Option V)
      (end : StreamEnd E) → ((at : ℕ) → end ≡ Full at → IsSome number) → IsShort list.0
      → Gives list (list_of_option meaning number) end → IsNext meaning list (next_of number end)
  next_is meaning list (Some x) end full short h = gives_one list (meaning x) end short h
  next_is meaning list None (Full at) full short h = let no = full at refl in absurd cc
  next_is meaning list None (Over at) full short h = (at, h)
  next_is meaning list None (Fault (Number error)) full short h = h
  next_is meaning list None (Fault (NoRoom at)) full short h = tt
  next_is meaning list None (Fault (Read kind)) full short h = tt
  next_is meaning list None (Fault TooLong) full short h = tt
  next_is meaning list None (Fault (Trailing at why)) full short h = tt

  -- a number that is given is the list's only one
  pub gives_next : {V : Type 0} (meaning : V → A) (one : List ℕ → ℕ → Result (A × ℕ) E)
      (none_at : ℕ → E → Bool) (later : ℕ → E → E) (gap : Gap) (position : ℕ)
      (ended : Option (Ended E)) (text : Option (List ℕ)) (Apart : Type 0) (number : Option V)
      (end : StreamEnd E)
      → ((at : ℕ) → end ≡ Full at → IsSome number)
      → IfSome text (λ bytes. Apart → Gives (after_end ended
      (stream_list one none_at later gap position bytes 1)) (list_of_option meaning number) end)
      → IfSome text (λ bytes. Apart → IsNext meaning (after_end ended
      (stream_list one none_at later gap position bytes 1)) (next_of number end))
  gives_next meaning one none_at later gap position ended text Apart number end full h =
      some_then text _ _ (λ bytes gives apart. next_is meaning _ number end full
      (short_after one none_at later gap position bytes ended) (gives apart)) h

  -- ---- the end that the next answer tells

  pub numbers_are : {V : Type 0} (meaning : V → A) (number : Option V) (end : StreamEnd E)
      → numbers_of_next meaning (next_of number end) ≡ list_of_option meaning number
  numbers_are meaning (Some x) end = refl
  numbers_are meaning None (Full at) = refl
  numbers_are meaning None (Over at) = refl
  numbers_are meaning None (Fault error) = refl

  pub gives_before : (before : Option (Ended E)) (text : Option (List ℕ)) (Apart : Type 0)
      (list : List ℕ → StreamNumbers A E) (numbers : List A) (end : StreamEnd E) → before ≡ None
      → IfSome text (λ bytes. Apart → Gives (list bytes) numbers end)
      → IfSome text (λ bytes. Apart → Gives (after_end before (list bytes)) numbers end)
  gives_before None text Apart list numbers end is h = h
  gives_before (Some ended) text Apart list numbers end is h = absurd cc

  pub none_list : (before : Option (Ended E)) (text : Option (List ℕ)) (Apart : Type 0)
      (list : List ℕ → StreamNumbers A E) (numbers : List A) (end : StreamEnd E)
      → IfSome text (λ bytes. Apart → Gives (after_end before (list bytes)) numbers end)
      → IfNone before (IfSome text (λ bytes. Apart → Gives (list bytes) numbers end))
  none_list (Some ended) text Apart list numbers end h = tt
  none_list None text Apart list numbers end h = h

module _ {E : Type 0} where
  end_is : {V : Type 0} (number : Option V) (end : StreamEnd E) (position capacity held : ℕ)
      (after : Option (Ended E)) → ((at : ℕ) → end ≡ Full at → IsSome number)
      → ((error : StreamError E) → end ≡ Fault error → IsSome number → error ≡ TooLong)
      → IsPlace end position capacity held → after ≡ ended_by end
      → end_of_next (next_of number end) position after ≡ end
  end_is (Some x) (Full at) position capacity held after full fault place is =
      rw is (ap Full (sym place))
  end_is (Some x) (Over at) position capacity held after full fault place is = rw is refl
  end_is (Some x) (Fault error) position capacity held after full fault place is =
      let long : error ≡ TooLong = fault error refl refl in rw (is, long) refl
  end_is None (Full at) position capacity held after full fault place is =
      let no = full at refl in absurd cc
  end_is None (Over at) position capacity held after full fault place is = ap Over (sym place)
  end_is None (Fault error) position capacity held after full fault place is = refl

  pub next_end : {V : Type 0} (before : Option (Ended E)) (number : Option V) (end : StreamEnd E)
      (position capacity held : ℕ) (after : Option (Ended E))
      → ((at : ℕ) → end ≡ Full at → IsSome number)
      → ((error : StreamError E) → end ≡ Fault error → IsSome number → error ≡ TooLong)
      → IfNone before (IsPlace end position capacity held)
      → IfNone before (after ≡ ended_by end)
      → IfNone before (end_of_next (next_of number end) position after ≡ end)
  next_end (Some ended) number end position capacity held after full fault place is = tt
  next_end None number end position capacity held after full fault place is =
      end_is number end position capacity held after full fault place is

  pub none_then : (before : Option (Ended E)) (P : StreamEnd E → Type 0) (told end : StreamEnd E)
      → IfNone before (told ≡ end) → IfNone before (P end) → IfNone before (P told)
  none_then (Some ended) P told end is h = tt
  none_then None P told end is h = subst P (sym is) h

  -- what is answered from then on
  pub ends_so : {V : Type 0} (before : Option (Ended E)) (number : Option V) (end : StreamEnd E)
      (after : Option (Ended E)) → ((at : ℕ) → end ≡ Full at → IsSome number)
      → IfNone before (after ≡ ended_by end)
      → IfSome before (λ ended. ◌≡◌ {A = Option V × StreamEnd E} (number, end)
      (None, end_again ended))
      → IfSome before (λ ended. after ≡ before) → EndsSo (next_of number end) after
  ends_so None (Some x) end after full is again stays = tt
  ends_so None None (Full at) after full is again stays =
      let no = full at refl in absurd cc
  ends_so None None (Over at) after full is again stays = (at, is)
  ends_so None None (Fault error) after full is again stays = λ no. is ∙ rw no refl
  ends_so (Some (ended.Over at)) number end after full is again stays =
      let no : number ≡ None = ap (λ l. l.0) again in
      let over : end ≡ Over at = ap (λ l. l.1) again in
      rw (no, over) (at, stays)
  ends_so (Some (ended.Fault error)) number end after full is again stays =
      let no : number ≡ None = ap (λ l. l.0) again in
      let fault : end ≡ Fault error = ap (λ l. l.1) again in
      rw (no, fault) (λ not. stays)
