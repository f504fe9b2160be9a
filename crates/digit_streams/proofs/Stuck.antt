-- Where the whole buffer is in use and more bytes are needed, it has no number that is sure.
use Rattle.std.proofs.Common.{◌≡◌, ℕ, zero, suc, ◌+◌, ◌-◌, ◌<◌, ◌≤◌, Bool, true, false, List, [], length, take, drop, refl, sym, ap, subst, ◌∙◌, arith, length-drop}
use Rattle.std.specs.Prelude.{Result, Ok, Err, ⊤, IfOk, ◌&&◌, nat_lt, if◌then◌else◌}
use Rattle.std.proofs.lemmas.Bool.Decides.{nat_tests}
use Rattle.std.proofs.lemmas.List.{length-take}
use Rattle.digit_literals.specs.declared.list.Gap.{Gap}
use Rattle.digit_literals.specs.declared.list.ListEnd.TheVariants as lists
use Rattle.digit_literals.specs.Lists.{past_blanks, next_after, has_separator}
use Rattle.digit_pieces.specs.declared.piece.PieceEnd.{PieceEnd}
use Rattle.digit_pieces.specs.declared.piece.PieceEnd.TheVariants.{More, Full, Over, Fault}
use Rattle.digit_pieces.specs.Cuts.{sure_end}
use Rattle.digit_pieces.specs.Pieces.{PieceNumbers, of_list, is_sure, is_parted, next_start, after_number, from_number, piece_at}
use Rattle.digit_pieces.proofs.Blanks.{blanks_onward, start_if}
use Rattle.digit_streams.specs.declared.stream.StreamError.{StreamError}
use Rattle.digit_streams.specs.declared.stream.StreamError.TheVariants as errors
use Rattle.digit_streams.specs.declared.stream.StreamEnd.TheVariants as streams
use Rattle.digit_streams.specs.declared.window.Window.{Window}
use Rattle.digit_streams.specs.Streams.{NeedsMore, IfNoRoom, IsPlace, Uses}
use Rattle.digit_streams.specs.Windows.{unread}
use Rattle.digit_streams.proofs.PiecesHeld.{last_more}

-- a piece doesn't ask for bytes that were used
abbrev IsOnward : {E : Type 0} → PieceEnd E → Type 0
IsOnward (More at) = 0 < at
IsOnward (Full at) = ⊤
IsOnward (Over at) = ⊤
IsOnward (Fault error) = ⊤

-- after what is between two numbers some byte was passed
next_onward : (gap : Gap) (text : List ℕ) (end : ℕ)
    → IfOk (next_after gap text end) (λ next. 0 < next)
next_onward gap text end =
    by (has_separator gap text at) gap.blanks_separate (nat_lt end at) refl
  where
    at : ℕ
    at = past_blanks gap text end

    by : (separator blanks more : Bool) → nat_lt end at ≡ more
        → IfOk (if separator then Ok (at + 1) else if blanks && more then Ok at else Err at)
        (λ next. 0 < next)
    by true blanks more is = omega arith
    by false true true is = let l : end < at = grind (arith, nat_tests, is) in omega (arith, l)
    by false true false is = tt
    by false false more is = tt

start_onward : (gap : Gap) (text : List ℕ) (end : ℕ)
    → IfOk (next_start gap text end) (λ next. 0 < next)
start_onward gap text end =
    start_if gap (λ next. 0 < next) text end (λ some. omega arith) (next_onward gap text end)

module _ {A E : Type 0} (one : ℕ → Result (A × ℕ) E) (none_at : ℕ → E → Bool) (gap : Gap)
    (text : List ℕ) (sure : ℕ) (is_last : Bool) where
  abbrev of : ℕ → ℕ → PieceNumbers A E
  of room start = piece_at one none_at gap text sure is_last room start

  no_more : (place : ℕ) (error : E) (is_over : Bool)
      → IsOnward (of_list (if is_over then lists.Over place else lists.Fault error))
  no_more place error true = tt
  no_more place error false = tt

  onward : (room start : ℕ) → 0 < start → IsOnward (of room start).1
  unfolding piece_at
  onward zero start l = tt
  onward (suc room) start l =
      by_sure (λ next m. onward room next m) (is_sure is_last sure place)
    where
      place : ℕ
      place = past_blanks gap text start

      here : 0 < place
      here = omega (arith, l, blanks_onward gap text start)

      after : ((next : ℕ) → 0 < next → IsOnward (of room next).1) → (x : A)
          → (next : Result ℕ ℕ) → IfOk next (λ n. 0 < n)
          → IsOnward (after_number one none_at gap text sure is_last (of room) x next).1
      after same x (Ok next) m = same next m
      after same x (Err over) m = tt

      by_parted : ((next : ℕ) → 0 < next → IsOnward (of room next).1) → (x : A) (end : ℕ)
          → (parted : Bool) → IsOnward (if parted then after_number one none_at gap text sure
          is_last (of room) x (next_start gap text end) else ([], More place)).1
      by_parted same x end true =
          after same x (next_start gap text end) (start_onward gap text end)
      by_parted same x end false = here

      by_read : ((next : ℕ) → 0 < next → IsOnward (of room next).1)
          → (read : Result (A × ℕ) E)
          → IsOnward (from_number one none_at gap text sure is_last (of room) place read).1
      by_read same (Ok (x, end)) = by_parted same x end (is_parted gap text is_last end)
      by_read same (Err error) = no_more place error (gap.may_trail && none_at place error)

      by_sure : ((next : ℕ) → 0 < next → IsOnward (of room next).1) → (is : Bool)
          → IsOnward (if is then from_number one none_at gap text sure is_last (of room) place
          (one place) else ([], More place)).1
      by_sure same true = by_read same (one place)
      by_sure same false = here

  -- a piece that asks for all of its bytes again does so for its first number
  at_once : (room : ℕ) (numbers : List A) → of room 0 ≡ (numbers, More 0)
      → of 1 0 ≡ ([], More 0)
  unfolding piece_at
  at_once zero numbers is = let e : Full 0 ≡ More 0 = ap (λ l. l.1) is in absurd cc
  at_once (suc room) numbers is = by_sure (is_sure is_last sure place) is
    where
      place : ℕ
      place = past_blanks gap text 0

      after : (x : A) (next : Result ℕ ℕ) → IfOk next (λ n. 0 < n)
          → after_number one none_at gap text sure is_last (of room) x next ≡ (numbers, More 0)
          → after_number one none_at gap text sure is_last (of 0) x next ≡ ([], More 0)
      after x (Ok next) m same =
          let no : 0 < 0 = subst IsOnward (ap (λ l. l.1) same) (onward room next m) in
          absurd (omega (arith, no))
      after x (Err over) m same = let e : Over over ≡ More 0 = ap (λ l. l.1) same in absurd cc

      by_parted : (x : A) (end : ℕ) (parted : Bool) → (if parted then after_number one none_at
          gap text sure is_last (of room) x (next_start gap text end) else ([], More place))
          ≡ (numbers, More 0) → (if parted then after_number one none_at gap text sure is_last
          (of 0) x (next_start gap text end) else ([], More place)) ≡ ([], More 0)
      by_parted x end true same =
          after x (next_start gap text end) (start_onward gap text end) same
      by_parted x end false same = ap (λ l. ([], l.1)) same

      by_over : (error : E) (is_over : Bool) → ◌≡◌ {A = PieceNumbers A E}
          ([], of_list (if is_over then lists.Over place else lists.Fault error))
          (numbers, More 0) → ⊥
      by_over error true same = let e : Over place ≡ More 0 = ap (λ l. l.1) same in cc
      by_over error false same = let e : Fault error ≡ More 0 = ap (λ l. l.1) same in cc

      by_read : (read : Result (A × ℕ) E)
          → from_number one none_at gap text sure is_last (of room) place read
          ≡ (numbers, More 0)
          → from_number one none_at gap text sure is_last (of 0) place read ≡ ([], More 0)
      by_read (Ok (x, end)) same = by_parted x end (is_parted gap text is_last end) same
      by_read (Err error) same =
          absurd (by_over error (gap.may_trail && none_at place error) same)

      by_sure : (is_sure : Bool) → (if is_sure then from_number one none_at gap text sure is_last
          (of room) place (one place) else ([], More place)) ≡ (numbers, More 0)
          → (if is_sure then from_number one none_at gap text sure is_last
          (of 0) place (one place) else ([], More place)) ≡ ([], More 0)
      by_sure true same = by_read (one place) same
      by_sure false same = ap (λ l. ([], l.1)) same

module _ {A E : Type 0} (one : List ℕ → ℕ → Result (A × ℕ) E) (none_at : ℕ → E → Bool)
    (has : ℕ → Bool) (gap : Gap) where
  -- what a piece asks for, if the bytes that are left of it fill the buffer
  pub stuck : (old new : List ℕ) (is_last : Bool) (room used capacity : ℕ) (numbers : List A)
      → piece_at (one old) none_at gap old (sure_end has old) is_last room 0
      ≡ (numbers, More used) → used ≤ length old → new ≡ drop used old → length old ≤ capacity
      → capacity ≤ length new → NeedsMore one none_at has gap new
  stuck old new true room used capacity numbers is within rest fits full =
      absurd (last_more (one old) none_at gap old (sure_end has old) room 0 numbers used is)
  stuck old new false room used capacity numbers is within rest fits full =
      let lengths : length new ≡ length old - used = ap length rest ∙ length-drop used old in
      let none : used ≡ 0 = omega (arith, lengths, within, fits, full) in
      let same : new ≡ old = rest ∙ ap (λ n. drop n old) none in
      let again = at_once (one old) none_at gap old (sure_end has old) false room numbers
      (is ∙ ap (λ n. (numbers, More n)) none) in
      subst (NeedsMore one none_at has gap) (sym same) again

  -- the same where the buffer is full, of what a window holds
  pub no_room : (error : StreamError E) (filled held : Window) (old : List ℕ) (is_last : Bool)
      (room from to position capacity : ℕ) (numbers : List A)
      → unread filled ≡ unread held
      → IsPlace (streams.Fault error) position capacity (length (unread filled))
      → length old ≤ capacity → Uses from to old (unread held)
      → piece_at (one old) none_at gap old (sure_end has old) is_last room 0
      ≡ (numbers, More (to - from))
      → IfNoRoom (streams.Fault error) (NeedsMore one none_at has gap (unread filled))
  no_room (errors.NoRoom at) filled held old is_last room from to position capacity numbers same
      place fits uses is =
      stuck old (unread filled) is_last room (to - from) capacity numbers is uses.within
      (same ∙ uses.rest) fits place.1
  no_room (errors.Number error) filled held old is_last room from to position capacity numbers same
      place fits uses is = tt
  no_room (errors.Read kind) filled held old is_last room from to position capacity numbers same
      place fits uses is = tt
  no_room errors.TooLong filled held old is_last room from to position capacity numbers same
      place fits uses is = tt
  no_room (errors.Trailing at why) filled held old is_last room from to position capacity numbers
      same place fits uses is = tt

-- a buffer holds at most its length
pub unread_fits : (w : Window) → length (unread w) ≤ length w.buffer.now
unread_fits w =
    let read = take w.to w.buffer.now in
    omega (arith, length-drop w.from read, length-take w.to w.buffer.now)
