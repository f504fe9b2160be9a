-- A piece is read as a list up to its last separator, and from there on as a piece.
use Rattle.std.proofs.Common.{◌≡◌, ℕ, zero, suc, ◌+◌, ◌-◌, ◌<◌, ◌≤◌, Bool, true, false, List, [], ◌∷◌, ◌++◌, length, map, take, drop, refl, sym, ap, ◌∙◌, arith, inl, inr}
use Rattle.std.specs.Prelude.{⊤, slice_get, Option, Some, None, Result, Ok, Err, IfOk, IfErr, ◌&&◌, ◌||◌, ◌==◌, nat_lt, if◌then◌else◌}
use Rattle.std.proofs.lemmas.Bool.{cases_lt}
use Rattle.std.proofs.lemmas.Bool.Decides.{nat_tests}
use Rattle.std.proofs.lemmas.List.{length-take-le, take-append-drop, take_all}
use Rattle.std.proofs.lemmas.Option.{slice_get_past}
use Rattle.lexical_digits.specs.ByteSet.{accepts}
use Rattle.lexical_digits.specs.Cursor.{holds_of}
use Rattle.lexical_digits.specs.Laws.Terms.{gets}
use Rattle.digit_literals.specs.declared.list.Gap.{Gap}
use Rattle.digit_literals.specs.declared.list.ListEnd.{ListEnd}
use Rattle.digit_literals.specs.declared.list.ListEnd.TheVariants as lists
use Rattle.digit_literals.specs.declared.list.ListRead.{ListRead}
use Rattle.digit_literals.specs.Lists as of_lists
use Rattle.digit_literals.specs.Lists.{Numbers, Fills, is_blank, has_blank, has_separator, past_blanks, next_after, before, list_at}
use Rattle.digit_literals.proofs.PassedAll.{no_blank_past}
use Rattle.digit_languages.specs.Follows.{AreSameBefore}
use Rattle.digit_pieces.specs.declared.piece.PieceEnd.TheVariants.{Full, Over, Fault}
use Rattle.digit_pieces.specs.Cuts.{sure_end, PartsNumbers}
use Rattle.digit_pieces.specs.Pieces.{PieceNumbers, SoFar, FillsPiece, of_list, and_others, is_of_blanks, is_sure, is_parted, after_number, from_number, piece_at}
use Rattle.digit_pieces.proofs.AsLists.{start_is}
use Rattle.digit_pieces.proofs.Blanks.{get_front, blanks_within, blanks_onward, blanks_same, blanks_stop, separator_within}
use Rattle.digit_pieces.proofs.SureEnds.{sure_last}
use Rattle.digit_pieces.proofs.Theorem.{AreNumbers}

-- a number ends before a byte that is in none
pub number_low : {A E : Type 0} (one : List ℕ → ℕ → Result (A × ℕ) E) (none_at : ℕ → E → Bool)
    (later : ℕ → E → E) (has : ℕ → Bool) → AreNumbers one none_at later has
    → (text : List ℕ) (start end at : ℕ) (x : A) → start ≤ at → at < length text
    → holds_of has (slice_get text at) ≡ false → one text start ≡ Ok (x, end) → end ≤ at
number_low one none_at later has are text start end at x from within other is =
    let n : length (take at text) ≡ at = length-take-le at text (omega arith) in
    let front : List ℕ = take at text in
    let past : slice_get front at ≡ None = slice_get_past front at (omega (arith, n)) in
    let upto : AreSameBefore has text front at = record {
      same = sym (take_all at front (omega (arith, n)));
      one_within = omega arith;
      other_within = omega (arith, n);
      one_ends = other;
      other_ends = rw past refl;
    } in
    let low = are.ends front start end x (omega (arith, n))
    (sym (are.follows text front at start upto from) ∙ is) in
    omega (arith, n, low)

pub or_else : (s a : Bool) → a ≡ true → s || a ≡ true
or_else true a is = refl
or_else false a is = is

same_is : (n : ℕ) → n == n ≡ true
same_is n = grind (arith, nat_tests)

other_is : (n m : ℕ) → n < m → n == m ≡ false
other_is n m l = grind (arith, nat_tests)

-- a separator is no blank
no_blank_is : (gap : Gap) (o : Option ℕ) → holds_of (accepts gap.separators) o ≡ true
    → holds_of (is_blank gap) o ≡ false
no_blank_is gap None is = refl
no_blank_is gap (Some byte) is = grind (arith, is)

-- an end of a list before a position
abbrev pub IsElse : {E : Type 0} → ℕ → ListEnd E → Type 0
IsElse cut (lists.Full at) = ⊤
IsElse cut (lists.Over at) = at == cut ≡ false
IsElse cut (lists.Fault error) = ⊤

-- ---- between two numbers of the front

module _ (gap : Gap) (text : List ℕ) (cut last : ℕ) (within : cut < length text)
    (alone : gap.blanks_separate ≡ false) (separates : has_separator gap text cut ≡ true)
    (order : last < cut) (no_separator : has_separator gap text last ≡ false)
    (no_blank : has_blank gap text last ≡ false)
    (blanks : (i : ℕ) → last < i → i < cut → has_blank gap text i ≡ true) where
  abbrev front : List ℕ
  front = take cut text

  front_length : length front ≡ cut
  front_length = length-take-le cut text (omega arith)

  whole_is : front ++ drop cut text ≡ text
  whole_is = take-append-drop cut text

  byte_same : (i : ℕ) → i < cut → slice_get front i ≡ slice_get text i
  byte_same i l =
      rw whole_is at (sym (get_front front (drop cut text) i (omega (arith, front_length))))

  past_low : (at : ℕ) → at ≤ last → past_blanks gap text at ≤ last
  past_low at low = blanks_stop gap text at last low (omega arith) no_blank

  past_same : (at : ℕ) → at ≤ last → past_blanks gap front at ≡ past_blanks gap text at
  past_same at low =
      let here : has_blank gap front last ≡ false = rw (byte_same last order) no_blank in
      let few = blanks_stop gap front at last low (omega (arith, front_length)) here in
      rw whole_is at
      (sym (blanks_same gap front (drop cut text) at (omega (arith, front_length, few))))

  separator_same : (i : ℕ) → i < cut → has_separator gap front i ≡ has_separator gap text i
  separator_same i l = rw (byte_same i l) refl

  next_same : (end : ℕ) → end ≤ last → next_after gap front end ≡ next_after gap text end
  next_same end low =
      let few = past_low end low in
      rw (past_same end low, separator_same (past_blanks gap text end) (omega (arith, few))) refl

  -- where the next number may be, or why the list is over
  next_low : (end : ℕ) → end ≤ last → IfOk (next_after gap text end) (λ next. next ≤ last)
      × IfErr (next_after gap text end) (λ over. over ≤ last)
  next_low end low =
      by (has_separator gap text past) gap.blanks_separate (nat_lt end past) refl alone
    where
      past : ℕ
      past = past_blanks gap text end

      few : past ≤ last
      few = past_low end low

      other : has_separator gap text past ≡ true → past < last
      other is = elim (cases_lt past last) [
        | inl l ↦ l
        | inr l ↦
            let e : past ≡ last = omega (arith, few, l) in
            let no : has_separator gap text past ≡ false = rw e no_separator in
            absurd (cc)
      ]

      by : (separator blank more : Bool) → has_separator gap text past ≡ separator
          → blank ≡ false
          → (let next = if separator then Ok (past + 1) else if blank && more then Ok past
          else Err past in
          IfOk next (λ next. next ≤ last) × IfErr next (λ over. over ≤ last))
      by true blank more is none = (let l = other is in omega (arith, l), tt)
      by false true more is none = absurd cc
      by false false more is none = (tt, few)

  -- ---- after the last number

  blanks_reach : (other : List ℕ) (end : ℕ)
      → ((i : ℕ) → last < i → i < cut → has_blank gap other i ≡ true) → last < end
      → cut ≤ past_blanks gap other end
  blanks_reach other end all from = elim (cases_lt (past_blanks gap other end) cut) [
    | inl l ↦
        let is = all (past_blanks gap other end)
        (omega (arith, from, blanks_onward gap other end)) l in
        let no = no_blank_past other end gap in
        absurd (cc)
    | inr l ↦ l
  ]

  past_cut : (end : ℕ) → last < end → end ≤ cut → past_blanks gap text end ≡ cut
  past_cut end from upto =
      let low = blanks_stop gap text end cut upto within
      (no_blank_is gap (slice_get text cut) separates) in
      omega (arith, low, blanks_reach text end blanks from)

  past_front : (end : ℕ) → last < end → end ≤ cut → past_blanks gap front end ≡ cut
  past_front end from upto =
      let low = blanks_within gap front end (omega (arith, front_length)) in
      let reach = blanks_reach front end
      (λ i l h. rw (byte_same i h) (blanks i l h)) from in
      omega (arith, low, front_length, reach)

  next_cut : (end : ℕ) → last < end → end ≤ cut → next_after gap text end ≡ Ok (cut + 1)
  next_cut end from upto = rw (past_cut end from upto, separates) refl

  next_front : (end : ℕ) → last < end → end ≤ cut → next_after gap front end ≡ Err cut
  next_front end from upto =
      let none : slice_get front cut ≡ None =
      slice_get_past front cut (omega (arith, front_length)) in
      rw (past_front end from upto, none, alone) refl

  parted_is : (is_last : Bool) (end : ℕ) → past_blanks gap text end < length text
      → is_parted gap text is_last end ≡ true
  parted_is is_last end few =
      or_else (is_last || is_of_blanks gap && nat_lt end (length text)) _
      (grind (arith, nat_tests, few))

  -- ---- the numbers

  module _ {V A E : Type 0} (value : V → A) (one one_front : ℕ → Result (A × ℕ) E)
      (none_at : ℕ → E → Bool) (sure : ℕ) (is_last : Bool) (surely : cut < sure)
      (same : (at : ℕ) → at ≤ cut → one_front at ≡ one at)
      (ends : (at end : ℕ) (x : A) → at ≤ cut → one at ≡ Ok (x, end) → end ≤ cut) where
    abbrev of_front : ℕ → ℕ → Numbers A E
    of_front room at = list_at one_front none_at gap front room at

    abbrev of_piece : ℕ → ℕ → PieceNumbers A E
    of_piece room at = piece_at one none_at gap text sure is_last room at

    -- a list of the front, and after the separator the piece
    abbrev and_rest : ℕ → Numbers A E → PieceNumbers A E
    and_rest room (numbers, lists.Full at) = (numbers, Full at)
    and_rest room (numbers, lists.Over at) =
        if at == cut
        then (let rest = of_piece (room - length numbers) (cut + 1) in (numbers ++ rest.0, rest.1))
        else (numbers, Over at)
    and_rest room (numbers, lists.Fault error) = (numbers, Fault error)

    rest_before : (room : ℕ) (x : A) (read : Numbers A E)
        → and_rest (suc room) (before x read) ≡ and_others x (and_rest room read)
    rest_before room x (numbers, lists.Full at) = refl
    rest_before room x (numbers, lists.Over at) = by (at == cut)
      where
        by : (is : Bool) → (if is then (
          (x ∷ numbers)
              ++ (of_piece (suc room - suc (length numbers)) (cut + 1)).0,
          (of_piece (suc room - suc (length numbers)) (cut + 1)).1,
        )
            else (x ∷ numbers, Over at))
            ≡ and_others x (if is then (
              numbers ++ (of_piece (room - length numbers) (cut + 1)).0,
              (of_piece (room - length numbers) (cut + 1)).1,
            ) else (numbers, Over at))
        by true =
            let left : suc room - suc (length numbers) ≡ room - length numbers = omega arith in
            rw left refl
        by false = refl
    rest_before room x (numbers, lists.Fault error) = refl

    surely_is : (at : ℕ) → at ≤ cut → is_sure is_last sure at ≡ true
    surely_is at low = or_else is_last (nat_lt at sure) (grind (arith, nat_tests, low, surely))

    over_other : (room over : ℕ) (numbers : List A) → over < cut
        → and_rest room (numbers, lists.Over over) ≡ (numbers, Over over)
    over_other room over numbers l = rw (other_is over cut l) refl

    pub by_front : (room start : ℕ) → start ≤ last
        → of_piece room start ≡ and_rest room (of_front room start)
    unfolding piece_at list_at
    by_front zero start low = refl
    by_front (suc room) start low =
        rw (past_same start low, same place here, surely_is place here)
        (by_read (λ next. by_front room next) (one place) refl)
      where
        place : ℕ
        place = past_blanks gap text start

        few : place ≤ last
        few = past_low start low

        here : place ≤ cut
        here = omega (arith, few)

        by_next : ((next : ℕ) → next ≤ last
            → of_piece room next ≡ and_rest room (of_front room next))
            → (x : A) (next : Result ℕ ℕ) → IfOk next (λ n. n ≤ last) → IfErr next (λ n. n ≤ last)
            → after_number one none_at gap text sure is_last (of_piece room) x next
            ≡ and_rest (suc room)
            (of_lists.after_number one_front none_at gap front (of_front room) x next)
        by_next same x (Ok next) is none =
            ap (and_others x) (same next is) ∙ sym (rest_before room x (of_front room next))
        by_next same x (Err over) is low =
            sym (over_other (suc room) over (x ∷ []) (omega (arith, low)))

        after_last : (x : A)
            → (x ∷ (of_piece room (cut + 1)).0, (of_piece room (cut + 1)).1)
            ≡ and_rest (suc room) (x ∷ [], lists.Over cut)
        after_last x =
            let left : suc room - 1 ≡ room = omega arith in
            rw (same_is cut, left) refl

        by_end : ((next : ℕ) → next ≤ last
            → of_piece room next ≡ and_rest room (of_front room next))
            → (x : A) (end : ℕ) → one place ≡ Ok (x, end)
            → from_number one none_at gap text sure is_last (of_piece room) place (Ok (x, end))
            ≡ and_rest (suc room)
            (of_lists.from_number one_front none_at gap front (of_front room) place (Ok (x, end)))
        by_end same x end is = elim (cases_lt last end) [
          | inl l ↦
              let upto = ends place end x here is in
              rw (
                parted_is is_last end (omega (arith, past_cut end l upto)),
                start_is one none_at gap text (rw alone refl) end,
                next_cut end l upto,
                next_front end l upto,
              )
              (after_last x)
          | inr l ↦
              let low = next_low end l in
              rw (
                parted_is is_last end (omega (arith, past_low end l)),
                start_is one none_at gap text (rw alone refl) end,
                next_same end l,
              )
              (by_next same x (next_after gap text end) low.0 low.1)
        ]

        none_is : (error : E) (is_over : Bool)
            → (let none : ListEnd E = if is_over then lists.Over place else lists.Fault error in
            let xs : List A = [] in (xs, of_list none) ≡ and_rest (suc room) (xs, none))
        none_is error true = sym (over_other (suc room) place [] (omega (arith, few)))
        none_is error false = refl

        by_read : ((next : ℕ) → next ≤ last
            → of_piece room next ≡ and_rest room (of_front room next))
            → (read : Result (A × ℕ) E) → one place ≡ read
            → from_number one none_at gap text sure is_last (of_piece room) place read
            ≡ and_rest (suc room)
            (of_lists.from_number one_front none_at gap front (of_front room) place read)
        by_read same (Ok (x, end)) is = by_end same x end is
        by_read same (Err error) is = none_is error (gap.may_trail && none_at place error)

    -- ---- read into a slice

    module _ (start : ℕ) (low : start ≤ last) (read : ListRead E) (old new : List V)
        (fills : Fills value (of_front (length old) start) read old new) where
      and_over : (room : ℕ) (list : Numbers A E) → list.1 ≡ lists.Over cut
          → and_rest room list ≡ (
            list.0 ++ (of_piece (room - length list.0) (cut + 1)).0,
            (of_piece (room - length list.0) (cut + 1)).1,
          )
      and_over room (numbers, end) is = rw (is, same_is cut) refl

      over_is : read.end ≡ lists.Over cut → of_piece (length old) start
          ≡ (
            map value (take read.count new) ++ (of_piece (length old - read.count) (cut + 1)).0,
            (of_piece (length old - read.count) (cut + 1)).1,
          )
      over_is is =
          rw (fills.numbers, fills.count)
          (by_front (length old) start low
          ∙ and_over (length old) (of_front (length old) start) (sym fills.end ∙ is))

      pub front_so : read.end ≡ lists.Over cut
          → SoFar value one none_at gap text sure is_last start read.count (cut + 1) old new
      front_so is = record {
        numbers = rw (over_is is) refl;
        end = rw (over_is is) refl;
        rest = fills.rest;
        same_length = fills.same_length;
      }

      and_else : (room : ℕ) (numbers : List A) (end : ListEnd E) → IsElse cut end
          → and_rest room (numbers, end) ≡ (numbers, of_list end)
      and_else room numbers (lists.Full at) is = refl
      and_else room numbers (lists.Over at) is = rw is refl
      and_else room numbers (lists.Fault error) is = refl

      else_is : (list : Numbers A E) → list ≡ of_front (length old) start → IsElse cut list.1
          → of_piece (length old) start ≡ (list.0, of_list list.1)
      else_is (numbers, end) is other =
          by_front (length old) start low ∙ rw (← is) (and_else (length old) numbers end other)

      pub front_fills : (end : ListEnd E) → read.end ≡ end → IsElse cut end
          → FillsPiece value (of_piece (length old) start)
          (record { count = read.count; end = of_list end }) old new
      front_fills end is other =
          let list : Numbers A E = of_front (length old) start in
          let all : of_piece (length old) start ≡ (list.0, of_list list.1) =
          else_is list refl (rw (← fills.end, is) other) in
          record {
            numbers = rw all fills.numbers;
            count = rw all fills.count;
            end = rw all (ap of_list (sym is ∙ fills.end));
            rest = fills.rest;
            same_length = fills.same_length;
          }

-- ---- of a kind

module _ {V A E : Type 0} (value : V → A) (one : List ℕ → ℕ → Result (A × ℕ) E)
    (none_at : ℕ → E → Bool) (later : ℕ → E → E) (has : ℕ → Bool) (gap : Gap)
    (are : AreNumbers one none_at later has) (text : List ℕ) (start cut : ℕ)
    (parts : PartsNumbers has gap text start cut) (alone : gap.blanks_separate ≡ false)
    (is_last : Bool) where
  cut_within : cut < length text
  cut_within = separator_within gap text cut parts.separator

  cut_sure : cut < sure_end has text
  cut_sure = elim (cases_lt cut (sure_end has text)) [
    | inl l ↦ l
    | inr l ↦
        let yes = sure_last has text cut l cut_within in
        let other = parts.other in
        absurd (grind (arith, gets, yes, other))
  ]

  same_front : (at : ℕ) → at ≤ cut → one (take cut text) at ≡ one text at
  same_front at low =
      let n : length (take cut text) ≡ cut =
      length-take-le cut text (omega (arith, cut_within)) in
      let past : slice_get (take cut text) cut ≡ None =
      slice_get_past (take cut text) cut (omega (arith, n)) in
      let upto : AreSameBefore has text (take cut text) cut = record {
        same = sym (take_all cut (take cut text) (omega (arith, n)));
        one_within = omega (arith, cut_within);
        other_within = omega (arith, n);
        one_ends = parts.other;
        other_ends = rw past refl;
      } in
      sym (are.follows text (take cut text) cut at upto low)

  ends_low : (at end : ℕ) (x : A) → at ≤ cut → one text at ≡ Ok (x, end) → end ≤ cut
  ends_low at end x low is =
      number_low one none_at later has are text at end cut x low cut_within parts.other is

  module _ (read : ListRead E) (old new : List V)
      (fills : Fills value (list_at (one (take cut text)) none_at gap (take cut text) (length old)
      start) read old new) where
    pub kind_so : read.end ≡ lists.Over cut
        → SoFar value (one text) none_at gap text (sure_end has text) is_last start read.count
        (cut + 1) old new
    kind_so is =
        front_so gap text cut parts.last cut_within alone parts.separator parts.before
        parts.no_separator parts.no_blank parts.blanks value (one text) (one (take cut text))
        none_at (sure_end has text) is_last cut_sure same_front ends_low start parts.onward read
        old new fills is

    pub kind_fills : (end : ListEnd E) → read.end ≡ end → IsElse cut end
        → FillsPiece value (piece_at (one text) none_at gap text (sure_end has text) is_last
        (length old) start) (record { count = read.count; end = of_list end }) old new
    kind_fills end is other =
        front_fills gap text cut parts.last cut_within alone parts.separator parts.before
        parts.no_separator parts.no_blank parts.blanks value (one text) (one (take cut text))
        none_at (sure_end has text) is_last cut_sure same_front ends_low start parts.onward read
        old new fills end is other
