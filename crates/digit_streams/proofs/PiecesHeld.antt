-- What a piece of a stream gives: the list of the stream, or its first numbers, and the list of
-- what is left.
use Rattle.std.proofs.Common.{◌≡◌, ℕ, ◌+◌, ◌-◌, Bool, true, false, List, [], ◌++◌, length, drop, refl, sym, ap, ◌∙◌, add_assoc, append-nil}
use Rattle.std.specs.Prelude.{Result}
use Rattle.digit_literals.specs.declared.list.Gap.{Gap}
use Rattle.digit_literals.specs.declared.list.ListEnd.{ListEnd}
use Rattle.digit_literals.specs.declared.list.ListEnd.TheVariants as lists
use Rattle.digit_literals.specs.Lists.{Numbers}
use Rattle.digit_pieces.specs.declared.piece.PieceEnd.TheVariants as pieces
use Rattle.digit_pieces.specs.Cuts.{sure_end}
use Rattle.digit_pieces.specs.Pieces.{PieceNumbers, of_list, as_piece, and_more, end_later, list_later, piece_at, whole_at}
use Rattle.digit_pieces.specs.Texts.{IsApart}
use Rattle.digit_pieces.proofs.GoesOn.{last_piece}
use Rattle.digit_pieces.proofs.Theorem.{AreNumbers, cut}
use Rattle.digit_streams.specs.declared.stream.StreamEnd.TheVariants.{Full, Over, Fault}
use Rattle.digit_streams.specs.declared.stream.StreamError.TheVariants.{Number}
use Rattle.digit_streams.specs.Streams.{StreamNumbers, end_in_stream, in_stream, stream_list, BeginsWith, ReadsOn, held_of, used}

-- a piece that is the last gives its list
module _ {A E : Type 0} (one : ℕ → Result (A × ℕ) E) (none_at : ℕ → E → Bool) (gap : Gap)
    (text : List ℕ) (sure : ℕ) where
  abbrev piece : ℕ → ℕ → PieceNumbers A E
  piece room start = piece_at one none_at gap text sure true room start

  abbrev list : ℕ → ℕ → Numbers A E
  list room start = whole_at one none_at gap text room start

  -- so it asks for no more bytes
  more_of_list : (room start : ℕ) (numbers : List A) (by : ℕ) (whole : Numbers A E)
      → as_piece whole ≡ (numbers, pieces.More by) → ⊥
  more_of_list room start numbers by (ns, lists.Full at) is =
      let e : pieces.Full at ≡ pieces.More by = ap (λ l. l.1) is in cc
  more_of_list room start numbers by (ns, lists.Over at) is =
      let e : pieces.Over at ≡ pieces.More by = ap (λ l. l.1) is in cc
  more_of_list room start numbers by (ns, lists.Fault error) is =
      let e : pieces.Fault error ≡ pieces.More by = ap (λ l. l.1) is in cc

  pub last_more : (room start : ℕ) (numbers : List A) (by : ℕ)
      → piece room start ≡ (numbers, pieces.More by) → ⊥
  last_more room start numbers by is =
      more_of_list room start numbers by (list room start)
      (sym (last_piece one none_at gap text sure room start) ∙ is)

module _ {A E : Type 0} (one : List ℕ → ℕ → Result (A × ℕ) E) (none_at : ℕ → E → Bool)
    (later : ℕ → E → E) (gap : Gap)
    (later_more : (by more : ℕ) (e : E) → later by (later more e) ≡ later (by + more) e) where
  abbrev of : ℕ → List ℕ → ℕ → StreamNumbers A E
  of position text room = stream_list one none_at later gap position text room

  -- an end that is later twice
  pub end_twice : (position at : ℕ) (end : ListEnd E) → end_in_stream later position
      (end_later later at end) ≡ end_in_stream later (position + at) end
  end_twice position at (lists.Full i) = ap Full (sym (add_assoc position at i))
  end_twice position at (lists.Over i) = ap Over (sym (add_assoc position at i))
  end_twice position at (lists.Fault e) =
      ap (λ error. Fault (Number error)) (later_more position at e)

  -- the list from a position of the text on
  abbrev rest : List ℕ → List ℕ → ℕ → ℕ → Numbers A E
  rest text more left at =
      list_later later at
      (whole_at (one (drop at text ++ more)) none_at gap (drop at text ++ more) left 0)

  cut_held : (position room : ℕ) (text more : List ℕ) (read : PieceNumbers A E)
      (whole : Numbers A E) → whole ≡ and_more room read (rest text more)
      → ReadsOn (in_stream later position whole) read.0 (held_of later position read.1)
      (of (position + used read.1) (drop (used read.1) text ++ more) (room - length read.0))
  cut_held position room text more (numbers, pieces.More at) whole is =
      let left : Numbers A E = whole_at (one (drop at text ++ more)) none_at gap
      (drop at text ++ more) (room - length numbers) 0 in
      ap (in_stream later position) is
      ∙ ap (λ end. (numbers ++ left.0, end)) (end_twice position at left.1)
  cut_held position room text more (numbers, pieces.Full at) whole is =
      ap (in_stream later position) is
  cut_held position room text more (numbers, pieces.Over at) whole is =
      ap (in_stream later position) is
  cut_held position room text more (numbers, pieces.Fault error) whole is =
      ap (in_stream later position) is

  cut_begins : (room : ℕ) (text more : List ℕ) (read : PieceNumbers A E)
      (whole : Numbers A E) → whole ≡ and_more room read (rest text more)
      → BeginsWith whole.0 read.0
  cut_begins room text more (numbers, pieces.More at) whole is =
      ((rest text more (room - length numbers) at).0, ap (λ w. w.0) is)
  cut_begins room text more (numbers, pieces.Full at) whole is =
      ([], ap (λ w. w.0) is ∙ sym (append-nil numbers))
  cut_begins room text more (numbers, pieces.Over at) whole is =
      ([], ap (λ w. w.0) is ∙ sym (append-nil numbers))
  cut_begins room text more (numbers, pieces.Fault error) whole is =
      ([], ap (λ w. w.0) is ∙ sym (append-nil numbers))

  last_held : (position : ℕ) (whole : Numbers A E) (others : StreamNumbers A E)
      → ReadsOn (in_stream later position whole) whole.0
      (held_of later position (of_list whole.1)) others
  last_held position (numbers, lists.Full at) others = refl
  last_held position (numbers, lists.Over at) others = refl
  last_held position (numbers, lists.Fault error) others = refl

  module _ (has : ℕ → Bool) (are : AreNumbers one none_at later has) (apart : IsApart has gap)
      (position room : ℕ) (text more : List ℕ) where
    abbrev read_of : Bool → PieceNumbers A E
    read_of is_last = piece_at (one text) none_at gap text (sure_end has text) is_last room 0

    pub held_list : (is_last : Bool) → (is_last ≡ true → more ≡ [])
        → ReadsOn (of position (text ++ more) room) (read_of is_last).0
        (held_of later position (read_of is_last).1)
        (of (position + used (read_of is_last).1) (drop (used (read_of is_last).1) text ++ more)
        (room - length (read_of is_last).0))
    held_list false last =
        cut_held position room text more (read_of false)
        (whole_at (one (text ++ more)) none_at gap (text ++ more) room 0)
        (cut one none_at later has gap are apart text more room)
    held_list true last =
        let whole : text ++ more ≡ text = ap (λ m. text ++ m) (last refl) ∙ append-nil text in
        rw (whole, last_piece (one text) none_at gap text (sure_end has text) room 0)
        (last_held position (whole_at (one text) none_at gap text room 0) _)

    pub held_begins : (is_last : Bool) → (is_last ≡ true → more ≡ [])
        → BeginsWith (of position (text ++ more) room).0 (read_of is_last).0
    held_begins false last =
        cut_begins room text more (read_of false)
        (whole_at (one (text ++ more)) none_at gap (text ++ more) room 0)
        (cut one none_at later has gap are apart text more room)
    held_begins true last =
        let whole : text ++ more ≡ text = ap (λ m. text ++ m) (last refl) ∙ append-nil text in
        rw (whole, last_piece (one text) none_at gap text (sure_end has text) room 0)
        ([], sym (append-nil _))
