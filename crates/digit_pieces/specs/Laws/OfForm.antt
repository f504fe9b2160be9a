-- What the kind of numbers by a form promises.
use Rattle.std.proofs.Common.{◌≡◌, ℕ, ◌+◌, ◌≤◌, List, length, drop, refl, sym, ap, add_assoc}
use Rattle.std.specs.Prelude.{Ok}
use Rattle.std.specs.Float.{Float, Format}
use Rattle.digit_languages.specs.Follows.{AreSameBefore}
use Rattle.digit_numbers.specs.declared.form.Form.{Form}
use Rattle.digit_numbers.specs.declared.number.Number.{Number}
use Rattle.digit_numbers.specs.declared.number.NumberError.{NumberError}
use Rattle.digit_numbers.specs.declared.number.NumberError.TheVariants.{Empty, Overflow, Invalid}
use Rattle.digit_numbers.specs.Follows.{is_number_byte}
use Rattle.digit_numbers.specs.Numbers.{number_of_at}
use Rattle.digit_numbers.specs.Values.{none_at, position}
use Rattle.digit_numbers.proofs.BothSides.{moved_outcome}
use Rattle.digit_numbers.proofs.WhatFollows.{outcome_same}
use Rattle.digit_pieces.specs.Moves.{IsFresh, outcome_later, number_later}
use Rattle.digit_pieces.specs.Laws.FormEnds as ends
use Rattle.digit_pieces.specs.Laws.NoBytes.{same_place}

pub number_follows : (f : Form) (one other : List ℕ) (at start : ℕ) (format : Format)
    → AreSameBefore (is_number_byte f) one other at → start ≤ at
    → number_of_at f one start format ≡ number_of_at f other start format
number_follows f one other at start format upto from =
    outcome_same f one other at upto start from format

pub number_precedes : (f : Form) (text : List ℕ) (from at : ℕ) (format : Format)
    → from + at ≤ length text → IsFresh (is_number_byte f) text from
    → number_of_at f text (from + at) format
    ≡ outcome_later number_later from (number_of_at f (drop from text) at format)
number_precedes f text from at format within fresh =
    moved_outcome f text from at format within fresh

pub number_ends : (f : Form) (text : List ℕ) (start : ℕ) (format : Format) (n : Number Float)
    (end : ℕ) → number_of_at f text start format ≡ Ok (n, end) → end ≤ length text
number_ends = ends.number_ends

pub number_later_at : (by : ℕ) (e : NumberError) → position (number_later by e) ≡ by + position e
number_later_at by (Empty at) = refl
number_later_at by (Overflow at) = refl
number_later_at by (Invalid at) = refl

-- whether an error says that no number begins at a position
pub number_none_later : (by place : ℕ) (e : NumberError)
    → none_at (by + place) (number_later by e) ≡ none_at place e
number_none_later by place (Empty at) = same_place by at place
number_none_later by place (Overflow at) = refl
number_none_later by place (Invalid at) = refl

-- an error that is later twice
pub number_later_more : (by more : ℕ) (e : NumberError)
    → number_later by (number_later more e) ≡ number_later (by + more) e
number_later_more by more (Empty at) = ap Empty (sym (add_assoc by more at))
number_later_more by more (Overflow at) = ap Overflow (sym (add_assoc by more at))
number_later_more by more (Invalid at) = ap Invalid (sym (add_assoc by more at))
