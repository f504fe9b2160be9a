-- One turn of a loop that reads the numbers of a stream: those of what the buffer holds, and then
-- more bytes.
use Rattle.std.proofs.Common.{◌≡◌, ℕ, ◌+◌, ◌-◌, Bool, true, List, [], ◌++◌, length, map, take, drop, refl, sym, ap, subst, ◌∙◌, arith, append_assoc, length-append, length-drop}
use Rattle.std.specs.Prelude.{Option, Some, None, IfSome}
use Rattle.std.proofs.Math.Seq.{take-add}
use Rattle.std.proofs.lemmas.List.{drop-drop, drop-append-le, map-append}
use Rattle.std.specs.Io.KnownBytes.{IsAtEnd, Keeps, prepend_known}
use Rattle.digit_streams.specs.declared.stream.StreamEnd.TheVariants.{Full, Over, Fault}
use Rattle.digit_streams.specs.declared.stream.StreamError.{StreamError}
use Rattle.digit_streams.specs.declared.stream.StreamError.TheVariants.{Number, NoRoom, Read, TooLong, Trailing}
use Rattle.digit_streams.specs.declared.held.Held.{Held}
use Rattle.digit_streams.specs.declared.held.Held.TheVariants as held
use Rattle.digit_streams.specs.Streams.{StreamNumbers, IsFailure, Gives, GoesOn, Uses, UsesKnown, ReadsOn}

pub some_then : (text : Option (List ℕ)) (P Q : List ℕ → Type 0) → ((bytes : List ℕ) → P bytes
    → Q bytes) → IfSome text P → IfSome text Q
some_then None P Q go h = tt
some_then (Some bytes) P Q go h = go bytes h

-- ---- the slice

pub rest_turn : {V : Type 0} (count more : ℕ) (first old new : List V)
    → drop count old ≡ drop count first → drop more (drop count new) ≡ drop more (drop count old)
    → drop (count + more) new ≡ drop (count + more) first
rest_turn count more first old new before same =
    sym (drop-drop more count new) ∙ same ∙ ap (drop more) before ∙ drop-drop more count first

pub numbers_turn : {V A : Type 0} (meaning : V → A) (count more : ℕ) (old new : List V)
    → take count new ≡ take count old → map meaning (take (count + more) new)
    ≡ map meaning (take count old) ++ map meaning (take more (drop count new))
numbers_turn meaning count more old new front =
    rw (take-add count more new, front)
    (map-append meaning (take count old) (take more (drop count new)))

-- ---- the bytes

-- bytes that were used, and then others
uses_more : (from at to : ℕ) (whole held left more : List ℕ) → Uses from at whole (held ++ more)
    → Uses at to held left → Uses from to whole (left ++ more)
uses_more from at to whole held left more one two =
    let used : ℕ = to - at in
    let sum : at - from + used ≡ to - from = omega (arith, one.onward, two.onward) in
    let lengths : length held + length more ≡ length whole - (at - from) =
    sym (length-append held more) ∙ ap length one.rest ∙ length-drop (at - from) whole in
    record {
      onward = omega (arith, one.onward, two.onward);
      within = omega (arith, one.within, two.within, one.onward, two.onward, lengths);
      rest = ap (λ l. l ++ more) two.rest ∙ sym (drop-append-le used held more two.within)
          ∙ ap (drop used) one.rest ∙ drop-drop used (at - from) whole
          ∙ ap (λ n. drop n whole) sum;
    }

pub uses_turn : (from at to : ℕ) (text : Option (List ℕ)) (held left : List ℕ)
    (more : Option (List ℕ)) → UsesKnown from at text (prepend_known held more)
    → Uses at to held left → UsesKnown from to text (prepend_known left more)
uses_turn from at to None held left more one two = tt
uses_turn from at to (Some whole) held left None one two = absurd one
uses_turn from at to (Some whole) held left (Some more) one two =
    uses_more from at to whole held left more one two

pub uses_kept : (from to : ℕ) (text old new : Option (List ℕ)) → UsesKnown from to text old
    → Keeps old new → UsesKnown from to text new
uses_kept from to None old new one kept = tt
uses_kept from to (Some whole) None new one kept = absurd one
uses_kept from to (Some whole) (Some old) None one kept = absurd kept
uses_kept from to (Some whole) (Some old) (Some new) one kept =
    subst (Uses from to whole) (sym kept) one

-- ---- the numbers

module _ {A E : Type 0} where
  goes_on_twice : (list : StreamNumbers A E) (numbers : List A) (others : StreamNumbers A E)
      (more : List A) (end : Held E) (rest : StreamNumbers A E) → GoesOn list numbers others
      → ReadsOn others more end rest → ReadsOn list (numbers ++ more) end rest
  goes_on_twice list numbers others more held.More rest one two =
      rw (one, two, append_assoc numbers more rest.0) refl
  goes_on_twice list numbers others more (held.End (Full at)) rest one two = rw (one, two) refl
  goes_on_twice list numbers others more (held.End (Over at)) rest one two = rw (one, two) refl
  goes_on_twice list numbers others more (held.End (Fault (Number error))) rest one two =
      rw (one, two) refl
  goes_on_twice list numbers others more (held.End (Fault (NoRoom at))) rest one two =
      (two.0, rw (one, two.1) (sym (append_assoc numbers more two.0)))
  goes_on_twice list numbers others more (held.End (Fault (Read kind))) rest one two =
      (two.0, rw (one, two.1) (sym (append_assoc numbers more two.0)))
  goes_on_twice list numbers others more (held.End (Fault TooLong)) rest one two =
      (two.0, rw (one, two.1) (sym (append_assoc numbers more two.0)))
  goes_on_twice list numbers others more (held.End (Fault (Trailing at why))) rest one two =
      (two.0, rw (one, two.1) (sym (append_assoc numbers more two.0)))

  -- where there are others, these are the first
  pub first_are : (list : StreamNumbers A E) (numbers : List A) (others : StreamNumbers A E)
      (error : StreamError E) → GoesOn list numbers others → IsFailure error
      → Gives list numbers (Fault error)
  first_are list numbers others (Number error) one is = absurd is
  first_are list numbers others (NoRoom at) one is = (others.0, ap (λ l. l.0) one)
  first_are list numbers others (Read kind) one is = (others.0, ap (λ l. l.0) one)
  first_are list numbers others TooLong one is = absurd is
  first_are list numbers others (Trailing at why) one is = absurd is

  module _ (list : ℕ → List ℕ → ℕ → StreamNumbers A E) (Apart : Type 0) (from at to : ℕ)
      (room before left : ℕ) (numbers more : List A) (end : Held E) (old new : List ℕ)
      (is_last : Bool) where
    pub list_turn : (text rest : Option (List ℕ))
        → UsesKnown from at text (prepend_known old rest) → Uses at to old new
        → (is_last ≡ true → IsAtEnd rest)
        → ((bytes : List ℕ) → Apart → (is_last ≡ true → bytes ≡ [])
        → ReadsOn (list at (old ++ bytes) before) more end (list to (new ++ bytes) left))
        → IfSome text (λ whole. Apart
        → GoesOn (list from whole room) numbers (list at (drop (at - from) whole) before))
        → IfSome text (λ whole. Apart → ReadsOn (list from whole room) (numbers ++ more) end
        (list to (drop (to - from) whole) left))
    list_turn None rest one two last step before' = tt
    list_turn (Some whole) None one two last step before' = absurd one
    list_turn (Some whole) (Some bytes) one two last step goes = λ apart.
        let all = uses_more from at to whole old new bytes one two in
        let read = step bytes apart last in
        goes_on_twice (list from whole room) numbers (list at (drop (at - from) whole) before) more
        end (list to (drop (to - from) whole) left) (goes apart) (rw (← one.rest, ← all.rest) read)
