-- The blanks that are used before a byte.
use Rattle.std.proofs.Common.{◌≡◌, ℕ, ◌+◌, ◌-◌, ◌≤◌, Bool, List, [], ◌∷◌, ◌++◌, length, drop, sym, ap, ◌∙◌, arith, append-nil}
use Rattle.std.specs.Prelude.{Option, Some, None, IfSome, IfOk, Result, Ok, Err, slice_get}
use Rattle.std.proofs.lemmas.List.{drop-drop}
use Rattle.std.specs.Io.KnownBytes.{IsAtEnd, prepend_known}
use Rattle.digit_literals.specs.declared.list.Gap.{Gap}
use Rattle.digit_literals.specs.Lists.{past_blanks}
use Rattle.digit_pieces.proofs.Blanks.{blanks_go_on, blanks_moved, blanks_same, get_rest}
use Rattle.digit_streams.specs.declared.stream.Ended.{Ended}
use Rattle.digit_streams.specs.declared.stream.Ended.TheVariants as ended
use Rattle.digit_streams.specs.Streams.{IfNoFault, IsNextByte, Passes, SkipsBlanks, Uses, UsesKnown}

-- bytes of a buffer that are used
pub used_held : (from to count : ℕ) (old new : List ℕ) → to ≡ from + count → count ≤ length old
    → new ≡ drop count old → Uses from to old new
used_held from to count old new is fits rest =
    let same : to - from ≡ count = omega (arith, is) in
    record {
      onward = omega (arith, is);
      within = omega (arith, is, fits);
      rest = rw same rest;
    }

module _ (gap : Gap) where
  -- after the blanks of a text are none
  pub none_after : (text : List ℕ) → past_blanks gap (drop (past_blanks gap text 0) text) 0 ≡ 0
  none_after text =
      let m : ℕ = past_blanks gap text 0 in
      let again : past_blanks gap text 0 ≡ past_blanks gap text m =
      rw (append-nil text) at (blanks_go_on gap text [] 0 (omega arith)) in
      let zero : m + 0 ≡ m = omega arith in
      let moved : past_blanks gap text m ≡ m + past_blanks gap (drop m text) 0 =
      rw zero at (blanks_moved gap text m 0) in
      omega (arith, again, moved)

  -- the blanks of what a buffer holds are used
  pub skips_more : (from at to : ℕ) (text : Option (List ℕ)) (held : List ℕ)
      (more : Option (List ℕ)) → UsesKnown from at text (prepend_known held more)
      → to ≡ at + past_blanks gap held 0 → from ≤ at
      → IfSome text (λ whole. SkipsBlanks gap whole (at - from))
      → IfSome text (λ whole. SkipsBlanks gap whole (to - from))
  skips_more from at to None held more uses is low skips = tt
  skips_more from at to (Some whole) held None uses is low skips = absurd uses
  skips_more from at to (Some whole) held (Some bytes) uses is low skips =
      let m : ℕ = past_blanks gap held 0 in
      let n : ℕ = at - from in
      let on = blanks_go_on gap held bytes 0 (omega arith) in
      let zero : m + 0 ≡ m = omega arith in
      let moved : past_blanks gap (held ++ bytes) m
      ≡ m + past_blanks gap (drop m (held ++ bytes)) 0 =
      rw zero at (blanks_moved gap (held ++ bytes) m 0) in
      let sum : n + m ≡ to - from = omega (arith, is, low) in
      let rest : drop m (held ++ bytes) ≡ drop (to - from) whole =
      ap (drop m) uses.rest ∙ drop-drop m n whole ∙ ap (λ k. drop k whole) sum in
      let all : past_blanks gap (drop n whole) 0 ≡ m + past_blanks gap (drop (to - from) whole) 0 =
      rw (← rest, ← uses.rest) (on ∙ moved) in
      omega (arith, skips, all, sum)

  -- the first byte that a buffer holds is next, or nothing is left
  pub next_is : (from to : ℕ) (text : Option (List ℕ)) (held : List ℕ) (more : Option (List ℕ))
      (next : Option ℕ) → UsesKnown from to text (prepend_known held more)
      → IfSome text (λ whole. SkipsBlanks gap whole (to - from))
      → past_blanks gap held 0 ≡ 0 → slice_get held 0 ≡ next → (next ≡ None → IsAtEnd more)
      → IfSome text (λ whole. IsNextByte gap whole (to - from) next)
  next_is from to None held more next uses skips none is end = tt
  next_is from to (Some whole) held None next uses skips none is end = absurd uses
  next_is from to (Some whole) [] (Some bytes) next uses skips none is end =
      let nothing : bytes ≡ [] = end (sym is) in
      let left : drop (to - from) whole ≡ [] = sym uses.rest ∙ nothing in
      let zero : past_blanks gap (drop (to - from) whole) 0 ≡ 0 = rw left none in
      let there : to - from + 0 ≡ to - from = omega arith in
      record {
        blanks = omega (arith, skips, zero);
        is = rw there at (sym (get_rest whole (to - from) 0)) ∙ ap (λ l. slice_get l 0) left ∙ is;
      }
  next_is from to (Some whole) (byte ∷ held) (Some bytes) next uses skips none is end =
      let low : past_blanks gap (byte ∷ held) 0 ≤ length held = omega (arith, none) in
      let zero : past_blanks gap (drop (to - from) whole) 0 ≡ 0 =
      ap (λ l. past_blanks gap l 0) (sym uses.rest)
      ∙ blanks_same gap (byte ∷ held) bytes 0 (omega (arith, low)) ∙ none in
      let there : to - from + 0 ≡ to - from = omega arith in
      record {
        blanks = omega (arith, skips, zero);
        is = rw there at (sym (get_rest whole (to - from) 0))
            ∙ ap (λ l. slice_get l 0) (sym uses.rest) ∙ is;
      }

  -- where the blanks are used, none are next
  pub skips_all : (text : Option (List ℕ)) (count : ℕ) (next : Option ℕ)
      → IfSome text (λ whole. IsNextByte gap whole count next)
      → IfSome text (λ whole. SkipsBlanks gap whole count)
  skips_all None count next is = tt
  skips_all (Some whole) count next is =
      let none : past_blanks gap (drop count whole) 0 ≡ 0 =
      rw (← is.blanks) (none_after whole) in
      omega (arith, is.blanks, none)

  -- where the next byte is known, so many blanks are before it
  pub blanks_before : (text : Option (List ℕ)) (count : ℕ) (next : Option ℕ)
      → IfSome text (λ whole. IsNextByte gap whole count next)
      → IfSome text (λ whole. past_blanks gap whole 0 ≡ count)
  blanks_before None count next is = tt
  blanks_before (Some whole) count next is = is.blanks

  -- what is found after the bytes that were used is found in the whole text
  pub passes_known : (byte start position at : ℕ) (found : Bool)
      (known bytes rest : Option (List ℕ))
      → UsesKnown start position known bytes → UsesKnown position at bytes rest
      → IfSome bytes (λ bytes. Passes gap byte bytes 0 found (at - position))
      → IfSome known (λ text. Passes gap byte text (position - start) found (at - start))
  passes_known byte start position at found None bytes rest uses more is = tt
  passes_known byte start position at found (Some text) None rest uses more is = absurd uses
  passes_known byte start position at found (Some text) (Some bytes) None uses more is =
      absurd more
  passes_known byte start position at found (Some text) (Some bytes) (Some rest) uses more is =
      let n : ℕ = position - start in
      let zero : n + 0 ≡ n = omega arith in
      let moved : past_blanks gap text n ≡ n + past_blanks gap bytes 0 =
      (rw zero at (blanks_moved gap text n 0))
      ∙ ap (λ l. n + past_blanks gap l 0) (sym uses.rest) in
      let there = get_rest text n (past_blanks gap bytes 0) in
      record {
        is = rw (moved, ← there, ← uses.rest) is.is;
        to = omega (arith, is.to, moved, more.onward, uses.onward);
      }

  pub found_known : {E : Type 0} (byte start position at : ℕ) (result : Result Bool E)
      (known bytes rest : Option (List ℕ))
      → UsesKnown start position known bytes → UsesKnown position at bytes rest
      → IfOk result (λ is. IfSome bytes (λ bytes. Passes gap byte bytes 0 is (at - position)))
      → IfOk result (λ is.
      IfSome known (λ text. Passes gap byte text (position - start) is (at - start)))
  found_known byte start position at (Ok is) known bytes rest uses more found =
      passes_known byte start position at is known bytes rest uses more found
  found_known byte start position at (Err error) known bytes rest uses more found = tt

  -- the same of the whole stream
  pub found_whole : {E : Type 0} (byte position at : ℕ) (result : Result Bool E)
      (known bytes rest : Option (List ℕ))
      → UsesKnown 0 position known bytes → UsesKnown position at bytes rest
      → IfOk result (λ is. IfSome bytes (λ bytes. Passes gap byte bytes 0 is (at - position)))
      → IfOk result (λ is. IfSome known (λ text. Passes gap byte text position is at))
  found_whole byte position at result known bytes rest uses more found =
      let a : position - 0 ≡ position = omega arith in
      let b : at - 0 ≡ at = omega arith in
      rw (a, b) at (found_known byte 0 position at result known bytes rest uses more found)

-- a fact, also after an error
pub unless_fault : {E : Type 0} (ended : Option (Ended E)) (P : Type 0) → P → IfNoFault ended P
unless_fault None P h = h
unless_fault (Some (ended.Over at)) P h = h
unless_fault (Some (ended.Fault error)) P h = tt
