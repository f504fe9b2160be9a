-- `skip` and the plain cursor answer alike where a word has no separator, no flag and one radix:
-- call by call, and so for every list.
use Rattle.std.proofs.Common.{◌≡◌, ℕ, suc, ◌+◌, ◌-◌, ◌≤◌, Bool, true, List, [], ◌∷◌, length, refl, sym, ap, subst, nat_eq, length-drop, ◌∙◌, arith}
use Rattle.std.specs.List.{AllPass}
use Rattle.std.proofs.Math.Bool.{and-true}
use Rattle.std.proofs.lemmas.Option.{gets}
use Rattle.std.proofs.lemmas.Bool.Decides.{nat_tests}
use Rattle.std.proofs.lemmas.List.Sums.{prefix_len-le-length}
use Rattle.lexical_digits.specs.declared.skip.component.Component.{Component}
use Rattle.lexical_digits.specs.Separators.{GrantsNone}
use Rattle.lexical_digits.specs.Separators as separators
use Rattle.lexical_digits.specs.State.{State, own, rule, is_contiguous, has_no_separator}
use Rattle.lexical_digits.specs.State as state
use Rattle.lexical_digits.specs.CallTable.{place_of, Part, OnBytes, On}
use Rattle.lexical_digits.specs.declared.ops.Op.{Op}
use Rattle.lexical_digits.specs.declared.ops.Answer.{Answer}
use Rattle.lexical_digits.specs.declared.ops.Op.TheVariants.{CurrentCount, StepBy, Step, TakeN}
use Rattle.lexical_digits.specs.CallTable as skip
use Rattle.lexical_digits.specs.Laws.Table.{place_contiguous, contiguous_grants}
use Rattle.lexical_plain.specs.Plain.{Plain, rest, is_digit, taken, zeros, Row, within, row_of, Ran, run_of, start, is_on_both, both_have, without_counts, IsPlainWord}
use Rattle.lexical_plain.proofs.NoFlags.{contiguous, no_separator, zeros_all, past_zeros_all}

-- the word is plain, and the cursor is within the buffer
record IsUngranted (p : Plain) : Type 0 where
  plain_word : IsPlainWord p.word
  within : p.cursor ≤ length p.buffer

-- ---- each row leaves such a state

zeros_fit : (p : Plain) → zeros p ≤ length p.buffer - p.cursor
zeros_fit p =
    rw (← length-drop p.cursor p.buffer) (prefix_len-le-length (λ byte. nat_eq byte 48) (rest p))

row_word : (part : Part) (call : Op) (p : Plain) → (row_of part call p).state.word ≡ p.word
unfolding taken
row_word part call p = grind arith

row_within : (part : Part) (call : Op) (p : Plain) → p.cursor ≤ length p.buffer
    → (row_of part call p).state.cursor ≤ length (row_of part call p).state.buffer
unfolding taken
row_within part call p l = grind (arith, nat_tests, gets, zeros_fit p)

stays : (part : Part) (call : Op) (p : Plain) → IsUngranted p
    → IsUngranted (row_of part call p).state
stays part call p u = record {
  plain_word = rw (row_word part call p) u.plain_word;
  within = row_within part call p u.within;
}

-- ---- each row agrees

-- the same answer, and the same state if counts are left out
record Agree (a : skip.Row) (b : Row) : Type 0 where
  answer : a.answer ≡ b.answer
  state : without_counts a.state ≡ b.state

within_same : (b : Bool) (s t : State) (p q : Plain)
    → (skip.within b s t).answer ≡ (within b p q).answer
within_same b s t p q = grind arith

module _ (s : State) (ungranted : IsUngranted (without_counts s)) where
  abbrev plain : Plain
  plain = without_counts s

  fits : s.cursor ≤ length s.buffer
  fits = ungranted.within

  nothing : (k : Component) → is_contiguous k s.word ≡ true
  nothing k = contiguous s.word ungranted.plain_word.no_flags k

  -- ---- what an iterator finds and leaves

  place_same : (k : Component) → place_of k s ≡ s.cursor
  place_same k = place_contiguous k s (nothing k) fits

  taken_same : (k : Component) → without_counts (skip.taken k s) ≡ taken plain
  unfolding skip.taken taken
  taken_same k = grind (arith, place_same k)

  -- ---- zeros, digits and counts

  grants_none : (k : Component) → GrantsNone (rule k s)
  grants_none k = contiguous_grants k s.word (nothing k)

  zeros_same : (k : Component) → skip.zeros_of k s ≡ zeros plain
  zeros_same k = zeros_all (rule k s) (grants_none k) s.buffer s.cursor (own k s)

  past_same : (k : Component)
      → separators.past_zeros (rule k s) s.buffer s.cursor (own k s) ≡ s.cursor + zeros plain
  past_same k = past_zeros_all (rule k s) (grants_none k) s.buffer s.cursor (own k s) fits

  digit_same : (k : Component) (v : ℕ) → separators.is_digit (rule k s) v ≡ is_digit plain v
  unfolding separators.is_digit
  digit_same k v = grind (arith, ungranted.plain_word.one_radix)

  no_byte : has_no_separator s.word ≡ true
  no_byte = no_separator s.word ungranted.plain_word.no_separator

  -- ---- every call

  answers_same : (part : Part) (call : Op) → is_on_both part call ≡ true
      → (skip.row_of part call s).answer ≡ (row_of part call plain).answer
  unfolding skip.view
  answers_same OnBytes call h = grind (arith, and-true, no_byte)
  answers_same (On k) (StepBy n) h = rw (nothing k, and-true) (within_same _ s _ plain _)
  answers_same (On k) Step h = rw (nothing k, and-true) (within_same _ s _ plain _)
  answers_same (On k) (TakeN n) h = grind (arith, nothing k)
  answers_same (On k) CurrentCount h = rw (nothing k, no_byte) refl
  answers_same (On k) call h = grind (arith, nothing k, place_same k, zeros_same k, digit_same k)

  states_same : (part : Part) (call : Op) → is_on_both part call ≡ true
      → without_counts (skip.row_of part call s).state ≡ (row_of part call plain).state
  unfolding skip.after_view
  states_same part call h =
      grind (arith, and-true, no_byte, nothing, place_same, past_same, taken_same)

  agree : (part : Part) (call : Op) → is_on_both part call ≡ true
      → Agree (skip.row_of part call s) (row_of part call plain)
  agree part call h =
      record { answer = answers_same part call h; state = states_same part call h }

-- ---- lists of calls

pub record AgreeInAll (a : skip.Ran) (b : Ran) : Type 0 where
  pub answers : a.answers ≡ b.answers
  pub state : without_counts a.state ≡ b.state

runs_agree : (calls : List (Part × Op)) (s : State) → IsUngranted (without_counts s)
    → AllPass both_have calls → AgreeInAll (skip.run_of s calls) (run_of (without_counts s) calls)
runs_agree [] s u all = record { answers = refl; state = refl }
runs_agree (call ∷ calls) s u all =
    let row : Row = row_of call.0 call.1 (without_counts s) in
    let next : State = (skip.row_of call.0 call.1 s).state in
    let now : Agree (skip.row_of call.0 call.1 s) row =
    agree s u call.0 call.1 (all 0 call (omega arith)) in
    let left : IsUngranted (without_counts next) =
    subst IsUngranted (sym now.state) (stays call.0 call.1 (without_counts s) u) in
    let after : AgreeInAll (skip.run_of next calls) (run_of (without_counts next) calls) =
    runs_agree calls next left (λ k d l. all (suc k) d (omega (arith, l))) in
    let more = after.answers ∙ ap (λ (p : Plain). (run_of p calls).answers) now.state in
    record {
      answers =
          ap (λ (a : Answer). a ∷ (skip.run_of next calls).answers) now.answer
          ∙ ap (λ xs. row.answer ∷ xs) more;
      state = after.state ∙ ap (λ (p : Plain). (run_of p calls).state) now.state;
    }

pub fresh_agree : (buffer : List ℕ) (word : ℕ) → IsPlainWord word
    → (calls : List (Part × Op)) → AllPass both_have calls
    → AgreeInAll (skip.run_of (state.start buffer word) calls) (run_of (start buffer word) calls)
fresh_agree buffer word is calls all =
    runs_agree calls (state.start buffer word)
    (record { plain_word = is; within = omega arith }) all
