-- One call of `next`.
use Rattle.std.proofs.Common.{◌≡◌, ℕ, ◌+◌, ◌<◌, ◌≤◌, Some, None, List, ◌∷◌, length, drop, get_or, refl, sym, ap, ◌∙◌, arith, length-drop, ◌⊎◌, inl, inr}
use Rattle.std.specs.Borrow.{Bor}
use Rattle.std.specs.Prelude.{slice_get}
use Rattle.std.proofs.lemmas.Bool.{cases_lt}
use Rattle.std.proofs.lemmas.List.{drop_more, drop_all}
use Rattle.std.proofs.lemmas.Option.{slice_get_within, slice_get-get_or, get_or_from_slice_get}
use Rattle.lexical_plain.specs.Plain.{Plain, IsPlain, with_cursor, first, rest, bytes_left, Takes}
use Rattle.lexical_plain.specs.Laws.{taken_some, taken_none}

none_past : (xs : List ℕ) (i : ℕ) → None ≡ slice_get xs i → length xs ≤ i
none_past xs i e = here (cases_lt i (length xs))
  where
    here : (i < length xs) ⊎ (length xs ≤ i) → length xs ≤ i
    here (inl l) = let there = slice_get-get_or xs i 0 l in cc
    here (inr l) = l

pub takes_none : (s : Plain) → IsPlain s → None ≡ first s → Takes s s None
takes_none s v e =
    let stop : length s.buffer ≤ s.cursor = none_past s.buffer s.cursor e in
    let at_end : s.cursor ≡ length s.buffer = omega (arith, v.within) in
    record {
      byte = e;
      takes = sym (taken_none s stop);
      drains = (drop_all s.cursor s.buffer stop, drop_all s.cursor s.buffer stop);
      leaves = refl;
      ends = ap (λ (i : ℕ). with_cursor s i) at_end;
    }

pub takes_some : (s : Plain) (item : Bor ℕ) → Some item.now ≡ first s
    → Takes s (with_cursor s (s.cursor + 1)) (Some item)
takes_some s item e =
    let within : s.cursor < length s.buffer =
    slice_get_within s.buffer s.cursor item.now (sym e) in
    let byte : get_or s.buffer s.cursor 0 ≡ item.now =
    get_or_from_slice_get s.buffer s.cursor item.now 0 (sym e) in
    record {
      byte = e;
      takes = sym (taken_some s within);
      drains =
          drop_more s.buffer s.cursor 0 within
          ∙ ap (λ (b : ℕ). b ∷ drop (s.cursor + 1) s.buffer) byte;
      leaves = refl;
      ends = omega arith;
    }

pub ruleset takes = (takes_none, takes_some)

-- each byte that `next` answers leaves one byte less
pub fewer_left : (s t : Plain) (byte : ℕ) → rest s ≡ byte ∷ rest t → bytes_left t < bytes_left s
fewer_left s t byte e =
    let longer = ap length e in
    omega (arith, length-drop s.cursor s.buffer, length-drop t.cursor t.buffer)
