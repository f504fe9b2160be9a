-- Lines that are added one by one.
use Rattle.std.proofs.Common.{◌≡◌, ◌≢◌, ℕ, All, Result, List, ◌+◌, ◌++◌, length, ◌<◌, ◌≤◌, take, refl, sym, ◌∙◌, ap, arith, Ok, Err, take-append-drop, append_assoc, drop}
use Rattle.std.proofs.lemmas.Bool.Decides.{nat_tests}
use Rattle.digit_totals.specs.declared.fault.LineFault.{LineFault}
use Rattle.digit_totals.specs.Lines.{lines_of, IsFirstLine, EndsWith}
use Rattle.digit_totals.specs.Report.{Adding, with_value, with_line, with_lines, continue, LeavesRest, Leaves}
use Rattle.digit_totals.proofs.FirstLine.{one_line}

-- ---- the end of a text

pub ends_with_drop : (text : List ℕ) (n : ℕ) → EndsWith text (drop n text)
ends_with_drop text n = (take n text, sym (take-append-drop n text))

pub ends_with_rest : (text middle rest : List ℕ) → EndsWith text middle → EndsWith middle rest
    → EndsWith text rest
ends_with_rest text middle rest (front, e) (more, f) =
    (front ++ more, e ∙ ap (λ bytes. front ++ bytes) f ∙ sym (append_assoc front more rest))

-- ---- lines

module _ {T V : Type 0} (a : Adding T V) where
  -- some, and then others
  pub leaves_more : (t u v : T) (text middle rest : List ℕ) → Leaves a t text u middle
      → Leaves a u middle v rest → Leaves a t text v rest
  leaves_more t u v text middle rest one other = record {
    leaves = λ more. one.leaves more ∙ other.leaves more;
    room = omega (arith, one.room, other.room);
    shorter = omega (arith, one.shorter, other.shorter);
    suffix = ends_with_rest text middle rest one.suffix other.suffix;
  }

  module _ (t : T) (text line rest : List ℕ) (first : IsFirstLine text line rest)
      (short : length line ≤ 65535) where
    same_line : with_line a t line ≡ with_value a t (a.value_of line)
    same_line = grind (arith, nat_tests, short)

    -- the first
    pub one_added : (u : T) → with_value a t (a.value_of line) ≡ Ok u
        → LeavesRest a t text u rest
    one_added u is = λ more.
        let e = first more in rw (e, same_line, is) refl

    pub one_leaves : (u : T) → with_value a t (a.value_of line) ≡ Ok u
        → a.count_of u ≡ a.count_of t + 1 → length rest < length text → EndsWith text rest
        → Leaves a t text u rest
    one_leaves u is count shorter suffix = record {
      leaves = one_added u is;
      room = omega (arith, count, shorter);
      shorter = omega (arith, shorter);
      suffix = suffix;
    }

  -- ---- the last line

  continue_last : (report : Result T LineFault) → continue a (λ u. Ok u) report ≡ report
  continue_last (Ok t) = refl
  continue_last (Err fault) = refl

  pub last_added : (t : T) (text : List ℕ) → 0 < length text
      → length text ≤ 65535 → All (λ byte. byte ≢ 10) text
      → with_lines a t (lines_of text) ≡ with_value a t (a.value_of text)
  last_added t text some short whole =
      let same : with_line a t text ≡ with_value a t (a.value_of text) =
      grind (arith, nat_tests, short) in
      ap (with_lines a t) (one_line text some whole)
      ∙ continue_last (with_line a t text) ∙ same
