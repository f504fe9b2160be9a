-- An input that is read piece by piece.
use Rattle.std.proofs.Common.{◌≡◌, ◌≢◌, ℕ, ◌+◌, ◌-◌, ◌<◌, ◌≤◌, ◌==◌, List, [], ◌∷◌, ◌++◌, All, length, take, drop, Some, None, Ok, Err, Result, refl, sym, ◌∙◌, ap, arith, append_assoc, append-nil, length-append, slice_range, subst, Bool, true, false, cond}
use Rattle.std.proofs.Math.Seq.{take-add, drop-append_seam}
use Rattle.std.proofs.lemmas.List.{length-take-le, drop-take}
use Rattle.std.specs.Prelude.{Option, ⊤, nat_lt, IfSome}
use Rattle.std.specs.Io.KnownBytes.{Consumes, IsAtEnd}
use Rattle.std.specs.List.{onto_first, position}
use Rattle.std.proofs.lemmas.Bool.Decides.{nat_tests}
use Rattle.std.proofs.lemmas.List.Elements.{All-head, All-tail, All-append}
use Rattle.digit_totals.proofs.FirstMark.{position_none}
use Rattle.digit_totals.specs.declared.fault.Fault.TheVariants.{Line}
use Rattle.digit_totals.specs.declared.fault.LineFault.{LineFault}
use Rattle.digit_totals.specs.declared.fault.LineFault.TheVariants.{Sum, LongLine}
use Rattle.digit_totals.specs.declared.fault.NumberError.{NumberError}
use Rattle.digit_totals.specs.Lines.{lines_of}
use Rattle.digit_totals.specs.Outcome.{Continues, SumsLines, with_front, of_lines}
use Rattle.digit_totals.specs.Report.{Adding, with_value, with_line, with_lines, report_of, continue, LeavesRest, EndsIn, MayEndIn}

-- ---- a line that is too long

-- the first line of a text has the bytes before its first line feed
pub record StartsLine (front text : List ℕ) : Type 0 where
  pub more : List ℕ
  pub others : List (List ℕ)
  pub lines : lines_of text ≡ (front ++ more) ∷ others

onto : (byte : ℕ) (lines : List (List ℕ)) → (first : List ℕ) × (others : List (List ℕ))
    × (onto_first byte lines ≡ (byte ∷ first) ∷ others)
onto byte [] = ([], [], refl)
onto byte (line ∷ lines) = (line, lines, refl)

pub starts_line : (front rest : List ℕ) → 0 < length front → All (λ byte. byte ≢ 10) front
    → StartsLine front (front ++ rest)
starts_line [] rest some whole = absurd (omega arith)
starts_line (byte ∷ []) rest some whole =
    let other = All-head (λ byte. byte ≢ 10) byte [] whole in
    let (first, others, e) = onto byte (lines_of rest) in
    record { more = first; others = others; lines = grind (arith, nat_tests, other, e) }
starts_line (byte ∷ next ∷ front) rest some whole =
    let other = All-head (λ byte. byte ≢ 10) byte (next ∷ front) whole in
    let s = starts_line (next ∷ front) rest (omega arith)
    (All-tail (λ byte. byte ≢ 10) byte (next ∷ front) whole) in
    record {
      more = s.more;
      others = s.others;
      lines = grind (arith, nat_tests, other, s.lines);
    }

module _ {T V : Type 0} (a : Adding T V) where
  too_long : (t : T) (front rest : List ℕ) → 65535 < length front
      → All (λ byte. byte ≢ 10) front
      → with_lines a t (lines_of (front ++ rest)) ≡ Err (LongLine (a.count_of t + 1))
  too_long t front rest long whole =
      let s = starts_line front rest (omega (arith, long)) whole in
      let fault : with_line a t (front ++ s.more) ≡ Err (LongLine (a.count_of t + 1)) =
      grind (arith, nat_tests, length-append front s.more, long) in
      rw (s.lines, fault) refl

  -- ---- how lines may end

  abbrev MayEndInResult : Result T LineFault → Type 0
  MayEndInResult (Ok t) = ⊤
  MayEndInResult (Err fault) = MayEndIn a fault

  cond_may : (b : Bool) (x y : Result T LineFault) → (b ≡ true → MayEndInResult x)
      → (b ≡ false → MayEndInResult y) → MayEndInResult (cond b x y)
  cond_may true x y p q = p refl
  cond_may false x y p q = q refl

  value_may : (t : T) (value : Result V NumberError) → MayEndInResult (with_value a t value)
  value_may t (Ok value) =
      cond_may (a.fits t value) (Ok (a.plus t value)) (Err (Sum (a.count_of t + 1))) (λ _. tt)
      (λ none. (t, value, none))
  value_may t (Err error) = tt

  line_may : (t : T) (line : List ℕ) → MayEndInResult (with_line a t line)
  line_may t line =
      cond_may (nat_lt 65535 (length line)) (Err (LongLine (a.count_of t + 1)))
      (with_value a t (a.value_of line)) (λ _. tt) (λ _. value_may t (a.value_of line))

  continue_may : (rest : T → Result T LineFault) (report : Result T LineFault)
      → MayEndInResult report → ((u : T) → MayEndInResult (rest u))
      → MayEndInResult (continue a rest report)
  continue_may rest (Ok u) p q = q u
  continue_may rest (Err fault) p q = p

  lines_may : (t : T) (lines : List (List ℕ)) → MayEndInResult (with_lines a t lines)
  lines_may t [] = tt
  lines_may t (line ∷ lines) =
      continue_may (λ u. with_lines a u lines) (with_line a t line) (line_may t line)
      (λ u. lines_may u lines)

  may_end : (t : T) (lines : List (List ℕ)) (fault : LineFault)
      → with_lines a t lines ≡ Err fault → MayEndIn a fault
  may_end t lines fault e = subst MayEndInResult e (lines_may t lines)

  -- ---- pieces

  pub at_start : (x : Option (List ℕ)) (bytes : List ℕ) (t : T) → t ≡ a.none
      → Continues a (with_front bytes x) x bytes t
  at_start None bytes t e = tt
  at_start (Some text) bytes t e = rw e refl

  pub read_on : (x y z : Option (List ℕ)) (pending bytes more : List ℕ) (t : T)
      → Continues a x y pending t → Consumes y z bytes → more ≡ pending ++ bytes
      → Continues a x z more t
  read_on None y z pending bytes more t p q e = tt
  read_on (Some text) None z pending bytes more t p q e = absurd p
  read_on (Some text) (Some rest) None pending bytes more t p q e = absurd q
  read_on (Some text) (Some rest) (Some left) pending bytes more t p q e =
      p ∙ ap (λ xs. with_lines a t (lines_of xs))
      (ap (λ xs. pending ++ xs) q ∙ sym (append_assoc pending bytes left)
      ∙ ap (λ xs. xs ++ left) (sym e))

  pub add_on : (x y : Option (List ℕ)) (pending rest : List ℕ) (t u : T)
      → Continues a x y pending t → LeavesRest a t pending u rest
      → Continues a x y rest u
  add_on None y pending rest t u p leaves = tt
  add_on (Some text) None pending rest t u p leaves = absurd p
  add_on (Some text) (Some left) pending rest t u p leaves = p ∙ leaves left

  -- the known bytes have this report, without a header
  abbrev Gives : Option (List ℕ) → Result T LineFault → Type 0
  Gives x report = IfSome x (λ text. report_of a text ≡ report)

  faults_at : (x y : Option (List ℕ)) (pending : List ℕ) (t : T) (fault : LineFault)
      → Continues a x y pending t → EndsIn a t pending fault
      → Gives x (Err fault)
  faults_at None y pending t fault p ends = tt
  faults_at (Some text) None pending t fault p ends = absurd p
  faults_at (Some text) (Some left) pending t fault p ends = p ∙ ends left

  pub faults : (x y : Option (List ℕ)) (pending : List ℕ) (t : T) (fault : LineFault)
      → Continues a x y pending t → EndsIn a t pending fault
      → SumsLines a x (Err (Line fault))
  faults x y pending t fault p ends =
      (may_end t (lines_of (pending ++ [])) fault (ends []), faults_at x y pending t fault p ends)

  pub long_line : (x y : Option (List ℕ)) (pending : List ℕ) (t : T)
      → Continues a x y pending t → 65535 < length pending
      → All (λ byte. byte ≢ 10) pending
      → SumsLines a x (Err (Line (LongLine (a.count_of t + 1))))
  long_line x y pending t p long whole =
      faults x y pending t (LongLine (a.count_of t + 1)) p
      (λ more. too_long t pending more long whole)

  at_end : (x y z : Option (List ℕ)) (pending : List ℕ) (t : T)
      (report : Result T LineFault) → Continues a x y pending t → Consumes y z []
      → IsAtEnd z → report ≡ with_lines a t (lines_of pending) → Gives x report
  at_end None y z pending t report p q end is = tt
  at_end (Some text) None z pending t report p q end is = absurd p
  at_end (Some text) (Some rest) None pending t report p q end is = absurd q
  at_end (Some text) (Some rest) (Some left) pending t report p q end is =
      p ∙ ap (λ xs. with_lines a t (lines_of xs))
      (ap (λ xs. pending ++ xs) (q ∙ end) ∙ append-nil pending)
      ∙ sym is

  pub sums_end : (x y z : Option (List ℕ)) (pending : List ℕ) (t : T)
      (report : Result T LineFault) → Continues a x y pending t → Consumes y z []
      → IsAtEnd z → report ≡ with_lines a t (lines_of pending)
      → SumsLines a x (of_lines report)
  sums_end x y z pending t (Ok u) p q end is = at_end x y z pending t (Ok u) p q end is
  sums_end x y z pending t (Err fault) p q end is =
      (may_end t (lines_of pending) fault (sym is), at_end x y z pending t (Err fault) p q end is)

-- ---- the buffer

-- what was there, and then what was read
pub joined : (old new : List ℕ) (filled count : ℕ) → take filled new ≡ take filled old
    → take (filled + count) new ≡ take filled old ++ take count (drop filled new)
joined old new filled count kept =
    take-add filled count new ∙ ap (λ xs. xs ++ take count (drop filled new)) kept

-- what is left of a part of the buffer
pub left_is : (buffer front rest : List ℕ) (end : ℕ) → end ≤ length buffer
    → take end buffer ≡ front ++ rest
    → slice_range buffer (end - length rest) end ≡ rest
left_is buffer front rest end within e =
    let long = length-take-le end buffer within in
    let both : length front + length rest ≡ end =
    sym (length-append front rest) ∙ ap length (sym e) ∙ long in
    let start : end - length rest ≡ length front = omega (arith, both) in
    let count : end - length front ≡ length rest = omega (arith, both) in
    rw (start, count)
    (sym (drop-take (length front) (length rest) buffer)
    ∙ ap (λ n. drop (length front) (take n buffer)) both
    ∙ ap (drop (length front)) e ∙ drop-append_seam front rest)

-- no line feed is in either part of the front of the buffer
pub both_whole : (buffer : List ℕ) (filled end : ℕ) → filled ≤ end
    → All (λ byte. byte ≢ 10) (take filled buffer)
    → position (λ byte. byte == 10) (take (end - filled) (drop filled buffer)) ≡ None
    → All (λ byte. byte ≢ 10) (take end buffer)
both_whole buffer filled end order whole none =
    let span : filled + (end - filled) ≡ end = omega (arith, order) in
    let split : take end buffer ≡ take filled buffer ++ take (end - filled) (drop filled buffer) =
    ap (λ n. take n buffer) (sym span) ∙ take-add filled (end - filled) buffer in
    rw split (All-append (λ byte. byte ≢ 10) (take filled buffer) _ whole
    (position_none 10 _ none))

-- what is left of a part of the buffer, moved to its front
pub kept_is : (old new front rest : List ℕ) (end : ℕ) → end ≤ length old
    → take end old ≡ front ++ rest
    → take (end - (end - length rest)) new ≡ slice_range old (end - length rest) end
    → take (length rest) new ≡ rest
kept_is old new front rest end within e moved =
    let both : length front + length rest ≡ end =
    sym (length-append front rest) ∙ ap length (sym e) ∙ length-take-le end old within in
    let span : end - (end - length rest) ≡ length rest = omega (arith, both) in
    ap (λ n. take n new) (sym span) ∙ moved ∙ left_is old front rest end within e
