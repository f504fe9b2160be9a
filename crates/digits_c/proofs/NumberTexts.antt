-- The text of a number by a form isn't empty, so an answer above 0 says that it is there.
use Rattle.std.proofs.Common.{◌≡◌, ℕ, ◌≤◌, List, [], ◌∷◌, length, take, drop, refl, sym, ap, subst, arith}
use Rattle.std.specs.Prelude.{Result, Ok, Err, IfOk, IfErr}
use Rattle.std.specs.Result.{result_unwrap_or}
use Rattle.std.specs.Float.{Float, binary64}
use Rattle.digits.specs.NumberErrors.{Empty}
use Rattle.digits.specs.Words.{Form, FormTextError, IsFormReason, IsNumberOf, Number, number_of_at, number_to_end}
use Rattle.digits_c.specs.Texts.{PutsNumber}

no_text : (text : List ℕ) → length text ≡ 0 → text ≡ []
no_text [] none = refl
no_text (byte ∷ bytes) none = absurd (omega (arith, none))

-- where no number is in an empty text
never_empty : (form : Form) (number : Number Float) (text : List ℕ)
    → number_of_at form [] 0 binary64 ≡ Err (Empty 0) → IsNumberOf form binary64 number text
    → length text ≡ 0 → ⊥
never_empty form number text nothing is none =
    let there = subst (IsNumberOf form binary64 number) (no_text text none) is in
    let refused = ap (number_to_end []) nothing in
    let read = there.is in cc

module _ (form : Form) (number : Number Float) (old new : List ℕ)
    (nothing : number_of_at form [] 0 binary64 ≡ Err (Empty 0)) where
  pub number_by : (r : Result ℕ FormTextError) (count : ℕ) → count ≡ result_unwrap_or r 0
      → IfOk r (λ n. IsNumberOf form binary64 number (take n new))
      → IfOk r (λ n. n ≤ length old) → IfOk r (λ n. drop n new ≡ drop n old)
      → IfErr r (IsFormReason form binary64 number (length old)) → IfErr r (λ _. new ≡ old)
      → PutsNumber form number old new count
  number_by (Ok end) count is reads within rest none unchanged =
      subst (PutsNumber form number old new) (sym is)
      (record {
        reads = λ some. reads;
        within = within;
        rest = rest;
        none = λ zero.
            absurd (never_empty form number (take end new) nothing reads
            (ap (λ (n : ℕ). length (take n new)) zero));
      })
  number_by (Err error) count is reads within rest none unchanged =
      subst (PutsNumber form number old new) (sym is)
      (record {
        reads = λ some. absurd (omega (arith, some));
        within = omega arith;
        rest = ap (drop 0) unchanged;
        none = λ zero. (error, none);
      })
