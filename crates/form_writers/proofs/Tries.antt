-- What was written is tried.
use Rattle.std.proofs.Common.{◌≡◌, ℕ, ℤ, ◌*◌, ◌^◌, ◌<◌, ◌≤◌, Bool, false, List, length, take, drop, ap, subst, ◌∙◌, arith}
use Rattle.std.specs.Prelude.{Option, Some, None, Result, IfOk, IfNone, pos, negsuc, ◌-ℤ◌, ◌≤ℤ◌}
use Rattle.std.specs.Float.{Float, Format, float_with_sign, is_sign_negative}
use Rattle.std.proofs.Math.Seq.{take-append_seam}
use Rattle.digit_numbers.specs.declared.form.Form.{Form}
use Rattle.digit_numbers.specs.declared.number.Number.TheVariants as numbers
use Rattle.decimal_writers.specs.Room.{Writes}
use Rattle.decimal_writers.specs.Text.{plain_text, exponent_text, usual_text}
use Rattle.decimal_writers.specs.declared.room.NoRoom.{NoRoom}
use Rattle.decimal_writers.proofs.Lengths.{plain_fits, usual_fits, pointed_fits}
use Rattle.float_writers.proofs.ReadBack.{near}
use Rattle.float_writers.specs.Write.{IsShortest}
use Rattle.float_writers.specs.declared.decimal.Decimal.{Decimal}
use Rattle.form_writers.specs.Numbers.{IsNumberOf, HasNoText}

module _ (text old new : List ℕ) (written : Result ℕ NoRoom)
    (is : Writes text old new written) where
  tried : (P : List ℕ → Type 0) → length text ≤ length old
      → IfOk written (λ n. P (take n new)) → P text
  tried P room holds =
      let front : take (length text) new ≡ text =
      ap (take (length text)) (is.written room)
      ∙ take-append_seam text (drop (length text) old) in
      subst P front
      (subst (λ (r : Result ℕ NoRoom). IfOk r (λ n. P (take n new))) (is.ok room) holds)

-- a text that isn't accepted is none
if_none : {A B : Type 0} (r : Option ℕ) → (A → B) → IfNone r A → IfNone r B
if_none None f is = f is
if_none (Some n) f is = tt

module _ (form : Form) (f : Format) (x : Float) (negative : Bool) (digits : ℕ) (power : ℤ)
    (few : digits < 10 ^ 17) (least : negsuc 323 ≤ℤ power) (most : power ≤ℤ pos 309)
    (old new : List ℕ) (room : 328 ≤ length old) (written : Result ℕ NoRoom) (r : Option ℕ)
    (none : IfNone r (IfOk written (λ n. IsNumberOf form f (numbers.Float x) (take n new) → ⊥)))
  where
    pub usual_none : Writes (usual_text negative digits power) old new written
        → IfNone r (IsNumberOf form f (numbers.Float x) (usual_text negative digits power) → ⊥)
    usual_none is =
        let all : length (usual_text negative digits power) ≤ length old =
        omega (arith, room, usual_fits negative digits power few (near power least most)) in
        if_none r (tried (usual_text negative digits power) old new written is
        (λ (t : List ℕ). IsNumberOf form f (numbers.Float x) t → ⊥) all) none

    pub plain_none : Writes (plain_text negative digits power) old new written
        → IfNone r (IsNumberOf form f (numbers.Float x) (plain_text negative digits power) → ⊥)
    plain_none is =
        let all : length (plain_text negative digits power) ≤ length old =
        omega (arith, room, plain_fits negative digits power few least most) in
        if_none r (tried (plain_text negative digits power) old new written is
        (λ (t : List ℕ). IsNumberOf form f (numbers.Float x) t → ⊥) all) none

    pub pointed_none : Writes (exponent_text negative (digits * 10) (power -ℤ pos 1)) old new
        written
        → IfNone r (IsNumberOf form f (numbers.Float x)
        (exponent_text negative (digits * 10) (power -ℤ pos 1)) → ⊥)
    pointed_none is =
        let all : length (exponent_text negative (digits * 10) (power -ℤ pos 1)) ≤ length old =
        omega (arith, room, pointed_fits negative digits power few least most) in
        if_none r (tried (exponent_text negative (digits * 10) (power -ℤ pos 1)) old new written is
        (λ (t : List ℕ). IsNumberOf form f (numbers.Float x) t → ⊥) all) none

-- a float of which no text is accepted
pub no_text : (form : Form) (f : Format) (x : Float) (negative : Bool)
    → negative ≡ is_sign_negative x
    → (d : Decimal) → IsShortest f (float_with_sign false x) d → d.digits < 10 ^ 17
    → negsuc 323 ≤ℤ d.power → d.power ≤ℤ pos 309 → (r : Option ℕ)
    → (IsNumberOf form f (numbers.Float x) (usual_text negative d.digits d.power) → ⊥)
    → IfNone r (IsNumberOf form f (numbers.Float x)
    (exponent_text negative (d.digits * 10) (d.power -ℤ pos 1)) → ⊥)
    → IfNone r (IsNumberOf form f (numbers.Float x) (plain_text negative d.digits d.power) → ⊥)
    → IfNone r (HasNoText form f x)
no_text form f x negative sign d shortest few least most (Some n) usual pointed plain = tt
no_text form f x negative sign d shortest few least most None usual pointed plain = record {
  d = d;
  shortest = shortest;
  few = few;
  least = least;
  most = most;
  usual = subst (λ (b : Bool). IsNumberOf form f (numbers.Float x)
      (usual_text b d.digits d.power) → ⊥) sign usual;
  pointed = subst (λ (b : Bool). IsNumberOf form f (numbers.Float x)
      (exponent_text b (d.digits * 10) (d.power -ℤ pos 1)) → ⊥) sign pointed;
  plain = subst (λ (b : Bool). IsNumberOf form f (numbers.Float x)
      (plain_text b d.digits d.power) → ⊥) sign plain;
}

pub held : {A : Type 0} (r : Option ℕ) → A → IfNone r A
held None is = is
held (Some n) is = tt

pub never : (A B : Type 0) (r : Option ℕ) → (A → ⊥) → IfNone r (A → B)
never A B None not = λ is. absurd (not is)
never A B (Some n) not = tt
