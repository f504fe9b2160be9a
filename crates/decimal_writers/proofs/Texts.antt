-- Whole texts.
use Rattle.std.proofs.Common.{◌≡◌, ℕ, ◌+◌, ◌<◌, ◌≤◌, Bool, true, false, List, ◌++◌, length, drop, refl, sym, ap, subst, ◌∙◌, arith, append_assoc, length-append}
use Rattle.std.specs.Prelude.{Result, Ok, Err}
use Rattle.std.specs.Fmt.{sign_text}
use mir.Val.{bool_byte}
use Rattle.decimal_writers.specs.declared.room.NoRoom.{NoRoom}
use Rattle.decimal_writers.specs.Room.{Writes}

pub sign_long : (negative : Bool) → length (sign_text negative) ≡ bool_byte negative
sign_long true = refl
sign_long false = refl

module _ (negative : Bool) (body old : List ℕ) (len : ℕ)
    (long : len ≡ bool_byte negative + length body) where
  whole : length (sign_text negative ++ body) ≡ len
  whole = length-append (sign_text negative) body ∙ omega (arith, sign_long negative, long)

  pub writes_none : length old < len
      → Writes (sign_text negative ++ body) old old (Err (record { needed = len }))
  writes_none few = record {
    written = λ room. absurd (omega (arith, whole, room));
    ok = λ room. absurd (omega (arith, whole, room));
    no_room = λ _. ap (λ (x : ℕ). Err (record { needed = x })) (sym whole);
    unchanged = λ _. refl;
  }

  pub writes_text : (start : ℕ) (mid new : List ℕ) → len ≤ length old → start + length body ≡ len
      → drop start mid ≡ body ++ drop len old
      → new ≡ sign_text negative ++ drop (length (sign_text negative)) mid
      → Writes (sign_text negative ++ body) old new (Ok len)
  writes_text start mid new fits starts is front =
      let at : length (sign_text negative) ≡ start =
      omega (arith, sign_long negative, starts, long) in
      record {
        written = λ _.
            front
            ∙ ap (λ (x : ℕ). sign_text negative ++ drop x mid) at
            ∙ ap (λ (ds : List ℕ). sign_text negative ++ ds) is
            ∙ sym (append_assoc (sign_text negative) body (drop len old))
            ∙ ap (λ (x : ℕ). (sign_text negative ++ body) ++ drop x old) (sym whole);
        ok = λ _. ap Ok (sym whole);
        no_room = λ few. absurd (omega (arith, whole, few));
        unchanged = λ few. absurd (omega (arith, whole, few));
      }

-- of two parts, of which the second was written first
module _ (negative : Bool) (first second old : List ℕ) (len : ℕ)
    (long : len ≡ bool_byte negative + length first + length second) where
  both : len ≡ bool_byte negative + length (first ++ second)
  both = omega (arith, long, length-append first second)

  pub writes_no_parts : length old < len
      → Writes (sign_text negative ++ (first ++ second)) old old (Err (record { needed = len }))
  writes_no_parts few = writes_none negative (first ++ second) old len both few

  pub writes_parts : (start middle : ℕ) (one mid new : List ℕ) → len ≤ length old
      → middle + length second ≡ len → start + length first ≡ middle
      → drop middle one ≡ second ++ drop len old → drop start mid ≡ first ++ drop middle one
      → new ≡ sign_text negative ++ drop (length (sign_text negative)) mid
      → Writes (sign_text negative ++ (first ++ second)) old new (Ok len)
  writes_parts start middle one mid new fits ends starts is_second is_first front =
      writes_text negative (first ++ second) old len both start mid new fits
      (omega (arith, ends, starts, length-append first second))
      (is_first ∙ ap (λ (ds : List ℕ). first ++ ds) is_second
      ∙ sym (append_assoc first second (drop len old)))
      front

pub regroup : {old new : List ℕ} {result : Result ℕ NoRoom} (sign first second : List ℕ)
    → Writes (sign ++ (first ++ second)) old new result
    → Writes (sign ++ first ++ second) old new result
regroup {old} {new} {result} sign first second is =
    subst (λ (ds : List ℕ). Writes ds old new result) (sym (append_assoc sign first second)) is

pub ruleset written = (writes_none, writes_text, sign_long)
