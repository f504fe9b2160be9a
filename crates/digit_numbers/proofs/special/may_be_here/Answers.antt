use Rattle.std.proofs.Common.{◌≡◌, ℕ, zero, suc, ◌<◌, ◌∙◌, Bool, false, List, [], length, get_or, refl, sym, arith}
use Rattle.std.specs.Prelude.{◌&&◌, nat_lt}
use Rattle.lexical_digits.specs.declared.skip.component.Component.TheVariants as components
use Rattle.lexical_digits.specs.Separators.{place}
use Rattle.lexical_digits.specs.State.{rule_of}
use Rattle.digit_numbers.specs.declared.form.Form.{Form}
use Rattle.digit_numbers.specs.declared.form.Special.{Special}
use Rattle.digit_numbers.specs.Specials.{begins, bytes_of, is_here, same_by}
use Rattle.digit_numbers.proofs.NamesAt.{bytes_none, place_again, starts_first, starts_not}
use Rattle.digit_numbers.proofs.special.may_be_here.Goals as goal

module _ (f : Form) (text : List ℕ) (at : ℕ) (s : Special) (l : 0 < length s.name) where
  abbrev word : ℕ
  word = f.integers.decimal

  abbrev first : ℕ
  first = place (rule_of word components.Special) text at 0

  not_here : (n : ℕ) → get_or s.name 0 0 ≡ n
      → (nat_lt first (length text) && same_by f.specials (get_or s.name 0 0) (get_or text first 0))
      ≡ false
      → (is_signed is_minus : Bool) → is_here f text at is_signed is_minus s ≡ false
  unfolding is_here
  not_here zero e h is_signed is_minus =
      let none : bytes_of s.name ≡ [] = bytes_none word text f.specials s.name 0 l e in
      rw none refl
  not_here (suc n) e h is_signed is_minus =
      let more : get_or s.name 0 0 ≡ 0 → ⊥ = λ z. absurd (omega (arith, e, z)) in
      let no : begins f text at s.name ≡ false =
      starts_first word text f.specials s.name at
      ∙ starts_not word text f.specials s.name first 0 l more (place_again word text at) h in
      grind (arith, no)

pub returns : goal.returns
returns c false_here =
    let l : 0 < length c.args.special.name = grind arith in
    not_here c.args.form c.args.text.now c.args.at c.args.special l _ refl
    (rw (← c.requires.first) (sym c.has_same.ensures ∙ false_here))
