use Rattle.std.proofs.Common.{◌≡◌, ℕ, ◌+◌, ◌-◌, ◌*◌, slice_index, refl, ap, sym, ◌∙◌, arith}
use Rattle.std.specs.Str.Parse.{digits_value_after}
use Rattle.digit_values.specs.After.{digits_between}
use Rattle.digit_floats.proofs.EightDigits.{value_eight, joined}
use Rattle.digit_floats.proofs.eights.eight_more.Goals as goal

pub returns-clause-is : goal.returns-clause-is
returns-clause-is c =
    let rule = c.args.rule in
    let text = c.args.text.now in
    let at = c.args.at in
    let byte : ℕ → ℕ = λ k. slice_index text (at + k) - 48 in
    let worth : ℕ → ℕ = λ k.
    digits_value_after rule.radix c.args.before (digits_between rule text c.args.start k) in
    let none : worth (at + 0) ≡ c.args.value =
    ap worth {x = at + 0} {y = at} (omega arith) ∙ sym c.requires.value in
    let zero : slice_index text at - 48 ≡ byte 0 =
    ap (λ k. slice_index text k - 48) {x = at} {y = at + 0} (omega arith) in
    let three : slice_index text (at + 2 + 1) - 48 ≡ byte 3 =
    ap (λ k. slice_index text k - 48) {x = at + 2 + 1} {y = at + 3} (omega arith) in
    let five : slice_index text (at + 4 + 1) - 48 ≡ byte 5 =
    ap (λ k. slice_index text k - 48) {x = at + 4 + 1} {y = at + 5} (omega arith) in
    let seven : slice_index text (at + 6 + 1) - 48 ≡ byte 7 =
    ap (λ k. slice_index text k - 48) {x = at + 6 + 1} {y = at + 7} (omega arith) in
    joined c.args.value (worth (at + 0)) (byte 0) (byte 1) (byte 2) (byte 3) (byte 4) (byte 5)
    (byte 6) (byte 7) c.two_of.result c.two_of-2.result c.two_of-3.result c.two_of-4.result
    (worth (at + 8)) none (c.two_of.ensures.is ∙ ap (λ z. z * 10 + byte 1) zero)
    (c.two_of-2.ensures.is ∙ ap (λ z. byte 2 * 10 + z) three)
    (c.two_of-3.ensures.is ∙ ap (λ z. byte 4 * 10 + z) five)
    (c.two_of-4.ensures.is ∙ ap (λ z. byte 6 * 10 + z) seven)
    (value_eight rule text c.args.start c.args.before at c.requires.radix c.requires.onward
    c.requires.within c.requires.digits (byte 0) (byte 1) (byte 2) (byte 3) (byte 4) (byte 5)
    (byte 6) (byte 7) refl refl refl refl refl refl refl refl)
