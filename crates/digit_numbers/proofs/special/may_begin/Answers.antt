use Rattle.std.proofs.Common.{◌≡◌, ℕ, ◌+◌, ◌-◌, ◌<◌, ◌≤◌, ◌∙◌, Bool, false, List, [], length, drop, get_or, Option, ap, arith, rules}
use Rattle.std.specs.Prelude.{filter}
use Rattle.std.proofs.lemmas.List.{drop_more}
use Rattle.digit_numbers.specs.declared.form.Special.{Special}
use Rattle.digit_numbers.specs.declared.form.Specials.{Specials}
use Rattle.digit_numbers.specs.Specials.{is_here, last_of, name_end, names_of, special_at}
use Rattle.digit_numbers.proofs.special.may_begin.Goals as goal

one_more : (p : Special → Bool) (names : List Special) (i : ℕ) (d : Special)
    → 0 < i → i ≤ length names → p (get_or names (i - 1) d) ≡ false
    → filter p (drop i names) ≡ [] → filter p (drop (i - 1) names) ≡ []
one_more p names i d some within not_one none =
    let same : i - 1 + 1 ≡ i = omega (arith, some) in
    rw (drop_more names (i - 1) d (omega (arith, some, within)), same, not_one) none

pub loop-i-preserved : goal.loop-i-preserved
loop-i-preserved c is_signed is_minus =
    one_more (is_here c.args.form c.args.text.now c.args.at is_signed is_minus)
    c.args.specials.names c.loop-i.i _ (omega (arith, c.loop-i-test.true)) (search rules)
    (c.may_be_here.ensures c.if-may_be_here.false is_signed is_minus)
    (c.loop-i.invariant is_signed is_minus)

pub returns : goal.returns
unfolding special_at
returns c e is_signed is_minus =
    let f = c.args.form in
    let text = c.args.text.now in
    let at = c.args.at in
    let first : c.loop-i.i ≡ 0 = omega (arith, c.loop-i-test.false) in
    let all = rw first at (c.loop-i.invariant is_signed is_minus) in
    let here = is_here f text at is_signed is_minus in
    let last : Option Specials → Option Special =
    λ o. last_of (name_end f text at) (filter here (names_of o)) in
    ap last c.requires.specials
    ∙ ap (λ (l : List Special). last_of (name_end f text at) l) all
