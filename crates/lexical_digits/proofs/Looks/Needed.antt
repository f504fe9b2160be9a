-- After a read no run has to be looked for where it arrived.
use Rattle.std.proofs.Common.{◌≡◌, ◌-◌, true, false, length, sym, ◌∙◌, arith}
use Rattle.lexical_digits.specs.Laws.Terms.{Component, Rule, separator, State, rule, own, is_kept, place_of, settled, separator_at, Held, Costs, needs_run, cases_lt}
use Rattle.lexical_digits.specs.Laws.Kept.{place_kept, place_end}
use Rattle.lexical_digits.proofs.Rule.Runs.{place_past_run}
use Rattle.lexical_digits.proofs.Rule.Supported.{supported_rule}
use Rattle.lexical_digits.proofs.Looks.Owed.{separator_of}
use Rattle.lexical_digits.proofs.Looks.WhereSeparatorsStand.{holds_separator_at}

-- where no separator is
pub none_needed : (k : Component) (b : Held)
    → separator_at (separator b.state.word) b.state.buffer b.state.cursor ≡ false
    → needs_run k b ≡ false
none_needed k b other = grind (arith, separator_of k b.state.word)

-- nor without the consecutive flag
single_needs : (k : Component) (b : Held) → (rule k b.state).consecutive ≡ false
    → needs_run k b ≡ false
single_needs k b single = grind (arith, single)

module _ (k : Component) (a b : Held) (costs : Costs k a b) where
  abbrev r : Rule
  r = rule k a.state

  abbrev s : State
  s = a.state

  -- where it stays
  stays : b.state ≡ s → needs_run k b ≡ false
  stays same = grind (arith, costs.needed, costs.unscanned)

  kept_place : is_kept r s.buffer s.cursor (own k s) s.cursor ≡ true → place_of k s ≡ s.cursor
  unfolding place_of
  kept_place e = grind (
    arith,
    place_kept r s.buffer s.cursor (own k s),
    place_end r s.buffer s.cursor (own k s),
    cases_lt s.cursor (length s.buffer),
    a.holds.within,
  )

  past_place : r.consecutive ≡ true → is_kept r s.buffer s.cursor (own k s) s.cursor ≡ false
      → separator_at r.separator s.buffer (place_of k s) ≡ false
  unfolding place_of
  past_place many e =
      sym (holds_separator_at r s.buffer (supported_rule s.word k a.holds.word) (place_of k s))
      ∙ place_past_run r s.buffer many (length s.buffer - s.cursor) s.cursor (own k s)
      (omega (arith, a.holds.within)) e

  pub arrived : b.state ≡ settled k s → needs_run k b ≡ false
  arrived settles =
      grind (
        arith,
        stays,
        kept_place,
        past_place,
        single_needs k b,
        none_needed k b,
        separator_of k s.word,
      )
