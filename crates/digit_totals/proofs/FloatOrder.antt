-- The totals of floats, found one by one.
use Rattle.std.proofs.Common.{◌≡◌, ℕ, zero, suc, ◌<◌, ◌==◌, Bool, true, false, cond, List, [], ◌∷◌, ◌++◌, All, length, refl, sym, ◌∙◌, ap, arith, subst, append_assoc, append-nil, length-append}
use Rattle.std.specs.Prelude.{fold, Contains, ◌||◌, T}
use Rattle.std.specs.Float.{binary64}
use Rattle.std.specs.Float.Ieee.{Float, add, lt}
use Rattle.std.proofs.lemmas.Bool.Decides.{nat_tests}
use Rattle.std.proofs.lemmas.Float.{lt_irrefl, lt_trans}
use Rattle.std.proofs.lemmas.List.Elements.{All-cons, All-nil, All-append, All-weaker, Contains-push, Contains-append_left}
use Rattle.std.proofs.lemmas.List.Sums.{fold_push}
use mathlib.Core.Bool.{true≢false}
use Rattle.digit_totals.specs.declared.totals.FloatTotals.{FloatTotals}
use Rattle.digit_totals.specs.declared.options.FloatOptions.{FloatOptions}
use Rattle.digit_totals.specs.Floats.{no_floats, plus, adding}
use Rattle.digit_totals.specs.Meaning.{AreFloatTotalsOf, float_sum_of}
use Rattle.digit_totals.proofs.Meaning.{Counts}

-- ---- the first of some values by an order

module _ (R : Float → Float → Bool) (irreflexive : (x : Float) → R x x ≡ false)
    (transitive : (x y z : Float) → R x y ≡ true → R y z ≡ true → R x z ≡ true) where
  -- one of some values, before which none is
  record IsBest (values : List Float) (best : Float) : Type 0 where
    none : All (λ value. R value best ≡ false) values
    one : 0 < length values → Contains values best

  stays : (w value best : Float) → R value best ≡ true → R w best ≡ false → R w value ≡ false
  stays w value best k h = go (R w value) refl
    where
      go : (b : Bool) → R w value ≡ b → b ≡ false
      go true e = absurd (true≢false (sym (transitive w value best e k) ∙ h))
      go false e = refl

  only : (value : Float) → All (λ w. R w value ≡ false) (value ∷ [])
  only value = All-cons (λ w. R w value ≡ false) value [] (irreflexive value)
      (All-nil (λ w. R w value ≡ false))

  next : (seen : List Float) (best value : Float) → 0 < length seen → IsBest seen best
      → (b : Bool) → R value best ≡ b → IsBest (seen ++ value ∷ []) (cond b value best)
  next seen best value some h true e = record {
    none = All-append (λ w. R w value ≡ false) seen (value ∷ [])
        (All-weaker (λ w. R w best ≡ false) (λ w. R w value ≡ false)
        (λ w. stays w value best e) seen h.none) (only value);
    one = λ more. Contains-push seen value;
  }
  next seen best value some h false e = record {
    none = All-append (λ w. R w best ≡ false) seen (value ∷ []) h.none
        (All-cons (λ w. R w best ≡ false) value [] e (All-nil (λ w. R w best ≡ false)));
    one = λ more. Contains-append_left seen (value ∷ []) best (h.one some);
  }

  better : (n : ℕ) (seen : List Float) (best value : Float) → n ≡ length seen → IsBest seen best
      → IsBest (seen ++ value ∷ []) (cond ((n == 0) || R value best) value best)
  better zero [] best value e h = record {
    none = only value;
    one = λ more. Contains-push [] value;
  }
  better zero (w ∷ seen) best value e h = absurd (omega (arith, e))
  better (suc n) [] best value e h = absurd (omega (arith, e))
  better (suc n) (w ∷ seen) best value e h =
      let more : (suc n == 0) ≡ false = grind (arith, nat_tests) in
      subst (λ b. IsBest ((w ∷ seen) ++ value ∷ []) (cond (b || R value best) value best))
      (sym more) (next (w ∷ seen) best value (omega arith) h (R value best) refl)

-- ---- the order of floats

is_false : (b : Bool) → (T b → ⊥) → b ≡ false
is_false true h = absurd (h tt)
is_false false h = refl

is_true : (b : Bool) → T b → b ≡ true
is_true true h = refl
is_true false h = absurd h

holds : (b : Bool) → b ≡ true → T b
holds true e = tt
holds false e = absurd (true≢false (sym e))

not_below_itself : (x : Float) → lt x x ≡ false
not_below_itself x = is_false (lt x x) (lt_irrefl x)

below : (x y z : Float) → lt x y ≡ true → lt y z ≡ true → lt x z ≡ true
below x y z e f = is_true (lt x z) (lt_trans x y z (holds (lt x y) e) (holds (lt y z) f))

abbrev after : Float → Float → Bool
after x y = lt y x

above : (x y z : Float) → after x y ≡ true → after y z ≡ true → after x z ≡ true
above x y z e f = below z y x f e

-- ---- totals

record Have (seen : List Float) (t : FloatTotals) : Type 0 where
  count : t.count ≡ length seen
  sum : t.sum ≡ float_sum_of seen
  least : IsBest lt not_below_itself below seen t.least
  greatest : IsBest after not_below_itself above seen t.greatest

one_more : (seen : List Float) (t : FloatTotals) (value : Float) → Have seen t
    → Have (seen ++ value ∷ []) (plus t value)
one_more seen t value h = record {
  count = omega (arith, h.count, length-append seen (value ∷ []));
  sum =
      ap (λ s. add binary64 s value) h.sum
      ∙ sym (fold_push (add binary64) no_floats.sum seen value);
  least = better lt not_below_itself below t.count seen t.least value h.count h.least;
  greatest = better after not_below_itself above t.count seen t.greatest value h.count h.greatest;
}

all_more : (values seen : List Float) (t : FloatTotals) → Have seen t
    → Have (seen ++ values) (fold plus t values)
all_more [] seen t h = subst (λ vs. Have vs t) (sym (append-nil seen)) h
all_more (value ∷ values) seen t h =
    subst (λ vs. Have vs (fold plus (plus t value) values))
    (append_assoc seen (value ∷ []) values)
    (all_more values (seen ++ value ∷ []) (plus t value) (one_more seen t value h))

at_first : Have [] no_floats
at_first = record {
  count = refl;
  sum = refl;
  least = record {
    none = All-nil (λ w. lt w no_floats.least ≡ false);
    one = λ some. absurd (omega (arith, some));
  };
  greatest = record {
    none = All-nil (λ w. lt no_floats.greatest w ≡ false);
    one = λ some. absurd (omega (arith, some));
  };
}

pub totals_of : (values : List Float) → AreFloatTotalsOf values (fold plus no_floats values)
totals_of values =
    let h = all_more values [] no_floats at_first in
    record {
      count = h.count;
      sum = h.sum;
      least = h.least.none;
      least_of = h.least.one;
      greatest = h.greatest.none;
      greatest_of = h.greatest.one;
    }

pub counts : (options : FloatOptions) → Counts (adding options)
counts options = record { none = refl; more = λ t value. refl }
