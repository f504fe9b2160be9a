-- A price that was written is read: its integer is in groups of three digits.
use Rattle.std.proofs.Common.{◌≡◌, ℕ, ℤ, zero, suc, ◌+◌, ◌-◌, ◌/◌, ◌%◌, ◌^◌, ◌<◌, ◌≤◌, Bool, true, false, List, [], ◌∷◌, ◌++◌, length, take, drop, get_or, refl, sym, ap, subst, ◌∙◌, inl, inr, arith, append-nil, true≢false, length-append}
use Rattle.std.specs.Prelude.{Result, Ok, Err, IfOk, Some, None, decimal, if◌then◌else◌, ◌==◌}
use Rattle.std.specs.List.{All, slice_split, splice}
use Rattle.std.specs.Str.Parse.{AllDigits}
use Rattle.std.proofs.lemmas.Bool.{cases_lt}
use Rattle.std.proofs.lemmas.Bool.Decides.{nat_tests}
use Rattle.std.proofs.lemmas.Fmt.{decimal_is_IsNumeral_wide}
use Rattle.std.proofs.lemmas.List.{take-append-drop, length-take-le, length-drop, nil_from_length}
use Rattle.std.proofs.lemmas.List.Elements.{All-nil, All-cons, All-take, All-drop}
use Rattle.std.proofs.lemmas.List.Splits.{slice_split_at, slice_split_none}
use Rattle.std.proofs.lemmas.Option.{gets}
use Rattle.lexical_digits.specs.declared.skip.component.Component.TheVariants.{Integer}
use Rattle.lexical_digits.specs.declared.skip.rule.Rule.{Rule}
use Rattle.lexical_digits.specs.Separators.{is_digit, is_separator, IsSupported}
use Rattle.lexical_digits.specs.State.{rule_of}
use Rattle.lexical_digits.proofs.Rule.Supported.{supported_rule}
use Rattle.digit_integers.specs.Numbers.{signed, digits_from}
use Rattle.digit_amounts.specs.Groups.{is_group, wrong_of, wrong_at}
use Rattle.digit_amounts.specs.Prices.{price_at, any_at, of_number, if_exact, if_grouped, places_at}
use Rattle.decimal_writers.specs.declared.room.NoRoom.{NoRoom}
use Rattle.digit_writers.specs.Amounts.{fraction_text, magnitude_text, ReadsPrices}
use Rattle.digit_writers.specs.Layouts.{grouped, before, thousands, sign_of}
use Rattle.digit_writers.proofs.AmountReading.{AreDigitsOf, digits_of_whole, amount_is_read, whole_bytes, places_are, first_of, quotient_few}
use Rattle.digit_writers.proofs.Grouped.{group_front, some_before}
use Rattle.digit_writers.proofs.InThousands.{few_as_is}
use Rattle.digit_writers.proofs.LaidReading.{digit_is, no_sign, is_one}
use Rattle.digit_writers.proofs.Splices.{take_spliced}

-- ---- groups of three digits

one_group : (is_first : Bool) (at : ℕ) (xs : List ℕ) (others : List (List ℕ))
    → is_group is_first (length xs) ≡ true
    → wrong_of is_first at (xs ∷ others) ≡ wrong_of false (at + length xs + 1) others
one_group is_first at xs others is =
    ap (λ (b : Bool). if b then wrong_of false (at + length xs + 1) others else Some at) is

group_fits : (is_first : Bool) (n f : ℕ) → 0 < n → f ≡ (n - 1) % 3 + 1
    → (is_first ≡ false → n % 3 ≡ 0) → is_group is_first f ≡ true
group_fits true n f some is whole = grind (arith, nat_tests)
group_fits false n f some is whole =
    let three : f ≡ 3 = omega (arith, whole refl) in
    rw three refl

module _ (p : ℕ → Bool) (between : ℕ) (passes : p between ≡ true) where
  abbrev group : List ℕ → List ℕ
  group ds = grouped between 3 ds

  groups_right : (k : ℕ) (ds : List ℕ) (is_first : Bool) (at : ℕ) → length ds ≤ k → 0 < length ds
      → (is_first ≡ false → length ds % 3 ≡ 0) → All (λ d. p d ≡ false) ds
      → wrong_of is_first at (slice_split p (group ds)) ≡ None
  groups_right zero ds is_first at few some whole none = absurd (omega arith)
  groups_right (suc k) ds is_first at few some whole none =
      let n : ℕ = length ds in
      let f : ℕ = (n - 1) % 3 + 1 in
      let xs : List ℕ = take f ds in
      let ys : List ℕ = drop f ds in
      let split : xs ++ ys ≡ ds = take-append-drop f ds in
      let wide : length xs ≡ f = length-take-le f ds (omega arith) in
      let left : length ys ≡ n - f = length-drop f ds in
      let rest : length ys % 3 ≡ 0 = omega (arith, left) in
      let is : is_group is_first (length xs) ≡ true =
      group_fits is_first n (length xs) some wide whole in
      let front : group ds ≡ xs ++ (before between 3 (length ys) ++ group ys) =
      ap group (sym split)
      ∙ group_front between 3 xs ys (omega (arith, wide)) (omega (arith, wide)) rest in
      let none_first : All (λ d. p d ≡ false) xs = All-take (λ d. p d ≡ false) f ds none in
      elim (cases_lt 0 (length ys)) [
        | inl more ↦
            let mark : before between 3 (length ys) ≡ between ∷ [] =
            some_before between 3 (length ys) (omega arith) more rest in
            let cut : slice_split p (group ds) ≡ xs ∷ slice_split p (group ys) =
            ap (slice_split p) (front ∙ ap (λ (m : List ℕ). xs ++ (m ++ group ys)) mark)
            ∙ slice_split_at p xs between (group ys) none_first passes in
            ap (wrong_of is_first at) cut
            ∙ one_group is_first at xs (slice_split p (group ys)) is
            ∙ groups_right k ys false (at + length xs + 1) (omega (arith, left, few)) more
            (λ _. rest)
            (All-drop (λ d. p d ≡ false) f ds none)
        | inr last ↦
            let nil : ys ≡ [] = nil_from_length ys (omega (arith, last)) in
            let whole_is : ds ≡ xs = sym split ∙ ap (λ (t : List ℕ). xs ++ t) nil ∙ append-nil xs in
            let cut : slice_split p (group ds) ≡ xs ∷ [] =
            ap (λ (t : List ℕ). slice_split p (group t)) whole_is
            ∙ ap (slice_split p) (few_as_is between xs (omega (arith, wide)))
            ∙ slice_split_none p xs none_first in
            ap (wrong_of is_first at) cut ∙ one_group is_first at xs [] is
      ]

-- digits are no separators
apart_one : (rule : Rule) (byte : ℕ) → IsSupported rule → is_digit rule byte ≡ true
    → is_separator rule.separator byte ≡ false
unfolding is_separator
apart_one rule byte supported digit = grind (arith, nat_tests, supported.apart, digit)

digits_apart : (rule : Rule) (ds : List ℕ) → IsSupported rule → AllDigits rule.radix ds
    → All (λ d. is_separator rule.separator d ≡ false) ds
digits_apart rule [] supported all = All-nil (λ (d : ℕ). is_separator rule.separator d ≡ false)
digits_apart rule (d ∷ ds) supported all =
    All-cons (λ (d : ℕ). is_separator rule.separator d ≡ false) d ds
    (apart_one rule d supported (digit_is rule d supported.high all.0))
    (digits_apart rule ds supported all.1)

-- ---- the price

past_minus : (least : ℕ) (rest : List ℕ) → 0 < least → digits_from least (45 ∷ rest) 0 ≡ 1
past_minus least rest some = grind (arith, nat_tests)

no_past : (least : ℕ) (text : List ℕ) → 0 < length text
    → (get_or text 0 0 ≡ 45 → ⊥) × (get_or text 0 0 ≡ 43 → ⊥) → digits_from least text 0 ≡ 0
no_past least text some none = grind (arith, nat_tests, gets, none)

price_is : (word point places least most end : ℕ) (text : List ℕ) (z : ℤ)
    → any_at word text point places least most 0 ≡ Ok (z, end)
    → wrong_at word text (digits_from least text 0) ≡ None
    → places_at word text point (digits_from least text 0) ≡ places
    → price_at word text point places least most 0 ≡ Ok (z, end)
price_is word point places least most end text z read right are =
    let same : (places_at word text point (digits_from least text 0) == places) ≡ true =
    grind (arith, nat_tests, are) in
    (λ i. if_exact (same i) (if_grouped (right i) (read i)))

module _ (word point between places least most n : ℕ) (by : ReadsPrices word point between)
    (few : places ≤ 38) (small : n < 10 ^ 64) where
  abbrev rule : Rule
  rule = rule_of word Integer

  abbrev m : ℕ
  m = n / 10 ^ places

  abbrev whole : List ℕ
  whole = thousands between m

  supported : IsSupported rule
  supported = supported_rule word Integer by.amounts.supported

  m_few : m < 10 ^ 64
  m_few = quotient_few n (10 ^ places) small

  separates : is_separator rule.separator between ≡ true
  separates = is_one rule.separator between by.separates by.some

  are : AreDigitsOf rule whole (decimal m)
  are =
      digits_of_whole word m between 3 by.amounts.supported by.amounts.decimal.0 m_few
      (λ _. subst (λ (b : ℕ). is_digit rule b ≡ false) by.separates supported.apart)
      (λ _. (separates, by.internal))

  all : AllDigits rule.radix (decimal m)
  all = subst (λ (r : ℕ). AllDigits r (decimal m)) (sym by.amounts.decimal.0)
      (decimal_is_IsNumeral_wide m m_few).0.1

  right : (front : List ℕ)
      → wrong_at word (front ++ (whole ++ fraction_text point places n)) (length front) ≡ None
  right front =
      ap (λ (bytes : List ℕ). wrong_of true (length front)
      (slice_split (is_separator rule.separator) bytes))
      (whole_bytes word point places n front whole by.amounts few are small)
      ∙ groups_right (is_separator rule.separator) between separates (length (decimal m))
      (decimal m) true (length front)
      (omega arith) (decimal_is_IsNumeral_wide m m_few).0.0 (λ e. absurd (true≢false e))
      (digits_apart rule (decimal m) supported all)

  enough : (front : List ℕ)
      → places_at word (front ++ (whole ++ fraction_text point places n)) point
      (length front) ≡ places
  enough front = places_are word point places n front whole by.amounts few are small

  pub price_is_read : (negative : Bool) → n ≤ (if negative then least else most)
      → (negative ≡ true → 0 < n)
      → let text = sign_of false negative ++ (whole ++ fraction_text point places n) in
      price_at word text point places least most 0 ≡ Ok (signed negative n, length text)
  price_is_read true fits some =
      let rest : List ℕ = whole ++ fraction_text point places n in
      let one : digits_from least (45 ∷ rest) 0 ≡ 1 =
      past_minus least rest (omega (arith, some refl, fits)) in
      let read = amount_is_read word point places least most n whole true by.amounts few are small
      fits some in
      price_is word point places least most (length (45 ∷ rest)) (45 ∷ rest) (signed true n)
      (ap of_number read)
      (ap (wrong_at word (45 ∷ rest)) one ∙ right (45 ∷ []))
      (ap (places_at word (45 ∷ rest) point) one ∙ enough (45 ∷ []))
  price_is_read false fits some =
      let rest : List ℕ = whole ++ fraction_text point places n in
      let same = first_of whole (fraction_text point places n) are.some in
      let none = no_sign rule (get_or whole 0 0) are.first in
      let begun : 0 < length rest =
      omega (arith, are.some, length-append whole (fraction_text point places n)) in
      let zero_is : digits_from least rest 0 ≡ 0 =
      no_past least rest begun ((λ e. none.0 (sym same ∙ e)), (λ e. none.1 (sym same ∙ e))) in
      let read = amount_is_read word point places least most n whole false by.amounts few are small
      fits some in
      price_is word point places least most (length rest) rest (signed false n)
      (ap of_number read)
      (ap (wrong_at word rest) zero_is ∙ right [])
      (ap (places_at word rest point) zero_is ∙ enough [])

-- what a writer of prices answers
pub answer_is_price : (word point between places least most n : ℕ) (negative : Bool) (z : ℤ)
    (out new : List ℕ) (answer : Result ℕ NoRoom) → ReadsPrices word point between → places ≤ 38
    → n < 10 ^ 64 → n ≤ (if negative then least else most) → (negative ≡ true → 0 < n)
    → signed negative n ≡ z
    → IfOk answer (λ end. (end ≡ length (magnitude_text true between point places negative n))
    × (end ≤ length out)
    × (new ≡ splice out 0 end (magnitude_text true between point places negative n)))
    → IfOk answer (λ end. price_at word (take end new) point places least most 0 ≡ Ok (z, end))
answer_is_price word point between places least most n negative z out new (Err error) by few small
    fits some number h = tt
answer_is_price word point between places least most n negative z out new (Ok end) by few small
    fits some number h =
    let text : List ℕ = magnitude_text true between point places negative n in
    let front : text ≡ take end new =
    sym (ap (take end) h.2 ∙ take_spliced out text 0 end (omega (arith, h.0)) h.1) in
    let read = price_is_read word point between places least most n by few small negative fits
    some in
    subst (λ (t : List ℕ). price_at word t point places least most 0 ≡ Ok (z, end)) front
    (read ∙ (λ i. Ok (number i, sym h.0 i)))
