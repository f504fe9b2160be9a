-- What is written in a layout is read as the number.
use Rattle.std.proofs.Common.{◌≡◌, ℕ, ℤ, zero, suc, ◌+◌, ◌/◌, ◌%◌, ◌^◌, ◌<◌, ◌≤◌, Bool, true, false, List, [], ◌∷◌, ◌++◌, length, take, drop, get_or, refl, sym, ap, subst, ◌∙◌, inl, inr, arith, filter}
use Rattle.std.specs.Prelude.{pos, Result, Ok, Err, IfOk, IfErr, IsTrue, max, if◌then◌else◌}
use Rattle.std.specs.Char.{digit_value}
use Rattle.std.specs.Fmt.{digit_glyph}
use Rattle.std.specs.Int.{is_negative}
use Rattle.std.specs.Str.Parse.{AllDigits, digits_value}
use Rattle.std.proofs.Math.Nat.{pow-suc, pow-zero, pow-le-pow_right}
use Rattle.std.proofs.lemmas.Bool.Decides.{nat_tests}
use Rattle.std.proofs.lemmas.Int.Digits.{digits_push, digits_value_push}
use Rattle.std.proofs.lemmas.Nat.{div-add-mod', mod_below, div_below}
use Rattle.std.proofs.lemmas.Option.{gets}
use Rattle.lexical_format.specs.Digits as words
use Rattle.lexical_digits.specs.declared.skip.component.Component.TheVariants.{Integer}
use Rattle.lexical_digits.specs.declared.skip.rule.Rule.{Rule}
use Rattle.lexical_digits.specs.Separators.{is_digit, is_separator, IsSupported}
use Rattle.lexical_digits.specs.State.{rule_of}
use Rattle.lexical_digits.proofs.Rule.Supported.{supported_rule}
use Rattle.digit_integers.specs.Integers.{integer_at}
use Rattle.digit_integers.specs.Numbers.{number_at, signed}
use Rattle.digit_integers.specs.Written.{IsWrittenAt}
use Rattle.digit_integers.proofs.Written.{whole_written, later_written}
use Rattle.decimal_writers.specs.declared.room.NoRoom.{NoRoom}
use Rattle.digit_writers.specs.declared.layout.Layout.{Layout}
use Rattle.digit_writers.specs.Digits.{last_digits}
use Rattle.digit_writers.specs.Layouts.{laid_out, text_of, IsLaidOut, HasNoRoom, grouped, before, digit_count, digits_in, sign_of, IsReadBy}
use Rattle.digit_writers.specs.Valid.{is_layout}
use Rattle.digit_writers.specs.Written.{Reads}
use Rattle.digit_writers.proofs.Counting.{count_holds}
use Rattle.digit_writers.proofs.Grouped.{group_none, group_more}
use Rattle.digit_writers.proofs.LastDigits.{last_push, length_last, no_digits}
use Rattle.digit_writers.proofs.Lone.{IsLone, lone_read}
use Rattle.digit_writers.proofs.Reading.{to_the_end}
use Rattle.digit_writers.proofs.Splices.{take_spliced, drop_spliced}

-- ---- the value of digits

glyph_value : (upper : Bool) (d : ℕ) → d < 36 → digit_value (digit_glyph upper d) ≡ d
glyph_value upper d l = grind (arith, nat_tests)

module _ (radix : ℕ) (upper : Bool) (low : 2 ≤ radix) (high : radix ≤ 36) where
  pub last_all : (k n : ℕ) → AllDigits radix (last_digits radix upper k n)
  last_all zero n = subst (AllDigits radix) (sym (no_digits radix upper n)) tt
  last_all (suc k) n =
      let rest : n % radix < radix = mod_below n radix (omega (arith, low)) in
      let value = glyph_value upper (n % radix) (omega (arith, rest, high)) in
      subst (AllDigits radix) (sym (last_push radix upper k n))
      (digits_push radix (last_digits radix upper k (n / radix)) (digit_glyph upper (n % radix))
      (last_all k (n / radix)) (omega (arith, value, rest)))

  pub last_value : (k n : ℕ) → n < radix ^ k → digits_value radix (last_digits radix upper k n) ≡ n
  last_value zero n l =
      let none : n ≡ 0 = omega (arith, l, pow-zero radix) in
      ap (digits_value radix) (no_digits radix upper n) ∙ sym none
  last_value (suc k) n l =
      let rest : n % radix < radix = mod_below n radix (omega (arith, low)) in
      let value = glyph_value upper (n % radix) (omega (arith, rest, high)) in
      let less : n / radix < radix ^ k =
      div_below n radix (radix ^ k) (omega (arith, low)) (omega (arith, l, pow-suc radix k)) in
      ap (digits_value radix) (last_push radix upper k n)
      ∙ digits_value_push radix (last_digits radix upper k (n / radix))
      (digit_glyph upper (n % radix))
      ∙ (rw (last_value k (n / radix) less, value) (div-add-mod' n radix))

-- ---- the digits in groups

pub digit_is : (rule : Rule) (byte : ℕ) → rule.radix ≤ 36 → digit_value byte < rule.radix
    → is_digit rule byte ≡ true
unfolding is_digit words.digit_value
digit_is rule byte high l = grind (arith, nat_tests)

pub no_sign : (rule : Rule) (byte : ℕ) → is_digit rule byte ≡ true
    → (byte ≡ 45 → ⊥) × (byte ≡ 43 → ⊥)
unfolding is_digit words.digit_value
no_sign rule byte digit =
    (λ minus. grind (arith, nat_tests, digit, minus), λ plus. grind (arith, nat_tests, digit, plus))

module _ (rule : Rule) (separator every : ℕ) (high : rule.radix ≤ 36)
    (apart : 0 < every → is_digit rule separator ≡ false)
    (separates : 0 < every → (is_separator rule.separator separator ≡ true)
    × (rule.internal ≡ true))
  where
    abbrev group : List ℕ → List ℕ
    group ds = grouped separator every ds

    filter_before : (count : ℕ) (rest : List ℕ)
        → filter (is_digit rule) (before separator every count ++ rest) ≡ filter (is_digit rule)
        rest
    filter_before count rest = grind (arith, nat_tests, apart)

    pub filter_group : (ds : List ℕ) → AllDigits rule.radix ds
        → filter (is_digit rule) (group ds) ≡ ds
    filter_group [] all = ap (filter (is_digit rule)) (group_none separator every)
    filter_group (d ∷ ds) all =
        ap (filter (is_digit rule)) (group_more separator every d ds)
        ∙ grind (
          arith,
          digit_is rule d high all.0,
          filter_before (length ds) (group ds),
          filter_group ds all.1,
        )

    pub first_group : (ds : List ℕ) → AllDigits rule.radix ds → 0 < length ds
        → (0 < length (group ds)) × (is_digit rule (get_or (group ds) 0 0) ≡ true)
    first_group [] all some = absurd (omega arith)
    first_group (d ∷ ds) all some =
        let e = group_more separator every d ds in
        subst (λ (t : List ℕ). (0 < length t) × (is_digit rule (get_or t 0 0) ≡ true)) (sym e)
        (omega arith, digit_is rule d high all.0)

    shift : (x : ℕ) (bytes : List ℕ) (q : ℕ) → IsLone rule bytes q → IsLone rule (x ∷ bytes) (suc q)
    shift x bytes q (inl digit) = inl digit
    shift x bytes q (inr sep) =
        let same : suc q + 1 ≡ suc (q + 1) = omega arith in
        inr (
          sep.0,
          sep.1,
          omega arith,
          omega (arith, sep.3),
          ap (λ (i : ℕ). is_digit rule (get_or (x ∷ bytes) i 0)) same ∙ sep.4,
        )

    -- after a digit, and a separator if there is one
    lone_after : (d : ℕ) (rest : List ℕ) (mark : Bool)
        → (mark ≡ true → (is_separator rule.separator separator ≡ true) × (rule.internal ≡ true)
        × (0 < length rest) × (is_digit rule (get_or rest 0 0) ≡ true))
        → ((q : ℕ) → q < length rest → IsLone rule rest q) → (q : ℕ)
        → q < length ((if mark then separator ∷ [] else []) ++ rest)
        → IsLone rule (d ∷ ((if mark then separator ∷ [] else []) ++ rest)) (suc q)
    lone_after d rest false first lone q l = shift d rest q (lone q l)
    lone_after d rest true first lone zero l =
        let is = first refl in
        inr (is.0, is.1, omega arith, omega (arith, is.2), is.3)
    lone_after d rest true first lone (suc q) l =
        shift d (separator ∷ rest) (suc q) (shift separator rest q (lone q (omega arith)))

    pub lone_group : (ds : List ℕ) → AllDigits rule.radix ds → (q : ℕ) → q < length (group ds)
        → IsLone rule (group ds) q
    unfolding grouped
    lone_group [] all q l = absurd (omega arith)
    lone_group (d ∷ ds) all zero l = inl (digit_is rule d high all.0)
    lone_group (d ∷ ds) all (suc q) l =
        lone_after d (group ds) _
        (λ t.
        let drops = separates (grind (arith, nat_tests, t)) in
        let begins = first_group ds all.1 (grind (arith, nat_tests, t)) in
        (drops.0, drops.1, begins.0, begins.1))
        (lone_group ds all.1) q (omega arith)

-- ---- a sign before it

module _ (least most n end : ℕ) (rule : Rule) (body : List ℕ) where
  minus_read : 0 < least → integer_at rule (45 ∷ body) 1 least ≡ Ok (n, end)
      → number_at least most rule (45 ∷ body) 0 ≡ Ok (signed true n, end)
  minus_read some read = grind (arith, nat_tests, read)

  plus_read : 0 < least → integer_at rule (43 ∷ body) 1 most ≡ Ok (n, end)
      → number_at least most rule (43 ∷ body) 0 ≡ Ok (signed false n, end)
  plus_read some read = grind (arith, nat_tests, read)

  plain_read : 0 < length body → (get_or body 0 0 ≡ 45 → ⊥) × (get_or body 0 0 ≡ 43 → ⊥)
      → integer_at rule body 0 most ≡ Ok (n, end)
      → number_at least most rule body 0 ≡ Ok (signed false n, end)
  plain_read some none read = grind (arith, nat_tests, gets, none, read)

-- ---- the text of a number

pub is_one : (a b : ℕ) → a ≡ b → 0 < b → is_separator a b ≡ true
unfolding is_separator
is_one a b e l = grind (arith, nat_tests)

module _ (word least most n : ℕ) (layout : Layout) (negative : Bool)
    (by : IsReadBy word layout least)
    (fits : n ≤ (if negative then least else most)) (some : negative ≡ true → 0 < n) where
  abbrev rule : Rule
  rule = rule_of word Integer

  abbrev body : List ℕ
  body = grouped layout.separator layout.every (digits_in layout n)

  supported : IsSupported rule
  supported = supported_rule word Integer by.radix.0

  radix_is : rule.radix ≡ layout.radix
  radix_is = by.radix.1

  high : rule.radix ≤ 36
  high = supported.high

  positive : 0 < layout.every → 0 < layout.separator
  positive p = separator_some layout.radix layout.separator layout.every layout.valid p
    where
      separator_some : (radix separator every : ℕ) → IsTrue (is_layout radix separator every)
          → 0 < every → 0 < separator
      separator_some radix separator every valid p = grind (arith, nat_tests, valid)

  apart : 0 < layout.every → is_digit rule layout.separator ≡ false
  apart p = subst (λ (b : ℕ). is_digit rule b ≡ false) (by.separates p).0 supported.apart

  separates : 0 < layout.every
      → (is_separator rule.separator layout.separator ≡ true) × (rule.internal ≡ true)
  separates p = (
    is_one rule.separator layout.separator (by.separates p).0 (positive p),
    (by.separates p).1,
  )

  all : AllDigits rule.radix (digits_in layout n)
  all = subst (λ (r : ℕ). AllDigits r (digits_in layout n)) (sym radix_is)
      (last_all layout.radix layout.is_upper (omega (arith, supported.low, radix_is))
      (omega (arith, high, radix_is)) (max layout.digits (digit_count layout.radix n)) n)

  worth : digits_value rule.radix (filter (is_digit rule) body) ≡ n
  worth =
      let low : 2 ≤ layout.radix = omega (arith, supported.low, radix_is) in
      let k : ℕ = max layout.digits (digit_count layout.radix n) in
      let holds = count_holds layout.radix low n in
      let up : layout.radix ^ digit_count layout.radix n ≤ layout.radix ^ k =
      pow-le-pow_right (omega (arith, low)) (omega arith) in
      let same = filter_group rule layout.separator layout.every high apart separates
      (digits_in layout n) all in
      ap (digits_value rule.radix) same
      ∙ ap (λ (r : ℕ). digits_value r (digits_in layout n)) radix_is
      ∙ last_value layout.radix layout.is_upper low (omega (arith, high, radix_is)) k n
      (omega (arith, holds, up))

  begins : (0 < length body) × (is_digit rule (get_or body 0 0) ≡ true)
  begins = first_group rule layout.separator layout.every high apart separates (digits_in layout n)
      all
      (omega (
        arith,
        length_last layout.radix layout.is_upper
            (max layout.digits (digit_count layout.radix n)) n,
      ))

  read_at : (text : List ℕ) (start greatest : ℕ) → IsWrittenAt rule text start body → n ≤ greatest
      → integer_at rule text start greatest ≡ Ok (n, start + length body)
  read_at text start greatest written small =
      lone_read rule text start supported body written begins.0
      (lone_group rule layout.separator layout.every high apart separates (digits_in layout n) all)
      greatest n worth small

  after_sign : (byte : ℕ) → IsWrittenAt rule (byte ∷ body) 1 body
  after_sign byte = later_written rule (byte ∷ []) body body 0 (whole_written rule body)

  pub laid_is_read : (plus : Bool) → (plus ≡ true → 0 < least)
      → number_at least most rule (sign_of plus negative ++ body) 0
      ≡ Ok (signed negative n, length (sign_of plus negative ++ body))
  laid_is_read plus signs = by_signs plus negative signs fits some
    where
      by_signs : (plus negative : Bool) → (plus ≡ true → 0 < least)
          → n ≤ (if negative then least else most) → (negative ≡ true → 0 < n)
          → number_at least most rule (sign_of plus negative ++ body) 0
          ≡ Ok (signed negative n, length (sign_of plus negative ++ body))
      by_signs plus true signs fits some =
          let end : 1 + length body ≡ suc (length body) = omega arith in
          let read = read_at (45 ∷ body) 1 least (after_sign 45) fits in
          minus_read least most n (suc (length body)) rule body (omega (arith, some refl, fits))
          (read ∙ ap (λ (e : ℕ). Ok (n, e)) end)
      by_signs true false signs fits some =
          let end : 1 + length body ≡ suc (length body) = omega arith in
          let read = read_at (43 ∷ body) 1 most (after_sign 43) fits in
          plus_read least most n (suc (length body)) rule body (signs refl)
          (read ∙ ap (λ (e : ℕ). Ok (n, e)) end)
      by_signs false false signs fits some =
          let end : 0 + length body ≡ length body = omega arith in
          let read = read_at body 0 most (whole_written rule body) fits in
          plain_read least most n (length body) rule body begins.0
          (no_sign rule (get_or body 0 0) begins.1) (read ∙ ap (λ (e : ℕ). Ok (n, e)) end)

-- what a writer in a layout answers
pub answer_is_read : (word least most n : ℕ) (layout : Layout) (negative : Bool) (z : ℤ)
    (out new : List ℕ) (answer : Result ℕ NoRoom) → IsReadBy word layout least
    → n ≤ (if negative then least else most) → (negative ≡ true → 0 < n) → signed negative n ≡ z
    → IfOk answer (IsLaidOut layout negative n out new)
    → IfOk answer (λ end. Reads word least most z (take end new))
answer_is_read word least most n layout negative z out new (Err error) by fits some number h = tt
answer_is_read word least most n layout negative z out new (Ok end) by fits some number h =
    let text : List ℕ = text_of layout negative n in
    let front : text ≡ take end new =
    sym (ap (take end) h.written
    ∙ take_spliced out text 0 end (omega (arith, h.end_is)) h.within) in
    let read = laid_is_read word least most n layout negative by fits some layout.has_plus
    by.signs in
    subst (λ (y : ℤ). Reads word least most y (take end new)) number
    (subst (Reads word least most (signed negative n)) front (to_the_end text _ _ read))

-- its text
minus_is : (layout : Layout) (n : ℕ) → 0 < n
    → text_of layout true n ≡ laid_out layout (signed true n)
minus_is layout zero l = absurd (omega arith)
minus_is layout (suc n) l = refl

pub not_negative : (n : ℕ) → is_negative (pos n) ≡ false
not_negative n = grind (arith, nat_tests)

sign_is : (layout : Layout) (negative : Bool) (n : ℕ) → (negative ≡ true → 0 < n)
    → text_of layout negative n ≡ laid_out layout (signed negative n)
sign_is layout false n some = ap (λ (b : Bool). text_of layout b n) (sym (not_negative n))
sign_is layout true n some = minus_is layout n (some refl)

pub text_is : (layout : Layout) (negative : Bool) (n : ℕ) (z : ℤ) → (negative ≡ true → 0 < n)
    → signed negative n ≡ z → text_of layout negative n ≡ laid_out layout z
text_is layout negative n z some number =
    sign_is layout negative n some ∙ ap (laid_out layout) number

-- ---- each clause of it

module _ (layout : Layout) (negative : Bool) (n : ℕ) (z : ℤ) (out new : List ℕ)
    (some : negative ≡ true → 0 < n) (number : signed negative n ≡ z) where
  pub answer_written : (answer : Result ℕ NoRoom)
      → IfOk answer (IsLaidOut layout negative n out new)
      → IfOk answer (λ end. take end new ≡ laid_out layout z)
  answer_written (Err error) h = tt
  answer_written (Ok end) h =
      ap (take end) h.written
      ∙ take_spliced out (text_of layout negative n) 0 end (omega (arith, h.end_is)) h.within
      ∙ text_is layout negative n z some number

  pub answer_rest : (answer : Result ℕ NoRoom) → IfOk answer (IsLaidOut layout negative n out new)
      → IfOk answer (λ end. drop end new ≡ drop end out)
  answer_rest (Err error) h = tt
  answer_rest (Ok end) h =
      let none : end + 0 ≡ end = omega arith in
      let rest = drop_spliced out (text_of layout negative n) 0 end (omega (arith, h.end_is))
      h.within 0 in
      ap (λ (k : ℕ). drop k new) (sym none) ∙ ap (drop (end + 0)) h.written ∙ rest
      ∙ ap (λ (k : ℕ). drop k out) none

  pub answer_within : (answer : Result ℕ NoRoom) → IfOk answer (IsLaidOut layout negative n out new)
      → IfOk answer (λ end. end ≤ length out)
  answer_within (Err error) h = tt
  answer_within (Ok end) h = h.within

  pub no_room_less : (answer : Result ℕ NoRoom)
      → IfErr answer (λ error. HasNoRoom layout negative n out error.needed × (new ≡ out))
      → IfErr answer (λ error. length out < error.needed)
  no_room_less (Err error) h = h.0.less
  no_room_less (Ok end) h = tt

  pub no_room_needed : (answer : Result ℕ NoRoom)
      → IfErr answer (λ error. HasNoRoom layout negative n out error.needed × (new ≡ out))
      → IfErr answer (λ error. error.needed ≡ length (laid_out layout z))
  no_room_needed (Err error) h =
      h.0.needed_is ∙ ap length (text_is layout negative n z some number)
  no_room_needed (Ok end) h = tt

  pub no_room_unchanged : (answer : Result ℕ NoRoom)
      → IfErr answer (λ error. HasNoRoom layout negative n out error.needed × (new ≡ out))
      → IfErr answer (λ error. new ≡ out)
  no_room_unchanged (Err error) h = h.1
  no_room_unchanged (Ok end) h = tt
