-- For callers: lemmas about a component and a state, or the `&mut Bytes` that an iterator holds.
use Rattle.std.proofs.Common.{◌≡◌, ℕ, ◌<◌, ◌^◌, List, [], ◌∷◌, ◌++◌, length, refl, sym, ap, ◌∙◌, arith, Option, Some, None, option_copied, map, fold, Bor, MutBor}
use Rattle.lexical_digits.specs.Laws.Terms.{Called, last_or, FoldsTo, fold-append, Component, State, IsState, drain_of, Held, Nexts}
use Rattle.std.specs.Iterator.{Drains, FoldTurn}
use Rattle.std.proofs.lemmas.Fn.{fold_over}
use Rattle.std.proofs.lemmas.Iterator.{YieldsList, items_from_drains}
use Rattle.std.proofs.lemmas.Iterator.Consumers.{YieldsList-from_shown}
use denote.Param.Members.{Mut}
use Rattle.lexical_digits.proofs.Calls.ItemsOfComponents.{items_fit, items_are_drain}
pub use Rattle.lexical_digits.proofs.Calls.NextTakesFirst.{positions_of, positions_some, positions_none, drain_some, drain_none}

-- the drain has no more bytes than a `usize` counts
pub drain_fits : (k : Component) (s : State) → IsState s → length (drain_of k s) < 2 ^ 64
drain_fits k s v = omega (arith, items_fit k s v, ap length (items_are_drain k s v))

-- ---- std's chains

-- a chain over an iterator gives the drain; `byte` is its field of that name
pub YieldsList-from_digits : {S : Type 0} (k : Component) (byte : S → MutBor Held) (s : S) →
    YieldsList (λ (a : S) (r : Option (Bor ℕ)) (b : S). Nexts k (byte a) (byte b) r) (λ x. x.now) s
    (drain_of k (byte s).now.state)
YieldsList-from_digits {S} k byte s =
    YieldsList-from_shown (λ (a : S) (r : Option (Bor ℕ)) (b : S). Nexts k (byte a) (byte b) r)
    (λ x. x.now) (λ t. drain_of k (byte t).now.state)
    (λ s t h. ap length h.takes.drains.0) (λ s x t h. h.takes.drains) s

copied_last : (o : Option (Bor ℕ)) (xs : List (Bor ℕ)) →
    option_copied (last_or o xs) ≡ last_or (option_copied o) (map (λ x. x.now) xs)
copied_last o [] = refl
copied_last o (x ∷ xs) = copied_last (Some x) xs

-- `last`, with the call's clause `ran` and a chain proof
pub last_from_yields_List : {S : Type 0} {steps : S → Option (Bor ℕ) → S → Type 0} {s : S}
    {all : List ℕ} (r : Option (Bor ℕ)) →
    ((xs : List (Bor ℕ)) × Drains steps s xs × (r ≡ last_or None xs)) →
    YieldsList steps (λ x. x.now) s all → option_copied r ≡ last_or None all
last_from_yields_List r ran road =
    let d = ran.1 in
    ap option_copied ran.2 ∙ copied_last None ran.0
    ∙ ap (last_or None) (items_from_drains ran.0 (d.1.0, d.1.1, λ _. (d.0, d.1.2)) road)

-- `fold`, with the call's clause `ran`, a chain proof, and what the closure answers
pub fold_from_yields_List : {S F C : Type 0} {steps : S → Option (Bor ℕ) → S → Type 0}
    {g : Mut F (C × (Bor ℕ × Unit {0})) C} {f : F} {s : S} {all : List ℕ} (h : C → ℕ → C)
    (a r : C) →
    ((xs : List (Bor ℕ)) × (f' : F) × Drains steps s xs × FoldsTo (FoldTurn g) (f, a) xs (f', r)) →
    YieldsList steps (λ x. x.now) s all →
    ((b : C) (x : Bor ℕ) (d : C) (f' : F) → Called g f (b, (x, tt)) d f' →
    (d ≡ h b x.now) × (f' ≡ f)) →
    r ≡ fold h a all
fold_from_yields_List {C = C} {steps = steps} {g = g} {f = f} {s = s} {all = all}
    h a r ran road gives =
    fold_over steps (λ x. x.now) g (λ (ys : List ℕ) (b : C). b ≡ fold h a ys) f
    (λ ys b x d f' so_far k. (step ys b x d so_far (gives b x d f' k).0, (gives b x d f' k).1))
    s all a r road.runs refl ran
  where
    step : (ys : List ℕ) (b : C) (x : Bor ℕ) (d : C) → b ≡ fold h a ys → d ≡ h b x.now →
        d ≡ fold h a (ys ++ (x.now ∷ []))
    step ys b x d so_far e =
        e ∙ ap (λ n. h n x.now) so_far ∙ sym (fold-append h a ys (x.now ∷ []))
