-- A text that is cut into lines at the bytes that end them.
use Rattle.std.proofs.Common.{◌≡◌, ℕ, zero, suc, ◌-◌, ◌<◌, ◌≢◌, eqb, List, [], ◌∷◌, ◌++◌, length, get_or, Some, None, Option, MatchOption, sym, refl, ap, ◌∙◌, subst, inl, inr, arith, Bor}
use Rattle.std.specs.List.{flat_map, slice_split, onto_first, AllByRecursion}
use Rattle.std.specs.Option.{unwrap_or}
use Rattle.std.proofs.lemmas.Bool.{cases_Bool, eqb-true, eqb-false}
use Rattle.std.proofs.lemmas.List.Splits.{length-slice_split, slice_split-cons_yes, slice_split-cons_no}
use Rattle.name_list.specs.Lines.{ended, Plain, LinesOf}

-- the parts between the ends of lines
abbrev pub parts : List ℕ → List (List ℕ)
parts = slice_split (λ byte. eqb byte 10)

some_part : (text : List ℕ) → 0 < length (parts text)
some_part text = omega (arith, length-slice_split (λ byte. eqb byte 10) text)

ended_onto : (b : ℕ) (lines : List (List ℕ)) → 0 < length lines → flat_map ended (onto_first b lines) ≡ b ∷ flat_map ended lines
ended_onto b [] h = absurd (omega (arith, h))
ended_onto b (line ∷ lines) h = refl

plain_cons : (b : ℕ) (line : List ℕ) → (b ≡ 10 → ⊥) → Plain line → Plain (b ∷ line)
plain_cons b line f p zero h e = f e
plain_cons b line f p (suc i) h e = p i (omega (arith, h)) e

plain_onto : (b : ℕ) (lines : List (List ℕ)) → (b ≡ 10 → ⊥) → AllByRecursion Plain lines → AllByRecursion Plain (onto_first b lines)
plain_onto b [] f a = (plain_cons b [] f (λ i h e. omega (arith, h)), tt)
plain_onto b (line ∷ lines) f a = (plain_cons b line f a.0, a.1)

-- the parts, each ended, are the text, ended
ended_parts : (text : List ℕ) → flat_map ended (parts text) ≡ ended text
ended_parts [] = refl
ended_parts (b ∷ bs) = elim (cases_Bool (eqb b 10)) [
  | inl e ↦ ap (flat_map ended) (slice_split-cons_yes (λ byte. eqb byte 10) b bs e) ∙ (ap (λ (t : List ℕ). 10 ∷ t) (ended_parts bs) ∙ ap (λ (x : ℕ). x ∷ ended bs) (sym (eqb-true b 10 e)))
  | inr e ↦ ap (flat_map ended) (slice_split-cons_no (λ byte. eqb byte 10) b bs e) ∙ (ended_onto b (parts bs) (some_part bs) ∙ ap (λ (t : List ℕ). b ∷ t) (ended_parts bs))
]

plain_parts : (text : List ℕ) → AllByRecursion Plain (parts text)
plain_parts [] = (λ i h e. omega (arith, h), tt)
plain_parts (b ∷ bs) = elim (cases_Bool (eqb b 10)) [
  | inl e ↦ subst (AllByRecursion Plain) (sym (slice_split-cons_yes (λ byte. eqb byte 10) b bs e)) (λ i h e. omega (arith, h), plain_parts bs)
  | inr e ↦ subst (AllByRecursion Plain) (sym (slice_split-cons_no (λ byte. eqb byte 10) b bs e)) (plain_onto b (parts bs) (eqb-false b 10 e) (plain_parts bs))
]

-- whether the last part holds anything
abbrev Filled : List (List ℕ) → Type 0
Filled lines = 0 < length (get_or lines (length lines - 1) [])

filled_behind : (line : List ℕ) (lines : List (List ℕ)) → 0 < length lines → Filled lines → Filled (line ∷ lines)
filled_behind line [] h f = absurd (omega (arith, h))
filled_behind line (l ∷ ls) h f =
    let e : length (line ∷ l ∷ ls) - 1 ≡ suc (length (l ∷ ls) - 1) = omega arith in
    subst (λ i. 0 < length (get_or (line ∷ l ∷ ls) i [])) (sym e) f

filled_onto : (b : ℕ) (lines : List (List ℕ)) → 0 < length lines → Filled lines → Filled (onto_first b lines)
filled_onto b [] h f = absurd (omega (arith, h))
filled_onto b (line ∷ []) h f = omega arith
filled_onto b (line ∷ l ∷ ls) h f =
    let e : length (line ∷ l ∷ ls) - 1 ≡ suc (length (l ∷ ls) - 1) = omega arith in
    filled_behind (b ∷ line) (l ∷ ls) (omega arith) (subst (λ i. 0 < length (get_or (line ∷ l ∷ ls) i [])) e f)

-- what stands behind the last end of a line is empty only where the text ends with it
last_filled : (b : ℕ) (bs : List ℕ) → ((front : List ℕ) → b ∷ bs ≢ front ++ (10 ∷ [])) → Filled (parts (b ∷ bs))
last_filled b [] f = elim (cases_Bool (eqb b 10)) [
  | inl e ↦ absurd (f [] (ap (λ (x : ℕ). x ∷ []) (eqb-true b 10 e)))
  | inr e ↦ subst Filled (sym (slice_split-cons_no (λ byte. eqb byte 10) b [] e)) (filled_onto_one b)
]
  where
    filled_onto_one : (b : ℕ) → Filled ((b ∷ []) ∷ [])
    filled_onto_one b = omega arith
last_filled b (c ∷ cs) f =
    let rest = last_filled c cs (λ front e. f (b ∷ front) (ap (λ (t : List ℕ). b ∷ t) e)) in
    elim (cases_Bool (eqb b 10)) [
      | inl e ↦ subst Filled (sym (slice_split-cons_yes (λ byte. eqb byte 10) b (c ∷ cs) e)) (filled_behind [] (parts (c ∷ cs)) (some_part (c ∷ cs)) rest)
      | inr e ↦ subst Filled (sym (slice_split-cons_no (λ byte. eqb byte 10) b (c ∷ cs) e)) (filled_onto b (parts (c ∷ cs)) (some_part (c ∷ cs)) rest)
    ]

-- the parts of a text that is not empty, without the end of its last line if it has one
pub lines_from_parts : (text : Bor (List ℕ)) (bytes : List ℕ) (front : Option (Bor (List ℕ))) → length text.now ≢ 0 → MatchOption front ((f : List ℕ) → text.now ≢ f ++ (10 ∷ [])) (λ x. text.now ≡ x.now ++ (10 ∷ [])) →
    bytes ≡ (unwrap_or front text).now → LinesOf (parts bytes) text.now
lines_from_parts text bytes (Some x) some e r = subst (λ (t : List ℕ). LinesOf (parts t) text.now) (sym r) (record { whole = inl (ended_parts x.now ∙ sym e); plain = plain_parts x.now })
lines_from_parts text bytes None some f r = subst (λ (t : List ℕ). LinesOf (parts t) text.now) (sym r) (record { whole = inr (filled text.now some f, ended_parts text.now); plain = plain_parts text.now })
  where
    filled : (bytes : List ℕ) → length bytes ≢ 0 → ((f : List ℕ) → bytes ≢ f ++ (10 ∷ [])) → Filled (parts bytes)
    filled [] s f = absurd (s refl)
    filled (b ∷ bs) s f = last_filled b bs f
