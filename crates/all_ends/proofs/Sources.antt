-- The patterns of a question, one after another.
use Rattle.std.proofs.Common.{◌≡◌, ℕ, ◌+◌, ◌*◌, ◌<◌, ◌≤◌, leb, true, ◌&&◌, ◌⊎◌, List, [], ◌∷◌, ◌++◌, map, length, get_or, take, drop, Err, vec_items, Option, Result, sym, refl, ap, ◌∙◌, subst, inl, inr, arith}
use Rattle.std.specs.List.{flat_map as each}
use Rattle.std.proofs.lemmas.List.{append-nil, take_all, take_more, take-append-drop, drop_more, length-append}
use Rattle.std.proofs.lemmas.Grind.{flat_map-append}
use Rattle.std.proofs.lemmas.Bool.{eq-eqb, le-leb, lt-leb}
use Rattle.pattern.specs.Rows.{seats}
use Rattle.pattern.proofs.SeatLists.{seats_long}
use Rattle.pattern.specs.Sizes.{how_many, path_rows}
use Rattle.pattern.specs.declared.base.Pattern.{Pattern}
use Rattle.refusal.specs.Memory.{no_memory}
use Rattle.refusal.specs.declared.refusing.Refusal.{Refusal}
use Rattle.all_ends.specs.Ends.{Shape, shape_of, ends_of, kept_of, question_ends, next_number, to_open, fits}
use Rattle.all_ends.specs.Reached.{max_ends, too_many_ends, forward_shape, Grown, Reached}
use Rattle.all_ends.specs.Rewritten.{all_fit, Finished, Outcome}
use Rattle.all_ends.specs.declared.base.Ends.{Ends}
use Rattle.all_ends.proofs.Accounts.{kept_append}

-- what is asked of a pattern, by the numbers that the code has for it: n the next number, m the rows to open, p the rows of a path
module _ (P : Pattern) (len : length P.rows ≡ 16) (n m : ℕ) (e : n ≡ next_number (seats P.rows)) (f : m ≡ how_many to_open (seats P.rows)) where
  pub fits_numbers : (p : ℕ) → p ≡ path_rows (seats P.rows) P.output → n + 2 * m ≤ 16 → leb (p + 2 * m) 15 ≡ fits (shape_of P)
  unfolding fits
  fits_numbers p g h = ap (λ b. b && leb (p + 2 * m) 15) (sym (le-leb (n + 2 * m) 16 h)) ∙ rw (e, f, g, eq-eqb (length (seats P.rows)) 16 (seats_long P.rows ∙ len)) refl

  pub fits_no_numbers : 16 < n + 2 * m → leb (n + 2 * m) 16 ≡ fits (shape_of P)
  unfolding fits
  fits_no_numbers h = let k = lt-leb (n + 2 * m) 16 h in k ∙ rw (sym e, sym f, eq-eqb (length (seats P.rows)) 16 (seats_long P.rows ∙ len), k) refl

-- the ends of one pattern more
module _ (Ps : List Pattern) (i : ℕ) (d : Pattern) (l : i < length Ps) where
  abbrev here : List (Option Shape)
  here = ends_of (shape_of (get_or Ps i d))

  ends_more : question_ends (take (i + 1) Ps) ≡ question_ends (take i Ps) ++ here
  unfolding question_ends
  ends_more =
      ap (each (λ P. ends_of (shape_of P))) (take_more Ps i d l) ∙ flat_map-append _ (take i Ps) (get_or Ps i d ∷ [])
      ∙ ap (λ x. each (λ P. ends_of (shape_of P)) (take i Ps) ++ x) (append-nil here)

  ends_all : question_ends (take i Ps) ++ (here ++ question_ends (drop (i + 1) Ps)) ≡ question_ends Ps
  unfolding question_ends
  ends_all =
      sym (ap (each (λ P. ends_of (shape_of P))) (sym (take-append-drop i Ps)) ∙ flat_map-append _ (take i Ps) (drop i Ps)
      ∙ ap (λ x. each (λ P. ends_of (shape_of P)) (take i Ps) ++ each (λ P. ends_of (shape_of P)) x) (drop_more Ps i d l))

  pub finished_more : (a b : Ends) → Finished (take i Ps) a → Grown a here b → Finished (take (i + 1) Ps) b
  finished_more a b f g =
      let e = ends_more in
      record {
        number = let n = length-append (question_ends (take i Ps)) here in let k = ap length e in let p = f.number in let q = g.number in omega arith;
        kept = g.kept ∙ ap (λ x. x ++ kept_of here) f.kept ∙ sym (kept_append (question_ends (take i Ps)) here) ∙ ap kept_of (sym e);
      }

  pub finished_fails : (a b : Ends) (e : Refusal) → Finished (take i Ps) a → Reached a here (Err e) b → (e ≡ no_memory) ⊎ ((e ≡ too_many_ends) × (max_ends < length (question_ends Ps)))
  finished_fails a b e f (inl m) = inl m
  finished_fails a b e f (inr (m, n)) =
      let k = ap length ends_all in
      let p = length-append (question_ends (take i Ps)) (here ++ question_ends (drop (i + 1) Ps)) in
      let q = length-append here (question_ends (drop (i + 1) Ps)) in
      let r = f.number in
      inr (m, omega arith)

pub finished_none : (Ps : List Pattern) (a : Ends) → a.number ≡ 0 → vec_items a.kept ≡ [] → Finished (take 0 Ps) a
unfolding question_ends kept_of
finished_none Ps a n e = record { number = n; kept = ap (map forward_shape) e }

pub finished_all : (Ps : List Pattern) (i : ℕ) (a : Ends) → length Ps ≤ i → Finished (take i Ps) a → Finished Ps a
finished_all Ps i a l f = subst (λ x. Finished x a) (take_all i Ps l) f

-- what is answered where every pattern fits
abbrev Failed : List Pattern → Refusal → Type 0
Failed Ps e = (e ≡ no_memory) ⊎ ((e ≡ too_many_ends) × (max_ends < length (question_ends Ps)))

pub outcome_fails : (Ps : List Pattern) (r : Result Ends Refusal) (x y : Refusal) → all_fit Ps ≡ true → r ≡ Err x → x ≡ y → Failed Ps y → Outcome Ps r
outcome_fails Ps r x y f e g h = subst (Outcome Ps) (sym (e ∙ ap {B = Result Ends Refusal} Err g)) (rw f h)
