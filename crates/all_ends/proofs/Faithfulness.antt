-- The alternatives of a question stand for it.
use Rattle.std.proofs.Common.{◌≡◌, ℕ, ◌+◌, ◌≤◌, true, leb, ◌⊎◌, List, [], ◌∷◌, ◌++◌, map, length, Some, None, vec_items, Option, sym, refl, ap, ◌∙◌, subst, ap₂, inl, inr, arith}
use Rattle.std.proofs.lemmas.Bool.{and_parts, leb-true}
use Rattle.record.specs.Records.{Record}
use Rattle.record.specs.declared.place.Place.{Place}
use Rattle.tally.specs.Semirings.{Semiring, total}
use Rattle.tally.specs.Tallies.{naturals}
use Rattle.tally.proofs.Sums.{nought_plus}
use Rattle.ways.specs.Rewriting.{Every}
use Rattle.ways.proofs.Whole.{total_append, map_append}
use Rattle.pattern.proofs.SeatLists.{seats_long}
use Rattle.pattern.specs.Rows.{seats}
use Rattle.pattern.specs.Questions.{value_at, ways, question_ways, selects}
use Rattle.pattern.specs.Sizes.{path_rows}
use Rattle.pattern.specs.declared.base.Pattern.{Pattern}
use Rattle.pattern.specs.declared.forward.Forward.{Forward}
use Rattle.all_ends.specs.Ends.{Shape, shape_of, ends_of, kept_of, question_ends, expanded_rows, fits}
use Rattle.all_ends.specs.Reached.{forward_shape}
use Rattle.all_ends.specs.Rewritten.{all_fit, Finished, plain, Among, Any, EndOf, Faithful}
use Rattle.all_ends.specs.declared.base.Ends.{Ends}
use Rattle.all_ends.proofs.Accounts.{kept_append}
use Rattle.all_ends.proofs.Bounded.{Within, ends_bounded}
use Rattle.all_ends.proofs.Changed.{good_pattern}
use Rattle.all_ends.proofs.Falling.{member}
use Rattle.all_ends.proofs.Measures.{turns_few}
use Rattle.all_ends.proofs.Rooms.{fits_numbered}
use Rattle.all_ends.proofs.Shorter.{fits_whole}
use Rattle.all_ends.proofs.Worths.{worth, worth_value, worth_none, ends_kept}

module _ {T : Type 0} (S : Semiring T) (places : List Place) (rec : Record places) (p : ℕ) where
  abbrev worth_of : Shape → T
  worth_of s = worth S places rec p (Some s)

  -- what is dropped is worth nothing
  only_kept : (es : List (Option Shape)) → total S (map (worth S places rec p) es) ≡ total S (map worth_of (kept_of es))
  unfolding total kept_of
  only_kept [] = refl
  only_kept (None ∷ es) = ap (λ x. S.plus x (total S (map (worth S places rec p) es))) (worth_none S places rec p) ∙ nought_plus S _ ∙ only_kept es
  only_kept (Some s ∷ es) = ap (S.plus (worth_of s)) (only_kept es)

  one_source : (P : Pattern) → fits (shape_of P) ≡ true → total S (map worth_of (kept_of (ends_of (shape_of P)))) ≡ value_at S places P p
  unfolding ends_of
  one_source P f =
      sym (only_kept (ends_of (shape_of P)))
      ∙ ends_kept S places rec p 1000000 (shape_of P) (good_pattern P (sym (seats_long P.rows) ∙ fits_whole (shape_of P) f)) (fits_numbered (shape_of P) f) (let l = turns_few (seats P.rows) in omega arith)
      ∙ worth_value S places rec p P

  all_sources : (Ps : List Pattern) → all_fit Ps ≡ true → total S (map worth_of (kept_of (question_ends Ps))) ≡ total S (map (λ P. value_at S places P p) Ps)
  unfolding question_ends total
  all_sources [] f = unfold kept_of in refl
  all_sources (P ∷ Ps) f =
      ap (λ l. total S (map worth_of l)) (kept_append (ends_of (shape_of P)) (question_ends Ps))
      ∙ ap (total S) (map_append S worth_of (kept_of (ends_of (shape_of P))) (kept_of (question_ends Ps)))
      ∙ total_append S _ _
      ∙ ap₂ S.plus (one_source P (and_parts _ _ f).0) (all_sources Ps (and_parts _ _ f).1)

  by_shapes : (Qs : List Pattern) → total S (map (λ Q. value_at S places Q p) Qs) ≡ total S (map worth_of (map shape_of Qs))
  unfolding total
  by_shapes [] = refl
  by_shapes (Q ∷ Qs) = ap₂ S.plus (sym (worth_value S places rec p Q)) (by_shapes Qs)

  pub values_kept : (Ps Qs : List Pattern) → all_fit Ps ≡ true → map shape_of Qs ≡ kept_of (question_ends Ps) →
      total S (map (λ Q. value_at S places Q p) Qs) ≡ total S (map (λ P. value_at S places P p) Ps)
  values_kept Ps Qs f e = by_shapes Qs ∙ ap (λ l. total S (map worth_of l)) e ∙ all_sources Ps f

total_ways : (places : List Place) (p : ℕ) (Ps : List Pattern) → question_ways places Ps p ≡ total naturals (map (λ P. value_at naturals places P p) Ps)
unfolding question_ways total ways naturals
total_ways places p [] = refl
total_ways places p (P ∷ Ps) = ap (λ n. value_at naturals places P p + n) (total_ways places p Ps)

map_map : (fs : List Forward) → map shape_of (map plain fs) ≡ map forward_shape fs
map_map [] = refl
map_map (f ∷ fs) = ap {B = List Shape} (λ l. forward_shape f ∷ l) (map_map fs)

-- every member of a list
every_member : {A : Type 0} (F : A → Type 0) (xs : List A) → ((x : A) → Among x xs → F x) → Every F xs
every_member F [] h = tt
every_member F (x ∷ xs) h = (h x (inl refl), every_member F xs (λ y i. h y (inr i)))

among_append : {A : Type 0} (x : A) (xs ys : List A) → Among x (xs ++ ys) → Among x xs ⊎ Among x ys
among_append x [] ys i = inr i
among_append x (y ∷ xs) ys (inl e) = inl (inl e)
among_append x (y ∷ xs) ys (inr i) = elim (among_append x xs ys i) [ inl j ↦ inl (inr j) | inr j ↦ inr j ]

among_map : (f : Forward) (fs : List Forward) → Among f fs → Among (forward_shape f) (map forward_shape fs)
among_map f [] i = absurd i
among_map f (g ∷ fs) (inl e) = inl (ap forward_shape e)
among_map f (g ∷ fs) (inr i) = inr (among_map f fs i)

end_of : (P : Pattern) → length P.rows ≡ 16 → (f : Forward) → Among (forward_shape f) (kept_of (ends_of (shape_of P))) → EndOf P f
end_of P len f i = let (a, b, d, k) = member (Within (shape_of P)) _ (ends_bounded (shape_of P) (good_pattern P len)) (forward_shape f) i in record { reached = i; rows = a; path = b; down = d; root = k }

of_some : (Ps : List Pattern) → all_fit Ps ≡ true → (f : Forward) → Among (forward_shape f) (kept_of (question_ends Ps)) → Any (λ P. EndOf P f) Ps
unfolding question_ends
of_some [] a f i = absurd (unfold kept_of in i)
of_some (P ∷ Ps) a f i = elim (among_append (forward_shape f) (kept_of (ends_of (shape_of P))) (kept_of (question_ends Ps)) (subst (Among (forward_shape f)) (kept_append (ends_of (shape_of P)) (question_ends Ps)) i)) [
  | inl j ↦ inl (end_of P (sym (seats_long P.rows) ∙ fits_whole (shape_of P) (and_parts _ _ a).0) f j)
  | inr j ↦ inr (of_some Ps (and_parts _ _ a).1 f j)
]

short_of : (Ps : List Pattern) (f : Forward) → all_fit Ps ≡ true → Any (λ P. EndOf P f) Ps → path_rows (seats f.pattern.rows) f.pattern.output ≤ 15
unfolding fits
short_of [] f a i = absurd i
short_of (P ∷ Ps) f a (inl e) = let l : expanded_rows (shape_of P) ≤ 15 = leb-true (expanded_rows (shape_of P)) 15 (and_parts _ _ (and_parts _ _ (and_parts _ _ a).0).1).1 in let p : path_rows (seats f.pattern.rows) f.pattern.output ≤ expanded_rows (shape_of P) = e.path in omega arith
short_of (P ∷ Ps) f a (inr i) = short_of Ps f (and_parts _ _ a).1 i

pub faithful : (Ps : List Pattern) (ends : Ends) → all_fit Ps ≡ true → Finished Ps ends → Faithful Ps (vec_items ends.kept)
faithful Ps ends f done = record {
  ways = same;
  selected = λ places rec p. unfold selects in ap (leb 1) (same places rec p);
  forward = every_member _ fs (λ g _. g.ahead);
  ends = every_member _ fs among_ends;
  short = every_member _ fs (λ g i. short_of Ps g f (among_ends g i));
}
  where
    fs : List Forward
    fs = vec_items ends.kept

    among_ends : (g : Forward) → Among g fs → Any (λ P. EndOf P g) Ps
    among_ends g i = of_some Ps f g (subst (Among (forward_shape g)) done.kept (among_map g fs i))

    same : (places : List Place) → Record places → (p : ℕ) → question_ways places (map plain fs) p ≡ question_ways places Ps p
    same places rec p = total_ways places p (map plain fs) ∙ values_kept naturals places rec p Ps (map plain fs) f (map_map fs ∙ done.kept) ∙ sym (total_ways places p Ps)
