-- The ends are those of the alternatives of a turn, however many turns that takes.
use Rattle.std.proofs.Common.{◌≡◌, ℕ, zero, suc, ◌<◌, List, [], ◌∷◌, ◌++◌, Some, None, Option, refl, ◌∙◌, ap₂, arith}
use Rattle.std.specs.List.{flat_map as each}
use Rattle.ways.specs.Rewriting.{Every}
use Rattle.all_ends.specs.Ends.{Shape, alternatives, ends_from, by_turn, ends_within, ends_of}
use Rattle.rewrite.specs.Turns.{turn_of}
use Rattle.rewrite.specs.declared.turns.Turn.{Turn}
use Rattle.rewrite.specs.declared.turns.Turn.TheVariants.{Kept, Dropped, Merge, Split, Open, Shift}
use Rattle.all_ends.proofs.Changed.{Good}
use Rattle.all_ends.proofs.Falling.{Less, alternatives_less, every_imp}
use Rattle.all_ends.proofs.Measures.{turns_left, turns_few}

each_same : {A B : Type 0} (f g : A → List B) (xs : List A) → Every (λ x. f x ≡ g x) xs → each f xs ≡ each g xs
each_same f g [] h = refl
each_same f g (x ∷ xs) h = ap₂ (λ a b. a ++ b) h.0 (each_same f g xs h.1)

by_turn_same : (again other : Shape → List (Option Shape)) (s : Shape) (t : Turn) → Every (λ o. ends_from again o ≡ ends_from other o) (alternatives s t) → by_turn again s t ≡ by_turn other s t
unfolding by_turn
by_turn_same again other s Kept h = refl
by_turn_same again other s Dropped h = refl
by_turn_same again other s (Merge z) h = each_same _ _ _ h
by_turn_same again other s (Split z x) h = each_same _ _ _ h
by_turn_same again other s (Open z x) h = each_same _ _ _ h
by_turn_same again other s (Shift z y t) h = each_same _ _ _ h

-- what holds of every alternative that is a pattern with fewer turns left
pub by_less : (F : Option Shape → Type 0) (s : Shape) → Good s → F None → ((q : Shape) → Good q → turns_left q.rows < turns_left s.rows → F (Some q)) → Every F (alternatives s (turn_of s.rows))
by_less F s g a b = every_imp (Less s) F _ one (alternatives_less s g)
  where
    one : (o : Option Shape) → Less s o → F o
    one None h = a
    one (Some q) h = b q h.0 h.1

enough : (f h : ℕ) (s : Shape) → Good s → turns_left s.rows < f → turns_left s.rows < h → ends_within f s ≡ ends_within h s
unfolding ends_within
enough zero h s g a b = absurd (omega arith)
enough (suc f) zero s g a b = absurd (omega arith)
enough (suc f) (suc h) s g a b =
    by_turn_same (ends_within f) (ends_within h) s (turn_of s.rows)
    (by_less (λ o. ends_from (ends_within f) o ≡ ends_from (ends_within h) o) s g refl (λ q k l. enough f h q k (omega arith) (omega arith)))

pub by_the_rules : (s : Shape) → Good s → ends_of s ≡ by_turn ends_of s (turn_of s.rows)
by_the_rules s g =
    one s ∙ by_turn_same (ends_within 999999) ends_of s (turn_of s.rows)
    (by_less (λ o. ends_from (ends_within 999999) o ≡ ends_from ends_of o) s g refl
    (λ q k l. let m = turns_few s.rows in (unfold ends_of in enough 999999 1000000 q k (omega arith) (omega arith))))
  where
    one : (s : Shape) → ends_of s ≡ by_turn (ends_within 999999) s (turn_of s.rows)
    one s = unfold ends_of ends_within in refl
