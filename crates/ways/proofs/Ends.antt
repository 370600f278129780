-- Rewriting ends: with turns enough no row goes against a step.
use Rattle.std.proofs.Common.{◌≡◌, ℕ, zero, suc, ◌+◌, ◌*◌, ◌<◌, ◌≤◌, true, ◌≢◌, List, [], ◌∷◌, ◌++◌, length, sym, refl, ap, ◌∙◌, subst, inl, inr, mul-le-mul_right, arith}
use Rattle.record.specs.Moves.{table}
use Rattle.record.specs.declared.axis.Step.{Step}
use Rattle.record.specs.declared.axis.Axis.{Axis}
use Rattle.record.specs.declared.axis.Axis.TheVariants.{Along, Against, Itself, Wide}
use Rattle.record.specs.declared.rules.Move.{Move}
use Rattle.record.specs.declared.rules.Move.TheVariants.{Up, Join, Between}
use Rattle.tally.specs.Semirings.{Semiring}
use Rattle.ways.specs.Merging.{axed, merged}
use Rattle.ways.specs.Ways.{upd, In, remove, Weighted, Tree}
use Rattle.std.proofs.lemmas.Bool.{cases_eq, false≢true}
use Rattle.std.proofs.lemmas.Bool.Decides.{nat_tests}
use Rattle.ways.proofs.RowLists.{in_sub, by_head}
use Rattle.ways.proofs.RowSums.{upd_same, upd_other}
use Rattle.ways.specs.Expanding.{plain}
use Rattle.ways.specs.Rewriting.{moved, Todo, Done, Dropped, At, todo_of, concat_map, turn, rewriting, NoneBack, Every}
use Rattle.ways.proofs.Whole.{ranked, FindView, todo_view, tree_kept, rank_Y, Y_Z}

abbrev heavy : Axis → ℕ → ℕ
heavy (Along s) m = 0
heavy (Against s) m = m
heavy Itself m = 0
heavy (Wide x) m = 0

heavy_mono : (a : Axis) (m n : ℕ) → m ≤ n → heavy a m ≤ heavy a n
heavy_mono (Along s) m n h = omega arith
heavy_mono (Against s) m n h = h
heavy_mono Itself m n h = omega arith
heavy_mono (Wide x) m n h = omega arith

heavy_le : (a : Axis) (m : ℕ) → heavy a m ≤ m
heavy_le (Along s) m = omega arith
heavy_le (Against s) m = omega arith
heavy_le Itself m = omega arith
heavy_le (Wide x) m = omega arith

-- the library's `sum_by` is a fold from the left, which does not unfold at an element
abbrev pub lsum : (ℕ → ℕ) → List ℕ → ℕ
lsum f [] = 0
lsum f (r ∷ rs) = f r + lsum f rs

pub lsum_le : (rs : List ℕ) (f g : ℕ → ℕ) → ((r : ℕ) → In r rs → f r ≤ g r) → lsum f rs ≤ lsum g rs
lsum_le [] f g h = omega arith
lsum_le (r ∷ rs) f g h = let a = h r (inl refl) in let b = lsum_le rs f g (λ x i. h x (inr i)) in omega arith

pub lsum_lt : (z : ℕ) (rs : List ℕ) (f g : ℕ → ℕ) → In z rs → f z < g z → ((r : ℕ) → In r rs → f r ≤ g r) → lsum f rs < lsum g rs
lsum_lt z [] f g i l h = absurd i
lsum_lt z (r ∷ rs) f g i l h = elim i [
  | inl e ↦ let a : f r < g r = subst (λ x. f x < g x) e l in let b = lsum_le rs f g (λ x i. h x (inr i)) in omega arith
  | inr j ↦ let a = h r (inl refl) in let b = lsum_lt z rs f g j l (λ x i. h x (inr i)) in omega arith
]

pub lsum_remove : (z : ℕ) (rs : List ℕ) (f : ℕ → ℕ) → In z rs → lsum f rs ≡ f z + lsum f (remove z rs)
lsum_remove z [] f i = absurd i
lsum_remove z (r ∷ rs) f i = by_head z r rs (λ l. f r + lsum f rs ≡ f z + lsum f l)
    (λ e. rw e)
    (λ k. elim i [ inl e ↦ absurd (k (sym e)) | inr j ↦ let h = lsum_remove z rs f j in omega arith ])

pub lsum_bound : (rs : List ℕ) (f : ℕ → ℕ) (K : ℕ) → ((r : ℕ) → In r rs → f r ≤ K) → lsum f rs ≤ length rs * K
lsum_bound [] f K h = omega arith
lsum_bound (r ∷ rs) f K h = let a = h r (inl refl) in let b = lsum_bound rs f K (λ x i. h x (inr i)) in omega arith

length_remove : (z : ℕ) (rs : List ℕ) → length (remove z rs) ≤ length rs
unfolding remove
length_remove z [] = omega arith
length_remove z (r ∷ rs) = by_head z r rs (λ l. length l ≤ suc (length rs)) (λ _. omega arith) (λ _. let h = length_remove z rs in omega arith)

pub every_append : {A : Type 0} (F : A → Type 0) (xs ys : List A) → Every F xs → Every F ys → Every F (xs ++ ys)
every_append F [] ys a b = b
every_append F (x ∷ xs) ys a b = (a.0, every_append F xs ys a.1 b)

every_concat : {A B : Type 0} (F : B → Type 0) (g : A → List B) (xs : List A) → ((x : A) → Every F (g x)) → Every F (concat_map g xs)
unfolding concat_map
every_concat F g [] h = tt
every_concat F g (x ∷ xs) h = every_append F (g x) (concat_map g xs) (h x) (every_concat F g xs h)

module _ {T : Type 0} where
  abbrev backs : Weighted T → ℕ
  backs P = lsum (λ r. heavy (P.axis r) 1) P.rows

  abbrev weight : Weighted T → (ℕ → ℕ) → ℕ
  weight P rank = lsum (λ r. heavy (P.axis r) (rank r)) P.rows

  pub record Fits (P : Weighted T) (rank : ℕ → ℕ) (K C : ℕ) : Type 0 where
    pub most : ℕ
    pub ranks : (r : ℕ) → In r P.rows → rank r ≤ most
    pub room : most + backs P ≤ K
    pub wide : length P.rows * K < C
    pub no_self : (r : ℕ) → In r P.rows → plain (P.axis r) ≡ true

  weight_small : (P : Weighted T) (rank : ℕ → ℕ) (K C : ℕ) → Fits P rank K C → weight P rank < C
  weight_small P rank K C f =
      let h = lsum_bound P.rows (λ r. heavy (P.axis r) (rank r)) K (λ r i. let a = heavy_le (P.axis r) (rank r) in let b = f.ranks r i in let c = f.room in omega arith) in
      let w = f.wide in omega arith

  module _ (S : Semiring T) (P : Weighted T) (rank : ℕ → ℕ) (tree : Tree P rank) (W Y Z : ℕ) (upY : P.up Y ≡ W) (upZ : P.up Z ≡ Y) (inY : In Y P.rows) (inZ : In Z P.rows)
      (sY sZ : Step) (axY : P.axis Y ≡ Along sY) (axZ : P.axis Z ≡ Against sZ) where
    yz : rank Y < rank Z
    yz = rank_Y S P rank tree W Y Z upY upZ inY inZ

    y≢z : Y ≢ Z
    y≢z = Y_Z S P rank tree W Y Z upY upZ inY inZ

    weight_up : weight (moved S P W Y Z Up) (ranked rank Y Z Up) < weight P rank
    unfolding moved
    weight_up = lsum_lt Z P.rows _ _ inZ at_Z (λ r _. heavy_mono (P.axis r) _ _ (lower r))
      where
        lower : (r : ℕ) → upd rank Z (rank Y) r ≤ rank r
        lower r = let h = yz in unfold upd in grind (arith, nat_tests)

        at_Z : heavy (P.axis Z) (upd rank Z (rank Y) Z) < heavy (P.axis Z) (rank Z)
        at_Z = rw (axZ, upd_same rank Z (rank Y)) yz

    backs_join : (s : Step) → backs (moved S P W Y Z (Join s)) < backs P
    unfolding moved merged axed remove
    backs_join s =
        let e = lsum_remove Z P.rows (λ r. heavy (P.axis r) 1) inZ in
        let o : heavy (P.axis Z) 1 ≡ 1 = rw axZ in
        let l = lsum_le (remove Z P.rows) (λ r. heavy (upd P.axis Y (Along s) r) 1) (λ r. heavy (P.axis r) 1) (λ r _. lower r) in
        omega arith
      where
        lower : (r : ℕ) → heavy (upd P.axis Y (Along s) r) 1 ≤ heavy (P.axis r) 1
        lower r = elim (cases_eq r Y) [ inl e ↦ rw (e, upd_same P.axis Y (Along s)) (omega arith) | inr k ↦ rw (upd_other P.axis Y (Along s) r k) (omega arith) ]

    backs_between : (s t : Step) → backs (moved S P W Y Z (Between s t)) < backs P
    unfolding moved
    backs_between s t = lsum_lt Z P.rows _ _ inZ at_Z (λ r _. lower r)
      where
        lower : (r : ℕ) → heavy (upd (upd P.axis Z (Along s)) Y (Along t) r) 1 ≤ heavy (P.axis r) 1
        lower r = elim (cases_eq r Y) [
          | inl e ↦ rw (e, upd_same (upd P.axis Z (Along s)) Y (Along t)) (omega arith)
          | inr k ↦ rw (upd_other (upd P.axis Z (Along s)) Y (Along t) r k) (elim (cases_eq r Z) [
            | inl e ↦ rw (e, upd_same P.axis Z (Along s)) (omega arith)
            | inr l ↦ rw (upd_other P.axis Z (Along s) r l) (omega arith)
          ])
        ]

        at_Z : heavy (upd (upd P.axis Z (Along s)) Y (Along t) Z) 1 < heavy (P.axis Z) 1
        at_Z = rw (upd_other (upd P.axis Z (Along s)) Y (Along t) Z (λ e. y≢z (sym e)), upd_same P.axis Z (Along s), axZ) (omega arith)

    no_self_upd : (axis : ℕ → Axis) (y : ℕ) (s : Step) (r : ℕ) → plain (axis r) ≡ true → plain (upd axis y (Along s) r) ≡ true
    no_self_upd axis y s r n = elim (cases_eq r y) [
      | inl e ↦ rw (e, upd_same axis y (Along s)) refl
      | inr k ↦ rw (upd_other axis y (Along s) r k) n
    ]

    fits_kept : (K C : ℕ) → Fits P rank K C → (x : Move) → Fits (moved S P W Y Z x) (ranked rank Y Z x) K C
    unfolding moved merged axed remove
    fits_kept K C f Up = record {
      most = f.most;
      ranks = λ r i. let a = f.ranks r i in let b = f.ranks Y inY in unfold upd in grind (arith, nat_tests);
      room = f.room;
      wide = f.wide;
      no_self = f.no_self;
    }
    fits_kept K C f (Join s) = record {
      most = f.most;
      ranks = λ r i. f.ranks r (in_sub r Z P.rows i);
      room = let b = backs_join s in let a = f.room in omega arith;
      wide = let l = mul-le-mul_right K (length_remove Z P.rows) in let a = f.wide in omega arith;
      no_self = λ r i. no_self_upd P.axis Y s r (f.no_self r (in_sub r Z P.rows i));
    }
    fits_kept K C f (Between s t) = record {
      most = suc f.most;
      ranks = λ r i. let a = f.ranks r i in let b = f.ranks Y inY in unfold upd in grind (arith, nat_tests);
      room = let b = backs_between s t in let a = f.room in omega arith;
      wide = f.wide;
      no_self = λ r i. no_self_upd (upd P.axis Z (Along s)) Y t r (no_self_upd P.axis Z s r (f.no_self r i));
    }

    falls : (K C : ℕ) → Fits P rank K C → (x : Move) → backs (moved S P W Y Z x) * C + weight (moved S P W Y Z x) (ranked rank Y Z x) < backs P * C + weight P rank
    falls K C f Up = let h = weight_up in (unfold moved in omega arith)
    falls K C f (Join s) = let w = weight_small _ _ K C (fits_kept K C f (Join s)) in let h = mul-le-mul_right C (backs_join s) in omega arith
    falls K C f (Between s t) = let w = weight_small _ _ K C (fits_kept K C f (Between s t)) in let h = mul-le-mul_right C (backs_between s t) in omega arith

  -- what the search leaves is forward: go up to the root
  pub done_forward : (P : Weighted T) (rank : ℕ → ℕ) → Tree P rank → ((r : ℕ) → In r P.rows → plain (P.axis r) ≡ true) → FindView P P.rows Done → (m r : ℕ) → rank r < m → In r P.rows → (s : Step) → P.axis r ≡ Against s → ⊥
  done_forward P rank tree ns v zero r h i s e = omega arith
  done_forward P rank tree ns v (suc m) r h i s e = go (P.axis (P.up r)) refl (λ u l j t k. done_forward P rank tree ns v m u l j t k)
    where
      above : In (P.up r) P.rows
      above = elim (tree.ups r i) [ inl z ↦ absurd ((v r i s e).0 z) | inr j ↦ j ]

      go : (a : Axis) → P.axis (P.up r) ≡ a → ((u : ℕ) → rank u < m → In u P.rows → (t : Step) → P.axis u ≡ Against t → ⊥) → ⊥
      go (Along t) k again = (v r i s e).1 t k
      go (Against t) k again = let l = tree.ranks r i in again (P.up r) (omega arith) above t k
      go Itself k again = false≢true (sym (ap plain k) ∙ ns (P.up r) above)
      go (Wide x) k again = false≢true (sym (ap plain k) ∙ ns (P.up r) above)

  pub ended : (S : Semiring T) (K C k : ℕ) (P : Weighted T) (rank : ℕ → ℕ) → Tree P rank → Fits P rank K C → backs P * C + weight P rank < k → Every NoneBack (rewriting S k P)
  unfolding rewriting turn
  ended S K C zero P rank tree fits h = absurd (omega arith)
  ended S K C (suc k) P rank tree fits h = go (todo_of P) (todo_view P) (λ Q r t f l. ended S K C k Q r t f l)
    where
      go : (o : Todo) → FindView P P.rows o → ((Q : Weighted T) (r : ℕ → ℕ) → Tree Q r → Fits Q r K C → backs Q * C + weight Q r < k → Every NoneBack (rewriting S k Q)) → Every NoneBack (turn S (λ Q. rewriting S k Q) P o)
      go Done v again = (λ r i s e. done_forward P rank tree fits.no_self v (suc (rank r)) r (omega arith) i s e, tt)
      go Dropped v again = tt
      go (At Z sY sZ) v again =
          let Y : ℕ = P.up Z in
          let W : ℕ = P.up Y in
          let inY : In Y P.rows = elim (tree.ups Z v.0) [ inl e ↦ absurd (v.3 e) | inr i ↦ i ] in
          every_concat NoneBack (λ x. rewriting S k (moved S P W Y Z x)) (table sY sZ) (λ x.
          let l = falls S P rank tree W Y Z refl refl inY v.0 sY sZ v.2 v.1 K C fits x in
          again (moved S P W Y Z x) (ranked rank Y Z x) (tree_kept S P rank tree W Y Z refl refl inY v.0 x) (fits_kept S P rank tree W Y Z refl refl inY v.0 sY sZ v.2 v.1 K C fits x) (omega arith))

  pub ends : (S : Semiring T) (P : Weighted T) (rank : ℕ → ℕ) → Tree P rank → length P.rows ≤ 15 → ((r : ℕ) → In r P.rows → (rank r ≤ 15) × (plain (P.axis r) ≡ true)) → Every NoneBack (rewriting S 7300 P)
  ends S P rank tree l h =
      let b : backs P ≤ length P.rows * 1 = lsum_bound P.rows (λ r. heavy (P.axis r) 1) 1 (λ r _. heavy_le (P.axis r) 1) in
      let f : Fits P rank 30 451 = record { most = 15; ranks = λ r i. (h r i).0; room = omega arith; wide = omega arith; no_self = λ r i. (h r i).1 } in
      let w = weight_small P rank 30 451 f in
      ended S 30 451 7300 P rank tree f (omega arith)
