-- Expansion as a whole keeps the value, and ends.
use Rattle.std.proofs.Common.{◌≡◌, ℕ, zero, suc, ◌+◌, ◌<◌, ◌≤◌, true, ◌≢◌, ◌⊎◌, List, [], ◌∷◌, ◌++◌, map, sym, refl, ap, ◌∙◌, subst, ap₂, inl, inr, arith}
use Rattle.record.specs.declared.axis.Step.TheVariants.{Descendant, FollowingSibling}
use Rattle.record.specs.declared.axis.Reach.{Reach}
use Rattle.record.specs.declared.axis.Reach.TheVariants.{DescendantOrSelf, AncestorOrSelf, Following, Preceding}
use Rattle.record.specs.declared.axis.Axis.{Axis}
use Rattle.record.specs.declared.axis.Axis.TheVariants.{Along, Against, Itself, Wide}
use Rattle.tally.specs.Semirings.{Semiring, total}
use Rattle.ways.specs.Merging.{axed, merged}
use Rattle.ways.specs.Ways.{upd, In, Apart, remove, Weighted, value, Tree}
use Rattle.std.proofs.lemmas.Bool.{cases_eq}
use Rattle.ways.proofs.Merges.{merge_kept, tree_under, tree_axed, tree_merged}
use Rattle.ways.proofs.RowLists.{remove_here, remove_other, in_sub, not_in}
use Rattle.ways.proofs.RowSums.{upd_same, upd_other}
use Rattle.ways.specs.Expanding.{Grown, opened, Task, Settled, ToMerge, ToSplit, ToOpen, wants, task_in, expand_turn, expanding, plain, Plain}
use Rattle.ways.specs.Rewriting.{Every}
use Rattle.ways.proofs.Ends.{lsum, lsum_le, lsum_lt, lsum_remove, every_append}
use Rattle.ways.proofs.Openings.{below_kept, above_kept, following_kept, preceding_kept, tree_opened}
use Rattle.ways.proofs.Whole.{total_append, map_append}

-- lists with two new rows at the end

remove_end : (k : ℕ) (rs l : List ℕ) → (In k rs → ⊥) → remove k (rs ++ (k ∷ l)) ≡ rs ++ l
unfolding remove
remove_end k [] l h = remove_here k l
remove_end k (r ∷ rs) l h = remove_other k r (rs ++ (k ∷ l)) (λ e. h (inl (sym e))) ∙ ap {B = List ℕ} (λ t. r ∷ t) (remove_end k rs l (λ i. h (inr i)))

append_none : (rs : List ℕ) → rs ++ [] ≡ rs
append_none [] = refl
append_none (r ∷ rs) = ap {B = List ℕ} (λ t. r ∷ t) (append_none rs)

in_append : (x : ℕ) (rs l : List ℕ) → In x (rs ++ l) → In x rs ⊎ In x l
in_append x [] l i = inr i
in_append x (r ∷ rs) l i = elim i [ inl e ↦ inl (inl e) | inr j ↦ elim (in_append x rs l j) [ inl a ↦ inl (inr a) | inr b ↦ inr b ] ]

in_end : (x : ℕ) (rs l : List ℕ) → In x l → In x (rs ++ l)
in_end x [] l i = i
in_end x (r ∷ rs) l i = inr (in_end x rs l i)

apart_append : (k : ℕ) (rs : List ℕ) → ((r : ℕ) → In r rs → r < k) → Apart rs → Apart (rs ++ (k ∷ suc k ∷ []))
apart_append k [] h d = (λ i. elim i [ inl e ↦ absurd (omega arith) | inr j ↦ absurd j ], (λ i. absurd i, tt))
apart_append k (r ∷ rs) h d = (
  λ i. elim (in_append r rs (k ∷ suc k ∷ []) i) [
    | inl a ↦ d.0 a
    | inr b ↦ let l = h r (inl refl) in elim b [ inl e ↦ absurd (omega arith) | inr c ↦ elim c [ inl e ↦ absurd (omega arith) | inr j ↦ absurd j ] ]
  ],
  apart_append k rs (λ s i. h s (inr i)) d.1,
)

grown_end : (k : ℕ) (rs : List ℕ) → 1 ≤ k → ((r : ℕ) → In r rs → r < k) → Apart rs → (In 0 rs → ⊥) → Grown rs (rs ++ (k ∷ suc k ∷ [])) k (suc k)
grown_end k rs p h d z =
    let e : remove k (rs ++ (k ∷ suc k ∷ [])) ≡ rs ++ (suc k ∷ []) = remove_end k rs (suc k ∷ []) (λ i. let l = h k i in omega arith) in
    record {
      apart = apart_append k rs h d;
      no_root = λ i. elim (in_append 0 rs (k ∷ suc k ∷ []) i) [ inl a ↦ z a | inr b ↦ elim b [ inl e ↦ absurd (omega arith) | inr c ↦ elim c [ inl e ↦ absurd (omega arith) | inr j ↦ absurd j ] ] ];
      in_N = in_end k rs (k ∷ suc k ∷ []) (inl refl);
      in_M = subst (λ l. In (suc k) l) (sym e) (in_end (suc k) rs (suc k ∷ []) (inl refl));
      left = ap (remove (suc k)) e ∙ remove_end (suc k) rs [] (λ i. let l = h (suc k) i in omega arith) ∙ append_none rs;
    }

low_end : (k : ℕ) (rs : List ℕ) → ((r : ℕ) → In r rs → r < k) → (r : ℕ) → In r (rs ++ (k ∷ suc k ∷ [])) → r < suc (suc k)
low_end k rs h r i = elim (in_append r rs (k ∷ suc k ∷ []) i) [
  | inl a ↦ let l = h r a in omega arith
  | inr b ↦ elim b [ inl e ↦ omega arith | inr c ↦ elim c [ inl e ↦ omega arith | inr j ↦ absurd j ] ]
]

-- what the search finds
abbrev pub View : {T : Type 0} → Weighted T → List ℕ → Task → Type 0
View P rs Settled = (r : ℕ) → In r rs → plain (P.axis r) ≡ true
View P rs (ToMerge Z) = In Z rs × (P.axis Z ≡ Itself)
View P rs (ToSplit Z x) = In Z rs × (((P.axis Z ≡ Wide DescendantOrSelf) × (x ≡ Along Descendant)) ⊎ ((P.axis Z ≡ Wide AncestorOrSelf) × (x ≡ Against Descendant)))
View P rs (ToOpen Z x) = In Z rs × (((P.axis Z ≡ Wide Following) × (x ≡ Along FollowingSibling)) ⊎ ((P.axis Z ≡ Wide Preceding) × (x ≡ Against FollowingSibling)))

view_pass : {T : Type 0} (P : Weighted T) (r : ℕ) (rs : List ℕ) (o : Task) → plain (P.axis r) ≡ true → View P rs o → View P (r ∷ rs) o
view_pass P r rs Settled c v = λ x i. elim i [ inl e ↦ subst (λ y. plain (P.axis y) ≡ true) (sym e) c | inr j ↦ v x j ]
view_pass P r rs (ToMerge Z) c v = (inr v.0, v.1)
view_pass P r rs (ToSplit Z x) c v = (inr v.0, v.1)
view_pass P r rs (ToOpen Z x) c v = (inr v.0, v.1)

wants_view : {T : Type 0} (P : Weighted T) (r : ℕ) (rs : List ℕ) (rest : Task) (a : Axis) → P.axis r ≡ a → View P rs rest → View P (r ∷ rs) (wants a r rest)
unfolding wants
wants_view P r rs rest (Along s) e v = view_pass P r rs rest (ap plain e) v
wants_view P r rs rest (Against s) e v = view_pass P r rs rest (ap plain e) v
wants_view P r rs rest Itself e v = (inl refl, e)
wants_view P r rs rest (Wide DescendantOrSelf) e v = (inl refl, inl (e, refl))
wants_view P r rs rest (Wide AncestorOrSelf) e v = (inl refl, inr (e, refl))
wants_view P r rs rest (Wide Following) e v = (inl refl, inl (e, refl))
wants_view P r rs rest (Wide Preceding) e v = (inl refl, inr (e, refl))

pub task_view : {T : Type 0} (P : Weighted T) (rs : List ℕ) → View P rs (task_in P rs)
unfolding task_in
task_view P [] = λ r i. absurd i
task_view P (r ∷ rs) = wants_view P r rs (task_in P rs) (P.axis r) refl (task_view P rs)

module _ {T : Type 0} (S : Semiring T) (D : ℕ → ℕ) (root : D 0 ≡ 0) (steps : (i : ℕ) → D (suc i) ≤ suc (D i)) (n : ℕ) (some_place : 0 < n) (others : (i : ℕ) → 0 < i → i < n → 1 ≤ D i) where
  abbrev Kept : (ℕ → Weighted T → List (Weighted T)) → Type 0
  Kept again = (k : ℕ) (P : Weighted T) (rank : ℕ → ℕ) → Tree P rank → 1 ≤ k → ((r : ℕ) → In r P.rows → r < k) → total S (map (value S D n) (again k P)) ≡ value S D n P

  pub expansion_kept : (f k : ℕ) (P : Weighted T) (rank : ℕ → ℕ) → Tree P rank → 1 ≤ k → ((r : ℕ) → In r P.rows → r < k) → total S (map (value S D n) (expanding S f k P)) ≡ value S D n P
  unfolding expanding total expand_turn
  expansion_kept zero k P rank tree p low = S.plus_nought _
  expansion_kept (suc f) k P rank tree p low = go (task_in P P.rows) (task_view P P.rows) (λ k Q r t p l. expansion_kept f k Q r t p l)
    where
      low_merged : (W Z r : ℕ) → In r (merged S P W Z).rows → r < k
      low_merged W Z r i = low r (in_sub r Z P.rows (unfold merged in i))

      low_opened : (W Z : ℕ) (x : Axis) (r : ℕ) → In r (opened S P W Z k (suc k) x (P.rows ++ (k ∷ suc k ∷ []))).rows → r < suc (suc k)
      low_opened W Z x r i = low_end k P.rows low r (unfold opened in i)

      low_axed : (Z : ℕ) (x : Axis) (r : ℕ) → In r (axed P Z x).rows → r < k
      low_axed Z x r i = low r (unfold axed in i)

      opening : (Z : ℕ) (x : Axis) → In Z P.rows → ((P.axis Z ≡ Wide Following) × (x ≡ Along FollowingSibling)) ⊎ ((P.axis Z ≡ Wide Preceding) × (x ≡ Against FollowingSibling)) →
          value S D n P ≡ value S D n (opened S P (P.up Z) Z k (suc k) x (P.rows ++ (k ∷ suc k ∷ [])))
      opening Z x i o =
          let u = tree_under P rank tree Z i in
          let g = grown_end k P.rows p low tree.apart tree.no_root in
          elim o [
            | inl (a, e) ↦ following_kept S D root steps n some_place others P (P.up Z) Z k (suc k) (P.rows ++ (k ∷ suc k ∷ [])) u g a ∙ ap (λ y. value S D n (opened S P (P.up Z) Z k (suc k) y (P.rows ++ (k ∷ suc k ∷ [])))) (sym e)
            | inr (a, e) ↦ preceding_kept S D root steps n some_place others P (P.up Z) Z k (suc k) (P.rows ++ (k ∷ suc k ∷ [])) u g a ∙ ap (λ y. value S D n (opened S P (P.up Z) Z k (suc k) y (P.rows ++ (k ∷ suc k ∷ [])))) (sym e)
          ]

      splitting : (Z : ℕ) (x : Axis) → In Z P.rows → ((P.axis Z ≡ Wide DescendantOrSelf) × (x ≡ Along Descendant)) ⊎ ((P.axis Z ≡ Wide AncestorOrSelf) × (x ≡ Against Descendant)) →
          value S D n P ≡ S.plus (value S D n (axed P Z x)) (value S D n (merged S P (P.up Z) Z))
      splitting Z x i o =
          let u = tree_under P rank tree Z i in
          elim o [
            | inl (a, e) ↦ below_kept S D root steps n some_place others P (P.up Z) Z u a ∙ ap (λ y. S.plus (value S D n (axed P Z y)) (value S D n (merged S P (P.up Z) Z))) (sym e)
            | inr (a, e) ↦ above_kept S D root steps n some_place others P (P.up Z) Z u a ∙ ap (λ y. S.plus (value S D n (axed P Z y)) (value S D n (merged S P (P.up Z) Z))) (sym e)
          ]

      go : (o : Task) → View P P.rows o → Kept (expanding S f) → total S (map (value S D n) (expand_turn S (expanding S f) k P o)) ≡ value S D n P
      go Settled v again = S.plus_nought _
      go (ToMerge Z) v again =
          let u = tree_under P rank tree Z v.0 in
          again k (merged S P (P.up Z) Z) rank (tree_merged S P rank tree (P.up Z) Z u) p (low_merged (P.up Z) Z) ∙ sym (merge_kept S D n some_place P (P.up Z) Z u v.1)
      go (ToSplit Z x) v again =
          let u = tree_under P rank tree Z v.0 in
          ap (total S) (map_append S (value S D n) (expanding S f k (axed P Z x)) (expanding S f k (merged S P (P.up Z) Z)))
          ∙ total_append S _ _
          ∙ ap₂ S.plus (again k (axed P Z x) rank (tree_axed P rank tree Z x) p (low_axed Z x)) (again k (merged S P (P.up Z) Z) rank (tree_merged S P rank tree (P.up Z) Z u) p (low_merged (P.up Z) Z))
          ∙ sym (splitting Z x v.0 v.1)
      go (ToOpen Z x) v again =
          let u = tree_under P rank tree Z v.0 in
          let (rank', t) = tree_opened S P rank tree (P.up Z) Z k (suc k) x (P.rows ++ (k ∷ suc k ∷ [])) u (grown_end k P.rows p low tree.apart tree.no_root) in
          again (suc (suc k)) (opened S P (P.up Z) Z k (suc k) x (P.rows ++ (k ∷ suc k ∷ []))) rank' t (omega arith) (low_opened (P.up Z) Z x) ∙ sym (opening Z x v.0 v.1)

-- how many turns an axis may cost
abbrev reach_cost : Reach → ℕ
reach_cost DescendantOrSelf = 2
reach_cost AncestorOrSelf = 2
reach_cost Following = 5
reach_cost Preceding = 5

abbrev pub cost : Axis → ℕ
cost (Along s) = 0
cost (Against s) = 0
cost Itself = 1
cost (Wide x) = reach_cost x

pub cost_le : (a : Axis) → cost a ≤ 5
cost_le (Along s) = omega arith
cost_le (Against s) = omega arith
cost_le Itself = omega arith
cost_le (Wide DescendantOrSelf) = omega arith
cost_le (Wide AncestorOrSelf) = omega arith
cost_le (Wide Following) = omega arith
cost_le (Wide Preceding) = omega arith

lsum_append : (f : ℕ → ℕ) (rs l : List ℕ) → lsum f (rs ++ l) ≡ lsum f rs + lsum f l
lsum_append f [] l = omega arith
lsum_append f (r ∷ rs) l = let h = lsum_append f rs l in omega arith

abbrev pub costs : {T : Type 0} → Weighted T → ℕ
costs P = lsum (λ r. cost (P.axis r)) P.rows

module _ {T : Type 0} (S : Semiring T) where
  costs_merged : (P : Weighted T) (W Z : ℕ) → In Z P.rows → 1 ≤ cost (P.axis Z) → costs (merged S P W Z) < costs P
  unfolding merged
  costs_merged P W Z i h = let e = lsum_remove Z P.rows (λ r. cost (P.axis r)) i in omega arith

  costs_axed : (P : Weighted T) (Z : ℕ) (x : Axis) → In Z P.rows → cost x < cost (P.axis Z) → costs (axed P Z x) < costs P
  unfolding axed
  costs_axed P Z x i h = lsum_lt Z P.rows _ _ i (let e : cost (upd P.axis Z x Z) ≡ cost x = ap cost (upd_same P.axis Z x) in omega arith) (λ r _. lower r)
    where
      lower : (r : ℕ) → cost (upd P.axis Z x r) ≤ cost (P.axis r)
      lower r = elim (cases_eq r Z) [
        | inl e ↦ let a : cost (upd P.axis Z x r) ≡ cost x = ap cost (subst (λ y. upd P.axis Z x y ≡ x) (sym e) (upd_same P.axis Z x)) in let b : cost (P.axis r) ≡ cost (P.axis Z) = ap (λ y. cost (P.axis y)) e in omega arith
        | inr k ↦ let a : cost (upd P.axis Z x r) ≡ cost (P.axis r) = ap cost (upd_other P.axis Z x r k) in omega arith
      ]

  costs_opened : (P : Weighted T) (Z k : ℕ) (x : Axis) → In Z P.rows → Apart P.rows → ((r : ℕ) → In r P.rows → r < k) → cost x ≡ 0 → cost (P.axis Z) ≡ 5 →
      costs (opened S P (P.up Z) Z k (suc k) x (P.rows ++ (k ∷ suc k ∷ []))) < costs P
  unfolding opened
  costs_opened P Z k x i d low c h =
      let z = low Z i in
      let e = lsum_append f P.rows (k ∷ suc k ∷ []) in
      let a = lsum_remove Z P.rows f i in
      let b = lsum_remove Z P.rows (λ r. cost (P.axis r)) i in
      let l = lsum_le (remove Z P.rows) f (λ r. cost (P.axis r)) (λ r j. old r j) in
      let u : f k ≡ 2 = ap cost (upd_other (upd (upd P.axis k (Wide AncestorOrSelf)) (suc k) x) Z (Wide DescendantOrSelf) k (omega arith) ∙ upd_other (upd P.axis k (Wide AncestorOrSelf)) (suc k) x k (omega arith) ∙ upd_same P.axis k (Wide AncestorOrSelf)) in
      let v : f (suc k) ≡ 0 = ap cost (upd_other (upd (upd P.axis k (Wide AncestorOrSelf)) (suc k) x) Z (Wide DescendantOrSelf) (suc k) (omega arith) ∙ upd_same (upd P.axis k (Wide AncestorOrSelf)) (suc k) x) ∙ c in
      let w : f Z ≡ 2 = ap cost (upd_same (upd (upd P.axis k (Wide AncestorOrSelf)) (suc k) x) Z (Wide DescendantOrSelf)) in
      omega arith
    where
      f : ℕ → ℕ
      f r = cost (upd (upd (upd P.axis k (Wide AncestorOrSelf)) (suc k) x) Z (Wide DescendantOrSelf) r)

      old : (r : ℕ) → In r (remove Z P.rows) → f r ≤ cost (P.axis r)
      old r j =
          let l = low r (in_sub r Z P.rows j) in
          let n : r ≢ Z = (λ e. not_in Z P.rows d (subst (λ y. In y (remove Z P.rows)) e j)) in
          let e : f r ≡ cost (P.axis r) = ap cost (upd_other (upd (upd P.axis k (Wide AncestorOrSelf)) (suc k) x) Z (Wide DescendantOrSelf) r n ∙ upd_other (upd P.axis k (Wide AncestorOrSelf)) (suc k) x r (omega arith) ∙ upd_other P.axis k (Wide AncestorOrSelf) r (omega arith)) in
          omega arith

  pub expansion_ends : (f k : ℕ) (P : Weighted T) (rank : ℕ → ℕ) → Tree P rank → 1 ≤ k → ((r : ℕ) → In r P.rows → r < k) → costs P < f → Every Plain (expanding S f k P)
  unfolding expanding expand_turn
  expansion_ends zero k P rank tree p low h = absurd (omega arith)
  expansion_ends (suc f) k P rank tree p low h = go (task_in P P.rows) (task_view P P.rows) (λ k Q r t p l c. expansion_ends f k Q r t p l c)
    where
      merging : (Z : ℕ) → In Z P.rows → 1 ≤ cost (P.axis Z) → ((k : ℕ) (Q : Weighted T) (r : ℕ → ℕ) → Tree Q r → 1 ≤ k → ((s : ℕ) → In s Q.rows → s < k) → costs Q < f → Every Plain (expanding S f k Q)) → Every Plain (expanding S f k (merged S P (P.up Z) Z))
      merging Z i c again =
          let u = tree_under P rank tree Z i in
          let d = costs_merged P (P.up Z) Z i c in
          again k (merged S P (P.up Z) Z) rank (tree_merged S P rank tree (P.up Z) Z u) p (λ r j. low r (in_sub r Z P.rows (unfold merged in j))) (omega arith)

      go : (o : Task) → View P P.rows o → ((k : ℕ) (Q : Weighted T) (r : ℕ → ℕ) → Tree Q r → 1 ≤ k → ((s : ℕ) → In s Q.rows → s < k) → costs Q < f → Every Plain (expanding S f k Q)) → Every Plain (expand_turn S (expanding S f) k P o)
      go Settled v again = (v, tt)
      go (ToMerge Z) v again = merging Z v.0 (let c : cost (P.axis Z) ≡ 1 = ap cost v.1 in omega arith) again
      go (ToSplit Z x) v again =
          let a : cost (P.axis Z) ≡ 2 = elim v.1 [ inl (e, _) ↦ ap cost e | inr (e, _) ↦ ap cost e ] in
          let b : cost x ≡ 0 = elim v.1 [ inl (_, e) ↦ ap cost e | inr (_, e) ↦ ap cost e ] in
          let d = costs_axed P Z x v.0 (omega arith) in
          every_append Plain (expanding S f k (axed P Z x)) _
          (again k (axed P Z x) rank (tree_axed P rank tree Z x) p (λ r j. low r (unfold axed in j)) (omega arith))
          (merging Z v.0 (omega arith) again)
      go (ToOpen Z x) v again =
          let a : cost (P.axis Z) ≡ 5 = elim v.1 [ inl (e, _) ↦ ap cost e | inr (e, _) ↦ ap cost e ] in
          let b : cost x ≡ 0 = elim v.1 [ inl (_, e) ↦ ap cost e | inr (_, e) ↦ ap cost e ] in
          let u = tree_under P rank tree Z v.0 in
          let d = costs_opened P Z k x v.0 tree.apart low b a in
          let (rank', t) = tree_opened S P rank tree (P.up Z) Z k (suc k) x (P.rows ++ (k ∷ suc k ∷ [])) u (grown_end k P.rows p low tree.apart tree.no_root) in
          again (suc (suc k)) (opened S P (P.up Z) Z k (suc k) x (P.rows ++ (k ∷ suc k ∷ []))) rank' t (omega arith) (λ r j. low_end k P.rows low r (unfold opened in j)) (omega arith)
