-- Rewriting as a whole keeps the value.
use Rattle.std.proofs.Common.{◌≡◌, ℕ, zero, suc, ◌<◌, ◌≤◌, Bool, true, false, cond, eqb, leb, ◌≢◌, List, [], ◌∷◌, ◌++◌, map, sym, refl, ap, ◌∙◌, subst, inl, inr, arith}
use Rattle.record.specs.Axes.{holds}
use Rattle.record.specs.Moves.{table}
use Rattle.record.specs.declared.axis.Step.{Step}
use Rattle.record.specs.declared.axis.Step.TheVariants.{Child, Descendant, Next, FollowingSibling}
use Rattle.record.specs.declared.axis.Axis.{Axis}
use Rattle.record.specs.declared.axis.Axis.TheVariants.{Along, Against, Itself, Wide}
use Rattle.record.specs.declared.rules.Move.{Move}
use Rattle.record.specs.declared.rules.Move.TheVariants.{Up, Join, Between}
use Rattle.tally.specs.Semirings.{Semiring, bracket, total}
use Rattle.ways.specs.Merging.{axed, merged}
use Rattle.ways.specs.Ways.{upd, In, remove, Weighted, link, is_way, sum_rows, gains, value, Tree}
use Rattle.std.proofs.lemmas.Bool.{cases_eq, eq-eqb, ne_eqb, eqb-true, eqb-false, cases_Bool, false≢true, or_cases, and_parts}
use Rattle.std.proofs.lemmas.Bool.Decides.{nat_tests}
use Rattle.record.proofs.Pointwise.{Leads, leads_decides}
use Rattle.tally.proofs.Sums.{sum_cong, nought_plus, nought_times}
use Rattle.ways.proofs.Merges.{tree_hung}
use Rattle.ways.proofs.RowLists.{in_sub, in_stays, apart_remove, all_decides}
use Rattle.ways.proofs.RowSums.{upd_other, sum_rows_nought}
use Rattle.ways.specs.Rewriting.{moved, Spot, Todo, Done, Dropped, At, strays, stray_in, judge, find_in, todo_of, concat_map, turn, rewriting}
use Rattle.ways.proofs.Steps.{in_upd, total_cong, step}

-- the ranks after a rewriting
abbrev pub ranked : (ℕ → ℕ) → ℕ → ℕ → Move → ℕ → ℕ
ranked rank Y Z Up = upd rank Z (rank Y)
ranked rank Y Z (Join s) = rank
ranked rank Y Z (Between s t) = upd (λ r. cond (leb (rank Y) (rank r)) (suc (rank r)) (rank r)) Z (rank Y)

rank_up : (rank up : ℕ → ℕ) (W Y Z r : ℕ) → rank W < rank Y → rank Y < rank Z → rank (up r) < rank r → upd rank Z (rank Y) (upd up Z W r) < upd rank Z (rank Y) r
unfolding upd
rank_up rank up W Y Z r a b c = grind (arith, nat_tests)

rank_between : (rank up : ℕ → ℕ) (W Y Z r : ℕ) → rank W < rank Y → rank Y < rank Z → rank (up r) < rank r →
    upd (λ r. cond (leb (rank Y) (rank r)) (suc (rank r)) (rank r)) Z (rank Y) (upd (upd up Z W) Y Z r) < upd (λ r. cond (leb (rank Y) (rank r)) (suc (rank r)) (rank r)) Z (rank Y) r
unfolding upd
rank_between rank up W Y Z r a b c = grind (arith, nat_tests)

module _ {T : Type 0} (S : Semiring T) (P : Weighted T) (rank : ℕ → ℕ) (tree : Tree P rank) (W Y Z : ℕ) (upY : P.up Y ≡ W) (upZ : P.up Z ≡ Y) (inY : In Y P.rows) (inZ : In Z P.rows) where
  rank_W : rank W < rank Y
  rank_W = rw upY at (tree.ranks Y inY)

  pub rank_Y : rank Y < rank Z
  rank_Y = rw upZ at (tree.ranks Z inZ)

  in_W : In W (0 ∷ P.rows)
  in_W = subst (λ x. In x (0 ∷ P.rows)) upY (tree.ups Y inY)

  pub W_Z : W ≢ Z
  W_Z e = let l = rank_W in let m = rank_Y in let k : rank W ≡ rank Z = ap rank e in absurd (omega arith)

  pub Y_Z : Y ≢ Z
  Y_Z e = let m = rank_Y in let k : rank Y ≡ rank Z = ap rank e in absurd (omega arith)

  pub spot : (sY sZ : Step) → P.axis Y ≡ Along sY → P.axis Z ≡ Against sZ → Spot P W Y Z sY sZ
  spot sY sZ a b = record { hung = tree_hung P rank tree; in_Y = inY; in_Z = inZ; up_Y = upY; up_Z = upZ; axis_Y = a; axis_Z = b; W_Z = W_Z; Y_Z = Y_Z }

  stays : (x : ℕ) → x ≢ Z → In x (0 ∷ P.rows) → In x (0 ∷ remove Z P.rows)
  stays x k (inl e) = inl e
  stays x k (inr i) = inr (in_stays x Z P.rows k i)

  stays_up : (u : ℕ) → In u (0 ∷ P.rows) → In (cond (eqb u Z) W u) (0 ∷ remove Z P.rows)
  stays_up u i = elim (cases_eq u Z) [
    | inl e ↦ subst (λ t. In (cond t W u) (0 ∷ remove Z P.rows)) (sym (eq-eqb u Z e)) (stays W W_Z in_W)
    | inr k ↦ subst (λ t. In (cond t W u) (0 ∷ remove Z P.rows)) (sym (ne_eqb u Z k)) (stays u k i)
  ]

  pub tree_kept : (x : Move) → Tree (moved S P W Y Z x) (ranked rank Y Z x)
  unfolding moved merged axed remove
  tree_kept Up = record {
    apart = tree.apart;
    no_root = tree.no_root;
    ups = λ r i. in_upd P.up Z W r (0 ∷ P.rows) in_W (tree.ups r i);
    ranks = λ r i. rank_up rank P.up W Y Z r rank_W rank_Y (tree.ranks r i);
  }
  tree_kept (Between s t) = record {
    apart = tree.apart;
    no_root = tree.no_root;
    ups = λ r i. in_upd (upd P.up Z W) Y Z r (0 ∷ P.rows) (inr inZ) (in_upd P.up Z W r (0 ∷ P.rows) in_W (tree.ups r i));
    ranks = λ r i. rank_between rank P.up W Y Z r rank_W rank_Y (tree.ranks r i);
  }
  tree_kept (Join s) = record {
    apart = apart_remove Z P.rows tree.apart;
    no_root = λ i. tree.no_root (in_sub 0 Z P.rows i);
    ups = λ r i. stays_up (P.up r) (tree.ups r (in_sub r Z P.rows i));
    ranks = λ r i. let l = rank_W in let m = rank_Y in let h = tree.ranks r (in_sub r Z P.rows i) in grind (arith, nat_tests);
  }

abbrev pub FindView : {T : Type 0} → Weighted T → List ℕ → Todo → Type 0
FindView P rs Done = (r : ℕ) → In r rs → (s : Step) → P.axis r ≡ Against s → (P.up r ≢ 0) × ((t : Step) → P.axis (P.up r) ≡ Along t → ⊥)
FindView P rs Dropped = (r : ℕ) × In r rs × (strays (P.axis r) ≡ true) × (P.up r ≡ 0)
FindView P rs (At Z sY sZ) = In Z rs × (P.axis Z ≡ Against sZ) × (P.axis (P.up Z) ≡ Along sY) × (P.up Z ≢ 0)

unfoldable pub Tag : Axis → ℕ
Tag (Along s) = 0
Tag (Against s) = 1
Tag Itself = 2
Tag (Wide x) = 3

-- row r wants nothing
view_pass : {T : Type 0} (P : Weighted T) (r : ℕ) (rs : List ℕ) (o : Todo) → ((s : Step) → P.axis r ≡ Against s → (P.up r ≢ 0) × ((t : Step) → P.axis (P.up r) ≡ Along t → ⊥)) → FindView P rs o → FindView P (r ∷ rs) o
view_pass P r rs Done h v = λ x i s e. elim i [ inl k ↦ view_at x s e k | inr j ↦ v x j s e ]
  where
    view_at : (x : ℕ) (s : Step) → P.axis x ≡ Against s → x ≡ r → (P.up x ≢ 0) × ((t : Step) → P.axis (P.up x) ≡ Along t → ⊥)
    view_at x s e k = subst (λ y. P.axis y ≡ Against s → (P.up y ≢ 0) × ((t : Step) → P.axis (P.up y) ≡ Along t → ⊥)) (sym k) (h s) e
view_pass P r rs Dropped h v = (v.0, inr v.1, v.2, v.3)
view_pass P r rs (At Z sY sZ) h v = (inr v.0, v.1, v.2, v.3)

judge_view : {T : Type 0} (P : Weighted T) (r : ℕ) (rs : List ℕ) (rest : Todo) (a : Axis) (b : Bool) (c : Axis) → P.axis r ≡ a → eqb (P.up r) 0 ≡ b → P.axis (P.up r) ≡ c → FindView P rs rest → FindView P (r ∷ rs) (judge a b c r rest)
unfolding judge Tag
judge_view P r rs rest (Along s) b c ea eb ec v = view_pass P r rs rest (λ t e. absurd (let k : ◌≡◌ {A = ℕ} 0 1 = ap Tag (sym ea ∙ e) in omega arith)) v
judge_view P r rs rest Itself b c ea eb ec v = view_pass P r rs rest (λ t e. absurd (let k : ◌≡◌ {A = ℕ} 2 1 = ap Tag (sym ea ∙ e) in omega arith)) v
judge_view P r rs rest (Wide x) b c ea eb ec v = view_pass P r rs rest (λ t e. absurd (let k : ◌≡◌ {A = ℕ} 3 1 = ap Tag (sym ea ∙ e) in omega arith)) v
judge_view P r rs rest (Against s) true c ea eb ec v = (r, inl refl, ap strays ea, eqb-true _ _ eb)
judge_view P r rs rest (Against s) false (Along t) ea eb ec v = (inl refl, ea, ec, eqb-false _ _ eb)
judge_view P r rs rest (Against s) false (Against t) ea eb ec v = view_pass P r rs rest (λ _ _. (eqb-false _ _ eb, λ u e. absurd (let k : ◌≡◌ {A = ℕ} 1 0 = ap Tag (sym ec ∙ e) in omega arith))) v
judge_view P r rs rest (Against s) false Itself ea eb ec v = view_pass P r rs rest (λ _ _. (eqb-false _ _ eb, λ u e. absurd (let k : ◌≡◌ {A = ℕ} 2 0 = ap Tag (sym ec ∙ e) in omega arith))) v
judge_view P r rs rest (Against s) false (Wide x) ea eb ec v = view_pass P r rs rest (λ _ _. (eqb-false _ _ eb, λ u e. absurd (let k : ◌≡◌ {A = ℕ} 3 0 = ap Tag (sym ec ∙ e) in omega arith))) v

pub find_view : {T : Type 0} (P : Weighted T) (rs : List ℕ) → FindView P rs (find_in P rs)
unfolding find_in
find_view P [] = λ r i. absurd i
find_view P (r ∷ rs) = judge_view P r rs (find_in P rs) _ _ _ refl refl refl (find_view P rs)

stray_view : {T : Type 0} (P : Weighted T) (rs : List ℕ) → stray_in P rs ≡ true → FindView P rs Dropped
unfolding stray_in
stray_view P [] e = absurd (false≢true e)
stray_view P (r ∷ rs) e = elim (or_cases _ _ e) [
  | inl h ↦ let (a, b) = and_parts _ _ h in (r, inl refl, b, eqb-true _ _ a)
  | inr h ↦ let v = stray_view P rs h in (v.0, inr v.1, v.2, v.3)
]

pub todo_view : {T : Type 0} (P : Weighted T) → FindView P P.rows (todo_of P)
unfolding todo_of
todo_view P = elim (cases_Bool (stray_in P P.rows)) [
  | inl t ↦ rw t (stray_view P P.rows t)
  | inr f ↦ rw f (find_view P P.rows)
]

module _ {T : Type 0} (S : Semiring T) where
  pub total_append : (xs ys : List T) → total S (xs ++ ys) ≡ S.plus (total S xs) (total S ys)
  unfolding total
  total_append [] ys = sym (nought_plus S _)
  total_append (x ∷ xs) ys = ap (S.plus x) (total_append xs ys) ∙ sym (S.plus_assoc x _ _)

  pub map_append : {A : Type 0} (f : A → T) (xs ys : List A) → map f (xs ++ ys) ≡ map f xs ++ map f ys
  map_append f [] ys = refl
  map_append f (x ∷ xs) ys = ap {B = List T} (λ l. f x ∷ l) (map_append f xs ys)

  total_concat : {A B : Type 0} (f : B → T) (g : A → List B) (xs : List A) → total S (map f (concat_map g xs)) ≡ total S (map (λ x. total S (map f (g x))) xs)
  unfolding concat_map total
  total_concat f g [] = refl
  total_concat f g (x ∷ xs) = ap (total S) (map_append f (g x) (concat_map g xs)) ∙ total_append _ _ ∙ ap (S.plus (total S (map f (g x)))) (total_concat f g xs)

  -- row 0 stays at place 0
  sum_rows_root : (n : ℕ) (rs : List ℕ) (F G : (ℕ → ℕ) → T) → (In 0 rs → ⊥) → ((a : ℕ → ℕ) → a 0 ≡ 0 → F a ≡ G a) → (a : ℕ → ℕ) → a 0 ≡ 0 → sum_rows S n rs F a ≡ sum_rows S n rs G a
  unfolding sum_rows
  sum_rows_root n [] F G k e a h = e a h
  sum_rows_root n (r ∷ rs) F G k e a h = sum_cong S n _ _ (λ p l. sum_rows_root n rs F G (λ i. k (inr i)) e (upd a r p) (upd_other a r p 0 (λ z. k (inl z)) ∙ h))

  module _ (D : ℕ → ℕ) (root : D 0 ≡ 0) (steps : (i : ℕ) → D (suc i) ≤ suc (D i)) (n : ℕ) (some_place : 0 < n) where
    to_root : (s : Step) (p : ℕ) → Leads D s p 0 → ⊥
    to_root Child p l = omega (arith, l.before)
    to_root Descendant p l = omega (arith, l.before)
    to_root Next p l = omega (arith, l.before)
    to_root FollowingSibling p l = omega (arith, l.before)

    nowhere : (x : Axis) (q : ℕ) → strays x ≡ true → holds D x 0 q ≡ true → ⊥
    unfolding holds
    nowhere (Along Child) q e h = false≢true e
    nowhere (Along Descendant) q e h = false≢true e
    nowhere (Along Next) q e h = let l = (leads_decides D root steps Next 0 q).0 h in omega (arith, root, l.low)
    nowhere (Along FollowingSibling) q e h = let l = (leads_decides D root steps FollowingSibling 0 q).0 h in omega (arith, root, l.low)
    nowhere (Against s) q e h = to_root s q ((leads_decides D root steps s q 0).0 h)
    nowhere Itself q e h = false≢true e
    nowhere (Wide x) q e h = false≢true e

    pub dropped : (P : Weighted T) (rank : ℕ → ℕ) → Tree P rank → (r : ℕ) → In r P.rows → strays (P.axis r) ≡ true → P.up r ≡ 0 → value S D n P ≡ S.nought
    unfolding value is_way link bracket
    dropped P rank tree r i ax u =
        sum_rows_root n P.rows _ (λ _. S.nought) tree.no_root none (λ _. 0) refl ∙ sum_rows_nought S n P.rows (λ _. 0)
      where
        not_way : (a : ℕ → ℕ) → a 0 ≡ 0 → is_way D P a ≡ true → ⊥
        not_way a z e =
            let l : link D P a r ≡ true = (all_decides P.rows (link D P a)).0 e r i in
            let h : holds D (P.axis r) (a (P.up r)) (a r) ≡ true = l in
            let k : holds D (P.axis r) 0 (a r) ≡ true = rw (u, z) at h in
            nowhere (P.axis r) (a r) ax k

        none : (a : ℕ → ℕ) → a 0 ≡ 0 → S.times (bracket S (is_way D P a)) (gains S P a) ≡ S.nought
        none a z = elim (cases_Bool (is_way D P a)) [
          | inl t ↦ absurd (not_way a z t)
          | inr f ↦ rw f (nought_times S (gains S P a))
        ]

    pub kept : (k : ℕ) (P : Weighted T) (rank : ℕ → ℕ) → Tree P rank → total S (map (value S D n) (rewriting S k P)) ≡ value S D n P
    unfolding rewriting total turn
    kept zero P rank tree = S.plus_nought _
    kept (suc k) P rank tree = go (todo_of P) (todo_view P) (λ Q r t. kept k Q r t)
      where
        go : (o : Todo) → FindView P P.rows o → ((Q : Weighted T) (r : ℕ → ℕ) → Tree Q r → total S (map (value S D n) (rewriting S k Q)) ≡ value S D n Q) → total S (map (value S D n) (turn S (λ Q. rewriting S k Q) P o)) ≡ value S D n P
        go Done v h = S.plus_nought _
        go Dropped v h = sym (dropped P rank tree v.0 v.1 v.2 v.3)
        go (At Z sY sZ) v h =
            let Y : ℕ = P.up Z in
            let W : ℕ = P.up Y in
            let inY : In Y P.rows = elim (tree.ups Z v.0) [ inl e ↦ absurd (v.3 e) | inr i ↦ i ] in
            total_concat (value S D n) (λ x. rewriting S k (moved S P W Y Z x)) (table sY sZ)
            ∙ total_cong S _ _ (table sY sZ) (λ x. h (moved S P W Y Z x) (ranked rank Y Z x) (tree_kept S P rank tree W Y Z refl refl inY v.0 x))
            ∙ sym (step S D root steps n some_place P W Y Z sY sZ (spot S P rank tree W Y Z refl refl inY v.0 sY sZ v.2 v.1))
