-- Row 0 alone asks for the root, whatever is done to the rows.
use Rattle.std.proofs.Common.{◌≡◌, ℕ, ◌<◌, ◌≤◌, Bool, true, false, cond, not, ◌||◌, eqb, ◌≢◌, List, length, Some, None, Option, sym, refl, ap, ◌∙◌, subst, inl, inr, arith}
use Rattle.std.proofs.lemmas.List.{length-set}
use Rattle.std.proofs.lemmas.Bool.{cases_Bool, cases_eq, eq-eqb, ne_eqb, and_parts, and_from, or_cases, or_left, or_right, or_from, not-true, not_from_false, both_ways}
use Rattle.record.specs.declared.axis.Axis.{Axis}
use Rattle.record.specs.declared.axis.Axis.TheVariants.{Along}
use Rattle.record.specs.declared.rules.Move.{Move}
use Rattle.record.specs.declared.rules.Move.TheVariants.{Up, Join, Between}
use Rattle.ways.specs.Ways.{upd}
use Rattle.ways.proofs.RowLists.{all_decides}
use Rattle.ways.proofs.RowSums.{upd_same, upd_other}
use Rattle.pattern.specs.Roots.{is_root, named, root_alone}
use Rattle.pattern.specs.Rows.{Seat, row, fifteen, rooted, hung, second, rehung, spread, MergedInto, Merged, MovedTo}
use Rattle.pattern.specs.Tests.{joined}
use Rattle.pattern.specs.declared.row.Test.{Test}
use Rattle.pattern.specs.declared.row.Test.TheVariants.{Any, Star, Label, Root}
use Rattle.pattern.proofs.MergedRows.{up_apart}
use Rattle.pattern.proofs.Moved.{hung_used, hung_test, y_high, w_z}
use Rattle.pattern.proofs.Spreads.{used_at, test_at}
use Rattle.pattern.proofs.Trees.{in_fifteen, fifteen_in}

-- what it says of each row
pub root_first : (rs : List Seat) → root_alone rs ≡ true → is_root (row rs 0).test ≡ true
unfolding root_alone
root_first rs e = (and_parts _ _ e).0

pub root_others : (rs : List Seat) → root_alone rs ≡ true → (i : ℕ) → 1 ≤ i → i < 16 → (row rs i).used ≡ true → is_root (row rs i).test ≡ false
unfolding root_alone
root_others rs e i low high used =
    elim (or_cases _ _ ((all_decides fifteen (λ i. named (row rs i))).0 (and_parts _ _ e).1 i (in_fifteen i low high))) [
      | inl n ↦ absurd (both_ways _ (not-true _ n) used)
      | inr n ↦ not-true _ n
    ]

pub root_from : (rs : List Seat) → is_root (row rs 0).test ≡ true → ((i : ℕ) → 1 ≤ i → i < 16 → (row rs i).used ≡ true → is_root (row rs i).test ≡ false) → root_alone rs ≡ true
unfolding root_alone
root_from rs a b =
    and_from _ _ a ((all_decides fifteen (λ i. named (row rs i))).1 (λ i j. let (low, high) = fifteen_in i j in elim (cases_Bool (row rs i).used) [
      | inl u ↦ or_right (not (row rs i).used) _ (not_from_false _ (b i low high u))
      | inr f ↦ or_left _ _ (not_from_false _ f)
    ]))

-- rows that have the tests that they had
pub same_root : (rs rs' : List Seat) → ((i : ℕ) → (row rs' i).test ≡ (row rs i).test) → ((i : ℕ) → (row rs' i).used ≡ (row rs i).used) → root_alone rs ≡ true → root_alone rs' ≡ true
same_root rs rs' t u e =
    root_from rs' (ap is_root (t 0) ∙ root_first rs e) (λ i low high used. ap is_root (t i) ∙ root_others rs e i low high (sym (u i) ∙ used))

pub rehung_root : (rs : List Seat) (z w : ℕ) (x : Axis) → z < length rs → root_alone rs ≡ true → root_alone (rehung rs z w x) ≡ true
rehung_root rs z w x l e = same_root rs (rehung rs z w x) (hung_test rs z w x l) (hung_used rs z w x l) e

-- two tests join to the root exactly if one of them is it
abbrev RootOf : Bool → Option Test → Type 0
RootOf b None = Unit {0}
RootOf b (Some t) = is_root t ≡ b

joined_root : (a b : Test) → RootOf (is_root a || is_root b) (joined a b)
joined_root Any b = refl
joined_root Star Any = refl
joined_root Star Star = refl
joined_root Star (Label m) = refl
joined_root Star Root = tt
joined_root (Label n) Any = refl
joined_root (Label n) Star = refl
joined_root (Label n) (Label m) = elim (cases_Bool (eqb n m)) [ inl e ↦ rw e refl | inr e ↦ rw e tt ]
joined_root (Label n) Root = tt
joined_root Root Any = refl
joined_root Root Star = tt
joined_root Root (Label m) = tt
joined_root Root Root = refl

join_root : (a b t : Test) → joined a b ≡ Some t → is_root t ≡ (is_root a || is_root b)
join_root a b t e = subst (RootOf (is_root a || is_root b)) e (joined_root a b)

pub merged_root : (rs rs' : List Seat) (z w : ℕ) → MergedInto rs z w rs' → 1 ≤ z → z < 16 → (row rs z).used ≡ true → w ≢ z → root_alone rs ≡ true → root_alone rs' ≡ true
merged_root rs rs' z w (t, e, h) low high used n r = root_from rs' first others
  where
    test_of : (i : ℕ) → i ≢ z → (row rs' i).test ≡ cond (eqb i w) t (row rs i).test
    test_of i k = ap (λ x. x.test) (h i) ∙ ap (λ b. cond b Any (cond (eqb i w) t (row rs i).test)) (ne_eqb i z k)

    of_z : is_root (row rs z).test ≡ false
    of_z = root_others rs r z low high used

    first : is_root (row rs' 0).test ≡ true
    first = ap is_root (test_of 0 (omega arith)) ∙ elim (cases_eq 0 w) [
      | inl k ↦ ap (λ b. is_root (cond b t (row rs 0).test)) (eq-eqb 0 w k) ∙ join_root (row rs w).test (row rs z).test t e ∙ or_left (is_root (row rs w).test) (is_root (row rs z).test) (subst (λ i. is_root (row rs i).test ≡ true) k (root_first rs r))
      | inr k ↦ ap (λ b. is_root (cond b t (row rs 0).test)) (ne_eqb 0 w k) ∙ root_first rs r
    ]

    others : (i : ℕ) → 1 ≤ i → i < 16 → (row rs' i).used ≡ true → is_root (row rs' i).test ≡ false
    others i a b u = elim (cases_eq i z) [
      | inl k ↦ absurd (both_ways _ (ap (λ x. x.used) (h i) ∙ ap (λ b. cond b false (row rs i).used) (eq-eqb i z k)) u)
      | inr k ↦
          let v : (row rs i).used ≡ true = sym (ap (λ x. x.used) (h i) ∙ ap (λ b. cond b false (row rs i).used) (ne_eqb i z k)) ∙ u in
          let o = root_others rs r i a b v in
          ap is_root (test_of i k) ∙ elim (cases_eq i w) [
            | inl q ↦ ap (λ b. is_root (cond b t (row rs i).test)) (eq-eqb i w q) ∙ join_root (row rs w).test (row rs z).test t e ∙ or_from (is_root (row rs w).test) (is_root (row rs z).test) (subst (λ j. is_root (row rs j).test ≡ false) q o) of_z
            | inr q ↦ ap (λ b. is_root (cond b t (row rs i).test)) (ne_eqb i w q) ∙ o
          ]
    ]

module _ (rs : List Seat) (len : length rs ≡ 16) (ok : rooted rs ≡ true) (z : ℕ) (low : 1 ≤ z) (high : z < 16) (used : (row rs z).used ≡ true) (r : root_alone rs ≡ true) where
  pub merged_up_root : (rs' : List Seat) → Merged rs z rs' → root_alone rs' ≡ true
  merged_up_root rs' m = merged_root rs rs' z (row rs z).up m low high used (up_apart rs (omega arith) ok z low high used) r

  pub moved_root : 1 ≤ (row rs z).up → (m : Move) (rs' : List Seat) → MovedTo rs z m rs' → root_alone rs' ≡ true
  moved_root below Up rs' e = subst (λ x. root_alone x ≡ true) (sym e) (rehung_root rs z (second rs z) (row rs z).axis (omega arith) r)
  moved_root below (Between a b) rs' e =
      let one : List Seat = rehung rs z (second rs z) (Along a) in
      let l : length one ≡ 16 = length-set rs z (hung (row rs z) (second rs z) (Along a)) ∙ len in
      let y = y_high rs len ok z low high used below in
      subst (λ x. root_alone x ≡ true) (sym e) (rehung_root one (row rs z).up z (Along b) (omega arith) (rehung_root rs z (second rs z) (Along a) (omega arith) r))
  moved_root below (Join a) rs' m =
      let y = y_high rs len ok z low high used below in
      let l : (row rs z).up < length rs = omega arith in
      merged_root (rehung rs (row rs z).up (second rs z) (Along a)) rs' z (second rs z) m low high (hung_used rs (row rs z).up (second rs z) (Along a) l z ∙ used) (w_z rs len ok z low high used below)
      (rehung_root rs (row rs z).up (second rs z) (Along a) l r)

  -- the new rows may be at any place but the root
  pub spread_root : (n m : ℕ) (x : Axis) → 1 ≤ n → n < 16 → 1 ≤ m → m < 16 → m ≢ n → (row rs n).used ≡ false → (row rs m).used ≡ false → root_alone (spread rs z n m x) ≡ true
  spread_root n m x n_low n_high m_low m_high m_n free spare =
      root_from (spread rs z n m x)
      (ap is_root (tests 0 ∙ upd_other (upd (λ i. (row rs i).test) n Star) m Star 0 (omega arith) ∙ upd_other (λ i. (row rs i).test) n Star 0 (omega arith)) ∙ root_first rs r)
      (λ i a b u. ap is_root (tests i) ∙ elim (cases_eq i m) [
        | inl k ↦ subst (λ j. is_root (upd (upd (λ i. (row rs i).test) n Star) m Star j) ≡ false) (sym k) (ap is_root (upd_same (upd (λ i. (row rs i).test) n Star) m Star))
        | inr k ↦ ap is_root (upd_other (upd (λ i. (row rs i).test) n Star) m Star i k) ∙ elim (cases_eq i n) [
          | inl q ↦ subst (λ j. is_root (upd (λ i. (row rs i).test) n Star j) ≡ false) (sym q) (ap is_root (upd_same (λ i. (row rs i).test) n Star))
          | inr q ↦ ap is_root (upd_other (λ i. (row rs i).test) n Star i q)
              ∙ root_others rs r i a b (sym (uses i ∙ upd_other (upd (λ i. (row rs i).used) n true) m true i k ∙ upd_other (λ i. (row rs i).used) n true i q) ∙ u)
        ]
      ])
    where
      tests : (i : ℕ) → (row (spread rs z n m x) i).test ≡ upd (upd (λ i. (row rs i).test) n Star) m Star i
      tests i = test_at rs len z n m x high n_low n_high m_low m_high m_n used free spare i

      uses : (i : ℕ) → (row (spread rs z n m x) i).used ≡ upd (upd (λ i. (row rs i).used) n true) m true i
      uses i = used_at rs len z n m x high n_low n_high m_low m_high m_n used free spare i
