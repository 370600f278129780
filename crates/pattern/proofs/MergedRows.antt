-- Merging in the array is merging of the pattern.
use Rattle.std.proofs.Common.{◌≡◌, ℕ, ◌<◌, ◌≤◌, true, false, cond, eqb, ◌≢◌, List, length, Some, None, sym, refl, ap, ◌∙◌, subst, ap₂, inl, inr, arith}
use mathlib.Core.Path.{fun_ext}
use Rattle.std.proofs.lemmas.Bool.{cases_eq, cases_Bool, eq-eqb, ne_eqb, both_ways, or_cases, or_left, or_right}
use Rattle.record.specs.declared.axis.Step.TheVariants.{Child}
use Rattle.record.specs.declared.axis.Axis.{Axis}
use Rattle.record.specs.declared.axis.Axis.TheVariants.{Along}
use Rattle.tally.specs.Semirings.{Semiring, bracket}
use Rattle.ways.specs.Ways.{upd, In, Weighted}
use Rattle.ways.specs.Merging.{merged}
use Rattle.tally.proofs.Sums.{bracket_and, bracket_off}
use Rattle.ways.proofs.Alike.{Alike, tree_alike}
use Rattle.ways.proofs.Merges.{tree_under, tree_merged}
use Rattle.ways.proofs.RowSums.{upd_other}
use Rattle.pattern.specs.declared.row.Test.{Test}
use Rattle.pattern.specs.declared.row.Test.TheVariants.{Any}
use Rattle.pattern.specs.Tests.{joined, passes, JoinTold}
use Rattle.pattern.specs.Rows.{Seat, row, fifteen, has_root, rooted, live, MergedInto, Merged}
use Rattle.pattern.specs.Questions.{pattern_of}
use Rattle.pattern.proofs.Joined.{join_told}
use Rattle.pattern.proofs.Trees.{sift_in, sift_drop, sift_cong, fifteen_apart, in_rows, rows_in, height, tree_of, rooted_from}

-- the gain of a joined test is the product of both
abbrev pub Joins : {T : Type 0} → Semiring T → (Test → ℕ → T) → Type 0
Joins S gain = (a b t : Test) → joined a b ≡ Some t → (p : ℕ) → gain t p ≡ S.times (gain a p) (gain b p)

pub pattern_cong : {T : Type 0} (rows rows' : List ℕ) (up up' : ℕ → ℕ) (axis axis' : ℕ → Axis) (gain gain' : ℕ → ℕ → T) → rows ≡ rows' → up ≡ up' → axis ≡ axis' → gain ≡ gain' →
    ◌≡◌ {A = Weighted T} (record { rows = rows; up = up; axis = axis; gain = gain }) (record { rows = rows'; up = up'; axis = axis'; gain = gain' })
pattern_cong rows rows' up up' axis axis' gain gain' a b c d =
    ap₂ (λ r u. record { rows = r; up = u; axis = axis; gain = gain }) a b ∙ ap₂ (λ x g. record { rows = rows'; up = up'; axis = x; gain = g }) c d

-- row r says what a row says that is not there
unfoldable pub cleared : {T : Type 0} → (Test → ℕ → T) → Weighted T → ℕ → Weighted T
cleared gain P r = record { rows = P.rows; up = upd P.up r 0; axis = upd P.axis r (Along Child); gain = upd P.gain r (gain Any) }

-- which nothing asks of a row that is not in use
pub cleared_alike : {T : Type 0} (gain : Test → ℕ → T) (P : Weighted T) (z : ℕ) → 1 ≤ z → (In z P.rows → ⊥) → Alike (cleared gain P z) P
unfolding cleared
cleared_alike gain P z low gone = record {
  rows = refl;
  up = λ r i. upd_other P.up z 0 r (apart r i);
  axis = λ r i. upd_other P.axis z (Along Child) r (apart r i);
  gain = λ r i. upd_other P.gain z (gain Any) r (elim i [ inl k ↦ λ e. absurd (omega arith) | inr j ↦ apart r j ]);
}
  where
    apart : (r : ℕ) → In r P.rows → r ≢ z
    apart r i e = gone (subst (λ x. In x P.rows) e i)

module _ {T : Type 0} (S : Semiring T) (gain : Test → ℕ → T) (joins : Joins S gain) where
  gained : (rs : List Seat) (z w : ℕ) (t : Test) → joined (row rs w).test (row rs z).test ≡ Some t →
      (r : ℕ) → gain (cond (eqb r w) t (row rs r).test) ≡ cond (eqb r w) (λ p. S.times (gain (row rs w).test p) (gain (row rs z).test p)) (gain (row rs r).test)
  gained rs z w t e r = elim (cases_Bool (eqb r w)) [
    | inl k ↦ rw k (fun_ext (λ p. joins _ _ t e p))
    | inr k ↦ rw k refl
  ]

  -- what is made is the merged pattern, in which row z is not there
  pub merged_array : (rs rs' : List Seat) (z w : ℕ) → MergedInto rs z w rs' → pattern_of gain rs' ≡ cleared gain (merged S (pattern_of gain rs) w z) z
  unfolding pattern_of merged cleared upd
  merged_array rs rs' z w (t, e, h) = pattern_cong _ _ _ _ _ _ _ _
      (sift_cong fifteen _ (λ r. cond (eqb r z) false (row rs r).used) (λ r _. ap (λ x. x.used) (h r)) ∙ sift_drop fifteen (λ r. (row rs r).used) z fifteen_apart)
      (fun_ext (λ r. ap (λ x. x.up) (h r)))
      (fun_ext (λ r. ap (λ x. x.axis) (h r)))
      (fun_ext (λ r. ap (λ x. gain x.test) (h r) ∙ emptied r))
    where
      emptied : (r : ℕ) → gain (cond (eqb r z) Any (cond (eqb r w) t (row rs r).test))
          ≡ cond (eqb r z) (gain Any) (cond (eqb r w) (λ p. S.times (gain (row rs w).test p) (gain (row rs z).test p)) (gain (row rs r).test))
      emptied r = elim (cases_Bool (eqb r z)) [
        | inl k ↦ rw k refl
        | inr k ↦ rw k (gained rs z w t e r)
      ]

  gone : (rs rs' : List Seat) (z w : ℕ) → MergedInto rs z w rs' → In z (merged S (pattern_of gain rs) w z).rows → ⊥
  unfolding pattern_of cleared
  gone rs rs' z w m i =
      let (t, e, h) = m in
      both_ways _ (ap (λ x. x.used) (h z) ∙ ap (λ b. cond b false (row rs z).used) (eq-eqb z z refl))
      (sift_in fifteen (λ r. (row rs' r).used) z (subst (In z) (sym (ap (λ P. P.rows) (merged_array rs rs' z w m))) i)).1

  -- so it is the merged pattern in the rows in use
  pub merged_alike : (rs rs' : List Seat) (z w : ℕ) → 1 ≤ z → MergedInto rs z w rs' → Alike (pattern_of gain rs') (merged S (pattern_of gain rs) w z)
  merged_alike rs rs' z w low m =
      subst (λ P. Alike P (merged S (pattern_of gain rs) w z)) (sym (merged_array rs rs' z w m))
      (cleared_alike gain (merged S (pattern_of gain rs) w z) z low (gone rs rs' z w m))

-- the tree is the same in every semiring; the least is of one element
abbrev pub least : Semiring (Unit {0})
least = record {
  nought = tt;
  one = tt;
  plus = λ _ _. tt;
  times = λ _ _. tt;
  plus_assoc = λ a b c. refl;
  plus_comm = λ a b. refl;
  plus_nought = λ a. refl;
  times_assoc = λ a b c. refl;
  times_comm = λ a b. refl;
  times_one = λ a. refl;
  times_nought = λ a. refl;
  times_plus = λ a b c. refl;
}

abbrev pub none : Test → ℕ → Unit {0}
none t p = tt

module _ (rs : List Seat) (len : length rs ≤ 16) (ok : rooted rs ≡ true) (z : ℕ) (low : 1 ≤ z) (high : z < 16) (live_z : (row rs z).used ≡ true) where
  pub up_within : (row rs z).up < 16
  unfolding pattern_of
  up_within = elim ((tree_of none rs len ok).ups z (in_rows none rs z low high live_z)) [
    | inl e ↦ omega arith
    | inr i ↦ (rows_in none rs (row rs z).up i).1
  ]

  pub up_apart : (row rs z).up ≢ z
  unfolding pattern_of
  up_apart = (tree_under (pattern_of none rs) _ (tree_of none rs len ok) z (in_rows none rs z low high live_z)).W_Z

  pub merged_rooted : (rs' : List Seat) → Merged rs z rs' → rooted rs' ≡ true
  merged_rooted rs' m =
      let tree = tree_of none rs len ok in
      rooted_from none rs' (height (λ i. (row rs i).up) 16)
      (tree_alike (pattern_of none rs') (merged least (pattern_of none rs) (row rs z).up z) (height (λ i. (row rs i).up) 16) (merged_alike least none (λ a b t e p. refl) rs rs' z (row rs z).up low m)
      (tree_merged least (pattern_of none rs) _ tree (row rs z).up z (unfold pattern_of in tree_under (pattern_of none rs) _ tree z (in_rows none rs z low high live_z))))

  pub up_live : live rs (row rs z).up ≡ true
  unfolding live pattern_of
  up_live = elim ((tree_of none rs len ok).ups z (in_rows none rs z low high live_z)) [
    | inl q ↦ or_left _ _ (eq-eqb _ _ q)
    | inr i ↦ or_right (eqb (row rs z).up 0) _ (rows_in none rs (row rs z).up i).2
  ]

-- the output is in use again
pub into_live : (rs rs' : List Seat) (z w : ℕ) → MergedInto rs z w rs' → w ≢ z → live rs w ≡ true → (o : ℕ) → live rs o ≡ true → live rs' (cond (eqb o z) w o) ≡ true
unfolding live
into_live rs rs' z w (t, e, h) n lw o lo = elim (cases_eq o z) [
  | inl k ↦ subst (λ b. live rs' (cond b w o) ≡ true) (sym (eq-eqb o z k)) (stays w n lw)
  | inr k ↦ subst (λ b. live rs' (cond b w o) ≡ true) (sym (ne_eqb o z k)) (stays o k lo)
]
  where
    stays : (i : ℕ) → i ≢ z → live rs i ≡ true → live rs' i ≡ true
    stays i k u = elim (or_cases (eqb i 0) (row rs i).used u) [
      | inl q ↦ or_left (eqb i 0) (row rs' i).used q
      | inr q ↦ or_right (eqb i 0) _ (ap (λ x. x.used) (h i) ∙ ap (λ x. cond x false (row rs i).used) (ne_eqb i z k) ∙ q)
    ]

-- row 0 stays
pub merged_top : (rs rs' : List Seat) (z w : ℕ) → MergedInto rs z w rs' → 1 ≤ z → has_root rs ≡ true → has_root rs' ≡ true
merged_top rs rs' z w (t, e, h) low u = ap (λ x. x.used) (h 0) ∙ ap (λ b. cond b false (row rs 0).used) (ne_eqb 0 z (omega arith)) ∙ u

-- the gains of tests
pub tests_join : {T : Type 0} (S : Semiring T) (lab : ℕ → ℕ) → Joins S (λ t p. bracket S (passes lab t p))
tests_join S lab a b t e p = ap (bracket S) ((subst (λ o. JoinTold a b o) e (join_told a b)).0 lab p) ∙ bracket_and S _ _

pub tests_apart : {T : Type 0} (S : Semiring T) (lab : ℕ → ℕ) (a b : Test) → joined a b ≡ None → (p : ℕ) → S.times (bracket S (passes lab a p)) (bracket S (passes lab b p)) ≡ S.nought
tests_apart S lab a b e p = sym (bracket_and S _ _) ∙ bracket_off S _ (subst (λ o. JoinTold a b o) e (join_told a b) lab p)
