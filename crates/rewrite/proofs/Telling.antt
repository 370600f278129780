-- What the turn that is found says of its pattern.
use Rattle.std.proofs.Common.{◌≡◌, ℕ, suc, ◌<◌, ◌≤◌, true, false, eqb, ◌≢◌, List, [], ◌∷◌, length, Some, None, Option, sym, refl, ap, ◌∙◌, subst, inl, inr, arith}
use Rattle.std.proofs.lemmas.Bool.{cases_Bool, eqb-true, and_parts, and_from, false≢true}
use Rattle.std.proofs.lemmas.Option.{none-some, same_Some, cond_some}
use Rattle.std.proofs.lemmas.Grind.{common_steps}
use Rattle.std.specs.Prelude.{unwrap_or}
use Rattle.record.specs.Records.{depth_at}
use Rattle.record.specs.declared.axis.Step.{Step}
use Rattle.record.specs.declared.axis.Step.TheVariants.{Child, Descendant, Next, FollowingSibling}
use Rattle.record.specs.declared.axis.Reach.TheVariants.{DescendantOrSelf, AncestorOrSelf, Following, Preceding}
use Rattle.record.specs.declared.axis.Axis.{Axis}
use Rattle.record.specs.declared.axis.Axis.TheVariants.{Along, Against, Itself, Wide}
use Rattle.record.proofs.Proved.{root_depth, all_steps}
use Rattle.tally.specs.Semirings.{bracket}
use Rattle.tally.specs.Tallies.{naturals}
use Rattle.ways.specs.Expanding.{plain}
use Rattle.ways.specs.Rewriting.{strays, Done}
use Rattle.ways.specs.Ways.{In, Weighted, Tree, weighted, held}
use Rattle.ways.proofs.Ends.{done_forward}
use Rattle.ways.proofs.RowLists.{all_decides}
use Rattle.ways.proofs.Whole.{FindView, dropped}
use Rattle.pattern.specs.Questions.{label_at, pattern_of, test_gain, value_within, value_at, ways}
use Rattle.pattern.specs.Roots.{is_down, leads_down, all_down}
use Rattle.pattern.specs.Rows.{Seat, seats, row, fifteen, inner, deep, ahead, is_along, all_along, rooted}
use Rattle.pattern.specs.declared.base.Pattern.{Pattern}
use Rattle.pattern.proofs.MergedRows.{none}
use Rattle.pattern.proofs.Trees.{fifteen_in, in_fifteen, in_rows, rows_in, height, tree_of}
use Rattle.rewrite.specs.Turns.{first_some, expansion_by, shift_by, stray_by, want_at, first_want, expanding, straying, shifting, turn_of, Asked, Told}
use Rattle.rewrite.specs.declared.turns.Turn.{Turn}
use Rattle.rewrite.specs.declared.turns.Turn.TheVariants.{Kept, Dropped, Merge, Split, Open, Shift}

-- what is found is an answer
found : {A : Type 0} (f : ℕ → Option A) (rs : List ℕ) (t : A) → first_some f rs ≡ Some t → (r : ℕ) × In r rs × (f r ≡ Some t)
unfolding first_some
found f [] t e = cc
found {A} f (r ∷ rs) t e = go (f r) refl e (λ h. found f rs t h)
  where
    go : (o : Option A) → f r ≡ o → (elim o [ None ↦ first_some f rs | Some s ↦ Some s ]) ≡ Some t → (first_some f rs ≡ Some t → (s : ℕ) × In s rs × (f s ≡ Some t)) → (s : ℕ) × In s (r ∷ rs) × (f s ≡ Some t)
    go None k h again = let (s, i, d) = again h in (s, inr i, d)
    go (Some s) k h again = (r, inl refl, k ∙ h)

-- where nothing is found no row asks
quiet : {A : Type 0} (f : ℕ → Option A) (rs : List ℕ) → first_some f rs ≡ None → (r : ℕ) → In r rs → f r ≡ None
unfolding first_some
quiet f [] e r i = absurd i
quiet {A} f (s ∷ rs) e r i = go (f s) refl e (λ h j. quiet f rs h r j)
  where
    go : (o : Option A) → f s ≡ o → ◌≡◌ {A = Option A} (elim o [ None ↦ first_some f rs | Some t ↦ Some t ]) None → (first_some f rs ≡ None → In r rs → f r ≡ None) → f r ≡ None
    go None k h again = elim i [ inl q ↦ ap f q ∙ k | inr j ↦ again h j ]
    go (Some t) k h again = cc

-- what a row asks in expansion and as one that leads nowhere, and the first row that asks it
abbrev pub expansion_at : List Seat → ℕ → Option Turn
expansion_at rs = want_at rs expanding

abbrev pub straying_at : List Seat → ℕ → Option Turn
straying_at rs = want_at rs straying

abbrev pub first_expansion : List Seat → Option Turn
first_expansion rs = first_want rs expanding

abbrev pub first_straying : List Seat → Option Turn
first_straying rs = first_want rs straying

-- a row that leads nowhere from the root
abbrev pub Stray : List Seat → Type 0
Stray rs = (r : ℕ) × (1 ≤ r) × (r < 16) × ((row rs r).used ≡ true) × (strays (row rs r).axis ≡ true) × ((row rs r).up ≡ 0)

-- what is found where the turn is found
abbrev pub Seen : List Seat → Turn → Type 0
Seen rs Kept = (all_along rs ≡ true) × (all_down rs ≡ true)
Seen rs Dropped = Stray rs
Seen rs (Merge z) = Asked rs (Merge z)
Seen rs (Split z x) = Asked rs (Split z x)
Seen rs (Open z x) = Asked rs (Open z x)
Seen rs (Shift z y s) = Asked rs (Shift z y s) × (first_want rs expanding ≡ None)

module _ (rs : List Seat) (len : length rs ≡ 16) (ok : rooted rs ≡ true) where
  -- a row that asks is in use
  asks : (want : ℕ → Seat → Option Turn) (i : ℕ) (t : Turn) → want_at rs want i ≡ Some t → ((row rs i).used ≡ true) × (want i (row rs i) ≡ Some t)
  asks want i t e = grind (arith, common_steps)

  -- a row in use that does not ask
  silent : (want : ℕ → Seat → Option Turn) (i : ℕ) → (row rs i).used ≡ true → want_at rs want i ≡ None → want i (row rs i) ≡ None
  silent want i u e = grind (arith, common_steps)

  inner_from : (i : ℕ) → 1 ≤ i → (row rs i).used ≡ true → inner rs i ≡ true
  unfolding inner
  inner_from i h u = grind (arith, common_steps)

  told_expansion : (i : ℕ) → inner rs i ≡ true → (x : Axis) → (row rs i).axis ≡ x → (t : Turn) → expansion_by i x ≡ Some t → Seen rs t
  told_expansion i h (Along s) a t e = cc
  told_expansion i h (Against s) a t e = cc
  told_expansion i h Itself a t e = subst (Seen rs) (same_Some _ _ e) (h, a)
  told_expansion i h (Wide DescendantOrSelf) a t e = subst (Seen rs) (same_Some _ _ e) (h, inl (a, refl))
  told_expansion i h (Wide AncestorOrSelf) a t e = subst (Seen rs) (same_Some _ _ e) (h, inr (a, refl))
  told_expansion i h (Wide Following) a t e = subst (Seen rs) (same_Some _ _ e) (h, inl (a, refl))
  told_expansion i h (Wide Preceding) a t e = subst (Seen rs) (same_Some _ _ e) (h, inr (a, refl))

  told_stray : (i : ℕ) → 1 ≤ i → i < 16 → (row rs i).used ≡ true → (t : Turn) → stray_by (row rs i).up (row rs i).axis ≡ Some t → Seen rs t
  told_stray i h l u t e =
      let (b, d) = cond_some _ _ _ e in
      let (z, a) = and_parts _ _ b in
      subst (Seen rs) d (i, h, l, u, a, eqb-true _ _ z)

  -- no row right under row 0 leads nowhere
  kept_in : (i : ℕ) → stray_by (row rs i).up (row rs i).axis ≡ None → strays (row rs i).axis ≡ true → (row rs i).up ≢ 0
  kept_in i e a z = grind (arith, common_steps)

  told_shift : (i : ℕ) → first_want rs expanding ≡ None → inner rs i ≡ true → stray_by (row rs i).up (row rs i).axis ≡ None → (x above : Axis) → (row rs i).axis ≡ x → (row rs (row rs i).up).axis ≡ above → (t : Turn) → shift_by i x above ≡ Some t → Seen rs t
  unfolding deep
  told_shift i n h q (Against z) (Along y) a b t e =
      subst (Seen rs) (same_Some _ _ e) ((and_from _ _ h (let k = kept_in i q (ap strays a) in grind (arith, common_steps)), b, a), n)
  told_shift i n h q (Against z) (Against y) a b t e = cc
  told_shift i n h q (Against z) Itself a b t e = cc
  told_shift i n h q (Against z) (Wide y) a b t e = cc
  told_shift i n h q (Along z) above a b t e = cc
  told_shift i n h q Itself above a b t e = cc
  told_shift i n h q (Wide z) above a b t e = cc

  -- a row that asks for no expansion
  plain_by : (i : ℕ) (x : Axis) → expansion_by i x ≡ None → plain x ≡ true
  plain_by i (Along s) e = refl
  plain_by i (Against s) e = refl
  plain_by i Itself e = cc
  plain_by i (Wide DescendantOrSelf) e = cc
  plain_by i (Wide AncestorOrSelf) e = cc
  plain_by i (Wide Following) e = cc
  plain_by i (Wide Preceding) e = cc

  module _ (a : first_want rs expanding ≡ None) (b : first_want rs straying ≡ None) (c : first_want rs (shifting rs) ≡ None) where
    abbrev Q : Weighted (Unit {0})
    Q = pattern_of none rs

    no_ask : (want : ℕ → Seat → Option Turn) → first_want rs want ≡ None → (r : ℕ) → In r Q.rows → want r (row rs r) ≡ None
    no_ask want e r i = let (h, l, u) = rows_in none rs r i in silent want r u (quiet (want_at rs want) fifteen e r (in_fifteen r h l))

    all_plain : (r : ℕ) → In r Q.rows → plain (Q.axis r) ≡ true
    unfolding pattern_of
    all_plain r i = plain_by r (row rs r).axis (no_ask expanding a r i)

    view : FindView Q Q.rows Done
    unfolding pattern_of
    view r i s e = (
      kept_in r (no_ask straying b r i) (ap strays e),
      λ t k. absurd (none-some (Shift r t s) (sym (no_ask (shifting rs) c r i) ∙ ap (shift_by r (row rs r).axis) k ∙ ap (λ x. shift_by r x (Along t)) e)),
    )

    none_back : (r : ℕ) → In r Q.rows → (s : Step) → (row rs r).axis ≡ Against s → ⊥
    unfolding pattern_of
    none_back r i s e =
        done_forward Q (height (λ i. (row rs i).up) 16) (tree_of none rs (omega arith) ok) all_plain view (suc (height (λ i. (row rs i).up) 16 r)) r (omega arith) i s e

    along_by : (r : ℕ) → In r Q.rows → (x : Axis) → (row rs r).axis ≡ x → plain x ≡ true → is_along x ≡ true
    along_by r i (Along s) e p = refl
    along_by r i (Against s) e p = absurd (none_back r i s e)
    along_by r i Itself e p = absurd (false≢true p)
    along_by r i (Wide x) e p = absurd (false≢true p)

    along_in : (r : ℕ) → In r Q.rows → is_along (row rs r).axis ≡ true
    along_in r i = along_by r i (row rs r).axis refl (plain_by r (row rs r).axis (no_ask expanding a r i))

    pub told_kept : all_along rs ≡ true
    unfolding all_along
    told_kept = (all_decides fifteen (λ i. ahead (row rs i))).1 (λ r j. let (h, l) = fifteen_in r j in elim (cases_Bool (row rs r).used) [
      | inl u ↦ let k = along_in r (in_rows none rs r h l u) in grind (arith, common_steps)
      | inr f ↦ grind (arith, common_steps)
    ])

    -- and from row 0 it goes down
    down_by : (x : Axis) → is_along x ≡ true → strays x ≡ false → is_down x ≡ true
    down_by (Along Child) a b = refl
    down_by (Along Descendant) a b = refl
    down_by (Along Next) a b = sym b
    down_by (Along FollowingSibling) a b = sym b
    down_by (Against s) a b = a
    down_by Itself a b = a
    down_by (Wide x) a b = a

    pub told_down : all_down rs ≡ true
    unfolding all_down
    told_down = (all_decides fifteen (λ i. leads_down (row rs i))).1 (λ r j. let (h, l) = fifteen_in r j in elim (cases_Bool (row rs r).used) [
      | inl u ↦ let i = in_rows none rs r h l u in
          let d = down_by (row rs r).axis (along_in r i) in
          let n = kept_in r (no_ask straying b r i) in
          grind (arith, common_steps)
      | inr f ↦ grind (arith, common_steps)
    ])

  -- what each search finds
  told_first : (want : ℕ → Seat → Option Turn) → ((i : ℕ) → 1 ≤ i → i < 16 → (row rs i).used ≡ true → (t : Turn) → want i (row rs i) ≡ Some t → Seen rs t) → (t : Turn) → first_want rs want ≡ Some t → Seen rs t
  told_first want tell t e =
      let (i, j, w) = found (want_at rs want) fifteen t e in
      let (h, l) = fifteen_in i j in
      let (u, k) = asks want i t w in
      tell i h l u t k

  pub seen : Seen rs (turn_of rs)
  seen = one (first_want rs expanding) refl
    where
      three : first_want rs expanding ≡ None → first_want rs straying ≡ None → (o : Option Turn) → first_want rs (shifting rs) ≡ o → Seen rs (unwrap_or o Kept)
      three a b None c = (told_kept a b c, told_down a b c)
      three a b (Some t) c = told_first (shifting rs) (λ i h l u t e. told_shift i a (inner_from i h u) (silent straying i u (quiet (want_at rs straying) fifteen b i (in_fifteen i h l))) (row rs i).axis (row rs (row rs i).up).axis refl refl t e) t c

      two : first_want rs expanding ≡ None → (o : Option Turn) → first_want rs straying ≡ o → Seen rs (unwrap_or o (unwrap_or (first_want rs (shifting rs)) Kept))
      two a None b = three a b (first_want rs (shifting rs)) refl
      two a (Some t) b = told_first straying told_stray t b

      one : (o : Option Turn) → first_want rs expanding ≡ o → Seen rs (unwrap_or o (unwrap_or (first_want rs straying) (unwrap_or (first_want rs (shifting rs)) Kept)))
      one None a = two a (first_want rs straying) refl
      one (Some t) a = told_first expanding (λ i h l u t e. told_expansion i (inner_from i h u) (row rs i).axis refl t e) t a

module _ (P : Pattern) (len : length (seats P.rows) ≡ 16) where
  -- a pattern with a row that leads nowhere has no way
  astray : Stray (seats P.rows) → Told P Dropped
  unfolding ways value_at value_within held naturals
  astray (r, h, l, u, a, z) places rec p =
      dropped naturals (depth_at places) (root_depth places rec) (all_steps places rec) (length places) rec.some_place
      (weighted naturals Q P.output (λ q. bracket naturals (eqb p q))) (height (λ i. (row (seats P.rows) i).up) 16) tree_held r
      (unfold weighted in in_rows (test_gain naturals (label_at places)) (seats P.rows) r h l u) (unfold weighted pattern_of in a) (unfold weighted pattern_of in z)
    where
      Q : Weighted ℕ
      Q = pattern_of (test_gain naturals (label_at places)) (seats P.rows)

      tree_held : Tree (weighted naturals Q P.output (λ q. bracket naturals (eqb p q))) (height (λ i. (row (seats P.rows) i).up) 16)
      tree_held = let t = tree_of (test_gain naturals (label_at places)) (seats P.rows) (omega arith) P.ok in unfold weighted in record { apart = t.apart; no_root = t.no_root; ups = t.ups; ranks = t.ranks }

  pub told : Told P (turn_of (seats P.rows))
  told = from (turn_of (seats P.rows)) (seen (seats P.rows) len P.ok)
    where
      from : (t : Turn) → Seen (seats P.rows) t → Told P t
      from Kept h = h.0
      from Dropped h = astray h
      from (Merge z) h = h
      from (Split z x) h = h
      from (Open z x) h = h
      from (Shift z y s) h = h.0
