-- The laws, of a record's list of places.
use Rattle.std.proofs.Common.{◌≡◌, ℕ, zero, suc, ◌<◌, ◌≤◌, true, List, ◌++◌, length, Some, None, Option, sym, refl, ap, ◌∙◌, subst, inl, inr, arith}
use Rattle.std.proofs.lemmas.List.{get_or_append_left, get_or_past}
use Rattle.std.proofs.lemmas.Bool.{false≢true, both_ways, cases_eq, cases_lt, and_parts, ltb-true, eqb-true}
use Rattle.std.proofs.lemmas.Bool.Decides.{Decides-like, nat_tests}
use Rattle.record.specs.Axes.{parent_of, child, descendant, following_sibling, following, leads, reaches, holds, is_forward}
use Rattle.record.specs.Laws.{ParentsFound, DescendantsUnbroken, DescendantsByChildren, FollowingByOnePair, OneMoveHolds, ChildrenListed, AxesStay, InversesLeadBack, ForwardIsLater}
use Rattle.record.specs.Records.{Record, root, depth_at}
use Rattle.record.specs.declared.axis.Step.{Step}
use Rattle.record.specs.declared.axis.Step.TheVariants.{Child, Descendant, Next, FollowingSibling}
use Rattle.record.specs.declared.axis.Reach.{Reach}
use Rattle.record.specs.declared.axis.Reach.TheVariants.{DescendantOrSelf, AncestorOrSelf, Following, Preceding}
use Rattle.record.specs.declared.axis.Axis.TheVariants.{Along, Against, Itself, Wide}
use Rattle.record.specs.declared.place.Place.{Place}
use Rattle.record.proofs.Intervals.{ChildR, FollR, ParentView, parent_view, child_decides, descendant_decides, following_decides, next_decides, next_foll}
use Rattle.record.proofs.Neighbours.{first_is, child_tail, child_tail·1, foll_tail, foll_tail·1}
use Rattle.record.proofs.Pairs.{or_self_decides, way_unique, way_from_pair, pair_from_way, following_from_way, way_from_following, desc_first, desc_then}
use Rattle.record.proofs.Pointwise.{pointwise}
use Rattle.record.proofs.Prefixes.{holds_same}

pub root_depth : (places : List Place) → Record places → depth_at places 0 ≡ 0
root_depth places rec = ap (λ (x : Place). x.depth) rec.first

pub all_steps : (places : List Place) → Record places → (i : ℕ) → depth_at places (suc i) ≤ suc (depth_at places i)
all_steps places rec i =
    elim (cases_lt (suc i) (length places)) [
      | inl h ↦ rec.steps i h
      | inr h ↦ omega (arith, ap (λ (x : Place). x.depth) (get_or_past places (suc i) root h))
    ]

pub all_nested : (places : List Place) → Record places → (i : ℕ) → 0 < i → i < length places → 1 ≤ depth_at places i
all_nested places rec zero h l = absurd (omega arith)
all_nested places rec (suc i) h l = (rec.others i l).nested

pub axes_stay : AxesStay
axes_stay places more a p q h l =
    holds_same (depth_at (places ++ more)) (depth_at places) (length places)
    (λ i k. ap (λ (x : Place). x.depth) (get_or_append_left places more root i k)) a p q h l

pub one_move_holds : OneMoveHolds
one_move_holds places rec sY sZ w y z = pointwise (depth_at places) (root_depth places rec) (all_steps places rec) sY sZ w y z

pub parents_found : ParentsFound
parents_found places rec q h l = go (parent_of (depth_at places) q) (parent_view (depth_at places) (root_depth places rec) (all_steps places rec) q) refl
  where
    go : (o : Option ℕ) → ParentView (depth_at places) q o → parent_of (depth_at places) q ≡ o → (p : ℕ) × (parent_of (depth_at places) q ≡ Some p) × (p < q) × (depth_at places q ≡ suc (depth_at places p)) × ((x : ℕ) → p < x → x < q → depth_at places p < depth_at places x)
    go None v e = absurd (omega (arith, v, all_nested places rec q h l))
    go (Some p) v e = (p, e, v.before, v.level, λ x a b. v.over x a b)

pub descendants_unbroken : DescendantsUnbroken
descendants_unbroken places rec p q =
    let d = descendant_decides (depth_at places) (root_depth places rec) (all_steps places rec) p q in
    Decides-like (descendant (depth_at places) p q)
    (λ r. (r.before, λ x a b. elim (cases_eq x q) [ inl e ↦ subst (λ (y : ℕ). depth_at places p < depth_at places y) (sym e) r.level | inr n ↦ r.over x a (omega (arith, a, b, n)) ]))
    (λ u. record { before = u.0; level = u.1 q u.0 (omega arith); over = λ x a b. u.1 x a (omega (arith, b)) })
    d

pub descendants_by_children : DescendantsByChildren
descendants_by_children places rec p q =
    let r = root_depth places rec in
    let s = all_steps places rec in
    let E = depth_at places in
    Decides-like (descendant E p q)
    (λ d. let (x, c, o) = desc_first E r s p q d in (x, (child_decides E r s p x).1 c, (or_self_decides E r s x q).1 o))
    (λ u. desc_then E r s p u.0 q ((child_decides E r s p u.0).0 u.1) ((or_self_decides E r s u.0 q).0 u.2))
    (descendant_decides E r s p q)

pub following_by_one_pair : FollowingByOnePair
following_by_one_pair places rec p q l =
    let r = root_depth places rec in
    let s = all_steps places rec in
    let E = depth_at places in (
      (
        λ t. let (x, y, w) = way_from_following E r s (length places) (all_nested places rec) p q l t in (x, y, pair_from_way E r s p q x y w),
        λ u. following_from_way E r s p q u.0 u.1 (way_from_pair E r s p q u.0 u.1 u.2),
      ),
      λ x y x' y' a b. way_unique E p q x y x' y' (way_from_pair E r s p q x y a) (way_from_pair E r s p q x' y' b),
    )

pub children_listed : ChildrenListed
children_listed places rec p c q =
    let r = root_depth places rec in
    let s = all_steps places rec in
    let E = depth_at places in (
      λ f.
          let a = (child_decides E r s p c).0 f.1 in
          let e = first_is E s p c a (λ k h b. both_ways _ (f.2 k h) ((child_decides E r s p k).1 b)) in
          let b : ChildR E p (suc p) = subst (λ (x : ℕ). ChildR E p x) e a in (
            λ t. elim (child_tail E p q b ((child_decides E r s p q).0 t)) [ inl k ↦ inl (e ∙ k) | inr g ↦ inr (subst (λ (x : ℕ). following_sibling E x q ≡ true) (sym e) ((following_decides E r s (suc p) q).1 g)) ],
            λ o. elim o [ inl k ↦ subst (λ (x : ℕ). child E p x ≡ true) k f.1 | inr g ↦ (child_decides E r s p q).1 (child_tail·1 E p q b (subst (λ (x : ℕ). FollR E x q) e ((following_decides E r s c q).0 g))) ],
          ),
      λ f.
          let a = (next_decides E r s p c).0 f.1 in (
            λ t. elim (foll_tail E p c q a ((following_decides E r s p q).0 t)) [ inl k ↦ inl k | inr g ↦ inr ((following_decides E r s c q).1 g) ],
            λ o. elim o [ inl k ↦ subst (λ (x : ℕ). following_sibling E p x ≡ true) k ((following_decides E r s p c).1 (next_foll E r s p c a)) | inr g ↦ (following_decides E r s p q).1 (foll_tail·1 E p c q a ((following_decides E r s c q).0 g)) ],
          ),
    )

pub inverses_lead_back : InversesLeadBack
unfolding holds reaches
inverses_lead_back D (Along s) p q = refl
inverses_lead_back D (Against s) p q = refl
inverses_lead_back D Itself p q = grind (arith, nat_tests)
inverses_lead_back D (Wide DescendantOrSelf) p q = refl
inverses_lead_back D (Wide AncestorOrSelf) p q = refl
inverses_lead_back D (Wide Following) p q = refl
inverses_lead_back D (Wide Preceding) p q = refl

steps_lead_on : (places : List Place) → Record places → (s : Step) (p q : ℕ) → leads (depth_at places) s p q ≡ true → p < q
unfolding leads
steps_lead_on places rec Child p q t = ((child_decides (depth_at places) (root_depth places rec) (all_steps places rec) p q).0 t).before
steps_lead_on places rec Descendant p q t = ((descendant_decides (depth_at places) (root_depth places rec) (all_steps places rec) p q).0 t).before
steps_lead_on places rec Next p q t = ((next_decides (depth_at places) (root_depth places rec) (all_steps places rec) p q).0 t).before
steps_lead_on places rec FollowingSibling p q t = ((following_decides (depth_at places) (root_depth places rec) (all_steps places rec) p q).0 t).before

reach_leads_on : (places : List Place) → Record places → (x : Reach) (p q : ℕ) → is_forward (Wide x) ≡ true → reaches (depth_at places) x p q ≡ true → p ≤ q
unfolding reaches following
reach_leads_on places rec DescendantOrSelf p q f t =
    elim ((or_self_decides (depth_at places) (root_depth places rec) (all_steps places rec) p q).0 t) [ inl e ↦ omega (arith, e) | inr d ↦ omega (arith, d.before) ]
reach_leads_on places rec AncestorOrSelf p q f t = absurd (false≢true f)
reach_leads_on places rec Following p q f t = omega (arith, ltb-true p q (and_parts _ _ t).0)
reach_leads_on places rec Preceding p q f t = absurd (false≢true f)

pub forward_is_later : ForwardIsLater
unfolding holds
forward_is_later places rec (Along s) p q f t = omega (arith, steps_lead_on places rec s p q t)
forward_is_later places rec (Against s) p q f t = absurd (false≢true f)
forward_is_later places rec Itself p q f t = omega (arith, eqb-true p q t)
forward_is_later places rec (Wide x) p q f t = reach_leads_on places rec x p q f t
