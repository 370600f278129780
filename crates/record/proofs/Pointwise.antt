-- One rewriting at three places: exactly one alternative holds where the two axes hold, and none elsewhere.
use Rattle.std.proofs.Common.{◌≡◌, ℕ, suc, ◌+◌, ◌≤◌, Bool, true, ◌&&◌, ◌⊎◌, map, Decides, inl, inr, arith}
use Rattle.std.proofs.lemmas.Bool.{cases_order}
use Rattle.std.proofs.lemmas.Bool.Decides.{Decides-and, Decides-eqb}
use Rattle.record.specs.Axes.{leads}
use Rattle.record.specs.declared.axis.Step.{Step}
use Rattle.record.specs.declared.axis.Step.TheVariants.{Child, Descendant, Next, FollowingSibling}
use Rattle.record.specs.Moves.{table, move_holds, bit, count}
use Rattle.record.specs.declared.rules.Move.{Move}
use Rattle.record.specs.declared.rules.Move.TheVariants.{Up, Join, Between}
use Rattle.record.proofs.Intervals.{ChildR, DescR, NextR, FollR, child_decides, descendant_decides, next_decides, following_decides}

abbrev pub Leads : (ℕ → ℕ) → Step → ℕ → ℕ → Type 0
Leads D Child p q = ChildR D p q
Leads D Descendant p q = DescR D p q
Leads D Next p q = NextR D p q
Leads D FollowingSibling p q = FollR D p q

abbrev Moved : (ℕ → ℕ) → Step → Step → ℕ → ℕ → ℕ → Move → Type 0
Moved D sY sZ w y z Up = Leads D sY w y × Leads D sZ z w
Moved D sY sZ w y z (Join a) = Leads D a w y × (w ≡ z)
Moved D sY sZ w y z (Between a b) = Leads D b z y × Leads D a w z

bits1 : (b c : Bool) → (b ≡ true → c ≡ true) → (c ≡ true → b ≡ true) → bit b ≡ bit c + 0
bits1 b c f g = grind arith

bits2 : (b c d : Bool) → (b ≡ true → (c ≡ true) ⊎ (d ≡ true)) → (c ≡ true → b ≡ true) → (d ≡ true → b ≡ true) → (c ≡ true → d ≡ true → ⊥) → bit b ≡ bit c + (bit d + 0)
bits2 b c d f g h k = grind arith

bits3 : (b c d e : Bool) → (b ≡ true → (c ≡ true) ⊎ ((d ≡ true) ⊎ (e ≡ true))) → (c ≡ true → b ≡ true) → (d ≡ true → b ≡ true) → (e ≡ true → b ≡ true) → (c ≡ true → d ≡ true → ⊥) → (c ≡ true → e ≡ true → ⊥) → (d ≡ true → e ≡ true → ⊥) → bit b ≡ bit c + (bit d + (bit e + 0))
bits3 b c d e f g h k u v w = grind arith

pub exact1 : {L P : Type 0} (b c : Bool) → Decides b L → Decides c P → (L → P) → (P → L) → bit b ≡ bit c + 0
exact1 b c l p f g = bits1 b c (λ e. p.1 (f (l.0 e))) (λ e. l.1 (g (p.0 e)))

pub exact2 : {L P Q : Type 0} (b c d : Bool) → Decides b L → Decides c P → Decides d Q → (L → P ⊎ Q) → (P → L) → (Q → L) → (P → Q → ⊥) → bit b ≡ bit c + (bit d + 0)
exact2 b c d l p q f g h k =
    bits2 b c d (λ e. elim (f (l.0 e)) [ inl x ↦ inl (p.1 x) | inr x ↦ inr (q.1 x) ])
    (λ e. l.1 (g (p.0 e))) (λ e. l.1 (h (q.0 e))) (λ e i. k (p.0 e) (q.0 i))

exact3 : {L P Q R : Type 0} (b c d e : Bool) → Decides b L → Decides c P → Decides d Q → Decides e R → (L → P ⊎ (Q ⊎ R)) → (P → L) → (Q → L) → (R → L) → (P → Q → ⊥) → (P → R → ⊥) → (Q → R → ⊥) → bit b ≡ bit c + (bit d + (bit e + 0))
exact3 b c d e l p q r f g h i u v w =
    bits3 b c d e (λ t. elim (f (l.0 t)) [ inl x ↦ inl (p.1 x) | inr k ↦ elim k [ inl x ↦ inr (inl (q.1 x)) | inr x ↦ inr (inr (r.1 x)) ] ])
    (λ t. l.1 (g (p.0 t))) (λ t. l.1 (h (q.0 t))) (λ t. l.1 (i (r.0 t)))
    (λ s t. u (p.0 s) (q.0 t)) (λ s t. v (p.0 s) (r.0 t)) (λ s t. w (q.0 s) (r.0 t))

-- what each rule of the table says at three places
module _ (D : ℕ → ℕ) (w y z : ℕ) where
  child_child : (Leads D Child w y × Leads D Child z y) → (Leads D Child w y × (w ≡ z))
  child_child l = grind (arith, cases_order z w)

  child_descendant : (Leads D Child w y × Leads D Descendant z y) → ((Leads D Child w y × Leads D Descendant z w) ⊎ (Leads D Child w y × (w ≡ z)))
  child_descendant l = grind (arith, cases_order z w)

  child_next : (Leads D Child w y × Leads D Next z y) → (Leads D Next z y × Leads D Child w z)
  child_next l = grind (arith, cases_order z w)

  child_following : (Leads D Child w y × Leads D FollowingSibling z y) → (Leads D FollowingSibling z y × Leads D Child w z)
  child_following l = grind (arith, cases_order z w)

  descendant_child : (Leads D Descendant w y × Leads D Child z y) → ((Leads D Child w y × (w ≡ z)) ⊎ (Leads D Child z y × Leads D Descendant w z))
  descendant_child l = grind (arith, cases_order z w)

  descendant_descendant : (Leads D Descendant w y × Leads D Descendant z y) → ((Leads D Descendant w y × Leads D Descendant z w) ⊎ ((Leads D Descendant w y × (w ≡ z)) ⊎ (Leads D Descendant z y × Leads D Descendant w z)))
  descendant_descendant l = grind (arith, cases_order z w)

  descendant_next : (Leads D Descendant w y × Leads D Next z y) → (Leads D Next z y × Leads D Descendant w z)
  descendant_next l = grind (arith, cases_order z w)

  descendant_following : (Leads D Descendant w y × Leads D FollowingSibling z y) → (Leads D FollowingSibling z y × Leads D Descendant w z)
  descendant_following l = grind (arith, cases_order z w)

  next_child : (Leads D Next w y × Leads D Child z y) → (Leads D Next w y × Leads D Child z w)
  next_child l = grind (arith, cases_order z w)

  next_descendant : (Leads D Next w y × Leads D Descendant z y) → (Leads D Next w y × Leads D Descendant z w)
  next_descendant l = grind (arith, cases_order z w)

  next_next : (Leads D Next w y × Leads D Next z y) → (Leads D Next w y × (w ≡ z))
  next_next l = grind (arith, cases_order z w)

  next_following : (Leads D Next w y × Leads D FollowingSibling z y) → ((Leads D Next w y × Leads D FollowingSibling z w) ⊎ (Leads D Next w y × (w ≡ z)))
  next_following l = grind (arith, cases_order z w)

  following_child : (Leads D FollowingSibling w y × Leads D Child z y) → (Leads D FollowingSibling w y × Leads D Child z w)
  following_child l = grind (arith, cases_order z w)

  following_descendant : (Leads D FollowingSibling w y × Leads D Descendant z y) → (Leads D FollowingSibling w y × Leads D Descendant z w)
  following_descendant l = grind (arith, cases_order z w)

  following_next : (Leads D FollowingSibling w y × Leads D Next z y) → ((Leads D Next w y × (w ≡ z)) ⊎ (Leads D Next z y × Leads D FollowingSibling w z))
  following_next l = grind (arith, cases_order z w)

  following_following : (Leads D FollowingSibling w y × Leads D FollowingSibling z y) → ((Leads D FollowingSibling w y × Leads D FollowingSibling z w) ⊎ ((Leads D FollowingSibling w y × (w ≡ z)) ⊎ (Leads D FollowingSibling z y × Leads D FollowingSibling w z)))
  following_following l = grind (arith, cases_order z w)

-- The law of the steps of depths is not in reach here: `grind` would apply it without end.
module _ (D : ℕ → ℕ) (decides : (s : Step) (p q : ℕ) → Decides (leads D s p q) (Leads D s p q)) where
  both_decides : (s t : Step) (p q u v : ℕ) → Decides (leads D s p q && leads D t u v) (Leads D s p q × Leads D t u v)
  both_decides s t p q u v = Decides-and _ _ (decides s p q) (decides t u v)

  move_decides : (sY sZ : Step) (w y z : ℕ) (a : Move) → Decides (move_holds D sY sZ w y z a) (Moved D sY sZ w y z a)
  move_decides sY sZ w y z Up = both_decides sY sZ w y z w
  move_decides sY sZ w y z (Join a) = Decides-and _ _ (decides a w y) (Decides-eqb w z)
  move_decides sY sZ w y z (Between a b) = both_decides b a z y w z

  by_moves : (sY sZ : Step) (w y z : ℕ) → bit (leads D sY w y && leads D sZ z y) ≡ count (map (move_holds D sY sZ w y z) (table sY sZ))
  by_moves Child Child w y z = exact1 _ _ (both_decides Child Child w y z y) (move_decides Child Child w y z (Join Child)) (child_child D w y z) (λ l. grind arith)
  by_moves Child Descendant w y z = exact2 _ _ _ (both_decides Child Descendant w y z y) (move_decides Child Descendant w y z Up) (move_decides Child Descendant w y z (Join Child)) (child_descendant D w y z) (λ l. grind arith) (λ l. grind arith) (λ l m. grind arith)
  by_moves Child Next w y z = exact1 _ _ (both_decides Child Next w y z y) (move_decides Child Next w y z (Between Child Next)) (child_next D w y z) (λ l. grind arith)
  by_moves Child FollowingSibling w y z = exact1 _ _ (both_decides Child FollowingSibling w y z y) (move_decides Child FollowingSibling w y z (Between Child FollowingSibling)) (child_following D w y z) (λ l. grind arith)
  by_moves Descendant Child w y z = exact2 _ _ _ (both_decides Descendant Child w y z y) (move_decides Descendant Child w y z (Join Child)) (move_decides Descendant Child w y z (Between Descendant Child)) (descendant_child D w y z) (λ l. grind arith) (λ l. grind arith) (λ l m. grind arith)
  by_moves Descendant Descendant w y z = exact3 _ _ _ _ (both_decides Descendant Descendant w y z y) (move_decides Descendant Descendant w y z Up) (move_decides Descendant Descendant w y z (Join Descendant)) (move_decides Descendant Descendant w y z (Between Descendant Descendant)) (descendant_descendant D w y z) (λ l. grind arith) (λ l. grind arith) (λ l. grind arith) (λ l m. grind arith) (λ l m. grind arith) (λ l m. grind arith)
  by_moves Descendant Next w y z = exact1 _ _ (both_decides Descendant Next w y z y) (move_decides Descendant Next w y z (Between Descendant Next)) (descendant_next D w y z) (λ l. grind arith)
  by_moves Descendant FollowingSibling w y z = exact1 _ _ (both_decides Descendant FollowingSibling w y z y) (move_decides Descendant FollowingSibling w y z (Between Descendant FollowingSibling)) (descendant_following D w y z) (λ l. grind arith)
  by_moves Next Child w y z = exact1 _ _ (both_decides Next Child w y z y) (move_decides Next Child w y z Up) (next_child D w y z) (λ l. grind arith)
  by_moves Next Descendant w y z = exact1 _ _ (both_decides Next Descendant w y z y) (move_decides Next Descendant w y z Up) (next_descendant D w y z) (λ l. grind arith)
  by_moves Next Next w y z = exact1 _ _ (both_decides Next Next w y z y) (move_decides Next Next w y z (Join Next)) (next_next D w y z) (λ l. grind arith)
  by_moves Next FollowingSibling w y z = exact2 _ _ _ (both_decides Next FollowingSibling w y z y) (move_decides Next FollowingSibling w y z Up) (move_decides Next FollowingSibling w y z (Join Next)) (next_following D w y z) (λ l. grind arith) (λ l. grind arith) (λ l m. grind arith)
  by_moves FollowingSibling Child w y z = exact1 _ _ (both_decides FollowingSibling Child w y z y) (move_decides FollowingSibling Child w y z Up) (following_child D w y z) (λ l. grind arith)
  by_moves FollowingSibling Descendant w y z = exact1 _ _ (both_decides FollowingSibling Descendant w y z y) (move_decides FollowingSibling Descendant w y z Up) (following_descendant D w y z) (λ l. grind arith)
  by_moves FollowingSibling Next w y z = exact2 _ _ _ (both_decides FollowingSibling Next w y z y) (move_decides FollowingSibling Next w y z (Join Next)) (move_decides FollowingSibling Next w y z (Between FollowingSibling Next)) (following_next D w y z) (λ l. grind arith) (λ l. grind arith) (λ l m. grind arith)
  by_moves FollowingSibling FollowingSibling w y z = exact3 _ _ _ _ (both_decides FollowingSibling FollowingSibling w y z y) (move_decides FollowingSibling FollowingSibling w y z Up) (move_decides FollowingSibling FollowingSibling w y z (Join FollowingSibling)) (move_decides FollowingSibling FollowingSibling w y z (Between FollowingSibling FollowingSibling)) (following_following D w y z) (λ l. grind arith) (λ l. grind arith) (λ l. grind arith) (λ l m. grind arith) (λ l m. grind arith) (λ l m. grind arith)

module _ (D : ℕ → ℕ) (root : D 0 ≡ 0) (steps : (i : ℕ) → D (suc i) ≤ suc (D i)) where
  pub leads_decides : (s : Step) (p q : ℕ) → Decides (leads D s p q) (Leads D s p q)
  unfolding leads
  leads_decides Child p q = child_decides D root steps p q
  leads_decides Descendant p q = descendant_decides D root steps p q
  leads_decides Next p q = next_decides D root steps p q
  leads_decides FollowingSibling p q = following_decides D root steps p q

  pub pointwise : (sY sZ : Step) (w y z : ℕ) → bit (leads D sY w y && leads D sZ z y) ≡ count (map (move_holds D sY sZ w y z) (table sY sZ))
  pointwise sY sZ w y z = by_moves D leads_decides sY sZ w y z
