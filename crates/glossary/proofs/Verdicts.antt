-- A block has one verdict, and it passes exactly if it is the block of a list of good names.
use Rattle.std.proofs.Common.{◌≡◌, ℕ, ◌+◌, ◌-◌, ◌<◌, ◌≤◌, List, length, Some, None, Option, sym, refl, ap, ◌∙◌, subst, inl, inr, arith}
use Rattle.std.proofs.lemmas.Bool.{both_ways, cases_order, cases_Bool, cases_eq}
use Rattle.refusal.specs.declared.refusing.Refusal.{Refusal}
use Rattle.glossary.specs.Checks.{First, NoneOf, If, IfSome}
use Rattle.glossary.specs.Limits.{head_size, max_block, max_names}
use Rattle.glossary.specs.Names.{good_name}
use Rattle.glossary.specs.Format.{GoodNames, BlockOf, written}
use Rattle.glossary.proofs.Readback.{length_listed, getD_listed, block_is_written}
use Rattle.glossary.proofs.Starts.{not_above, starts_rise}
use Rattle.glossary.proofs.Writing.{name_at_written, end_written, listed_written}
use Rattle.glossary.specs.Layout.{count_in, start, name_at, listed, Unsized, Cut, Overlong, Bad, Repeated, Judged}

-- the same refusal or none
abbrev One : (Option Refusal → Type 0) → Type 0
One R = (r s : Option Refusal) → R r → R s → r ≡ s

one_value : (x : Option Refusal) → One (λ r. r ≡ x)
one_value x r s e f = e ∙ sym f

one_if : (P : Type 0) (A B : Option Refusal → Type 0) → One A → One B → One (λ r. If P (A r) (B r))
one_if P A B a b r s (inl u) (inl v) = a r s u.1 v.1
one_if P A B a b r s (inl u) (inr v) = absurd (v.0 u.0)
one_if P A B a b r s (inr u) (inl v) = absurd (u.0 v.0)
one_if P A B a b r s (inr u) (inr v) = b r s u.1 v.1

first_is_one : (P : ℕ → Type 0) (n j k : ℕ) → First P n j → First P n k → j ≡ k
first_is_one P n j k f g =
    elim (cases_order j k) [ inl e ↦ e | inr o ↦ elim o [ inl l ↦ absurd (g.2 j l f.1) | inr l ↦ absurd (f.2 k l g.1) ] ]

one_if_some : (P : ℕ → Type 0) (n : ℕ) (A : ℕ → Option Refusal → Type 0) (B : Option Refusal → Type 0) → ((k : ℕ) → One (A k)) → One B → One (λ r. IfSome P n (λ k. A k r) (B r))
one_if_some P n A B a b r s (inl u) (inl v) =
    a u.0 r s u.2 (subst (λ (k : ℕ). A k s) (first_is_one P n v.0 u.0 v.1 u.1) v.2)
one_if_some P n A B a b r s (inl u) (inr v) = absurd (v.0 u.0 u.1.0 u.1.1)
one_if_some P n A B a b r s (inr u) (inl v) = absurd (u.0 v.0 v.1.0 v.1.1)
one_if_some P n A B a b r s (inr u) (inr v) = b r s u.1 v.1

pub one_verdict : (block : List ℕ) → One (Judged block)
one_verdict block =
    one_if _ _ _ (one_value _)
    (one_if_some _ _ _ _ (λ k. one_value _)
    (one_if _ _ _ (one_value _)
    (one_if_some _ _ _ _ (λ k. one_value _)
    (one_if_some _ _ _ _ (λ k. one_value _) (one_value _)))))

-- what holds where no check fails
record Passed (block : List ℕ) : Type 0 where
  sized : Unsized block → ⊥
  whole : NoneOf (Cut block) (count_in block)
  ends : Overlong block → ⊥
  formed : NoneOf (Bad block) (count_in block)
  distinct : NoneOf (Repeated block) (count_in block)

no_refusal : (x : Refusal) → None ≡ Some x → ⊥
no_refusal x e = let z : ◌≡◌ {A = ℕ} 0 1 = cc in omega arith

else_part : {P A B : Type 0} → (A → ⊥) → If P A B → (P → ⊥) × B
else_part a (inl u) = absurd (a u.1)
else_part a (inr u) = u

none_part : {P : ℕ → Type 0} {n : ℕ} {A : ℕ → Type 0} {B : Type 0} → ((k : ℕ) → A k → ⊥) → IfSome P n A B → NoneOf P n × B
none_part a (inl u) = absurd (a u.0 u.2)
none_part a (inr u) = u

passed : (block : List ℕ) → Judged block None → Passed block
passed block j =
    let a = else_part (no_refusal _) j in
    let b = none_part (λ k. no_refusal _) a.1 in
    let c = else_part (no_refusal _) b.1 in
    let d = none_part (λ k. no_refusal _) c.1 in
    let e = none_part (λ k. no_refusal _) d.1 in
    record { sized = a.0; whole = b.0; ends = c.0; formed = d.0; distinct = e.0 }

passes : (block : List ℕ) → Passed block → Judged block None
passes block p =
    inr (p.sized, inr (p.whole, inr (p.ends, inr (p.formed, inr (p.distinct, refl)))))

-- the sizes of a block that is neither too short nor too long
record Sizes (block : List ℕ) : Type 0 where
  head : head_size ≤ length block
  short : length block ≤ max_block
  some : 1 ≤ count_in block
  few : count_in block ≤ max_names

sizes : (block : List ℕ) → (Unsized block → ⊥) → Sizes block
sizes block s =
    record {
      head = not_above _ _ (λ l. s (inl (inl l)));
      short = not_above _ _ (λ l. s (inl (inr l)));
      some = elim (cases_eq (count_in block) 0) [ inl e ↦ absurd (s (inr (inl e))) | inr f ↦ omega (arith, f) ];
      few = not_above _ _ (λ l. s (inr (inr l)));
    }

last_end : (block : List ℕ) → Passed block → start block (count_in block) ≡ length block
last_end block p =
    let some : 1 ≤ count_in block = (sizes block p.sized).some in
    let z : count_in block - 1 + 1 ≡ count_in block = omega arith in
    let fits : start block (count_in block) ≤ length block =
    subst (λ (n : ℕ). start block n ≤ length block) z (not_above _ _ (p.whole (count_in block - 1) (omega arith))) in
    let fills : length block ≤ start block (count_in block) = not_above _ _ p.ends in
    omega arith

listed_good : (block : List ℕ) → Passed block → GoodNames (listed block (count_in block))
listed_good block p =
    let n = length_listed block (count_in block) in
    let z = sizes block p.sized in
    record {
      some = omega (arith, n, z.some);
      few = omega (arith, n, z.few);
      good = λ k h. let l : k < count_in block = omega (arith, n, h) in
          ap good_name (getD_listed block (count_in block) k l) ∙ elim (cases_Bool (good_name (name_at block k))) [ inl e ↦ e | inr e ↦ absurd (p.formed k l e) ];
      once = λ i k h m e. let l : k < count_in block = omega (arith, n, m) in
          p.distinct k l (i, h, sym (getD_listed block (count_in block) i (omega (arith, h, l))) ∙ (e ∙ getD_listed block (count_in block) k l));
    }

pub passed_is_block : (block : List ℕ) → Judged block None → BlockOf (listed block (count_in block)) block
passed_is_block block j =
    let p = passed block j in
    let z = sizes block p.sized in
    record { names_are_good = listed_good block p; bytes = block_is_written block z.head (last_end block p); short = z.short }

written_passes : (names : List (List ℕ)) → GoodNames names → length (written names) ≤ max_block → Passed (written names)
written_passes names g short =
    record {
      sized = λ u. elim u [ inl v ↦ elim v [ inl l ↦ omega (arith, l) | inr l ↦ omega (arith, l, short) ] | inr v ↦ elim v [ inl e ↦ omega (arith, e, g.some) | inr l ↦ omega (arith, l, g.few) ] ];
      whole = λ k h l. omega (arith, l, end_written names, starts_rise (written names) (k + 1) (length names) (omega (arith, h)));
      ends = λ l. omega (arith, l, end_written names);
      formed = λ k h e. both_ways _ e (ap good_name (name_at_written names k h) ∙ g.good k h);
      distinct = λ k h r. g.once r.0 k r.1 h (sym (name_at_written names r.0 (omega (arith, h, r.1))) ∙ (r.2 ∙ name_at_written names k h));
    }

block_passes : (names : List (List ℕ)) (block : List ℕ) → BlockOf names block → Judged block None
block_passes names block b =
    subst (λ (x : List ℕ). Judged x None) (sym b.bytes)
    (passes (written names) (written_passes names b.names_are_good (subst (λ (x : List ℕ). length x ≤ max_block) b.bytes b.short)))

-- the block of a list of names is the block of no other
pub one_list : (names : List (List ℕ)) (block : List ℕ) → BlockOf names block → listed block (count_in block) ≡ names
one_list names block b =
    subst (λ (x : List ℕ). listed x (count_in x) ≡ names) (sym b.bytes) (listed_written names)

pub refused_is_no_block : (names : List (List ℕ)) (block : List ℕ) (x : Refusal) → Judged block (Some x) → BlockOf names block → ⊥
refused_is_no_block names block x j b =
    no_refusal x (one_verdict block None (Some x) (block_passes names block b) j)
