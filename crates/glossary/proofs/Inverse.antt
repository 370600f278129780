-- Labels and names are inverse to each other.
use Rattle.std.proofs.Common.{◌⊎◌, ◌≡◌, ℕ, zero, suc, ◌+◌, ◌-◌, ◌<◌, ◌≤◌, min, true, false, List, [], ◌∷◌, length, get_or, take, drop, Some, None, Option, IfSome, Bor, sym, refl, ap, ◌∙◌, subst, inl, inr, add-one, arith, rules}
use Rattle.std.specs.List.{slice_get}
use Rattle.std.specs.Option.{option_map}
use Rattle.std.specs.Str.{bytes_eq}
use Rattle.std.proofs.lemmas.List.{same_lists, places}
use Rattle.std.proofs.lemmas.Slice.Eq.{bytes_eq-Decides}
use Rattle.std.proofs.lemmas.Option.{slice_get-get_or, slice_get_past}
use Rattle.std.proofs.lemmas.Bool.{cases_Bool, cases_lt, cond-true, cond-false}
use Rattle.glossary.specs.Checks.{First, NoneOf}
use Rattle.glossary.specs.Format.{GoodNames}
use Rattle.glossary.specs.Layout.{start, name_at, listed}
use Rattle.glossary.specs.Names.{name_of, label_of, next_label}
use Rattle.glossary.proofs.Readback.{length_listed, getD_listed}

-- the number k of the list is the name
abbrev Is : List (List ℕ) → List ℕ → ℕ → Type 0
Is names x k = get_or names k [] ≡ x

same_bytes : (x y : List ℕ) → x ≡ y → bytes_eq x y ≡ true
same_bytes x y e = (bytes_eq-Decides x y).1 e

other_bytes : (x y : List ℕ) → (x ≡ y → ⊥) → bytes_eq x y ≡ false
other_bytes x y f =
    elim (cases_Bool (bytes_eq x y)) [ inl e ↦ absurd (f ((bytes_eq-Decides x y).0 e)) | inr e ↦ e ]

label_here : (n : List ℕ) (ns : List (List ℕ)) (x : List ℕ) → n ≡ x → label_of (n ∷ ns) x ≡ Some 1
label_here n ns x e = cond-true _ _ _ (same_bytes n x e)

label_later : (n : List ℕ) (ns : List (List ℕ)) (x : List ℕ) → (n ≡ x → ⊥) → label_of (n ∷ ns) x ≡ next_label (label_of ns x)
label_later n ns x f = cond-false _ _ _ (other_bytes n x f)

first_later : (n : List ℕ) (ns : List (List ℕ)) (x : List ℕ) (k : ℕ) → First (Is (n ∷ ns) x) (length (n ∷ ns)) (suc k) → First (Is ns x) (length ns) k
first_later n ns x k f = (omega (arith, f.0), f.1, λ j h. f.2 (suc j) (omega (arith, h)))

pub label_at_first : (names : List (List ℕ)) (x : List ℕ) (k : ℕ) → First (Is names x) (length names) k → label_of names x ≡ Some (k + 1)
label_at_first [] x k f = absurd (omega (arith, f.0))
label_at_first (n ∷ ns) x zero f = label_here n ns x f.1
label_at_first (n ∷ ns) x (suc k) f =
    let z : suc (k + 1) ≡ suc k + 1 = omega arith in
    label_later n ns x (f.2 zero (omega arith)) ∙ (ap next_label (label_at_first ns x k (first_later n ns x k f)) ∙ ap Some z)

pub no_label : (names : List (List ℕ)) (x : List ℕ) → NoneOf (Is names x) (length names) → label_of names x ≡ None
no_label [] x f = refl
no_label (n ∷ ns) x f =
    label_later n ns x (f zero (omega arith)) ∙ ap next_label (no_label ns x (λ k h. f (suc k) (omega (arith, h))))

no_some : {X : Type 0} (x : X) → None ≡ Some x → ⊥
no_some x e = let z : ◌≡◌ {A = ℕ} 0 1 = cc in omega arith

-- the label of a later name, by the label in the rest of the list
name_later : (n : List ℕ) (ns : List (List ℕ)) (x : List ℕ) (o : Option ℕ) (l : ℕ) → ((m : ℕ) → o ≡ Some m → name_of ns m ≡ Some x) → next_label o ≡ Some l → name_of (n ∷ ns) l ≡ Some x
name_later n ns x None l h e = absurd (no_some l e)
name_later n ns x (Some zero) l h e = absurd (no_some x (h zero refl))
name_later n ns x (Some (suc m)) l h e =
    let f : suc (suc m) ≡ l = cc in subst (λ (i : ℕ). name_of (n ∷ ns) i ≡ Some x) f (h (suc m) refl)

some_same : {X : Type 0} (x y : X) → Some x ≡ Some y → x ≡ y
some_same x y e = cc

pub name_of_label : (names : List (List ℕ)) (x : List ℕ) (l : ℕ) → label_of names x ≡ Some l → name_of names l ≡ Some x
name_of_label [] x l e = absurd (no_some l e)
name_of_label (n ∷ ns) x l e =
    elim (cases_Bool (bytes_eq n x)) [
      | inl t ↦ subst (λ (i : ℕ). name_of (n ∷ ns) i ≡ Some x) (some_same 1 l (sym (cond-true _ _ _ t) ∙ e)) (ap Some ((bytes_eq-Decides n x).0 t))
      | inr f ↦ name_later n ns x (label_of ns x) l (λ m. name_of_label ns x m) (sym (cond-false _ _ _ f) ∙ e)
    ]

-- a name in the list stands at a number of the list
number_of_name : (names : List (List ℕ)) (x : List ℕ) (k : ℕ) → slice_get names k ≡ Some x → (k < length names) × (get_or names k [] ≡ x)
number_of_name names x k e =
    elim (cases_lt k (length names)) [
      | inl h ↦ (h, some_same _ _ (sym (slice_get-get_or names k [] h) ∙ e))
      | inr h ↦ absurd (no_some x (sym (slice_get_past names k h) ∙ e))
    ]

pub label_of_name : (names : List (List ℕ)) (x : List ℕ) (l : ℕ) → GoodNames names → name_of names l ≡ Some x → label_of names x ≡ Some l
label_of_name names x zero g e = absurd (no_some x e)
label_of_name names x (suc k) g e =
    let p = number_of_name names x k e in
    label_at_first names x k (p.0, p.1, λ j h f. g.once j k h p.0 (f ∙ sym p.1)) ∙ ap Some (add-one k)

module _ (block : List ℕ) (n : ℕ) where
  pub listed_no_label : (x : List ℕ) → NoneOf (λ k. name_at block k ≡ x) n → label_of (listed block n) x ≡ None
  listed_no_label x f =
      no_label (listed block n) x
      (λ k h e. let l : k < n = omega (arith, h, length_listed block n) in f k l (sym (getD_listed block n k l) ∙ e))

  pub listed_label : (x : List ℕ) (k : ℕ) → First (λ i. name_at block i ≡ x) n k → label_of (listed block n) x ≡ Some (k + 1)
  listed_label x k f =
      label_at_first (listed block n) x k (
        omega (arith, f.0, length_listed block n),
        getD_listed block n k f.0 ∙ f.1,
        λ j h e. f.2 j h (sym (getD_listed block n j (omega (arith, h, f.0))) ∙ e),
      )

  pub listed_no_name : (l : ℕ) → (l ≡ 0) ⊎ (n < l) → name_of (listed block n) l ≡ None
  listed_no_name zero h = refl
  listed_no_name (suc k) (inl e) = absurd (omega (arith, e))
  listed_no_name (suc k) (inr h) = slice_get_past (listed block n) k (omega (arith, h, length_listed block n))

  pub listed_name : (l : ℕ) → (l ≡ 0 → ⊥) → l ≤ n → name_of (listed block n) l ≡ Some (name_at block (l - 1))
  listed_name zero f h = absurd (f refl)
  listed_name (suc k) f h =
      let z : suc k - 1 ≡ k = omega arith in
      slice_get-get_or (listed block n) k [] (omega (arith, h, length_listed block n)) ∙ ap Some (getD_listed block n k (omega (arith, h)) ∙ ap (name_at block) (sym z))

pub name_of_later : (names : List (List ℕ)) (l : ℕ) → 1 ≤ l → name_of names l ≡ slice_get names (l - 1)
name_of_later names zero h = absurd (omega arith)
name_of_later names (suc k) h = let z : suc k - 1 ≡ k = omega arith in rw z refl

-- a part that is cut off at the end of a list
pub clamped_part : (xs : List ℕ) (from size f s : ℕ) → f ≡ min from (length xs) → s ≡ min size (length xs - f) → take ((f + s) - f) (drop f xs) ≡ take size (drop from xs)
clamped_part xs from size f s e g =
    same_lists _ _ (search (rules, places)) (λ k d h. grind (arith, places))

-- a part is known by where it begins and by its own length
pub part_by_length : (xs ys : List ℕ) (n : ℕ) → ys ≡ take n xs → ys ≡ take (length ys) xs
part_by_length xs ys n e =
    let P : List ℕ → Type 0 = λ zs. zs ≡ take (length zs) xs in
    subst P (sym e) (same_lists _ _ (search (rules, places)) (λ k d h. grind (arith, places)))

-- where the name k of a block stands in it
pub place_of_name : (block : List ℕ) (n k : ℕ) (r : Option (Bor (List ℕ))) → option_map (λ x. x.now) r ≡ slice_get (listed block n) k → IfSome r (λ x. x.now ≡ take (length x.now) (drop (start block k + 1) block))
place_of_name block n k None e = tt
place_of_name block n k (Some x) e =
    let p = number_of_name (listed block n) x.now k (sym e) in
    part_by_length _ _ _ (sym p.1 ∙ getD_listed block n k (omega (arith, length_listed block n)))
