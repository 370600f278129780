-- The block of a list fails the checks that the list fails.
use Rattle.std.proofs.Common.{◌≡◌, ℕ, suc, ◌+◌, ◌*◌, ◌<◌, ◌≤◌, true, List, [], ◌∷◌, ◌++◌, length, get_or, take, Option, sym, ap, ◌∙◌, subst, inl, inr, arith}
use Rattle.std.specs.List.{flat_map}
use Rattle.std.proofs.lemmas.List.{length-append, flat_map_more, take_more}
use Rattle.std.proofs.lemmas.Bool.{cases_Bool, cases_lt, and_parts, leb-true}
use Rattle.refusal.specs.declared.refusing.Refusal.{Refusal}
use Rattle.glossary.specs.Checks.{NoneOf, If, IfSome}
use Rattle.glossary.specs.Format.{BlockOf, head_of, entry_of, written}
use Rattle.glossary.specs.Layout as layout
use Rattle.glossary.specs.Limits.{max_block, max_name, max_names}
use Rattle.glossary.specs.Names.{good_name}
use Rattle.glossary.proofs.Starts.{starts_rise}
use Rattle.glossary.proofs.Verdicts.{one_list}
use Rattle.glossary.proofs.Writing.{name_at_written, end_written, listed_written}
use Rattle.name_list.specs.Lists.{Unsized, Bad, Repeated, Judged}

-- a name is not too long
pub good_name_length : (bs : List ℕ) → good_name bs ≡ true → length bs ≤ max_name
good_name_length bs e =
    leb-true _ _ (and_parts _ _ (and_parts _ _ e).0).1

pub not_bad : (names : List (List ℕ)) (k : ℕ) → (Bad names k → ⊥) → good_name (get_or names k []) ≡ true
not_bad names k f =
    elim (cases_Bool (good_name (get_or names k []))) [ inl e ↦ e | inr e ↦ absurd (f e) ]

-- the entries of good names
length_entries : (names : List (List ℕ)) → NoneOf (Bad names) (length names) → length (flat_map entry_of names) ≤ (1 + max_name) * length names
length_entries [] f = omega arith
length_entries (n ∷ ns) f =
    let here : length n ≤ max_name = good_name_length n (not_bad (n ∷ ns) 0 (f 0 (omega arith))) in
    let rest = length_entries ns (λ k h. f (suc k) (omega (arith, h))) in
    omega (arith, here, rest, length-append n (flat_map entry_of ns))

written_is_short : (names : List (List ℕ)) → NoneOf (Bad names) (length names) → length names ≤ max_names → length (written names) ≤ max_block
written_is_short names f h = omega (arith, h, length_entries names f)

-- where the check P fails nowhere, what stands behind it counts
skip_if : {P A B : Type 0} → (P → ⊥) → If P A B → B
skip_if f (inl u) = absurd (f u.0)
skip_if f (inr u) = u.1

skip_some : {P : ℕ → Type 0} {n : ℕ} {A : ℕ → Type 0} {B : Type 0} → NoneOf P n → IfSome P n A B → B
skip_some f (inl u) = absurd (f u.0 u.1.0 u.1.1)
skip_some f (inr u) = u.1

-- a check of the names of the block is a check of the names of the list
carry_some : {P Q : ℕ → Type 0} {n : ℕ} {A : ℕ → Type 0} {B : Type 0} → ((k : ℕ) → k < n → P k → Q k) → ((k : ℕ) → k < n → Q k → P k) → IfSome P n A B → IfSome Q n A B
carry_some to from (inl u) =
    let f = u.1 in
    inl (u.0, (f.0, to u.0 f.0 f.1, λ j h q. f.2 j h (from j (omega (arith, h, f.0)) q)), u.2)
carry_some to from (inr u) = inr (λ k h q. u.0 k h (from k h q), u.1)

module _ (names : List (List ℕ)) where
  repeated_to : (k : ℕ) → k < length names → layout.Repeated (written names) k → Repeated names k
  repeated_to k h u =
      (u.0, u.1, sym (name_at_written names u.0 (omega (arith, h, u.1))) ∙ (u.2 ∙ name_at_written names k h))

  repeated_from : (k : ℕ) → k < length names → Repeated names k → layout.Repeated (written names) k
  repeated_from k h u =
      (u.0, u.1, name_at_written names u.0 (omega (arith, h, u.1)) ∙ (u.2 ∙ sym (name_at_written names k h)))

  sized_block : (Unsized names → ⊥) → NoneOf (Bad names) (length names) → layout.Unsized (written names) → ⊥
  sized_block s f (inl (inl l)) = omega (arith, l)
  sized_block s f (inl (inr l)) =
      elim (cases_lt max_names (length names)) [ inl h ↦ s (inr h) | inr h ↦ omega (arith, l, written_is_short names f h) ]
  sized_block s f (inr (inl e)) = s (inl e)
  sized_block s f (inr (inr l)) = s (inr l)

  -- after the first two checks the block's verdict is the list's
  pub judged_list : (r : Option Refusal) (block : List ℕ) → block ≡ written names → (Unsized names → ⊥) → NoneOf (Bad names) (length names) → layout.Judged block r → Judged names r
  judged_list r block e s f j =
      let whole : layout.Judged (written names) r = subst (λ (x : List ℕ). layout.Judged x r) e j in
      let a = skip_if (sized_block s f) whole in
      let b = skip_some (λ k h l. omega (arith, l, end_written names, starts_rise (written names) (k + 1) (length names) (omega (arith, h)))) a in
      let c = skip_if (λ l. omega (arith, l, end_written names)) b in
      let d = skip_some (λ k h e. f k h (sym (ap good_name (name_at_written names k h)) ∙ e)) c in
      inr (s, inr (f, carry_some repeated_to repeated_from d))

  -- what was read back from the block of the list is the list
  pub read_back : (others : List (List ℕ)) (block : List ℕ) → block ≡ written names → BlockOf others block → BlockOf names block
  read_back others block e b =
      let back : layout.listed block (layout.count_in block) ≡ names = subst (λ (x : List ℕ). layout.listed x (layout.count_in x) ≡ names) (sym e) (listed_written names) in
      subst (λ (ns : List (List ℕ)). BlockOf ns block) (sym (one_list others block b) ∙ back) b

-- one name more in the block
pub encode_more : (names : List (List ℕ)) (k : ℕ) (before after name : List ℕ) → k < length names → before ≡ head_of (length names) ++ flat_map entry_of (take k names) → get_or names k [] ≡ name → after ≡ before ++ entry_of name → after ≡ head_of (length names) ++ flat_map entry_of (take (k + 1) names)
encode_more names k before after name h b n a =
    a
    ∙ (ap (λ (l : List ℕ). l ++ entry_of name) b
    ∙ (ap (λ (l : List ℕ). (head_of (length names) ++ flat_map entry_of (take k names)) ++ entry_of l) (sym n)
    ∙ (flat_map_more entry_of (head_of (length names)) (take k names) (get_or names k [])
    ∙ ap (λ (ns : List (List ℕ)). head_of (length names) ++ flat_map entry_of ns) (sym (take_more names k [] h)))))
