-- The names of entries that stand one behind the other, and the names of a block.
use Rattle.std.proofs.Common.{◌≡◌, ℕ, zero, suc, ◌+◌, ◌<◌, ◌≤◌, List, [], ◌∷◌, map, length, get_or, take, drop, Some, None, Option, MatchOption, sym, refl, ap, ◌∙◌, subst, arith}
use Rattle.std.specs.List.{range_with_len, enumerate_from, AllWithin, HoldsAt}
use Rattle.std.proofs.lemmas.Bool.{le-ltb, cond-false}
use Rattle.std.proofs.lemmas.List.{get_or-drop, drop-drop, length-drop}
use Rattle.std.proofs.lemmas.List.FromFn.{get_or-enumerate_from}
use Rattle.glossary.specs.Checks.{FirstIn, NoneOf}
use Rattle.glossary.specs.Limits.{head_size}
use Rattle.glossary.specs.Layout.{start, name_at, listed, names_in, Cut}
use Rattle.glossary.proofs.Readback.{length_listed, getD_listed}
use Rattle.glossary.proofs.Starts.{not_above, start_more}

-- the byte that what is left begins with
first_left : (block : List ℕ) (at : ℕ) → get_or (drop at block) 0 0 ≡ get_or block at 0
first_left block at = get_or-drop at block 0 0 ∙ ap (λ (i : ℕ). get_or block i 0) (omega arith)

-- what is left behind the entry k
left_more : (block : List ℕ) (k : ℕ) → drop (1 + get_or block (start block k) 0) (drop (start block k) block) ≡ drop (start block (k + 1)) block
left_more block k =
    drop-drop (1 + get_or block (start block k) 0) (start block k) block ∙ ap (λ (i : ℕ). drop i block) (sym (start_more block k))

-- one entry more, or one that is cut off, where rest is left of the block
pub entry_whole : (block rest behind : List ℕ) (k : ℕ) → rest ≡ drop (start block k) block → start block k ≤ length block → 1 + get_or rest 0 0 ≤ length rest → behind ≡ drop (1 + get_or rest 0 0) rest → (behind ≡ drop (start block (k + 1)) block) × (start block (k + 1) ≤ length block)
entry_whole block rest behind k e s h f =
    let size : get_or rest 0 0 ≡ get_or block (start block k) 0 = ap (λ (l : List ℕ). get_or l 0 0) e ∙ first_left block (start block k) in (
      f ∙ (ap (λ (l : List ℕ). drop (1 + get_or rest 0 0) l) e ∙ (ap (λ (b : ℕ). drop (1 + b) (drop (start block k) block)) size ∙ left_more block k)),
      omega (arith, size, start_more block k, ap length e, length-drop (start block k) block),
    )

pub entry_cut : (block rest : List ℕ) (k : ℕ) → rest ≡ drop (start block k) block → start block k ≤ length block → length rest < 1 + get_or rest 0 0 → Cut block k
entry_cut block rest k e s h =
    let size : get_or rest 0 0 ≡ get_or block (start block k) 0 = ap (λ (l : List ℕ). get_or l 0 0) e ∙ first_left block (start block k) in
    omega (arith, size, start_more block k, ap length e, length-drop (start block k) block)

names_more : (bytes : List ℕ) (n : ℕ) → 1 + get_or bytes 0 0 ≤ length bytes → names_in bytes (suc n) ≡ take (get_or bytes 0 0) (drop 1 bytes) ∷ names_in (drop (1 + get_or bytes 0 0) bytes) n
names_more bytes n h = cond-false _ _ _ (le-ltb _ _ h)

-- n entries from the k-th on
names_from : (block : List ℕ) (n k : ℕ) → start block k ≤ length block → ((j : ℕ) → k ≤ j → j < k + n → Cut block j → ⊥) → names_in (drop (start block k) block) n ≡ map (name_at block) (range_with_len k n)
names_from block zero k s w = refl
names_from block (suc n) k s w =
    let at = start block k in
    let z : k + 1 ≡ suc k = omega arith in
    let size = first_left block at in
    let whole : start block (k + 1) ≤ length block = not_above _ _ (w k (omega arith) (omega arith)) in
    let inside : 1 + get_or (drop at block) 0 0 ≤ length (drop at block) = omega (arith, size, start_more block k, length-drop at block) in
    let rest = names_from block n (k + 1) whole (λ j h i. w j (omega arith) (omega arith)) in
    names_more (drop at block) n inside
    ∙ (ap (λ (b : ℕ). take b (drop 1 (drop at block)) ∷ names_in (drop (1 + b) (drop at block)) n) size
    ∙ (ap (λ (l : List ℕ). take (get_or block at 0) (drop 1 (drop at block)) ∷ names_in l n) (left_more block k)
    ∙ (ap (λ (l : List ℕ). take (get_or block at 0) l ∷ names_in (drop (start block (k + 1)) block) n) (drop-drop 1 at block)
    ∙ ap (λ (l : List (List ℕ)). name_at block k ∷ l) rest)))

-- the entries of a block, if none is cut off, hold its names
pub names_of_whole : (block : List ℕ) (n : ℕ) → head_size ≤ length block → NoneOf (Cut block) n → names_in (drop head_size block) n ≡ listed block n
names_of_whole block n h w = names_from block n 0 h (λ j l i. w j (omega arith))

-- the first place of a list at which P holds, by what holds of the elements
pub first_place : {X : Type 0} (P : ℕ → Type 0) (n : ℕ) (xs : List X) (d : X) (Yes No : X → Type 0) → length xs ≡ n → ((k : ℕ) → k < n → Yes (get_or xs k d) → P k) → ((k : ℕ) → k < n → No (get_or xs k d) → P k → ⊥) → (r : Option ℕ) → MatchOption r (AllWithin No xs 0 (length xs)) (λ i. (i < length xs) × HoldsAt Yes xs i × AllWithin No xs 0 i) → FirstIn P n r
first_place P n xs d Yes No e here other None f = λ k h p. other k h (f k d (omega arith) (omega arith)) p
first_place P n xs d Yes No e here other (Some i) f = (omega arith, here i (omega arith) (f.1 d), λ j h p. other j (omega arith) (f.2 j d (omega arith) h) p)

-- the names of a block, each with its number
pub numbered : (block : List ℕ) (n k : ℕ) → k < n → get_or (enumerate_from 0 (listed block n)) k (0, []) ≡ (k, name_at block k)
numbered block n k h =
    get_or-enumerate_from 0 (listed block n) k (0, []) (omega (arith, length_listed block n))
    ∙ (ap (λ (i : ℕ). (i, get_or (listed block n) k [])) (omega arith) ∙ ap (λ (x : List ℕ). (k, x)) (getD_listed block n k h))

-- the first name of a block that is a Yes
pub first_listed : (block : List ℕ) (n : ℕ) (Yes No : List ℕ → Type 0) → ((x : List ℕ) → No x → Yes x → ⊥) → (r : Option ℕ) → MatchOption r (AllWithin No (listed block n) 0 (length (listed block n))) (λ i. (i < length (listed block n)) × HoldsAt Yes (listed block n) i × AllWithin No (listed block n) 0 i) → FirstIn (λ k. Yes (name_at block k)) n r
first_listed block n Yes No clash r f =
    first_place _ n (listed block n) [] Yes No (length_listed block n) (λ k h e. subst Yes (getD_listed block n k h) e) (λ k h o e. clash _ o (subst Yes (sym (getD_listed block n k h)) e)) r f
