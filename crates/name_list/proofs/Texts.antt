-- The rows of a listing.
use Rattle.std.proofs.Common.{◌≡◌, ℕ, zero, suc, ◌+◌, ◌<◌, ◌≤◌, List, [], ◌∷◌, ◌++◌, map, length, get_or, take, sym, refl, ap, ◌∙◌, subst, add-one, arith, Bor}
use Rattle.std.specs.List.{flat_map, enumerate_from}
use Rattle.std.proofs.lemmas.List.{take_more, take_all, flat_map_more}
use Rattle.std.proofs.lemmas.List.FromFn.{get_or-enumerate_from, length-enumerate_from}
use Rattle.name_list.specs.Shown.{row, rows}

-- the row of a name with its number, from 0
abbrev pub numbered_row : ℕ × List ℕ → List ℕ
numbered_row p = row (p.0 + 1) p.1

-- a name, as a slice, and its number
abbrev pub with_bytes : ℕ × Bor (List ℕ) → ℕ × List ℕ
with_bytes p = (p.0, p.1.now)

rows_of_slices : (ps : List (ℕ × Bor (List ℕ))) → flat_map (λ p. numbered_row (with_bytes p)) ps ≡ flat_map numbered_row (map with_bytes ps)
rows_of_slices [] = refl
rows_of_slices (p ∷ ps) = ap (λ (t : List ℕ). numbered_row (with_bytes p) ++ t) (rows_of_slices ps)

-- the rows of the first k names
front_rows : (names : List (List ℕ)) (k : ℕ) → k ≤ length names → flat_map numbered_row (take k (enumerate_from 0 names)) ≡ rows names k
front_rows names zero h = refl
front_rows names (suc k) h =
    let all = enumerate_from 0 names in
    let inside : k < length all = omega (arith, h, length-enumerate_from 0 names) in
    let more : take (suc k) all ≡ take k all ++ get_or all k (0, []) ∷ [] = subst (λ (n : ℕ). take n all ≡ take k all ++ get_or all k (0, []) ∷ []) (add-one k) (take_more all k (0, []) inside) in
    let here : get_or all k (0, []) ≡ (k, get_or names k []) = get_or-enumerate_from 0 names k (0, []) (omega (arith, h)) ∙ ap (λ (i : ℕ). (i, get_or names k [])) (omega arith) in
    ap (flat_map numbered_row) more
    ∙ (sym (flat_map_more numbered_row [] (take k all) (get_or all k (0, [])))
    ∙ (ap (λ (t : List ℕ). t ++ numbered_row (get_or all k (0, []))) (front_rows names k (omega (arith, h)))
    ∙ (ap (λ (p : ℕ × List ℕ). rows names k ++ numbered_row p) here
    ∙ ap (λ (i : ℕ). rows names k ++ row i (get_or names k [])) (add-one k))))

-- the rows of all names, each taken with its number
pub all_rows_taken : (names : List (List ℕ)) (ps : List (ℕ × Bor (List ℕ))) → map with_bytes ps ≡ enumerate_from 0 names → flat_map (λ p. numbered_row (with_bytes p)) ps ≡ rows names (length names)
all_rows_taken names ps e =
    rows_of_slices ps
    ∙ (ap (flat_map numbered_row) (e ∙ sym (take_all (length names) (enumerate_from 0 names) (omega (arith, length-enumerate_from 0 names))))
    ∙ front_rows names (length names) (omega arith))
