-- The block of a list of names has those names in it.
use Rattle.std.proofs.Common.{◌≡◌, ℕ, zero, suc, ◌+◌, ◌<◌, ◌≤◌, List, [], ◌∷◌, ◌++◌, length, get_or, take, drop, sym, refl, ap, ◌∙◌, subst, add-one, arith}
use Rattle.std.specs.List.{flat_map}
use Rattle.std.proofs.lemmas.List.{append_assoc, take-append-drop, drop_more, take_more, flat_map_more, length-append, get_or_at, drop_at, take_at, take_all, length_push, ext_get_or}
use Rattle.glossary.specs.Format.{head_of, entry_of, written}
use Rattle.glossary.specs.Layout.{start, name_at, listed}
use Rattle.glossary.proofs.Readback.{length_listed, getD_listed}

joined_append : {X A : Type 0} (f : X → List A) (xs ys : List X) → flat_map f (xs ++ ys) ≡ flat_map f xs ++ flat_map f ys
joined_append f [] ys = refl
joined_append f (x ∷ xs) ys = ap (λ (l : List _). f x ++ l) (joined_append f xs ys) ∙ sym (append_assoc (f x) (flat_map f xs) (flat_map f ys))

-- what stands before the entry of the name k
abbrev before : List (List ℕ) → ℕ → List ℕ
before names k = head_of (length names) ++ flat_map entry_of (take k names)

-- what stands behind it
abbrev behind : List (List ℕ) → ℕ → List ℕ
behind names k = flat_map entry_of (drop (k + 1) names)

around : (names : List (List ℕ)) (k : ℕ) → k < length names → written names ≡ before names k ++ (length (get_or names k []) ∷ (get_or names k [] ++ behind names k))
around names k h =
    let name = get_or names k [] in
    ap (λ (ns : List (List ℕ)). head_of (length names) ++ flat_map entry_of ns) (sym (take-append-drop k names) ∙ ap (λ (ns : List (List ℕ)). take k names ++ ns) (drop_more names k [] h))
    ∙ (ap (λ (l : List ℕ). head_of (length names) ++ l) (joined_append entry_of (take k names) (name ∷ drop (k + 1) names))
    ∙ sym (append_assoc (head_of (length names)) (flat_map entry_of (take k names)) (entry_of name ++ behind names k)))

before_more : (names : List (List ℕ)) (k : ℕ) → k < length names → before names (k + 1) ≡ before names k ++ entry_of (get_or names k [])
before_more names k h =
    ap (λ (ns : List (List ℕ)). head_of (length names) ++ flat_map entry_of ns) (take_more names k [] h)
    ∙ sym (flat_map_more entry_of (head_of (length names)) (take k names) (get_or names k []))

size_at : (names : List (List ℕ)) (k : ℕ) → k < length names → start (written names) k ≡ length (before names k) → get_or (written names) (start (written names) k) 0 ≡ length (get_or names k [])
size_at names k h e =
    ap (λ (l : List ℕ). get_or l (start (written names) k) 0) (around names k h)
    ∙ get_or_at (before names k) (length (get_or names k [])) (get_or names k [] ++ behind names k) 0 (start (written names) k) (sym e)

pub start_written : (names : List (List ℕ)) (k : ℕ) → k ≤ length names → start (written names) k ≡ length (before names k)
start_written names zero h = refl
start_written names (suc k) h =
    let ih = start_written names k (omega arith) in
    let more : length (before names (suc k)) ≡ length (before names k) + length (entry_of (get_or names k [])) =
    subst (λ (n : ℕ). length (before names n) ≡ length (before names k) + length (entry_of (get_or names k []))) (add-one k)
    (ap length (before_more names k (omega arith)) ∙ length-append (before names k) (entry_of (get_or names k []))) in
    omega (arith, ih, more, size_at names k (omega arith) ih)

pub name_at_written : (names : List (List ℕ)) (k : ℕ) → k < length names → name_at (written names) k ≡ get_or names k []
name_at_written names k h =
    let name = get_or names k [] in
    let at = start (written names) k in
    let ih = start_written names k (omega arith) in
    let front : written names ≡ (before names k ++ (length name ∷ [])) ++ (name ++ behind names k) = around names k h ∙ sym (append_assoc (before names k) (length name ∷ []) (name ++ behind names k)) in
    ap (λ (n : ℕ). take n (drop (at + 1) (written names))) (size_at names k h ih)
    ∙ (ap (take (length name)) (ap (drop (at + 1)) front ∙ drop_at (before names k ++ (length name ∷ [])) (name ++ behind names k) (at + 1) (length_push (before names k) (length name) ∙ omega (arith, ih)))
    ∙ take_at name (behind names k) (length name) refl)

pub end_written : (names : List (List ℕ)) → start (written names) (length names) ≡ length (written names)
end_written names =
    start_written names (length names) (omega arith)
    ∙ ap (λ (ns : List (List ℕ)). length (head_of (length names) ++ flat_map entry_of ns)) (take_all (length names) names (omega arith))

pub listed_written : (names : List (List ℕ)) → listed (written names) (length names) ≡ names
listed_written names =
    ext_get_or [] (listed (written names) (length names)) names (length_listed (written names) (length names))
    (λ k h. let l : k < length names = omega (arith, length_listed (written names) (length names)) in getD_listed (written names) (length names) k l ∙ name_at_written names k l)
