-- A block whose entries fill it is the block of the names in it.
use Rattle.std.proofs.Common.{◌≡◌, ℕ, zero, suc, ◌+◌, ◌<◌, ◌≤◌, List, [], ◌∷◌, ◌++◌, length, get_or, take, drop, sym, refl, ap, ◌∙◌, subst, add-one, one-add, arith}
use Rattle.std.specs.List.{flat_map}
use Rattle.std.proofs.lemmas.List.{append-nil, take-append-drop, take-take, drop-take, drop_more, flat_map_more, length-take-le, length-drop, take_all}
use Rattle.std.proofs.lemmas.List.FromFn.{map-range_with_len_more, length-map-range_with_len, get_or-map-range_with_len}
use Rattle.glossary.specs.Limits.{head_size}
use Rattle.glossary.specs.Format.{head_of, entry_of, written}
use Rattle.glossary.specs.Layout.{count_in, start, name_at, listed}
use Rattle.glossary.proofs.Starts.{start_more}

take_sum : {X : Type 0} (m n : ℕ) (xs : List X) → take (m + n) xs ≡ take m xs ++ take n (drop m xs)
take_sum m n xs =
    sym (take-append-drop m (take (m + n) xs)) ∙ (ap (λ (ys : List _). ys ++ drop m (take (m + n) xs)) (take-take m (m + n) xs (omega arith)) ∙ ap (λ (ys : List _). take m xs ++ ys) (drop-take m n xs))

-- a name in the block is as long as the byte before it says
pub length_name_at : (block : List ℕ) (k : ℕ) → start block (k + 1) ≤ length block → length (name_at block k) ≡ get_or block (start block k) 0
length_name_at block k h =
    length-take-le (get_or block (start block k) 0) (drop (start block k + 1) block)
    (rw length-drop (omega (arith, start_more block k)))

-- the bytes of one entry
one_entry : (block : List ℕ) (k : ℕ) → start block (k + 1) ≤ length block → take (1 + get_or block (start block k) 0) (drop (start block k) block) ≡ entry_of (name_at block k)
one_entry block k h =
    let inside : start block k < length block = omega (arith, start_more block k) in
    ap (take (1 + get_or block (start block k) 0)) (drop_more block (start block k) 0 inside) ∙ (ap (λ (n : ℕ). take n (get_or block (start block k) 0 ∷ drop (start block k + 1) block)) (one-add (get_or block (start block k) 0)) ∙ ap (λ (n : ℕ). n ∷ name_at block k) (sym (length_name_at block k h)))

listed_more : (block : List ℕ) (k : ℕ) → listed block (suc k) ≡ listed block k ++ name_at block k ∷ []
listed_more block k =
    subst (λ (n : ℕ). listed block n ≡ listed block k ++ name_at block k ∷ []) (add-one k)
    (map-range_with_len_more (name_at block) 0 k k (omega arith))

-- the first k entries are the entries of the first k names
front_entries : (block : List ℕ) (k : ℕ) → start block k ≤ length block → take (start block k) block ≡ take head_size block ++ flat_map entry_of (listed block k)
front_entries block zero h = sym (append-nil (take head_size block))
front_entries block (suc k) h =
    let size = 1 + get_or block (start block k) 0 in
    let front = take head_size block in
    let inside : start block (k + 1) ≤ length block = rw add-one h in
    take_sum (start block k) size block
    ∙ (ap (λ (ys : List ℕ). ys ++ take size (drop (start block k) block)) (front_entries block k (omega arith))
    ∙ (ap (λ (ys : List ℕ). (front ++ flat_map entry_of (listed block k)) ++ ys) (one_entry block k inside)
    ∙ (flat_map_more entry_of front (listed block k) (name_at block k)
    ∙ ap (λ (ns : List (List ℕ)). front ++ flat_map entry_of ns) (sym (listed_more block k)))))

pub length_listed : (block : List ℕ) (n : ℕ) → length (listed block n) ≡ n
length_listed block n = length-map-range_with_len (name_at block) 0 n

pub getD_listed : (block : List ℕ) (n k : ℕ) → k < n → get_or (listed block n) k [] ≡ name_at block k
getD_listed block n k h = get_or-map-range_with_len (name_at block) 0 n k k [] h (omega arith)

-- the head holds the count
head_read : (block : List ℕ) → head_size ≤ length block → take head_size block ≡ head_of (count_in block)
head_read [] h = absurd (omega arith)
head_read (b ∷ bs) h = refl

pub block_is_written : (block : List ℕ) → head_size ≤ length block → start block (count_in block) ≡ length block → block ≡ written (listed block (count_in block))
block_is_written block h e =
    sym (take_all (start block (count_in block)) block (omega arith))
    ∙ (front_entries block (count_in block) (omega arith)
    ∙ ap (λ (ys : List ℕ). ys ++ flat_map entry_of (listed block (count_in block)))
    (head_read block h ∙ ap head_of (sym (length_listed block (count_in block)))))
