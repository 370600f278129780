-- What the slices of a list hold, one by one.
use Rattle.std.proofs.Common.{◌≡◌, ℕ, ◌<◌, ◌≤◌, not, List, [], ◌∷◌, length, get_or, position, Some, None, ap, ◌∙◌, inl, inr, arith, Bor}
use Rattle.std.specs.List.{position_or_len}
use Rattle.std.proofs.lemmas.Grind.{common_steps}
use Rattle.std.proofs.lemmas.List.Quantifiers.{position-Some}
use Rattle.std.proofs.lemmas.List.Sums.{fails_before_first}
use Rattle.std.proofs.lemmas.Option.{none-some}
use Rattle.std.proofs.lemmas.List.{get_or-map, length-map}
use Rattle.std.proofs.lemmas.Bool.{both_ways, not-false, not-true}
use Rattle.glossary.specs.Checks.{First, NoneOf}
use Rattle.glossary.specs.Limits.{max_names}
use Rattle.glossary.specs.Names.{good_name}
use Rattle.name_list.specs.Lists.{bytes_of, Unsized, Bad}

pub length_bytes_of : (ns : List (Bor (List ℕ))) → length (bytes_of ns) ≡ length ns
length_bytes_of ns = length-map ns (λ n. n.now)

pub bytes_at : (ns : List (Bor (List ℕ))) (k : ℕ) (d : Bor (List ℕ)) → k < length ns → get_or (bytes_of ns) k [] ≡ (get_or ns k d).now
bytes_at ns k d h = get_or-map (λ n. n.now) ns k d [] h

-- neither none nor too many
pub sized_slices : (ns : List (Bor (List ℕ))) → 1 ≤ length ns → length ns ≤ max_names → Unsized (bytes_of ns) → ⊥
sized_slices ns some h (inl z) = omega (arith, some, z, length_bytes_of ns)
sized_slices ns some h (inr l) = omega (arith, h, l, length_bytes_of ns)

-- the first slice that is no name
pub first_of_slices : (ns : List (Bor (List ℕ))) (k : ℕ) → position (λ n. not (good_name n.now)) ns ≡ Some k → First (Bad (bytes_of ns)) (length (bytes_of ns)) k
first_of_slices [] k e = absurd (none-some k e)
first_of_slices (n ∷ ns) k e =
    let all = n ∷ ns in
    let p = position-Some (λ (n : Bor (List ℕ)). not (good_name n.now)) all k n e in (
      omega (arith, p.0, length_bytes_of all),
      ap good_name (bytes_at all k n p.0) ∙ not-true _ p.1,
      λ j h b. both_ways _ b (ap good_name (bytes_at all j n (omega (arith, h, p.0))) ∙ not-false _ (p.2 j h)),
    )

pub none_of_slices : (ns : List (Bor (List ℕ))) → position (λ n. not (good_name n.now)) ns ≡ None → NoneOf (Bad (bytes_of ns)) (length (bytes_of ns))
none_of_slices [] e k h b = omega (arith, h)
none_of_slices (n ∷ ns) e k h b =
    let all = n ∷ ns in
    let bad = λ (n : Bor (List ℕ)). not (good_name n.now) in
    let past : length all ≤ position_or_len bad all = grind (arith, common_steps) in
    let inside : k < length all = omega (arith, h, length_bytes_of all) in
    both_ways _ b (ap good_name (bytes_at all k n inside) ∙ not-false _ (fails_before_first bad all k n (omega (arith, past, inside))))
