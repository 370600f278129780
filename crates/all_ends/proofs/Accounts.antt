-- Ends that come one after another.
use Rattle.std.proofs.Common.{◌≡◌, ◌+◌, ◌<◌, List, [], ◌∷◌, ◌++◌, map, length, Some, None, Option, sym, refl, ap, ◌∙◌, arith}
use Rattle.std.specs.Option.{option_map}
use Rattle.std.proofs.lemmas.List.{append-nil, append_assoc, map_push, length-append}
use Rattle.pattern.specs.declared.forward.Forward.{Forward}
use Rattle.all_ends.specs.Ends.{Shape, kept_of}
use Rattle.all_ends.specs.Reached.{forward_shape, shapes, Grown, max_ends}
use Rattle.all_ends.specs.declared.base.Ends.{Ends}

pub one_dropped : (xs : List Shape) (end : Option Forward) → end ≡ None → xs ≡ xs ++ kept_of (option_map forward_shape end ∷ [])
unfolding kept_of
one_dropped xs end e = sym (ap (λ o. xs ++ kept_of (option_map forward_shape o ∷ [])) e ∙ append-nil xs)

pub one_kept : (xs ys : List Forward) (f : Forward) (end : Option Forward) → end ≡ Some f → ys ≡ xs ++ f ∷ [] → map forward_shape ys ≡ map forward_shape xs ++ kept_of (option_map forward_shape end ∷ [])
unfolding kept_of
one_kept xs ys f end e h =
    ap (map forward_shape) h ∙ map_push forward_shape xs f ∙ sym (ap (λ o. map forward_shape xs ++ kept_of (option_map forward_shape o ∷ [])) e)

pub kept_append : (xs ys : List (Option Shape)) → kept_of (xs ++ ys) ≡ kept_of xs ++ kept_of ys
unfolding kept_of
kept_append [] ys = refl
kept_append (None ∷ xs) ys = kept_append xs ys
kept_append (Some s ∷ xs) ys = ap {B = List Shape} (λ l. s ∷ l) (kept_append xs ys)

pub grown_none : (a : Ends) → Grown a [] a
unfolding kept_of
grown_none a = record { number = omega arith; kept = sym (append-nil (shapes a)) }

pub grown_append : (a b c : Ends) (xs ys : List (Option Shape)) → Grown a xs b → Grown b ys c → Grown a (xs ++ ys) c
grown_append a b c xs ys g h = record {
  number = let l = length-append xs ys in let p = g.number in let q = h.number in omega arith;
  kept =
      h.kept ∙ ap (λ l. l ++ kept_of ys) g.kept ∙ append_assoc (shapes a) (kept_of xs) (kept_of ys)
      ∙ ap (λ l. shapes a ++ l) (sym (kept_append xs ys));
}

-- too many stay too many
pub many_first : (a : Ends) (xs ys : List (Option Shape)) → max_ends < a.number + length xs → max_ends < a.number + length (xs ++ ys)
many_first a xs ys h = let l = length-append xs ys in omega arith

pub many_then : (a b : Ends) (xs ys : List (Option Shape)) → Grown a xs b → max_ends < b.number + length ys → max_ends < a.number + length (xs ++ ys)
many_then a b xs ys g h = let l = length-append xs ys in let p = g.number in omega arith
