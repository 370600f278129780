-- The axes compute.
use Rattle.std.proofs.Common.{refl}
use Rattle.record.specs.Axes.{last_before, parent_of, is_place, child, under, descendant, same_place, following_sibling, some_below, next, or_self, following, leads, reaches, holds}
use Rattle.record.specs.Example.{AxisExamples}

pub axis_examples : AxisExamples
unfolding last_before parent_of is_place child under descendant same_place following_sibling some_below next or_self following leads reaches holds
axis_examples = record {
  child = refl;
  descendant = refl;
  next = refl;
  following_sibling = refl;
  following = refl;
  parent = refl;
  ancestor = refl;
  previous = refl;
  preceding_sibling = refl;
  preceding = refl;
  self = refl;
  descendant_or_self = refl;
  ancestor_or_self = refl;
  no_next = refl;
  no_parent = refl;
}
