-- What a record is: the list of its places, front to back. A place goes by its number in the list.
use Rattle.std.specs.Prelude.{◌≡◌, ℕ, suc, ◌<◌, ◌≤◌, List, length, slice_index_or}
use Rattle.record.specs.Limits.{max_label, max_stamp, max_depth}
use Rattle.record.specs.declared.place.Place.{Place}

-- place 0, around all others
abbrev pub root : Place
root = record { label = 0; stamp = 0; depth = 0 }

abbrev pub place : List Place → ℕ → Place
place places i = slice_index_or places i root

abbrev pub depth_at : List Place → ℕ → ℕ
depth_at places i = (place places i).depth

-- what any place but the root is like
pub record Inner (x : Place) : Type 0 where
  pub some_label : 1 ≤ x.label
  pub label : x.label ≤ max_label
  pub stamp : x.stamp ≤ max_stamp
  pub nested : 1 ≤ x.depth
  pub depth : x.depth ≤ max_depth

-- a depth is at most one more than the depth before it
pub record Record (places : List Place) : Type 0 where
  pub some_place : 1 ≤ length places
  pub first : place places 0 ≡ root
  pub others : (i : ℕ) → suc i < length places → Inner (place places (suc i))
  pub steps : (i : ℕ) → suc i < length places → depth_at places (suc i) ≤ suc (depth_at places i)
