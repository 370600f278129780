-- What a name is, and what a list of names says of labels.
use Rattle.std.specs.Prelude.{ℕ, zero, suc, Bool, cond, ◌&&◌, ◌||◌, List, [], ◌∷◌, length, Some, None, Option, ◌==◌, nat_le, slice_index}
use Rattle.std.specs.List.{slice_get, list_all}
use Rattle.std.specs.Str.{bytes_eq}
use Rattle.glossary.specs.Limits.{max_name}

-- a-z
abbrev pub letter : ℕ → Bool
letter b = nat_le 97 b && nat_le b 122

-- a-z, 0-9 and "-"
abbrev pub name_byte : ℕ → Bool
name_byte b = letter b || ((nat_le 48 b && nat_le b 57) || b == 45)

abbrev pub all_name_bytes : List ℕ → Bool
all_name_bytes bs = list_all name_byte bs

-- 1 to 16 name bytes, a letter first
abbrev pub good_name : List ℕ → Bool
good_name bs = (letter (slice_index bs 0) && nat_le (length bs) max_name) && all_name_bytes bs

-- the name of a label: labels count from 1
abbrev pub name_of : List (List ℕ) → ℕ → Option (List ℕ)
name_of names zero = None
name_of names (suc k) = slice_get names k

-- one more, where there is a label
abbrev pub next_label : Option ℕ → Option ℕ
next_label None = None
next_label (Some l) = Some (suc l)

-- the label of a name: the first, where it stands twice
abbrev pub label_of : List (List ℕ) → List ℕ → Option ℕ
label_of [] name = None
label_of (n ∷ ns) name = cond (bytes_eq n name) (Some 1) (next_label (label_of ns name))
