-- What a person reads of a block and of a refusal.
use Rattle.std.specs.Prelude.{ℕ, zero, suc, cond, List, [], ◌∷◌, ◌++◌, length, codes, decimal, ◌==◌, slice_index_or}
use Rattle.refusal.specs.Texts.{reply_of, words_of}
use Rattle.refusal.specs.declared.refusing.Refusal.{Refusal}

-- a label, a space, its name and the end of the line
abbrev pub row : ℕ → List ℕ → List ℕ
row label name = decimal label ++ (codes " " ++ (name ++ (10 ∷ [])))

-- the rows of the first k names
abbrev pub rows : List (List ℕ) → ℕ → List ℕ
rows names zero = []
rows names (suc k) = rows names k ++ row (suc k) (slice_index_or names k [])

-- the rows of all names, and a last line with the size of the block
abbrev pub listing_of : List (List ℕ) → ℕ → List ℕ
listing_of names size = rows names (length names) ++ (decimal size ++ (codes " bytes" ++ (10 ∷ [])))

-- the cause of a refusal in words, and its reply line
abbrev pub reason_of : Refusal → List ℕ
reason_of r = words_of r.cause ++ (codes " (" ++ (reply_of r ++ codes ")"))

-- the same, behind the line that the refusal names, if it names one
abbrev pub complaint_of : Refusal → List ℕ
complaint_of r =
    cond (r.position == 0) (reason_of r) (codes "line " ++ (decimal r.position ++ (codes ": " ++ reason_of r)))
