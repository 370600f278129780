-- What is shown of a refusal and of a cause.
use Rattle.std.specs.Prelude.{ℕ, List, ◌++◌, codes, decimal}
use Rattle.refusal.specs.declared.cause.Cause.{Cause}
use Rattle.refusal.specs.declared.cause.Cause.TheVariants.{BlockSize, BlockEnd, NameForm, NameTwice, TextLength, TextForm, UnknownAxis, UnknownName, TooManyRows, TooManyPaths, TooManyEnds, TooManyQuestions, BadLabel, BadStamp, TooDeep, StoreFull, RootOpen, BadPlace, UnknownQuestion, UnknownPlace, TooFewSlots, UnknownAlternative, UnnamedLabel, BufferTooShort, LineForm, NoMemory}
use Rattle.refusal.specs.declared.refusing.Refusal.{Refusal}
use Rattle.refusal.specs.Numbers.{number_of}

-- the reply line of a refusal: "no", its number and its position, with single spaces
abbrev pub reply_of : Refusal → List ℕ
reply_of r = codes "no " ++ (decimal (number_of r.cause) ++ (codes " " ++ decimal r.position))

-- the cause in words
abbrev pub words_of : Cause → List ℕ
words_of BlockSize = codes "the block is empty or too long, or its count of names is out of range"
words_of BlockEnd = codes "a name runs past the end of the block, or bytes follow the last name"
words_of NameForm = codes "a name has 1 to 16 bytes of a-z, 0-9 and -, a letter first"
words_of NameTwice = codes "the name stands earlier in the list"
words_of TextLength = codes "a question has 1 to 1024 bytes"
words_of TextForm = codes "the text cannot go on here"
words_of UnknownAxis = codes "no axis has this word"
words_of UnknownName = codes "the glossary does not list this name"
words_of TooManyRows = codes "a path has at most 15 rows below its root"
words_of TooManyPaths = codes "a question has at most four paths"
words_of TooManyEnds = codes "the question has more than 64 ends"
words_of TooManyQuestions = codes "eight questions are enrolled"
words_of BadLabel = codes "the label is out of range"
words_of BadStamp = codes "the stamp is below the last place's or out of range"
words_of TooDeep = codes "the open place is as deep as a place may be"
words_of StoreFull = codes "the store is full"
words_of RootOpen = codes "only the root is open"
words_of BadPlace = codes "a label, stamp or depth that no next place may have"
words_of UnknownQuestion = codes "no question has this number"
words_of UnknownPlace = codes "no place has this number"
words_of TooFewSlots = codes "too few working slots"
words_of UnknownAlternative = codes "no alternative has this number"
words_of UnnamedLabel = codes "the glossary has no name for a label"
words_of BufferTooShort = codes "the buffer is too short"
words_of LineForm = codes "no command has this form"
words_of NoMemory = codes "no memory is left"
