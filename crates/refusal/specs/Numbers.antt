-- The number of each cause: what every contract that speaks of a refusal's number cites.
use Rattle.std.specs.Prelude.{ℕ}
use Rattle.refusal.specs.declared.cause.Cause.{Cause}
use Rattle.refusal.specs.declared.cause.Cause.TheVariants.{BlockSize, BlockEnd, NameForm, NameTwice, TextLength, TextForm, UnknownAxis, UnknownName, TooManyRows, TooManyPaths, TooManyEnds, TooManyQuestions, BadLabel, BadStamp, TooDeep, StoreFull, RootOpen, BadPlace, UnknownQuestion, UnknownPlace, TooFewSlots, UnknownAlternative, UnnamedLabel, BufferTooShort, LineForm, NoMemory}

-- 11-14 the glossary block, 21-26 a question's text, 31 its ends, 41 the question table,
-- 51-57 the record, 61-66 what a call on a question names, 71 a console line, 91 memory
abbrev pub number_of : Cause → ℕ
number_of BlockSize = 11
number_of BlockEnd = 12
number_of NameForm = 13
number_of NameTwice = 14
number_of TextLength = 21
number_of TextForm = 22
number_of UnknownAxis = 23
number_of UnknownName = 24
number_of TooManyRows = 25
number_of TooManyPaths = 26
number_of TooManyEnds = 31
number_of TooManyQuestions = 41
number_of BadLabel = 51
number_of BadStamp = 52
number_of TooDeep = 53
number_of StoreFull = 54
number_of RootOpen = 55
number_of BadPlace = 57
number_of UnknownQuestion = 61
number_of UnknownPlace = 62
number_of TooFewSlots = 63
number_of UnknownAlternative = 64
number_of UnnamedLabel = 65
number_of BufferTooShort = 66
number_of LineForm = 71
number_of NoMemory = 91
