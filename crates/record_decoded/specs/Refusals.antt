-- The questions by the papers' numbers.
use Rattle.std.specs.Prelude.{ℕ}
use Rattle.record_decoded.specs.declared.question.Question.{Question}
use Rattle.record_decoded.specs.declared.question.Question.TheVariants.{Bytes, Processors, Lines, Attribute, Instructions, Kind, Size, Address, SpareData, Operations, Pairs, Pair, PairOrder, End, OrderLength, OrderEntries, BufferLength, SavedLength, SavedEntries, SavedPosition, TableLength, WholeEntries, EntryProcessors, RecordRoom, SemaphoreLine, LinesOfAccess}

abbrev pub question_number : Question → ℕ
question_number Bytes = 1
question_number Processors = 2
question_number Lines = 3
question_number Attribute = 4
question_number Instructions = 5
question_number Kind = 6
question_number Size = 7
question_number Address = 8
question_number SpareData = 9
question_number Operations = 11
question_number Pairs = 12
question_number Pair = 13
question_number PairOrder = 14
question_number End = 15
question_number OrderLength = 16
question_number OrderEntries = 17
question_number BufferLength = 18
question_number SavedLength = 19
question_number SavedEntries = 20
question_number SavedPosition = 21
question_number TableLength = 22
question_number WholeEntries = 23
question_number EntryProcessors = 24
question_number RecordRoom = 25
question_number SemaphoreLine = 26
question_number LinesOfAccess = 27
