-- The number and the place of each refusal. Every promise that speaks of a refusal means these.
--   number_of q   the number of the refusal q, 1 to 23
--   place_of q    where it was met: the place that the case holds, and 0 where it holds none
--   told q        how the refusal q is told: the word no, its number and its place, in decimal, one space between
use Rattle.std.specs.Prelude.{ℕ, List, ◌++◌, codes}
use Rattle.std.specs.Fmt.{decimal}
use Rattle.refusals.specs.declared.Refusal.{Refusal}
use Rattle.refusals.specs.declared.Refusal.TheVariants.{TableSize, WrongForm, WrongVariable, WrongOperand, NoSuchSide, BadSize, FewSlots, ShortMemory, Closed, ShortOutput, LedgerFull, Contradiction, MarksFull, NoMark, NothingToShow, NoToken, NotAllowed, TooDeep, WrongLength, DeniedLiteral, WordsFull, KindChoice, LineTooLong}

abbrev pub number_of : Refusal → ℕ
number_of TableSize = 1
number_of (WrongForm place) = 2
number_of (WrongVariable place) = 3
number_of (WrongOperand place) = 4
number_of (NoSuchSide place) = 5
number_of BadSize = 6
number_of FewSlots = 7
number_of (ShortMemory place) = 8
number_of Closed = 9
number_of ShortOutput = 10
number_of LedgerFull = 11
number_of Contradiction = 12
number_of MarksFull = 13
number_of NoMark = 14
number_of NothingToShow = 15
number_of (NoToken place) = 16
number_of (NotAllowed place) = 17
number_of (TooDeep place) = 18
number_of (WrongLength place) = 19
number_of (DeniedLiteral place) = 20
number_of (WordsFull place) = 21
number_of KindChoice = 22
number_of (LineTooLong place) = 23

abbrev pub place_of : Refusal → ℕ
place_of TableSize = 0
place_of (WrongForm place) = place
place_of (WrongVariable place) = place
place_of (WrongOperand place) = place
place_of (NoSuchSide place) = place
place_of BadSize = 0
place_of FewSlots = 0
place_of (ShortMemory place) = place
place_of Closed = 0
place_of ShortOutput = 0
place_of LedgerFull = 0
place_of Contradiction = 0
place_of MarksFull = 0
place_of NoMark = 0
place_of NothingToShow = 0
place_of (NoToken place) = place
place_of (NotAllowed place) = place
place_of (TooDeep place) = place
place_of (WrongLength place) = place
place_of (DeniedLiteral place) = place
place_of (WordsFull place) = place
place_of KindChoice = 0
place_of (LineTooLong place) = place

abbrev pub told : Refusal → List ℕ
told q = codes "no " ++ (decimal (number_of q) ++ (codes " " ++ decimal (place_of q)))
