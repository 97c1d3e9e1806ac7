-- What documents 01 and 02 say of each refusal: its number, what it carries, and its printed group.
use Rattle.std.specs.Prelude.{ℕ, cond, leb, eqb}
use Rattle.refusal.specs.declared.Reason.{Reason}
use Rattle.refusal.specs.declared.Reason.TheVariants.{Opening, Ends, Groups, Edition, Kinds, Goal, Shift, Start, Gap, Pupils, Places, Jobs, JobKind, LeftOver, Buffer, Table, NoOrder, Job, Uncovered, SecondStart}
use Rattle.refusal.specs.declared.Group.{Group}
use Rattle.refusal.specs.declared.Group.TheVariants.{Message, Contents, Room, Order as InOrder, Unprinted}

-- 01's table of checks, column "No.", and 02's numbers from 19 on
abbrev pub reason_number : Reason → ℕ
reason_number Opening = 1
reason_number Ends = 2
reason_number Groups = 3
reason_number Edition = 4
reason_number Kinds = 5
reason_number Goal = 6
reason_number Shift = 7
reason_number Start = 8
reason_number Gap = 9
reason_number Pupils = 10
reason_number Places = 11
reason_number Jobs = 12
reason_number JobKind = 13
reason_number LeftOver = 14
reason_number Buffer = 15
reason_number (Table n) = 16
reason_number NoOrder = 17
reason_number Job = 18
reason_number Uncovered = 19
reason_number SecondStart = 20

-- the needed entries that the reason for 16 holds, else 0
abbrev pub needed : Reason → ℕ
needed Opening = 0
needed Ends = 0
needed Groups = 0
needed Edition = 0
needed Kinds = 0
needed Goal = 0
needed Shift = 0
needed Start = 0
needed Gap = 0
needed Pupils = 0
needed Places = 0
needed Jobs = 0
needed JobKind = 0
needed LeftOver = 0
needed Buffer = 0
needed (Table n) = n
needed NoOrder = 0
needed Job = 0
needed Uncovered = 0
needed SecondStart = 0

-- G: `message` for 1 to 4 and 14, `contents` for 5 to 13, `room` for 15 and 16, `order` for 17
abbrev pub reason_group : Reason → Group
reason_group Opening = Message
reason_group Ends = Message
reason_group Groups = Message
reason_group Edition = Message
reason_group Kinds = Contents
reason_group Goal = Contents
reason_group Shift = Contents
reason_group Start = Contents
reason_group Gap = Contents
reason_group Pupils = Contents
reason_group Places = Contents
reason_group Jobs = Contents
reason_group JobKind = Contents
reason_group LeftOver = Message
reason_group Buffer = Room
reason_group (Table n) = Room
reason_group NoOrder = InOrder
reason_group Job = Unprinted
reason_group Uncovered = Unprinted
reason_group SecondStart = Unprinted

-- the same by number
unfoldable pub number_group : ℕ → Group
number_group r =
    cond (eqb r 0) Unprinted
    (cond (leb r 4) Message
    (cond (leb r 13) Contents
    (cond (leb r 14) Message
    (cond (leb r 16) Room
    (cond (leb r 17) InOrder
    Unprinted)))))
