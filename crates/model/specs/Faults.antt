-- The number and the place of each fault of a session. Assumes nothing.
use Rattle.std.specs.Prelude.{ℕ}
use Rattle.refusal.specs.declared.Layer.TheVariants.{Session}
use Rattle.refusal.specs.declared.Refusal.{Refusal}
use Rattle.refusal.specs.Refusals.{refused_at}
use Rattle.model.specs.declared.fault.SessionFault.{SessionFault}
use Rattle.model.specs.declared.fault.SessionFault.TheVariants.{BankTooSmall, Started, NoParty, NoPlace, NotOpen, NotStarted, Ended, TapeTooShort}

abbrev pub session_number : SessionFault → ℕ
session_number BankTooSmall = 40
session_number Started = 41
session_number (NoParty party) = 42
session_number (NoPlace variable) = 43
session_number (NotOpen variable) = 44
session_number NotStarted = 45
session_number Ended = 46
session_number TapeTooShort = 47

abbrev pub session_place : SessionFault → ℕ
session_place BankTooSmall = 0
session_place Started = 0
session_place (NoParty party) = party
session_place (NoPlace variable) = variable
session_place (NotOpen variable) = variable
session_place NotStarted = 0
session_place Ended = 0
session_place TapeTooShort = 0

abbrev pub session_refusal_of : SessionFault → Refusal
session_refusal_of f = refused_at Session (session_number f) (session_place f)
