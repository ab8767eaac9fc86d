-- The numbers of refusal of document 01's table, by name. 0 is an accepted call.
use Rattle.std.specs.Prelude.{ℕ, Result, Ok, Err}
use Rattle.units.specs.declared.refusal.Refusal.{Refusal}
use Rattle.units.specs.declared.refusal.Refusal.TheVariants as Reason

-- open: a setting outside its limits, or e above E
abbrev pub settings : ℕ
settings = 1

-- a lent buffer too short for the settings
abbrev pub short : ℕ
short = 2

-- the recorder's state, or the desk's held buffer, breaks its rules
abbrev pub state : ℕ
state = 3

-- a page number not below e
abbrev pub page : ℕ
page = 4

-- a kind that is neither metadata nor raw
abbrev pub kind : ℕ
kind = 5

-- a span that is empty or leaves its page
abbrev pub span : ℕ
span = 6

-- a metadata write or a grow that needs a slot, with none empty or clean
abbrev pub no_slot : ℕ
no_slot = 7

-- grow with e at E
abbrev pub no_page : ℕ
no_page = 8

-- close at the largest tick
abbrev pub last_tick : ℕ
last_tick = 9

-- close: too few reusable places, or too many entries after it
abbrev pub no_place : ℕ
no_place = 10

-- not a side file of this version
abbrev pub foreign : ℕ
foreign = 11

-- a damaged side file, or one of other settings than those held
abbrev pub damaged : ℕ
damaged = 12

-- the desk is behind its lag, or ahead of the side file
abbrev pub lag : ℕ
lag = 13

-- an image whose checksum is wrong
abbrev pub image : ℕ
image = 14

-- the number of a refusal, and of what a call answers
abbrev pub code : Refusal → ℕ
code Reason.Settings = settings
code Reason.Short = short
code Reason.State = state
code Reason.Page = page
code Reason.Kind = kind
code Reason.Span = span
code Reason.NoSlot = no_slot
code Reason.NoPage = no_page
code Reason.LastTick = last_tick
code Reason.NoPlace = no_place
code Reason.Foreign = foreign
code Reason.Damaged = damaged
code Reason.Lag = lag
code Reason.Image = image

abbrev pub number : {A : Type 0} → Result A Refusal → ℕ
number (Ok _) = 0
number (Err r) = code r
