-- What a clause says of a number source and its seats.
use Rattle.std.specs.Prelude.{◌≡◌, ℕ, Bool, false, List, []}
use Rattle.atomic_table.specs.Seated.{TableId}
use Rattle.steal_crew.specs.declared.tickets.seats.Tickets.{Tickets}
use Rattle.steal_crew.specs.declared.tickets.seats.TicketSeat.{TicketSeat}
use Rattle.steal_crew.specs.declared.tickets.seats.AllDrawn.{AllDrawn}

-- a source: which one it is, what all its numbers are below, and how many seats it was made with
abbrev pub Source : Type 0
Source = TableId × ℕ × ℕ

-- which source it is
abbrev pub source_of : Tickets → Source
source_of t = (t.table.shared.table_id, t.limit, t.table.shared.key.1)

-- what all its numbers are below
abbrev pub limit_of : Tickets → ℕ
limit_of t = t.limit

-- how many seats it was made with
abbrev pub seats_of : Tickets → ℕ
seats_of t = t.table.shared.key.1

-- which source a seat is of
abbrev pub seat_source : TicketSeat → Source
seat_source s = (s.seat.table_id, s.seat.me.0.limit, s.seat.me.0.seats)

-- what was drawn by the seat, in order
abbrev pub drawn : TicketSeat → List ℕ
drawn s = s.seat.me.0.drawn

-- whether it found the limit
abbrev pub is_out : TicketSeat → Bool
is_out s = s.out

-- which source all was drawn from
abbrev pub source_drawn : AllDrawn → Source
source_drawn d = (d.seat.table_id, d.seat.me.0.limit, d.seat.me.0.seats)

-- all that was drawn from the source
abbrev pub all_drawn : AllDrawn → List ℕ
all_drawn d = d.seat.me.0.drawn

-- a seat of the source, by which nothing was drawn
pub record IsFresh (source : Source) (s : TicketSeat) : Type 0 where
  pub same : seat_source s ≡ source
  pub empty : drawn s ≡ []
  pub inside : is_out s ≡ false
