-- The turn of a client that has a seat.
use Rattle.std.proofs.Common.{◌≡◌, ◌+◌, subst, ℕ, List, [], ◌∷◌, ◌++◌, length, Option, Some}
use Rattle.qs_base.specs.declared.identifiers.ClientNo.{ClientNo}
use Rattle.qs_book_script.specs.declared.script.Seat.{Seat}
use Rattle.qs_world_rounds.specs.Seats.{seated_below}
use Rattle.qs_world_sites.specs.Seats.{turn_at}
use Rattle.qs_world_sites.specs.declared.turn.Turn.{Turn}

pub turn_more : (client : ClientNo) (seats : List Seat) (found : Option Seat) (seat : Seat) (site count : ℕ) (old new : List Turn) → Some seat ≡ found → site ≡ seat.node.0
    → count ≡ length (seated_below seat.node seats client.0) → new ≡ old ++ record { site = site; place = count + 1 } ∷ [] → new ≡ old ++ turn_at client found seats
turn_more client seats found seat site count old new is site_is count_is new_is = subst (λ (f : Option Seat). new ≡ old ++ turn_at client f seats) is (cc (site_is, count_is, new_is))
