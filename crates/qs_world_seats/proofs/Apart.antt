-- Whether clients have numbers of their own hangs on the numbers alone; so does whether each lane is of one of them.
use Rattle.std.proofs.Common.{◌≡◌, ◌∙◌, ap, refl, subst, sym, ◌==◌, false, List, [], ◌∷◌, map}
use Rattle.std.specs.Prelude.{⊤}
use Rattle.qs_base.specs.declared.identifiers.ClientNo.{ClientNo}
use Rattle.qs_client.specs.declared.cell.ClientCell.{ClientCell}
use Rattle.qs_link.specs.declared.ends.NodeEnds.{NodeEnds}
use Rattle.qs_session_channels.specs.Network.{Among}
use Rattle.qs_world_merge.proofs.Members.{among_map, map_among}
use Rattle.qs_world_one.proofs.Numbers as one
use Rattle.qs_world_one.specs.Seats.{AreApart}
use Rattle.qs_world_one.specs.Seats as one_seats
use Rattle.qs_world_rounds.specs.Seats.{number_of}
use Rattle.qs_world_seats.specs.Seats.{HasCell}
use Rattle.qs_world_seats.specs.Visiting.{AreOfClients}

-- ---- clients

abbrev pub NumbersApart : List ClientNo → Type 0
NumbersApart [] = ⊤
NumbersApart (n ∷ ns) = ((m : ClientNo) → Among ns m → (m.0 == n.0) ≡ false) × NumbersApart ns

to_numbers : (clients : List ClientCell) → AreApart clients → NumbersApart (map number_of clients)
to_numbers [] apart = tt
to_numbers (c ∷ clients) apart = (far, to_numbers clients apart.1)
  where
    far : (m : ClientNo) → Among (map number_of clients) m → (m.0 == c.client.0) ≡ false
    far m there = let it = among_map number_of clients m there in ap (λ (k : ClientNo). k.0 == c.client.0) (sym it.2) ∙ apart.0 it.0 it.1

pub of_numbers : (clients : List ClientCell) → NumbersApart (map number_of clients) → AreApart clients
of_numbers [] apart = tt
of_numbers (c ∷ clients) apart = ((λ o there. apart.0 o.client (map_among number_of clients o o.client there refl)), of_numbers clients apart.1)

pub apart_as : (olds news : List ClientCell) → map number_of news ≡ map number_of olds → AreApart olds → AreApart news
apart_as olds news same apart = of_numbers news (subst NumbersApart (sym same) (to_numbers olds apart))

-- a client of the same number was there
pub number_in : (olds news : List ClientCell) → map number_of news ≡ map number_of olds → (c : ClientCell) → Among news c → HasCell c.client olds
number_in olds news same c there =
    let it = among_map number_of olds c.client (subst (λ (l : List ClientNo). Among l c.client) same (map_among number_of news c c.client there refl)) in
    record { cell = it.0; there = it.1; is = it.2 }

-- ---- lanes

pub lanes_as : (olds news : List NodeEnds) (befores afters : List ClientCell) → map (λ (e : NodeEnds). e.client) news ≡ map (λ (e : NodeEnds). e.client) olds → map number_of afters ≡ map number_of befores
    → AreOfClients olds befores → AreOfClients news afters
lanes_as olds news befores afters lanes clients all end there =
    let it : one_seats.HasCell end.client afters = one.of_clients_on olds news befores afters lanes clients as_one end there in
    record { cell = it.cell; there = it.there; is = it.is }
  where
    as_one : one_seats.AreOfClients olds befores
    as_one e at = let it : HasCell e.client befores = all e at in record { cell = it.cell; there = it.there; is = it.is }
