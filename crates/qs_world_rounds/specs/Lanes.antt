-- The lanes between the node and its clients are whole.
use Rattle.std.specs.Prelude.{◌≤◌, ⊤, List, [], ◌∷◌, length}
use Rattle.qs_client.specs.declared.cell.ClientCell.{ClientCell}
use Rattle.qs_link.specs.Lanes.{ends_of, SendsTo, SendsFrom}
use Rattle.qs_link.specs.declared.ends.NodeEnds.{NodeEnds}

-- both lanes between the node and a client are whole
pub record IsJoined (ends : List NodeEnds) (client : ClientCell) : Type 0 where
  pub commands : SendsTo client.commands (ends_of client.client ends)
  pub answers : SendsFrom (ends_of client.client ends) client.answers

-- and so are those of each
abbrev pub AllJoined : List NodeEnds → List ClientCell → Type 0
AllJoined ends [] = ⊤
AllJoined ends (client ∷ clients) = IsJoined ends client × AllJoined ends clients

-- there are no more clients than numbers
pub record AreJoined (ends : List NodeEnds) (clients : List ClientCell) : Type 0 where
  pub each : AllJoined ends clients
  pub few : length clients ≤ 256
