-- The clients of a cell.
use Rattle.std.specs.Prelude.{◌≡◌, ⊤, ◌==◌, false, List, [], ◌∷◌}
use Rattle.qs_base.specs.declared.identifiers.ClientNo.{ClientNo}
use Rattle.qs_client.specs.declared.cell.ClientCell.{ClientCell}
use Rattle.qs_link.specs.declared.ends.NodeEnds.{NodeEnds}
use Rattle.qs_session_channels.specs.Network.{Among}

-- one of them has this number
pub record HasCell (number : ClientNo) (clients : List ClientCell) : Type 0 where
  pub cell : ClientCell
  pub there : Among clients cell
  pub is : cell.client ≡ number

-- each lane of the node is of one of the clients
abbrev pub AreOfClients : List NodeEnds → List ClientCell → Type 0
AreOfClients ends clients = (end : NodeEnds) → Among ends end → HasCell end.client clients

-- no two clients have one number
abbrev pub AreApart : List ClientCell → Type 0
AreApart [] = ⊤
AreApart (client ∷ clients) = ((other : ClientCell) → Among clients other → (other.client.0 == client.client.0) ≡ false) × AreApart clients
