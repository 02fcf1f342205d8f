-- Within an act: the rings of one link to this node or from it.
use Rattle.std.specs.Prelude.{◌≡◌, ◌≢◌, ◌==◌, ℕ, true, not, []}
use Rattle.qs_link.specs.Lane.{Drawn}
use Rattle.qs_link.specs.Plan.{PutNone}
use Rattle.rtrb.specs.Ring.{known_free, known_items}
use Rattle.qs_cell_peers.specs.Links.{IsSameNode, LinksValue, SameInto, SameOut, into_of, is_peer_of, out_of}

-- packets were popped from the ring of the link from node m, if there is one, and stand behind those in its inbox
pub record PullsFrom (m : ℕ) (old new : LinksValue) : Type 0 where
  pub same : IsSameNode old new
  pub out : SameOut (λ k. true) old new
  pub others : SameInto (λ k. not (k == m)) old new
  pub into : is_peer_of old m ≡ true → Drawn [] (into_of old m) (into_of new m)

abbrev pub IsEmptiedFrom : ℕ → LinksValue → Type 0
IsEmptiedFrom m links = is_peer_of links m ≡ true → known_items (into_of links m).ring ≡ []

-- packets went on from the outbox of the link to node m, if there is one, into its ring, while it took them
pub record PushesTo (m : ℕ) (old new : LinksValue) : Type 0 where
  pub same : IsSameNode old new
  pub others : SameOut (λ k. not (k == m)) old new
  pub out : is_peer_of old m ≡ true → PutNone (out_of old m) (out_of new m)
  pub full : is_peer_of old m ≡ true → (out_of new m).feed.outbox ≢ [] → known_free (out_of new m).feed.ring ≡ 0
  pub into : SameInto (λ k. true) old new
