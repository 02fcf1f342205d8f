-- Which sessions put only packets that have a spelling.
use Rattle.std.specs.Prelude.{◌≡◌, ◌+◌, ◌<◌, ◌^◌, true, length}
use Rattle.std.specs.List.{All}
use Rattle.qs_node_spelled.specs.Spelled.{IsSendable}
use Rattle.qs_record.specs.Grammar.{is_node}
use Rattle.qs_session.specs.Seen.{SessionValue}

-- all that goes into the session's packets has a spelling
pub record IsSpelled (s : SessionValue) : Type 0 where
  pub me : is_node s.me.0 ≡ true
  pub peer : is_node s.peer.0 ≡ true
  pub mine : s.end.mine < 2 ^ 62
  pub known : s.end.known < 2 ^ 62
  pub taken : s.end.taken < 2 ^ 62
  pub numbers : s.end.acked + length s.end.kept < 2 ^ 62
  pub kept : All IsSendable s.end.kept
