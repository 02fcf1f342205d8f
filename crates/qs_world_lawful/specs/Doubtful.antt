-- The votes of a log that stand in doubt, by transaction and server: the last of each counts.
use Rattle.std.specs.Prelude.{ℕ, Bool, true, false, ◌&&◌, List, [], fold, length, Option, Some, None, if◌then◌else◌}
use Rattle.qs_base.specs.declared.identifiers.Tid.{Tid}
use Rattle.qs_ops.specs.Table.{nothing_held}
use Rattle.qs_ops.specs.declared.share.Share.{Share}
use Rattle.qs_restart.specs.Recovery.{Prepared, is_in_doubt, is_vote_of}
use Rattle.qs_tm.specs.Members.{no_member}
use Rattle.qs_tm.specs.declared.members.Ballot.TheVariants as ballots
use Rattle.qs_tm.specs.declared.members.MemberPart.{MemberPart}

abbrev pub is_doubt_at : Tid → ℕ → Prepared → Bool
is_doubt_at tid s vote = is_in_doubt vote && is_vote_of tid (record { 0 = s }) vote

abbrev pub last_doubt : Tid → ℕ → Option Prepared → Prepared → Option Prepared
last_doubt tid s found vote = if is_doubt_at tid s vote then Some vote else found

abbrev pub doubt_at : List Prepared → Tid → ℕ → Option Prepared
doubt_at votes tid s = fold (last_doubt tid s) None votes

-- what a member is taken up as
abbrev pub member_as : Option Prepared → MemberPart
member_as None = no_member
member_as (Some vote) = record { served = vote.covers; fresh = true; vote = Some (record { ballot = ballots.Recoverable; covers = vote.covers }) }

-- and what a transaction holds at a server then
abbrev pub share_as : Option Prepared → Share
share_as None = nothing_held
share_as (Some vote) = record { changes = vote.changes; reads = []; operations = length vote.changes; voted = false }
