-- What goes on along a run: as it begins, through each step and through what happens between steps; and what it gives a step.
use Rattle.qs_world_runs.proofs.Words.{◌≡◌, ◌++◌, ℕ, Some, slice_get, Record, Recovery, recovery, effects_of, Event, Source, Opening, World, Every, every_two, step_may, AlongRun, EachIssueWaits, MakesStep, Joined, book_in, IsBetweenSteps, WholeSteps, entries_in, PlacesAt}
use Rattle.qs_book_machine.specs.Lawful.{IsLawful}
use Rattle.qs_book_machine.specs.Nodes as machine
use Rattle.qs_record.specs.declared.record.Record.TheVariants as made
use Rattle.qs_node_step.specs.State.{NodeValue}
use Rattle.qs_world_runs.specs.Awaiting.{EachReplyTrue}
use Rattle.qs_world_runs.specs.CoversAhead.{IsBeyondVote}
use Rattle.qs_world_runs.specs.CutBatches.{IsVoteOfStart}
use Rattle.qs_world_runs.specs.JoinedLaws.{IsStep, Keeps, Opens}
use Rattle.qs_world_runs.specs.OnRecord.{IsFreshVote}
use Rattle.qs_world_runs.specs.PlacesLaws.{PlacesGoOn}
use Rattle.qs_world_runs.specs.VotesSame.{IsVoteSame}
use Rattle.qs_world_runs.proofs.CommitsFind.{commits_find}
use Rattle.qs_world_runs.proofs.CoversMoves.{moves_keep_covers, opens_covers, votes_are_beyond}
use Rattle.qs_world_runs.proofs.FreshAwaited.{fresh_awaited}
use Rattle.qs_world_runs.proofs.IssuedSteps.{each_issue_waits}
use Rattle.qs_world_runs.proofs.JoinedAs.{along_awaited, along_placed, placed}
use Rattle.qs_world_runs.proofs.JoinedSteps.{step_lawful}
use Rattle.qs_world_runs.proofs.OnRecordMoves.{moves_keep_records, opens_records, votes_are_fresh}
use Rattle.qs_world_runs.proofs.OwnAwaited.{own_awaited}
use Rattle.qs_world_runs.proofs.PlacesBegin.{opens_places}
use Rattle.qs_world_runs.proofs.PlacesKept.{keeps_places}
use Rattle.qs_world_runs.proofs.RepliesMoves.{opens_replies}
use Rattle.qs_world_runs.proofs.RepliesRuns.{moves_keep_replies}
use Rattle.qs_world_runs.proofs.RepliesTrue.{replies_true}
use Rattle.qs_world_runs.proofs.SameVotes.{each_vote_same}
use Rattle.qs_world_runs.proofs.StepUnanimous.{steps_stay_unanimous}
use Rattle.qs_world_runs.proofs.StepsAwaited.{steps_keep_awaited}
use Rattle.qs_world_runs.proofs.TalliedMoves.{moves_counted, opens_counted}

along_places : (o : Opening) (world : World) → AlongRun o world → PlacesAt o world
along_places o world along = placed o world along.awaited

opens_along : Opens AlongRun
opens_along o opens = record { awaited = opens_places o opens; replies = opens_replies o opens; records = opens_records o opens; covers = opens_covers o opens; counted = opens_counted o opens }

between_along : Keeps AlongRun IsBetweenSteps AlongRun
between_along o world move kind j may lawful = record {
  awaited = keeps_places o world move kind (along_awaited o world j) may lawful;
  replies = moves_keep_replies o world move (along_placed o world j) j.places.replies may lawful;
  records = moves_keep_records AlongRun o world move j j.places.records may lawful;
  covers = moves_keep_covers AlongRun o world move j j.places.covers may lawful;
  counted = moves_counted AlongRun o world move j j.places.counted may;
}

replies_along : EachReplyTrue AlongRun
replies_along o world n stamp source peer tid member number reply tx j makes found undecided its =
    replies_true o world n stamp source peer tid member number reply tx (along_placed o world j) j.places.replies (step_may world n stamp source makes.may).low makes found its

issues_along : EachIssueWaits AlongRun
issues_along = each_issue_waits AlongRun

steps_along : Keeps AlongRun IsStep AlongRun
steps_along o world move kind j may lawful = record {
  awaited = steps_keep_awaited AlongRun (λ o world along. along.awaited) (own_awaited AlongRun along_places replies_along (fresh_awaited AlongRun along_places issues_along)) o world move kind j may lawful;
  replies = moves_keep_replies o world move (along_placed o world j) j.places.replies may lawful;
  records = moves_keep_records AlongRun o world move j j.places.records may lawful;
  covers = moves_keep_covers AlongRun o world move j j.places.covers may lawful;
  counted = moves_counted AlongRun o world move j j.places.counted may;
}

whole_along : WholeSteps AlongRun
whole_along = record {
  commits = λ o world n stamp free source event j makes. commits_find o world n stamp free source event (along_placed o world j) makes;
  places = steps_along;
}

-- ---- the votes of a step

module _ (o : Opening) (world : World) (n stamp free : ℕ) (source : Source) (event : Event) (j : Joined AlongRun o world) (makes : MakesStep world n stamp source event) (state : machine.NodeValue) (there : slice_get (book_in o world).nodes n ≡ Some state) where
  abbrev log : Recovery
  log = recovery ((world.hosts n).log ++ (world.hosts n).waiting)

  abbrev node : NodeValue
  node = (world.hosts n).node

  lawful : IsLawful (book_in o world) (entries_in world n stamp free event)
  lawful = step_lawful AlongRun whole_along o world j n stamp free source event makes

  votes_more : Every (IsBeyondVote state log) (effects_of node event free).records
  votes_more = votes_are_beyond AlongRun o world n stamp free source event j j.places.covers makes lawful state there

  votes_fresh : Every (IsFreshVote (book_in o world) state log) (effects_of node event free).records
  votes_fresh = votes_are_fresh AlongRun o world n stamp free source event j j.places.records makes lawful state there

  of_start : (rec : Record) → IsVoteSame node rec → IsBeyondVote state log rec × IsFreshVote (book_in o world) state log rec → IsVoteOfStart node (book_in o world) state log rec
  of_start (made.Prepare tid server covers changes) same other = record { same = same; beyond = other.0; fresh = other.1 }
  of_start (made.Commit tid told) same other = tt
  of_start (made.Aborted tid) same other = tt
  of_start (made.End tid) same other = tt

  votes_of_start : Every (IsVoteOfStart node (book_in o world) state log) (effects_of node event free).records
  votes_of_start = every_two (IsVoteSame node) (λ (rec : Record). IsBeyondVote state log rec × IsFreshVote (book_in o world) state log rec) (IsVoteOfStart node (book_in o world) state log) of_start (effects_of node event free).records
      (each_vote_same AlongRun o world n stamp free source event j makes)
      (every_two (IsBeyondVote state log) (IsFreshVote (book_in o world) state log) (λ (rec : Record). IsBeyondVote state log rec × IsFreshVote (book_in o world) state log rec) (λ rec more fresh. (more, fresh)) (effects_of node event free).records votes_more votes_fresh)

pub runs_go : PlacesGoOn
runs_go = record {
  opens = opens_along;
  between = between_along;
  unanimous = λ o world n stamp free source event j makes lawful. steps_stay_unanimous o world n stamp free source event (along_placed o world j) makes lawful;
  steps = whole_along;
  votes = votes_of_start;
}
