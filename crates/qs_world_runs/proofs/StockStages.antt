-- What all things that a rule does to servers and records, and notes, keep, a whole step keeps: the table of its deeds.
use Rattle.qs_world_runs.proofs.Words.{Bool, Delivery, Doings, Event, Reply, ServerNo, ServerValue, Tid, Vote, Work, after_serving, after_vote, ap, change_server, enter_vote, false, if◌then◌else◌, is_client, is_empty, is_logged, is_put_off, notice_of, or-true, refl, served_count, server_at, step_work, true, vote_frame, with_doings, with_server, work_on, ℕ, ◌∙◌, ◌≡◌}
use Rattle.qs_node_step.specs.State.{NodeValue}
use Rattle.qs_world_walk.proofs.IsDeeds.{each_turn}
use Rattle.qs_world_walk.proofs.PassDoings.{prepared_off}
use Rattle.qs_world_walk.specs.May.{MayVote}
use Rattle.qs_world_walk.specs.Walked.{Table}
use Rattle.qs_world_refine.proofs.ServerKinds.{vote_kind}
use Rattle.qs_world_runs.proofs.NoVotes.{no_vote}
use Rattle.qs_world_runs.proofs.VotesKeep.{changed_server, vote_has_changes, vote_is_logged, vote_keeps_changes}
use Rattle.qs_world_runs.specs.Stocks.{IsKeptStock, MayPrepare, Stock, stock_of}
use Rattle.qs_ops.specs.declared.vote.Notice.TheVariants as notices
use Rattle.qs_ops.specs.declared.vote.Vote.TheVariants as votes
use Rattle.qs_record.specs.declared.record.Record.TheVariants as records
use Rattle.qs_world_walk.specs.Deed as d

-- what was served is noted
served_off : (doings : Doings) → is_put_off doings ≡ true → is_put_off (record doings { served = true }) ≡ true
served_off doings off = or-true doings.asked

module _ (P : Stock → Type 0) (k : IsKeptStock P) where
  voted : (tid : Tid) (server : ServerNo) (ballot : Vote) (w : Work) → P (stock_of w) → P (stock_of (enter_vote tid server ballot w))
  voted tid server ballot w h = k.notes (stock_of (change_server server (λ value. after_vote value tid ballot) w)) tid (λ doings. record doings { voted = true }) (λ doings off. off) (k.votes (stock_of w) server tid ballot h)

  abbrev prepared : Tid → ServerNo → Work → Work
  prepared tid server w = with_doings tid (λ doings. record doings { prepared = true }) (enter_vote tid server votes.Recoverable w)

  may : (tid : Tid) (server : ServerNo) (w : Work) → MayVote tid server votes.Recoverable w → MayPrepare (stock_of (prepared tid server w)) tid server
  may tid server w v = record {
    due = prepared_off tid w server v.due;
    logged = ap (λ (value : ServerValue). is_logged value.kind) (changed_server server (λ value. after_vote value tid votes.Recoverable) w.node.servers)
        ∙ (ap is_logged (vote_kind (server_at w.node.servers server) tid votes.Recoverable) ∙ vote_is_logged (server_at w.node.servers server) tid w.room (vote_frame w) v.is);
    has = ap is_empty (vote_keeps_changes server tid w.node.servers) ∙ vote_has_changes (server_at w.node.servers server) tid w.room (vote_frame w) v.is;
  }

  served : (server : ServerNo) (delivery : Delivery) (reply : Reply) (w : Work) → P (stock_of w) → P (stock_of (d.served server delivery reply w))
  served server delivery reply w h = by (is_client server)
    where
      by : (b : Bool) → P (record {
        servers = if b then w.node.servers else with_server server (λ value. after_serving value delivery.tid delivery.op reply) w.node.servers;
        records = w.out.records;
        doings = (with_doings delivery.tid (λ doings. record doings { served = true }) w).doings;
      })
      by true = k.notes (stock_of w) delivery.tid (λ doings. record doings { served = true }) served_off h
      by false = k.serves (stock_of w) server delivery.tid delivery.op reply h

  stock_table : (event : Event) → Table event (λ stage w. P (stock_of w))
  stock_table event d.Ticks when w m h = k.ticks (stock_of w) h
  stock_table event (d.Logs tid rec) when w m h = k.logs (stock_of w) rec (no_vote tid rec w m) h
  stock_table event (d.EndsCommit tid peer) when w m h = k.logs (stock_of w) (records.End tid) tt h
  stock_table event (d.Ends tid server) when w m h = k.notices (stock_of w) server tid notices.Ending h
  stock_table event (d.Learns tid outcome server) when w m h = k.notices (stock_of w) server tid (notice_of outcome) h
  stock_table event (d.Asks line tid) when w m h = k.notes (stock_of w) tid (λ doings. record doings { asked = true }) (λ doings off. refl) h
  stock_table event (d.Yields client command tid loan) when w m h = k.notes (stock_of w) tid (λ doings. record doings { yielded = true }) (λ doings off. off) h
  stock_table event (d.Serves server delivery reply) when w m h = served server delivery reply w h
  stock_table event (d.ServesAway server delivery reply) when w m h = served server delivery reply w h
  stock_table event (d.Votes tid server ballot) when w m h = voted tid server ballot w h
  stock_table event (d.Prepares tid server) when w m h = k.prepares (stock_of (prepared tid server w)) tid server (served_count tid server (prepared tid server w)) (may tid server w m)
      (k.notes (stock_of (enter_vote tid server votes.Recoverable w)) tid (λ doings. record doings { prepared = true }) (λ doings off. off) (voted tid server votes.Recoverable w h))
  stock_table event deed when w m h = h

  pub step_stocked : (node : NodeValue) (event : Event) (free : ℕ) → P (stock_of (work_on node free)) → P (stock_of (step_work node event free))
  step_stocked node event free h = (each_turn (λ stage w. P (stock_of w)) node event free (stock_table event) h).all
