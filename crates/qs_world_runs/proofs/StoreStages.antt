-- What all things that a rule does to servers, records and what is kept of transactions keep, each stage of a step keeps: the table of its deeds. Commit is asked for
-- as a client's command says, under its label, or as another node asks.
use Rattle.qs_world_runs.proofs.Words.{Bool, Delivery, Event, KeptLabel, List, NodeNo, None, Option, Participant, Reply, ScriptLine, ServerNo, Some, Tid, Vote, Work, [], after_serving, after_vote, answer_waiting, begin_incarnation, change_server, class_here, enter_vote, false, find, happen, if◌then◌else◌, is_client, is_told_class, last_number, member_here, member_of, not, notice_of, refl, reply_here, reply_of}
use Rattle.qs_world_runs.proofs.Words.{served_count, server_at, settle, settle_tid, subst, true, with_server, ◌+◌, ◌==◌, ◌||◌, ◌∷◌, ◌≡◌}
use Rattle.qs_ipc.specs.Queue.{is_for}
use Rattle.qs_node_kept.specs.Keeping.{has_label}
use Rattle.qs_world_walk.proofs.IsDeeds.{over}
use Rattle.qs_world_walk.proofs.Wholes.{whole_of}
use Rattle.qs_world_walk.specs.May.{May, command_of}
use Rattle.qs_world_walk.specs.Stage.{Stage, after}
use Rattle.qs_world_walk.specs.Walked.{Table, TableOver}
use Rattle.qs_world_walk.specs.Whole.{Whole}
use Rattle.qs_world_walk.specs.Walked.{AtEach}
use Rattle.qs_world_runs.proofs.NoVotes.{no_vote}
use Rattle.qs_world_runs.specs.Stores.{IsKeptStore, MayAsk, Store, managed, store_of}
use Rattle.qs_ops.specs.declared.reply.Reply.TheVariants as replies
use Rattle.qs_ops.specs.declared.vote.Notice.TheVariants as notices
use Rattle.qs_ops.specs.declared.vote.Vote.TheVariants as votes
use Rattle.qs_record.specs.declared.record.Record.TheVariants as records
use Rattle.qs_book_journal.specs.declared.script_line.Command.TheVariants as commands
use Rattle.qs_tm.specs.Manager as tm
use Rattle.qs_tm.specs.Outcomes as outcome_rules
use Rattle.qs_tm.specs.Participant as participant
use Rattle.qs_packet.specs.declared.message.Message.TheVariants as messages
use Rattle.qs_node_step.specs.declared.event.Event.TheVariants as events
use Rattle.qs_world_walk.proofs.First as firsts
use Rattle.qs_world_walk.proofs.Stages as stages
use Rattle.qs_world_walk.specs.Deed as d

pub served_unasked : (server : ServerNo) (part : Participant) → (participant.served server part).asked ≡ part.asked
served_unasked server part = by ((member_of part server).served == last_number)
  where
    by : (b : Bool) → (if b then part else record (participant.with_member server (record (member_of part server) { served = (member_of part server).served + 1; fresh = true }) part) {
      involved = part.involved || is_told_class (class_here server);
    }).asked ≡ part.asked
    by true = refl
    by false = refl

own_reply : (a b : Bool) (o : Option Reply) (reply : Reply) → b ≡ false → (if a then None else if b then Some replies.Done else o) ≡ Some reply → o ≡ Some reply
own_reply true b o reply own is = absurd (cc is)
own_reply false true o reply own is = absurd (cc own)
own_reply false false o reply own is = is

own_op : (a b : Bool) (o : Option Reply) (reply : Reply) → (if not a then None else if b then Some replies.Done else o) ≡ Some reply → a ≡ true
own_op true b o reply is = refl
own_op false b o reply is = absurd (cc is)

-- while a command to commit is done, the node has the labels that it had as that came
abbrev IsNamed : Event → Work → Stage → Work → Type 0
IsNamed event came stage w = (line : ScriptLine) → event ≡ command_of line → line.command ≡ commands.Commit → w.node.kept.now.labels ≡ came.node.kept.now.labels

named_table : (event : Event) (came : Work) → Table event (IsNamed event came)
named_table event came (d.Labels label tid) when w (new, (peer, (member, (number, (op, r))))) h = λ line is commit. absurd (cc (r.is, is))
named_table event came (d.Begins begun) when w (there, (of, (begins, none))) h = λ line is commit. absurd (cc (of, is, begins, commit))
named_table event came (d.Refuses begun need room) when w (there, (of, (begins, full))) h = λ line is commit. absurd (cc (of, is, begins, commit))
named_table event came deed when w m h = h

module _ (A : Tid → Type 0) (P : Store → Type 0) (k : IsKeptStore A P) where
  abbrev pub Keeps : Work → Work → Type 0
  Keeps work new = P (store_of work) → P (store_of new)

  parts : (tid : Tid) (f : Participant → Participant) → ((part : Participant) → (f part).asked ≡ part.asked) → (s : Store) → P s → P (managed (tm.with_part tid f) s)
  parts tid f same s h = k.parts s tid f same h

  voted : (tid : Tid) (server : ServerNo) (ballot : Vote) (w : Work) → P (store_of w) → P (store_of (enter_vote tid server ballot w))
  voted tid server ballot w h = parts tid (participant.voted (member_here w server) ballot (served_count tid server w)) (λ p. refl) (store_of (change_server server (λ value. after_vote value tid ballot) w)) (k.votes (store_of w) server tid ballot h)

  served : (server : ServerNo) (delivery : Delivery) (reply : Reply) (w : Work) → reply_here server delivery.tid delivery.op w.node ≡ Some reply → P (store_of w) → P (store_of (d.served server delivery reply w))
  served server delivery reply w says h = by (is_client server) refl
    where
      by : (b : Bool) → is_client server ≡ b → P (managed (tm.served delivery.tid server) (record (store_of w) { servers = if b then w.node.servers else with_server server (λ value. after_serving value delivery.tid delivery.op reply) w.node.servers }))
      by true is = parts delivery.tid (participant.served server) (served_unasked server) (store_of w) h
      by false is = parts delivery.tid (participant.served server) (served_unasked server) (store_of (change_server server (λ value. after_serving value delivery.tid delivery.op reply) w))
          (k.serves (store_of w) server delivery.tid delivery.op reply (own_op (is_for server delivery.op) (is_client server) (reply_of (server_at w.node.servers server) delivery.tid delivery.op) reply says)
          (own_reply (not (is_for server delivery.op)) (is_client server) (reply_of (server_at w.node.servers server) delivery.tid delivery.op) reply is says) h)

  module _ (event : Event) (came : Work) (may : MayAsk A event came) where
    owned : (line : ScriptLine) (tid : Tid) (w : Work) → May event (d.Asks line tid) w → IsNamed event came after w → A tid
    owned line tid w (is, (there, (commit, (met, m)))) named = subst (λ (e : Event). MayAsk A e came) is may met.begun tid
        (subst (λ (labels : List KeptLabel). find (has_label line.label) labels ≡ Some met.begun) (named line is commit) met.met) met.of_is met.own_is

    told : (peer : NodeNo) (tid : Tid) → event ≡ events.Received peer (messages.AskVote tid) → A tid
    told peer tid is = subst (λ (e : Event). MayAsk A e came) is may

    store_table : TableOver event (IsNamed event came) (λ stage w. P (store_of w))
    store_table d.Ticks when w m named h = k.ticks (store_of w) h
    store_table (d.Meets tid) when w m named h = k.meets (store_of w) tid h
    store_table (d.Engages tid peer number) when w m named h = parts tid (participant.requested peer number) (λ p. refl) (store_of w) h
    store_table (d.Logs tid rec) when w m named h = k.logs (store_of w) rec (no_vote tid rec w m) h
    store_table (d.Ends tid server) when w m named h = parts tid (outcome_rules.settled server) (λ p. refl) _ (k.notices (store_of w) server tid notices.Ending h)
    store_table (d.Learns tid outcome server) when w m named h = parts tid (outcome_rules.settled server) (λ p. refl) _ (k.notices (store_of w) server tid (notice_of outcome) h)
    store_table (d.Begins line) when w m named h = k.begins (store_of w) line.client h
    store_table (d.Asks line tid) when w m named h = k.asks (store_of w) tid (owned line tid w m named) h
    store_table (d.IssuesHere by tid request op) when w m named h = parts tid (participant.issued request) (λ p. refl) (store_of w) h
    store_table (d.IssuesAway by tid request op) when w m named h = parts tid (participant.sent request.member.node) (λ p. refl) _ (parts tid (participant.issued request) (λ p. refl) (store_of w) h)
    store_table (d.Serves server delivery reply) when w (m, own) named h = served server delivery reply w m.says h
    store_table (d.ServesAway server delivery reply) when w (m, far) named h = served server delivery reply w m.says h
    store_table (d.NotesReply tid member number request) when w m named h = parts tid (participant.note_served request.count) (λ p. refl) _ (parts tid (participant.drop_waiting member number) (λ p. refl) (store_of w) h)
    store_table (d.GivesReply tid member number request command reply) when w m named h = parts tid (participant.drop_waiting member number) (λ p. refl) (store_of w) h
    store_table (d.LosesReply tid member number request) when w m named h = parts tid (participant.drop_waiting member number) (λ p. refl) (store_of w) h
    store_table (d.BecomesAsked peer tid) when w (is, m) named h = k.asks (store_of w) tid (told peer tid is) h
    store_table (d.Counts peer tid up_to names) when w m named h = parts tid (participant.counted tid.home peer up_to names) (λ p. refl) (store_of w) h
    store_table (d.Blocks tid cause) when w m named h = parts tid (participant.add_cause cause) (λ p. refl) _ (parts tid participant.refused (λ p. refl) (store_of w) h)
    store_table (d.Votes tid server ballot) when w m named h = voted tid server ballot w h
    store_table (d.Prepares tid server) when w m named h = k.prepares (store_of (enter_vote tid server votes.Recoverable w)) tid server (served_count tid server (enter_vote tid server votes.Recoverable w)) (voted tid server votes.Recoverable w h)
    store_table (d.SaysYes tid part superior) when w m named h = parts tid participant.released (λ p. refl) (store_of w) h
    store_table (d.TakesCauses tid) when w m named h = parts tid participant.take_causes (λ p. refl) (store_of w) h
    store_table (d.Forgets tid part) when w m named h = k.forgets (store_of w) tid h
    store_table (d.Decides tid outcome cause) when w m named h = parts tid (outcome_rules.decided outcome) (λ p. refl) (store_of w) h
    store_table (d.TakesOutcome tid outcome) when w m named h = parts tid (outcome_rules.took_outcome outcome) (λ p. refl) (store_of w) h
    store_table (d.KeepsAbort tid) when w m named h = k.aborts (store_of w) tid h
    store_table (d.KeepsTold tid peer) when w m named h = parts tid (outcome_rules.add_tell peer) (λ p. refl) _ (k.aborts (store_of w) tid h)
    store_table (d.TakesNames tid further) when w m named h = parts tid (outcome_rules.take_names tid.home further) (λ p. refl) (store_of w) h
    store_table (d.Acknowledges tid peer) when w m named h = parts tid (outcome_rules.acknowledged peer) (λ p. refl) (store_of w) h
    store_table (d.EndsCommit tid peer) when w m named h = k.forgets _ tid (k.logs _ (records.End tid) tt (parts tid (outcome_rules.acknowledged peer) (λ p. refl) (store_of w) h))
    store_table (d.AddsTold tid peer) when w m named h = parts tid (participant.add_told peer) (λ p. refl) (store_of w) h
    store_table (d.AddsTell tid peer) when w m named h = parts tid (outcome_rules.add_tell peer) (λ p. refl) (store_of w) h
    store_table (d.Notices tid peer) when w m named h = parts tid (participant.restarted peer) (λ p. refl) (store_of w) h
    store_table deed when w m named h = h

    abbrev I : Stage → Work → Type 0
    I stage w = IsNamed event came stage w × P (store_of w)

    whole : Whole event I
    whole = whole_of event I (over event (IsNamed event came) (λ stage w. P (store_of w)) (named_table event came) store_table)

  -- ---- the stages of a step: none but what comes asks for commit

  pub begin_incarnation_keeps : (work : Work) → Keeps work (begin_incarnation work)
  begin_incarnation_keeps work h = (firsts.begin_incarnation_keeps events.ServeAll (I events.ServeAll work tt) (whole events.ServeAll work tt) work (λ line is commit. refl, h)).1

  pub happens_keep : (event : Event) (work : Work) → MayAsk A event work → Keeps work (happen event work)
  happens_keep event work may h = (stages.happens_keep event (I event work may) (whole event work may) event work refl (λ line is commit. refl, h)).1

  pub settle_keeps : (work : Work) → Keeps work (settle work)
  settle_keeps work h = (stages.settle_keeps events.ServeAll (I events.ServeAll work tt) (whole events.ServeAll work tt) work (λ line is commit. refl, h)).1

  pub turns_keep : (tids : List Tid) (work : Work) → P (store_of work) → AtEach (λ (work : Work) (tid : Tid). P (store_of work)) settle_tid work tids
  turns_keep [] work h = tt
  turns_keep (tid ∷ tids) work h = (h, turns_keep tids (settle_tid work tid) (stages.settle_tid_keeps events.ServeAll (I events.ServeAll work tt) (whole events.ServeAll work tt) tid work (λ line is commit. refl, h)).1)

  pub answers_keep : (work : Work) → Keeps work (answer_waiting work)
  answers_keep work h = (stages.answers_keep events.ServeAll (I events.ServeAll work tt) (whole events.ServeAll work tt) work (λ line is commit. refl, h)).1
