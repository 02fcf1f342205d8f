-- Through each deed of a step that serves nothing the machine goes on with what the servers of the node hold, and each vote of files is within the quota: the table of its deeds.
use Rattle.std.proofs.Common.{◌≡◌, ℕ, List, [], ◌∷◌, ◌++◌, Option, Some, None, refl, sym, subst}
use Rattle.std.specs.Prelude.{if◌then◌else◌}
use Rattle.qs_base.specs.declared.identifiers.ClientNo.{ClientNo}
use Rattle.qs_base.specs.declared.identifiers.ServerNo.{ServerNo}
use Rattle.qs_base.specs.declared.identifiers.Tid.{Tid}
use Rattle.qs_book_journal.specs.declared.entry.Act.{Act}
use Rattle.qs_book_journal.specs.declared.entry.Act.TheVariants as acts
use Rattle.qs_ops.specs.Operations.{answer_of}
use Rattle.qs_ops.specs.Server.{after_vote, vote_of}
use Rattle.qs_ops.specs.declared.answer.Answer.{Answer}
use Rattle.qs_ops.specs.declared.answer.Answer.TheVariants as answers
use Rattle.qs_ops.specs.declared.server.ServerKind.TheVariants as kinds
use Rattle.qs_ops.specs.declared.vote.Vote.{Vote}
use Rattle.qs_ops.specs.declared.vote.Vote.TheVariants as votes
use Rattle.qs_book_conformance.specs.Course.{CourseValue}
use Rattle.qs_book_conformance.specs.Files.{quota_at}
use Rattle.qs_node_servers.specs.Servers.{ServersValue, client_of, server_at, with_server}
use Rattle.qs_node_step.specs.Borrowing.{is_void}
use Rattle.qs_node_step.specs.Bringing.{member_here}
use Rattle.qs_node_step.specs.State.{Work}
use Rattle.qs_node_step.specs.Voting.{served_count, vote_frame}
use Rattle.qs_node_step.specs.declared.event.Event.{Event}
use Rattle.qs_node_step.specs.declared.event.Event.TheVariants as events
use Rattle.qs_node_step.specs.declared.setting.Setting.{Setting}
use Rattle.qs_tm.specs.Manager as tm
use Rattle.qs_world_walk.specs.Deed.{Deed, answer_by}
use Rattle.qs_world_walk.specs.Deed as d
use Rattle.qs_world_walk.specs.May.{MayVote}
use Rattle.qs_world_walk.specs.Stage.{Serves, Settles, Stage, Turn, Waits}
use Rattle.qs_world_walk.specs.Walked.{TableOver}
use Rattle.qs_world_walk.specs.When.{stage_of}
use Rattle.qs_world_filed.proofs.Fits.{vote_fits}
use Rattle.qs_world_filed.proofs.Going.{Going, GoesWith, goes_on}
use Rattle.qs_world_filed.proofs.SeenActs as seen
use Rattle.qs_world_filed.proofs.SetTable.{IsSetNow, SetSo}

module _ (setting : Setting) (stamp : ℕ) (course : CourseValue) (limit : quota_at course setting.node.0 ≡ setting.quota) where
  abbrev G : List Act → ServersValue → Type 0
  G done servers = Going setting.node stamp course setting.quota limit done servers

  abbrev With : Act → ServersValue → ServersValue → Type 0
  With act servers later = GoesWith setting.node stamp course setting.quota limit act servers later

  -- in no turn of a server
  abbrev In : Option Turn → List Act → ServersValue → Type 0
  In None done servers = G done servers
  In (Some (Serves server)) done servers = ⊥
  In (Some (Settles tid)) done servers = G done servers
  In (Some (Waits client)) done servers = G done servers

  abbrev pub IsFitNow : Stage → Work → Type 0
  IsFitNow stage work = In stage.turn work.out.entries work.node.servers

  one : (turn : Option Turn) (done : List Act) (act : Act) (servers later : ServersValue) → With act servers later → In turn done servers → In turn (done ++ act ∷ []) later
  one None done act servers later goes h = goes_on setting.node stamp course setting.quota limit done act servers later goes h
  one (Some (Serves server)) done act servers later goes h = h
  one (Some (Settles tid)) done act servers later goes h = goes_on setting.node stamp course setting.quota limit done act servers later goes h
  one (Some (Waits client)) done act servers later goes h = goes_on setting.node stamp course setting.quota limit done act servers later goes h

  -- ---- acts

  answered : (client : ClientNo) (line : ℕ) (said : Answer) (servers : ServersValue) → With (acts.Answer client line said) servers servers
  answered client line said servers now q w s fine = (seen.answered now.book setting.node stamp servers w s client line said, refl)

  voted : (now : Setting) → now ≡ setting → (tid : Tid) (server : ServerNo) (ballot : Vote) (covers : ℕ) (servers : ServersValue) (free frame : ℕ) → servers.files.kind ≡ kinds.Files setting.quota → vote_of (server_at servers server) tid free frame ≡ ballot
      → With (acts.Vote tid (record { node = now.node; server = server }) ballot covers) servers (with_server server (λ value. after_vote value tid ballot) servers)
  voted now same tid server ballot covers servers free frame kind is =
      subst (λ (t : Setting). With (acts.Vote tid (record { node = t.node; server = server }) ballot covers) servers (with_server server (λ value. after_vote value tid ballot) servers)) (sym same)
      (λ course q w s fine. (seen.cast course.book setting.node stamp servers w s tid server ballot covers, vote_fits setting.node course servers s setting.quota q tid server free frame ballot kind is))

  cast : (turn : Option Turn) (work : Work) (tid : Tid) (server : ServerNo) (ballot : Vote) → SetSo setting work.node.setting work.node.servers.files.kind work.out.entries → MayVote tid server ballot work → In turn work.out.entries work.node.servers
      → In turn (work.out.entries ++ acts.Vote tid (member_here work server) ballot (served_count tid server work) ∷ []) (with_server server (λ value. after_vote value tid ballot) work.node.servers)
  cast turn work tid server ballot k m h = one turn work.out.entries (acts.Vote tid (member_here work server) ballot (served_count tid server work)) work.node.servers (with_server server (λ value. after_vote value tid ballot) work.node.servers)
      (voted work.node.setting k.same tid server ballot (served_count tid server work) work.node.servers work.room (vote_frame work) k.files m.is) h

  -- ---- deeds

  pub fit_table : (event : Event) → (event ≡ events.ServeAll → ⊥) → TableOver event (IsSetNow setting) IsFitNow
  fit_table event other (d.Turns (Serves server)) when w m k h = absurd (other m)
  fit_table event other (d.Turns (Settles tid)) when w m k h = h
  fit_table event other (d.Turns (Waits client)) when w m k h = h
  fit_table event other (d.Rests (Serves server)) when w m k h = absurd h
  fit_table event other (d.Rests (Settles tid)) when w m k h = h
  fit_table event other (d.Rests (Waits client)) when w m k h = h
  fit_table event other (d.Serves server delivery reply) when w m k h = absurd h
  fit_table event other (d.ServesAway server delivery reply) when w m k h = absurd h
  fit_table event other d.Ticks when w m k h = one None w.out.entries acts.Tick w.node.servers _ (λ now q l s fine. (seen.time_passed now.book setting.node stamp w.node.servers l s, refl)) h
  fit_table event other (d.Ends tid server) when w m k h = one (stage_of (d.Ends tid server) when).turn w.out.entries (acts.Ending tid (member_here w server)) w.node.servers _
      (λ now q l s fine. (seen.ended now.book setting.node stamp w.node.servers l s tid (member_here w server) fine, refl)) h
  fit_table event other (d.Learns tid outcome server) when w m k h = one (stage_of (d.Learns tid outcome server) when).turn w.out.entries (acts.Learn tid (member_here w server) outcome) w.node.servers _
      (λ now q l s fine. (seen.learnt now.book setting.node stamp w.node.servers l s tid (member_here w server) outcome fine, refl)) h
  fit_table event other (d.Begins line) when w m k h =
      one None (w.out.entries ++ acts.Begin (tm.next_tid w.node.manager) line.label line.client ∷ []) (acts.Answer line.client line.line answers.Done) w.node.servers w.node.servers (answered line.client line.line answers.Done w.node.servers)
      (one None w.out.entries (acts.Begin (tm.next_tid w.node.manager) line.label line.client) w.node.servers w.node.servers
      (λ now q l s fine. (seen.begun now.book setting.node stamp w.node.servers l s (tm.next_tid w.node.manager) line.label line.client fine, refl)) h)
  fit_table event other (d.Refuses line need room) when w m k h = one None w.out.entries (acts.Answer line.client line.line (answers.LogFull need room)) w.node.servers w.node.servers (answered line.client line.line (answers.LogFull need room) w.node.servers) h
  fit_table event other (d.Answers client command why) when w m k h = one (stage_of (d.Answers client command why) when).turn w.out.entries (acts.Answer client command.line.line (answer_by command why)) w.node.servers w.node.servers (answered client command.line.line (answer_by command why) w.node.servers) h
  fit_table event other (d.Takes client command tid loan) when w m k h = one (stage_of (d.Takes client command tid loan) when).turn w.out.entries _ w.node.servers w.node.servers (answered client command.line.line (if is_void tid loan w.node then answers.Ended else answers.Done) w.node.servers) h
  fit_table event other (d.Yields client command tid loan) when w m k h =
      one (stage_of (d.Yields client command tid loan) when).turn (w.out.entries ++ acts.Yield tid client ∷ []) (acts.Answer client command.line.line answers.Done) w.node.servers w.node.servers (answered client command.line.line answers.Done w.node.servers)
      (one (stage_of (d.Yields client command tid loan) when).turn w.out.entries (acts.Yield tid client) w.node.servers w.node.servers (λ now q l s fine. (seen.yielded now.book setting.node stamp w.node.servers l s tid client, refl)) h)
  fit_table event other (d.Asks line tid) when w m k h = one None w.out.entries (acts.Ask tid) w.node.servers w.node.servers (λ now q l s fine. (seen.asked now.book setting.node stamp w.node.servers l s tid, refl)) h
  fit_table event other (d.IssuesHere by tid request op) when w m k h = one (stage_of (d.IssuesHere by tid request op) when).turn w.out.entries (acts.Issue tid (member_here w request.issuer) request.member request.number op) w.node.servers w.node.servers
      (λ now q l s fine. (seen.requested now.book setting.node stamp w.node.servers l s tid (member_here w request.issuer) request.member request.number op fine, refl)) h
  fit_table event other (d.IssuesAway by tid request op) when w m k h = one (stage_of (d.IssuesAway by tid request op) when).turn w.out.entries (acts.Issue tid (member_here w request.issuer) request.member request.number op) w.node.servers w.node.servers
      (λ now q l s fine. (seen.requested now.book setting.node stamp w.node.servers l s tid (member_here w request.issuer) request.member request.number op fine, refl)) h
  fit_table event other (d.GivesReply tid member number request command reply) when w m k h = one (stage_of (d.GivesReply tid member number request command reply) when).turn w.out.entries _ w.node.servers w.node.servers
      (answered (client_of request.issuer) command.line.line (answer_of reply) w.node.servers) h
  fit_table event other (d.Counts peer tid up_to told) when w m k h = one None w.out.entries (acts.Counted tid peer up_to) w.node.servers w.node.servers (λ now q l s fine. (seen.counted now.book setting.node stamp w.node.servers l s tid peer up_to, refl)) h
  fit_table event other (d.Votes tid server ballot) when w m k h = cast (Some (Settles tid)) w tid server ballot k m.1 h
  fit_table event other (d.Prepares tid server) when w m k h = cast (Some (Settles tid)) w tid server votes.Recoverable k m h
  fit_table event other (d.Decides tid outcome cause) when w m k h = one (stage_of (d.Decides tid outcome cause) when).turn w.out.entries (acts.Decide tid outcome cause) w.node.servers w.node.servers
      (λ now q l s fine. (seen.decided now.book setting.node stamp w.node.servers l s tid outcome cause, refl)) h
  fit_table event other deed when w m k h = h
