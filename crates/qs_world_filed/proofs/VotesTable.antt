-- Through each deed of a step that serves nothing the machine counts what files have pending, and each vote of files for commit is noted: the table of its deeds.
use Rattle.std.proofs.Common.{◌≡◌, ℕ, false, List, [], ◌∷◌, ◌++◌, Option, Some, None, refl, sym, subst}
use Rattle.std.specs.Prelude.{if◌then◌else◌}
use Rattle.qs_base.specs.declared.identifiers.Member.{Member}
use Rattle.qs_base.specs.declared.identifiers.ServerNo.{ServerNo}
use Rattle.qs_base.specs.declared.identifiers.Tid.{Tid}
use Rattle.qs_book_journal.specs.declared.entry.Act.{Act}
use Rattle.qs_book_journal.specs.declared.entry.Act.TheVariants as acts
use Rattle.qs_book_laws.specs.Lives.{is_restart}
use Rattle.qs_book_machine.specs.Book.{BookValue, inc_at}
use Rattle.qs_book_machine.specs.Lawful.{broken, effect}
use Rattle.qs_ops.specs.Operations.{answer_of}
use Rattle.qs_ops.specs.Server.{after_notice, after_vote}
use Rattle.qs_ops.specs.Timers.{ticked}
use Rattle.qs_ops.specs.declared.answer.Answer.{Answer}
use Rattle.qs_ops.specs.declared.answer.Answer.TheVariants as answers
use Rattle.qs_ops.specs.declared.server.ServerKind.TheVariants as kinds
use Rattle.qs_ops.specs.declared.vote.Notice.TheVariants as notices
use Rattle.qs_ops.specs.declared.vote.Vote.{Vote}
use Rattle.qs_ops.specs.declared.vote.Vote.TheVariants as votes
use Rattle.qs_book_conformance.specs.Course.{CourseValue}
use Rattle.qs_node_servers.specs.Servers.{ServersValue, client_of, timers_no, with_server}
use Rattle.qs_node_step.specs.Borrowing.{is_void}
use Rattle.qs_node_step.specs.Bringing.{member_here}
use Rattle.qs_node_step.specs.Deciding.{notice_of}
use Rattle.qs_node_step.specs.State.{Work}
use Rattle.qs_node_step.specs.Voting.{served_count}
use Rattle.qs_node_step.specs.declared.event.Event.{Event}
use Rattle.qs_node_step.specs.declared.event.Event.TheVariants as events
use Rattle.qs_node_step.specs.declared.setting.Setting.{Setting}
use Rattle.qs_tm.specs.Manager as tm
use Rattle.qs_world.specs.Posting.{entry_of}
use Rattle.qs_world_lawful.specs.Face.{at_server}
use Rattle.qs_world_lawful.specs.Filed.{HoldsFiles}
use Rattle.qs_world_lawful.proofs.LastsWell.{LastsWell}
use Rattle.qs_world_walk.specs.Deed.{Deed, answer_by, did}
use Rattle.qs_world_walk.specs.Deed as d
use Rattle.qs_world_walk.specs.May.{May, MayVote}
use Rattle.qs_world_walk.specs.Stage.{Serves, Settles, Stage, Turn, Waits}
use Rattle.qs_world_walk.specs.When.{When, next_stage, stage_of}
use Rattle.qs_world_filed.specs.Parts.{broken_noting}
use Rattle.qs_world_filed.specs.Replied.{ToldNotes}
use Rattle.qs_world_filed.proofs.Counts as counts
use Rattle.qs_world_filed.proofs.Counts.{CountsSo}
use Rattle.qs_world_filed.proofs.SetTable.{IsSetNow}
use Rattle.qs_world_filed.proofs.VoteNoted.{vote_noted}
use Rattle.qs_base.specs.Order.{tid_cmp}
use Rattle.qs_base.specs.declared.identifiers.ClientNo.{ClientNo}
use Rattle.qs_base.specs.declared.identifiers.NodeNo.{NodeNo}
use Rattle.qs_book_laws.proofs.Rising.{IsRising}
use Rattle.qs_ops.specs.declared.operation.Op.{Op}
use Rattle.qs_ops.specs.declared.reply.Reply.{Reply}
use Rattle.qs_packet.specs.declared.message.Message.TheVariants as messages
use Rattle.qs_book_conformance.specs.Files.{quota_at}
use Rattle.qs_world_runs.specs.RepliesTrue.{IsOfLast, IsServed}
use Rattle.qs_world_filed.proofs.CountTable.{In, IsCounting, Lawful, Next, ending_far, in_inc, learn_known, one, vote_known}
use Rattle.qs_world_filed.proofs.FitTable.{IsFitNow}
use Rattle.qs_world_filed.proofs.NotesTold.{AllTold}
use Rattle.qs_world_filed.proofs.ToldTable.{IsTelling}

module _ (setting : Setting) (stamp : ℕ) (course : CourseValue) (well : LastsWell course.book) (first : inc_at course.book (record { 0 = setting.node.0 }) ≡ setting.inc) (audit : course.audit ≡ setting.audit) (limit : quota_at course setting.node.0 ≡ setting.quota)
    (all : AllTold course.book) (event : Event)
    (came : (peer : NodeNo) (tid : Tid) (member : Member) (number : ℕ) (reply : Reply) → event ≡ events.Received peer (messages.Answered tid member number reply) → IsOfLast course.book setting.node.0 setting.inc tid (IsServed setting.node.0 setting.inc member number)) where
  abbrev S : Stage → Work → Type 0
  S stage w = IsSetNow setting stage w × (IsTelling setting stamp course.book well first all event came stage w × IsFitNow setting stamp course limit stage w)

  abbrev J : Stage → Work → Type 0
  J stage w = IsCounting setting stamp course well first audit stage w

  abbrev L : List Act → Type 0
  L done = Lawful setting stamp course well first audit done

  abbrev C : Option Turn → List Act → ServersValue → Type 0
  C turn done servers = In setting stamp course well first audit turn done servers

  abbrev N : Act → ServersValue → ServersValue → Type 0
  N act servers later = Next setting stamp course well first audit act servers later

  -- files, as their table stands in order
  filed : (stage : Stage) (w : Work) → S stage w → L w.out.entries → HoldsFiles w.node.servers
  filed stage w k lawful = record { quota = setting.quota; kind = k.0.files; rising = of stage.turn k.1.1 }
    where
      of : (turn : Option Turn) → IsFitNow setting stamp course limit (record { come = stage.come; turn = turn }) w → IsRising tid_cmp w.node.servers.files.table.shares
      of None g = (g lawful).seen.holds.files.rising
      of (Some (Serves server)) g = absurd g
      of (Some (Settles tid)) g = (g lawful).seen.holds.files.rising
      of (Some (Waits client)) g = (g lawful).seen.holds.files.rising

  -- an act that is no vote
  plain : (turn : Option Turn) (done : List Act) (act : Act) (servers later : ServersValue) → is_restart act ≡ false → ((now : CourseValue) → broken_noting now setting.node.0 act ≡ None) → (L done → N act servers later) → C turn done servers → C turn (done ++ act ∷ []) later
  plain turn done act servers later ordinary none next h = one setting stamp course well first audit turn done act servers later ordinary next (λ lawful now book a i c. none now) h

  -- in the incarnation of the node
  inc_so : (act : Act) (servers later : ServersValue) → ((now : BookValue) → LastsWell now → broken now (entry_of setting.node.0 stamp act) ≡ None → CountsSo setting.node (inc_at now (record { 0 = setting.node.0 })) now servers
      → CountsSo setting.node (inc_at now (record { 0 = setting.node.0 })) (effect now (entry_of setting.node.0 stamp act)) later) → N act servers later
  inc_so act servers later goes now w i fine c = in_inc setting stamp course well first audit now (effect now (entry_of setting.node.0 stamp act)) servers later i (goes now w fine) c

  answered : (turn : Option Turn) (done : List Act) (client : ClientNo) (line : ℕ) (said : Answer) (servers : ServersValue) (kind : servers.files.kind ≡ kinds.Files setting.quota) → C turn done servers → C turn (done ++ acts.Answer client line said ∷ []) servers
  answered turn done client line said servers kind h = plain turn done (acts.Answer client line said) servers servers refl (λ now. refl) (λ lawful. inc_so (acts.Answer client line said) servers servers (λ now w fine c. counts.c_answered now setting.node stamp servers w setting.quota kind c client line said fine)) h

  requested : (turn : Option Turn) (w : Work) (tid : Tid) (server : ServerNo) (member : Member) (number : ℕ) (op : Op) → w.node.servers.files.kind ≡ kinds.Files setting.quota → C turn w.out.entries w.node.servers → C turn (w.out.entries ++ acts.Issue tid (member_here w server) member number op ∷ []) w.node.servers
  requested turn w tid server member number op kind h = plain turn w.out.entries (acts.Issue tid (member_here w server) member number op) w.node.servers w.node.servers refl (λ now. refl)
      (λ lawful. inc_so (acts.Issue tid (member_here w server) member number op) w.node.servers w.node.servers (λ now l fine c. counts.c_requested now setting.node stamp w.node.servers l setting.quota kind c tid (member_here w server) member number op fine)) h

  -- a vote
  voted : (stage : Stage) (w : Work) (tid : Tid) (server : ServerNo) (ballot : Vote) (covers : ℕ) → S stage w → MayVote tid server ballot w → C stage.turn w.out.entries w.node.servers
      → C stage.turn (w.out.entries ++ acts.Vote tid (member_here w server) ballot covers ∷ []) (with_server server (λ value. after_vote value tid ballot) w.node.servers)
  voted stage w tid server ballot covers k m h = subst (λ (t : Setting). C stage.turn (w.out.entries ++ acts.Vote tid (record { node = t.node; server = server }) ballot covers ∷ []) (with_server server (λ value. after_vote value tid ballot) w.node.servers)) (sym k.0.same)
      (one setting stamp course well first audit stage.turn w.out.entries (acts.Vote tid (at_server setting.node server) ballot covers) w.node.servers (with_server server (λ value. after_vote value tid ballot) w.node.servers) refl
      (λ lawful. inc_so (acts.Vote tid (at_server setting.node server) ballot covers) w.node.servers (with_server server (λ value. after_vote value tid ballot) w.node.servers)
      (λ now l fine c. counts.c_cast now setting.node stamp w.node.servers l setting.quota k.0.files c tid server ballot covers (vote_known now setting.node.0 stamp tid (at_server setting.node server) ballot covers fine) (filed stage w k lawful) fine))
      (λ lawful now book a i c. vote_noted setting now w k.0.same a (subst (λ (b : BookValue). inc_at b (record { 0 = setting.node.0 }) ≡ setting.inc) (sym book) i) (subst (λ (b : BookValue). CountsSo setting.node setting.inc b w.node.servers) (sym book) c)
      (subst (λ (b : BookValue). ToldNotes b setting w.node.manager.known) (sym book) (k.1.0.tells lawful)) tid server ballot m covers) h)

  -- ---- deeds

  pub counting_table : (event ≡ events.ServeAll → ⊥) → (deed : Deed) (when : When deed) (w : Work) → May event deed w → S (stage_of deed when) w → J (stage_of deed when) w → J (next_stage deed when) (did deed w)
  counting_table other (d.Turns (Serves server)) when w m k h = absurd (other m)
  counting_table other (d.Turns (Settles tid)) when w m k h = h
  counting_table other (d.Turns (Waits client)) when w m k h = h
  counting_table other (d.Rests (Serves server)) when w m k h = absurd h
  counting_table other (d.Rests (Settles tid)) when w m k h = h
  counting_table other (d.Rests (Waits client)) when w m k h = h
  counting_table other (d.Serves server delivery reply) when w m k h = absurd h
  counting_table other (d.ServesAway server delivery reply) when w m k h = absurd h
  counting_table other d.Ticks when w m k h = plain None w.out.entries acts.Tick w.node.servers (with_server timers_no (λ value. record value { timers = ticked value.timers }) w.node.servers) refl (λ now. refl) (λ lawful. inc_so acts.Tick w.node.servers (with_server timers_no (λ value. record value { timers = ticked value.timers }) w.node.servers) (λ now l fine c. counts.c_ticked now setting.node stamp w.node.servers l setting.quota k.0.files c fine)) h
  counting_table other (d.Ends tid server) when w m k h = plain (stage_of (d.Ends tid server) when).turn w.out.entries (acts.Ending tid (member_here w server)) w.node.servers (with_server server (λ value. after_notice value tid notices.Ending) w.node.servers) refl (λ now. refl)
      (λ lawful. subst (λ (t : Setting). N (acts.Ending tid (record { node = t.node; server = server })) w.node.servers (with_server server (λ value. after_notice value tid notices.Ending) w.node.servers)) (sym k.0.same)
      (inc_so (acts.Ending tid (at_server setting.node server)) w.node.servers (with_server server (λ value. after_notice value tid notices.Ending) w.node.servers) (λ now l fine c. counts.c_ended now setting.node stamp w.node.servers l setting.quota k.0.files c tid server (ending_far now setting.node.0 stamp tid (at_server setting.node server) fine) fine (λ value. after_notice value tid notices.Ending)))) h
  counting_table other (d.Learns tid outcome server) when w m k h = plain (stage_of (d.Learns tid outcome server) when).turn w.out.entries (acts.Learn tid (member_here w server) outcome) w.node.servers (with_server server (λ value. after_notice value tid (notice_of outcome)) w.node.servers) refl (λ now. refl)
      (λ lawful. subst (λ (t : Setting). N (acts.Learn tid (record { node = t.node; server = server }) outcome) w.node.servers (with_server server (λ value. after_notice value tid (notice_of outcome)) w.node.servers)) (sym k.0.same)
      (inc_so (acts.Learn tid (at_server setting.node server) outcome) w.node.servers (with_server server (λ value. after_notice value tid (notice_of outcome)) w.node.servers) (λ now l fine c. counts.c_learnt now setting.node stamp w.node.servers l setting.quota k.0.files c tid server outcome (learn_known now setting.node.0 stamp tid (at_server setting.node server) outcome fine) (filed (stage_of (d.Learns tid outcome server) when) w k lawful) fine))) h
  counting_table other (d.Begins line) when w m k h = answered None (w.out.entries ++ acts.Begin (tm.next_tid w.node.manager) line.label line.client ∷ []) line.client line.line answers.Done w.node.servers k.0.files
      (plain None w.out.entries (acts.Begin (tm.next_tid w.node.manager) line.label line.client) w.node.servers w.node.servers refl (λ now. refl)
      (λ lawful. inc_so (acts.Begin (tm.next_tid w.node.manager) line.label line.client) w.node.servers w.node.servers (λ now l fine c. counts.c_begun now setting.node stamp w.node.servers l setting.quota k.0.files c (tm.next_tid w.node.manager) line.label line.client fine)) h)
  counting_table other (d.Refuses line need room) when w m k h = answered None w.out.entries line.client line.line (answers.LogFull need room) w.node.servers k.0.files h
  counting_table other (d.Answers client command why) when w m k h = answered (stage_of (d.Answers client command why) when).turn w.out.entries client command.line.line (answer_by command why) w.node.servers k.0.files h
  counting_table other (d.Takes client command tid loan) when w m k h = answered (stage_of (d.Takes client command tid loan) when).turn w.out.entries client command.line.line (if is_void tid loan w.node then answers.Ended else answers.Done) w.node.servers k.0.files h
  counting_table other (d.Yields client command tid loan) when w m k h = answered (stage_of (d.Yields client command tid loan) when).turn (w.out.entries ++ acts.Yield tid client ∷ []) client command.line.line answers.Done w.node.servers k.0.files
      (plain (stage_of (d.Yields client command tid loan) when).turn w.out.entries (acts.Yield tid client) w.node.servers w.node.servers refl (λ now. refl) (λ lawful. inc_so (acts.Yield tid client) w.node.servers w.node.servers (λ now l fine c. counts.c_yielded now setting.node stamp w.node.servers l setting.quota k.0.files c tid client fine)) h)
  counting_table other (d.Asks line tid) when w m k h = plain None w.out.entries (acts.Ask tid) w.node.servers w.node.servers refl (λ now. refl) (λ lawful. inc_so (acts.Ask tid) w.node.servers w.node.servers (λ now l fine c. counts.c_asked now setting.node stamp w.node.servers l setting.quota k.0.files c tid fine)) h
  counting_table other (d.IssuesHere by tid request op) when w m k h = requested (stage_of (d.IssuesHere by tid request op) when).turn w tid request.issuer request.member request.number op k.0.files h
  counting_table other (d.IssuesAway by tid request op) when w m k h = requested (stage_of (d.IssuesAway by tid request op) when).turn w tid request.issuer request.member request.number op k.0.files h
  counting_table other (d.GivesReply tid member number request command reply) when w m k h = answered (stage_of (d.GivesReply tid member number request command reply) when).turn w.out.entries (client_of request.issuer) command.line.line (answer_of reply) w.node.servers k.0.files h
  counting_table other (d.Counts peer tid up_to told) when w m k h = plain None w.out.entries (acts.Counted tid peer up_to) w.node.servers w.node.servers refl (λ now. refl) (λ lawful. inc_so (acts.Counted tid peer up_to) w.node.servers w.node.servers (λ now l fine c. counts.c_counted now setting.node stamp w.node.servers l setting.quota k.0.files c tid peer up_to fine)) h
  counting_table other (d.Votes tid server ballot) when w m k h = voted (stage_of (d.Votes tid server ballot) when) w tid server ballot (served_count tid server w) k m.1 h
  counting_table other (d.Prepares tid server) when w m k h = voted (stage_of (d.Prepares tid server) when) w tid server votes.Recoverable (served_count tid server w) k m h
  counting_table other (d.Decides tid outcome cause) when w m k h = plain (stage_of (d.Decides tid outcome cause) when).turn w.out.entries (acts.Decide tid outcome cause) w.node.servers w.node.servers refl (λ now. refl) (λ lawful. inc_so (acts.Decide tid outcome cause) w.node.servers w.node.servers (λ now l fine c. counts.c_decided now setting.node stamp w.node.servers l setting.quota k.0.files c tid outcome cause fine)) h
  counting_table other deed when w m k h = h
