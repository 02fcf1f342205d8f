-- A step leaves its node's setting and the kind of its files, and enters of files what the setting says: the table of its deeds.
use Rattle.std.proofs.Common.{◌≡◌, ◌∙◌, ℕ, ◌+◌, ◌==◌, Bool, true, false, List, [], ◌∷◌, ◌++◌, Option, Some, None, refl, sym, ap, subst, arith}
use Rattle.std.specs.Prelude.{if◌then◌else◌, nat_lt}
use Rattle.std.proofs.lemmas.Bool.{eqb-true}
use Rattle.std.proofs.lemmas.Bool.Decides.{nat_tests}
use Rattle.qs_base.specs.declared.identifiers.ClientNo.{ClientNo}
use Rattle.qs_base.specs.declared.identifiers.ServerNo.{ServerNo}
use Rattle.qs_base.specs.declared.identifiers.Tid.{Tid}
use Rattle.qs_book_journal.specs.declared.entry.Act.{Act}
use Rattle.qs_book_journal.specs.declared.entry.Act.TheVariants as acts
use Rattle.qs_ipc.specs.declared.delivery.Delivery.{Delivery}
use Rattle.qs_ops.specs.Server.{ServerValue, after_notice, after_serving, after_vote, changes_vote, vote_in_room, vote_need, vote_of}
use Rattle.qs_ops.specs.Servers.{files_no}
use Rattle.qs_ops.specs.Table.{has_changes, view_bytes}
use Rattle.qs_ops.specs.declared.operation.Op.{Op}
use Rattle.qs_ops.specs.declared.reply.Reply.{Reply}
use Rattle.qs_ops.specs.declared.server.ServerKind.{ServerKind}
use Rattle.qs_ops.specs.declared.server.ServerKind.TheVariants as kinds
use Rattle.qs_ops.specs.declared.vote.Notice.TheVariants as notices
use Rattle.qs_ops.specs.declared.vote.Reason.TheVariants as reasons
use Rattle.qs_ops.specs.declared.vote.Vote.{Vote}
use Rattle.qs_ops.specs.declared.vote.Vote.TheVariants as votes
use Rattle.qs_node_servers.specs.Servers.{ServersValue, is_client, server_at, with_server}
use Rattle.qs_node_step.specs.Bringing.{member_here}
use Rattle.qs_node_step.specs.Deciding.{notice_of}
use Rattle.qs_node_step.specs.Serving.{lent_to}
use Rattle.qs_node_step.specs.State.{NodeValue, Work, here}
use Rattle.qs_node_step.specs.Step.{step_work}
use Rattle.qs_node_step.specs.Voting.{change_count, note_text, served_count, vote_frame}
use Rattle.qs_node_step.specs.declared.event.Event.{Event}
use Rattle.qs_node_step.specs.declared.setting.Setting.{Setting}
use Rattle.qs_tm.specs.declared.participant.Outstanding.{Outstanding}
use Rattle.qs_world_lawful.specs.Logs.{Every}
use Rattle.qs_world_lawful.proofs.LogRecords.{every_append}
use Rattle.qs_world_refine.proofs.ServerKinds.{kind_kept, notice_kind, serving_kind, vote_kind}
use Rattle.qs_world_walk.proofs.IsDeeds.{each_turn}
use Rattle.qs_world_walk.specs.Deed.{Deed, did, loan_entered, served_servers}
use Rattle.qs_world_walk.specs.Deed as d
use Rattle.qs_world_walk.specs.May.{MayIssue, MayVote}
use Rattle.qs_world_walk.specs.Stage.{Stage}
use Rattle.qs_world_walk.specs.Walked.{AtTurns, Table}
use Rattle.qs_world_filed.specs.Settings.{HasItsQuota, IsAsSet, NamesQuota, StepsAsSet}

-- the kind of files stays, whichever server is changed
pub files_kind : (server : ServerNo) (f : ServerValue → ServerValue) → ((value : ServerValue) → (f value).kind ≡ value.kind) → (servers : ServersValue) → (with_server server f servers).files.kind ≡ servers.files.kind
files_kind server f keeps servers = kind_kept f keeps files_no servers server

served_kind : (server : ServerNo) (delivery : Delivery) (reply : Reply) (servers : ServersValue) → (served_servers server delivery reply servers).files.kind ≡ servers.files.kind
served_kind server delivery reply servers = by (is_client server)
  where
    by : (b : Bool) → ◌≡◌ {A = ServerKind} (if b then servers else with_server server (λ value. after_serving value delivery.tid delivery.op reply) servers).files.kind servers.files.kind
    by true = refl
    by false = files_kind server (λ value. after_serving value delivery.tid delivery.op reply) (λ value. serving_kind value delivery.tid delivery.op reply) servers

-- ---- what files of that quota refuse names it

room_names : (quota need room : ℕ) (b : Bool) → NamesQuota quota (if b then votes.Abort (reasons.LogRoom need room) else votes.Recoverable)
room_names quota need room true = tt
room_names quota need room false = tt

files_name : (quota : ℕ) (value : ServerValue) (tid : Tid) (free frame : ℕ) → value.kind ≡ kinds.Files quota → NamesQuota quota (vote_of value tid free frame)
files_name quota value tid free frame kind = by (has_changes value.table tid)
  where
    over : (b : Bool) → NamesQuota quota (if b then votes.Abort (reasons.Quota (view_bytes value.table tid) quota) else vote_in_room value.table tid free frame)
    over true = refl
    over false = room_names quota (vote_need value.table tid frame) free (nat_lt free (vote_need value.table tid frame))

    by : (b : Bool) → NamesQuota quota (if b then changes_vote value.kind value.table tid free frame else votes.ReadOnly)
    by true = subst (λ (k : ServerKind). NamesQuota quota (changes_vote k value.table tid free frame)) (sym kind) (over (nat_lt quota (view_bytes value.table tid)))
    by false = tt

-- the server of a number, and files at theirs
pub files_at : (servers : ServersValue) (server : ServerNo) → (server.0 == files_no) ≡ true → server_at servers server ≡ servers.files
files_at servers server is = ap (λ (n : ℕ). server_at servers (record { 0 = n })) (eqb-true server.0 files_no is)

-- ---- the table

module _ (setting : Setting) where
  -- of a work's setting, the kind of its files, and what was entered
  pub record SetSo (now : Setting) (kind : ServerKind) (entries : List Act) : Type 0 where
    pub same : now ≡ setting
    pub files : kind ≡ kinds.Files setting.quota
    pub entered : Every (IsAsSet setting) entries

  abbrev pub IsSetNow : Stage → Work → Type 0
  IsSetNow stage work = SetSo work.node.setting work.node.servers.files.kind work.out.entries

  push : (now : Setting) (kind later : ServerKind) (entries : List Act) (act : Act) → later ≡ kind → IsAsSet setting act → SetSo now kind entries → SetSo now later (entries ++ act ∷ [])
  push now kind later entries act same its h = record { same = h.same; files = same ∙ h.files; entered = every_append (IsAsSet setting) entries (act ∷ []) h.entered (its, tt) }

  -- clients issue what is no note
  client_far : (k n : ℕ) → n ≡ k + 32 → (n == 0) ≡ true → ⊥
  client_far k n is at = grind (arith, nat_tests, is, at)

  issue_set : (by : d.Issuer) (tid : Tid) (request : Outstanding) (op : Op) (work : Work) (number : ℕ) → work.node.setting ≡ setting → MayIssue by tid request op work → IsAsSet setting (acts.Issue tid (member_here work request.issuer) request.member number op)
  issue_set (d.Client client command) tid request op work number same m at = absurd (client_far client.0 request.issuer.0 (ap (λ (s : ServerNo). s.0) m.1.1.0) at)
  issue_set (d.Files server) tid request op work number same m at = (ap (λ (t : Setting). t.audit) (sym same) ∙ m.1.1.0, (note_text tid (here work) (change_count tid work.node), m.1.1.1.1.0))

  vote_set : (tid : Tid) (server : ServerNo) (ballot : Vote) (covers : ℕ) (work : Work) → SetSo work.node.setting work.node.servers.files.kind work.out.entries → MayVote tid server ballot work → IsAsSet setting (acts.Vote tid (member_here work server) ballot covers)
  vote_set tid server ballot covers work h m at = subst (NamesQuota setting.quota) m.is
      (files_name setting.quota (server_at work.node.servers server) tid work.room (vote_frame work) (ap (λ (v : ServerValue). v.kind) (files_at work.node.servers server at) ∙ h.files))

  lent_set : (now : Setting) (kind : ServerKind) (entries : List Act) (tid : Tid) (o : Option ClientNo) → SetSo now kind entries → SetSo now kind (loan_entered tid o entries)
  lent_set now kind entries tid None h = h
  lent_set now kind entries tid (Some client) h = push now kind kind entries (acts.Loan tid client) refl tt h

  served_set : (server : ServerNo) (delivery : Delivery) (reply : Reply) (work : Work) → SetSo work.node.setting work.node.servers.files.kind work.out.entries
      → SetSo work.node.setting (served_servers server delivery reply work.node.servers).files.kind (loan_entered delivery.tid (lent_to delivery.op) (work.out.entries ++ acts.Serve delivery.tid (member_here work server) delivery.from delivery.number reply ∷ []))
  served_set server delivery reply work h = lent_set work.node.setting (served_servers server delivery reply work.node.servers).files.kind (work.out.entries ++ acts.Serve delivery.tid (member_here work server) delivery.from delivery.number reply ∷ []) delivery.tid (lent_to delivery.op)
      (push work.node.setting work.node.servers.files.kind (served_servers server delivery reply work.node.servers).files.kind work.out.entries (acts.Serve delivery.tid (member_here work server) delivery.from delivery.number reply) (served_kind server delivery reply work.node.servers) tt h)

  -- an act that is none of files, and servers as they were
  plain : (work : Work) (act : Act) → IsAsSet setting act → SetSo work.node.setting work.node.servers.files.kind work.out.entries → SetSo work.node.setting work.node.servers.files.kind (work.out.entries ++ act ∷ [])
  plain work act its h = push work.node.setting work.node.servers.files.kind work.node.servers.files.kind work.out.entries act refl its h

  pub set_table : (event : Event) → Table event IsSetNow
  set_table event d.Ticks when w m h = plain w acts.Tick tt h
  set_table event (d.Ends tid server) when w m h = push w.node.setting w.node.servers.files.kind _ w.out.entries (acts.Ending tid (member_here w server)) (files_kind server (λ value. after_notice value tid notices.Ending) (λ value. notice_kind value tid notices.Ending) w.node.servers) tt h
  set_table event (d.Learns tid outcome server) when w m h = push w.node.setting w.node.servers.files.kind _ w.out.entries (acts.Learn tid (member_here w server) outcome) (files_kind server (λ value. after_notice value tid (notice_of outcome)) (λ value. notice_kind value tid (notice_of outcome)) w.node.servers) tt h
  set_table event (d.Begins line) when w m h = push w.node.setting w.node.servers.files.kind w.node.servers.files.kind _ _ refl tt (plain w _ tt h)
  set_table event (d.Refuses line need room) when w m h = plain w _ tt h
  set_table event (d.Answers client command why) when w m h = plain w _ tt h
  set_table event (d.Takes client command tid loan) when w m h = plain w _ tt h
  set_table event (d.Yields client command tid loan) when w m h = push w.node.setting w.node.servers.files.kind w.node.servers.files.kind _ _ refl tt (plain w (acts.Yield tid client) tt h)
  set_table event (d.Asks line tid) when w m h = plain w (acts.Ask tid) tt h
  set_table event (d.IssuesHere by tid request op) when w m h = plain w (acts.Issue tid (member_here w request.issuer) request.member request.number op) (issue_set by tid request op w request.number h.same m.1.1) h
  set_table event (d.IssuesAway by tid request op) when w m h = plain w (acts.Issue tid (member_here w request.issuer) request.member request.number op) (issue_set by tid request op w request.number h.same m.1.1) h
  set_table event (d.Serves server delivery reply) when w m h = served_set server delivery reply w h
  set_table event (d.ServesAway server delivery reply) when w m h = served_set server delivery reply w h
  set_table event (d.GivesReply tid member number request command reply) when w m h = plain w _ tt h
  set_table event (d.Counts peer tid up_to told) when w m h = plain w (acts.Counted tid peer up_to) tt h
  set_table event (d.Votes tid server ballot) when w m h = push w.node.setting w.node.servers.files.kind _ w.out.entries _ (files_kind server (λ value. after_vote value tid ballot) (λ value. vote_kind value tid ballot) w.node.servers) (vote_set tid server ballot (served_count tid server w) w h m.1) h
  set_table event (d.Prepares tid server) when w m h = push w.node.setting w.node.servers.files.kind _ w.out.entries _ (files_kind server (λ value. after_vote value tid votes.Recoverable) (λ value. vote_kind value tid votes.Recoverable) w.node.servers) (vote_set tid server votes.Recoverable (served_count tid server w) w h m) h
  set_table event (d.Decides tid outcome cause) when w m h = plain w (acts.Decide tid outcome cause) tt h
  set_table event deed when w m h = h

-- ---- a whole step

module _ (node : NodeValue) (event : Event) (free : ℕ) (its : HasItsQuota node) where
  pub set_at_turns : AtTurns (IsSetNow node.setting) node event free
  set_at_turns = each_turn (IsSetNow node.setting) node event free (set_table node.setting event) (record { same = refl; files = its; entered = tt })

  pub set_after : SetSo node.setting (step_work node event free).node.setting (step_work node event free).node.servers.files.kind (step_work node event free).out.entries
  set_after = set_at_turns.all

pub steps_as_set : StepsAsSet
steps_as_set node event free its = (set_after node event free its).entered
