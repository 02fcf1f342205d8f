-- The vote pass: immediate servers get their endings, and each two-phase server whose vote is due votes.
use Rattle.std.specs.Prelude.{ℕ, ◌+◌, Bool, true, not, ◌&&◌, List, [], ◌++◌, length, fold, codes, decimal, Option, Some, None, is_some, nat_lt, if◌then◌else◌, false}
use Rattle.qs_base.specs.declared.identifiers.NodeNo.{NodeNo}
use Rattle.qs_base.specs.declared.identifiers.ServerNo.{ServerNo}
use Rattle.qs_base.specs.declared.identifiers.Tid.{Tid}
use Rattle.qs_ops.specs.Server.{vote_of, after_vote, changes_in}
use Rattle.qs_ops.specs.declared.operation.Op.TheVariants.{Note}
use Rattle.qs_ops.specs.declared.vote.Vote.{Vote}
use Rattle.qs_ops.specs.declared.vote.Vote.TheVariants as votes
use Rattle.qs_book_journal.specs.declared.entry.Act.TheVariants as acts
use Rattle.qs_record.specs.declared.record.Record.TheVariants as records
use Rattle.qs_tm.specs.Manager as tm
use Rattle.qs_tm.specs.Manager.{batch_frame}
use Rattle.qs_tm.specs.Members.{files_no, same_server}
use Rattle.qs_tm.specs.Participant.{member_of, servers_due, has_noted}
use Rattle.qs_tm.specs.declared.participant.Due.TheVariants as dues
use Rattle.qs_node_servers.specs.Servers.{server_at, audit_no}
use Rattle.qs_node_step.specs.State.{NodeValue, Work, here, with_manager, with_doings, change_server}
use Rattle.qs_node_step.specs.Bringing.{member_here, enter, log}
use Rattle.qs_node_step.specs.Requests.{issue}
use Rattle.qs_node_step.specs.Deciding.{end_members}

-- ---- notes: where audit is on, files that have changes pending vote only once a note with their present count was served

-- how many changes files have pending
abbrev pub change_count : Tid → NodeValue → ℕ
change_count tid node = length (changes_in node.servers.files tid)

abbrev pub owes_note : Tid → ServerNo → Work → Bool
owes_note tid server work =
    (same_server server files_no && is_some work.node.setting.audit)
    && (nat_lt 0 (change_count tid work.node)
    && not (tm.told_of tid false (has_noted (change_count tid work.node)) work.node.manager))

-- TID:files@NODE:COUNT
abbrev pub note_text : Tid → NodeNo → ℕ → List ℕ
note_text tid node count =
    decimal tid.home.0 ++ (codes "." ++ (decimal tid.inc ++ (codes "." ++ (decimal tid.seq ++
    (codes ":files@" ++ (decimal node.0 ++ (codes ":" ++ decimal count)))))))

-- Event: Issue_local, Issue or Issue_unmet.
abbrev pub issue_note : Tid → Option NodeNo → Work → Work
issue_note tid None work = work
issue_note tid (Some node) work =
    issue tid files_no (record { node = node; server = audit_no })
    (Note (note_text tid (here work) (change_count tid work.node))) (change_count tid work.node) work

-- ---- votes

-- how many requests the server served, all of which its vote covers
abbrev pub served_count : Tid → ServerNo → Work → ℕ
served_count tid server work = tm.told_of tid 0 (λ part. (member_of part server).served) work.node.manager

-- the vote counts, and its entry stands
abbrev pub enter_vote : Tid → ServerNo → Vote → Work → Work
enter_vote tid server ballot work =
    enter (acts.Vote tid (member_here work server) ballot (served_count tid server work))
    (with_doings tid (λ doings. record doings { voted = true })
    (with_manager (tm.voted tid (member_here work server) ballot (served_count tid server work))
    (change_server server (λ value. after_vote value tid ballot) work)))

-- the changes of a recoverable vote go on the disk in the step of the vote, and count from the next
abbrev pub log_prepare : Tid → ServerNo → Work → Work
log_prepare tid server work =
    log (records.Prepare tid server (served_count tid server work) (changes_in (server_at work.node.servers server) tid))
    (with_doings tid (λ doings. record doings { prepared = true }) work)

abbrev pub log_vote : Vote → Tid → ServerNo → Work → Work
log_vote (votes.Abort reason) tid server work = work
log_vote votes.ReadOnly tid server work = work
log_vote votes.Volatile tid server work = work
log_vote votes.Recoverable tid server work = log_prepare tid server work

-- Event: Vote_abort; Vote_read; Vote_volatile; Vote_recoverable.
abbrev pub vote_with : Tid → ServerNo → Vote → Work → Work
vote_with tid server ballot work = log_vote ballot tid server (enter_vote tid server ballot work)

-- the bytes that a Prepare takes beside its own
abbrev pub vote_frame : Work → ℕ
vote_frame work = batch_frame + work.node.setting.extra + work.node.setting.keep

abbrev pub vote_next : Tid → Work → ServerNo → Work
vote_next tid work server =
    if owes_note tid server work then issue_note tid work.node.setting.audit work
    else vote_with tid server (vote_of (server_at work.node.servers server) tid work.room (vote_frame work)) work

abbrev pub due_votes : Tid → Work → List ServerNo
due_votes tid work = tm.told_of tid [] (servers_due dues.Vote) work.node.manager

-- in order of numbers
-- Event: none for an ending; for each vote see vote_with.
abbrev pub vote_pass : Tid → Work → Work
vote_pass tid work = fold (vote_next tid) (end_members tid work) (due_votes tid work)
