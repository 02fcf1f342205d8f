-- The clauses of the lawful step: for each kind of entry the first clause that it breaks, by number.
-- `here` is the entry's node, `node` what the machine keeps of it.
use Rattle.std.specs.Prelude.{ℕ, ◌+◌, ◌^◌, ◌-◌, ◌==◌, Bool, true, false, not, ◌&&◌, ◌||◌, List, [], ◌∷◌, ◌++◌, length, Option, Some, None, is_none, is_some, slice_get, nat_lt, nat_le, codes, decimal, if◌then◌else◌}
use Rattle.std.specs.List.{list_any}
use Rattle.std.specs.Map.{lookup}
use Rattle.std.specs.BTreeMap.{is_at}
use Rattle.qs_base.specs.Order.{bytes_cmp, tid_cmp, same_bytes, same_tid}
use Rattle.qs_base.specs.declared.identifiers.Class.{Class}
use Rattle.qs_base.specs.declared.identifiers.Class.TheVariants as classes
use Rattle.qs_base.specs.declared.identifiers.ClientNo.{ClientNo}
use Rattle.qs_base.specs.declared.identifiers.Member.{Member}
use Rattle.qs_base.specs.declared.identifiers.NodeNo.{NodeNo}
use Rattle.qs_base.specs.declared.identifiers.Outcome.{Outcome}
use Rattle.qs_base.specs.declared.identifiers.Outcome.TheVariants as outcomes
use Rattle.qs_base.specs.declared.identifiers.Tid.{Tid}
use Rattle.qs_ops.specs.Alike.{same_reply, same_cause}
use Rattle.qs_ops.specs.Members.{class_of, is_two_phase, learns_outcome}
use Rattle.qs_ops.specs.Operations.{server_of}
use Rattle.qs_ops.specs.Spelled.{prepare_length}
use Rattle.qs_ops.specs.declared.answer.Answer.{Answer}
use Rattle.qs_ops.specs.declared.answer.Answer.TheVariants as answers
use Rattle.qs_ops.specs.declared.answer.Cause.{Cause}
use Rattle.qs_ops.specs.declared.answer.Cause.TheVariants as causes
use Rattle.qs_ops.specs.declared.operation.Op.{Op}
use Rattle.qs_ops.specs.declared.operation.Op.TheVariants.{Put, Append, Del, Get, Note}
use Rattle.qs_ops.specs.declared.reply.Reply.{Reply}
use Rattle.qs_ops.specs.declared.reply.Reply.TheVariants as replies
use Rattle.qs_ops.specs.declared.vote.Reason.TheVariants as reasons
use Rattle.qs_ops.specs.declared.vote.Vote.{Vote}
use Rattle.qs_ops.specs.declared.vote.Vote.TheVariants as votes
use Rattle.qs_book_journal.specs.declared.entry.CrashCause.{CrashCause}
use Rattle.qs_book_journal.specs.declared.entry.CrashCause.TheVariants as crashes
use Rattle.qs_ops.specs.Table.{TableValue, is_due, reply_to, share_of, has_changes, view_bytes, least_taken, changes_name}
use Rattle.qs_ops.specs.Timers.{timer_reply_to}
use Rattle.qs_ops.specs.Servers.{files_no, audit_no, names_no, timers_no, windows_no, scratch_no, extra_no, client_no, is_client_no}
use Rattle.qs_book_machine.specs.Transaction.{TransactionValue, is_open, is_commit, is_abort, is_outcome, part_of, is_crossed, sent_in, sent_on, next_number, standing_request, has_note, is_gone, is_covering, has_refusal, borrower, has_loan, is_loan_due, is_unanimous, is_let_go, may_learn_still, learnt_abort}
use Rattle.qs_book_machine.specs.declared.transaction.Link.{Link}
use Rattle.qs_book_machine.specs.declared.transaction.Noted.{Noted}
use Rattle.qs_book_machine.specs.declared.transaction.Part.{Part}
use Rattle.qs_book_machine.specs.declared.transaction.Request.{Request}
use Rattle.qs_book_machine.specs.Nodes.{NodeValue, extra_of, keep_of, table_of, record_of, is_doubtful}
use Rattle.qs_book_machine.specs.declared.state.Owner.{Owner}

-- ---- begin

-- 10 next identifier: begun here, in this incarnation, with the next number of it
abbrev pub is_next_tid : ℕ → NodeValue → Tid → Bool
is_next_tid here node tid = (tid.home.0 == here) && ((tid.inc == node.inc) && (tid.seq == node.begun + 1))

-- 11 fresh label: no earlier begin has it
abbrev pub is_fresh : List (List ℕ × Tid) → List ℕ → Bool
is_fresh labels label = is_none (lookup (is_at (bytes_cmp label)) labels)

abbrev pub broken_begin : ℕ → NodeValue → List (List ℕ × Tid) → Tid → List ℕ → Option ℕ
broken_begin here node labels tid label =
    if not (is_next_tid here node tid) then Some 10
    else if not (is_fresh labels label) then Some 11
    else None

-- ---- issue

abbrev pub link_to : ℕ → Member → Link
link_to from member = record { from = record { 0 = from }; to = member.node }

-- the operation is one of that member's
abbrev pub is_for : Op → Member → Bool
is_for op member = elim (server_of op) [ None ↦ false | Some server ↦ server.0 == member.server.0 ]

-- 20 issue numbering: not committed, the next number, an operation of that member, at a node of the run
abbrev pub is_numbered : ℕ → NodeValue → ℕ → TransactionValue → Member → ℕ → Op → Bool
is_numbered here node nodes tx member number op =
    not (is_commit tx.cell) && ((number == next_number tx (link_to here member) node.inc)
    && (is_for op member && nat_lt member.node.0 nodes))

-- a client of this node, as the one who issues
abbrev pub is_client_here : ℕ → Member → Bool
is_client_here here issuer = (issuer.node.0 == here) && is_client_no issuer.server.0

-- files of this node, as the one who issues
abbrev pub is_files_here : ℕ → Member → Bool
is_files_here here issuer = (issuer.node.0 == here) && (issuer.server.0 == files_no)

-- the client of that server number
abbrev pub is_owner_of : ℕ → Option ClientNo → Bool
is_owner_of server None = false
is_owner_of server (Some owner) = client_no owner.0 == server

-- 21 client may issue: the owner at the home before it asks and before the decision, ..
abbrev pub may_issue_as_owner : ℕ → Tid → TransactionValue → Member → Bool
may_issue_as_owner here tid tx issuer =
    (is_owner_of issuer.server.0 tx.owner && (tid.home.0 == here)) && (is_open tx.cell && is_none tx.asked)

-- .. or a borrower with a standing loan of this incarnation, where no member learnt abort in it
abbrev pub may_issue_as_borrower : NodeValue → TransactionValue → Member → Bool
may_issue_as_borrower node tx issuer = has_loan tx issuer node.inc && not (learnt_abort tx issuer.node node.inc)

abbrev pub may_issue : ℕ → NodeValue → Tid → TransactionValue → Member → Bool
may_issue here node tid tx issuer =
    is_client_here here issuer && (may_issue_as_owner here tid tx issuer || may_issue_as_borrower node tx issuer)

-- TID:files@NODE:COUNT
abbrev pub note_text : Tid → ℕ → ℕ → List ℕ
note_text tid here count =
    decimal tid.home.0 ++ (codes "." ++ (decimal tid.inc ++ (codes "." ++ (decimal tid.seq ++
    (codes ":files@" ++ (decimal here ++ (codes ":" ++ decimal count)))))))

abbrev pub is_note : List ℕ → Op → Bool
is_note text (Note said) = same_bytes said text
is_note text _ = false

-- that note, issued by files here in this incarnation
abbrev pub note_here : ℕ → NodeValue → List ℕ → Noted
note_here here node text = record { node = record { 0 = here }; inc = node.inc; text = text }

-- the pending changes of the transaction at files here
abbrev pub files_count : ℕ → NodeValue → TransactionValue → ℕ
files_count here node tx = (part_of tx (record { node = record { 0 = here }; server = record { 0 = files_no } }) node.inc).pending

-- 22 audit note due: commit was asked for, and the note tells how many changes files here holds;
-- no such note that files issued in this incarnation was served
abbrev pub is_note_due : ℕ → NodeValue → Tid → TransactionValue → Op → Bool
is_note_due here node tid tx op =
    (is_some tx.asked && nat_lt 0 (files_count here node tx))
    && (is_note (note_text tid here (files_count here node tx)) op
    && not (has_note tx (note_here here node (note_text tid here (files_count here node tx)))))

abbrev pub broken_issuer : ℕ → NodeValue → Tid → TransactionValue → Member → Op → Option ℕ
broken_issuer here node tid tx issuer op =
    if is_files_here here issuer then (if is_note_due here node tid tx op then None else Some 22)
    else if may_issue here node tid tx issuer then None
    else Some 21

abbrev pub broken_issue : ℕ → NodeValue → ℕ → Tid → Option TransactionValue → Member → Member → ℕ → Op → Option ℕ
broken_issue here node nodes tid None issuer member number op = Some 20
broken_issue here node nodes tid (Some tx) issuer member number op =
    if is_numbered here node nodes tx member number op then broken_issuer here node tid tx issuer op else Some 20

-- ---- serve

-- the standing request of that number, from that node to that member, which is here
abbrev pub request_here : ℕ → TransactionValue → Member → ℕ → ℕ → Option Request
request_here here tx member from number =
    if member.node.0 == here
    then standing_request tx (record { link = link_to from member; number = number }) member
    else None

-- the replies that a server has: those that it may give to some operation of its own
abbrev pub has_reply : ℕ → Reply → Bool
has_reply server replies.Done = not (server == extra_no)
has_reply server (replies.Value text) = (server == files_no) || ((server == names_no) || ((server == windows_no) || (server == scratch_no)))
has_reply server (replies.Left ticks) = server == timers_no
has_reply server (replies.Names list) = server == files_no
has_reply server (replies.Notes list) = server == audit_no
has_reply server (replies.Busy holder) = server == files_no
has_reply server replies.Absent = not (server == audit_no) && nat_lt server (client_no 0)
has_reply server replies.TooMany = nat_lt server extra_no
has_reply server replies.TooLong = server == files_no

-- a transaction that is crossed at files may hold any name
abbrev pub holds_as : Option TransactionValue → Member → ℕ → Bool
holds_as None files inc = false
holds_as (Some tx) files inc = is_crossed tx files && (part_of tx files inc).due

abbrev pub may_hold : ℕ → NodeValue → List (Tid × TransactionValue) → Tid → Bool
may_hold here node transactions holder =
    holds_as (lookup (is_at (tid_cmp holder)) transactions)
    (record { node = record { 0 = here }; server = record { 0 = files_no } }) node.inc

-- an operation that another transaction can keep back
abbrev pub takes_lock : Op → Bool
takes_lock (Put name text) = true
takes_lock (Append name text) = true
takes_lock (Del name) = true
takes_lock (Get name) = true
takes_lock _ = false

-- busy with a crossed transaction
abbrev pub is_crossed_busy : ℕ → NodeValue → List (Tid × TransactionValue) → Tid → Op → Reply → Bool
is_crossed_busy here node transactions tid op (replies.Busy holder) =
    (takes_lock op && nat_lt (share_of node.files tid).operations 1024)
    && (not (same_tid holder tid) && may_hold here node transactions holder)
is_crossed_busy here node transactions tid op reply = false

-- the reply of a server's table
abbrev pub is_table_reply : Option TableValue → Tid → Op → Reply → Bool
is_table_reply None tid op reply = false
is_table_reply (Some table) tid op reply = is_due (reply_to table tid op) reply

-- the reply of a server to a transaction that isn't crossed there: its table's; the further server has nothing,
-- and a client takes each loan
abbrev pub is_server_reply : NodeValue → ℕ → Tid → Op → Reply → Bool
is_server_reply node server tid op reply =
    if server == timers_no then is_due (timer_reply_to node.timers tid op) reply
    else if server == extra_no then same_reply replies.Absent reply
    else if is_client_no server then same_reply replies.Done reply
    else is_table_reply (table_of node server) tid op reply

-- 31 reply by the rules; where the transaction is crossed, any that the server has
abbrev pub is_reply : ℕ → NodeValue → List (Tid × TransactionValue) → Tid → TransactionValue → Member → Op → Reply → Bool
is_reply here node transactions tid tx member op reply =
    if is_crossed tx member then has_reply member.server.0 reply
    else is_server_reply node member.server.0 tid op reply
    || ((member.server.0 == files_no) && is_crossed_busy here node transactions tid op reply)

-- 30 serve of a standing issue, 31 reply by the rules, 32 no serve after abort
abbrev pub broken_request : ℕ → NodeValue → List (Tid × TransactionValue) → Tid → TransactionValue → Member → Option Request → Reply → Option ℕ
broken_request here node transactions tid tx member None reply = Some 30
broken_request here node transactions tid tx member (Some request) reply =
    if not (is_reply here node transactions tid tx member request.op reply) then Some 31
    else if learnt_abort tx member.node node.inc then Some 32
    else None

abbrev pub broken_serve : ℕ → NodeValue → List (Tid × TransactionValue) → Tid → Option TransactionValue → Member → ℕ → ℕ → Reply → Option ℕ
broken_serve here node transactions tid None member from number reply = Some 30
broken_serve here node transactions tid (Some tx) member from number reply =
    broken_request here node transactions tid tx member (request_here here tx member from number) reply

-- ---- vote

-- 40 vote is due: a two-phase member here, asked, not committed, something served since its last vote
abbrev pub is_vote_due : ℕ → TransactionValue → Member → Part → Bool
is_vote_due here tx member part =
    (is_two_phase (class_of member.server.0) && (member.node.0 == here))
    && ((is_some tx.asked && not (is_commit tx.cell)) && nat_lt part.voted part.served)

-- a Prepare record of the pending changes with its batch, and the bytes kept for the transaction
abbrev pub prepare_need : NodeValue → TableValue → Tid → ℕ
prepare_need node table tid =
    (41 + extra_of node.format) + (prepare_length (share_of table tid).changes + keep_of node.format)

abbrev pub is_log_full : NodeValue → TableValue → Tid → ℕ → ℕ → Bool
is_log_full node table tid need room = (need == prepare_need node table tid) && nat_lt room need

-- files: read-only exactly with nothing pending; else abort past its quota or its log's room, or recoverable
abbrev pub is_files_vote : NodeValue → Tid → Vote → Bool
is_files_vote node tid votes.ReadOnly = not (has_changes node.files tid)
is_files_vote node tid votes.Recoverable = has_changes node.files tid
is_files_vote node tid (votes.Abort (reasons.Quota bytes limit)) =
    has_changes node.files tid && ((view_bytes node.files tid == bytes) && nat_lt limit bytes)
is_files_vote node tid (votes.Abort (reasons.LogRoom need room)) =
    has_changes node.files tid && is_log_full node node.files tid need room
is_files_vote node tid _ = false

-- audit: the same without a quota
abbrev pub is_audit_vote : NodeValue → Tid → Vote → Bool
is_audit_vote node tid votes.ReadOnly = not (has_changes node.audit tid)
is_audit_vote node tid votes.Recoverable = has_changes node.audit tid
is_audit_vote node tid (votes.Abort (reasons.LogRoom need room)) =
    has_changes node.audit tid && is_log_full node node.audit tid need room
is_audit_vote node tid _ = false

abbrev pub is_name : List ℕ → Option (List ℕ) → Bool
is_name name None = false
is_name name (Some other) = same_bytes name other

-- the least taken name; or one that it has pending and a crossed transaction may have
abbrev pub is_taken_name : NodeValue → Tid → List ℕ → Bool
is_taken_name node tid name =
    is_name name (least_taken node.names tid) || (changes_name name (share_of node.names tid) && is_doubtful node tid name)

abbrev pub is_names_vote : NodeValue → Tid → Vote → Bool
is_names_vote node tid votes.ReadOnly = not (has_changes node.names tid)
is_names_vote node tid votes.Volatile = has_changes node.names tid && is_none (least_taken node.names tid)
is_names_vote node tid (votes.Abort (reasons.Taken name)) = has_changes node.names tid && is_taken_name node tid name
is_names_vote node tid _ = false

-- the further server has nothing pending, ever
abbrev pub is_extra_vote : Vote → Bool
is_extra_vote votes.ReadOnly = true
is_extra_vote _ = false

abbrev pub is_server_vote : NodeValue → ℕ → Tid → Vote → Bool
is_server_vote node server tid vote =
    if server == files_no then is_files_vote node tid vote
    else if server == audit_no then is_audit_vote node tid vote
    else if server == names_no then is_names_vote node tid vote
    else (server == extra_no) && is_extra_vote vote

-- the votes that a server has: of files alone a quota that the bytes pass, of files and audit a room that the need passes
abbrev pub has_vote : ℕ → Vote → Bool
has_vote server votes.ReadOnly = true
has_vote server votes.Volatile = server == names_no
has_vote server votes.Recoverable = (server == files_no) || (server == audit_no)
has_vote server (votes.Abort (reasons.Quota bytes limit)) = (server == files_no) && nat_lt limit bytes
has_vote server (votes.Abort (reasons.LogRoom need room)) = ((server == files_no) || (server == audit_no)) && nat_lt room need
has_vote server (votes.Abort (reasons.Taken name)) = server == names_no
has_vote server (votes.Abort (reasons.Code code)) = false

-- 42 vote by the rules; where the transaction is crossed, any that the server has
abbrev pub is_vote : NodeValue → Tid → TransactionValue → Member → Vote → Bool
is_vote node tid tx member vote =
    if is_crossed tx member then has_vote member.server.0 vote else is_server_vote node member.server.0 tid vote

abbrev pub broken_vote : ℕ → NodeValue → Tid → Option TransactionValue → Member → Vote → ℕ → Option ℕ
broken_vote here node tid None member vote covers = Some 40
broken_vote here node tid (Some tx) member vote covers =
    if not (is_vote_due here tx member (part_of tx member node.inc)) then Some 40
    else if not (is_covering tx member node.inc covers) then Some 41
    else if not (is_vote node tid tx member vote) then Some 42
    else None

-- ---- ask

-- 50 ask once: at the home, open, not asked
abbrev pub may_ask : ℕ → Tid → TransactionValue → Bool
may_ask here tid tx = (tid.home.0 == here) && (is_open tx.cell && is_none tx.asked)

abbrev pub broken_ask : ℕ → Tid → Option TransactionValue → Option ℕ
broken_ask here tid None = Some 50
broken_ask here tid (Some tx) = if may_ask here tid tx then None else Some 50

-- ---- counted

-- 60 counted peer: another node of the run, to which so many requests went from here in this incarnation
abbrev pub may_count : ℕ → NodeValue → ℕ → TransactionValue → NodeNo → ℕ → Bool
may_count here node nodes tx peer up_to =
    (not (peer.0 == here) && nat_lt peer.0 nodes)
    && nat_le up_to (sent_in node.inc (sent_on tx (record { from = record { 0 = here }; to = peer })))

abbrev pub broken_counted : ℕ → NodeValue → ℕ → Option TransactionValue → NodeNo → ℕ → Option ℕ
broken_counted here node nodes None peer up_to = Some 60
broken_counted here node nodes (Some tx) peer up_to = if may_count here node nodes tx peer up_to then None else Some 60

-- ---- decide

-- 70 decide once, at home
abbrev pub may_decide : ℕ → Tid → TransactionValue → Bool
may_decide here tid tx = (tid.home.0 == here) && is_open tx.cell

-- no member of the home voted recoverable
abbrev pub has_no_record : NodeValue → Tid → Bool
has_no_record node tid =
    is_none (record_of node tid files_no) && (is_none (record_of node tid audit_no) && is_none (record_of node tid extra_no))

-- the bytes of a Commit that tells no node, with its batch and what is kept
abbrev pub commit_base : NodeValue → ℕ
commit_base node = 56 + (extra_of node.format + keep_of node.format)

-- the Commit, which tells from one to all other nodes, finds no room
abbrev pub is_room_cause : NodeValue → ℕ → Tid → TransactionValue → ℕ → ℕ → Bool
is_room_cause node nodes tid tx need room =
    (is_unanimous tx && has_no_record node tid)
    && ((nat_lt (commit_base node) need && nat_lt need (commit_base node + nodes)) && nat_lt room need)

-- so many ticks of the home since the begin, the last of them in this step
abbrev pub is_old : NodeValue → TransactionValue → ℕ → ℕ → Bool
is_old node tx stamp age =
    (nat_lt 0 age && (node.timers.ticks == tx.begun_at + age)) && (node.ticked == stamp)

-- the node had that incarnation in this run, and a request to it was open when it restarted, or later
abbrev pub is_gone_cause : Option NodeValue → TransactionValue → NodeNo → ℕ → Bool
is_gone_cause None tx node inc = false
is_gone_cause (Some peer) tx node inc = list_any (λ past. past == inc) peer.past && is_gone tx node peer.inc inc

-- 72 abort has its cause
abbrev pub is_cause : NodeValue → List NodeValue → Tid → TransactionValue → ℕ → Cause → Bool
is_cause node nodes tid tx stamp causes.Asked = is_none tx.asked
is_cause node nodes tid tx stamp (causes.Voted member reason) = has_refusal tx member reason
is_cause node nodes tid tx stamp (causes.Gone peer inc) = is_gone_cause (slice_get nodes peer.0) tx peer inc
is_cause node nodes tid tx stamp (causes.Home inc) = false
is_cause node nodes tid tx stamp (causes.Room need room) = is_room_cause node (length nodes) tid tx need room
is_cause node nodes tid tx stamp (causes.Old age) = is_old node tx stamp age

-- 71 unanimous commit, 72 abort has its cause
abbrev pub broken_outcome : NodeValue → List NodeValue → Tid → TransactionValue → ℕ → Outcome → Option Cause → Option ℕ
broken_outcome node nodes tid tx stamp outcomes.Commit None = if is_unanimous tx then None else Some 71
broken_outcome node nodes tid tx stamp outcomes.Commit (Some cause) = Some 71
broken_outcome node nodes tid tx stamp outcomes.Abort None = Some 72
broken_outcome node nodes tid tx stamp outcomes.Abort (Some cause) = if is_cause node nodes tid tx stamp cause then None else Some 72

abbrev pub broken_decide : ℕ → NodeValue → List NodeValue → Tid → Option TransactionValue → ℕ → Outcome → Option Cause → Option ℕ
broken_decide here node nodes tid None stamp outcome cause = Some 70
broken_decide here node nodes tid (Some tx) stamp outcome cause =
    if may_decide here tid tx then broken_outcome node nodes tid tx stamp outcome cause else Some 70

-- ---- answer

-- 81 answer is the cell: the client owns a transaction with that outcome, and that cause
abbrev pub is_known : Owner → Answer → Bool
is_known owner answers.Committed = owner.committed
is_known owner (answers.Aborted cause) = list_any (same_cause cause) owner.causes
is_known owner _ = true

-- 80 answers in order: the lines of one client rise
abbrev pub broken_answer : Option Owner → ℕ → Answer → Option ℕ
broken_answer None line answer = Some 80
broken_answer (Some owner) line answer =
    if not (nat_lt owner.line line) then Some 80
    else if not (is_known owner answer) then Some 81
    else None

-- ---- loans

-- a client of this node as a member, where a server number stands for it
abbrev pub borrower_at : ClientNo → ℕ → Option Member
borrower_at client here = if nat_lt client.0 224 then Some (borrower client (record { 0 = here })) else None

-- 85 loan follows its lend: the client was asked in this step, and that loan is not made
abbrev pub may_lend : NodeValue → TransactionValue → Option Member → ℕ → Bool
may_lend node tx None stamp = false
may_lend node tx (Some member) stamp = is_loan_due tx member node.inc stamp

abbrev pub broken_loan : ℕ → NodeValue → Option TransactionValue → ClientNo → ℕ → Option ℕ
broken_loan here node None client stamp = Some 85
broken_loan here node (Some tx) client stamp = if may_lend node tx (borrower_at client here) stamp then None else Some 85

-- 88 yield of a standing loan
abbrev pub may_yield : NodeValue → TransactionValue → Option Member → Bool
may_yield node tx None = false
may_yield node tx (Some member) = has_loan tx member node.inc

abbrev pub broken_yield : ℕ → NodeValue → Option TransactionValue → ClientNo → Option ℕ
broken_yield here node None client = Some 88
broken_yield here node (Some tx) client = if may_yield node tx (borrower_at client here) then None else Some 88

-- ---- the end

abbrev pub is_immediate : Class → Bool
is_immediate classes.Immediate = true
is_immediate _ = false

-- 90 ending is due: an immediate member here that served something since its last ending; asked, or aborted
abbrev pub may_end : ℕ → NodeValue → TransactionValue → Member → Bool
may_end here node tx member =
    (is_immediate (class_of member.server.0) && (member.node.0 == here))
    && ((part_of tx member node.inc).due && (is_some tx.asked || is_abort tx.cell))

abbrev pub broken_ending : ℕ → NodeValue → Option TransactionValue → Member → Option ℕ
broken_ending here node None member = Some 90
broken_ending here node (Some tx) member = if may_end here node tx member then None else Some 90

-- 95 learns the cell: a member here that served or kept something since it last learnt
abbrev pub may_learn : ℕ → TransactionValue → Member → Part → Outcome → Bool
may_learn here tx member part outcome =
    (is_outcome outcome tx.cell && (member.node.0 == here)) && (learns_outcome (class_of member.server.0) && part.due)

-- a server of the member's node that could still learn
abbrev pub waits_for : TransactionValue → Member → ℕ → ℕ → Bool
waits_for tx member inc server = may_learn_still (part_of tx (record member { server = record { 0 = server } }) inc)

-- two-phase members learn first, then standard ones, then delayed ones
abbrev pub earlier_servers : Class → List ℕ
earlier_servers classes.Standard = files_no ∷ audit_no ∷ names_no ∷ extra_no ∷ []
earlier_servers classes.Delayed = files_no ∷ audit_no ∷ names_no ∷ extra_no ∷ windows_no ∷ []
earlier_servers _ = []

-- 96 read-only learns nothing, 97 learning order
abbrev pub broken_learn : ℕ → NodeValue → Option TransactionValue → Member → Outcome → Option ℕ
broken_learn here node None member outcome = Some 95
broken_learn here node (Some tx) member outcome =
    if not (may_learn here tx member (part_of tx member node.inc) outcome) then Some 95
    else if is_let_go (part_of tx member node.inc) then Some 96
    else if list_any (waits_for tx member node.inc) (earlier_servers (class_of member.server.0)) then Some 97
    else None

-- ---- crash

-- 100 disk count rose
abbrev pub is_crash : CrashCause → Bool
is_crash (crashes.Disk from to) = nat_lt from to || ((from == 2 ^ 64 - 1) && (to == 2 ^ 64 - 1))
is_crash _ = true

abbrev pub broken_crash : CrashCause → Option ℕ
broken_crash cause = if is_crash cause then None else Some 100
