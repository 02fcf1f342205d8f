-- A vote pass is not put off, and notes nothing that would put it off: no server is asked to vote in a step that asked for the commit or served.
use Rattle.qs_world_walk.proofs.Words.{Bool, List, Member, Message, NodeNo, None, Op, Option, Participant, ServerNo, Some, Tid, Work, [], doings_of, end_members, false, fold, here, if◌then◌else◌, is_at, issue_as, lookup, next_number, not}
use Rattle.qs_world_walk.proofs.Words.{refl, same_node, send, subst, sym, true, with_doings, with_manager, with_queues, ℕ, ◌&&◌, ◌++◌, ◌∷◌, ◌≡◌}
use Rattle.std.proofs.Common.{ap, ◌∙◌}
use Rattle.std.proofs.lemmas.Bool.{and_parts, not-true}
use Rattle.std.specs.Prelude.{unwrap_or}
use Rattle.qs_base.specs.Order.{tid_cmp}
use Rattle.qs_ops.specs.Server.{after_vote, vote_of}
use Rattle.qs_ops.specs.declared.operation.Op.TheVariants.{Note}
use Rattle.qs_ops.specs.declared.vote.Vote.{Vote}
use Rattle.qs_book_laws.proofs.Alikes.{tid_itself}
use Rattle.qs_book_laws.proofs.Maps.{lookup_put}
use Rattle.qs_ipc.specs.Queue.{is_for}
use Rattle.qs_tm.specs.Participant.{needs_pass}
use Rattle.qs_tm.specs.declared.participant.Outstanding.{Outstanding}
use Rattle.qs_node_servers.specs.Servers.{audit_no, server_at}
use Rattle.qs_node_step.specs.Bringing.{is_other, member_here}
use Rattle.qs_node_step.specs.Deciding.{due_endings, end_member}
use Rattle.qs_node_step.specs.Requests.{ask_on, enter_issue, is_asked, issue, issue_away, issue_here, label_of, with_local}
use Rattle.qs_node_step.specs.Settling.{is_busy, is_pass_due, is_put_off}
use Rattle.qs_node_step.specs.State.{change_server, no_doings}
use Rattle.qs_node_step.specs.Voting.{change_count, enter_vote, issue_note, log_vote, note_text, owes_note, served_count, vote_frame, vote_next, vote_with}
use Rattle.qs_node_step.specs.declared.state.Doings.{Doings}
use Rattle.qs_ops.specs.declared.vote.Vote.TheVariants as votes
use Rattle.qs_ipc.specs.Ipc as ipc
use Rattle.qs_tm.specs.Manager as tm
use Rattle.qs_tm.specs.Members as members
use Rattle.qs_packet.specs.declared.message.Message.TheVariants as messages

abbrev Same : Work → Work → Type 0
Same work new = new.doings ≡ work.doings

if_same : (b : Bool) (x y work : Work) → Same work x → Same work y → Same work (if b then x else y)
if_same true x y work p q = p
if_same false x y work p q = q

send_same : (to : NodeNo) (message : Message) (work : Work) → Same work (send to message work)
send_same to message work = if_same (is_other work.node.setting to) (record work { out = record work.out { messages = work.out.messages ++ record { to = to; message = message } ∷ [] } }) work work refl refl

here_same : (tid : Tid) (request : Outstanding) (op : Op) (work : Work) → Same work (issue_here tid request op work)
here_same tid request op work = if_same (is_for request.member.server op) (with_queues (ipc.enqueue request.member.server (record { tid = tid; from = here work; number = request.number; op = op; stale = false })) made) made work refl refl
  where
    made : Work
    made = with_local tid request.number (enter_issue tid request op work)

away_same : (tid : Tid) (request : Outstanding) (op : Op) (work : Work) → Same work (issue_away tid request op work)
away_same tid request op work = asks (is_asked tid work) (send request.member.node message made) ∙ send_same request.member.node message made
  where
    made : Work
    made = with_manager (tm.sent tid request.member.node) (enter_issue tid request op work)

    message : Message
    message = messages.Request tid (label_of tid work.node) request.member request.number request.issuer op

    asks : (b : Bool) (w : Work) → Same w (ask_on b tid request.member.node w)
    asks true w = send_same request.member.node (messages.AskVote tid) w
    asks false w = refl

issue_same : (tid : Tid) (issuer : ServerNo) (member : Member) (op : Op) (changes : ℕ) (work : Work) → Same work (issue tid issuer member op changes work)
issue_same tid issuer member op changes work = by (next_number tid member.node work)
  where
    by : (o : Option ℕ) → Same work (elim o [ None ↦ work | Some number ↦ issue_as tid (record { issuer = issuer; member = member; number = number; count = changes }) op work ])
    by None = refl
    by (Some number) = let request : Outstanding = record { issuer = issuer; member = member; number = number; count = changes } in
        if_same (same_node member.node (here work)) (issue_here tid request op work) (issue_away tid request op work) work (here_same tid request op work) (away_same tid request op work)

note_same : (tid : Tid) (o : Option NodeNo) (work : Work) → Same work (issue_note tid o work)
note_same tid None work = refl
note_same tid (Some node) work = issue_same tid members.files_no (record { node = node; server = audit_no }) (Note (note_text tid (here work) (change_count tid work.node))) (change_count tid work.node) work

-- ---- what is noted of a vote

abbrev IsOff : Tid → Work → Type 0
IsOff tid work = is_put_off (doings_of tid work) ≡ false

same_off : (tid : Tid) (work new : Work) → Same work new → IsOff tid work → IsOff tid new
same_off tid work new same off = subst (λ (ds : List (Tid × Doings)). is_put_off (unwrap_or (lookup (is_at (tid_cmp tid)) ds) no_doings) ≡ false) (sym same) off

noted_off : (tid : Tid) (f : Doings → Doings) (work : Work) → ((o : Doings) → is_put_off (f o) ≡ is_put_off o) → IsOff tid work → IsOff tid (with_doings tid f work)
noted_off tid f work same off = ap (λ (o : Option Doings). is_put_off (unwrap_or o no_doings)) (lookup_put tid_cmp tid (f (doings_of tid work)) (tid_itself tid) work.doings) ∙ (same (doings_of tid work) ∙ off)

entered_off : (tid : Tid) (work : Work) (server : ServerNo) (ballot : Vote) → IsOff tid work → IsOff tid (enter_vote tid server ballot work)
entered_off tid work server ballot off =
    noted_off tid (λ doings. record doings { voted = true }) (with_manager (tm.voted tid (member_here work server) ballot (served_count tid server work)) (change_server server (λ value. after_vote value tid ballot) work)) (λ o. refl) off

pub prepared_off : (tid : Tid) (work : Work) (server : ServerNo) → IsOff tid work → IsOff tid (with_doings tid (λ doings. record doings { prepared = true }) (enter_vote tid server votes.Recoverable work))
prepared_off tid work server off = noted_off tid (λ doings. record doings { prepared = true }) (enter_vote tid server votes.Recoverable work) (λ o. refl) (entered_off tid work server votes.Recoverable off)

pub vote_off : (tid : Tid) (work : Work) (server : ServerNo) → IsOff tid work → IsOff tid (vote_next tid work server)
vote_off tid work server off = by (owes_note tid server work)
  where
    ballot : Vote
    ballot = vote_of (server_at work.node.servers server) tid work.room (vote_frame work)

    voted : (b : Vote) → IsOff tid (log_vote b tid server (enter_vote tid server b work))
    voted (votes.Abort reason) = entered_off tid work server (votes.Abort reason) off
    voted votes.ReadOnly = entered_off tid work server votes.ReadOnly off
    voted votes.Volatile = entered_off tid work server votes.Volatile off
    voted votes.Recoverable = prepared_off tid work server off

    by : (b : Bool) → IsOff tid (if b then issue_note tid work.node.setting.audit work else vote_with tid server ballot work)
    by true = same_off tid work (issue_note tid work.node.setting.audit work) (note_same tid work.node.setting.audit work) off
    by false = voted ballot

-- and of the endings that come first
pub ended_off : (tid : Tid) (work : Work) → IsOff tid work → IsOff tid (end_members tid work)
ended_off tid work off = same_off tid work (end_members tid work) (all (due_endings tid work) work) off
  where
    all : (servers : List ServerNo) (w : Work) → Same w (fold (end_member tid) w servers)
    all [] w = refl
    all (s ∷ servers) w = all servers (end_member tid w s)

-- a pass that is due is not put off
pub due_off : (tid : Tid) (part : Participant) (work : Work) → is_pass_due tid part work ≡ true → IsOff tid work
due_off tid part work due = not-true (is_put_off (doings_of tid work)) (and_parts (needs_pass part) _ (and_parts (part.asked && not (is_busy tid work.node part)) _ due).1).1
