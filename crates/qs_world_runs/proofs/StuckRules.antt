-- What keeps a node from being ready for a transaction stays so through votes, notes, requests, and whatever else changes what the node keeps of one.
use Rattle.qs_world_runs.proofs.Words.{◌≡◌, ℕ, Bool, true, false, List, [], ◌∷◌, ◌++◌, Option, Some, None, fold, refl, ap, subst, ◌∙◌, if◌then◌else◌, is_at, lookup, remove_entry, same_tid, tid_cmp, ClientNo, NodeNo, ServerNo, Tid, same_node, Delivery, vote_of, changes_in, Answer, Op, Vote, Message, Record, server_at, answer, is_other, log_if, member_here, send, send_each, send_next, tid_of, due_endings, end_member, end_members, learn_member, learners_at, ask_on, enter_issue, is_asked}
use Rattle.qs_world_runs.proofs.Words.{issue_as, issue_away, issue_here, label_of, with_local, Work, client_cmp, here, with_manager, with_queues, due_votes, enter_vote, issue_note, owes_note, served_count, vote_frame, vote_next, vote_pass, vote_with, OpenCommand, Manager, Outstanding, Participant, same_is, note_op, note_request}
use Rattle.qs_base.specs.declared.identifiers.Outcome.{Outcome}
use Rattle.qs_ipc.specs.Ipc as ipc
use Rattle.qs_ipc.specs.Queue.{is_for}
use Rattle.qs_book_journal.specs.declared.entry.Act.TheVariants as acts
use Rattle.qs_ops.specs.declared.vote.Vote.TheVariants as votes
use Rattle.qs_packet.specs.declared.message.Message.TheVariants as messages
use Rattle.qs_node_step.specs.Requests.{next_number}
use Rattle.qs_node_step.specs.State.{part_of}
use Rattle.qs_tm.specs.Manager as tm
use Rattle.qs_tm.specs.Outcomes as outcome_rules
use Rattle.qs_tm.specs.Participant as participant
use Rattle.qs_world_refine.proofs.Frames.{part_apart}
use Rattle.qs_world_refine.proofs.Maps.{lookup_changed}
use Rattle.qs_world_runs.proofs.Onward.{IsStuck, Onward, issued_onward, logged_onward, onward_itself, onward_on, sent_onward, settled_onward, stuck_on, voted_onward}
use Rattle.qs_record.specs.declared.record.Record.TheVariants as records

-- what is kept of the transaction after a rule goes on from what was
pub record Kept (t : Tid) (work new : Work) (part : Participant) : Type 0 where
  pub next : Participant
  pub known : part_of t new ≡ Some next
  pub onward : Onward part next
  pub setting : new.node.setting ≡ work.node.setting

-- in any case
abbrev pub Keeps : Tid → Work → Work → Type 0
Keeps t work new = (part : Participant) → part_of t work ≡ Some part → Kept t work new part

-- where it can't be ready
abbrev pub Sticks : Tid → Work → Work → Type 0
Sticks t work new = (part : Participant) → part_of t work ≡ Some part → IsStuck part → Kept t work new part

kept_on : (t : Tid) (a b c : Work) (part : Participant) (first : Kept t a b part) → Kept t b c first.next → Kept t a c part
kept_on t a b c part first second = record { next = second.next; known = second.known; onward = onward_on part first.next second.next first.onward second.onward; setting = second.setting ∙ first.setting }

pub keeps_on : (t : Tid) (a b c : Work) → Keeps t a b → Keeps t b c → Keeps t a c
keeps_on t a b c first second part known = let one = first part known in kept_on t a b c part one (second one.next one.known)

pub sticks_on : (t : Tid) (a b c : Work) → Sticks t a b → Sticks t b c → Sticks t a c
sticks_on t a b c first second part known stuck = let one = first part known stuck in kept_on t a b c part one (second one.next one.known (stuck_on part one.next one.onward stuck))

pub sticks_of : (t : Tid) (a b : Work) → Keeps t a b → Sticks t a b
sticks_of t a b keeps part known stuck = keeps part known

pub keeps_fold : {X : Type 0} (t : Tid) (f : Work → X → Work) → ((work : Work) (x : X) → Keeps t work (f work x)) → (xs : List X) (work : Work) → Keeps t work (fold f work xs)
keeps_fold t f each [] work = λ part known. record { next = part; known = known; onward = onward_itself part; setting = refl }
keeps_fold t f each (x ∷ xs) work = keeps_on t work (f work x) (fold f (f work x) xs) (each work x) (keeps_fold t f each xs (f work x))

pub sticks_fold : {X : Type 0} (t : Tid) (f : Work → X → Work) → ((work : Work) (x : X) → Sticks t work (f work x)) → (xs : List X) (work : Work) → Sticks t work (fold f work xs)
sticks_fold t f each [] work = λ part known stuck. record { next = part; known = known; onward = onward_itself part; setting = refl }
sticks_fold t f each (x ∷ xs) work = sticks_on t work (f work x) (fold f (f work x) xs) (each work x) (sticks_fold t f each xs (f work x))

module _ (t : Tid) where
  -- ---- single changes

  pub keeps_itself : (work : Work) → Keeps t work work
  keeps_itself work part known = record { next = part; known = known; onward = onward_itself part; setting = refl }

  pub keeps_same : (work new : Work) → new.node.manager ≡ work.node.manager → new.node.setting ≡ work.node.setting → Keeps t work new
  keeps_same work new same setting part known = record { next = part; known = ap (λ (m : Manager). tm.part_of t m) same ∙ known; onward = onward_itself part; setting = setting }

  pub keeps_part : (tid : Tid) (f : Participant → Participant) (work new : Work) → ((p : Participant) → Onward p (f p)) → new.node.manager ≡ tm.with_part tid f work.node.manager → new.node.setting ≡ work.node.setting → Keeps t work new
  keeps_part tid f work new onward changed setting part known = by (same_tid t tid) refl
    where
      own : (k : Tid) → t ≡ k → tm.part_of t (tm.with_part k f work.node.manager) ≡ Some (f part)
      own k is = subst (λ (j : Tid). tm.part_of t (tm.with_part j f work.node.manager) ≡ Some (f part)) is (lookup_changed (is_at (tid_cmp t)) f work.node.manager.known part known)

      by : (b : Bool) → same_tid t tid ≡ b → Kept t work new part
      by true same = record { next = f part; known = ap (λ (m : Manager). tm.part_of t m) changed ∙ own tid (same_is t tid same); onward = onward part; setting = setting }
      by false apart = record { next = part; known = ap (λ (m : Manager). tm.part_of t m) changed ∙ (part_apart t tid f work.node.manager apart ∙ known); onward = onward_itself part; setting = setting }

  pub send_keeps : (to : NodeNo) (message : Message) (work : Work) → Keeps t work (send to message work)
  send_keeps to message work = by (is_other work.node.setting to)
    where
      by : (b : Bool) → Keeps t work (if b then record work { out = record work.out { messages = work.out.messages ++ record { to = to; message = message } ∷ [] } } else work)
      by true = keeps_same work (record work { out = record work.out { messages = work.out.messages ++ record { to = to; message = message } ∷ [] } }) refl refl
      by false = keeps_itself work

  pub sends_keep : (nodes : List NodeNo) (message : Message) (work : Work) → Keeps t work (send_each nodes message work)
  sends_keep nodes message work = keeps_fold t (send_next message) (λ work to. send_keeps to message work) nodes work

  pub answer_keeps : (client : ClientNo) (said : Answer) (work : Work) → Keeps t work (answer client said work)
  answer_keeps client said work = by (lookup (is_at (client_cmp client)) work.node.commands)
    where
      by : (o : Option OpenCommand) → Keeps t work (elim o [
        | None ↦ work
        | Some command ↦ record work {
          node = record work.node { commands = remove_entry (is_at (client_cmp client)) work.node.commands };
          out = record work.out {
            answers = work.out.answers ++ record { client = client; answer = record { line = command.line.line; answer = said } } ∷ [];
            entries = work.out.entries ++ acts.Answer client command.line.line said ∷ [];
          };
        }
      ])
      by None = keeps_itself work
      by (Some command) = λ part known. record { next = part; known = known; onward = onward_itself part; setting = refl }

  pub log_keeps : (o : Option Record) (work : Work) → Keeps t work (log_if o work)
  log_keeps None work = keeps_itself work
  log_keeps (Some rec) work = keeps_part (tid_of rec) (outcome_rules.logged rec) work (log_if (Some rec) work) (logged_onward rec) refl refl

  pub end_keeps : (tid : Tid) (work : Work) → Keeps t work (end_members tid work)
  end_keeps tid work = keeps_fold t (end_member tid) (λ work server. keeps_part tid (outcome_rules.settled server) work (end_member tid work server) (settled_onward server) refl refl) (due_endings tid work) work

  pub learn_keeps : (tid : Tid) (outcome : Outcome) (work : Work) → Keeps t work (fold (learn_member tid outcome) work (learners_at tid work))
  learn_keeps tid outcome work = keeps_fold t (learn_member tid outcome) (λ work server. keeps_part tid (outcome_rules.settled server) work (learn_member tid outcome work server) (settled_onward server) refl refl) (learners_at tid work) work

  -- ---- requests

  here_keeps : (tid : Tid) (request : Outstanding) (op : Op) (work : Work) → Keeps t work (issue_here tid request op work)
  here_keeps tid request op work = by (is_for request.member.server op)
    where
      d : Delivery
      d = record { tid = tid; from = here work; number = request.number; op = op; stale = false }

      issued : Work
      issued = with_local tid request.number (enter_issue tid request op work)

      by : (b : Bool) → Keeps t work (if b then with_queues (ipc.enqueue request.member.server d) issued else issued)
      by true = keeps_part tid (participant.issued request) work (with_queues (ipc.enqueue request.member.server d) issued) (issued_onward request) refl refl
      by false = keeps_part tid (participant.issued request) work issued (issued_onward request) refl refl

  asks_keep : (b : Bool) (tid : Tid) (to : NodeNo) (work : Work) → Keeps t work (ask_on b tid to work)
  asks_keep true tid to work = send_keeps to (messages.AskVote tid) work
  asks_keep false tid to work = keeps_itself work

  -- what follows once it is counted as sent
  pub goes_out : (tid : Tid) (request : Outstanding) (op : Op) (work : Work) → Keeps t (with_manager (tm.sent tid request.member.node) (enter_issue tid request op work)) (issue_away tid request op work)
  goes_out tid request op work =
      keeps_on t counted said (issue_away tid request op work) (send_keeps request.member.node (messages.Request tid (label_of tid work.node) request.member request.number request.issuer op) counted)
      (asks_keep (is_asked tid work) tid request.member.node said)
    where
      counted : Work
      counted = with_manager (tm.sent tid request.member.node) (enter_issue tid request op work)

      said : Work
      said = send request.member.node (messages.Request tid (label_of tid work.node) request.member request.number request.issuer op) counted

  away_keeps : (tid : Tid) (request : Outstanding) (op : Op) (work : Work) → Keeps t work (issue_away tid request op work)
  away_keeps tid request op work =
      keeps_on t work entered (issue_away tid request op work) (keeps_part tid (participant.issued request) work entered (issued_onward request) refl refl)
      (keeps_on t entered counted (issue_away tid request op work) (keeps_part tid (participant.sent request.member.node) entered counted (sent_onward request.member.node) refl refl) (goes_out tid request op work))
    where
      entered : Work
      entered = enter_issue tid request op work

      counted : Work
      counted = with_manager (tm.sent tid request.member.node) entered

  pub issue_keeps : (tid : Tid) (request : Outstanding) (op : Op) (work : Work) → Keeps t work (issue_as tid request op work)
  issue_keeps tid request op work = by (same_node request.member.node (here work))
    where
      by : (b : Bool) → Keeps t work (if b then issue_here tid request op work else issue_away tid request op work)
      by true = here_keeps tid request op work
      by false = away_keeps tid request op work

  -- ---- a vote pass

  note_keeps : (tid : Tid) (o : Option NodeNo) (work : Work) → Keeps t work (issue_note tid o work)
  note_keeps tid None work = keeps_itself work
  note_keeps tid (Some node) work = by (next_number tid node work)
    where
      by : (o : Option ℕ) → Keeps t work (elim o [ None ↦ work | Some number ↦ issue_as tid (note_request tid node number work) (note_op tid work) work ])
      by None = keeps_itself work
      by (Some number) = issue_keeps tid (note_request tid node number work) (note_op tid work) work

  entered_keeps : (tid : Tid) (server : ServerNo) (ballot : Vote) (work : Work) → Keeps t work (enter_vote tid server ballot work)
  entered_keeps tid server ballot work = keeps_part tid (participant.voted (member_here work server) ballot (served_count tid server work)) work (enter_vote tid server ballot work) (voted_onward (member_here work server) ballot (served_count tid server work)) refl refl

  vote_keeps : (tid : Tid) (server : ServerNo) (ballot : Vote) (work : Work) → Keeps t work (vote_with tid server ballot work)
  vote_keeps tid server (votes.Abort reason) work = entered_keeps tid server (votes.Abort reason) work
  vote_keeps tid server votes.ReadOnly work = entered_keeps tid server votes.ReadOnly work
  vote_keeps tid server votes.Volatile work = entered_keeps tid server votes.Volatile work
  vote_keeps tid server votes.Recoverable work = keeps_on t work entered (vote_with tid server votes.Recoverable work) (entered_keeps tid server votes.Recoverable work)
      (keeps_part tid (outcome_rules.logged rec) entered (vote_with tid server votes.Recoverable work) (logged_onward rec) refl refl)
    where
      entered : Work
      entered = enter_vote tid server votes.Recoverable work

      rec : Record
      rec = records.Prepare tid server (served_count tid server entered) (changes_in (server_at entered.node.servers server) tid)

  pub next_keeps : (tid : Tid) (work : Work) (server : ServerNo) → Keeps t work (vote_next tid work server)
  next_keeps tid work server = by (owes_note tid server work)
    where
      by : (b : Bool) → Keeps t work (if b then issue_note tid work.node.setting.audit work else vote_with tid server (vote_of (server_at work.node.servers server) tid work.room (vote_frame work)) work)
      by true = note_keeps tid work.node.setting.audit work
      by false = vote_keeps tid server (vote_of (server_at work.node.servers server) tid work.room (vote_frame work)) work

  pub pass_keeps : (tid : Tid) (work : Work) → Keeps t work (vote_pass tid work)
  pass_keeps tid work = keeps_on t work (end_members tid work) (vote_pass tid work) (end_keeps tid work) (keeps_fold t (vote_next tid) (next_keeps tid) (due_votes tid work) (end_members tid work))
