-- A vote pass changes neither what is decided nor whom the node answers to, and logs nothing but the transaction's own Prepares; nor do an answer to the superior and refusals.
use Rattle.qs_world_refine.proofs.Words.{◌≡◌, ℕ, ◌+◌, ◌==◌, Bool, true, false, List, [], ◌∷◌, ◌++◌, Option, Some, None, fold, refl, sym, ◌∙◌, if◌then◌else◌, is_at, tid_cmp, NodeNo, ServerNo, Tid, peer_of, last_number, same_node, is_for, vote_of, changes_in, Op, Note, Vote, Message, Record, server_at, audit_no, files_no, Outstanding, Participant, is_other, send, member_here, end_member, end_members, due_endings, enter_issue, with_local, issue_as, issue_here, issue_away, next_number, is_asked}
use Rattle.qs_world_refine.proofs.Words.{ask_on, label_of, is_pass_due, pass_rule, Work, here, part_of, with_manager, with_queues, owes_note, issue_note, note_text, change_count, served_count, enter_vote, vote_with, vote_next, vote_frame, due_votes, vote_pass}
use Rattle.qs_engage.specs.Engage as engage
use Rattle.qs_engage.specs.declared.engage.Engage.{Engage}
use Rattle.qs_ipc.specs.Ipc as ipc
use Rattle.qs_ops.specs.declared.vote.Vote.TheVariants as votes
use Rattle.qs_packet.specs.declared.message.Message.TheVariants as messages
use Rattle.qs_record.specs.declared.record.Record.TheVariants as records
use Rattle.qs_tm.specs.Manager as tm
use Rattle.qs_tm.specs.Outcomes as outcome_rules
use Rattle.qs_tm.specs.Participant as participant
use Rattle.qs_world_refine.proofs.Maps.{lookup_changed}

pub record Carried (tid : Tid) (work new : Work) (part : Participant) : Type 0 where
  pub next : Participant
  pub known : part_of tid new ≡ Some next
  pub outcome : next.outcome ≡ part.outcome
  pub superior : (m : NodeNo) → next.engage.superior ≡ Some m → part.engage.superior ≡ Some m
  pub unprepared : next.log.prepared ≡ false → (part.log.prepared ≡ false) × (new.out.records ≡ work.out.records)

abbrev pub Carries : Tid → Work → Work → Type 0
Carries tid work new = (part : Participant) → part_of tid work ≡ Some part → Carried tid work new part

pub carries_itself : (tid : Tid) (work : Work) → Carries tid work work
carries_itself tid work part known = record { next = part; known = known; outcome = refl; superior = λ m has. has; unprepared = λ is. (is, refl) }

pub carries_on : (tid : Tid) (a b c : Work) → Carries tid a b → Carries tid b c → Carries tid a c
carries_on tid a b c first second part known =
    let one = first part known in
    let two = second one.next one.known in
    record {
      next = two.next;
      known = two.known;
      outcome = two.outcome ∙ one.outcome;
      superior = λ m has. one.superior m (two.superior m has);
      unprepared = λ is. ((one.unprepared (two.unprepared is).0).0, (two.unprepared is).1 ∙ (one.unprepared (two.unprepared is).0).1);
    }

pub carries_each : {X : Type 0} (tid : Tid) (f : Work → X → Work) → ((work : Work) (x : X) → Carries tid work (f work x)) → (xs : List X) (work : Work) → Carries tid work (fold f work xs)
carries_each tid f each [] work = carries_itself tid work
carries_each tid f each (x ∷ xs) work = carries_on tid work (f work x) (fold f (f work x) xs) (each work x) (carries_each tid f each xs (f work x))

-- ---- messages

pub carries_send : (tid : Tid) (to : NodeNo) (message : Message) (work : Work) → Carries tid work (send to message work)
carries_send tid to message work = by (is_other work.node.setting to)
  where
    by : (b : Bool) → Carries tid work (if b then record work { out = record work.out { messages = work.out.messages ++ record { to = to; message = message } ∷ [] } } else work)
    by true part known = record { next = part; known = known; outcome = refl; superior = λ m has. has; unprepared = λ is. (is, refl) }
    by false part known = carries_itself tid work part known

-- ---- votes

module _ (tid : Tid) where
  ends_carry : (work : Work) (server : ServerNo) → Carries tid work (end_member tid work server)
  ends_carry work server part known = record {
    next = outcome_rules.settled server part;
    known = lookup_changed (is_at (tid_cmp tid)) (outcome_rules.settled server) work.node.manager.known part known;
    outcome = refl;
    superior = λ m has. has;
    unprepared = λ is. (is, refl);
  }

  entered_carries : (server : ServerNo) (ballot : Vote) (work : Work) → Carries tid work (enter_vote tid server ballot work)
  entered_carries server ballot work part known = record {
    next = participant.voted (member_here work server) ballot (served_count tid server work) part;
    known = lookup_changed (is_at (tid_cmp tid)) (participant.voted (member_here work server) ballot (served_count tid server work)) work.node.manager.known part known;
    outcome = refl;
    superior = λ m has. has;
    unprepared = λ is. (is, refl);
  }

  vote_carries : (server : ServerNo) (ballot : Vote) (work : Work) → Carries tid work (vote_with tid server ballot work)
  vote_carries server (votes.Abort reason) work = entered_carries server (votes.Abort reason) work
  vote_carries server votes.ReadOnly work = entered_carries server votes.ReadOnly work
  vote_carries server votes.Volatile work = entered_carries server votes.Volatile work
  vote_carries server votes.Recoverable work = carries_on tid work entered (vote_with tid server votes.Recoverable work) (entered_carries server votes.Recoverable work) prepares
    where
      entered : Work
      entered = enter_vote tid server votes.Recoverable work

      rec : Record
      rec = records.Prepare tid server (served_count tid server entered) (changes_in (server_at entered.node.servers server) tid)

      prepares : Carries tid entered (vote_with tid server votes.Recoverable work)
      prepares part known = record {
        next = outcome_rules.logged rec part;
        known = lookup_changed (is_at (tid_cmp tid)) (outcome_rules.logged rec) entered.node.manager.known part known;
        outcome = refl;
        superior = λ m has. has;
        unprepared = λ is. absurd (cc is);
      }

  -- ---- a note

  here_carries : (request : Outstanding) (op : Op) (work : Work) → Carries tid work (issue_here tid request op work)
  here_carries request op work part known = by (is_for request.member.server op)
    where
      issued : Work
      issued = with_local tid request.number (enter_issue tid request op work)

      by : (b : Bool) → Carried tid work (if b then with_queues (ipc.enqueue request.member.server (record { tid = tid; from = here work; number = request.number; op = op; stale = false })) issued else issued) part
      by true = record {
        next = participant.issued request part;
        known = lookup_changed (is_at (tid_cmp tid)) (participant.issued request) work.node.manager.known part known;
        outcome = refl;
        superior = λ m has. has;
        unprepared = λ is. (is, refl);
      }
      by false = record {
        next = participant.issued request part;
        known = lookup_changed (is_at (tid_cmp tid)) (participant.issued request) work.node.manager.known part known;
        outcome = refl;
        superior = λ m has. has;
        unprepared = λ is. (is, refl);
      }

  away_carries : (request : Outstanding) (op : Op) (work : Work) → Carries tid work (issue_away tid request op work)
  away_carries request op work =
      carries_on tid work sent (issue_away tid request op work) sends
      (carries_on tid sent posted (issue_away tid request op work) (carries_send tid request.member.node message sent) (asks (is_asked tid work)))
    where
      sent : Work
      sent = with_manager (tm.sent tid request.member.node) (enter_issue tid request op work)

      message : Message
      message = messages.Request tid (label_of tid work.node) request.member request.number request.issuer op

      posted : Work
      posted = send request.member.node message sent

      same_superior : (e : Engage) → (engage.sent request.member.node e).superior ≡ e.superior
      same_superior e = by ((peer_of e request.member.node).sent == last_number)
        where
          by : (b : Bool) → (if b then e else engage.with_peer request.member.node (record (peer_of e request.member.node) { sent = (peer_of e request.member.node).sent + 1 }) e).superior ≡ e.superior
          by true = refl
          by false = refl

      sends : Carries tid work sent
      sends part known = record {
        next = participant.sent request.member.node (participant.issued request part);
        known = lookup_changed (is_at (tid_cmp tid)) (participant.sent request.member.node) _ (participant.issued request part)
            (lookup_changed (is_at (tid_cmp tid)) (participant.issued request) work.node.manager.known part known);
        outcome = refl;
        superior = λ m has. sym (same_superior part.engage) ∙ has;
        unprepared = λ is. (is, refl);
      }

      asks : (b : Bool) → Carries tid posted (ask_on b tid request.member.node posted)
      asks true = carries_send tid request.member.node (messages.AskVote tid) posted
      asks false = carries_itself tid posted

  pub issue_as_carries : (request : Outstanding) (op : Op) (work : Work) → Carries tid work (issue_as tid request op work)
  issue_as_carries request op work = by (same_node request.member.node (here work))
    where
      by : (b : Bool) → Carries tid work (if b then issue_here tid request op work else issue_away tid request op work)
      by true = here_carries request op work
      by false = away_carries request op work

  note_carries : (o : Option NodeNo) (work : Work) → Carries tid work (issue_note tid o work)
  note_carries None work = carries_itself tid work
  note_carries (Some node) work = by (next_number tid node work)
    where
      by : (o : Option ℕ) → Carries tid work (elim o [
        | None ↦ work
        | Some number ↦ issue_as tid (record { issuer = files_no; member = record { node = node; server = audit_no }; number = number; count = change_count tid work.node }) (Note (note_text tid (here work) (change_count tid work.node))) work
      ])
      by None = carries_itself tid work
      by (Some number) = issue_as_carries (record { issuer = files_no; member = record { node = node; server = audit_no }; number = number; count = change_count tid work.node }) (Note (note_text tid (here work) (change_count tid work.node))) work

  -- ---- the pass

  next_carries : (work : Work) (server : ServerNo) → Carries tid work (vote_next tid work server)
  next_carries work server = by (owes_note tid server work)
    where
      by : (b : Bool) → Carries tid work (if b then issue_note tid work.node.setting.audit work else vote_with tid server (vote_of (server_at work.node.servers server) tid work.room (vote_frame work)) work)
      by true = note_carries work.node.setting.audit work
      by false = vote_carries server (vote_of (server_at work.node.servers server) tid work.room (vote_frame work)) work

  pub pass_carries : (part : Participant) (work : Work) → Carries tid work (pass_rule tid part work)
  pass_carries part work = by (is_pass_due tid part work)
    where
      by : (b : Bool) → Carries tid work (if b then vote_pass tid work else work)
      by true = carries_on tid work (end_members tid work) (vote_pass tid work) (carries_each tid (end_member tid) ends_carry (due_endings tid work) work) (carries_each tid (vote_next tid) next_carries (due_votes tid work) (end_members tid work))
      by false = carries_itself tid work
