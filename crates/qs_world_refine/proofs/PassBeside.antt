-- A node whose files issued a note to a server of its own goes on to vote as it would have without the note.
use Rattle.qs_world_refine.proofs.Words.{◌≡◌, inl, ℕ, ◌+◌, ◌-◌, Bool, true, false, List, [], ◌∷◌, ◌++◌, Option, Some, None, refl, sym, subst, ap, ◌∙◌, if◌then◌else◌, is_at, tid_cmp, same_tid, Tid, is_for, Delivery, vote_of, after_vote, changes_in, Op, Vote, Record, ServersValue, server_at, with_server, member_of, Outstanding, Participant, member_here, issue_here, enter_issue, with_local, Work, here, part_of, with_queues, vote_with, enter_vote, served_count, vote_frame, Setting, face, SightGoes}
use Rattle.qs_world_refine.proofs.Words.{sight_faced, Scene, sight_during, ShowsWork, Sight, server_no, IsAt, Goes}
use Rattle.qs_ipc.specs.Ipc as ipc
use Rattle.qs_ops.specs.declared.vote.Vote.TheVariants as votes
use Rattle.qs_record.specs.declared.record.Record.TheVariants as records
use Rattle.qs_tm.specs.Outcomes as outcome_rules
use Rattle.qs_tm.specs.Participant as participant
use Rattle.qs_node_step.specs.Bringing.{record_need, kept_for}
use Rattle.qs_node_step.specs.Voting.{log_prepare}
use Rattle.qs_world_agree.specs.World.{World, with_at}
use Rattle.qs_world_refine.proofs.Alike.{SameFace, found_itself}
use Rattle.qs_world_refine.proofs.Asking as event
use Rattle.qs_world_refine.proofs.During.{Quiet, forced_log, local_shown, face_here, runs}
use Rattle.qs_world_refine.proofs.Known.{told_is}
use Rattle.qs_world_refine.proofs.Maps.{lookup_changed}
use Rattle.qs_world_refine.proofs.PassVotes.{part_after}
use Rattle.qs_world_refine.proofs.Queues.{waits_put}
use Rattle.qs_world_refine.proofs.Reading.{part_known}

-- the first is the second with the request issued, and it waits
pub record Beside (tid : Tid) (request : Outstanding) (d : Delivery) (work bare : Work) (part : Participant) : Type 0 where
  pub setting : work.node.setting ≡ bare.node.setting
  pub servers : work.node.servers ≡ bare.node.servers
  pub kept : work.node.kept ≡ bare.node.kept
  pub queues : work.node.queues ≡ ipc.enqueue request.member.server d bare.node.queues
  pub room : work.room ≡ bare.room
  pub messages : work.out.messages ≡ bare.out.messages
  pub records : work.out.records ≡ bare.out.records
  pub with_request : part_of tid work ≡ Some (participant.issued request part)
  pub without : part_of tid bare ≡ Some part

pub beside_begins : (tid : Tid) (request : Outstanding) (op : Op) (work : Work) (part : Participant) → is_for request.member.server op ≡ true → part_of tid work ≡ Some part
    → Beside tid request (record { tid = tid; from = here work; number = request.number; op = op; stale = false }) (issue_here tid request op work) work part
beside_begins tid request op work part its known = subst (λ (k : Work). Beside tid request d k work part) (sym issue_is) (record {
  setting = refl;
  servers = refl;
  kept = refl;
  queues = refl;
  room = refl;
  messages = refl;
  records = refl;
  with_request = lookup_changed (is_at (tid_cmp tid)) (participant.issued request) work.node.manager.known part known;
  without = known;
})
  where
    d : Delivery
    d = record { tid = tid; from = here work; number = request.number; op = op; stale = false }

    issued : Work
    issued = with_local tid request.number (enter_issue tid request op work)

    issue_is : issue_here tid request op work ≡ with_queues (ipc.enqueue request.member.server d) issued
    issue_is = ap (λ (b : Bool). if b then with_queues (ipc.enqueue request.member.server d) issued else issued) its

module _ (tid : Tid) (request : Outstanding) (d : Delivery) (work bare : Work) (part : Participant) (same : Beside tid request d work bare part) (s : ℕ) where
  count_is : served_count tid (server_no s) work ≡ (member_of part (server_no s)).served
  count_is = told_is tid 0 (λ part. (member_of part (server_no s)).served) work.node.manager (participant.issued request part) same.with_request

  bare_count : served_count tid (server_no s) bare ≡ (member_of part (server_no s)).served
  bare_count = told_is tid 0 (λ part. (member_of part (server_no s)).served) bare.node.manager part same.without

  -- it votes alike
  pub ballot_same : vote_of (server_at work.node.servers (server_no s)) tid work.room (vote_frame work) ≡ vote_of (server_at bare.node.servers (server_no s)) tid bare.room (vote_frame bare)
  ballot_same = rw (same.servers, same.room, same.setting) refl

  module _ (ballot : Vote) where
    abbrev pub voted : Participant
    voted = participant.voted (member_here bare (server_no s)) ballot (member_of part (server_no s)).served part

    entered : Beside tid request d (enter_vote tid (server_no s) ballot work) (enter_vote tid (server_no s) ballot bare) voted
    entered = record {
      setting = same.setting;
      servers = ap (λ (values : ServersValue). with_server (server_no s) (λ value. after_vote value tid ballot) values) same.servers;
      kept = same.kept;
      queues = same.queues;
      room = same.room;
      messages = same.messages;
      records = same.records;
      with_request =
          lookup_changed (is_at (tid_cmp tid)) (participant.voted (member_here work (server_no s)) ballot (served_count tid (server_no s) work)) work.node.manager.known (participant.issued request part) same.with_request
          ∙ (ap (λ (c : ℕ). Some (participant.voted (member_here work (server_no s)) ballot c (participant.issued request part))) count_is
          ∙ ap (λ (setting : Setting). Some (participant.voted (record { node = setting.node; server = server_no s }) ballot (member_of part (server_no s)).served (participant.issued request part))) same.setting);
      without =
          lookup_changed (is_at (tid_cmp tid)) (participant.voted (member_here bare (server_no s)) ballot (served_count tid (server_no s) bare)) bare.node.manager.known part same.without
          ∙ ap (λ (c : ℕ). Some (participant.voted (member_here bare (server_no s)) ballot c part)) bare_count;
    }

-- a Prepare is logged alike
module _ (tid : Tid) (request : Outstanding) (d : Delivery) (work bare : Work) (part : Participant) (same : Beside tid request d work bare part) (s : ℕ) where
  abbrev record_of : Work → Record
  record_of some = records.Prepare tid (server_no s) (served_count tid (server_no s) some) (changes_in (server_at some.node.servers (server_no s)) tid)

  record_same : record_of work ≡ record_of bare
  record_same = rw (count_is tid request d work bare part same s, bare_count tid request d work bare part same s, same.servers) refl

  prepared : Beside tid request d (log_prepare tid (server_no s) work) (log_prepare tid (server_no s) bare) (record part { log = record part.log { unended = true; prepared = true } })
  prepared = record {
    setting = same.setting;
    servers = same.servers;
    kept = same.kept;
    queues = same.queues;
    room = room_same;
    messages = same.messages;
    records = ap (λ (r : Record). work.out.records ++ r ∷ []) record_same ∙ ap (λ (rs : List Record). rs ++ record_of bare ∷ []) same.records;
    with_request = lookup_changed (is_at (tid_cmp tid)) (outcome_rules.logged (record_of work)) work.node.manager.known (participant.issued request part) same.with_request;
    without = lookup_changed (is_at (tid_cmp tid)) (outcome_rules.logged (record_of bare)) bare.node.manager.known part same.without;
  }
    where
      room_same : work.room - record_need work.node.setting (record_of work) - kept_for work.node.setting (part_of tid work) ≡ bare.room - record_need bare.node.setting (record_of bare) - kept_for bare.node.setting (part_of tid bare)
      room_same =
          ap (λ (room : ℕ). room - record_need work.node.setting (record_of work) - kept_for work.node.setting (part_of tid work)) same.room
          ∙ (ap (λ (setting : Setting). bare.room - record_need setting (record_of work) - kept_for setting (part_of tid work)) same.setting
          ∙ (ap (λ (r : Record). bare.room - record_need bare.node.setting r - kept_for bare.node.setting (part_of tid work)) record_same
          ∙ (ap (λ (o : Option Participant). bare.room - record_need bare.node.setting (record_of bare) - kept_for bare.node.setting o) same.with_request
          ∙ sym (ap (λ (o : Option Participant). bare.room - record_need bare.node.setting (record_of bare) - kept_for bare.node.setting o) same.without))))

module _ (tid : Tid) (request : Outstanding) (d : Delivery) (work bare : Work) (part : Participant) (same : Beside tid request d work bare part) (s : ℕ) where
  pub beside_votes : (ballot : Vote) → Beside tid request d (vote_with tid (server_no s) ballot work) (vote_with tid (server_no s) ballot bare) (part_after tid s ballot bare part)
  beside_votes (votes.Abort reason) = entered tid request d work bare part same s (votes.Abort reason)
  beside_votes votes.ReadOnly = entered tid request d work bare part same s votes.ReadOnly
  beside_votes votes.Volatile = entered tid request d work bare part same s votes.Volatile
  beside_votes votes.Recoverable = prepared tid request d (enter_vote tid (server_no s) votes.Recoverable work) (enter_vote tid (server_no s) votes.Recoverable bare) (voted tid request d work bare part same s votes.Recoverable) (entered tid request d work bare part same s votes.Recoverable) s

-- ---- the machine issues the request last: Issue_local

module _ (tid : Tid) (scene : Scene) (n : ℕ) (request : Outstanding) (d : Delivery) (work bare : Work) (part : Participant) (w : World) (same : Beside tid request d work bare part)
    (at : IsAt scene n bare) (its : same_tid tid d.tid ≡ true) (undecided : part.outcome ≡ None) (on : (face bare.node tid part).on ≡ true) (shown : ShowsWork tid scene n bare w) where
  abbrev x : Sight
  x = sight_during tid scene n bare

  abbrev s : ℕ
  s = request.member.server.0

  face_before : x.face n ≡ face bare.node tid part
  face_before = face_here tid scene n bare ∙ ap (λ (p : Participant). face bare.node tid p) (part_known tid bare.node part same.without)

  quiet : Quiet tid bare work
  quiet = record {
    sends = λ q. rw same.messages refl;
    logs = λ log. rw same.records (found_itself tid (forced_log log bare));
  }

  face_waiting : SameFace (record (face bare.node tid part) { waits = with_at (face bare.node tid part).waits s ((face bare.node tid part).waits s + 1) }) (face work.node tid (participant.issued request part))
  face_waiting = record {
    is_home = rw same.setting refl;
    on = rw same.setting refl;
    superior = refl;
    last = λ m. refl;
    sent = λ m. refl;
    covered = λ m. refl;
    waits = λ r. rw same.queues (waits_put tid s r d bare.node.queues its);
    uncast = λ r. refl;
    loans = rw (same.setting, same.kept) refl;
    asked = refl;
    blocked = refl;
    involved = refl;
    told = λ m. refl;
    outcome = refl;
    tell = λ m. refl;
  }

  turn : SightGoes tid (sight_faced x n (record (x.face n) { waits = with_at (x.face n).waits s ((x.face n).waits s + 1) })) w
  turn = event.issue_local tid x w n s shown (runs tid scene n bare at) (inl (rw face_before on))

  pub note_goes : Goes tid scene n work w
  note_goes = record {
    next = turn.next;
    leads = turn.leads;
    shown = local_shown tid scene n bare work turn.next quiet (record (x.face n) { waits = with_at (x.face n).waits s ((x.face n).waits s + 1) }) turn.shown
        (rw (face_before, part_known tid work.node (participant.issued request part) same.with_request) face_waiting);
  }
