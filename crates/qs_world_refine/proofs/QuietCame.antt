-- Messages that are no events of the machine, or ask for a vote alone: a reply, a refusal, and an AskVote.
use Rattle.qs_world_refine.proofs.Words.{◌≡◌, ℕ, ◌&&◌, not, Bool, true, false, Option, Some, None, refl, ap, ◌∙◌, if◌then◌else◌, is_at, lookup, tid_cmp, ClientNo, Member, NodeNo, Tid, uncovered, is_node, listed, same_node, answer_of, Cause, Reply, is_undecided, is_by_files, Outstanding, Participant, become_asked, asked_by, ask_came, block, refusal_came, pass_unknown, send, answer, reply_came, take_reply, answer_issuer, waits_as, client_of, Work, here, part_of, with_manager, client_cmp, face}
use Rattle.qs_world_refine.proofs.Words.{SightGoes, sight_faced, Scene, sight_during, ShowsWork, IsAt, Goes}
use Rattle.qs_packet.specs.declared.message.Message.TheVariants as messages
use Rattle.qs_tm.specs.Manager as tm
use Rattle.qs_tm.specs.Participant as participant
use Rattle.qs_node_step.specs.Requests.{waiting_at}
use Rattle.qs_world_agree.specs.World.{World}
use Rattle.qs_world_refine.proofs.Alike.{SameFace, found_itself}
use Rattle.qs_world_refine.proofs.Asking as event
use Rattle.qs_world_refine.proofs.During.{Leaves, leaves_itself, leaves_shown, send_leaves, local_shown, face_here, runs}
use Rattle.qs_world_refine.proofs.Frames.{sends_leave}
use Rattle.qs_world_refine.proofs.Keeping.{Keeps, keeps_itself, keeps_on, leaves_keeps, nothing_goes, part_keeps, answer_leaves}
use Rattle.qs_world_refine.proofs.Local.{blocked_sight}
use Rattle.qs_world_refine.proofs.Maps.{lookup_changed}
use Rattle.qs_world_refine.proofs.Reading.{part_known}

-- ---- a reply

issuer_keeps : (tid : Tid) (member : Member) (number : ℕ) (reply : Reply) (client : ClientNo) (work : Work) → Keeps tid work (answer_issuer tid member number reply client work)
issuer_keeps tid member number reply client work = by (waits_as tid member number (lookup (is_at (client_cmp client)) work.node.commands))
  where
    by : (b : Bool) → Keeps tid work (if b then answer client (answer_of reply) work else work)
    by true = leaves_keeps tid work (answer client (answer_of reply) work) (answer_leaves tid client (answer_of reply) work)
    by false = keeps_itself tid work

module _ (tid : Tid) (member : Member) (number : ℕ) (reply : Reply) where
  abbrev dropped : Work → Work
  dropped work = with_manager (tm.drop_waiting tid member number) work

  drop_keeps : (work : Work) → Keeps tid work (dropped work)
  drop_keeps work = part_keeps tid (participant.drop_waiting member number) work
      (λ part. record { is_home = refl; on = refl; superior = refl; last = λ m. refl; sent = λ m. refl; covered = λ m. refl; waits = λ s. refl; uncast = λ s. refl; loans = refl; asked = refl; blocked = refl; involved = refl; told = λ m. refl; outcome = refl; tell = λ m. refl })

  note_keeps : (count : ℕ) (work : Work) → Keeps tid work (with_manager (tm.note_served tid count) work)
  note_keeps count work = part_keeps tid (participant.note_served count) work
      (λ part. record { is_home = refl; on = refl; superior = refl; last = λ m. refl; sent = λ m. refl; covered = λ m. refl; waits = λ s. refl; uncast = λ s. refl; loans = refl; asked = refl; blocked = refl; involved = refl; told = λ m. refl; outcome = refl; tell = λ m. refl })

  taken_keeps : (request : Outstanding) (work : Work) → Keeps tid work (take_reply tid reply request work)
  taken_keeps request work = by (is_by_files request)
    where
      by : (b : Bool) → Keeps tid work (if b then with_manager (tm.note_served tid request.count) work else answer_issuer tid request.member request.number reply (client_of request.issuer) work)
      by true = note_keeps request.count work
      by false = issuer_keeps tid request.member request.number reply (client_of request.issuer) work

  pub reply_keeps : (work : Work) → Keeps tid work (reply_came tid member number reply work)
  reply_keeps work = by (waiting_at tid member number work)
    where
      by : (o : Option Outstanding) → Keeps tid work (elim o [ None ↦ work | Some request ↦ take_reply tid reply request (dropped work) ])
      by None = keeps_itself tid work
      by (Some request) = keeps_on tid work (dropped work) (take_reply tid reply request (dropped work)) (drop_keeps work) (taken_keeps request (dropped work))

-- ---- a refusal: a place that can't be ready any more is stricter than the machine

module _ (tid : Tid) (scene : Scene) (n : ℕ) (cause : Cause) (work : Work) (w : World) (at : IsAt scene n work) (shown : ShowsWork tid scene n work w) where
  abbrev refused : Participant → Participant
  refused part = participant.add_cause cause (participant.refused part)

  block_shown : (part : Participant) → part_of tid work ≡ Some part → ShowsWork tid scene n (block tid cause work) w
  block_shown part known =
      local_shown tid scene n work (block tid cause work) w (record { sends = λ q. refl; logs = λ log. found_itself tid _ })
      (record ((sight_during tid scene n work).face n) { blocked = true })
      (blocked_sight tid (sight_during tid scene n work) w n shown (runs tid scene n work at))
      (rw (before, part_known tid (block tid cause work).node (refused part) after) blocked)
    where
      before : (sight_during tid scene n work).face n ≡ face work.node tid part
      before = face_here tid scene n work ∙ ap (λ (p : Participant). face work.node tid p) (part_known tid work.node part known)

      after : part_of tid (block tid cause work) ≡ Some (participant.add_cause cause (participant.refused part))
      after = lookup_changed (is_at (tid_cmp tid)) (participant.add_cause cause) _ (participant.refused part) (lookup_changed (is_at (tid_cmp tid)) participant.refused work.node.manager.known part known)

      blocked : SameFace (record (face work.node tid part) { blocked = true }) (face (block tid cause work).node tid (participant.add_cause cause (participant.refused part)))
      blocked = record { is_home = refl; on = refl; superior = refl; last = λ m. refl; sent = λ m. refl; covered = λ m. refl; waits = λ s. refl; uncast = λ s. refl; loans = refl; asked = refl; blocked = refl; involved = refl; told = λ m. refl; outcome = refl; tell = λ m. refl }

  pass_leaves : Leaves tid work (pass_unknown tid cause work)
  pass_leaves = by (same_node tid.home (here work))
    where
      by : (b : Bool) → Leaves tid work (if b then work else send tid.home (messages.VotedAbort tid cause) work)
      by true = leaves_itself tid work
      by false = send_leaves tid tid.home (messages.VotedAbort tid cause) work refl

  pub refusal_shown : ShowsWork tid scene n (refusal_came tid cause work) w
  refusal_shown = by (part_of tid work) refl
    where
      kept : (b : Bool) (part : Participant) → part_of tid work ≡ Some part → ShowsWork tid scene n (if b then block tid cause work else work) w
      kept true part known = block_shown part known
      kept false part known = shown

      by : (o : Option Participant) → part_of tid work ≡ o → ShowsWork tid scene n (elim o [ None ↦ pass_unknown tid cause work | Some part ↦ if is_undecided part then block tid cause work else work ]) w
      by None none = leaves_shown tid scene n work (pass_unknown tid cause work) w pass_leaves shown
      by (Some part) known = kept (is_undecided part) part known

-- ---- an AskVote

module _ (tid : Tid) (scene : Scene) (n : ℕ) (work : Work) (w : World) (at : IsAt scene n work) (shown : ShowsWork tid scene n work w) where
  turn : SightGoes tid (sight_faced (sight_during tid scene n work) n (record ((sight_during tid scene n work).face n) { asked = true })) w
  turn = event.ask tid (sight_during tid scene n work) w n shown (runs tid scene n work at)

  module _ (part : Participant) (known : part_of tid work ≡ Some part) where
    asked_shown : ShowsWork tid scene n (with_manager (tm.ask tid) work) turn.next
    asked_shown =
        local_shown tid scene n work (with_manager (tm.ask tid) work) turn.next (record { sends = λ q. refl; logs = λ log. found_itself tid _ })
        (record ((sight_during tid scene n work).face n) { asked = true }) turn.shown
        (rw (before, part_known tid (with_manager (tm.ask tid) work).node (participant.ask part) (lookup_changed (is_at (tid_cmp tid)) participant.ask work.node.manager.known part known)) asked)
      where
        before : (sight_during tid scene n work).face n ≡ face work.node tid part
        before = face_here tid scene n work ∙ ap (λ (p : Participant). face work.node tid p) (part_known tid work.node part known)

        asked : SameFace (record (face work.node tid part) { asked = true }) (face (with_manager (tm.ask tid) work).node tid (participant.ask part))
        asked = record { is_home = refl; on = refl; superior = refl; last = λ m. refl; sent = λ m. refl; covered = λ m. refl; waits = λ s. refl; uncast = λ s. refl; loans = refl; asked = refl; blocked = refl; involved = refl; told = λ m. refl; outcome = refl; tell = λ m. refl }

    pub ask_goes : Goes tid scene n (become_asked tid part work) w
    ask_goes = record {
      next = turn.next;
      leads = turn.leads;
      shown = leaves_shown tid scene n (with_manager (tm.ask tid) work) (become_asked tid part work) turn.next
          (sends_leave tid (listed (uncovered part.engage)) (messages.AskVote tid) (with_manager (tm.ask tid) work) refl) asked_shown;
    }

  pub ask_came_goes : (peer : NodeNo) → Goes tid scene n (ask_came peer tid work) w
  ask_came_goes peer = by (part_of tid work) refl
    where
      superior : (b : Bool) (part : Participant) → part_of tid work ≡ Some part → Goes tid scene n (if b then become_asked tid part work else work) w
      superior true part known = ask_goes part known
      superior false part known = nothing_goes tid scene n work w shown

      open_part : (b : Bool) (part : Participant) → part_of tid work ≡ Some part → Goes tid scene n (if b then asked_by peer tid part work else work) w
      open_part true part known = superior (is_node peer part.engage.superior && (not part.engage.home && not part.asked)) part known
      open_part false part known = nothing_goes tid scene n work w shown

      by : (o : Option Participant) → part_of tid work ≡ o → Goes tid scene n (elim o [ None ↦ work | Some part ↦ if is_undecided part then asked_by peer tid part work else work ]) w
      by None none = nothing_goes tid scene n work w shown
      by (Some part) known = open_part (is_undecided part) part known
