-- A request goes to another node that is known: Issue.
use Rattle.qs_world_refine.proofs.Words.{◌≡◌, ◌≢◌, ◌⊎◌, inl, inr, ℕ, ◌+◌, ◌<◌, ◌≤◌, ◌==◌, Bool, true, false, [], ◌∷◌, Some, None, refl, sym, ap, ◌∙◌, arith, if◌then◌else◌, is_at, eqb-true, nat_tests, tid_cmp, Tid, peer_of, last_number, next_sent, PeerPart, Op, Message, Manager, Outstanding, Participant, is_other, send, issue_away, enter_issue, ask_on, is_asked, label_of, NodeValue, Work, part_of, with_manager, Open, Leads, IsLawful, node_no, Requested, said, face, face_at, loans_at, Scene}
use Rattle.qs_world_refine.proofs.Words.{sight_during, ShowsWork, SightGoes, IsAt, IsWhole, IsKnown, Goes, same_Some}
use Rattle.qs_engage.specs.Engage as engage
use Rattle.qs_packet.specs.declared.message.Message.TheVariants as messages
use Rattle.qs_tm.specs.Manager as tm
use Rattle.qs_tm.specs.Participant as participant
use Rattle.qs_world_agree.specs.World.{World, with_at}
use Rattle.qs_world_refine.specs.Seen.{sight_issued}
use Rattle.qs_world_refine.specs.Steps.{Knows}
use Rattle.qs_world_refine.proofs.Alike.{SameFace, found_itself}
use Rattle.qs_world_refine.proofs.Arrays.{peer_put}
use Rattle.qs_world_refine.proofs.During.{Leaves, Quiet, leaves_on, leaves_shown, send_leaves, face_here, runs, meets}
use Rattle.qs_world_refine.proofs.Frames.{out_leaves, part_apart}
use Rattle.qs_world_refine.proofs.EventGoes as event
use Rattle.qs_world_refine.proofs.LogFrames.{Apart}
use Rattle.qs_world_refine.proofs.Maps.{lookup_changed}
use Rattle.qs_world_refine.proofs.Posting.{sent_work, send_is, put_shown}
use Rattle.qs_world_refine.proofs.Reading.{part_known}
use Rattle.qs_world_refine.proofs.Same.{tid_same}

-- ---- the face

-- a node that is sent one request more
abbrev pub issued_part : Tid → Outstanding → Participant → Participant
issued_part tid request part = participant.sent request.member.node (participant.issued request part)

module _ (tid : Tid) (m : ℕ) (request : Outstanding) (node : NodeValue) (manager : Manager) (part : Participant) (whole : IsWhole part) (in_run : m < 16) (to_is : request.member.node ≡ node_no m)
    (left : ((peer_of part.engage (node_no m)).sent == last_number) ≡ false) (undecided : part.outcome ≡ None) where
  abbrev new_part : Participant
  new_part = issued_part tid request part

  engage_is : new_part.engage ≡ engage.with_peer (node_no m) (record (peer_of part.engage (node_no m)) { sent = (peer_of part.engage (node_no m)).sent + 1 }) part.engage
  engage_is = rw (to_is, left) refl

  peer_is : (k : ℕ) → peer_of new_part.engage (node_no k) ≡ (if k == m then record (peer_of part.engage (node_no m)) { sent = (peer_of part.engage (node_no m)).sent + 1 } else peer_of part.engage (node_no k))
  peer_is k = rw engage_is (peer_put m k _ part.engage (rw whole.peers in_run))

  kept : (g : PeerPart → ℕ) → ((e : PeerPart) → g (record e { sent = e.sent + 1 }) ≡ g e) → (k : ℕ) → g (peer_of new_part.engage (node_no k)) ≡ g (peer_of part.engage (node_no k))
  kept g keeps k = ap g (peer_is k) ∙ by (k == m) refl
    where
      by : (b : Bool) → (k == m) ≡ b → g (if b then record (peer_of part.engage (node_no m)) { sent = (peer_of part.engage (node_no m)).sent + 1 } else peer_of part.engage (node_no k)) ≡ g (peer_of part.engage (node_no k))
      by true e = rw (eqb-true k m e) (keeps (peer_of part.engage (node_no m)))
      by false e = refl

  sent_is : (k : ℕ) → (peer_of new_part.engage (node_no k)).sent ≡ with_at (λ n. (peer_of part.engage (node_no n)).sent) m ((peer_of part.engage (node_no m)).sent + 1) k
  sent_is k = ap (λ (e : PeerPart). e.sent) (peer_is k) ∙ by (k == m)
    where
      by : (b : Bool) → (if b then record (peer_of part.engage (node_no m)) { sent = (peer_of part.engage (node_no m)).sent + 1 } else peer_of part.engage (node_no k)).sent ≡ (if b then (peer_of part.engage (node_no m)).sent + 1 else (peer_of part.engage (node_no k)).sent)
      by true = refl
      by false = refl

  superior_is : new_part.engage.superior ≡ part.engage.superior
  superior_is = rw engage_is refl

  pub face_issued : SameFace (record (face node tid part) { sent = with_at (face node tid part).sent m ((face node tid part).sent m + 1); involved = true }) (face (record node { manager = manager }) tid new_part)
  face_issued = record {
    is_home = refl;
    on = rw superior_is refl;
    superior = rw superior_is refl;
    last = kept (λ (e : PeerPart). e.last) (λ e. refl);
    sent = sent_is;
    covered = kept (λ (e : PeerPart). e.covered) (λ e. refl);
    waits = λ s. refl;
    uncast = λ s. refl;
    loans = refl;
    asked = refl;
    blocked = refl;
    involved = refl;
    told = λ k. refl;
    outcome = rw undecided refl;
    tell = λ k. refl;
  }

-- ---- the rule

module _ (tid : Tid) (scene : Scene) (n m : ℕ) (request : Outstanding) (op : Op) (work : Work) (part : Participant) (w : World)
    (at : IsAt scene n work) (in_run : m < scene.size) (other : m ≢ n) (to_is : request.member.node ≡ node_no m)
    (knows : Knows tid work part) (undecided : part.outcome ≡ None) (numbered : next_sent (node_no m) part.engage ≡ Some request.number)
    (may : ((face work.node tid part).on ≡ true) ⊎ (1 ≤ loans_at work.node tid))
    (lawful : IsLawful w) (shown : ShowsWork tid scene n work w) where
  abbrev pub before : Work
  before = with_manager (tm.sent tid request.member.node) (enter_issue tid request op work)

  abbrev pub message : Message
  message = messages.Request tid (label_of tid work.node) request.member request.number request.issuer op

  face_before : (sight_during tid scene n work).face n ≡ face work.node tid part
  face_before = face_here tid scene n work ∙ ap (λ (p : Participant). face work.node tid p) (part_known tid work.node part knows.known)

  pub may_now : (((sight_during tid scene n work).face n).on ≡ true) ⊎ ((((sight_during tid scene n work).face n).outcome ≡ Open) × (1 ≤ ((sight_during tid scene n work).face n).loans))
  may_now = by may
    where
      by : ((face work.node tid part).on ≡ true) ⊎ (1 ≤ loans_at work.node tid) → (((sight_during tid scene n work).face n).on ≡ true) ⊎ ((((sight_during tid scene n work).face n).outcome ≡ Open) × (1 ≤ ((sight_during tid scene n work).face n).loans))
      by (inl on) = inl (rw face_before on)
      by (inr some) = inr (rw (face_before, undecided) (refl, some))

  goes_out : is_other before.node.setting request.member.node ≡ true
  goes_out = rw (at.node, at.nodes, to_is) (grind (arith, nat_tests, other, in_run))

  number_left : ((peer_of part.engage (node_no m)).sent == last_number) ≡ false
  number_left = by ((peer_of part.engage (node_no m)).sent == last_number) refl numbered
    where
      by : (b : Bool) → ((peer_of part.engage (node_no m)).sent == last_number) ≡ b → (if b then None else Some ((peer_of part.engage (node_no m)).sent + 1)) ≡ Some request.number → b ≡ false
      by true e is = absurd (cc is)
      by false e is = refl

  number_is : request.number ≡ (peer_of part.engage (node_no m)).sent + 1
  number_is = by ((peer_of part.engage (node_no m)).sent == last_number) number_left numbered
    where
      by : (b : Bool) → b ≡ false → (if b then None else Some ((peer_of part.engage (node_no m)).sent + 1)) ≡ Some request.number → request.number ≡ (peer_of part.engage (node_no m)).sent + 1
      by true e is = absurd (cc e)
      by false e is = sym (same_Some ((peer_of part.engage (node_no m)).sent + 1) request.number is)

  known_after : part_of tid before ≡ Some (issued_part tid request part)
  known_after =
      lookup_changed (is_at (tid_cmp tid)) (participant.sent request.member.node) _ (participant.issued request part)
      (lookup_changed (is_at (tid_cmp tid)) (participant.issued request) work.node.manager.known part knows.known)

  pub quiet : Quiet tid work before
  quiet = record { sends = λ q. refl; logs = λ log. found_itself tid _ }

  pub same_face : SameFace (record ((sight_during tid scene n work).face n) { sent = with_at ((sight_during tid scene n work).face n).sent m (((sight_during tid scene n work).face n).sent m + 1); involved = true }) (face_at before.node tid)
  same_face = rw (face_before, part_known tid before.node (issued_part tid request part) known_after)
      (face_issued tid m request work.node before.node.manager part knows.whole (omega (arith, in_run, shown.stage.small)) to_is number_left undecided)

  pub request_said : said tid message ≡ Requested (((sight_during tid scene n work).face n).sent m + 1) request.member.server.0 ∷ []
  request_said = rw (tid_same tid, face_before, number_is) refl

  -- what the machine shows once the request was put or waits, the node shows once it also asked for the vote
  pub issued_goes : (v : World) → Leads w v → ShowsWork tid scene n (sent_work request.member.node message before) v → Goes tid scene n (issue_away tid request op work) w
  issued_goes v leads sent = record { next = v; leads = leads; shown = ask_shown (is_asked tid work) (send request.member.node message before) v (rw (send_is request.member.node message before goes_out) sent) }
    where
      ask_shown : (asked : Bool) (sent : Work) (v : World) → ShowsWork tid scene n sent v → ShowsWork tid scene n (ask_on asked tid request.member.node sent) v
      ask_shown false sent v is = is
      ask_shown true sent v is = leaves_shown tid scene n sent (send request.member.node (messages.AskVote tid) sent) v (send_leaves tid request.member.node (messages.AskVote tid) sent refl) is

  module _ (i : ℕ) (peer : IsKnown scene n m i) where
    turn : SightGoes tid (sight_issued (sight_during tid scene n work) n m i request.member.server.0) w
    turn = event.issue tid (sight_during tid scene n work) w n m i request.member.server.0 lawful shown (runs tid scene n work at) (meets tid scene n m i work peer) may_now

    request_shown : ShowsWork tid scene n (sent_work request.member.node message before) turn.next
    request_shown = put_shown tid scene n request.member.node message (Requested (((sight_during tid scene n work).face n).sent m + 1) request.member.server.0) work before turn.next quiet request_said m i (ap (λ (k : Rattle.qs_base.specs.declared.identifiers.NodeNo.NodeNo). k.0) to_is) peer.knows peer.some
        (record ((sight_during tid scene n work).face n) { sent = with_at ((sight_during tid scene n work).face n).sent m (((sight_during tid scene n work).face n).sent m + 1); involved = true })
        turn.shown same_face

    pub issue_goes : Goes tid scene n (issue_away tid request op work) w
    issue_goes = issued_goes turn.next turn.leads request_shown

-- ---- every other transaction

module _ (t tid : Tid) (request : Outstanding) (op : Op) (work : Work) (apart : Apart t tid) where
  abbrev issued_work : Work
  issued_work = with_manager (tm.sent tid request.member.node) (enter_issue tid request op work)

  abbrev sent_message : Work
  sent_message = send request.member.node (messages.Request tid (label_of tid work.node) request.member request.number request.issuer op) issued_work

  changed : Leaves t work issued_work
  changed = out_leaves t work issued_work
      (record {
        around = record { setting = refl; waits = λ s. refl; loans = refl; past = refl };
        part = part_apart t tid (participant.sent request.member.node) (tm.issued tid request work.node.manager) apart ∙ part_apart t tid (participant.issued request) work.node.manager apart;
      })
      refl refl

  requested : Leaves t work sent_message
  requested = leaves_on t work issued_work sent_message changed (send_leaves t request.member.node (messages.Request tid (label_of tid work.node) request.member request.number request.issuer op) issued_work (rw apart refl))

  pub issue_leaves : Leaves t work (issue_away tid request op work)
  issue_leaves = by (is_asked tid work)
    where
      by : (b : Bool) → Leaves t work (ask_on b tid request.member.node sent_message)
      by false = requested
      by true = leaves_on t work sent_message (send request.member.node (messages.AskVote tid) sent_message) requested (send_leaves t request.member.node (messages.AskVote tid) sent_message refl)
