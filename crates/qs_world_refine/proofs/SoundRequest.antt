-- A node stays sound where a request comes: its sender becomes the superior where there is none, and it waits at its server.
use Rattle.qs_world_refine.proofs.Words.{◌≡◌, ℕ, ◌==◌, ◌&&◌, ◌||◌, not, Bool, true, false, Option, Some, None, is_none, is_some, nat_le, nat_lt, refl, sym, ap, subst, ◌∙◌, arith, if◌then◌else◌, list_all, is_at, eqb-true, nat_tests, length-set, tid_cmp, Member, NodeNo, Tid, peer_of, with_last, same_node, Engaged, PeerPart, is_for, Delivery, Op, is_abort, is_undecided, new_participant, Participant, label_at, put_label, cover_from, engage, is_dropped, take_in, NodeValue, Work, here, part_of}
use Rattle.qs_world_refine.proofs.Words.{with_manager, with_queues, node_no, is_sound, fits_setting, is_sound_part, is_sound_peer, is_sound_member, is_sound_superior, is_whole, may_be_served, where_so, and_false}
use Rattle.qs_engage.specs.Nodes.{all_nodes, has_node}
use Rattle.qs_engage.specs.declared.engage.Engage.{Engage}
use Rattle.qs_engage.specs.declared.engage.Engaged.TheVariants as engagements
use Rattle.qs_ipc.specs.Ipc as ipc
use Rattle.qs_packet.specs.declared.message.Message.TheVariants as messages
use Rattle.qs_tm.specs.Manager as tm
use Rattle.qs_tm.specs.Members.{all_servers}
use Rattle.qs_tm.specs.Participant as participant
use Rattle.qs_world_refine.specs.SoundLaws.{RequestCameSound}
use Rattle.qs_world_refine.proofs.Arrays.{peer_put}
use Rattle.qs_world_refine.proofs.Maps.{lookup_changed, lookup_put, changed_none}
use Rattle.qs_world_refine.proofs.StartWorlds.{nobody}
use Rattle.qs_world_refine.proofs.SoundParts.{both_and, all_found, part_sound}
use Rattle.qs_world_refine.proofs.SoundBegin.{all_implied}
use Rattle.qs_world_refine.proofs.SoundRules.{send_node}
use Rattle.qs_world_refine.proofs.SoundCount.{few_nodes, peers_length}
use Rattle.qs_world_refine.proofs.SoundKnown.{label_sound, put_sound, nothing_waits, nothing_lent}
use Rattle.qs_world_refine.proofs.SoundQueued.{enqueue_sound}
use Rattle.qs_world_refine.proofs.SoundViews.{PartSound, is_apart, seen, part_seen, part_as}

-- ---- the sender is, becomes or is not the superior

module _ (tid : Tid) (from : NodeNo) (number : ℕ) (node : NodeValue) (in_run : nat_lt from.0 node.setting.nodes ≡ true) (other : same_node from node.setting.node ≡ false) (small : nat_le node.setting.nodes 16 ≡ true) (part : Participant) where
  abbrev new : Participant
  new = participant.requested from number part

  abbrev last : PeerPart
  last = record (peer_of part.engage from) { last = number }

  abbrev came : Engage
  came = with_last from number part.engage

  -- what is said of the participant, with other engagements
  abbrev with_engage : Engage → Participant
  with_engage e = record part { engage = e }

  -- where there is no superior, elsewhere than at the home, there is one now
  abbrev joined_engage : Engage
  joined_engage = record came { superior = Some from; last_superior = Some from }

  engaged_is : (P : Engage → Type 0) → (part.engage.home ≡ true → P came) → (part.engage.home ≡ false → part.engage.superior ≡ None → P joined_engage)
      → ((superior : NodeNo) → part.engage.home ≡ false → part.engage.superior ≡ Some superior → P came) → P (participant.requested from number part).engage
  engaged_is P home_case new_case old_case = by part.engage.home refl part.engage.superior refl
    where
      by : (h : Bool) → part.engage.home ≡ h → (o : Option NodeNo) → part.engage.superior ≡ o → P (if h then came else elim o [ None ↦ joined_engage | Some superior ↦ came ])
      by true is o so = home_case is
      by false is None so = new_case is so
      by false is (Some superior) so = old_case superior is so

  pub not_apart : is_apart new ≡ false
  not_apart = engaged_is (λ (e : Engage). is_apart (with_engage e) ≡ false) (λ is. rw is refl)
      (λ is so. rw is (and_false (is_undecided part))) (λ superior is so. rw (is, so) (and_false (is_undecided part)))

  module _ (s : PartSound node tid part) where
    -- with the entry of a peer
    abbrev entry_sound : NodeNo → PeerPart → Bool
    entry_sound q entry =
        nat_le entry.covered entry.sent
        && (where_so (nat_lt 0 entry.sent) (part.involved && (nat_lt q.0 node.setting.nodes && not (same_node q node.setting.node)))
        && where_so (has_node part.told q) (nat_lt q.0 node.setting.nodes))

    peer_same : (q : NodeNo) → is_sound_peer node part q ≡ true → is_sound_peer node (with_engage came) q ≡ true
    peer_same q is = by (q.0 == from.0) refl
      where
        now : peer_of came q ≡ (if q.0 == from.0 then last else peer_of part.engage q)
        now = peer_put from.0 q.0 last part.engage (rw (peers_length part s.whole) (grind (arith, nat_tests, in_run, small)))

        by : (b : Bool) → (q.0 == from.0) ≡ b → is_sound_peer node (with_engage came) q ≡ true
        by true same = subst (λ (entry : PeerPart). entry_sound q entry ≡ true) (sym (now ∙ picked same)) (subst (λ (k : ℕ). entry_sound q (peer_of part.engage (node_no k)) ≡ true) (eqb-true q.0 from.0 same) is)
          where
            picked : (q.0 == from.0) ≡ true → (if q.0 == from.0 then last else peer_of part.engage q) ≡ last
            picked is = rw is refl
        by false apart = subst (λ (entry : PeerPart). entry_sound q entry ≡ true) (sym (now ∙ left apart)) is
          where
            left : (q.0 == from.0) ≡ false → (if q.0 == from.0 then last else peer_of part.engage q) ≡ peer_of part.engage q
            left is = rw is refl

    peers_came : list_all (is_sound_peer node (with_engage came)) all_nodes ≡ true
    peers_came = all_implied (is_sound_peer node part) (is_sound_peer node (with_engage came)) peer_same all_nodes s.peers

    whole_came : is_whole (with_engage came) ≡ true
    whole_came = rw (length-set part.engage.peers from.0 last) s.whole

    superior_new : part.engage.home ≡ false → is_sound_superior node (with_engage joined_engage) ≡ true
    superior_new is = rw (is, in_run, other) (grind (arith, nat_tests))

    -- all but what is said of engagements is as before
    abbrev EngageSound : Engage → Type 0
    EngageSound e = (is_whole (with_engage e) ≡ true) × ((list_all (is_sound_peer node (with_engage e)) all_nodes ≡ true) × ((is_sound_superior node (with_engage e) ≡ true) × (e.home ≡ part.engage.home)))

    engaged_sound : EngageSound new.engage
    engaged_sound = engaged_is EngageSound (λ is. (whole_came, (peers_came, (s.superior, refl)))) (λ is so. (whole_came, (peers_came, (superior_new is, refl)))) (λ superior is so. (whole_came, (peers_came, (s.superior, refl))))

    pub requested_sound : PartSound node tid new
    requested_sound = record {
      whole = engaged_sound.0;
      homed = rw engaged_sound.1.1.1 s.homed;
      peers = engaged_sound.1.0;
      members = s.members;
      superior = engaged_sound.1.1.0;
      outside = s.outside;
      idle = rw not_apart refl;
      began = rw engaged_sound.1.1.1 s.began;
      logged = rw engaged_sound.1.1.1 s.logged;
      silent = rw engaged_sound.1.1.1 s.silent;
    }

-- ---- it gets known

peers_new : (node : NodeValue) → list_all (is_sound_peer node (new_participant false)) all_nodes ≡ true
unfolding all_nodes
peers_new node = refl

members_new : list_all (is_sound_member (new_participant false)) all_servers ≡ true
unfolding all_servers
members_new = refl

pub no_pass : not (participant.needs_pass (new_participant false)) ≡ true
unfolding all_servers
no_pass = refl

new_sound : (tid : Tid) (node : NodeValue) → same_node tid.home node.setting.node ≡ false → tm.part_of tid node.manager ≡ None → is_sound node ≡ true → PartSound node tid (new_participant false)
unfolding all_nodes
new_sound tid node away none sound = record {
  whole = refl;
  homed = rw away refl;
  peers = peers_new node;
  members = members_new;
  superior = refl;
  outside = rw (nobody tid.home.0) refl;
  idle = rw (nothing_waits node tid off sound, nothing_lent node tid off sound) no_pass;
  began = refl;
  logged = refl;
  silent = refl;
}
  where
    off : may_be_served node tid ≡ false
    off = ap (λ (o : Option Participant). elim o [ None ↦ false | Some p ↦ is_undecided p || is_abort p.outcome ]) none

-- elsewhere than at the home it is known from now on
unknown_sound : (tid : Tid) (work : Work) → is_sound work.node ≡ true → same_node tid.home (here work) ≡ false → tm.part_of tid work.node.manager ≡ None
    → is_sound (with_manager (λ m. tm.put_part tid (new_participant (tm.is_home tid m)) m) work).node ≡ true
unknown_sound tid work sound away none = rw away_too (put_sound tid (new_participant false) work.node none (new_sound tid work.node away none sound) sound)
  where
    fits : fits_setting work.node ≡ true
    fits = (seen work.node sound).fits

    away_too : same_node tid.home work.node.manager.node ≡ false
    away_too = grind (arith, nat_tests, fits, away)

-- ---- the whole rule

abbrev serves : Participant → Bool
serves part = is_undecided part || is_abort part.outcome

module _ (peer : NodeNo) (tid : Tid) (member : Member) (number : ℕ) (op : Op) (dropped : Bool) where
  abbrev delivery : Delivery
  delivery = record { tid = tid; from = peer; number = number; op = op; stale = false }

  abbrev requested : Work → Work
  requested work = with_manager (tm.requested tid peer number) work

  cover_node : (g : Engaged) (work : Work) → (cover_from g tid peer number work).node ≡ work.node
  cover_node engagements.Superior work = refl
  cover_node engagements.Elsewhere work = send_node peer (messages.Covered tid number) work

  taken_in : (g : Engaged) (work : Work) → is_sound work.node ≡ true → (dropped ≡ false → is_for member.server op ≡ true → is_sound (record work.node { queues = ipc.enqueue member.server delivery work.node.queues }) ≡ true)
      → is_sound (take_in dropped member delivery (cover_from g tid peer number work)).node ≡ true
  taken_in g work sound queued = by dropped refl
    where
      left : is_sound (cover_from g tid peer number work).node ≡ true
      left = subst (λ (n : NodeValue). is_sound n ≡ true) (sym (cover_node g work)) sound

      queue_by : (f : Bool) → is_for member.server op ≡ f → dropped ≡ false
          → is_sound (if f then with_queues (ipc.enqueue member.server delivery) (cover_from g tid peer number work) else cover_from g tid peer number work).node ≡ true
      queue_by true its is = subst (λ (n : NodeValue). is_sound (record n { queues = ipc.enqueue member.server delivery n.queues }) ≡ true) (sym (cover_node g work)) (queued is its)
      queue_by false its is = left

      by : (d : Bool) → dropped ≡ d → is_sound (take_in d member delivery (cover_from g tid peer number work)).node ≡ true
      by true is = left
      by false is = queue_by (is_for member.server op) refl is

  -- once it is known whether the transaction is
  came_sound : (g : Engaged) (work : Work) → nat_lt peer.0 work.node.setting.nodes ≡ true → same_node peer work.node.setting.node ≡ false → is_sound work.node ≡ true
      → (o : Option Participant) → part_of tid work ≡ o → (dropped ≡ false → ◌≡◌ {A = Bool} (elim o [ None ↦ false | Some part ↦ serves part ]) true)
      → is_sound (take_in dropped member delivery (cover_from g tid peer number (requested work))).node ≡ true
  came_sound g work in_run other sound None none can = taken_in g (requested work) same (λ is. let off : false ≡ true = can is in absurd (cc (off)))
    where
      same : is_sound (requested work).node ≡ true
      same = rw (changed_none (is_at (tid_cmp tid)) (participant.requested peer number) work.node.manager.known none) sound
  came_sound g work in_run other sound (Some part) known can = taken_in g (requested work) now (λ is its. enqueue_sound member.server delivery (requested work).node (participant.requested peer number part) found busy (fits is its) now)
    where
      small : nat_le work.node.setting.nodes 16 ≡ true
      small = few_nodes work.node (seen work.node sound).fits

      now : is_sound (requested work).node ≡ true
      now = part_sound tid (participant.requested peer number) work.node part known refl
          (part_as work.node tid (participant.requested peer number part) (requested_sound tid peer number work.node in_run other small part
          (part_seen work.node tid part (all_found tid (is_sound_part work.node) work.node.manager.known part known (seen work.node sound).parts)))) sound

      found : tm.part_of tid (requested work).node.manager ≡ Some (participant.requested peer number part)
      found = lookup_changed (is_at (tid_cmp tid)) (participant.requested peer number) work.node.manager.known part known

      busy : is_apart (participant.requested peer number part) ≡ false
      busy = not_apart tid peer number work.node in_run other small part

      fits : dropped ≡ false → is_for member.server op ≡ true → (is_for member.server op && (may_be_served (requested work).node tid && nat_lt peer.0 work.node.setting.nodes)) ≡ true
      fits is its = both_and (is_for member.server op) _ its (both_and (may_be_served (requested work).node tid) (nat_lt peer.0 work.node.setting.nodes)
          (ap (λ (o : Option Participant). elim o [ None ↦ false | Some p ↦ serves p ]) found ∙ can is) in_run)

  abbrev met_by : Bool → Option Participant → Work → Work
  met_by h o work = if h then work else with_manager (λ m. if is_some o then m else tm.put_part tid (new_participant (tm.is_home tid m)) m) work

  engaged_sound_by : (work : Work) → nat_lt peer.0 work.node.setting.nodes ≡ true → same_node peer work.node.setting.node ≡ false → is_sound work.node ≡ true
      → (h : Bool) → same_node tid.home (here work) ≡ h → (o : Option Participant) → part_of tid work ≡ o → (dropped ≡ false → ◌≡◌ {A = Bool} (elim o [ None ↦ not h | Some part ↦ serves part ]) true)
      → is_sound (take_in dropped member delivery (cover_from (tm.engaged_at tid peer (met_by h o work).node.manager) tid peer number (requested (met_by h o work)))).node ≡ true
  engaged_sound_by work in_run other sound true is o at can = came_sound (tm.engaged_at tid peer work.node.manager) work in_run other sound o at can
  engaged_sound_by work in_run other sound false is None none can =
      came_sound (tm.engaged_at tid peer made.node.manager) made in_run other (unknown_sound tid work sound is none) (Some (new_participant (tm.is_home tid work.node.manager)))
      (lookup_put tid_cmp tid (new_participant (tm.is_home tid work.node.manager)) (grind (arith, nat_tests)) work.node.manager.known) (λ off. refl)
    where
      made : Work
      made = with_manager (λ m. tm.put_part tid (new_participant (tm.is_home tid m)) m) work
  engaged_sound_by work in_run other sound false is (Some part) known can = came_sound (tm.engaged_at tid peer work.node.manager) work in_run other sound (Some part) known can

  pub engage_sound : (work : Work) → nat_lt peer.0 work.node.setting.nodes ≡ true → same_node peer work.node.setting.node ≡ false
      → (dropped ≡ false → ◌≡◌ {A = Bool} (elim (part_of tid work) [ None ↦ not (same_node tid.home (here work)) | Some part ↦ serves part ]) true)
      → is_sound work.node ≡ true → is_sound (take_in dropped member delivery (engage tid peer number work)).node ≡ true
  engage_sound work in_run other can sound = engaged_sound_by work in_run other sound (same_node tid.home (here work)) refl (part_of tid work) refl can

pub request_came_sound : RequestCameSound
request_came_sound peer tid label member number op work in_run other past open_here sound = labelled (is_none (label_at label work.node))
  where
    is_home : Bool
    is_home = same_node tid.home (here work)

    can : is_dropped is_home (part_of tid work) ≡ false → ◌≡◌ {A = Bool} (elim (part_of tid work) [ None ↦ not is_home | Some part ↦ serves part ]) true
    can is = by (part_of tid work) is open_here
      where
        by : (o : Option Participant) → is_dropped is_home o ≡ false → ◌≡◌ {A = Bool} (elim o [ None ↦ true | Some part ↦ serves part ]) true → ◌≡◌ {A = Bool} (elim o [ None ↦ not is_home | Some part ↦ serves part ]) true
        by None off so = rw off refl
        by (Some part) off so = so

    labelled : (b : Bool) → is_sound (take_in (is_dropped is_home (part_of tid work)) member (delivery peer tid member number op (is_dropped is_home (part_of tid work)))
        (engage tid peer number (if b then put_label (record { label = label; tid = Some tid; owner = None }) work else work))).node ≡ true
    labelled true = engage_sound peer tid member number op (is_dropped is_home (part_of tid work)) (put_label (record { label = label; tid = Some tid; owner = None }) work) in_run other can
        (label_sound (record { label = label; tid = Some tid; owner = None }) work past sound)
    labelled false = engage_sound peer tid member number op (is_dropped is_home (part_of tid work)) work in_run other can sound
