-- What a rule changes of one transaction leaves what its node waits for, but where a request is issued, answered for or replied to.
use Rattle.qs_world_runs.proofs.Words.{◌≡◌, ℕ, ◌+◌, ◌==◌, ◌||◌, Bool, true, false, not, List, Option, Some, None, refl, sym, ap, ◌∙◌, if◌then◌else◌, slice_index_or, Member, NodeNo, ServerNo, is_covered, is_open_to, last_number, no_peer, peer_of, Engage, PeerPart, Cause, Vote, Record, class_here, is_told_class, member_of, with_member, Participant, index_alike, LeavesWaits}
use Rattle.qs_base.specs.declared.identifiers.Outcome.{Outcome}
use Rattle.qs_engage.specs.Engage as engage
use Rattle.qs_engage.specs.Engage.{with_last, with_superior}
use Rattle.qs_tm.specs.Outcomes as outcome_rules
use Rattle.qs_tm.specs.Participant as participant

-- ---- what leaves the engagement

pub noted_left : (count : ℕ) → LeavesWaits (participant.note_served count)
noted_left count = record { opens = λ p peer h. h; sent = λ p peer. refl; waiting = λ p. refl; outcome = λ p h. h }

pub voted_left : (member : Member) (vote : Vote) (covers : ℕ) → LeavesWaits (participant.voted member vote covers)
voted_left member vote covers = record { opens = λ p peer h. h; sent = λ p peer. refl; waiting = λ p. refl; outcome = λ p h. h }

pub ask_left : LeavesWaits participant.ask
ask_left = record { opens = λ p peer h. h; sent = λ p peer. refl; waiting = λ p. refl; outcome = λ p h. h }

pub refused_left : LeavesWaits participant.refused
refused_left = record { opens = λ p peer h. h; sent = λ p peer. refl; waiting = λ p. refl; outcome = λ p h. h }

pub cause_left : (cause : Cause) → LeavesWaits (participant.add_cause cause)
cause_left cause = record { opens = λ p peer h. h; sent = λ p peer. refl; waiting = λ p. refl; outcome = λ p h. h }

pub causes_left : LeavesWaits participant.take_causes
causes_left = record { opens = λ p peer h. h; sent = λ p peer. refl; waiting = λ p. refl; outcome = λ p h. h }

pub told_left : (node : NodeNo) → LeavesWaits (participant.add_told node)
told_left node = record { opens = λ p peer h. h; sent = λ p peer. refl; waiting = λ p. refl; outcome = λ p h. h }

pub tell_left : (node : NodeNo) → LeavesWaits (outcome_rules.add_tell node)
tell_left node = record { opens = λ p peer h. h; sent = λ p peer. refl; waiting = λ p. refl; outcome = λ p h. h }

pub acknowledged_left : (peer : NodeNo) → LeavesWaits (outcome_rules.acknowledged peer)
acknowledged_left peer = record { opens = λ p peer h. h; sent = λ p peer. refl; waiting = λ p. refl; outcome = λ p h. h }

pub names_left : (home : NodeNo) (further : List NodeNo) → LeavesWaits (outcome_rules.take_names home further)
names_left home further = record { opens = λ p peer h. h; sent = λ p peer. refl; waiting = λ p. refl; outcome = λ p h. h }

pub settled_left : (server : ServerNo) → LeavesWaits (outcome_rules.settled server)
settled_left server = record { opens = λ p peer h. h; sent = λ p peer. refl; waiting = λ p. refl; outcome = λ p h. h }

pub logged_left : (rec : Record) → LeavesWaits (outcome_rules.logged rec)
logged_left rec = record { opens = λ p peer h. h; sent = λ p peer. refl; waiting = λ p. refl; outcome = λ p h. h }

pub took_left : (outcome : Outcome) → LeavesWaits (outcome_rules.took_outcome outcome)
took_left outcome = record { opens = λ p peer h. h; sent = λ p peer. refl; waiting = λ p. refl; outcome = λ p h. absurd (cc h) }

pub decided_left : (outcome : Outcome) → LeavesWaits (outcome_rules.decided outcome)
decided_left outcome = record { opens = λ p peer h. h; sent = λ p peer. refl; waiting = λ p. refl; outcome = λ p h. absurd (cc h) }

pub released_left : LeavesWaits participant.released
released_left = record { opens = λ p peer h. h; sent = λ p peer. refl; waiting = λ p. refl; outcome = λ p h. h }

pub served_left : (server : ServerNo) → LeavesWaits (participant.served server)
served_left server = record {
  opens = λ p peer h. opens p peer ((member_of p server).served == last_number) h;
  sent = λ p peer. sent p peer ((member_of p server).served == last_number);
  waiting = λ p. waiting p ((member_of p server).served == last_number);
  outcome = λ p h. outcome p ((member_of p server).served == last_number) h;
}
  where
    opens : (p : Participant) (peer : NodeNo) (b : Bool) → is_open_to peer (if b then p else record (with_member server (record (member_of p server) { served = (member_of p server).served + 1; fresh = true }) p) { involved = p.involved || is_told_class (class_here server) }).engage ≡ true → is_open_to peer p.engage ≡ true
    opens p peer true h = h
    opens p peer false h = h

    sent : (p : Participant) (peer : NodeNo) (b : Bool) → (peer_of (if b then p else record (with_member server (record (member_of p server) { served = (member_of p server).served + 1; fresh = true }) p) { involved = p.involved || is_told_class (class_here server) }).engage peer).sent ≡ (peer_of p.engage peer).sent
    sent p peer true = refl
    sent p peer false = refl

    waiting : (p : Participant) (b : Bool) → (if b then p else record (with_member server (record (member_of p server) { served = (member_of p server).served + 1; fresh = true }) p) { involved = p.involved || is_told_class (class_here server) }).waiting ≡ p.waiting
    waiting p true = refl
    waiting p false = refl

    outcome : (p : Participant) (b : Bool) → (if b then p else record (with_member server (record (member_of p server) { served = (member_of p server).served + 1; fresh = true }) p) { involved = p.involved || is_told_class (class_here server) }).outcome ≡ None → p.outcome ≡ None
    outcome p true h = h
    outcome p false h = h

-- ---- what leaves how much was sent to each peer, and what it answered for

-- the number of the last request that came is another
last_covered : (from : NodeNo) (number : ℕ) (e : Engage) (peer : NodeNo) → is_covered (peer_of (with_last from number e) peer) ≡ is_covered (peer_of e peer)
last_covered from number e peer = index_alike is_covered e.peers from.0 peer.0 (record (peer_of e from) { last = number }) no_peer refl

last_sent : (from : NodeNo) (number : ℕ) (e : Engage) (peer : NodeNo) → (peer_of (with_last from number e) peer).sent ≡ (peer_of e peer).sent
last_sent from number e peer = index_alike (λ (p : PeerPart). p.sent) e.peers from.0 peer.0 (record (peer_of e from) { last = number }) no_peer refl

superior_peers : (from : NodeNo) (e : Engage) → (with_superior from e).peers ≡ e.peers
superior_peers from e = by e.home e.superior
  where
    by : (b : Bool) (o : Option NodeNo) → (if b then e else elim o [ None ↦ record e { superior = Some from; last_superior = Some from } | Some superior ↦ e ]).peers ≡ e.peers
    by true o = refl
    by false None = refl
    by false (Some superior) = refl

pub requested_left : (from : NodeNo) (number : ℕ) → LeavesWaits (participant.requested from number)
requested_left from number = record {
  opens = λ p peer h. sym (covered p.engage peer) ∙ h;
  sent = λ p peer. ap (λ (ps : List PeerPart). (slice_index_or ps peer.0 no_peer).sent) (superior_peers from (with_last from number p.engage)) ∙ last_sent from number p.engage peer;
  waiting = λ p. refl;
  outcome = λ p h. h;
}
  where
    covered : (e : Engage) (peer : NodeNo) → is_open_to peer (engage.requested from number e) ≡ is_open_to peer e
    covered e peer = ap (λ (ps : List PeerPart). not (is_covered (slice_index_or ps peer.0 no_peer))) (superior_peers from (with_last from number e)) ∙ ap not (last_covered from number e peer)

pub restarted_left : (peer : NodeNo) → LeavesWaits (participant.restarted peer)
restarted_left from = record {
  opens = λ p peer h. sym (ap not (last_covered from 0 p.engage peer)) ∙ h;
  sent = λ p peer. last_sent from 0 p.engage peer;
  waiting = λ p. refl;
  outcome = λ p h. h;
}
