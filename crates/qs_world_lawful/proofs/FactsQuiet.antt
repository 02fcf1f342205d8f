-- What a rule changes of one transaction is quiet but for its outcome: who is its home, how many peers there are, and what its log says.
use Rattle.qs_world_lawful.proofs.Words.{◌≡◌, ℕ, ◌+◌, ◌==◌, Bool, true, false, List, [], ◌∷◌, length, Option, Some, None, zero, suc, refl, ap, ◌∙◌, not, ◌||◌, slice_set, if◌then◌else◌, Member, NodeNo, ServerNo, last_number, peer_of, with_last, Engage, PeerPart, Cause, Vote, Record, class_here, is_told_class, is_answered_by, member_of, with_member, Participant, AreNumbered}
use Rattle.qs_engage.specs.Engage as engage
use Rattle.qs_engage.specs.Engage.{with_peer, with_superior}
use Rattle.qs_record.specs.declared.record.Record.TheVariants as records
use Rattle.qs_tm.specs.Outcomes as outcome_rules
use Rattle.qs_tm.specs.Participant as participant
use Rattle.qs_world_lawful.proofs.FactsKept.{IsQuiet}
use Rattle.qs_world_lawful.proofs.Numbers.{as_many_given, fewer_wait, peer_sent}

set_length : {A : Type 0} (xs : List A) (i : ℕ) (x : A) → length (slice_set xs i x) ≡ length xs
set_length [] i x = refl
set_length (y ∷ ys) zero x = refl
set_length (y ∷ ys) (suc i) x = ap suc (set_length ys i x)

-- a change of the engagement alone, that keeps its home and its places
engaged_quiet : (f : Engage → Engage) → ((e : Engage) → (f e).home ≡ e.home) → ((e : Engage) → length (f e).peers ≡ length e.peers) → ((e : Engage) (peer : NodeNo) → (peer_of (f e) peer).sent ≡ (peer_of e peer).sent) → IsQuiet (λ p. record p { engage = f p.engage })
engaged_quiet f home slots sent = record { home = λ p. home p.engage; slots = λ p. slots p.engage; outcome = λ p. refl; logged = λ p h is. h is; numbers = λ p here local h. as_many_given here local p.engage (f p.engage) p.waiting (sent p.engage) h }

peer_slots : (peer : NodeNo) (part : PeerPart) (e : Engage) → length (with_peer peer part e).peers ≡ length e.peers
peer_slots peer part e = set_length e.peers peer.0 part

-- ---- requests

pub dropped_quiet : (member : Member) (number : ℕ) → IsQuiet (participant.drop_waiting member number)
dropped_quiet member number = record { home = λ p. refl; slots = λ p. refl; outcome = λ p. refl; logged = λ p h is. h is; numbers = λ p here local h. fewer_wait here local p.engage (λ request. not (is_answered_by member number request)) p.waiting h }

pub noted_quiet : (count : ℕ) → IsQuiet (participant.note_served count)
noted_quiet count = record { home = λ p. refl; slots = λ p. refl; outcome = λ p. refl; logged = λ p h is. h is; numbers = λ p here local h. h }

pub sent_home : (to : NodeNo) (e : Engage) → (engage.sent to e).home ≡ e.home
sent_home to e = by ((peer_of e to).sent == last_number)
  where
    by : (b : Bool) → (if b then e else with_peer to (record (peer_of e to) { sent = (peer_of e to).sent + 1 }) e).home ≡ e.home
    by true = refl
    by false = refl

pub sent_slots : (to : NodeNo) (e : Engage) → length (engage.sent to e).peers ≡ length e.peers
sent_slots to e = by ((peer_of e to).sent == last_number)
  where
    by : (b : Bool) → length (if b then e else with_peer to (record (peer_of e to) { sent = (peer_of e to).sent + 1 }) e).peers ≡ length e.peers
    by true = refl
    by false = peer_slots to (record (peer_of e to) { sent = (peer_of e to).sent + 1 }) e

pub requested_quiet : (from : NodeNo) (number : ℕ) → IsQuiet (participant.requested from number)
requested_quiet from number = engaged_quiet (engage.requested from number) (λ e. home (with_last from number e) (with_last from number e).home (with_last from number e).superior)
    (λ e. slots (with_last from number e) (with_last from number e).home (with_last from number e).superior ∙ peer_slots from (record (peer_of e from) { last = number }) e)
    (λ e peer. sent (with_last from number e) (with_last from number e).home (with_last from number e).superior peer ∙ peer_sent from (record (peer_of e from) { last = number }) e refl peer)
  where
    home : (e : Engage) (b : Bool) (o : Option NodeNo) → (if b then e else elim o [ None ↦ record e { superior = Some from; last_superior = Some from } | Some superior ↦ e ]).home ≡ e.home
    home e true o = refl
    home e false None = refl
    home e false (Some superior) = refl

    slots : (e : Engage) (b : Bool) (o : Option NodeNo) → length (if b then e else elim o [ None ↦ record e { superior = Some from; last_superior = Some from } | Some superior ↦ e ]).peers ≡ length e.peers
    slots e true o = refl
    slots e false None = refl
    slots e false (Some superior) = refl

    sent : (e : Engage) (b : Bool) (o : Option NodeNo) (peer : NodeNo) → (peer_of (if b then e else elim o [ None ↦ record e { superior = Some from; last_superior = Some from } | Some superior ↦ e ]) peer).sent ≡ (peer_of e peer).sent
    sent e true o peer = refl
    sent e false None peer = refl
    sent e false (Some superior) peer = refl

pub served_quiet : (server : ServerNo) → IsQuiet (participant.served server)
served_quiet server = record {
  home = λ p. home p ((member_of p server).served == last_number);
  slots = λ p. slots p ((member_of p server).served == last_number);
  outcome = λ p. outcome p ((member_of p server).served == last_number);
  logged = λ p h is. logged p ((member_of p server).served == last_number) h is;
  numbers = λ p here local h. numbers p ((member_of p server).served == last_number) here local h;
}
  where
    home : (p : Participant) (b : Bool) → (if b then p else record (with_member server (record (member_of p server) { served = (member_of p server).served + 1; fresh = true }) p) { involved = p.involved || is_told_class (class_here server) }).engage.home ≡ p.engage.home
    home p true = refl
    home p false = refl

    slots : (p : Participant) (b : Bool) → length (if b then p else record (with_member server (record (member_of p server) { served = (member_of p server).served + 1; fresh = true }) p) { involved = p.involved || is_told_class (class_here server) }).engage.peers ≡ length p.engage.peers
    slots p true = refl
    slots p false = refl

    outcome : (p : Participant) (b : Bool) → (if b then p else record (with_member server (record (member_of p server) { served = (member_of p server).served + 1; fresh = true }) p) { involved = p.involved || is_told_class (class_here server) }).outcome ≡ p.outcome
    outcome p true = refl
    outcome p false = refl

    logged : (p : Participant) (b : Bool) → (p.log.prepared ≡ true → p.log.unended ≡ true) → (if b then p else record (with_member server (record (member_of p server) { served = (member_of p server).served + 1; fresh = true }) p) { involved = p.involved || is_told_class (class_here server) }).log.prepared ≡ true
        → (if b then p else record (with_member server (record (member_of p server) { served = (member_of p server).served + 1; fresh = true }) p) { involved = p.involved || is_told_class (class_here server) }).log.unended ≡ true
    logged p true h is = h is
    logged p false h is = h is

    numbers : (p : Participant) (b : Bool) (here : NodeNo) (local : ℕ) → AreNumbered here local p.engage p.waiting
        → AreNumbered here local (if b then p else record (with_member server (record (member_of p server) { served = (member_of p server).served + 1; fresh = true }) p) { involved = p.involved || is_told_class (class_here server) }).engage
        (if b then p else record (with_member server (record (member_of p server) { served = (member_of p server).served + 1; fresh = true }) p) { involved = p.involved || is_told_class (class_here server) }).waiting
    numbers p true here local h = h
    numbers p false here local h = h

-- ---- votes, asking, causes

pub voted_quiet : (member : Member) (vote : Vote) (covers : ℕ) → IsQuiet (participant.voted member vote covers)
voted_quiet member vote covers = record { home = λ p. refl; slots = λ p. refl; outcome = λ p. refl; logged = λ p h is. h is; numbers = λ p here local h. h }

pub ask_quiet : IsQuiet participant.ask
ask_quiet = record { home = λ p. refl; slots = λ p. refl; outcome = λ p. refl; logged = λ p h is. h is; numbers = λ p here local h. h }

pub refused_quiet : IsQuiet participant.refused
refused_quiet = record { home = λ p. refl; slots = λ p. refl; outcome = λ p. refl; logged = λ p h is. h is; numbers = λ p here local h. h }

pub cause_quiet : (cause : Cause) → IsQuiet (participant.add_cause cause)
cause_quiet cause = record { home = λ p. refl; slots = λ p. refl; outcome = λ p. refl; logged = λ p h is. h is; numbers = λ p here local h. h }

pub causes_quiet : IsQuiet participant.take_causes
causes_quiet = record { home = λ p. refl; slots = λ p. refl; outcome = λ p. refl; logged = λ p h is. h is; numbers = λ p here local h. h }

pub counted_quiet : (home peer : NodeNo) (up_to : ℕ) (told : List NodeNo) → IsQuiet (participant.counted home peer up_to told)
counted_quiet home peer up_to told = record { home = λ p. refl; slots = λ p. set_length p.engage.peers peer.0 _; outcome = λ p. refl; logged = λ p h is. h is; numbers = λ p here local h. as_many_given here local p.engage (engage.covered peer up_to p.engage) p.waiting (peer_sent peer _ p.engage refl) h }

pub released_quiet : IsQuiet participant.released
released_quiet = record { home = λ p. refl; slots = λ p. refl; outcome = λ p. refl; logged = λ p h is. h is; numbers = λ p here local h. as_many_given here local p.engage (engage.released p.engage) p.waiting (λ peer. refl) h }

pub restarted_quiet : (peer : NodeNo) → IsQuiet (participant.restarted peer)
restarted_quiet peer = engaged_quiet (engage.restarted peer) (λ e. refl) (λ e. peer_slots peer (record (peer_of e peer) { last = 0 }) e) (λ e. peer_sent peer (record (peer_of e peer) { last = 0 }) e refl)

-- ---- telling, and the log

pub told_quiet : (node : NodeNo) → IsQuiet (participant.add_told node)
told_quiet node = record { home = λ p. refl; slots = λ p. refl; outcome = λ p. refl; logged = λ p h is. h is; numbers = λ p here local h. h }

pub tell_quiet : (node : NodeNo) → IsQuiet (outcome_rules.add_tell node)
tell_quiet node = record { home = λ p. refl; slots = λ p. refl; outcome = λ p. refl; logged = λ p h is. h is; numbers = λ p here local h. h }

pub acknowledged_quiet : (peer : NodeNo) → IsQuiet (outcome_rules.acknowledged peer)
acknowledged_quiet peer = record { home = λ p. refl; slots = λ p. refl; outcome = λ p. refl; logged = λ p h is. h is; numbers = λ p here local h. h }

pub names_quiet : (home : NodeNo) (further : List NodeNo) → IsQuiet (outcome_rules.take_names home further)
names_quiet home further = record { home = λ p. refl; slots = λ p. refl; outcome = λ p. refl; logged = λ p h is. h is; numbers = λ p here local h. h }

pub settled_quiet : (server : ServerNo) → IsQuiet (outcome_rules.settled server)
settled_quiet server = record { home = λ p. refl; slots = λ p. refl; outcome = λ p. refl; logged = λ p h is. h is; numbers = λ p here local h. h }

pub logged_quiet : (rec : Record) → IsQuiet (outcome_rules.logged rec)
logged_quiet rec = record { home = λ p. refl; slots = λ p. refl; outcome = λ p. refl; logged = λ p h is. by rec p is; numbers = λ p here local h. h }
  where
    by : (r : Record) (p : Participant) → (outcome_rules.logged r p).log.prepared ≡ true → (outcome_rules.logged r p).log.unended ≡ true
    by (records.Prepare tid server covers changes) p is = refl
    by (records.Commit tid told) p is = absurd (cc is)
    by (records.Aborted tid) p is = absurd (cc is)
    by (records.End tid) p is = absurd (cc is)
