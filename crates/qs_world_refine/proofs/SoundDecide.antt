-- A home stays sound where it decides, and records and tells what it decided.
use Rattle.qs_world_refine.proofs.Words.{◌≡◌, ◌==◌, ◌&&◌, ◌||◌, not, Bool, true, false, List, [], ◌∷◌, length, Option, Some, None, is_some, refl, sym, ap, subst, ◌∙◌, fold, if◌then◌else◌, lookup, set_value, is_at, eqb-true, length-set, tid_cmp, NodeNo, Tid, listed, is_no_node, no_nodes, put_where, put_node, Nodes, Cause, changed_value, is_abort, writes_commit, is_undecided, Decision, InLog, Participant, send_each, log_if, decide, decide_as, keep_outcome, give_notices, is_lent, NodeValue, Work}
use Rattle.qs_world_refine.proofs.Words.{part_of, with_manager, is_sound, where_so, is_whole, or_first}
use Rattle.qs_base.specs.declared.identifiers.Outcome.{Outcome}
use Rattle.qs_base.specs.declared.identifiers.Outcome.TheVariants as outcomes
use Rattle.qs_engage.specs.Engage.{sent_to}
use Rattle.qs_engage.specs.Nodes.{all_nodes, has_node, nodes_where}
use Rattle.qs_ipc.specs.Ipc as ipc
use Rattle.qs_packet.specs.declared.message.Message.TheVariants as messages
use Rattle.qs_record.specs.declared.record.Record.TheVariants as records
use Rattle.qs_tm.specs.Manager as tm
use Rattle.qs_tm.specs.Manager.{no_decision}
use Rattle.qs_tm.specs.Outcomes as outcome_rules
use Rattle.qs_tm.specs.Outcomes.{tell_of}
use Rattle.qs_world_refine.specs.SoundLaws.{DecideAbortSound, DecideCommitSound}
use Rattle.qs_world_refine.proofs.Maps.{lookup_changed}
use Rattle.qs_world_refine.proofs.SoundParts.{and_both, both_and}
use Rattle.qs_world_refine.proofs.SoundRules.{sends_node}
use Rattle.qs_world_refine.proofs.SoundEnds.{part_turned, part_ended, keep_sound}
use Rattle.qs_world_refine.proofs.SoundHolds.{Holds, known_sound, told_as, is_held, held_is}
use Rattle.qs_world_refine.proofs.SoundNotices.{give_notices_hold}
use Rattle.qs_world_refine.proofs.SoundViews.{PartSound}

-- ---- sets have a place for each node

where_length : (test : NodeNo → Bool) (list : List NodeNo) (nodes : Nodes) → length (fold (put_where test) nodes list).has ≡ length nodes.has
where_length test [] nodes = refl
where_length test (node ∷ list) nodes = by (test node) (where_length test list (put_node nodes node)) (where_length test list nodes)
  where
    by : (b : Bool) → length (fold (put_where test) (put_node nodes node) list).has ≡ length (put_node nodes node).has → length (fold (put_where test) nodes list).has ≡ length nodes.has
        → length (fold (put_where test) (if b then put_node nodes node else nodes) list).has ≡ length nodes.has
    by true put left = put ∙ length-set nodes.has node.0 true
    by false put left = left

pub nodes_length : (test : NodeNo → Bool) → length (nodes_where test).has ≡ 16
nodes_length test = where_length test all_nodes no_nodes

-- with other nodes to tell
pub tell_whole : (part : Participant) (tell : Nodes) → length tell.has ≡ 16 → is_whole part ≡ true → is_whole (record part { tell = tell }) ≡ true
tell_whole part tell is whole =
    let a : (((length part.engage.peers == 16) && (length part.members == 7)) ≡ true) × _ = and_both ((length part.engage.peers == 16) && (length part.members == 7)) _ whole in
    let b : ((length part.told.has == 16) ≡ true) × _ = and_both (length part.told.has == 16) _ a.1 in
    let c : ((length part.acknowledged.has == 16) ≡ true) = (and_both (length part.tell.has == 16) (length part.acknowledged.has == 16) b.1).1 in
    both_and ((length part.engage.peers == 16) && (length part.members == 7)) _ a.0 (both_and (length part.told.has == 16) _ b.0 (both_and (length tell.has == 16) (length part.acknowledged.has == 16) (rw is refl) c))

tell_length : (outcome : Outcome) (part : Participant) → is_whole part ≡ true → length (tell_of outcome part).has ≡ 16
tell_length outcomes.Commit part whole = eqb-true (length part.told.has) 16 (and_both (length part.told.has == 16) _ (and_both ((length part.engage.peers == 16) && (length part.members == 7)) _ whole).1).0
tell_length outcomes.Abort part whole = nodes_length (λ node. has_node (sent_to part.engage) node || has_node part.told node)

-- ---- a participant is changed twice

set_twice : (p : Tid → Bool) (es : List (Tid × Participant)) (v w : Participant) → set_value p (set_value p es v) w ≡ set_value p es w
set_twice p [] v w = refl
set_twice p (e ∷ es) v w = by (p e.0) refl (set_twice p es v w)
  where
    by : (b : Bool) → p e.0 ≡ b → set_value p (set_value p es v) w ≡ set_value p es w → set_value p (set_value p (e ∷ es) v) w ≡ set_value p (e ∷ es) w
    by true is more = rw (is, is) refl
    by false is more = rw (is, is) (ap (λ (l : List (Tid × Participant)). e ∷ l) more)

pub changed_twice : (p : Tid → Bool) (f g : Participant → Participant) (es : List (Tid × Participant)) (v : Participant) → lookup p es ≡ Some v → changed_value p g (changed_value p f es) ≡ changed_value p (λ x. g (f x)) es
changed_twice p f g es v found =
    ap (λ (o : Option Participant). elim o [ None ↦ changed_value p f es | Some u ↦ set_value p (changed_value p f es) (g u) ]) (lookup_changed p f es v found)
    ∙ (ap (λ (l : List (Tid × Participant)). set_value p l (g (f v))) (ap (λ (o : Option Participant). elim o [ None ↦ es | Some u ↦ set_value p es (f u) ]) found)
    ∙ (set_twice p es (f v) (g (f v)) ∙ sym (ap (λ (o : Option Participant). elim o [ None ↦ es | Some u ↦ set_value p es (g (f u)) ]) found)))

-- ---- what the home keeps once it decided

-- with what the log has of it then
abbrev decided_with : Outcome → (InLog → InLog) → Participant → Participant
decided_with outcome l part = record (outcome_rules.decided outcome part) { log = l part.log }

decided_sound : (node : NodeValue) (tid : Tid) (part : Participant) (outcome : Outcome) (l : InLog → InLog) → part.engage.home ≡ true → PartSound node tid part
    → (where_so ((l part.log).prepared || (l part.log).listed) (l part.log).unended && (where_so (l part.log).prepared part.involved
    && (where_so (l part.log).listed (not (is_abort (Some outcome))) && where_so (l part.log).prepared (is_abort (Some outcome))))) ≡ true
    → PartSound node tid (decided_with outcome l part)
decided_sound node tid part outcome l home s logged = record {
  whole = tell_whole part (tell_of outcome part) (tell_length outcome part s.whole) s.whole;
  homed = s.homed;
  peers = s.peers;
  members = s.members;
  superior = s.superior;
  outside = s.outside;
  idle = rw home refl;
  began = rw home refl;
  logged = at_home part.engage.home home (where_so ((l part.log).prepared || (l part.log).listed) (l part.log).unended) (where_so (l part.log).prepared part.involved) (l part.log).listed (l part.log).prepared (is_abort (Some outcome)) logged;
  silent = rw home refl;
}
  where
    at_home : (h : Bool) → h ≡ true → (a b c d e : Bool) → (a && (b && (where_so c (not e) && where_so d e))) ≡ true → (a && (b && (where_so c (h && (true && not e)) && where_so (d && h) (false || e)))) ≡ true
    at_home true is a b c true e so = so
    at_home true is a b c false e so = so
    at_home false is a b c d e so = absurd (cc (is))

-- what it had before
undecided_log : (part : Participant) → is_undecided part ≡ true → where_so part.log.listed (part.engage.home && (is_some part.outcome && not (is_abort part.outcome))) ≡ true → part.log.listed ≡ false
undecided_log part open_now is = by part.outcome open_now part.log.listed part.engage.home is
  where
    by : (o : Option Outcome) → Rattle.std.specs.Prelude.is_none o ≡ true → (l h : Bool) → where_so l (h && (is_some o && not (is_abort o))) ≡ true → l ≡ false
    by (Some x) so l h its = absurd (cc (so))
    by None so true true its = absurd (cc (its))
    by None so true false its = absurd (cc (its))
    by None so false h its = refl

-- ---- it decides

module _ (tid : Tid) (part : Participant) (work : Work) (known : part_of tid work ≡ Some part) (open_now : is_undecided part ≡ true) (home : part.engage.home ≡ true) (sound : is_sound work.node ≡ true) where
  abbrev here : Tid → Bool
  here = is_at (tid_cmp tid)

  abbrev with_known : List (Tid × Participant) → NodeValue
  with_known es = record work.node { manager = record work.node.manager { known = es } }

  abbrev quiet : Type 0
  quiet = (ipc.waits tid work.node.queues ≡ false) × (is_lent tid work.node ≡ false)

  s : PartSound work.node tid part
  s = known_sound tid work.node part known sound

  not_listed : part.log.listed ≡ false
  not_listed = undecided_log part open_now
      (and_both (where_so part.log.listed (part.engage.home && (is_some part.outcome && not (is_abort part.outcome)))) _
      (and_both (where_so part.log.prepared part.involved) _ (and_both (where_so (part.log.prepared || part.log.listed) part.log.unended) _ s.logged).1).1).0

  busy_now : (outcome : Outcome) (l : InLog → InLog) → is_held (decided_with outcome l part) ≡ true
  busy_now outcome l = rw home refl

  -- with what the log has of it after the decision
  decided_holds : (outcome : Outcome) (l : InLog → InLog) → (outcome ≡ outcomes.Commit → quiet)
      → (where_so ((l part.log).prepared || (l part.log).listed) (l part.log).unended && (where_so (l part.log).prepared part.involved
      && (where_so (l part.log).listed (not (is_abort (Some outcome))) && where_so (l part.log).prepared (is_abort (Some outcome))))) ≡ true
      → Holds is_held tid (with_known (changed_value here (decided_with outcome l) work.node.manager.known))
  decided_holds outcome l still logged = (
    turned outcome refl,
    told_as is_held tid (record work.node.manager { known = changed_value here (decided_with outcome l) work.node.manager.known }) (decided_with outcome l part)
        (lookup_changed here (decided_with outcome l) work.node.manager.known part known) (busy_now outcome l),
  )
    where
      its : PartSound work.node tid (decided_with outcome l part)
      its = decided_sound work.node tid part outcome l home s logged

      turned : (o : Outcome) → outcome ≡ o → is_sound (with_known (changed_value here (decided_with outcome l) work.node.manager.known)) ≡ true
      turned outcomes.Commit is = part_ended tid (decided_with outcome l) work.node part known (still is).0 (still is).1 its sound
      turned outcomes.Abort is = part_turned tid (decided_with outcome l) work.node part known (λ so. rw is refl) its sound

  -- and with its record
  logged_holds : (outcome : Outcome) (l : InLog → InLog) → Holds is_held tid (with_known (changed_value here (decided_with outcome l) work.node.manager.known))
      → Holds is_held tid (with_known (changed_value here (λ p. record p { log = l p.log }) (changed_value here (outcome_rules.decided outcome) work.node.manager.known)))
  logged_holds outcome l is = subst (λ (es : List (Tid × Participant)). Holds is_held tid (with_known es))
      (sym (changed_twice here (outcome_rules.decided outcome) (λ p. record p { log = l p.log }) work.node.manager.known part known)) is

  abbrev decided_work : Outcome → Work
  decided_work outcome = with_manager (tm.decide tid outcome) work

  abort_holds : (b : Bool) → part.log.prepared ≡ b → Holds is_held tid (log_if (if b then Some (records.Aborted tid) else None) (decided_work outcomes.Abort)).node
  abort_holds true is = logged_holds outcomes.Abort (outcome_rules.in_log (records.Aborted tid)) (decided_holds outcomes.Abort (outcome_rules.in_log (records.Aborted tid)) (λ no_commit. absurd (cc (no_commit))) refl)
  abort_holds false is = decided_holds outcomes.Abort (λ l. l) (λ no_commit. absurd (cc (no_commit))) (rw (is, not_listed) refl)

  commit_holds : quiet → (b : Bool) → writes_commit part ≡ b → Holds is_held tid (log_if (if b then Some (records.Commit tid (listed part.told)) else None) (decided_work outcomes.Commit)).node
  commit_holds still true is = logged_holds outcomes.Commit (outcome_rules.in_log (records.Commit tid (listed part.told)))
      (decided_holds outcomes.Commit (outcome_rules.in_log (records.Commit tid (listed part.told))) (λ so. still) (by (length (listed part.told) == 0)))
    where
      by : (b : Bool) → (where_so (false || not b) (not b) && (true && (where_so (not b) true && true))) ≡ true
      by true = refl
      by false = refl
  commit_holds still false is = decided_holds outcomes.Commit (λ l. l) (λ so. still) (rw (or_first part.log.prepared (not (is_no_node part.told)) is, not_listed) refl)

  -- the rest of the rule
  told_sound : (outcome : Outcome) (cause : Option Cause) (made : Decision) → Holds is_held tid (log_if made.rec (decided_work outcome)).node → is_sound (decide_as tid outcome cause made work).node ≡ true
  told_sound outcome cause made holds = rw (sends_node made.tell (messages.Tell tid outcome) (give_notices tid outcome entered))
      (give_notices_hold is_held tid held_is (λ server p is. is) outcome entered (keep_sound tid outcome cause (log_if made.rec (decided_work outcome)) holds.0, holds.1)).0
    where
      entered : Work
      entered = Rattle.qs_node_step.specs.Bringing.enter (Rattle.qs_book_journal.specs.declared.entry.Act.TheVariants.Decide tid outcome cause) (keep_outcome tid outcome cause (log_if made.rec (decided_work outcome)))

  decide_known : (outcome : Outcome) (cause : Option Cause) → Holds is_held tid (log_if (outcome_rules.record_of tid outcome part) (decided_work outcome)).node → is_sound (decide tid outcome cause work).node ≡ true
  decide_known outcome cause holds =
      subst (λ (o : Option Participant). is_sound (decide_as tid outcome cause (elim o [ None ↦ no_decision | Some p ↦ record { rec = outcome_rules.record_of tid outcome p; tell = listed (tell_of outcome p) } ]) work).node ≡ true) (sym known)
      (told_sound outcome cause (record { rec = outcome_rules.record_of tid outcome part; tell = listed (tell_of outcome part) }) holds)

  pub abort_sound : (cause : Option Cause) → is_sound (decide tid outcomes.Abort cause work).node ≡ true
  abort_sound cause = decide_known outcomes.Abort cause (abort_holds part.log.prepared refl)

  pub commit_sound : (cause : Option Cause) → quiet → is_sound (decide tid outcomes.Commit cause work).node ≡ true
  commit_sound cause still = decide_known outcomes.Commit cause (commit_holds still (writes_commit part) refl)

pub decide_abort_sound : DecideAbortSound
decide_abort_sound tid part cause work known open_now home sound = abort_sound tid part work known open_now home sound cause

pub decide_commit_sound : DecideCommitSound
decide_commit_sound tid part cause work known open_now home waits lent sound = commit_sound tid part work known open_now home sound cause (waits, lent)
