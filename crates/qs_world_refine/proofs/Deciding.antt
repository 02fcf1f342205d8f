-- What the home's node makes of a transaction that it decides, before it tells anybody.
use Rattle.qs_world_refine.proofs.Words.{◌≡◌, ℕ, ◌==◌, Bool, true, false, Option, Some, None, refl, sym, subst, ap, ◌∙◌, arith, if◌then◌else◌, is_at, nat_tests, tid_cmp, Tid, same_node, listed, Cause, Record, Decision, Participant, tid_of, enter, send_each, log_if, give_notices, keep_outcome, decide_as, decide, Setting, Work, part_of, with_manager, IsHome, Face, node_no, face, face_at, began_here, outcome_seen, Scene, sight_during, IsAt, and_from}
use Rattle.qs_base.specs.declared.identifiers.Outcome.{Outcome}
use Rattle.qs_base.specs.declared.identifiers.Outcome.TheVariants as outcomes
use Rattle.qs_engage.specs.Nodes.{has_node}
use Rattle.qs_book_journal.specs.declared.entry.Act.TheVariants as acts
use Rattle.qs_packet.specs.declared.message.Message.TheVariants as messages
use Rattle.qs_record.specs.declared.record.Record.TheVariants as records
use Rattle.qs_tm.specs.Manager as tm
use Rattle.qs_tm.specs.Outcomes as outcome_rules
use Rattle.qs_world_refine.proofs.Alike.{SameFace, face_on}
use Rattle.qs_world_refine.proofs.During.{face_here}
use Rattle.qs_world_refine.proofs.Known.{told_is}
use Rattle.qs_world_refine.proofs.Maps.{lookup_changed}
use Rattle.qs_world_refine.proofs.Notices.{Learns, notices_learn}
use Rattle.qs_world_refine.proofs.Reading.{part_known}

-- a record that is written is of the transaction
abbrev pub IsOwn : Tid → Option Record → Type 0
IsOwn tid rec = (r : Record) → rec ≡ Some r → tid_of r ≡ tid

pub none_own : (tid : Tid) → IsOwn tid None
none_own tid r is = absurd (cc is)

pub some_own : (tid : Tid) (rec : Record) → tid_of rec ≡ tid → IsOwn tid (Some rec)
some_own tid rec its r is = by (Some r) (sym is)
  where
    own : Option Record → Tid
    own None = tid
    own (Some r) = tid_of r

    by : (o : Option Record) → o ≡ Some rec → own o ≡ tid
    by o e = ap own e ∙ its

-- and so is the record of a decision
pub record_own : (tid : Tid) (outcome : Outcome) (part : Participant) → IsOwn tid (outcome_rules.record_of tid outcome part)
record_own tid outcomes.Commit part = by (outcome_rules.writes_commit part)
  where
    by : (b : Bool) → IsOwn tid (if b then Some (records.Commit tid (listed part.told)) else None)
    by true = some_own tid (records.Commit tid (listed part.told)) refl
    by false = none_own tid
record_own tid outcomes.Abort part = by part.log.prepared
  where
    by : (b : Bool) → IsOwn tid (if b then Some (records.Aborted tid) else None)
    by true = some_own tid (records.Aborted tid) refl
    by false = none_own tid

module _ (tid : Tid) (scene : Scene) (outcome : Outcome) (cause : Option Cause) (work : Work) (part : Participant) (is_home : IsHome tid scene work part) where
  abbrev h : ℕ
  h = tid.home.0

  pub face_before : (sight_during tid scene h work).face h ≡ face work.node tid part
  face_before = face_here tid scene h work ∙ ap (λ (p : Participant). face work.node tid p) (part_known tid work.node part is_home.knows.known)

  pub began : began_here work.node tid ≡ true
  began = and_from (same_node tid.home work.node.setting.node) (tid.inc == work.node.setting.inc) (rw is_home.at.node (grind (arith, nat_tests))) (rw (is_home.at.inc, is_home.first) (grind (arith, nat_tests)))

  abbrev marked : Work
  marked = with_manager (tm.decide tid outcome) work

  abbrev pub entered : Option Record → Work
  entered rec = enter (acts.Decide tid outcome cause) (keep_outcome tid outcome cause (log_if rec marked))

  abbrev pub noticed : Option Record → Work
  noticed rec = give_notices tid outcome (entered rec)

  abbrev pub decided_face : Face
  decided_face = record (face work.node tid part) { on = false; outcome = outcome_seen (Some outcome) true; tell = λ m. has_node (outcome_rules.tell_of outcome part) (node_no m) }

  known_marked : part_of tid marked ≡ Some (outcome_rules.decided outcome part)
  known_marked = lookup_changed (is_at (tid_cmp tid)) (outcome_rules.decided outcome) work.node.manager.known part is_home.knows.known

  pub known_logged : (r : Record) → IsOwn tid (Some r) → part_of tid (entered (Some r)) ≡ Some (outcome_rules.logged r (outcome_rules.decided outcome part))
  known_logged r own = subst (λ (t : Tid). tm.part_of tid (tm.logged t r marked.node.manager) ≡ Some (outcome_rules.logged r (outcome_rules.decided outcome part))) (sym (own r refl))
      (lookup_changed (is_at (tid_cmp tid)) (outcome_rules.logged r) marked.node.manager.known (outcome_rules.decided outcome part) known_marked)

  face_entered : (rec : Option Record) → IsOwn tid rec → SameFace decided_face (face_at (entered rec).node tid)
  face_entered None own = rw (part_known tid (entered None).node (outcome_rules.decided outcome part) known_marked)
      (record { is_home = refl; on = rw began refl; superior = refl; last = λ m. refl; sent = λ m. refl; covered = λ m. refl; waits = λ s. refl; uncast = λ s. refl; loans = refl; asked = refl; blocked = refl; involved = refl; told = λ m. refl; outcome = rw is_home.home refl; tell = λ m. refl })
  face_entered (Some r) own = rw (part_known tid (entered (Some r)).node (outcome_rules.logged r (outcome_rules.decided outcome part)) (known_logged r own))
      (record { is_home = refl; on = rw began refl; superior = refl; last = λ m. refl; sent = λ m. refl; covered = λ m. refl; waits = λ s. refl; uncast = λ s. refl; loans = refl; asked = refl; blocked = refl; involved = refl; told = λ m. refl; outcome = rw is_home.home refl; tell = λ m. refl })

  pub learnt : (rec : Option Record) → Learns tid (entered rec) (noticed rec)
  learnt rec = notices_learn tid outcome (entered rec)

  pub face_noticed : (rec : Option Record) → IsOwn tid rec → SameFace decided_face (face_at (noticed rec).node tid)
  face_noticed rec own = face_on decided_face (face_at (entered rec).node tid) (face_at (noticed rec).node tid) (face_entered rec own) (learnt rec).keeps.face

  pub at_noticed : (rec : Option Record) → IsAt scene h (noticed rec)
  at_noticed rec = record { in_run = is_home.at.in_run; up = is_home.at.up; node = ap (λ (s : Setting). s.node) (same rec) ∙ is_home.at.node; nodes = ap (λ (s : Setting). s.nodes) (same rec) ∙ is_home.at.nodes; inc = ap (λ (s : Setting). s.inc) (same rec) ∙ is_home.at.inc }
    where
      entered_setting : (rec : Option Record) → (entered rec).node.setting ≡ work.node.setting
      entered_setting None = refl
      entered_setting (Some r) = refl

      same : (rec : Option Record) → (noticed rec).node.setting ≡ work.node.setting
      same rec = (learnt rec).silent.setting ∙ entered_setting rec

  -- what the rule comes to
  pub decide_is : (rec : Option Record) → outcome_rules.record_of tid outcome part ≡ rec
      → decide tid outcome cause work ≡ send_each (listed (outcome_rules.tell_of outcome part)) (messages.Tell tid outcome) (noticed rec)
  decide_is rec is =
      ap (λ (made : Decision). decide_as tid outcome cause made work) (told_is tid tm.no_decision (λ part. record { rec = outcome_rules.record_of tid outcome part; tell = listed (outcome_rules.tell_of outcome part) }) work.node.manager part is_home.knows.known)
      ∙ ap (λ (rec : Option Record). decide_as tid outcome cause (record { rec = rec; tell = listed (outcome_rules.tell_of outcome part) }) work) is
