-- A Told comes to the home's node, which knows the commit: Take_told; with the last one the commit is over there.
use Rattle.qs_world_refine.proofs.Words.{◌≡◌, ℕ, ◌<◌, ◌==◌, ◌&&◌, not, Bool, true, false, List, Option, Some, None, unwrap_or, refl, sym, subst, ap, ◌∙◌, arith, if◌then◌else◌, is_some, is_at, eqb-true, nat_tests, tid_cmp, NodeNo, Tid, same_node, put_node, has_all, Message, new_participant, Participant, log, Work, here, part_of, with_manager, message_came, told_unknown, told_known, end_told, forget, Committed, IsLawful, ShowsTold, Face, node_no, all_said, face, face_at, part_at, is_past_commit}
use Rattle.qs_world_refine.proofs.Words.{unknown_at_home, began_here, place, sight_taken, Scene, sight_during, ShowsWork, handed, Sight, in_order, IsAt, IsNext, and_last}
use Rattle.qs_base.specs.declared.identifiers.Outcome.{Outcome}
use Rattle.qs_base.specs.declared.identifiers.Outcome.TheVariants as outcomes
use Rattle.qs_engage.specs.Nodes.{has_node}
use Rattle.qs_packet.specs.declared.message.Message.TheVariants as messages
use Rattle.qs_record.specs.declared.record.Record.TheVariants as records
use Rattle.qs_tm.specs.Manager as tm
use Rattle.qs_tm.specs.Outcomes as outcome_rules
use Rattle.qs_world_agree.specs.World.{World}
use Rattle.qs_world_refine.specs.DecisionLaws.{GoesTold, GoesEnding, KnowsCommit, IsListed, ToldCommitGoes, ToldLastGoes}
use Rattle.qs_world_refine.specs.SeenOutcome.{ToldGoes}
use Rattle.qs_world_refine.specs.Sights.{with_at4}
use Rattle.qs_world_refine.proofs.Alike.{SameFace, same_itself, found_itself}
use Rattle.qs_world_refine.proofs.Arrays.{node_put}
use Rattle.qs_world_refine.proofs.During.{Quiet, forced_log, recovery_same, face_here, runs, meets}
use Rattle.qs_world_refine.proofs.Forgetting.{forgotten, order_changed}
use Rattle.qs_world_refine.proofs.Handing.{taken_shown, head_said}
use Rattle.qs_world_refine.proofs.Keeping.{part_keeps}
use Rattle.qs_world_refine.proofs.Known.{told_is}
use Rattle.qs_world_refine.proofs.Maps.{lookup_changed}
use Rattle.qs_world_refine.proofs.NodeTests.{has_all_of}
use Rattle.qs_world_refine.proofs.Reading.{part_known}
use Rattle.qs_world_refine.proofs.Refaced.{refaced, past}
use Rattle.qs_world_refine.proofs.Same.{tid_same}
use Rattle.qs_world_refine.proofs.StartWorlds.{nobody}
use Rattle.qs_world_refine.proofs.TakingTold.{take_told as take_told_event}

module _ (tid : Tid) (scene : Scene) (m i : ℕ) (further : List NodeNo) (rest : List Message) (work : Work) (part : Participant) (w : World)
    (lawful : IsLawful w) (shown : ShowsWork tid scene tid.home.0 work w) (at : IsAt scene tid.home.0 work) (next : IsNext scene tid.home.0 m i (messages.Told tid further) rest) (knows : KnowsCommit tid work part) (told : ShowsTold tid work w) where
  abbrev h : ℕ
  h = tid.home.0

  abbrev x : Sight
  x = sight_during tid scene h work

  abbrev later : Scene
  later = handed scene m i h rest

  abbrev took : Work
  took = with_manager (tm.acknowledged tid (node_no m)) work

  face_before : x.face h ≡ face work.node tid part
  face_before = face_here tid scene h work ∙ ap (λ (p : Participant). face work.node tid p) (part_known tid work.node part knows.knows.known)

  committed : (x.face h).outcome ≡ Committed
  committed = rw face_before (rw (knows.committed, knows.home) refl)

  turn : ToldGoes tid (sight_taken x h m i (x.face h) (all_said tid rest)) w m
  turn = take_told_event tid x w h m i further (all_said tid rest) lawful shown (runs tid scene h work at) (meets tid scene h m i work next.from)
      (head_said tid scene h m i (messages.Told tid further) rest work.out.messages next ∙ rw (tid_same tid) refl) committed refl

  known_took : part_of tid took ≡ Some (outcome_rules.acknowledged (node_no m) part)
  known_took = lookup_changed (is_at (tid_cmp tid)) (outcome_rules.acknowledged (node_no m)) work.node.manager.known part knows.knows.known

  m_in : m < 16
  m_in = omega (arith, next.from.in_run, shown.stage.small)

  acked : (k : ℕ) → has_node (put_node part.acknowledged (node_no m)) (node_no k) ≡ true → turn.next.acknowledged k ≡ true
  acked k has = by (k == m) refl (sym (node_put m k part.acknowledged (rw knows.knows.whole.acknowledged m_in)) ∙ has)
    where
      before : has_node part.acknowledged (node_no k) ≡ true → w.acknowledged k ≡ true
      before has = told k (rw (part_known tid work.node part knows.knows.known) has)

      by : (b : Bool) → (k == m) ≡ b → (if b then true else has_node part.acknowledged (node_no k)) ≡ true → turn.next.acknowledged k ≡ true
      by true is _ = rw (eqb-true k m is) turn.taken
      by false is has = turn.kept k (before has)

  -- what the rule comes to
  told_is_took : (b : Bool) → tm.all_acknowledged tid (node_no m) work.node.manager ≡ b → message_came (node_no m) (messages.Told tid further) work ≡ end_told b tid took
  told_is_took b all =
      ap (λ (c : Bool). if c then elim (part_of tid work) [ None ↦ told_unknown (node_no m) tid further work | Some part ↦ told_known (node_no m) tid further part.outcome work ] else work) home_here
      ∙ (ap (λ (o : Option Participant). elim o [ None ↦ told_unknown (node_no m) tid further work | Some part ↦ told_known (node_no m) tid further part.outcome work ]) knows.knows.known
      ∙ (ap (λ (o : Option Outcome). told_known (node_no m) tid further o work) knows.committed
      ∙ ap (λ (c : Bool). end_told c tid took) all))
    where
      home_here : same_node tid.home (here work) ≡ true
      home_here = rw at.node (grind (arith, nat_tests))

  -- ---- others are still to acknowledge it

  shown_took : ShowsWork tid later h took turn.next
  shown_took = taken_shown tid scene h m i (messages.Told tid further) rest work took turn.next next (record { sends = λ q. refl; logs = λ log. found_itself tid _ }) (x.face h) turn.shown
      (rw (face_here tid scene h work) (part_keeps tid (outcome_rules.acknowledged (node_no m)) work hidden).face)
    where
      hidden : (part : Participant) → SameFace (face work.node tid part) (face work.node tid (outcome_rules.acknowledged (node_no m) part))
      hidden part = record { is_home = refl; on = refl; superior = refl; last = λ m. refl; sent = λ m. refl; covered = λ m. refl; waits = λ s. refl; uncast = λ s. refl; loans = refl; asked = refl; blocked = refl; involved = refl; told = λ m. refl; outcome = refl; tell = λ m. refl }

  pub took_goes : tm.all_acknowledged tid (node_no m) work.node.manager ≡ false → GoesTold tid later h (message_came (node_no m) (messages.Told tid further) work) w
  took_goes all = subst (λ (k : Work). GoesTold tid later h k w) (sym (told_is_took false all))
      (record { next = turn.next; leads = turn.leads; shown = shown_took; told = λ k has. acked k (subst (λ (p : Participant). has_node p.acknowledged (node_no k) ≡ true) (part_known tid took.node (outcome_rules.acknowledged (node_no m) part) known_took) has) })

  -- ---- it was the last one

  abbrev ended : Work
  ended = forget tid (log (records.End tid) took)

  quiet_ended : Quiet tid work ended
  quiet_ended = record { sends = λ q. refl; logs = λ log. rw (recovery_same tid work (records.End tid) log refl) (found_itself tid (forced_log log work)) }

  module _ (ordered : in_order work.node.manager.known ≡ true) (all : tm.all_acknowledged tid (node_no m) work.node.manager ≡ true) (listed : IsListed tid scene work part) (was : is_past_commit work.node tid ≡ true) where
    abbrev done : Participant
    done = outcome_rules.acknowledged (node_no m) part

    all_here : (done.log.listed && has_all done.acknowledged done.tell) ≡ true
    all_here = sym (told_is tid false (λ part. outcome_rules.is_all_told (outcome_rules.acknowledged (node_no m) part)) work.node.manager part knows.knows.known) ∙ all

    has_each : (k : ℕ) → has_node part.tell (node_no k) ≡ true → turn.next.acknowledged k ≡ true
    has_each k tells = acked k (has_all_of done.acknowledged done.tell k knows.knows.whole.tell (and_last (done.log.listed) (has_all done.acknowledged done.tell) all_here) tells)

    all_told : (k : ℕ) → turn.next.commit_list k ≡ true → turn.next.acknowledged k ≡ true
    all_told k names = has_each k (listed.named k (sym ((turn.shown.logs h at.in_run).named refl ((turn.shown.logs h at.in_run).unended refl ∙ listed.stands) k) ∙ names))

    -- the node knows it no more, but that it was committed
    part_ended : part_at ended.node tid ≡ unknown_at_home ended.node tid
    part_ended = by (tm.part_of tid ended.node.manager) (forgotten tid (log (records.End tid) took).node.manager (order_changed tid (outcome_rules.logged (records.End tid)) took.node.manager (order_changed tid (outcome_rules.acknowledged (node_no m)) work.node.manager ordered))) (same_node tid.home ended.node.setting.node) (rw at.node (grind (arith, nat_tests)))
      where
        by : (o : Option Participant) → o ≡ None → (b : Bool) → b ≡ true → unwrap_or o (if b then unknown_at_home ended.node tid else new_participant false) ≡ unknown_at_home ended.node tid
        by o none b is = rw (none, is) refl

    abbrev over : Face
    over = face_at ended.node tid

    over_outcome : over.outcome ≡ Committed
    over_outcome = rw part_ended (rw was refl)

    over_on : over.on ≡ false
    over_on = rw part_ended (by (began_here ended.node tid))
      where
        by : (b : Bool) → (if b then not (is_some (if is_past_commit ended.node tid then Some outcomes.Commit else None)) else false) ≡ false
        by true = rw was refl
        by false = refl

    over_told : (k : ℕ) → over.told k ≡ false
    over_told k = rw part_ended (nobody k)

    off : (x.face h).on ≡ false
    off = sym (shown.faces h at.in_run at.up).engaged ∙ (lawful.settled (lawful.agreed.knows_commit (place h (scene.inc h)) ((shown.faces h at.in_run at.up).outcome ∙ committed))).passive (place h (scene.inc h))

    pub ended_goes : GoesEnding tid later h (message_came (node_no m) (messages.Told tid further) work) w
    ended_goes = subst (λ (k : Work). GoesEnding tid later h k w) (sym (told_is_took true all))
        (record {
          next = turn.next;
          leads = turn.leads;
          shown = taken_shown tid scene h m i (messages.Told tid further) rest work ended turn.next next quiet_ended over
              (refaced tid x turn.next h (x.face h) over (with_at4 x.said m i h (x.inc h) (all_said tid rest)) x.found (past (x.face h) over (place h (scene.inc h)) turn.next committed off over_outcome over_on over_told) turn.shown)
              (same_itself over);
          all_told = all_told;
        })

pub told_commit : ToldCommitGoes
told_commit tid scene m i further rest work part w lawful shown at next knows told some = took_goes tid scene m i further rest work part w lawful shown at next knows told some

pub told_last : ToldLastGoes
told_last tid scene m i further rest work part w lawful shown at next knows told ordered all listed was = ended_goes tid scene m i further rest work part w lawful shown at next knows told ordered all listed was
