-- What is done of a transaction that is decided leaves standing what stood of it.
use Rattle.qs_world_refine.proofs.Words.{◌≡◌, ℕ, ◌==◌, ◌||◌, Bool, true, false, List, [], ◌∷◌, Some, is_some, fold, refl, sym, ap, ◌∙◌, is_at, tid_cmp, NodeNo, ServerNo, Tid, Message, Record, Participant, send, send_each, log, tid_of, end_member, end_members, due_endings, learn_member, learners_at, give_notices, Work, part_of, node_no, Scene, StaysSound, may_doubt, Stands, GoesOn, Goes, same_Some}
use Rattle.qs_base.specs.declared.identifiers.Outcome.{Outcome}
use Rattle.qs_base.specs.declared.identifiers.Outcome.TheVariants as outcomes
use Rattle.qs_tm.specs.Manager as tm
use Rattle.qs_tm.specs.Outcomes as outcome_rules
use Rattle.qs_world_agree.specs.World.{World}
use Rattle.qs_world_refine.proofs.During.{Leaves}
use Rattle.qs_world_refine.proofs.KindsKept.{KeepsKinds}
use Rattle.qs_world_refine.proofs.Maps.{lookup_changed}
use Rattle.qs_world_refine.proofs.SendGoes.{send_node}
use Rattle.qs_world_refine.proofs.SettleRules.{beside, stands_on, IsClear, Answers}

-- it keeps its outcome, and answers to nobody else
pub record KeepsOutcome (tid : Tid) (new : Work) (part : Participant) : Type 0 where
  pub next : Participant
  pub known : part_of tid new ≡ Some next
  pub outcome : next.outcome ≡ part.outcome
  pub superior : (m : NodeNo) → next.engage.superior ≡ Some m → part.engage.superior ≡ Some m

abbrev pub KeepOutcomes : Tid → Work → Work → Type 0
KeepOutcomes tid work new = (part : Participant) → part_of tid work ≡ Some part → KeepsOutcome tid new part

pub outcome_itself : (tid : Tid) (work : Work) → KeepOutcomes tid work work
outcome_itself tid work part known = record { next = part; known = known; outcome = refl; superior = λ m has. has }

pub outcome_on : (tid : Tid) (a b c : Work) → KeepOutcomes tid a b → KeepOutcomes tid b c → KeepOutcomes tid a c
outcome_on tid a b c first second part known =
    let one = first part known in
    let two = second one.next one.known in
    record { next = two.next; known = two.known; outcome = two.outcome ∙ one.outcome; superior = λ m has. one.superior m (two.superior m has) }

pub outcome_each : {X : Type 0} (tid : Tid) (f : Work → X → Work) → ((work : Work) (x : X) → KeepOutcomes tid work (f work x)) → (xs : List X) (work : Work) → KeepOutcomes tid work (fold f work xs)
outcome_each tid f each [] work = outcome_itself tid work
outcome_each tid f each (x ∷ xs) work = outcome_on tid work (f work x) (fold f (f work x) xs) (each work x) (outcome_each tid f each xs (f work x))

pub outcome_sent : (tid : Tid) (to : NodeNo) (message : Message) (work : Work) → KeepOutcomes tid work (send to message work)
outcome_sent tid to message work part known = record { next = part; known = ap (λ (k : Rattle.qs_node_step.specs.State.NodeValue). tm.part_of tid k.manager) (send_node to message work) ∙ known; outcome = refl; superior = λ m has. has }

pub outcome_sends : (tid : Tid) (nodes : List NodeNo) (message : Message) (work : Work) → KeepOutcomes tid work (send_each nodes message work)
outcome_sends tid nodes message work = outcome_each tid (λ work to. send to message work) (λ work to. outcome_sent tid to message work) nodes work

outcome_end : (tid : Tid) (work : Work) (server : ServerNo) → KeepOutcomes tid work (end_member tid work server)
outcome_end tid work server part known = record {
  next = outcome_rules.settled server part;
  known = lookup_changed (is_at (tid_cmp tid)) (outcome_rules.settled server) work.node.manager.known part known;
  outcome = refl;
  superior = λ m has. has;
}

outcome_learn : (tid : Tid) (outcome : Outcome) (work : Work) (server : ServerNo) → KeepOutcomes tid work (learn_member tid outcome work server)
outcome_learn tid outcome work server part known = record {
  next = outcome_rules.settled server part;
  known = lookup_changed (is_at (tid_cmp tid)) (outcome_rules.settled server) work.node.manager.known part known;
  outcome = refl;
  superior = λ m has. has;
}

pub outcome_notices : (tid : Tid) (outcome : Outcome) (work : Work) → KeepOutcomes tid work (give_notices tid outcome work)
outcome_notices tid outcomes.Commit work = outcome_each tid (learn_member tid outcomes.Commit) (outcome_learn tid outcomes.Commit) (learners_at tid work) work
outcome_notices tid outcomes.Abort work = outcome_on tid work (end_members tid work) (give_notices tid outcomes.Abort work)
    (outcome_each tid (end_member tid) (outcome_end tid) (due_endings tid work) work)
    (outcome_each tid (learn_member tid outcomes.Abort) (outcome_learn tid outcomes.Abort) (learners_at tid (end_members tid work)) (end_members tid work))

pub outcome_logged : (tid : Tid) (rec : Record) (work : Work) → tid_of rec ≡ tid → KeepOutcomes tid work (log rec work)
outcome_logged tid rec work own part known = record {
  next = outcome_rules.logged rec part;
  known = rw own (lookup_changed (is_at (tid_cmp tid)) (outcome_rules.logged rec) work.node.manager.known part known);
  outcome = refl;
  superior = λ m has. has;
}

-- ---- so it stands

module _ (tid : Tid) (scene : Scene) (n : ℕ) (work new : Work) (w : World) (is : Stands tid scene n work w) (part : Participant) (known : part_of tid work ≡ Some part) (outcome : Outcome) (decided : part.outcome ≡ Some outcome) (keeps : KeepOutcomes tid work new) where
  now : KeepsOutcome tid new part
  now = keeps part known

  pub decided_clear : IsClear tid scene n new
  decided_clear none s = absurd (off (is_some now.next.outcome) now.next.log.prepared (ap is_some (now.outcome ∙ decided)) (sym (ap (may_doubt (tid.home.0 == n)) now.known) ∙ none))
    where
      off : (a b : Bool) → a ≡ true → (a || b) ≡ false → ⊥
      off true b is so = cc so
      off false b is so = cc is

  pub decided_answers : Answers tid scene n new
  decided_answers later m its has = is.superior part m known (now.superior (node_no m) (ap (λ (p : Participant). p.engage.superior) (same_Some now.next later (sym now.known ∙ its)) ∙ has))

  pub decided_stands : Goes tid scene n new w → Leaves (beside tid) work new → StaysSound work new → KeepsKinds work new → GoesOn tid scene n new w
  decided_stands goes left sound kinds = stands_on tid scene n work new w is goes left sound kinds decided_clear decided_answers
