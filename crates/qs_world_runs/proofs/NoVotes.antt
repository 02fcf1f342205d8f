-- What is logged apart from votes is no vote: the record of a decision, or of an outcome that is learnt.
use Rattle.qs_world_runs.proofs.Words.{Bool, Decision, IsNoVote, None, Option, Participant, Record, Some, Tid, Work, end_record, false, if◌then◌else◌, listed, record_learnt, subst, true}
use Rattle.qs_world_runs.specs.Stores.{IsNoVoteIf}
use Rattle.qs_base.specs.declared.identifiers.Outcome.{Outcome}
use Rattle.qs_world_walk.specs.May.{Decided, Learnt, MayLog}
use Rattle.qs_base.specs.declared.identifiers.Outcome.TheVariants as outcomes
use Rattle.qs_record.specs.declared.record.Record.TheVariants as records
use Rattle.qs_tm.specs.Manager as tm
use Rattle.qs_tm.specs.Outcomes as outcome_rules

learnt_no_vote : (tid : Tid) (outcome : Outcome) (part : Participant) → IsNoVoteIf (record_learnt tid outcome part)
learnt_no_vote tid outcome part = by part.log.prepared outcome
  where
    by : (b : Bool) (o : Outcome) → IsNoVoteIf (if b then Some (end_record tid o) else None)
    by true outcomes.Commit = tt
    by true outcomes.Abort = tt
    by false o = tt

decision_no_vote : (tid : Tid) (outcome : Outcome) (part : Participant) → IsNoVoteIf (outcome_rules.record_of tid outcome part)
decision_no_vote tid outcomes.Commit part = by (outcome_rules.writes_commit part)
  where
    by : (b : Bool) → IsNoVoteIf (if b then Some (records.Commit tid (listed part.told)) else None)
    by true = tt
    by false = tt
decision_no_vote tid outcomes.Abort part = by part.log.prepared
  where
    by : (b : Bool) → IsNoVoteIf (if b then Some (records.Aborted tid) else None)
    by true = tt
    by false = tt

abbrev decision_in : Tid → Outcome → Option Participant → Decision
decision_in tid outcome o = elim o [ None ↦ tm.no_decision | Some part ↦ record { rec = outcome_rules.record_of tid outcome part; tell = listed (outcome_rules.tell_of outcome part) } ]

decided_no_vote : (tid : Tid) (outcome : Outcome) (o : Option Participant) → IsNoVoteIf (decision_in tid outcome o).rec
decided_no_vote tid outcome None = tt
decided_no_vote tid outcome (Some part) = decision_no_vote tid outcome part

pub no_vote : (tid : Tid) (rec : Record) (work : Work) → MayLog tid rec work → IsNoVote rec
no_vote tid rec work (Decided old outcome cause is its) = subst IsNoVoteIf its (decided_no_vote tid outcome (tm.part_of tid old.node.manager))
no_vote tid rec work (Learnt outcome part its) = subst IsNoVoteIf its (learnt_no_vote tid outcome part)
