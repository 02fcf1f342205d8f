-- What is kept by all that a step does for clients, and by what no client sees, a whole step keeps: the table of its deeds.
use Rattle.std.proofs.Common.{◌≡◌, ◌∙◌, Bool, true, false, List, [], ◌∷◌, ◌++◌, Option, Some, None, refl, sym, ap, subst}
use Rattle.std.specs.List.{find}
use Rattle.qs_base.specs.declared.identifiers.Outcome.{Outcome}
use Rattle.qs_base.specs.declared.identifiers.Outcome.TheVariants as outcomes
use Rattle.qs_base.specs.declared.identifiers.Tid.{Tid}
use Rattle.qs_ops.specs.declared.answer.Cause.{Cause}
use Rattle.qs_ops.specs.declared.answer.Cause.TheVariants as causes
use Rattle.qs_ops.specs.declared.operation.Op.{Op}
use Rattle.qs_ops.specs.declared.vote.Vote.TheVariants as votes
use Rattle.qs_base.specs.declared.identifiers.ServerNo.{ServerNo}
use Rattle.qs_book_journal.specs.declared.entry.Act.{Act}
use Rattle.qs_book_journal.specs.declared.entry.Act.TheVariants as acts
use Rattle.qs_tm.specs.declared.participant.Outstanding.{Outstanding}
use Rattle.qs_node_kept.specs.Keeping.{is_outcome_of}
use Rattle.qs_node_kept.specs.declared.kept.Decided.{Decided}
use Rattle.qs_node_step.specs.Bringing.{member_here}
use Rattle.qs_node_step.specs.State.{Work}
use Rattle.qs_node_step.specs.Voting.{served_count}
use Rattle.qs_node_step.specs.declared.event.Event.{Event}
use Rattle.qs_world_walk.proofs.IsDeeds.{each_turn, over}
use Rattle.qs_world_walk.specs.Deed.{Deed, did}
use Rattle.qs_world_walk.specs.Deed as d
use Rattle.qs_world_walk.specs.May.{MayAbort, MayIssue}
use Rattle.qs_world_walk.specs.May as may
use Rattle.qs_world_walk.specs.Stage.{Stage}
use Rattle.qs_world_walk.specs.Walked.{TableOver}
use Rattle.qs_world_walk.specs.When.{stage_of}
use Rattle.qs_world_course.specs.Reasons.{Enters, IsKeptBy, IsQuietAct, Nothing, Quiet, StepKeeps}

-- what is found is found before one more
found_before : (p : Decided → Bool) (xs : List Decided) (x decided : Decided) → find p xs ≡ Some decided → find p (xs ++ x ∷ []) ≡ Some decided
found_before p [] x decided there = absurd (cc there)
found_before p (y ∷ ys) x decided there = by (p y) refl (found_before p ys x decided)
  where
    by : (b : Bool) → p y ≡ b → (find p ys ≡ Some decided → find p (ys ++ x ∷ []) ≡ Some decided) → find p (y ∷ (ys ++ x ∷ [])) ≡ Some decided
    by true is more = rw is (rw is at there)
    by false is more = rw is (more (rw is at there))

module _ (event : Event) (K : Stage → Work → Type 0) (P : Work → Type 0) (k : IsKeptBy event K P) where
  -- a deed that touches nothing that clients see, with what it enters
  left : (work new : Work) → new.node.setting ≡ work.node.setting → new.node.commands ≡ work.node.commands → new.node.kept ≡ work.node.kept → new.out.answers ≡ work.out.answers → Enters work.out.entries new.out.entries → P work → P new
  left work new setting commands kept answers enters = k.unseen work new (record {
    setting = setting;
    commands = commands;
    labels = ap (λ held. held.now.labels) kept;
    loans = ap (λ held. held.now.loans) kept;
    outcomes = λ tid decided there. ap (λ held. find (is_outcome_of tid) held.now.outcomes) kept ∙ there;
    answers = answers;
    enters = enters;
  })

  quiet : (deed : Deed) (work : Work) (act : Act) → IsQuietAct act → (did deed work).node.setting ≡ work.node.setting → (did deed work).node.commands ≡ work.node.commands → (did deed work).node.kept ≡ work.node.kept
      → (did deed work).out.answers ≡ work.out.answers → (did deed work).out.entries ≡ work.out.entries ++ act ∷ [] → P work → P (did deed work)
  quiet deed work act is setting commands kept answers entries = left work (did deed work) setting commands kept answers (Quiet act is entries)

  -- ---- a decision

  decided : (tid : Tid) (outcome : Outcome) (cause : Option Cause) (work : Work) → IsQuietAct (acts.Decide tid outcome cause) → P work → P (did (d.Decides tid outcome cause) work)
  decided tid outcome cause work is = k.unseen work (did (d.Decides tid outcome cause) work) (record {
    setting = refl;
    commands = refl;
    labels = refl;
    loans = refl;
    outcomes = λ t decided there. found_before (is_outcome_of t) work.node.kept.now.outcomes (record { tid = tid; outcome = outcome; cause = cause }) decided there;
    answers = refl;
    enters = Quiet (acts.Decide tid outcome cause) is refl;
  })

  aborts : (stage : Stage) (tid : Tid) (cause : Option Cause) (work : Work) → MayAbort event tid cause work → K stage work → P work → P (did (d.Decides tid outcomes.Abort cause) work)
  aborts stage tid cause work (may.Commanded line part came there is met undecided running because) beside h = subst (λ (c : Option Cause). P (did (d.Decides tid outcomes.Abort c) work)) (sym because)
      (k.aborts line tid part stage work (record { came = came; there = there; aborts = is; met = met; undecided = undecided; running = running }) beside h)
  aborts stage tid cause work (may.Old age ticks limit because) beside h = subst (λ (c : Option Cause). P (did (d.Decides tid outcomes.Abort c) work)) (sym because)
      (k.ages tid age stage work (record { ticks = ticks; limit = limit }) beside h)
  aborts stage tid cause work (may.Refused part first more running home causes_are because) beside h = subst (λ (c : Option Cause). P (did (d.Decides tid outcomes.Abort c) work)) (sym because)
      (k.home_aborts tid part first more stage work (record { running = running; home = home; causes = causes_are }) beside h)
  aborts stage tid cause work (may.NoRoom part need ready past because) beside h = subst (λ (c : Option Cause). P (did (d.Decides tid outcomes.Abort c) work)) (sym because)
      (decided tid outcomes.Abort (Some (causes.Room need work.room)) work tt h)

  -- ---- a note of files

  noted : (server : ServerNo) (tid : Tid) (request : Outstanding) (op : Op) (work : Work) → MayIssue (d.Files server) tid request op work → IsQuietAct (acts.Issue tid (member_here work request.issuer) request.member request.number op)
  noted server tid request op work m = rw m.1.1.1.0 refl

  -- ---- all deeds

  reasons_table : TableOver event K (λ stage work. P work)
  reasons_table (d.Opens line) when w m beside h = k.comes line when w m beside h
  reasons_table (d.Labels label tid) when w m beside h = k.learns label tid when w m beside h
  reasons_table (d.Begins line) when w m beside h = k.begins line when w m beside h
  reasons_table (d.Refuses line need room) when w m beside h = k.refuses line need room when w m beside h
  reasons_table (d.Answers client command d.Unbegun) when w m beside h = k.not_begun client command when w m beside h
  reasons_table (d.Answers client command (d.Over outcome)) when w m beside h = k.decided client command outcome when w m beside h
  reasons_table (d.Answers client command (d.NotIts loan)) when w m beside h = k.not_yours client command loan when w m beside h
  reasons_table (d.Answers client command (d.Void loan)) when w m beside h = k.voids client command loan when w m beside h
  reasons_table (d.Answers client command (d.Ended issued)) when w m beside h = k.ends client command issued when w m beside h
  reasons_table (d.Takes client command tid loan) when w m beside h = k.takes client command tid loan when w m beside h
  reasons_table (d.Yields client command tid loan) when w m beside h = k.yields client command tid loan when w m beside h
  reasons_table (d.Asks line tid) when w m beside h = k.asks line tid when w m beside h
  reasons_table (d.Decides tid outcomes.Commit cause) own w m beside h = subst (λ (c : Option Cause). P (did (d.Decides tid outcomes.Commit c) w)) (sym m.0) (decided tid outcomes.Commit None w tt h)
  reasons_table (d.Decides tid outcomes.Abort cause) own w m beside h = aborts (stage_of (d.Decides tid outcomes.Abort cause) own) tid cause w m beside h
  reasons_table (d.IssuesHere (d.Client client command) tid request op) when w m beside h = k.requests_here client command tid request op when w m beside h
  reasons_table (d.IssuesAway (d.Client client command) tid request op) when w m beside h = k.requests_away client command tid request op when w m beside h
  reasons_table (d.IssuesHere (d.Files server) tid request op) when w m beside h = quiet (d.IssuesHere (d.Files server) tid request op) w (acts.Issue tid (member_here w request.issuer) request.member request.number op)
      (noted server tid request op w m.1.1) refl refl refl refl refl h
  reasons_table (d.IssuesAway (d.Files server) tid request op) when w m beside h = quiet (d.IssuesAway (d.Files server) tid request op) w (acts.Issue tid (member_here w request.issuer) request.member request.number op)
      (noted server tid request op w m.1.1) refl refl refl refl refl h
  reasons_table (d.Serves server delivery reply) when w m beside h = k.serves server delivery reply when w m beside h
  reasons_table (d.ServesAway server delivery reply) when w m beside h = k.serves_away server delivery reply when w m beside h
  reasons_table (d.GivesReply tid member number request command reply) when w m beside h = k.replies tid member number request command reply when w m beside h
  reasons_table d.Ticks when w m beside h = quiet d.Ticks w acts.Tick tt refl refl refl refl refl h
  reasons_table (d.Ends tid server) when w m beside h = quiet (d.Ends tid server) w (acts.Ending tid (member_here w server)) tt refl refl refl refl refl h
  reasons_table (d.Learns tid outcome server) when w m beside h = quiet (d.Learns tid outcome server) w (acts.Learn tid (member_here w server) outcome) tt refl refl refl refl refl h
  reasons_table (d.Counts peer tid up_to told) when w m beside h = quiet (d.Counts peer tid up_to told) w (acts.Counted tid peer up_to) tt refl refl refl refl refl h
  reasons_table (d.Votes tid server ballot) when w m beside h = quiet (d.Votes tid server ballot) w (acts.Vote tid (member_here w server) ballot (served_count tid server w)) tt refl refl refl refl refl h
  reasons_table (d.Prepares tid server) when w m beside h = quiet (d.Prepares tid server) w (acts.Vote tid (member_here w server) votes.Recoverable (served_count tid server w)) tt refl refl refl refl refl h
  reasons_table deed when w m beside h = left w (did deed w) refl refl refl refl (Nothing refl) h

-- a step keeps it, at each turn and whole
pub step_keeps : (event : Event) (K : Stage → Work → Type 0) (P : Work → Type 0) → StepKeeps event K P
step_keeps event K P node free beside k there h = each_turn (λ stage work. K stage work × P work) node event free (over event K (λ stage work. P work) beside (reasons_table event K P k)) (there, h)
