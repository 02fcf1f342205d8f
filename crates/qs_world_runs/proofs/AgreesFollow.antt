-- What a stage of a step says of a transaction the next stage says too: as the node settles, and as it answers commands that stayed open.
use Rattle.qs_world_runs.proofs.Words.{◌≡◌, ℕ, Bool, true, false, Option, Some, None, is_none, refl, ap, if◌then◌else◌, lookup, is_at, ClientNo, Tid, KeptLabel, Decided, kept_outcome, is_aborted, answer, decided_answer, label_at, forget_rule, pass_rule, ready_rule, refuse_rule, settle_tid, try, Work, client_cmp, borrower_waits, is_owner, owner_waits, wait_command, wait_on, waits_at, Issued, OpenCommand, is_undecided, Participant, World, Scene, is_sound, commands_in_run, case_of, settle_tid_goes}
use Rattle.qs_world_runs.proofs.Words.{leads_on}
use Rattle.qs_base.specs.declared.identifiers.Outcome.{Outcome}
use Rattle.qs_ops.specs.declared.answer.Answer.TheVariants as answers
use Rattle.qs_world_agree.specs.World as machine
use Rattle.qs_world_refine.specs.Sound.{goes_in_run}
use Rattle.qs_world_refine.specs.SoundSteps.{is_open_in_run}
use Rattle.qs_world_refine.specs.Stands.{GoesOn, Stands}
use Rattle.qs_world_refine.proofs.BorrowerStands.{answer_stands, borrower_goes}
use Rattle.qs_world_refine.proofs.LaterWorlds.{commit_stays}
use Rattle.qs_world_refine.proofs.SettleStands.{stands_itself}
use Rattle.qs_world_refine.proofs.SoundSettle.{ready_rule_sound, refuse_rule_sound, undecided_known}
use Rattle.qs_world_refine.proofs.SoundStep.{found_all}
use Rattle.qs_world_refine.proofs.SoundVotes.{pass_rule_sound}
use Rattle.qs_world_refine.proofs.TurnCommands.{borrower_command_on}
use Rattle.qs_world_refine.proofs.TurnOn.{Case, TurnsOn, answer_on, if_on, on_itself, on_then}
use Rattle.qs_world_refine.proofs.TurnRules.{undecided_on}
use Rattle.qs_world_refine.proofs.TurnSettles.{forget_rule_on, pass_on, ready_on, refuse_on}
use Rattle.qs_world_runs.proofs.AgreesStage.{AtStage}

-- ---- what a transaction's own turn, or another's, leaves of what is kept as committed

pub settle_tid_on : {k : Case} (work : Work) (tid : Tid) → is_sound work.node ≡ true → TurnsOn k work (settle_tid work tid)
settle_tid_on {k} work tid sound =
    on_then (undecided_on tid (pass_rule tid) work (λ part known open_now. pass_on tid part work known (is_open_now part open_now) sound))
    (on_then (undecided_on tid (ready_rule tid) passed (λ part known open_now. ready_on tid part passed known open_now passed_sound))
    (on_then (undecided_on tid (refuse_rule tid) readied (λ part known open_now. refuse_on tid part readied known open_now))
    (undecided_on tid (forget_rule tid) refused (λ part known open_now. forget_rule_on tid part refused known open_now refused_sound))))
  where
    passed : Work
    passed = try tid pass_rule work

    readied : Work
    readied = try tid ready_rule passed

    refused : Work
    refused = try tid refuse_rule readied

    is_open_now : (part : Participant) → part.outcome ≡ None → is_undecided part ≡ true
    is_open_now part open_now = ap (λ (o : Option Outcome). is_none o) open_now

    passed_sound : is_sound passed.node ≡ true
    passed_sound = undecided_known tid (pass_rule tid) work (λ part known open_now. pass_rule_sound tid part work known open_now) sound

    refused_sound : is_sound refused.node ≡ true
    refused_sound =
        undecided_known tid (refuse_rule tid) readied (λ part known open_now. refuse_rule_sound tid part readied known open_now)
        (undecided_known tid (ready_rule tid) passed (λ part known open_now. ready_rule_sound tid part passed known open_now) passed_sound)

wait_on_on : {k : Case} (work : Work) (client : ClientNo) → TurnsOn k work (wait_on work client)
wait_on_on {k} work client = by (lookup (is_at (client_cmp client)) work.node.commands)
  where
    owner : (command : OpenCommand) (o : Option Tid) → TurnsOn k work (owner_waits client o command.line.command work)
    owner command None = on_itself work
    owner command (Some tid) = told (kept_outcome tid work.node)
      where
        told : (o : Option Decided) → TurnsOn k work (elim o [ None ↦ work | Some decided ↦ answer client (decided_answer decided command.line.command) work ])
        told None = on_itself work
        told (Some its) = answer_on client (decided_answer its command.line.command) work

    borrower : (command : OpenCommand) (issued : Option Issued) (o : Option Tid) → TurnsOn k work (borrower_waits client issued o command.line.command work)
    borrower command (Some issued) o = if_on (is_aborted issued.tid work.node) (answer_on client answers.Ended work) (on_itself work)
    borrower command None None = on_itself work
    borrower command None (Some tid) = borrower_command_on client tid command.line.command work

    at : (command : OpenCommand) (o : Option KeptLabel) → TurnsOn k work (elim o [ None ↦ work | Some begun ↦ waits_at client command begun work ])
    at command None = on_itself work
    at command (Some begun) = if_on (is_owner client begun.owner) (owner command begun.tid) (borrower command command.issued begun.tid)

    by : (o : Option OpenCommand) → TurnsOn k work (elim o [ None ↦ work | Some command ↦ wait_command client command work ])
    by None = on_itself work
    by (Some command) = at command (label_at command.line.label work.node)

-- ---- and of what stands of it

module _ (t : Tid) (scene : Scene) (n : ℕ) (work : Work) (w : machine.World) (is : Stands t scene n work w) (client : ClientNo) where
  module _ (command : OpenCommand) (in_run : goes_in_run work.node.setting.nodes command.line.command ≡ true) where
    owner_stands : (o : Option Tid) → GoesOn t scene n (owner_waits client o command.line.command work) w
    owner_stands None = stands_itself t scene n work w is
    owner_stands (Some tid) = by (kept_outcome tid work.node)
      where
        by : (o : Option Decided) → GoesOn t scene n (elim o [ None ↦ work | Some decided ↦ answer client (decided_answer decided command.line.command) work ]) w
        by None = stands_itself t scene n work w is
        by (Some decided) = answer_stands t scene n client (decided_answer decided command.line.command) work w is

    borrower_stands : (issued : Option Issued) (o : Option Tid) → GoesOn t scene n (borrower_waits client issued o command.line.command work) w
    borrower_stands (Some issued) o = by (is_aborted issued.tid work.node)
      where
        by : (b : Bool) → GoesOn t scene n (if b then answer client answers.Ended work else work) w
        by true = answer_stands t scene n client answers.Ended work w is
        by false = stands_itself t scene n work w is
    borrower_stands None None = stands_itself t scene n work w is
    borrower_stands None (Some tid) = borrower_goes t tid scene n client command.line.command work w in_run is

    command_stands : GoesOn t scene n (wait_command client command work) w
    command_stands = by (label_at command.line.label work.node)
      where
        owned : (begun : KeptLabel) (b : Bool) → GoesOn t scene n (if b then owner_waits client begun.tid command.line.command work else borrower_waits client command.issued begun.tid command.line.command work) w
        owned begun true = owner_stands begun.tid
        owned begun false = borrower_stands command.issued begun.tid

        by : (o : Option KeptLabel) → GoesOn t scene n (elim o [ None ↦ work | Some begun ↦ waits_at client command begun work ]) w
        by None = stands_itself t scene n work w is
        by (Some begun) = owned begun (is_owner client begun.owner)

  wait_stands : commands_in_run work.node ≡ true → GoesOn t scene n (wait_on work client) w
  wait_stands in_run = by (lookup (is_at (client_cmp client)) work.node.commands) refl
    where
      by : (o : Option OpenCommand) → lookup (is_at (client_cmp client)) work.node.commands ≡ o → GoesOn t scene n (elim o [ None ↦ work | Some command ↦ wait_command client command work ]) w
      by None none = stands_itself t scene n work w is
      by (Some command) found = command_stands command (found_all (is_at (client_cmp client)) (is_open_in_run work.node.setting.nodes) (λ command. goes_in_run work.node.setting.nodes command.line.command) (λ e. refl) work.node.commands command found in_run)

-- ---- from stage to stage

pub next_stage : (t : Tid) (world : World) (w : machine.World) (n : ℕ) (later : Scene) (ends : Bool) (work new : Work) (s : AtStage t world w n later ends work)
    → GoesOn t later n new s.now → TurnsOn (case_of t world n ends w) work new → AtStage t world w n later ends new
next_stage t world w n later ends work new s goes turns = record {
  now = goes.next;
  leads = leads_on w s.now goes.next s.leads goes.leads;
  stands = goes.stands;
  kept = turns.kept s.kept;
  ended = λ so. commit_stays s.now goes.next s.stands.lawful goes.leads (s.ended so);
}

module _ (t : Tid) (world : World) (w : machine.World) (n : ℕ) (later : Scene) (ends : Bool) (work : Work) (s : AtStage t world w n later ends work) where
  pub after_settling : (tid : Tid) → AtStage t world w n later ends (settle_tid work tid)
  after_settling tid = next_stage t world w n later ends work (settle_tid work tid) s (settle_tid_goes t tid later n work s.now s.stands) (settle_tid_on work tid s.stands.sound)

  pub after_waiting : (client : ClientNo) → commands_in_run work.node ≡ true → AtStage t world w n later ends (wait_on work client)
  after_waiting client in_run = next_stage t world w n later ends work (wait_on work client) s (wait_stands t later n work s.now s.stands client in_run) (wait_on_on work client)
