-- A command that comes leaves standing what stood of a transaction.
use Rattle.qs_world_refine.proofs.Words.{◌≡◌, ℕ, ◌&&◌, ◌||◌, Bool, true, false, [], Option, Some, None, is_some, refl, sym, subst, if◌then◌else◌, is_at, tid_cmp, same_tid, ClientNo, Tid, uncovered, listed, Command, ScriptLine, has_label, Decided, is_undecided, BeginFault, Participant, kept_outcome, where_undecided, become_asked, borrower_command, enter, answer, send_each, refuse_begin, begin_or_refuse, begin_command, enter_ask, ask, open_command, owner_command, decided_answer, decide, label_at}
use Rattle.qs_world_refine.proofs.Words.{put_label, Work, part_of, with_manager, is_owner, labelled, obey, with_command, Scene, goes_in_run, is_owned, is_owned_label, keeps_owned, Stands, GoesOn, implied}
use Rattle.qs_base.specs.declared.identifiers.Outcome.TheVariants as outcomes
use Rattle.qs_book_journal.specs.declared.entry.Act.TheVariants as acts
use Rattle.qs_book_journal.specs.declared.script_line.Command.TheVariants as commands
use Rattle.qs_node_kept.specs.declared.kept.KeptLabel.{KeptLabel}
use Rattle.qs_ops.specs.declared.answer.Answer.TheVariants as answers
use Rattle.qs_ops.specs.declared.answer.Cause.TheVariants as causes
use Rattle.qs_packet.specs.declared.message.Message.TheVariants as messages
use Rattle.qs_tm.specs.Manager as tm
use Rattle.qs_tm.specs.Participant as participant
use Rattle.qs_tm.specs.declared.manager.BeginFault.TheVariants as faults
use Rattle.qs_world_agree.specs.World.{World}
use Rattle.qs_world_refine.specs.CommandLaws.{CommandGoes}
use Rattle.qs_world_refine.proofs.Beginning.{begin_leaves}
use Rattle.qs_world_refine.proofs.BorrowerStands.{answer_stands, borrower_goes, answer_kinds}
use Rattle.qs_world_refine.proofs.During.{Leaves, leaves_itself, leaves_on}
use Rattle.qs_world_refine.proofs.Frames.{out_leaves, part_leaves, sends_leave}
use Rattle.qs_world_refine.proofs.HomeAborts.{aborts, none_is}
use Rattle.qs_world_refine.proofs.IssueStands.{request_stands}
use Rattle.qs_world_refine.proofs.Keeping.{answer_leaves}
use Rattle.qs_world_refine.proofs.KindsKept.{KeepsKinds, sends_kinds}
use Rattle.qs_world_refine.proofs.LogFrames.{Apart}
use Rattle.qs_world_refine.proofs.Maps.{lookup_changed}
use Rattle.qs_world_refine.proofs.PassCarried.{Carries, carries_itself, carries_on, carries_each, carries_send}
use Rattle.qs_world_refine.proofs.RuleGoes.{owner_asks}
use Rattle.qs_world_refine.proofs.SettleRules.{beside, beside_apart, stands_on, clear_carried, answers_carried}
use Rattle.qs_world_refine.proofs.SettleStands.{stands_itself, stands_left, whole_known}
use Rattle.qs_world_refine.proofs.SoundBegin.{begin_command_sound}
use Rattle.qs_world_refine.proofs.SoundCommands.{owner_open, home_is}
use Rattle.qs_world_refine.proofs.SoundHappen.{find_all}
use Rattle.qs_world_refine.proofs.SoundKnown.{same_is}
use Rattle.qs_world_refine.proofs.SoundRules.{owner_asks_sound}

-- ---- a client begins another transaction

module _ (t : Tid) (scene : Scene) (n : ℕ) (line : ScriptLine) (work : Work) (w : World) (apart : same_tid t (tm.next_tid work.node.manager) ≡ false) (is : Stands t scene n work w) where
  refused_leaves : (need room : ℕ) → Leaves t work (refuse_begin line need room work)
  refused_leaves need room = leaves_on t work labelled_work (refuse_begin line need room work)
      (out_leaves t work labelled_work (record { around = record { setting = refl; waits = λ s. refl; loans = refl; past = refl }; part = refl }) refl refl) (answer_leaves t line.client (answers.LogFull need room) labelled_work)
    where
      labelled_work : Work
      labelled_work = put_label (record { label = line.label; tid = None; owner = Some line.client }) work

  begin_kinds : (o : Option BeginFault) → KeepsKinds work (begin_or_refuse line o work)
  begin_kinds None has = answer_kinds line.client answers.Done
      (enter (acts.Begin (tm.next_tid work.node.manager) line.label line.client) (put_label (record { label = line.label; tid = Some (tm.next_tid work.node.manager); owner = Some line.client }) (with_manager (tm.begin line.client) work))) has
  begin_kinds (Some (faults.LogFull need room)) has = answer_kinds line.client (answers.LogFull need room) (put_label (record { label = line.label; tid = None; owner = Some line.client }) work) has
  begin_kinds (Some (faults.Last number)) has = has
  begin_kinds (Some faults.NoMemory) has = has

  begins_leave : (o : Option BeginFault) → Leaves t work (begin_or_refuse line o work)
  begins_leave None = begin_leaves line work t apart
  begins_leave (Some (faults.LogFull need room)) = refused_leaves need room
  begins_leave (Some (faults.Last number)) = leaves_itself t work
  begins_leave (Some faults.NoMemory) = leaves_itself t work

  begun_stands : GoesOn t scene n (begin_command line work) w
  begun_stands = record {
    next = w;
    leads = record { events = []; run = refl };
    stands = stands_left t scene n work (begin_command line work) w (begins_leave (tm.begin_fault work.room work.node.manager)) (begin_command_sound line work is.sound) (begin_kinds (tm.begin_fault work.room work.node.manager) is.kinds) is;
  }

-- ---- the owner asks for the commit

module _ (tid : Tid) (part : Participant) (work : Work) where
  ask_leaves : (t : Tid) → Apart t tid → Leaves t work (ask tid part work)
  ask_leaves t apart = by part.asked
    where
      by : (b : Bool) → Leaves t work (if b then work else become_asked tid part (enter_ask tid work))
      by true = leaves_itself t work
      by false = leaves_on t work (enter_ask tid work) (become_asked tid part (enter_ask tid work)) (out_leaves t work (enter_ask tid work) (record { around = record { setting = refl; waits = λ s. refl; loans = refl; past = refl }; part = refl }) refl refl)
          (leaves_on t (enter_ask tid work) (with_manager (tm.ask tid) (enter_ask tid work)) (become_asked tid part (enter_ask tid work)) (part_leaves t tid participant.ask (enter_ask tid work) apart)
          (sends_leave t (listed (uncovered part.engage)) (messages.AskVote tid) (with_manager (tm.ask tid) (enter_ask tid work)) refl))

  ask_kinds : KeepsKinds work (ask tid part work)
  ask_kinds = by part.asked
    where
      by : (b : Bool) → KeepsKinds work (if b then work else become_asked tid part (enter_ask tid work))
      by true has = has
      by false has = sends_kinds (listed (uncovered part.engage)) (messages.AskVote tid) (with_manager (tm.ask tid) (enter_ask tid work)) has

  ask_carries : Carries tid work (ask tid part work)
  ask_carries = by part.asked
    where
      asked : Carries tid work (with_manager (tm.ask tid) (enter_ask tid work))
      asked part known = record {
        next = participant.ask part;
        known = lookup_changed (is_at (tid_cmp tid)) participant.ask work.node.manager.known part known;
        outcome = refl;
        superior = λ m has. has;
        unprepared = λ is. (is, refl);
      }

      by : (b : Bool) → Carries tid work (if b then work else become_asked tid part (enter_ask tid work))
      by true = carries_itself tid work
      by false = carries_on tid work (with_manager (tm.ask tid) (enter_ask tid work)) (become_asked tid part (enter_ask tid work)) asked
          (carries_each tid (λ work to. Rattle.qs_node_step.specs.Bringing.send to (messages.AskVote tid) work) (λ work to. carries_send tid to (messages.AskVote tid) work) (listed (uncovered part.engage)) (with_manager (tm.ask tid) (enter_ask tid work)))

module _ (t tid : Tid) (scene : Scene) (n : ℕ) (work : Work) (w : World) (is : Stands t scene n work w) where
  asks : (part : Participant) → part_of tid work ≡ Some part → is_undecided part ≡ true → GoesOn t scene n (ask tid part work) w
  asks part known open_now = by (same_tid t tid) refl
    where
      own : Stands tid scene n work w → GoesOn tid scene n (ask tid part work) w
      own so = stands_on tid scene n work (ask tid part work) w so (owner_asks tid scene n work part w so.shown so.at (whole_known tid scene n work w so part known))
          (ask_leaves tid part work (beside tid) (beside_apart tid)) (owner_asks_sound tid part work) (ask_kinds tid part work)
          (clear_carried tid scene n work (ask tid part work) w so part known (none_is part open_now) (ask_carries tid part work part known))
          (answers_carried tid scene n work (ask tid part work) w so part known (none_is part open_now) (ask_carries tid part work part known))

      by : (b : Bool) → same_tid t tid ≡ b → GoesOn t scene n (ask tid part work) w
      by true same = subst (λ (k : Tid). Stands k scene n work w → GoesOn k scene n (ask tid part work) w) (sym (same_is t tid same)) own is
      by false apart = record {
        next = w;
        leads = record { events = []; run = refl };
        stands = stands_left t scene n work (ask tid part work) w (ask_leaves tid part work t apart) (owner_asks_sound tid part work is.sound) (ask_kinds tid part work is.kinds) is;
      }

  where_stands : (rule : Participant → Work → Work) → ((part : Participant) → part_of tid work ≡ Some part → is_undecided part ≡ true → GoesOn t scene n (rule part work) w) → GoesOn t scene n (where_undecided tid rule work) w
  where_stands rule each = by (part_of tid work) refl
    where
      picked : (part : Participant) → part_of tid work ≡ Some part → (b : Bool) → is_undecided part ≡ b → GoesOn t scene n (if b then rule part work else work) w
      picked part known true open_now = each part known open_now
      picked part known false decided = stands_itself t scene n work w is

      by : (o : Option Participant) → part_of tid work ≡ o → GoesOn t scene n (elim o [ None ↦ work | Some part ↦ if is_undecided part then rule part work else work ]) w
      by None none = stands_itself t scene n work w is
      by (Some part) known = picked part known (is_undecided part) refl

  -- ---- what an owner commands

  module _ (client : ClientNo) (owned : tm.told_of tid false (λ part. part.engage.home && is_undecided part) work.node.manager ≡ true) where
    open_stands : (command : Command) → goes_in_run work.node.setting.nodes command ≡ true → GoesOn t scene n (open_command client tid command work) w
    open_stands commands.Begin in_run = stands_itself t scene n work w is
    open_stands commands.Commit in_run = where_stands (ask tid) asks
    open_stands commands.Abort in_run = where_stands (λ part. decide tid outcomes.Abort (Some causes.Asked)) (λ part known open_now. aborts tid scene (Some causes.Asked) work part known open_now (home_is client tid work owned part known) t n w is)
    open_stands commands.Take in_run = stands_itself t scene n work w is
    open_stands commands.Yield in_run = stands_itself t scene n work w is
    open_stands (commands.Request member op) in_run = request_stands t tid scene n client member op work w in_run (owner_open client tid work owned) is

module _ (t : Tid) (scene : Scene) (n : ℕ) (client : ClientNo) (command : Command) (work : Work) (w : World) (in_run : goes_in_run work.node.setting.nodes command ≡ true) (is : Stands t scene n work w) where
  owner_stands : (tid : Tid) → is_owned work.node tid ≡ true → GoesOn t scene n (owner_command client (Some tid) command work) w
  owner_stands tid owned = by (kept_outcome tid work.node) owned
    where
      by : (o : Option Decided) → (is_some o || tm.told_of tid false (λ part. part.engage.home && is_undecided part) work.node.manager) ≡ true
          → GoesOn t scene n (elim o [ None ↦ open_command client tid command work | Some decided ↦ answer client (decided_answer decided command) work ]) w
      by None runs = open_stands t tid scene n work w is client runs command in_run
      by (Some decided) runs = answer_stands t scene n client (decided_answer decided command) work w is

  labelled_stands : (begun : KeptLabel) → is_owned_label work.node begun ≡ true → GoesOn t scene n (labelled client begun command work) w
  labelled_stands begun owned = by begun.owner refl
    where
      owner_by : (o : Option Tid) → ◌≡◌ {A = Bool} (elim o [ None ↦ true | Some tid ↦ is_owned work.node tid ]) true → GoesOn t scene n (owner_command client o command work) w
      owner_by None so = answer_stands t scene n client answers.NotBegun work w is
      owner_by (Some tid) so = owner_stands tid so

      borrower_by : (o : Option Tid) → GoesOn t scene n (elim o [ None ↦ work | Some tid ↦ borrower_command client tid command work ]) w
      borrower_by None = stands_itself t scene n work w is
      borrower_by (Some tid) = borrower_goes t tid scene n client command work w in_run is

      picked : (o : Option ClientNo) → begun.owner ≡ o → (b : Bool) → is_owner client o ≡ b → GoesOn t scene n (if b then owner_command client begun.tid command work else elim begun.tid [ None ↦ work | Some tid ↦ borrower_command client tid command work ]) w
      picked o at false so = borrower_by begun.tid
      picked None at true so = absurd (cc so)
      picked (Some owner) at true so = owner_by begun.tid (implied (is_some begun.owner) _ (rw at refl) owned)

      by : (o : Option ClientNo) → begun.owner ≡ o → GoesOn t scene n (if is_owner client o then owner_command client begun.tid command work else elim begun.tid [ None ↦ work | Some tid ↦ borrower_command client tid command work ]) w
      by o at = picked o at (is_owner client o) refl

-- ---- a command

module _ (t : Tid) (scene : Scene) (n : ℕ) (line : ScriptLine) (work : Work) (w : World) (owns : keeps_owned work.node ≡ true) (is : Stands t scene n work w) where
  obeyed : (command : Command) → goes_in_run work.node.setting.nodes command ≡ true → GoesOn t scene n (elim (label_at line.label work.node) [ None ↦ work | Some begun ↦ labelled line.client begun command work ]) w
  obeyed command in_run = by (label_at line.label work.node) refl
    where
      by : (o : Option KeptLabel) → label_at line.label work.node ≡ o → GoesOn t scene n (elim o [ None ↦ work | Some begun ↦ labelled line.client begun command work ]) w
      by None none = stands_itself t scene n work w is
      by (Some begun) found = labelled_stands t scene n line.client command work w in_run is begun (find_all (has_label line.label) (is_owned_label work.node) work.node.kept.now.labels begun found owns)

  obey_stands : (command : Command) → goes_in_run work.node.setting.nodes command ≡ true → (command ≡ commands.Begin → same_tid t (tm.next_tid work.node.manager) ≡ false) → GoesOn t scene n (obey line command work) w
  obey_stands commands.Begin in_run apart = begun_stands t scene n line work w (apart refl) is
  obey_stands commands.Commit in_run apart = obeyed commands.Commit in_run
  obey_stands commands.Abort in_run apart = obeyed commands.Abort in_run
  obey_stands commands.Take in_run apart = obeyed commands.Take in_run
  obey_stands commands.Yield in_run apart = obeyed commands.Yield in_run
  obey_stands (commands.Request member op) in_run apart = obeyed (commands.Request member op) in_run

pub command_goes : CommandGoes
command_goes t scene n line work w in_run owns apart is = obey_stands t scene n line opened w owns
    (stands_left t scene n work opened w (out_leaves t work opened (record { around = record { setting = refl; waits = λ s. refl; loans = refl; past = refl }; part = refl }) refl refl) is.sound is.kinds is) line.command in_run apart
  where
    opened : Work
    opened = with_command line work
