-- A node stays sound where what comes to it is done.
use Rattle.qs_world_refine.proofs.Words.{◌≡◌, ◌<◌, nat_lt, nat_le, Bool, true, false, List, [], ◌∷◌, Option, Some, None, is_some, refl, subst, arith, if◌then◌else◌, list_all, find, nat_tests, ClientNo, NodeNo, Tid, same_node, Command, ScriptLine, has_label, Message, enter, borrower_command, owner_command, label_at, timers_no, ticked, Work, with_manager, change_server, is_owner, labelled, obey, with_command, message_came, is_sound, goes_in_run, is_owned, is_owned_label, keeps_owned, StaysSound}
use Rattle.qs_world_refine.proofs.Words.{FitsMessage, implied}
use Rattle.qs_book_journal.specs.declared.script_line.Command.TheVariants as commands
use Rattle.qs_node_kept.specs.declared.kept.KeptLabel.{KeptLabel}
use Rattle.qs_ops.specs.declared.answer.Answer.TheVariants as answers
use Rattle.qs_packet.specs.declared.message.Message.TheVariants as messages
use Rattle.qs_tm.specs.Manager as tm
use Rattle.qs_node_step.specs.declared.event.Event.TheVariants as events
use Rattle.qs_world_refine.specs.SoundSteps.{HappenSound}
use Rattle.qs_world_refine.proofs.SoundParts.{and_both}
use Rattle.qs_world_refine.proofs.SoundRules.{answer_sound, ask_came_sound, refusal_came_sound, reply_came_sound}
use Rattle.qs_world_refine.proofs.SoundBegin.{begin_command_sound}
use Rattle.qs_world_refine.proofs.SoundAge.{age_sound}
use Rattle.qs_world_refine.proofs.SoundCommands.{borrower_command_sound, owner_command_sound}
use Rattle.qs_world_refine.proofs.SoundCount.{few_nodes, closer_came_sound}
use Rattle.qs_world_refine.proofs.SoundViews.{seen}
use Rattle.qs_world_refine.proofs.SoundHome.{inquiry_came_sound, told_came_sound}
use Rattle.qs_world_refine.proofs.SoundRequest.{request_came_sound}
use Rattle.qs_world_refine.proofs.SoundRestart.{peer_restarted_sound}
use Rattle.qs_world_refine.proofs.SoundServe.{serve_all_sound}
use Rattle.qs_world_refine.proofs.SoundTell.{tell_came_sound}

-- ---- commands

pub find_all : (p q : KeptLabel → Bool) (xs : List KeptLabel) (x : KeptLabel) → find p xs ≡ Some x → list_all q xs ≡ true → q x ≡ true
find_all p q [] x found all = absurd (cc (found))
find_all p q (y ∷ ys) x found all = by (p y) refl (find_all p q ys x)
  where
    both : (q y ≡ true) × (list_all q ys ≡ true)
    both = and_both (q y) (list_all q ys) all

    by : (b : Bool) → p y ≡ b → (find p ys ≡ Some x → list_all q ys ≡ true → q x ≡ true) → q x ≡ true
    by true is more = let value : Some y ≡ Some x = rw is at found in subst (λ (b : KeptLabel). q b ≡ true) (cc (value)) both.0
    by false is more = more (rw is at found) both.1

labelled_sound : (client : ClientNo) (begun : KeptLabel) (command : Command) (work : Work) → goes_in_run work.node.setting.nodes command ≡ true → is_owned_label work.node begun ≡ true → StaysSound work (labelled client begun command work)
labelled_sound client begun command work in_run owned = by begun.owner refl
  where
    owner_by : (o : Option Tid) → ◌≡◌ {A = Bool} (elim o [ None ↦ true | Some tid ↦ is_owned work.node tid ]) true → StaysSound work (owner_command client o command work)
    owner_by None is = answer_sound client answers.NotBegun work
    owner_by (Some tid) is = owner_command_sound client tid command work in_run is

    borrower_by : (o : Option Tid) → StaysSound work (elim o [ None ↦ work | Some tid ↦ borrower_command client tid command work ])
    borrower_by None = λ sound. sound
    borrower_by (Some tid) = borrower_command_sound client tid command work in_run

    picked : (o : Option ClientNo) → begun.owner ≡ o → (b : Bool) → is_owner client o ≡ b → StaysSound work (if b then owner_command client begun.tid command work else elim begun.tid [ None ↦ work | Some tid ↦ borrower_command client tid command work ])
    picked o at false is = borrower_by begun.tid
    picked None at true is = absurd (cc (is))
    picked (Some owner) at true is = owner_by begun.tid (implied (is_some begun.owner) _ (rw at refl) owned)

    by : (o : Option ClientNo) → begun.owner ≡ o → StaysSound work (if is_owner client o then owner_command client begun.tid command work else elim begun.tid [ None ↦ work | Some tid ↦ borrower_command client tid command work ])
    by o at = picked o at (is_owner client o) refl

obeyed_sound : (line : ScriptLine) (command : Command) (work : Work) → goes_in_run work.node.setting.nodes command ≡ true → keeps_owned work.node ≡ true
    → StaysSound work (elim (label_at line.label work.node) [ None ↦ work | Some begun ↦ labelled line.client begun command work ])
obeyed_sound line command work in_run owns = by (label_at line.label work.node) refl
  where
    by : (o : Option KeptLabel) → label_at line.label work.node ≡ o → StaysSound work (elim o [ None ↦ work | Some begun ↦ labelled line.client begun command work ])
    by None none = λ sound. sound
    by (Some begun) found = labelled_sound line.client begun command work in_run (find_all (has_label line.label) (is_owned_label work.node) work.node.kept.now.labels begun found owns)

obey_sound : (line : ScriptLine) (command : Command) (work : Work) → goes_in_run work.node.setting.nodes command ≡ true → keeps_owned work.node ≡ true → StaysSound work (obey line command work)
obey_sound line commands.Begin work in_run owns = begin_command_sound line work
obey_sound line commands.Commit work in_run owns = obeyed_sound line commands.Commit work in_run owns
obey_sound line commands.Abort work in_run owns = obeyed_sound line commands.Abort work in_run owns
obey_sound line commands.Take work in_run owns = obeyed_sound line commands.Take work in_run owns
obey_sound line commands.Yield work in_run owns = obeyed_sound line commands.Yield work in_run owns
obey_sound line (commands.Request member op) work in_run owns = obeyed_sound line (commands.Request member op) work in_run owns

-- ---- messages

low_peer : (peer : NodeNo) (work : Work) → nat_lt peer.0 work.node.setting.nodes ≡ true → is_sound work.node ≡ true → peer.0 < 16
low_peer peer work in_run sound = let few : nat_le work.node.setting.nodes 16 ≡ true = few_nodes work.node (seen work.node sound).fits in grind (arith, nat_tests, in_run, few)

pub message_sound : (peer : NodeNo) (message : Message) (work : Work) → nat_lt peer.0 work.node.setting.nodes ≡ true → same_node peer work.node.setting.node ≡ false → FitsMessage peer message work
    → StaysSound work (message_came peer message work)
message_sound peer messages.Hello work in_run other fits = λ sound. sound
message_sound peer (messages.Request tid label member number issuer op) work in_run other fits = request_came_sound peer tid label member number op work in_run other fits.0 fits.1
message_sound peer (messages.Answered tid member number reply) work in_run other fits = reply_came_sound tid member number reply work
message_sound peer (messages.AskVote tid) work in_run other fits = ask_came_sound peer tid work
message_sound peer (messages.Covered tid up_to) work in_run other fits = λ sound. closer_came_sound peer tid up_to [] work (low_peer peer work in_run sound) fits.0 (λ k never. absurd (cc (never))) fits.1 sound
message_sound peer (messages.VotedYes tid up_to told) work in_run other fits = λ sound. closer_came_sound peer tid up_to told work (low_peer peer work in_run sound) fits.0 fits.1.0 fits.1.1 sound
message_sound peer (messages.VotedAbort tid cause) work in_run other fits = refusal_came_sound tid cause work
message_sound peer (messages.Tell tid outcome) work in_run other fits = tell_came_sound peer tid outcome work fits
message_sound peer (messages.Told tid further) work in_run other fits = told_came_sound peer tid further work fits
message_sound peer (messages.Inquire tid) work in_run other fits = inquiry_came_sound peer tid work in_run other

-- ---- events

pub happen_sound : HappenSound
happen_sound (events.Command client line label command) work may = obey_sound (record { client = client; line = line; label = label; command = command }) command
    (with_command (record { client = client; line = line; label = label; command = command }) work) may.0 may.1
happen_sound (events.Received peer message) work may = message_sound peer message work may.0 may.1.0 may.1.1
happen_sound events.ServeAll work may = serve_all_sound work
happen_sound (events.PeerRestarted peer old new) work may = λ sound. peer_restarted_sound peer old new work (low_peer peer work may sound) sound
happen_sound events.Tick work may = age_sound work.node.setting.age (with_manager tm.tick (change_server timers_no (λ value. record value { timers = ticked value.timers }) (enter Rattle.qs_book_journal.specs.declared.entry.Act.TheVariants.Tick work)))
