-- The whole step of a node: what comes is done, the node settles, and commands that stayed open are answered.
use Rattle.qs_world_lawful.proofs.Words.{ℕ, [], Option, Some, None, refl, subst, NodeNo, BookValue, IsLawful, book_after, Message, settle, Work, work_on, abort_old, after_step, age_rule, effects_of, happen, message_came, step_work, Event, entries_of, HoldsWork, book_at, MayAge, MayStep, done_work, first_work, tick_work, Holds, Setting}
use Rattle.qs_ops.specs.declared.answer.Cause.TheVariants as causes
use Rattle.qs_packet.specs.declared.message.Message.TheVariants as messages
use Rattle.qs_node_step.specs.State.{NodeValue}
use Rattle.qs_node_step.specs.Step.{accept}
use Rattle.qs_node_step.specs.declared.event.Event.TheVariants as events
use Rattle.qs_tm.specs.Manager as tm
use Rattle.qs_world_lawful.specs.GivenStep.{MayAbortOld, MayCome, MayHappen}
use Rattle.qs_world_lawful.proofs.AskCame.{by_ask_came}
use Rattle.qs_world_lawful.proofs.CommandCame.{by_answer_waiting, by_command_came}
use Rattle.qs_world_lawful.proofs.Counting.{by_closer}
use Rattle.qs_world_lawful.proofs.FilesHeld.{files_held}
use Rattle.qs_world_lawful.proofs.FirstSteps.{by_begin_incarnation}
use Rattle.qs_world_lawful.proofs.Frames.{at_none, clients_on, held_on}
use Rattle.qs_world_lawful.proofs.PeerRestarts.{by_peer_restarted}
use Rattle.qs_world_lawful.proofs.SameSetting.{step_same}
use Rattle.qs_world_lawful.proofs.Replied.{by_replied, by_serve_all}
use Rattle.qs_world_lawful.proofs.RequestsCame.{by_request_came}
use Rattle.qs_world_lawful.proofs.Settled.{aborted, by_settle}
use Rattle.qs_world_lawful.proofs.Silent.{by_tick}
use Rattle.qs_world_lawful.proofs.Stages.{by_fold}
use Rattle.qs_world_lawful.proofs.TellingOn.{by_told_came}
use Rattle.qs_world_lawful.proofs.Tellings.{by_inquiry, by_refusal, by_tell}

module _ (stamp : ℕ) (before : BookValue) where
  -- ---- what comes

  by_message : (work : Work) → HoldsWork stamp before work → (peer : NodeNo) (message : Message) → MayCome stamp before work peer message → HoldsWork stamp before (message_came peer message work)
  by_message work h peer messages.Hello may = h
  by_message work h peer (messages.Request tid label member number issuer op) may = by_request_came stamp before work tid may.tx may.found may.open_still h peer label member number op may.stands
  by_message work h peer (messages.Answered tid member number reply) may = by_replied stamp before work h tid member number reply may
  by_message work h peer (messages.AskVote tid) may = by_ask_came stamp before work h peer tid may
  by_message work h peer (messages.Covered tid up_to) may = by_closer stamp before work h peer tid up_to [] may.other may.in_run may.sent
  by_message work h peer (messages.VotedYes tid up_to told) may = by_closer stamp before work h peer tid up_to told may.other may.in_run may.sent
  by_message work h peer (messages.VotedAbort tid cause) may = by_refusal stamp before work h tid cause
  by_message work h peer (messages.Tell tid outcome) may = by_tell stamp before work h tid peer outcome may.tx may.found may.is_so
  by_message work h peer (messages.Told tid further) may = by_told_came stamp before tid peer further work h may.unknown may.once
  by_message work h peer (messages.Inquire tid) may = by_inquiry stamp before work h tid peer may

  by_age : (age : Option ℕ) (work : Work) → HoldsWork stamp before work → MayAge stamp before age work → HoldsWork stamp before (age_rule age work)
  by_age None work h may = h
  by_age (Some age) work h may = by_fold stamp before (MayAbortOld age stamp before) (abort_old age) (λ w tid k old. aborted stamp before tid w k old.part old.known old.unknown old.decides (causes.Old age) old.cause) (tm.aged age work.node.manager) work h may

  pub by_happen : (event : Event) (work : Work) → HoldsWork stamp before work → MayHappen stamp before event work → HoldsWork stamp before (happen event work)
  by_happen (events.Command client line label command) work h may = by_command_came stamp before work h (record { client = client; line = line; label = label; command = command }) may
  by_happen (events.Received peer message) work h may = by_message work h peer message may
  by_happen events.ServeAll work h may = by_serve_all stamp before work h may
  by_happen (events.PeerRestarted peer old new) work h may = by_peer_restarted stamp before peer old new work h
  by_happen events.Tick work h may = by_age work.node.setting.age (tick_work work) (by_tick stamp before work h) may

-- ---- all of it

-- a step begins with what is held, and nothing entered
begun : (stamp : ℕ) (book : BookValue) (node : NodeValue) (free : ℕ) → Holds stamp book node → HoldsWork stamp book (work_on node free)
begun stamp book node free h = record { lawful = tt; holds = h }

-- what is kept for clients counts from now on
accepted_on : (stamp : ℕ) (book : BookValue) (node : NodeValue) → Holds stamp book node → Holds stamp book (accept node)
accepted_on stamp book node h =
    held_on stamp book book node (accept node) h (record { setting = refl; at = refl; in_inc = refl }) refl h.state (record { up = refl; inc = refl; begun = refl; format = refl })
    h.order refl h.there (λ t is. is)
    (at_none node.setting.node node.setting.inc book node (accept node) h.at (λ t. record { known = refl; local = refl; changes = refl; loans = refl; waiting = λ s. refl }))
    (clients_on book book node (accept node) (λ t. refl) (λ k. refl) (record { setting = refl; at = refl; in_inc = refl }) (record { commands = refl; labels = refl; outcomes = refl }) h.clients (λ t. refl)) h.servers h.waits

-- as its event comes
pub first_held : (stamp : ℕ) (book : BookValue) (node : NodeValue) (free : ℕ) → Holds stamp book node → HoldsWork stamp book (first_work node free)
first_held stamp book node free h = by_begin_incarnation stamp book (work_on node free) (begun stamp book node free h) (files_held stamp book (work_on node free) (begun stamp book node free h))

pub by_step : (stamp : ℕ) (book : BookValue) (node : NodeValue) (event : Event) (free : ℕ) → Holds stamp book node → MayStep stamp book node event free → HoldsWork stamp book (step_work node event free)
by_step stamp book node event free h may = by_answer_waiting stamp book (settle (done_work node event free)) (by_settle stamp book (done_work node event free) (by_happen stamp book event (first_work node free) (first_held stamp book node free h) may.happens) may.settles) may.waits

-- the entries of the step, and what the node is after it
pub by_whole_step : (stamp : ℕ) (book : BookValue) (node : NodeValue) (event : Event) (free : ℕ) → Holds stamp book node → MayStep stamp book node event free
    → IsLawful book (entries_of node.setting.node.0 stamp (effects_of node event free).entries) × Holds stamp (book_after book (entries_of node.setting.node.0 stamp (effects_of node event free).entries)) (after_step node event free)
by_whole_step stamp book node event free h may =
    subst (λ (s : Setting). IsLawful book (entries_of s.node.0 stamp (effects_of node event free).entries) × Holds stamp (book_after book (entries_of s.node.0 stamp (effects_of node event free).entries)) (after_step node event free)) (step_same node event free)
    (done.lawful, accepted_on stamp (book_at stamp book (step_work node event free)) (step_work node event free).node done.holds)
  where
    done : HoldsWork stamp book (step_work node event free)
    done = by_step stamp book node event free h may
