-- A commit that is told to a node comes from its home, a node of the run; and where the node waits for the outcome of a vote of its own, its log has the vote in doubt as the message comes.
use Rattle.qs_world_runs.proofs.Words.{◌≡◌, ℕ, ◌+◌, ◌++◌, true, List, length, Option, Some, None, zero, suc, refl, sym, ap, subst, ◌∙◌, append_assoc, fold, nat_lt, fold-append, list_any, Tid, Message, Record, Recovery, found_record, names_transaction, nothing_said, recovery, work_on, Event, InLog, Participant, opened_from, Clock, Commanded, Handed, Noticed, Queues, Source, event_of, Opening, World, from_client, from_node, from_notice, StepMay, step_may, IsShownWorld, first_work, MakesStep}
use Rattle.qs_world_runs.proofs.Words.{same_Some}
use Rattle.qs_base.specs.declared.identifiers.Outcome.TheVariants as outcomes
use Rattle.qs_packet.specs.declared.message.Message.TheVariants as messages
use Rattle.qs_node_step.specs.State.{NodeValue, part_of}
use Rattle.qs_node_step.specs.declared.event.Event.TheVariants as events
use Rattle.qs_world_refine.proofs.EachMay.{is_fit}
use Rattle.qs_world_refine.proofs.SaysSeen.{said_seen}
use Rattle.qs_world_refine.proofs.SaysSettles.{begin_incarnation_on}
use Rattle.qs_world_refine.proofs.SoundParts.{and_both}
use Rattle.qs_world_refine.specs.SaidLaws.{AreSaid, IsSoundOver, SaysOn, no_flags}
use Rattle.qs_world_refine.specs.Steady.{is_fit_message, is_of_run}
use Rattle.qs_world_lawful.specs.SayingSteps.{IsToldSo, TellsSo, is_doubt_of}
use Rattle.qs_world_runs.proofs.AgreesEach.{steady}

pub opened_length : (o : Opening) (k more : ℕ) → length (opened_from o k more) ≡ more
opened_length o k zero = refl
opened_length o k (suc more) = ap suc (opened_length o (k + 1) more)

module _ (o : Opening) (world : World) (is : IsShownWorld world) (size : world.size ≡ o.size) (n stamp free : ℕ) (source : Source) (event : Event) (makes : MakesStep world n stamp source event) where
  abbrev node : NodeValue
  node = (world.hosts n).node

  its : StepMay world n source
  its = step_may world n stamp source makes.may

  abbrev more : List Record
  more = (first_work node free).out.records

  abbrev log_now : Recovery
  log_now = recovery ((world.hosts n).log ++ ((world.hosts n).waiting ++ more))

  -- what the node says of its log is so as the event comes
  said_first : AreSaid (first_work node free).node log_now
  said_first = subst (AreSaid (first_work node free).node) log_is (begun.said (recovery ((world.hosts n).log ++ (world.hosts n).waiting)) (said_seen node (recovery ((world.hosts n).log ++ (world.hosts n).waiting)) sound.node (sound.runs its.runs)))
    where
      sound : IsSoundOver world n
      sound = is.steady.sound n its.low

      begun : SaysOn (work_on node free) (first_work node free)
      begun = begin_incarnation_on (work_on node free)

      log_is : fold found_record (recovery ((world.hosts n).log ++ (world.hosts n).waiting)) begun.more ≡ log_now
      log_is = ap (λ (rs : List Record). fold found_record (recovery ((world.hosts n).log ++ (world.hosts n).waiting)) rs) (sym begun.records)
          ∙ (sym (fold-append found_record nothing_said ((world.hosts n).log ++ (world.hosts n).waiting) more) ∙ ap recovery (append_assoc (world.hosts n).log (world.hosts n).waiting more))

  doubted : (tid : Tid) (part : Participant) → part_of tid (first_work node free) ≡ Some part → part.log.prepared ≡ true → list_any (is_doubt_of tid) log_now.prepared ≡ true
  doubted tid part known prepared = sym (said_first tid).prepared ∙ (ap (λ (f : InLog). f.prepared) (ap (λ (o : Option Participant). elim o [ None ↦ no_flags | Some p ↦ p.log ]) known) ∙ prepared)

  told_so : (tid : Tid) → nat_lt tid.home.0 world.size ≡ true → IsToldSo (opened_from o 0 o.size) log_now tid (first_work node free)
  told_so tid home_in = record { at_home = ap (λ (k : ℕ). nat_lt tid.home.0 k) (opened_length o 0 o.size ∙ sym size) ∙ home_in; doubted = doubted tid }

  abbrev Tells : Event → Type 0
  Tells e = TellsSo (opened_from o 0 o.size) log_now e (first_work node free)

  pub tells_so : Tells event
  tells_so = by source makes.comes
    where
      message : (m : ℕ) (x : Message) → ((tid : Tid) → x ≡ messages.Tell tid outcomes.Commit → nat_lt tid.home.0 world.size ≡ true) → Tells (events.Received (record { 0 = m }) x)
      message m (messages.Tell tid outcomes.Commit) home = told_so tid (home tid refl)
      message m (messages.Tell tid outcomes.Abort) home = tt
      message m messages.Hello home = tt
      message m (messages.Request tid label member number issuer op) home = tt
      message m (messages.Answered tid member number reply) home = tt
      message m (messages.AskVote tid) home = tt
      message m (messages.Covered tid up_to) home = tt
      message m (messages.VotedYes tid up_to told) home = tt
      message m (messages.VotedAbort tid cause) home = tt
      message m (messages.Told tid further) home = tt
      message m (messages.Inquire tid) home = tt

      by : (source : Source) → event_of world n stamp source ≡ Some event → Tells event
      by (Commanded k) comes = let from = from_client world n k event (steady world is n stamp free source event makes) comes in subst Tells (sym from.is) tt
      by (Handed m) comes =
          let from = from_node world n stamp m event comes in
          let fit = is_fit world n m from.parcel (steady world is n stamp free source event makes) from.found in
          subst Tells (sym from.is) (message m from.parcel.message (λ tid same. home_in tid (ap (λ (x : Message). is_fit_message world.size m n x) (sym same) ∙ fit)))
        where
          home_in : (tid : Tid) → is_fit_message world.size m n (messages.Tell tid outcomes.Commit) ≡ true → nat_lt tid.home.0 world.size ≡ true
          home_in tid fit = (and_both (names_transaction tid) _ (and_both (is_of_run world.size tid) _ fit).0).1
      by Queues comes = subst Tells (same_Some events.ServeAll event comes) tt
      by Clock comes = subst Tells (same_Some events.Tick event comes) tt
      by (Noticed m new) comes = let from = from_notice world n stamp m new event comes in subst Tells (sym from.is) tt
