-- A whole step leaves what the log of its node says of contents and changes as the machine has it, with the records that wait for the next force and on the disk.
use Rattle.qs_world_lawful.proofs.Words.{◌≡◌, ℕ, ◌++◌, Bool, true, false, List, [], ◌∷◌, length, Some, refl, sym, ap, subst, ◌∙◌, fold, nat_lt, if◌then◌else◌, append-nil, Tid, Entry, Inv, IsCoherent, BookValue, IsLawful, book_after, opening, Opened, Record, Recovery, recovery, due_tids, forget_rule, pass_rule, ready_rule, refuse_rule, settle, settle_tid, try, Work, here, work_on, after_step, answer_waiting, effects_of, happen, step_work, Effects, Event, Setting, Participant, entries_of, Host}
use Rattle.qs_world_lawful.proofs.Words.{AgreementGives, HasCountRoom, book_at, AtEach, done_work, first_work, IsNumbered, HoldsHost, IsTrueEvent, Every, HoldsSaid, HoldsMade, SaidAfter, KeepsStanding, Stands, StepOn, StepStands, eqb-true}
use Rattle.qs_base.specs.declared.identifiers.Outcome.TheVariants as outcomes
use Rattle.qs_book_machine.specs.Nodes as machine
use Rattle.qs_packet.specs.declared.message.Message.TheVariants as messages
use Rattle.qs_node_step.specs.State.{NodeValue}
use Rattle.qs_node_step.specs.declared.event.Event.TheVariants as events
use Rattle.qs_tm.specs.Manager as tm
use Rattle.qs_world.specs.Moves.{log_after, waiting_after}
use Rattle.qs_world_lawful.specs.SayingSteps.{SaysBetween, TellsSo}
use Rattle.qs_world_lawful.specs.StepKeeps.{KeptThen}
use Rattle.qs_world_lawful.proofs.BesideWhole.{held_after, keeps_beside, step_beside}
use Rattle.qs_world_lawful.proofs.GivenSettling.{may_pass}
use Rattle.qs_world_lawful.proofs.GivenStages.{s_passed, s_settled}
use Rattle.qs_world_lawful.proofs.GivenWhole.{done, given_so}
use Rattle.qs_world_lawful.proofs.LogHappening.{by_happen}
use Rattle.qs_world_lawful.proofs.LogLaws.{inv_is, step_keeps}
use Rattle.qs_world_lawful.proofs.LogSettling.{by_forgotten, by_refuse, keeps_where}
use Rattle.qs_world_lawful.proofs.LogSteps.{by_begin_incarnation, quiet_waiting, starts}
use Rattle.qs_world_lawful.proofs.SaidComing.{TellsNone, ends_forgets, ends_happen, ends_refuse}
use Rattle.qs_world_lawful.proofs.SaidDecides.{says_ready}
use Rattle.qs_world_lawful.proofs.SaidDoubts.{undone_all, undone_disk}
use Rattle.qs_world_lawful.proofs.SaidEnds.{ends_begin, ends_where}
use Rattle.qs_world_lawful.proofs.SaidPairs.{made_is_said}
use Rattle.qs_world_lawful.proofs.SaidPasses.{says_pass_rule}
use Rattle.qs_world_lawful.proofs.SaidSteps.{Says, SaysAmid, says_ends, says_quiet, says_self, says_then, says_where}
use Rattle.qs_world_lawful.proofs.SaidTold.{says_told}
use Rattle.qs_world_lawful.proofs.StandsOn.{keeps_standing, step_stands}
use Rattle.qs_world_lawful.proofs.StepKept.{step_kept}
use Rattle.qs_world_lawful.proofs.Truths.{of_some}

made_of : (n : ℕ) (book : BookValue) (state : machine.NodeValue) (log : Recovery) → HoldsSaid n book state log → HoldsMade n book state log
made_of n book state log h = record { files = h.files; audit = h.audit; recorded = h.recorded; apart = h.apart; gone = h.gone }

module _ (opened : List Opened) (history : List Entry) (coherent : IsCoherent opened) (numbered : Every IsNumbered opened) (lawful_till : IsLawful (opening opened) history) (stamp size : ℕ) (nodes : ℕ → NodeValue) (n : ℕ) (host : Host) (event : Event) (free : ℕ)
    (s : StepOn stamp (book_after (opening opened) history) size nodes n host.node event free) (in_run : nat_lt n (length opened) ≡ true) (true_event : IsTrueEvent (book_after (opening opened) history) event)
    (tells : TellsSo opened (recovery (host.log ++ (host.waiting ++ (first_work host.node free).out.records))) event (first_work host.node free)) where
  abbrev before : BookValue
  before = book_after (opening opened) history

  i : Inv before
  i = inv_is opened history coherent lawful_till

  abbrev node : NodeValue
  node = host.node

  abbrev own : ℕ
  own = node.setting.node.0

  abbrev Goes : Work → Work → Type 0
  Goes old new = Says stamp before host.log host.waiting old new

  abbrev started : Work
  started = first_work node free

  abbrev done_at : Work
  done_at = done_work node event free

  abbrev last : Work
  last = step_work node event free

  stands : StepStands stamp before size nodes n node event free
  stands = step_stands stamp before size nodes n node event free (step_beside stamp before size nodes n node event free s)

  in_run_at : (work : Work) → Stands stamp before size nodes n work → nat_lt (here work).0 (length opened) ≡ true
  in_run_at work k = ap (λ (m : ℕ). nat_lt m (length opened)) k.by.at ∙ in_run

  -- ---- what comes

  plain : (e : Event) → TellsNone e → IsTrueEvent before e → Goes started (happen e started)
  plain e none is = says_ends stamp before i host.log host.waiting started (happen e started) (by_happen stamp before i host.log host.waiting e started is) (ends_happen e none started)

  comes : (e : Event) → IsTrueEvent before e → TellsSo opened (recovery (host.log ++ (host.waiting ++ started.out.records))) e started → Goes started (happen e started)
  comes (events.Received peer (messages.Tell tid outcomes.Commit)) is so = says_told opened history coherent lawful_till stamp host.log host.waiting tid started stands.first.held (in_run_at started stands.first) is so peer
  comes (events.Received peer (messages.Tell tid outcomes.Abort)) is so = plain (events.Received peer (messages.Tell tid outcomes.Abort)) tt is
  comes (events.Received peer messages.Hello) is so = plain (events.Received peer messages.Hello) tt is
  comes (events.Received peer (messages.Request tid label member number issuer op)) is so = plain (events.Received peer (messages.Request tid label member number issuer op)) tt is
  comes (events.Received peer (messages.Answered tid member number reply)) is so = plain (events.Received peer (messages.Answered tid member number reply)) tt is
  comes (events.Received peer (messages.AskVote tid)) is so = plain (events.Received peer (messages.AskVote tid)) tt is
  comes (events.Received peer (messages.Covered tid up_to)) is so = plain (events.Received peer (messages.Covered tid up_to)) tt is
  comes (events.Received peer (messages.VotedYes tid up_to told)) is so = plain (events.Received peer (messages.VotedYes tid up_to told)) tt is
  comes (events.Received peer (messages.VotedAbort tid cause)) is so = plain (events.Received peer (messages.VotedAbort tid cause)) tt is
  comes (events.Received peer (messages.Told tid further)) is so = plain (events.Received peer (messages.Told tid further)) tt is
  comes (events.Received peer (messages.Inquire tid)) is so = plain (events.Received peer (messages.Inquire tid)) tt is
  comes (events.Command client line label command) is so = plain (events.Command client line label command) tt is
  comes events.ServeAll is so = plain events.ServeAll tt is
  comes (events.PeerRestarted peer old new) is so = plain (events.PeerRestarted peer old new) tt is
  comes events.Tick is so = plain events.Tick tt is

  -- ---- settling

  stages : KeepsStanding stamp before size nodes n
  stages = keeps_standing stamp before size nodes n s.homes (keeps_beside stamp before s.in_run size nodes n)

  says_settled : (work : Work) (tid : Tid) → Stands stamp before size nodes n work → AgreementGives stamp before size nodes n work tid → HasCountRoom work tid → Goes work (settle_tid work tid)
  says_settled work tid k agreed room =
      let one : Work = try tid pass_rule work in
      let two : Work = try tid ready_rule one in
      let three : Work = try tid refuse_rule two in
      let k1 : Stands stamp before size nodes n one = s_passed stamp before size nodes n stages work tid k agreed room in
      says_then stamp before i host.log host.waiting work one (settle_tid work tid)
      (says_where stamp before i host.log host.waiting tid (pass_rule tid) work (λ part known none. says_pass_rule opened history coherent numbered lawful_till stamp host.log host.waiting tid work k.held part known none (λ due. may_pass stamp before size nodes n work k.by tid part known (agreed.passes part known due))))
      (says_then stamp before i host.log host.waiting one two (settle_tid work tid)
      (says_where stamp before i host.log host.waiting tid (ready_rule tid) one (λ part known none. says_ready opened history coherent numbered lawful_till stamp host.log host.waiting tid one k1.held part known (in_run_at one k1) (at_home one k1 part known)))
      (says_then stamp before i host.log host.waiting two three (settle_tid work tid)
      (says_ends stamp before i host.log host.waiting two three (keeps_where stamp before i host.log host.waiting tid (refuse_rule tid) two (λ part known none. by_refuse stamp before i host.log host.waiting tid part two)) (ends_where tid (refuse_rule tid) two (λ part. ends_refuse tid part two)))
      (says_ends stamp before i host.log host.waiting three (settle_tid work tid) (keeps_where stamp before i host.log host.waiting tid (forget_rule tid) three (λ part known none. by_forgotten stamp before i host.log host.waiting tid part three known)) (ends_where tid (forget_rule tid) three (λ part. ends_forgets tid part three)))))
    where
      at_home : (w : Work) → Stands stamp before size nodes n w → (part : Participant) → tm.part_of tid w.node.manager ≡ Some part → part.engage.home ≡ true → nat_lt tid.home.0 (length opened) ≡ true
      at_home w k part known home = ap (λ (m : ℕ). nat_lt m (length opened)) (eqb-true tid.home.0 w.node.setting.node.0 (sym (k.by.facts.parts tid part known).homed ∙ home)) ∙ in_run_at w k

  says_settles : (tids : List Tid) (work : Work) → Stands stamp before size nodes n work → AtEach (λ (work : Work) (tid : Tid). AgreementGives stamp before size nodes n work tid × HasCountRoom work tid) settle_tid work tids → Goes work (fold settle_tid work tids)
  says_settles [] work k given = says_self stamp before i host.log host.waiting work
  says_settles (tid ∷ tids) work k given = says_then stamp before i host.log host.waiting work (settle_tid work tid) (fold settle_tid (settle_tid work tid) tids) (says_settled work tid k given.0.0 given.0.1)
      (says_settles tids (settle_tid work tid) (s_settled stamp before size nodes n stages work tid k given.0.0 given.0.1) given.1)

  -- ---- all of it

  says_step : Goes (work_on node free) last
  says_step =
      let start : Work = work_on node free in
      let settled : Work = settle done_at in
      says_then stamp before i host.log host.waiting start started last (says_ends stamp before i host.log host.waiting start started (by_begin_incarnation stamp before i host.log host.waiting start) (ends_begin start))
      (says_then stamp before i host.log host.waiting started done_at last (comes event true_event tells)
      (says_then stamp before i host.log host.waiting done_at settled last (says_settles (due_tids done_at) done_at (done stamp before size nodes n node event free stands) (given_so stamp before size nodes n node event free stands))
      (says_quiet stamp before i host.log host.waiting settled (answer_waiting settled) (quiet_waiting settled))))

  -- ---- between steps

  module _ (logged : HoldsHost own before node.manager host.log host.waiting) (said : SaysBetween own before host.log host.waiting) where
    amid_first : SaysAmid stamp before host.log host.waiting (work_on node free)
    amid_first = record {
      all = record { state = said.state; there = said.there; said = subst (λ (rs : List Record). HoldsMade own before said.state (recovery (host.log ++ rs))) (sym (append-nil host.waiting)) (made_of own before said.state (recovery (host.log ++ host.waiting)) said.said) };
      on_disk = λ unforced. record { state = said.state; there = said.there; said = made_of own before said.state (recovery host.log) said.on_disk };
    }

    amid_last : SaysAmid stamp before host.log host.waiting last
    amid_last = says_step.says (held_after stamp before size nodes n node event free s).lawful (starts stamp before i host.log host.waiting node free logged) amid_first

    abbrev out : Effects
    out = effects_of node event free

    abbrev now : BookValue
    now = book_after before (entries_of own stamp out.entries)

    here_is : (here last).0 ≡ own
    here_is = ap (λ (t : Setting). t.node.0) says_step.logs.setting

    here_now : (log : Recovery) → SaidAfter (here last).0 (book_at stamp before last) log → SaidAfter own now log
    here_now log said_so = subst (λ (k : ℕ). SaidAfter k (book_after before (entries_of k stamp out.entries)) log) here_is said_so

    kept : KeptThen stamp now size nodes n (after_step node event free)
    kept = (step_kept stamp before size nodes n node event free s (s.holds.run ∙ s.run)).kept

    host_now : HoldsHost own now (after_step node event free).manager (log_after host out) (waiting_after host out)
    host_now = step_keeps opened history coherent lawful_till stamp host event free true_event logged (step_kept stamp before size nodes n node event free s (s.holds.run ∙ s.run)).lawful

    -- what is said without what is in doubt at its home, which is not committed
    module _ (disk waiting : List Record) (all : SaidAfter own now (recovery (disk ++ waiting))) (on_disk : SaidAfter own now (recovery disk)) (host_so : HoldsHost own now (after_step node event free).manager disk waiting) where
      at_own : (after_step node event free).setting.node.0 ≡ own
      at_own = ap (λ (t : Setting). t.node.0) says_step.logs.setting

      disk_made : HoldsMade own now all.state (recovery disk)
      disk_made = subst (λ (state : machine.NodeValue). HoldsMade own now state (recovery disk)) (of_some (sym on_disk.there ∙ all.there)) on_disk.said

      whole : SaysBetween own now disk waiting
      whole = record {
        state = all.state;
        there = all.there;
        said = made_is_said own now all.state (recovery (disk ++ waiting)) all.said (undone_all stamp own now (after_step node event free) kept.holds kept.facts at_own disk waiting host_so);
        on_disk = made_is_said own now all.state (recovery disk) disk_made (undone_disk stamp own now (after_step node event free) kept.holds kept.facts at_own disk waiting host_so disk_made.apart);
      }

    says_between : SaysBetween own now (log_after host out) (waiting_after host out)
    says_between = by out.force refl host_now
      where
        by : (b : Bool) → out.force ≡ b → HoldsHost own now (after_step node event free).manager (if b then host.log ++ (host.waiting ++ out.records) else host.log) (if b then [] else host.waiting ++ out.records)
            → SaysBetween own now (if b then host.log ++ (host.waiting ++ out.records) else host.log) (if b then [] else host.waiting ++ out.records)
        by true is host_so =
            let log : List Record = host.log ++ (host.waiting ++ out.records) in
            let on : SaidAfter own now (recovery log) = here_now (recovery log) amid_last.all in
            whole log [] (subst (λ (rs : List Record). SaidAfter own now (recovery rs)) (sym (append-nil log)) on) on host_so
        by false is host_so = whole host.log (host.waiting ++ out.records) (here_now (recovery (host.log ++ (host.waiting ++ out.records))) amid_last.all) (here_now (recovery host.log) (amid_last.on_disk is)) host_so

  pub step_says : HoldsHost n before node.manager host.log host.waiting → SaysBetween n before host.log host.waiting → SaysBetween n (book_after before (entries_of n stamp (effects_of node event free).entries)) (log_after host (effects_of node event free)) (waiting_after host (effects_of node event free))
  step_says logged said = subst (λ (k : ℕ). SaysBetween k (book_after before (entries_of k stamp (effects_of node event free).entries)) (log_after host (effects_of node event free)) (waiting_after host (effects_of node event free))) s.at
      (says_between (subst (λ (k : ℕ). HoldsHost k before node.manager host.log host.waiting) (sym s.at) logged) (subst (λ (k : ℕ). SaysBetween k before host.log host.waiting) (sym s.at) said))
