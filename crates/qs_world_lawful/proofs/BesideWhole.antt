-- What the machine has beside the node goes on through each rule, so that a whole step is given what it needs of it, and keeps it.
use Rattle.qs_world_lawful.proofs.Words.{◌≡◌, ℕ, List, [], ◌∷◌, refl, ap, sym, subst, ◌∙◌, fold, list_any, same_tid, Tid, Entry, BookValue, IsLawful, book_after, serve_next, due_tids, forget_rule, pass_rule, ready_rule, refuse_rule, settle, settle_tid, try, Work, work_on, after_step, happen, step_work, wait_on, waiting_clients, Event, AgreementGives, InRun, HoldsBeside, HasCountRoom, ComesTo, HoldsWork, book_at, entries_so_far, AtEach, MayAge, MayStep, done_work, first_work, tick_work, HoldsHomes}
use Rattle.qs_world_lawful.proofs.Words.{KeepsStanding, Stands, StepOn, StepStands}
use Rattle.qs_base.specs.declared.identifiers.Outcome.TheVariants as outcomes
use Rattle.qs_packet.specs.declared.message.Message.TheVariants as messages
use Rattle.qs_node_step.specs.State.{NodeValue}
use Rattle.qs_node_step.specs.declared.event.Event.TheVariants as events
use Rattle.qs_world_lawful.specs.Amid.{AreSent}
use Rattle.qs_world_lawful.specs.BesideStep.{AreCommitted, HappensSo}
use Rattle.qs_world_lawful.specs.StandingOn.{BesideOn, KeepsBeside, StepBeside}
use Rattle.qs_world_lawful.proofs.BesideCommands.{goes_wait}
use Rattle.qs_world_lawful.proofs.BesideGoes.{Goes, beside_alike, goes_fold, goes_self, goes_then, goes_where, said_on}
use Rattle.qs_world_lawful.proofs.BesideHappens.{goes_happens}
use Rattle.qs_world_lawful.proofs.BesidePass.{goes_pass_rule}
use Rattle.qs_world_lawful.proofs.BesideRequests.{goes_next}
use Rattle.qs_world_lawful.proofs.BesideRestarts.{goes_incarnation}
use Rattle.qs_world_lawful.proofs.BesideSettle.{goes_forgets, goes_ready, goes_refuse, unkept}
use Rattle.qs_world_lawful.proofs.CommandCame.{by_answer_waiting}
use Rattle.qs_world_lawful.proofs.ComesFirst.{comes_first, fits_so}
use Rattle.qs_world_lawful.proofs.FactsStages.{begin_incarnation_keeps}
use Rattle.qs_world_lawful.proofs.GivenSettling.{may_pass}
use Rattle.qs_world_lawful.proofs.GivenStages.{s_passed, s_refused, s_settled}
use Rattle.qs_world_lawful.proofs.GivenWhole.{done, given_so, settled}
use Rattle.qs_world_lawful.proofs.OldEnough.{may_age}
use Rattle.qs_world_lawful.proofs.StandsOn.{beside_gives, keeps_standing, step_stands}
use Rattle.qs_world_lawful.proofs.WholeStep.{first_held}

-- what a log said of commits is so for good
pub logged_still : (before : BookValue) → InRun before → (more : List Entry) → IsLawful before more → (node fresh : NodeValue) → fresh.committed ≡ node.committed → AreCommitted before node → AreCommitted (book_after before more) fresh
logged_still before run more lawful node fresh same logged tid is = said_on before run [] more tt lawful (messages.Tell tid outcomes.Commit) (logged tid (ap (λ (ts : List Tid). list_any (same_tid tid) ts) (sym same) ∙ is))

module _ (stamp : ℕ) (before : BookValue) (run : InRun before) (size : ℕ) (nodes : ℕ → NodeValue) (n : ℕ) where
  abbrev On : Work → Work → Type 0
  On work new = Goes stamp before run work new

  -- what goes on stands
  on_by : (work new : Work) → On work new → BesideOn stamp before size nodes n work new
  on_by work new goes s held = goes.keeps held.lawful s.by.beside

  pub keeps_beside : KeepsBeside stamp before size nodes n
  keeps_beside = record {
    passes = λ work tid so s held. on_by work (try tid pass_rule work) (goes_where stamp before run tid (pass_rule tid) work (λ part known none. goes_pass_rule stamp before run tid work s.held part known (λ due. so.may part known due) (λ due. so.room part known due))) s held;
    readies = λ work tid s held. on_by work (try tid ready_rule work) (goes_where stamp before run tid (ready_rule tid) work (λ part known none. goes_ready stamp before run tid part work (λ home. unkept stamp before work s.held s.by.facts tid part known home none))) s held;
    refuses = λ work tid s held. on_by work (try tid refuse_rule work) (goes_where stamp before run tid (refuse_rule tid) work (λ part known none. goes_refuse stamp before run tid part work known none)) s held;
    forgets = λ work tid s held. on_by work (try tid forget_rule work) (goes_where stamp before run tid (forget_rule tid) work (λ part known none. goes_forgets stamp before run tid part work known none s.by.facts)) s held;
    serves = λ work server room s held. on_by work (serve_next work server) (goes_next stamp before run work s.held server room (λ tid p known. (s.by.facts.parts tid p known).numbered.apart)) s held;
    waits = λ work client s held. on_by work (wait_on work client) (goes_wait stamp before run work client) s held;
  }

  -- ---- settling

  module _ (homes : HoldsHomes before size nodes n) where
    stages : KeepsStanding stamp before size nodes n
    stages = keeps_standing stamp before size nodes n homes keeps_beside

    goes_settled : (work : Work) (tid : Tid) → Stands stamp before size nodes n work → AgreementGives stamp before size nodes n work tid → HasCountRoom work tid → On work (settle_tid work tid)
    goes_settled work tid s agreed room =
        let one : Work = try tid pass_rule work in
        let two : Work = try tid ready_rule one in
        let three : Work = try tid refuse_rule two in
        let s1 : Stands stamp before size nodes n one = s_passed stamp before size nodes n stages work tid s agreed room in
        let s3 : Stands stamp before size nodes n three = s_refused stamp before size nodes n stages work tid s agreed room in
        goes_then stamp before run work one (settle_tid work tid)
        (goes_where stamp before run tid (pass_rule tid) work (λ part known none. goes_pass_rule stamp before run tid work s.held part known (λ due. may_pass stamp before size nodes n work s.by tid part known (agreed.passes part known due)) (λ due. room part known due)))
        (goes_then stamp before run one two (settle_tid work tid)
        (goes_where stamp before run tid (ready_rule tid) one (λ part known none. goes_ready stamp before run tid part one (λ home. unkept stamp before one s1.held s1.by.facts tid part known home none)))
        (goes_then stamp before run two three (settle_tid work tid)
        (goes_where stamp before run tid (refuse_rule tid) two (λ part known none. goes_refuse stamp before run tid part two known none))
        (goes_where stamp before run tid (forget_rule tid) three (λ part known none. goes_forgets stamp before run tid part three known none s3.by.facts))))

    pub goes_settles : (tids : List Tid) (work : Work) → Stands stamp before size nodes n work → AtEach (λ (work : Work) (tid : Tid). AgreementGives stamp before size nodes n work tid × HasCountRoom work tid) settle_tid work tids → On work (fold settle_tid work tids)
    goes_settles [] work s given = goes_self stamp before run work
    goes_settles (tid ∷ tids) work s given = goes_then stamp before run work (settle_tid work tid) (fold settle_tid (settle_tid work tid) tids) (goes_settled work tid s given.0.0 given.0.1)
        (goes_settles tids (settle_tid work tid) (s_settled stamp before size nodes n stages work tid s given.0.0 given.0.1) given.1)

-- the whole step
module _ (stamp : ℕ) (before : BookValue) (size : ℕ) (nodes : ℕ → NodeValue) (n : ℕ) (node : NodeValue) (event : Event) (free : ℕ) (s : StepOn stamp before size nodes n node event free) where
  held_first : HoldsWork stamp before (first_work node free)
  held_first = first_held stamp before node free s.holds

  -- what comes
  comes_here : ComesTo (book_at stamp before (first_work node free)) event (first_work node free)
  comes_here = comes_first stamp before s.in_run node free held_first event s.comes s.room

  goes_first : Goes stamp before s.in_run (work_on node free) (first_work node free)
  goes_first = goes_incarnation stamp before s.in_run (work_on node free)

  first_beside : HoldsBeside (book_at stamp before (first_work node free)) (first_work node free).node
  first_beside = goes_first.keeps held_first.lawful s.beside

  -- the Commits that the log had are the machine's for good
  logged_first : AreCommitted (book_at stamp before (first_work node free)) (first_work node free).node
  logged_first = logged_still before s.in_run (entries_so_far stamp (first_work node free)) held_first.lawful node (first_work node free).node goes_first.logged s.logged

  -- what is old enough the machine finds that old
  ages_so : event ≡ events.Tick → MayAge stamp before (first_work node free).node.setting.age (tick_work (first_work node free))
  ages_so is = may_age stamp before s.in_run (first_work node free) held_first first_beside (begin_incarnation_keeps (work_on node free) s.facts)
      (subst (λ (e : Event). ComesTo (book_at stamp before (first_work node free)) e (first_work node free)) is comes_here) (subst (λ (e : Event). HappensSo stamp before e (first_work node free)) is s.so)

  pub step_beside : StepBeside stamp before size nodes n node event free
  step_beside = record {
    at = s.at;
    run = s.run;
    facts = s.facts;
    fits = fits_so before node free event s.comes;
    homes = s.homes;
    held = held_first;
    beside = first_beside;
    rules = keeps_beside stamp before s.in_run size nodes n;
    happens = λ comes here held. on_by stamp before s.in_run size nodes n (first_work node free) (happen event (first_work node free)) (goes_happens stamp before s.in_run size nodes n s.homes event (first_work node free) here comes s.agreed.comes s.so logged_first) here held;
    comes = comes_here;
    ages = ages_so;
    agreed = s.agreed;
    rooms = s.rooms;
  }

  pub may_step_on : MayStep stamp before node event free
  may_step_on = beside_gives stamp before size nodes n node event free step_beside

  stands : StepStands stamp before size nodes n node event free
  stands = step_stands stamp before size nodes n node event free step_beside

  -- all that the step does goes on, from what stands before it
  goes_step : Goes stamp before s.in_run (work_on node free) (step_work node event free)
  goes_step =
      let started : Work = first_work node free in
      let done_at : Work = done_work node event free in
      let settled_at : Work = settle done_at in
      goes_then stamp before s.in_run (work_on node free) started (step_work node event free) goes_first
      (goes_then stamp before s.in_run started done_at (step_work node event free) (goes_happens stamp before s.in_run size nodes n s.homes event started stands.first comes_here s.agreed.comes s.so logged_first)
      (goes_then stamp before s.in_run done_at settled_at (step_work node event free)
      (goes_settles stamp before s.in_run size nodes n s.homes (due_tids done_at) done_at (done stamp before size nodes n node event free stands) (given_so stamp before size nodes n node event free stands))
      (goes_fold stamp before s.in_run wait_on (goes_wait stamp before s.in_run) (waiting_clients settled_at) settled_at)))

  pub held_after : HoldsWork stamp before (step_work node event free)
  held_after = by_answer_waiting stamp before (settle (done_work node event free)) (settled stamp before size nodes n node event free stands).held may_step_on.waits

  -- what is beside the node after it, and what was sent
  pub beside_after : HoldsBeside (book_at stamp before (step_work node event free)) (after_step node event free)
  beside_after = beside_alike stamp before s.in_run (book_at stamp before (step_work node event free)) (step_work node event free).node (after_step node event free) refl refl refl refl refl (goes_step.keeps held_after.lawful s.beside)

  pub sent_so : AreSent stamp before (step_work node event free)
  sent_so = goes_step.sends held_after.lawful s.beside tt

  pub logged_after : AreCommitted (book_at stamp before (step_work node event free)) (after_step node event free)
  logged_after = logged_still before s.in_run (entries_so_far stamp (step_work node event free)) held_after.lawful node (after_step node event free) goes_step.logged s.logged
