-- What its node issues to another one in a step waits there as the step ends, or is decided there: before the step nothing is entered, what issues finds its node engaged, and what waits waits on.
use Rattle.qs_world_runs.proofs.Words.{◌≡◌, ◌⊎◌, inl, inr, ℕ, ◌==◌, true, false, List, [], ◌∷◌, fold, sym, subst, ClientNo, Member, NodeNo, Tid, same_node, Op, due_tids, settle, Work, work_on, happen, step_work, wait_on, waiting_clients, Event, Opening, World, is_sound, IsSteady, StepMay, step_may, steady_gives, AtEach, done_work, first_work, begin_incarnation_keeps, happen_same, begin_same, SoundStages, EachIssueWaits}
use Rattle.qs_node_step.specs.State.{NodeValue}
use Rattle.qs_node_step.specs.declared.event.Event.TheVariants as events
use Rattle.qs_world_lawful.proofs.SameSetting.{wait_same}
use Rattle.qs_world_runs.proofs.AgreesPasses.{stages_sound}
use Rattle.qs_world_runs.proofs.AwaitedRules.{fold_on, then_on}
use Rattle.qs_world_runs.proofs.AwaitedSettles.{settles_on}
use Rattle.qs_world_runs.proofs.AwaitedSteps.{wait_one}
use Rattle.qs_world_runs.proofs.FoundCommands.{HasLabels}
use Rattle.qs_world_runs.proofs.IssuedCommands.{command_waits, wait_waits}
use Rattle.qs_world_runs.proofs.IssuedNone.{none_all, none_left, none_message}
use Rattle.qs_world_runs.proofs.IssuedSettles.{settles_setting, settles_wait}
use Rattle.qs_world_runs.proofs.IssuedWaits.{Had, IsAway, L, W, Waited, still_away, waited_none, waited_then}
use Rattle.qs_world_runs.proofs.LeftOutcomes.{begin_leaves, restarted_leaves}
use Rattle.qs_world_runs.proofs.StepsGo.{tick_leaves}

module _ (tid : Tid) (issuer member : Member) (number : ℕ) (op : Op) where
  happens_wait : (event : Event) (first : Work) → is_sound first.node ≡ true → HasLabels first → IsAway member first → Waited tid issuer member number op first (happen event first)
  happens_wait (events.Command client line label command) first sound labels away = command_waits tid issuer member number op (record { client = client; line = line; label = label; command = command }) first sound labels away
  happens_wait (events.Received peer message) first sound labels away = waited_none tid issuer member number op first (happen (events.Received peer message) first) (none_message tid issuer member number op peer message first)
  happens_wait events.ServeAll first sound labels away = waited_none tid issuer member number op first (happen events.ServeAll first) (none_all tid issuer member number op first)
  happens_wait (events.PeerRestarted peer old new) first sound labels away = waited_none tid issuer member number op first (happen (events.PeerRestarted peer old new) first)
      (none_left tid issuer member number op first (happen (events.PeerRestarted peer old new) first) (restarted_leaves tid peer old new first))
  happens_wait events.Tick first sound labels away = waited_none tid issuer member number op first (happen events.Tick first) (none_left tid issuer member number op first (happen events.Tick first) (tick_leaves tid first))

  waits_wait : (clients : List ClientNo) (work : Work) → AtEach (λ (k : Work) (client : ClientNo). is_sound k.node ≡ true) wait_on work clients → IsAway member work → Waited tid issuer member number op work (fold wait_on work clients)
  waits_wait [] work sound away = λ has. inl has
  waits_wait (client ∷ clients) work sound away = waited_then tid issuer member number op work next (fold wait_on next clients) (wait_waits tid issuer member number op client work sound.0 away)
      (waits_wait clients next sound.1 (still_away member work next (wait_same work client) away)) (fold_on ⊥ tid member number wait_on (wait_one ⊥ tid member number) clients next)
    where
      next : Work
      next = wait_on work client

  module _ (node : NodeValue) (event : Event) (free : ℕ) (sounds : SoundStages node event free) (labels : HasLabels (first_work node free)) (away : same_node member.node node.setting.node ≡ false) where
    abbrev first : Work
    first = first_work node free

    abbrev done : Work
    done = done_work node event free

    abbrev last : Work
    last = step_work node event free

    away_first : IsAway member first
    away_first = still_away member (work_on node free) first (begin_same (work_on node free)) away

    away_done : IsAway member done
    away_done = still_away member first done (happen_same event first) away_first

    away_settled : IsAway member (settle done)
    away_settled = still_away member done (settle done) (settles_setting (due_tids done) done) away_done

    waits_on : L tid issuer member number op (settle done) last
    waits_on = fold_on ⊥ tid member number wait_on (wait_one ⊥ tid member number) (waiting_clients (settle done)) (settle done)

    all : Waited tid issuer member number op first last
    all = waited_then tid issuer member number op first done last (happens_wait event first sounds.first labels away_first)
        (waited_then tid issuer member number op done (settle done) last (settles_wait tid issuer member number op (due_tids done) done sounds.settles away_done)
        (waits_wait (waiting_clients (settle done)) (settle done) sounds.waits away_settled) waits_on)
        (then_on ⊥ tid member number done (settle done) last (settles_on ⊥ tid member number (due_tids done) done) waits_on)

    none_first : Had tid issuer member number op first → ⊥
    none_first has = none_left tid issuer member number op (work_on node free) first (begin_leaves tid (work_on node free)) has

    pub issued_wait : Had tid issuer member number op last → W tid issuer member number op last
    issued_wait has = by (all has)
      where
        by : Had tid issuer member number op first ⊎ W tid issuer member number op last → W tid issuer member number op last
        by (inl had) = absurd (none_first had)
        by (inr w) = w

pub each_issue_waits : (P : Opening → World → Type 0) → EachIssueWaits P
each_issue_waits P o world n stamp free source event j makes tid issuer member number op has away =
    issued_wait tid issuer member number op (world.hosts n).node event free (stages_sound world n stamp free source event j.shown makes)
    (begin_incarnation_keeps (work_on (world.hosts n).node free) (j.facts n its.low)).labels
    (subst (λ (k : NodeNo). (member.node.0 == k.0) ≡ false) (sym (steady.seated.node n its.low)) away) has
  where
    its : StepMay world n source
    its = step_may world n stamp source makes.may

    steady : IsSteady world
    steady = steady_gives world j.shown.steady j.shown.listed
