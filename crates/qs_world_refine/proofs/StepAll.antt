-- A whole step, made or cut off: what shows a transaction before it shows it after, with what nodes know of its commit.
use Rattle.qs_world_refine.proofs.Words.{◌≡◌, ◌⊎◌, inl, inr, ℕ, ◌<◌, ◌==◌, ◌||◌, not, Bool, true, false, List, Option, Some, None, refl, sym, ap, subst, ◌∙◌, if◌then◌else◌, find, list_any, eqb-true, or_left, same_tid, Tid, same_node, Nodes, CrashCause, is_outcome_of, Record, Participant, was_committed, is_kept_commit, NodeValue, Work, part_of, step_work, after_step, effects_of, Source, event_of, taken_by, step_with, cut_with, stopped, stopped_host, stepped_host, Committed, Leads, ShowsAll, AllGoes}
use Rattle.qs_world_refine.proofs.Words.{KeepsDecided, Face, node_no, ShowsWorld, WorldGoes, StepShown, outcome_seen, place, BeginsNew, scene_of, sight, sight_during, same_flag, MayHappen, begun, Stands, IsSteady}
use Rattle.qs_base.specs.declared.identifiers.Outcome.{Outcome}
use Rattle.qs_base.specs.declared.identifiers.Outcome.TheVariants as outcomes
use Rattle.qs_engage.specs.Nodes.{has_node}
use Rattle.qs_tm.specs.Manager as tm
use Rattle.qs_node_step.specs.declared.event.Event.{Event}
use Rattle.qs_world.specs.World.{World}
use Rattle.qs_world_agree.specs.World as machine
use Rattle.qs_world_refine.specs.EachMove.{ShowsOutcome}
use Rattle.qs_world_refine.proofs.EachCame.{case_of}
use Rattle.qs_world_refine.proofs.EachEvent.{StepCame}
use Rattle.qs_world_refine.proofs.Heads.{face_is}
use Rattle.qs_world_refine.proofs.LaterWorlds.{commit_stays, acks_on, committed_is}
use Rattle.qs_world_refine.proofs.Moving.{inc_taken, up_taken}
use Rattle.qs_world_refine.proofs.Posted.{inc_all, up_all}
use Rattle.qs_world_refine.proofs.SoundHolds.{known_sound}
use Rattle.qs_world_refine.proofs.StepJoined as joined
use Rattle.qs_world_refine.proofs.StepMoves.{whole, whole_next, cut}
use Rattle.qs_world_refine.proofs.TurnOn.{Turned, same_outcome, became, fate_found, fate_at}

-- ---- what nodes know of the commit, after a move

-- a node that runs keeps what it knew
pub record StaysAt (world after : World) (k : ℕ) : Type 0 where
  pub manager : (after.hosts k).node.manager ≡ (world.hosts k).node.manager
  pub up : world.channels.up k ≡ true
  pub inc : after.channels.inc k ≡ world.channels.inc k

-- or what it knows then the machine has
pub record TellsAt (t : Tid) (after : World) (k : ℕ) (v : machine.World) : Type 0 where
  pub learnt : (part : Participant) → tm.part_of t (after.hosts k).node.manager ≡ Some part → part.outcome ≡ Some outcomes.Commit → v.cell ≡ Committed
  pub acknowledged : k ≡ t.home.0 → (part : Participant) → tm.part_of t (after.hosts k).node.manager ≡ Some part → (m : ℕ) → has_node part.acknowledged (node_no m) ≡ true → v.acknowledged m ≡ true

module _ (t : Tid) (world : World) (w : machine.World) (home_in : t.home.0 < world.size) (all : ShowsAll t world w) (after : World) (v : machine.World) (leads : Leads w v) (sized : after.size ≡ world.size) (shown : ShowsWorld t after v) (then_kept : KeepsDecided t after v)
    (each_node : (k : ℕ) → k < world.size → after.channels.up k ≡ true → StaysAt world after k ⊎ TellsAt t after k v) where
  pub outcome_on : ShowsOutcome t after v
  outcome_on = record {
    learnt = λ k part k_in up known decided. learnt k part known decided (subst (λ (s : ℕ). k < s) sized k_in) (each_node k (subst (λ (s : ℕ). k < s) sized k_in) up);
    acknowledged = λ part up known m has. acked part known m has (each_node t.home.0 home_in up);
  }
    where
      learnt : (k : ℕ) (part : Participant) → tm.part_of t (after.hosts k).node.manager ≡ Some part → part.outcome ≡ Some outcomes.Commit → k < world.size → StaysAt world after k ⊎ TellsAt t after k v → v.cell ≡ Committed
      learnt k part known decided k_in (inl stays) = commit_stays w v all.seen.lawful leads (all.outcome.learnt k part k_in stays.up (ap (tm.part_of t) (sym stays.manager) ∙ known) decided)
      learnt k part known decided k_in (inr tells) = tells.learnt part known decided

      acked : (part : Participant) → tm.part_of t (after.hosts t.home.0).node.manager ≡ Some part → (m : ℕ) → has_node part.acknowledged (node_no m) ≡ true → StaysAt world after t.home.0 ⊎ TellsAt t after t.home.0 v → v.acknowledged m ≡ true
      acked part known m has (inl stays) = acks_on t (sight t (scene_of world)) (sight t (scene_of after)) w v home_in (subst (λ (s : ℕ). t.home.0 < s) (sym sized) home_in) stays.inc all.seen.shown.stage shown.shown.stage leads m
          (all.outcome.acknowledged part stays.up (ap (tm.part_of t) (sym stays.manager) ∙ known) m has)
      acked part known m has (inr tells) = tells.acknowledged refl part known m has

  pub all_goes : AllGoes t after w
  all_goes = record { next = v; leads = leads; shown = record { seen = shown; outcome = outcome_on; kept = then_kept } }

-- what the home's node keeps stays decided, where its node is the same
pub kept_same : (t : Tid) (world after : World) (w v : machine.World) → ShowsAll t world w → Leads w v → (after.hosts t.home.0).node ≡ (world.hosts t.home.0).node → KeepsDecided t after v
kept_same t world after w v all leads same = record {
  now = λ is. commit_stays w v all.seen.lawful leads (all.kept.now (subst (λ (node : NodeValue). was_committed t node ≡ true) same is));
  saved = λ is. commit_stays w v all.seen.lawful leads (all.kept.saved (subst (λ (node : NodeValue). is_kept_commit (find (is_outcome_of t) node.kept.saved.outcomes) ≡ true) same is));
}

-- what the world goes on to
pub goes_all : (t : Tid) (world : World) (w : machine.World) (home_in : t.home.0 < world.size) (all : ShowsAll t world w) (after : World) (sized : after.size ≡ world.size) (goes : WorldGoes t after w) → KeepsDecided t after goes.next
    → ((k : ℕ) → k < world.size → after.channels.up k ≡ true → StaysAt world after k ⊎ TellsAt t after k goes.next) → AllGoes t after w
goes_all t world w home_in all after sized goes then_kept each_node = all_goes t world w home_in all after goes.next goes.leads sized goes.shown then_kept each_node

pub goes_all_next : (t : Tid) (world : World) (w : machine.World) (home_in : t.home.0 < world.size) (all : ShowsAll t world w) (after : World) (sized : after.size ≡ world.size) (goes : WorldGoes t after w) (then_kept : KeepsDecided t after goes.next)
    (each_node : (k : ℕ) → k < world.size → after.channels.up k ≡ true → StaysAt world after k ⊎ TellsAt t after k goes.next) → (goes_all t world w home_in all after sized goes then_kept each_node).next ≡ goes.next
unfolding goes_all all_goes
goes_all_next t world w home_in all after sized goes then_kept each_node = refl

-- ---- a node stops: the others stay, and so does what it keeps

pub stays_stopped : (world : World) (n stamp : ℕ) (cause : CrashCause) (log : List Record) (k : ℕ) → (stopped world n stamp cause log).channels.up k ≡ true → StaysAt world (stopped world n stamp cause log) k
stays_stopped world n stamp cause log k up = by (k == n) refl up
  where
    by : (b : Bool) → (k == n) ≡ b → (if b then false else world.channels.up k) ≡ true → StaysAt world (stopped world n stamp cause log) k
    by true at on = absurd (cc (on))
    by false off on = record { manager = picked (k == n) off; up = on; inc = refl }
      where
        picked : (b : Bool) → b ≡ false → (if b then stopped_host stamp log (world.hosts n) else world.hosts k).node.manager ≡ (world.hosts k).node.manager
        picked b is = rw is refl

pub node_stopped : (world : World) (n stamp : ℕ) (cause : CrashCause) (log : List Record) (k : ℕ) → ((stopped world n stamp cause log).hosts k).node ≡ (world.hosts k).node
node_stopped world n stamp cause log k = by (k == n) refl
  where
    by : (b : Bool) → (k == n) ≡ b → (if b then stopped_host stamp log (world.hosts n) else world.hosts k).node ≡ (world.hosts k).node
    by true at = ap (λ (j : ℕ). (world.hosts j).node) (sym (eqb-true k n at))
    by false off = refl

-- ---- a step

module _ (t : Tid) (world : World) (w : machine.World) (steady : IsSteady world) (home_in : t.home.0 < world.size) (all : ShowsAll t world w) (n stamp free : ℕ) (n_in : n < world.size) (on : world.channels.up n ≡ true) (source : Source) (event : Event)
    (is : event_of world n stamp source ≡ Some event) (came : StepCame t world n free source event w) (may : MayHappen event (begun (world.hosts n).node free) × BeginsNew event (begun (world.hosts n).node free)) where
  pub shown_step : (shown : StepShown t world n free source event w) × Leads (joined.f t world w steady home_in all n stamp free n_in on source event is came may) shown.next
  shown_step = joined.step_shown t world w steady home_in all n stamp free n_in on source event is came may

  abbrev pub then_f : machine.World
  then_f = joined.f t world w steady home_in all n stamp free n_in on source event is came may

  abbrev work : Work
  work = step_work (world.hosts n).node event free

  abbrev after : World
  after = step_with world n stamp free source (Some event)

  pub stood : Stands t (joined.later t world w steady home_in all n stamp free n_in on source event is came may) n work then_f
  stood = joined.stands t world w steady home_in all n stamp free n_in on source event is came may

  turned : Turned (case_of t world n came.came.ends then_f) work
  turned = joined.turned t world w steady home_in all n stamp free n_in on source event is came may

  fate_is : (part : Participant) → part_of t work ≡ Some part → fate_at t work.node ≡ became part.outcome part.acknowledged
  fate_is part known = ap fate_found known

  pub learnt_then : (part : Participant) → part_of t work ≡ Some part → part.outcome ≡ Some outcomes.Commit → then_f.cell ≡ Committed
  learnt_then part known decided = by (same_node t.home work.node.setting.node) refl
    where
      home_flag : same_node t.home work.node.setting.node ≡ true → part.engage.home ≡ true
      home_flag at = flag part.engage.home (same_node t.home work.node.setting.node) at (known_sound t work.node part known stood.sound).homed
        where
          flag : (a b : Bool) → b ≡ true → same_flag a b ≡ true → a ≡ true
          flag true b so both = refl
          flag false b so both = absurd (let off : not b ≡ false = rw so refl in cc (off, both))

      by : (b : Bool) → same_node t.home work.node.setting.node ≡ b → then_f.cell ≡ Committed
      by false away = committed_is then_f.cell (turned.learnt away part.acknowledged (fate_is part known ∙ ap (λ (o : Option Outcome). became o part.acknowledged) decided))
      by true at = stood.lawful.agreed.knows_commit (place n (world.channels.inc n)) ((joined.face_then t world w steady home_in all n stamp free n_in on source event is came may).outcome
          ∙ (ap (λ (f : Face). f.outcome) (face_is t _ n work then_f stood part known) ∙ (ap (λ (o : Option Outcome). outcome_seen o (part.engage.home || part.involved)) decided ∙ seen (part.engage.home || part.involved) (or_left part.engage.home part.involved (home_flag at)))))
        where
          seen : (b : Bool) → b ≡ true → outcome_seen (Some outcomes.Commit) b ≡ Committed
          seen b so = rw so refl

  -- what the home's node keeps as committed then was decided
  cell_then : n ≡ t.home.0 → was_committed t work.node ≡ true → then_f.cell ≡ Committed
  cell_then at is_kept = by came.came.ends refl
    where
      known_as : (acks : Nodes) → fate_at t work.node ≡ became (Some outcomes.Commit) acks → then_f.cell ≡ Committed
      known_as acks fate = found (part_of t work) refl
        where
          found : (o : Option Participant) → part_of t work ≡ o → then_f.cell ≡ Committed
          found None none = absurd (let both : None ≡ became (Some outcomes.Commit) acks = sym (ap fate_found none) ∙ fate in cc (both))
          found (Some part) known = learnt_then part known (same_outcome part.outcome (Some outcomes.Commit) part.acknowledged acks (sym (fate_is part known) ∙ fate))

      which : (was_committed t (world.hosts n).node ≡ true) ⊎ ((acks : Nodes) × (fate_at t work.node ≡ became (Some outcomes.Commit) acks)) → then_f.cell ≡ Committed
      which (inl before) = commit_stays w then_f all.seen.lawful (joined.all_leads t world w steady home_in all n stamp free n_in on source event is came may) (all.kept.now (subst (λ (k : ℕ). was_committed t (world.hosts k).node ≡ true) at before))
      which (inr known) = known_as known.0 known.1

      by : (b : Bool) → came.came.ends ≡ b → then_f.cell ≡ Committed
      by true ends = stood.lawful.agreed.knows_commit (place n (world.channels.inc n)) (joined.ended_then t world w steady home_in all n stamp free n_in on source event is came may ends).committed
      by false open_end = which (joined.kept_then t world w steady home_in all n stamp free n_in on source event is came may open_end is_kept)

  -- the machine goes on to what shows it from that at the end of the step
  pub step_goes_further : (goes : AllGoes t after w) × Leads then_f goes.next
  step_goes_further = (
    goes_all t world w home_in all after refl goes (home_kept (t.home.0 == n) refl) (λ k k_in up. at k (k == n) refl up),
    subst (λ (v : machine.World). Leads then_f v) (sym (goes_all_next t world w home_in all after refl goes (home_kept (t.home.0 == n) refl) (λ k k_in up. at k (k == n) refl up))) then_leads,
  )
    where
      goes : WorldGoes t after w
      goes = whole t world w steady.seated home_in all.seen n stamp free source event n_in on is shown_step.0

      then_leads : Leads then_f goes.next
      then_leads = subst (λ (v : machine.World). Leads then_f v) (sym (whole_next t world w steady.seated home_in all.seen n stamp free source event n_in on is shown_step.0)) shown_step.1

      inc_is : after.channels.inc ≡ world.channels.inc
      inc_is = inc_all n stamp (effects_of (world.hosts n).node event free).messages (taken_by world n source) ∙ inc_taken world n source

      up_is : after.channels.up ≡ world.channels.up
      up_is = up_all n stamp (effects_of (world.hosts n).node event free).messages (taken_by world n source) ∙ up_taken world n source

      host_at : (k : ℕ) (b : Bool) → (k == n) ≡ b → (after.hosts k).node.manager ≡ (if b then work.node.manager else (world.hosts k).node.manager)
      host_at k b is = picked (k == n) b is
        where
          picked : (c d : Bool) → c ≡ d → (if c then stepped_host stamp (after_step (world.hosts n).node event free) (effects_of (world.hosts n).node event free) (world.hosts n) else world.hosts k).node.manager
              ≡ (if d then work.node.manager else (world.hosts k).node.manager)
          picked true true so = refl
          picked false false so = refl
          picked true false so = absurd (cc (so))
          picked false true so = absurd (cc (so))

      node_at : (b : Bool) → (t.home.0 == n) ≡ b → (after.hosts t.home.0).node ≡ (if b then after_step (world.hosts n).node event free else (world.hosts t.home.0).node)
      node_at b is = picked (t.home.0 == n) b is
        where
          picked : (c d : Bool) → c ≡ d → (if c then stepped_host stamp (after_step (world.hosts n).node event free) (effects_of (world.hosts n).node event free) (world.hosts n) else world.hosts t.home.0).node
              ≡ (if d then after_step (world.hosts n).node event free else (world.hosts t.home.0).node)
          picked true true so = refl
          picked false false so = refl
          picked true false so = absurd (cc (so))
          picked false true so = absurd (cc (so))

      home_kept : (b : Bool) → (t.home.0 == n) ≡ b → KeepsDecided t after goes.next
      home_kept false off = kept_same t world after w goes.next all goes.leads (node_at false off)
      home_kept true same = record {
        now = λ is. decided (subst (λ (node : NodeValue). was_committed t node ≡ true) (node_at true same) is);
        saved = λ is. decided (or_left (is_kept_commit (find (is_outcome_of t) work.node.kept.now.outcomes)) (list_any (same_tid t) work.node.committed) (subst (λ (node : NodeValue). is_kept_commit (find (is_outcome_of t) node.kept.saved.outcomes) ≡ true) (node_at true same) is));
      }
        where
          decided : was_committed t work.node ≡ true → goes.next.cell ≡ Committed
          decided is = commit_stays then_f goes.next stood.lawful then_leads (cell_then (sym (eqb-true t.home.0 n same)) is)

      at : (k : ℕ) (b : Bool) → (k == n) ≡ b → after.channels.up k ≡ true → StaysAt world after k ⊎ TellsAt t after k goes.next
      at k false off up = inl (record { manager = host_at k false off; up = ap (λ (f : ℕ → Bool). f k) (sym up_is) ∙ up; inc = ap (λ (f : ℕ → ℕ). f k) inc_is })
      at k true same up = inr (record {
        learnt = λ part known decided. commit_stays then_f goes.next stood.lawful then_leads (learnt_then part (ap (tm.part_of t) (sym (host_at k true same)) ∙ known) decided);
        acknowledged = λ home part known m has. acks_on t (sight_during t came.later n work) (sight t (scene_of after)) then_f goes.next (subst (λ (z : ℕ). t.home.0 < z) (sym came.size) home_in) home_in
            (ap (λ (f : ℕ → ℕ). f t.home.0) inc_is ∙ sym (ap (λ (f : ℕ → ℕ). f t.home.0) came.inc)) stood.shown.stage goes.shown.shown.stage then_leads m
            (turned.acked part.outcome part.acknowledged (fate_is part (ap (tm.part_of t) (sym (host_at k true same)) ∙ known)) m has);
      })

  pub step_goes_on : AllGoes t after w
  step_goes_on = step_goes_further.0

  pub cut_goes_on : (is_kept : Bool) (cause : CrashCause) → AllGoes t (cut_with world n stamp free is_kept cause (Some event)) w
  cut_goes_on is_kept cause = goes_all t world w home_in all (cut_with world n stamp free is_kept cause (Some event)) refl goes
      (kept_same t world (cut_with world n stamp free is_kept cause (Some event)) w goes.next all goes.leads (node_stopped world n stamp cause _ t.home.0)) (λ k k_in up. inl (stays_stopped world n stamp cause _ k up))
    where
      goes : WorldGoes t (cut_with world n stamp free is_kept cause (Some event)) w
      goes = cut t world w steady.seated home_in all.seen n stamp free source event n_in on is is_kept cause (λ _. shown_step.0)
