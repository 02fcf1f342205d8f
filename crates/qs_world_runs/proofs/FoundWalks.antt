-- From a machine that shows a transaction at one stage of a step to those that show it at the later ones; and what each stage finds, from what a request that went out late and a node that is held up come to at the end.
use Rattle.qs_world_runs.proofs.Words.{◌≡◌, ◌≢◌, ◌⊎◌, inl, inr, ℕ, ◌<◌, ◌≤◌, ◌||◌, Bool, true, List, [], ◌∷◌, Option, Some, None, fold, sym, ap, subst, ◌∙◌, arith, is_at, lookup, nat_tests, ClientNo, NodeNo, Tid, peer_of, pass_rule, settle_tid, try, Work, client_cmp, wait_on, vote_pass, OpenCommand, Participant, Leads, leads_on, face_at, outcome_seen, place, Scene, commands_in_run, face_is, shown_here, settle_tid_goes, wait_carries, AtEach, HasNodeFacts, Field, PassFinds, WaitFinds, Reaches}
use Rattle.qs_base.specs.declared.identifiers.Outcome.{Outcome}
use Rattle.qs_base.specs.declared.identifiers.Outcome.TheVariants as outcomes
use Rattle.qs_node_step.specs.State.{part_of}
use Rattle.qs_world_agree.specs.World as machine
use Rattle.qs_world_agree.proofs.Doomed.{sent_stays}
use Rattle.qs_world_refine.specs.Faces.{Face}
use Rattle.qs_world_refine.specs.Stands.{GoesOn, Stands}
use Rattle.qs_world_refine.proofs.WaitStands.{wait_stands}
use Rattle.qs_world_lawful.specs.NodeFacts.{IsCommand}
use Rattle.qs_world_lawful.proofs.FactsLabelled.{command_in}
use Rattle.qs_world_lawful.proofs.FactsStages.{waits_keep}
use Rattle.qs_world_runs.proofs.FoundCommands.{wait_found}
use Rattle.qs_world_runs.proofs.FoundIssued.{IsUncommitted, Supplies, uncommitted_on}
use Rattle.qs_world_runs.proofs.FoundTurns.{passed_is}
use Rattle.qs_world_runs.proofs.FoundVotes.{pass_found}
use Rattle.qs_world_runs.proofs.Onward.{Awaits, IsHeldUp, awaits_on, held_on}
use Rattle.qs_world_runs.proofs.Stuck.{rest_sticks, settle_sticks, wait_keeps}
use Rattle.qs_world_runs.proofs.StuckRules.{Kept, Sticks, sticks_fold, sticks_of, sticks_on}

-- a machine that c leads to shows it there
pub record StandsLater (t : Tid) (scene : Scene) (n : ℕ) (c : machine.World) (work : Work) : Type 0 where
  pub now : machine.World
  pub leads : Leads c now
  pub stands : Stands t scene n work now

-- how many requests the machine has sent of what is not committed
pub sent_there : (t : Tid) (scene : Scene) (n : ℕ) (work : Work) (u : machine.World) (part : Participant) (m : NodeNo) → Stands t scene n work u → part_of t work ≡ Some part → IsUncommitted part → u.sent (place n (scene.inc n)) m.0 ≡ (peer_of part.engage m).sent
sent_there t scene n work u part m stands known uncommitted = (shown_here t scene n work u stands).sent open_now m.0 ∙ ap (λ (f : Face). f.sent m.0) (face_is t scene n work u stands part known)
  where
    other : (o : Option Outcome) (b : Bool) → (o ≡ None) ⊎ (o ≡ Some outcomes.Abort) → outcome_seen o b ≢ machine.Committed
    other None b is e = cc e
    other (Some outcomes.Abort) b is e = cc e
    other (Some outcomes.Commit) b (inl is) e = cc is
    other (Some outcomes.Commit) b (inr is) e = cc is

    open_now : (face_at work.node t).outcome ≢ machine.Committed
    open_now e = other part.outcome (part.engage.home || part.involved) uncommitted (sym (ap (λ (f : Face). f.outcome) (face_is t scene n work u stands part known)) ∙ e)

module _ (D : Type 0) (t : Tid) (scene : Scene) (n : ℕ) (c : machine.World) (base : Field) (knows : ℕ → ℕ) (size : base.size ≡ scene.size) (small : base.size ≤ 16) (last : Work)
    (ends : (m : NodeNo) (k : ℕ) (part : Participant) → part_of t last ≡ Some part → Awaits m k part → IsUncommitted part → m.0 < scene.size → c.sent (place n (scene.inc n)) m.0 < k → (Reaches base knows m.0 → ⊥) → D)
    (held_ends : (part : Participant) → part_of t last ≡ Some part → IsHeldUp part → IsUncommitted part → D) where
  abbrev Here : Work → Type 0
  Here work = StandsLater t scene n c work

  nodes_are : (work : Work) (here : Here work) → work.node.setting.nodes ≡ base.size
  nodes_are work here = here.stands.at.nodes ∙ sym size

  pub late_ends : (work new : Work) → Here work → Sticks t new last → Supplies D t base knows work new
  late_ends work new here sticks m late unreached = by (sticks late.part late.now (inl (m, (late.number, late.awaits))))
    where
      in_run : m.0 < scene.size
      in_run = subst (λ (k : ℕ). m.0 < k) here.stands.at.nodes (grind (arith, nat_tests, late.in_run))

      below : c.sent (place n (scene.inc n)) m.0 < late.number
      below = less (c.sent (place n (scene.inc n)) m.0) (here.now.sent (place n (scene.inc n)) m.0) (peer_of late.old.engage m).sent late.number (sent_stays c here.now (place n (scene.inc n)) m.0 here.leads)
          (sent_there t scene n work here.now late.old m here.stands late.was (inl late.undecided)) late.later
        where
          less : (a b s k : ℕ) → a ≤ b → b ≡ s → s < k → a < k
          less a b s k p e q = omega (arith, p, e, q)

      by : Kept t new last late.part → D
      by kept = ends m late.number kept.next kept.known (awaits_on m late.number late.part kept.next kept.onward late.awaits) (uncommitted_on late.part kept.next kept.onward late.uncommitted) in_run below unreached

  -- ---- its own turn

  pass_here : (work : Work) → Here work → Sticks t (settle_tid work t) last → PassFinds D t base knows work
  pass_here work here sticks part known undecided due = pass_found D t base knows small work here.stands.sound (nodes_are work here) (late_ends work (vote_pass t work) here rest) held part known undecided due
    where
      rest : Sticks t (vote_pass t work) last
      rest = subst (λ (k : Work). Sticks t k last) (passed_is t work part known undecided due) (sticks_on t (try t pass_rule work) (settle_tid work t) last (rest_sticks t work) sticks)

      held : (p : Participant) → part_of t (vote_pass t work) ≡ Some p → IsHeldUp p → IsUncommitted p → D
      held p now up uncommitted = by (rest p now (inr up))
        where
          by : Kept t (vote_pass t work) last p → D
          by kept = held_ends kept.next kept.known (held_on p kept.next kept.onward up) (uncommitted_on p kept.next kept.onward uncommitted)

  -- ---- from turn to turn

  on_turn : (work : Work) (tid : Tid) → Here work → Here (settle_tid work tid)
  on_turn work tid here = let goes = settle_tid_goes t tid scene n work here.now here.stands in record { now = goes.next; leads = leads_on c here.now goes.next here.leads goes.leads; stands = goes.stands }

  pub settles_found : (tids : List Tid) (work : Work) → Here work → Sticks t (fold settle_tid work tids) last → AtEach (λ (k : Work) (tid : Tid). tid ≡ t → PassFinds D t base knows k) settle_tid work tids
  settles_found [] work here sticks = tt
  settles_found (tid ∷ tids) work here sticks = (
    (λ same. pass_here work here (subst (λ (k : Tid). Sticks t (settle_tid work k) last) same rest)),
    settles_found tids (settle_tid work tid) (on_turn work tid here) sticks,
  )
    where
      rest : Sticks t (settle_tid work tid) last
      rest = sticks_on t (settle_tid work tid) (fold settle_tid (settle_tid work tid) tids) last (sticks_fold t settle_tid (settle_sticks t) tids (settle_tid work tid)) sticks

  pub settled_here : (tids : List Tid) (work : Work) → Here work → Here (fold settle_tid work tids)
  settled_here [] work here = here
  settled_here (tid ∷ tids) work here = settled_here tids (settle_tid work tid) (on_turn work tid here)

  -- ---- and from one command that stayed open to the next

  pub waits_found : (clients : List ClientNo) (work : Work) → Here work → commands_in_run work.node ≡ true → HasNodeFacts work.node → Sticks t (fold wait_on work clients) last → AtEach (WaitFinds D t base knows) wait_on work clients
  waits_found [] work here in_run facts sticks = tt
  waits_found (client ∷ clients) work here in_run facts sticks = (
    wait_found D t base knows small work client here.stands.sound facts.labels (nodes_are work here) (λ command found. (its command found).fits)
        (late_ends work (wait_on work client) here (sticks_on t (wait_on work client) (fold wait_on (wait_on work client) clients) last (sticks_fold t wait_on (λ k x. sticks_of t k (wait_on k x) (wait_keeps t k x)) clients (wait_on work client)) sticks)),
    waits_found clients (wait_on work client) (record { now = goes.next; leads = leads_on c here.now goes.next here.leads goes.leads; stands = goes.stands }) (wait_carries work client (here.stands.sound, in_run)).1 (waits_keep work client facts) sticks,
  )
    where
      goes : GoesOn t scene n (wait_on work client) here.now
      goes = wait_stands t scene n work client here.now in_run here.stands

      its : (command : OpenCommand) → lookup (is_at (client_cmp client)) work.node.commands ≡ Some command → IsCommand work.node.setting client command
      its command found = command_in (λ (entry : ClientNo × OpenCommand). IsCommand work.node.setting entry.0 entry.1) client command work.node.commands facts.commands found
