-- A whole step, joined: from what its event leaves standing of a transaction to what shows that after the step.
use Rattle.qs_world_refine.proofs.Words.{inl, ◌≡◌, ℕ, ◌<◌, ◌||◌, true, List, [], ◌∷◌, ◌++◌, Option, Some, None, refl, sym, ap, subst, ◌∙◌, if◌then◌else◌, list_any, filter, Tid, Nodes, Record, recovery, Participant, is_forced, NodeValue, Work, part_of, happen, step_work, effects_of, Source, event_of, Open, Committed, Aborted, Leads, leads_on, ShowsAll, Face, ShowsFace, AllClose, StepShown, taken_scene, face_at, outcome_seen, place, BeginsNew, Scene, sight_during, Shows, MayHappen, begun, Stands}
use Rattle.qs_world_refine.proofs.Words.{GoesOn, IsSteady, or_right, or_left}
use Rattle.qs_base.specs.declared.identifiers.Outcome.{Outcome}
use Rattle.qs_base.specs.declared.identifiers.Outcome.TheVariants as outcomes
use Rattle.qs_record.specs.declared.record.Record.TheVariants as records
use Rattle.qs_node_step.specs.declared.event.Event.{Event}
use Rattle.qs_world.specs.World.{World}
use Rattle.qs_world_agree.specs.World as machine
use Rattle.qs_world_refine.specs.JoinLaws.{is_loose, StepForced}
use Rattle.qs_world_refine.specs.SoundSteps.{settled}
use Rattle.qs_world_refine.specs.StepLaws.{stepped}
use Rattle.qs_world_refine.proofs.ClosingAll.{stays_closed}
use Rattle.qs_world_refine.proofs.EachCame.{case_of, IsEnding}
use Rattle.qs_world_refine.proofs.EachEvent.{StepCame}
use Rattle.qs_world_refine.proofs.EachStep.{turned_first}
use Rattle.qs_world_refine.proofs.Heads.{shown_here, face_is, node_is}
use Rattle.qs_world_refine.proofs.Joining.{step_closes_after}
use Rattle.qs_world_refine.proofs.SaidSteps.{step_forces, step_open}
use Rattle.qs_world_refine.proofs.SettleGoes.{settle_goes}
use Rattle.qs_world_refine.proofs.StepEdges.{step_ends}
use Rattle.qs_world_refine.proofs.TurnOn.{KeptSo, became, fate_found, fate_at, Turned, is_aborted_of, is_end_of, same_outcome}
use Rattle.qs_world_refine.proofs.TurnEvents.{step_on}
use Rattle.qs_world_refine.proofs.WaitStands.{answer_waiting_goes}

module _ (t : Tid) (world : World) (w : machine.World) (steady : IsSteady world) (home_in : t.home.0 < world.size) (all : ShowsAll t world w) (n stamp free : ℕ) (n_in : n < world.size) (on : world.channels.up n ≡ true) (source : Source) (event : Event)
    (is : event_of world n stamp source ≡ Some event) (came : StepCame t world n free source event w) (may : MayHappen event (begun (world.hosts n).node free) × BeginsNew event (begun (world.hosts n).node free)) where
  abbrev pub node : NodeValue
  node = (world.hosts n).node

  abbrev pub q : ℕ
  q = place n (world.channels.inc n)

  abbrev pub last_work : Work
  last_work = step_work node event free

  abbrev pub later : Scene
  later = came.later

  pub settled_then : GoesOn t later n (settled node event free) came.came.after.next
  settled_then = settle_goes t later n (happen event (begun node free)) came.came.after.next came.came.after.stands

  pub answered_then : GoesOn t later n last_work settled_then.next
  answered_then = answer_waiting_goes t later n (settled node event free) settled_then.next (step_open node event free may.0 may.1 (steady.sound n n_in).node (steady.commands n n_in)).0 settled_then.stands

  abbrev pub f : machine.World
  f = answered_then.next

  pub after_leads : Leads came.came.after.next f
  after_leads = leads_on came.came.after.next settled_then.next f settled_then.leads answered_then.leads

  pub all_leads : Leads w f
  all_leads = leads_on w came.came.mid f came.came.leads (leads_on came.came.mid came.came.after.next f came.came.after.leads after_leads)

  pub stands : Stands t later n last_work f
  stands = answered_then.stands

  -- ---- its records stand in turn

  pub turned : Turned (case_of t world n came.came.ends f) last_work
  turned = (step_on node event free may.0 (came.came.comes f last_work after_leads stands.shown) (steady.sound n n_in).node).goes
      (turned_first t world w steady home_in all n free n_in on came.came.ends f (sight_during t later n last_work) came.size came.inc all_leads stands.shown.stage)

  -- and what its node keeps as committed then was so before, or is known as such
  pub kept_then : KeptSo (case_of t world n came.came.ends f) last_work
  kept_then = (step_on node event free may.0 (came.came.comes f last_work after_leads stands.shown) (steady.sound n n_in).node).kept (λ _ is. inl is)

  -- ---- and those that need not be forced may close

  q_is : place n (later.inc n) ≡ q
  q_is = ap (λ (g : ℕ → ℕ). place n (g n)) came.inc

  pub face_then : ShowsFace (face_at last_work.node t) q f
  face_then = subst (λ (k : ℕ). ShowsFace (face_at last_work.node t) k f) q_is (shown_here t later n last_work f stands)

  -- the node of the home's place is the home's
  home_place : n ≡ t.home.0 → (v : machine.World) → (work : Work) → Stands t later n work v → v.node q ≡ v.node v.home
  home_place at v work so = subst (λ (k : ℕ). v.node k ≡ v.node v.home) q_is (node_is t later n work v so ∙ (at ∙ sym (ap v.node so.shown.stage.home ∙ so.shown.stage.nodes t.home.0 t.inc so.home_in)))

  pub aborted_then : list_any (is_aborted_of t) last_work.out.records ≡ true → f.outcome q ≡ Aborted
  aborted_then has = face_then.outcome ∙ by (part_of t last_work) refl
    where
      among : (xs ys : List Record) → list_any (is_aborted_of t) ys ≡ true → list_any (is_aborted_of t) (xs ++ ys) ≡ true
      among [] ys some = some
      among (x ∷ xs) ys some = or_right (is_aborted_of t x) (list_any (is_aborted_of t) (xs ++ ys)) (among xs ys some)

      its : (acks : Nodes) × (fate_at t last_work.node ≡ became (Some outcomes.Abort) acks)
      its = turned.aborted (among (world.hosts n).waiting last_work.out.records has)

      by : (o : Option Participant) → part_of t last_work ≡ o → (face_at last_work.node t).outcome ≡ Aborted
      by None none = absurd (let both : None ≡ became (Some outcomes.Abort) its.0 = sym (ap fate_found none) ∙ its.1 in cc (both))
      by (Some part) known = ap (λ (x : Face). x.outcome) (face_is t later n last_work f stands part known)
          ∙ ap (λ (o : Option Outcome). outcome_seen o (part.engage.home || part.involved)) (same_outcome part.outcome (Some outcomes.Abort) part.acknowledged its.0 (sym (ap fate_found known) ∙ its.1))

  pub ended_then : came.came.ends ≡ true → IsEnding t n q f
  ended_then so = let its = came.came.ended so in
      let closed = stays_closed t n q came.came.after.next f (records.End t ∷ []) came.came.after.stands.lawful after_leads face_then.up
      (λ at. home_place at came.came.after.next (happen event (begun node free)) came.came.after.stands) ((λ same. (its.home, (its.committed, its.acknowledged))), tt) in
      let all = closed.0 (Rattle.qs_world_refine.proofs.Same.tid_same t) in record { home = all.0; committed = all.1.0; acknowledged = all.1.1 }

  loose_close : (rs : List Record) → (list_any (is_aborted_of t) rs ≡ true → f.outcome q ≡ Aborted) → (list_any (is_end_of t) rs ≡ true → IsEnding t n q f) → AllClose t n q f (filter is_loose rs)
  loose_close [] aborts ends = tt
  loose_close (r ∷ rs) aborts ends = by r (λ so. aborts (or_left (is_aborted_of t r) (list_any (is_aborted_of t) rs) so)) (λ so. ends (or_left (is_end_of t r) (list_any (is_end_of t) rs) so))
      (loose_close rs (λ so. aborts (or_right (is_aborted_of t r) (list_any (is_aborted_of t) rs) so)) (λ so. ends (or_right (is_end_of t r) (list_any (is_end_of t) rs) so)))
    where
      by : (r : Record) → (is_aborted_of t r ≡ true → f.outcome q ≡ Aborted) → (is_end_of t r ≡ true → IsEnding t n q f) → AllClose t n q f (filter is_loose rs) → AllClose t n q f (if is_loose r then r ∷ filter is_loose rs else filter is_loose rs)
      by (records.Prepare u server covers changes) aborts ends rest = rest
      by (records.Commit u told) aborts ends rest = rest
      by (records.Aborted u) aborts ends rest = (aborts, rest)
      by (records.End u) aborts ends rest = ((λ so. let its = ends so in (its.home, (its.committed, its.acknowledged))), rest)

  -- ---- the step

  forced_shown : Shows t (stepped (taken_scene world n source) n last_work ((world.hosts n).log ++ filter is_forced (effects_of node event free).records)) f
  forced_shown = came.taken last_work ((world.hosts n).log ++ filter is_forced last_work.out.records) f
      (step_ends t later n last_work ((world.hosts n).log ++ filter is_forced last_work.out.records) f stands.shown
      (subst (λ (l : List Record). Rattle.qs_world_refine.specs.StepLaws.SaysSame t (recovery (later.log n ++ filter is_forced last_work.out.records)) (recovery (l ++ filter is_forced last_work.out.records))) (ap (λ (g : ℕ → List Record). g n) came.log)
      (record { prepared = λ k. refl; committed = refl; unended = refl; named = λ m. refl })))

  forced : StepForced t world n free source event w
  forced = record { next = f; leads = all_leads; shown = forced_shown; closes = loose_close last_work.out.records aborted_then (λ has. ended_then (turned.ends has)) }

  -- and the machine goes on from the end of the step to where its records stand
  pub step_shown : (shown : StepShown t world n free source event w) × Leads f shown.next
  unfolding forced
  step_shown = step_closes_after t world n free source event w steady.seated home_in n_in on all.seen (step_forces node event free may.0 may.1 (steady.sound n n_in).node) turned.turn forced
