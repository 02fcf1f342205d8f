-- A whole step of a node, for one transaction.
use Rattle.qs_world_refine.proofs.Words.{◌≡◌, ℕ, ◌==◌, ◌++◌, Bool, true, List, [], refl, sym, ap, ◌∙◌, if◌then◌else◌, filter, Tid, Record, recovery, is_forced, NodeValue, Work, work_on, happen, step_work, accept, Leads, IsLawful, leads_on, Scene, Shows, sight_during, is_in_doubt, begun, may_doubt, Stands, eqb-self}
use Rattle.qs_world_agree.specs.World.{World}
use Rattle.qs_world_refine.specs.SoundSteps.{settled}
use Rattle.qs_world_refine.specs.StepLaws.{SaysSame, stepped}
use Rattle.qs_world_refine.specs.StepWhole.{IsReady, Stepped, StepGoes}
use Rattle.qs_world_refine.proofs.BeginStands.{begin_incarnation_goes}
use Rattle.qs_world_refine.proofs.SettleGoes.{settle_goes}
use Rattle.qs_world_refine.proofs.Sending.{append_nil}
use Rattle.qs_world_refine.proofs.StepEdges.{step_begins, step_ends}
use Rattle.qs_world_refine.proofs.WaitStands.{answer_waiting_goes}

picked : {A : Type 0} (b : Bool) (x y : A) → b ≡ true → (if b then x else y) ≡ x
picked b x y is = rw is refl

-- ---- it begins

pub begins : (t : Tid) (scene : Scene) (n free : ℕ) (w : World) → IsLawful w → Shows t scene w → IsReady t scene n → Stands t scene n (work_on (scene.node n) free) w
begins t scene n free w lawful shown is = record {
  at = record { in_run = is.in_run; up = is.up; node = is.node; nodes = is.nodes; inc = is.inc };
  home_in = is.home_in;
  sound = is.sound;
  kinds = is.kinds;
  lawful = lawful;
  shown = step_begins t scene n free w shown;
  clear = λ none s. ap (is_in_doubt t s) found ∙ is.clear none s;
  superior = is.superior;
}
  where
    found : (sight_during t scene n (work_on (scene.node n) free)).found n ≡ recovery (scene.log n)
    found = picked (n == n) (recovery (scene.log n ++ [])) (recovery (scene.log n)) (eqb-self n) ∙ ap recovery (append_nil (scene.log n))

-- ---- it ends

module _ (t : Tid) (scene : Scene) (n : ℕ) (work : Work) (log : List Record) (w : World) (is : Stands t scene n work w) (same : SaysSame t (recovery (scene.log n ++ filter is_forced work.out.records)) (recovery log)) where
  node_is : (stepped scene n work log).node n ≡ accept work.node
  node_is = picked (n == n) (accept work.node) (scene.node n) (eqb-self n)

  log_is : (stepped scene n work log).log n ≡ log
  log_is = picked (n == n) log (scene.log n) (eqb-self n)

  found_is : (sight_during t scene n work).found n ≡ recovery (scene.log n ++ filter is_forced work.out.records)
  found_is = picked (n == n) (recovery (scene.log n ++ filter is_forced work.out.records)) (recovery (scene.log n)) (eqb-self n)

  ready : IsReady t (stepped scene n work log) n
  ready = record {
    in_run = is.at.in_run;
    up = is.at.up;
    node = ap (λ (k : NodeValue). k.setting.node) node_is ∙ is.at.node;
    nodes = ap (λ (k : NodeValue). k.setting.nodes) node_is ∙ is.at.nodes;
    inc = ap (λ (k : NodeValue). k.setting.inc) node_is ∙ is.at.inc;
    home_in = is.home_in;
    sound = rw node_is is.sound;
    kinds = rw node_is is.kinds;
    clear = λ none s. ap (λ (l : List Record). is_in_doubt t s (recovery l)) log_is ∙ (same.prepared s ∙ (sym (ap (is_in_doubt t s) found_is) ∙ is.clear (sym (ap (λ (k : NodeValue). may_doubt (t.home.0 == n) (Rattle.qs_tm.specs.Manager.part_of t k.manager)) node_is) ∙ none) s));
    superior = λ part m known has. is.superior part m (sym (ap (λ (k : NodeValue). Rattle.qs_tm.specs.Manager.part_of t k.manager) node_is) ∙ known) has;
  }

  pub ends : Stepped t scene n work log w
  ends = record { next = w; leads = record { events = []; run = refl }; shown = step_ends t scene n work log w is.shown same; ready = ready }

-- ---- the step

pub further : (t : Tid) (later : Scene) (n : ℕ) (work : Work) (log : List Record) (w u : World) → Leads w u → Stepped t later n work log u → Stepped t later n work log w
further t later n work log w u first second = record { next = second.next; leads = leads_on w u second.next first second.leads; shown = second.shown; ready = second.ready }

pub step_goes : StepGoes
step_goes t scene later n event free log w lawful shown is taken happens in_run same =
    let first = begin_incarnation_goes t scene n (work_on (scene.node n) free) w taken (begins t scene n free w lawful shown is) in
    let second = happens first.next first.stands in
    let third = settle_goes t later n (happen event (begun (scene.node n) free)) second.next second.stands in
    let last = answer_waiting_goes t later n (settled (scene.node n) event free) third.next in_run third.stands in
    further t later n (step_work (scene.node n) event free) log w first.next first.leads
    (further t later n (step_work (scene.node n) event free) log first.next second.next second.leads
    (further t later n (step_work (scene.node n) event free) log second.next third.next third.leads
    (further t later n (step_work (scene.node n) event free) log third.next last.next last.leads
    (ends t later n (step_work (scene.node n) event free) log last.next last.stands same))))
