-- What stands at each stage of a step stands on: the node's setting and its own facts, and what the homes have, by themselves; the rest as given.
use Rattle.qs_world_lawful.proofs.Words.{◌≡◌, ℕ, refl, ap, sym, subst, ◌∙◌, BookValue, serve_next, forget_rule, is_pass_due, pass_rule, ready_rule, refuse_rule, try, Work, work_on, happen, wait_on, forget, vote_pass, Event, Setting, is_forgotten, HoldsBeside, HoldsWork, book_at, MayStep, first_work, FitsEvent, HasNodeFacts, HoldsHomes, KeepsStanding, Stands, StandsBy, StepStands}
use Rattle.qs_node_step.specs.State.{NodeValue}
use Rattle.qs_world_lawful.specs.StandingOn.{KeepsBeside, StepBeside}
use Rattle.qs_world_lawful.proofs.FactsStages.{serve_next_keeps}
use Rattle.qs_world_lawful.proofs.FactsStages.{forgets_keep, happens_keep, passes_keep, readies_keep, refuses_keep, waits_keep}
use Rattle.qs_world_lawful.proofs.FactsStages.{begin_incarnation_keeps}
use Rattle.qs_world_lawful.proofs.GivenWhole.{may_step}
use Rattle.qs_world_lawful.proofs.HomesStand.{homes_stand}
use Rattle.qs_world_lawful.proofs.SameSetting.{begin_same, forgets_same, happen_same, passes_same, readies_same, refuses_same, serve_next_same, wait_same}

module _ (stamp : ℕ) (before : BookValue) (size : ℕ) (nodes : ℕ → NodeValue) (n : ℕ) (homes : HoldsHomes before size nodes n) where
  -- what stands after a rule that keeps the setting and the node's own facts
  pub stands_on : (work new : Work) → new.node.setting ≡ work.node.setting → (HasNodeFacts work.node → HasNodeFacts new.node) → Stands stamp before size nodes n work → HoldsWork stamp before new → HoldsBeside (book_at stamp before new) new.node → StandsBy stamp before size nodes n new
  stands_on work new same keeps s held beside = record {
    facts = keeps s.by.facts;
    beside = beside;
    homes = homes_stand stamp before size nodes n new at held.lawful homes;
    at = at;
    run = ap (λ (t : Setting). t.nodes) same ∙ s.by.run;
  }
    where
      at : new.node.setting.node.0 ≡ n
      at = ap (λ (t : Setting). t.node.0) same ∙ s.by.at

  pub keeps_standing : KeepsBeside stamp before size nodes n → KeepsStanding stamp before size nodes n
  keeps_standing k = record {
    passes = λ work tid so s held. stands_on work (try tid pass_rule work) (passes_same work tid) (passes_keep work tid) s held (k.passes work tid so s held);
    readies = λ work tid s held. stands_on work (try tid ready_rule work) (readies_same work tid) (readies_keep work tid) s held (k.readies work tid s held);
    refuses = λ work tid s held. stands_on work (try tid refuse_rule work) (refuses_same work tid) (refuses_keep work tid) s held (k.refuses work tid s held);
    forgets = λ work tid s held. stands_on work (try tid forget_rule work) (forgets_same work tid) (forgets_keep work tid) s held (k.forgets work tid s held);
    serves = λ work server room s held. stands_on work (serve_next work server) (serve_next_same work server) (serve_next_keeps work server) s held (k.serves work server room s held);
    waits = λ work client s held. stands_on work (wait_on work client) (wait_same work client) (waits_keep work client) s held (k.waits work client s held);
  }

-- the whole step
module _ (stamp : ℕ) (before : BookValue) (size : ℕ) (nodes : ℕ → NodeValue) (n : ℕ) (node : NodeValue) (event : Event) (free : ℕ) (s : StepBeside stamp before size nodes n node event free) where
  setting_is : (first_work node free).node.setting ≡ node.setting
  setting_is = begin_same (work_on node free)

  at_first : (first_work node free).node.setting.node.0 ≡ n
  at_first = ap (λ (t : Setting). t.node.0) setting_is ∙ s.at

  pub first : Stands stamp before size nodes n (first_work node free)
  first = record {
    held = s.held;
    by = record {
      facts = begin_incarnation_keeps (work_on node free) s.facts;
      beside = s.beside;
      homes = homes_stand stamp before size nodes n (first_work node free) at_first s.held.lawful s.homes;
      at = at_first;
      run = ap (λ (t : Setting). t.nodes) setting_is ∙ s.run;
    };
  }

  pub step_stands : StepStands stamp before size nodes n node event free
  step_stands = record {
    rules = keeps_standing stamp before size nodes n s.homes s.rules;
    happens = λ comes here held. stands_on stamp before size nodes n s.homes (first_work node free) (happen event (first_work node free)) (happen_same event (first_work node free))
        (happens_keep event (first_work node free) (subst (λ (t : Setting). FitsEvent t event) (sym setting_is) s.fits)) here held (s.happens comes here held);
    first = first;
    comes = s.comes;
    ages = s.ages;
    agreed = s.agreed;
    rooms = s.rooms;
  }

  pub beside_gives : MayStep stamp before node event free
  beside_gives = may_step stamp before size nodes n node event free step_stands
