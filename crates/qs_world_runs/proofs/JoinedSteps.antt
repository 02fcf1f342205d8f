-- A whole step of a world in which all stands together: its entries are lawful, from what the agreement machine gives at each of its stages.
use Rattle.qs_world_runs.proofs.Words.{◌≡◌, ℕ, ◌<◌, true, List, [], ◌∷◌, ◌++◌, Option, ap, subst, Tid, Entry, BookValue, book_after, due_tids, settle_tid, Work, after_step, effects_of, Event, Source, Step, is_later, moved, step_with, entries_of, Opening, World, is_sound, StepMay, step_may, AtEach, done_work, Every, HoldsNodeAt, held_at, MakesStep, PassesUndone, nodes_in, Joined, book_in, CommitsSettled, WholeSteps}
use Rattle.qs_book_machine.specs.Lawful.{IsLawful}
use Rattle.qs_node_step.specs.State.{NodeValue}
use Rattle.qs_world.specs.Moves.{is_in_order}
use Rattle.qs_world_refine.proofs.SoundParts.{and_both}
use Rattle.qs_world_lawful.specs.Agreed.{AgreementGives, StepAgrees}
use Rattle.qs_world_lawful.specs.Amid.{IsSent}
use Rattle.qs_world_lawful.specs.Holds.{Holds}
use Rattle.qs_world_lawful.specs.StepKeeps.{KeptThen}
use Rattle.qs_world_lawful.specs.StepOn.{StepOn}
use Rattle.qs_world_lawful.proofs.BesideSent.{sent_after}
use Rattle.qs_world_lawful.proofs.StepKept as keeping
use Rattle.qs_world_lawful.proofs.WholeStep.{by_whole_step}
use Rattle.qs_world_runs.proofs.AgreesPasses.{passes_agree, stages_sound, waits_agree}
use Rattle.qs_world_runs.proofs.AgreesWhole.{event_agrees}
use Rattle.qs_world_runs.proofs.JoinedGiven.{given, step_on}
use Rattle.qs_world_runs.proofs.JoinedSound.{sound_gives}

-- ---- what the protocol gives, put together

settles_so : (stamp : ℕ) (before : BookValue) (size : ℕ) (nodes : ℕ → NodeValue) (n : ℕ) (tids : List Tid) (work : Work) → AtEach (PassesUndone size nodes n) settle_tid work tids → AtEach (CommitsSettled stamp before) settle_tid work tids
    → AtEach (λ (work : Work) (tid : Tid). is_sound work.node ≡ true) settle_tid work tids → AtEach (AgreementGives stamp before size nodes n) settle_tid work tids
settles_so stamp before size nodes n [] work passes commits sound = tt
settles_so stamp before size nodes n (tid ∷ tids) work passes commits sound = (record { passes = passes.0; commits = commits.0; alone = sound_gives work tid sound.0 }, settles_so stamp before size nodes n tids (settle_tid work tid) passes.1 commits.1 sound.1)

-- ---- the step

module _ (P : Opening → World → Type 0) (steps : WholeSteps P) (o : Opening) (world : World) (j : Joined P o world) (n stamp free : ℕ) (source : Source) (event : Event) (makes : MakesStep world n stamp source event) where
  abbrev node : NodeValue
  node = (world.hosts n).node

  its : StepMay world n source
  its = step_may world n stamp source makes.may

  pub step_low : n < world.size
  step_low = its.low

  pub step_up : world.channels.up n ≡ true
  step_up = its.runs

  pub step_ordered : is_in_order world n stamp ≡ true
  step_ordered = (and_both (is_in_order world n stamp) _ (and_both (is_later world n stamp) _ (and_both (world.channels.up n) _ makes.may).1).0).0

  at : HoldsNodeAt (book_in o world) world n
  at = j.held.nodes n its.low

  pub step_at : node.setting.node.0 ≡ n
  step_at = at.node

  agreed : StepAgrees stamp (book_in o world) world.size (nodes_in world) n node event free
  agreed = record {
    comes = event_agrees world n stamp free source event j.shown makes;
    settles = settles_so stamp (book_in o world) world.size (nodes_in world) n (due_tids (done_work node event free)) (done_work node event free) (passes_agree world n stamp free source event j.shown makes) (steps.commits o world n stamp free source event j makes) (stages_sound world n stamp free source event j.shown makes).settles;
    waits = waits_agree world n stamp free source event j.shown makes;
  }

  holds : Holds stamp (book_in o world) node
  holds = held_at n stamp (book_in o world) node at.node (at.runs its.runs).still (j.held.order n stamp step_ordered)

  pub step_given : StepOn stamp (book_in o world) world.size (nodes_in world) n node event free
  step_given = step_on P o world j n stamp free source event makes holds agreed

  abbrev pub step_entries : List Entry
  step_entries = entries_of n stamp (effects_of node event free).entries

  both : (k : ℕ) → node.setting.node.0 ≡ k → IsLawful (book_in o world) (entries_of k stamp (effects_of node event free).entries) × Holds stamp (book_after (book_in o world) (entries_of k stamp (effects_of node event free).entries)) (after_step node event free)
  both k same = subst (λ (i : ℕ). IsLawful (book_in o world) (entries_of i stamp (effects_of node event free).entries) × Holds stamp (book_after (book_in o world) (entries_of i stamp (effects_of node event free).entries)) (after_step node event free)) same
      (by_whole_step stamp (book_in o world) node event free holds (given P o world j n stamp free source event makes holds agreed))

  pub step_lawful : IsLawful (book_in o world) step_entries
  step_lawful = (both n at.node).0

  pub step_holds : Holds stamp (book_after (book_in o world) step_entries) (after_step node event free)
  step_holds = (both n at.node).1

  pub step_journal : (moved (Step n stamp free source) world).journal ≡ world.journal ++ step_entries
  step_journal = ap (λ (e : Option Event). (step_with world n stamp free source e).journal) makes.comes

  -- and all of this but what the log says of contents holds of the node after it
  pub step_kept : KeptThen stamp (book_after (book_in o world) step_entries) world.size (nodes_in world) n (after_step node event free)
  step_kept = kept n at.node
    where
      kept : (k : ℕ) → node.setting.node.0 ≡ k → KeptThen stamp (book_after (book_in o world) (entries_of k stamp (effects_of node event free).entries)) world.size (nodes_in world) n (after_step node event free)
      kept k same = subst (λ (i : ℕ). KeptThen stamp (book_after (book_in o world) (entries_of i stamp (effects_of node event free).entries)) world.size (nodes_in world) n (after_step node event free)) same
          (keeping.step_kept stamp (book_in o world) world.size (nodes_in world) n node event free (step_on P o world j n stamp free source event makes holds agreed) j.held.size).kept

  -- what it sends is so, and goes to another node of the run
  pub step_sent : Every (IsSent (book_after (book_in o world) step_entries) node.setting) (effects_of node event free).messages
  step_sent = sent n at.node
    where
      sent : (k : ℕ) → node.setting.node.0 ≡ k → Every (IsSent (book_after (book_in o world) (entries_of k stamp (effects_of node event free).entries)) node.setting) (effects_of node event free).messages
      sent k same = subst (λ (i : ℕ). Every (IsSent (book_after (book_in o world) (entries_of i stamp (effects_of node event free).entries)) node.setting) (effects_of node event free).messages) same
          (sent_after stamp (book_in o world) world.size (nodes_in world) n node event free (step_on P o world j n stamp free source event makes holds agreed))
