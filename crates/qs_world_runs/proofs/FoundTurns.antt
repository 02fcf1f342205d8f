-- At the turn of a transaction whose home is ready to commit, what the step commanded, issued and voted of it so far found what it needs: else its home could not be ready.
use Rattle.qs_world_runs.proofs.Words.{◌≡◌, inl, inr, ℕ, ◌≤◌, ◌&&◌, not, Bool, true, false, List, [], ◌∷◌, Some, None, sym, ap, subst, ◌∙◌, if◌then◌else◌, NodeNo, Tid, due_tids, is_busy, is_pass_due, may_answer, pass_rule, settle_tid, try, Work, doings_of, work_on, happen, vote_pass, Event, Setting, Participant, Source, taken_by, Opening, World, IsDoomed, is_sound, IsSteady, StepMay, step_may, settle_leaves, steady_gives, AtEach, done_work, first_work, FitsEvent, HasNodeFacts}
use Rattle.qs_world_runs.proofs.Words.{begin_incarnation_keeps, happen_same, begin_same, MakesStep, SoundStages, Joined, book_in, PlacesAt, field_of, taken, ComesFinds, PassFinds, IsReadyAt, same_Some}
use Rattle.qs_node_step.specs.State.{NodeValue, part_of}
use Rattle.qs_node_step.specs.declared.event.Event.TheVariants as events
use Rattle.qs_tm.specs.Participant as participant
use Rattle.qs_world_agree.specs.World as machine
use Rattle.qs_world_refine.proofs.Known.{undecided_is}
use Rattle.qs_world_refine.proofs.SettleRules.{beside, beside_apart}
use Rattle.qs_world_runs.specs.PlacesFound.{FoundAtTurn, TurnsFind}
use Rattle.qs_world_runs.specs.PlacesTurns.{passed}
use Rattle.qs_world_runs.proofs.AgreesPasses.{stages_sound}
use Rattle.qs_world_runs.proofs.FoundCommands.{HasLabels, come_found}
use Rattle.qs_world_runs.proofs.FoundIssued.{Late, Supplies}
use Rattle.qs_world_runs.proofs.FoundVotes.{pass_found}
use Rattle.qs_world_runs.proofs.JoinedFacts.{event_fits_run}
use Rattle.qs_world_runs.proofs.Onward.{IsStuck, stuck_on, stuck_unready}
use Rattle.qs_world_runs.proofs.Stuck.{passed_sticks, settle_sticks}
use Rattle.qs_world_runs.proofs.StuckRules.{Kept, Sticks, keeps_itself, sticks_of, sticks_on}

-- what comes
pub comes_found : (D : Type 0) (t : Tid) (world : World) (n : ℕ) (event : Event) (first : Work) → world.size ≤ 16 → is_sound first.node ≡ true → HasLabels first → first.node.setting.nodes ≡ world.size → FitsEvent first.node.setting event
    → Supplies D t (field_of world) (world.channels.peer n) first (happen event first) → ComesFinds D t world n event first
comes_found D t world n (events.Command client line label command) first small sound labels size fits supplies =
    come_found D t (field_of world) (world.channels.peer n) small (record { client = client; line = line; label = label; command = command }) first sound labels size fits.1 supplies
comes_found D t world n (events.Received peer message) first small sound labels size fits supplies = tt
comes_found D t world n events.ServeAll first small sound labels size fits supplies = tt
comes_found D t world n (events.PeerRestarted peer old new) first small sound labels size fits supplies = tt
comes_found D t world n events.Tick first small sound labels size fits supplies = tt

-- a pass that is due is made at the turn
pub passed_is : (t : Tid) (work : Work) (part : Participant) → part_of t work ≡ Some part → part.outcome ≡ None → is_pass_due t part work ≡ true → try t pass_rule work ≡ vote_pass t work
passed_is t work part known undecided due = undecided_is t (pass_rule t) work part known undecided ∙ ap (λ (b : Bool). if b then vote_pass t work else work) due

-- ---- in a world in which all stands together

module _ (o : Opening) (world : World) (n stamp free : ℕ) (source : Source) (event : Event) (j : Joined PlacesAt o world) (makes : MakesStep world n stamp source event) where
  abbrev pub node : NodeValue
  node = (world.hosts n).node

  abbrev pub first : Work
  first = first_work node free

  abbrev pub done : Work
  done = done_work node event free

  pub its : StepMay world n source
  its = step_may world n stamp source makes.may

  pub steady : IsSteady world
  steady = steady_gives world j.shown.steady j.shown.listed

  pub small : world.size ≤ 16
  small = steady.seated.small

  pub sounds : SoundStages node event free
  sounds = stages_sound world n stamp free source event j.shown makes

  pub first_size : first.node.setting.nodes ≡ world.size
  first_size = ap (λ (s : Setting). s.nodes) (begin_same (work_on node free)) ∙ steady.seated.nodes n its.low

  pub done_size : done.node.setting.nodes ≡ world.size
  done_size = ap (λ (s : Setting). s.nodes) (happen_same event first) ∙ first_size

  pub first_facts : HasNodeFacts first.node
  first_facts = begin_incarnation_keeps (work_on node free) (j.facts n its.low)

  pub fits : FitsEvent first.node.setting event
  fits = subst (λ (s : Setting). FitsEvent s event) (sym (begin_same (work_on node free)))
      (event_fits_run o j.opens (book_in o world) world n stamp free j.scripts j.size its.low its.runs (steady.seated.nodes n its.low) source event makes.comes)

  pub comes_so : (D : Type 0) (t : Tid) → Supplies D t (field_of world) (world.channels.peer n) first done → ComesFinds D t world n event first
  comes_so D t supplies = comes_found D t world n event first small sounds.first first_facts.labels first_size fits supplies

  -- ---- at a turn

  module _ (work : Work) (t : Tid) (sticks : Sticks t done work) (size : work.node.setting.nodes ≡ world.size) (sound : is_sound work.node ≡ true) (ready : IsReadyAt work t) where
    never : (part : Participant) → part_of t (passed work t) ≡ Some part → IsStuck part → ⊥
    never part known stuck = off (subst (λ (p : Participant). may_answer t p (passed work t) ≡ true) (same_Some ready.part part (sym ready.known ∙ known)) ready.may)
      where
        by : (a b : Bool) → a ≡ false → (a && b) ≡ true → ⊥
        by true b is so = cc is
        by false b is so = cc so

        off : may_answer t part (passed work t) ≡ true → ⊥
        off is = by (participant.is_ready (is_busy t (passed work t).node part) part) (not (participant.needs_pass part) && not (doings_of t (passed work t)).prepared) (stuck_unready part stuck (is_busy t (passed work t).node part)) is

    module _ (v : machine.World) where
      comes_now : ComesFinds (IsDoomed v) t world n event first
      comes_now = comes_so (IsDoomed v) t (λ m late unreached. absurd (so m late))
        where
          so : (m : NodeNo) → Late t first done m → ⊥
          so m late = by (sticks_on t done work (passed work t) sticks (passed_sticks t work) late.part late.now (inl (m, (late.number, late.awaits))))
            where
              by : Kept t done (passed work t) late.part → ⊥
              by kept = never kept.next kept.known (stuck_on late.part kept.next kept.onward (inl (m, (late.number, late.awaits))))

      passes_now : PassFinds (IsDoomed v) t (field_of (taken world n source)) ((taken_by world n source).peer n) work
      passes_now part known undecided due = pass_found (IsDoomed v) t (field_of (taken world n source)) ((taken_by world n source).peer n) small work sound size
          (λ m late unreached. absurd (never late.part (then_part late.part late.now) (inl (m, (late.number, late.awaits))))) (λ p now held uncommitted. absurd (never p (then_part p now) (inr held))) part known undecided due
        where
          then_part : (p : Participant) → part_of t (vote_pass t work) ≡ Some p → part_of t (passed work t) ≡ Some p
          then_part p now = ap (λ (k : Work). part_of t k) (passed_is t work part known undecided due) ∙ now

  turns : (tids : List Tid) (work : Work) → ((t : Tid) → Sticks t done work) → work.node.setting.nodes ≡ world.size → AtEach (λ (k : Work) (tid : Tid). is_sound k.node ≡ true) settle_tid work tids → AtEach (FoundAtTurn world n free source event) settle_tid work tids
  turns [] work sticks size sound = tt
  turns (tid ∷ tids) work sticks size sound = (
    (λ ready v. (comes_now work tid (sticks tid) size sound.0 ready v, passes_now work tid (sticks tid) size sound.0 ready v)),
    turns tids (settle_tid work tid) (λ t. sticks_on t done work (settle_tid work tid) (sticks t) (settle_sticks t work tid))
        (ap (λ (s : Setting). s.nodes) (settle_leaves (beside tid) tid (beside_apart tid) work).node.around.setting ∙ size) sound.1,
  )

  pub turns_so : AtEach (FoundAtTurn world n free source event) settle_tid done (due_tids done)
  turns_so = turns (due_tids done) done (λ t. sticks_of t done done (keeps_itself t done)) done_size sounds.settles

pub turns_find : TurnsFind
turns_find o world n stamp free source event j makes = turns_so o world n stamp free source event j makes
