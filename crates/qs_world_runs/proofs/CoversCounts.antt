-- Through a whole step the counts of each server only grow, of a transaction whose Commit its node's log does not have.
use Rattle.qs_world_runs.proofs.Words.{◌≡◌, ℕ, ◌<◌, ◌==◌, ◌&&◌, ◌++◌, Bool, true, false, List, Option, Some, None, length, refl, sym, subst, ◌∙◌, le_refl, eqb-true, or_right, and_parts, list_all, is_at, same_tid-true, same_tid, tid_cmp, NodeNo, ServerNo, Tid, BookValue, is_among, Record, Recovery, recovery, begin_incarnation, Work, with_manager, work_on, after_step, effects_of, step_work, end_record, Event, member_of, Participant, Source, Host, Opening, World, same_node, is_sound}
use Rattle.qs_world_runs.proofs.Words.{is_sound_peer, same_flag, StepMay, step_may, Every, HoldsNodeAt, HoldsUp, every_of, every_on, MakesStep, HasCast, Joined, book_in, some_same}
use Rattle.qs_packet.specs.declared.message.Message.TheVariants as messages
use Rattle.qs_node_step.specs.State.{NodeValue}
use Rattle.qs_node_step.specs.declared.event.Event.TheVariants as events
use Rattle.qs_tm.specs.Manager as tm
use Rattle.qs_tm.specs.Members as rules
use Rattle.qs_tm.specs.Outcomes as outcome_rules
use Rattle.qs_engage.specs.Nodes.{all_nodes}
use Rattle.qs_world_refine.specs.Sound.{fits_setting, in_order, is_sound_member, is_sound_part, is_sound_superior, is_whole}
use Rattle.qs_world_runs.proofs.AgreesEach.{begins_new, steady}
use Rattle.qs_world_runs.proofs.CountsOn.{AreSized, Counts, IsAheadAt, IsCastIn}
use Rattle.qs_world_runs.proofs.CountsVotes.{counts_go, ends_count}
use Rattle.qs_world_runs.proofs.FewShares.{each_found}
use Rattle.qs_world_runs.proofs.GoesSteps.{Ends, MayEnd, goes_step}
use Rattle.qs_world_runs.proofs.RecordSteps.{Resumes, begin_incarnation_makes}
use Rattle.qs_world_runs.proofs.RecordTold.{WasSo, back_self}

module _ (P : Opening → World → Type 0) (o : Opening) (world : World) (j : Joined P o world) (n stamp free : ℕ) (source : Source) (event : Event) (makes : MakesStep world n stamp source event) where
  abbrev book : BookValue
  book = book_in o world

  abbrev host : Host
  host = world.hosts n

  abbrev node : NodeValue
  node = host.node

  abbrev batch : List Record
  batch = (effects_of node event free).records

  abbrev log : Recovery
  log = recovery (host.log ++ host.waiting)

  abbrev begun : Work
  begun = begin_incarnation (work_on node free)

  its : StepMay world n source
  its = step_may world n stamp source makes.may

  at : HoldsNodeAt book world n
  at = j.held.nodes n its.low

  up : HoldsUp n book at.state host
  up = at.runs its.runs

  sound : is_sound node ≡ true
  sound = ((steady world j.shown n stamp free source event makes).sound n its.low).node

  -- what is ended is a commit that stands in the log
  listed_then : (tid : Tid) (peer : NodeNo) → tm.all_acknowledged tid peer begun.node.manager ≡ true → is_among log.committed tid ≡ true
  listed_then tid peer all = by (tm.part_of tid begun.node.manager) refl all
    where
      r : Resumes node event (work_on node free) begun
      r = begin_incarnation_makes node event (work_on node free) (back_self node.manager)

      by : (x : Option Participant) → tm.part_of tid begun.node.manager ≡ x → ◌≡◌ {A = Bool} (elim x [ None ↦ false | Some part ↦ outcome_rules.is_all_told (outcome_rules.acknowledged peer part) ]) true → is_among log.committed tid ≡ true
      by None none is = absurd (cc is)
      by (Some part) known is = let listed : part.log.listed ≡ true = (and_parts part.log.listed _ is).0 in let w : WasSo node.manager tid part = r.back tid part known (or_right part.log.prepared part.log.listed listed) in
          (up.log.knows.parts tid w.was w.known).has_commit (w.listed listed)

  module _ (t : Tid) (s : ServerNo) (low : s.0 < 7) (uncommitted : is_among log.committed t ≡ false) where
    ends : (peer : NodeNo) (tid : Tid) → Ends (Counts t s low) (counts_go t s low) peer tid begun
    ends peer tid all = by (same_tid t tid) refl
      where
        by : (b : Bool) → same_tid t tid ≡ b → Counts t s low (with_manager (tm.acknowledged tid peer) begun) (Rattle.qs_node_step.specs.Telling.end_told true tid (with_manager (tm.acknowledged tid peer) begun))
        by false far = ends_count t s low tid (with_manager (tm.acknowledged tid peer) begun) far
        by true same = absurd (cc (subst (λ (x : Tid). is_among log.committed x ≡ true) (sym (same_tid-true t tid same)) (listed_then tid peer all), uncommitted))

    may_end : (e : Event) → MayEnd (Counts t s low) (counts_go t s low) e begun
    may_end (events.Command client line label command) = tt
    may_end (events.Received peer (messages.Told tid further)) = ends peer tid
    may_end (events.Received peer messages.Hello) = tt
    may_end (events.Received peer (messages.Request tid label member number issuer op)) = tt
    may_end (events.Received peer (messages.Answered tid member number reply)) = tt
    may_end (events.Received peer (messages.AskVote tid)) = tt
    may_end (events.Received peer (messages.Covered tid up_to)) = tt
    may_end (events.Received peer (messages.VotedYes tid up_to told)) = tt
    may_end (events.Received peer (messages.VotedAbort tid cause)) = tt
    may_end (events.Received peer (messages.Tell tid outcome)) = tt
    may_end (events.Received peer (messages.Inquire tid)) = tt
    may_end events.ServeAll = tt
    may_end (events.PeerRestarted peer old new) = tt
    may_end events.Tick = tt

    pub counts : Counts t s low (work_on node free) (step_work node event free)
    counts = goes_step (Counts t s low) (counts_go t s low) node event free (begins_new world j.shown n stamp free source event makes) (may_end event)

    all_sized : AreSized t s low (work_on node free)
    all_sized = every_on (λ (e : Tid × Participant). is_sound_part node e ≡ true) (λ (e : Tid × Participant). length e.1.members ≡ 7) sized node.manager.known
        (every_of (is_sound_part node) node.manager.known (and_parts (in_order node.manager.known) _ (and_parts (fits_setting node) _ (and_parts (fits_setting node && (in_order node.manager.known && list_all (is_sound_part node) node.manager.known)) _ sound).0).1).1)
      where
        sized : (e : Tid × Participant) → is_sound_part node e ≡ true → length e.1.members ≡ 7
        sized e is =
            let first = (and_parts ((is_whole e.1 && same_flag e.1.engage.home (same_node e.0.home node.setting.node)) && (list_all (is_sound_peer node e.1) all_nodes && (list_all (is_sound_member e.1) rules.all_servers && is_sound_superior node e.1))) _ is).0 in
            let homed = (and_parts (is_whole e.1 && same_flag e.1.engage.home (same_node e.0.home node.setting.node)) _ first).0 in
            let whole = (and_parts (is_whole e.1) _ homed).0 in
            let places = (and_parts ((length e.1.engage.peers == 16) && (length e.1.members == 7)) _ whole).0 in
            eqb-true (length e.1.members) 7 (and_parts (length e.1.engage.peers == 16) (length e.1.members == 7) places).1

    -- its own batch
    pub casts : Every (IsCastIn t s low (work_on node free) (step_work node event free)) batch
    casts = subst (λ (rs : List Record). Every (IsCastIn t s low (work_on node free) (step_work node event free)) rs) (sym counts.records) (counts.votes all_sized)

    -- what the last vote covers as the step begins
    pub ahead_first : (part : Participant) → tm.part_of t node.manager ≡ Some part → part.involved ≡ true → (c : ℕ) → HasCast c (member_of part s) → IsAheadAt t s low c (member_of part s).served (work_on node free)
    ahead_first part known involved c cast = record { part = part; known = known; ahead = record { sized = (each_found (λ (e : Tid × Participant). length e.1.members ≡ 7) (is_at (tid_cmp t)) node.manager.known part all_sized known).2; involved = involved; cast = cast.cast; vote = cast.vote; least = cast.least; most = cast.most; more = le_refl (member_of part s).served } }

    pub cast_last : (c z : ℕ) → IsAheadAt t s low c z (step_work node event free) → (part : Participant) → tm.part_of t (after_step node event free).manager ≡ Some part → HasCast c (member_of part s)
    cast_last c z a part known = subst (λ (p : Participant). HasCast c (member_of p s)) (some_same (sym a.known ∙ known)) (record { cast = a.ahead.cast; vote = a.ahead.vote; least = a.ahead.least; most = a.ahead.most })
