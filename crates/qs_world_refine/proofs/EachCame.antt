-- What comes in a step of a node: what stands of a transaction that is shown goes on to stand, and its records may stand in turn.
use Rattle.qs_world_refine.proofs.Words.{◌≡◌, ℕ, ◌<◌, ◌≤◌, ◌==◌, ◌||◌, not, Bool, true, false, List, Option, Some, None, refl, sym, ap, subst, ◌∙◌, arith, if◌then◌else◌, unwrap_or, eqb-true, or_left, nat_tests, is_at, same_tid, tid_cmp, NodeNo, Tid, same_node, Message, Participant, was_committed, Work, part_of, with_manager, happen, message_came, told_at_home, told_unknown, told_known, end_told, Open, Committed, Aborted, Leads, leads_on, ShowsTold, ShowsAll, Face, node_no, face_at, outcome_seen}
use Rattle.qs_world_refine.proofs.Words.{unknown, place, Scene, scene_of, handed, sight_during, ShowsWork, same_flag, FitsMessage, begun, GoesOn, IsSteady, HasBegun, is_fit_message, IsNext, same_Some}
use Rattle.qs_base.specs.declared.identifiers.Outcome.{Outcome}
use Rattle.qs_base.specs.declared.identifiers.Outcome.TheVariants as outcomes
use Rattle.qs_engage.specs.Nodes.{has_node}
use Rattle.qs_packet.specs.declared.message.Message.TheVariants as messages
use Rattle.qs_tm.specs.Manager as tm
use Rattle.qs_tm.specs.Outcomes as outcome_rules
use Rattle.qs_node_step.specs.declared.event.Event.{Event}
use Rattle.qs_node_step.specs.declared.event.Event.TheVariants as events
use Rattle.qs_world.specs.World.{World}
use Rattle.qs_world_agree.specs.World as machine
use Rattle.qs_world_refine.proofs.HomeKnows.{knows_on}
use Rattle.qs_world_refine.proofs.Arrays.{node_put}
use Rattle.qs_world_refine.proofs.EachFits.{own_comes}
use Rattle.qs_world_refine.proofs.EachHears.{first}
use Rattle.qs_world_refine.proofs.EachTold.{takes_told}
use Rattle.qs_world_refine.proofs.Heads.{shown_here, face_is, node_is, told_commit}
use Rattle.qs_world_refine.proofs.LaterWorlds.{commit_stays, acks_on, is_committed, is_committed_cell}
use Rattle.qs_world_refine.proofs.Maps.{lookup_changed}
use Rattle.qs_world_refine.proofs.MessageCame.{message_stands}
use Rattle.qs_world_refine.proofs.SettleStands.{whole_known}
use Rattle.qs_world_refine.proofs.SoundHolds.{known_sound}
use Rattle.qs_world_refine.proofs.SoundKnown.{same_is}
use Rattle.qs_world_refine.proofs.ToldStands.{Taking, taking}
use Rattle.qs_world_refine.proofs.TurnOn.{Case}
use Rattle.qs_world_refine.proofs.TurnRecords.{MayTake}
use Rattle.qs_world_refine.proofs.TurnEvents as turn
use Rattle.qs_world_refine.proofs.TurnEvents.{MayHear}

-- what is followed through the step, with the machine as it is at the end
abbrev pub case_of : Tid → World → ℕ → Bool → machine.World → Case
case_of t world n ends f = record { tid = t; before = (world.hosts n).waiting; learns = is_committed f.cell; ends = ends; acks = f.acknowledged; was = was_committed t (world.hosts n).node }

-- what its End asks, as soon as it is appended
pub record IsEnding (t : Tid) (n q : ℕ) (v : machine.World) : Type 0 where
  pub home : n ≡ t.home.0
  pub committed : v.outcome q ≡ Committed
  pub acknowledged : (k : ℕ) → v.commit_list k ≡ true → v.acknowledged k ≡ true

pub record Came (t : Tid) (world : World) (n free : ℕ) (event : Event) (later : Scene) (w : machine.World) : Type 0 where
  pub mid : machine.World
  pub leads : Leads w mid
  pub after : GoesOn t later n (happen event (begun (world.hosts n).node free)) mid
  pub ends : Bool
  pub ended : ends ≡ true → IsEnding t n (place n (world.channels.inc n)) after.next
  pub comes : (f : machine.World) (last : Work) → Leads after.next f → ShowsWork t later n last f → turn.MayCome (case_of t world n ends f) event (begun (world.hosts n).node free)

-- ---- a message

module _ (t : Tid) (world : World) (w : machine.World) (steady : IsSteady world) (home_in : t.home.0 < world.size) (began : HasBegun world t) (all : ShowsAll t world w) (n free : ℕ) (n_in : n < world.size) (on : world.channels.up n ≡ true)
    (m i : ℕ) (message : Message) (rest : List Message) (next : IsNext (scene_of world) n m i message rest) (fit : is_fit_message world.size m n message ≡ true) (fits : FitsMessage (node_no m) message (begun (world.hosts n).node free)) where
  abbrev work : Work
  work = begun (world.hosts n).node free

  abbrev later : Scene
  later = handed (scene_of world) m i n rest

  stood : GoesOn t (scene_of world) n work w
  stood = first t world w steady home_in all n free n_in on

  -- what a Told asks at the home's node
  takes : (further : List NodeNo) → IsNext (scene_of world) n m i (messages.Told t further) rest → n ≡ t.home.0 → Rattle.qs_world_refine.specs.ToldWhole.TakesTold t (scene_of world) m further work stood.next
  takes further at here = subst (λ (k : ℕ). (up : world.channels.up k ≡ true) → (s : GoesOn t (scene_of world) k (begun (world.hosts k).node free) w) → IsNext (scene_of world) k m i (messages.Told t further) rest → Rattle.qs_world_refine.specs.ToldWhole.TakesTold t (scene_of world) m further (begun (world.hosts k).node free) s.next) (sym here)
      (λ up s at_home. takes_told t world w steady home_in began all free up s.next s.leads (scene_of world) refl refl refl s.stands m i further rest at_home) on stood at

  goes : GoesOn t later n (message_came (node_no m) message work) stood.next
  goes = message_stands t (scene_of world) n m i message rest work stood.next next fits
      (own_comes t world w steady home_in began all n free n_in on stood.next stood.leads (scene_of world) refl refl stood.stands m i rest takes message next fit) stood.stands

  -- with nothing asked of the machine at the end of the step
  plainly : ((f : machine.World) → Leads goes.next f → MayHear (case_of t world n false f) (node_no m) message work) → Came t world n free (events.Received (node_no m) message) later w
  plainly hears = record { mid = stood.next; leads = stood.leads; after = goes; ends = false; ended = λ never. absurd (cc (never)); comes = λ f last leads shown. hears f leads }

-- ---- one that tells an outcome

module _ (t : Tid) (world : World) (w : machine.World) (steady : IsSteady world) (home_in : t.home.0 < world.size) (began : HasBegun world t) (all : ShowsAll t world w) (n free : ℕ) (n_in : n < world.size) (on : world.channels.up n ≡ true)
    (m i : ℕ) (rest : List Message) where
  abbrev its_work : Work
  its_work = begun (world.hosts n).node free

  its_stood : GoesOn t (scene_of world) n its_work w
  its_stood = first t world w steady home_in all n free n_in on

  tells : (tid : Tid) (outcome : Outcome) → IsNext (scene_of world) n m i (messages.Tell tid outcome) rest → (f : machine.World) → Leads its_stood.next f → MayTake (case_of t world n false f) tid outcome its_work
  tells tid outcome next f leads same away commit = is_committed_cell f (commit_stays its_stood.next f its_stood.stands.lawful leads
      (told_commit t (scene_of world) n its_work its_stood.next its_stood.stands m i (messages.Tell t outcomes.Commit) rest
      (subst (λ (o : Outcome). IsNext (scene_of world) n m i (messages.Tell t o) rest) commit (subst (λ (u : Tid). IsNext (scene_of world) n m i (messages.Tell u outcome) rest) (sym (same_is t tid same)) next)) refl))

  -- a Told at the home's node, which knows the commit
  module _ (further : List NodeNo) (next : IsNext (scene_of world) n m i (messages.Told t further) rest) (fits : FitsMessage (node_no m) (messages.Told t further) its_work) (here : n ≡ t.home.0) (part : Participant) (known : part_of t its_work ≡ Some part)
      (committed : part.outcome ≡ Some outcomes.Commit) where
    abbrev told_message : Message
    told_message = messages.Told t further

    record Took (k : ℕ) (v : machine.World) : Type 0 where
      going : GoesOn t (handed (scene_of world) m i k rest) k (message_came (node_no m) told_message (begun (world.hosts k).node free)) v
      told : tm.all_acknowledged t (node_no m) (begun (world.hosts k).node free).node.manager ≡ false → ShowsTold t (message_came (node_no m) told_message (begun (world.hosts k).node free)) going.next
      ended : tm.all_acknowledged t (node_no m) (begun (world.hosts k).node free).node.manager ≡ true → (j : ℕ) → going.next.commit_list j ≡ true → going.next.acknowledged j ≡ true

    took : Took n its_stood.next
    took = subst (λ (k : ℕ). (up : world.channels.up k ≡ true) → (s : GoesOn t (scene_of world) k (begun (world.hosts k).node free) w) → IsNext (scene_of world) k m i (messages.Told t further) rest → FitsMessage (node_no m) (messages.Told t further) (begun (world.hosts k).node free)
        → part_of t (begun (world.hosts k).node free) ≡ Some part → Took k s.next) (sym here)
        (λ up s at_home fit known_home. let took_in : Taking t (scene_of world) m i further rest (begun (world.hosts t.home.0).node free) s.next = taking t (scene_of world) m i further rest (begun (world.hosts t.home.0).node free) s.next at_home fit
        (takes_told t world w steady home_in began all free up s.next s.leads (scene_of world) refl refl refl s.stands m i further rest at_home) s.stands part known_home committed in
        record { going = took_in.on; told = took_in.told; ended = took_in.ended }) on its_stood next fits known

    is_home : part.engage.home ≡ true
    is_home = flag part.engage.home (same_node t.home its_work.node.setting.node) (ap (λ (k : NodeNo). same_node t.home k) its_stood.stands.at.node ∙ grind (arith, nat_tests, here)) (known_sound t its_work.node part known its_stood.stands.sound).homed
      where
        flag : (a b : Bool) → b ≡ true → same_flag a b ≡ true → a ≡ true
        flag true b so both = refl
        flag false b so both = absurd (let off : not b ≡ false = rw so refl in cc (off, both))

    -- the home's place knows it, and keeps to it
    place_knows : its_stood.next.outcome (place n (world.channels.inc n)) ≡ Committed
    place_knows = (shown_here t (scene_of world) n its_work its_stood.next its_stood.stands).outcome ∙ (ap (λ (f : Face). f.outcome) (face_is t (scene_of world) n its_work its_stood.next its_stood.stands part known)
        ∙ (ap (λ (o : Option Outcome). outcome_seen o (part.engage.home || part.involved)) committed ∙ told_seen (part.engage.home || part.involved) (or_left part.engage.home part.involved is_home)))
      where
        told_seen : (b : Bool) → b ≡ true → outcome_seen (Some outcomes.Commit) b ≡ Committed
        told_seen b so = rw so refl

    later_knows : took.going.next.outcome (place n (world.channels.inc n)) ≡ Committed
    later_knows = (knows_on its_stood.next took.going.next (place n (world.channels.inc n)) its_stood.stands.lawful took.going.leads (record { at_home = home_node; committed = place_knows })).committed
      where
        home_node : its_stood.next.node (place n (world.channels.inc n)) ≡ its_stood.next.node its_stood.next.home
        home_node = node_is t (scene_of world) n its_work its_stood.next its_stood.stands ∙ (here ∙ sym (ap its_stood.next.node its_stood.stands.shown.stage.home ∙ its_stood.stands.shown.stage.nodes t.home.0 t.inc home_in))

    abbrev handed_on : Scene
    handed_on = handed (scene_of world) m i n rest

    -- the acknowledgement that came is the machine's, at the end of the step too
    acked_then : tm.all_acknowledged t (node_no m) its_work.node.manager ≡ false → (f : machine.World) (last : Work) → Leads took.going.next f → ShowsWork t handed_on n last f → f.acknowledged m ≡ true
    acked_then still f last leads shown = acks_on t (sight_during t handed_on n (message_came (node_no m) told_message its_work)) (sight_during t handed_on n last) took.going.next f home_in home_in refl took.going.stands.shown.stage shown.stage leads m (took.told still m has)
      where
        home_node : same_node t.home its_work.node.setting.node ≡ true
        home_node = ap (λ (k : NodeNo). same_node t.home k) its_stood.stands.at.node ∙ grind (arith, nat_tests, here)

        came_is : message_came (node_no m) told_message its_work ≡ with_manager (tm.acknowledged t (node_no m)) its_work
        came_is = ap (λ (b : Bool). if b then told_at_home (node_no m) t further its_work else its_work) home_node
            ∙ (ap (λ (o : Option Participant). elim o [ None ↦ told_unknown (node_no m) t further its_work | Some part ↦ told_known (node_no m) t further part.outcome its_work ]) known
            ∙ (ap (λ (o : Option Outcome). told_known (node_no m) t further o its_work) committed
            ∙ ap (λ (b : Bool). end_told b t (with_manager (tm.acknowledged t (node_no m)) its_work)) still))

        then_known : part_of t (with_manager (tm.acknowledged t (node_no m)) its_work) ≡ Some (outcome_rules.acknowledged (node_no m) part)
        then_known = lookup_changed (is_at (tid_cmp t)) (outcome_rules.acknowledged (node_no m)) its_work.node.manager.known part known

        low : m < 16
        low = below m world.size next.from.in_run its_stood.stands.shown.stage.small
          where
            below : (a b : ℕ) → a < b → b ≤ 16 → a < 16
            below a b less most = omega (arith, less, most)

        has : (face_at (message_came (node_no m) told_message its_work).node t).acknowledged m ≡ true
        has = ap (λ (k : Work). (face_at k.node t).acknowledged m) came_is
            ∙ (ap (λ (o : Option Participant). has_node (unwrap_or o (unknown (with_manager (tm.acknowledged t (node_no m)) its_work).node t)).acknowledged (node_no m)) then_known
            ∙ (node_put m m part.acknowledged (rw (whole_known t (scene_of world) n its_work its_stood.next its_stood.stands part known).whole.acknowledged low) ∙ picked (m == m) (grind (arith, nat_tests))))
          where
            picked : (b : Bool) → b ≡ true → (if b then true else has_node part.acknowledged (node_no m)) ≡ true
            picked b is = rw is refl

    pub came_taking : Came t world n free (events.Received (node_no m) told_message) handed_on w
    came_taking = record {
      mid = its_stood.next;
      leads = its_stood.leads;
      after = took.going;
      ends = tm.all_acknowledged t (node_no m) its_work.node.manager;
      ended = λ all_told. record { home = here; committed = later_knows; acknowledged = took.ended all_told };
      comes = λ f last leads shown. record {
        acks = λ same at p its commit still. acked_then still f last leads shown;
        ends = λ same at p its commit all_told. all_told;
      };
    }

-- ---- whatever the message is

module _ (t : Tid) (world : World) (w : machine.World) (steady : IsSteady world) (home_in : t.home.0 < world.size) (began : HasBegun world t) (all : ShowsAll t world w) (n free : ℕ) (n_in : n < world.size) (on : world.channels.up n ≡ true)
    (m i : ℕ) (rest : List Message) where
  abbrev Arrives : Message → Type 0
  Arrives message = IsNext (scene_of world) n m i message rest → is_fit_message world.size m n message ≡ true → FitsMessage (node_no m) message (begun (world.hosts n).node free) → Came t world n free (events.Received (node_no m) message) (handed (scene_of world) m i n rest) w

  quietly : (message : Message) → ((f : machine.World) → MayHear (case_of t world n false f) (node_no m) message (begun (world.hosts n).node free)) → Arrives message
  quietly message hears next fit fits = plainly t world w steady home_in began all n free n_in on m i message rest next fit fits (λ f leads. hears f)

  -- a Told of the transaction
  told_own : (further : List NodeNo) → Arrives (messages.Told t further)
  told_own further next fit fits = by (t.home.0 == n) refl (part_of t (begun (world.hosts n).node free)) refl
    where
      work : Work
      work = begun (world.hosts n).node free

      at_work : same_node t.home (begun (world.hosts n).node free).node.setting.node ≡ (t.home.0 == n)
      at_work = ap (λ (k : NodeNo). same_node t.home k) (first t world w steady home_in all n free n_in on).stands.at.node

      -- the node is not the home's, or does not know the commit
      unasked : ((at : same_node t.home (begun (world.hosts n).node free).node.setting.node ≡ true) (part : Participant) → part_of t (begun (world.hosts n).node free) ≡ Some part → part.outcome ≡ Some outcomes.Commit → ⊥) → Came t world n free (events.Received (node_no m) (messages.Told t further)) (handed (scene_of world) m i n rest) w
      unasked never = plainly t world w steady home_in began all n free n_in on m i (messages.Told t further) rest next fit fits
          (λ f leads. record { acks = λ same at part known commit still. absurd (never at part known commit); ends = λ same at part known commit told. absurd (never at part known commit) })

      at_home : n ≡ t.home.0 → (part : Participant) → part_of t (begun (world.hosts n).node free) ≡ Some part → (o : Option Outcome) → part.outcome ≡ o → Came t world n free (events.Received (node_no m) (messages.Told t further)) (handed (scene_of world) m i n rest) w
      at_home here part known (Some outcomes.Commit) committed = came_taking t world w steady home_in began all n free n_in on m i rest further next fits here part known committed
      at_home here part known (Some outcomes.Abort) aborted = unasked (λ at p its commit. let same : part ≡ p = same_Some part p (sym known ∙ its) in let both : Some outcomes.Abort ≡ Some outcomes.Commit = sym aborted ∙ (ap (λ (x : Participant). x.outcome) same ∙ commit) in cc (both))
      at_home here part known None open_now = unasked (λ at p its commit. let same : part ≡ p = same_Some part p (sym known ∙ its) in let both : None ≡ Some outcomes.Commit = sym open_now ∙ (ap (λ (x : Participant). x.outcome) same ∙ commit) in cc (both))

      by : (b : Bool) → (t.home.0 == n) ≡ b → (o : Option Participant) → part_of t (begun (world.hosts n).node free) ≡ o → Came t world n free (events.Received (node_no m) (messages.Told t further)) (handed (scene_of world) m i n rest) w
      by false away o known = unasked (λ at p its commit. let off : same_node t.home (begun (world.hosts n).node free).node.setting.node ≡ false = at_work ∙ away in cc (at, off))
      by true here None none = unasked (λ at p its commit. let both : None ≡ Some p = sym none ∙ its in cc (both))
      by true here (Some part) known = at_home (sym (eqb-true t.home.0 n here)) part known part.outcome refl

  pub message_arrives : (message : Message) → Arrives message
  unfolding its_stood stood
  message_arrives messages.Hello = quietly messages.Hello (λ f. tt)
  message_arrives (messages.Request tid label member number issuer op) = quietly (messages.Request tid label member number issuer op) (λ f. tt)
  message_arrives (messages.Answered tid member number reply) = quietly (messages.Answered tid member number reply) (λ f. tt)
  message_arrives (messages.AskVote tid) = quietly (messages.AskVote tid) (λ f. tt)
  message_arrives (messages.Covered tid up_to) = quietly (messages.Covered tid up_to) (λ f. tt)
  message_arrives (messages.VotedYes tid up_to told) = quietly (messages.VotedYes tid up_to told) (λ f. tt)
  message_arrives (messages.VotedAbort tid cause) = quietly (messages.VotedAbort tid cause) (λ f. tt)
  message_arrives (messages.Inquire tid) = quietly (messages.Inquire tid) (λ f. tt)
  message_arrives (messages.Tell tid outcome) = λ next fit fits. plainly t world w steady home_in began all n free n_in on m i (messages.Tell tid outcome) rest next fit fits
      (λ f leads. tells t world w steady home_in began all n free n_in on m i rest tid outcome next f (leads_on _ _ _ (goes t world w steady home_in began all n free n_in on m i (messages.Tell tid outcome) rest next fit fits).leads leads))
  message_arrives (messages.Told tid further) = by (same_tid t tid) refl
    where
      by : (b : Bool) → same_tid t tid ≡ b → Arrives (messages.Told tid further)
      by true same = subst (λ (u : Tid). Arrives (messages.Told u further)) (same_is t tid same) (told_own further)
      by false apart = λ next fit fits. plainly t world w steady home_in began all n free n_in on m i (messages.Told tid further) rest next fit fits
          (λ f leads. record { acks = λ same at part known commit still. absurd (cc (same, apart)); ends = λ same at part known commit told. absurd (cc (same, apart)) })
