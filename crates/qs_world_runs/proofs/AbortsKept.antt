-- A node keeps that a transaction is aborted as long as it runs, and keeps it of each whose records a step ends by an Aborted.
use Rattle.qs_world_runs.proofs.Words.{◌≡◌, ℕ, ◌==◌, ◌&&◌, ◌||◌, not, Bool, true, false, List, [], ◌∷◌, ◌++◌, Option, Some, None, refl, sym, ap, subst, ◌∙◌, list_any-append, list_any, same_tid, same_tid-true, same_tid-self, Tid, Nodes, Command, Message, Record, Work, work_on, after_step, effects_of, step_work, Event, Participant, Source, World, BeginsNew, IsShownWorld, is_sound, is_aborted_of, is_end_of, MakesStep, is_prepare_at, or_right, and_first}
use Rattle.qs_base.specs.declared.identifiers.Outcome.{Outcome}
use Rattle.qs_base.specs.declared.identifiers.Outcome.TheVariants as outcomes
use Rattle.qs_book_journal.specs.declared.script_line.Command.TheVariants as commands
use Rattle.qs_packet.specs.declared.message.Message.TheVariants as messages
use Rattle.qs_record.specs.declared.record.Record.TheVariants as made
use Rattle.qs_node_step.specs.State.{NodeValue}
use Rattle.qs_node_step.specs.declared.event.Event.TheVariants as events
use Rattle.qs_tm.specs.Manager as tm
use Rattle.qs_world_refine.specs.JoinLaws.{are_in_turn, is_forced_of, is_loose_of}
use Rattle.qs_world_refine.specs.SoundSteps.{begun}
use Rattle.qs_world_refine.proofs.TurnEvents.{MayCome, MayHear, step_on}
use Rattle.qs_world_refine.proofs.TurnOn.{Case, NoLoose, Turned, became, fate_at, fate_found, none_loose, same_outcome}
use Rattle.qs_world_refine.proofs.TurnSettles.{begin_incarnation_on}
use Rattle.qs_world_runs.specs.OnRecord.{KeepsAbort}
use Rattle.qs_world_runs.proofs.AgreesEach.{begins_new, low, may, steady}

-- ---- one transaction is followed, where it may be learnt, acknowledged and ended

abbrev case : Tid → List Record → Bool → Case
case t before ends = record { tid = t; before = before; learns = true; ends = ends; acks = λ m. true; was = true }

-- it ends only as a message comes
abbrev is_message : Event → Bool
is_message (events.Received peer message) = true
is_message event = false

hears : (t : Tid) (before : List Record) (message : Message) (peer : _) (work : Work) → MayHear (case t before true) peer message work
hears t before (messages.Tell tid outcome) peer work = λ same away commit. refl
hears t before (messages.Told tid further) peer work = record { acks = λ same at part known committed off. refl; ends = λ same at part known committed all. refl }
hears t before message peer work = tt

-- what begins is new, and no record of it was made
unloosed : (t : Tid) (before : List Record) (work : Work) → list_any (is_end_of t) before ≡ false → Turned (case t before false) work → fate_at t work.node ≡ None → NoLoose (case t before false) work.out.records
unloosed t before work unended turned none = none_loose t (before ++ work.out.records) (no_abort (list_any (is_aborted_of t) (before ++ work.out.records)) refl) (list_any-append (is_end_of t) before work.out.records ∙ rw unended (no_end (list_any (is_end_of t) work.out.records) refl))
  where
    no_abort : (b : Bool) → list_any (is_aborted_of t) (before ++ work.out.records) ≡ b → b ≡ false
    no_abort false is = refl
    no_abort true is = let known = turned.aborted is in absurd (never known.0 (sym none ∙ known.1))
      where
        never : (acks : Nodes) → None ≡ became (Some outcomes.Abort) acks → ⊥
        never acks e = cc e

    no_end : (b : Bool) → list_any (is_end_of t) work.out.records ≡ b → list_any (is_end_of t) work.out.records ≡ false
    no_end false is = is
    no_end true is = absurd (let e : false ≡ true = turned.ends is in cc e)

comes : (t : Tid) (before : List Record) (event : Event) (work : Work) → list_any (is_end_of t) before ≡ false → BeginsNew event work → Turned (case t before (is_message event)) work → MayCome (case t before (is_message event)) event work
comes t before (events.Received peer message) work unended new turned = hears t before message peer work
comes t before events.ServeAll work unended new turned = tt
comes t before (events.PeerRestarted peer old now) work unended new turned = tt
comes t before events.Tick work unended new turned = tt
comes t before (events.Command client line label command) work unended new turned = by command new
  where
    clash : (c : Command) → (c ≡ commands.Begin → ⊥) → c ≡ commands.Begin → (same_tid t (tm.next_tid work.node.manager) ≡ true → NoLoose (case t before false) work.out.records × (fate_at t work.node ≡ None))
    clash c apart is = absurd (apart is)

    by : (c : Command) → BeginsNew (events.Command client line label c) work → c ≡ commands.Begin → (same_tid t (tm.next_tid work.node.manager) ≡ true → NoLoose (case t before false) work.out.records × (fate_at t work.node ≡ None))
    by commands.Begin unknown is = λ same. let none : fate_at t work.node ≡ None = ap fate_found (subst (λ (u : Tid). tm.part_of u work.node.manager ≡ None) (sym (same_tid-true t (tm.next_tid work.node.manager) same)) unknown) in (unloosed t before work unended turned none, none)
    by commands.Commit unknown is = clash commands.Commit (λ e. cc e) is
    by commands.Abort unknown is = clash commands.Abort (λ e. cc e) is
    by commands.Take unknown is = clash commands.Take (λ e. cc e) is
    by commands.Yield unknown is = clash commands.Yield (λ e. cc e) is
    by (commands.Request member op) unknown is = clash (commands.Request member op) (λ e. cc e) is

-- ---- what became of it

pub kept_of : (t : Tid) (node : NodeValue) (acks : Nodes) → fate_at t node ≡ became (Some outcomes.Abort) acks → KeepsAbort node.manager t
kept_of t node acks is = by (tm.part_of t node.manager) refl
  where
    by : (o : Option Participant) → tm.part_of t node.manager ≡ o → KeepsAbort node.manager t
    by None none = absurd (never (sym (ap fate_found none) ∙ is))
      where
        never : None ≡ became (Some outcomes.Abort) acks → ⊥
        never e = cc e
    by (Some part) known = record { part = part; known = known; aborted = same_outcome part.outcome (Some outcomes.Abort) part.acknowledged acks (sym (ap fate_found known) ∙ is) }

in_turn : (b : Bool) → ((not b || true) && true) ≡ true
in_turn true = refl
in_turn false = refl

-- as the step begins
turned_none : (t : Tid) (ends : Bool) (node : NodeValue) (free : ℕ) → Turned (case t [] ends) (work_on node free)
turned_none t ends node free = record {
  aborted = λ is. absurd (cc is);
  ended = λ is. absurd (cc is);
  ends = λ is. absurd (cc is);
  turn = refl;
  learnt = λ away acks is. refl;
  acked = λ o acks is m has. refl;
}

turned_aborted : (t : Tid) (ends : Bool) (node : NodeValue) (free : ℕ) → KeepsAbort node.manager t → Turned (case t (made.Aborted t ∷ []) ends) (work_on node free)
turned_aborted t ends node free kept = record {
  aborted = λ is. (kept.part.acknowledged, ap fate_found kept.known ∙ ap (λ (o : Option Outcome). became o kept.part.acknowledged) kept.aborted);
  ended = λ is. absurd (cc is);
  ends = λ is. absurd (cc is);
  turn = in_turn _;
  learnt = λ away acks is. refl;
  acked = λ o acks is m has. refl;
}

-- ---- a whole step

module _ (world : World) (is : IsShownWorld world) (n stamp free : ℕ) (source : Source) (event : Event) (makes : MakesStep world n stamp source event) (t : Tid) where
  abbrev node : NodeValue
  node = (world.hosts n).node

  sound : is_sound node ≡ true
  sound = ((steady world is n stamp free source event makes).sound n (low world is n stamp free source event makes)).node

  goes : (before : List Record) → list_any (is_end_of t) before ≡ false → Turned (case t before (is_message event)) (work_on node free) → Turned (case t before (is_message event)) (step_work node event free)
  goes before unended turned = (step_on {k = case t before (is_message event)} node event free (may world is n stamp free source event makes)
      (comes t before event (begun node free) unended (begins_new world is n stamp free source event makes) ((begin_incarnation_on {k = case t before (is_message event)} (work_on node free)).goes turned)) sound).goes turned

  -- of what a step ends by an Aborted
  pub aborted_kept : list_any (is_aborted_of t) (effects_of node event free).records ≡ true → KeepsAbort (after_step node event free).manager t
  aborted_kept has = let its = (goes [] refl (turned_none t (is_message event) node free)).aborted has in kept_of t (step_work node event free).node its.0 its.1

  -- and of what it kept it of
  pub abort_stays : KeepsAbort node.manager t → KeepsAbort (after_step node event free).manager t
  abort_stays kept = let its = (goes (made.Aborted t ∷ []) refl (turned_aborted t (is_message event) node free kept)).aborted (rw (same_tid-self t) refl) in kept_of t (step_work node event free).node its.0 its.1

  -- so it votes no more
  pub unvoted : KeepsAbort node.manager t → (s : ℕ) → list_any (is_prepare_at t s) (effects_of node event free).records ≡ true → ⊥
  unvoted kept s put = let turn = (goes (made.Aborted t ∷ []) refl (turned_aborted t (is_message event) node free kept)).turn in let off = none_forced turn in cc (off, forced s (effects_of node event free).records put)
    where
      none_forced : are_in_turn t (made.Aborted t ∷ (effects_of node event free).records) ≡ true → list_any (is_forced_of t) (effects_of node event free).records ≡ false
      none_forced turn = of (is_loose_of t (made.Aborted t)) (list_any (is_forced_of t) (effects_of node event free).records) _ (rw (same_tid-self t) refl) turn
        where
          of : (a b c : Bool) → a ≡ true → ((not a || not b) && c) ≡ true → b ≡ false
          of true false c is turn = refl
          of true true c is turn = absurd (cc turn)
          of false b c is turn = absurd (cc is)

      one : (s : ℕ) (rec : Record) → is_prepare_at t s rec ≡ true → is_forced_of t rec ≡ true
      one s (made.Prepare tid server covers changes) is = rw (turned (and_first (same_tid tid t) (server.0 == s) is)) refl
        where
          turned : same_tid tid t ≡ true → same_tid t tid ≡ true
          turned same = subst (λ (x : Tid). same_tid t x ≡ true) (sym (same_tid-true tid t same)) (same_tid-self t)
      one s (made.Commit tid told) is = absurd (cc is)
      one s (made.Aborted tid) is = absurd (cc is)
      one s (made.End tid) is = absurd (cc is)

      forced : (s : ℕ) (rs : List Record) → list_any (is_prepare_at t s) rs ≡ true → list_any (is_forced_of t) rs ≡ true
      forced s [] some = absurd (cc some)
      forced s (rec ∷ rs) some = by (is_prepare_at t s rec) refl some (forced s rs)
        where
          by : (b : Bool) → is_prepare_at t s rec ≡ b → (b || list_any (is_prepare_at t s) rs) ≡ true → (list_any (is_prepare_at t s) rs ≡ true → list_any (is_forced_of t) rs ≡ true) → (is_forced_of t rec || list_any (is_forced_of t) rs) ≡ true
          by true now more rest = rw (one s rec now) refl
          by false far more rest = or_right (is_forced_of t rec) (list_any (is_forced_of t) rs) (rest more)
