-- What the log of a home that is down has committed stays unanimous through a step of another node: once it is committed nobody has anything of it open.
use Rattle.qs_world_runs.proofs.Words.{◌≡◌, ◌⊎◌, inl, inr, ℕ, ◌<◌, ◌==◌, ◌&&◌, ◌||◌, ◌++◌, Bool, true, false, List, [], ◌∷◌, Option, Some, None, is_some, refl, sym, ap, subst, ◌∙◌, arith, if◌then◌else◌, eqb-true, and_parts, nat_tests, is_at, list_all, list_any, lookup, unwrap_or, same_tid, Class, Tid, Act, Entry, life_equal, BookValue, find_transaction, is_among, TransactionValue, agrees, agrees_in, is_unanimous, life_cmp, no_part, Life, Part, class_of, recovery, after_step, effects_of, Event}
use Rattle.qs_world_runs.proofs.Words.{is_undecided, Participant, book_of, opened_from, Move, Source, Step, moved, step_with, stepped_host, entries_of, Host, Opening, World, IsDoomed, Committed, ShowsAll, ShowsFace, face_at, outcome_of, place, IsShownWorld, is_sound, invariant, each_begun_shown, move_shown, steady, HoldsStill, Lasts, Every, goes_aside, opens_soundly, in_runs, lasts_first, lasts_ran, LastsWell, opened_numbered, opening_named, still_held, MakesStep, Joined, book_in, entries_in}
use Rattle.qs_world_runs.proofs.Words.{book_then, PlacedOf, PlacesAt, IsLife, IsPresent, Placed, field_of, apart_turned}
use Rattle.qs_base.specs.declared.identifiers.Class.TheVariants as classes
use Rattle.qs_base.specs.declared.identifiers.Outcome.{Outcome}
use Rattle.qs_base.specs.declared.identifiers.Outcome.TheVariants as outcomes
use Rattle.qs_ipc.specs.Ipc as ipc
use Rattle.qs_book_machine.specs.Lawful.{IsLawful}
use Rattle.qs_book_machine.specs.Transaction.{is_open}
use Rattle.qs_node_step.specs.State.{NodeValue}
use Rattle.qs_tm.specs.Manager as tm
use Rattle.qs_tm.specs.Outcomes.{is_abort}
use Rattle.qs_world_agree.specs.Carry as agreement
use Rattle.qs_world_agree.specs.World as machine
use Rattle.qs_world_refine.specs.Begun.{has_begun}
use Rattle.qs_world_refine.specs.NodeFaces.{unknown}
use Rattle.qs_world_refine.specs.Sound.{may_be_served}
use Rattle.qs_world_refine.proofs.BegunStays.{begun_stays}
use Rattle.qs_world_refine.proofs.CommitIdles.{commit_idle}
use Rattle.qs_world_refine.proofs.ShownMoves.{shown_gives}
use Rattle.qs_world_refine.proofs.SoundKnown.{nothing_waits}
use Rattle.qs_world_lawful.proofs.AsideGoes.{GoesAside}
use Rattle.qs_world_runs.specs.PlacedLaws.{IsFree, IsQuiet}
use Rattle.qs_world_runs.specs.PlacesLaws.{StepsStayUnanimous}
use Rattle.qs_world_runs.proofs.CommitsPlaced.{committed_free, committed_keeps, committed_ways, none_decided}
use Rattle.qs_world_runs.proofs.FreeLives.{free_agrees}
use Rattle.qs_world_runs.proofs.JoinedParts.{book_on, lawful_on}
use Rattle.qs_world_runs.proofs.JoinedSteps.{step_holds, step_journal, step_low}
use Rattle.qs_world_runs.proofs.PlacesBegin.{begun_down}
use Rattle.qs_world_runs.proofs.PlacesSteps.{steps_keep_places}
use Rattle.qs_world_runs.proofs.Quiets.{quiet_unanimous}
use Rattle.qs_world_runs.proofs.WholeSteps.{whole_steps}

-- ---- once commit is decided no request waits at a node, whatever it knows

committed_waits : (tid : Tid) (node : NodeValue) (q : ℕ) (w : machine.World) → agreement.IsLawful w → w.cell ≡ Committed → ShowsFace (face_at node tid) q w → is_sound node ≡ true → ipc.waits tid node.queues ≡ false
committed_waits tid node q w lawful committed face sound = by (tm.part_of tid node.manager) refl
  where
    of_outcome : (part : Participant) → tm.part_of tid node.manager ≡ Some part → (o : Option Outcome) → part.outcome ≡ o → ipc.waits tid node.queues ≡ false
    of_outcome part known None none = (commit_idle tid node q w lawful committed face sound (λ other its. ap (λ (x : Option Participant). elim x [ None ↦ None | Some p ↦ p.outcome ]) (sym its ∙ known) ∙ none)).waits
    of_outcome part known (Some outcomes.Commit) is = nothing_waits node tid served sound
      where
        undecided : (is_undecided part || is_abort part.outcome) ≡ false
        undecided = rw is refl

        served : may_be_served node tid ≡ false
        served = ap (λ (x : Option Participant). elim x [ None ↦ false | Some p ↦ is_undecided p || is_abort p.outcome ]) known ∙ undecided
    of_outcome part known (Some outcomes.Abort) is = absurd (let aborted : w.cell ≡ machine.Aborted = lawful.agreed.knows_abort q (face.outcome ∙ seen) in cc (committed, aborted))
      where
        its : outcome_of part ≡ machine.Aborted
        its = rw is refl

        seen : (face_at node tid).outcome ≡ machine.Aborted
        seen = ap (λ (x : Option Participant). outcome_of (unwrap_or x (unknown node tid))) known ∙ its

    by : (o : Option Participant) → tm.part_of tid node.manager ≡ o → ipc.waits tid node.queues ≡ false
    by None none = nothing_waits node tid served sound
      where
        served : may_be_served node tid ≡ false
        served = ap (λ (x : Option Participant). elim x [ None ↦ false | Some p ↦ is_undecided p || is_abort p.outcome ]) none
    by (Some part) known = of_outcome part known part.outcome refl

-- ---- each life of what is unanimous agrees

life_agrees : (l : Life) (parts : List (Life × Part)) → list_all agrees parts ≡ true → agrees (l, unwrap_or (lookup (is_at (life_cmp l)) parts) no_part) ≡ true
life_agrees l [] all = of (class_of l.member.server.0)
  where
    of : (c : Class) → agrees_in c no_part ≡ true
    of classes.Recoverable = refl
    of classes.Volatile = refl
    of classes.Activity = refl
    of classes.Immediate = refl
    of classes.Standard = refl
    of classes.Delayed = refl
life_agrees l (e ∷ parts) all = by (is_at (life_cmp l) e.0) refl (life_agrees l parts both.1)
  where
    both : (agrees e ≡ true) × (list_all agrees parts ≡ true)
    both = and_parts (agrees e) (list_all agrees parts) all

    by : (b : Bool) → is_at (life_cmp l) e.0 ≡ b → agrees (l, unwrap_or (lookup (is_at (life_cmp l)) parts) no_part) ≡ true → agrees (l, unwrap_or (lookup (is_at (life_cmp l)) (e ∷ parts)) no_part) ≡ true
    by true is more = rw is (subst (λ (k : Life). agrees (k, e.1) ≡ true) (sym (Rattle.qs_world_runs.proofs.Entries.at_exact life_cmp life_equal l e.0 is)) both.0)
    by false is more = rw is more

-- ---- the step

module _ (o : Opening) (world : World) (j : Joined PlacesAt o world) (n stamp free : ℕ) (source : Source) (event : Event) (makes : MakesStep world n stamp source event) (lawful : IsLawful (book_in o world) (entries_in world n stamp free event)) where
  abbrev move : Move
  move = Step n stamp free source

  abbrev new : World
  new = moved move world

  abbrev book : BookValue
  book = book_in o world

  abbrev entries : List Entry
  entries = entries_in world n stamp free event

  abbrev now : BookValue
  now = book_then o world n stamp free event

  journal : new.journal ≡ world.journal ++ entries
  journal = step_journal PlacesAt whole_steps o world j n stamp free source event makes

  book_now : book_in o new ≡ now
  book_now = book_on o world new entries journal

  lawful_new : IsLawful (book_of o) new.journal
  lawful_new = lawful_on o world new entries journal j.lawful lawful

  places : PlacesAt o new
  places = steps_keep_places o world move tt j makes.may lawful_new

  shown : IsShownWorld new
  shown = move_shown world move makes.may j.shown (each_begun_shown world move makes.may j.shown)

  lasts : Lasts book
  lasts = in_runs o world.journal j.opens j.lawful

  well : LastsWell book
  well = lasts_ran world.journal (book_of o) (lasts_first (opened_from o 0 o.size) (opens_soundly o j.opens) (opening_named (opened_from o 0 o.size) (opened_numbered o 0 o.size))) j.lawful

  sized : new.size ≡ world.size
  sized = ap (λ (e : Option Event). (step_with world n stamp free source e).size) makes.comes

  host_at : (k : ℕ) → (k == n) ≡ false → new.hosts k ≡ world.hosts k
  host_at k far = ap (λ (e : Option Event). (step_with world n stamp free source e).hosts k) makes.comes ∙ picked (k == n) far
    where
      picked : (b : Bool) → b ≡ false → (if b then stepped_host stamp (after_step (world.hosts n).node event free) (effects_of (world.hosts n).node event free) (world.hosts n) else world.hosts k) ≡ world.hosts k
      picked b is = rw is refl

  own_node : (new.hosts n).node ≡ after_step (world.hosts n).node event free
  own_node = ap (λ (e : Option Event). ((step_with world n stamp free source e).hosts n).node) makes.comes ∙ picked (n == n) (grind (arith, nat_tests))
    where
      picked : (b : Bool) → b ≡ true → (if b then stepped_host stamp (after_step (world.hosts n).node event free) (effects_of (world.hosts n).node event free) (world.hosts n) else world.hosts n).node ≡ after_step (world.hosts n).node event free
      picked b is = rw is refl

  own : HoldsStill now (new.hosts n).node
  own = subst (HoldsStill now) (sym own_node) (still_held stamp now (after_step (world.hosts n).node event free) (step_holds PlacesAt whole_steps o world j n stamp free source event makes))

  others : (k : ℕ) → (k == n) ≡ false → Every (λ (entry : Entry). (entry.node.0 == k) ≡ false) entries
  others k far = all (effects_of (world.hosts n).node event free).entries
    where
      all : (acts : List Act) → Every (λ (entry : Entry). (entry.node.0 == k) ≡ false) (entries_of n stamp acts)
      all [] = tt
      all (act ∷ acts) = (apart_turned k n far, all acts)

  module _ (tid : Tid) (tx later : TransactionValue) (found : find_transaction book tid ≡ Some tx) (found_later : find_transaction now tid ≡ Some later) where
    some_is : {x y : TransactionValue} → Some x ≡ Some y → x ≡ y
    some_is e = cc e

    aside : (k : ℕ) → (k == n) ≡ false → GoesAside k tid tx later
    aside k far = let p = goes_aside k entries book well lawful (others k far) tid tx found in subst (λ (x : TransactionValue). GoesAside k tid tx x) (some_is (sym p.1 ∙ found_later)) p.2

    module _ (far : (tid.home.0 == n) ≡ false) (low : tid.home.0 < world.size) (off : world.channels.up tid.home.0 ≡ false) (among : is_among (recovery (world.hosts tid.home.0).log).committed tid ≡ true) (undecided : is_open tx.cell ≡ true) (unanimous : is_unanimous tx ≡ true) where
      two : (a b : Bool) → (a && b) ≡ true → (a ≡ true) × (b ≡ true)
      two true b is = (refl, is)
      two false b is = absurd (cc is)

      has : has_begun world tid ≡ true
      has = begun_down book world lasts j.held tid tx found undecided low off

      p : PlacedOf tid o new
      p = places tid (begun_stays tid world move makes.may (shown_gives world move makes.may j.shown) j.shown.steady has)

      abbrev v : machine.World
      v = p.machine

      all : ShowsAll tid new v
      all = p.shows

      -- its home's log has the Commit still
      committed : v.cell ≡ Committed
      committed = (invariant v all.seen.lawful).outcomes.logged ((all.seen.shown.logs tid.home.0 (subst (λ (s : ℕ). tid.home.0 < s) (sym sized) low)).committed refl ∙ (ap (λ (h : Host). list_any (same_tid tid) (recovery h.log).committed) (host_at tid.home.0 far) ∙ among))

      still_open : is_open later.cell ≡ true
      still_open = ap is_open ((aside tid.home.0 far).cell refl) ∙ undecided

      asked : is_some later.asked ≡ true
      asked = (aside tid.home.0 far).asked (two _ _ (two _ _ unanimous).0).0

      face : (k : ℕ) → k < new.size → new.channels.up k ≡ true → ShowsFace (face_at (new.hosts k).node tid) (place k (new.channels.inc k)) v
      face k k_in up = all.seen.shown.faces k k_in up

      sound : (k : ℕ) → k < new.size → is_sound (new.hosts k).node ≡ true
      sound k k_in = ((steady new shown).sound k k_in).node

      lives : (l : Life) (part : Part) → IsLife later (field_of new) l part → IsPresent (field_of new) l → agrees (l, part) ≡ true
      lives l part life present = by (l.member.node.0 == n) refl
        where
          by : (b : Bool) → (l.member.node.0 == n) ≡ b → agrees (l, part) ≡ true
          by true near = free_agrees now tid later (field_of new) (new.hosts n).node l part found_later still_open own idle life (at_node (eqb-true l.member.node.0 n near)) (present.now ∙ (ap new.channels.inc (eqb-true l.member.node.0 n near) ∙ sym ((steady new shown).seated.inc n n_in)))
            where
              n_in : n < new.size
              n_in = subst (λ (s : ℕ). n < s) (sym sized) (step_low PlacesAt whole_steps o world j n stamp free source event makes)

              n_up : new.channels.up n ≡ true
              n_up = ap new.channels.up (sym (eqb-true l.member.node.0 n near)) ∙ present.up

              idle : IsFree tid (new.hosts n).node
              idle = committed_free tid (new.hosts n).node (place n (new.channels.inc n)) v all.seen.lawful committed (face n n_in n_up) (sound n n_in) (none_decided now tid later (new.hosts n).node own found_later still_open)

              at_node : l.member.node.0 ≡ n → l.member.node ≡ (new.hosts n).node.setting.node
              at_node is = ap (λ (k : ℕ). Rattle.qs_world_refine.specs.Links.node_no k) is ∙ sym ((steady new shown).seated.node n n_in)
          by false away = subst (λ (q : Part). agrees (l, q) ≡ true) (sym ((aside l.member.node.0 away).parts l.member l.inc refl) ∙ life.kept) (life_agrees l tx.parts (two _ _ (two _ _ unanimous).1).0)

      quiet : IsQuiet tid later (field_of new)
      quiet = record {
        idle = λ k k_in up. committed_waits tid (new.hosts k).node (place k (new.channels.inc k)) v all.seen.lawful committed (face k k_in up) (sound k k_in);
        ways = λ a b a_in b_in up. committed_ways tid new v all committed a b a_in b_in up;
        keeps = λ a b a_in b_in. committed_keeps tid new v all committed a b a_in b_in;
        lives = lives;
      }

      stays : is_unanimous later ≡ true
      stays = by (p.placed later (ap (λ (b : BookValue). find_transaction b tid) book_now ∙ found_later) still_open)
        where
          by : IsDoomed v ⊎ Placed tid later (field_of new) → is_unanimous later ≡ true
          by (inl doomed) = absurd (doomed v (record { events = []; run = refl }) committed)
          by (inr placed) = quiet_unanimous tid later (field_of new) placed asked quiet

pub steps_stay_unanimous : StepsStayUnanimous
steps_stay_unanimous o world n stamp free source event j makes lawful k far low off tid tx later among found found_later home undecided unanimous =
    stays o world j n stamp free source event makes lawful tid tx later found found_later
    (ap (λ (i : ℕ). i == n) home ∙ far) (subst (λ (i : ℕ). i < world.size) (sym home) low) (subst (λ (i : ℕ). world.channels.up i ≡ false) (sym home) off)
    (subst (λ (i : ℕ). is_among (recovery (world.hosts i).log).committed tid ≡ true) (sym home) among) undecided unanimous
