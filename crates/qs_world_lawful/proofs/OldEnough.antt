-- What is old enough as a tick comes, the machine finds that old, at each stage of the fold: where all was young before it.
use Rattle.qs_world_lawful.proofs.Words.{◌≡◌, ◌≤◌, ◌<◌, ◌^◌, ◌+◌, ◌-◌, ◌==◌, ℕ, true, List, [], ◌∷◌, Option, Some, None, refl, ap, sym, subst, ◌∙◌, arith, nat_lt, nat_le, nat_tests, option_map, ◌&&◌, Tid, changed_at_here, BookValue, tick_node, Work, abort_old, Setting, is_undecided, Manager, Participant, InRun, HoldsBeside, HoldsWork, book_at, AtEach, HasCause, MayDecide, MayAge, tick_work, Every, HasNodeFacts, none_is, and_from, eqb-true}
use Rattle.std.proofs.Common.{min}
use Rattle.qs_book_journal.specs.declared.entry.Act.TheVariants as acts
use Rattle.qs_book_machine.specs.Nodes as machine
use Rattle.qs_ops.specs.declared.answer.Cause.TheVariants as causes
use Rattle.qs_tm.specs.Manager as tm
use Rattle.qs_tm.specs.declared.manager.Which.TheVariants as whiches
use Rattle.qs_world_lawful.specs.GivenStep.{MayAbortOld}
use Rattle.qs_world_lawful.specs.NodeFacts.{AreYoung, IsYoung}
use Rattle.qs_world_lawful.proofs.AgedTids.{AllApart, IsIn, all_in, chosen, chosen_are, every_all}
use Rattle.qs_world_lawful.proofs.Apart.{Apart}
use Rattle.qs_world_lawful.proofs.BesideRestarts.{goes_ticked}
use Rattle.qs_world_lawful.proofs.BesideSettle.{goes_abort}
use Rattle.qs_world_lawful.proofs.FactsStages.{old_keeps, ticks_keep}
use Rattle.qs_world_lawful.proofs.Growing.{book_now}
use Rattle.qs_world_lawful.proofs.LeftElse.{LeavesElse, else_abort, ticked_at}
use Rattle.qs_world_lawful.proofs.Settled.{aborted}
use Rattle.qs_world_lawful.proofs.Silent.{by_tick}
use Rattle.qs_world_lawful.proofs.Truths.{left_true, node_is, of_some, right_true}

-- it is that old at that time, and its home has not decided it
record IsAged (age time : ℕ) (manager : Manager) (tid : Tid) : Type 0 where
  pub part : Participant
  pub known : tm.part_of tid manager ≡ Some part
  pub unknown : part.outcome ≡ None
  pub home : part.engage.home ≡ true
  pub some : nat_lt 0 age ≡ true
  pub old : time ≡ part.begun_at + age

module _ (stamp : ℕ) (before : BookValue) (run : InRun before) (age time : ℕ) where
  record StandsAged (work : Work) : Type 0 where
    pub held : HoldsWork stamp before work
    pub beside : HoldsBeside (book_at stamp before work) work.node
    pub facts : HasNodeFacts work.node
    pub limit : work.node.setting.age ≡ Some age
    pub ticks : work.node.manager.ticks ≡ time
    pub ticked : ticked_at (book_at stamp before work) work.node.setting.node.0 ≡ Some stamp

  module _ (work : Work) (tid : Tid) (s : StandsAged work) (a : IsAged age time work.node.manager tid) where
    decides : MayDecide stamp before work tid
    decides = record {
      home = node_is tid.home work.node.setting.node (eqb-true tid.home.0 work.node.setting.node.0 (sym (s.facts.parts tid a.part a.known).homed ∙ a.home));
      inc = (s.facts.parts tid a.part a.known).began a.home a.unknown;
      owner = λ tx client found owns. s.beside.owners tid tx found client owns;
    }

    equal : (x y : ℕ) → x ≡ y → (x == y) ≡ true
    equal x y is = grind (arith, nat_tests, is)

    cause : HasCause stamp before work tid (causes.Old age)
    cause state tx there found = and_from (nat_lt 0 age && (state.timers.ticks == tx.begun_at + age)) (state.ticked == stamp)
        (and_from (nat_lt 0 age) (state.timers.ticks == tx.begun_at + age) a.some (equal state.timers.ticks (tx.begun_at + age) (clock ∙ (a.old ∙ ap (λ (k : ℕ). k + age) (sym begun)))))
        (equal state.ticked stamp (of_some (sym (ap (option_map (λ (x : machine.NodeValue). x.ticked)) there) ∙ s.ticked)))
      where
        clock : state.timers.ticks ≡ time
        clock = ap (λ (x : machine.NodeValue). x.timers.ticks) (of_some (sym there ∙ s.held.holds.there)) ∙ (s.held.holds.servers.timers.ticks ∙ (s.beside.clock.ticks ∙ s.ticks))

        begun : tx.begun_at ≡ a.part.begun_at
        begun = ((s.beside.at tid).parts tx a.part found a.known).begun_at a.home a.unknown

    may_one : MayAbortOld age stamp before work tid
    may_one = record { part = a.part; known = a.known; unknown = a.unknown; decides = decides; cause = cause }

    left : LeavesElse stamp before tid work (abort_old age work tid)
    left = else_abort stamp before tid (Some (causes.Old age)) work

    next : StandsAged (abort_old age work tid)
    next = let held : HoldsWork stamp before (abort_old age work tid) = aborted stamp before tid work s.held a.part a.known a.unknown decides (causes.Old age) cause in record {
      held = held;
      beside = (goes_abort stamp before run tid (causes.Old age) work).keeps held.lawful s.beside;
      facts = old_keeps work age tid s.limit s.facts;
      limit = ap (λ (t : Setting). t.age) left.setting ∙ s.limit;
      ticks = left.ticks ∙ s.ticks;
      ticked = ap (λ (t : Setting). ticked_at (book_at stamp before (abort_old age work tid)) t.node.0) left.setting ∙ (left.ticked work.node.setting.node.0 ∙ s.ticked);
    }

  moved : (old new : Manager) (t : Tid) → tm.part_of t new ≡ tm.part_of t old → IsAged age time old t → IsAged age time new t
  moved old new t same a = record { part = a.part; known = same ∙ a.known; unknown = a.unknown; home = a.home; some = a.some; old = a.old }

  every_moved : (old new : Manager) (P : Tid → Type 0) → ((t : Tid) → P t → tm.part_of t new ≡ tm.part_of t old) → (ts : List Tid) → Every P ts → Every (IsAged age time old) ts → Every (IsAged age time new) ts
  every_moved old new P same [] far all = tt
  every_moved old new P same (t ∷ ts) far all = (moved old new t (same t far.0) all.0, every_moved old new P same ts far.1 all.1)

  may_all : (tids : List Tid) (work : Work) → StandsAged work → Every (IsAged age time work.node.manager) tids → AllApart tids → AtEach (MayAbortOld age stamp before) (abort_old age) work tids
  may_all [] work s olds far = tt
  may_all (tid ∷ tids) work s olds far = (
    may_one work tid s olds.0,
    may_all tids (abort_old age work tid) (next work tid s olds.0) (every_moved work.node.manager (abort_old age work tid).node.manager (Apart tid) (left work tid s olds.0).others tids far.0 olds.1) far.1,
  )

-- ---- as time goes on

module _ (stamp : ℕ) (before : BookValue) (run : InRun before) (work : Work) (held : HoldsWork stamp before work) (beside : HoldsBeside (book_at stamp before work) work.node) (facts : HasNodeFacts work.node) (young : AreYoung work.node)
    (room : work.node.manager.ticks + 1 < 2 ^ 62) where
  abbrev ticking : Work
  ticking = tick_work work

  time_is : (k b a : ℕ) → k + 1 < 2 ^ 62 → b ≤ k → k - b < a → nat_le a (min (k + 1) (2 ^ 64 - 1) - b) ≡ true → (nat_lt 0 a ≡ true) × (min (k + 1) (2 ^ 64 - 1) ≡ b + a)
  time_is k b a small low short long = (grind (arith, nat_tests, small, low, short, long), grind (arith, nat_tests, small, low, short, long))

  module _ (age : ℕ) (limit : work.node.setting.age ≡ Some age) where
    begins : StandsAged stamp before run age ticking.node.manager.ticks ticking
    begins = let later : HoldsWork stamp before ticking = by_tick stamp before work held in record {
      held = later;
      beside = (goes_ticked stamp before run work room).keeps later.lawful beside;
      facts = ticks_keep work facts;
      limit = limit;
      ticks = refl;
      ticked = ap (λ (b : BookValue). ticked_at b work.node.setting.node.0) (book_now stamp before work ticking acts.Tick refl refl)
          ∙ ap (option_map (λ (x : machine.NodeValue). x.ticked)) (changed_at_here (tick_node stamp) (book_at stamp before work).nodes work.node.setting.node.0 beside.state beside.there);
    }

    aged : (t : Tid) → IsIn (whiches.Aged ticking.node.manager.ticks age) work.node.manager.known t → IsAged age ticking.node.manager.ticks ticking.node.manager t
    aged t is = record { part = part; known = is.1; unknown = none; home = home; some = times.0; old = times.1 }
      where
        part : Participant
        part = is.0

        none : part.outcome ≡ None
        none = none_is part.outcome (left_true (is_undecided part) _ is.2)

        rest : (part.engage.home && nat_le age (ticking.node.manager.ticks - part.begun_at)) ≡ true
        rest = right_true (is_undecided part) _ is.2

        home : part.engage.home ≡ true
        home = left_true part.engage.home _ rest

        its : IsYoung work.node part
        its = young t part is.1 home none

        times : (nat_lt 0 age ≡ true) × (ticking.node.manager.ticks ≡ part.begun_at + age)
        times = time_is work.node.manager.ticks part.begun_at age room its.begun (its.age age limit) (right_true part.engage.home _ rest)

    may_these : AtEach (MayAbortOld age stamp before) (abort_old age) ticking (tm.aged age ticking.node.manager)
    may_these = subst (λ (ts : List Tid). AtEach (MayAbortOld age stamp before) (abort_old age) ticking ts) (sym (chosen_are (whiches.Aged ticking.node.manager.ticks age) work.node.manager.known []))
        (may_all stamp before run age ticking.node.manager.ticks _ ticking begins
        (every_all (IsIn (whiches.Aged ticking.node.manager.ticks age) work.node.manager.known) (IsAged age ticking.node.manager.ticks ticking.node.manager) aged _ its.0) its.1)
      where
        its : Every (IsIn (whiches.Aged ticking.node.manager.ticks age) work.node.manager.known) (chosen (whiches.Aged ticking.node.manager.ticks age) work.node.manager.known) × AllApart (chosen (whiches.Aged ticking.node.manager.ticks age) work.node.manager.known)
        its = all_in (whiches.Aged ticking.node.manager.ticks age) work.node.manager.known facts.rising

  pub may_age : MayAge stamp before ticking.node.setting.age ticking
  may_age = by work.node.setting.age refl
    where
      by : (o : Option ℕ) → work.node.setting.age ≡ o → MayAge stamp before o ticking
      by None is = tt
      by (Some age) is = may_these age is
