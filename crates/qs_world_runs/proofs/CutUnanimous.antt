-- What a home decided in a step that is cut off with a record of it on the disk was unanimous before: the whole step would have committed it.
use Rattle.qs_world_runs.proofs.Words.{◌≡◌, ℕ, ◌+◌, ◌<◌, ◌==◌, ◌||◌, Bool, true, false, List, [], ◌∷◌, Option, Some, None, refl, sym, ap, subst, ◌∙◌, arith, if◌then◌else◌, eqb-true, eq-eqb, and_from, nat_tests, list_any, unwrap_or, same_tid, NodeNo, Tid, same_node, Act, CrashCause, Entry, Decided, BookValue, cell_of_transaction, find_transaction, is_crash, TransactionValue, is_commit, is_outcome, is_unanimous, Cell, is_kept_commit, kept_outcome, after_step, effects_of, Event, new_participant}
use Rattle.qs_world_runs.proofs.Words.{Participant, book_of, opened_from, Source, Step, cut_log, may_step, moved, step_with, stepped_host, stopped, taken_by, entries_of, Opening, World, Open, Committed, ShowsAll, ShowsFace, began_here, face_at, outcome_of, outcome_seen, place, IsShownWorld, invariant, inc_taken, inc_all, each_begun_shown, home_in_run, move_shown, steady, node_stopped, face_of, part_or_new, HoldsAt, HoldsTid, Lasts, HasCommitted, Every, HoldsNodeAt, goes_aside, opens_soundly}
use Rattle.qs_world_runs.proofs.Words.{in_runs, lasts_first, lasts_ran, LastsWell, opened_numbered, opening_named, MakesStep, Joined, book_in, WholeSteps, book_then}
use Rattle.qs_base.specs.declared.identifiers.Outcome.{Outcome}
use Rattle.qs_base.specs.declared.identifiers.Outcome.TheVariants as outcomes
use Rattle.qs_book_machine.specs.Lawful.{IsLawful}
use Rattle.qs_book_machine.specs.Transaction.{is_open}
use Rattle.qs_book_machine.specs.declared.transaction.Cell.TheVariants as cells
use Rattle.qs_node_step.specs.Answering.{was_committed}
use Rattle.qs_node_step.specs.State.{NodeValue}
use Rattle.qs_tm.specs.Manager as tm
use Rattle.qs_world_agree.specs.World as machine
use Rattle.qs_world_agree.proofs.Doomed.{past_home_dooms}
use Rattle.qs_world_refine.specs.Begun.{has_begun}
use Rattle.qs_world_refine.specs.CutLaws.{CutsOff}
use Rattle.qs_world_refine.specs.NodeFaces.{is_past_commit, unknown, unknown_at_home}
use Rattle.qs_world_refine.proofs.SoundParts.{and_both}
use Rattle.qs_world_lawful.specs.Holds.{HasEnded, Holds}
use Rattle.qs_world_runs.specs.JoinedLaws.{EachCutUnanimous}
use Rattle.qs_world_runs.proofs.JoinedLogged.{logged_by_log}
use Rattle.qs_world_runs.proofs.JoinedSteps.{step_entries, step_holds, step_lawful, step_low, step_up}
use Rattle.qs_world_runs.proofs.PlacesBegin.{begun_inc}
use Rattle.qs_world_runs.proofs.StaysWorlds.{steps_keep_logged}
use Rattle.qs_world_runs.proofs.UnanimousEarlier.{unanimous_earlier}

-- where the home of a transaction runs, in the incarnation in which it began, it knows its outcome
home_knows : (tid : Tid) (world : World) (w : machine.World) → ShowsAll tid world w → tid.home.0 < world.size → world.channels.up tid.home.0 ≡ true → tid.inc ≡ world.channels.inc tid.home.0 → (face_at (world.hosts tid.home.0).node tid).outcome ≡ w.cell
home_knows tid world w all low on now = sym face.outcome ∙ (ap w.outcome at_home ∙ ((invariant w all.seen.lawful).keeps q).home_keeps (subst (λ (p : ℕ). w.up p ≡ true) at_home face.up))
  where
    q : ℕ
    q = place tid.home.0 (world.channels.inc tid.home.0)

    face : ShowsFace (face_at (world.hosts tid.home.0).node tid) q w
    face = all.seen.shown.faces tid.home.0 low on

    at_home : q ≡ w.home
    at_home = sym (all.seen.shown.stage.home ∙ ap (place tid.home.0) now)

-- a home that has its commit has it in what it keeps of it, or for its owner, or had it in its log
record KnowsCommit (tid : Tid) (node : NodeValue) : Type 0 where
  pub runs : (part : Participant) → tm.part_of tid node.manager ≡ Some part → part.outcome ≡ Some outcomes.Commit
  pub over : tm.part_of tid node.manager ≡ None → was_committed tid node ≡ true

knows_commit : (tid : Tid) (node : NodeValue) → began_here node tid ≡ true → (face_at node tid).outcome ≡ Committed → KnowsCommit tid node
knows_commit tid node began is = record { runs = runs; over = over }
  where
    of_seen : (o : Option Outcome) (b : Bool) → outcome_seen o b ≡ Committed → o ≡ Some outcomes.Commit
    of_seen None b so = absurd (cc so)
    of_seen (Some outcomes.Commit) b so = refl
    of_seen (Some outcomes.Abort) b so = absurd (cc so)

    seen : (o : Option Participant) → tm.part_of tid node.manager ≡ o → outcome_of (unwrap_or o (unknown node tid)) ≡ Committed
    seen o known = ap (λ (x : Option Participant). outcome_of (unwrap_or x (unknown node tid))) (sym known) ∙ is

    runs : (part : Participant) → tm.part_of tid node.manager ≡ Some part → part.outcome ≡ Some outcomes.Commit
    runs part known = of_seen part.outcome (part.engage.home || part.involved) (seen (Some part) known)

    home : same_node tid.home node.setting.node ≡ true
    home = (and_both (same_node tid.home node.setting.node) _ began).0

    some_only : (b : Bool) → outcome_seen (if b then Some outcomes.Commit else None) true ≡ Committed → b ≡ true
    some_only true so = refl
    some_only false so = absurd (cc so)

    at_home : (b : Bool) → b ≡ true → outcome_of (if b then unknown_at_home node tid else new_participant false) ≡ Committed → is_past_commit node tid ≡ true
    at_home true is so = some_only (is_past_commit node tid) so
    at_home false is so = absurd (cc is)

    past : (b : Bool) → b ≡ true → (if b then was_committed tid node else list_any (same_tid tid) node.committed) ≡ true → was_committed tid node ≡ true
    past true is so = so
    past false is so = absurd (cc is)

    over : tm.part_of tid node.manager ≡ None → was_committed tid node ≡ true
    over none = past (began_here node tid) began (at_home (same_node tid.home node.setting.node) home (seen None none))

module _ (P : Opening → World → Type 0) (steps : WholeSteps P) (o : Opening) (world : World) (j : Joined P o world) (n stamp free : ℕ) (source : Source) (event : Event) (makes : MakesStep world n stamp source event) where
  abbrev book : BookValue
  book = book_in o world

  abbrev leaves : NodeValue
  leaves = after_step (world.hosts n).node event free

  abbrev new : World
  new = moved (Step n stamp free source) world

  abbrev now : BookValue
  now = book_then o world n stamp free event

  low : n < world.size
  low = step_low P steps o world j n stamp free source event makes

  lasts : Lasts book
  lasts = in_runs o world.journal j.opens j.lawful

  well : LastsWell book
  well = lasts_ran world.journal (book_of o) (lasts_first (opened_from o 0 o.size) (opens_soundly o j.opens) (opening_named (opened_from o 0 o.size) (opened_numbered o 0 o.size))) j.lawful

  lawful : IsLawful book (step_entries P steps o world j n stamp free source event makes)
  lawful = step_lawful P steps o world j n stamp free source event makes

  holds : Holds stamp now leaves
  holds = step_holds P steps o world j n stamp free source event makes

  shown : IsShownWorld new
  shown = move_shown world (Step n stamp free source) makes.may j.shown (each_begun_shown world (Step n stamp free source) makes.may j.shown)

  own_node : (new.hosts n).node ≡ leaves
  own_node = ap (λ (e : Option Event). ((step_with world n stamp free source e).hosts n).node) makes.comes ∙ picked (n == n) (grind (arith, nat_tests))
    where
      picked : (b : Bool) → b ≡ true → (if b then stepped_host stamp (after_step (world.hosts n).node event free) (effects_of (world.hosts n).node event free) (world.hosts n) else world.hosts n).node ≡ after_step (world.hosts n).node event free
      picked b is = rw is refl

  sized : new.size ≡ world.size
  sized = ap (λ (e : Option Event). (step_with world n stamp free source e).size) makes.comes

  module _ (tid : Tid) (tx : TransactionValue) (found : find_transaction book tid ≡ Some tx) (undecided : is_open tx.cell ≡ true) where
    -- it stands there after the step
    stands : (later : TransactionValue) × (find_transaction now tid ≡ Some later)
    stands = let p = goes_aside (n + 1) (step_entries P steps o world j n stamp free source event makes) book well lawful (all (effects_of (world.hosts n).node event free).entries) tid tx found in (p.0, p.1)
      where
        apart : (a : ℕ) → (a == a + 1) ≡ false
        apart a = grind (arith, nat_tests)

        all : (acts : List Act) → Every (λ (entry : Entry). (entry.node.0 == n + 1) ≡ false) (entries_of n stamp acts)
        all [] = tt
        all (act ∷ acts) = (apart n, all acts)

    committed_cell : (c : Cell) → is_outcome outcomes.Commit c ≡ true → c ≡ cells.Commit
    committed_cell cells.Commit is = refl
    committed_cell cells.Open is = absurd (cc is)
    committed_cell cells.Abort is = absurd (cc is)

    has_committed : (later : TransactionValue) → find_transaction now tid ≡ Some later → is_outcome outcomes.Commit later.cell ≡ true → HasCommitted now tid
    has_committed later there is = ap cell_of_transaction there ∙ ap (λ (c : Cell). Some c) (committed_cell later.cell is)

    never_before : HasCommitted book tid → ⊥
    never_before was = clash tx.cell (sym (ap cell_of_transaction found) ∙ was) undecided
      where
        clash : (c : Cell) → Some c ≡ Some cells.Commit → is_open c ≡ true → ⊥
        clash cells.Open e is = cc e
        clash cells.Commit e is = cc is
        clash cells.Abort e is = cc is

    step_commits : KnowsCommit tid leaves → HasCommitted now tid
    step_commits knows = by (tm.part_of tid leaves.manager) refl
      where
        of_kept : (d : Option Decided) → kept_outcome tid leaves ≡ d → is_kept_commit d ≡ true → HasCommitted now tid
        of_kept None none is = absurd (cc is)
        of_kept (Some decided) kept is = let e : HasEnded now tid decided = holds.clients.outcomes tid decided kept in has_committed e.tx e.found (ended decided.outcome e.tx.cell is e.as_kept)
          where
            ended : (x : Outcome) (c : Cell) → (elim x [ outcomes.Commit ↦ true | outcomes.Abort ↦ false ]) ≡ true → is_outcome x c ≡ true → is_outcome outcomes.Commit c ≡ true
            ended outcomes.Commit c so as_kept = as_kept
            ended outcomes.Abort c so as_kept = absurd (cc so)

        either : (a b : Bool) → (a || b) ≡ true → (a ≡ true → HasCommitted now tid) → (b ≡ true → ⊥) → HasCommitted now tid
        either true b is f g = f refl
        either false b is f g = absurd (g is)

        logged : list_any (same_tid tid) leaves.committed ≡ true → ⊥
        logged is = never_before (logged_by_log book n at.state (world.hosts n) lasts (at.runs (step_up P steps o world j n stamp free source event makes)) (j.logged n low) tid
            (subst (λ (tids : List Tid). list_any (same_tid tid) tids ≡ true) (steps_keep_logged world n stamp free source event j.shown makes (j.facts n low)) is))
          where
            at : HoldsNodeAt book world n
            at = j.held.nodes n low

        by : (p : Option Participant) → tm.part_of tid leaves.manager ≡ p → HasCommitted now tid
        by (Some part) known = let its : HoldsTid leaves.setting.node leaves.setting.inc tid stands.0 (face_of leaves tid) = subst (λ (t : Option TransactionValue). HoldsAt leaves.setting.node leaves.setting.inc tid t (face_of leaves tid)) stands.1 (holds.at tid) in
            has_committed stands.0 stands.1 (its.outcome outcomes.Commit (ap (λ (p : Option Participant). (part_or_new p).outcome) known ∙ knows.runs part known))
        by None none = either (is_kept_commit (kept_outcome tid leaves)) (list_any (same_tid tid) leaves.committed) (knows.over none) (of_kept (kept_outcome tid leaves) refl) logged

    unanimous_then : KnowsCommit tid leaves → is_unanimous tx ≡ true
    unanimous_then knows = unanimous_earlier tid n stamp (world.hosts n).node event free book well.inv lawful (step_commits knows) tx found (open_so tx.cell undecided)
      where
        open_so : (c : Cell) → is_open c ≡ true → is_commit c ≡ false
        open_so cells.Open is = refl
        open_so cells.Commit is = absurd (cc is)
        open_so cells.Abort is = refl

    -- ---- the cut

    module _ (is_kept : Bool) (cause : CrashCause) (w : machine.World) (goes : CutsOff tid leaves (stopped world n stamp cause (cut_log (world.hosts n) is_kept (effects_of (world.hosts n).node event free))) w)
        (has : has_begun world tid ≡ true) (all : ShowsAll tid world w) (open_now : w.cell ≡ Open) (committed : goes.goes.next.cell ≡ Committed) where
      abbrev after : World
      after = stopped world n stamp cause (cut_log (world.hosts n) is_kept (effects_of (world.hosts n).node event free))

      abbrev k : ℕ
      k = tid.home.0

      home_low : k < world.size
      home_low = home_in_run world j.shown tid has

      now_inc : tid.inc ≡ world.channels.inc k
      now_inc = begun_inc book world lasts j.held tid tx found undecided home_low

      -- its home is down: it never commits
      down : world.channels.up k ≡ false → ⊥
      down off = past_home_dooms w all.seen.lawful.reached off_home (λ is. cc (open_now, is)) goes.goes.next goes.goes.leads committed
        where
          off_home : w.up w.home ≡ false
          off_home = ap w.up all.seen.shown.stage.home ∙ (all.seen.shown.stage.up k tid.inc home_low ∙ rw off refl)

      -- another node does: it knows what it knew
      elsewhere : (k == n) ≡ false → world.channels.up k ≡ true → ⊥
      elsewhere far on = let was : (face_at (world.hosts k).node tid).outcome ≡ w.cell = home_knows tid world w all home_low on now_inc in
          let then_is : (face_at (after.hosts k).node tid).outcome ≡ goes.goes.next.cell = home_knows tid after goes.goes.next goes.goes.shown home_low (picked (k == n) far) now_inc in
          let same : (face_at (after.hosts k).node tid).outcome ≡ (face_at (world.hosts k).node tid).outcome = ap (λ (node : NodeValue). (face_at node tid).outcome) (node_stopped world n stamp cause (cut_log (world.hosts n) is_kept (effects_of (world.hosts n).node event free)) k) in
          cc (was, then_is, same, open_now, committed)
        where
          picked : (b : Bool) → b ≡ false → (if b then false else world.channels.up k) ≡ true
          picked b is = rw is on

      here : (k == n) ≡ true → is_unanimous tx ≡ true
      here near = unanimous_then (knows_commit tid leaves began (goes.knows committed began))
        where
          at_n : k ≡ n
          at_n = eqb-true k n near

          low_new : n < new.size
          low_new = subst (λ (s : ℕ). n < s) (sym sized) low

          incs : new.channels.inc n ≡ world.channels.inc n
          incs = ap (λ (e : Option Event). (step_with world n stamp free source e).channels.inc n) makes.comes ∙ ap (λ (f : ℕ → ℕ). f n) (inc_all n stamp (effects_of (world.hosts n).node event free).messages (taken_by world n source) ∙ inc_taken world n source)

          node_is : leaves.setting.node.0 ≡ n
          node_is = ap (λ (node : NodeValue). node.setting.node.0) (sym own_node) ∙ ap (λ (m : NodeNo). m.0) ((steady new shown).seated.node n low_new)

          inc_is : leaves.setting.inc ≡ world.channels.inc n
          inc_is = ap (λ (node : NodeValue). node.setting.inc) (sym own_node) ∙ ((steady new shown).seated.inc n low_new ∙ incs)

          began : began_here leaves tid ≡ true
          began = and_from (same_node tid.home leaves.setting.node) (tid.inc == leaves.setting.inc) (eq-eqb k leaves.setting.node.0 (at_n ∙ sym node_is)) (eq-eqb tid.inc leaves.setting.inc (now_inc ∙ (ap world.channels.inc at_n ∙ sym inc_is)))

      decided_unanimous : is_unanimous tx ≡ true
      decided_unanimous = by (k == n) refl (world.channels.up k) refl
        where
          by : (b : Bool) → (k == n) ≡ b → (u : Bool) → world.channels.up k ≡ u → is_unanimous tx ≡ true
          by true near u on = here near
          by false far true on = absurd (elsewhere far on)
          by false far false off = absurd (down off)

pub cuts_unanimous : (P : Opening → World → Type 0) → WholeSteps P → EachCutUnanimous P
cuts_unanimous P steps o world n stamp free source is_kept cause event j may comes tid w goes has all open_now committed tx found undecided =
    decided_unanimous P steps o world j n stamp free source event (record { may = (and_both (may_step world n stamp source) (is_crash cause) may).0; comes = comes }) tid tx found undecided is_kept cause w goes has all open_now committed
