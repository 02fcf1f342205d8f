-- At the turn of each transaction, as a node settles, nothing is committed of which a vote is due; nor is what is lent, as commands that stayed open are answered.
use Rattle.qs_world_runs.proofs.Words.{◌≡◌, ℕ, ◌&&◌, Bool, true, false, List, [], ◌∷◌, fold, Some, None, refl, sym, subst, ◌∙◌, arith, if◌then◌else◌, is_at, list_all, lookup, nat_tests, same_tid, tid_cmp, ClientNo, Tid, due_tids, settle, settle_tid, Work, happen, wait_on, waiting_clients, Event, is_undecided, needs_pass, Participant, Source, World, IsShownWorld, is_sound, where_so, commands_in_run, settle_leaves, same_is, wait_carries, seen, AtEach, Every, MakesStep, PassesUndone, SoundStages}
use Rattle.qs_world_runs.proofs.Words.{nodes_in, same_Some}
use Rattle.qs_tm.specs.Manager as tm
use Rattle.qs_tm.specs.Manager.{is_one}
use Rattle.qs_tm.specs.declared.manager.Which.TheVariants as whiches
use Rattle.qs_world_refine.specs.Sound.{in_order, is_less}
use Rattle.qs_world_refine.proofs.LogFrames.{Apart}
use Rattle.qs_world_refine.proofs.SaidSteps.{step_open}
use Rattle.qs_world_refine.proofs.SoundAge.{picked, put_all}
use Rattle.qs_world_refine.proofs.SoundFrames.{behind, is_below, order_tail}
use Rattle.qs_world_refine.proofs.SoundParts.{and_both}
use Rattle.qs_world_refine.proofs.TidyNodes.{part_read}
use Rattle.qs_world_lawful.specs.Agreed.{AreLentUndone}
use Rattle.qs_world_runs.specs.Agrees.{PassesAgree, StagesSound, WaitsAgree}
use Rattle.qs_world_runs.proofs.AgreesEach.{all_done, all_first, begins_new, came_to, low, may, steady}
use Rattle.qs_world_runs.proofs.AgreesFirst.{Follows}
use Rattle.qs_world_runs.proofs.AgreesOpen.{none_due}
use Rattle.qs_world_runs.proofs.AgreesWhole.{Following, its_undone, lent_undone, settles_on, waits_on}
use Rattle.qs_base_lemmas.proofs.Tests.{none_is}

-- ---- each transaction that is due is undecided, and has one turn

abbrev pub IsOpenAt : Work → Tid → Type 0
IsOpenAt work t = (part : Participant) → tm.part_of t work.node.manager ≡ Some part → part.outcome ≡ None

-- those behind it are others
pub record HasTurns (work : Work) (t : Tid) (rest : List Tid) : Type 0 where
  pub now : IsOpenAt work t
  pub others : Every (λ (u : Tid). Apart u t) rest

abbrev pub HaveTurns : Work → List Tid → Type 0
HaveTurns work [] = Unit {0}
HaveTurns work (t ∷ rest) = HasTurns work t rest × HaveTurns work rest

-- what is settled leaves those behind it
turns_on : (work : Work) (t : Tid) (rest : List Tid) → Every (λ (u : Tid). Apart u t) rest → HaveTurns work rest → HaveTurns (settle_tid work t) rest
turns_on work t [] apart turns = tt
turns_on work t (u ∷ rest) apart turns = (record { now = λ part known. turns.0.now part (sym (settle_leaves u t apart.0 work).node.part ∙ known); others = turns.0.others }, turns_on work t rest apart.1 turns.1)

abbrev Entry : Type 0
Entry = Tid × Participant

-- of a list in order those that are picked
below_apart : (k : Tid) (es : List Entry) → list_all (is_below k) es ≡ true → Every (λ (u : Tid). Apart u k) (picked whiches.Due es)
below_apart k [] below = tt
below_apart k (e ∷ es) below = by (is_one whiches.Due e.0 e.1) (below_apart k es both.1)
  where
    both : (is_below k e ≡ true) × (list_all (is_below k) es ≡ true)
    both = and_both (is_below k e) (list_all (is_below k) es) below

    other : (a b : Tid) → is_less (tid_cmp a b) ≡ true → same_tid b a ≡ false
    other a b less = grind (arith, nat_tests, less)

    by : (b : Bool) → Every (λ (u : Tid). Apart u k) (picked whiches.Due es) → Every (λ (u : Tid). Apart u k) (if b then e.0 ∷ picked whiches.Due es else picked whiches.Due es)
    by true more = (other k e.0 both.0, more)
    by false more = more

-- what stands behind another is not found as it
none_behind : (k : Tid) (fs : List Entry) → list_all (is_below k) fs ≡ true → lookup (is_at (tid_cmp k)) fs ≡ None
none_behind k [] low = refl
none_behind k (f ∷ fs) low = (rw (differs k f.0 both.0) refl) ∙ none_behind k fs both.1
  where
    both : (is_below k f ≡ true) × (list_all (is_below k) fs ≡ true)
    both = and_both (is_below k f) (list_all (is_below k) fs) low

    differs : (a b : Tid) → is_less (tid_cmp a b) ≡ true → is_at (tid_cmp a) b ≡ false
    differs a b less = grind (arith, nat_tests, less)

alike : (a b : Tid) → is_at (tid_cmp a) b ≡ true → a ≡ b
alike a b so = same_is a b (same a b so)
  where
    same : (a b : Tid) → is_at (tid_cmp a) b ≡ true → same_tid a b ≡ true
    same a b so = grind (arith, nat_tests, so)

module _ (work : Work) where
  -- the look-up finds what the list has
  has_turns : (es : List Entry) → in_order es ≡ true → ((t : Tid) (part : Participant) → lookup (is_at (tid_cmp t)) es ≡ Some part → tm.part_of t work.node.manager ≡ Some part) → HaveTurns work (picked whiches.Due es)
  has_turns [] ordered found = tt
  has_turns (e ∷ es) ordered found = by (is_one whiches.Due e.0 e.1) refl (has_turns es (order_tail e es ordered) past)
    where
      here : (t : Tid) → is_at (tid_cmp t) t ≡ true
      here t = grind (arith, nat_tests)

      below : list_all (is_below e.0) es ≡ true
      below = behind e es ordered

      -- what stands behind is found behind
      past : (t : Tid) (part : Participant) → lookup (is_at (tid_cmp t)) es ≡ Some part → tm.part_of t work.node.manager ≡ Some part
      past t part is = which (is_at (tid_cmp t) e.0) refl
        where
          which : (b : Bool) → is_at (tid_cmp t) e.0 ≡ b → tm.part_of t work.node.manager ≡ Some part
          which true so = absurd (let none : lookup (is_at (tid_cmp t)) es ≡ None = subst (λ (k : Tid). lookup (is_at (tid_cmp k)) es ≡ None) (sym (alike t e.0 so)) (none_behind e.0 es below) in let both : None ≡ Some part = sym none ∙ is in cc (both))
          which false so = found t part ((rw so refl) ∙ is)

      its : tm.part_of e.0 work.node.manager ≡ Some e.1
      its = found e.0 e.1 (rw (here e.0) refl)

      undecided : is_one whiches.Due e.0 e.1 ≡ true → e.1.outcome ≡ None
      undecided so = none_is e.1.outcome (and_both (is_undecided e.1) _ so).0

      open_now : is_one whiches.Due e.0 e.1 ≡ true → IsOpenAt work e.0
      open_now so part known = subst (λ (p : Participant). p.outcome ≡ None) (same_Some e.1 part (sym its ∙ known)) (undecided so)

      by : (b : Bool) → is_one whiches.Due e.0 e.1 ≡ b → HaveTurns work (picked whiches.Due es) → HaveTurns work (if b then e.0 ∷ picked whiches.Due es else picked whiches.Due es)
      by true so more = (record { now = open_now so; others = below_apart e.0 es below }, more)
      by false so more = more

  pub due_turns : in_order work.node.manager.known ≡ true → HaveTurns work (due_tids work)
  due_turns ordered = subst (λ (ts : List Tid). HaveTurns work ts) (sym (put_all whiches.Due work.node.manager.known [])) (has_turns work.node.manager.known ordered (λ t part is. is))

-- ---- the stages

module _ (world : World) (is : IsShownWorld world) (n stamp free : ℕ) (source : Source) (event : Event) (makes : MakesStep world n stamp source event) where
  abbrev Here : Work → Type 0
  Here work = Following world is n stamp free source event makes work

  -- where it is due, it has begun, and its place is engaged
  pass_undone : (work : Work) (t : Tid) → Here work → IsOpenAt work t → PassesUndone world.size (nodes_in world) n work t
  pass_undone work t all open_now part known due = its_undone world is n stamp free source event makes work t follows
      (λ committed. let none : needs_pass part ≡ false = none_due t follows.later n work follows.at.now follows.at.stands committed part known (open_now part known) in let some : needs_pass part ≡ true = tests.1 in cc (none, some))
    where
      tests : (part.asked ≡ true) × (needs_pass part ≡ true)
      tests = let both = and_both (part.asked && _) (needs_pass part && _) due in ((and_both part.asked _ both.0).0, (and_both (needs_pass part) _ both.1).0)

      asked_begun : (a b : Bool) → a ≡ true → where_so a b ≡ true → b ≡ true
      asked_begun true b x so = so
      asked_begun false b x so = absurd (cc (x))

      begun : all.stage.begun t ≡ true
      begun = asked_begun part.asked (all.stage.begun t) tests.0 (and_both (where_so part.asked (all.stage.begun t)) _ (and_both (all.stage.past t && _) _ (part_read all.stage work.node all.tidy.node t part known)).1).0

      follows : Follows world n work t
      follows = all.each t begun

  settle_stages : (tids : List Tid) (work : Work) → Here work → HaveTurns work tids → AtEach (PassesUndone world.size (nodes_in world) n) settle_tid work tids × Here (fold settle_tid work tids)
  settle_stages [] work all turns = (tt, all)
  settle_stages (t ∷ tids) work all turns =
      let rest = settle_stages tids (settle_tid work t) (settles_on world is n stamp free source event makes work t all) (turns_on work t tids turns.0.others turns.1) in
      ((pass_undone work t all turns.0.now, rest.0), rest.1)

  abbrev done : Work
  done = happen event (came_to world is n stamp free source event makes)

  settled_so : AtEach (PassesUndone world.size (nodes_in world) n) settle_tid done (due_tids done) × Here (settle done)
  settled_so = let all = all_done world is n stamp free source event makes in settle_stages (due_tids done) done all (due_turns done (seen done.node all.sound).ordered)

  wait_stages : (clients : List ClientNo) (work : Work) → commands_in_run work.node ≡ true → Here work → AtEach (λ (work : Work) (client : ClientNo). AreLentUndone world.size (nodes_in world) n work) wait_on work clients
  wait_stages [] work in_run all = tt
  wait_stages (client ∷ clients) work in_run all = (
    lent_undone world is n stamp free source event makes work all,
    wait_stages clients (wait_on work client) (wait_carries work client (all.sound, in_run)).1 (waits_on world is n stamp free source event makes work client in_run all),
  )

  waits_so : AtEach (λ (work : Work) (client : ClientNo). AreLentUndone world.size (nodes_in world) n work) wait_on (settle done) (waiting_clients (settle done))
  waits_so = wait_stages (waiting_clients (settle done)) (settle done)
      (step_open (world.hosts n).node event free (may world is n stamp free source event makes) (begins_new world is n stamp free source event makes) (is.steady.sound n (low world is n stamp free source event makes)).node
      ((steady world is n stamp free source event makes).commands n (low world is n stamp free source event makes))).0 settled_so.1

  -- ---- and the invariant of the node at each of them

  settles_sound : (tids : List Tid) (work : Work) → Here work → AtEach (λ (work : Work) (tid : Tid). is_sound work.node ≡ true) settle_tid work tids
  settles_sound [] work all = tt
  settles_sound (t ∷ tids) work all = (all.sound, settles_sound tids (settle_tid work t) (settles_on world is n stamp free source event makes work t all))

  waits_sound : (clients : List ClientNo) (work : Work) → commands_in_run work.node ≡ true → Here work → AtEach (λ (work : Work) (client : ClientNo). is_sound work.node ≡ true) wait_on work clients
  waits_sound [] work in_run all = tt
  waits_sound (client ∷ clients) work in_run all = (all.sound, waits_sound clients (wait_on work client) (wait_carries work client (all.sound, in_run)).1 (waits_on world is n stamp free source event makes work client in_run all))

  sound_so : SoundStages (world.hosts n).node event free
  sound_so = record {
    first = (all_first world is n stamp free source event makes).sound;
    done = (all_done world is n stamp free source event makes).sound;
    settles = settles_sound (due_tids done) done (all_done world is n stamp free source event makes);
    waits = waits_sound (waiting_clients (settle done)) (settle done)
        (step_open (world.hosts n).node event free (may world is n stamp free source event makes) (begins_new world is n stamp free source event makes) (is.steady.sound n (low world is n stamp free source event makes)).node
        ((steady world is n stamp free source event makes).commands n (low world is n stamp free source event makes))).0 settled_so.1;
  }

pub stages_sound : StagesSound
stages_sound world n stamp free source event is makes = sound_so world is n stamp free source event makes

pub passes_agree : PassesAgree
passes_agree world n stamp free source event is makes = (settled_so world is n stamp free source event makes).0

pub waits_agree : WaitsAgree
waits_agree world n stamp free source event is makes = waits_so world is n stamp free source event makes
