-- What has not begun before a step is not known to its node as it begins; so once what came is done it is not known still, or it has just begun.
use Rattle.qs_world_runs.proofs.Words.{◌≡◌, ◌⊎◌, inl, inr, ℕ, ◌+◌, ◌<◌, ◌==◌, ◌&&◌, ◌||◌, not, nat_lt, Bool, true, false, List, [], ◌∷◌, length, Option, Some, None, refl, sym, ap, subst, ◌∙◌, if◌then◌else◌, filter, list_any, ClientNo, Tid, ScriptLine, is_standing_loan, Lent, Answer, names_transaction, answer, enter, begin_as, begin_command, begin_or_refuse, put_label, due_tids, settle, settle_tid, Work, with_manager, happen, wait_on, waiting_clients, with_command, Event, begun_participant}
use Rattle.qs_world_runs.proofs.Words.{is_undecided, BeginFault, Manager, Participant, Source, World, may_be_known, is_sound, IsShownWorld, IsTidy, nothing_lent, begun_tidy, begins_in, tidy_reads, AtEach, done_work, first_work, MakesStep, SoundStages, lt-ltb}
use Rattle.qs_book_journal.specs.declared.entry.Act.TheVariants as acts
use Rattle.qs_book_journal.specs.declared.script_line.Command.TheVariants as commands
use Rattle.qs_ops.specs.declared.answer.Answer.TheVariants as answers
use Rattle.qs_node_step.specs.State.{part_of}
use Rattle.qs_node_step.specs.declared.event.Event.TheVariants as events
use Rattle.qs_tm.specs.Manager as tm
use Rattle.qs_tm.specs.Outcomes.{is_abort}
use Rattle.qs_tm.specs.declared.manager.BeginFault.TheVariants as faults
use Rattle.qs_world_refine.specs.Begun.{has_begun}
use Rattle.qs_world_refine.proofs.Keeping.{answer_leaves}
use Rattle.qs_world_refine.proofs.PartsAfter.{IsPut, IsSame, put_seen}
use Rattle.qs_world_runs.specs.BegunBare.{BegunBare, IsBegunBare, NotBorrowed, NotDue}
use Rattle.qs_world_runs.proofs.AgreesEach.{fit, low, up}
use Rattle.qs_world_runs.proofs.AgreesPasses.{stages_sound}
use Rattle.qs_world_runs.proofs.AgreesTidy.{before, behind, done_tidy, stage_before}
use Rattle.qs_world_runs.proofs.BegunBare.{IsBare, IsYet, NoneLent, none_borrowed, pass_off, settled_bare, waited_none}

none_stands : (t : Tid) (inc : ℕ) (loans : List Lent) → list_any (is_standing_loan t inc) loans ≡ false → length (filter (is_standing_loan t inc) loans) ≡ 0
none_stands t inc [] none = refl
none_stands t inc (loan ∷ loans) none = by (is_standing_loan t inc loan) none (λ rest. none_stands t inc loans rest)
  where
    by : (b : Bool) → (b || list_any (is_standing_loan t inc) loans) ≡ false → (list_any (is_standing_loan t inc) loans ≡ false → length (filter (is_standing_loan t inc) loans) ≡ 0)
        → length (if b then loan ∷ filter (is_standing_loan t inc) loans else filter (is_standing_loan t inc) loans) ≡ 0
    by true is more = absurd (cc is)
    by false is more = more is

module _ (t : Tid) (world : World) (n stamp free : ℕ) (source : Source) (event : Event) (is : IsShownWorld world) (makes : MakesStep world n stamp source event) (home : t.home.0 ≡ n) (unbegun : has_begun world t ≡ false) where
  n_low : n < world.size
  n_low = low world is n stamp free source event makes

  n_up : world.channels.up n ≡ true
  n_up = up world is n stamp free source event makes

  sound : SoundStages (world.hosts n).node event free
  sound = stages_sound world n stamp free source event is makes

  abbrev first : Work
  first = first_work (world.hosts n).node free

  abbrev done : Work
  done = done_work (world.hosts n).node event free

  -- its home is in the run
  never_known : may_be_known world t ≡ true → ⊥
  never_known may = by (names_transaction t) (nat_lt t.home.0 world.size) (has_begun world t) unbegun in_run may
    where
      in_run : nat_lt t.home.0 world.size ≡ true
      in_run = lt-ltb t.home.0 world.size (subst (λ (k : ℕ). k < world.size) (sym home) n_low)

      by : (a b c : Bool) → c ≡ false → b ≡ true → (a && (not b || c)) ≡ true → ⊥
      by true b c off on so = cc (rw (on, off) at so)
      by false b c off on so = cc so

  tidy_unknown : (work : Work) → IsTidy (before world is.steady n free n_low n_up) work → part_of t work ≡ None
  tidy_unknown work tidy = by (part_of t work) refl
    where
      by : (o : Option Participant) → part_of t work ≡ o → part_of t work ≡ None
      by None none = none
      by (Some part) known = absurd (never_known ((tidy_reads (before world is.steady n free n_low n_up) (stage_before world is.steady n free n_low n_up)).known t part work tidy known))

  unknown_bare : (work : Work) → is_sound work.node ≡ true → part_of t work ≡ None → IsBare t work
  unknown_bare work so none = record {
    parts = λ part known. absurd (cc (none, known));
    lent = none_stands t work.node.setting.inc work.node.kept.now.loans (nothing_lent work.node t (ap (λ (o : Option Participant). elim o [ None ↦ false | Some p ↦ is_undecided p || is_abort p.outcome ]) none) so);
  }

  first_none : part_of t first ≡ None
  first_none = tidy_unknown first (begun_tidy world is.steady n free n_low n_up)

  first_bare : IsBare t first
  first_bare = unknown_bare first sound.first first_none

  -- a client begins one
  module _ (line : ScriptLine) where
    abbrev opened : Work
    opened = with_command line first

    answered : (work : Work) (said : Answer) → IsBare t work → IsBare t (answer line.client said work)
    answered work said bare = record { parts = λ part known. bare.parts part (sym (answer_leaves t line.client said work).node.part ∙ known); lent = (answer_leaves t line.client said work).node.around.loans ∙ bare.lent }

    abbrev manager : Manager
    manager = record opened.node.manager { begun = opened.node.manager.begun + 1 }

    abbrev began : Manager
    began = tm.begin line.client opened.node.manager

    begun_bare : IsBare t (begin_as line (tm.next_tid opened.node.manager) opened)
    begun_bare = answered entered answers.Done (record { parts = λ part known. by part (put_seen t (tm.next_tid opened.node.manager) (begun_participant line.client opened.node.manager.ticks) manager part known); lent = first_bare.lent })
      where
        entered : Work
        entered = enter (acts.Begin (tm.next_tid opened.node.manager) line.label line.client) (put_label (record { label = line.label; tid = Some (tm.next_tid opened.node.manager); owner = Some line.client }) (with_manager (tm.begin line.client) opened))

        by : (part : Participant) → IsSame t (tm.next_tid opened.node.manager) manager began part ⊎ IsPut t (tm.next_tid opened.node.manager) (begun_participant line.client opened.node.manager.ticks) part → IsYet part
        by part (inl same) = absurd (let was : part_of t first ≡ Some part = same.was in cc (was, first_none))
        by part (inr put) = subst IsYet (sym put.now) (record { unasked = refl; home = refl; causes = refl })

    begin_bare : IsBare t (begin_command line opened)
    begin_bare = by (tm.begin_fault opened.room opened.node.manager)
      where
        still : IsBare t opened
        still = record { parts = λ part known. first_bare.parts part known; lent = first_bare.lent }

        by : (o : Option BeginFault) → IsBare t (begin_or_refuse line o opened)
        by None = begun_bare
        by (Some (faults.LogFull need room)) = answered (put_label (record { label = line.label; tid = None; owner = Some line.client }) opened) (answers.LogFull need room) (record { parts = λ part known. first_bare.parts part known; lent = first_bare.lent })
        by (Some (faults.Last value)) = still
        by (Some faults.NoMemory) = still

  done_bare : IsBare t done
  unfolding n_low n_up
  done_bare = by event refl (done_tidy world is.steady n free n_low n_up event (fit world is n stamp free source event makes))
    where
      Tidy : Type 0
      Tidy = IsTidy (before world is.steady n free n_low n_up) done ⊎ ((begins_in event ≡ true) × IsTidy (behind world is.steady n free n_low n_up) done)

      plain : (e : Event) → event ≡ e → begins_in e ≡ false → Tidy → IsBare t done
      plain e same off (inl tidy) = unknown_bare done sound.done (tidy_unknown done tidy)
      plain e same off (inr one) = absurd (let on : begins_in e ≡ true = ap begins_in (sym same) ∙ one.0 in cc (on, off))

      by : (e : Event) → event ≡ e → Tidy → IsBare t done
      by (events.Command client line label commands.Begin) same tidy = subst (λ (x : Event). IsBare t (happen x first)) (sym same) (begin_bare (record { client = client; line = line; label = label; command = commands.Begin }))
      by (events.Command client line label commands.Commit) same tidy = plain (events.Command client line label commands.Commit) same refl tidy
      by (events.Command client line label commands.Abort) same tidy = plain (events.Command client line label commands.Abort) same refl tidy
      by (events.Command client line label commands.Take) same tidy = plain (events.Command client line label commands.Take) same refl tidy
      by (events.Command client line label commands.Yield) same tidy = plain (events.Command client line label commands.Yield) same refl tidy
      by (events.Command client line label (commands.Request member op)) same tidy = plain (events.Command client line label (commands.Request member op)) same refl tidy
      by (events.Received peer message) same tidy = plain (events.Received peer message) same refl tidy
      by events.ServeAll same tidy = plain events.ServeAll same refl tidy
      by (events.PeerRestarted peer old new) same tidy = plain (events.PeerRestarted peer old new) same refl tidy
      by events.Tick same tidy = plain events.Tick same refl tidy

  -- ---- so it stays

  turns : (tids : List Tid) (work : Work) → IsBare t work → AtEach (λ (work : Work) (tid : Tid). NotDue t work) settle_tid work tids
  turns [] work bare = tt
  turns (tid ∷ tids) work bare = (λ part known. pass_off t part work (bare.parts part known), turns tids (settle_tid work tid) (settled_bare t work tid bare))

  settled : (tids : List Tid) (work : Work) → IsBare t work → IsBare t (Rattle.std.proofs.Common.fold settle_tid work tids)
  settled [] work bare = bare
  settled (tid ∷ tids) work bare = settled tids (settle_tid work tid) (settled_bare t work tid bare)

  waits : (clients : List ClientNo) (work : Work) → NoneLent t work → AtEach (λ (work : Work) (client : ClientNo). NotBorrowed t work) wait_on work clients
  waits [] work none = tt
  waits (client ∷ clients) work none = (λ other loan taken given valid. none_borrowed t other loan work none taken given valid, waits clients (wait_on work client) (waited_none t work client none))

  begun_so : IsBegunBare t world n free event
  begun_so = record { turns = turns (due_tids done) done done_bare; waits = waits (waiting_clients (settle done)) (settle done) (settled (due_tids done) done done_bare).lent }

pub begun_is_bare : BegunBare
begun_is_bare t world n stamp free source event is makes home unbegun = begun_so t world n stamp free source event is makes home unbegun
