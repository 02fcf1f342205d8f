-- Which record an outcome makes that a node is told, and the last acknowledgement of a Commit; what the log has marked then it had marked as the step began.
use Rattle.qs_world_runs.proofs.Words.{◌≡◌, ◌⊎◌, inl, inr, ℕ, ◌≤◌, ◌+◌, arith, append-nil, ◌||◌, Bool, true, false, List, [], ◌∷◌, Option, Some, None, refl, sym, ap, subst, ◌∙◌, if◌then◌else◌, is_at, same_tid, tid_cmp, NodeNo, Tid, same_node, at_exact, Record, log_if, send, give_notices, Work, here, with_manager, end_record, end_told, learn, learn_unknown, names_at, take_names, take_outcome, take_told, tell_came, told_at_home, told_came, told_known, told_unknown, Event, is_undecided, Manager}
use Rattle.qs_world_runs.proofs.Words.{InLog, Participant, Quiet, quiet_send, decides_of, one_if, told_commit, and_first, some_same, zero_le, or_right}
use Rattle.qs_base.specs.declared.identifiers.Outcome.{Outcome}
use Rattle.qs_base.specs.declared.identifiers.Outcome.TheVariants as outcomes
use Rattle.qs_packet.specs.declared.message.Message.TheVariants as messages
use Rattle.qs_record.specs.declared.record.Record.TheVariants as made
use Rattle.qs_node_step.specs.Bringing.{log}
use Rattle.qs_node_step.specs.State.{NodeValue, part_of}
use Rattle.qs_node_step.specs.declared.event.Event.TheVariants as events
use Rattle.qs_tm.specs.Manager as tm
use Rattle.qs_tm.specs.Outcomes as outcome_rules
use Rattle.qs_world_lawful.proofs.LogMarks.{ChangesPart, changes_part}
use Rattle.qs_world_lawful.proofs.Marks.{KnowsOn, MarksOn}
use Rattle.qs_world_lawful.proofs.QuietCommands.{quiet_learn_unknown, quiet_names, quiet_told_unknown}
use Rattle.qs_world_runs.specs.CutRecords.{IsLastTold, IsResumed, IsTold}
use Rattle.qs_world_runs.proofs.RecordMakes.{Makes, makes_if, makes_quiet, makes_self, makes_then, none_told, then_makes}
use Rattle.qs_world_runs.proofs.RecordRules.{M, noticed, still}

more_told : (n k m : ℕ) → n ≤ k + 0 → n ≤ k + m
more_told n k m p = grind (arith, p)

-- ---- what is marked in the log was so as the step began

abbrev pub is_marked : Participant → Bool
is_marked part = part.log.prepared || part.log.listed

pub record WasSo (start : Manager) (tid : Tid) (part : Participant) : Type 0 where
  pub was : Participant
  pub known : tm.part_of tid start ≡ Some was
  pub prepared : part.log.prepared ≡ true → was.log.prepared ≡ true
  pub listed : part.log.listed ≡ true → was.log.listed ≡ true
  pub outcome : was.outcome ≡ part.outcome

abbrev pub Back : Manager → Manager → Type 0
Back start now = (tid : Tid) (part : Participant) → tm.part_of tid now ≡ Some part → is_marked part ≡ true → WasSo start tid part

pub back_self : (start : Manager) → Back start start
back_self start tid part known marked = record { was = part; known = known; prepared = λ is. is; listed = λ is. is; outcome = refl }

was_on : (start : Manager) (tid : Tid) (old : Option Participant) (part : Participant) → MarksOn old (Some part) → ((q : Participant) → old ≡ Some q → is_marked q ≡ true → WasSo start tid q) → is_marked part ≡ true → WasSo start tid part
was_on start tid None part unmarked back marked = absurd (let off : is_marked part ≡ false = rw (unmarked.prepared, unmarked.listed) refl in cc (off, marked))
was_on start tid (Some q) part same back marked =
    let w : WasSo start tid q = back q refl (sym (ap (λ (l : InLog). l.prepared || l.listed) same.log) ∙ marked) in
    record { was = w.was; known = w.known; prepared = λ is. w.prepared (sym (ap (λ (l : InLog). l.prepared) same.log) ∙ is); listed = λ is. w.listed (sym (ap (λ (l : InLog). l.listed) same.log) ∙ is); outcome = w.outcome ∙ sym same.outcome }

pub back_on : (start old new : Manager) → KnowsOn old new → Back start old → Back start new
back_on start old new on back tid part known marked = was_on start tid (tm.part_of tid old) part (subst (MarksOn (tm.part_of tid old)) known (on.marks tid)) (λ q is m. back tid q is m) marked

-- and of what is ended nothing is marked any more
pub back_aborted : (start old : Manager) (t : Tid) (q : Participant) → tm.part_of t old ≡ Some q → Back start old → Back start (tm.logged t (made.Aborted t) old)
back_aborted start old t q there back tid part known marked = by (is_at (tid_cmp tid) t) refl
  where
    c : ChangesPart t old (tm.logged t (made.Aborted t) old) q (outcome_rules.logged (made.Aborted t) q)
    c = changes_part t (outcome_rules.logged (made.Aborted t)) old q there

    by : (b : Bool) → is_at (tid_cmp tid) t ≡ b → WasSo start tid part
    by true near = absurd (let same : outcome_rules.logged (made.Aborted t) q ≡ part = some_same (sym c.now ∙ subst (λ (x : Tid). tm.part_of x (tm.logged t (made.Aborted t) old) ≡ Some part) (at_exact tid t near) known) in
        let off : is_marked part ≡ false = ap is_marked (sym same) in cc (off, marked))
    by false far = was_on start tid (tm.part_of tid old) part (subst (MarksOn (tm.part_of tid old)) known (c.others tid far)) (λ x is m. back tid x is m) marked

module _ (start : NodeValue) (event : Event) where
  abbrev pub me : NodeNo
  me = start.setting.node

  abbrev pub Else : Record → Type 0
  Else rec = IsTold start event rec ⊎ (IsLastTold start rec ⊎ IsResumed start rec)

  abbrev pub K : Work → Work → Type 0
  K = M me Else

  abbrev pub T : Work → Work → Type 0
  T work new = Makes me Else (told_commit event) work new

  pub self : (work : Work) → K work work
  self work = makes_self me Else work

  pub quiet : (work new : Work) → Quiet work new → K work new
  quiet work new q = makes_quiet me Else work new q

  pub k_then : (work mid new : Work) → K work mid → K mid new → K work new
  k_then = makes_then me Else none_told

  pub told_less : (work new : Work) → K work new → T work new
  told_less work new m = record { more = m.more; made = m.made; entries = m.entries; records = m.records; setting = m.setting; from = m.from; once = λ tid. more_told _ (decides_of tid m.more) (told_commit event tid) (m.once tid); puts = m.puts }

  -- ---- what is told

  module _ (work : Work) (setting : work.node.setting ≡ start.setting) (back : Back start.manager work.node.manager) where
    -- an outcome
    module _ (peer : NodeNo) (tid : Tid) (outcome : Outcome) (comes : event ≡ events.Received peer (messages.Tell tid outcome)) (away : same_node tid.home (here work) ≡ false) where
      learn_makes : (part : Participant) → part_of tid work ≡ Some part → T work (learn tid outcome part work)
      learn_makes part known = by part.log.prepared refl
        where
          took : Work
          took = with_manager (tm.took_outcome tid outcome) work

          done : Work
          done = give_notices tid outcome took

          first : K work done
          first = k_then work took done (still me Else work took refl refl) (noticed me Else tid None work outcome took)

          counted : (o : Outcome) → outcome ≡ o → (t : Tid) → told_commit (events.Received peer (messages.Tell tid o)) t ≡ told_commit event t
          counted o is t = ap (λ (x : Outcome). told_commit (events.Received peer (messages.Tell tid x)) t) (sym is) ∙ ap (λ (e : Event). told_commit e t) (sym comes)

          source : part.log.prepared ≡ true → (rec : Record) → rec ≡ end_record tid outcome → Else rec
          source prepared rec is = let w : WasSo start.manager tid part = back tid part known (rw prepared refl) in
              inl (record { peer = peer; tid = tid; outcome = outcome; comes = comes; away = sym (ap (λ s. same_node tid.home s.node) setting) ∙ away; part = w.was; known = w.known; prepared = w.prepared prepared; is = is })

          last : (o : Outcome) → outcome ≡ o → part.log.prepared ≡ true → T done (log (end_record tid o) done)
          last outcomes.Commit is prepared = record {
            more = [];
            made = made.Commit tid [] ∷ [];
            entries = sym (append-nil done.out.entries);
            records = refl;
            setting = refl;
            from = λ at. (inr (source prepared (made.Commit tid []) (ap (end_record tid) (sym is))), tt);
            once = λ t. subst (λ (n : ℕ). one_if (same_tid tid t) + 0 ≤ 0 + n) (counted outcomes.Commit is t) (equal (one_if (same_tid tid t)));
            puts = tt;
          }
            where
              equal : (n : ℕ) → n + 0 ≤ 0 + n
              equal n = grind (arith)
          last outcomes.Abort is prepared = record {
            more = [];
            made = made.Aborted tid ∷ [];
            entries = sym (append-nil done.out.entries);
            records = refl;
            setting = refl;
            from = λ at. (inr (source prepared (made.Aborted tid) (ap (end_record tid) (sym is))), tt);
            once = λ t. zero_le _;
            puts = tt;
          }

          by : (b : Bool) → part.log.prepared ≡ b → T work (log_if (if b then Some (end_record tid outcome) else None) done)
          by true prepared = then_makes me Else (told_commit event) work done (log (end_record tid outcome) done) first (last outcome refl prepared)
          by false prepared = told_less work done first

      outcome_makes : T work (take_outcome tid outcome work)
      outcome_makes = by (part_of tid work) refl
        where
          by : (o : Option Participant) → part_of tid work ≡ o → T work (elim o [ None ↦ learn_unknown tid outcome work | Some part ↦ if is_undecided part then learn tid outcome part work else work ])
          by None none = told_less work (learn_unknown tid outcome work) (quiet work (learn_unknown tid outcome work) (quiet_learn_unknown tid outcome work))
          by (Some part) known = of (is_undecided part)
            where
              of : (b : Bool) → T work (if b then learn tid outcome part work else work)
              of true = learn_makes part known
              of false = told_less work work (self work)

    pub tell_makes : (peer : NodeNo) (tid : Tid) (outcome : Outcome) → event ≡ events.Received peer (messages.Tell tid outcome) → T work (tell_came peer tid outcome work)
    tell_makes peer tid outcome comes = by (same_node tid.home (here work)) refl
      where
        taken : Work
        taken = take_outcome tid outcome work

        by : (b : Bool) → same_node tid.home (here work) ≡ b → T work (if b then work else send peer (messages.Told tid (names_at tid outcome work)) taken)
        by true near = told_less work work (self work)
        by false away = makes_then me Else (told_commit event) work taken (send peer (messages.Told tid (names_at tid outcome work)) taken) (outcome_makes peer tid outcome comes away) (quiet taken (send peer (messages.Told tid (names_at tid outcome work)) taken) (quiet_send peer (messages.Told tid (names_at tid outcome work)) taken))

    -- that it was taken in
    take_told_makes : (peer : NodeNo) (tid : Tid) → K work (take_told peer tid work)
    take_told_makes peer tid = k_then work acked (take_told peer tid work) (still me Else work acked refl refl) (by (tm.all_acknowledged tid peer work.node.manager) refl)
      where
        acked : Work
        acked = with_manager (tm.acknowledged tid peer) work

        of : (o : Option Participant) → part_of tid work ≡ o → ◌≡◌ {A = Bool} (elim o [ None ↦ false | Some part ↦ outcome_rules.is_all_told (outcome_rules.acknowledged peer part) ]) true → IsLastTold start (made.End tid)
        of None none is = absurd (cc is)
        of (Some part) known is = let w : WasSo start.manager tid part = back tid part known (or_right part.log.prepared part.log.listed (and_first part.log.listed _ is)) in record { tid = tid; part = w.was; known = w.known; listed = w.listed (and_first part.log.listed _ is); is = refl }

        by : (b : Bool) → tm.all_acknowledged tid peer work.node.manager ≡ b → K acked (end_told b tid acked)
        by false is = self acked
        by true is = record {
          more = [];
          made = made.End tid ∷ [];
          entries = sym (append-nil acked.out.entries);
          records = refl;
          setting = refl;
          from = λ at. (inr (inr (inl (of (part_of tid work) refl is))), tt);
          once = λ t. zero_le _;
          puts = tt;
        }

    pub told_makes : (peer : NodeNo) (tid : Tid) (further : List NodeNo) → K work (told_came peer tid further work)
    told_makes peer tid further = makes_if me Else (same_node tid.home (here work)) work (told_at_home peer tid further work) work (by (part_of tid work)) (self work)
      where
        of : (o : Option Outcome) → K work (told_known peer tid further o work)
        of None = self work
        of (Some outcomes.Commit) = take_told_makes peer tid
        of (Some outcomes.Abort) = quiet work (take_names tid further work) (quiet_names tid further work)

        by : (o : Option Participant) → K work (elim o [ None ↦ told_unknown peer tid further work | Some part ↦ told_known peer tid further part.outcome work ])
        by None = quiet work (told_unknown peer tid further work) (quiet_told_unknown peer tid further work)
        by (Some part) = of part.outcome
