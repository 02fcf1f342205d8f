-- A transaction begins: the log says nothing of it.
use Rattle.qs_world_lawful.proofs.Words.{◌≡◌, ℕ, Bool, true, false, List, [], ◌∷◌, Some, None, refl, sym, ap, subst, ◌∙◌, is_some, lookup, is_at, tid_cmp, tid_total, Tid, Act, ScriptLine, at_exact, Inv, IsRising, put_rises, BookValue, find_transaction, effect, Record, Prepared, Recovery, recovery, begun_participant, Manager, Participant, enter, begin_as, put_label, Work, here, with_manager, entry_of, book_at, Every, Later, IsPrepared, IsKnown, StandsIn, KeepsRecords, KnowsLog, KeepsLogs, some_same}
use Rattle.qs_book_journal.specs.declared.entry.Act.TheVariants as acts
use Rattle.qs_ops.specs.declared.answer.Answer.TheVariants as answers
use Rattle.qs_tm.specs.Manager as tm
use Rattle.qs_world_lawful.proofs.LogActs.{fresh}
use Rattle.qs_world_lawful.proofs.LogKeeps.{run_plain, keeps_then, by_quiet, lawful_before, lawful_since, inv_at}
use Rattle.qs_world_lawful.proofs.LogRules.{log_of, held_without}
use Rattle.qs_world_lawful.proofs.Marks.{put_there, put_apart, keeps_marks}
use Rattle.qs_world_lawful.proofs.Recordless.{quiet_answer}

module _ (book later : BookValue) (on : Later book later) (log : Recovery) (manager new : Manager) (tid : Tid) (part : Participant) (none : find_transaction book tid ≡ None) (unprepared : part.log.prepared ≡ false) (unlisted : part.log.listed ≡ false)
    (known : new.known ≡ (tm.put_part tid part manager).known) where
  there : (t : Tid) → tm.part_of t new ≡ tm.part_of t (tm.put_part tid part manager)
  there t = ap (λ known. lookup (is_at (tid_cmp t)) known) known

  -- a vote of the log is of what stands
  known_still : (vote : Prepared) → StandsIn book vote × IsKnown manager vote → IsKnown new vote
  known_still vote h named undone = subst IsPrepared (sym (there vote.tid ∙ put_apart tid vote.tid part manager (apart (is_at (tid_cmp vote.tid) tid) refl))) (h.1 named undone)
    where
      clash : {X : Type 0} → None ≡ find_transaction book vote.tid → X
      clash e = absurd (cc (ap is_some e ∙ h.0))

      apart : (b : Bool) → is_at (tid_cmp vote.tid) tid ≡ b → is_at (tid_cmp vote.tid) tid ≡ false
      apart false is = is
      apart true is = clash (sym none ∙ ap (find_transaction book) (sym (at_exact vote.tid tid is)))

  every_both : (xs : List Prepared) → Every (StandsIn book) xs → Every (IsKnown manager) xs → Every (IsKnown new) xs
  every_both [] p q = tt
  every_both (x ∷ xs) p q = (known_still x (p.0, q.0), every_both xs p.1 q.1)

  knows_begun : Every (StandsIn book) log.prepared → KnowsLog book manager log → KnowsLog later new log
  knows_begun stands h = record {
    rising = subst (IsRising tid_cmp) (sym known) (put_rises tid_cmp tid_total tid part manager.known h.rising);
    votes = every_both log.prepared stands h.votes;
    parts = λ t q is. by t q (is_at (tid_cmp t) tid) refl (sym (there t) ∙ is);
  }
    where
      by : (t : Tid) (q : Participant) (b : Bool) → is_at (tid_cmp t) tid ≡ b → tm.part_of t (tm.put_part tid part manager) ≡ Some q → KeepsRecords later log t q
      by t q true same is =
          let e : t ≡ tid = at_exact t tid same in
          let own : part ≡ q = some_same (sym (put_there tid part manager) ∙ subst (λ (x : Tid). tm.part_of x (tm.put_part tid part manager) ≡ Some q) e is) in
          keeps_marks book later log on t q None (record { prepared = ap (λ p. p.log.prepared) (sym own) ∙ unprepared; listed = ap (λ p. p.log.listed) (sym own) ∙ unlisted }) (λ was e. absurd (cc e))
      by t q false far is =
          keeps_marks book later log on t q (Some q) (record { log = refl; outcome = refl; involved = λ x. x }) (λ was e. h.parts t was (sym (put_apart tid t part manager far) ∙ (is ∙ e)))

module _ (stamp : ℕ) (before : BookValue) (i : Inv before) (disk waiting : List Record) (line : ScriptLine) (work : Work) where
  abbrev tid : Tid
  tid = tm.next_tid work.node.manager

  abbrev act : Act
  act = acts.Begin tid line.label line.client

  abbrev entered : Work
  entered = enter act (put_label (record { label = line.label; tid = Some tid; owner = Some line.client }) (with_manager (tm.begin line.client) work))

  by_entered : KeepsLogs stamp before disk waiting work entered
  by_entered = record {
    more = act ∷ [];
    entries = refl;
    setting = refl;
    keeps = λ lawful h.
        let book : BookValue = book_at stamp before work in
        let at : ℕ = (here work).0 in
        let since = lawful_since stamp before i disk waiting work entered (act ∷ []) refl refl lawful in
        let i_now = inv_at stamp before i disk waiting work (lawful_before stamp before i disk waiting work entered (act ∷ []) refl refl lawful) in
        let run = run_plain stamp at (act ∷ []) book h.state i_now h.named h.there (refl, tt) since in
        held_without stamp before i disk waiting work entered h (act ∷ []) refl refl refl (record {
          later = run.later;
          named = run.named;
          next = run.next;
          there = run.there;
          all = run.logged (log_of stamp before i disk waiting work) h.all;
          knows = knows_begun book (effect book (entry_of at stamp act)) run.later (log_of stamp before i disk waiting work) work.node.manager entered.node.manager tid (begun_participant line.client work.node.manager.ticks)
              (fresh book stamp at h.state i_now h.there tid line.label line.client since.0) refl refl refl h.all.stands h.knows;
          on_disk = λ unforced. run.logged (recovery disk) (h.on_disk unforced);
          alike = h.alike;
        });
  }

  pub by_begin_as : KeepsLogs stamp before disk waiting work (begin_as line tid work)
  by_begin_as = keeps_then stamp before i disk waiting work entered (begin_as line tid work) by_entered (by_quiet stamp before i disk waiting entered (begin_as line tid work) (quiet_answer line.client answers.Done entered))
