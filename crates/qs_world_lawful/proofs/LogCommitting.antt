-- A node decides or learns commit: its members learn it, and the log has the Commit where it has a Prepare or a node is to be told.
use Rattle.qs_world_lawful.proofs.Words.{◌≡◌, inl, inr, ℕ, Bool, true, false, List, [], ◌∷◌, ◌++◌, Option, Some, None, refl, sym, ap, subst, ◌∙◌, is_some, ◌||◌, NodeNo, ServerNo, Tid, Act, Entry, TransactionValue, BookValue, find_transaction, cell_of_transaction, IsLawful, book_after, is_among, Inv, after_both, lawful_front, lawful_rest, Record, Recovery, recovery, names_transaction, found_commit, InLog, Participant, Work, here, entries_of, entries_so_far, book_at, Every, HasCommitted, IsPrepared}
use Rattle.qs_world_lawful.proofs.Words.{IsKnown, HoldsLogs, IsPlain, or-true}
use Rattle.qs_base.specs.declared.identifiers.Outcome.TheVariants as outcomes
use Rattle.qs_book_machine.specs.declared.transaction.Cell.TheVariants as cells
use Rattle.qs_record.specs.declared.record.Record.TheVariants as records
use Rattle.qs_world_lawful.proofs.LogFrames.{every_on}
use Rattle.qs_world_lawful.proofs.LogKeeps.{RanOn, run_plain, later_then, map_both, lawful_before, lawful_since, inv_at}
use Rattle.qs_world_lawful.proofs.LogLearning.{IsClear, LearntAll, learn_acts, all_learn, clear}
use Rattle.qs_world_lawful.proofs.LogMarks.{ChangesPart, known_ended, known_marked, known_unprepared, knows_changed}
use Rattle.qs_world_lawful.proofs.LogRecords.{by_commit, among_now, among_on}
use Rattle.qs_world_lawful.proofs.LogRules.{LoggedWith, log_of, held_with, held_without}
use Rattle.qs_world_lawful.proofs.Marks.{knows_on, knows_self}

module _ (stamp : ℕ) (before : BookValue) (i : Inv before) (disk waiting : List Record) (work new : Work) (h : HoldsLogs stamp before disk waiting work) (tid : Tid) (front : List Act) (servers : List ServerNo)
    (grows : new.out.entries ≡ work.out.entries ++ (front ++ learn_acts (here work) tid servers)) (same : new.node.setting ≡ work.node.setting) (plain : Every IsPlain front) (lawful : IsLawful before (entries_so_far stamp new)) where
  abbrev at : ℕ
  at = (here work).0

  abbrev book : BookValue
  book = book_at stamp before work

  abbrev more : List Act
  more = front ++ learn_acts (here work) tid servers

  abbrev first : List Entry
  first = entries_of at stamp front

  abbrev second : List Entry
  second = entries_of at stamp (learn_acts (here work) tid servers)

  abbrev pub mid : BookValue
  mid = book_after book first

  abbrev last : BookValue
  last = book_after mid second

  abbrev log : Recovery
  log = log_of stamp before i disk waiting work

  lawful_both : IsLawful book (first ++ second)
  lawful_both = subst (IsLawful book) (map_both at stamp front (learn_acts (here work) tid servers)) (lawful_since stamp before i disk waiting work new more grows same lawful)

  last_is : book_after book (entries_of at stamp more) ≡ last
  last_is = ap (book_after book) (map_both at stamp front (learn_acts (here work) tid servers)) ∙ after_both first second book

  pub begun : RanOn at book mid h.state
  begun = run_plain stamp at front book h.state (inv_at stamp before i disk waiting work (lawful_before stamp before i disk waiting work new more grows same lawful)) h.named h.there plain (lawful_front first second book lawful_both)

  learnt : LearntAll at tid mid last begun.next
  learnt = all_learn stamp at tid servers mid begun.next begun.inv begun.named begun.there (lawful_rest first second book lawful_both)

  module _ (done : HasCommitted mid tid) (was now : Participant) (c : ChangesPart tid work.node.manager new.node.manager was now) (knows_commit : now.outcome ≡ Some outcomes.Commit) where
    never : {X : Type 0} (b : Bool) → b ≡ false → b ≡ true → X
    never b no_b yes_b = absurd (cc (sym no_b ∙ yes_b))

    named : names_transaction tid ≡ true
    named = begun.named tid (stands (find_transaction mid tid) done)
      where
        stands : (o : Option TransactionValue) → cell_of_transaction o ≡ Some cells.Commit → is_some o ≡ true
        stands None e = absurd (cc e)
        stands (Some tx) e = refl

    now_done : HasCommitted last tid
    now_done = learnt.later.committed tid done

    -- the Commit is recorded
    module _ (told : List NodeNo) where
      committed_is : (told : List NodeNo) → (P : List Tid → Type 0) → P (found_commit tid [] log).committed → P (found_commit tid told log).committed
      committed_is [] P p = p
      committed_is (node ∷ told) P p = p

      among : is_among (found_commit tid told log).committed tid ≡ true
      among = committed_is told (λ ts. is_among ts tid ≡ true) (among_now at mid begun.next log (begun.logged log h.all) tid named done)

      more_among : (t : Tid) → is_among log.committed t ≡ true → is_among (found_commit tid told log).committed t ≡ true
      more_among t is = committed_is told (λ ts. is_among ts t ≡ true) (among_on at mid begun.next log (begun.logged log h.all) tid named done t is)

      votes_known : (told : List NodeNo) → Every (IsKnown new.node.manager) (found_commit tid told log).prepared
      votes_known [] = known_ended tid work.node.manager new.node.manager was now c log.prepared h.knows.votes
      votes_known (node ∷ told) = known_marked tid work.node.manager new.node.manager was now c log.prepared h.knows.votes

      pub held_committed : new.out.records ≡ work.out.records ++ records.Commit tid told ∷ [] → new.out.force ≡ (work.out.force || true) → now.log.prepared ≡ false → HoldsLogs stamp before disk waiting new
      held_committed made forced prepared = held_with stamp before i disk waiting work new h more grows same (records.Commit tid told) made
          (subst (λ (b : BookValue). LoggedWith at book b new.node.manager (found_commit tid told log) (recovery disk) new.out.force) (sym last_is) (record {
            later = later_then book mid last begun.later learnt.later;
            named = learnt.named;
            next = learnt.next;
            there = learnt.there;
            all = learnt.logged (found_commit tid told log) (inl among) (by_commit at mid begun.next log (begun.logged log h.all) tid named done told);
            knows = knows_changed tid work.node.manager new.node.manager was now c book last (later_then book mid last begun.later learnt.later) log (found_commit tid told log) more_among
                (record {
                  involved = λ is. never now.log.prepared prepared is;
                  undone = λ is. never now.log.prepared prepared is;
                  aborted = λ is. never now.log.prepared prepared is;
                  listed = λ is. knows_commit;
                  committed = λ is. now_done;
                  has_commit = λ is. among;
                })
                (votes_known told) h.knows;
            on_disk = λ unforced. is_forced unforced;
            alike = λ unforced. is_forced unforced;
          }))
        where
          is_forced : {X : Type 0} → new.out.force ≡ false → X
          is_forced unforced = absurd (cc (sym (forced ∙ or-true work.out.force) ∙ unforced))

    -- the log has no Prepare of it, and nobody is to be told
    pub held_unwritten : new.out.records ≡ work.out.records → new.out.force ≡ work.out.force → was.log.prepared ≡ false → now.log ≡ was.log → HoldsLogs stamp before disk waiting new
    held_unwritten made forced prepared marks = held_without stamp before i disk waiting work new h more grows same made
        (subst (λ (b : BookValue). LoggedWith at book b new.node.manager log (recovery disk) new.out.force) (sym last_is) (record {
          later = later_then book mid last begun.later learnt.later;
          named = learnt.named;
          next = learnt.next;
          there = learnt.there;
          all = learnt.logged log is_clear (begun.logged log h.all);
          knows = knows_changed tid work.node.manager new.node.manager was now c book last (later_then book mid last begun.later learnt.later) log log (λ t is. is)
              (record {
                involved = λ is. never now.log.prepared (unprepared_now) is;
                undone = λ is. never now.log.prepared (unprepared_now) is;
                aborted = λ is. never now.log.prepared (unprepared_now) is;
                listed = λ is. knows_commit;
                committed = λ is. now_done;
                has_commit = λ is. (h.knows.parts tid was c.before).has_commit (sym (ap (λ (l : InLog). l.listed) marks) ∙ is);
              })
              (every_on (IsKnown work.node.manager) (IsKnown new.node.manager) (known_unprepared tid work.node.manager new.node.manager was now c prepared) log.prepared h.knows.votes) h.knows;
          on_disk = λ unforced. learnt.logged (recovery disk) (on_disk_clear (sym forced ∙ unforced) is_clear) (begun.logged (recovery disk) (h.on_disk (sym forced ∙ unforced)));
          alike = λ unforced. h.alike (sym forced ∙ unforced);
        }))
      where
        unprepared_now : now.log.prepared ≡ false
        unprepared_now = ap (λ (l : InLog). l.prepared) marks ∙ prepared

        is_clear : IsClear tid begun.next log
        is_clear = clear at mid begun.next work.node.manager log tid done (begun.logged log h.all) (knows_on book mid work.node.manager work.node.manager log begun.later (knows_self work.node.manager) h.knows)
            (λ is. never was.log.prepared prepared (subst IsPrepared c.before is))

        on_disk_clear : work.out.force ≡ false → IsClear tid begun.next log → IsClear tid begun.next (recovery disk)
        on_disk_clear unforced (inl is) = inl (ap (λ (ts : List Tid). is_among ts tid) (sym (h.alike unforced)) ∙ is)
        on_disk_clear unforced (inr none) = inr none
