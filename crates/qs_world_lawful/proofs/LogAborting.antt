-- A node learns or decides abort: the log has Aborted where it has a Prepare, and the node knows that it is ended.
use Rattle.qs_world_lawful.proofs.Words.{◌≡◌, inl, ℕ, Bool, true, false, List, [], ◌∷◌, ◌++◌, refl, sym, ap, ◌∙◌, ◌||◌, Tid, Act, BookValue, IsLawful, book_after, Inv, Record, Recovery, recovery, Participant, InLog, Work, here, entries_of, entries_so_far, book_at, Every, HasAborted, IsKnown, KeepsRecords, HoldsLogs, IsPlain}
use Rattle.qs_record.specs.declared.record.Record.TheVariants as records
use Rattle.qs_restart.specs.Recovery.{ended}
use Rattle.qs_world_lawful.proofs.LogFrames.{every_on}
use Rattle.qs_world_lawful.proofs.LogKeeps.{RanOn, run_plain, lawful_before, lawful_since, inv_at}
use Rattle.qs_world_lawful.proofs.LogMarks.{ChangesPart, known_ended, known_unprepared, knows_changed}
use Rattle.qs_world_lawful.proofs.LogRecords.{by_ended}
use Rattle.qs_world_lawful.proofs.LogRules.{log_of, held_with, held_without}

module _ (stamp : ℕ) (before : BookValue) (i : Inv before) (disk waiting : List Record) (work new : Work) (h : HoldsLogs stamp before disk waiting work) (more : List Act)
    (grows : new.out.entries ≡ work.out.entries ++ more) (same : new.node.setting ≡ work.node.setting) (plain : Every IsPlain more) (lawful : IsLawful before (entries_so_far stamp new))
    (tid : Tid) (was now : Participant) (c : ChangesPart tid work.node.manager new.node.manager was now) where
  abbrev at : ℕ
  at = (here work).0

  abbrev book : BookValue
  book = book_at stamp before work

  abbrev after : BookValue
  after = book_after book (entries_of at stamp more)

  abbrev log : Recovery
  log = log_of stamp before i disk waiting work

  pub ran_on : RanOn at book after h.state
  ran_on = run_plain stamp at more book h.state (inv_at stamp before i disk waiting work (lawful_before stamp before i disk waiting work new more grows same lawful)) h.named h.there plain (lawful_since stamp before i disk waiting work new more grows same lawful)

  never : {X : Type 0} (b : Bool) → b ≡ false → b ≡ true → X
  never b no_b yes_b = absurd (cc (sym no_b ∙ yes_b))

  unmarked : (longer : Recovery) → now.log.prepared ≡ false → (now.log.listed ≡ true → ⊥) → KeepsRecords after longer tid now
  unmarked longer prepared listed = record {
    involved = λ is. never now.log.prepared prepared is;
    undone = λ is. never now.log.prepared prepared is;
    aborted = λ is. never now.log.prepared prepared is;
    listed = λ is. absurd (listed is);
    committed = λ is. absurd (listed is);
    has_commit = λ is. absurd (listed is);
  }

  or_false : (b : Bool) → (b || false) ≡ false → b ≡ false
  or_false false e = refl
  or_false true e = absurd (cc e)

  -- with its record
  pub held_aborted : new.out.records ≡ work.out.records ++ records.Aborted tid ∷ [] → new.out.force ≡ (work.out.force || false) → HasAborted after tid → now.log.prepared ≡ false → now.log.listed ≡ false → HoldsLogs stamp before disk waiting new
  held_aborted made forced aborted prepared listed = held_with stamp before i disk waiting work new h more grows same (records.Aborted tid) made (record {
    later = ran_on.later;
    named = ran_on.named;
    next = ran_on.next;
    there = ran_on.there;
    all = by_ended at after ran_on.next log (ran_on.logged log h.all) tid (inl aborted);
    knows = knows_changed tid work.node.manager new.node.manager was now c book after ran_on.later log (ended tid log) (λ t is. is)
        (unmarked (ended tid log) prepared (λ is. never now.log.listed listed is))
        (known_ended tid work.node.manager new.node.manager was now c log.prepared h.knows.votes) h.knows;
    on_disk = λ unforced. ran_on.logged (recovery disk) (h.on_disk (still unforced));
    alike = λ unforced. h.alike (still unforced);
  })
    where
      still : new.out.force ≡ false → work.out.force ≡ false
      still unforced = or_false work.out.force (sym forced ∙ unforced)

  -- where the log has no Prepare of it
  pub held_unrecorded : new.out.records ≡ work.out.records → new.out.force ≡ work.out.force → was.log.prepared ≡ false → now.log ≡ was.log → (was.log.listed ≡ true → ⊥) → HoldsLogs stamp before disk waiting new
  held_unrecorded made forced prepared marks listed = held_without stamp before i disk waiting work new h more grows same made (record {
    later = ran_on.later;
    named = ran_on.named;
    next = ran_on.next;
    there = ran_on.there;
    all = ran_on.logged log h.all;
    knows = knows_changed tid work.node.manager new.node.manager was now c book after ran_on.later log log (λ t is. is)
        (unmarked log (ap (λ (l : InLog). l.prepared) marks ∙ prepared) (λ is. listed (sym (ap (λ (l : InLog). l.listed) marks) ∙ is)))
        (every_on (IsKnown work.node.manager) (IsKnown new.node.manager) (known_unprepared tid work.node.manager new.node.manager was now c prepared) log.prepared h.knows.votes) h.knows;
    on_disk = λ unforced. ran_on.logged (recovery disk) (h.on_disk (sym forced ∙ unforced));
    alike = λ unforced. h.alike (sym forced ∙ unforced);
  })
