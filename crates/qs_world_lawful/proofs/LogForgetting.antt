-- What is ended is forgotten, and so is what was only read; and a transaction begins.
use Rattle.qs_world_lawful.proofs.Words.{◌≡◌, inr, ℕ, Bool, true, false, List, [], Option, Some, None, refl, sym, subst, ◌∙◌, append-nil, ◌||◌, is_at, tid_cmp, same_tid, same_tid-true, Tid, at_exact, Inv, remove_rises, removed, removed_apart, BookValue, Record, Prepared, Recovery, Manager, Participant, log, Work, here, forget, book_at, IsPrepared, IsKnown, KeepsRecords, KnowsLog, HoldsLogs, KeepsLogs}
use Rattle.qs_record.specs.declared.record.Record.TheVariants as records
use Rattle.qs_restart.specs.Recovery.{ended}
use Rattle.qs_tm.specs.Manager as tm
use Rattle.qs_tm.specs.Outcomes as outcome_rules
use Rattle.qs_node_step.specs.State.{part_of}
use Rattle.qs_world_lawful.proofs.LogFrames.{every_on}
use Rattle.qs_world_lawful.proofs.LogKeeps.{later_self}
use Rattle.qs_world_lawful.proofs.LogMarks.{ChangesPart, turned, changes_part, known_ended, knows_changed, apart_is}
use Rattle.qs_world_lawful.proofs.LogRecords.{by_ended}
use Rattle.qs_world_lawful.proofs.LogRules.{log_of, held_with, held_without}

-- ---- it is known no more

known_forgotten : (tid : Tid) (manager : Manager) → (IsPrepared (tm.part_of tid manager) → ⊥) → (vote : Prepared) → IsKnown manager vote → IsKnown (tm.forget tid manager) vote
known_forgotten tid manager unprepared vote is named undone = by (same_tid vote.tid tid) refl
  where
    by : (b : Bool) → same_tid vote.tid tid ≡ b → IsPrepared (tm.part_of vote.tid (tm.forget tid manager))
    by true same = absurd (unprepared (subst (λ (t : Tid). IsPrepared (tm.part_of t manager)) (same_tid-true vote.tid tid same) (is named undone)))
    by false far = subst IsPrepared (sym (removed_apart (is_at (tid_cmp tid)) (is_at (tid_cmp vote.tid)) (turned vote.tid tid (apart_is vote.tid tid far)) manager.known)) (is named undone)

pub knows_forgotten : (book : BookValue) (manager : Manager) (log : Recovery) (tid : Tid) → (IsPrepared (tm.part_of tid manager) → ⊥) → KnowsLog book manager log → KnowsLog book (tm.forget tid manager) log
knows_forgotten book manager log tid unprepared h = record {
  rising = remove_rises tid_cmp (is_at (tid_cmp tid)) manager.known h.rising;
  votes = every_on (IsKnown manager) (IsKnown (tm.forget tid manager)) (known_forgotten tid manager unprepared) log.prepared h.votes;
  parts = λ t part is. by t part is (is_at (tid_cmp t) tid) refl;
}
  where
    clash : {X : Type 0} (part : Participant) → None ≡ Some part → X
    clash part e = absurd (cc e)

    by : (t : Tid) (part : Participant) → tm.part_of t (tm.forget tid manager) ≡ Some part → (b : Bool) → is_at (tid_cmp t) tid ≡ b → KeepsRecords book log t part
    by t part is true same =
        let e : t ≡ tid = at_exact t tid same in
        clash part (sym (removed tid_cmp at_exact tid manager.known h.rising) ∙ subst (λ (x : Tid). tm.part_of x (tm.forget tid manager) ≡ Some part) e is)
    by t part is false far = h.parts t part (sym (removed_apart (is_at (tid_cmp tid)) (is_at (tid_cmp t)) (turned t tid far) manager.known) ∙ is)

module _ (stamp : ℕ) (before : BookValue) (i : Inv before) (disk waiting : List Record) (tid : Tid) (work : Work) where
  -- it was only read
  pub by_forget : (HoldsLogs stamp before disk waiting work → (part : Participant) → part_of tid work ≡ Some part → part.log.prepared ≡ true → ⊥) → KeepsLogs stamp before disk waiting work (forget tid work)
  by_forget unprepared = record {
    more = [];
    entries = sym (append-nil work.out.entries);
    setting = refl;
    keeps = λ lawful h. held_without stamp before i disk waiting work (forget tid work) h [] (sym (append-nil work.out.entries)) refl refl (record {
      later = later_self (book_at stamp before work);
      named = h.named;
      next = h.state;
      there = h.there;
      all = h.all;
      knows = knows_forgotten (book_at stamp before work) work.node.manager (log_of stamp before i disk waiting work) tid (none h) h.knows;
      on_disk = h.on_disk;
      alike = h.alike;
    });
  }
    where
      none : HoldsLogs stamp before disk waiting work → IsPrepared (tm.part_of tid work.node.manager) → ⊥
      none h is = by (tm.part_of tid work.node.manager) refl is
        where
          by : (o : Option Participant) → tm.part_of tid work.node.manager ≡ o → IsPrepared o → ⊥
          by None at p = p
          by (Some part) at p = unprepared h part at p

  -- all that were to be told took it in
  module _ (part : Participant) (known : part_of tid work ≡ Some part) (listed : part.log.listed ≡ true) where
    abbrev pub logged : Work
    logged = log (records.End tid) work

    abbrev now : Participant
    now = outcome_rules.logged (records.End tid) part

    pub changed : ChangesPart tid work.node.manager logged.node.manager part now
    changed = changes_part tid (outcome_rules.logged (records.End tid)) work.node.manager part known

    or_false : (b : Bool) → (b || false) ≡ false → b ≡ false
    or_false false e = refl
    or_false true e = absurd (cc e)

    never : {X : Type 0} → false ≡ true → X
    never e = absurd (cc e)

    pub by_end_record : KeepsLogs stamp before disk waiting work logged
    by_end_record = record {
      more = [];
      entries = sym (append-nil work.out.entries);
      setting = refl;
      keeps = λ lawful h.
          let book : BookValue = book_at stamp before work in
          let said : Recovery = log_of stamp before i disk waiting work in
          let k : KeepsRecords book said tid part = h.knows.parts tid part known in
          held_with stamp before i disk waiting work logged h [] (sym (append-nil work.out.entries)) refl (records.End tid) refl (record {
            later = later_self book;
            named = h.named;
            next = h.state;
            there = h.there;
            all = by_ended (here work).0 book h.state said h.all tid (inr (k.has_commit listed));
            knows = knows_changed tid work.node.manager logged.node.manager part now changed book book (later_self book) said (ended tid said) (λ t is. is)
                (record { involved = never; undone = never; aborted = never; listed = never; committed = never; has_commit = never })
                (known_ended tid work.node.manager logged.node.manager part now changed said.prepared h.knows.votes) h.knows;
            on_disk = λ unforced. h.on_disk (or_false work.out.force unforced);
            alike = λ unforced. h.alike (or_false work.out.force unforced);
          });
    }
