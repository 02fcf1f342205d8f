-- Once a step logged a Prepare of a transaction its node is engaged for it to the end of the step, or has decided it: it says Yes in a later step.
use Rattle.qs_world_refine.proofs.Words.{◌≡◌, ◌⊎◌, inl, inr, ◌||◌, Bool, true, false, List, [], ◌∷◌, ◌++◌, Option, Some, None, unwrap_or, refl, sym, ap, subst, ◌∙◌, if◌then◌else◌, list_any, lookup, remove_entry, is_at, tid_exact, tid_cmp, same_tid, ClientNo, NodeNo, Tid, take_first, give_back, Answer, Message, Record, aborted_participant, is_undecided, is_forgotten, new_participant, Manager, Participant, send, log, answer, is_other, tid_of, with_issued, with_local, put_label, Work, part_of}
use Rattle.qs_world_refine.proofs.Words.{doings_of, with_manager, with_queues, with_kept, with_doings, change_server, client_cmp, with_command, drop_counts, Doings, OpenCommand, is_engaged, Stage, IsStage, IsTidy, Reads, Keeps, MayLog, MayForget, TicksOn, is_decided, or_cases}
use Rattle.qs_ipc.specs.Ipc as ipc
use Rattle.qs_book_journal.specs.declared.entry.Act.TheVariants as acts
use Rattle.qs_record.specs.declared.record.Record.TheVariants as records
use Rattle.qs_tm.specs.Manager as tm
use Rattle.qs_tm.specs.Outcomes as outcome_rules
use Rattle.qs_tm.specs.Participant as participant
use Rattle.qs_node_step.specs.State.{no_doings}
use Rattle.qs_world_refine.specs.CutLaws.{is_prepare_of, is_commit_of}
use Rattle.qs_world_refine.specs.Walks.{keeps_prepared}
use Rattle.qs_world_refine.proofs.Maps.{lookup_put_apart}
use Rattle.qs_world_refine.proofs.Others.{key_apart}
use Rattle.qs_world_refine.proofs.SoundHolds.{is_held}
use Rattle.qs_world_refine.proofs.SoundKnown.{same_is}
use Rattle.qs_world_refine.proofs.TidyKeeps.{tidy_keeps, tidy_ticks}
use Rattle.qs_world_refine.proofs.TidyReads.{tidy_reads}
use Rattle.qs_world_refine.proofs.WalkSettles.{doings_put}
use Rattle.qs_world_refine.proofs.PreparedKept.{KeptIn, NotedIn, one_more, held_lasts, decided_lasts, engaged_held, kept_on, kept_still, part_kept, of_part, logs, met_kept, aborted_kept, forgets}

pub record LoggedWell (t : Tid) (work : Work) : Type 0 where
  pub noted : NotedIn t work
  pub held : KeptIn is_held (is_prepare_of t) t work
  pub decided : KeptIn is_decided (is_commit_of t) t work

-- ---- all three

module _ (t : Tid) where
  noted_still : (work new : Work) → new.out.records ≡ work.out.records → new.doings ≡ work.doings → NotedIn t work → NotedIn t new
  noted_still work new records doings is has = ap (λ (ds : List (Tid × Doings)). (unwrap_or (lookup (is_at (tid_cmp t)) ds) no_doings).prepared) doings ∙ is (subst (λ (rs : List Record). list_any (is_prepare_of t) rs ≡ true) records has)

  pub still : (work new : Work) → new.out.records ≡ work.out.records → new.doings ≡ work.doings → new.node.manager.known ≡ work.node.manager.known → LoggedWell t work → LoggedWell t new
  still work new records doings known is = record {
    noted = noted_still work new records doings is.noted;
    held = kept_still t is_held (is_prepare_of t) held_lasts work new records known is.held;
    decided = kept_still t is_decided (is_commit_of t) decided_lasts work new records known is.decided;
  }

  -- what is kept of transactions changes
  changed : (f : Manager → Manager) (work : Work) → (tm.told_of t false is_held work.node.manager ≡ true → tm.told_of t false is_held (f work.node.manager) ≡ true)
      → (tm.told_of t false is_decided work.node.manager ≡ true → tm.told_of t false is_decided (f work.node.manager) ≡ true) → LoggedWell t work → LoggedWell t (with_manager f work)
  changed f work held decided is = record {
    noted = noted_still work (with_manager f work) refl refl is.noted;
    held = kept_on t is_held (is_prepare_of t) held_lasts work (with_manager f work) refl held is.held;
    decided = kept_on t is_decided (is_commit_of t) decided_lasts work (with_manager f work) refl decided is.decided;
  }

  of_one : (tid : Tid) (f : Participant → Participant) (work : Work) → ((q : Participant) → is_held q ≡ true → is_held (f q) ≡ true) → ((q : Participant) → is_decided q ≡ true → is_decided (f q) ≡ true) → LoggedWell t work → LoggedWell t (with_manager (tm.with_part tid f) work)
  of_one tid f work held decided = changed (tm.with_part tid f) work (part_kept t is_held (is_prepare_of t) held_lasts tid f work.node.manager (λ _. held)) (part_kept t is_decided (is_commit_of t) decided_lasts tid f work.node.manager (λ _. decided))

  -- a record is logged
  logged : (rec : Record) (work : Work) → MayLog rec work → LoggedWell t work → LoggedWell t (log rec work)
  logged rec work may is = record {
    noted = λ has. noted (or_cases (list_any (is_prepare_of t) work.out.records) (is_prepare_of t rec || false) (sym (one_more (is_prepare_of t) work.out.records rec) ∙ has));
    held = logs t is_held (is_prepare_of t) held_lasts rec work (λ here. (prepared rec may here).1) is.held;
    decided = logs t is_decided (is_commit_of t) decided_lasts rec work (committed rec may) is.decided;
  }
    where
      prepared : (r : Record) → MayLog r work → (is_prepare_of t r || false) ≡ true → ((doings_of t work).prepared ≡ true) × (tm.told_of t false is_held work.node.manager ≡ true)
      prepared (records.Prepare tid server covers changes) may has = its (same_tid t tid) refl has
        where
          its : (b : Bool) → same_tid t tid ≡ b → (b || false) ≡ true → ((doings_of t work).prepared ≡ true) × (tm.told_of t false is_held work.node.manager ≡ true)
          its false apart has = absurd (cc has)
          its true same has = subst (λ (u : Tid). ((doings_of u work).prepared ≡ true) × (tm.told_of u false is_held work.node.manager ≡ true)) (sym (same_is t tid same)) (may.0, at (tm.part_of tid work.node.manager) may.1)
            where
              at : (o : Option Participant) → ◌≡◌ {A = Bool} (elim o [ None ↦ false | Some q ↦ is_engaged q ]) true → ◌≡◌ {A = Bool} (elim o [ None ↦ false | Some q ↦ is_held q ]) true
              at None so = so
              at (Some part) so = engaged_held part so
      prepared (records.Commit tid told) may has = absurd (cc has)
      prepared (records.Aborted tid) may has = absurd (cc has)
      prepared (records.End tid) may has = absurd (cc has)

      committed : (r : Record) → MayLog r work → (is_commit_of t r || false) ≡ true → tm.told_of t false is_decided work.node.manager ≡ true
      committed (records.Prepare tid server covers changes) may has = absurd (cc has)
      committed (records.Commit tid told) may has = its (same_tid t tid) refl has
        where
          its : (b : Bool) → same_tid t tid ≡ b → (b || false) ≡ true → tm.told_of t false is_decided work.node.manager ≡ true
          its false apart has = absurd (cc has)
          its true same has = subst (λ (u : Tid). tm.told_of u false is_decided work.node.manager ≡ true) (sym (same_is t tid same)) may
      committed (records.Aborted tid) may has = absurd (cc has)
      committed (records.End tid) may has = absurd (cc has)

      noted : (list_any (is_prepare_of t) work.out.records ≡ true) ⊎ ((is_prepare_of t rec || false) ≡ true) → (doings_of t work).prepared ≡ true
      noted (inl before) = is.noted before
      noted (inr here) = (prepared rec may here).0

  -- what a step did is noted
  doing_on : (tid : Tid) (f : Doings → Doings) (work : Work) → keeps_prepared f → LoggedWell t work → LoggedWell t (with_doings tid f work)
  doing_on tid f work same is = record {
    noted = λ has. by has (same_tid t tid) refl;
    held = kept_still t is_held (is_prepare_of t) held_lasts work (with_doings tid f work) refl refl is.held;
    decided = kept_still t is_decided (is_commit_of t) decided_lasts work (with_doings tid f work) refl refl is.decided;
  }
    where
      by : list_any (is_prepare_of t) work.out.records ≡ true → (b : Bool) → same_tid t tid ≡ b → (doings_of t (with_doings tid f work)).prepared ≡ true
      by has true so = subst (λ (u : Tid). (doings_of t (with_doings u f work)).prepared ≡ true) (same_is t tid so) (ap (λ (d : Doings). d.prepared) (doings_put t f work) ∙ same (doings_of t work) (is.noted has))
      by has false apart = ap (λ (o : Option Doings). (unwrap_or o no_doings).prepared) (lookup_put_apart tid_cmp tid (f (doings_of tid work)) (tid_exact tid) (is_at (tid_cmp t)) (key_apart t tid apart) work.doings) ∙ is.noted has

  -- Yes is said where no Prepare was logged in the step
  releases : (tid : Tid) (work : Work) → (doings_of tid work).prepared ≡ false → LoggedWell t work → LoggedWell t (with_manager (tm.released tid) work)
  releases tid work none is = record {
    noted = noted_still work (with_manager (tm.released tid) work) refl refl is.noted;
    held = λ has. of_part t is_held (is_prepare_of t) held_lasts tid participant.released work
        (λ same. absurd (let noted : (doings_of tid work).prepared ≡ true = subst (λ (u : Tid). (doings_of u work).prepared ≡ true) (same_is t tid same) (is.noted has) in cc (noted, none))) is.held has;
    decided = of_part t is_decided (is_commit_of t) decided_lasts tid participant.released work (λ same q so. so) is.decided;
  }

  forgotten : (me : NodeNo) (tid : Tid) (part : Participant) (work : Work) → part_of tid work ≡ Some part → MayForget me tid part work → LoggedWell t work → LoggedWell t (with_manager (tm.forget tid) work)
  forgotten me tid part work known may is = record {
    noted = noted_still work (with_manager (tm.forget tid) work) refl refl is.noted;
    held = forgets t is_held (is_prepare_of t) held_lasts me tid part work known may is.held;
    decided = forgets t is_decided (is_commit_of t) decided_lasts me tid part work known may is.decided;
  }

  -- ---- messages and answers

  sends : (to : NodeNo) (message : Message) (work : Work) → LoggedWell t work → LoggedWell t (send to message work)
  sends to message work is = by (is_other work.node.setting to)
    where
      by : (b : Bool) → LoggedWell t (if b then record work { out = record work.out { messages = work.out.messages ++ record { to = to; message = message } ∷ [] } } else work)
      by true = still work (record work { out = record work.out { messages = work.out.messages ++ record { to = to; message = message } ∷ [] } }) refl refl refl is
      by false = is

  answers : (client : ClientNo) (said : Answer) (work : Work) → LoggedWell t work → LoggedWell t (answer client said work)
  answers client said work is = by (lookup (is_at (client_cmp client)) work.node.commands)
    where
      by : (o : Option OpenCommand) → LoggedWell t (elim o [
        | None ↦ work
        | Some command ↦ record work {
          node = record work.node { commands = remove_entry (is_at (client_cmp client)) work.node.commands };
          out = record work.out {
            answers = work.out.answers ++ record { client = client; answer = record { line = command.line.line; answer = said } } ∷ [];
            entries = work.out.entries ++ acts.Answer client command.line.line said ∷ [];
          };
        }
      ])
      by None = is
      by (Some command) = still work (record work {
        node = record work.node { commands = remove_entry (is_at (client_cmp client)) work.node.commands };
        out = record work.out {
          answers = work.out.answers ++ record { client = client; answer = record { line = command.line.line; answer = said } } ∷ [];
          entries = work.out.entries ++ acts.Answer client command.line.line said ∷ [];
        };
      }) refl refl refl is

  -- ---- all of it, of a node that is tidy

  module _ (c : Stage) (stage : IsStage c) where
    abbrev pub Both : Work → Type 0
    Both work = IsTidy c work × LoggedWell t work

    r : Reads c.past c.begun c.met c.setting.node c.setting.nodes (IsTidy c)
    r = tidy_reads c stage

    k : Keeps c.past c.begun c.met c.setting.node c.setting.nodes (IsTidy c)
    k = tidy_keeps c stage

    pub both_reads : Reads c.past c.begun c.met c.setting.node c.setting.nodes Both
    both_reads = record {
      inside = r.inside;
      here = λ work i. r.here work i.0;
      known = λ tid part work i. r.known tid part work i.0;
      home = λ tid part work i. r.home tid part work i.0;
      engaged = λ tid part superior work i. r.engaged tid part superior work i.0;
      asked = λ tid part work i. r.asked tid part work i.0;
      told = λ tid part superior number work i. r.told tid part superior number work i.0;
      label = λ name begun tid work i. r.label name begun tid work i.0;
      owned = λ name begun owner tid work i. r.owned name begun owner tid work i.0;
      waiting = λ server delivery work i. r.waiting server delivery work i.0;
      command = λ client command work i. r.command client command work i.0;
      vote = λ tid server free frame work i. r.vote tid server free frame work i.0;
      aged = λ age work i. r.aged age work i.0;
    }

    pub both_ticks : TicksOn Both
    both_ticks work i = (tidy_ticks c work i.0, still work (with_manager tm.tick work) refl refl refl i.1)

    pub both_keeps : Keeps c.past c.begun c.met c.setting.node c.setting.nodes Both
    both_keeps = record {
      enter = λ act work i. (k.enter act work i.0, still work (Rattle.qs_node_step.specs.Bringing.enter act work) refl refl refl i.1);
      doing = λ tid f work same i. (k.doing tid f work same i.0, doing_on tid f work same i.1);
      send = λ to message work fit i. (k.send to message work fit i.0, sends to message work i.1);
      log = λ rec work fit may i. (k.log rec work fit may i.0, logged rec work may i.1);
      answer = λ client said work i. (k.answer client said work i.0, answers client said work i.1);
      part = λ tid f work plain i. (k.part tid f work plain i.0, of_one tid f work (λ p. held_lasts.plain p (f p) (plain p)) (λ p. decided_lasts.plain p (f p) (plain p)) i.1);
      ask = λ tid work begun i. (k.ask tid work begun i.0, of_one tid participant.ask work held_lasts.ask decided_lasts.ask i.1);
      request = λ tid peer number work begun met i. (k.request tid peer number work begun met i.0, of_one tid (participant.requested peer number) work (held_lasts.requested peer number) (decided_lasts.requested peer number) i.1);
      release = λ tid work none i. (k.release tid work none i.0, releases tid work none i.1);
      meet = λ tid work begun away i. (k.meet tid work begun away i.0, changed (tm.meet tid) work (met_kept t is_held (is_prepare_of t) held_lasts tid work.node.manager) (met_kept t is_decided (is_commit_of t) decided_lasts tid work.node.manager) i.1);
      keep_abort = λ tid work past none i. (k.keep_abort tid work past none i.0, changed (tm.keep_abort tid) work (aborted_kept t is_held (is_prepare_of t) held_lasts tid work.node.manager) (aborted_kept t is_decided (is_commit_of t) decided_lasts tid work.node.manager) i.1);
      decide = λ tid outcome cause work homed open_now i. (
        k.decide tid outcome cause work homed open_now i.0,
        still (with_manager (tm.decide tid outcome) work) (Rattle.qs_node_step.specs.Deciding.keep_outcome tid outcome cause (with_manager (tm.decide tid outcome) work)) refl refl refl
            (of_one tid (outcome_rules.decided outcome) work (λ q _. held_lasts.decides outcome q) (λ q _. decided_lasts.decides outcome q) i.1),
      );
      learn = λ tid outcome work away i. (k.learn tid outcome work away i.0, of_one tid (outcome_rules.took_outcome outcome) work (λ q _. held_lasts.takes outcome q) (λ q _. decided_lasts.takes outcome q) i.1);
      forget = λ tid part work known may i. (k.forget tid part work known may i.0, forgotten c.setting.node tid part work known may i.1);
      enqueue = λ server delivery work begun i. (k.enqueue server delivery work begun i.0, still work (with_queues (ipc.enqueue server delivery) work) refl refl refl i.1);
      next = λ server work i. (k.next server work i.0, still work (with_queues (ipc.after_next server) work) refl refl refl i.1);
      drop = λ tid work i. (k.drop tid work i.0, still work (with_queues (drop_counts tid) work) refl refl refl i.1);
      mark = λ peer work i. (k.mark peer work i.0, still work (with_queues (ipc.mark_queues peer) work) refl refl refl i.1);
      learn_label = λ name tid work begun i. (k.learn_label name tid work begun i.0, still work (put_label (record { label = name; tid = Some tid; owner = None }) work) refl refl refl i.1);
      lend = λ tid client work begun i. (k.lend tid client work begun i.0, still work (with_kept (λ kept. record kept { loans = kept.loans ++ record { tid = tid; client = client; inc = work.node.setting.inc; taken = false; yielded = false } ∷ [] }) work) refl refl refl i.1);
      take = λ client tid work i. (k.take client tid work i.0, still work (with_kept (λ kept. record kept { loans = take_first client tid kept.loans }) work) refl refl refl i.1);
      yield = λ client tid work i. (k.yield client tid work i.0, still work (with_kept (λ kept. record kept { loans = give_back client tid kept.loans }) work) refl refl refl i.1);
      opens = λ line work may i. (k.opens line work may i.0, still work (with_command line work) refl refl refl i.1);
      issue = λ client issued work i. (k.issue client issued work i.0, still work (with_issued client issued work) refl refl refl i.1);
      local = λ tid number work i. (k.local tid number work i.0, still work (with_local tid number work) refl refl refl i.1);
      serve = λ server f work same i. (k.serve server f work same i.0, still work (change_server server f work) refl refl refl i.1);
    }
