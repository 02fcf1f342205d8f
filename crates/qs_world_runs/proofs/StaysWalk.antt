-- Each thing that a rule does leaves when that began which a home has not decided, the clock, and what the log said; so each stage of a step leaves them, and a tick moves the clock alone.
use Rattle.qs_world_runs.proofs.Words.{◌≡◌, ◌⊎◌, inl, inr, ℕ, Bool, true, false, List, [], ◌∷◌, ◌++◌, Option, Some, None, refl, sym, ap, subst, ◌∙◌, if◌then◌else◌, lookup, remove_entry, is_at, tid_total, tid_cmp, ClientNo, NodeNo, Tid, same_node, give_back, take_first, at_exact, IsRising, put_rises, remove_rises, removed, Answer, Message, answer, enter, is_other, send, tid_of, keep_outcome, with_local, put_label, Work, change_server, client_cmp, with_doings, with_kept, with_manager}
use Rattle.qs_world_runs.proofs.Words.{with_queues, with_command, drop_counts, OpenCommand, aborted_participant, new_participant, Manager, Participant, IsStage, IsTidy, Stage, forget_apart, tidy_keeps, tidy_ticks, tidy_reads, same_or_apart, each_changed, put_there, clash, of_some, Stays}
use Rattle.qs_ipc.specs.Ipc as ipc
use Rattle.qs_book_journal.specs.declared.entry.Act.TheVariants as acts
use Rattle.qs_node_step.specs.Bringing.{log}
use Rattle.qs_node_step.specs.Commands.{with_issued}
use Rattle.qs_tm.specs.Manager as tm
use Rattle.qs_tm.specs.Outcomes as outcome_rules
use Rattle.qs_tm.specs.Participant as participant
use Rattle.qs_world_refine.specs.Walks.{Keeps, Reads, TicksOn}
use Rattle.qs_world_lawful.proofs.Apart.{Apart}
use Rattle.qs_world_lawful.proofs.Faces.{put_apart}
use Rattle.qs_world_lawful.proofs.FactsKept.{IsQuiet}
use Rattle.qs_world_lawful.proofs.FactsQuiet.{ask_quiet, logged_quiet, released_quiet, requested_quiet}
use Rattle.qs_world_lawful.proofs.Marks.{changed_rises}
use Rattle.qs_world_runs.specs.Stays.{BeganAt}

module _ (Y : Tid → ℕ → Type 0) where
  -- ---- what is known of transactions

  -- a change of one that leaves its home, and that it is undecided only where it was, and when it began
  pub began_changed : (tid : Tid) (f : Participant → Participant) (m : Manager) → ((p : Participant) → (f p).engage.home ≡ p.engage.home) → ((p : Participant) → (f p).outcome ≡ None → p.outcome ≡ None) → ((p : Participant) → (f p).begun_at ≡ p.begun_at)
      → BeganAt Y m → BeganAt Y (tm.with_part tid f m)
  began_changed tid f m home outcome begun b = each_changed tid f m (λ t p. p.engage.home ≡ true → p.outcome ≡ None → Y t p.begun_at) (λ t p far known. b t p known)
      (λ p known at open_now. subst (Y tid) (sym (begun p)) (b tid p known (sym (home p) ∙ at) (outcome p open_now)))

  -- of one that is decided nothing is said
  pub began_decided : (tid : Tid) (f : Participant → Participant) (m : Manager) → ((p : Participant) → (f p).outcome ≡ None → ⊥) → BeganAt Y m → BeganAt Y (tm.with_part tid f m)
  began_decided tid f m decided b = each_changed tid f m (λ t p. p.engage.home ≡ true → p.outcome ≡ None → Y t p.begun_at) (λ t p far known. b t p known) (λ p known at open_now. absurd (decided p open_now))

  -- one more is known
  pub began_put : (tid : Tid) (part : Participant) (m : Manager) → (part.engage.home ≡ true → part.outcome ≡ None → Y tid part.begun_at) → BeganAt Y m → BeganAt Y (tm.put_part tid part m)
  began_put tid part m new b t p known = by (same_or_apart tid t)
    where
      by : (tid ≡ t) ⊎ Apart tid t → p.engage.home ≡ true → p.outcome ≡ None → Y t p.begun_at
      by (inl e) = subst (λ (x : Tid). p.engage.home ≡ true → p.outcome ≡ None → Y x p.begun_at) e
          (subst (λ (q : Participant). q.engage.home ≡ true → q.outcome ≡ None → Y tid q.begun_at) (of_some (sym (put_there tid part m) ∙ subst (λ (x : Tid). tm.part_of x (tm.put_part tid part m) ≡ Some p) (sym e) known)) new)
      by (inr far) = b t p (sym (put_apart tid t part m far) ∙ known)

  began_forgotten : (tid : Tid) (m : Manager) → IsRising tid_cmp m.known → BeganAt Y m → BeganAt Y (tm.forget tid m)
  began_forgotten tid m rising b t p known = by (same_or_apart t tid)
    where
      by : (t ≡ tid) ⊎ Apart t tid → p.engage.home ≡ true → p.outcome ≡ None → Y t p.begun_at
      by (inl e) = absurd (cc (sym (removed tid_cmp at_exact tid m.known rising) ∙ subst (λ (x : Tid). tm.part_of x (tm.forget tid m) ≡ Some p) e known))
      by (inr far) = b t p (sym (forget_apart t tid m far.by) ∙ known)

  module _ (T : ℕ → Type 0) (log_said : List Tid) where
    abbrev S : Work → Type 0
    S = Stays Y T log_said

    -- ---- what leaves the manager

    pub stays_still : (work new : Work) → new.node.manager ≡ work.node.manager → new.node.committed ≡ work.node.committed → S work → S new
    stays_still work new manager committed s = record {
      rising = subst (λ (m : Manager). IsRising tid_cmp m.known) (sym manager) s.rising;
      began = subst (BeganAt Y) (sym manager) s.began;
      ticks = subst (λ (m : Manager). T m.ticks) (sym manager) s.ticks;
      committed = committed ∙ s.committed;
    }

    stays_sent : (to : NodeNo) (message : Message) (work : Work) → S work → S (send to message work)
    stays_sent to message work s = by (is_other work.node.setting to)
      where
        by : (b : Bool) → S (if b then record work { out = record work.out { messages = work.out.messages ++ record { to = to; message = message } ∷ [] } } else work)
        by true = stays_still work (record work { out = record work.out { messages = work.out.messages ++ record { to = to; message = message } ∷ [] } }) refl refl s
        by false = s

    pub stays_answered : (client : ClientNo) (said : Answer) (work : Work) → S work → S (answer client said work)
    stays_answered client said work s = by (lookup (is_at (client_cmp client)) work.node.commands)
      where
        answered : OpenCommand → Work
        answered command = record work {
          node = record work.node { commands = remove_entry (is_at (client_cmp client)) work.node.commands };
          out = record work.out {
            answers = work.out.answers ++ record { client = client; answer = record { line = command.line.line; answer = said } } ∷ [];
            entries = work.out.entries ++ acts.Answer client command.line.line said ∷ [];
          };
        }

        by : (o : Option OpenCommand) → S (elim o [ None ↦ work | Some command ↦ answered command ])
        by None = s
        by (Some command) = stays_still work (answered command) refl refl s

    -- ---- what changes it

    stays_quiet : (tid : Tid) (f : Participant → Participant) (work : Work) → IsQuiet f → ((p : Participant) → (f p).begun_at ≡ p.begun_at) → S work → S (with_manager (tm.with_part tid f) work)
    stays_quiet tid f work quiet begun s = record {
      rising = changed_rises tid f work.node.manager s.rising;
      began = began_changed tid f work.node.manager quiet.home (λ p open_now. sym (quiet.outcome p) ∙ open_now) begun s.began;
      ticks = s.ticks;
      committed = s.committed;
    }

    stays_decided : (tid : Tid) (f : Participant → Participant) (work : Work) → ((p : Participant) → (f p).outcome ≡ None → ⊥) → S work → S (with_manager (tm.with_part tid f) work)
    stays_decided tid f work decided s = record { rising = changed_rises tid f work.node.manager s.rising; began = began_decided tid f work.node.manager decided s.began; ticks = s.ticks; committed = s.committed }

    pub stays_put : (tid : Tid) (part : Participant) (work : Work) → (part.engage.home ≡ true → part.outcome ≡ None → Y tid part.begun_at) → S work → S (with_manager (tm.put_part tid part) work)
    stays_put tid part work new s = record { rising = put_rises tid_cmp tid_total tid part work.node.manager.known s.rising; began = began_put tid part work.node.manager new s.began; ticks = s.ticks; committed = s.committed }

    stays_met : (tid : Tid) (work : Work) → same_node tid.home work.node.manager.node ≡ false → S work → S (with_manager (tm.meet tid) work)
    stays_met tid work away s = by (tm.knows tid work.node.manager)
      where
        by : (b : Bool) → S (with_manager (λ m. if b then m else tm.put_part tid (new_participant (tm.is_home tid m)) m) work)
        by true = s
        by false = stays_put tid (new_participant (tm.is_home tid work.node.manager)) work (λ home open_now. absurd (clash (sym away ∙ home))) s

    stays_aborted : (tid : Tid) (work : Work) → S work → S (with_manager (tm.keep_abort tid) work)
    stays_aborted tid work s = by (tm.knows tid work.node.manager)
      where
        by : (b : Bool) → S (with_manager (λ m. if b then m else tm.put_part tid (aborted_participant (tm.is_home tid m)) m) work)
        by true = s
        by false = stays_put tid (aborted_participant (tm.is_home tid work.node.manager)) work (λ home open_now. absurd (cc open_now)) s

    -- ---- all of it, of a node that is tidy

    module _ (c : Stage) (stage : IsStage c) where
      abbrev pub Both : Work → Type 0
      Both work = IsTidy c work × Stays Y T log_said work

      r : Reads c.past c.begun c.met c.setting.node c.setting.nodes (IsTidy c)
      r = tidy_reads c stage

      k : Keeps c.past c.begun c.met c.setting.node c.setting.nodes (IsTidy c)
      k = tidy_keeps c stage

      pub both_reads : Reads c.past c.begun c.met c.setting.node c.setting.nodes Both
      both_reads = record {
        inside = r.inside;
        here = λ work i. r.here work i.0;
        known = λ tid part work i. r.known tid part work i.0;
        home = λ tid part work i. r.home tid part work i.0;
        engaged = λ tid part superior work i. r.engaged tid part superior work i.0;
        asked = λ tid part work i. r.asked tid part work i.0;
        told = λ tid part superior number work i. r.told tid part superior number work i.0;
        label = λ name begun tid work i. r.label name begun tid work i.0;
        owned = λ name begun owner tid work i. r.owned name begun owner tid work i.0;
        waiting = λ server delivery work i. r.waiting server delivery work i.0;
        command = λ client command work i. r.command client command work i.0;
        vote = λ tid server free frame work i. r.vote tid server free frame work i.0;
        aged = λ age work i. r.aged age work i.0;
      }

      pub both_ticks : TicksOn (λ work. T work.node.manager.ticks) → TicksOn Both
      both_ticks on work i = (tidy_ticks c work i.0, record { rising = i.1.rising; began = i.1.began; ticks = on work i.1.ticks; committed = i.1.committed })

      pub both_keeps : Keeps c.past c.begun c.met c.setting.node c.setting.nodes Both
      both_keeps = record {
        enter = λ act work i. (k.enter act work i.0, stays_still work (enter act work) refl refl i.1);
        doing = λ tid f work same i. (k.doing tid f work same i.0, stays_still work (with_doings tid f work) refl refl i.1);
        send = λ to message work fit i. (k.send to message work fit i.0, stays_sent to message work i.1);
        log = λ rec work fit may i. (k.log rec work fit may i.0, stays_still (with_manager (tm.logged (tid_of rec) rec) work) (log rec work) refl refl (stays_quiet (tid_of rec) (outcome_rules.logged rec) work (logged_quiet rec) (λ p. refl) i.1));
        answer = λ client said work i. (k.answer client said work i.0, stays_answered client said work i.1);
        part = λ tid f work plain i. (
          k.part tid f work plain i.0,
          record {
            rising = changed_rises tid f work.node.manager i.1.rising;
            began = began_changed tid f work.node.manager (λ p. (plain p).home) (λ p open_now. sym (plain p).outcome ∙ open_now) (λ p. (plain p).begun) i.1.began;
            ticks = i.1.ticks;
            committed = i.1.committed;
          },
        );
        ask = λ tid work begun i. (k.ask tid work begun i.0, stays_quiet tid participant.ask work ask_quiet (λ p. refl) i.1);
        request = λ tid peer number work begun met i. (k.request tid peer number work begun met i.0, stays_quiet tid (participant.requested peer number) work (requested_quiet peer number) (λ p. refl) i.1);
        release = λ tid work none i. (k.release tid work none i.0, stays_quiet tid participant.released work released_quiet (λ p. refl) i.1);
        meet = λ tid work begun away i. (k.meet tid work begun away i.0, stays_met tid work (ap (same_node tid.home) i.0.node.own ∙ away) i.1);
        keep_abort = λ tid work past none i. (k.keep_abort tid work past none i.0, stays_aborted tid work i.1);
        decide = λ tid outcome cause work homed open_now i. (
          k.decide tid outcome cause work homed open_now i.0,
          stays_still (with_manager (tm.decide tid outcome) work) (keep_outcome tid outcome cause (with_manager (tm.decide tid outcome) work)) refl refl (stays_decided tid (outcome_rules.decided outcome) work (λ p e. cc e) i.1),
        );
        learn = λ tid outcome work away i. (k.learn tid outcome work away i.0, stays_decided tid (outcome_rules.took_outcome outcome) work (λ p e. cc e) i.1);
        forget = λ tid part work known may i. (
          k.forget tid part work known may i.0,
          record { rising = remove_rises tid_cmp (is_at (tid_cmp tid)) work.node.manager.known i.1.rising; began = began_forgotten tid work.node.manager i.1.rising i.1.began; ticks = i.1.ticks; committed = i.1.committed },
        );
        enqueue = λ server delivery work begun i. (k.enqueue server delivery work begun i.0, stays_still work (with_queues (ipc.enqueue server delivery) work) refl refl i.1);
        next = λ server work i. (k.next server work i.0, stays_still work (with_queues (ipc.after_next server) work) refl refl i.1);
        drop = λ tid work i. (k.drop tid work i.0, stays_still work (with_queues (drop_counts tid) work) refl refl i.1);
        mark = λ peer work i. (k.mark peer work i.0, stays_still work (with_queues (ipc.mark_queues peer) work) refl refl i.1);
        learn_label = λ name tid work begun i. (k.learn_label name tid work begun i.0, stays_still work (put_label (record { label = name; tid = Some tid; owner = None }) work) refl refl i.1);
        lend = λ tid client work begun i. (
          k.lend tid client work begun i.0,
          stays_still work (with_kept (λ kept. record kept { loans = kept.loans ++ record { tid = tid; client = client; inc = work.node.setting.inc; taken = false; yielded = false } ∷ [] }) work) refl refl i.1,
        );
        take = λ client tid work i. (k.take client tid work i.0, stays_still work (with_kept (λ kept. record kept { loans = take_first client tid kept.loans }) work) refl refl i.1);
        yield = λ client tid work i. (k.yield client tid work i.0, stays_still work (with_kept (λ kept. record kept { loans = give_back client tid kept.loans }) work) refl refl i.1);
        opens = λ line work may i. (k.opens line work may i.0, stays_still work (with_command line work) refl refl i.1);
        issue = λ client issued work i. (k.issue client issued work i.0, stays_still work (with_issued client issued work) refl refl i.1);
        local = λ tid number work i. (k.local tid number work i.0, stays_still work (with_local tid number work) refl refl i.1);
        serve = λ server f work same i. (k.serve server f work same i.0, stays_still work (change_server server f work) refl refl i.1);
      }
