-- After a whole step of a node, what it waits for of others stands in the history.
use Rattle.qs_world_runs.proofs.Words.{◌≡◌, ℕ, ◌<◌, ◌==◌, true, false, List, ◌++◌, Option, Some, None, refl, sym, ap, subst, ◌∙◌, append-nil, is_at, lookup, Tid, peer_of, Entry, KeptLabel, IsRising, tid_cmp, client_of, kept_outcome, is_issued_as, waits_as, label_at, Work, client_cmp, work_on, after_step, effects_of, step_work, Setting, Issued, OpenCommand, Outstanding, Participant, entries_of, Opening, World, every_on, step_same, book_in, IsAwaited, Owes, StandsOwed, stands_awaited}
use Rattle.qs_world_runs.proofs.Words.{stands_uncounted, Amid, Around, IsCommanded, IsHeld, StandsSo, around, command_at, InStep}
use Rattle.qs_node_kept.specs.Keeping.{is_label_of}
use Rattle.qs_ops.specs.Servers.{files_no}
use Rattle.qs_node_step.specs.State.{NodeValue}
use Rattle.qs_tm.specs.Manager as tm
use Rattle.qs_world_runs.specs.Owing.{names_tid}
use Rattle.qs_world_runs.specs.StepLaws.{KeepsOwing}
use Rattle.qs_world_runs.proofs.AgreesEach.{low, up}
use Rattle.qs_world_runs.proofs.ClientsGo.{comes_free}
use Rattle.qs_world_runs.proofs.OwingReplies.{WasIssued, was_issued}
use Rattle.qs_world_runs.proofs.OwingStages.{step_keeps}

-- ---- as a step begins

module _ (before : List Entry) (stamp free : ℕ) (node : NodeValue) (rising : IsRising tid_cmp node.manager.known) (fresh : (tid : Tid) (part : Participant) → tm.part_of tid node.manager ≡ Some part → part.outcome ≡ None → kept_outcome tid node ≡ None) (owes : Owes node before) where
  abbrev first : Around
  first = around before stamp (work_on node free)

  -- what its command's label names
  record IsNamed (tid : Tid) (command : OpenCommand) : Type 0 where
    begun : KeptLabel
    found : label_at command.line.label node ≡ Some begun
    of : is_label_of tid begun ≡ true

  named : (tid : Tid) (command : OpenCommand) → names_tid tid node (Some command) ≡ true → IsNamed tid command
  named tid command is = by (label_at command.line.label node) refl is
    where
      by : (o : Option KeptLabel) → label_at command.line.label node ≡ o → (elim o [ None ↦ false | Some begun ↦ is_label_of tid begun ]) ≡ true → IsNamed tid command
      by None none e = absurd (cc e)
      by (Some begun) found e = record { begun = begun; found = found; of = e }

  commanded : (tid : Tid) (part : Participant) → tm.part_of tid node.manager ≡ Some part → part.outcome ≡ None → (request : Outstanding) → IsAwaited node before tid request → (request.issuer.0 == files_no) ≡ false → IsCommanded first tid request
  commanded tid part known undecided request a other = record {
    command = w.command;
    there = w.there;
    issued = w.issued;
    as_issued = w.as_issued;
    for_it = w.for_it;
    begun = l.begun;
    found = l.found;
    of = l.of;
    unended = λ own. fresh tid part known undecided;
  }
    where
      w : WasIssued tid request.member request.number (command_at (client_of request.issuer) first)
      w = was_issued tid request.member request.number (command_at (client_of request.issuer) first) (a.in_hand other)

      l : IsNamed tid w.command
      l = named tid w.command (sym (ap (names_tid tid node) w.there) ∙ a.labelled other)

  starts : Amid before stamp (work_on node free)
  starts = record { rising = rising; each = each }
    where
      each : (tid : Tid) (part : Participant) → tm.part_of tid node.manager ≡ Some part → StandsSo first tid part
      each tid part known = record {
        uncounted = λ peer open_to. subst (λ (h : List Entry). stands_uncounted tid peer node.setting.node (peer_of part.engage peer).sent h ≡ true) (sym (append-nil before)) (s.uncounted peer open_to);
        awaited = λ undecided. every_on (IsAwaited node before tid) (IsHeld first tid) (λ request a. record {
          stands = subst (λ (h : List Entry). stands_awaited tid request.member.node request.issuer.0 h ≡ true) (sym (append-nil before)) a.stands;
          commanded = commanded tid part known undecided request a;
        }) part.waiting (s.awaited undecided);
      }
        where
          s : StandsOwed node before tid part
          s = owes tid part known

-- ---- and as it ends

ends : (before : List Entry) (stamp n : ℕ) (work : Work) → work.node.setting.node.0 ≡ n → Amid before stamp work → Owes work.node (before ++ entries_of n stamp work.out.entries)
ends before stamp n work own w = subst (λ (k : ℕ). Owes work.node (before ++ entries_of k stamp work.out.entries)) own owes
  where
    history : List Entry
    history = before ++ entries_of work.node.setting.node.0 stamp work.out.entries

    awaited : (tid : Tid) (request : Outstanding) → IsHeld (around before stamp work) tid request → IsAwaited work.node history tid request
    awaited tid request h = record { stands = h.stands; in_hand = λ other. in_hand (h.commanded other); labelled = λ other. labelled (h.commanded other) }
      where
        in_hand : IsCommanded (around before stamp work) tid request → waits_as tid request.member request.number (lookup (is_at (client_cmp (client_of request.issuer))) work.node.commands) ≡ true
        in_hand c = ap (waits_as tid request.member request.number) c.there ∙ (ap (λ (i : Option Issued). elim i [ None ↦ false | Some issued ↦ is_issued_as tid request.member request.number issued ]) c.as_issued ∙ c.for_it)

        labelled : IsCommanded (around before stamp work) tid request → names_tid tid work.node (lookup (is_at (client_cmp (client_of request.issuer))) work.node.commands) ≡ true
        labelled c = ap (names_tid tid work.node) c.there ∙ (ap (λ (b : Option KeptLabel). elim b [ None ↦ false | Some begun ↦ is_label_of tid begun ]) c.found ∙ c.of)

    owes : Owes work.node history
    owes tid part known = let s : StandsSo (around before stamp work) tid part = w.each tid part known in record {
      uncounted = s.uncounted;
      awaited = λ undecided. every_on (IsHeld (around before stamp work) tid) (IsAwaited work.node history tid) (awaited tid) part.waiting (s.awaited undecided);
    }

-- ---- a step of a node of a run

pub steps_owing : (P : Opening → World → Type 0) → InStep P KeepsOwing
steps_owing P o world n stamp free source event j makes = of_work (ends world.journal stamp n done own (step_keeps world.journal stamp (book_in o world) node event free (comes_free P o world j n stamp free source event makes)
    (starts world.journal stamp free node (j.facts n runs).rising (λ tid part known undecided. (j.shown.steady.nodes n runs).tidy.crossed.fresh tid part known undecided) (j.owing n runs (up world j.shown n stamp free source event makes)))))
  where
    node : NodeValue
    node = (world.hosts n).node

    runs : n < world.size
    runs = low world j.shown n stamp free source event makes

    done : Work
    done = step_work node event free

    own : done.node.setting.node.0 ≡ n
    own = ap (λ (s : Setting). s.node.0) (step_same node event free) ∙ (j.held.nodes n runs).node

    of_work : Owes done.node (world.journal ++ entries_of n stamp done.out.entries) → Owes (after_step node event free) (world.journal ++ entries_of n stamp (effects_of node event free).entries)
    of_work owes tid part known = let s : StandsOwed done.node (world.journal ++ entries_of n stamp done.out.entries) tid part = owes tid part known in record {
      uncounted = s.uncounted;
      awaited = λ undecided. every_on (IsAwaited done.node (world.journal ++ entries_of n stamp done.out.entries) tid) (IsAwaited (after_step node event free) (world.journal ++ entries_of n stamp done.out.entries) tid)
          (λ request a. record { stands = a.stands; in_hand = a.in_hand; labelled = a.labelled }) part.waiting (s.awaited undecided);
    }
