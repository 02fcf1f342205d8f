-- After a restart the machine holds what the node has that begins its incarnation, its log too: as of a node that runs.
use Rattle.qs_world_lawful.proofs.Words.{◌≡◌, inl, ℕ, ◌<◌, ◌++◌, true, List, [], ◌∷◌, length, Option, Some, None, refl, sym, ap, subst, ◌∙◌, is_some, append-nil, Global, slice_get, Tid, ran_run, BookValue, find_transaction, votes_once, TransactionValue, Record, Recovery, in_doubt, recovery, untold, new_manager, Setting, Participant, entry_of, part_or_new, HoldsClients, HoldsNode, HoldsStill, HoldsHost, HoldsLogged, IsNamed, KnowsLog, Every, found_votes, HoldsKept, le_lt}
use Rattle.qs_book_journal.specs.declared.entry.Act.TheVariants as acts
use Rattle.qs_node_kept.specs.declared.kept.Kept.{Kept}
use Rattle.qs_book_machine.specs.Nodes as machine
use Rattle.qs_node_step.specs.State.{NodeValue}
use Rattle.qs_tm.specs.Manager as tm
use Rattle.qs_world_lawful.proofs.RestoredClients.{outcomes_held, owner_still}
use Rattle.qs_world_lawful.proofs.FreshFace.{Fresh, IsOldLoan, at_held, known_as, node, waits_at}
use Rattle.qs_world_lawful.proofs.FreshLog.{SameNumbers, all_taken, knows}
use Rattle.qs_world_lawful.proofs.RestoredFace.{after, fresh, old_loans}
use Rattle.qs_world_lawful.proofs.RestoredLog.{log_held}
use Rattle.qs_world_lawful.proofs.RestoredServers.{reborn, same_found, servers_held}
use Rattle.qs_world_lawful.proofs.Restored.{there_new}
use Rattle.qs_world_lawful.proofs.RestoredTid.{Restarts, at_node, was}

-- ---- the whole

module _ (alloc : Global) (setting : Setting) (saved : Kept) (book : BookValue) (stamp : ℕ) (log : Recovery) (state : machine.NodeValue) (r : Restarts book setting.node setting.inc log state) (kept : HoldsKept setting.node state.inc book saved) (once : votes_once (found_votes log) ≡ true) where
  abbrev pub now : BookValue
  now = after alloc setting saved book stamp log state r kept.loans

  abbrev fresh_now : Fresh (after alloc setting saved book stamp log state r kept.loans) setting.node setting.inc log
  fresh_now = fresh alloc setting saved book stamp log state r kept.loans

  abbrev loans_now : Every (IsOldLoan (after alloc setting saved book stamp log state r kept.loans) setting.inc) saved.loans
  loans_now = old_loans alloc setting saved book stamp log state r kept.loans

  abbrev pub begins : NodeValue
  begins = node alloc setting saved now log fresh_now loans_now

  abbrev pub state_now : machine.NodeValue
  state_now = reborn alloc setting saved book stamp log state r kept.loans

  there : slice_get now.nodes setting.node.0 ≡ Some state_now
  there = there_new book setting.node.0 stamp setting.inc log state r.there

  numbers : SameNumbers (new_manager alloc setting) begins.manager
  numbers = all_taken (in_doubt log ++ untold log) (new_manager alloc setting)

  node_held : (machine.extra_of state.format ≡ setting.extra) × (machine.keep_of state.format ≡ setting.keep) → HoldsNode begins state_now
  node_held format = record {
    up = refl;
    inc = refl;
    begun = sym numbers.begun;
    extra = ap machine.extra_of (same_found alloc setting saved book stamp log state r kept.loans).format ∙ format.0;
    keep = ap machine.keep_of (same_found alloc setting saved book stamp log state r kept.loans).format ∙ format.1;
    at = numbers.node;
    in_inc = numbers.inc;
  }

  unasked : (tid : Tid) (part : Participant) → tm.part_of tid begins.manager ≡ Some part → part.asked ≡ true → ⊥
  unasked tid part known asked = cc (sym asked ∙ (ap (λ (o : Option Participant). (part_or_new o).asked) (sym known) ∙ (known_as alloc setting saved now log fresh_now loans_now tid).asked))

  clients_held : HoldsClients now begins
  clients_held = record {
    apart = tt;
    lines = λ client command is. absurd (cc is);
    labels = λ label begun tid client labelled is owned. owner_still book setting.node stamp setting.inc log state r saved kept tid client (kept.owners label begun tid client labelled is owned);
    outcomes = λ tid decided is. outcomes_held book setting.node stamp setting.inc log state r saved kept tid decided is;
    asking = λ tid client part home known undecided asked owner. absurd (unasked tid part known asked);
  }

  some_found : (o : Option TransactionValue) → is_some o ≡ true → (tx : TransactionValue) × (o ≡ Some tx)
  some_found None e = absurd (cc e)
  some_found (Some tx) e = (tx, refl)

  pub held : length book.nodes ≡ setting.nodes → (machine.extra_of state.format ≡ setting.extra) × (machine.keep_of state.format ≡ setting.keep) → HoldsStill now begins
  held run format = record {
    run = ran_run (entry_of setting.node.0 stamp (acts.Restart setting.inc (found_votes log) log.committed) ∷ []) book ∙ run;
    state = state_now;
    there = there;
    same = node_held format;
    at = at_held alloc setting saved now log fresh_now loans_now;
    begun = λ tid home is. inl (earlier tid home (some_found (find_transaction now tid) is));
    clients = clients_held;
    servers = servers_held alloc setting saved book stamp log state r kept.loans;
    waits = waits_at alloc setting saved now log fresh_now loans_now;
  }
    where
      earlier : (tid : Tid) → tid.home ≡ setting.node → (tx : TransactionValue) × (find_transaction now tid ≡ Some tx) → tid.inc < setting.inc
      earlier tid home later =
          let w = was book setting.node stamp setting.inc log state r tid later.0 later.1 in
          le_lt tid.inc state.inc setting.inc ((at_node book setting.node stamp setting.inc log state r).begun tid w.0 w.1 home) r.rises

  -- ---- the log

  named : IsNamed now
  named tid is =
      let later = some_found (find_transaction now tid) is in
      let w = was book setting.node stamp setting.inc log state r tid later.0 later.1 in
      r.lasts.named tid (ap is_some w.1)

  pub host_held : (records : List Record) → recovery records ≡ log → HoldsHost setting.node.0 now begins.manager records []
  host_held records is = record {
    state = state_now;
    there = there;
    named = named;
    all = subst (λ (l : Recovery). HoldsLogged setting.node.0 now state_now l) (sym whole) (log_held book setting.node stamp setting.inc log state r once);
    knows = subst (λ (l : Recovery). KnowsLog now begins.manager l) (sym whole) (knows alloc setting saved now log fresh_now loans_now);
    on_disk = subst (λ (l : Recovery). HoldsLogged setting.node.0 now state_now l) (sym is) (log_held book setting.node stamp setting.inc log state r once);
    alike = ap (λ (l : Recovery). l.committed) (whole ∙ sym is);
  }
    where
      whole : recovery (records ++ []) ≡ log
      whole = ap recovery (append-nil records) ∙ is
