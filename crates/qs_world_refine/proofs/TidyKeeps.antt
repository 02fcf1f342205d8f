-- A node in the middle of a step stays tidy through each thing that a rule does.
use Rattle.qs_world_refine.proofs.Words.{◌≡◌, ◌⊎◌, inl, inr, ℕ, ◌&&◌, not, Bool, true, false, List, [], ◌∷◌, ◌++◌, Option, Some, None, is_some, refl, sym, ap, subst, ◌∙◌, arith, nat_lt, nat_le, if◌then◌else◌, nat_tests, list_all, is_at, insert_entry, lookup, remove_entry, ClientNo, NodeNo, ServerNo, Tid, same_node, ScriptLine, take_first, give_back, last_taken, is_taken, is_untaken, Lent, ServerValue, number_of, Answer, Message, Record, send, answer, is_other, log, tid_of, with_issued, NodeValue}
use Rattle.qs_world_refine.proofs.Words.{Work, with_manager, with_queues, with_kept, change_server, client_cmp, with_command, Setting, Issued, OpenCommand, fits, fits_record, may_command, is_owned_label, Stage, IsStage, IsTidy, IsTidyNode, is_tidy_label, is_tidy_loan, is_tidy_command, is_tidy_sending, is_tidy_record, Keeps, IsPlain, MayForget, TicksOn}
use Rattle.qs_base.specs.declared.identifiers.Outcome.TheVariants as outcomes
use Rattle.qs_book_journal.specs.declared.entry.Act.TheVariants as acts
use Rattle.qs_node_kept.specs.declared.kept.KeptLabel.{KeptLabel}
use Rattle.qs_tm.specs.Manager as tm
use Rattle.qs_tm.specs.Outcomes as outcome_rules
use Rattle.qs_world_refine.specs.Walks.{same_kind}
use Rattle.qs_world_refine.proofs.Entries.{all_changed_value, all_inserted, all_but_removed}
use Rattle.qs_world_refine.proofs.ServerKinds.{kind_kept}
use Rattle.qs_world_refine.proofs.SoundBegin.{all_last}
use Rattle.qs_world_refine.proofs.SoundParts.{and_both, both_and}
use Rattle.qs_world_refine.proofs.TidyNodes.{SamePart, part_tidy, ask_tidy, request_tidy, release_tidy, learn_tidy, meet_tidy, keep_abort_tidy, forget_tidy, tick_tidy, decide_tidy}
use Rattle.qs_world_refine.proofs.TidyWaits.{node_tidy, enqueue_tidy, next_tidy, drop_tidy, mark_tidy}

module _ (c : Stage) where
  -- what it does beside what it keeps
  out_tidy : (work : Work) (new : Work) → new.node ≡ work.node → new.out.messages ≡ work.out.messages → new.out.records ≡ work.out.records → IsTidy c work → IsTidy c new
  out_tidy work new node messages records t = record {
    node = subst (λ (n : NodeValue). IsTidyNode c n) (sym node) t.node;
    begun = ap (λ (n : NodeValue). n.is_first) node ∙ t.begun;
    out = record { messages = rw messages t.out.messages; records = rw records t.out.records };
  }

  other_read : (work : Work) (to : NodeNo) (b : Bool) → IsTidy c work → is_other work.node.setting to ≡ b → is_other c.setting to ≡ b
  other_read work to b t is = ap (λ (s : Setting). is_other s to) (sym t.node.setting) ∙ is

  send_tidy : (to : NodeNo) (message : Message) (work : Work) → (nat_lt to.0 c.setting.nodes ≡ true → fits c.past c.begun c.setting.nodes c.setting.node to message ≡ true) → IsTidy c work → IsTidy c (send to message work)
  send_tidy to message work fit t = by (is_other work.node.setting to) refl
    where
      by : (b : Bool) → is_other work.node.setting to ≡ b → IsTidy c (if b then record work { out = record work.out { messages = work.out.messages ++ record { to = to; message = message } ∷ [] } } else work)
      by true is =
          let other : is_other c.setting to ≡ true = other_read work to true t is in
          record {
            node = t.node;
            begun = t.begun;
            out = record {
              messages = all_last (is_tidy_sending c) work.out.messages (record { to = to; message = message }) t.out.messages (both_and (is_other c.setting to) _ other (fit (and_both _ (nat_lt to.0 c.setting.nodes) other).1));
              records = t.out.records;
            };
          }
      by false is = t

  log_tidy : (rec : Record) (work : Work) → fits_record c.past c.setting.node rec ≡ true → IsTidy c work → IsTidy c (log rec work)
  log_tidy rec work fit t = record {
    node = part_tidy c work.node t.node (tid_of rec) (outcome_rules.logged rec) (λ part. record { home = refl; superior = refl; asked = refl; outcome = refl });
    begun = t.begun;
    out = record { messages = t.out.messages; records = all_last (is_tidy_record c) work.out.records rec t.out.records fit };
  }

  -- ---- commands

  with_commands : (work : Work) (commands : List (ClientNo × OpenCommand)) → list_all (is_tidy_command c) commands ≡ true → IsTidyNode c work.node → IsTidyNode c (record work.node { commands = commands })
  with_commands work commands all n = record {
    setting = n.setting;
    own = n.own;
    inc = n.inc;
    count = n.count;
    ordered = n.ordered;
    known = n.known;
    apart = n.apart;
    waiting = n.waiting;
    labels = n.labels;
    loans = n.loans;
    outcomes = n.outcomes;
    commands = all;
    kinds = n.kinds;
    committed = n.committed;
    crossed = record { owned = n.crossed.owned; commits = n.crossed.commits; fresh = n.crossed.fresh; pasts = n.crossed.pasts; earlier = n.crossed.earlier };
  }

  answer_tidy : (client : ClientNo) (said : Answer) (work : Work) → IsTidy c work → IsTidy c (answer client said work)
  answer_tidy client said work t = by (lookup (is_at (client_cmp client)) work.node.commands)
    where
      by : (o : Option OpenCommand) → IsTidy c (elim o [
        | None ↦ work
        | Some command ↦ record work {
          node = record work.node { commands = remove_entry (is_at (client_cmp client)) work.node.commands };
          out = record work.out {
            answers = work.out.answers ++ record { client = client; answer = record { line = command.line.line; answer = said } } ∷ [];
            entries = work.out.entries ++ acts.Answer client command.line.line said ∷ [];
          };
        }
      ])
      by None = t
      by (Some command) = record {
        node = with_commands work (remove_entry (is_at (client_cmp client)) work.node.commands) (all_but_removed (is_at (client_cmp client)) (is_tidy_command c) work.node.commands t.node.commands) t.node;
        begun = t.begun;
        out = record { messages = t.out.messages; records = t.out.records };
      }

  opens_tidy : (line : ScriptLine) (work : Work) → may_command c.setting.nodes line.command ≡ true → IsTidy c work → IsTidy c (with_command line work)
  opens_tidy line work may t = node_tidy c work (record work.node { commands = insert_entry client_cmp work.node.commands line.client (record { line = line; issued = None }) }) refl
      (with_commands work (insert_entry client_cmp work.node.commands line.client (record { line = line; issued = None })) (all_inserted client_cmp (is_tidy_command c) line.client (record { line = line; issued = None }) (λ l. may) work.node.commands t.node.commands) t.node) t

  issue_tidy : (client : ClientNo) (issued : Issued) (work : Work) → IsTidy c work → IsTidy c (with_issued client issued work)
  issue_tidy client issued work t = node_tidy c work (record work.node { commands = tm.changed_value (is_at (client_cmp client)) (λ command. record command { issued = Some issued }) work.node.commands }) refl
      (with_commands work (tm.changed_value (is_at (client_cmp client)) (λ command. record command { issued = Some issued }) work.node.commands)
      (all_changed_value (is_at (client_cmp client)) (is_tidy_command c) (λ command. record command { issued = Some issued }) (λ k l command its. its) work.node.commands t.node.commands) t.node) t

  -- ---- what is kept for clients

  with_clients : (work : Work) (labels : List KeptLabel) (loans : List Lent) → list_all (is_tidy_label c) labels ≡ true → list_all (is_tidy_loan c) loans ≡ true → list_all (is_owned_label work.node) labels ≡ true → IsTidy c work
      → IsTidy c (with_kept (λ kept. record kept { labels = labels; loans = loans }) work)
  with_clients work labels loans tidy lent owned t = node_tidy c work (record work.node { kept = record work.node.kept { now = record work.node.kept.now { labels = labels; loans = loans } } }) refl (record {
    setting = t.node.setting;
    own = t.node.own;
    inc = t.node.inc;
    count = t.node.count;
    ordered = t.node.ordered;
    known = t.node.known;
    apart = t.node.apart;
    waiting = t.node.waiting;
    labels = tidy;
    loans = lent;
    outcomes = t.node.outcomes;
    commands = t.node.commands;
    kinds = t.node.kinds;
    committed = t.node.committed;
    crossed = record { owned = owned; commits = t.node.crossed.commits; fresh = t.node.crossed.fresh; pasts = t.node.crossed.pasts; earlier = t.node.crossed.earlier };
  }) t

  with_loans : (work : Work) (loans : List Lent) → list_all (is_tidy_loan c) loans ≡ true → IsTidy c work → IsTidy c (with_kept (λ kept. record kept { loans = loans }) work)
  with_loans work loans lent t = with_clients work work.node.kept.now.labels loans t.node.labels lent t.node.crossed.owned t

  all_taken : (client : ClientNo) (tid : Tid) (loans : List Lent) → list_all (is_tidy_loan c) loans ≡ true → list_all (is_tidy_loan c) (take_first client tid loans) ≡ true
  all_taken client tid [] all = refl
  all_taken client tid (loan ∷ loans) all = by (is_untaken client tid loan) (all_taken client tid loans (and_both (is_tidy_loan c loan) (list_all (is_tidy_loan c) loans) all).1)
    where
      both : (is_tidy_loan c loan ≡ true) × (list_all (is_tidy_loan c) loans ≡ true)
      both = and_both (is_tidy_loan c loan) (list_all (is_tidy_loan c) loans) all

      by : (b : Bool) → list_all (is_tidy_loan c) (take_first client tid loans) ≡ true → list_all (is_tidy_loan c) (if b then record loan { taken = true } ∷ loans else loan ∷ take_first client tid loans) ≡ true
      by true more = all
      by false more = both_and (is_tidy_loan c loan) _ both.0 more

  all_given : (client : ClientNo) (tid : Tid) (loans : List Lent) → list_all (is_tidy_loan c) loans ≡ true → list_all (is_tidy_loan c) (give_back client tid loans) ≡ true
  all_given client tid [] all = refl
  all_given client tid (loan ∷ loans) all = by (is_taken client tid loan && not (is_some (last_taken client tid loans))) (all_given client tid loans (and_both (is_tidy_loan c loan) (list_all (is_tidy_loan c) loans) all).1)
    where
      both : (is_tidy_loan c loan ≡ true) × (list_all (is_tidy_loan c) loans ≡ true)
      both = and_both (is_tidy_loan c loan) (list_all (is_tidy_loan c) loans) all

      by : (b : Bool) → list_all (is_tidy_loan c) (give_back client tid loans) ≡ true → list_all (is_tidy_loan c) (if b then record loan { yielded = true } ∷ loans else loan ∷ give_back client tid loans) ≡ true
      by true more = all
      by false more = both_and (is_tidy_loan c loan) _ both.0 more

  learn_label_tidy : (name : List ℕ) (tid : Tid) (work : Work) → c.begun tid ≡ true → IsTidy c work → IsTidy c (Rattle.qs_node_step.specs.Serving.put_label (record { label = name; tid = Some tid; owner = None }) work)
  learn_label_tidy name tid work begun t = with_clients work (work.node.kept.now.labels ++ record { label = name; tid = Some tid; owner = None } ∷ []) work.node.kept.now.loans
      (all_last (is_tidy_label c) work.node.kept.now.labels (record { label = name; tid = Some tid; owner = None }) t.node.labels (both_and (c.begun tid) true begun refl)) t.node.loans
      (all_last (is_owned_label work.node) work.node.kept.now.labels (record { label = name; tid = Some tid; owner = None }) t.node.crossed.owned refl) t

  lend_tidy : (tid : Tid) (client : ClientNo) (work : Work) → c.begun tid ≡ true → IsTidy c work
      → IsTidy c (with_kept (λ kept. record kept { loans = kept.loans ++ record { tid = tid; client = client; inc = work.node.setting.inc; taken = false; yielded = false } ∷ [] }) work)
  lend_tidy tid client work begun t = with_loans work (work.node.kept.now.loans ++ loan ∷ []) (all_last (is_tidy_loan c) work.node.kept.now.loans loan t.node.loans (both_and (c.begun tid) (nat_le work.node.setting.inc c.setting.inc) begun low)) t
    where
      loan : Lent
      loan = record { tid = tid; client = client; inc = work.node.setting.inc; taken = false; yielded = false }

      itself : (n : ℕ) → nat_le n n ≡ true
      itself n = grind (arith, nat_tests)

      low : nat_le work.node.setting.inc c.setting.inc ≡ true
      low = ap (λ (s : Setting). nat_le s.inc c.setting.inc) t.node.setting ∙ itself c.setting.inc

  -- ---- servers

  serve_tidy : (server : ServerNo) (f : ServerValue → ServerValue) (work : Work) → same_kind f → IsTidy c work → IsTidy c (change_server server f work)
  serve_tidy server f work same t = node_tidy c work (change_server server f work).node refl (record {
    setting = t.node.setting;
    own = t.node.own;
    inc = t.node.inc;
    count = t.node.count;
    ordered = t.node.ordered;
    known = t.node.known;
    apart = t.node.apart;
    waiting = t.node.waiting;
    labels = t.node.labels;
    loans = t.node.loans;
    outcomes = t.node.outcomes;
    commands = t.node.commands;
    kinds = λ r below. ap number_of (kind_kept f same r work.node.servers server) ∙ t.node.kinds r below;
    committed = t.node.committed;
    crossed = record { owned = t.node.crossed.owned; commits = t.node.crossed.commits; fresh = t.node.crossed.fresh; pasts = t.node.crossed.pasts; earlier = t.node.crossed.earlier };
  }) t

  local_tidy : (tid : Tid) (number : ℕ) (work : Work) → IsTidy c work → IsTidy c (Rattle.qs_node_step.specs.Requests.with_local tid number work)
  local_tidy tid number work t = node_tidy c work (Rattle.qs_node_step.specs.Requests.with_local tid number work).node refl (record {
    setting = t.node.setting;
    own = t.node.own;
    inc = t.node.inc;
    count = t.node.count;
    ordered = t.node.ordered;
    known = t.node.known;
    apart = t.node.apart;
    waiting = t.node.waiting;
    labels = t.node.labels;
    loans = t.node.loans;
    outcomes = t.node.outcomes;
    commands = t.node.commands;
    kinds = t.node.kinds;
    committed = t.node.committed;
    crossed = record { owned = t.node.crossed.owned; commits = t.node.crossed.commits; fresh = t.node.crossed.fresh; pasts = t.node.crossed.pasts; earlier = t.node.crossed.earlier };
  }) t

  -- ---- all of it

  plain_same : (f : Rattle.qs_tm.specs.declared.participant.Participant.Participant → Rattle.qs_tm.specs.declared.participant.Participant.Participant) → ((part : Rattle.qs_tm.specs.declared.participant.Participant.Participant) → IsPlain part (f part))
      → (part : Rattle.qs_tm.specs.declared.participant.Participant.Participant) → SamePart part (f part)
  plain_same f plain part = record { home = (plain part).home; superior = (plain part).superior; asked = (plain part).asked; outcome = (plain part).outcome }

  may_forget : (tid : Tid) (part : Rattle.qs_tm.specs.declared.participant.Participant.Participant) (work : Work) → MayForget c.setting.node tid part work → (same_node tid.home c.setting.node ≡ false) ⊎ (part.outcome ≡ Some outcomes.Commit)
  may_forget tid part work (inl away) = inl away.0
  may_forget tid part work (inr committed) = inr committed.0

  pub tidy_ticks : TicksOn (IsTidy c)
  tidy_ticks work t = node_tidy c work _ refl (tick_tidy c work.node t.node) t

  pub tidy_keeps : IsStage c → Keeps c.past c.begun c.met c.setting.node c.setting.nodes (IsTidy c)
  tidy_keeps stage = record {
    enter = λ act work t. out_tidy work (Rattle.qs_node_step.specs.Bringing.enter act work) refl refl refl t;
    doing = λ tid f work same t. out_tidy work (Rattle.qs_node_step.specs.State.with_doings tid f work) refl refl refl t;
    send = send_tidy;
    log = λ rec work fit may t. log_tidy rec work fit t;
    answer = answer_tidy;
    part = λ tid f work plain t. node_tidy c work _ refl (part_tidy c work.node t.node tid f (plain_same f plain)) t;
    ask = λ tid work begun t. node_tidy c work _ refl (ask_tidy c work.node t.node tid begun) t;
    request = λ tid peer number work begun met t. node_tidy c work _ refl (request_tidy c work.node t.node tid peer number begun met) t;
    release = λ tid work none t. node_tidy c work _ refl (release_tidy c work.node t.node tid) t;
    meet = λ tid work begun away t. node_tidy c work _ refl (meet_tidy c work.node t.node tid (stage.inside tid begun).0 away) t;
    keep_abort = λ tid work past none t. node_tidy c work _ refl (keep_abort_tidy c work.node t.node tid past none) t;
    decide = λ tid outcome cause work homed open_now t. node_tidy c work _ refl (decide_tidy c work.node t.node tid outcome cause homed open_now) t;
    learn = λ tid outcome work away t. node_tidy c work _ refl (learn_tidy c work.node t.node tid outcome away) t;
    forget = λ tid part work known may t. node_tidy c work _ refl (forget_tidy c work.node t.node tid part known (may_forget tid part work may)) t;
    enqueue = enqueue_tidy c;
    next = next_tidy c;
    drop = drop_tidy c;
    mark = mark_tidy c;
    learn_label = learn_label_tidy;
    lend = lend_tidy;
    take = λ client tid work t. with_loans work (take_first client tid work.node.kept.now.loans) (all_taken client tid work.node.kept.now.loans t.node.loans) t;
    yield = λ client tid work t. with_loans work (give_back client tid work.node.kept.now.loans) (all_given client tid work.node.kept.now.loans t.node.loans) t;
    opens = opens_tidy;
    issue = issue_tidy;
    local = local_tidy;
    serve = serve_tidy;
  }
