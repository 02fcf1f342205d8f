-- The rule by which a server votes recoverable leaves what the log says of contents and changes as the machine has it.
use Rattle.qs_world_lawful.proofs.Words.{◌≡◌, inl, inr, ℕ, ◌&&◌, ◌++◌, not, Bool, true, false, List, [], ◌∷◌, Option, Some, None, refl, sym, ap, subst, ◌∙◌, fold-append, slice_get, same_tid, Member, ServerNo, Tid, same_tid-true, Act, Inv, held, passed, keeps_contents, BookValue, cell_of_transaction, find_transaction, IsLawful, broken, effect, is_among, TransactionValue, is_commit, Cell, after_vote, changes_in, voted_by, Op, ServerKind, Record, found_record, nothing_said, recovery, ServersValue}
use Rattle.qs_world_lawful.proofs.Words.{server_at, with_server, member_here, Work, here, enter_vote, served_count, vote_with, Participant, entry_of, book_at, entries_so_far, Holds, Lasts, HasCommitted, HoldsLogged, HoldsLogs, IsCommitMade, Every, HoldsMade, SaidAfter, SaidAt, same_Some}
use Rattle.qs_book_journal.specs.declared.entry.Act.TheVariants as acts
use Rattle.qs_book_machine.specs.Clauses.{broken_vote, is_vote_due}
use Rattle.qs_book_machine.specs.Nodes as machine
use Rattle.qs_book_machine.specs.Transaction.{part_of as machine_part}
use Rattle.qs_book_machine.specs.declared.transaction.Cell.TheVariants as cells
use Rattle.qs_ops.specs.declared.server.ServerKind.TheVariants as kinds
use Rattle.qs_ops.specs.declared.vote.Vote.TheVariants as votes
use Rattle.qs_record.specs.declared.record.Record.TheVariants as made
use Rattle.qs_node_step.specs.State.{part_of}
use Rattle.qs_world_lawful.proofs.LogActs.{acting}
use Rattle.qs_world_lawful.proofs.LogKeeps.{book_is, inv_at, lawful_before, lawful_since}
use Rattle.qs_world_lawful.proofs.LogMarks.{one_more}
use Rattle.qs_world_lawful.proofs.LogVoting.{covers_are}
use Rattle.qs_world_lawful.proofs.SaidEntries.{vote_enters_at}
use Rattle.qs_world_lawful.proofs.SaidHeld.{either_server, pending_held}

every_among : (P : Tid → Type 0) (tids : List Tid) (tid : Tid) → Every P tids → is_among tids tid ≡ true → P tid
every_among P [] tid all among = absurd (cc among)
every_among P (t ∷ tids) tid all among = by (same_tid tid t) refl (every_among P tids tid all.1)
  where
    by : (b : Bool) → same_tid tid t ≡ b → (is_among tids tid ≡ true → P tid) → P tid
    by true same more = subst P (sym (same_tid-true tid t same)) all.0
    by false far more = more (rw far at among)

-- a vote that enters is of what is not committed
module _ (book : BookValue) (stamp here : ℕ) (state : machine.NodeValue) (there : slice_get book.nodes here ≡ Some state) (tid : Tid) (server : ServerNo) (covers : ℕ)
    (enters : broken book (entry_of here stamp (acts.Vote tid (record { node = record { 0 = here }; server = server }) votes.Recoverable covers)) ≡ None) where
  abbrev member : Member
  member = record { node = record { 0 = here }; server = server }

  not_committed : HasCommitted book tid → ⊥
  not_committed committed = by (find_transaction book tid) refl (held state.up 2 _ (acting book stamp here (acts.Vote tid member votes.Recoverable covers) state there enters)).1
    where
      both_and : (a b c d : Bool) → (a && ((b && not c) && d)) ≡ true → c ≡ true → ⊥
      both_and true true true d e f = cc e
      both_and true false true d e f = cc e
      both_and false b c d e f = cc e
      both_and true b false d e f = cc f

      by : (o : Option TransactionValue) → find_transaction book tid ≡ o → broken_vote here state tid o member votes.Recoverable covers ≡ None → ⊥
      by None is e = cc e
      by (Some tx) is e =
          both_and _ _ (is_commit tx.cell) _ (passed (is_vote_due here tx member (machine_part tx member state.inc)) 40 _ e) (ap is_commit (same_Some tx.cell cells.Commit (sym (ap cell_of_transaction is) ∙ committed)))

-- the server keeps what it has pending
voted_same : (server : ℕ) → keeps_contents server ≡ true → (tid : Tid) (servers : ServersValue) → changes_in (server_at (with_server (record { 0 = server }) (λ value. after_vote value tid votes.Recoverable) servers) (record { 0 = server })) tid ≡ changes_in (server_at servers (record { 0 = server })) tid
voted_same server keeps tid servers = either_server (λ (k : ℕ). changes_in (server_at (with_server (record { 0 = k }) (λ value. after_vote value tid votes.Recoverable) servers) (record { 0 = k })) tid ≡ changes_in (server_at servers (record { 0 = k })) tid)
    (of servers.files.kind) (audit_of servers.audit.kind) server keeps
  where
    of : (kind : ServerKind) → changes_in (voted_by kind tid votes.Recoverable servers.files) tid ≡ changes_in servers.files tid
    of kinds.Nothing = refl
    of kind = refl

    audit_of : (kind : ServerKind) → changes_in (voted_by kind tid votes.Recoverable servers.audit) tid ≡ changes_in servers.audit tid
    audit_of kinds.Nothing = refl
    audit_of kind = refl

module _ (before : BookValue) (i : Inv before) (stamp : ℕ) (disk waiting : List Record) (tid : Tid) (server : ServerNo) (work : Work) (part : Participant) (known : part_of tid work ≡ Some part) (undecided : part.outcome ≡ None)
    (keeps : keeps_contents server.0 ≡ true) (lasts : Lasts (book_at stamp before work)) (lawful : IsLawful before (entries_so_far stamp (vote_with tid server votes.Recoverable work))) (logs : HoldsLogs stamp before disk waiting work)
    (holds : Holds stamp (book_at stamp before work) work.node) (said : SaidAt stamp before disk waiting work) where
  abbrev new : Work
  new = vote_with tid server votes.Recoverable work

  abbrev voted : Work
  voted = enter_vote tid server votes.Recoverable work

  abbrev at : ℕ
  at = (here work).0

  abbrev covers : ℕ
  covers = served_count tid server work

  abbrev act : Act
  act = acts.Vote tid (member_here work server) votes.Recoverable covers

  abbrev book : BookValue
  book = book_at stamp before work

  abbrev records_so_far : List Record
  records_so_far = disk ++ (waiting ++ work.out.records)

  abbrev changes : List Op
  changes = changes_in (server_at work.node.servers server) tid

  enters : broken book (entry_of at stamp act) ≡ None
  enters = (lawful_since stamp before i disk waiting work new (act ∷ []) refl refl lawful).0

  i_now : Inv book
  i_now = inv_at stamp before i disk waiting work (lawful_before stamp before i disk waiting work new (act ∷ []) refl refl lawful)

  made_here : HoldsMade at book holds.state (recovery records_so_far)
  made_here = subst (λ (state : machine.NodeValue). HoldsMade at book state (recovery records_so_far)) (same_Some said.state holds.state (sym said.there ∙ holds.there)) said.said

  logged_here : HoldsLogged at book holds.state (recovery records_so_far)
  logged_here = subst (λ (state : machine.NodeValue). HoldsLogged at book state (recovery records_so_far)) (same_Some logs.state holds.state (sym logs.there ∙ holds.there)) logs.all

  clear : is_among (recovery records_so_far).committed tid ≡ false
  clear = by (is_among (recovery records_so_far).committed tid) refl
    where
      done : IsCommitMade book holds.state tid → HasCommitted book tid
      done (inl among) = (lasts.nodes (here work) holds.state holds.there).committed tid among
      done (inr committed) = committed

      by : (b : Bool) → is_among (recovery records_so_far).committed tid ≡ b → b ≡ false
      by false is = refl
      by true is = absurd (not_committed book stamp at holds.state holds.there tid server covers enters (done (every_among (IsCommitMade book holds.state) (recovery records_so_far).committed tid logged_here.commits is)))

  entered : SaidAfter at (effect book (entry_of at stamp act)) (recovery (records_so_far ++ made.Prepare tid server covers changes ∷ []))
  entered = vote_enters_at book i_now stamp at holds.state tid server covers changes records_so_far holds.there enters clear (pending_held stamp book work.node tid server holds keeps) made_here

  log_is : recovery (records_so_far ++ made.Prepare tid server covers changes ∷ []) ≡ recovery (disk ++ (waiting ++ new.out.records))
  log_is = fold-append found_record nothing_said records_so_far (made.Prepare tid server covers changes ∷ [])
      ∙ (ap (λ (n : ℕ). found_record (recovery records_so_far) (made.Prepare tid server n changes)) (sym (covers_are stamp before i disk waiting tid server work part known undecided))
      ∙ (ap (λ (ops : List Op). found_record (recovery records_so_far) (made.Prepare tid server (served_count tid server voted) ops)) (sym (voted_same server.0 keeps tid work.node.servers))
      ∙ sym (one_more disk waiting work.out.records (made.Prepare tid server (served_count tid server voted) (changes_in (server_at voted.node.servers server) tid)))))

  pub vote_says : SaidAt stamp before disk waiting new
  vote_says = subst (λ (after : BookValue). SaidAfter at after (recovery (disk ++ (waiting ++ new.out.records)))) (sym (book_is stamp before i disk waiting work new (act ∷ []) refl refl))
      (subst (SaidAfter at (effect book (entry_of at stamp act))) log_is entered)
