-- A node stops, in place of a step or in a step whose batch is lost: a restart will find the log that is on the disk.
use Rattle.qs_world_lawful.proofs.Words.{◌≡◌, ◌⊎◌, inl, inr, ℕ, Bool, true, false, List, [], ◌∷◌, ◌++◌, Option, Some, None, refl, sym, subst, ◌∙◌, nat_lt, slice_get, lookup, is_at, Tid, CrashCause, Entry, IsCoherent, voter_exact, voter_itself, Inv, IsBelow, IsRising, TransactionValue, Cell, BookValue, find_transaction, cell_of_transaction, book_after, effect, broken, opening, may_be_lost, is_committed, broken_restart, Opened, OnRecord, Voter, Record, Prepared, Recovery, recovery, Manager, entry_of}
use Rattle.qs_world_lawful.proofs.Words.{is_crash, Holds, found_votes, Every, IsVoteLogged, IsCutVote, IsRecordKept, IsCommitLogged, HoldsStopped, IsRecordSafe, IsCommitMade, HoldsLogged, HoldsHost, some_same}
use Rattle.qs_book_journal.specs.declared.entry.Act.TheVariants as acts
use Rattle.qs_book_laws.proofs.Tidy.{AllTidy, step_tidy, opening_tidy}
use Rattle.qs_book_machine.specs.declared.transaction.Cell.TheVariants as cells
use Rattle.qs_book_machine.specs.Nodes as machine
use Rattle.qs_node_step.specs.State as state
use Rattle.qs_world_lawful.proofs.LogActs.{LoggedAfter, by_plain, acted_later}
use Rattle.qs_world_lawful.proofs.Marks.{knows_on, knows_self}
use Rattle.qs_world_lawful.proofs.NamedActs.{named_after}
use Rattle.qs_world_lawful.proofs.Restarting.{may_restart}
use Rattle.qs_world_lawful.proofs.LogFrames.{every_on}

-- ---- each entry of a map is found under its key

below_none : (k : Voter) (es : List (Voter × OnRecord)) → IsBelow machine.voter_cmp k es → lookup (is_at (machine.voter_cmp k)) es ≡ None
below_none k [] below = refl
below_none k (e ∷ es) below = rw below.0 (below_none k es below.1)

every_found : (P : Voter × OnRecord → Type 0) (es : List (Voter × OnRecord)) → IsRising machine.voter_cmp es → ((at : Voter) (rec : OnRecord) → lookup (is_at (machine.voter_cmp at)) es ≡ Some rec → P (at, rec)) → Every P es
every_found P [] rising gives = tt
every_found P (e ∷ es) rising gives = (gives e.0 e.1 (rw (voter_itself e.0) refl), every_found P es rising.1 (λ at rec is. gives at rec (apart at rec is)))
  where
    clash : {X : Type 0} (rec : OnRecord) → None ≡ Some rec → X
    clash rec c = absurd (cc c)

    apart : (at : Voter) (rec : OnRecord) → lookup (is_at (machine.voter_cmp at)) es ≡ Some rec → lookup (is_at (machine.voter_cmp at)) (e ∷ es) ≡ Some rec
    apart at rec is = by (is_at (machine.voter_cmp at) e.0) refl
      where
        by : (b : Bool) → is_at (machine.voter_cmp at) e.0 ≡ b → lookup (is_at (machine.voter_cmp at)) (e ∷ es) ≡ Some rec
        by true same = clash rec (sym (below_none at es (subst (λ (v : Voter). IsBelow machine.voter_cmp v es) (sym (voter_exact at e.0 same)) rising.0)) ∙ is)
        by false far = rw far is

-- ---- what may be missing once a node stopped

lost : (here : ℕ) (tid : Tid) (o : Option TransactionValue) → cell_of_transaction o ≡ Some cells.Abort → may_be_lost here tid o ≡ true
lost here tid None e = absurd (cc e)
lost here tid (Some tx) e = by tx.cell refl (some_same e)
  where
    by : (c : Cell) → tx.cell ≡ c → tx.cell ≡ cells.Abort → may_be_lost here tid (Some tx) ≡ true
    by c is aborted = rw aborted refl

made : (here : ℕ) (tid : Tid) (o : Option TransactionValue) → cell_of_transaction o ≡ Some cells.Commit → is_committed here tid o ≡ true
made here tid None e = absurd (cc e)
made here tid (Some tx) e = committed (some_same e)
  where
    committed : tx.cell ≡ cells.Commit → is_committed here tid (Some tx) ≡ true
    committed is = rw is refl

pub stopped : (here : ℕ) (book : BookValue) (state : machine.NodeValue) (log : Recovery) → IsRising machine.voter_cmp state.records → HoldsLogged here book state log → HoldsStopped here book state log
stopped here book state log rising h = record {
  kinds = h.kinds;
  votes = every_on (IsVoteLogged here book state log) (λ (vote : Prepared). IsVoteLogged here book state log vote ⊎ IsCutVote here book state vote) (λ vote is. inl is) log.prepared h.votes;
  kept = every_found (IsRecordKept here book log) state.records rising (λ at rec is. kept at rec (h.kept at.tid at.server.0 rec is));
  commits = every_on (IsCommitMade book state) (IsCommitLogged here book state) commit log.committed h.commits;
}
  where
    kept : (at : Voter) (rec : OnRecord) → IsRecordSafe book log at rec.covers → IsRecordKept here book log (at, rec)
    kept at rec (inl gone) = inl (lost here at.tid (find_transaction book at.tid) gone)
    kept at rec (inr is) = inr is

    commit : (tid : Tid) → IsCommitMade book state tid → IsCommitLogged here book state tid
    commit tid (inl is) = inl is
    commit tid (inr is) = inr (made here tid (find_transaction book tid) is)

-- ---- it stops

ran_tidy : (entries : List Entry) (book : BookValue) → AllTidy book.nodes → AllTidy (book_after book entries).nodes
ran_tidy [] book tidy = tidy
ran_tidy (entry ∷ entries) book tidy = ran_tidy entries (effect book entry) (step_tidy book entry tidy)

module _ (opened : List Opened) (history : List Entry) (coherent : IsCoherent opened) (i : Inv (book_after (opening opened) history)) (n : ℕ) (manager : Manager) (disk waiting : List Record) where
  abbrev book : BookValue
  book = book_after (opening opened) history

  module _ (h : HoldsHost n book manager disk waiting) where
    -- what is held of its log is so while it is down
    pub still_held : (stamp : ℕ) (cause : CrashCause) → broken book (entry_of n stamp (acts.Crash cause)) ≡ None → HoldsHost n (effect book (entry_of n stamp (acts.Crash cause))) manager disk waiting
    still_held stamp cause lawful =
        let new : BookValue = effect book (entry_of n stamp (acts.Crash cause)) in
        let at : LoggedAfter n new (HoldsLogged n book h.state) = by_plain book stamp n h.state i h.there (acts.Crash cause) refl lawful in
        record {
          state = at.state;
          there = at.there;
          named = named_after book stamp n h.state h.there (acts.Crash cause) refl lawful h.named;
          all = at.logged (recovery (disk ++ waiting)) h.all;
          knows = knows_on book new manager manager (recovery (disk ++ waiting)) (acted_later book stamp n h.state i h.there (acts.Crash cause) refl lawful) (knows_self manager) h.knows;
          on_disk = at.logged (recovery disk) h.on_disk;
          alike = h.alike;
        }

    -- and so a restart may find it
    pub may_find : HoldsStopped n book h.state (recovery disk)
    may_find = stopped n book h.state (recovery disk) (ran_tidy history (opening opened) (opening_tidy opened coherent) n h.state h.there).records h.on_disk

    pub may_rise : (state : machine.NodeValue) → slice_get book.nodes n ≡ Some state → (inc : ℕ) → nat_lt state.inc inc ≡ true → broken_restart n book state inc (found_votes (recovery disk)) (recovery disk).committed ≡ None
    may_rise state there inc rises = may_restart n book state disk inc rises (subst (λ (v : machine.NodeValue). HoldsStopped n book v (recovery disk)) (some_same (sym h.there ∙ there)) may_find)

-- a crash is lawful, where the machine holds what the node has
pub may_crash : (stamp : ℕ) (book : BookValue) (node : state.NodeValue) → Holds stamp book node → (cause : CrashCause) → is_crash cause ≡ true → broken book (entry_of node.setting.node.0 stamp (acts.Crash cause)) ≡ None
may_crash stamp book node h cause is = rw (h.order, h.there, h.same.up, is) refl
