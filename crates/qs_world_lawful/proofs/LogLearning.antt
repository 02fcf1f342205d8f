-- Members learn commit: the log has the Commit of what is on record of it, or nothing is on record of it.
use Rattle.qs_world_lawful.proofs.Words.{◌≡◌, ◌⊎◌, inl, inr, ℕ, Bool, true, false, List, [], ◌∷◌, ◌++◌, Option, Some, None, refl, sym, ap, subst, ◌∙◌, map, fold, append_assoc, append-nil, slice_get, is_some, list_any, lookup, is_at, NodeNo, ServerNo, Tid, Act, BookValue, IsLawful, book_after, effect, is_among, OnRecord, Voter, removed_none, Inv, Prepared, Recovery, names_transaction, Manager, Participant, learn_member, Work, here, entry_of, entries_of, Every, Later, HasAborted, HasCommitted}
use Rattle.qs_world_lawful.proofs.Words.{IsPrepared, IsKnown, IsMarked, IsRecordSafe, IsNamed, HoldsLogged, KnowsLog, and_first}
use Rattle.qs_base.specs.declared.identifiers.Outcome.TheVariants as outcomes
use Rattle.qs_book_journal.specs.declared.entry.Act.TheVariants as acts
use Rattle.qs_book_machine.specs.Nodes as machine
use Rattle.qs_book_laws.proofs.Steps.{stepped}
use Rattle.qs_tm.specs.Manager as tm
use Rattle.qs_tm.specs.Outcomes as outcome_rules
use Rattle.qs_world_lawful.proofs.LogActs.{acted_later, by_learn, next, next_there, records_are}
use Rattle.qs_world_lawful.proofs.LogKeeps.{later_self, later_then}
use Rattle.qs_world_lawful.proofs.LogRecords.{is_found, found_is, to_votes}
use Rattle.qs_world_lawful.proofs.Marks.{SameMarks, KnowsOn, knows_self, knows_then, part_on}
use Rattle.qs_world_lawful.proofs.NamedActs.{named_after}
use Rattle.qs_base_lemmas.proofs.Tests.{none_some}

-- ---- the machine

-- nothing is on record of it but what the log has the Commit of
abbrev pub IsClear : Tid → machine.NodeValue → Recovery → Type 0
IsClear tid state log = (is_among log.committed tid ≡ true) ⊎ ((s : ℕ) → machine.record_of state tid s ≡ None)

pub record LearntAll (here : ℕ) (tid : Tid) (old new : BookValue) (state : machine.NodeValue) : Type 0 where
  pub later : Later old new
  pub named : IsNamed new
  pub next : machine.NodeValue
  pub there : slice_get new.nodes here ≡ Some next
  pub logged : (log : Recovery) → IsClear tid state log → HoldsLogged here old state log → HoldsLogged here new next log

abbrev pub learn_acts : NodeNo → Tid → List ServerNo → List Act
learn_acts node tid servers = map (λ (server : ServerNo). acts.Learn tid (record { node = node; server = server }) outcomes.Commit) servers

pub all_learn : (stamp here : ℕ) (tid : Tid) (servers : List ServerNo) (book : BookValue) (state : machine.NodeValue) → Inv book → IsNamed book → slice_get book.nodes here ≡ Some state
    → IsLawful book (entries_of here stamp (learn_acts (record { 0 = here }) tid servers)) → LearntAll here tid book (book_after book (entries_of here stamp (learn_acts (record { 0 = here }) tid servers))) state
all_learn stamp here tid [] book state i named there lawful = record { later = later_self book; named = named; next = state; there = there; logged = λ log clear h. h }
all_learn stamp here tid (server ∷ servers) book state i named there lawful =
    let act : Act = acts.Learn tid (record { node = record { 0 = here }; server = server }) outcomes.Commit in
    let new : BookValue = effect book (entry_of here stamp act) in
    let after : machine.NodeValue = next book stamp here state i there tid server in
    let more = all_learn stamp here tid servers new after (stepped book (entry_of here stamp act) i lawful.0).inv (named_after book stamp here state there act refl lawful.0 named)
    (next_there book stamp here state i there tid server) lawful.1 in
    record {
      later = later_then book new (book_after new (entries_of here stamp (learn_acts (record { 0 = here }) tid servers))) (acted_later book stamp here state i there act refl lawful.0) more.later;
      named = more.named;
      next = more.next;
      there = more.there;
      logged = λ log clear h. more.logged log (still log clear) (by_learn book stamp here state i there tid server lawful.0 log (done log clear) h);
    }
  where
    done : (log : Recovery) → IsClear tid state log → is_some (machine.record_of state tid server.0) ≡ true → is_among log.committed tid ≡ true
    done log (inl is) some = is
    done log (inr none) some = absurd (none_some (machine.record_of state tid server.0) (none server.0) some)

    still : (log : Recovery) → IsClear tid state log → IsClear tid (next book stamp here state i there tid server) log
    still log (inl is) = inl is
    still log (inr none) = inr (λ s. ap (λ (rs : List (Voter × OnRecord)). lookup (is_at (machine.voter_cmp (machine.voter tid s))) rs) (records_are book stamp here state i there tid server)
        ∙ removed_none (is_at (machine.voter_cmp (machine.voter tid server.0))) (is_at (machine.voter_cmp (machine.voter tid s))) state.records (none s))

-- ---- where the node has no Prepare of it

pub any_of : (P : Prepared → Type 0) (test : Prepared → Bool) (xs : List Prepared) → list_any test xs ≡ true → Every P xs → (x : Prepared) × (test x ≡ true) × P x
any_of P test [] h all = absurd (cc h)
any_of P test (x ∷ xs) h all = by (test x) refl (any_of P test xs)
  where
    by : (b : Bool) → test x ≡ b → (list_any test xs ≡ true → Every P xs → (y : Prepared) × (test y ≡ true) × P y) → (y : Prepared) × (test y ≡ true) × P y
    by true is more = (x, is, all.0)
    by false is more = more (rw is at h) all.1

every_pair : (P Q : Prepared → Type 0) (xs : List Prepared) → Every P xs → Every Q xs → Every (λ x. P x × Q x) xs
every_pair P Q [] p q = tt
every_pair P Q (x ∷ xs) p q = ((p.0, q.0), every_pair P Q xs p.1 q.1)

pub clear : (here : ℕ) (book : BookValue) (state : machine.NodeValue) (manager : Manager) (log : Recovery) (tid : Tid) → HasCommitted book tid → HoldsLogged here book state log → KnowsLog book manager log → (IsPrepared (tm.part_of tid manager) → ⊥) → IsClear tid state log
clear here book state manager log tid done h k unprepared = by (is_among log.committed tid) refl
  where
    open_cell : HasAborted book tid → ⊥
    open_cell is = cc (sym is ∙ done)

    none_on : is_among log.committed tid ≡ false → (s : ℕ) (o : Option OnRecord) → machine.record_of state tid s ≡ o → o ≡ None
    none_on far s None is = refl
    none_on far s (Some rec) is = absurd (safe (h.kept tid s rec is))
      where
        clash : is_among log.committed tid ≡ true → ⊥
        clash e = cc (sym far ∙ e)

        found : (x : Prepared) → is_found (machine.voter tid s) rec.covers x ≡ true → IsKnown manager x → IsMarked log x → ⊥
        found x at known marked = on (x.committed) refl
          where
            same : x.tid ≡ tid
            same = (found_is (machine.voter tid s) rec.covers x at).0

            on : (b : Bool) → x.committed ≡ b → ⊥
            on true is_marked = clash (subst (λ (t : Tid). is_among log.committed t ≡ true) same (marked is_marked))
            on false is_open = unprepared (subst (λ (t : Tid). IsPrepared (tm.part_of t manager)) same (known (and_first (names_transaction x.tid) _ at) is_open))

        safe : IsRecordSafe book log (machine.voter tid s) rec.covers → ⊥
        safe (inl gone) = open_cell gone
        safe (inr (inl is_done)) = clash is_done
        safe (inr (inr is_in)) =
            let at = any_of (λ x. IsKnown manager x × IsMarked log x) (is_found (machine.voter tid s) rec.covers) log.prepared (to_votes (machine.voter tid s) rec.covers log is_in) (every_pair (IsKnown manager) (IsMarked log) log.prepared k.votes h.marked) in
            found at.0 at.1 at.2.0 at.2.1

    by : (b : Bool) → is_among log.committed tid ≡ b → IsClear tid state log
    by true is = inl is
    by false far = inr (λ s. none_on far s (machine.record_of state tid s) refl)

-- ---- the work

pub record Learns (tid : Tid) (servers : List ServerNo) (work new : Work) : Type 0 where
  pub entries : new.out.entries ≡ work.out.entries ++ learn_acts (here work) tid servers
  pub records : new.out.records ≡ work.out.records
  pub force : new.out.force ≡ work.out.force
  pub setting : new.node.setting ≡ work.node.setting
  pub knows : KnowsOn work.node.manager new.node.manager

settled_marks : (server : ServerNo) (part : Participant) → SameMarks part (outcome_rules.settled server part)
settled_marks server part = record { log = refl; outcome = refl; involved = λ is. is }

pub learns : (tid : Tid) (servers : List ServerNo) (work : Work) → Learns tid servers work (fold (learn_member tid outcomes.Commit) work servers)
learns tid [] work = record { entries = sym (append-nil work.out.entries); records = refl; force = refl; setting = refl; knows = knows_self work.node.manager }
learns tid (server ∷ servers) work =
    let one : Work = learn_member tid outcomes.Commit work server in
    let more : Learns tid servers one (fold (learn_member tid outcomes.Commit) one servers) = learns tid servers one in
    record {
      entries = more.entries ∙ append_assoc work.out.entries (acts.Learn tid (record { node = here work; server = server }) outcomes.Commit ∷ []) (learn_acts (here work) tid servers);
      records = more.records;
      force = more.force;
      setting = more.setting;
      knows = knows_then work.node.manager one.node.manager (fold (learn_member tid outcomes.Commit) one servers).node.manager (part_on tid (outcome_rules.settled server) (settled_marks server) work.node.manager) more.knows;
    }
