-- As the servers of a node learn commit, files and audit commit what is on record, once each, and nothing of it is left on record.
use Rattle.qs_book_laws.proofs.Words.{◌≡◌, ℕ, ◌==◌, ◌||◌, Bool, true, false, List, [], ◌∷◌, Option, Some, None, refl, sym, ap, subst, ◌∙◌, length, nat_lt, if◌then◌else◌, slice_get, list_any, is_at, lookup, remove_entry, same_tid, same_tid-self, same_tid-true, Member, Tid, Entry, BookValue, cell_of_transaction, doubts_after, learn_node, IsLawful, book_after, effect, NodeValue, changes_of, pending_at, record_of, voter, voter_cmp, with_table, opening, is_abort, Opened, OnRecord, Voter, TableValue}
use Rattle.qs_book_laws.proofs.Words.{committed, share_of, Op, IsCoherent, IsCommitted, held_at, keeps_contents}
use Rattle.qs_base.specs.declared.identifiers.Outcome.TheVariants as outcomes
use Rattle.qs_base.specs.declared.identifiers.ServerNo.{ServerNo}
use Rattle.qs_book_journal.specs.declared.entry.Act.TheVariants as acts
use Rattle.qs_book_machine.specs.declared.transaction.Cell.TheVariants as cells
use Rattle.qs_book_laws.specs.Learning.{AllLearn, HasCommitted, HasLearnt, is_server, learning}
use Rattle.qs_book_laws.proofs.Again.{record_there}
use Rattle.qs_book_laws.proofs.Alikes.{voter_exact, voter_itself}
use Rattle.qs_book_laws.proofs.Covers.{voter_apart}
use Rattle.qs_book_laws.proofs.Durable.{learnt_none, ran_tidy}
use Rattle.qs_book_laws.proofs.Ends.{held_there}
use Rattle.qs_book_laws.proofs.Faces.{either_way}
use Rattle.qs_book_laws.proofs.Holding.{same_number, which}
use Rattle.qs_book_laws.proofs.Holds.{changes_in}
use Rattle.qs_book_laws.proofs.Maps.{changed_at_here, removed_none}
use Rattle.qs_book_laws.proofs.OnRecord.{on_record_pends}
use Rattle.qs_book_laws.proofs.Ready.{Ready}
use Rattle.qs_book_laws.proofs.ReadyCommits.{ready_once}
use Rattle.qs_book_laws.proofs.RecordedLearns.{recorded_learns}
use Rattle.qs_book_laws.proofs.Shares.{number, removed_apart, table, table_other}
use Rattle.qs_book_laws.proofs.Takes.{some_same}
use Rattle.qs_book_laws.proofs.Tidy.{AllTidy, IsTidy, opening_tidy, step_tidy}
use Rattle.qs_book_laws.proofs.Unlearnt.{pending_learns}
use Rattle.std.proofs.lemmas.Bool.{eqb-false}

-- ---- one server

abbrev learns : Tid → ServerNo → NodeValue → NodeValue
learns tid server node = doubts_after tid server.0 (learn_node outcomes.Commit tid server.0 node)

doubts_table : (b : Bool) (tid : Tid) (s : ℕ) (node : NodeValue) → table b (doubts_after tid s node) ≡ table b node
doubts_table true tid s node = either_way (λ (v : NodeValue). v.files) (s == 2) _ _ _ refl refl
doubts_table false tid s node = either_way (λ (v : NodeValue). v.audit) (s == 2) _ _ _ refl refl

doubts_records : (tid : Tid) (s : ℕ) (node : NodeValue) → (doubts_after tid s node).records ≡ node.records
doubts_records tid s node = either_way (λ (v : NodeValue). v.records) (s == 2) _ _ _ refl refl

table_records : (s : ℕ) (f : TableValue → TableValue) (node : NodeValue) → (with_table s f node).records ≡ node.records
table_records s f node = either_way (λ (v : NodeValue). v.records) (s == 0) _ _ _ refl
    (either_way (λ (v : NodeValue). v.records) (s == 1) _ _ _ refl
    (either_way (λ (v : NodeValue). v.records) (s == 2) _ _ _ refl
    (either_way (λ (v : NodeValue). v.records) (s == 4) _ _ _ refl
    (either_way (λ (v : NodeValue). v.records) (s == 5) _ _ _ refl refl))))

module _ (tid : Tid) (server : ServerNo) (node : NodeValue) where
  own_table : (b : Bool) → server.0 ≡ number b → table b (learns tid server node) ≡ committed (table b node) tid
  own_table true is = doubts_table true tid server.0 _ ∙ subst (λ (k : ℕ). (with_table k (λ t. committed t tid) node).files ≡ committed node.files tid) (sym is) refl
  own_table false is = doubts_table false tid server.0 _ ∙ subst (λ (k : ℕ). (with_table k (λ t. committed t tid) node).audit ≡ committed node.audit tid) (sym is) refl

  other_table : (b : Bool) → (server.0 == number b) ≡ false → table b (learns tid server node) ≡ table b node
  other_table true far = doubts_table true tid server.0 _ ∙ table_other true server.0 (λ t. committed t tid) node far
  other_table false far = doubts_table false tid server.0 _ ∙ table_other false server.0 (λ t. committed t tid) node far

  records_are : (learns tid server node).records ≡ remove_entry (is_at (voter_cmp (voter tid server.0))) node.records
  records_are = doubts_records tid server.0 _ ∙ ap (remove_entry (is_at (voter_cmp (voter tid server.0)))) (table_records server.0 (λ t. committed t tid) node)

  record_apart : (t : Tid) (s : ℕ) → (server.0 ≡ s → same_tid tid t ≡ false) → record_of (learns tid server node) t s ≡ record_of node t s
  record_apart t s far = ap (lookup (is_at (voter_cmp (voter t s)))) records_are
      ∙ removed_apart (is_at (voter_cmp (voter tid server.0))) (is_at (voter_cmp (voter t s))) (λ k is. by (is_at (voter_cmp (voter tid server.0)) k) refl (voter_exact (voter t s) k is)) node.records
    where
      itself : (v : Voter) → is_at (voter_cmp v) v ≡ true
      itself v = rw (voter_itself v) refl

      by : {k : Voter} (b : Bool) → is_at (voter_cmp (voter tid server.0)) k ≡ b → voter t s ≡ k → b ≡ false
      by false at same = refl
      by {k} true at same = absurd (cc (sym (subst (λ (v : Voter). is_at (voter_cmp v) (voter tid server.0) ≡ true) (voter_exact (voter tid server.0) k at ∙ sym same) (itself (voter tid server.0))) ∙ voter_apart t tid s server.0 far))

  record_none : (t : Tid) (s : ℕ) → record_of node t s ≡ None → record_of (learns tid server node) t s ≡ None
  record_none t s none = ap (lookup (is_at (voter_cmp (voter t s)))) records_are ∙ removed_none (is_at (voter_cmp (voter tid server.0))) (is_at (voter_cmp (voter t s))) node.records none

  -- what a server has pending is committed, and nothing is pending there any more
  committed_here : (b : Bool) → server.0 ≡ number b → IsTidy node → (after : TableValue) (c : Bool) → HasCommitted (table b (learns tid server node)) after (if c then changes_in b tid (learns tid server node) else []) → HasCommitted (table b node) after (changes_in b tid node)
  committed_here b is tidy after c h = of (empty c h)
    where
      nothing : (b : Bool) → server.0 ≡ number b → changes_in b tid (learns tid server node) ≡ []
      nothing true is = subst (λ (k : ℕ). changes_in true tid (learns tid (record { 0 = k }) node) ≡ []) (sym is) (learnt_none true tid node tidy).0
      nothing false is = subst (λ (k : ℕ). changes_in false tid (learns tid (record { 0 = k }) node) ≡ []) (sym is) (learnt_none false tid node tidy).0

      empty : (c : Bool) → HasCommitted (table b (learns tid server node)) after (if c then changes_in b tid (learns tid server node) else []) → HasCommitted (table b (learns tid server node)) after []
      empty true h = subst (HasCommitted (table b (learns tid server node)) after) (nothing b is) h
      empty false h = h

      of : HasCommitted (table b (learns tid server node)) after [] → HasCommitted (table b node) after (changes_in b tid node)
      of h = record { contents = h.contents ∙ ap (λ (t : TableValue). t.contents) (own_table b is); notes = h.notes ∙ ap (λ (t : TableValue). t.notes) (own_table b is) }

  gone_here : (b : Bool) → server.0 ≡ number b → IsTidy node → record_of (learns tid server node) tid (number b) ≡ None
  gone_here true is tidy = subst (λ (k : ℕ). record_of (learns tid (record { 0 = k }) node) tid 0 ≡ None) (sym is) (learnt_none true tid node tidy).1
  gone_here false is tidy = subst (λ (k : ℕ). record_of (learns tid (record { 0 = k }) node) tid 1 ≡ None) (sym is) (learnt_none false tid node tidy).1

-- ---- one after the other

abbrev has : Bool → List ServerNo → Bool
has b servers = list_any (is_server (number b)) servers

record Runs (tid : Tid) (node after : NodeValue) (servers : List ServerNo) : Type 0 where
  tables : (b : Bool) → HasCommitted (table b node) (table b after) (if has b servers then changes_in b tid node else [])
  records : (b : Bool) → record_of after tid (number b) ≡ (if has b servers then None else record_of node tid (number b))
  others : (t : Tid) (s : ℕ) → same_tid tid t ≡ false → record_of after t s ≡ record_of node t s

one_more : (tid : Tid) (server : ServerNo) (servers : List ServerNo) (node after : NodeValue) → IsTidy node → Runs tid (learns tid server node) after servers → Runs tid node after (server ∷ servers)
one_more tid server servers node after tidy rest = record {
  tables = λ b. tables b (server.0 == number b) refl;
  records = λ b. records b (server.0 == number b) refl;
  others = λ t s far. rest.others t s far ∙ record_apart tid server node t s (λ is. far);
}
  where
    tables : (b c : Bool) → (server.0 == number b) ≡ c → HasCommitted (table b node) (table b after) (if c || has b servers then changes_in b tid node else [])
    tables b true is = committed_here tid server node b (same_number server.0 (number b) is) tidy (table b after) (has b servers) (rest.tables b)
    tables b false far = subst (λ (t : TableValue). HasCommitted t (table b after) (if has b servers then (share_of t tid).changes else [])) (other_table tid server node b far) (rest.tables b)

    gone : (b : Bool) → record_of (learns tid server node) tid (number b) ≡ None → (c : Bool) → record_of after tid (number b) ≡ (if c then None else record_of (learns tid server node) tid (number b)) → record_of after tid (number b) ≡ None
    gone b none true is = is
    gone b none false is = is ∙ none

    records : (b c : Bool) → (server.0 == number b) ≡ c → record_of after tid (number b) ≡ (if c || has b servers then None else record_of node tid (number b))
    records b true is = gone b (gone_here tid server node b (same_number server.0 (number b) is) tidy) (has b servers) (rest.records b)
    records b false far = subst (λ (o : Option OnRecord). record_of after tid (number b) ≡ (if has b servers then None else o)) (record_apart tid server node tid (number b) (λ is. absurd (eqb-false server.0 (number b) far is))) (rest.records b)

-- the node after all of them
abbrev Ran : ℕ → ℕ → Tid → List ServerNo → BookValue → NodeValue → Type 0
Ran stamp n tid servers book node = (after : NodeValue) × (slice_get (book_after book (learning stamp n tid servers)).nodes n ≡ Some after) × Runs tid node after servers

runs : (stamp n : ℕ) (tid : Tid) (servers : List ServerNo) (book : BookValue) (node : NodeValue) → AllTidy book.nodes → slice_get book.nodes n ≡ Some node → Ran stamp n tid servers book node
runs stamp n tid [] book node tidy there = (node, there, record { tables = λ b. record { contents = refl; notes = refl }; records = λ b. refl; others = λ t s far. refl })
runs stamp n tid (server ∷ servers) book node tidy there = on (runs stamp n tid servers (effect book entry) (learns tid server node) (step_tidy book entry tidy) (changed_at_here (learns tid server) book.nodes n node there))
  where
    entry : Entry
    entry = record { stamp = stamp; node = record { 0 = n }; act = acts.Learn tid (record { node = record { 0 = n }; server = server }) outcomes.Commit }

    on : Ran stamp n tid servers (effect book entry) (learns tid server node) → Ran stamp n tid (server ∷ servers) book node
    on r = (r.0, r.1, one_more tid server servers node r.0 (tidy n node there) r.2)

-- ---- of what is committed

module _ (opened : List Opened) (history : List Entry) (stamp n : ℕ) (tid : Tid) (servers : List ServerNo) (node : NodeValue) (coherent : IsCoherent opened) (there : nat_lt n (length opened) ≡ true) (at_home : nat_lt tid.home.0 (length opened) ≡ true)
    (lawful : IsLawful (opening opened) history) (is : IsCommitted (book_after (opening opened) history) tid) (node_there : slice_get (book_after (opening opened) history).nodes n ≡ Some node) (all : AllLearn (book_after (opening opened) history) tid n node servers) where
  abbrev book : BookValue
  book = book_after (opening opened) history

  abbrev member : Bool → Member
  member b = record { node = record { 0 = n }; server = record { 0 = number b } }

  keeps : (b : Bool) → keeps_contents (number b) ≡ true
  keeps true = refl
  keeps false = refl

  pending : (b : Bool) → pending_at node tid (number b) ≡ changes_in b tid node
  pending true = refl
  pending false = refl

  held : (b : Bool) → held_at book tid (member b) ≡ changes_in b tid node
  held b = held_there book tid (member b) node node_there ∙ pending b

  -- what is pending is on record,
  recorded : (b : Bool) → changes_in b tid node ≡ changes_of (record_of node tid (number b))
  recorded b = sym (held b) ∙ (on_record_pends opened coherent tid (member b) (keeps b) there history lawful is ∙ ap changes_of (record_there book tid n (number b) node node_there))

  -- and where something is, its server learns
  unheld : (b : Bool) → has b servers ≡ false → changes_in b tid node ≡ []
  unheld b off = by (changes_in b tid node) refl
    where
      ready : Ready book tid (member b)
      ready = ready_once tid (member b) opened history coherent lawful is

      open_still : is_abort ready.tx.cell ≡ false
      open_still = ap is_abort (some_same ready.tx.cell cells.Commit (sym (ap cell_of_transaction ready.found) ∙ is))

      among : (held_at book tid (member b) ≡ [] → ⊥) → has b servers ≡ true
      among some = all ready.tx (record { 0 = number b }) ready.found (keeps b) (pending_learns opened coherent tid (member b) (keeps b) there at_home history lawful ready.tx node ready.found node_there open_still ready.plain some)

      filled : (x : Op) (xs : List Op) → x ∷ xs ≡ [] → ⊥
      filled x xs e = cc e

      by : (ops : List Op) → changes_in b tid node ≡ ops → ops ≡ []
      by [] e = refl
      by (x ∷ xs) e = absurd (cc (sym (among (λ none. filled x xs (sym e ∙ (sym (held b) ∙ none)))) ∙ off))

  clear : (b : Bool) → has b servers ≡ false → changes_of (record_of node tid (number b)) ≡ []
  clear b off = sym (recorded b) ∙ unheld b off

  table_learns : (b c : Bool) → has b servers ≡ c → (after : TableValue) → HasCommitted (table b node) after (if c then changes_in b tid node else []) → HasCommitted (table b node) after (changes_of (record_of node tid (number b)))
  table_learns b true its after h = subst (HasCommitted (table b node) after) (recorded b) h
  table_learns b false off after h = subst (HasCommitted (table b node) after) (sym (clear b off)) h

  -- and where something is on record, its server learns
  unrecorded : (b : Bool) → has b servers ≡ false → record_of node tid (number b) ≡ None
  unrecorded b off = by (record_of node tid (number b)) refl
    where
      ready : Ready book tid (member b)
      ready = ready_once tid (member b) opened history coherent lawful is

      by : (o : Option OnRecord) → record_of node tid (number b) ≡ o → o ≡ None
      by None at = refl
      by (Some rec) at = absurd (cc (sym (all ready.tx (record { 0 = number b }) ready.found (keeps b)
          (recorded_learns opened coherent tid (member b) (keeps b) there at_home history lawful is ready.tx node ready.found node_there (λ none. cc (sym at ∙ none)))) ∙ off))

  record_gone : (b c : Bool) → has b servers ≡ c → (after : NodeValue) → record_of after tid (number b) ≡ (if c then None else record_of node tid (number b)) → record_of after tid (number b) ≡ None
  record_gone b true its after h = h
  record_gone b false off after h = h ∙ unrecorded b off

  turned : (t : Tid) → same_tid t tid ≡ false → same_tid tid t ≡ false
  turned t far = by (same_tid tid t) refl
    where
      by : (b : Bool) → same_tid tid t ≡ b → b ≡ false
      by false at = refl
      by true at = absurd (cc (sym (subst (λ (u : Tid). same_tid t u ≡ true) (sym (same_tid-true tid t at)) (same_tid-self t)) ∙ far))

  pub learns_all : (after : NodeValue) × (slice_get (book_after book (learning stamp n tid servers)).nodes n ≡ Some after) × HasLearnt tid node after
  learns_all =
      let r : Ran stamp n tid servers book node = runs stamp n tid servers book node (ran_tidy history (opening opened) (opening_tidy opened coherent)) node_there in (
        r.0,
        r.1,
        record {
          files = table_learns true (has true servers) refl r.0.files (r.2.tables true);
          audit = table_learns false (has false servers) refl r.0.audit (r.2.tables false);
          gone = λ server kept. gone r.0 r.2 server (which server kept);
          others = λ t server far. r.2.others t server (turned t far);
        },
      )
    where
      gone : (after : NodeValue) → Runs tid node after servers → (server : ℕ) → (b : Bool) × (server ≡ number b) → record_of after tid server ≡ None
      gone after r server (b, its) = subst (λ (k : ℕ). record_of after tid k ≡ None) (sym its) (record_gone b (has b servers) refl after (r.records b))
