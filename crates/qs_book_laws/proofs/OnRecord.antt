-- What is on record of a committed transaction at files and audit is what they have pending of it, from its commit or the opening on.
use Rattle.qs_book_laws.proofs.Words.{◌≡◌, ◌⊎◌, inl, inr, ℕ, Bool, true, false, List, [], ◌∷◌, ◌++◌, Option, Some, None, refl, sym, ap, subst, ◌∙◌, append_assoc, nat_lt, ◌==◌, slice_get, length, flat_map, fold, map, if◌then◌else◌, lookup, is_at, option_map, append-nil, fold-append, slice_get-map, same_tid, same_tid-true, Member, Tid, Entry, TransactionValue, is_open, Cell, BookValue, find_transaction, cell_of_transaction, broken, effect, IsLawful, book_after, NodeValue, changes_of, pending_at}
use Rattle.qs_book_laws.proofs.Words.{record_of, voter, voter_cmp, opening, opened_node, keep_pending, put_of, note_of, put_record, record_at, Opened, Pending, OnRecord, Voter, TableValue, share_of, kept, applied, no_table, Share, Op, Applies, IsKept, IsCoherent, IsCommitted, IsDecided, held_at, keeps_contents, changes_served}
use Rattle.qs_book_machine.specs.declared.transaction.Cell.TheVariants as cells
use Rattle.qs_book_laws.specs.Durable.{IsGone}
use Rattle.qs_book_laws.proofs.Again.{record_there}
use Rattle.qs_book_laws.proofs.Alikes.{voter_equal, voter_itself}
use Rattle.qs_book_laws.proofs.Always.{unknown}
use Rattle.qs_book_laws.proofs.AtCommit.{kept_at_commit}
use Rattle.qs_book_laws.proofs.Committed.{ran_shut}
use Rattle.qs_book_laws.proofs.Covers.{voter_apart}
use Rattle.qs_book_laws.proofs.Durable.{Settled, kept_step, gone_step, ran_tidy}
use Rattle.qs_book_laws.proofs.Ends.{held_there}
use Rattle.qs_book_laws.proofs.Histories.{stays}
use Rattle.qs_book_laws.proofs.Holding.{which, same_number}
use Rattle.qs_book_laws.proofs.InRun.{in_run}
use Rattle.qs_book_laws.proofs.LiveOpenings.{log_at}
use Rattle.qs_book_laws.proofs.Maps.{lookup_put, lookup_put_apart}
use Rattle.qs_book_laws.proofs.Openings.{opening_holds}
use Rattle.qs_book_laws.proofs.Outcomes.{Inv}
use Rattle.qs_book_laws.proofs.Ready.{Ready, unanimous_ready}
use Rattle.qs_book_laws.proofs.ReadyCommits.{ready_once}
use Rattle.qs_book_laws.proofs.Shares.{number, share_put, share_put_other}
use Rattle.qs_book_laws.proofs.ShutOpenings.{opening_opens, opening_shut}
use Rattle.qs_book_laws.proofs.Steps.{stepped, ran, after_both, lawful_front, lawful_rest}
use Rattle.qs_book_laws.proofs.Takes.{some_same}
use Rattle.qs_book_laws.proofs.Tidy.{opening_tidy}
use Rattle.qs_book_laws.proofs.Unanimous.{Commits, step_commits}
use Rattle.std.proofs.lemmas.Bool.{eqb-false}

-- ---- as a run begins: each vote that a log holds is pending as it is on record

one_opened : (tid : Tid) (s : ℕ) (p : Pending) (es : List (Voter × OnRecord)) (t : TableValue) → (share_of t tid).changes ≡ changes_of (lookup (is_at (voter_cmp (voter tid s))) es)
    → (share_of (fold kept t (keep_pending s p)) tid).changes ≡ changes_of (lookup (is_at (voter_cmp (voter tid s))) (put_record es p))
one_opened tid s p es t same = by (p.server.0 == s) (same_tid p.tid tid) refl refl
  where
    rec : OnRecord
    rec = record { changes = p.changes; covers = p.covers; pending = length p.changes }

    apart : (p.server.0 ≡ s → same_tid p.tid tid ≡ false) → changes_of (lookup (is_at (voter_cmp (voter tid s))) (put_record es p)) ≡ changes_of (lookup (is_at (voter_cmp (voter tid s))) es)
    apart far = ap changes_of (lookup_put_apart voter_cmp (voter p.tid p.server.0) rec (λ x. voter_equal (voter p.tid p.server.0) x) (is_at (voter_cmp (voter tid s))) (voter_apart tid p.tid s p.server.0 far) es)

    put : p.server.0 ≡ s → p.tid ≡ tid → changes_of (lookup (is_at (voter_cmp (voter tid s))) (put_record es p)) ≡ p.changes
    put near own = subst (λ (u : Tid). changes_of (lookup (is_at (voter_cmp (voter u s))) (put_record es p)) ≡ p.changes) own
        (subst (λ (k : ℕ). changes_of (lookup (is_at (voter_cmp (voter p.tid k))) (put_record es p)) ≡ p.changes) near
        (ap changes_of (lookup_put voter_cmp (voter p.tid p.server.0) rec (voter_itself (voter p.tid p.server.0)) es)))

    by : (b c : Bool) → (p.server.0 == s) ≡ b → same_tid p.tid tid ≡ c
        → (share_of (fold kept t (if b then record { tid = p.tid; changes = p.changes } ∷ [] else [])) tid).changes ≡ changes_of (lookup (is_at (voter_cmp (voter tid s))) (put_record es p))
    by true true near own = subst (λ (u : Tid). (share_of (kept t (record { tid = p.tid; changes = p.changes })) u).changes ≡ p.changes) (same_tid-true p.tid tid own) (ap (λ (x : Share). x.changes) (share_put t p.tid _))
        ∙ sym (put (same_number p.server.0 s near) (same_tid-true p.tid tid own))
    by true false near other = ap (λ (x : Share). x.changes) (share_put_other t p.tid tid _ other) ∙ (same ∙ sym (apart (λ is. other)))
    by false c far own = same ∙ sym (apart (λ is. absurd (eqb-false p.server.0 s far is)))

all_opened : (tid : Tid) (s : ℕ) (pending : List Pending) (es : List (Voter × OnRecord)) (t : TableValue) → (share_of t tid).changes ≡ changes_of (lookup (is_at (voter_cmp (voter tid s))) es)
    → (share_of (fold kept t (flat_map (keep_pending s) pending)) tid).changes ≡ changes_of (lookup (is_at (voter_cmp (voter tid s))) (fold put_record es pending))
all_opened tid s [] es t same = same
all_opened tid s (p ∷ pending) es t same = ap (λ (x : TableValue). (share_of x tid).changes) (fold-append kept t (keep_pending s p) (flat_map (keep_pending s) pending))
    ∙ all_opened tid s pending (put_record es p) (fold kept t (keep_pending s p)) (one_opened tid s p es t same)

node_opened : (b : Bool) (s : ℕ) → s ≡ number b → (one : Opened) (tid : Tid) → pending_at (opened_node one) tid s ≡ changes_of (record_of (opened_node one) tid s)
node_opened true s is one tid = subst (λ (k : ℕ). pending_at (opened_node one) tid k ≡ changes_of (record_of (opened_node one) tid k)) (sym is)
    (all_opened tid 0 one.pending [] (record (applied no_table (map put_of one.files)) { shares = [] }) refl)
node_opened false s is one tid = subst (λ (k : ℕ). pending_at (opened_node one) tid k ≡ changes_of (record_of (opened_node one) tid k)) (sym is)
    (all_opened tid 1 one.pending [] (record (applied no_table (map note_of one.audit)) { shares = [] }) refl)

-- ---- a committed one

-- it is kept as pending, or nothing of it is left
abbrev pub Fated : BookValue → Tid → Member → Type 0
Fated book tid member = ((changes : List Op) × IsKept book tid member changes) ⊎ IsGone book tid member

pub fated_alike : (book : BookValue) (tid : Tid) (member : Member) → Fated book tid member → held_at book tid member ≡ changes_of (record_at member.node.0 book tid member.server.0)
fated_alike book tid member (inl has) = has.1.pending ∙ sym has.1.on_record
fated_alike book tid member (inr gone) = gone.pending ∙ sym (ap changes_of gone.on_record)

module _ (opened : List Opened) (coherent : IsCoherent opened) (tid : Tid) (member : Member) (keeps : keeps_contents member.server.0 ≡ true) (there : nat_lt member.node.0 (length opened) ≡ true) where
  abbrev at : List Entry → BookValue
  at history = book_after (opening opened) history

  -- one entry more
  next : (history : List Entry) (entry : Entry) → IsLawful (opening opened) (history ++ entry ∷ []) → (IsCommitted (at history) tid → Fated (at history) tid member) → IsCommitted (effect (at history) entry) tid → Fated (effect (at history) entry) tid member
  next history entry lawful was now = by (cell_of_transaction (find_transaction (at history) tid)) refl
    where
      front : IsLawful (opening opened) history
      front = lawful_front history (entry ∷ []) (opening opened) lawful

      last : broken (at history) entry ≡ None
      last = (lawful_rest history (entry ∷ []) (opening opened) lawful).0

      inv : Inv (at history)
      inv = (ran history (opening opened) (opening_holds opened coherent) front).inv

      settled : Ready (at history) tid member → Settled tid member (at history)
      settled ready = record { inv = inv; tidy = ran_tidy history (opening opened) (opening_tidy opened coherent); ready = ready }

      goes : Ready (at history) tid member → Fated (at history) tid member → Fated (effect (at history) entry) tid member
      goes ready (inl has) = one (kept_step tid member (at history) entry has.0 keeps inv (settled ready).tidy ready last now has.1)
        where
          one : (Applies (at history) entry tid member has.0 × IsGone (effect (at history) entry) tid member) ⊎ IsKept (effect (at history) entry) tid member has.0 → Fated (effect (at history) entry) tid member
          one (inl done) = inr done.1
          one (inr still) = inl (has.0, still)
      goes ready (inr gone) = inr (gone_step tid member (at history) entry keeps inv (settled ready).tidy ready last now gone)

      cell_there : (o : Option TransactionValue) (cell : Cell) → cell_of_transaction o ≡ Some cell → (tx : TransactionValue) × (o ≡ Some tx) × (tx.cell ≡ cell)
      cell_there None cell h = absurd (cc h)
      cell_there (Some tx) cell h = (tx, refl, some_same tx.cell cell h)

      no_cell : (o : Option TransactionValue) → cell_of_transaction o ≡ None → o ≡ None
      no_cell None h = refl
      no_cell (Some tx) h = absurd (cc h)

      by : (o : Option Cell) → cell_of_transaction (find_transaction (at history) tid) ≡ o → Fated (effect (at history) entry) tid member
      by (Some cells.Commit) is = goes (ready_once tid member opened history coherent front is) (was is)
      by (Some cells.Open) is =
          let c : Commits (at history) tid = step_commits (at history) entry tid (ran_shut history (opening opened) (opening_holds opened coherent) (opening_shut opened coherent) front) last is now in
          goes (unanimous_ready (at history) tid member c.tx c.found c.unanimous)
          (inl (
            changes_served (opening opened) tid member history,
            kept_at_commit opened history tid member c.tx coherent keeps there (in_run opened history tid.home.0 c.home coherent c.at_home) front c.found (ap is_open (some_same c.tx.cell cells.Open (sym (ap cell_of_transaction c.found) ∙ is))) c.unanimous,
          ))
      by (Some cells.Abort) is =
          let d : IsDecided (effect (at history) entry) tid cells.Abort = stays (at history) (effect (at history) entry) tid cells.Abort (stepped (at history) entry inv last).kept (record { decided = refl; cell_is = is }) in
          absurd (cc (sym d.cell_is ∙ now))
      by None none =
          let tx = cell_there (find_transaction (effect (at history) entry) tid) cells.Commit now in
          let begun : tx.0.cell ≡ cells.Open = unknown tid (λ t. t.cell ≡ cells.Open) (at history) entry last (λ label client ticks. refl) (no_cell (find_transaction (at history) tid) none) tx.0 tx.1 in
          absurd (cc (sym begun ∙ tx.2))

  on : (entries history : List Entry) → IsLawful (opening opened) (history ++ entries) → (IsCommitted (at history) tid → Fated (at history) tid member) → IsCommitted (at (history ++ entries)) tid → Fated (at (history ++ entries)) tid member
  on [] history lawful was = subst (λ (h : List Entry). IsCommitted (at h) tid → Fated (at h) tid member) (sym (append-nil history)) was
  on (entry ∷ entries) history lawful was =
      let one : history ++ (entry ∷ entries) ≡ (history ++ entry ∷ []) ++ entries = sym (append_assoc history (entry ∷ []) entries) in
      let whole : IsLawful (opening opened) ((history ++ entry ∷ []) ++ entries) = subst (IsLawful (opening opened)) one lawful in
      let early : IsLawful (opening opened) (history ++ entry ∷ []) = lawful_front (history ++ entry ∷ []) entries (opening opened) whole in
      let step : at (history ++ entry ∷ []) ≡ effect (at history) entry = after_both history (entry ∷ []) (opening opened) in
      subst (λ (h : List Entry). IsCommitted (at h) tid → Fated (at h) tid member) (sym one)
      (on entries (history ++ entry ∷ []) whole (subst (λ (b : BookValue). IsCommitted b tid → Fated b tid member) (sym step) (next history entry early was)))

  -- as the run begins
  node_there : (one : Opened) → slice_get opened member.node.0 ≡ Some one → slice_get (opening opened).nodes member.node.0 ≡ Some (opened_node one)
  node_there one is = ap (λ (nodes : List NodeValue). slice_get nodes member.node.0) (opening_opens opened).nodes ∙ (slice_get-map opened_node opened member.node.0 ∙ ap (λ (o : Option Opened). option_map opened_node o) is)

  first : Fated (opening opened) tid member
  first =
      let one : (one : Opened) × (slice_get opened member.node.0 ≡ Some one) = log_at opened member.node.0 there in
      let side : (b : Bool) × (member.server.0 ≡ number b) = which member.server.0 keeps in
      inl (
        held_at (opening opened) tid member,
        record {
          pending = refl;
          on_record = ap changes_of (record_there (opening opened) tid member.node.0 member.server.0 (opened_node one.0) (node_there one.0 one.1))
              ∙ (sym (node_opened side.0 member.server.0 side.1 one.0 tid) ∙ sym (held_there (opening opened) tid member (opened_node one.0) (node_there one.0 one.1)));
        },
      )

  pub on_record_pends : (history : List Entry) → IsLawful (opening opened) history → IsCommitted (at history) tid → held_at (at history) tid member ≡ changes_of (record_at member.node.0 (at history) tid member.server.0)
  on_record_pends history lawful is = fated_alike (at history) tid member (on history [] lawful (λ is. first) is)
