-- What the machine has of one transaction beside its node stands where the machine and the node go on with it.
use Rattle.qs_world_lawful.proofs.Words.{◌≡◌, ◌⊎◌, inl, inr, ℕ, ◌≤◌, ◌&&◌, not, Bool, true, false, List, [], Option, Some, None, refl, sym, ap, subst, ◌∙◌, is_at, list_any, is_some, slice_index_or, NodeNo, Outcome, ServerNo, Tid, BookValue, find_transaction, has_no_record, TransactionValue, is_commit, is_covering, is_outcome, noted_cmp, Noted, Request, RequestNo, Cause, Setting, has_noted, member_of, MemberPart, Participant, HoldsEnded, HoldsNotes, HoldsPart, HoldsReader, HoldsReads, HoldsStranger}
use Rattle.qs_world_lawful.proofs.Words.{HoldsTidBeside, IsTrueCause, awaits_count, has_issued, has_note_in, at_server, Every}
use Rattle.qs_book_machine.specs.Clauses.{note_text}
use Rattle.qs_book_machine.specs.Nodes as machine
use Rattle.qs_book_machine.specs.Transaction.{is_abort, part_of}
use Rattle.qs_node_step.specs.Answering.{was_committed}
use Rattle.qs_node_step.specs.State.{NodeValue}
use Rattle.qs_tm.specs.Manager as tm
use Rattle.qs_tm.specs.Members as rules
use Rattle.qs_world_lawful.proofs.LogFrames.{every_on}
use Rattle.qs_world_lawful.proofs.Truths.{clash, of_some}

-- ---- what the machine leaves of a transaction: its notes, and what a member's vote covers

pub record SameTx (here : NodeNo) (inc : ℕ) (tx later : TransactionValue) : Type 0 where
  pub requests : later.requests ≡ tx.requests
  pub noted : later.noted ≡ tx.noted
  pub starts : later.starts ≡ tx.starts
  pub served : (server : ServerNo) → (part_of later (at_server here server) inc).served ≡ (part_of tx (at_server here server) inc).served
  pub found : (server : ServerNo) → (part_of later (at_server here server) inc).found ≡ (part_of tx (at_server here server) inc).found
  pub begun_at : later.begun_at ≡ tx.begun_at
  pub asked : is_some tx.asked ≡ true → is_some later.asked ≡ true

abbrev pub SamePending : NodeNo → ℕ → TransactionValue → TransactionValue → Type 0
SamePending here inc tx later = (part_of later (at_server here rules.files_no) inc).pending ≡ (part_of tx (at_server here rules.files_no) inc).pending

pub record SameWhole (here : NodeNo) (inc : ℕ) (tx later : TransactionValue) : Type 0 where
  pub same : SameTx here inc tx later
  pub pending : SamePending here inc tx later
  pub cell : later.cell ≡ tx.cell

pub whole_self : (here : NodeNo) (inc : ℕ) (tx : TransactionValue) → SameWhole here inc tx tx
whole_self here inc tx = record { same = record { requests = refl; noted = refl; starts = refl; served = λ s. refl; found = λ s. refl; begun_at = refl; asked = λ is. is }; pending = refl; cell = refl }

pub whole_then : (here : NodeNo) (inc : ℕ) (a b c : TransactionValue) → SameWhole here inc a b → SameWhole here inc b c → SameWhole here inc a c
whole_then here inc a b c p q = record {
  same = record {
    requests = q.same.requests ∙ p.same.requests;
    noted = q.same.noted ∙ p.same.noted;
    starts = q.same.starts ∙ p.same.starts;
    served = λ s. q.same.served s ∙ p.same.served s;
    found = λ s. q.same.found s ∙ p.same.found s;
    begun_at = q.same.begun_at ∙ p.same.begun_at;
    asked = λ is. q.same.asked (p.same.asked is);
  };
  pending = q.pending ∙ p.pending;
  cell = q.cell ∙ p.cell;
}

-- ---- what a rule leaves of a participant

pub record NotesOn (p q : Participant) : Type 0 where
  pub keeps : (count : ℕ) → (has_noted count p ≡ true) ⊎ (awaits_count count p ≡ true) → (has_noted count q ≡ true) ⊎ (awaits_count count q ≡ true)

pub record PartOn (p q : Participant) : Type 0 where
  pub notes : NotesOn p q
  pub asked : q.asked ≡ p.asked
  pub outcome : q.outcome ≡ p.outcome
  pub causes : (q.causes ≡ p.causes) ⊎ (q.causes ≡ [])
  pub members : q.members ≡ p.members
  pub involved : p.involved ≡ true → q.involved ≡ true
  pub home : q.engage.home ≡ p.engage.home
  pub begun_at : q.begun_at ≡ p.begun_at
  pub unended : q.log.unended ≡ false → p.log.unended ≡ false

pub notes_self : (p : Participant) → NotesOn p p
notes_self p = record { keeps = λ count is. is }

pub part_self : (p : Participant) → PartOn p p
part_self p = record { notes = notes_self p; asked = refl; outcome = refl; causes = inl refl; members = refl; involved = λ is. is; home = refl; begun_at = refl; unended = λ is. is }

-- ---- notes and reads stand

pub same_issued : (here : NodeNo) (inc : ℕ) (text : List ℕ) (tx later : TransactionValue) → later.requests ≡ tx.requests → has_issued later here inc text ≡ has_issued tx here inc text
same_issued here inc text tx later same = ap (λ (rs : List (RequestNo × List Request)). list_any (has_note_in here inc text) rs) same

pub notes_on : (here : NodeNo) (inc : ℕ) (tid : Tid) (tx later : TransactionValue) (p q : Participant) → later.requests ≡ tx.requests → later.noted ≡ tx.noted → NotesOn p q → HoldsNotes here inc tid tx p → HoldsNotes here inc tid later q
notes_on here inc tid tx later p q requests noted on h = record {
  issued = λ count one is. on.keeps count (h.issued count one (sym (same_issued here inc (note_text tid here.0 count) tx later requests) ∙ is));
  served = λ count one is. same_issued here inc (note_text tid here.0 count) tx later requests
      ∙ h.served count one (ap (λ (ns : List Noted). list_any (is_at (noted_cmp (record { node = here; inc = inc; text = note_text tid here.0 count }))) ns) (sym noted) ∙ is);
}

pub covering_on : (here : NodeNo) (inc : ℕ) (tx later : TransactionValue) (server : ServerNo) (covers : ℕ) → SameTx here inc tx later → is_covering later (at_server here server) inc covers ≡ is_covering tx (at_server here server) inc covers
covering_on here inc tx later server covers t = rw (t.served server, t.found server, t.starts) refl

pub reader_on : (here : NodeNo) (inc : ℕ) (tx later : TransactionValue) (p q : Participant) (server : ServerNo) → SameTx here inc tx later → member_of q server ≡ member_of p server → (p.involved ≡ true → q.involved ≡ true)
    → HoldsReader here inc tx p server → HoldsReader here inc later q server
reader_on here inc tx later p q server t same involved h = record {
  anew = λ two read. covering_on here inc tx later server 0 t ∙ h.anew two (ap (rules.has_read server) (sym same) ∙ read);
  unfresh = λ two read. ap (λ (m : MemberPart). m.fresh && not (rules.is_let_go m)) same ∙ h.unfresh two (ap (rules.has_read server) (sym same) ∙ read);
  told = λ class fresh. involved (h.told class (ap (λ (m : MemberPart). m.fresh) (sym same) ∙ fresh));
}

pub reads_on : (here : NodeNo) (inc : ℕ) (tid : Tid) (tx later : TransactionValue) (p q : Participant) → SameTx here inc tx later → SamePending here inc tx later → q.members ≡ p.members → (p.involved ≡ true → q.involved ≡ true)
    → HoldsReads here inc tid tx p → HoldsReads here inc tid later q
reads_on here inc tid tx later p q t pending members involved h = record {
  readers = λ server kept. reader_on here inc tx later p q server t (same server) involved (h.readers server kept);
  unchanged = λ read. pending ∙ h.unchanged (ap (rules.has_read rules.files_no) (sym (same rules.files_no)) ∙ read);
  counted = λ count one is. subst (λ (n : ℕ). count ≤ n) (sym pending) (h.counted count one (sym (same_issued here inc (note_text tid here.0 count) tx later t.requests) ∙ is));
}
  where
    same : (server : ServerNo) → member_of q server ≡ member_of p server
    same server = ap (λ (ms : List MemberPart). slice_index_or ms server.0 rules.no_member) members

-- ---- one that is known

-- whichever node it is, of the same setting
pub with_setting : (P : NodeNo → ℕ → Type 0) (node fresh : NodeValue) → fresh.setting ≡ node.setting → P node.setting.node node.setting.inc → P fresh.setting.node fresh.setting.inc
with_setting P node fresh same p = subst (λ (s : Setting). P s.node s.inc) (sym same) p

pub part_on : (old new : BookValue) (state next : machine.NodeValue) (node fresh : NodeValue) (tid : Tid) (tx later : TransactionValue) (p q : Participant) → fresh.setting ≡ node.setting → SameWhole node.setting.node node.setting.inc tx later
    → ((cause : Cause) → IsTrueCause old tid cause → IsTrueCause new tid cause) → (has_no_record state tid ≡ true → has_no_record next tid ≡ true) → PartOn p q → HoldsPart old state node tid tx p → HoldsPart new next fresh tid later q
part_on old new state next node fresh tid tx later p q setting t still records on h = record {
  notes = with_setting (λ n i. HoldsNotes n i tid later q) node fresh setting (notes_on node.setting.node node.setting.inc tid tx later p q t.same.requests t.same.noted on.notes h.notes);
  asked = λ is. t.same.asked (h.asked (sym on.asked ∙ is));
  outcome = λ o is. ap (is_outcome o) t.cell ∙ h.outcome o (sym on.outcome ∙ is);
  causes = λ none. every_on (IsTrueCause old tid) (IsTrueCause new tid) still q.causes (kept on.causes (h.causes (sym on.outcome ∙ none)));
  reads = λ none. with_setting (λ n i. HoldsReads n i tid later q) node fresh setting
      (reads_on node.setting.node node.setting.inc tid tx later p q t.same t.pending on.members on.involved (h.reads (sym on.outcome ∙ none)));
  begun_at = λ home none. t.same.begun_at ∙ (h.begun_at (sym on.home ∙ home) (sym on.outcome ∙ none) ∙ sym on.begun_at);
  records = λ home none unended. records (h.records (sym on.home ∙ home) (sym on.outcome ∙ none) (on.unended unended));
}
  where
    kept : (q.causes ≡ p.causes) ⊎ (q.causes ≡ []) → Every (IsTrueCause old tid) p.causes → Every (IsTrueCause old tid) q.causes
    kept (inl same) all = subst (Every (IsTrueCause old tid)) (sym same) all
    kept (inr none) all = subst (Every (IsTrueCause old tid)) (sym none) tt

-- one whose outcome is known: of it notes alone are held, and that it was asked
pub part_ended : (new : BookValue) (next : machine.NodeValue) (fresh : NodeValue) (tid : Tid) (later : TransactionValue) (q : Participant) (o : Outcome) → q.outcome ≡ Some o → is_outcome o later.cell ≡ true
    → HoldsNotes fresh.setting.node fresh.setting.inc tid later q → (q.asked ≡ true → is_some later.asked ≡ true) → HoldsPart new next fresh tid later q
part_ended new next fresh tid later q o is cell notes asked = record {
  notes = notes;
  asked = asked;
  outcome = λ other so. subst (λ (x : Outcome). is_outcome x later.cell ≡ true) (of_some (sym is ∙ so)) cell;
  causes = λ none. absurd (never none);
  reads = λ none. absurd (never none);
  begun_at = λ home none. absurd (never none);
  records = λ home none unended. absurd (never none);
}
  where
    some : {x : Outcome} → Some x ≡ None → ⊥
    some e = cc e

    never : q.outcome ≡ None → ⊥
    never none = some (sym is ∙ none)

-- ---- all of one transaction

-- the machine leaves it, or has it go on
pub record TxStep (here : NodeNo) (inc : ℕ) (old new : BookValue) (t : Tid) : Type 0 where
  pub none : find_transaction old t ≡ None → find_transaction new t ≡ None
  pub some : (tx : TransactionValue) → find_transaction old t ≡ Some tx → (later : TransactionValue) × (find_transaction new t ≡ Some later) × SameWhole here inc tx later

pub step_same : (here : NodeNo) (inc : ℕ) (old new : BookValue) (t : Tid) → find_transaction new t ≡ find_transaction old t → TxStep here inc old new t
step_same here inc old new t same = record { none = λ is. same ∙ is; some = λ tx found. (tx, same ∙ found, whole_self here inc tx) }

-- and so does the node
pub record PartStep (node fresh : NodeValue) (t : Tid) : Type 0 where
  pub none : tm.part_of t node.manager ≡ None → tm.part_of t fresh.manager ≡ None
  pub some : (p : Participant) → tm.part_of t node.manager ≡ Some p → (q : Participant) × (tm.part_of t fresh.manager ≡ Some q) × PartOn p q

pub part_same : (node fresh : NodeValue) (t : Tid) → tm.part_of t fresh.manager ≡ tm.part_of t node.manager → PartStep node fresh t
part_same node fresh t same = record { none = λ is. same ∙ is; some = λ p known. (p, same ∙ known, part_self p) }

-- what it was committed stays so
abbrev pub CommittedOn : NodeValue → NodeValue → Tid → Type 0
CommittedOn node fresh t = was_committed t node ≡ true → was_committed t fresh ≡ true

module _ (old new : BookValue) (state next : machine.NodeValue) (node fresh : NodeValue) (t : Tid) (setting : fresh.setting ≡ node.setting)
    (still : (cause : Cause) → IsTrueCause old t cause → IsTrueCause new t cause) (records : has_no_record state t ≡ true → has_no_record next t ≡ true)
    (txs : TxStep node.setting.node node.setting.inc old new t) (committed : CommittedOn node fresh t) (h : HoldsTidBeside old state node t) where
  abbrev Was : TransactionValue → Type 0
  Was later = (tx : TransactionValue) × (find_transaction old t ≡ Some tx) × SameWhole node.setting.node node.setting.inc tx later

  was : (later : TransactionValue) → find_transaction new t ≡ Some later → Was later
  was later found = by (find_transaction old t) refl
    where
      none_is : {x : TransactionValue} → None ≡ Some x → ⊥
      none_is e = cc e

      by : (o : Option TransactionValue) → find_transaction old t ≡ o → Was later
      by None is = absurd (none_is (sym (txs.none is) ∙ found))
      by (Some tx) is = let s : (l : TransactionValue) × (find_transaction new t ≡ Some l) × SameWhole node.setting.node node.setting.inc tx l = txs.some tx is in
          (tx, is, subst (λ (l : TransactionValue). SameWhole node.setting.node node.setting.inc tx l) (of_some (sym s.1 ∙ found)) s.2)

  pub ended_on : (later : TransactionValue) → t.home ≡ fresh.setting.node → find_transaction new t ≡ Some later → (tm.part_of t fresh.manager ≡ None → tm.part_of t node.manager ≡ None) → HoldsEnded fresh t later
  ended_on later home found known =
      let w : Was later = was later found in
      let e : HoldsEnded node t w.0 = h.ended w.0 (home ∙ ap (λ (s : Setting). s.node) setting) w.1 in
      record {
        committed = λ is. committed (e.committed (ap is_commit (sym w.2.cell) ∙ is));
        unknown = λ none un. ap is_abort w.2.cell ∙ e.unknown (known none) (before (was_committed t node) refl un);
      }
    where
      before : (b : Bool) → was_committed t node ≡ b → was_committed t fresh ≡ false → was_committed t node ≡ false
      before false is un = is
      before true is un = absurd (clash (sym un ∙ committed is))

  pub unbegun_on : find_transaction new t ≡ None → has_no_record next t ≡ true
  unbegun_on none = by (find_transaction old t) refl
    where
      some_is : {x : TransactionValue} → Some x ≡ None → ⊥
      some_is e = cc e

      by : (o : Option TransactionValue) → find_transaction old t ≡ o → has_no_record next t ≡ true
      by None is = records (h.unbegun is)
      by (Some tx) is = let s : (l : TransactionValue) × (find_transaction new t ≡ Some l) × SameWhole node.setting.node node.setting.inc tx l = txs.some tx is in absurd (some_is (sym s.1 ∙ none))

  pub stranger_on : (later : TransactionValue) → find_transaction new t ≡ Some later → tm.part_of t node.manager ≡ None → is_commit later.cell ≡ false → HoldsStranger fresh.setting.node fresh.setting.inc t later
  stranger_on later found none open_still =
      let w : Was later = was later found in
      let s : HoldsStranger node.setting.node node.setting.inc t w.0 = h.strangers w.0 w.1 none (ap is_commit (sym w.2.cell) ∙ open_still) in
      with_setting (λ n i. HoldsStranger n i t later) node fresh setting
      (record {
        unissued = λ count one. same_issued node.setting.node node.setting.inc (note_text t node.setting.node.0 count) w.0 later w.2.same.requests ∙ s.unissued count one;
        unchanged = w.2.pending ∙ s.unchanged;
      })

  pub known_on : (later : TransactionValue) (p q : Participant) → find_transaction new t ≡ Some later → tm.part_of t node.manager ≡ Some p → PartOn p q → HoldsPart new next fresh t later q
  known_on later p q found known on =
      let w : Was later = was later found in
      part_on old new state next node fresh t w.0 later p q setting w.2 still records on (h.parts w.0 p w.1 known)

  module _ (parts : PartStep node fresh t) where
    abbrev Known : Participant → Type 0
    Known q = (p : Participant) × (tm.part_of t node.manager ≡ Some p) × PartOn p q

    known_was : (q : Participant) → tm.part_of t fresh.manager ≡ Some q → Known q
    known_was q known = by (tm.part_of t node.manager) refl
      where
        none_is : {x : Participant} → None ≡ Some x → ⊥
        none_is e = cc e

        by : (o : Option Participant) → tm.part_of t node.manager ≡ o → Known q
        by None is = absurd (none_is (sym (parts.none is) ∙ known))
        by (Some p) is = let s : (r : Participant) × (tm.part_of t fresh.manager ≡ Some r) × PartOn p r = parts.some p is in (p, is, subst (λ (r : Participant). PartOn p r) (of_some (sym s.1 ∙ known)) s.2)

    unknown_was : tm.part_of t fresh.manager ≡ None → tm.part_of t node.manager ≡ None
    unknown_was none = by (tm.part_of t node.manager) refl
      where
        some_is : {x : Participant} → Some x ≡ None → ⊥
        some_is e = cc e

        by : (o : Option Participant) → tm.part_of t node.manager ≡ o → tm.part_of t node.manager ≡ None
        by None is = is
        by (Some p) is = let s : (r : Participant) × (tm.part_of t fresh.manager ≡ Some r) × PartOn p r = parts.some p is in absurd (some_is (sym s.1 ∙ none))

    stands_on : is_some (find_transaction old t) ≡ true → is_some (find_transaction new t) ≡ true
    stands_on is = by (find_transaction old t) refl is
      where
        by : (o : Option TransactionValue) → find_transaction old t ≡ o → is_some o ≡ true → is_some (find_transaction new t) ≡ true
        by None found e = absurd (cc e)
        by (Some tx) found e = let s : (l : TransactionValue) × (find_transaction new t ≡ Some l) × SameWhole node.setting.node node.setting.inc tx l = txs.some tx found in ap is_some s.1

    pub tid_on : HoldsTidBeside new next fresh t
    tid_on = record {
      stands = λ q known. let k : Known q = known_was q known in stands_on (h.stands k.0 k.1);
      parts = λ later q found known. let k : Known q = known_was q known in known_on later k.0 q found k.1 k.2;
      strangers = λ later found none open_still. stranger_on later found (unknown_was none) open_still;
      unbegun = unbegun_on;
      ended = λ later home found. ended_on later home found unknown_was;
    }
