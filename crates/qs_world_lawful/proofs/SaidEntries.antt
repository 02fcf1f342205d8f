-- What a log says of contents and changes goes on by a vote that enters with its Prepare, and by servers that learn commit, with its Commit.
use Rattle.qs_world_lawful.proofs.Words.{◌≡◌, inl, inr, ℕ, ◌==◌, ◌&&◌, ◌++◌, Bool, true, false, List, [], ◌∷◌, length, Option, Some, None, refl, sym, ap, subst, ◌∙◌, nat_lt, fold-append, slice_get, list_any, lookup, option_map, is_at, same_tid, Member, NodeNo, ServerNo, Tid, same_tid-self, same_tid-true, Act, Entry, voter_exact, Inv, Facet, facet, IsCoherent, AllLearn, learning, keeps_contents, BookValue, crossed_in, find_transaction, IsLawful, book_after, broken, effect, changes_of, record_of}
use Rattle.qs_world_lawful.proofs.Words.{voter, voter_cmp, opening, is_among, member_at, Opened, OnRecord, Voter, TableValue, applied, Op, Record, Prepared, Recovery, found_record, names_transaction, nothing_said, recovery, entry_of, HasCommitted, HoldsLogged, IsMarked, IsRecordSafe, is_plain, Every, IsAsRecorded, IsMadeBy, IsRecorded, AreInDoubt, HoldsMade, SaidAfter, eqb-self}
use Rattle.qs_book_journal.specs.declared.entry.Act.TheVariants as acts
use Rattle.qs_book_laws.proofs.Faces.{recorded_by}
use Rattle.qs_book_laws.proofs.Grows.{step_grows}
use Rattle.qs_book_laws.proofs.LearnsAll.{learns_all}
use Rattle.qs_book_laws.proofs.ReadyCommits.{ready_once}
use Rattle.qs_book_laws.proofs.Ready.{Ready}
use Rattle.qs_book_laws.proofs.Steps.{stepped}
use Rattle.qs_book_laws.specs.Learning.{HasLearnt}
use Rattle.qs_book_machine.specs.Nodes as machine
use Rattle.qs_ops.specs.declared.vote.Vote.TheVariants as votes
use Rattle.qs_record.specs.declared.record.Record.TheVariants as made
use Rattle.qs_restart.specs.Recovery.{is_of}
use Rattle.qs_world_lawful.specs.Saying.{AreCommitted, ArePending, KeepsSaid, MayCommitHere, StaysCrossed}
use Rattle.qs_world_lawful.proofs.FoundMembers.{every_two}
use Rattle.qs_world_lawful.proofs.FoundOnce.{votes_once_in}
use Rattle.qs_world_lawful.proofs.LogActs.{plain_facets, with_facet}
use Rattle.qs_world_lawful.proofs.LogFrames.{every_on}
use Rattle.qs_world_lawful.proofs.LogLaws.{inv_is}
use Rattle.qs_world_lawful.proofs.LogRecords.{found_is, is_found, to_votes}
use Rattle.qs_world_lawful.proofs.LogVotes as log_votes
use Rattle.qs_world_lawful.proofs.SaidPairs.{commit_is_said, keeps_said, vote_is_said, vote_on}

one_more : (records : List Record) (rec : Record) → recovery (records ++ rec ∷ []) ≡ found_record (recovery records) rec
one_more records rec = fold-append found_record nothing_said records (rec ∷ [])

-- ---- what is crossed stays so

crossed_on : (tid : Tid) (member : Member) (entries : List Entry) (book : BookValue) → Inv book → IsLawful book entries → crossed_in (find_transaction book tid) member ≡ true → crossed_in (find_transaction (book_after book entries) tid) member ≡ true
crossed_on tid member [] book i lawful h = h
crossed_on tid member (entry ∷ entries) book i lawful h = crossed_on tid member entries (effect book entry) (stepped book entry i lawful.0).inv lawful.1 ((step_grows tid member book entry i lawful.0).crossed h)

stays_crossed : (here : ℕ) (entries : List Entry) (book : BookValue) → Inv book → IsLawful book entries → StaysCrossed here book (book_after book entries)
stays_crossed here entries book i lawful tid server clean = by (crossed_in (find_transaction book tid) (member_at here server)) refl
  where
    by : (b : Bool) → crossed_in (find_transaction book tid) (member_at here server) ≡ b → b ≡ false
    by false is = refl
    by true is = absurd (cc (sym clean ∙ crossed_on tid (member_at here server) entries book i lawful is))

-- ---- an entry that puts nothing on record and takes nothing off

module _ (start : BookValue) (i : Inv start) (stamp here : ℕ) (state : machine.NodeValue) (act : Act) (log : Recovery) (there : slice_get start.nodes here ≡ Some state)
    (plain : is_plain act ≡ true) (enters : broken start (entry_of here stamp act) ≡ None) (h : HoldsMade here start state log) where
  abbrev now : BookValue
  now = effect start (entry_of here stamp act)

  keeps_of : (next : machine.NodeValue) → facet next ≡ facet state → KeepsSaid here start now state next
  keeps_of next same = record {
    files = record { contents = sym (ap (λ (f : Facet). f.files) same); notes = sym (ap (λ (f : Facet). f.file_notes) same) };
    audit = record { contents = sym (ap (λ (f : Facet). f.audit_files) same); notes = sym (ap (λ (f : Facet). f.notes) same) };
    records = λ tid server. ap (λ (f : Facet). lookup (is_at (voter_cmp (voter tid server))) f.records) same;
    crossed = stays_crossed here (entry_of here stamp act ∷ []) start i (enters, tt);
  }

  pub plain_enters_at : SaidAfter here now log
  plain_enters_at =
      let at : (node : machine.NodeValue) × (slice_get now.nodes here ≡ Some node) × (facet node ≡ facet state) = with_facet (slice_get now.nodes here) (facet state) (plain_facets stamp here act start plain here ∙ ap (option_map facet) there) in
      record { state = at.0; there = at.1; said = keeps_said here start now state at.0 log (keeps_of at.0 at.2) h }

-- ---- a vote

module _ (book : BookValue) (i : Inv book) (stamp here : ℕ) (state : machine.NodeValue) (tid : Tid) (server : ServerNo) (covers : ℕ) (changes : List Op) (records : List Record) (there : slice_get book.nodes here ≡ Some state)
    (enters : broken book (entry_of here stamp (acts.Vote tid (member_at here server.0) votes.Recoverable covers)) ≡ None) (clear : is_among (recovery records).committed tid ≡ false) (pending : ArePending here book state tid server changes) (h : HoldsMade here book state (recovery records)) where
  abbrev entry : Entry
  entry = entry_of here stamp (acts.Vote tid (member_at here server.0) votes.Recoverable covers)

  abbrev next : machine.NodeValue
  next = log_votes.next book stamp here state i there tid server covers changes enters

  abbrev vote : Prepared
  vote = record { tid = tid; server = server; covers = covers; changes = changes; committed = false }

  abbrev rec : OnRecord
  rec = recorded_by book here tid (member_at here server.0) covers (machine.pending_at state tid server.0)

  crossed : StaysCrossed here book (effect book entry)
  crossed = stays_crossed here (entry ∷ []) book i (enters, tt)

  own : IsAsRecorded here (effect book entry) next vote
  own _ r is = subst (λ (o : Option OnRecord). IsRecorded here (effect book entry) o vote) (sym (log_votes.own_record book stamp here state i there tid server covers changes enters) ∙ is)
      (record { changes = λ clean. pending.changes (crossed tid server.0 clean); count = pending.count })

  others : (t : Tid) (s : ℕ) → (same_tid t tid && (s == server.0)) ≡ false → record_of next t s ≡ record_of state t s
  others t s far = log_votes.other_record book stamp here state i there tid server covers changes enters t s (by (is_at (voter_cmp (voter t s)) (voter tid server.0)) refl)
    where
      by : (b : Bool) → is_at (voter_cmp (voter t s)) (voter tid server.0) ≡ b → b ≡ false
      by false is = refl
      by true is =
          let e : voter t s ≡ voter tid server.0 = voter_exact (voter t s) (voter tid server.0) is in
          absurd (cc (sym far ∙ (ap (λ (v : Voter). same_tid v.tid tid && (v.server.0 == server.0)) e ∙ (ap (λ (b : Bool). b && (server.0 == server.0)) (same_tid-self tid) ∙ eqb-self server.0))))

  pub vote_enters_at : SaidAfter here (effect book entry) (recovery (records ++ made.Prepare tid server covers changes ∷ []))
  vote_enters_at = record {
    state = next;
    there = log_votes.voted_there book stamp here state i there tid server covers changes enters;
    said = subst (HoldsMade here (effect book entry) next) (sym (one_more records (made.Prepare tid server covers changes)))
        (vote_is_said here book (effect book entry) state next (recovery records) vote (record {
          files = record { contents = refl; notes = refl };
          audit = record { contents = refl; notes = refl };
          others = others;
          own = own;
          crossed = crossed;
        }) clear h);
  }

-- ---- a commit that is learnt

module _ (opened : List Opened) (history : List Entry) (stamp here : ℕ) (state : machine.NodeValue) (tid : Tid) (servers : List ServerNo) (told : List NodeNo) (records : List Record) (coherent : IsCoherent opened) (in_run : nat_lt here (length opened) ≡ true)
    (at_home : nat_lt tid.home.0 (length opened) ≡ true) (lawful : IsLawful (opening opened) history) (done : HasCommitted (book_after (opening opened) history) tid) (there : slice_get (book_after (opening opened) history).nodes here ≡ Some state)
    (all : AllLearn (book_after (opening opened) history) tid here state servers) (goes : IsLawful (book_after (opening opened) history) (learning stamp here tid servers)) (named : names_transaction tid ≡ true) (doubt : AreInDoubt tid (recovery records))
    (logged : HoldsLogged here (book_after (opening opened) history) state (recovery records)) (h : HoldsMade here (book_after (opening opened) history) state (recovery records)) where
  abbrev old : BookValue
  old = book_after (opening opened) history

  abbrev new : BookValue
  new = book_after old (learning stamp here tid servers)

  -- what is committed is crossed nowhere
  clean : (member : Member) → crossed_in (find_transaction old tid) member ≡ false
  clean member =
      let ready : Ready old tid member = ready_once tid member opened history coherent lawful done in
      ap (λ o. crossed_in o member) ready.found ∙ ready.plain

  may : (v : Prepared) → (is_of tid v ≡ true → v.committed ≡ false) → is_of tid v ≡ true → MayCommitHere here old v
  may v open_still its = record { doubt = open_still its; clean = ap (λ (t : Tid). crossed_in (find_transaction old t) (member_at here v.server.0)) (same_tid-true v.tid tid its) ∙ clean (member_at here v.server.0) }

  pub commit_enters : SaidAfter here new (recovery (records ++ made.Commit tid told ∷ []))
  commit_enters =
      let r : (after : machine.NodeValue) × (slice_get new.nodes here ≡ Some after) × HasLearnt tid state after = learns_all opened history stamp here tid servers state coherent in_run at_home lawful done there all in
      record {
        state = r.0;
        there = r.1;
        said = subst (HoldsMade here new r.0) (sym (one_more records (made.Commit tid told)))
            (commit_is_said here old new state r.0 (recovery records) tid told (record {
              learnt = r.2;
              crossed = stays_crossed here (learning stamp here tid servers) old (inv_is opened history coherent lawful) goes;
              committed = done;
              named = named;
              votes = every_on (λ (v : Prepared). is_of tid v ≡ true → v.committed ≡ false) (λ (v : Prepared). is_of tid v ≡ true → MayCommitHere here old v) may (recovery records).prepared doubt;
            }) (votes_once_in records) logged h);
      }

-- ---- a commit that is learnt where nothing is in doubt

any_vote : (P : Prepared → Type 0) (test : Prepared → Bool) (X : Type 0) → ((v : Prepared) → P v → test v ≡ true → X) → (votes : List Prepared) → Every P votes → list_any test votes ≡ true → X
any_vote P test X gives [] all any = absurd (cc any)
any_vote P test X gives (v ∷ votes) all any = by (test v) refl (any_vote P test X gives votes all.1)
  where
    by : (b : Bool) → test v ≡ b → (list_any test votes ≡ true → X) → X
    by true is more = gives v all.0 is
    by false is more = more (rw is at any)

module _ (opened : List Opened) (history : List Entry) (stamp here : ℕ) (state : machine.NodeValue) (tid : Tid) (servers : List ServerNo) (log : Recovery) (coherent : IsCoherent opened) (in_run : nat_lt here (length opened) ≡ true)
    (at_home : nat_lt tid.home.0 (length opened) ≡ true) (lawful : IsLawful (opening opened) history) (done : HasCommitted (book_after (opening opened) history) tid) (there : slice_get (book_after (opening opened) history).nodes here ≡ Some state)
    (all : AllLearn (book_after (opening opened) history) tid here state servers) (goes : IsLawful (book_after (opening opened) history) (learning stamp here tid servers)) (ended : AreCommitted tid log)
    (logged : HoldsLogged here (book_after (opening opened) history) state log) (h : HoldsMade here (book_after (opening opened) history) state log) where
  abbrev before : BookValue
  before = book_after (opening opened) history

  abbrev then_now : BookValue
  then_now = book_after before (learning stamp here tid servers)

  -- nothing of it is on record
  none : (server : ℕ) → keeps_contents server ≡ true → changes_of (record_of state tid server) ≡ []
  none server keeps = by (record_of state tid server) refl
    where
      Both : Prepared → Type 0
      Both v = (is_of tid v ≡ true → v.committed ≡ true) × IsMarked log v

      marked : (covers : ℕ) (v : Prepared) → Both v → is_found (voter tid server) covers v ≡ true → is_among log.committed tid ≡ true
      marked covers v both is =
          let its : v.tid ≡ tid = (found_is (voter tid server) covers v is).0 in
          subst (λ (t : Tid). is_among log.committed t ≡ true) its (both.1 (both.0 (ap (λ (t : Tid). same_tid t tid) its ∙ same_tid-self tid)))

      safe : (rec : OnRecord) → IsRecordSafe before log (voter tid server) rec.covers → changes_of (record_of state tid server) ≡ []
      safe rec (inl aborted) = absurd (cc (sym done ∙ aborted))
      safe rec (inr (inl among)) = ap changes_of (h.gone tid server keeps among)
      safe rec (inr (inr found)) = ap changes_of (h.gone tid server keeps (any_vote Both (is_found (voter tid server) rec.covers) (is_among log.committed tid ≡ true) (marked rec.covers) log.prepared
          (every_two (λ (v : Prepared). is_of tid v ≡ true → v.committed ≡ true) (IsMarked log) Both (λ v a b. (a, b)) log.prepared ended logged.marked) (to_votes (voter tid server) rec.covers log found)))

      by : (o : Option OnRecord) → record_of state tid server ≡ o → changes_of (record_of state tid server) ≡ []
      by None is = ap changes_of is
      by (Some rec) is = safe rec (logged.kept tid server rec is)

  made_none : (table other : TableValue) (changes said : List Op) → changes ≡ [] → other.contents ≡ (applied table changes).contents → other.notes ≡ (applied table changes).notes → IsMadeBy table said → IsMadeBy other said
  made_none table other changes said empty contents notes is = record {
    contents = contents ∙ (ap (λ (ops : List Op). (applied table ops).contents) empty ∙ is.contents);
    notes = notes ∙ (ap (λ (ops : List Op). (applied table ops).notes) empty ∙ is.notes);
  }

  crossed_still : StaysCrossed here before then_now
  crossed_still = stays_crossed here (learning stamp here tid servers) before (inv_is opened history coherent lawful) goes

  recorded : (later : machine.NodeValue) → HasLearnt tid state later → (v : Prepared) → (is_of tid v ≡ true → v.committed ≡ true) → IsAsRecorded here before state v → IsAsRecorded here then_now later v
  recorded later l v over is = by (is_of tid v) refl
    where
      by : (b : Bool) → is_of tid v ≡ b → IsAsRecorded here then_now later v
      by true its = λ unended. absurd (cc (sym unended ∙ over its))
      by false far = vote_on here before then_now state later crossed_still v (l.others v.tid v.server.0 far) is

  gone : (later : machine.NodeValue) → HasLearnt tid state later → (t : Tid) (server : ℕ) → keeps_contents server ≡ true → is_among log.committed t ≡ true → record_of later t server ≡ None
  gone later l t server keeps among = by (same_tid t tid) refl
    where
      by : (b : Bool) → same_tid t tid ≡ b → record_of later t server ≡ None
      by true same = ap (λ (x : Tid). record_of later x server) (same_tid-true t tid same) ∙ l.gone server keeps
      by false far = l.others t server far ∙ h.gone t server keeps among

  said_now : (later : machine.NodeValue) → HasLearnt tid state later → HoldsMade here then_now later log
  said_now later l = record {
    files = made_none state.files later.files (changes_of (record_of state tid 0)) log.files (none 0 refl) l.files.contents l.files.notes h.files;
    audit = made_none state.audit later.audit (changes_of (record_of state tid 1)) log.audit (none 1 refl) l.audit.contents l.audit.notes h.audit;
    recorded = every_two (λ (v : Prepared). is_of tid v ≡ true → v.committed ≡ true) (IsAsRecorded here before state) (IsAsRecorded here then_now later) (recorded later l) log.prepared ended h.recorded;
    apart = h.apart;
    gone = gone later l;
  }

  pub learning_enters : SaidAfter here then_now log
  learning_enters =
      let r : (after : machine.NodeValue) × (slice_get then_now.nodes here ≡ Some after) × HasLearnt tid state after = learns_all opened history stamp here tid servers state coherent in_run at_home lawful done there all in
      record { state = r.0; there = r.1; said = said_now r.0 r.2 }
