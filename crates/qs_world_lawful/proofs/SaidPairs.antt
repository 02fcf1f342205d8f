-- What a log says of contents and changes goes on by entries of its node and the record beside them.
use Rattle.qs_world_lawful.proofs.Words.{◌≡◌, inl, inr, ℕ, ◌==◌, ◌&&◌, ◌||◌, ◌++◌, not, Bool, true, false, List, [], ◌∷◌, map, flat_map, Option, Some, None, fold, refl, sym, ap, ◌∙◌, if◌then◌else◌, fold-append, filter, list_any, same_tid, NodeNo, ServerNo, Tid, same_tid-self, same_tid-true, keeps_contents, BookValue, changes_of, record_of, voter, is_among, is_on_record, is_same_vote, votes_once, OnRecord, TableValue, applied, apply_change, apply_note, Op, Prepared, Recovery, found_commit}
use Rattle.qs_world_lawful.proofs.Words.{found_prepare, is_vote_of, mark_committed, names_transaction, HoldsLogged, IsRecordSafe, Every, IsVoteLogged, found_of, HoldsSaid, IsApart, IsAsRecorded, IsMadeBy, IsRecorded, SameContents, HoldsMade, or_last, and_first, and_last, eqb-self, not-true, eqb-true}
use Rattle.qs_book_machine.specs.Nodes as machine
use Rattle.qs_restart.specs.Recovery.{audit_no, changes_at, ended, files_no, is_of}
use Rattle.qs_world_lawful.specs.Said.{IsUndone}
use Rattle.qs_world_lawful.specs.Saying.{KeepsSaid, LearnsHere, MayCommitHere, PutsVote, StaysCrossed}
use Rattle.qs_world_lawful.proofs.FoundMembers.{every_two}
use Rattle.qs_world_lawful.proofs.FoundOnce.{same_vote_sym}
use Rattle.qs_world_lawful.proofs.LogFrames.{every_on}
use Rattle.qs_world_lawful.proofs.LogRecords.{every_append, every_filter, found_is, is_found, to_votes}

-- ---- tables

made_on : (table other : TableValue) (changes : List Op) → SameContents table other → IsMadeBy table changes → IsMadeBy other changes
made_on table other changes same is = record { contents = sym same.contents ∙ is.contents; notes = sym same.notes ∙ is.notes }

-- the same changes are committed
made_more : (table other : TableValue) (said changes more : List Op) → other.contents ≡ (applied table changes).contents → other.notes ≡ (applied table changes).notes → more ≡ changes → IsMadeBy table said → IsMadeBy other (said ++ more)
made_more table other said changes more contents notes same is = record {
  contents = contents ∙ (ap (λ fs. fold apply_change fs changes) is.contents ∙ (ap (λ (ops : List Op). fold apply_change (fold apply_change [] said) ops) (sym same) ∙ sym (fold-append apply_change [] said more)));
  notes = notes ∙ (ap (λ ns. fold apply_note ns changes) is.notes ∙ (ap (λ (ops : List Op). fold apply_note (fold apply_note [] said) ops) (sym same) ∙ sym (fold-append apply_note [] said more)));
}

-- ---- what is on record

recorded_on : (here : ℕ) (old new : BookValue) (crossed : StaysCrossed here old new) (rec : OnRecord) (vote : Prepared) → IsRecorded here old (Some rec) vote → IsRecorded here new (Some rec) vote
recorded_on here old new crossed rec vote is = record { changes = λ clean. is.changes (crossed vote.tid vote.server.0 clean); count = is.count }

pub vote_on : (here : ℕ) (old new : BookValue) (state later : machine.NodeValue) (crossed : StaysCrossed here old new) (vote : Prepared) → record_of later vote.tid vote.server.0 ≡ record_of state vote.tid vote.server.0 → IsAsRecorded here old state vote → IsAsRecorded here new later vote
vote_on here old new state later crossed vote same is clear rec at = recorded_on here old new crossed rec vote (is clear rec (sym same ∙ at))

-- ---- all of a list

every_kept : {A : Type 0} (P Q : A → Type 0) (p : A → Bool) → ((x : A) → p x ≡ true → P x → Q x) → (xs : List A) → Every P xs → Every Q (filter p xs)
every_kept P Q p gives [] h = tt
every_kept P Q p gives (x ∷ xs) h = by (p x) refl (every_kept P Q p gives xs h.1)
  where
    by : (b : Bool) → p x ≡ b → Every Q (filter p xs) → Every Q (filter p (x ∷ xs))
    by true is more = rw is (gives x is h.0, more)
    by false is more = rw is more

every_mapped : {A B : Type 0} (P : A → Type 0) (Q : B → Type 0) (f : A → B) → ((x : A) → P x → Q (f x)) → (xs : List A) → Every P xs → Every Q (map f xs)
every_mapped P Q f gives [] h = tt
every_mapped P Q f gives (x ∷ xs) h = (gives x h.0, every_mapped P Q f gives xs h.1)

-- ---- by entries that touch neither, and by an end

module _ (here : ℕ) (old new : BookValue) (state later : machine.NodeValue) (log : Recovery) (k : KeepsSaid here old new state later) (h : HoldsMade here old state log) where
  pub keeps_said : HoldsMade here new later log
  keeps_said = record {
    files = made_on state.files later.files log.files k.files h.files;
    audit = made_on state.audit later.audit log.audit k.audit h.audit;
    recorded = every_on (IsAsRecorded here old state) (IsAsRecorded here new later) (λ v. vote_on here old new state later k.crossed v (k.records v.tid v.server.0)) log.prepared h.recorded;
    apart = h.apart;
    gone = λ tid server keeps among. k.records tid server ∙ h.gone tid server keeps among;
  }

pub end_keeps_said : (here : ℕ) (book : BookValue) (state : machine.NodeValue) (log : Recovery) (tid : Tid) → HoldsMade here book state log → HoldsMade here book state (ended tid log)
end_keeps_said here book state log tid h = record {
  files = h.files;
  audit = h.audit;
  recorded = every_filter (IsAsRecorded here book state) (λ vote. not (is_of tid vote)) log.prepared h.recorded;
  apart = every_filter (IsApart log) (λ vote. not (is_of tid vote)) log.prepared h.apart;
  gone = h.gone;
}

-- ---- by a vote and its Prepare

module _ (here : ℕ) (old new : BookValue) (state later : machine.NodeValue) (log : Recovery) (vote : Prepared) (p : PutsVote here old new state later vote) (clear : is_among log.committed vote.tid ≡ false) (h : HoldsMade here old state log) where
  abbrev other : Prepared → Bool
  other v = not (is_vote_of vote.tid vote.server v)

  pub vote_is_said : HoldsMade here new later (found_prepare vote log)
  vote_is_said = record {
    files = made_on state.files later.files log.files p.files h.files;
    audit = made_on state.audit later.audit log.audit p.audit h.audit;
    recorded = every_append (IsAsRecorded here new later) (filter other log.prepared) (vote ∷ [])
        (every_kept (IsAsRecorded here old state) (IsAsRecorded here new later) other (λ v far. vote_on here old new state later p.crossed v (p.others v.tid v.server.0 (not-true (is_vote_of vote.tid vote.server v) far))) log.prepared h.recorded) (p.own, tt);
    apart = every_append (IsApart log) (filter other log.prepared) (vote ∷ []) (every_filter (IsApart log) other log.prepared h.apart) ((λ names unended. clear), tt);
    gone = gone;
  }
    where
      gone : (tid : Tid) (server : ℕ) → keeps_contents server ≡ true → is_among log.committed tid ≡ true → record_of later tid server ≡ None
      gone tid server keeps among = by (same_tid tid vote.tid) refl
        where
          by : (b : Bool) → same_tid tid vote.tid ≡ b → record_of later tid server ≡ None
          by true same = absurd (cc (sym clear ∙ (ap (is_among log.committed) (sym (same_tid-true tid vote.tid same)) ∙ among)))
          by false far = p.others tid server (ap (λ (b : Bool). b && (server == vote.server.0)) far) ∙ h.gone tid server keeps among

-- ---- by a transaction that is learnt to be committed, and its Commit

-- no vote of the server
none_of : (test : Prepared → Bool) (votes : List Prepared) → list_any test votes ≡ false → flat_map (λ (vote : Prepared). vote.changes) (filter test votes) ≡ []
none_of test [] none = refl
none_of test (v ∷ votes) none = by (test v) refl (none_of test votes)
  where
    by : (b : Bool) → test v ≡ b → (list_any test votes ≡ false → flat_map (λ (vote : Prepared). vote.changes) (filter test votes) ≡ []) → flat_map (λ (vote : Prepared). vote.changes) (filter test (v ∷ votes)) ≡ []
    by true is more = absurd (cc (rw is at none))
    by false is more = rw is (more (rw is at none))

unit : (xs : List Op) → xs ++ [] ≡ xs
unit [] = refl
unit (x ∷ xs) = ap (λ (ops : List Op). x ∷ ops) (unit xs)

module _ (tid : Tid) (server : ServerNo) where
  abbrev test : Prepared → Bool
  test = is_vote_of tid server

  test_is : (v : Prepared) → test v ≡ true → (v.tid ≡ tid) × (v.server.0 ≡ server.0)
  test_is v is = (same_tid-true v.tid tid (and_first (same_tid v.tid tid) (v.server.0 == server.0) is), eqb-true v.server.0 server.0 (and_last (same_tid v.tid tid) (v.server.0 == server.0) is))

  both_same : (x y : Prepared) → test x ≡ true → test y ≡ true → is_same_vote (found_of x) (found_of y) ≡ true
  both_same x y p q =
      same_vote_sym x y ∙ (ap (λ (t : Tid). same_tid x.tid t && (x.server.0 == y.server.0)) ((test_is y q).0 ∙ sym (test_is x p).0)
      ∙ (ap (λ (b : Bool). b && (x.server.0 == y.server.0)) (same_tid-self x.tid) ∙ (ap (λ (n : ℕ). x.server.0 == n) ((test_is y q).1 ∙ sym (test_is x p).1) ∙ eqb-self x.server.0)))

  -- it is the only one
  alone : (x : Prepared) → test x ≡ true → (xs : List Prepared) → list_any (is_same_vote (found_of x)) (map found_of xs) ≡ false → list_any test xs ≡ false
  alone x is [] none = refl
  alone x is (y ∷ ys) none = by (test y) refl (alone x is ys)
    where
      by : (b : Bool) → test y ≡ b → (list_any (is_same_vote (found_of x)) (map found_of ys) ≡ false → list_any test ys ≡ false) → list_any test (y ∷ ys) ≡ false
      by true same more = absurd (cc (rw (both_same x y is same) at none))
      by false far more = rw far (more (or_last (is_same_vote (found_of x) (found_of y)) (list_any (is_same_vote (found_of x)) (map found_of ys)) none))

  one_of : (c : List Op) (votes : List Prepared) → votes_once (map found_of votes) ≡ true → list_any test votes ≡ true → Every (λ (v : Prepared). test v ≡ true → v.changes ≡ c) votes → flat_map (λ (vote : Prepared). vote.changes) (filter test votes) ≡ c
  one_of c [] once any all = absurd (cc any)
  one_of c (v ∷ votes) once any all = by (test v) refl (one_of c votes)
    where
      first : list_any (is_same_vote (found_of v)) (map found_of votes) ≡ false
      first = not-true _ (and_first (not (list_any (is_same_vote (found_of v)) (map found_of votes))) (votes_once (map found_of votes)) once)

      by : (b : Bool) → test v ≡ b → (votes_once (map found_of votes) ≡ true → list_any test votes ≡ true → Every (λ (v : Prepared). test v ≡ true → v.changes ≡ c) votes → flat_map (λ (vote : Prepared). vote.changes) (filter test votes) ≡ c)
          → flat_map (λ (vote : Prepared). vote.changes) (filter test (v ∷ votes)) ≡ c
      by true is more = rw is (ap (λ (ops : List Op). v.changes ++ ops) (none_of test votes (alone v is votes first)) ∙ (unit v.changes ∙ all.0 is))
      by false is more = rw is (more (and_last (not (list_any (is_same_vote (found_of v)) (map found_of votes))) (votes_once (map found_of votes)) once) (rw is at any) all.1)

any_more : (one two : Prepared → Bool) → ((v : Prepared) → one v ≡ true → two v ≡ true) → (votes : List Prepared) → list_any one votes ≡ true → list_any two votes ≡ true
any_more one two gives [] e = absurd (cc e)
any_more one two gives (v ∷ votes) e = by (one v) refl (any_more one two gives votes)
  where
    either : (b : Bool) → list_any two votes ≡ true → (b || list_any two votes) ≡ true
    either true m = refl
    either false m = m

    by : (b : Bool) → one v ≡ b → (list_any one votes ≡ true → list_any two votes ≡ true) → list_any two (v ∷ votes) ≡ true
    by true is more = rw (gives v is) refl
    by false is more = either (two v) (more (rw is at e))

among_back : (tids : List Tid) (tid t : Tid) → same_tid t tid ≡ false → (b : Bool) → is_among (tids ++ (if b then tid ∷ [] else [])) t ≡ is_among tids t
among_back [] tid t far true = rw far refl
among_back [] tid t far false = refl
among_back (u ∷ tids) tid t far b = ap (λ (c : Bool). same_tid t u || c) (among_back tids tid t far b)

module _ (here : ℕ) (old new : BookValue) (state later : machine.NodeValue) (log : Recovery) (tid : Tid) (told : List NodeNo) (l : LearnsHere here old new state later log tid) (once : votes_once (map found_of log.prepared) ≡ true) (g : HoldsLogged here old state log) (h : HoldsMade here old state log) where
  -- what the log has of it is on record
  vote_says : (server : ServerNo) (v : Prepared) → (is_of tid v ≡ true → MayCommitHere here old v) → IsVoteLogged here old state log v → IsAsRecorded here old state v → IsApart log v → is_vote_of tid server v ≡ true → v.changes ≡ changes_of (record_of state tid server.0)
  vote_says server v may logged as_recorded apart is = by logged
    where
      doubt : MayCommitHere here old v
      doubt = may (and_first (same_tid v.tid tid) (v.server.0 == server.0) is)

      names : names_transaction v.tid ≡ true
      names = ap names_transaction (test_is tid server v is).0 ∙ l.named

      on : (o : Option OnRecord) → record_of state v.tid v.server.0 ≡ o → is_on_record state (found_of v) ≡ true → v.changes ≡ changes_of (record_of state v.tid v.server.0)
      on None none e = absurd (cc (sym (ap (λ (o : Option OnRecord). elim o [ None ↦ false | Some rec ↦ rec.covers == v.covers ]) none) ∙ e))
      on (Some rec) has e = sym ((as_recorded doubt.doubt rec has).changes doubt.clean) ∙ ap changes_of (sym has)

      by : IsVoteLogged here old state log v → v.changes ≡ changes_of (record_of state tid server.0)
      by (inl e) = on (record_of state v.tid v.server.0) refl e ∙ (ap (λ (t : Tid). changes_of (record_of state t v.server.0)) (test_is tid server v is).0 ∙ ap (λ (n : ℕ). changes_of (record_of state tid n)) (test_is tid server v is).1)
      by (inr done) = absurd (cc (sym (apart names doubt.doubt) ∙ done.has_commit))

  -- and what the log has nothing of has nothing on record
  unsaid : (server : ServerNo) → keeps_contents server.0 ≡ true → list_any (is_vote_of tid server) log.prepared ≡ false → changes_of (record_of state tid server.0) ≡ []
  unsaid server keeps none = by (record_of state tid server.0) refl
    where
      is_its : (v : Prepared) (covers : ℕ) → is_found (voter tid server.0) covers v ≡ true → is_vote_of tid server v ≡ true
      is_its v covers is =
          let f : (v.tid ≡ tid) × ((v.server.0 == server.0) ≡ true) = found_is (voter tid server.0) covers v is in
          ap (λ (t : Tid). same_tid t tid && (v.server.0 == server.0)) f.0 ∙ (ap (λ (b : Bool). b && (v.server.0 == server.0)) (same_tid-self tid) ∙ f.1)

      safe : (rec : OnRecord) → record_of state tid server.0 ≡ Some rec → IsRecordSafe old log (voter tid server.0) rec.covers → changes_of (record_of state tid server.0) ≡ []
      safe rec has (inl aborted) = absurd (cc (sym l.committed ∙ aborted))
      safe rec has (inr (inl among)) = ap changes_of (h.gone tid server.0 keeps among)
      safe rec has (inr (inr found)) = absurd (cc (sym none ∙ any_more (is_found (voter tid server.0) rec.covers) (is_vote_of tid server) (λ v is. is_its v rec.covers is) log.prepared (to_votes (voter tid server.0) rec.covers log found)))

      by : (o : Option OnRecord) → record_of state tid server.0 ≡ o → changes_of (record_of state tid server.0) ≡ []
      by None is = ap changes_of is
      by (Some rec) is = safe rec is (g.kept tid server.0 rec is)

  said_changes : (server : ServerNo) → keeps_contents server.0 ≡ true → changes_at server tid log ≡ changes_of (record_of state tid server.0)
  said_changes server keeps = by (list_any (is_vote_of tid server) log.prepared) refl
    where
      Both : Prepared → Type 0
      Both v = (is_of tid v ≡ true → MayCommitHere here old v) × IsVoteLogged here old state log v

      Two : Prepared → Type 0
      Two v = IsAsRecorded here old state v × IsApart log v

      votes_say : Every (λ (v : Prepared). is_vote_of tid server v ≡ true → v.changes ≡ changes_of (record_of state tid server.0)) log.prepared
      votes_say = every_two Both Two (λ (v : Prepared). is_vote_of tid server v ≡ true → v.changes ≡ changes_of (record_of state tid server.0)) (λ v a b. vote_says server v a.0 a.1 b.0 b.1) log.prepared
          (every_two (λ (v : Prepared). is_of tid v ≡ true → MayCommitHere here old v) (IsVoteLogged here old state log) Both (λ v a b. (a, b)) log.prepared l.votes g.votes)
          (every_two (IsAsRecorded here old state) (IsApart log) Two (λ v a b. (a, b)) log.prepared h.recorded h.apart)

      by : (b : Bool) → list_any (is_vote_of tid server) log.prepared ≡ b → changes_at server tid log ≡ changes_of (record_of state tid server.0)
      by true any = one_of tid server (changes_of (record_of state tid server.0)) log.prepared once any votes_say
      by false none = none_of (is_vote_of tid server) log.prepared none ∙ sym (unsaid server keeps none)

  abbrev now_committed : List Tid
  now_committed = log.committed ++ (if names_transaction tid then tid ∷ [] else [])

  other_recorded : (v : Prepared) → is_of tid v ≡ false → IsAsRecorded here old state v → IsAsRecorded here new later v
  other_recorded v far is = vote_on here old new state later l.crossed v (l.learnt.others v.tid v.server.0 far) is

  abbrev IsApartNow : Prepared → Type 0
  IsApartNow v = names_transaction v.tid ≡ true → v.committed ≡ false → is_among now_committed v.tid ≡ false

  other_apart : (v : Prepared) → is_of tid v ≡ false → IsApart log v → IsApartNow v
  other_apart v far is names unended = among_back log.committed tid v.tid far (names_transaction tid) ∙ is names unended

  gone : (t : Tid) (server : ℕ) → keeps_contents server ≡ true → is_among now_committed t ≡ true → record_of later t server ≡ None
  gone t server keeps among = by (same_tid t tid) refl
    where
      by : (b : Bool) → same_tid t tid ≡ b → record_of later t server ≡ None
      by true same = ap (λ (x : Tid). record_of later x server) (same_tid-true t tid same) ∙ l.learnt.gone server keeps
      by false far = l.learnt.others t server far ∙ h.gone t server keeps (sym (among_back log.committed tid t far (names_transaction tid)) ∙ among)

  files_made : IsMadeBy later.files (log.files ++ changes_at files_no tid log)
  files_made = made_more state.files later.files log.files (changes_of (record_of state tid files_no.0)) (changes_at files_no tid log) l.learnt.files.contents l.learnt.files.notes (said_changes files_no refl) h.files

  audit_made : IsMadeBy later.audit (log.audit ++ changes_at audit_no tid log)
  audit_made = made_more state.audit later.audit log.audit (changes_of (record_of state tid audit_no.0)) (changes_at audit_no tid log) l.learnt.audit.contents l.learnt.audit.notes (said_changes audit_no refl) h.audit

  marked_recorded : (v : Prepared) → IsAsRecorded here old state v → IsAsRecorded here new later (mark_committed tid v)
  marked_recorded v is = by (is_of tid v) refl
    where
      by : (b : Bool) → is_of tid v ≡ b → IsAsRecorded here new later (if b then record v { committed = true } else v)
      by true same = λ unended. absurd (cc unended)
      by false far = other_recorded v far is

  marked_apart : (v : Prepared) → IsApart log v → IsApartNow (mark_committed tid v)
  marked_apart v is = by (is_of tid v) refl
    where
      by : (b : Bool) → is_of tid v ≡ b → IsApartNow (if b then record v { committed = true } else v)
      by true same = λ names unended. absurd (cc unended)
      by false far = other_apart v far is

  pub commit_is_said : HoldsMade here new later (found_commit tid told log)
  commit_is_said = by told
    where
      by : (told : List NodeNo) → HoldsMade here new later (found_commit tid told log)
      by [] = record {
        files = files_made;
        audit = audit_made;
        recorded = every_kept (IsAsRecorded here old state) (IsAsRecorded here new later) (λ vote. not (is_of tid vote)) (λ v far. other_recorded v (not-true (is_of tid v) far)) log.prepared h.recorded;
        apart = every_kept (IsApart log) IsApartNow (λ vote. not (is_of tid vote)) (λ v far. other_apart v (not-true (is_of tid v) far)) log.prepared h.apart;
        gone = gone;
      }
      by (node ∷ more) = record {
        files = files_made;
        audit = audit_made;
        recorded = every_mapped (IsAsRecorded here old state) (IsAsRecorded here new later) (mark_committed tid) marked_recorded log.prepared h.recorded;
        apart = every_mapped (IsApart log) IsApartNow (mark_committed tid) marked_apart log.prepared h.apart;
        gone = gone;
      }

-- ---- and what is in doubt at its home

pub made_is_said : (here : ℕ) (book : BookValue) (state : machine.NodeValue) (log : Recovery) → HoldsMade here book state log → Every (IsUndone here book) log.prepared → HoldsSaid here book state log
made_is_said here book state log h undone = record { files = h.files; audit = h.audit; recorded = h.recorded; apart = h.apart; gone = h.gone; undone = undone }
