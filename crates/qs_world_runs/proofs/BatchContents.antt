-- What a log has committed with one more Commit is what a restart applies of it: the changes that are on record of each transaction whose Commit is new.
use Rattle.qs_world_runs.proofs.Words.{◌≡◌, ℕ, ◌&&◌, ◌||◌, ◌++◌, not, Bool, true, false, List, [], ◌∷◌, append-nil, map, Option, Some, None, fold, refl, sym, ap, subst, ◌∙◌, ◌==◌, if◌then◌else◌, is_some, flat_map-append, fold-append, filter, list_any, slice_get, same_tid, same_tid-self, same_tid-true, NodeNo, ServerNo, Tid, BookValue, changes_of, record_of, commits_found, is_among, record_at, OnRecord, TableValue, applied, Op, Record, Prepared, Recovery, found_record, mark_committed}
use Rattle.qs_world_runs.proofs.Words.{names_transaction, IsMadeBy, is_record_of}
use Rattle.std.proofs.Common.{flat_map}
use Rattle.qs_book_machine.specs.Nodes as machine
use Rattle.qs_book_machine.specs.Restart.{add_commit, changes_at, has_record}
use Rattle.qs_ops.specs.Servers.{audit_no, files_no}
use Rattle.qs_ops.specs.Table.{apply_change, apply_note}
use Rattle.qs_record.specs.declared.record.Record.TheVariants as made
use Rattle.qs_restart.specs.Recovery as logs
use Rattle.qs_restart.specs.Recovery.{ended, found_commit, is_of, is_vote_of}

-- ---- records of other transactions leave what a log has of one

among_back : (tids : List Tid) (tid t : Tid) → same_tid t tid ≡ false → (b : Bool) → is_among (tids ++ (if b then tid ∷ [] else [])) t ≡ is_among tids t
among_back [] tid t far true = rw far refl
among_back [] tid t far false = refl
among_back (u ∷ tids) tid t far b = ap (λ (c : Bool). same_tid t u || c) (among_back tids tid t far b)

turned : (t u : Tid) → same_tid u t ≡ false → same_tid t u ≡ false
turned t u far = by (same_tid t u) refl
  where
    by : (b : Bool) → same_tid t u ≡ b → same_tid t u ≡ false
    by false e = e
    by true e = absurd (let one : t ≡ u = same_tid-true t u e in let near : same_tid u t ≡ true = subst (λ (x : Tid). same_tid u x ≡ true) (sym one) (same_tid-self u) in cc (far, near))

module _ (t : Tid) (server : ServerNo) where
  abbrev test : Prepared → Bool
  test = is_vote_of t server

  abbrev of : List Prepared → List Op
  of votes = flat_map (λ (vote : Prepared). vote.changes) (filter test votes)

  filtered : (p : Prepared → Bool) → ((v : Prepared) → test v ≡ true → p v ≡ true) → (votes : List Prepared) → of (filter p votes) ≡ of votes
  filtered p passes [] = refl
  filtered p passes (v ∷ votes) = by (test v) (p v) refl refl (filtered p passes votes)
    where
      by : (a b : Bool) → test v ≡ a → p v ≡ b → of (filter p votes) ≡ of votes → of (filter p (v ∷ votes)) ≡ of (v ∷ votes)
      by true true is at more = rw (at, is) (ap (λ (ops : List Op). v.changes ++ ops) more)
      by true false is at more = absurd (cc (sym at ∙ passes v is))
      by false true is at more = rw (at, is) more
      by false false is at more = rw (at, is) more

  one_other : (votes : List Prepared) (v : Prepared) → test v ≡ false → of (votes ++ v ∷ []) ≡ of votes
  one_other [] v far = rw far refl
  one_other (w ∷ votes) v far = by (test w) (one_other votes v far)
    where
      by : (a : Bool) → of (votes ++ v ∷ []) ≡ of votes
          → flat_map (λ (vote : Prepared). vote.changes) (if a then w ∷ filter test (votes ++ v ∷ []) else filter test (votes ++ v ∷ [])) ≡ flat_map (λ (vote : Prepared). vote.changes) (if a then w ∷ filter test votes else filter test votes)
      by true more = ap (λ (ops : List Op). w.changes ++ ops) more
      by false more = more

  marked : (u : Tid) (votes : List Prepared) → of (map (mark_committed u) votes) ≡ of votes
  marked u [] = refl
  marked u (v ∷ votes) = one (is_of u v) (marked u votes)
    where
      both_of : (a : Bool) (w : Prepared) → w.changes ≡ v.changes → of (map (mark_committed u) votes) ≡ of votes → flat_map (λ (vote : Prepared). vote.changes) (if a then w ∷ filter test (map (mark_committed u) votes) else filter test (map (mark_committed u) votes)) ≡ flat_map (λ (vote : Prepared). vote.changes) (if a then v ∷ filter test votes else filter test votes)
      both_of true w same more = ap (λ (ops : List Op). ops ++ of (map (mark_committed u) votes)) same ∙ ap (λ (ops : List Op). v.changes ++ ops) more
      both_of false w same more = more

      one : (b : Bool) → of (map (mark_committed u) votes) ≡ of votes → of ((if b then record v { committed = true } else v) ∷ map (mark_committed u) votes) ≡ of (v ∷ votes)
      one true = both_of (test v) (record v { committed = true }) refl
      one false = both_of (test v) v refl

  -- a vote of this one is no vote of that one
  no_vote_of : (u : Tid) → same_tid u t ≡ false → (v : Prepared) → test v ≡ true → same_tid v.tid u ≡ false
  no_vote_of u far v is = by (same_tid v.tid t) refl is
    where
      by : (b : Bool) → same_tid v.tid t ≡ b → (b && (v.server.0 == server.0)) ≡ true → same_tid v.tid u ≡ false
      by false e i = absurd (cc i)
      by true e i = ap (λ (x : Tid). same_tid x u) (same_tid-true v.tid t e) ∙ turned t u far

  changes_left : (said : Recovery) (rec : Record) → is_record_of t rec ≡ false → logs.changes_at server t (found_record said rec) ≡ logs.changes_at server t said
  changes_left said (made.Prepare u s covers changes) far =
      one_other (filter (λ other. not (is_vote_of u s other)) said.prepared) (record { tid = u; server = s; covers = covers; changes = changes; committed = false }) (ap (λ (b : Bool). b && (s.0 == server.0)) far)
      ∙ filtered (λ other. not (is_vote_of u s other)) (λ v is. ap (λ (b : Bool). not (b && (v.server.0 == s.0))) (no_vote_of u far v is)) said.prepared
  changes_left said (made.Commit u []) far = filtered (λ vote. not (is_of u vote)) (λ v is. ap not (no_vote_of u far v is)) said.prepared
  changes_left said (made.Commit u (node ∷ told)) far = marked u said.prepared
  changes_left said (made.Aborted u) far = filtered (λ vote. not (is_of u vote)) (λ v is. ap not (no_vote_of u far v is)) said.prepared
  changes_left said (made.End u) far = filtered (λ vote. not (is_of u vote)) (λ v is. ap not (no_vote_of u far v is)) said.prepared

among_left : (t : Tid) (said : Recovery) (rec : Record) → is_record_of t rec ≡ false → is_among (found_record said rec).committed t ≡ is_among said.committed t
among_left t said (made.Prepare u s covers changes) far = refl
among_left t said (made.Commit u []) far = among_back said.committed u t (turned t u far) (names_transaction u)
among_left t said (made.Commit u (node ∷ told)) far = among_back said.committed u t (turned t u far) (names_transaction u)
among_left t said (made.Aborted u) far = refl
among_left t said (made.End u) far = refl

module _ (t : Tid) where
  neither : (a b : Bool) → (a || b) ≡ false → (a ≡ false) × (b ≡ false)
  neither false b e = (refl, e)
  neither true b e = absurd (cc e)

  pub all_changes_left : (server : ServerNo) (records : List Record) (said : Recovery) → list_any (is_record_of t) records ≡ false → logs.changes_at server t (fold found_record said records) ≡ logs.changes_at server t said
  all_changes_left server [] said far = refl
  all_changes_left server (rec ∷ records) said far = let p = neither (is_record_of t rec) _ far in all_changes_left server records (found_record said rec) p.1 ∙ changes_left t server said rec p.0

  pub all_among_left : (records : List Record) (said : Recovery) → list_any (is_record_of t) records ≡ false → is_among (fold found_record said records).committed t ≡ is_among said.committed t
  all_among_left [] said far = refl
  all_among_left (rec ∷ records) said far = let p = neither (is_record_of t rec) _ far in all_among_left records (found_record said rec) p.1 ∙ among_left t said rec p.0

-- ---- what is applied of a log

made_more : (table : TableValue) (ops said more : List Op) → IsMadeBy (applied table ops) said → IsMadeBy (applied table (ops ++ more)) (said ++ more)
made_more table ops said more is = record {
  contents = fold-append apply_change table.contents ops more ∙ (ap (λ fs. fold apply_change fs more) is.contents ∙ sym (fold-append apply_change [] said more));
  notes = fold-append apply_note table.notes ops more ∙ (ap (λ ns. fold apply_note ns more) is.notes ∙ sym (fold-append apply_note [] said more));
}

module _ (here : ℕ) (book : BookValue) (state : machine.NodeValue) (there : slice_get book.nodes here ≡ Some state) where
  abbrev pub found_in : Recovery → List Tid
  found_in log = commits_found here book log.committed

  -- what a restart would commit of it
  pub record Applies (log : Recovery) : Type 0 where
    pub files : IsMadeBy (applied state.files (flat_map (changes_at here book files_no) (found_in log))) log.files
    pub audit : IsMadeBy (applied state.audit (flat_map (changes_at here book audit_no) (found_in log))) log.audit

  read : (tid : Tid) (server : ℕ) → record_at here book tid server ≡ record_of state tid server
  read tid server = ap (λ (o : Option machine.NodeValue). elim o [ None ↦ None | Some node ↦ record_of node tid server ]) there

  -- the log has of the transaction what is on record
  pub record SaysRecord (log : Recovery) (tid : Tid) : Type 0 where
    pub files : logs.changes_at logs.files_no tid log ≡ changes_of (record_of state tid files_no)
    pub audit : logs.changes_at logs.audit_no tid log ≡ changes_of (record_of state tid audit_no)
    pub named : names_transaction tid ≡ true
    pub fresh : is_among log.committed tid ≡ false

  not_found : (tid : Tid) (done acc : List Tid) → is_among done tid ≡ false → is_among acc tid ≡ false → is_among (fold (add_commit here book) acc done) tid ≡ false
  not_found tid [] acc none off = off
  not_found tid (t ∷ done) acc none off = not_found tid done (add_commit here book acc t) (neither tid (same_tid tid t) _ none).1 (by (has_record here book t && not (is_among acc t)))
    where
      by : (b : Bool) → is_among (if b then acc ++ t ∷ [] else acc) tid ≡ false
      by true = among_back acc t tid (neither tid (same_tid tid t) _ none).0 true ∙ off
      by false = off

  module _ (log : Recovery) (tid : Tid) (says : SaysRecord log tid) (a : Applies log) where
    abbrev acc : List Tid
    acc = found_in log

    committed_are : log.committed ++ (if names_transaction tid then tid ∷ [] else []) ≡ log.committed ++ tid ∷ []
    committed_are = ap (λ (b : Bool). log.committed ++ (if b then tid ∷ [] else [])) says.named

    found_are : commits_found here book (log.committed ++ tid ∷ []) ≡ (if has_record here book tid && not (is_among acc tid) then acc ++ tid ∷ [] else acc)
    found_are = fold-append (add_commit here book) [] log.committed (tid ∷ [])

    both_none : (x y : Option OnRecord) → (is_some x || is_some y) ≡ false → (changes_of x ≡ []) × (changes_of y ≡ [])
    both_none None None e = (refl, refl)
    both_none None (Some y) e = absurd (cc e)
    both_none (Some x) y e = absurd (cc e)

    module _ (server : ServerNo) (is : logs.changes_at server tid log ≡ changes_of (record_of state tid server.0)) where
      abbrev applies_at : List Tid → List Op
      applies_at tids = flat_map (changes_at here book server.0) tids

      one : changes_at here book server.0 tid ≡ logs.changes_at server tid log
      one = ap changes_of (read tid server.0) ∙ sym is

      with_one : applies_at (acc ++ tid ∷ []) ≡ applies_at acc ++ logs.changes_at server tid log
      with_one = flat_map-append (changes_at here book server.0) acc (tid ∷ []) ∙ ap (λ (ops : List Op). applies_at acc ++ ops) (append-nil (changes_at here book server.0 tid) ∙ one)

      -- where nothing is on record nothing is committed
      with_none : changes_of (record_of state tid server.0) ≡ [] → applies_at acc ≡ applies_at acc ++ logs.changes_at server tid log
      with_none none = sym (ap (λ (ops : List Op). applies_at acc ++ ops) (is ∙ none) ∙ append-nil (applies_at acc))

      pub applied_now : (has_record here book tid ≡ false → changes_of (record_of state tid server.0) ≡ [])
          → applies_at (commits_found here book (log.committed ++ (if names_transaction tid then tid ∷ [] else []))) ≡ applies_at acc ++ logs.changes_at server tid log
      applied_now none = ap (λ (ts : List Tid). applies_at (commits_found here book ts)) committed_are ∙ (ap applies_at found_are ∙ by (has_record here book tid) refl)
        where
          by : (b : Bool) → has_record here book tid ≡ b → applies_at (if b && not (is_among acc tid) then acc ++ tid ∷ [] else acc) ≡ applies_at acc ++ logs.changes_at server tid log
          by true has = ap (λ (c : Bool). applies_at (if not c then acc ++ tid ∷ [] else acc)) (not_found tid log.committed [] says.fresh refl) ∙ with_one
          by false has = with_none (none has)

    none_of : (has_record here book tid ≡ false) → (changes_of (record_of state tid files_no) ≡ []) × (changes_of (record_of state tid audit_no) ≡ [])
    none_of off = let p = both_none (record_at here book tid files_no) (record_at here book tid audit_no) off in (sym (ap changes_of (read tid files_no)) ∙ p.0, sym (ap changes_of (read tid audit_no)) ∙ p.1)

    files_on : IsMadeBy (applied state.files (flat_map (changes_at here book files_no) (commits_found here book (log.committed ++ (if names_transaction tid then tid ∷ [] else []))))) (log.files ++ logs.changes_at logs.files_no tid log)
    files_on = subst (λ (ops : List Op). IsMadeBy (applied state.files ops) (log.files ++ logs.changes_at logs.files_no tid log)) (sym (applied_now logs.files_no says.files (λ off. (none_of off).0)))
        (made_more state.files (flat_map (changes_at here book files_no) acc) log.files (logs.changes_at logs.files_no tid log) a.files)

    audit_on : IsMadeBy (applied state.audit (flat_map (changes_at here book audit_no) (commits_found here book (log.committed ++ (if names_transaction tid then tid ∷ [] else []))))) (log.audit ++ logs.changes_at logs.audit_no tid log)
    audit_on = subst (λ (ops : List Op). IsMadeBy (applied state.audit ops) (log.audit ++ logs.changes_at logs.audit_no tid log)) (sym (applied_now logs.audit_no says.audit (λ off. (none_of off).1)))
        (made_more state.audit (flat_map (changes_at here book audit_no) acc) log.audit (logs.changes_at logs.audit_no tid log) a.audit)

    pub commit_applies : (told : List NodeNo) → Applies (found_commit tid told log)
    commit_applies [] = record { files = files_on; audit = audit_on }
    commit_applies (node ∷ told) = record { files = files_on; audit = audit_on }

  -- ---- an end of a transaction's records commits nothing
  pub ended_applies : (log : Recovery) (tid : Tid) → Applies log → Applies (ended tid log)
  ended_applies log tid a = record { files = a.files; audit = a.audit }
