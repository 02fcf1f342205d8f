-- What a log has of a transaction that is not aborted, not crossed at its node, and has no Commit there, is what is on record of it.
use Rattle.qs_world_runs.proofs.Words.{◌≡◌, inl, inr, ℕ, ◌==◌, ◌&&◌, ◌||◌, ◌++◌, not, Bool, true, false, List, [], ◌∷◌, append-nil, map, Option, Some, None, refl, sym, ap, ◌∙◌, filter, list_any, same_tid, ServerNo, Tid, same_tid-self, same_tid-true, BookValue, crossed_in, find_transaction, changes_of, record_of, voter, is_among, OnRecord, Op, Prepared, Recovery, HasAborted, HoldsLogged, IsMarked, IsRecordSafe, Every, IsVoteLogged, HoldsSaid, IsAsRecorded, every_two, to_votes, eqb-self}
use Rattle.qs_world_runs.proofs.Words.{not-true, eqb-true}
use Rattle.std.proofs.Common.{flat_map}
use Rattle.qs_book_machine.specs.Nodes as machine
use Rattle.qs_book_machine.specs.Restart.{is_on_record, is_same_vote, member_at, votes_once}
use Rattle.qs_restart.specs.Recovery.{changes_at, is_vote_of}
use Rattle.qs_world_lawful.specs.Logs.{found_of}
use Rattle.qs_world_lawful.proofs.FoundMembers.{and_both}
use Rattle.qs_world_lawful.proofs.FoundOnce.{same_vote_sym}
use Rattle.qs_world_lawful.proofs.LogRecords.{found_is, is_found}
use Rattle.qs_base_lemmas.proofs.Tests.{or_last}

module _ (tid : Tid) (server : ServerNo) where
  abbrev test : Prepared → Bool
  test = is_vote_of tid server

  abbrev of : List Prepared → List Op
  of votes = flat_map (λ (vote : Prepared). vote.changes) (filter test votes)

  none_of : (votes : List Prepared) → list_any test votes ≡ false → of votes ≡ []
  none_of [] none = refl
  none_of (v ∷ votes) none = by (test v) refl (none_of votes)
    where
      by : (b : Bool) → test v ≡ b → (list_any test votes ≡ false → of votes ≡ []) → of (v ∷ votes) ≡ []
      by true is more = absurd (cc (rw is at none))
      by false is more = rw is (more (rw is at none))

  test_is : (v : Prepared) → test v ≡ true → (v.tid ≡ tid) × (v.server.0 ≡ server.0)
  test_is v is = let p = and_both (same_tid v.tid tid) (v.server.0 == server.0) is in (same_tid-true v.tid tid p.0, eqb-true v.server.0 server.0 p.1)

  both_same : (x y : Prepared) → test x ≡ true → test y ≡ true → is_same_vote (found_of x) (found_of y) ≡ true
  both_same x y p q =
      same_vote_sym x y ∙ (ap (λ (t : Tid). same_tid x.tid t && (x.server.0 == y.server.0)) ((test_is y q).0 ∙ sym (test_is x p).0)
      ∙ (ap (λ (b : Bool). b && (x.server.0 == y.server.0)) (same_tid-self x.tid) ∙ (ap (λ (n : ℕ). x.server.0 == n) ((test_is y q).1 ∙ sym (test_is x p).1) ∙ eqb-self x.server.0)))

  -- it is the only one
  alone : (x : Prepared) → test x ≡ true → (xs : List Prepared) → list_any (is_same_vote (found_of x)) (map found_of xs) ≡ false → list_any test xs ≡ false
  alone x is [] none = refl
  alone x is (y ∷ ys) none = by (test y) refl (alone x is ys)
    where
      by : (b : Bool) → test y ≡ b → (list_any (is_same_vote (found_of x)) (map found_of ys) ≡ false → list_any test ys ≡ false) → list_any test (y ∷ ys) ≡ false
      by true same more = absurd (cc (rw (both_same x y is same) at none))
      by false far more = rw far (more (or_last (is_same_vote (found_of x) (found_of y)) (list_any (is_same_vote (found_of x)) (map found_of ys)) none))

  one_of : (c : List Op) (votes : List Prepared) → votes_once (map found_of votes) ≡ true → list_any test votes ≡ true → Every (λ (v : Prepared). test v ≡ true → v.changes ≡ c) votes → of votes ≡ c
  one_of c [] once any all = absurd (cc any)
  one_of c (v ∷ votes) once any all = by (test v) refl (one_of c votes)
    where
      apart : (not (list_any (is_same_vote (found_of v)) (map found_of votes)) ≡ true) × (votes_once (map found_of votes) ≡ true)
      apart = and_both _ (votes_once (map found_of votes)) once

      by : (b : Bool) → test v ≡ b → (votes_once (map found_of votes) ≡ true → list_any test votes ≡ true → Every (λ (v : Prepared). test v ≡ true → v.changes ≡ c) votes → of votes ≡ c) → of (v ∷ votes) ≡ c
      by true is more = rw is (ap (λ (ops : List Op). v.changes ++ ops) (none_of votes (alone v is votes (not-true _ apart.0))) ∙ (append-nil v.changes ∙ all.0 is))
      by false is more = rw is (more apart.1 (rw is at any) all.1)

any_more : (one two : Prepared → Bool) → ((v : Prepared) → one v ≡ true → two v ≡ true) → (votes : List Prepared) → list_any one votes ≡ true → list_any two votes ≡ true
any_more one two gives [] e = absurd (cc e)
any_more one two gives (v ∷ votes) e = by (one v) refl (any_more one two gives votes)
  where
    either : (b : Bool) → list_any two votes ≡ true → (b || list_any two votes) ≡ true
    either true m = refl
    either false m = m

    by : (b : Bool) → one v ≡ b → (list_any one votes ≡ true → list_any two votes ≡ true) → list_any two (v ∷ votes) ≡ true
    by true is more = rw (gives v is) refl
    by false is more = either (two v) (more (rw is at e))

module _ (here : ℕ) (book : BookValue) (state : machine.NodeValue) (log : Recovery) (once : votes_once (map found_of log.prepared) ≡ true) (g : HoldsLogged here book state log) (h : HoldsSaid here book state log)
    (tid : Tid) (fresh : is_among log.committed tid ≡ false) (clean : (server : ℕ) → crossed_in (find_transaction book tid) (member_at here server) ≡ false) (stands : HasAborted book tid → ⊥) where
  module _ (server : ServerNo) where
    abbrev Says : Prepared → Type 0
    Says v = is_vote_of tid server v ≡ true → v.changes ≡ changes_of (record_of state tid server.0)

    vote_says : (v : Prepared) → IsVoteLogged here book state log v → IsAsRecorded here book state v → IsMarked log v → Says v
    vote_says v logged as_recorded marked is = by logged
      where
        its : (v.tid ≡ tid) × (v.server.0 ≡ server.0)
        its = test_is tid server v is

        unlogged : is_among log.committed v.tid ≡ true → ⊥
        unlogged among = let far : is_among log.committed v.tid ≡ false = ap (λ (t : Tid). is_among log.committed t) its.0 ∙ fresh in cc (among, far)

        doubt : (b : Bool) → v.committed ≡ b → v.committed ≡ false
        doubt false e = e
        doubt true e = absurd (unlogged (marked e))

        free : crossed_in (find_transaction book v.tid) (member_at here v.server.0) ≡ false
        free = ap (λ (t : Tid). crossed_in (find_transaction book t) (member_at here v.server.0)) its.0 ∙ clean v.server.0

        on : (o : Option OnRecord) → record_of state v.tid v.server.0 ≡ o → is_on_record state (found_of v) ≡ true → v.changes ≡ changes_of (record_of state v.tid v.server.0)
        on None none e = absurd (cc (sym (ap (λ (o : Option OnRecord). elim o [ None ↦ false | Some rec ↦ rec.covers == v.covers ]) none) ∙ e))
        on (Some rec) has e = sym ((as_recorded (doubt v.committed refl) rec has).changes free) ∙ ap changes_of (sym has)

        by : IsVoteLogged here book state log v → v.changes ≡ changes_of (record_of state tid server.0)
        by (inl e) = on (record_of state v.tid v.server.0) refl e ∙ (ap (λ (t : Tid). changes_of (record_of state t v.server.0)) its.0 ∙ ap (λ (n : ℕ). changes_of (record_of state tid n)) its.1)
        by (inr done) = absurd (unlogged done.has_commit)

    -- and what the log has nothing of has nothing on record
    unsaid : list_any (is_vote_of tid server) log.prepared ≡ false → changes_of (record_of state tid server.0) ≡ []
    unsaid none = by (record_of state tid server.0) refl
      where
        is_its : (v : Prepared) (covers : ℕ) → is_found (voter tid server.0) covers v ≡ true → is_vote_of tid server v ≡ true
        is_its v covers is =
            let f : (v.tid ≡ tid) × ((v.server.0 == server.0) ≡ true) = found_is (voter tid server.0) covers v is in
            ap (λ (t : Tid). same_tid t tid && (v.server.0 == server.0)) f.0 ∙ (ap (λ (b : Bool). b && (v.server.0 == server.0)) (same_tid-self tid) ∙ f.1)

        safe : (rec : OnRecord) → IsRecordSafe book log (voter tid server.0) rec.covers → ⊥
        safe rec (inl aborted) = stands aborted
        safe rec (inr (inl among)) = cc (among, fresh)
        safe rec (inr (inr found)) = let any : list_any (is_vote_of tid server) log.prepared ≡ true = any_more (is_found (voter tid server.0) rec.covers) (is_vote_of tid server) (λ v is. is_its v rec.covers is) log.prepared (to_votes (voter tid server.0) rec.covers log found) in cc (any, none)

        by : (o : Option OnRecord) → record_of state tid server.0 ≡ o → changes_of (record_of state tid server.0) ≡ []
        by None is = ap changes_of is
        by (Some rec) is = absurd (safe rec (g.kept tid server.0 rec is))

    pub says_record : changes_at server tid log ≡ changes_of (record_of state tid server.0)
    says_record = by (list_any (is_vote_of tid server) log.prepared) refl
      where
        Both : Prepared → Type 0
        Both v = IsVoteLogged here book state log v × IsAsRecorded here book state v

        all : Every Says log.prepared
        all = every_two Both (IsMarked log) Says (λ v a b. vote_says v a.0 a.1 b) log.prepared
            (every_two (IsVoteLogged here book state log) (IsAsRecorded here book state) Both (λ v a b. (a, b)) log.prepared g.votes h.recorded) g.marked

        by : (b : Bool) → list_any (is_vote_of tid server) log.prepared ≡ b → changes_at server tid log ≡ changes_of (record_of state tid server.0)
        by true any = one_of tid server (changes_of (record_of state tid server.0)) log.prepared once any all
        by false none = none_of tid server log.prepared none ∙ sym (unsaid none)
