-- A vote that goes on record, with its Prepare in the log.
use Rattle.qs_world_lawful.proofs.Words.{◌≡◌, inl, inr, ℕ, ◌==◌, Bool, true, false, List, [], ◌∷◌, Option, Some, None, refl, sym, ap, subst, ◌∙◌, arith, nat_tests, not, ◌&&◌, ◌||◌, is_some, slice_get, nat_le, if◌then◌else◌, filter, is_at, same_tid, same_tid-true, same_tid-self, Member, ServerNo, Tid, Act, Op, TransactionValue, is_crossed, is_covering, BookValue, find_transaction, is_vote, broken, effect, OnRecord, Voter, voter_equal, voter_exact, voter_itself, vote_by, changed_at_here, lookup_put}
use Rattle.qs_world_lawful.proofs.Words.{lookup_put_apart, Inv, held, passed, Prepared, Recovery, names_transaction, found_prepare, is_vote_of, entry_of, Every, IsVoteLogged, Later, IsRecordSafe, IsCommitMade, IsMarked, StandsIn, HoldsLogged, eqb-true, eq-eqb, false≢true, and_first, and_last}
use Rattle.qs_book_journal.specs.declared.entry.Act.TheVariants as acts
use Rattle.qs_ops.specs.declared.vote.Vote.TheVariants as votes
use Rattle.qs_book_machine.specs.Transaction.{part_of}
use Rattle.qs_book_machine.specs.Clauses.{broken_vote, is_vote_due, is_server_vote}
use Rattle.qs_book_machine.specs.Nodes as machine
use Rattle.qs_book_laws.proofs.Faces.{recorded_by}
use Rattle.qs_book_laws.proofs.Steps.{past}
use Rattle.qs_world_lawful.proofs.LogActs.{acting, acted_later}
use Rattle.qs_world_lawful.proofs.LogFrames.{every_on, applied_on, safe_on, made_on, stands_on}
use Rattle.qs_world_lawful.proofs.LogRecords.{every_filter, every_append, any_filter, any_append, found_is, is_found, to_votes, of_votes}

-- a server that votes so keeps its votes in a log
recoverable : (state : machine.NodeValue) (tid : Tid) (tx : TransactionValue) (member : Member) → is_vote state tid tx member votes.Recoverable ≡ true → machine.is_recoverable member.server.0 ≡ true
recoverable state tid tx member is = by (is_crossed tx member) (member.server.0 == 0) (member.server.0 == 1) (member.server.0 == 2) (member.server.0 == 6) refl refl refl refl refl is
  where
    by : (x a b c d : Bool) → is_crossed tx member ≡ x → (member.server.0 == 0) ≡ a → (member.server.0 == 1) ≡ b → (member.server.0 == 2) ≡ c → (member.server.0 == 6) ≡ d
        → (if is_crossed tx member then (member.server.0 == 0) || (member.server.0 == 1) else is_server_vote state member.server.0 tid votes.Recoverable) ≡ true
        → ((member.server.0 == 0) || ((member.server.0 == 1) || (member.server.0 == 6))) ≡ true
    by x true b c d e f g h k may = rw f refl
    by x false true c d e f g h k may = rw (f, g) refl
    by x false false c true e f g h k may = rw (f, g, k) refl
    by true false false c false e f g h k may = absurd (cc (rw (e, f, g) at may))
    by false false false true false e f g h k may = absurd (cc (rw (e, f, g, h) at may))
    by false false false false false e f g h k may = absurd (cc (rw (e, f, g, h, k) at may))

module _ (book : BookValue) (stamp here : ℕ) (state : machine.NodeValue) (i : Inv book) (there : slice_get book.nodes here ≡ Some state) (tid : Tid) (server : ServerNo) (covers : ℕ) (changes : List Op)
    (lawful : broken book (entry_of here stamp (acts.Vote tid (record { node = record { 0 = here }; server = server }) votes.Recoverable covers)) ≡ None) where
  abbrev member : Member
  member = record { node = record { 0 = here }; server = server }

  abbrev act : Act
  act = acts.Vote tid member votes.Recoverable covers

  abbrev new : BookValue
  new = effect book (entry_of here stamp act)

  abbrev voting : machine.NodeValue → machine.NodeValue
  voting = vote_by book here tid member votes.Recoverable covers

  abbrev pub next : machine.NodeValue
  next = voting state

  pub voted_there : slice_get new.nodes here ≡ Some next
  voted_there = changed_at_here voting book.nodes here state there

  abbrev own : Voter
  own = machine.voter tid server.0

  abbrev rec : OnRecord
  rec = recorded_by book here tid member covers (machine.pending_at state tid server.0)

  on : Later book new
  on = acted_later book stamp here state i there act refl lawful

  pub may : (tx : TransactionValue) × (find_transaction book tid ≡ Some tx) × (is_vote state tid tx member votes.Recoverable ≡ true)
  may = by (find_transaction book tid) refl (held state.up 2 _ (acting book stamp here act state there lawful)).1
    where
      by : (o : Option TransactionValue) → find_transaction book tid ≡ o → broken_vote here state tid o member votes.Recoverable covers ≡ None → (tx : TransactionValue) × (find_transaction book tid ≡ Some tx) × (is_vote state tid tx member votes.Recoverable ≡ true)
      by None is h = absurd (cc h)
      by (Some tx) is h = (tx, is, passed (is_vote state tid tx member votes.Recoverable) 42 None (past (is_covering tx member state.inc covers) 41 _ (past (is_vote_due here tx member (part_of tx member state.inc)) 40 _ h)))

  -- ---- what is on record

  pub own_record : machine.record_of next tid server.0 ≡ Some rec
  own_record = lookup_put machine.voter_cmp own rec (voter_itself own) state.records

  pub other_record : (t : Tid) (s : ℕ) → is_at (machine.voter_cmp (machine.voter t s)) own ≡ false → machine.record_of next t s ≡ machine.record_of state t s
  other_record t s far = lookup_put_apart machine.voter_cmp own rec (λ x. voter_equal own x) (is_at (machine.voter_cmp (machine.voter t s))) far state.records

  -- ---- the log

  abbrev vote : Prepared
  vote = record { tid = tid; server = server; covers = covers; changes = changes; committed = false }

  abbrev other : Prepared → Bool
  other x = not (is_vote_of tid server x)

  -- of another vote the voter is another
  pub not_own : (x : Prepared) → other x ≡ true → is_at (machine.voter_cmp (machine.voter x.tid x.server.0)) own ≡ false
  not_own x far = by (is_at (machine.voter_cmp (machine.voter x.tid x.server.0)) own) refl
    where
      by : (b : Bool) → is_at (machine.voter_cmp (machine.voter x.tid x.server.0)) own ≡ b → b ≡ false
      by false is = refl
      by true is =
          let e : machine.voter x.tid x.server.0 ≡ own = voter_exact (machine.voter x.tid x.server.0) own is in
          absurd (clash (x.server.0 == server.0) (eq-eqb (x.server.0) server.0 (ap (λ (v : Voter). v.server.0) e)) (subst (λ (t : Tid). same_tid t tid ≡ true) (ap (λ (v : Voter). v.tid) (sym e)) (same_tid-self tid)) far)
        where
          clash : (b : Bool) → b ≡ true → same_tid x.tid tid ≡ true → not (same_tid x.tid tid && b) ≡ true → ⊥
          clash b p q r = cc (rw (q, p) at r)

  module _ (log : Recovery) (h : HoldsLogged here book state log) (named : names_transaction tid ≡ true) where
    abbrev longer : Recovery
    longer = found_prepare vote log

    old_vote : (x : Prepared) → other x ≡ true → IsVoteLogged here book state log x → IsVoteLogged here new next longer x
    old_vote x far (inl is) = inl (ap (λ (o : Option OnRecord). elim o [ None ↦ false | Some r ↦ r.covers == x.covers ]) (other_record x.tid x.server.0 (not_own x far)) ∙ is)
    old_vote x far (inr is) =
        let q = applied_on here book new state next log on.learnt refl x is in
        inr (record { tx = q.tx; found = q.found; has_commit = q.has_commit; learnt = q.learnt })

    old_votes : (xs : List Prepared) → Every (IsVoteLogged here book state log) xs → Every (IsVoteLogged here new next longer) (filter other xs)
    old_votes [] all = tt
    old_votes (x ∷ xs) all = by (other x) refl (old_votes xs all.1)
      where
        by : (b : Bool) → other x ≡ b → Every (IsVoteLogged here new next longer) (filter other xs) → Every (IsVoteLogged here new next longer) (filter other (x ∷ xs))
        by true is more = rw is (old_vote x is all.0, more)
        by false is more = rw is more

    self : (n : ℕ) → (n == n) ≡ true
    self n = grind (arith, nat_tests)

    own_vote : IsVoteLogged here new next longer vote
    own_vote = inl (ap (λ (o : Option OnRecord). elim o [ None ↦ false | Some r ↦ r.covers == covers ]) own_record ∙ self covers)

    -- the vote is found
    found_self : is_found own covers vote ≡ true
    found_self = all_four _ _ _ _ named (same_tid-self tid) (self server.0) (least covers)
      where
        all_four : (a b c d : Bool) → a ≡ true → b ≡ true → c ≡ true → d ≡ true → (a && (b && (c && d))) ≡ true
        all_four a b c d p q r s = rw (p, q, r, s) refl

        least : (n : ℕ) → nat_le n n ≡ true
        least n = grind (arith, nat_tests)

    safe : (t : Tid) (s : ℕ) (r : OnRecord) → machine.record_of next t s ≡ Some r → IsRecordSafe new longer (machine.voter t s) r.covers
    safe t s r is = by (is_at (machine.voter_cmp (machine.voter t s)) own) refl
      where
        of_some : Some rec ≡ Some r → r.covers ≡ covers
        of_some e = ap (λ (o : Option OnRecord). elim o [ None ↦ covers | Some x ↦ x.covers ]) (sym e)

        passes : is_at (machine.voter_cmp (machine.voter t s)) own ≡ false → (x : Prepared) → is_found (machine.voter t s) r.covers x ≡ true → other x ≡ true
        passes far x found = by (is_vote_of tid server x) refl
          where
            at : (x.tid ≡ t) × ((x.server.0 == s) ≡ true)
            at = found_is (machine.voter t s) r.covers x found

            differ : machine.voter t s ≡ own → ⊥
            differ e = cc (sym (ap (λ (v : Voter). is_at (machine.voter_cmp v) own) e ∙ itself) ∙ far)
              where
                itself : is_at (machine.voter_cmp own) own ≡ true
                itself = rw (voter_itself own) refl

            by : (b : Bool) → is_vote_of tid server x ≡ b → not b ≡ true
            by false is_not = refl
            by true own_too = absurd (differ (join (sym at.0 ∙ same_tid-true x.tid tid (and_first _ _ own_too)) (sym (eqb-true x.server.0 s at.1) ∙ eqb-true x.server.0 server.0 (and_last (same_tid x.tid tid) _ own_too))))
              where
                join : t ≡ tid → s ≡ server.0 → machine.voter t s ≡ own
                join e f = rw (e, f) refl

        old : (is_at (machine.voter_cmp (machine.voter t s)) own ≡ false) → IsRecordSafe new log (machine.voter t s) r.covers → IsRecordSafe new longer (machine.voter t s) r.covers
        old far (inl gone) = inl gone
        old far (inr (inl done)) = inr (inl done)
        old far (inr (inr found)) = inr (inr (of_votes (machine.voter t s) r.covers longer
            (any_append (is_found (machine.voter t s) r.covers) (filter other log.prepared) (vote ∷ []) (inl (any_filter (is_found (machine.voter t s) r.covers) other (passes far) log.prepared (to_votes (machine.voter t s) r.covers log found))))))

        by : (b : Bool) → is_at (machine.voter_cmp (machine.voter t s)) own ≡ b → IsRecordSafe new longer (machine.voter t s) r.covers
        by true same =
            let e : machine.voter t s ≡ own = voter_exact (machine.voter t s) own same in
            let c : r.covers ≡ covers = of_some (sym own_record ∙ subst (λ (v : Voter). machine.record_of next v.tid v.server.0 ≡ Some r) e is) in
            let found : is_found (machine.voter t s) r.covers vote ≡ true = subst (λ (v : Voter). is_found v r.covers vote ≡ true) (sym e) (subst (λ (n : ℕ). is_found own n vote ≡ true) (sym c) found_self) in
            inr (inr (of_votes (machine.voter t s) r.covers longer (any_append (is_found (machine.voter t s) r.covers) (filter other log.prepared) (vote ∷ []) (inr (rw found refl)))))
        by false far = old far (safe_on book new on log (machine.voter t s) r.covers (h.kept t s r (sym (other_record t s far) ∙ is)))

    pub by_vote : HoldsLogged here new next longer
    by_vote = record {
      kinds = every_append _ (filter other log.prepared) (vote ∷ []) (every_filter _ other log.prepared h.kinds) (recoverable state tid may.0 member may.2, tt);
      stands = every_append (StandsIn new) (filter other log.prepared) (vote ∷ []) (every_filter (StandsIn new) other log.prepared (every_on (StandsIn book) (StandsIn new) (stands_on book new on.learnt) log.prepared h.stands)) (stands_on book new on.learnt vote (ap is_some may.1), tt);
      votes = every_append (IsVoteLogged here new next longer) (filter other log.prepared) (vote ∷ []) (old_votes log.prepared h.votes) (own_vote, tt);
      marked = every_append (IsMarked longer) (filter other log.prepared) (vote ∷ []) (every_filter (IsMarked longer) other log.prepared h.marked) ((λ is. absurd (false≢true is)), tt);
      kept = safe;
      commits = every_on (IsCommitMade book state) (IsCommitMade new next) (made_on book new state next on refl) log.committed h.commits;
    }
