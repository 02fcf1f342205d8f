-- A vote that goes on record in a step has its Prepare in the batch; and what the log has of a vote that is on record it has with as many covers, or with its Commit.
use Rattle.qs_world_runs.proofs.Words.{◌≡◌, ◌⊎◌, inl, inr, ℕ, ◌==◌, ◌&&◌, ◌||◌, Bool, true, false, List, [], ◌∷◌, Option, Some, None, refl, sym, ap, subst, ◌∙◌, arith, nat_le, nat_tests, list_any-append, list_any, same_tid-self, same_tid-true, same_tid, Member, Tid, Act, BookValue, is_among, OnRecord, Record, Prepared, Recovery, names_transaction, Every, IsVoteLogged, is_found_in, EntersVote, is_prepare_at, is_recording, and_first, eqb-self, and_parts, eqb-true, or_right}
use Rattle.qs_book_journal.specs.declared.entry.Act.TheVariants as acts
use Rattle.qs_book_machine.specs.Nodes as machine
use Rattle.qs_ops.specs.declared.vote.Vote.TheVariants as votes
use Rattle.qs_world_lawful.proofs.LogRecords.{found_is, is_found}
use Rattle.qs_world_runs.specs.OnRecord.{IsPut}

-- ---- which vote put it there

pub record Recording (tid : Tid) (s : ℕ) (done : List Act) : Type 0 where
  pub member : Member
  pub covers : ℕ
  pub enters : EntersVote tid member votes.Recoverable covers done

pub vote_in : (tid : Tid) (s : ℕ) (done : List Act) → list_any (is_recording tid s) done ≡ true → Recording tid s done
vote_in tid s [] some = absurd (cc some)
vote_in tid s (act ∷ done) some = by (is_recording tid s act) refl some (vote_in tid s done)
  where
    behind : Recording tid s done → Recording tid s (act ∷ done)
    behind r = record { member = r.member; covers = r.covers; enters = record { before = act ∷ r.enters.before; after = r.enters.after; is = ap (λ (xs : List Act). act ∷ xs) r.enters.is } }

    first : (a : Act) → is_recording tid s a ≡ true → Recording tid s (a ∷ done)
    first (acts.Vote t member votes.Recoverable covers) is = record {
      member = member;
      covers = covers;
      enters = record { before = []; after = done; is = ap (λ (x : Tid). acts.Vote x member votes.Recoverable covers ∷ done) (same_tid-true t tid (and_first (same_tid t tid) (member.server.0 == s) is)) };
    }
    first act is = absurd (cc is)

    by : (b : Bool) → is_recording tid s act ≡ b → (b || list_any (is_recording tid s) done) ≡ true → (list_any (is_recording tid s) done ≡ true → Recording tid s done) → Recording tid s (act ∷ done)
    by true now more rest = first act now
    by false far more rest = behind (rest more)

-- it has its Prepare
pub put_in : (tid : Tid) (s : ℕ) (batch : List Record) (done : List Act) → Every (IsPut batch) done → list_any (is_recording tid s) done ≡ true → list_any (is_prepare_at tid s) batch ≡ true
put_in tid s batch [] puts some = absurd (cc some)
put_in tid s batch (act ∷ done) puts some = by (is_recording tid s act) refl some (put_in tid s batch done puts.1)
  where
    first : (a : Act) → IsPut batch a → is_recording tid s a ≡ true → list_any (is_prepare_at tid s) batch ≡ true
    first (acts.Vote t member votes.Recoverable covers) put is = let p = and_parts (same_tid t tid) (member.server.0 == s) is in
        subst (λ (x : Tid). list_any (is_prepare_at x s) batch ≡ true) (same_tid-true t tid p.0) (subst (λ (k : ℕ). list_any (is_prepare_at t k) batch ≡ true) (eqb-true member.server.0 s p.1) put)
    first act put is = absurd (cc is)

    by : (b : Bool) → is_recording tid s act ≡ b → (b || list_any (is_recording tid s) done) ≡ true → (list_any (is_recording tid s) done ≡ true → list_any (is_prepare_at tid s) batch ≡ true) → list_any (is_prepare_at tid s) batch ≡ true
    by true now more rest = first act puts.0 now
    by false far more rest = rest more

-- a vote that is entered is one that goes on record
pub is_in : (tid : Tid) (member : Member) (covers : ℕ) (done : List Act) → EntersVote tid member votes.Recoverable covers done → list_any (is_recording tid member.server.0) done ≡ true
is_in tid member covers done e = subst (λ (xs : List Act). list_any (is_recording tid member.server.0) xs ≡ true) (sym e.is) (list_any-append (is_recording tid member.server.0) e.before (acts.Vote tid member votes.Recoverable covers ∷ e.after) ∙ last (list_any (is_recording tid member.server.0) e.before))
  where
    last : (b : Bool) → (b || ((same_tid tid tid && (member.server.0 == member.server.0)) || list_any (is_recording tid member.server.0) e.after)) ≡ true
    last true = refl
    last false = rw (same_tid-self tid, eqb-self member.server.0) refl

-- ---- what the log has of it, under the covers that are on record

pub found_covers : (n : ℕ) (book : BookValue) (state : machine.NodeValue) (log : Recovery) (tid : Tid) (s : ℕ) (rec : OnRecord) → machine.record_of state tid s ≡ Some rec → (xs : List Prepared) → Every (IsVoteLogged n book state log) xs
    → is_found_in (machine.voter tid s) 0 xs ≡ true → (is_found_in (machine.voter tid s) rec.covers xs ≡ true) ⊎ (is_among log.committed tid ≡ true)
found_covers n book state log tid s rec has [] logged some = absurd (cc some)
found_covers n book state log tid s rec has (vote ∷ xs) logged some = by (is_found (machine.voter tid s) 0 vote) refl some (found_covers n book state log tid s rec has xs logged.1)
  where
    more : (is_found_in (machine.voter tid s) rec.covers xs ≡ true) ⊎ (is_among log.committed tid ≡ true) → (is_found_in (machine.voter tid s) rec.covers (vote ∷ xs) ≡ true) ⊎ (is_among log.committed tid ≡ true)
    more (inl found) = inl (or_right (is_found (machine.voter tid s) rec.covers vote) (is_found_in (machine.voter tid s) rec.covers xs) found)
    more (inr among) = inr among

    least : (n m : ℕ) → (n == m) ≡ true → nat_le n m ≡ true
    least n m e = grind (arith, nat_tests, e)

    wider : (a b c d e : Bool) → e ≡ true → (a && (b && (c && d))) ≡ true → (a && (b && (c && e))) ≡ true
    wider true true true d e is h = is
    wider true true false d e is h = absurd (cc h)
    wider true false c d e is h = absurd (cc h)
    wider false b c d e is h = absurd (cc h)

    now : is_found (machine.voter tid s) 0 vote ≡ true → IsVoteLogged n book state log vote → (is_found_in (machine.voter tid s) rec.covers (vote ∷ xs) ≡ true) ⊎ (is_among log.committed tid ≡ true)
    now found (inr applied) = inr (subst (λ (t : Tid). is_among log.committed t ≡ true) (found_is (machine.voter tid s) 0 vote found).0 applied.has_commit)
    now found (inl on) = inl (rw (wider (names_transaction vote.tid) (same_tid vote.tid tid) (vote.server.0 == s) (nat_le 0 vote.covers) (nat_le rec.covers vote.covers) (least rec.covers vote.covers same) found) refl)
      where
        its : (vote.tid ≡ tid) × ((vote.server.0 == s) ≡ true)
        its = found_is (machine.voter tid s) 0 vote found

        same : (rec.covers == vote.covers) ≡ true
        same = subst (λ (o : Option OnRecord). (elim o [ None ↦ false | Some x ↦ x.covers == vote.covers ]) ≡ true) (subst (λ (t : Tid). machine.record_of state t vote.server.0 ≡ Some rec) (sym its.0) (subst (λ (k : ℕ). machine.record_of state tid k ≡ Some rec) (sym (eqb-true vote.server.0 s its.1)) has)) on

    by : (b : Bool) → is_found (machine.voter tid s) 0 vote ≡ b → (b || list_any (is_found (machine.voter tid s) 0) xs) ≡ true
        → (list_any (is_found (machine.voter tid s) 0) xs ≡ true → (is_found_in (machine.voter tid s) rec.covers xs ≡ true) ⊎ (is_among log.committed tid ≡ true))
        → (is_found_in (machine.voter tid s) rec.covers (vote ∷ xs) ≡ true) ⊎ (is_among log.committed tid ≡ true)
    by true found rest behind = now found logged.0
    by false far rest behind = more (behind rest)

-- what is found names a transaction
pub found_named : (tid : Tid) (s : ℕ) (xs : List Prepared) → is_found_in (machine.voter tid s) 0 xs ≡ true → names_transaction tid ≡ true
found_named tid s [] some = absurd (cc some)
found_named tid s (vote ∷ xs) some = by (is_found (machine.voter tid s) 0 vote) refl some (found_named tid s xs)
  where
    by : (b : Bool) → is_found (machine.voter tid s) 0 vote ≡ b → (b || list_any (is_found (machine.voter tid s) 0) xs) ≡ true → (list_any (is_found (machine.voter tid s) 0) xs ≡ true → names_transaction tid ≡ true) → names_transaction tid ≡ true
    by true found rest behind = subst (λ (t : Tid). names_transaction t ≡ true) (found_is (machine.voter tid s) 0 vote found).0 (and_first (names_transaction vote.tid) _ found)
    by false far rest behind = behind rest
