-- A loan that is made or given back leaves what is held of its transaction.
use Rattle.qs_world_lawful.proofs.Words.{◌≡◌, ◌≢◌, ◌⊎◌, inl, inr, ℕ, ◌+◌, true, List, Option, Some, None, refl, sym, ap, subst, ◌∙◌, arith, length, nat_lt, nat_tests, unwrap_or, filter, lookup, is_at, ClientNo, Member, NodeNo, ServerNo, Tid, lookup_changed, changed_none, TransactionValue, no_part, life, life_cmp, changed_value, Part, Lent, at_server, is_loan_here, is_given_back, HoldsTid}
use Rattle.qs_book_machine.specs.Transaction.{part_of, borrower}
use Rattle.qs_tm.specs.Members as rules
use Rattle.qs_world_lawful.specs.Face.{Face}
use Rattle.qs_world_lawful.specs.Holds.{is_kept}
use Rattle.qs_world_lawful.proofs.Parts.{LivesApart, member_like, changed_part_apart, same_life_or, aborts_alike}

-- a borrower is none of the servers
pub borrower_apart : (client : ClientNo) (here : NodeNo) (inc : ℕ) (server : ServerNo) → is_kept server ≡ true → LivesApart (life (borrower client here) inc) (life (at_server here server) inc)
borrower_apart client here inc server kept = by (same_life_or (borrower client here) (at_server here server) inc)
  where
    no : (k n : ℕ) → k + 32 ≡ n → nat_lt n 7 ≡ true → ⊥
    no k n e is = grind (arith, nat_tests, e, is)

    by : (borrower client here ≡ at_server here server) ⊎ LivesApart (life (borrower client here) inc) (life (at_server here server) inc) → LivesApart (life (borrower client here) inc) (life (at_server here server) inc)
    by (inl same) = absurd (no client.0 server.0 (ap (λ (m : Member). m.server.0) same) kept)
    by (inr far) = far

module _ (here : NodeNo) (inc : ℕ) (client : ClientNo) (g : Part → Part) (aborts : (p : Part) → (g p).aborted ≡ p.aborted) (tid : Tid) (tx : TransactionValue) (face : Face) (loans : List Lent) where
  -- the machine's transaction with the borrower's part changed
  abbrev pub changed : TransactionValue
  changed = record tx { parts = changed_value (is_at (life_cmp (life (borrower client here) inc))) g tx.parts }

  part_elsewhere : (other : Member) → LivesApart (life (borrower client here) inc) (life other inc) → part_of changed other inc ≡ part_of tx other inc
  part_elsewhere other far = changed_part_apart (life (borrower client here) inc) g tx.parts other inc far

  abbrev or_nothing : Option Part → Part
  or_nothing o = unwrap_or o no_part

  part_here : (part_of changed (borrower client here) inc ≡ g (part_of tx (borrower client here) inc)) ⊎ (part_of changed (borrower client here) inc ≡ part_of tx (borrower client here) inc)
  part_here = by (lookup (is_at (life_cmp (life (borrower client here) inc))) tx.parts) refl
    where
      by : (o : Option Part) → lookup (is_at (life_cmp (life (borrower client here) inc))) tx.parts ≡ o → (part_of changed (borrower client here) inc ≡ g (or_nothing o)) ⊎ (part_of changed (borrower client here) inc ≡ or_nothing o)
      by None is = inr (ap or_nothing (changed_none (is_at (life_cmp (life (borrower client here) inc))) g tx.parts is))
      by (Some p) is = inl (ap or_nothing (lookup_changed (is_at (life_cmp (life (borrower client here) inc))) g tx.parts p is))

  aborted_alike : (other : Member) → (part_of changed other inc).aborted ≡ (part_of tx other inc).aborted
  aborted_alike other = by (same_life_or (borrower client here) other inc)
    where
      own : (part_of changed (borrower client here) inc ≡ g (part_of tx (borrower client here) inc)) ⊎ (part_of changed (borrower client here) inc ≡ part_of tx (borrower client here) inc)
          → (part_of changed (borrower client here) inc).aborted ≡ (part_of tx (borrower client here) inc).aborted
      own (inl is) = ap (λ (p : Part). p.aborted) is ∙ aborts (part_of tx (borrower client here) inc)
      own (inr is) = ap (λ (p : Part). p.aborted) is

      by : (borrower client here ≡ other) ⊎ LivesApart (life (borrower client here) inc) (life other inc) → (part_of changed other inc).aborted ≡ (part_of tx other inc).aborted
      by (inl same) = subst (λ (m : Member). (part_of changed m inc).aborted ≡ (part_of tx m inc).aborted) same (own part_here)
      by (inr far) = ap (λ (p : Part). p.aborted) (part_elsewhere other far)

  pub loan_tid : HoldsTid here inc tid tx face
      → ((c : ClientNo) → nat_lt c.0 224 ≡ true → (part_of changed (borrower c here) inc).made ≡ length (filter (is_loan_here c inc) loans))
      → ((c : ClientNo) → nat_lt c.0 224 ≡ true → (part_of changed (borrower c here) inc).yielded ≡ length (filter (is_given_back c inc) loans))
      → HoldsTid here inc tid changed (record face { loans = loans })
  loan_tid h made yielded = record {
    sized = h.sized;
    members = λ held server kept. member_like tx changed (at_server here server) inc _ (part_elsewhere (at_server here server) (borrower_apart client here inc server kept)) (λ served covers. refl) (h.members held server kept);
    asked = h.asked;
    outcome = h.outcome;
    silent = λ is. h.silent (sym (aborts_alike tx changed here inc aborted_alike) ∙ is);
    local = h.local;
    sent = h.sent;
    pending = ap (λ (p : Part). p.pending) (part_elsewhere (at_server here rules.files_no) (borrower_apart client here inc rules.files_no refl)) ∙ h.pending;
    noted = h.noted;
    queued = h.queued;
    made = made;
    yielded = yielded;
    home = λ near in_inc. let k = h.home near in_inc in record { runs = k.runs; undecided = k.undecided; asked = k.asked };
  }

  -- of another client nothing changes
  pub other_client : {A : Type 0} (of : Part → A) (c : ClientNo) → client.0 ≢ c.0 → of (part_of changed (borrower c here) inc) ≡ of (part_of tx (borrower c here) inc)
  other_client of c far = by (same_life_or (borrower client here) (borrower c here) inc)
    where
      fall : (a b : ℕ) → a + 32 ≡ b + 32 → a ≡ b
      fall a b e = grind (arith, e)

      by : (borrower client here ≡ borrower c here) ⊎ LivesApart (life (borrower client here) inc) (life (borrower c here) inc) → of (part_of changed (borrower c here) inc) ≡ of (part_of tx (borrower c here) inc)
      by (inl same) = absurd (far (fall client.0 c.0 (ap (λ (m : Member). m.server.0) same)))
      by (inr apart) = ap of (part_elsewhere (borrower c here) apart)

  -- and its own part changes, where the machine has one
  pub own_client : lookup (is_at (life_cmp (life (borrower client here) inc))) tx.parts ≡ Some (part_of tx (borrower client here) inc) → part_of changed (borrower client here) inc ≡ g (part_of tx (borrower client here) inc)
  own_client is = ap or_nothing (lookup_changed (is_at (life_cmp (life (borrower client here) inc))) g tx.parts (part_of tx (borrower client here) inc) is)
