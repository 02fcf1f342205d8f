-- Maps that are filled record by record tell the last places.
use Rattle.std.proofs.Common.{◌≡◌, ◌∙◌, ℕ, suc, Bool, true, false, List, [], ◌∷◌, ◌++◌, length, Option, Some, None, refl, sym, ap, subst, arith}
use Rattle.std.specs.Prelude.{not, ◌&&◌, ◌==◌, if◌then◌else◌}
use Rattle.std.specs.Map.{lookup}
use Rattle.std.specs.BTreeMap.{insert_entry, is_at}
use Rattle.std.specs.Ordering.{ordering_then, nat_cmp, is_eq}
use Rattle.std.specs.Cmp.{unsigned_ties, both_tied}
use Rattle.std.specs.declared.cmp.Ordering.{Ordering}
use Rattle.std.specs.declared.cmp.Ordering.TheVariants.{Less, Equal, Greater}
use Rattle.std.proofs.lemmas.Map.Lookups.{exact_unsigned, exact_pairs}
use Rattle.qs_base.specs.Order.{tid_cmp, same_tid}
use Rattle.qs_base.specs.declared.identifiers.NodeNo.{NodeNo}
use Rattle.qs_base.specs.declared.identifiers.ServerNo.{ServerNo}
use Rattle.qs_base.specs.declared.identifiers.Tid.{Tid}
use Rattle.qs_record.specs.declared.record.Record.{Record}
use Rattle.qs_record.specs.declared.record.Record.TheVariants as records
use Rattle.qs_restart.specs.declared.places.Ballot.{Ballot}
use Rattle.qs_restart.specs.Places.{is_prepare_of, is_listed_of, is_end_of, last_place, ballot, ballot_cmp, prepares_after, listed_after, ends_after, Follows}
use Rattle.qs_restart.proofs.Behind.{same_tid-self, self}

-- ---- the orders of keys

same_tid-cmp : (s t : Tid) → same_tid s t ≡ is_eq (tid_cmp s t)
same_tid-cmp s t = both_tied _ _ _ _ (unsigned_ties s.home.0 t.home.0) (both_tied _ _ _ _ (unsigned_ties s.inc t.inc) (unsigned_ties s.seq t.seq))

tid_exact : (s t : Tid) → tid_cmp s t ≡ Equal → s ≡ t
tid_exact s t e =
    let first = exact_pairs nat_cmp (λ (p q : ℕ × ℕ). ordering_then (nat_cmp p.0 q.0) (nat_cmp p.1 q.1)) exact_unsigned (exact_pairs nat_cmp nat_cmp exact_unsigned exact_unsigned) (s.home.0, (s.inc, s.seq)) (t.home.0, (t.inc, t.seq)) e in
    ap (λ (p : ℕ × (ℕ × ℕ)). record { home = record { 0 = p.0 }; inc = p.1.0; seq = p.1.1 }) first

ballot_exact : (b c : Ballot) → ballot_cmp b c ≡ Equal → b ≡ c
ballot_exact b c e = ap (λ (p : Tid × ℕ). record { tid = p.0; server = record { 0 = p.1 } }) (exact_pairs tid_cmp nat_cmp tid_exact exact_unsigned (b.tid, b.server.0) (c.tid, c.server.0) e)

same_ballot : (b c : Ballot) → (same_tid b.tid c.tid && (b.server.0 == c.server.0)) ≡ is_eq (ballot_cmp b c)
same_ballot b c = both_tied _ _ _ _ (same_tid-cmp b.tid c.tid) (unsigned_ties b.server.0 c.server.0)

equal : (o : Ordering) → is_eq o ≡ true → o ≡ Equal
equal Less h = absurd (cc h)
equal Equal h = refl
equal Greater h = absurd (cc h)

-- ---- what is found after an insertion

module _ {K X : Type 0} (cmp : K → K → Ordering) (k : K) (v : X) where
  lookup_put : cmp k k ≡ Equal → (es : List (K × X)) → lookup (is_at (cmp k)) (insert_entry cmp es k v) ≡ Some v
  lookup_put self [] = rw self refl
  lookup_put self (e ∷ es) = by (cmp k e.0) refl (lookup_put self es)
    where
      by : (r : Ordering) → cmp k e.0 ≡ r → lookup (is_at (cmp k)) (insert_entry cmp es k v) ≡ Some v → lookup (is_at (cmp k)) (insert_entry cmp (e ∷ es) k v) ≡ Some v
      by Less is more = rw (is, self) refl
      by Equal is more = rw (is, is) refl
      by Greater is more = rw (is, is) more

  lookup_put_apart : ((x : K) → cmp k x ≡ Equal → k ≡ x) → (p : K → Bool) → p k ≡ false → (es : List (K × X)) → lookup p (insert_entry cmp es k v) ≡ lookup p es
  lookup_put_apart exact p other [] = rw other refl
  lookup_put_apart exact p other (e ∷ es) = by (cmp k e.0) refl (lookup_put_apart exact p other es)
    where
      by : (r : Ordering) → cmp k e.0 ≡ r → lookup p (insert_entry cmp es k v) ≡ lookup p es → lookup p (insert_entry cmp (e ∷ es) k v) ≡ lookup p (e ∷ es)
      by Less is more = rw (is, other) refl
      by Equal is more = let no : p e.0 ≡ false = subst (λ x. p x ≡ false) (exact e.0 is) other in rw (is, no) refl
      by Greater is more = rw (is, more) refl

  -- the key itself is found with the value, and any other as before
  pub lookup_one : ((x y : K) → cmp x y ≡ Equal → x ≡ y) → cmp k k ≡ Equal → (q : K) (b : Bool) → is_eq (cmp q k) ≡ b → (es : List (K × X))
      → lookup (is_at (cmp q)) (insert_entry cmp es k v) ≡ (if b then Some v else lookup (is_at (cmp q)) es)
  lookup_one exact self q true is es = subst (λ (x : K). lookup (is_at (cmp x)) (insert_entry cmp es k v) ≡ Some v) (sym (exact q k (equal (cmp q k) is))) (lookup_put self es)
  lookup_one exact self q false is es = lookup_put_apart (exact k) (is_at (cmp q)) is es

tid_self : (t : Tid) → tid_cmp t t ≡ Equal
tid_self t = equal _ (sym (same_tid-cmp t t) ∙ same_tid-self t)

ballot_self : (b : Ballot) → ballot_cmp b b ≡ Equal
ballot_self b = equal _ (sym (same_ballot b b) ∙ rw (same_tid-self b.tid, self b.server.0) refl)

put_tid : (t tid : Tid) (at : ℕ) (es : List (Tid × ℕ)) → lookup (is_at (tid_cmp t)) (insert_entry tid_cmp es tid at) ≡ (if same_tid t tid then Some at else lookup (is_at (tid_cmp t)) es)
put_tid t tid at es = lookup_one tid_cmp tid at tid_exact (tid_self tid) t (same_tid t tid) (sym (same_tid-cmp t tid)) es

put_ballot : (b c : Ballot) (at : ℕ) (es : List (Ballot × ℕ)) → lookup (is_at (ballot_cmp b)) (insert_entry ballot_cmp es c at) ≡ (if same_tid b.tid c.tid && (b.server.0 == c.server.0) then Some at else lookup (is_at (ballot_cmp b)) es)
put_ballot b c at es = lookup_one ballot_cmp c at ballot_exact (ballot_self c) b (same_tid b.tid c.tid && (b.server.0 == c.server.0)) (sym (same_ballot b c)) es

-- ---- one record more

last_more : (test : Record → Bool) (log : List Record) (rec : Record) → last_place test (log ++ rec ∷ []) ≡ (if test rec then Some (length log) else last_place test log)
last_more test [] rec = refl
last_more test (x ∷ log) rec = ap front (last_more test log rec) ∙ by (test rec)
  where
    front : Option ℕ → Option ℕ
    front o = elim o [ None ↦ if test x then Some 0 else None | Some place ↦ Some (suc place) ]

    by : (b : Bool) → front (if b then Some (length log) else last_place test log) ≡ (if b then Some (suc (length log)) else last_place test (x ∷ log))
    by true = refl
    by false = refl

pub follows_none : Follows [] [] [] []
follows_none = record { prepare = λ tid server. refl; list = λ tid. refl; end = λ tid. refl }

pub follows_more : (prepares : List (Ballot × ℕ)) (listed ends : List (Tid × ℕ)) (log : List Record) (rec : Record) → Follows prepares listed ends log
    → Follows (prepares_after rec (length log) prepares) (listed_after rec (length log) listed) (ends_after rec (length log) ends) (log ++ rec ∷ [])
follows_more prepares listed ends log (records.Prepare tid server covers changes) f = record {
  prepare = λ t s. put_ballot (ballot t s) (ballot tid server) (length log) prepares ∙ ap (λ (o : Option ℕ). if same_tid t tid && (s.0 == server.0) then Some (length log) else o) (f.prepare t s) ∙ sym (last_more (is_prepare_of t s) log (records.Prepare tid server covers changes));
  list = λ t. f.list t ∙ sym (last_more (is_listed_of t) log (records.Prepare tid server covers changes));
  end = λ t. f.end t ∙ sym (last_more (is_end_of t) log (records.Prepare tid server covers changes));
}
follows_more prepares listed ends log (records.Commit tid []) f = record {
  prepare = λ t s. f.prepare t s ∙ sym (last_more (is_prepare_of t s) log (records.Commit tid []));
  list = λ t. f.list t ∙ sym (last_more (is_listed_of t) log (records.Commit tid []));
  end = λ t. put_tid t tid (length log) ends ∙ ap (λ (o : Option ℕ). if same_tid t tid then Some (length log) else o) (f.end t) ∙ sym (last_more (is_end_of t) log (records.Commit tid []));
}
follows_more prepares listed ends log (records.Commit tid (node ∷ told)) f = record {
  prepare = λ t s. f.prepare t s ∙ sym (last_more (is_prepare_of t s) log (records.Commit tid (node ∷ told)));
  list = λ t. put_tid t tid (length log) listed ∙ ap (λ (o : Option ℕ). if same_tid t tid then Some (length log) else o) (f.list t) ∙ sym (last_more (is_listed_of t) log (records.Commit tid (node ∷ told)));
  end = λ t. f.end t ∙ sym (last_more (is_end_of t) log (records.Commit tid (node ∷ told)));
}
follows_more prepares listed ends log (records.Aborted tid) f = record {
  prepare = λ t s. f.prepare t s ∙ sym (last_more (is_prepare_of t s) log (records.Aborted tid));
  list = λ t. f.list t ∙ sym (last_more (is_listed_of t) log (records.Aborted tid));
  end = λ t. put_tid t tid (length log) ends ∙ ap (λ (o : Option ℕ). if same_tid t tid then Some (length log) else o) (f.end t) ∙ sym (last_more (is_end_of t) log (records.Aborted tid));
}
follows_more prepares listed ends log (records.End tid) f = record {
  prepare = λ t s. f.prepare t s ∙ sym (last_more (is_prepare_of t s) log (records.End tid));
  list = λ t. f.list t ∙ sym (last_more (is_listed_of t) log (records.End tid));
  end = λ t. put_tid t tid (length log) ends ∙ ap (λ (o : Option ℕ). if same_tid t tid then Some (length log) else o) (f.end t) ∙ sym (last_more (is_end_of t) log (records.End tid));
}
