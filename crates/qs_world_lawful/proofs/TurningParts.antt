-- Each kind of change that an act makes of a transaction, one after the other: its parts, its requests, what was sent and noted.
use Rattle.qs_world_lawful.proofs.Words.{◌≡◌, ◌⊎◌, inl, inr, ℕ, ◌==◌, ◌&&◌, ◌||◌, ◌++◌, Bool, true, false, List, [], ◌∷◌, Option, Some, None, refl, sym, ap, subst, ◌∙◌, arith, if◌then◌else◌, nat_tests, ◌+◌, nat_lt, unwrap_or, list_any, lookup, set_value, insert_entry, is_at, insert_key, Ordering, Less, Equal, Greater, same_member, same_member-true, Member, NodeNo, changed_apart, lookup_changed, lookup_put, lookup_put_apart, TransactionValue, changed_value, is_start, life, life_cmp, link_cmp}
use Rattle.qs_world_lawful.proofs.Words.{no_part, request_cmp, requests_at, requests_in, sent_in, sent_more, sent_on, start_cmp, Life, Link, Part, Request, RequestNo, Sent, Start, has_issued, has_note_in, is_note_by, or-true, eqb-self}
use Rattle.qs_book_machine.specs.Transaction.{part_of, with_counted}
use Rattle.qs_world_lawful.proofs.Keys.{KeyApart, life_exact, life_itself, link_exact, link_itself, same_key_or}
use Rattle.qs_world_lawful.proofs.Parts.{LivesApart, changed_part_apart, put_part_apart}
use Rattle.qs_world_lawful.proofs.Turning.{IsFar}
use Rattle.qs_base_lemmas.proofs.Tests.{and_rest}

-- ---- what a member of the node did in that incarnation

module _ (here now : ℕ) (m : Member) (own : m.node.0 ≡ here) where
  clash : (other : Member) (i : ℕ) → IsFar here now other.node i → life m now ≡ life other i → ⊥
  clash other i far same = cc (sym far ∙ at)
    where
      node : other.node.0 ≡ here
      node = sym (ap (λ (l : Life). l.member.node.0) same) ∙ own

      inc : i ≡ now
      inc = sym (ap (λ (l : Life). l.inc) same)

      at : ((other.node.0 == here) && (i == now)) ≡ true
      at = rw (node, inc, eqb-self here) (eqb-self now)

  pub part_put : (part : Part) (tx : TransactionValue) (other : Member) (i : ℕ) → IsFar here now other.node i
      → unwrap_or (lookup (is_at (life_cmp (life other i))) (insert_entry life_cmp tx.parts (life m now) part)) no_part ≡ part_of tx other i
  part_put part tx other i far = by (same_key_or life_cmp life_exact life_itself (life m now) (life other i))
    where
      by : (life m now ≡ life other i) ⊎ LivesApart (life m now) (life other i) → unwrap_or (lookup (is_at (life_cmp (life other i))) (insert_entry life_cmp tx.parts (life m now) part)) no_part ≡ part_of tx other i
      by (inl same) = absurd (clash other i far same)
      by (inr is) = put_part_apart (life m now) part tx.parts other i is

  pub part_changed : (f : Part → Part) (tx : TransactionValue) (other : Member) (i : ℕ) → IsFar here now other.node i
      → unwrap_or (lookup (is_at (life_cmp (life other i))) (changed_value (is_at (life_cmp (life m now))) f tx.parts)) no_part ≡ part_of tx other i
  part_changed f tx other i far = by (same_key_or life_cmp life_exact life_itself (life m now) (life other i))
    where
      by : (life m now ≡ life other i) ⊎ LivesApart (life m now) (life other i) → unwrap_or (lookup (is_at (life_cmp (life other i))) (changed_value (is_at (life_cmp (life m now))) f tx.parts)) no_part ≡ part_of tx other i
      by (inl same) = absurd (clash other i far same)
      by (inr is) = changed_part_apart (life m now) f tx.parts other i is

  -- a key that fails is put in
  put_fails : {K : Type 0} (cmp : K → K → Ordering) (p : K → Bool) (k : K) → p k ≡ false → (xs : List K) → list_any p (insert_key cmp xs k) ≡ list_any p xs
  put_fails cmp p k fails [] = rw fails refl
  put_fails cmp p k fails (x ∷ xs) = by (cmp k x) refl (put_fails cmp p k fails xs)
    where
      by : (o : Ordering) → cmp k x ≡ o → list_any p (insert_key cmp xs k) ≡ list_any p xs → list_any p (insert_key cmp (x ∷ xs) k) ≡ list_any p (x ∷ xs)
      by Less is more = rw (is, fails) refl
      by Equal is more = rw is refl
      by Greater is more = rw (is, more) refl

  pub start_put : (served : ℕ) (starts : List Start) (other : Member) (i k covers : ℕ) → IsFar here now other.node i
      → list_any (is_start other i k covers) (insert_key start_cmp starts (record { life = life m now; served = served })) ≡ list_any (is_start other i k covers) starts
  start_put served starts other i k covers far = put_fails start_cmp (is_start other i k covers) (record { life = life m now; served = served }) (by (same_member m other) refl) starts
    where
      by : (b : Bool) → same_member m other ≡ b → is_start other i k covers (record { life = life m now; served = served }) ≡ false
      by false is = rw is refl
      by true is = rw is (of (now == i) refl)
        where
          node : other.node.0 ≡ here
          node = ap (λ (n : NodeNo). n.0) (ap (λ (x : Member). x.node) (sym (same_member-true m other is))) ∙ own

          equal : (a b : ℕ) → (a == b) ≡ true → (b == a) ≡ true
          equal a b e = grind (arith, nat_tests, e)

          of : (c : Bool) → (now == i) ≡ c → ((now == i) && (served + covers == k)) ≡ false
          of false apart = rw apart refl
          of true same = absurd (cc (far, near same))
            where
              near : (now == i) ≡ true → ((other.node.0 == here) && (i == now)) ≡ true
              near e = rw (node, eqb-self here) (equal now i e)

-- ---- what was sent

-- a count is counted, and stays
counted_sent : (inc up_to i : ℕ) (o : Option Sent) → (s : Sent) → o ≡ Some s → sent_in i (Some (with_counted inc up_to s)) ≡ sent_in i o
counted_sent inc up_to i o s is = subst (λ (o : Option Sent). sent_in i (Some (with_counted inc up_to s)) ≡ sent_in i o) (sym is) (by ((s.inc == inc) && nat_lt s.counted up_to))
  where
    by : (b : Bool) → sent_in i (Some (if b then record s { counted = up_to } else s)) ≡ sent_in i (Some s)
    by true = refl
    by false = refl

pub count_sent : (l : Link) (inc up_to : ℕ) (tx : TransactionValue) (link : Link) (i : ℕ) → sent_in i (lookup (is_at (link_cmp link)) (changed_value (is_at (link_cmp l)) (with_counted inc up_to) tx.sent)) ≡ sent_in i (sent_on tx link)
count_sent l inc up_to tx link i = by (lookup (is_at (link_cmp l)) tx.sent) refl (same_key_or link_cmp link_exact link_itself l link)
  where
    by : (o : Option Sent) → lookup (is_at (link_cmp l)) tx.sent ≡ o → (l ≡ link) ⊎ KeyApart link_cmp link_exact link_itself l link → sent_in i (lookup (is_at (link_cmp link)) (changed_value (is_at (link_cmp l)) (with_counted inc up_to) tx.sent)) ≡ sent_in i (sent_on tx link)
    by o is (inr far) = ap (sent_in i) (changed_apart (is_at (link_cmp l)) (is_at (link_cmp link)) far.keys (with_counted inc up_to) tx.sent)
    by None is (inl same) = ap (sent_in i) (ap (λ (es : List (Link × Sent)). lookup (is_at (link_cmp link)) es) (none is))
      where
        none : lookup (is_at (link_cmp l)) tx.sent ≡ None → changed_value (is_at (link_cmp l)) (with_counted inc up_to) tx.sent ≡ tx.sent
        none e = subst (λ (o : Option Sent). (elim o [ None ↦ tx.sent | Some v ↦ set_value (is_at (link_cmp l)) tx.sent (with_counted inc up_to v) ]) ≡ tx.sent) (sym e) refl
    by (Some s) is (inl same) =
        subst (λ (k : Link). sent_in i (lookup (is_at (link_cmp k)) (changed_value (is_at (link_cmp l)) (with_counted inc up_to) tx.sent)) ≡ sent_in i (lookup (is_at (link_cmp k)) tx.sent)) same
        (ap (sent_in i) (lookup_changed (is_at (link_cmp l)) (with_counted inc up_to) tx.sent s is) ∙ counted_sent inc up_to i (lookup (is_at (link_cmp l)) tx.sent) s is)

-- ---- a request that is issued

module _ (here now : ℕ) (at : RequestNo) (request : Request) (from : at.link.from.0 ≡ here) (inc : request.inc ≡ now) (tx : TransactionValue) where
  differ : (a b c : ℕ) → a ≡ b → (c == b) ≡ false → (a == c) ≡ false
  differ a b c e is = grind (arith, nat_tests, e, is)

  -- in another incarnation it sent what it had sent there, or nothing that is kept
  fewer : (i : ℕ) → (i == now) ≡ false → (o : Option Sent) → (sent_in i (Some (sent_more request o)) ≡ sent_in i o) ⊎ (sent_in i (Some (sent_more request o)) ≡ 0)
  fewer i far None = inr (rw (differ request.inc now i inc far) refl)
  fewer i far (Some s) = by (s.inc == request.inc) refl
    where
      by : (b : Bool) → (s.inc == request.inc) ≡ b → (sent_in i (Some (sent_more request (Some s))) ≡ sent_in i (Some s)) ⊎ (sent_in i (Some (sent_more request (Some s))) ≡ 0)
      by true is = inr (rw (is, moved s.inc request.inc now i inc is far) refl)
        where
          moved : (a b c d : ℕ) → b ≡ c → (a == b) ≡ true → (d == c) ≡ false → (a == d) ≡ false
          moved a b c d e p q = grind (arith, nat_tests, e, p, q)
      by false is = inr (rw (is, differ request.inc now i inc far) refl)

  abbrev now_sent : Link → Option Sent
  now_sent l = lookup (is_at (link_cmp l)) (insert_entry link_cmp tx.sent at.link (sent_more request (sent_on tx at.link)))

  pub issue_sent : (link : Link) (i : ℕ) → IsFar here now link.from i
      → (sent_in i (lookup (is_at (link_cmp link)) (insert_entry link_cmp tx.sent at.link (sent_more request (sent_on tx at.link)))) ≡ sent_in i (sent_on tx link))
      ⊎ (((link.from.0 == here) ≡ true) × (sent_in i (lookup (is_at (link_cmp link)) (insert_entry link_cmp tx.sent at.link (sent_more request (sent_on tx at.link)))) ≡ 0))
  issue_sent link i far = by (same_key_or link_cmp link_exact link_itself at.link link)
    where
      there : now_sent at.link ≡ Some (sent_more request (sent_on tx at.link))
      there = lookup_put link_cmp at.link (sent_more request (sent_on tx at.link)) (link_itself at.link) tx.sent

      by : (at.link ≡ link) ⊎ KeyApart link_cmp link_exact link_itself at.link link → (sent_in i (now_sent link) ≡ sent_in i (sent_on tx link)) ⊎ (((link.from.0 == here) ≡ true) × (sent_in i (now_sent link) ≡ 0))
      by (inr apart) = inl (ap (sent_in i) (lookup_put_apart link_cmp at.link (sent_more request (sent_on tx at.link)) (link_exact at.link) (is_at (link_cmp link)) apart.at tx.sent))
      by (inl same) = subst (λ (l : Link). (sent_in i (now_sent l) ≡ sent_in i (sent_on tx l)) ⊎ (((l.from.0 == here) ≡ true) × (sent_in i (now_sent l) ≡ 0))) same (of (fewer i other (sent_on tx at.link)))
        where
          near : (at.link.from.0 == here) ≡ true
          near = rw from (eqb-self here)

          other : (i == now) ≡ false
          other = and_rest (link.from.0 == here) (i == now) (ap (λ (l : Link). l.from.0 == here) (sym same) ∙ near) far

          of : (sent_in i (Some (sent_more request (sent_on tx at.link))) ≡ sent_in i (sent_on tx at.link)) ⊎ (sent_in i (Some (sent_more request (sent_on tx at.link))) ≡ 0)
              → (sent_in i (now_sent at.link) ≡ sent_in i (sent_on tx at.link)) ⊎ (((at.link.from.0 == here) ≡ true) × (sent_in i (now_sent at.link) ≡ 0))
          of (inl e) = inl (ap (sent_in i) there ∙ e)
          of (inr e) = inr (near, ap (sent_in i) there ∙ e)

  -- it is a note of no other node, nor of another incarnation
  pub issue_issued : request.issuer.node.0 ≡ here → (node : NodeNo) (i : ℕ) (text : List ℕ) → IsFar here now node i
      → list_any (has_note_in node i text) (insert_entry request_cmp tx.requests at (requests_at tx at ++ request ∷ [])) ≡ has_issued tx node i text
  issue_issued issuer node i text far = of tx.requests refl
    where
      none : is_note_by node i text request ≡ false
      none = by (here == node.0) refl
        where
          turned : (a b : ℕ) → (a == b) ≡ true → (b == a) ≡ true
          turned a b e = grind (arith, nat_tests, e)

          apart : (b c : Bool) → (b && c) ≡ false → b ≡ true → c ≡ false
          apart true c e p = e
          apart false c e p = absurd (cc p)

          by : (b : Bool) → (here == node.0) ≡ b → is_note_by node i text request ≡ false
          by false is = rw (issuer, is) refl
          by true is = rw (issuer, is, differ request.inc now i inc (apart (node.0 == here) (i == now) far (turned here node.0 is))) refl

      -- what is found under a number is found in all
      any_in : (es : List (RequestNo × List Request)) → list_any (is_note_by node i text) (requests_in es at) ≡ true → list_any (has_note_in node i text) es ≡ true
      any_in [] h = absurd (cc h)
      any_in (e ∷ es) h = by (is_at (request_cmp at) e.0) h (any_in es)
        where
          by : (b : Bool) → list_any (is_note_by node i text) (unwrap_or (if b then Some e.1 else lookup (is_at (request_cmp at)) es) []) ≡ true
              → (list_any (is_note_by node i text) (requests_in es at) ≡ true → list_any (has_note_in node i text) es ≡ true) → list_any (has_note_in node i text) (e ∷ es) ≡ true
          by true h rest = rw h refl
          by false h rest = or_right (has_note_in node i text e) (rest h)
            where
              or_right : (b : Bool) → list_any (has_note_in node i text) es ≡ true → (b || list_any (has_note_in node i text) es) ≡ true
              or_right true h = refl
              or_right false h = h

      more : (rs : List Request) → list_any (is_note_by node i text) (rs ++ request ∷ []) ≡ list_any (is_note_by node i text) rs
      more [] = rw none refl
      more (r ∷ rs) = ap (λ (b : Bool). is_note_by node i text r || b) (more rs)

      -- the list under its number has one more
      put : (rs : List Request) (es : List (RequestNo × List Request)) → list_any (is_note_by node i text) rs ≡ list_any (is_note_by node i text) (requests_in es at)
          → list_any (has_note_in node i text) (insert_entry request_cmp es at rs) ≡ list_any (has_note_in node i text) es
      put rs [] same = rw same refl
      put rs (e ∷ es) same = by (request_cmp at e.0) refl (put rs es)
        where
          by : (o : Ordering) → request_cmp at e.0 ≡ o → (list_any (is_note_by node i text) rs ≡ list_any (is_note_by node i text) (requests_in es at) → list_any (has_note_in node i text) (insert_entry request_cmp es at rs) ≡ list_any (has_note_in node i text) es)
              → list_any (has_note_in node i text) (insert_entry request_cmp (e ∷ es) at rs) ≡ list_any (has_note_in node i text) (e ∷ es)
          by Less is rest = rw is (within (list_any (is_note_by node i text) rs) (has_note_in node i text e) (list_any (has_note_in node i text) es) (λ any. any_in es (sym (rw is at same) ∙ any)))
            where
              within : (a b c : Bool) → (a ≡ true → c ≡ true) → (a || (b || c)) ≡ (b || c)
              within false b c h = refl
              within true b true h = sym (or-true b)
              within true b false h = absurd (cc (h refl))
          by Equal is rest = rw is (ap (λ (b : Bool). b || list_any (has_note_in node i text) es) (rw is at same))
          by Greater is rest = rw is (ap (λ (b : Bool). has_note_in node i text e || b) (rest (rw is at same)))

      of : (es : List (RequestNo × List Request)) → tx.requests ≡ es → list_any (has_note_in node i text) (insert_entry request_cmp tx.requests at (requests_at tx at ++ request ∷ [])) ≡ has_issued tx node i text
      of es _ = put (requests_at tx at ++ request ∷ []) tx.requests (more (requests_at tx at))
