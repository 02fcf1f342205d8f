-- Who issued a request that stands runs, and gave its number in its present incarnation: that stays as the transaction goes on. So the next number is that of none that stands.
use Rattle.qs_world_runs.proofs.Words.{◌≡◌, ◌⊎◌, inl, inr, ℕ, ◌+◌, ◌≤◌, ◌==◌, ◌&&◌, not, Bool, true, false, List, [], ◌∷◌, ◌++◌, Option, Some, None, refl, sym, ap, subst, ◌∙◌, arith, if◌then◌else◌, nat_cmp_total, tied_itself, is_at, find, lookup, option_map, is_some, length, nat_lt, slice_get, unwrap_or, Equal, same_member, Member, Tid, changed_apart, changed_none, held, BookValue, find_transaction, inc_at, broken_issue, broken_issuer, link_to, broken, broken_act, broken_at, TransactionValue}
use Rattle.qs_world_runs.proofs.Words.{is_standing, issued, is_commit, link_cmp, mark_served, request_cmp, requests_at, requests_in, sent_in, sent_on, standing_request, Link, Request, RequestNo, Sent, Op, entry_of, AreIssued, Field, IsIssued, same_Some, le_le, and_false, eqb-self}
use Rattle.qs_book_journal.specs.declared.entry.Act.TheVariants as acts
use Rattle.qs_book_laws.proofs.Holding.{left_of, right_of, same_number}
use Rattle.qs_book_laws.proofs.Maps.{changed_alike, lookup_changed, lookup_put, lookup_put_apart}
use Rattle.qs_book_laws.proofs.Reaching.{link_exact}
use Rattle.qs_book_laws.proofs.Requests.{request_exact}
use Rattle.qs_book_machine.specs.Clauses.{is_for, is_numbered}
use Rattle.qs_book_machine.specs.Lawful.{is_in_order}
use Rattle.qs_book_machine.specs.Nodes as machine
use Rattle.qs_book_machine.specs.Transaction.{counted, next_number, sent_more, served_in, with_counted}
use Rattle.qs_base_lemmas.proofs.Tests.{eq_ge}

-- ---- numbers of a link

link_equal : (l m : Link) → link_cmp l m ≡ Equal → l ≡ m
link_equal l m is = link_exact l m (rw is refl)

link_self : (l : Link) → link_cmp l l ≡ Equal
link_self l = rw (tied_itself nat_cmp_total l.from.0, tied_itself nat_cmp_total l.to.0) refl

-- one more was given in the incarnation of the request
more_in : (request : Request) (o : Option Sent) → sent_in request.inc (Some (sent_more request o)) ≡ sent_in request.inc o + 1
more_in request None = rw (eqb-self request.inc) refl
more_in request (Some sent) = by (sent.inc == request.inc) refl
  where
    by : (b : Bool) → (sent.inc == request.inc) ≡ b → sent_in request.inc (Some (sent_more request (Some sent))) ≡ sent_in request.inc (Some sent) + 1
    by true is = rw (is, is) refl
    by false is = rw (is, eqb-self request.inc) refl

module _ (tx : TransactionValue) (at : RequestNo) (request : Request) (peer_inc place : ℕ) where
  abbrev new : TransactionValue
  new = issued at request peer_inc place tx

  abbrev sent : Sent
  sent = sent_more request (sent_on tx at.link)

  pub given_own : sent_in request.inc (sent_on new at.link) ≡ sent_in request.inc (sent_on tx at.link) + 1
  given_own = ap (sent_in request.inc) (lookup_put link_cmp at.link sent (link_self at.link) tx.sent) ∙ more_in request (sent_on tx at.link)

  pub given_other : (l : Link) → is_at (link_cmp l) at.link ≡ false → sent_on new l ≡ sent_on tx l
  given_other l apart = lookup_put_apart link_cmp at.link sent (link_equal at.link) (is_at (link_cmp l)) apart tx.sent

  -- no fewer on any link, in the incarnations of a field that has the request's
  given_more : (field : Field) → request.inc ≡ field.inc at.link.from.0 → (l : Link) → sent_in (field.inc l.from.0) (sent_on tx l) ≤ sent_in (field.inc l.from.0) (sent_on new l)
  given_more field now l = by (is_at (link_cmp l) at.link) refl
    where
      more : (a b : ℕ) → b ≡ a + 1 → a ≤ b
      more a b e = omega (arith, e)

      own : sent_in (field.inc at.link.from.0) (sent_on tx at.link) ≤ sent_in (field.inc at.link.from.0) (sent_on new at.link)
      own = subst (λ (i : ℕ). sent_in i (sent_on tx at.link) ≤ sent_in i (sent_on new at.link)) now (more _ _ given_own)

      by : (b : Bool) → is_at (link_cmp l) at.link ≡ b → sent_in (field.inc l.from.0) (sent_on tx l) ≤ sent_in (field.inc l.from.0) (sent_on new l)
      by true is = subst (λ (k : Link). sent_in (field.inc k.from.0) (sent_on tx k) ≤ sent_in (field.inc k.from.0) (sent_on new k)) (sym (link_exact l at.link is)) own
      by false apart = eq_ge _ _ (ap (sent_in (field.inc l.from.0)) (given_other l apart))

  -- what stands then stood, or has the request's number
  pub stood_or_new : (r : RequestNo) (member : Member) → is_some (standing_request new r member) ≡ true → (r ≡ at) ⊎ (is_some (standing_request tx r member) ≡ true)
  stood_or_new r member stands = by (is_at (request_cmp r) at) refl
    where
      by : (b : Bool) → is_at (request_cmp r) at ≡ b → (r ≡ at) ⊎ (is_some (standing_request tx r member) ≡ true)
      by true is = inl (request_exact r at is)
      by false apart = inr (subst (λ (o : Option (List Request)). is_some (find (is_standing member) (unwrap_or o [])) ≡ true)
          (lookup_put_apart request_cmp at (requests_at tx at ++ request ∷ []) (λ k is. request_exact at k (rw is refl)) (is_at (request_cmp r)) apart tx.requests) stands)

  -- it is issued under the next number
  pub issued_on : (old field : Field) → ((k : ℕ) → field.up k ≡ old.up k) → ((k : ℕ) → field.inc k ≡ old.inc k) → field.up at.link.from.0 ≡ true → request.inc ≡ field.inc at.link.from.0 → at.number ≡ sent_in request.inc (sent_on tx at.link) + 1
      → AreIssued tx old → AreIssued new field
  issued_on old field up inc runs now next are r member stands = by (stood_or_new r member stands)
    where
      last : (a b c : ℕ) → a ≡ b + 1 → c ≡ b + 1 → a ≤ c
      last a b c p q = omega (arith, p, q)

      own : IsIssued new field at
      own = record { up = runs; given = subst (λ (i : ℕ). at.number ≤ sent_in i (sent_on new at.link)) now (last _ _ _ next given_own) }

      before : IsIssued tx old r → IsIssued new field r
      before i = record {
        up = up r.link.from.0 ∙ i.up;
        given = le_le _ _ _ (subst (λ (k : ℕ). r.number ≤ sent_in k (sent_on tx r.link)) (sym (inc r.link.from.0)) i.given) (given_more field now r.link);
      }

      by : (r ≡ at) ⊎ (is_some (standing_request tx r member) ≡ true) → IsIssued new field r
      by (inl is) = subst (λ (k : RequestNo). IsIssued new field k) (sym is) own
      by (inr stood) = before (are r member stood)

  -- so none of that number stood
  pub none_stood : (old : Field) → request.inc ≡ old.inc at.link.from.0 → at.number ≡ sent_in request.inc (sent_on tx at.link) + 1 → AreIssued tx old → (member : Member) → standing_request tx at member ≡ None
  none_stood old now next are member = by (standing_request tx at member) refl
    where
      never : (a b : ℕ) → a ≡ b + 1 → a ≤ b → ⊥
      never a b p q = omega (arith, p, q)

      by : (o : Option Request) → standing_request tx at member ≡ o → standing_request tx at member ≡ None
      by None is = is
      by (Some r) is = absurd (never _ _ next (subst (λ (i : ℕ). at.number ≤ sent_in i (sent_on tx at.link)) (sym now) (are at member (rw is refl)).given))

-- ---- one is served

module _ (member : Member) where
  -- what stands then stood
  pub stood_before : (m : Member) (rs : List Request) → is_some (find (is_standing m) (mark_served member rs)) ≡ true → is_some (find (is_standing m) rs) ≡ true
  stood_before m [] stands = stands
  stood_before m (r ∷ rs) stands = by (is_standing member r) refl (is_standing m r) refl stands (stood_before m rs)
    where
      by : (b : Bool) → is_standing member r ≡ b → (c : Bool) → is_standing m r ≡ c → is_some (find (is_standing m) (mark_served member (r ∷ rs))) ≡ true
          → (is_some (find (is_standing m) (mark_served member rs)) ≡ true → is_some (find (is_standing m) rs) ≡ true) → is_some (find (is_standing m) (r ∷ rs)) ≡ true
      by b is true so stands more = rw so refl
      by true is false so stands more = let served : is_standing m (record r { served = true }) ≡ false = and_false (same_member r.member m) in rw so (rw (is, served) at stands)
      by false is false so stands more = rw so (more (rw (is, so) at stands))

module _ (tx : TransactionValue) (at : RequestNo) (member : Member) (inc stamp : ℕ) (done : Bool) where
  abbrev later : TransactionValue
  later = served_in at member inc stamp done tx

  pub stood_served : (r : RequestNo) (m : Member) → is_some (standing_request later r m) ≡ true → is_some (standing_request tx r m) ≡ true
  stood_served r m stands = by (is_at (request_cmp at) r) refl
    where
      Stands : Option (List Request) → Type 0
      Stands o = is_some (find (is_standing m) (unwrap_or o [])) ≡ true

      of : (o : Option (List Request)) → lookup (is_at (request_cmp at)) tx.requests ≡ o → Stands (lookup (is_at (request_cmp at)) later.requests) → Stands o
      of None none s = subst Stands (changed_none (is_at (request_cmp at)) (mark_served member) tx.requests none) s
      of (Some rs) found s = stood_before member m rs (subst Stands (lookup_changed (is_at (request_cmp at)) (mark_served member) tx.requests rs found) s)

      own : Stands (lookup (is_at (request_cmp at)) later.requests) → Stands (lookup (is_at (request_cmp at)) tx.requests)
      own s = of (lookup (is_at (request_cmp at)) tx.requests) refl s

      by : (b : Bool) → is_at (request_cmp at) r ≡ b → is_some (standing_request tx r m) ≡ true
      by true is = subst (λ (k : RequestNo). Stands (lookup (is_at (request_cmp k)) later.requests) → Stands (lookup (is_at (request_cmp k)) tx.requests)) (request_exact at r is) own stands
      by false apart = subst Stands (changed_apart (is_at (request_cmp at)) (is_at (request_cmp r)) (λ k is. subst (λ (x : RequestNo). is_at (request_cmp at) x ≡ false) (request_exact r k is) apart) (mark_served member) tx.requests) stands

  pub served_on : (old field : Field) → ((k : ℕ) → field.up k ≡ old.up k) → ((k : ℕ) → field.inc k ≡ old.inc k) → AreIssued tx old → AreIssued later field
  served_on old field up inc are r m stands = let i : IsIssued tx old r = are r m (stood_served r m stands) in
      record { up = up r.link.from.0 ∙ i.up; given = subst (λ (k : ℕ). r.number ≤ sent_in k (sent_on tx r.link)) (sym (inc r.link.from.0)) i.given }

-- ---- what leaves its requests, and how many were given

-- an answer that is counted leaves how many were given
counted_sent : (inc up_to k : ℕ) (sent : Sent) → sent_in k (Some (with_counted inc up_to sent)) ≡ sent_in k (Some sent)
counted_sent inc up_to k sent = by ((sent.inc == inc) && nat_lt sent.counted up_to)
  where
    by : (b : Bool) → sent_in k (Some (if b then record sent { counted = up_to } else sent)) ≡ sent_in k (Some sent)
    by true = refl
    by false = refl

pub counted_given : (link : Link) (inc up_to peer_inc : ℕ) (tx : TransactionValue) (k : ℕ) (l : Link) → sent_in k (sent_on (counted link inc up_to peer_inc tx) l) ≡ sent_in k (sent_on tx l)
counted_given link inc up_to peer_inc tx k l = of (sent_on (counted link inc up_to peer_inc tx) l) (sent_on tx l)
    (changed_alike (is_at (link_cmp link)) (λ (s : Sent). sent_in k (Some s)) (with_counted inc up_to) (counted_sent inc up_to k) (is_at (link_cmp l)) tx.sent)
  where
    of : (a b : Option Sent) → option_map (λ (s : Sent). sent_in k (Some s)) a ≡ option_map (λ (s : Sent). sent_in k (Some s)) b → sent_in k a ≡ sent_in k b
    of None None same = refl
    of None (Some t) same = absurd (cc same)
    of (Some s) None same = absurd (cc same)
    of (Some s) (Some t) same = same_Some (sent_in k (Some s)) (sent_in k (Some t)) same

pub issued_left : (tx new : TransactionValue) (old field : Field) → new.requests ≡ tx.requests → ((k : ℕ) (l : Link) → sent_in k (sent_on new l) ≡ sent_in k (sent_on tx l)) → ((k : ℕ) → field.up k ≡ old.up k) → ((k : ℕ) → field.inc k ≡ old.inc k) → AreIssued tx old → AreIssued new field
issued_left tx new old field requests given up inc are r m stands =
    let i : IsIssued tx old r = are r m (subst (λ (rs : List (RequestNo × List Request)). is_some (find (is_standing m) (requests_in rs r)) ≡ true) requests stands) in
    record { up = up r.link.from.0 ∙ i.up; given = subst (λ (k : ℕ). r.number ≤ k) (sym (given (field.inc r.link.from.0) r.link)) (subst (λ (k : ℕ). r.number ≤ sent_in k (sent_on tx r.link)) (sym (inc r.link.from.0)) i.given) }

-- ---- a lawful issue has the next number

pub numbered_next : (book : BookValue) (n stamp : ℕ) (t : Tid) (issuer member : Member) (number : ℕ) (op : Op) → broken book (entry_of n stamp (acts.Issue t issuer member number op)) ≡ None
    → (tx : TransactionValue) → find_transaction book t ≡ Some tx → number ≡ next_number tx (link_to n member) (inc_at book (record { 0 = n }))
numbered_next book n stamp t issuer member number op h tx found = by (slice_get book.nodes n) refl (held (is_in_order book (entry_of n stamp (acts.Issue t issuer member number op))) 1 _ h).1
  where
    inc_in : Option machine.NodeValue → ℕ
    inc_in o = elim o [ None ↦ 0 | Some v ↦ v.inc ]

    of : (v : machine.NodeValue) → broken_issue n v (length book.nodes) t (Some tx) issuer member number op ≡ None → number ≡ next_number tx (link_to n member) v.inc
    of v k = same_number number (next_number tx (link_to n member) v.inc)
        (left_of (number == next_number tx (link_to n member) v.inc) (is_for op member && nat_lt member.node.0 (length book.nodes))
        (right_of (not (is_commit tx.cell)) _ (held (is_numbered n v (length book.nodes) tx member number op) 20 (broken_issuer n v t tx issuer op) k).0))

    by : (o : Option machine.NodeValue) → slice_get book.nodes n ≡ o → broken_at book stamp n o (acts.Issue t issuer member number op) ≡ None → number ≡ next_number tx (link_to n member) (inc_at book (record { 0 = n }))
    by None none k = absurd (cc k)
    by (Some v) there k = subst (λ (i : ℕ). number ≡ next_number tx (link_to n member) i) (sym (ap inc_in there))
        (of v (subst (λ (o : Option TransactionValue). broken_issue n v (length book.nodes) t o issuer member number op ≡ None) found (held v.up 2 (broken_act book stamp n v (acts.Issue t issuer member number op)) k).1))
