-- What a transaction's requests under one number are, through each act: one more is issued, or one is served.
use Rattle.std.proofs.Common.{◌≡◌, ◌∙◌, ℕ, Bool, true, false, List, [], ◌∷◌, ◌++◌, Option, Some, None, Equal, refl, sym, ap, subst}
use Rattle.std.proofs.lemmas.Cmp.{nat_cmp_total, tied_itself}
use Rattle.std.specs.BTreeMap.{is_at}
use Rattle.std.specs.List.{list_any}
use Rattle.std.specs.Map.{lookup}
use Rattle.std.specs.Prelude.{◌||◌, if◌then◌else◌, unwrap_or}
use Rattle.qs_base.specs.declared.identifiers.Member.{Member}
use Rattle.qs_base.specs.declared.identifiers.Outcome.TheVariants as outcomes
use Rattle.qs_base.specs.declared.identifiers.Tid.{Tid}
use Rattle.qs_book_journal.specs.declared.entry.Act.{Act}
use Rattle.qs_book_journal.specs.declared.entry.Act.TheVariants as acts
use Rattle.qs_book_journal.specs.declared.entry.Entry.{Entry}
use Rattle.qs_book_laws.proofs.Maps.{changed_apart, lookup_changed, lookup_put, lookup_put_apart}
use Rattle.qs_book_laws.proofs.Outcomes.{Inv}
use Rattle.qs_book_laws.proofs.Requests.{request_exact}
use Rattle.qs_book_laws.proofs.Turns.{Gives, GivesFor, Obliged, Stands, step_turns}
use Rattle.qs_book_machine.specs.Book.{BookValue, inc_at, is_done}
use Rattle.qs_book_machine.specs.Clauses.{borrower_at, link_to}
use Rattle.qs_book_machine.specs.Lawful.{broken, effect}
use Rattle.qs_book_machine.specs.Restart.{member_at}
use Rattle.qs_book_machine.specs.Transaction.{TransactionValue, changed_value, decided_at, found_at, heard, is_standing, issued, mark_served, request_cmp, requests_at, served_in, with_learnt}
use Rattle.qs_book_machine.specs.declared.transaction.Request.{Request}
use Rattle.qs_book_machine.specs.declared.transaction.RequestNo.{RequestNo}
use Rattle.qs_world_lawful.proofs.Issued.{any_more}

pub key_itself : (at : RequestNo) → request_cmp at at ≡ Equal
key_itself at = rw (tied_itself nat_cmp_total at.link.from.0, tied_itself nat_cmp_total at.link.to.0, tied_itself nat_cmp_total at.number) refl

-- ---- under its own number

pub issued_own : (key : RequestNo) (request : Request) (peer_inc place : ℕ) (tx : TransactionValue) → requests_at (issued key request peer_inc place tx) key ≡ requests_at tx key ++ request ∷ []
issued_own key request peer_inc place tx = ap (λ (o : Option (List Request)). unwrap_or o []) (lookup_put request_cmp key (requests_at tx key ++ request ∷ []) (key_itself key) tx.requests)

-- ---- some request of these is such a one, served or not

module _ (at : RequestNo) (f : Request → Bool) (unserved : (r : Request) → f (record r { served = true }) ≡ f r) where
  abbrev pub HasOne : TransactionValue → Type 0
  HasOne tx = list_any f (requests_at tx at) ≡ true

  marked : (member : Member) (rs : List Request) → list_any f (mark_served member rs) ≡ list_any f rs
  marked member [] = refl
  marked member (r ∷ rs) = by (is_standing member r) (marked member rs)
    where
      by : (b : Bool) → list_any f (mark_served member rs) ≡ list_any f rs → list_any f (if b then record r { served = true } ∷ rs else r ∷ mark_served member rs) ≡ list_any f (r ∷ rs)
      by true rest = ap (λ (c : Bool). c || list_any f rs) (unserved r)
      by false rest = ap (λ (c : Bool). f r || c) rest

  one_left : (tx later : TransactionValue) → later.requests ≡ tx.requests → HasOne tx → HasOne later
  one_left tx later same h = subst (λ (rs : List (RequestNo × List Request)). list_any f (unwrap_or (lookup (is_at (request_cmp at)) rs) []) ≡ true) (sym same) h

  one_issued : (key : RequestNo) (request : Request) (peer_inc place : ℕ) (tx : TransactionValue) → HasOne tx → HasOne (issued key request peer_inc place tx)
  one_issued key request peer_inc place tx h = by (is_at (request_cmp key) at) refl
    where
      by : (b : Bool) → is_at (request_cmp key) at ≡ b → HasOne (issued key request peer_inc place tx)
      by true is = subst (λ (k : RequestNo). list_any f (requests_at (issued key request peer_inc place tx) k) ≡ true) (request_exact key at is)
          (subst (λ (rs : List Request). list_any f rs ≡ true) (sym (issued_own key request peer_inc place tx)) (any_more f (requests_at tx key) request (subst (λ (k : RequestNo). list_any f (requests_at tx k) ≡ true) (sym (request_exact key at is)) h)))
      by false far = subst (λ (o : Option (List Request)). list_any f (unwrap_or o []) ≡ true) (sym (lookup_put_apart request_cmp key (requests_at tx key ++ request ∷ []) (λ k e. request_exact key k (rw e refl)) (is_at (request_cmp at)) (apart far) tx.requests)) h
        where
          apart : is_at (request_cmp key) at ≡ false → is_at (request_cmp at) key ≡ false
          apart off = of (is_at (request_cmp at) key) refl
            where
              of : (b : Bool) → is_at (request_cmp at) key ≡ b → b ≡ false
              of false e = refl
              of true e = absurd (let same : at ≡ key = request_exact at key e in let near : is_at (request_cmp key) at ≡ true = subst (λ (k : RequestNo). is_at (request_cmp key) k ≡ true) (sym same) (rw (key_itself key) refl) in cc (near, off))

  one_served : (key : RequestNo) (member : Member) (inc stamp : ℕ) (done : Bool) (tx : TransactionValue) → HasOne tx → HasOne (served_in key member inc stamp done tx)
  one_served key member inc stamp done tx h = by (is_at (request_cmp key) at) refl
    where
      of : (o : Option (List Request)) → lookup (is_at (request_cmp key)) tx.requests ≡ o → list_any f (unwrap_or o []) ≡ true → list_any f (unwrap_or (lookup (is_at (request_cmp key)) (changed_value (is_at (request_cmp key)) (mark_served member) tx.requests)) []) ≡ true
      of None none k = absurd (cc k)
      of (Some rs) found k = subst (λ (o : Option (List Request)). list_any f (unwrap_or o []) ≡ true) (sym (lookup_changed (is_at (request_cmp key)) (mark_served member) tx.requests rs found)) (marked member rs ∙ k)

      by : (b : Bool) → is_at (request_cmp key) at ≡ b → HasOne (served_in key member inc stamp done tx)
      by true is = subst (λ (k : RequestNo). list_any f (requests_at (served_in key member inc stamp done tx) k) ≡ true) (request_exact key at is)
          (of (lookup (is_at (request_cmp key)) tx.requests) refl (subst (λ (k : RequestNo). list_any f (requests_at tx k) ≡ true) (sym (request_exact key at is)) h))
      by false far = subst (λ (o : Option (List Request)). list_any f (unwrap_or o []) ≡ true)
          (sym (changed_apart (is_at (request_cmp key)) (is_at (request_cmp at)) (λ k is. subst (λ (x : RequestNo). is_at (request_cmp key) x ≡ false) (request_exact at k is) far) (mark_served member) tx.requests)) h

  -- ---- an entry

  module _ (tid : Tid) (book : BookValue) where
    gives : (t : Tid) (g : TransactionValue → TransactionValue) → ((tx : TransactionValue) → HasOne tx → HasOne (g tx)) → Gives tid HasOne HasOne book t g
    gives t g keeps = record { own = λ same tx found p. keeps tx p; other = λ apart tx p. p }

    plainly : (t : Tid) (g : TransactionValue → TransactionValue) → ((tx : TransactionValue) → (g tx).requests ≡ tx.requests) → Gives tid HasOne HasOne book t g
    plainly t g same = gives t g (λ tx p. one_left tx (g tx) (same tx) p)

    plainly_for : (t : Tid) (g : Member → TransactionValue → TransactionValue) → ((other : Member) (tx : TransactionValue) → (g other tx).requests ≡ tx.requests) → (o : Option Member) → GivesFor tid HasOne HasOne book t g o
    plainly_for t g same None = λ tx p. p
    plainly_for t g same (Some other) = plainly t (g other) (same other)

    obliged : (stamp here : ℕ) (act : Act) → Obliged tid HasOne HasOne book stamp here act
    obliged stamp here (acts.Begin t label client) = λ tx p. p
    obliged stamp here (acts.Issue t issuer other n op) = gives t _
        (one_issued (record { link = link_to here other; number = n }) (record { issuer = issuer; member = other; op = op; inc = inc_at book (record { 0 = here }); served = false }) (inc_at book other.node) book.place)
    obliged stamp here (acts.Serve t other from n reply) = gives t _ (one_served (record { link = record { from = from; to = other.node }; number = n }) other (inc_at book (record { 0 = here })) stamp (is_done reply))
    obliged stamp here (acts.Vote t other ballot covers) = plainly t _ (λ tx. refl)
    obliged stamp here (acts.Ask t) = plainly t _ (λ tx. refl)
    obliged stamp here (acts.Counted t peer up_to) = plainly t _ (λ tx. refl)
    obliged stamp here (acts.Decide t outcome cause) = plainly t _ (λ tx. refl)
    obliged stamp here (acts.Ending t other) = plainly t _ (λ tx. refl)
    obliged stamp here (acts.Learn t other outcomes.Commit) = plainly t _ (λ tx. refl)
    obliged stamp here (acts.Learn t other outcomes.Abort) = plainly t _ (λ tx. refl)
    obliged stamp here (acts.Answer client line said) = ((λ node inc tx p. one_left tx (heard node inc tx) refl p), (λ tx p. p))
    obliged stamp here (acts.Loan t client) = plainly_for t _ (λ other tx. refl) (borrower_at client here)
    obliged stamp here (acts.Yield t client) = plainly_for t _ (λ other tx. refl) (borrower_at client here)
    obliged stamp here acts.Tick = λ tx p. p
    obliged stamp here (acts.Crash cause) = λ tx p. p
    obliged stamp here (acts.Restart inc pend done) = (
      record {
        learnt = λ member tx p. one_left tx (with_learnt member tx) refl p;
        decided = λ place outcome cause tx p. one_left tx (decided_at place outcome cause tx) refl p;
        found = λ server covers changes tx p. one_left tx (found_at (member_at here server) inc covers changes tx) refl p;
      },
      λ tx p. p,
    )

  pub one_stays : (tid : Tid) (book : BookValue) (entry : Entry) → Inv book → broken book entry ≡ None → Stands tid HasOne book → Stands tid HasOne (effect book entry)
  one_stays tid book entry i fine s = step_turns tid HasOne HasOne book entry i fine (obliged tid book entry.stamp entry.node.0 entry.act) s
