-- A note of files that was served is told: through each act, and so in every lawful history.
use Rattle.std.proofs.Common.{◌≡◌, ◌∙◌, ℕ, Bool, true, false, List, [], ◌∷◌, ◌++◌, Option, Some, None, Less, Equal, Greater, refl, sym, ap, subst}
use Rattle.std.proofs.lemmas.Cmp.{nat_cmp_total, tied_itself}
use Rattle.std.specs.BTreeMap.{is_at}
use Rattle.std.specs.BTreeSet.{insert_key}
use Rattle.std.specs.List.{find, list_any}
use Rattle.std.specs.Map.{lookup}
use Rattle.std.specs.Prelude.{◌||◌, if◌then◌else◌, unwrap_or}
use Rattle.std.specs.declared.cmp.Ordering.{Ordering}
use Rattle.qs_base.specs.declared.identifiers.Member.{Member}
use Rattle.qs_base.specs.declared.identifiers.Outcome.TheVariants as outcomes
use Rattle.qs_base.specs.declared.identifiers.Tid.{Tid}
use Rattle.qs_book_journal.specs.declared.entry.Act.{Act}
use Rattle.qs_book_journal.specs.declared.entry.Act.TheVariants as acts
use Rattle.qs_book_journal.specs.declared.entry.Entry.{Entry}
use Rattle.qs_book_laws.proofs.Maps.{changed_apart, changed_none, lookup_changed, lookup_put, lookup_put_apart}
use Rattle.qs_book_laws.proofs.Requests.{request_exact}
use Rattle.qs_book_laws.proofs.Turns.{Gives, GivesFor, Obliged}
use Rattle.qs_book_machine.specs.Book.{BookValue, find_transaction, inc_at, is_done}
use Rattle.qs_book_machine.specs.Clauses.{borrower_at, link_to}
use Rattle.qs_book_machine.specs.Lawful.{IsLawful, book_after, effect}
use Rattle.qs_book_machine.specs.Restart.{member_at}
use Rattle.qs_book_machine.specs.Transaction.{TransactionValue, changed_value, decided_at, found_at, has_note, heard, is_standing, issued, mark_served, note_of, noted_cmp, request_cmp, requests_at, served_in, standing_request, with_learnt, with_note, with_note_of}
use Rattle.qs_book_machine.specs.declared.transaction.Noted.{Noted}
use Rattle.qs_book_machine.specs.declared.transaction.Request.{Request}
use Rattle.qs_book_machine.specs.declared.transaction.RequestNo.{RequestNo}
use Rattle.qs_ops.proofs.FileOrder.{bytes_total}
use Rattle.qs_world_lawful.specs.Logs.{Every}
use Rattle.qs_world_lawful.proofs.LastsEntry.{lasts_on}
use Rattle.qs_world_lawful.proofs.LastsOpening.{IsEmptyYet, opening_empty}
use Rattle.qs_world_lawful.proofs.LastsWell.{LastsWell}
use Rattle.qs_world_lawful.proofs.LogRecords.{every_append}
use Rattle.qs_world.specs.Histories.{opened_from}
use Rattle.qs_world.specs.World.{start}
use Rattle.qs_world_runs.proofs.JoinedWays.{lasts_now}
use Rattle.qs_world_runs.proofs.PlacedActs.{step_here}
use Rattle.qs_world_filed.specs.Told.{EachRunTellsNotes, IsTold, TellsNotes}

-- ---- keys in order

module _ {K : Type 0} (cmp : K → K → Ordering) (p : K → Bool) (k : K) where
  -- one more leaves what is found
  found_more : (xs : List K) → list_any p xs ≡ true → list_any p (insert_key cmp xs k) ≡ true
  found_more [] h = absurd (cc h)
  found_more (x ∷ xs) h = by (cmp k x) refl (found_more xs)
    where
      first : (a b : Bool) → b ≡ true → (a || b) ≡ true
      first true b is = refl
      first false b is = is

      later : (a b c : Bool) → (b ≡ true → c ≡ true) → (a || b) ≡ true → (a || c) ≡ true
      later true b c more is = refl
      later false b c more is = more is

      by : (r : Ordering) → cmp k x ≡ r → (list_any p xs ≡ true → list_any p (insert_key cmp xs k) ≡ true) → list_any p (insert_key cmp (x ∷ xs) k) ≡ true
      by Less is more = rw is (first (p k) (p x || list_any p xs) h)
      by Equal is more = rw is h
      by Greater is more = rw is (later (p x) (list_any p xs) (list_any p (insert_key cmp xs k)) more h)

  -- and is found itself
  found_itself : p k ≡ true → ((x : K) → cmp k x ≡ Equal → p x ≡ true) → (xs : List K) → list_any p (insert_key cmp xs k) ≡ true
  found_itself own same [] = rw own refl
  found_itself own same (x ∷ xs) = by (cmp k x) refl (found_itself own same xs)
    where
      first : (a b : Bool) → a ≡ true → (a || b) ≡ true
      first true b is = refl
      first false b is = absurd (cc is)

      later : (a b : Bool) → b ≡ true → (a || b) ≡ true
      later true b is = refl
      later false b is = is

      by : (r : Ordering) → cmp k x ≡ r → list_any p (insert_key cmp xs k) ≡ true → list_any p (insert_key cmp (x ∷ xs) k) ≡ true
      by Less is more = rw is (first (p k) (p x || list_any p xs) own)
      by Equal is more = rw is (first (p x) (list_any p xs) (same x is))
      by Greater is more = rw is (later (p x) (list_any p (insert_key cmp xs k)) more)

-- ---- notes

note_itself : (note : Noted) → noted_cmp note note ≡ Equal
note_itself note = rw (tied_itself nat_cmp_total note.node.0, tied_itself nat_cmp_total note.inc, tied_itself bytes_total note.text) refl

at_equal : (note other : Noted) → noted_cmp note other ≡ Equal → is_at (noted_cmp note) other ≡ true
at_equal note other e = rw e refl

key_itself : (at : RequestNo) → request_cmp at at ≡ Equal
key_itself at = rw (tied_itself nat_cmp_total at.link.from.0, tied_itself nat_cmp_total at.link.to.0, tied_itself nat_cmp_total at.number) refl

-- what is told stays so as a request is served, and the note of that request is told
pub more_told : (o : Option Request) (noted : List Noted) (note : Noted) → list_any (is_at (noted_cmp note)) noted ≡ true → list_any (is_at (noted_cmp note)) (with_note_of o noted) ≡ true
more_told None noted note is = is
more_told (Some r) noted note is = by (note_of r)
  where
    by : (o : Option Noted) → list_any (is_at (noted_cmp note)) (with_note o noted) ≡ true
    by None = is
    by (Some new) = found_more noted_cmp (is_at (noted_cmp note)) new noted is

own_told : (r : Request) (noted : List Noted) (note : Noted) → note_of r ≡ Some note → list_any (is_at (noted_cmp note)) (with_note_of (Some r) noted) ≡ true
own_told r noted note is = subst (λ (o : Option Noted). list_any (is_at (noted_cmp note)) (with_note o noted) ≡ true) (sym is) (found_itself noted_cmp (is_at (noted_cmp note)) note (at_equal note note (note_itself note)) (λ x e. at_equal note x e) noted)

-- ---- a transaction

every_told : (tx later : TransactionValue) → ((r : Request) → IsTold tx r → IsTold later r) → (rs : List Request) → Every (IsTold tx) rs → Every (IsTold later) rs
every_told tx later more [] all = tt
every_told tx later more (r ∷ rs) all = (more r all.0, every_told tx later more rs all.1)

-- of which neither requests nor notes change
pub left_told : (tx later : TransactionValue) → later.requests ≡ tx.requests → later.noted ≡ tx.noted → TellsNotes tx → TellsNotes later
left_told tx later requests noted told at = subst (λ (rs : List Request). Every (IsTold later) rs) (ap (λ (rs : List (RequestNo × List Request)). unwrap_or (lookup (is_at (request_cmp at)) rs) []) (sym requests))
    (every_told tx later (λ r its served note is. ap (list_any (is_at (noted_cmp note))) noted ∙ its served note is) (requests_at tx at) (told at))

-- ---- one more request

module _ (tx : TransactionValue) (key : RequestNo) (request : Request) (peer_inc place : ℕ) (unserved : request.served ≡ false) where
  abbrev then_issued : TransactionValue
  then_issued = issued key request peer_inc place tx

  issued_more : (r : Request) → IsTold tx r → IsTold then_issued r
  issued_more r its served note is = its served note is

  issued_fresh : IsTold then_issued request
  issued_fresh served note is = absurd (cc (unserved, served))

  pub issued_told : TellsNotes tx → TellsNotes then_issued
  issued_told told at = by (is_at (request_cmp key) at) refl
    where
      own : Every (IsTold then_issued) (requests_at then_issued key)
      own = subst (λ (o : Option (List Request)). Every (IsTold then_issued) (unwrap_or o [])) (sym (lookup_put request_cmp key (requests_at tx key ++ request ∷ []) (key_itself key) tx.requests))
          (every_append (IsTold then_issued) (requests_at tx key) (request ∷ []) (every_told tx then_issued issued_more (requests_at tx key) (told key)) (issued_fresh, tt))

      by : (b : Bool) → is_at (request_cmp key) at ≡ b → Every (IsTold then_issued) (requests_at then_issued at)
      by true is = subst (λ (k : RequestNo). Every (IsTold then_issued) (requests_at then_issued k)) (request_exact key at is) own
      by false far = subst (λ (o : Option (List Request)). Every (IsTold then_issued) (unwrap_or o [])) (sym (lookup_put_apart request_cmp key (requests_at tx key ++ request ∷ []) (λ k e. request_exact key k (rw e refl)) (is_at (request_cmp at)) (apart far) tx.requests))
          (every_told tx then_issued issued_more (requests_at tx at) (told at))
        where
          apart : is_at (request_cmp key) at ≡ false → is_at (request_cmp at) key ≡ false
          apart off = of (is_at (request_cmp at) key) refl
            where
              of : (b : Bool) → is_at (request_cmp at) key ≡ b → b ≡ false
              of false e = refl
              of true e = absurd (let same : at ≡ key = request_exact at key e in let near : is_at (request_cmp key) at ≡ true = subst (λ (k : RequestNo). is_at (request_cmp key) k ≡ true) (sym same) (rw (key_itself key) refl) in cc (near, off))

-- ---- one is served

module _ (tx : TransactionValue) (key : RequestNo) (member : Member) (inc stamp : ℕ) (done : Bool) where
  abbrev then_served : TransactionValue
  then_served = served_in key member inc stamp done tx

  served_more : (r : Request) → IsTold tx r → IsTold then_served r
  served_more r its served note is = more_told (standing_request tx key member) tx.noted note (its served note is)

  -- the first that stands is marked, and its note is told
  marked_told : (rs : List Request) → ((r : Request) (note : Noted) → find (is_standing member) rs ≡ Some r → note_of r ≡ Some note → has_note then_served note ≡ true) → Every (IsTold tx) rs → Every (IsTold then_served) (mark_served member rs)
  marked_told [] first all = tt
  marked_told (r ∷ rs) first all = by (is_standing member r) refl (marked_told rs)
    where
      by : (b : Bool) → is_standing member r ≡ b
          → (((q : Request) (note : Noted) → find (is_standing member) rs ≡ Some q → note_of q ≡ Some note → has_note then_served note ≡ true) → Every (IsTold tx) rs → Every (IsTold then_served) (mark_served member rs))
          → Every (IsTold then_served) (mark_served member (r ∷ rs))
      by true is more = subst (λ (b : Bool). Every (IsTold then_served) (if b then record r { served = true } ∷ rs else r ∷ mark_served member rs)) (sym is)
          ((λ served note its. first r note (rw is refl) its), every_told tx then_served served_more rs all.1)
      by false is more = subst (λ (b : Bool). Every (IsTold then_served) (if b then record r { served = true } ∷ rs else r ∷ mark_served member rs)) (sym is)
          (served_more r all.0, more (λ q note found its. first q note (rw is found) its) all.1)

  pub served_told : TellsNotes tx → TellsNotes then_served
  served_told told at = by (is_at (request_cmp key) at) refl
    where
      first : (r : Request) (note : Noted) → find (is_standing member) (requests_at tx key) ≡ Some r → note_of r ≡ Some note → has_note then_served note ≡ true
      first r note stands its = subst (λ (o : Option Request). list_any (is_at (noted_cmp note)) (with_note_of o tx.noted) ≡ true) (sym stands) (own_told r tx.noted note its)

      of : (o : Option (List Request)) → lookup (is_at (request_cmp key)) tx.requests ≡ o → Every (IsTold then_served) (unwrap_or (lookup (is_at (request_cmp key)) (changed_value (is_at (request_cmp key)) (mark_served member) tx.requests)) [])
      of None none = subst (λ (o : Option (List Request)). Every (IsTold then_served) (unwrap_or o [])) (sym (changed_none (is_at (request_cmp key)) (mark_served member) tx.requests none)) tt
      of (Some rs) found = subst (λ (o : Option (List Request)). Every (IsTold then_served) (unwrap_or o [])) (sym (lookup_changed (is_at (request_cmp key)) (mark_served member) tx.requests rs found))
          (marked_told rs (subst (λ (qs : List Request). (r : Request) (note : Noted) → find (is_standing member) qs ≡ Some r → note_of r ≡ Some note → has_note then_served note ≡ true) (ap (λ (o : Option (List Request)). unwrap_or o []) found) first)
          (subst (λ (o : Option (List Request)). Every (IsTold tx) (unwrap_or o [])) found (told key)))

      by : (b : Bool) → is_at (request_cmp key) at ≡ b → Every (IsTold then_served) (requests_at then_served at)
      by true is = subst (λ (k : RequestNo). Every (IsTold then_served) (requests_at then_served k)) (request_exact key at is) (of (lookup (is_at (request_cmp key)) tx.requests) refl)
      by false far = subst (λ (o : Option (List Request)). Every (IsTold then_served) (unwrap_or o []))
          (sym (changed_apart (is_at (request_cmp key)) (is_at (request_cmp at)) (λ k is. subst (λ (x : RequestNo). is_at (request_cmp key) x ≡ false) (request_exact at k is) far) (mark_served member) tx.requests))
          (every_told tx then_served served_more (requests_at tx at) (told at))

-- ---- an entry

module _ (tid : Tid) (book : BookValue) where
  gives : (t : Tid) (f : TransactionValue → TransactionValue) → ((tx : TransactionValue) → TellsNotes tx → TellsNotes (f tx)) → Gives tid TellsNotes TellsNotes book t f
  gives t f keeps = record { own = λ same tx found p. keeps tx p; other = λ apart tx p. p }

  plainly : (t : Tid) (f : TransactionValue → TransactionValue) → ((tx : TransactionValue) → ((f tx).requests ≡ tx.requests) × ((f tx).noted ≡ tx.noted)) → Gives tid TellsNotes TellsNotes book t f
  plainly t f same = gives t f (λ tx p. left_told tx (f tx) (same tx).0 (same tx).1 p)

  plainly_for : (t : Tid) (f : Member → TransactionValue → TransactionValue) → ((other : Member) (tx : TransactionValue) → ((f other tx).requests ≡ tx.requests) × ((f other tx).noted ≡ tx.noted)) → (o : Option Member) → GivesFor tid TellsNotes TellsNotes book t f o
  plainly_for t f same None = λ tx p. p
  plainly_for t f same (Some other) = plainly t (f other) (same other)

  obliged : (stamp here : ℕ) (act : Act) → Obliged tid TellsNotes TellsNotes book stamp here act
  obliged stamp here (acts.Begin t label client) = λ tx p. p
  obliged stamp here (acts.Issue t issuer other n op) = gives t _
      (λ tx p. issued_told tx (record { link = link_to here other; number = n }) (record { issuer = issuer; member = other; op = op; inc = inc_at book (record { 0 = here }); served = false }) (inc_at book other.node) book.place refl p)
  obliged stamp here (acts.Serve t other from n reply) = gives t _ (λ tx p. served_told tx (record { link = record { from = from; to = other.node }; number = n }) other (inc_at book (record { 0 = here })) stamp (is_done reply) p)
  obliged stamp here (acts.Vote t other ballot covers) = plainly t _ (λ tx. (refl, refl))
  obliged stamp here (acts.Ask t) = plainly t _ (λ tx. (refl, refl))
  obliged stamp here (acts.Counted t peer up_to) = plainly t _ (λ tx. (refl, refl))
  obliged stamp here (acts.Decide t outcome cause) = plainly t _ (λ tx. (refl, refl))
  obliged stamp here (acts.Ending t other) = plainly t _ (λ tx. (refl, refl))
  obliged stamp here (acts.Learn t other outcomes.Commit) = plainly t _ (λ tx. (refl, refl))
  obliged stamp here (acts.Learn t other outcomes.Abort) = plainly t _ (λ tx. (refl, refl))
  obliged stamp here (acts.Answer client line said) = ((λ node inc tx p. left_told tx (heard node inc tx) refl refl p), (λ tx p. p))
  obliged stamp here (acts.Loan t client) = plainly_for t _ (λ other tx. (refl, refl)) (borrower_at client here)
  obliged stamp here (acts.Yield t client) = plainly_for t _ (λ other tx. (refl, refl)) (borrower_at client here)
  obliged stamp here acts.Tick = λ tx p. p
  obliged stamp here (acts.Crash cause) = λ tx p. p
  obliged stamp here (acts.Restart inc pend done) = (record { learnt = λ member tx p. left_told tx (with_learnt member tx) refl refl p; decided = λ place outcome cause tx p. left_told tx (decided_at place outcome cause tx) refl refl p; found = λ server covers changes tx p. left_told tx (found_at (member_at here server) inc covers changes tx) refl refl p }, λ tx p. p)

abbrev pub AllTold : BookValue → Type 0
AllTold book = (tid : Tid) (tx : TransactionValue) → find_transaction book tid ≡ Some tx → TellsNotes tx

pub entries_told : (entries : List Entry) (book : BookValue) → LastsWell book → IsLawful book entries → AllTold book → AllTold (book_after book entries)
entries_told [] book w lawful all = all
entries_told (entry ∷ entries) book w lawful all = entries_told entries (effect book entry) (lasts_on book entry w lawful.0) lawful.1
    (λ tid. step_here tid TellsNotes TellsNotes book entry w.inv lawful.0 (obliged tid book entry.stamp entry.node.0 entry.act) (λ label client ticks is at. tt) (all tid))

empty_told : (tx : TransactionValue) → IsEmptyYet tx → TellsNotes tx
empty_told tx e at = subst (λ (rs : List (RequestNo × List Request)). Every (IsTold tx) (unwrap_or (lookup (is_at (request_cmp at)) rs) [])) (sym e.requests) tt

pub each_run_tells : EachRunTellsNotes
each_run_tells o entries opens lawful = entries_told entries _ (lasts_now o (start o) opens tt) lawful (λ tid tx found. empty_told tx (opening_empty (opened_from o 0 o.size) tid tx found))
