-- What stands after a step at another node, and did not before, was issued in the step.
use Rattle.qs_world_runs.proofs.Words.{◌≡◌, ◌⊎◌, inl, inr, ℕ, not, Bool, true, false, List, [], ◌∷◌, ◌++◌, Option, Some, None, is_some, refl, sym, ap, subst, ◌∙◌, is_at, find, lookup, slice_get, unwrap_or, same_member-true, same_member, Member, NodeNo, Tid, Act, Inv, ran, BookValue, find_transaction, inc_at, with_transaction, link_to, book_after, broken, effect, TransactionValue, is_standing, issued, request_cmp, requests_at, standing_request, Request, RequestNo, Op, Reply, entries_of}
use Rattle.qs_world_runs.proofs.Words.{entry_of, IsOfStep, Every, same_or_apart, Begins, turned_by, Among, some_same, and_first}
use Rattle.qs_book_journal.specs.declared.entry.Act.TheVariants as acts
use Rattle.qs_book_laws.proofs.Holding.{crossing_transactions, waiting_transactions}
use Rattle.qs_book_laws.proofs.Maps.{lookup_put}
use Rattle.qs_book_machine.specs.Book.{is_done, ticks_at, with_waiting}
use Rattle.qs_book_machine.specs.Lawful.{IsLawful, effect_act}
use Rattle.qs_book_machine.specs.Transaction.{begun, served_in}
use Rattle.qs_world_lawful.proofs.Apart.{Apart}
use Rattle.qs_world_lawful.proofs.EntryTurns.{begins}
use Rattle.qs_world_lawful.proofs.Turning.{Turned, stood}
use Rattle.qs_world_runs.proofs.PlacedIssued.{stood_or_new, stood_served}
use Rattle.qs_world_runs.proofs.PlacedTx.{request_self}
use Rattle.qs_world_runs.proofs.RequestsLeft.{LeavesRequests, requests_left}

-- the act issues it
pub record IsIssue (tid : Tid) (at : RequestNo) (member : Member) (act : Act) : Type 0 where
  pub issuer : Member
  pub op : Op
  pub act_is : act ≡ acts.Issue tid issuer member at.number op
  pub to : at.link.to ≡ member.node

-- what stands then stood, or the act issues it
abbrev Stood : Act → Tid → TransactionValue → TransactionValue → Type 0
Stood act tid tx later = (at : RequestNo) (member : Member) → is_some (standing_request later at member) ≡ true → IsIssue tid at member act ⊎ (is_some (standing_request tx at member) ≡ true)

stood_self : (act : Act) (tid : Tid) (tx : TransactionValue) → Stood act tid tx tx
stood_self act tid tx at member stands = inr stands

-- one more behind those under its number
stood_behind : (member : Member) (rs : List Request) (r : Request) → is_some (find (is_standing member) (rs ++ r ∷ [])) ≡ true → (r.member ≡ member) ⊎ (is_some (find (is_standing member) rs) ≡ true)
stood_behind member [] r stands = by (is_standing member r) refl stands
  where
    by : (b : Bool) → is_standing member r ≡ b → is_some (find (is_standing member) (r ∷ [])) ≡ true → (r.member ≡ member) ⊎ (is_some (find (is_standing member) []) ≡ true)
    by true is s = inl (same_member-true r.member member (and_first (same_member r.member member) (not r.served) is))
    by false is s = absurd (cc (rw is at s))
stood_behind member (x ∷ rs) r stands = by (is_standing member x) refl stands (stood_behind member rs r)
  where
    by : (b : Bool) → is_standing member x ≡ b → is_some (find (is_standing member) (x ∷ (rs ++ r ∷ []))) ≡ true
        → (is_some (find (is_standing member) (rs ++ r ∷ [])) ≡ true → (r.member ≡ member) ⊎ (is_some (find (is_standing member) rs) ≡ true)) → (r.member ≡ member) ⊎ (is_some (find (is_standing member) (x ∷ rs)) ≡ true)
    by true is s more = inr (rw is refl)
    by false is s more = rw is (more (rw is at s))

module _ (stamp n : ℕ) (book : BookValue) where
  abbrev After : Act → BookValue
  After act = effect_act stamp n act book

  of_issue : (t : Tid) (issuer member : Member) (number : ℕ) (op : Op) → Turned (Stood (acts.Issue t issuer member number op)) book (After (acts.Issue t issuer member number op))
  of_issue t issuer member number op = turned_by (Stood (acts.Issue t issuer member number op)) (stood_self (acts.Issue t issuer member number op)) t (issued own request (inc_at book member.node) book.place) book (After (acts.Issue t issuer member number op))
      (crossing_transactions _ t member (with_waiting t issuer member one) ∙ waiting_transactions t issuer member one) (λ tx found at m stands. by tx at m (stood_or_new tx own request (inc_at book member.node) book.place at m stands) stands)
    where
      own : RequestNo
      own = record { link = link_to n member; number = number }

      request : Request
      request = record { issuer = issuer; member = member; op = op; inc = inc_at book (record { 0 = n }); served = false }

      one : BookValue
      one = with_transaction t (issued own request (inc_at book member.node) book.place) book

      Result : RequestNo → TransactionValue → Member → Type 0
      Result at tx m = IsIssue t at m (acts.Issue t issuer member number op) ⊎ (is_some (standing_request tx at m) ≡ true)

      of_member : (m : Member) → member ≡ m → IsIssue t own m (acts.Issue t issuer member number op)
      of_member m same = subst (λ (x : Member). IsIssue t own x (acts.Issue t issuer member number op)) same (record { issuer = issuer; op = op; act_is = refl; to = refl })

      at_own : (tx : TransactionValue) (m : Member) → is_some (standing_request (issued own request (inc_at book member.node) book.place tx) own m) ≡ true → Result own tx m
      at_own tx m stands = pick (stood_behind m (requests_at tx own) request
          (subst (λ (o : Option (List Request)). is_some (find (is_standing m) (unwrap_or o [])) ≡ true) (lookup_put request_cmp own (requests_at tx own ++ request ∷ []) (request_self own) tx.requests) stands))
        where
          pick : (member ≡ m) ⊎ (is_some (find (is_standing m) (requests_at tx own)) ≡ true) → Result own tx m
          pick (inl same) = inl (of_member m same)
          pick (inr was) = inr was

      by : (tx : TransactionValue) (at : RequestNo) (m : Member) → (at ≡ own) ⊎ (is_some (standing_request tx at m) ≡ true) → is_some (standing_request (issued own request (inc_at book member.node) book.place tx) at m) ≡ true → Result at tx m
      by tx at m (inr was) stands = inr was
      by tx at m (inl same) stands = subst (λ (k : RequestNo). Result k tx m) (sym same) (at_own tx m (subst (λ (k : RequestNo). is_some (standing_request (issued own request (inc_at book member.node) book.place tx) k m) ≡ true) same stands))

  of_serve : (t : Tid) (member : Member) (from : NodeNo) (number : ℕ) (reply : Reply) → Turned (Stood (acts.Serve t member from number reply)) book (After (acts.Serve t member from number reply))
  of_serve t member from number reply = turned_by (Stood (acts.Serve t member from number reply)) (stood_self (acts.Serve t member from number reply)) t (served_in key member (inc_at book (record { 0 = n })) stamp (is_done reply)) book (After (acts.Serve t member from number reply)) refl
      (λ tx found at m stands. inr (stood_served tx key member (inc_at book (record { 0 = n })) stamp (is_done reply) at m stands))
    where
      key : RequestNo
      key = record { link = record { from = from; to = member.node }; number = number }

  of_left : (act : Act) → LeavesRequests act → Turned (Stood act) book (After act)
  of_left act leaves = let t = requests_left stamp n book act leaves in record {
    none = t.none;
    goes = λ tid tx found. let p = t.goes tid tx found in (p.0, p.1, λ at member stands. inr (subst (λ (rs : List (RequestNo × List Request)). is_some (find (is_standing member) (unwrap_or (lookup (is_at (request_cmp at)) rs) [])) ≡ true) p.2 stands));
  }

-- ---- one entry of a step

-- it stands in the machine
pub record StandsIn (book : BookValue) (tid : Tid) (at : RequestNo) (member : Member) : Type 0 where
  pub tx : TransactionValue
  pub found : find_transaction book tid ≡ Some tx
  pub stands : is_some (standing_request tx at member) ≡ true

module _ (stamp n : ℕ) (book : BookValue) (i : Inv book) (tid : Tid) (at : RequestNo) (member : Member) where
  abbrev Before : Act → Type 0
  Before act = IsIssue tid at member act ⊎ StandsIn book tid at member

  by_turned : (act : Act) → Turned (Stood act) book (effect_act stamp n act book) → StandsIn (effect book (entry_of n stamp act)) tid at member → Before act
  by_turned act t s = let p = stood (Stood act) book (effect_act stamp n act book) t tid s.tx s.found in pick p.0 p.1 (p.2 at member s.stands)
    where
      pick : (tx : TransactionValue) → find_transaction book tid ≡ Some tx → IsIssue tid at member act ⊎ (is_some (standing_request tx at member) ≡ true) → Before act
      pick tx found (inl issue) = inl issue
      pick tx found (inr stands) = inr (record { tx = tx; found = found; stands = stands })

  by_begun : (act : Act) → Begins book (entry_of n stamp act) → StandsIn (effect book (entry_of n stamp act)) tid at member → Before act
  by_begun act b s = pick (same_or_apart b.tid tid)
    where
      pick : (b.tid ≡ tid) ⊎ Apart b.tid tid → Before act
      pick (inl same) = absurd (let none : is_some (standing_request (begun b.label b.client (ticks_at (slice_get book.nodes n))) at member) ≡ true = subst (λ (tx : TransactionValue). is_some (standing_request tx at member) ≡ true)
          (some_same (sym s.found ∙ (ap (find_transaction (effect book (entry_of n stamp act))) (sym same) ∙ b.stands))) s.stands in cc none)
      pick (inr apart) = inr (record { tx = s.tx; found = sym (b.others tid apart) ∙ s.found; stands = s.stands })

  by_act : (act : Act) → IsOfStep act → broken book (entry_of n stamp act) ≡ None → StandsIn (effect book (entry_of n stamp act)) tid at member → Before act
  by_act (acts.Begin t label client) of h = by_begun (acts.Begin t label client) (begins book (entry_of n stamp (acts.Begin t label client)) i h t label client refl)
  by_act (acts.Issue t issuer m number op) of h = by_turned (acts.Issue t issuer m number op) (of_issue stamp n book t issuer m number op)
  by_act (acts.Serve t m from number reply) of h = by_turned (acts.Serve t m from number reply) (of_serve stamp n book t m from number reply)
  by_act (acts.Restart inc pend done) of h = absurd of
  by_act (acts.Vote t m ballot covers) of h = by_turned (acts.Vote t m ballot covers) (of_left stamp n book (acts.Vote t m ballot covers) tt)
  by_act (acts.Ask t) of h = by_turned (acts.Ask t) (of_left stamp n book (acts.Ask t) tt)
  by_act (acts.Counted t peer up_to) of h = by_turned (acts.Counted t peer up_to) (of_left stamp n book (acts.Counted t peer up_to) tt)
  by_act (acts.Decide t outcome cause) of h = by_turned (acts.Decide t outcome cause) (of_left stamp n book (acts.Decide t outcome cause) tt)
  by_act (acts.Ending t m) of h = by_turned (acts.Ending t m) (of_left stamp n book (acts.Ending t m) tt)
  by_act (acts.Learn t m outcome) of h = by_turned (acts.Learn t m outcome) (of_left stamp n book (acts.Learn t m outcome) tt)
  by_act (acts.Answer client line said) of h = by_turned (acts.Answer client line said) (of_left stamp n book (acts.Answer client line said) tt)
  by_act (acts.Loan t client) of h = by_turned (acts.Loan t client) (of_left stamp n book (acts.Loan t client) tt)
  by_act (acts.Yield t client) of h = by_turned (acts.Yield t client) (of_left stamp n book (acts.Yield t client) tt)
  by_act acts.Tick of h = by_turned acts.Tick (of_left stamp n book acts.Tick tt)
  by_act (acts.Crash cause) of h = by_turned (acts.Crash cause) (of_left stamp n book (acts.Crash cause) tt)

-- ---- all of them

-- one of them issues it
pub record IsIssuedIn (tid : Tid) (at : RequestNo) (member : Member) (list : List Act) : Type 0 where
  pub issuer : Member
  pub op : Op
  pub among : Among (acts.Issue tid issuer member at.number op) list
  pub to : at.link.to ≡ member.node

pub issued_or_stood : (stamp n : ℕ) (tid : Tid) (at : RequestNo) (member : Member) (list : List Act) (book : BookValue) → Inv book → Every IsOfStep list → IsLawful book (entries_of n stamp list) → StandsIn (book_after book (entries_of n stamp list)) tid at member
    → IsIssuedIn tid at member list ⊎ StandsIn book tid at member
issued_or_stood stamp n tid at member [] book i of lawful s = inr s
issued_or_stood stamp n tid at member (act ∷ list) book i of lawful s = later (issued_or_stood stamp n tid at member list (effect book (entry_of n stamp act)) (ran (entry_of n stamp act ∷ []) book i (lawful.0, tt)).inv of.1 lawful.1 s)
  where
    first : IsIssue tid at member act ⊎ StandsIn book tid at member → IsIssuedIn tid at member (act ∷ list) ⊎ StandsIn book tid at member
    first (inl issue) = inl (record { issuer = issue.issuer; op = issue.op; among = inl (sym issue.act_is); to = issue.to })
    first (inr stands) = inr stands

    later : IsIssuedIn tid at member list ⊎ StandsIn (effect book (entry_of n stamp act)) tid at member → IsIssuedIn tid at member (act ∷ list) ⊎ StandsIn book tid at member
    later (inl issue) = inl (record { issuer = issue.issuer; op = issue.op; among = inr issue.among; to = issue.to })
    later (inr stands) = first (by_act stamp n book i tid at member act of.0 lawful.0 stands)
