-- A request that a node serves to itself stands no more as it takes the reply; and what is told stays so.
use Rattle.std.proofs.Common.{◌≡◌, ◌∙◌, ℕ, ◌≤◌, Bool, true, false, List, [], ◌∷◌, Option, Some, None, suc, refl, sym, ap, inl, inr, arith}
use Rattle.std.specs.BTreeMap.{insert_entry, is_at}
use Rattle.std.specs.List.{filter, find, list_any}
use Rattle.std.specs.Map.{lookup}
use Rattle.std.specs.Prelude.{⊤, ◌⊎◌, is_some, length, slice_get, unwrap_or}
use Rattle.qs_base.proofs.Same.{same_tid-self}
use Rattle.qs_base.specs.Order.{member_cmp, same_member, same_tid}
use Rattle.qs_base.specs.declared.identifiers.ClientNo.{ClientNo}
use Rattle.qs_base.specs.declared.identifiers.Member.{Member}
use Rattle.qs_base.specs.declared.identifiers.NodeNo.{NodeNo}
use Rattle.qs_base.specs.declared.identifiers.Outcome.TheVariants as outcomes
use Rattle.qs_base.specs.declared.identifiers.Tid.{Tid}
use Rattle.qs_base_lemmas.proofs.Tests.{and_false}
use Rattle.qs_book_journal.specs.declared.entry.Act.{Act}
use Rattle.qs_book_journal.specs.declared.entry.Act.TheVariants as acts
use Rattle.qs_book_journal.specs.declared.entry.Entry.{Entry}
use Rattle.qs_book_laws.proofs.Maps.{changed_none, lookup_changed, put_known}
use Rattle.qs_book_laws.proofs.Outcomes.{Inv}
use Rattle.qs_book_laws.proofs.Steps.{held}
use Rattle.qs_book_laws.proofs.Turns.{Gives, GivesFor, Obliged, Stands, step_turns}
use Rattle.qs_book_machine.specs.Book.{BookValue, find_transaction, inc_at, is_done}
use Rattle.qs_book_machine.specs.Clauses.{borrower_at, broken_serve, link_to, note_text}
use Rattle.qs_book_machine.specs.Lawful.{broken, broken_act, broken_at, effect, is_in_order}
use Rattle.qs_book_machine.specs.Nodes as machine
use Rattle.qs_book_machine.specs.Restart.{member_at}
use Rattle.qs_book_machine.specs.Transaction.{TransactionValue, changed_value, crossed_by, decided_at, found_at, heard, is_crossed, is_standing, issued, lent, mark_served, noted_cmp, request_cmp, requests_at, served_in, standing_request, with_learnt}
use Rattle.qs_book_machine.specs.declared.transaction.Request.{Request}
use Rattle.qs_book_machine.specs.declared.transaction.RequestNo.{RequestNo}
use Rattle.qs_ops.specs.declared.reply.Reply.{Reply}
use Rattle.qs_node_step.specs.declared.setting.Setting.{Setting}
use Rattle.qs_world.specs.Posting.{entry_of}
use Rattle.qs_world_lawful.proofs.LastsWell.{LastsWell}
use Rattle.qs_world_lawful.specs.Parcels.{way_between}
use Rattle.qs_world_filed.specs.Replied.{IsToldOf, StandsNoMore}
use Rattle.qs_world_filed.proofs.NotesTold.{more_told}

-- ---- of the requests under a number, as qs_world_runs has it for itself (RepliesServed)

module _ (member : Member) where
  none_left : (rs : List Request) → length (filter (is_standing member) rs) ≤ 1 → find (is_standing member) (mark_served member rs) ≡ None
  none_left [] few = refl
  none_left (r ∷ rs) few = by (is_standing member r) refl (none_left rs)
    where
      no_more : (a : ℕ) → suc a ≤ 1 → a ≡ 0
      no_more a h = omega arith

      empty : (xs : List Request) → length xs ≡ 0 → xs ≡ []
      empty [] e = refl
      empty (x ∷ xs) e = absurd (cc e)

      none_in : (xs : List Request) → filter (is_standing member) xs ≡ [] → find (is_standing member) xs ≡ None
      none_in [] e = refl
      none_in (x ∷ xs) e = of (is_standing member x) refl (none_in xs)
        where
          of : (b : Bool) → is_standing member x ≡ b → (filter (is_standing member) xs ≡ [] → find (is_standing member) xs ≡ None) → find (is_standing member) (x ∷ xs) ≡ None
          of true is more = absurd (cc (rw is at e))
          of false is more = rw is (more (rw is at e))

      by : (b : Bool) → is_standing member r ≡ b → (length (filter (is_standing member) rs) ≤ 1 → find (is_standing member) (mark_served member rs) ≡ None) → find (is_standing member) (mark_served member (r ∷ rs)) ≡ None
      by true is more = let served : is_standing member (record r { served = true }) ≡ false = and_false (same_member r.member member) in
          let last : suc (length (filter (is_standing member) rs)) ≤ 1 = rw is at few in
          rw is (rw served (none_in rs (empty (filter (is_standing member) rs) (no_more (length (filter (is_standing member) rs)) last))))
      by false is more = rw is (rw is (more (rw is at few)))

module _ (tx : TransactionValue) (at : RequestNo) (member : Member) (inc stamp : ℕ) (done : Bool) where
  abbrev later : TransactionValue
  later = served_in at member inc stamp done tx

  marked : requests_at later at ≡ mark_served member (requests_at tx at)
  marked = of (lookup (is_at (request_cmp at)) tx.requests) refl
    where
      of : (o : Option (List Request)) → lookup (is_at (request_cmp at)) tx.requests ≡ o → unwrap_or (lookup (is_at (request_cmp at)) (changed_value (is_at (request_cmp at)) (mark_served member) tx.requests)) [] ≡ mark_served member (unwrap_or (lookup (is_at (request_cmp at)) tx.requests) [])
      of None is = ap (λ (o : Option (List Request)). unwrap_or o []) (changed_none (is_at (request_cmp at)) (mark_served member) tx.requests is) ∙ sym (ap (λ (o : Option (List Request)). mark_served member (unwrap_or o [])) is)
      of (Some rs) is = ap (λ (o : Option (List Request)). unwrap_or o []) (lookup_changed (is_at (request_cmp at)) (mark_served member) tx.requests rs is) ∙ sym (ap (λ (o : Option (List Request)). mark_served member (unwrap_or o [])) is)

  none_stands : (is_crossed tx member ≡ false → length (filter (is_standing member) (requests_at tx at)) ≤ 1) → (is_crossed later member ≡ true) ⊎ (standing_request later at member ≡ None)
  none_stands once = by (is_crossed tx member) refl
    where
      by : (b : Bool) → is_crossed tx member ≡ b → (is_crossed later member ≡ true) ⊎ (standing_request later at member ≡ None)
      by true is = inl is
      by false is = inr (ap (find (is_standing member)) marked ∙ none_left member (requests_at tx at) (once is))

-- ---- a lawful serve

serve_known : (book : BookValue) (n stamp : ℕ) (tid : Tid) (member : Member) (from : NodeNo) (number : ℕ) (reply : Reply) → broken book (entry_of n stamp (acts.Serve tid member from number reply)) ≡ None → Stands tid (λ tx. ⊤) book
serve_known book n stamp tid member from number reply h = by (slice_get book.nodes n) (held (is_in_order book (entry_of n stamp (acts.Serve tid member from number reply))) 1 _ h).1
  where
    of : (v : machine.NodeValue) (o : Option TransactionValue) → find_transaction book tid ≡ o → broken_serve n v book.transactions tid o member from.0 number reply ≡ None → Stands tid (λ tx. ⊤) book
    of v None none k = absurd (cc k)
    of v (Some tx) found k = record { tx = tx; found = found; holds = tt }

    by : (o : Option machine.NodeValue) → broken_at book stamp n o (acts.Serve tid member from number reply) ≡ None → Stands tid (λ tx. ⊤) book
    by None k = absurd (cc k)
    by (Some v) k = of v (find_transaction book tid) refl (held v.up 2 (broken_act book stamp n v (acts.Serve tid member from number reply)) k).1

far_off : (tid : Tid) → same_tid tid tid ≡ false → ⊥
far_off tid apart = let on : same_tid tid tid ≡ true = same_tid-self tid in cc (on, apart)

pub serve_ends : (book : BookValue) (n stamp : ℕ) (tid : Tid) (member : Member) (from : NodeNo) (number : ℕ) (reply : Reply) → LastsWell book → broken book (entry_of n stamp (acts.Serve tid member from number reply)) ≡ None
    → Stands tid (StandsNoMore from.0 member number) (effect book (entry_of n stamp (acts.Serve tid member from number reply)))
serve_ends book n stamp tid member from number reply well fine = step_turns tid (λ tx. ⊤) (StandsNoMore from.0 member number) book (entry_of n stamp (acts.Serve tid member from number reply)) well.inv fine
    (record { own = λ same tx found p. none_stands tx (way_between from.0 member.node.0 number) member (inc_at book (record { 0 = n })) stamp (is_done reply) ((well.waits tid tx found).once member (way_between from.0 member.node.0 number)); other = λ apart tx p. absurd (far_off tid apart) })
    (serve_known book n stamp tid member from number reply fine)

-- a loan leaves it
pub loan_leaves : (book : BookValue) (n stamp : ℕ) (tid t : Tid) (client : ClientNo) (m : ℕ) (member : Member) (number : ℕ) → Inv book → broken book (entry_of n stamp (acts.Loan t client)) ≡ None → Stands tid (StandsNoMore m member number) book
    → Stands tid (StandsNoMore m member number) (effect book (entry_of n stamp (acts.Loan t client)))
loan_leaves book n stamp tid t client m member number i fine s =
    step_turns tid (StandsNoMore m member number) (StandsNoMore m member number) book (entry_of n stamp (acts.Loan t client)) i fine (lends (λ other. lent other (inc_at book (record { 0 = n }))) (λ other tx p. p) (borrower_at client n)) s
  where
    lends : (f : Member → TransactionValue → TransactionValue) → ((other : Member) (tx : TransactionValue) → StandsNoMore m member number tx → StandsNoMore m member number (f other tx)) → (o : Option Member) → GivesFor tid (StandsNoMore m member number) (StandsNoMore m member number) book t f o
    lends f keeps None = λ tx p. p
    lends f keeps (Some other) = record { own = λ same tx found p. keeps other tx p; other = λ apart tx p. p }

-- ---- what is told stays so

module _ (setting : Setting) (tid : Tid) (count : ℕ) where
  abbrev P : TransactionValue → Type 0
  P tx = IsToldOf setting tid count tx

  left : (tx new : TransactionValue) → new.noted ≡ tx.noted → new.crossed ≡ tx.crossed → P tx → P new
  left tx new noted crossed (inl is) = inl (ap (list_any (is_at (noted_cmp (record { node = setting.node; inc = setting.inc; text = note_text tid setting.node.0 count })))) noted ∙ is)
  left tx new noted crossed (inr (member, (of, is))) = inr (member, (of, ap (λ (xs : List (Member × ℕ)). is_some (lookup (is_at (member_cmp member)) xs)) crossed ∙ is))

  -- a crossed member stays so, as qs_world_runs has it for itself (RepliesEntries)
  crossed_more : (o : Option Request) (place : ℕ) (member m : Member) (xs : List (Member × ℕ)) → is_some (lookup (is_at (member_cmp m)) xs) ≡ true → is_some (lookup (is_at (member_cmp m)) (crossed_by o place member xs)) ≡ true
  crossed_more None place member m xs is = is
  crossed_more (Some earlier) place member m xs is = by (lookup (is_at (member_cmp member)) xs)
    where
      by : (o : Option ℕ) → is_some (lookup (is_at (member_cmp m)) (elim o [ Some first ↦ xs | None ↦ insert_entry member_cmp xs member place ])) ≡ true
      by (Some first) = is
      by None = put_known member_cmp member place (is_at (member_cmp m)) xs is

  issued_on : (key : RequestNo) (request : Request) (peer_inc place : ℕ) (tx : TransactionValue) → P tx → P (issued key request peer_inc place tx)
  issued_on key request peer_inc place tx (inl is) = inl is
  issued_on key request peer_inc place tx (inr (member, (of, is))) = inr (member, (of, crossed_more (standing_request tx key request.member) place request.member member tx.crossed is))

  served_on : (key : RequestNo) (member : Member) (inc stamp : ℕ) (done : Bool) (tx : TransactionValue) → P tx → P (served_in key member inc stamp done tx)
  served_on key member inc stamp done tx (inl is) = inl (more_told (standing_request tx key member) tx.noted (record { node = setting.node; inc = setting.inc; text = note_text tid setting.node.0 count }) is)
  served_on key member inc stamp done tx (inr crossed) = inr crossed

  module _ (book : BookValue) where
    gives : (t : Tid) (g : TransactionValue → TransactionValue) → ((tx : TransactionValue) → P tx → P (g tx)) → Gives tid P P book t g
    gives t g keeps = record { own = λ same tx found p. keeps tx p; other = λ apart tx p. p }

    plainly : (t : Tid) (g : TransactionValue → TransactionValue) → ((tx : TransactionValue) → ((g tx).noted ≡ tx.noted) × ((g tx).crossed ≡ tx.crossed)) → Gives tid P P book t g
    plainly t g same = gives t g (λ tx p. left tx (g tx) (same tx).0 (same tx).1 p)

    plainly_for : (t : Tid) (g : Member → TransactionValue → TransactionValue) → ((other : Member) (tx : TransactionValue) → ((g other tx).noted ≡ tx.noted) × ((g other tx).crossed ≡ tx.crossed)) → (o : Option Member) → GivesFor tid P P book t g o
    plainly_for t g same None = λ tx p. p
    plainly_for t g same (Some other) = plainly t (g other) (same other)

    obliged : (stamp here : ℕ) (act : Act) → Obliged tid P P book stamp here act
    obliged stamp here (acts.Begin t label client) = λ tx p. p
    obliged stamp here (acts.Issue t issuer other n op) = gives t _
        (issued_on (record { link = link_to here other; number = n }) (record { issuer = issuer; member = other; op = op; inc = inc_at book (record { 0 = here }); served = false }) (inc_at book other.node) book.place)
    obliged stamp here (acts.Serve t other from n reply) = gives t _ (served_on (record { link = record { from = from; to = other.node }; number = n }) other (inc_at book (record { 0 = here })) stamp (is_done reply))
    obliged stamp here (acts.Vote t other ballot covers) = plainly t _ (λ tx. (refl, refl))
    obliged stamp here (acts.Ask t) = plainly t _ (λ tx. (refl, refl))
    obliged stamp here (acts.Counted t peer up_to) = plainly t _ (λ tx. (refl, refl))
    obliged stamp here (acts.Decide t outcome cause) = plainly t _ (λ tx. (refl, refl))
    obliged stamp here (acts.Ending t other) = plainly t _ (λ tx. (refl, refl))
    obliged stamp here (acts.Learn t other outcomes.Commit) = plainly t _ (λ tx. (refl, refl))
    obliged stamp here (acts.Learn t other outcomes.Abort) = plainly t _ (λ tx. (refl, refl))
    obliged stamp here (acts.Answer client line said) = ((λ node inc tx p. left tx (heard node inc tx) refl refl p), (λ tx p. p))
    obliged stamp here (acts.Loan t client) = plainly_for t _ (λ other tx. (refl, refl)) (borrower_at client here)
    obliged stamp here (acts.Yield t client) = plainly_for t _ (λ other tx. (refl, refl)) (borrower_at client here)
    obliged stamp here acts.Tick = λ tx p. p
    obliged stamp here (acts.Crash cause) = λ tx p. p
    obliged stamp here (acts.Restart inc pend done) = (
      record {
        learnt = λ member tx p. left tx (with_learnt member tx) refl refl p;
        decided = λ place outcome cause tx p. left tx (decided_at place outcome cause tx) refl refl p;
        found = λ server covers changes tx p. left tx (found_at (member_at here server) inc covers changes tx) refl refl p;
      },
      λ tx p. p,
    )

  pub told_stays : (book : BookValue) (entry : Entry) → Inv book → broken book entry ≡ None → Stands tid P book → Stands tid P (effect book entry)
  told_stays book entry i fine s = step_turns tid P P book entry i fine (obliged book entry.stamp entry.node.0 entry.act) s
